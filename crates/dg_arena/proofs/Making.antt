-- What calls that make something leave of an arena.
use Rattle.std.proofs.Common.{◌≡◌, ℕ, zero, suc, true, ◌+◌, ◌-◌, ◌*◌, ◌<◌, ◌≤◌, List, [], ◌∷◌, ◌++◌, Bool, refl, sym, ap, ◌∙◌, subst, arith, Some, false, length, length-append, append-nil, append_assoc, reverse, All}
use Rattle.std.specs.Prelude.{◌&&◌}
use Rattle.dg_meaning.specs.Values.{Value, Var, Node, Unknown, Closure, leaf, pair}
use Rattle.dg_unify.specs.Store.{State, Saved, Store, told, told_parts, IsTold, Kept, Fresh, Made, Blocked, Bound, trail_for}
use Rattle.dg_unify.specs.Slots.{value_in, is_constant, Fields, fields_at, AreSound, store_of, Stand, captured_slots, letter_slots, word_slots}
use Rattle.dg_unify.specs.inside.Ends.{told_in, MayLink}
use Rattle.dg_unify.specs.declared.bindings.Ref.{Ref}
use Rattle.dg_unify.specs.Fences.{IsFenced, fence_for_new}
use Rattle.dg_unify.proofs.Lists.{reverse_snoc}
use Rattle.dg_unify.specs.declared.bindings.Mark.{Mark}
use Rattle.dg_unify.specs.declared.fence.Fence.{Fence}
use Rattle.dg_unify.specs.declared.slots.Slot.{Slot}
use Rattle.dg_unify.specs.declared.slots.Slot.TheVariants as slot
use Rattle.dg_unify.specs.declared.slots.Link.{Link}
use Rattle.dg_unify.proofs.SlotsLemmas.{ArePlain, AreInner, MarksRightly, plain_captured, inner_captured, plain_letters, inner_letters, words_length, no_marks, pair_marks}
use Rattle.dg_unify.proofs.FenceLemmas.{Stays, end_of, fence_kept, fence_made, fence_undone}
use Rattle.dg_unify.proofs.Stores.{Grown, grown_slots, grown_links, kept_grown, stand_grown, fresh_made, fresh_sound, value_made, value_sound, words_sound, block_made, link_sound, link_bound, var_at, pair_at, closure_at, word_at, captured_length, letters_length}
use Rattle.dg_unify.proofs.StoreLemmas.{kept_same, kept_on}
use Rattle.dg_unify.specs.Linked.{log_of, vars_of}
use Rattle.dg_arena.specs.declared.arena.Arena.{Arena}
use Rattle.dg_arena.specs.Held.{fields_of}
use Rattle.dg_arena.specs.Room.{WereCounted}
use Rattle.dg_arena.specs.Rows.{VarsAt, MadeVars}
use Rattle.dg_arena.specs.inside.Slots.{var_slots}

-- marks that stand, with what they counted
abbrev pub Marks : Fields → List Saved → Type 0
Marks f ms = Stand false f ms × WereCounted ms

pub marks_grown : (f f' : Fields) (extra : List Slot) (links : List Link) (ms : List Saved) → Grown f f' extra links → f.vars ≤ f'.vars → Marks f ms → Marks f' ms
marks_grown f f' extra links ms g le h = (stand_grown false f f' extra links ms g le h.0, h.1)

-- An arena in which as much was counted as there are cells, and that isn't too large.
pub record IsCounted (f : Fields) : Type 0 where
  pub sound : AreSound f
  pub counted : length f.slots ≤ f.heap
  pub small : f.heap_limit ≤ 2147483648

-- What all calls owe that make something.
pub record Leaves (f f' : Fields) : Type 0 where
  pub sound : AreSound f'
  pub kept : Kept (store_of false f) (store_of false f')
  pub saved : (ms : List Saved) → Marks f ms → Marks f' ms
  pub counted : length f'.slots ≤ f'.heap

-- ---- values with parts

abbrev pub behind : Fields → List Slot → ℕ → Fields
behind f slots heap = record f { slots = slots; heap = heap }

pub record Makes (f : Fields) (slots : List Slot) (n : ℕ) (v : Value) : Type 0 where
  pub leaves : Leaves f (behind f slots (f.heap + n))
  pub fenced : (fence : Fence) → Stays f fence → Stays (behind f slots (f.heap + n)) fence
  pub made : (r : Ref) → r.0 ≡ length f.slots → Made n (store_of false f) (store_of false (behind f slots (f.heap + n))) r v

makes : (f : Fields) (slots : List Slot) (x : Slot) (extra : List Slot) (n : ℕ) (v : Value) → IsCounted f → f.heap + n ≤ f.heap_limit → slots ≡ f.slots ++ x ∷ extra → length (x ∷ extra) ≤ n →
    ArePlain (x ∷ extra) → AreInner extra → MarksRightly f.slots x → value_in slots (length f.slots) ≡ Some v → Makes f slots n v
makes f slots x extra n v is room es few plain inner marks value =
    let f' = behind f slots (f.heap + n) in
    let g = grown_slots f f' (x ∷ extra) es refl refl refl in
    let counted = is.counted in
    let small = is.small in
    let long = ap length es ∙ length-append f.slots (x ∷ extra) in
    record {
      leaves = record {
        sound = value_sound f f' x extra v is.sound g plain inner value marks refl (omega arith) room refl;
        kept = kept_grown false f f' (x ∷ extra) [] g;
        saved = λ ms h. marks_grown f f' (x ∷ extra) [] ms g (omega arith) h;
        counted = omega arith;
      };
      fenced = λ fence h. fence_kept f f' (x ∷ extra) fence is.sound g (omega arith) h;
      made = λ r at. value_made false f f' n (x ∷ extra) r v is.sound g refl refl refl refl room (ap (value_in slots) at ∙ value);
    }

below : (f : Fields) (n : ℕ) → IsCounted f → 1 ≤ n → f.heap + n ≤ f.heap_limit → length f.slots < 2147483648
below f n is some room = let counted = is.counted in let small = is.small in omega arith

pub makes_pair : (f : Fields) (slots : List Slot) (h t : Ref) (k : Bool) → IsCounted f → f.heap + 3 ≤ f.heap_limit → slots ≡ f.slots ++ slot.Pair h t k ∷ [] → k ≡ (is_constant f.slots h && is_constant f.slots t) → IsTold (value_in f.slots h.0) → IsTold (value_in f.slots t.0) →
    Makes f slots 3 (pair (told (store_of false f) h) (told (store_of false f) t))
makes_pair f slots h t k is room es marks hh ht =
    makes f slots (slot.Pair h t k) [] 3 (pair (told (store_of false f) h) (told (store_of false f) t)) is room es (omega arith) (tt, tt) tt (pair_marks f.slots h t k marks)
    (pair_at f.slots slots h t k (length f.slots) es refl (below f 3 is (omega arith) room) hh ht)

-- a pair that isn't marked
pub makes_open : (f : Fields) (slots : List Slot) (h t : Ref) → IsCounted f → f.heap + 3 ≤ f.heap_limit → slots ≡ f.slots ++ slot.Pair h t false ∷ [] → IsTold (value_in f.slots h.0) → IsTold (value_in f.slots t.0) →
    Makes f slots 3 (pair (told (store_of false f) h) (told (store_of false f) t))
makes_open f slots h t is room es hh ht =
    makes f slots (slot.Pair h t false) [] 3 (pair (told (store_of false f) h) (told (store_of false f) t)) is room es (omega arith) (tt, tt) tt (no_marks f.slots (slot.Pair h t false) refl)
    (pair_at f.slots slots h t false (length f.slots) es refl (below f 3 is (omega arith) room) hh ht)

pub makes_closure : (f : Fields) (slots : List Slot) (place : ℕ) (rs : List Ref) → IsCounted f → f.heap + (3 + length rs) ≤ f.heap_limit → slots ≡ f.slots ++ slot.Closure place (length rs) ∷ captured_slots rs → length rs ≤ 65535 → All (λ (r : Ref). IsTold (value_in f.slots r.0)) rs →
    Makes f slots (3 + length rs) (Node (Closure place) (told_parts (store_of false f) rs))
makes_closure f slots place rs is room es few held =
    let long = captured_length rs in
    makes f slots (slot.Closure place (length rs)) (captured_slots rs) (3 + length rs) (Node (Closure place) (told_parts (store_of false f) rs)) is room es (omega arith) (few, plain_captured rs) (inner_captured rs) (no_marks f.slots (slot.Closure place (length rs)) refl)
    (closure_at f.slots slots place (length rs) rs (length f.slots) es refl refl (below f (3 + length rs) is (omega arith) room) held)

pub makes_unknown : (f : Fields) (slots : List Slot) (cs : List ℕ) → IsCounted f → f.heap + (3 + 3 * length cs) ≤ f.heap_limit → slots ≡ f.slots ++ slot.Unknown (length cs) ∷ letter_slots cs → length cs ≤ 200 →
    Makes f slots (3 + 3 * length cs) (leaf (Unknown cs))
makes_unknown f slots cs is room es few =
    let long = letters_length cs in
    makes f slots (slot.Unknown (length cs)) (letter_slots cs) (3 + 3 * length cs) (leaf (Unknown cs)) is room es (omega arith) (few, plain_letters cs) (inner_letters cs) (no_marks f.slots (slot.Unknown (length cs)) refl)
    (word_at f.slots slots (length cs) cs (length f.slots) es refl refl (below f (3 + 3 * length cs) is (omega arith) room))

-- ---- variables

pub record MakesVar (f f' : Fields) : Type 0 where
  pub leaves : Leaves f f'
  pub fenced : (fence now next : Fence) → now ≡ end_of f → next ≡ fence_for_new fence now → Stays f fence → Stays f' next
  pub made : (r : Ref) → r.0 ≡ length f.slots → Fresh (store_of false f) (store_of false f') r

abbrev pub with_var : Fields → List Slot → List Link → ℕ → Fields
with_var f slots log vars = record f { slots = slots; log = log; vars = vars; heap = f.heap + 1 }

pub makes_var : (f : Fields) (slots : List Slot) (log : List Link) (vars : ℕ) → IsCounted f → f.heap + 1 ≤ f.heap_limit → slots ≡ f.slots ++ slot.Var f.vars ∷ [] → log ≡ f.log → vars ≡ f.vars + 1 → MakesVar f (with_var f slots log vars)
makes_var f slots log vars is room es el ev =
    let f' = with_var f slots log vars in
    let extra : List Slot = slot.Var f.vars ∷ [] in
    let g = grown_slots f f' extra es el refl refl in
    let counted = is.counted in
    let low = below f 1 is (omega arith) room in
    let long = ap length es ∙ length-append f.slots extra in
    record {
      leaves = record {
        sound = fresh_sound f f' is.sound g ev low room refl;
        kept = kept_grown false f f' extra [] g;
        saved = λ ms h. marks_grown f f' extra [] ms g (omega arith) h;
        counted = omega arith;
      };
      fenced = λ fence now next now_is next_is h. fence_made f f' extra fence now next is.sound g (omega arith) now_is next_is h;
      made = λ r at. fresh_made false f f' r is.sound g ev refl refl refl room (ap (value_in slots) at ∙ var_at f.slots slots f.vars (length f.slots) es refl low) at;
    }

-- the fence is moved for what is made behind all slots and variables
pub moved : (a : Arena) (slots vars : ℕ) (next : Fence) → slots ≡ length a.cells.items → vars ≡ vars_of a.links → next ≡ fence_for_new a.fence (record { slots = slots; vars = vars; reach = vars }) → next ≡ fence_for_new a.fence (end_of (fields_of a))
moved a slots vars next es ev e = rw (sym es, sym ev) e

-- ---- variables in a row

slots_long : (n k : ℕ) → length (var_slots n k) ≡ k
slots_long n zero = refl
slots_long n (suc k) = ap suc (slots_long (suc n) k)

pub one_more_var : (slots slots' : List Slot) (n n' k k' : ℕ) → slots' ≡ slots ++ slot.Var n ∷ [] → n' ≡ n + 1 → k ≡ k' + 1 → slots' ++ var_slots n' k' ≡ slots ++ var_slots n k
one_more_var slots slots' n n' k k' es en ek =
    let next : n' ≡ suc n = omega (arith, en) in
    let less : k ≡ suc k' = omega (arith, ek) in
    rw (es, next, less) (append_assoc slots (slot.Var n ∷ []) (var_slots (suc n) k'))

leaves_on : (f g h : Fields) → Leaves f g → Leaves g h → Leaves f h
leaves_on f g h a b = record {
  sound = b.sound;
  kept = kept_on (store_of false f) (store_of false g) (store_of false h) a.kept b.kept;
  saved = λ ms k. b.saved ms (a.saved ms k);
  counted = b.counted;
}

leaves_same : (f g : Fields) → IsCounted f → f ≡ g → Leaves f g
leaves_same f g is e = subst (Leaves f) e (record {
  sound = is.sound;
  kept = kept_same (store_of false f);
  saved = λ ms k. k;
  counted = is.counted;
})

abbrev pub with_row : Fields → List Slot → List Link → ℕ → ℕ → Fields
with_row f slots log vars heap = record f { slots = slots; log = log; vars = vars; heap = heap }

pub record Row (k : ℕ) (f f' : Fields) : Type 0 where
  pub leaves : Leaves f f'
  pub state : (store_of false f').state ≡ record (store_of false f).state { vars = f.vars + k; heap = f.heap + k }
  pub values : (at : ℕ) → at ≡ length f.slots → VarsAt (store_of false f') at f.vars k

row_made : (k : ℕ) (f : Fields) (slots : List Slot) (log : List Link) (vars heap : ℕ) → IsCounted f → f.heap + k ≤ f.heap_limit → slots ≡ f.slots ++ var_slots f.vars k → log ≡ f.log → vars ≡ f.vars + k → heap ≡ f.heap + k → Row k f (with_row f slots log vars heap)
row_made zero f slots log vars heap is room es el ev eh =
    let f' = with_row f slots log vars heap in
    let v0 : vars ≡ f.vars = omega (arith, ev) in
    let h0 : heap ≡ f.heap = omega (arith, eh) in
    let same : f ≡ f' = rw (es ∙ append-nil f.slots, el, v0, h0) refl in
    let nv : f.vars ≡ f.vars + 0 = omega arith in
    let nh : f.heap ≡ f.heap + 0 = omega arith in
    let old = (store_of false f).state in
    record {
      leaves = leaves_same f f' is same;
      state = ap (λ (x : Fields). (store_of false x).state) (sym same) ∙ ap (λ v. record old { vars = v }) nv ∙ ap (λ h. record old { vars = f.vars + 0; heap = h }) nh;
      values = λ at e. tt;
    }
row_made (suc k) f slots log vars heap is room es el ev eh =
    let g = with_var f (f.slots ++ slot.Var f.vars ∷ []) f.log (f.vars + 1) in
    let one = makes_var f g.slots f.log (f.vars + 1) is (omega arith) refl refl refl in
    let counted : IsCounted g = record { sound = one.leaves.sound; counted = one.leaves.counted; small = is.small } in
    let next : suc f.vars ≡ f.vars + 1 = omega arith in
    let more : slots ≡ g.slots ++ var_slots g.vars k = es ∙ sym (append_assoc f.slots (slot.Var f.vars ∷ []) (var_slots (suc f.vars) k)) ∙ ap (λ n. g.slots ++ var_slots n k) next in
    let rest = row_made k g slots log vars heap counted (omega arith) more el (omega (arith, ev)) (omega (arith, eh)) in
    let f' = with_row f slots log vars heap in
    let fresh = one.made (record { 0 = length f.slots }) refl in
    let nv : f.vars + 1 + k ≡ f.vars + suc k = omega arith in
    let nh : f.heap + 1 + k ≡ f.heap + suc k = omega arith in
    record {
      leaves = leaves_on f g f' one.leaves rest.leaves;
      state =
          rest.state
          ∙ ap (λ (x : State). record x { vars = f.vars + 1 + k; heap = f.heap + 1 + k }) fresh.state
          ∙ ap (λ v. record (store_of false f).state { vars = v; heap = f.heap + 1 + k }) nv
          ∙ ap (λ h. record (store_of false f).state { vars = f.vars + suc k; heap = h }) nh;
      values = λ at e. (
        rest.leaves.kept.values (record { 0 = at }) (Var f.vars) (one.made (record { 0 = at }) e).value,
        subst (λ n. VarsAt (store_of false f') (suc at) n k) (sym next) (rest.values (suc at) (omega (arith, e, length-append f.slots (slot.Var f.vars ∷ [])))),
      );
    }

pub record MakesRow (k : ℕ) (f f' : Fields) : Type 0 where
  pub leaves : Leaves f f'
  pub fenced : (fence now next : Fence) → now ≡ end_of f → next ≡ fence_for_new fence now → Stays f fence → Stays f' next
  pub made : (at : ℕ) → at ≡ length f.slots → MadeVars k (store_of false f) (store_of false f') at

pub makes_row : (k : ℕ) (f : Fields) (slots : List Slot) (log : List Link) (vars heap : ℕ) → IsCounted f → f.heap + k ≤ f.heap_limit → slots ≡ f.slots ++ var_slots f.vars k → log ≡ f.log → vars ≡ f.vars + k → heap ≡ f.heap + k → MakesRow k f (with_row f slots log vars heap)
makes_row k f slots log vars heap is room es el ev eh =
    let f' = with_row f slots log vars heap in
    let extra = var_slots f.vars k in
    let g = grown_slots f f' extra es el refl refl in
    let row = row_made k f slots log vars heap is room es el ev eh in
    let long : length slots ≡ length f.slots + k = omega (arith, ap length es, length-append f.slots extra, slots_long f.vars k) in
    record {
      leaves = row.leaves;
      fenced = λ fence now next now_is next_is h. fence_made f f' extra fence now next is.sound g (omega (arith, ev)) now_is next_is h;
      made = λ at e. record { fits = room; state = row.state; values = row.values at e; place = e; next = long };
    }

counted_here : (a : Arena) → IsCounted (fields_of a)
counted_here a = record { sound = a.sound; counted = a.roomy.counted; small = a.roomy.small }

pub row_here : (a : Arena) (k : ℕ) (slots : List Slot) (log : List Link) (vars : ℕ) → k ≤ a.heap_limit - a.heap → slots ≡ a.cells.items ++ var_slots (vars_of a.links) k → log ≡ log_of a.links → vars ≡ vars_of a.links + k → MakesRow k (fields_of a) (with_row (fields_of a) slots log vars (a.heap + k))
row_here a k slots log vars room es el ev = makes_row k (fields_of a) slots log vars (a.heap + k) (counted_here a) (omega (arith, room, a.sound.heap_fits)) es el ev refl

-- ---- blocks

pub record MakesBlock (f : Fields) (slots : List Slot) (ws : List ℕ) : Type 0 where
  pub leaves : Leaves f (behind f slots (f.heap + length ws))
  pub fenced : (fence : Fence) → Stays f fence → Stays (behind f slots (f.heap + length ws)) fence
  pub made : (at : ℕ) → at ≡ length f.slots → Blocked ws (store_of false f) (store_of false (behind f slots (f.heap + length ws))) at

pub makes_block : (f : Fields) (slots : List Slot) (ws : List ℕ) → IsCounted f → f.heap + length ws ≤ f.heap_limit → slots ≡ f.slots ++ word_slots ws → MakesBlock f slots ws
makes_block f slots ws is room es =
    let f' = behind f slots (f.heap + length ws) in
    let g = grown_slots f f' (word_slots ws) es refl refl refl in
    let counted = is.counted in
    let small = is.small in
    let many = words_length ws in
    let long = ap length es ∙ length-append f.slots (word_slots ws) in
    record {
      leaves = record {
        sound = words_sound f f' ws is.sound g refl (omega arith) room refl;
        kept = kept_grown false f f' (word_slots ws) [] g;
        saved = λ ms h. marks_grown f f' (word_slots ws) [] ms g (omega arith) h;
        counted = omega arith;
      };
      fenced = λ fence h. fence_kept f f' (word_slots ws) fence is.sound g (omega arith) h;
      made = λ at is_at. block_made false f f' ws at is.sound g refl refl refl refl room is_at;
    }

-- ---- bindings

pub record Binds (f f' : Fields) (x : ℕ) (to : Ref) : Type 0 where
  pub leaves : Leaves f f'
  pub fenced : (fence : Fence) → IsFenced f.slots (record { var = x; to = to } ∷ reverse f.log) f.vars fence → Stays f' fence
  pub bound : Bound (store_of false f) (store_of false f') x (told_in f to)

abbrev pub with_link : Fields → List Link → ℕ → ℕ → Fields
with_link f log vars trail = record f { log = log; vars = vars; trail = trail }

pub binds : (f : Fields) (log : List Link) (vars n x : ℕ) (to : Ref) → IsCounted f → MayLink f x to → log ≡ f.log ++ record { var = x; to = to } ∷ [] → vars ≡ f.vars → n ≡ trail_for f.since x → f.trail + n ≤ f.trail_limit → Binds f (with_link f log vars (f.trail + n)) x to
binds f log vars n x to is may el ev en fits =
    let l : Link = record { var = x; to = to } in
    let f' = with_link f log vars (f.trail + n) in
    let g = grown_links f f' (l ∷ []) refl el refl refl in
    let sound = link_sound f f' x to is.sound may g ev refl fits in
    let back : reverse log ≡ l ∷ reverse f.log = ap reverse el ∙ reverse_snoc f.log l in
    record {
      leaves = record {
        sound = sound;
        kept = kept_grown false f f' [] (l ∷ []) g;
        saved = λ ms h. marks_grown f f' [] (l ∷ []) ms g (omega arith) h;
        counted = is.counted;
      };
      fenced = λ fence h. rw (back, ev) h;
      bound = link_bound false f f' x to n may g ev refl refl refl en fits;
    }

pub binds_counted : (f : Fields) (log : List Link) (vars trail x : ℕ) (to : Ref) → IsCounted f → MayLink f x to → log ≡ f.log ++ record { var = x; to = to } ∷ [] → vars ≡ f.vars → trail ≡ f.trail + trail_for f.since x → trail ≤ f.trail_limit → Binds f (with_link f log vars trail) x to
binds_counted f log vars trail x to is may el ev et fits =
    subst (λ t. Binds f (with_link f log vars t) x to) (sym et) (binds f log vars (trail_for f.since x) x to is may el ev refl (omega (arith, et, fits)))

-- ---- marks

-- the fence behind all that was there at a mark
pub undone_fence : (f f' : Fields) (to : Mark) (s : Store) (ms : List Saved) → f' ≡ fields_at f to → Stand false f (record { mark = to; store = s } ∷ ms) → Stays f' (record { slots = to.slots; vars = to.vars; reach = to.vars })
undone_fence f f' to s ms e h =
    let there : Store = store_of true (fields_at f to) in
    fence_undone f f' to there [] e (h.0, h.1, h.2, record { sound = h.3.sound; store = refl }, tt)
