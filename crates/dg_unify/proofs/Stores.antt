-- What a call leaves of a store that keeps slots and bindings, whether it grows or not.
use Rattle.std.proofs.Common.{◌≡◌, ℕ, zero, suc, ◌+◌, ◌<◌, ◌≤◌, List, [], ◌∷◌, ◌++◌, Bool, refl, sym, ap, ◌∙◌, arith, subst, Some, None, length, take, reverse, length-append, length-take, append-nil, append_assoc, get_or, All, Result, Ok, Err, MatchResult}
use Rattle.std.specs.List.{slice_get}
use Rattle.std.proofs.lemmas.List.{take_all, take-take, take-append-le}
use Rattle.dg_meaning.specs.Values.{Value, Var, Node, Unknown, Closure, leaf, pair}
use Rattle.dg_meaning.specs.Substitutions.{Substitution, walk}
use Rattle.dg_meaning.specs.inside.Substitutions.{FitsFront}
use Rattle.dg_meaning.proofs.Walks.{walked}
use Rattle.dg_unify.specs.Store.{Store, Saved, or_nil, IsTold, Kept, Fresh, Made, WordsAt, Blocked, MayBind, Bound, TrailFull, trail_for, Back}
use Rattle.dg_unify.specs.declared.bindings.Full.{Full}
use Rattle.dg_unify.specs.Links.{to_of}
use Rattle.dg_unify.specs.Slots.{value_in, Fields, AreSound, store_of, fields_at, GivesBack, Saves, Stand, word_slot, captured_slots, letter_slots, word_slots}
use Rattle.dg_unify.specs.inside.Ends.{subst_in, told_in, EndsAt, MayLink}
use Rattle.dg_unify.specs.declared.bindings.Ref.{Ref}
use Rattle.dg_unify.specs.declared.bindings.Mark.{Mark}
use Rattle.dg_unify.specs.declared.slots.Slot.{Slot}
use Rattle.dg_unify.specs.declared.slots.Slot.TheVariants as slot
use Rattle.dg_unify.specs.declared.slots.Link.{Link}
use Rattle.dg_unify.specs.Laws.{place_of_var}
use Rattle.dg_unify.proofs.Lists.{reverse_snoc}
use Rattle.dg_unify.proofs.SlotsLemmas.{in_more, subst_more, unbound_is_none, some_told, ArePlain, AreInner, MarksRightly, fits_more, fits_inner, plain_words, inner_words, words_length, fits_var, fits_link, read_is, new_slot, new_pair, new_closure, new_word, values_of, each_told}

-- ## More of what it keeps

-- the slots and bindings are those from before with more behind them, under the same limits
pub record Grown (f f' : Fields) (extra : List Slot) (links : List Link) : Type 0 where
  pub slots : f'.slots ≡ f.slots ++ extra
  pub log : f'.log ≡ f.log ++ links
  pub heap_limit : f'.heap_limit ≡ f.heap_limit
  pub trail_limit : f'.trail_limit ≡ f.trail_limit

pub grown_slots : (f f' : Fields) (extra : List Slot) → f'.slots ≡ f.slots ++ extra → f'.log ≡ f.log → f'.heap_limit ≡ f.heap_limit → f'.trail_limit ≡ f.trail_limit → Grown f f' extra []
grown_slots f f' extra es el eh et = record { slots = es; log = el ∙ sym (append-nil f.log); heap_limit = eh; trail_limit = et }

pub grown_links : (f f' : Fields) (links : List Link) → f'.slots ≡ f.slots → f'.log ≡ f.log ++ links → f'.heap_limit ≡ f.heap_limit → f'.trail_limit ≡ f.trail_limit → Grown f f' [] links
grown_links f f' links es el eh et = record { slots = es ∙ sym (append-nil f.slots); log = el; heap_limit = eh; trail_limit = et }

word_more : (slots extra : List Slot) (at w : ℕ) → word_slot (slice_get slots at) ≡ Some w → word_slot (slice_get (slots ++ extra) at) ≡ Some w
word_more [] extra at w h = absurd (cc)
word_more (x ∷ slots) extra zero w h = h
word_more (x ∷ slots) extra (suc at) w h = word_more slots extra at w h

pub kept_grown : (grows : Bool) (f f' : Fields) (extra : List Slot) (links : List Link) → Grown f f' extra links → Kept (store_of grows f) (store_of grows f')
kept_grown grows f f' extra links g = record {
  values = λ r v h. subst (λ xs. value_in xs r.0 ≡ Some v) (sym g.slots) (in_more f.slots extra r.0 v h);
  places = omega (arith, ap length g.slots, length-append f.slots extra);
  words = λ at w h. subst (λ xs. word_slot (slice_get xs at) ≡ Some w) (sym g.slots) (word_more f.slots extra at w h);
  heap_limit = g.heap_limit;
  trail_limit = g.trail_limit;
  grows = refl;
}

-- ## Marks

fields_same : (f f' : Fields) (m : Mark) → take m.slots f'.slots ≡ take m.slots f.slots → take m.links f'.log ≡ take m.links f.log → f'.heap_limit ≡ f.heap_limit → f'.trail_limit ≡ f.trail_limit → fields_at f' m ≡ fields_at f m
fields_same f f' m es el eh et = rw (es, el, eh, et) refl

back_same : (grows : Bool) (f f' : Fields) (m : Saved) → fields_at f' m.mark ≡ fields_at f m.mark → GivesBack grows f m → GivesBack grows f' m
back_same grows f f' m e h = record {
  sound = subst AreSound (sym e) h.sound;
  store = h.store ∙ ap (store_of grows) (sym e);
}

-- the same is kept at each mark that is within these
abbrev Same : Fields → Fields → ℕ → ℕ → Type 0
Same f f' slots links = (m : Mark) → m.slots ≤ slots → m.links ≤ links → fields_at f' m ≡ fields_at f m

saves_same : (grows : Bool) (f f' : Fields) (c l v c' l' v' : ℕ) (ms : List Saved) → c ≤ c' → l ≤ l' → v ≤ v' → Same f f' c l → Saves grows f c l v ms → Saves grows f' c' l' v' ms
saves_same grows f f' c l v c' l' v' [] ac al av same h = tt
saves_same grows f f' c l v c' l' v' (m ∷ ms) ac al av same h = (
  omega (arith, h.0),
  omega (arith, h.1),
  omega (arith, h.2),
  back_same grows f f' m (same m.mark h.0 h.1) h.3,
  saves_same grows f f' m.mark.slots m.mark.links m.mark.vars m.mark.slots m.mark.links m.mark.vars ms (omega arith) (omega arith) (omega arith)
      (λ k lc ll. same k (omega (arith, lc, h.0)) (omega (arith, ll, h.1))) h.4,
)

pub stand_grown : (grows : Bool) (f f' : Fields) (extra : List Slot) (links : List Link) (ms : List Saved) → Grown f f' extra links → f.vars ≤ f'.vars → Stand grows f ms → Stand grows f' ms
stand_grown grows f f' extra links ms g le h =
    saves_same grows f f' (length f.slots) (length f.log) f.vars (length f'.slots) (length f'.log) f'.vars ms
    (omega (arith, ap length g.slots, length-append f.slots extra)) (omega (arith, ap length g.log, length-append f.log links)) le
    (λ m lc ll. fields_same f f' m (ap (take m.slots) g.slots ∙ take-append-le m.slots f.slots extra lc) (ap (take m.links) g.log ∙ take-append-le m.links f.log links ll) g.heap_limit g.trail_limit) h

-- a mark of the present state
pub stand_marked : (grows : Bool) (f f' : Fields) (m : Mark) (ms : List Saved) → AreSound f → f' ≡ record f { since = f.vars } → m ≡ record { slots = length f.slots; links = length f.log; vars = f.vars; heap = f.heap; trail = f.trail } → Stand grows f ms → Stand grows f' (record { mark = m; store = store_of grows f' } ∷ ms)
stand_marked grows f f' m ms sound ef em h =
    let e : fields_at f' m ≡ f' = rw (ef, em, take_all (length f.slots) f.slots (omega arith), take_all (length f.log) f.log (omega arith)) refl in
    let s : AreSound f' = rw ef (record { fits = sound.fits; heap_fits = sound.heap_fits; trail_fits = sound.trail_fits }) in
    let back : GivesBack grows f' (record { mark = m; store = store_of grows f' }) = record { sound = subst AreSound (sym e) s; store = ap (store_of grows) (sym e) } in
    let older : Saves grows f' m.slots m.links m.vars ms =
    saves_same grows f f' (length f.slots) (length f.log) f.vars m.slots m.links m.vars ms (omega (arith, ap (λ (k : Mark). k.slots) em)) (omega (arith, ap (λ (k : Mark). k.links) em)) (omega (arith, ap (λ (k : Mark). k.vars) em))
    (λ k lc ll. rw ef refl) h in
    (omega (arith, ap (λ (k : Mark). k.slots) em, ap (λ (k : Fields). length k.slots) ef), omega (arith, ap (λ (k : Mark). k.links) em, ap (λ (k : Fields). length k.log) ef), omega (arith, ap (λ (k : Mark). k.vars) em, ap (λ (k : Fields). k.vars) ef), back, older)

-- what was kept at a mark is there again, and the mark stands still
pub undone_back : (grows : Bool) (f f' : Fields) (to : Mark) (s : Store) (ms : List Saved) → f' ≡ fields_at f to → Stand grows f (record { mark = to; store = s } ∷ ms) → Back s (store_of grows f')
undone_back grows f f' to s ms e h =
    let is : s ≡ store_of grows f' = h.3.store ∙ ap (store_of grows) (sym e) in
    subst (λ t. Back s t) is (record { state = refl; kept = record { values = λ r v k. k; places = omega arith; words = λ at w k. k; heap_limit = refl; trail_limit = refl; grows = refl } })

-- what a store keeps that went back to a mark
abbrev pub back_at : Fields → Mark → List Slot → List Link → ℕ → Fields
back_at f m slots log vars = record { slots = slots; log = log; vars = vars; since = m.vars; heap = m.heap; trail = m.trail; heap_limit = f.heap_limit; trail_limit = f.trail_limit }

pub back_is : (f : Fields) (m : Mark) (slots : List Slot) (log : List Link) (vars : ℕ) → slots ≡ take m.slots f.slots → log ≡ take m.links f.log → vars ≡ m.vars → back_at f m slots log vars ≡ fields_at f m
back_is f m slots log vars es el ev = rw (es, el, ev) refl

pub undone_stand : (grows : Bool) (f f' : Fields) (to : Mark) (s : Store) (ms : List Saved) → f' ≡ fields_at f to → Stand grows f (record { mark = to; store = s } ∷ ms) → Stand grows f' (record { mark = to; store = s } ∷ ms)
undone_stand grows f f' to s ms e h =
    let same : Same f (fields_at f to) to.slots to.links = λ m lc ll. fields_same f (fields_at f to) m (take-take m.slots to.slots f.slots lc) (take-take m.links to.links f.log ll) refl refl in
    subst (λ x. Stand grows x (record { mark = to; store = s } ∷ ms)) (sym e) (
      omega (arith, length-take to.slots f.slots, h.0),
      omega (arith, length-take to.links f.log, h.1),
      omega arith,
      back_same grows f (fields_at f to) (record { mark = to; store = s }) (same to (omega arith) (omega arith)) h.3,
      saves_same grows f (fields_at f to) to.slots to.links to.vars to.slots to.links to.vars ms (omega arith) (omega arith) (omega arith) same h.4,
    )

pub undone_sound : (grows : Bool) (f f' : Fields) (to : Mark) (s : Store) (ms : List Saved) → f' ≡ fields_at f to → Stand grows f (record { mark = to; store = s } ∷ ms) → AreSound f'
undone_sound grows f f' to s ms e h = subst AreSound (sym e) h.3.sound

-- ## What was made

state_is : (grows : Bool) (f' : Fields) (v : ℕ) (S : Substitution) (s h t : ℕ) → f'.vars ≡ v → subst_in f' ≡ S → f'.since ≡ s → f'.heap ≡ h → f'.trail ≡ t → (store_of grows f').state ≡ record { vars = v; subst = S; since = s; heap = h; trail = t }
state_is grows f' v S s h t ev eS es eh et = rw (ev, eS, es, eh, et) refl

subst_grown : (f f' : Fields) (extra : List Slot) → AreSound f → Grown f f' extra [] → subst_in f' ≡ subst_in f
subst_grown f f' extra sound g =
    let e : f'.log ≡ f.log = g.log ∙ append-nil f.log in
    rw (g.slots, e) (subst_more f.slots extra (reverse f.log) sound.fits.told)

pub fresh_made : (grows : Bool) (f f' : Fields) (r : Ref) → AreSound f → Grown f f' (slot.Var f.vars ∷ []) [] → f'.vars ≡ f.vars + 1 → f'.since ≡ f.since → f'.heap ≡ f.heap + 1 → f'.trail ≡ f.trail → f.heap + 1 ≤ f.heap_limit → value_in f'.slots r.0 ≡ Some (Var f.vars) → r.0 ≡ length f.slots → Fresh (store_of grows f) (store_of grows f') r
fresh_made grows f f' r sound g ev es eh et fits value place = record {
  fits = fits;
  state = state_is grows f' (f.vars + 1) (subst_in f) f.since (f.heap + 1) f.trail ev (subst_grown f f' (slot.Var f.vars ∷ []) sound g) es eh et;
  value = value;
  place = place;
  next = omega (arith, ap length g.slots, length-append f.slots (slot.Var f.vars ∷ []));
}

pub value_made : (grows : Bool) (f f' : Fields) (n : ℕ) (extra : List Slot) (r : Ref) (v : Value) → AreSound f → Grown f f' extra [] → f'.vars ≡ f.vars → f'.since ≡ f.since → f'.heap ≡ f.heap + n → f'.trail ≡ f.trail → f.heap + n ≤ f.heap_limit → value_in f'.slots r.0 ≡ Some v → Made n (store_of grows f) (store_of grows f') r v
value_made grows f f' n extra r v sound g ev es eh et fits value = record {
  charged = record {
    fits = fits;
    state = state_is grows f' f.vars (subst_in f) f.since (f.heap + n) f.trail ev (subst_grown f f' extra sound g) es eh et;
  };
  value = value;
}

pub fresh_sound : (f f' : Fields) → AreSound f → Grown f f' (slot.Var f.vars ∷ []) [] → f'.vars ≡ f.vars + 1 → length f.slots < 2147483648 → f'.heap ≤ f'.heap_limit → f'.trail ≡ f.trail → AreSound f'
fresh_sound f f' sound g ev room heap et =
    let e : f'.log ≡ f.log = g.log ∙ append-nil f.log in
    record {
      fits = rw (g.slots, e, ev) (fits_var f.slots (reverse f.log) f.vars sound.fits room);
      heap_fits = heap;
      trail_fits = omega (arith, et, g.trail_limit, sound.trail_fits);
    }

pub value_sound : (f f' : Fields) (x : Slot) (extra : List Slot) (v : Value) → AreSound f → Grown f f' (x ∷ extra) [] → ArePlain (x ∷ extra) → AreInner extra → value_in f'.slots (length f.slots) ≡ Some v → MarksRightly f.slots x → f'.vars ≡ f.vars → length f.slots + length (x ∷ extra) ≤ 2147483648 → f'.heap ≤ f'.heap_limit → f'.trail ≡ f.trail → AreSound f'
value_sound f f' x extra v sound g plain inner value marks ev room heap et =
    let e : f'.log ≡ f.log = g.log ∙ append-nil f.log in
    record {
      fits = rw (g.slots, e, ev) (fits_more f.slots extra x (reverse f.log) f.vars plain inner (some_told (value_in (f.slots ++ x ∷ extra) (length f.slots)) v (rw g.slots at value)) marks sound.fits room);
      heap_fits = heap;
      trail_fits = omega (arith, et, g.trail_limit, sound.trail_fits);
    }

-- ## What was bound

pub link_sound : (f f' : Fields) (x : ℕ) (to : Ref) → AreSound f → MayLink f x to → Grown f f' [] (record { var = x; to = to } ∷ []) → f'.vars ≡ f.vars → f'.heap ≡ f.heap → f'.trail ≤ f'.trail_limit → AreSound f'
link_sound f f' x to sound may g ev eh trail =
    let es : f'.slots ≡ f.slots = g.slots ∙ append-nil f.slots in
    let l : Link = record { var = x; to = to } in
    let el : reverse f'.log ≡ l ∷ reverse f.log = ap reverse g.log ∙ reverse_snoc f.log l in
    record {
      fits = rw (es, el, ev) (fits_link f.slots (reverse f.log) f.vars l sound.fits may.fits may.told may.within);
      heap_fits = omega (arith, eh, g.heap_limit, sound.heap_fits);
      trail_fits = trail;
    }

pub link_bound : (grows : Bool) (f f' : Fields) (x : ℕ) (to : Ref) (n : ℕ) → MayLink f x to → Grown f f' [] (record { var = x; to = to } ∷ []) → f'.vars ≡ f.vars → f'.since ≡ f.since → f'.heap ≡ f.heap → f'.trail ≡ f.trail + n → n ≡ trail_for f.since x → f.trail + n ≤ f.trail_limit → Bound (store_of grows f) (store_of grows f') x (told_in f to)
link_bound grows f f' x to n may g ev es eh et en fits =
    let e : f'.slots ≡ f.slots = g.slots ∙ append-nil f.slots in
    let l : Link = record { var = x; to = to } in
    let el : reverse f'.log ≡ l ∷ reverse f.log = ap reverse g.log ∙ reverse_snoc f.log l in
    let eS : subst_in f' ≡ (x, walk (subst_in f) (told_in f to)) ∷ subst_in f = rw (e, el) (ap (λ v. (x, v) ∷ subst_in f) (sym may.end_is)) in
    record {
      fits = omega (arith, fits, en);
      state = state_is grows f' f.vars ((x, walk (subst_in f) (told_in f to)) ∷ subst_in f) f.since f.heap (f.trail + trail_for f.since x) ev eS es eh (et ∙ ap (λ k. f.trail + k) en);
    }

pub may_unbound : (f : Fields) (x : ℕ) (to : Ref) → MayLink f x to → to_of x (reverse f.log) ≡ None
may_unbound f x to may = unbound_is_none f.slots (reverse f.log) x may.fits.unbound

some_var : (m n : ℕ) → Some (Var m) ≡ Some (Var n) → m ≡ n
some_var m n e = cc

-- a bind may bind the variable in its slot to the end of the value
pub bind_links : (grows : Bool) (f : Fields) (var to end : Ref) → AreSound f → MayBind (store_of grows f) var to → EndsAt f to end → (x : Slot) → x ≡ get_or f.slots var.0 x → (n : ℕ) → x ≡ slot.Var n → MayLink f n end
bind_links grows f var to end sound m ends x read n is =
    let g = (place_of_var f.slots (length f.slots) var.0 m.x m.var_is).1 in
    let ex : x ≡ slot.Var m.x = read_is f.slots var.0 (slot.Var m.x) x g read in
    let k : slot.Var m.x ≡ slot.Var n = sym ex ∙ is in
    let en : m.x ≡ n = cc in
    let ev : m.v ≡ told_in f to = sym (ap or_nil m.to_is) in
    let w = walked (subst_in f) sound.fits.sound (told_in f to) in
    let P : Value → Type 0 = λ v. FitsFront n v (subst_in f) in
    let first : P (told_in f to) = subst P ev (subst (λ j. FitsFront j m.v (subst_in f)) en m.fits) in
    record {
      within = sound.fits.below var.0 n (g ∙ ap (λ j. Some (slot.Var j)) en);
      told = ends.told;
      end_is = ends.end_is;
      fits = subst P (sym ends.is) (record { unbound = first.unbound; absent = rw w.same first.absent });
    }

pub bind_var : (grows : Bool) (f : Fields) (var : Ref) (m : ℕ) → value_in f.slots var.0 ≡ Some (Var m) → (x : Slot) → x ≡ get_or f.slots var.0 x → (n : ℕ) → x ≡ slot.Var n → m ≡ n
bind_var grows f var m h x read n is =
    let g = (place_of_var f.slots (length f.slots) var.0 m h).1 in
    let ex : x ≡ slot.Var m = read_is f.slots var.0 (slot.Var m) x g read in
    let k : slot.Var m ≡ slot.Var n = sym ex ∙ is in
    cc

-- an end that was bound is what the value is when it is walked
pub bound_end : (grows : Bool) (f : Fields) (new : Store) (x : ℕ) (to end : Ref) → EndsAt f to end → Bound (store_of grows f) new x (told_in f end) → Bound (store_of grows f) new x (told_in f to)
bound_end grows f new x to end ends b =
    let e : walk (subst_in f) (told_in f end) ≡ walk (subst_in f) (told_in f to) = ends.end_is ∙ ends.is in
    record { fits = b.fits; state = b.state ∙ ap (λ v. record (store_of grows f).state { subst = (x, v) ∷ subst_in f; trail = f.trail + trail_for f.since x }) e }

-- ## What a new slot stands for, at its place

pub var_at : (slots slots' : List Slot) (n at : ℕ) → slots' ≡ slots ++ slot.Var n ∷ [] → at ≡ length slots → length slots < 2147483648 → value_in slots' at ≡ Some (Var n)
var_at slots slots' n at es ea lt = rw (es, ea) (new_slot slots [] (slot.Var n) lt)

pub pair_at : (slots slots' : List Slot) (h t : Ref) (k : Bool) (at : ℕ) → slots' ≡ slots ++ slot.Pair h t k ∷ [] → at ≡ length slots → length slots < 2147483648 → IsTold (value_in slots h.0) → IsTold (value_in slots t.0) → value_in slots' at ≡ Some (pair (or_nil (value_in slots h.0)) (or_nil (value_in slots t.0)))
pair_at slots slots' h t k at es ea lt hh ht = rw (es, ea) (new_pair slots h t k lt hh ht)

pub closure_at : (slots slots' : List Slot) (place n : ℕ) (rs : List Ref) (at : ℕ) → slots' ≡ slots ++ slot.Closure place n ∷ captured_slots rs → n ≡ length rs → at ≡ length slots → length slots < 2147483648 → All (λ (r : Ref). IsTold (value_in slots r.0)) rs → value_in slots' at ≡ Some (Node (Closure place) (values_of slots rs))
closure_at slots slots' place n rs at es en ea lt h = rw (es, en, ea) (new_closure slots place rs lt (each_told slots rs h))

pub word_at : (slots slots' : List Slot) (n : ℕ) (cs : List ℕ) (at : ℕ) → slots' ≡ slots ++ slot.Unknown n ∷ letter_slots cs → n ≡ length cs → at ≡ length slots → length slots < 2147483648 → value_in slots' at ≡ Some (leaf (Unknown cs))
word_at slots slots' n cs at es en ea lt = rw (es, en, ea) (new_word slots cs lt)

pub captured_length : (rs : List Ref) → length (captured_slots rs) ≡ length rs
captured_length [] = refl
captured_length (r ∷ rs) = ap suc (captured_length rs)

pub letters_length : (cs : List ℕ) → length (letter_slots cs) ≡ length cs
letters_length [] = refl
letters_length (c ∷ cs) = ap suc (letters_length cs)

-- ## What a bind answers

pub bind_is_var : (grows : Bool) (f : Fields) (var to : Ref) → MayBind (store_of grows f) var to → (x : Slot) → x ≡ get_or f.slots var.0 x → ((n : ℕ) → x ≡ slot.Var n → ⊥) → ⊥
bind_is_var grows f var to m x read other = other m.x (read_is f.slots var.0 (slot.Var m.x) x (place_of_var f.slots (length f.slots) var.0 m.x m.var_is).1 read)

pub bind_made : (grows : Bool) (f : Fields) (new : Store) (n : ℕ) (to end : Ref) → EndsAt f to end → (x : ℕ) → x ≡ n → (r : Result (Unit {0}) Full) → MatchResult r (λ _. Bound (store_of grows f) new n (told_in f end)) (λ e. TrailFull (store_of grows f) new n e) → MatchResult r (λ _. Bound (store_of grows f) new x (told_in f to)) (λ e. TrailFull (store_of grows f) new x e)
bind_made grows f new n to end ends x is (Ok done) h = rw is (bound_end grows f new n to end ends h)
bind_made grows f new n to end ends x is (Err e) h = rw is h

-- ## Blocks

pub words_sound : (f f' : Fields) (ws : List ℕ) → AreSound f → Grown f f' (word_slots ws) [] → f'.vars ≡ f.vars → length f.slots + length ws ≤ 2147483648 →
    f'.heap ≤ f'.heap_limit → f'.trail ≡ f.trail → AreSound f'
words_sound f f' ws sound g ev room heap et =
    let e : f'.log ≡ f.log = g.log ∙ append-nil f.log in
    record {
      fits = rw (g.slots, e, ev) (fits_inner f.slots (word_slots ws) (reverse f.log) f.vars (plain_words ws) (inner_words ws) sound.fits (omega (arith, room, words_length ws)));
      heap_fits = heap;
      trail_fits = omega (arith, et, g.trail_limit, sound.trail_fits);
    }

word_behind : (before behind : List Slot) (w : ℕ) → word_slot (slice_get (before ++ slot.Captured (record { 0 = w }) ∷ behind) (length before)) ≡ Some w
word_behind [] behind w = refl
word_behind (x ∷ before) behind w = word_behind before behind w

words_here : (grows : Bool) (f : Fields) (before : List Slot) (ws : List ℕ) (at : ℕ) → f.slots ≡ before ++ word_slots ws → at ≡ length before → WordsAt (store_of grows f) at ws
words_here grows f before [] at e is = tt
words_here grows f before (w ∷ ws) at e is =
    let x = slot.Captured (record { 0 = w }) in (
      ap (λ k. word_slot (slice_get f.slots k)) is ∙ ap (λ l. word_slot (slice_get l (length before))) e ∙ word_behind before (word_slots ws) w,
      words_here grows f (before ++ x ∷ []) ws (suc at) (e ∙ sym (append_assoc before (x ∷ []) (word_slots ws))) (omega (arith, is, length-append before (x ∷ []))),
    )

pub block_made : (grows : Bool) (f f' : Fields) (ws : List ℕ) (at : ℕ) → AreSound f → Grown f f' (word_slots ws) [] → f'.vars ≡ f.vars → f'.since ≡ f.since →
    f'.heap ≡ f.heap + length ws → f'.trail ≡ f.trail → f.heap + length ws ≤ f.heap_limit → at ≡ length f.slots → Blocked ws (store_of grows f) (store_of grows f') at
block_made grows f f' ws at sound g ev es eh et fits is = record {
  charged = record { fits = fits; state = state_is grows f' f.vars (subst_in f) f.since (f.heap + length ws) f.trail ev (subst_grown f f' (word_slots ws) sound g) es eh et };
  words = words_here grows f' f.slots ws at g.slots is;
  place = is;
}
