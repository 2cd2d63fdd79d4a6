-- One argument and one term of a head, and all of them.
use Rattle.std.proofs.Common.{◌≡◌, ℕ, zero, suc, ◌+◌, ◌*◌, ◌<◌, ◌≤◌, List, [], ◌∷◌, ◌++◌, true, false, refl, sym, ap, ◌∙◌, subst, arith, length, get_or, drop, Some, MatchResult}
use Rattle.std.specs.Prelude.{Bool, Result, Ok, Err, OnOk}
use Rattle.std.specs.List.{zip}
use Rattle.std.proofs.lemmas.List.{length-append, drop_more, drop_all}
use Rattle.dg_base.specs.declared.program.Term.{Term, out-Term}
use Rattle.dg_base.specs.declared.program.Term.TheOpen as term
use Rattle.dg_base.specs.declared.program.Term.TheVariants.{Pair as Pair-Term}
use Rattle.dg_base.specs.declared.program.CoreProgram.{CoreProgram}
use Rattle.dg_meaning.specs.Cells.{cells}
use Rattle.dg_meaning.specs.Moves.{new_vars}
use Rattle.dg_meaning.specs.Values.{Value, Var, Nil, leaf, pair, value_of, value_of_var}
use Rattle.dg_meaning.specs.Substitutions.{walk}
use Rattle.dg_meaning.specs.Unify.{Equations, Unified, solve}
use Rattle.dg_meaning.specs.inside.Unify.{unify}
use Rattle.dg_unify.specs.Store.{State, Store, told, Kept, Holds, Charged, Made, HeapFull, ShowsVar, ShowsPair, OnlyBinds, Does, BrokeOff, UnifyFull, Follows}
use Rattle.dg_unify.specs.declared.bindings.Ref.{Ref}
use Rattle.dg_unify.specs.declared.bindings.Full.{Full}
use Rattle.dg_unify.specs.declared.bindings.Full.TheVariants as full
use Rattle.dg_unify.proofs.StoreLemmas.{kept_told, told_is, holds_some, holds_told}
use Rattle.dg_unify.proofs.Meets.{more_same}
use Rattle.dg_unify.proofs.Goings.{broke_later}
use Rattle.dg_arena.specs.declared.arena.Arena.{Arena}
use Rattle.dg_arena.specs.Held.{meaning_of}
use Rattle.dg_mid.proofs.FlatLemmas.{top_is, pair_is}
use Rattle.dg_machine.specs.declared.now.Row.{Row}
use Rattle.dg_machine.specs.Refs.{Keeps, Stays, RowAt, RefsAt, AreRefs}
use Rattle.dg_machine.specs.inside.Writing.{cells_of, Overflows}
use Rattle.dg_mid.specs.Heads.{IsPlain, IsFlatPair, IsList, Flat, AreFlat}
use Rattle.dg_machine.specs.Heads.{at_heap, listed, IsOwn}
use Rattle.dg_machine.proofs.PathLemmas.{value_pair}
use Rattle.dg_machine.proofs.Kept.{refs_kept, row_kept}
use Rattle.dg_machine.proofs.RowLemmas.{new_vars_length}
use Rattle.dg_machine.proofs.TermLemmas.{refs_get, refs_end, captured_length}
use Rattle.dg_machine.proofs.Opens.{heap_full}
use Rattle.dg_machine.proofs.HeadLemmas.{follows_told}
use Rattle.dg_machine.proofs.WriteSteps.{charged_none, charged_both, overflows_behind}
use Rattle.dg_machine.proofs.RegisterLemmas.{cells_append}
use Rattle.dg_machine.proofs.Matching.{Left, Matching, pairs_from, left_ends, left_full, left_clash, left_on, left_parts, match_full, match_clash, match_on}

-- ## A store with more of the heap taken

kept_at : (s t : Store) (n k : ℕ) → Kept s t → Kept (at_heap n s) (at_heap k t)
kept_at s t n k h = record { values = h.values; places = h.places; words = h.words; heap_limit = h.heap_limit; trail_limit = h.trail_limit; grows = h.grows }

pub kept_from : (s t : Store) (n : ℕ) → Kept s t → Kept (at_heap n s) t
kept_from s t n h = record { values = h.values; places = h.places; words = h.words; heap_limit = h.heap_limit; trail_limit = h.trail_limit; grows = h.grows }

-- what a unification follows behind cells that were taken, it follows before, with these taken
pub follows_from : (old mid new : Store) (n : ℕ) → Kept old mid → mid.state ≡ (at_heap n old).state → (v w : Value) (r : Result Bool Full) → Follows mid new (unify mid.state.subst v w) r → Follows (at_heap n old) new (unify old.state.subst v w) r
follows_from old mid new n kept e v w (Ok b) f = record {
  agrees = f.agrees ∙ ap (λ (t : State). (unify t.subst v w).agrees) e;
  subst = f.subst ∙ ap (λ (t : State). (unify t.subst v w).subst) e;
  binds = subst (λ t. OnlyBinds t new.state) e f.binds;
}
follows_from old mid new n kept e v w (Err x) f =
    broke_later (at_heap n old) mid new (kept_from old mid n kept) (subst (λ t. OnlyBinds (at_heap n old).state t) (sym e) (more_same (at_heap n old).state)) [] (ap (λ (t : State). t.subst) e)
    (unify mid.state.subst v w) (unify old.state.subst v w) [] (ap (λ (t : State). (unify t.subst v w).subst) (sym e)) x f

-- what is read of a program where none is at hand
pub no_program : CoreProgram
no_program = record { preds = []; closures = []; places = []; objects = []; words = []; sites = 0; entry = 0 }

-- ## Flat terms

new_var : (n v i : ℕ) → i < n → value_of_var (new_vars n v) i ≡ Var (v + i)
new_var zero v i lt = absurd (omega (arith, lt))
new_var (suc n) v zero lt = let e : v ≡ v + 0 = omega arith in ap Var e
new_var (suc n) v (suc i) lt = let e : suc v + i ≡ v + suc i = omega arith in new_var n (suc v) i (omega (arith, lt)) ∙ ap Var e

row_length : (s : Store) (row : Row) (vs : List Value) → RowAt s row vs → length vs ≡ row.captured + row.count
row_length s row vs h = omega (arith, ap length h.is, length-append h.captured h.own, captured_length s row.closure row.captured h.captured h.closure, h.count)

-- a variable of a row of new ones
pub own_var : (s : Store) (row : Row) (number i : ℕ) → IsOwn s row number → i < row.captured + row.count → (r : Ref) → ((vs : List Value) → RowAt s row vs → s.value r ≡ Some (value_of_var vs i)) → s.value r ≡ Some (Var (number + i))
own_var s row number i own lt r h =
    let all = row_length s row (new_vars own.count number) own.vars in
    h (new_vars own.count number) own.vars ∙ ap Some (new_var own.count number i (omega (arith, lt, all, new_vars_length own.count number)))

pub own_kept : (s t : Store) (row : Row) (number : ℕ) → Kept s t → IsOwn s row number → IsOwn t row number
own_kept s t row number kept own = record { count = own.count; vars = row_kept s t row (new_vars own.count number) kept own.vars; low = own.low }

-- a flat pair has a plain head and a flat tail
pub record Parts (h tl : Term) : Type 0 where
  pub head : IsPlain (out-Term h)
  pub tail : Flat tl

list_parts : (n : ℕ) (t h tl : Term) → n ≤ 12 → t ≡ Pair-Term h tl → IsList n t → Parts h tl
list_parts zero t h tl le is f = absurd (subst IsPlain (top_is t h tl is) f)
list_parts (suc n) t h tl le is f =
    let x = subst (IsFlatPair (IsList n)) (top_is t h tl is) f in
    record { head = x.0; tail = record { pairs = n; few = omega (arith, le); is = x.1 } }

pub flat_parts : (t h tl : Term) → t ≡ Pair-Term h tl → Flat t → Parts h tl
flat_parts t h tl is f = list_parts f.pairs t h tl f.few is f.is

-- a term is what is left of a list, of which so many pairs are passed
pub record Rest (t : Term) (count : ℕ) : Type 0 where
  pub pairs : ℕ
  pub is : IsList pairs t
  pub few : count + pairs ≤ 12

pub record RestParts (h tl : Term) (count : ℕ) : Type 0 where
  pub head : IsPlain (out-Term h)
  pub tail : Rest tl (count + 1)
  pub fits : count < 12

parts_of : (n : ℕ) (t h tl : Term) (count : ℕ) → count + n ≤ 12 → t ≡ Pair-Term h tl → IsList n t → RestParts h tl count
parts_of zero t h tl count le is f = absurd (subst IsPlain (top_is t h tl is) f)
parts_of (suc n) t h tl count le is f =
    let x = subst (IsFlatPair (IsList n)) (top_is t h tl is) f in
    record { head = x.0; tail = record { pairs = n; is = x.1; few = omega (arith, le) }; fits = omega (arith, le) }

pub rest_parts : (t h tl : Term) (count : ℕ) → t ≡ Pair-Term h tl → Rest t count → RestParts h tl count
rest_parts t h tl count is r = parts_of r.pairs t h tl count r.few is r.is

no_top : (n : ℕ) (t : Term) (o : term.Term-F Term) → out-Term t ≡ o → ((h tl : Term) → t ≡ Pair-Term h tl → ⊥) → IsFlatPair (IsList n) o → ⊥
no_top n t (term.Pair h tl) e other f = other h tl (pair_is t h tl e)
no_top n t o e other f = f

list_plain : (n : ℕ) (t : Term) → ((h tl : Term) → t ≡ Pair-Term h tl → ⊥) → IsList n t → IsPlain (out-Term t)
list_plain zero t other f = f
list_plain (suc n) t other f = absurd (no_top n t (out-Term t) refl other f)

pub flat_plain : (t : Term) → ((h tl : Term) → t ≡ Pair-Term h tl → ⊥) → Flat t → IsPlain (out-Term t)
flat_plain t other f = list_plain f.pairs t other f.is

pub rest_plain : (t : Term) (count : ℕ) → ((h tl : Term) → t ≡ Pair-Term h tl → ⊥) → Rest t count → IsPlain (out-Term t)
rest_plain t count other r = list_plain r.pairs t other r.is

-- ## Terms

pub flat_at : (ts : List Term) (n : ℕ) (d : Term) → AreFlat ts → n < length ts → Flat (get_or ts n d)
flat_at [] n d h lt = absurd (omega (arith, lt))
flat_at (t ∷ ts) zero d h lt = h.0
flat_at (t ∷ ts) (suc n) d h lt = flat_at ts n d h.1 (omega (arith, lt))

pub cells_at : (p : CoreProgram) (ts : List Term) (n : ℕ) (d : Term) → n < length ts → cells p (drop n ts) ≡ cells_of p (get_or ts n d) + cells p (drop (n + 1) ts)
cells_at p ts n d lt = ap (cells p) (drop_more ts n d lt) ∙ cells_append p (get_or ts n d ∷ []) (drop (n + 1) ts)

-- ## Several

full_at : (s : Store) (n : ℕ) (u : Unified) (e : Full) → UnifyFull (at_heap n s) u e → UnifyFull s u e
full_at s n u full.Heap h = h
full_at s n u full.Trail h = h
full_at s n u full.OutOfMemory h = h

pub reheap : (s t : State) (es fs : Equations) (k : ℕ) → Left s t es fs → Left (record s { heap = k }) (record t { heap = k }) es fs
reheap s t es fs k m = record { binds = record { vars = m.binds.vars; since = m.binds.since; heap = refl; trail = m.binds.trail }; made = m.made; grown = m.grown; before = m.before; same = m.same }

module _ (old now : Arena) (keeps : Keeps old now) (us ws : List Value) (n k : ℕ) (d : Value) (la : n < length us) (lb : n < length ws) (a : Ref) (w : Value) (ea : told (meaning_of now) a ≡ get_or us n d) (ew : w ≡ get_or ws n d)
    (m : Matching (at_heap (meaning_of now).state.heap (meaning_of old)).state (meaning_of now).state us ws n) where
  abbrev old_c : Store
  old_c = at_heap k (meaning_of old)

  abbrev now_c : Store
  now_c = at_heap k (meaning_of now)

  abbrev one : Unified
  one = unify (meaning_of now).state.subst (told (meaning_of now) a) w

  abbrev whole : Unified
  whole = solve (meaning_of old).state.subst (zip us ws)

  kept_c : Kept old_c now_c
  kept_c = kept_at (meaning_of old) (meaning_of now) k k keeps.kept

  m_c : Matching old_c.state now_c.state us ws n
  m_c = reheap (at_heap (meaning_of now).state.heap (meaning_of old)).state (meaning_of now).state (pairs_from us ws 0) (pairs_from us ws n) k m

  pub each_full : (new : Store) (e : Full) → BrokeOff now_c new one e → UnifyFull (meaning_of old) whole e
  each_full new e h =
      let x : BrokeOff old_c new whole e = match_full old_c now_c kept_c now.sound.fits.sound us ws n d la lb a w ea ew m_c new e h in
      full_at (meaning_of old) k whole e x.cause

  pub each_clash : (new : Store) (b : Bool) → b ≡ false → Does now_c new one b → Does (at_heap new.state.heap (meaning_of old)) new whole false
  each_clash new b is h =
      let x : Does old_c new whole false = match_clash old_c now_c kept_c now.sound.fits.sound us ws n d la lb a w ea ew m_c new b is h in
      subst (λ j. Does (at_heap j (meaning_of old)) new whole false) (sym x.binds.heap) x

  pub each_on : (new : Store) (b : Bool) → b ≡ true → Does now_c new one b → Matching (at_heap new.state.heap (meaning_of old)).state new.state us ws (n + 1)
  each_on new b is h =
      let x : Matching old_c.state new.state us ws (n + 1) = match_on old_c now_c kept_c now.sound.fits.sound us ws n d la lb a w ea ew m_c new b is h in
      subst (λ j. Matching (at_heap j (meaning_of old)).state new.state us ws (n + 1)) (sym h.binds.heap) x

-- ## A list that is read

at_same : (s : Store) (n : ℕ) → n ≡ s.state.heap → at_heap n s ≡ s
at_same s n e = ap (λ k. at_heap k s) e

-- a value and a term are left
module _ (old now : Arena) (keeps : Keeps old now) (es : Equations) (at : Ref) (y : Value) (m : Left (meaning_of old).state (meaning_of now).state es ((told (meaning_of now) at, y) ∷ [])) where
  abbrev meant : Unified
  meant = solve (meaning_of old).state.subst es

  last_on : (k : ℕ) (new : Store) (r : Result Bool Full) → Follows (at_heap k (meaning_of now)) new (unify (meaning_of now).state.subst (told (meaning_of now) at) y) r → Follows (at_heap k (meaning_of old)) new meant r
  last_on k new r h =
      let fs : Equations = (told (meaning_of now) at, y) ∷ [] in
      left_ends (at_heap k (meaning_of old)) (at_heap k (meaning_of now)) new es fs (kept_at (meaning_of old) (meaning_of now) k k keeps.kept) (reheap (meaning_of old).state (meaning_of now).state es fs k m) r h

  pub left_last : (k : ℕ) (new : Store) (r : Result Bool Full) → Follows (at_heap k (meaning_of now)) new (unify (meaning_of now).state.subst (told (meaning_of now) at) y) r → Follows (at_heap new.state.heap (meaning_of old)) new meant r
  left_last k new (Ok b) h = subst (λ j. Does (at_heap j (meaning_of old)) new meant b) (sym h.binds.heap) (last_on k new (Ok b) h)
  left_last k new (Err e) h = subst (λ j. BrokeOff (at_heap j (meaning_of old)) new meant e) (sym h.binds.heap) (last_on k new (Err e) h)

  -- the value is a pair, and so is the term
  module _ (first rest : Ref) (sh : ShowsPair (meaning_of now) (walk (meaning_of now).state.subst (told (meaning_of now) at)) first rest) (hv tv : Value) (is : y ≡ pair hv tv) where
    abbrev met : Unified
    met = unify (meaning_of now).state.subst (told (meaning_of now) first) hv

    parts : Left (meaning_of old).state (meaning_of now).state es ((told (meaning_of now) first, hv) ∷ (sh.tail, tv) ∷ [])
    parts =
        let x = left_parts (meaning_of old).state (meaning_of now).state es now.sound.fits.sound (told (meaning_of now) at) y sh.head sh.tail hv tv sh.is is m in
        subst (λ v. Left (meaning_of old).state (meaning_of now).state es ((v, hv) ∷ (sh.tail, tv) ∷ [])) (sym (told_is (meaning_of now) first sh.head sh.head_is)) x

    pub part_full : (new : Store) (e : Full) → BrokeOff (meaning_of now) new met e → Follows (at_heap new.state.heap (meaning_of old)) new meant (Err e)
    part_full new e h =
        let x : BrokeOff (meaning_of old) new meant e = left_full (meaning_of old) (meaning_of now) keeps.kept now.sound.fits.sound es ((sh.tail, tv) ∷ []) (told (meaning_of now) first) hv parts new e h in
        subst (λ s. BrokeOff s new meant e) (sym (at_same (meaning_of old) new.state.heap x.binds.heap)) x

    pub part_clash : (new : Store) (b : Bool) → b ≡ false → Does (meaning_of now) new met b → Follows (at_heap new.state.heap (meaning_of old)) new meant (Ok false)
    part_clash new b e h =
        let x : Does (meaning_of old) new meant false = left_clash (meaning_of old) (meaning_of now) keeps.kept now.sound.fits.sound es ((sh.tail, tv) ∷ []) (told (meaning_of now) first) hv parts new b e h in
        subst (λ s. Does s new meant false) (sym (at_same (meaning_of old) new.state.heap x.binds.heap)) x

    pub part_on : (new : Arena) → Keeps now new → (b : Bool) → b ≡ true → Does (meaning_of now) (meaning_of new) met b → Left (meaning_of old).state (meaning_of new).state es ((told (meaning_of new) rest, tv) ∷ [])
    part_on new kept b e h =
        let x = left_on (meaning_of old) (meaning_of now) keeps.kept now.sound.fits.sound es ((sh.tail, tv) ∷ []) (told (meaning_of now) first) hv parts (meaning_of new) b e h in
        let same = told_is (meaning_of new) rest sh.tail (kept.kept.values rest sh.tail sh.tail_is) in
        subst (λ v. Left (meaning_of old).state (meaning_of new).state es ((v, tv) ∷ [])) (sym same) x

-- a term that was written
pub written_follows : (old mid new : Store) (n : ℕ) (arg whole : Ref) (w : Value) (r : Result Bool Full) → Kept old mid → Made n old mid whole w → Holds old arg → Follows mid new (unify mid.state.subst (told mid arg) (told mid whole)) r → Follows (at_heap (old.state.heap + n) old) new (unify old.state.subst (told old arg) w) r
written_follows old mid new n arg whole w r kept made ha f =
    let v = told old arg in
    follows_from old mid new (old.state.heap + n) kept made.charged.state v w r (follows_told mid new arg whole v w r (kept.values arg v (holds_told old arg ha)) made.value f)

-- what is taken of the heap behind a unification
pub heap_grown : (s t : Store) (k a : ℕ) (u : Unified) (r : Result Bool Full) → Follows (at_heap k s) t u r → a ≤ k → OnOk r (a ≤ t.state.heap)
heap_grown s t k a u (Ok b) f le = omega (arith, f.binds.heap, le)
heap_grown s t k a u (Err e) f le = tt

pub heap_few : (s t : Store) (k n : CoreProgram → ℕ) (u : CoreProgram → Unified) (r : Result Bool Full) → ((p : CoreProgram) → Follows (at_heap (k p) s) t (u p) r) → ((p : CoreProgram) → k p ≤ n p) → OnOk r ((p : CoreProgram) → t.state.heap ≤ n p)
heap_few s t k n u (Ok b) f le = λ p. let x = f p in omega (arith, x.binds.heap, le p)
heap_few s t k n u (Err e) f le = tt

-- ## A pair that is written

-- its parts, and the pair that was made of them
pub holds_first : (mid now : Arena) (first : Ref) (v : Value) → Stays mid now → (meaning_of mid).value first ≡ Some v → Holds (meaning_of now) first
holds_first mid now first v t h = holds_some (meaning_of now) first v (t.keeps.kept.values first v h)

pub whole_there : (s w : Store) (first second whole : Ref) → Kept s w → Holds s first → Holds s second → w.value whole ≡ Some (pair (told s first) (told s second)) → w.value whole ≡ Some (pair (told w first) (told w second))
whole_there s w first second whole kept h k made = rw (kept_told s w first kept h, kept_told s w second kept k) made

-- an unbound variable stays one while nothing is bound
pub shows_kept : (s t : Store) (a r : Ref) → Kept s t → Holds s a → t.state.subst ≡ s.state.subst → ShowsVar s (walk s.state.subst (told s a)) r → ShowsVar t (walk t.state.subst (told t a)) r
shows_kept s t a r kept h same x = record {
  number = x.number;
  is = ap (λ S. walk S (told t a)) same ∙ ap (walk s.state.subst) (kept_told s t a kept h) ∙ x.is;
  value = kept.values r (Var x.number) x.value;
}

pub pair_made : (old now new : Arena) (p : CoreProgram) (vs : List Value) (head tail : Term) (first second whole : Ref) → Stays old now → (meaning_of now).value first ≡ Some (value_of p vs head) → (meaning_of now).value second ≡ Some (value_of p vs tail) → Made 3 (meaning_of now) (meaning_of new) whole (pair (told (meaning_of now) first) (told (meaning_of now) second)) → Made 3 (meaning_of old) (meaning_of new) whole (value_of p vs (Pair-Term head tail))
pair_made old now new p vs head tail first second whole stays v1 v2 made =
    let s = meaning_of now in
    let one = told_is s first (value_of p vs head) v1 in
    let two = told_is s second (value_of p vs tail) v2 in
    record {
      charged = charged_both 0 3 3 (meaning_of old) s (meaning_of new) (omega arith) stays.keeps.kept (charged_none (meaning_of old) s old.sound.heap_fits stays.state) made.charged;
      value = made.value ∙ ap (λ y. Some (pair y (told s second))) one ∙ ap (λ y. Some (pair (value_of p vs head) y)) two ∙ ap Some (sym (value_pair p vs (Pair-Term head tail) head tail refl));
    }

-- ## A list that is written

pub listed_end : (us : List Value) (v w : Value) → listed (us ++ v ∷ []) w ≡ listed us (pair v w)
listed_end [] v w = refl
listed_end (u ∷ us) v w = ap (pair u) (listed_end us v w)

-- so many of some values, from their end on, are in a list
pub record Listing (old now : Store) (vs : List Value) (v : Value) (left : ℕ) (r : Ref) : Type 0 where
  pub count : ℕ
  pub all : count + left ≡ length vs
  pub made : Made (3 * count) old now r (listed (drop left vs) v)

pub listing_starts : (s : Store) (vs : List Value) (v : Value) (left : ℕ) (r : Ref) → s.state.heap ≤ s.heap_limit → left ≡ length vs → s.value r ≡ Some v → Listing s s vs v left r
listing_starts s vs v left r le all there =
    let none : drop left vs ≡ [] = drop_all left vs (omega (arith, all)) in
    record { count = 0; all = omega (arith, all); made = record { charged = charged_none s s le refl; value = there ∙ ap (λ us. Some (listed us v)) (sym none) } }

pub listing_on : (old now : Store) (new : Arena) (vs : List Value) (v : Value) (left : ℕ) (a r q : Ref) (d : Value) → Kept old now → left < length vs → now.value a ≡ Some (get_or vs left d) → Made 3 now (meaning_of new) q (pair (told now a) (told now r)) → Listing old now vs v (left + 1) r → Listing old (meaning_of new) vs v left q
listing_on old now new vs v left a r q d kept lt there made x =
    let more : drop left vs ≡ get_or vs left d ∷ drop (left + 1) vs = drop_more vs left d lt in
    let first = told_is now a (get_or vs left d) there in
    let second = told_is now r (listed (drop (left + 1) vs) v) x.made.value in
    record {
      count = x.count + 1;
      all = omega (arith, x.all);
      made = record {
        charged = charged_both (3 * x.count) 3 (3 * (x.count + 1)) old now (meaning_of new) (omega arith) kept x.made.charged made.charged;
        value = made.value ∙ ap (λ y. Some (pair y (told now r))) first ∙ ap (λ y. Some (pair (get_or vs left d) y)) second ∙ ap (λ us. Some (listed us v)) (sym more);
      };
    }

pub listing_full : (old : Store) (now new : Arena) (vs : List Value) (v : Value) (left n : ℕ) (r : Ref) (e : Full) → Kept old (meaning_of now) → 1 ≤ left → n ≡ length vs → HeapFull 3 (meaning_of now) (meaning_of new) e → Listing old (meaning_of now) vs v left r → Overflows (3 * n) old
listing_full old now new vs v left n r e kept some same h x =
    overflows_behind (3 * x.count) 3 (3 * n) old (meaning_of now) (omega (arith, x.all, some, same)) kept x.made.charged (heap_full 3 now new e h)

pub listing_ends : (old now : Store) (vs : List Value) (v : Value) (left n : ℕ) (r : Ref) → left ≡ 0 → n ≡ length vs → Listing old now vs v left r → Made (3 * n) old now r (listed vs v)
listing_ends old now vs v left n r none same x =
    let all : x.count ≡ n = omega (arith, x.all, none, same) in
    record { charged = subst (λ k. Charged (3 * k) old now) all x.made.charged; value = x.made.value ∙ ap (λ k. Some (listed (drop k vs) v)) none }

-- the first terms of a list are written
pub record Written (s : Store) (refs : List Ref) (whole rest : Value) : Type 0 where
  pub us : List Value
  pub there : RefsAt s refs us
  pub is : whole ≡ listed us rest

pub written_on : (s t : Store) (refs more : List Ref) (r : Ref) (all rest v w : Value) → Kept s t → more ≡ refs ++ r ∷ [] → t.value r ≡ Some v → rest ≡ pair v w → Written s refs all rest → Written t more all w
written_on s t refs more r all rest v w kept pushed there is x = record {
  us = x.us ++ v ∷ [];
  there = subst (λ rs. RefsAt t rs (x.us ++ v ∷ [])) (sym pushed) (refs_end t refs x.us r v (refs_kept s t refs x.us kept x.there) there);
  is = x.is ∙ ap (listed x.us) is ∙ sym (listed_end x.us v w);
}

-- what is written behind values without parts is written from the start
pub written_from : (old mid new : Store) (n k : ℕ) (v w : Value) (result : Result Ref Full) → k ≡ n → old.state.heap ≤ old.heap_limit → Kept old mid → mid.state ≡ old.state → w ≡ v → MatchResult result (λ r. Made n mid new r v) (λ _. Overflows n mid) → MatchResult result (λ r. Made k old new r w) (λ _. Overflows k old)
written_from old mid new n k v w (Ok r) e le kept same is m = record { charged = charged_both 0 n k old mid new (omega (arith, e)) kept (charged_none old mid le same) m.charged; value = m.value ∙ ap Some (sym is) }
written_from old mid new n k v w (Err x) e le kept same is over = overflows_behind 0 n k old mid (omega (arith, e)) kept (charged_none old mid le same) over

-- ## One argument and its term

pub arg_told : (old now : Arena) → Keeps old now → (args : List Ref) (us : List Value) (n : ℕ) → n < length args → RefsAt (meaning_of old) args us → told (meaning_of now) (get_or args n (record { 0 = 0 })) ≡ get_or us n (leaf Nil)
arg_told old now keeps args us n lt h =
    told_is (meaning_of now) (get_or args n (record { 0 = 0 })) (get_or us n (leaf Nil)) (refs_get (meaning_of now) args us n (record { 0 = 0 }) (leaf Nil) (refs_kept (meaning_of old) (meaning_of now) args us keeps.kept h) lt)

pub arg_there : (old now : Arena) → Keeps old now → (args : List Ref) (n : ℕ) → n < length args → AreRefs (meaning_of old) args → Holds (meaning_of now) (get_or args n (record { 0 = 0 }))
arg_there old now keeps args n lt h =
    holds_some (meaning_of now) (get_or args n (record { 0 = 0 })) (get_or h.0 n (leaf Nil)) (refs_get (meaning_of now) args h.0 n (record { 0 = 0 }) (leaf Nil) (refs_kept (meaning_of old) (meaning_of now) args h.0 keeps.kept h.1) lt)
