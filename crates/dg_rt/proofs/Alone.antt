-- The routine that unifies, where it looks at no parts: variables, simple values, and boxes of which the headers differ.
use Rattle.std.proofs.Common.{◌≡◌, ◌≢◌, ℕ, suc, ◌+◌, ◌*◌, ◌<◌, ◌≤◌, inl, inr, Bool, true, false, List, [], ◌∷◌, drop, length, Some, refl, sym, ap, ◌∙◌, subst, arith}
use Rattle.std.specs.Prelude.{◌==◌, if◌then◌else◌, nat_lt}
use Rattle.std.proofs.lemmas.Bool.{eq-eqb, ne_eqb, cases_lt, lt-ltb, le-ltb}
use Rattle.z_lang.specs.declared.act.Act.{Act}
use Rattle.z_lang.specs.State.{State}
use Rattle.z_lang.specs.Runs.{ActsRun as Runs, ActsOutcome as Outcome, Returns, at_label, goes, taken, passed, done, calls, calls_last, returns, behind_label}
use Rattle.dg_meaning.specs.Values.{Label, Value, Var, Node, Values, leaf, NoMore}
use Rattle.dg_meaning.specs.Substitutions.{Substitution, walk, links, resolved}
use Rattle.dg_meaning.specs.inside.Substitutions.{FitsFront}
use Rattle.dg_meaning.specs.Unify.{same_label, Goes, Binds, Clashes, binds, turn, looked, looks, cost, Unified}
use Rattle.dg_meaning.specs.inside.Unify.{unify}
use Rattle.dg_rt.proofs.Standing.{bind_at, occurs_at}
use Rattle.dg_rt.specs.declared.unify.TheConstants.{BIND_ACTS, OCCURS_ACTS, UNIFY_ACTS}
use Rattle.dg_rt.specs.Cells.{bit, at_cell, with_cell}
use Rattle.dg_rt.specs.Shapes.{Cell, Shows, variable}
use Rattle.dg_rt.specs.Moments.{trail_of, Setting, Passes, Moment, in_state, trail_for, IsAt, Fits}
use Rattle.dg_rt.specs.Unifies.{answers, is_full, Unifies, price}
use Rattle.dg_rt.specs.inside.Walks.{Occurs, steps}
use Rattle.dg_rt.specs.inside.Binds.{IsFull}
use Rattle.dg_rt.specs.inside.Depth.{Below}
use Rattle.dg_rt.proofs.Locals.{first, second, put_third, simple_is_positive, boxed_is_negative, older, not_older}
use Rattle.dg_rt.proofs.Showing.{same_place}
use Rattle.dg_rt.proofs.Occurring.{occurs_works}
use Rattle.dg_rt.proofs.Containing.{looked_found}
use Rattle.dg_rt.proofs.Binding.{bind_works, bind_passes, is_older, mark_register, young_at}
use Rattle.dg_rt.proofs.Ways.{bound, clashing, nothing, Simple, simple_small, same_words}
use Rattle.dg_rt.proofs.UnifySteps.{steps_are, ends_map, first_less, second_less, first_below, same_words_test, third_zero, same_fields, read_3, read_4, field}
use Rattle.z_lang.specs.Acts.{answer_of, memory_with}
use Rattle.dg_rt.specs.Areas.{heap_at}
use Rattle.dg_rt.proofs.Following.{tested, writes}
use Rattle.dg_rt.proofs.Cells.{writes_cell}
use Rattle.dg_rt.proofs.OccursSteps.{LookingFor}
use Rattle.dg_meaning.proofs.EqualValues.{equal_values}
use Rattle.dg_meaning.proofs.UnifyLaws.{solve_step}
use Rattle.dg_meaning.proofs.Walks.{resolved_node}
use Rattle.z_lang.specs.declared.act.Atom.TheVariants as atoms
use Rattle.z_lang.specs.declared.act.Comparison.TheVariants as comparisons
use Rattle.z_lang.specs.declared.act.Width.TheVariants as widths

-- ---- one level, with f frames below it

module _ (g : Setting) (f : ℕ) where
  abbrev pub Run : List Act → State → Outcome → State → ℕ → Type 0
  Run acts s o s' n = Runs g.p (suc f) (5 * suc f) UNIFY_ACTS acts s o s' n

  abbrev pub Meant : List Act → List ℕ → List ℕ → ℕ → ℕ → Unified → Type 0
  Meant acts memory locals spent most u = Unifies g (suc f) acts memory locals spent most u

  -- the routine itself is run for values that count less
  abbrev pub Below_it : ℕ → Type 0
  Below_it limit = (S : Substitution) (m : Moment g S) (x y : ℕ) (a b : Value) (ks ls : List ℕ) → Shows g.sh x a → Shows g.sh y b → Below g.sh S ks a → Below g.sh S ls b → length ls ≡ length ks → 3336 ≤ f + length ks → (unify S a b).count < limit →
      Unifies g f UNIFY_ACTS m.memory (x ∷ y ∷ 0 ∷ 0 ∷ 0 ∷ []) 7 (price S ((a, b) ∷ [])) (unify S a b)

  -- and from its beginning, for tails
  abbrev pub Again : ℕ → List ℕ → List ℕ → Type 0
  Again limit ks ls = (S : Substitution) (m : Moment g S) (u w x y z : ℕ) (a b : Value) → Shows g.sh u a → Shows g.sh w b → Below g.sh S ks a → Below g.sh S ls b → (unify S a b).count < limit →
      Meant (drop 1 UNIFY_ACTS) m.memory (u ∷ w ∷ x ∷ y ∷ z ∷ []) 7 (price S ((a, b) ∷ [])) (unify S a b)

  pub longer : {acts acts' : List Act} {memory locals memory' locals' : List ℕ} {spent most : ℕ} {u : Unified} (k : ℕ) → ((o : Outcome) (s' : State) (n : ℕ) → Run acts' (in_state g memory' locals') o s' n → Run acts (in_state g memory locals) o s' (steps k n)) → Meant acts' memory' locals' (k + spent) most u → Meant acts memory locals spent most u
  longer k way r = ends_map (steps k) (λ n. let e = steps_are k n in omega arith) (λ n o s' q. way o s' n q) r

  module _ (S : Substitution) (m : Moment g S) where
    abbrev pub at : ℕ → ℕ → ℕ → ℕ → ℕ → State
    at u w x y z = in_state g m.memory (u ∷ w ∷ x ∷ y ∷ z ∷ [])

    abbrev pub ref : ℕ → ℕ
    ref n = 32768 + g.sh.place n

    -- an answer, and nothing is bound
    pub stays : {acts : List Act} {locals : List ℕ} (k spent most count : ℕ) (ok : Bool) (locals' : List ℕ) → Run acts (in_state g m.memory locals) (Returns (bit ok)) (in_state g m.memory locals') k → k + spent ≤ most → Meant acts m.memory locals spent most (record { agrees = ok; subst = S; count = count })
    stays k spent most count ok locals' r few = answers k m locals' few r

    -- ---- a variable is bound, or the trail is full

    abbrev cells_at : ℕ → ℕ
    cells_at n = heap_at + g.sh.place n

    -- a younger one in its cell alone, an older one by the routine that binds
    data BindEnds (n y : ℕ) (v : Value) : Type 0 where
      is_young : nat_lt n g.since ≡ false → (cells' : ℕ → ℕ) → IsAt g.p.world.layout g.sh g.since g.hb g.S0 g.left g.begun (with_cell m.memory (cells_at n) y) cells' ((n, v) ∷ S) → Fits g ((n, v) ∷ S) → BindEnds n y v
      is_bound : nat_lt n g.since ≡ true → (m' : Moment g ((n, v) ∷ S)) (k : ℕ) → k ≤ 6 → Runs g.p 2 0 BIND_ACTS BIND_ACTS (in_state g m.memory (ref n ∷ y ∷ 0 ∷ 0 ∷ [])) (Returns 1) (in_state g m'.memory (ref n ∷ y ∷ 0 ∷ 0 ∷ [])) k → BindEnds n y v
      no_room : nat_lt n g.since ≡ true → Passes g ((n, v) ∷ S) → IsFull g.p g.begun m.memory g.typed g.output g.drawn (ref n) y → BindEnds n y v

    bind_ends : (n y : ℕ) (v : Value) → n < g.sh.vars → Shows g.sh y v → FitsFront n v S → BindEnds n y v
    bind_ends n y v old s fit = by_age (nat_lt n g.since) refl
      where
        by_age : (t : Bool) → nat_lt n g.since ≡ t → BindEnds n y v
        by_age false e = is_young e _ (young_at g.p g.has g.sh g.is g.since g.hb g.marked g.S0 g.left g.begun 2 0 m.memory g.typed g.output g.drawn m.cells S m.at n y v old fit s e) (let so_far = m.room in let none : trail_for g.since n ≡ 0 = rw e refl in omega arith)
        by_age true e =
            elim (cases_lt (2000 + trail_of g.since g.S0) (g.left + trail_of g.since ((n, v) ∷ S))) [
              | inl over ↦ no_room e over (bind_passes g.p g.has g.sh g.is g.since g.hb g.marked g.S0 g.left g.begun 2 0 m.memory g.typed g.output g.drawn m.cells S m.at n y v old fit s m.room over)
              | inr room ↦ (let b = bind_works g.p g.has g.sh g.is g.since g.hb g.marked g.S0 g.left g.begun 2 0 m.memory g.typed g.output g.drawn m.cells S m.at n y v old fit s room in
                  is_bound e (record { memory = b.memory'; cells = b.cells'; at = b.at; room = room }) b.count b.few b.runs)
            ]

    first_old : (n w x y z : ℕ) → n < g.sh.vars → (t : Bool) → nat_lt n g.since ≡ t → answer_of g.p (at (ref n) w x y z) (record { comparison = comparisons.Less; first = atoms.Var 1; second = atoms.Var 18; answer = true }) ≡ Some t
    first_old n w x y z old t e =
        let room = g.has.mapped.room in
        tested g.p (at (ref n) w x y z) comparisons.Less (atoms.Var 1) (atoms.Var 18) true (ref n) (m.cells 2) t (first g.p m.memory (ref n) w x y z g.typed g.drawn g.output) (mark_register g.p (at (ref n) w x y z) m.cells m.at.holds (omega arith)) (is_older g.is g.marked m.cells m.at.mark n old t e)

    second_old : (n u x y z : ℕ) → n < g.sh.vars → (t : Bool) → nat_lt n g.since ≡ t → answer_of g.p (at u (ref n) x y z) (record { comparison = comparisons.Less; first = atoms.Var 2; second = atoms.Var 18; answer = true }) ≡ Some t
    second_old n u x y z old t e =
        let room = g.has.mapped.room in
        tested g.p (at u (ref n) x y z) comparisons.Less (atoms.Var 2) (atoms.Var 18) true (ref n) (m.cells 2) t (second g.p m.memory u (ref n) x y z g.typed g.drawn g.output) (mark_register g.p (at u (ref n) x y z) m.cells m.at.holds (omega arith)) (is_older g.is g.marked m.cells m.at.mark n old t e)

    written : (n y : ℕ) → n < g.sh.vars → memory_with g.p.world.layout m.memory widths.Word 670 (ref n) y ≡ Some (with_cell m.memory (cells_at n) y)
    written n y old =
        let room = g.has.mapped.room in
        let within = g.is.within n old in
        writes_cell g.p.world.layout m.memory m.cells (at_cell heap_at) (ref n) y (cells_at n) m.at.holds (omega arith) (omega arith)

    -- the first is bound
    first_bound : {n w x y z : ℕ} {v : Value} (spent most count : ℕ) → 2 ≤ f → n < g.sh.vars → BindEnds n w v → 9 + spent ≤ most → Meant (drop 37 UNIFY_ACTS) m.memory (ref n ∷ w ∷ x ∷ y ∷ z ∷ []) spent most (record { agrees = true; subst = (n, v) ∷ S; count = count })
    unfolding behind_label
    first_bound {n} {w} {x} {y} {z} spent most count two old (is_young e cells' now_at room) few =
        answers 3 (record { memory = with_cell m.memory (cells_at n) w; cells = cells'; at = now_at; room = room }) (ref n ∷ w ∷ x ∷ y ∷ z ∷ []) (omega arith)
        (passed (first_old n w x y z old false e)
        (done (writes g.p (at (ref n) w x y z) widths.Word (atoms.Num 670) (atoms.Var 1) (atoms.Var 2) 670 (ref n) w (with_cell m.memory (cells_at n) w) refl (first g.p m.memory (ref n) w x y z g.typed g.drawn g.output) (second g.p m.memory (ref n) w x y z g.typed g.drawn g.output) (written n w old)) (returns refl)))
    first_bound {n} {w} {x} {y} {z} spent most count two old (is_bound e m' k le r) few =
        answers (suc (suc k + 1)) m' (ref n ∷ w ∷ 1 ∷ y ∷ z ∷ []) (omega arith)
        (taken (first_old n w x y z old true e) refl
        (calls {f' = 2} {w' = 0} {n = k} {n' = 1} {xs = (ref n, w, 0)} refl (rw (first g.p m.memory (ref n) w x y z g.typed g.drawn g.output, second g.p m.memory (ref n) w x y z g.typed g.drawn g.output) refl) (bind_at g.p g.has) (omega arith) (omega arith) r (put_third g.p m'.memory (ref n) w x y z 1 g.typed g.drawn g.output) (returns refl)))
    first_bound {n} {w} {x} {y} {z} spent most count two old (no_room e over b) few =
        let cheap = b.few in
        is_full (suc (suc b.count)) m.memory [] over (omega arith)
        (taken (first_old n w x y z old true e) refl
        (calls_last {f' = 2} {w' = 0} {n = b.count} {xs = (ref n, w, 0)} refl (rw (first g.p m.memory (ref n) w x y z g.typed g.drawn g.output, second g.p m.memory (ref n) w x y z g.typed g.drawn g.output) refl) (bind_at g.p g.has) (omega arith) (omega arith) b.runs))

    -- the second is bound
    second_bound : {n u x y z : ℕ} {v : Value} (spent most count : ℕ) → 2 ≤ f → n < g.sh.vars → BindEnds n u v → 9 + spent ≤ most → Meant (drop 53 UNIFY_ACTS) m.memory (u ∷ ref n ∷ x ∷ y ∷ z ∷ []) spent most (record { agrees = true; subst = (n, v) ∷ S; count = count })
    unfolding behind_label
    second_bound {n} {u} {x} {y} {z} spent most count two old (is_young e cells' now_at room) few =
        answers 3 (record { memory = with_cell m.memory (cells_at n) u; cells = cells'; at = now_at; room = room }) (u ∷ ref n ∷ x ∷ y ∷ z ∷ []) (omega arith)
        (passed (second_old n u x y z old false e)
        (done (writes g.p (at u (ref n) x y z) widths.Word (atoms.Num 670) (atoms.Var 2) (atoms.Var 1) 670 (ref n) u (with_cell m.memory (cells_at n) u) refl (second g.p m.memory u (ref n) x y z g.typed g.drawn g.output) (first g.p m.memory u (ref n) x y z g.typed g.drawn g.output) (written n u old)) (returns refl)))
    second_bound {n} {u} {x} {y} {z} spent most count two old (is_bound e m' k le r) few =
        answers (suc (suc k + 1)) m' (u ∷ ref n ∷ 1 ∷ y ∷ z ∷ []) (omega arith)
        (taken (second_old n u x y z old true e) refl
        (calls {f' = 2} {w' = 0} {n = k} {n' = 1} {xs = (ref n, u, 0)} refl (rw (second g.p m.memory u (ref n) x y z g.typed g.drawn g.output, first g.p m.memory u (ref n) x y z g.typed g.drawn g.output) refl) (bind_at g.p g.has) (omega arith) (omega arith) r (put_third g.p m'.memory u (ref n) x y z 1 g.typed g.drawn g.output) (returns refl)))
    second_bound {n} {u} {x} {y} {z} spent most count two old (no_room e over b) few =
        let cheap = b.few in
        is_full (suc (suc b.count)) m.memory [] over (omega arith)
        (taken (second_old n u x y z old true e) refl
        (calls_last {f' = 2} {w' = 0} {n = b.count} {xs = (ref n, u, 0)} refl (rw (second g.p m.memory u (ref n) x y z g.typed g.drawn g.output, first g.p m.memory u (ref n) x y z g.typed g.drawn g.output) refl) (bind_at g.p g.has) (omega arith) (omega arith) b.runs))

    -- ---- two values, behind the walks

    module _ (a b : Value) where
      abbrev pub at_most : ℕ
      at_most = price S ((a, b) ∷ [])

      -- both walks, and 7 that are left
      abbrev pub base : ℕ
      base = 13 + 5 * (links S a + links S b)

      abbrev pub Done : List Act → ℕ → ℕ → ℕ → ℕ → ℕ → Type 0
      Done acts u w x y z = Meant acts m.memory (u ∷ w ∷ x ∷ y ∷ z ∷ []) base at_most (unify S a b)

      pub as_meant : {acts : List Act} {locals : List ℕ} {spent : ℕ} {r : Unified} → unify S a b ≡ r → Meant acts m.memory locals spent at_most r → Meant acts m.memory locals spent at_most (unify S a b)
      as_meant {acts} {locals} {spent} e d = subst (λ (r : Unified). Meant acts m.memory locals spent at_most r) (sym e) d

      -- a variable and a box, behind the call of the test of containment
      looks_at : ℕ → Value → Bool × ℕ
      looks_at n v = looked (resolved S v) S n v (walk S v)

      abbrev Tests : ℕ → ℕ → Value → Type 0
      Tests n y v = Occurs g.p f OCCURS_ACTS m.memory g.typed g.output g.drawn (ref n) y 0 0 (looked (resolved S v) S n v (walk S v))

      abbrev finds : ℕ → Value → Bool
      finds n v = (looked (resolved S v) S n v (walk S v)).0

      first_tested : (n w x y z : ℕ) (v : Value) → 2 ≤ f → n < g.sh.vars → Shows g.sh w v → (oc : Tests n w v) → (t : Bool) → finds n v ≡ t → turn S a b ≡ (if t then Clashes else Binds n v) → cost S a b ≡ 2 + links S a + links S b + looks S n v → Meant (drop 34 UNIFY_ACTS) m.memory (ref n ∷ w ∷ x ∷ y ∷ z ∷ []) (1 + base) at_most (unify S a b)
      unfolding behind_label
      first_tested n w x y z v two old s oc true found e price_is =
          let answer = clashing S a b m.at.stands.sound e in
          let count = ap (λ (r : Unified). r.count) answer in
          let few = oc.few in
          let one : bit (looked (resolved S v) S n v (walk S v)).0 ≡ 1 = rw found refl in
          as_meant answer (stays (suc oc.count + 2) (1 + base) at_most (cost S a b + 0) false (ref n ∷ w ∷ 1 ∷ y ∷ z ∷ [])
          (calls {f' = f} {w' = 4 * f} {n = oc.count} {n' = 2} {xs = (ref n, w, 0)} refl (rw (first g.p m.memory (ref n) w x y z g.typed g.drawn g.output, second g.p m.memory (ref n) w x y z g.typed g.drawn g.output) refl) (occurs_at g.p g.has) (omega arith) (omega arith) oc.runs (rw one (put_third g.p m.memory (ref n) w x y z 1 g.typed g.drawn g.output))
          (taken (third_zero g m.memory (ref n) w 1 y z false false refl) refl (returns refl))) (omega arith))
      first_tested n w x y z v two old s oc false found e price_is =
          let answer = bound S a b n v m.at.stands.sound e in
          let count = ap (λ (r : Unified). r.count) answer.is in
          let few = oc.few in
          let none : bit (looked (resolved S v) S n v (walk S v)).0 ≡ 0 = rw found refl in
          let later = first_bound {n = n} {w = w} {x = 0} {y = y} {z = z} {v = v} (suc oc.count + 1 + (1 + base)) at_most (cost S a b + 0) two old (bind_ends n w v old s answer.fits) (omega arith) in
          as_meant {acts = drop 34 UNIFY_ACTS} {locals = ref n ∷ w ∷ x ∷ y ∷ z ∷ []} {spent = 1 + base} answer.is (ends_map (λ i. suc oc.count + suc i) (λ i. omega arith) (λ i o s' q. calls {f' = f} {w' = 4 * f} {n = oc.count} {n' = suc i} {xs = (ref n, w, 0)} refl (rw (first g.p m.memory (ref n) w x y z g.typed g.drawn g.output, second g.p m.memory (ref n) w x y z g.typed g.drawn g.output) refl) (occurs_at g.p g.has) (omega arith) (omega arith) oc.runs (rw none (put_third g.p m.memory (ref n) w x y z 0 g.typed g.drawn g.output))
          (passed (third_zero g m.memory (ref n) w 0 y z true false refl) (at_label q))) later)

      second_tested : (n u x y z : ℕ) (v : Value) → 2 ≤ f → n < g.sh.vars → Shows g.sh u v → (oc : Tests n u v) → (t : Bool) → finds n v ≡ t → turn S a b ≡ (if t then Clashes else Binds n v) → cost S a b ≡ 2 + links S a + links S b + looks S n v → Meant (drop 50 UNIFY_ACTS) m.memory (u ∷ ref n ∷ x ∷ y ∷ z ∷ []) (1 + base) at_most (unify S a b)
      unfolding behind_label
      second_tested n u x y z v two old s oc true found e price_is =
          let answer = clashing S a b m.at.stands.sound e in
          let count = ap (λ (r : Unified). r.count) answer in
          let few = oc.few in
          let one : bit (looked (resolved S v) S n v (walk S v)).0 ≡ 1 = rw found refl in
          as_meant answer (stays (suc oc.count + 2) (1 + base) at_most (cost S a b + 0) false (u ∷ ref n ∷ 1 ∷ y ∷ z ∷ [])
          (calls {f' = f} {w' = 4 * f} {n = oc.count} {n' = 2} {xs = (ref n, u, 0)} refl (rw (second g.p m.memory u (ref n) x y z g.typed g.drawn g.output, first g.p m.memory u (ref n) x y z g.typed g.drawn g.output) refl) (occurs_at g.p g.has) (omega arith) (omega arith) oc.runs (rw one (put_third g.p m.memory u (ref n) x y z 1 g.typed g.drawn g.output))
          (taken (third_zero g m.memory u (ref n) 1 y z false false refl) refl (returns refl))) (omega arith))
      second_tested n u x y z v two old s oc false found e price_is =
          let answer = bound S a b n v m.at.stands.sound e in
          let count = ap (λ (r : Unified). r.count) answer.is in
          let few = oc.few in
          let none : bit (looked (resolved S v) S n v (walk S v)).0 ≡ 0 = rw found refl in
          let later = second_bound {n = n} {u = u} {x = 0} {y = y} {z = z} {v = v} (suc oc.count + 1 + (1 + base)) at_most (cost S a b + 0) two old (bind_ends n u v old s answer.fits) (omega arith) in
          as_meant {acts = drop 50 UNIFY_ACTS} {locals = u ∷ ref n ∷ x ∷ y ∷ z ∷ []} {spent = 1 + base} answer.is (ends_map (λ i. suc oc.count + suc i) (λ i. omega arith) (λ i o s' q. calls {f' = f} {w' = 4 * f} {n = oc.count} {n' = suc i} {xs = (ref n, u, 0)} refl (rw (second g.p m.memory u (ref n) x y z g.typed g.drawn g.output, first g.p m.memory u (ref n) x y z g.typed g.drawn g.output) refl) (occurs_at g.p g.has) (omega arith) (omega arith) oc.runs (rw none (put_third g.p m.memory u (ref n) x y z 0 g.typed g.drawn g.output))
          (passed (third_zero g m.memory u (ref n) 0 y z true false refl) (at_label q))) later)

      turn_binds : (n : ℕ) (v : Value) → binds S n v ≡ (if finds n v then Clashes else Binds n v)
      turn_binds n v = ap (λ (t : Bool). if t then Clashes else Binds n v) (sym (looked_found S m.at.stands.sound n v))

      -- a simple value contains no variable
      leaf_binds : (n : ℕ) (h : Label) → binds S n (leaf h) ≡ Binds n (leaf h)
      leaf_binds n h = rw (resolved_node S h NoMore) refl

      -- ---- variables

      pub two_same : (n i x y z : ℕ) → n < g.sh.vars → n ≡ i → walk S a ≡ Var n → walk S b ≡ Var i → Done (drop 60 UNIFY_ACTS) (ref n) (ref i) x y z
      unfolding behind_label
      two_same n i x y z old same ea eb =
          let e : turn S a b ≡ Goes [] = rw (ea, eb, eq-eqb n i same) refl in
          let answer = nothing S a b m.at.stands.sound e in
          let count = ap (λ (r : Unified). r.count) answer in
          as_meant answer (stays 2 base at_most (cost S a b + 0) true (ref n ∷ ref i ∷ x ∷ y ∷ z ∷ [])
          (taken (same_words_test g m.memory (ref n) (ref i) x y z true (eq-eqb (ref n) (ref i) (ap (λ (j : ℕ). ref j) same))) refl (returns refl)) (omega arith))

      different : (n i : ℕ) → n < g.sh.vars → i < g.sh.vars → n ≢ i → (ref n == ref i) ≡ false
      different n i old old' ne = ne_eqb (ref n) (ref i) (λ (e : ref n ≡ ref i). ne (same_place g.is n i old old' (omega arith)))

      pub second_younger : (n i x y z : ℕ) → 2 ≤ f → n < g.sh.vars → i < g.sh.vars → n < i → walk S a ≡ Var n → walk S b ≡ Var i → Done (drop 60 UNIFY_ACTS) (ref n) (ref i) x y z
      unfolding behind_label
      second_younger n i x y z two old old' lt ea eb =
          let within' = g.is.within i old' in
          let ne : n ≢ i = λ (e : n ≡ i). (omega arith) in
          let e : turn S a b ≡ Binds i (Var n) = rw (ea, eb, ne_eqb n i ne, lt-ltb n i lt) refl in
          let answer = bound S a b i (Var n) m.at.stands.sound e in
          let count = ap (λ (r : Unified). r.count) answer.is in
          as_meant answer.is (longer 2
          (λ o s' k r. passed (same_words_test g m.memory (ref n) (ref i) x y z false (different n i old old' ne))
          (taken (first_below g m.memory (ref n) (ref i) x y z true (older (g.sh.place n) (g.sh.place i) (g.is.order n i lt old') (omega arith))) refl r))
          (second_bound (2 + base) at_most (cost S a b + 0) two old' (bind_ends i (ref n) (Var n) old' (variable n old) answer.fits) (omega arith)))

      pub first_younger : (n i x y z : ℕ) → 2 ≤ f → n < g.sh.vars → i < g.sh.vars → i < n → walk S a ≡ Var n → walk S b ≡ Var i → Done (drop 60 UNIFY_ACTS) (ref n) (ref i) x y z
      unfolding behind_label
      first_younger n i x y z two old old' lt ea eb =
          let within = g.is.within n old in
          let order = g.is.order i n lt old in
          let ne : n ≢ i = λ (e : n ≡ i). (omega arith) in
          let e : turn S a b ≡ Binds n (Var i) = rw (ea, eb, ne_eqb n i ne, le-ltb n i (omega arith)) refl in
          let answer = bound S a b n (Var i) m.at.stands.sound e in
          let count = ap (λ (r : Unified). r.count) answer.is in
          as_meant answer.is (longer 3
          (λ o s' k r. passed (same_words_test g m.memory (ref n) (ref i) x y z false (different n i old old' ne))
          (passed (first_below g m.memory (ref n) (ref i) x y z false (not_older (g.sh.place n) (g.sh.place i) (omega arith) (omega arith)))
          (goes refl r)))
          (first_bound (3 + base) at_most (cost S a b + 0) two old (bind_ends n (ref i) (Var i) old (variable i old') answer.fits) (omega arith)))

      -- ---- a variable and a simple value

      pub first_to_simple : (n w x y z : ℕ) (h : Label) → 2 ≤ f → n < g.sh.vars → Simple w h → Shows g.sh w (leaf h) → walk S a ≡ Var n → walk S b ≡ leaf h → Done (drop 33 UNIFY_ACTS) (ref n) w x y z
      unfolding behind_label
      first_to_simple n w x y z h two old q s ea eb =
          let e : turn S a b ≡ Binds n (leaf h) = rw (ea, eb) (leaf_binds n h) in
          let answer = bound S a b n (leaf h) m.at.stands.sound e in
          let count = ap (λ (r : Unified). r.count) answer.is in
          as_meant answer.is (longer 1
          (λ o s' k r. taken (second_less g m.memory (ref n) w x y z 0 false false (simple_is_positive w (simple_small q))) refl r)
          (first_bound (1 + base) at_most (cost S a b + 0) two old (bind_ends n w (leaf h) old s answer.fits) (omega arith)))

      pub second_to_simple : (n u x y z : ℕ) (h : Label) → 2 ≤ f → n < g.sh.vars → Simple u h → Shows g.sh u (leaf h) → walk S a ≡ leaf h → walk S b ≡ Var n → Done (drop 49 UNIFY_ACTS) u (ref n) x y z
      unfolding behind_label
      second_to_simple n u x y z h two old q s ea eb =
          let e : turn S a b ≡ Binds n (leaf h) = rw (ea, eb) (leaf_binds n h) in
          let answer = bound S a b n (leaf h) m.at.stands.sound e in
          let count = ap (λ (r : Unified). r.count) answer.is in
          as_meant answer.is (longer 1
          (λ o s' k r. taken (first_less g m.memory u (ref n) x y z 0 false false (simple_is_positive u (simple_small q))) refl r)
          (second_bound (1 + base) at_most (cost S a b + 0) two old (bind_ends n u (leaf h) old s answer.fits) (omega arith)))

      -- ---- a variable and a box

      abbrev looking_for : (n : ℕ) → n < g.sh.vars → LookingFor
      looking_for n old = record { p = g.p; has = g.has; sh = g.sh; is = g.is; memory = m.memory; typed = g.typed; output = g.output; drawn = g.drawn; cells = m.cells; h = m.at.holds; S = S; st = m.at.stands; n = n; old = old }

      pub first_to_box : (n k x y z : ℕ) (h : Label) (us : Values) (ls : List ℕ) → 2 ≤ f → n < g.sh.vars → k < 10000 → Shows g.sh (49152 + k) (Node h us) → Below g.sh S ls (Node h us) → 3335 ≤ f + length ls → walk S a ≡ Var n → walk S b ≡ Node h us → Done (drop 33 UNIFY_ACTS) (ref n) (49152 + k) x y z
      first_to_box n k x y z h us ls two old small s below few ea eb =
          let oc = occurs_works (looking_for n old) f (49152 + k) (Node h us) ls s below (omega arith) in
          let e : turn S a b ≡ binds S n (Node h us) = rw (ea, eb) refl in
          let price_is : cost S a b ≡ 2 + links S a + links S b + looks S n (Node h us) = rw (ea, eb) refl in
          longer 1
          (λ o s' i r. passed (second_less g m.memory (ref n) (49152 + k) x y z 0 true false (boxed_is_negative k (omega arith))) r)
          (first_tested n (49152 + k) x y z (Node h us) two old s oc _ refl (e ∙ turn_binds n (Node h us)) price_is)

      pub second_to_box : (n k x y z : ℕ) (h : Label) (us : Values) (ks : List ℕ) → 2 ≤ f → n < g.sh.vars → k < 10000 → Shows g.sh (49152 + k) (Node h us) → Below g.sh S ks (Node h us) → 3335 ≤ f + length ks → walk S a ≡ Node h us → walk S b ≡ Var n → Done (drop 49 UNIFY_ACTS) (49152 + k) (ref n) x y z
      second_to_box n k x y z h us ks two old small s below few ea eb =
          let oc = occurs_works (looking_for n old) f (49152 + k) (Node h us) ks s below (omega arith) in
          let e : turn S a b ≡ binds S n (Node h us) = rw (ea, eb) refl in
          let price_is : cost S a b ≡ 2 + links S a + links S b + looks S n (Node h us) = rw (ea, eb) refl in
          longer 1
          (λ o s' i r. passed (first_less g m.memory (49152 + k) (ref n) x y z 0 true false (boxed_is_negative k (omega arith))) r)
          (second_tested n (49152 + k) x y z (Node h us) two old s oc _ refl (e ∙ turn_binds n (Node h us)) price_is)

      -- ---- two other values of one word, or of which one is simple

      in_full : (r : Unified) → r.agrees ≡ true → r.subst ≡ S → r ≡ record { agrees = true; subst = S; count = r.count }
      in_full r e q = subst (λ (s : Substitution). r ≡ record { agrees = true; subst = s; count = r.count }) q (subst (λ (t : Bool). r ≡ record { agrees = t; subst = r.subst; count = r.count }) e refl)

      pub same : (u w x y z : ℕ) → u ≡ w → resolved S a ≡ resolved S b → Done (drop 5 UNIFY_ACTS) u w x y z
      unfolding behind_label
      same u w x y z e equal =
          let silent = equal_values S a b m.at.stands.sound equal in
          let step = ap (λ (r : Unified). r.count) (solve_step S (a, b) [] m.at.stands.sound) in
          as_meant (in_full (unify S a b) silent.0 silent.1) (stays 2 base at_most (unify S a b).count true (u ∷ w ∷ x ∷ y ∷ z ∷ []) (taken (same_words_test g m.memory u w x y z true (eq-eqb u w e)) refl (returns refl)) (omega arith))

      pub two_simple : (u w x y z : ℕ) (h h' : Label) → Simple u h → Simple w h' → walk S a ≡ leaf h → walk S b ≡ leaf h' → (t : Bool) → same_label h h' ≡ t → Done (drop 5 UNIFY_ACTS) u w x y z
      unfolding behind_label
      two_simple u w x y z h h' s s' ea eb true e =
          let is_it : turn S a b ≡ Goes [] = rw (ea, eb, e) refl in
          let answer = nothing S a b m.at.stands.sound is_it in
          let count = ap (λ (r : Unified). r.count) answer in
          as_meant answer (stays 2 base at_most (cost S a b + 0) true (u ∷ w ∷ x ∷ y ∷ z ∷ []) (taken (same_words_test g m.memory u w x y z true (same_words s s' ∙ e)) refl (returns refl)) (omega arith))
      two_simple u w x y z h h' s s' ea eb false e =
          let is_it : turn S a b ≡ Clashes = rw (ea, eb, e) refl in
          let answer = clashing S a b m.at.stands.sound is_it in
          let count = ap (λ (r : Unified). r.count) answer in
          as_meant answer (stays 3 base at_most (cost S a b + 0) false (u ∷ w ∷ x ∷ y ∷ z ∷ [])
          (passed (same_words_test g m.memory u w x y z false (same_words s s' ∙ e))
          (taken (first_less g m.memory u w x y z 0 false false (simple_is_positive u (simple_small s))) refl (returns refl))) (omega arith))

      pub simple_box : (u k x y z : ℕ) (h h' : Label) (us : Values) → Simple u h → k < 10000 → same_label h h' ≡ false → walk S a ≡ leaf h → walk S b ≡ Node h' us → Done (drop 5 UNIFY_ACTS) u (49152 + k) x y z
      unfolding behind_label
      simple_box u k x y z h h' us s small unlike ea eb =
          let is_it : turn S a b ≡ Clashes = rw (ea, eb, unlike) refl in
          let answer = clashing S a b m.at.stands.sound is_it in
          let count = ap (λ (r : Unified). r.count) answer in
          let lt = simple_small s in
          as_meant answer (stays 3 base at_most (cost S a b + 0) false (u ∷ (49152 + k) ∷ x ∷ y ∷ z ∷ [])
          (passed (same_words_test g m.memory u (49152 + k) x y z false (ne_eqb u (49152 + k) (λ (e : u ≡ 49152 + k). (omega arith))))
          (taken (first_less g m.memory u (49152 + k) x y z 0 false false (simple_is_positive u lt)) refl (returns refl))) (omega arith))

      pub box_simple : (k w x y z : ℕ) (h h' : Label) (vs : Values) → Simple w h' → k < 10000 → same_label h h' ≡ false → walk S a ≡ Node h vs → walk S b ≡ leaf h' → Done (drop 5 UNIFY_ACTS) (49152 + k) w x y z
      unfolding behind_label
      box_simple k w x y z h h' vs s small unlike ea eb =
          let is_it : turn S a b ≡ Clashes = rw (ea, eb, unlike) refl in
          let answer = clashing S a b m.at.stands.sound is_it in
          let count = ap (λ (r : Unified). r.count) answer in
          let lt = simple_small s in
          as_meant answer (stays 4 base at_most (cost S a b + 0) false ((49152 + k) ∷ w ∷ x ∷ y ∷ z ∷ [])
          (passed (same_words_test g m.memory (49152 + k) w x y z false (ne_eqb (49152 + k) w (λ (e : 49152 + k ≡ w). (omega arith))))
          (passed (first_less g m.memory (49152 + k) w x y z 0 true false (boxed_is_negative k (omega arith)))
          (taken (second_less g m.memory (49152 + k) w x y z 0 false false (simple_is_positive w lt)) refl (returns refl)))) (omega arith))

      -- ---- two boxes

      -- up to the test of the headers
      pub to_headers : (k k' header header' x y z : ℕ) → k ≢ k' → k + 2 < 10000 → k' + 2 < 10000 → Cell g.sh k header → Cell g.sh k' header' → (o : Outcome) (s' : State) (n : ℕ) → Run (drop 10 UNIFY_ACTS) (at (49152 + k) (49152 + k') header header' z) o s' n → Run (drop 5 UNIFY_ACTS) (at (49152 + k) (49152 + k') x y z) o s' (steps 5 n)
      to_headers k k' header header' x y z apart lt lt' c c' o s' n r =
          passed (same_words_test g m.memory (49152 + k) (49152 + k') x y z false (ne_eqb (49152 + k) (49152 + k') (λ (e : 49152 + k ≡ 49152 + k'). apart (omega arith))))
          (passed (first_less g m.memory (49152 + k) (49152 + k') x y z 0 true false (boxed_is_negative k (omega arith)))
          (passed (second_less g m.memory (49152 + k) (49152 + k') x y z 0 true false (boxed_is_negative k' (omega arith)))
          (done (read_3 g m.memory (49152 + k) (49152 + k') x y z 33438 header (field g S m 33438 0 k k header c (omega arith) (omega arith) refl))
          (done (read_4 g m.memory (49152 + k) (49152 + k') header y z 33438 header' (field g S m 33438 0 k' k' header' c' (omega arith) (omega arith) refl)) r))))

      -- headers that differ
      pub other_headers : (k k' header header' x y z : ℕ) → k ≢ k' → k + 2 < 10000 → k' + 2 < 10000 → Cell g.sh k header → Cell g.sh k' header' → header ≢ header' → turn S a b ≡ Clashes → Done (drop 5 UNIFY_ACTS) (49152 + k) (49152 + k') x y z
      unfolding behind_label
      other_headers k k' header header' x y z apart lt lt' c c' ne is_it =
          let answer = clashing S a b m.at.stands.sound is_it in
          let count = ap (λ (r : Unified). r.count) answer in
          as_meant answer (stays 7 base at_most (cost S a b + 0) false ((49152 + k) ∷ (49152 + k') ∷ header ∷ header' ∷ z ∷ [])
          (to_headers k k' header header' x y z apart lt lt' c c' (Returns 0) (at (49152 + k) (49152 + k') header header' z) 2
          (taken (same_fields g m.memory (49152 + k) (49152 + k') header header' z false (ne_eqb header header' ne)) refl (returns refl))) (omega arith))
