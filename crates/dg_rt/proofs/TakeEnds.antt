-- The routine that unifies an argument with a term of which each variable is new, where it looks at no parts.
use Rattle.std.proofs.Common.{◌≡◌, ◌≢◌, ℕ, suc, ◌+◌, ◌*◌, ◌<◌, ◌≤◌, inl, inr, Bool, true, false, List, [], ◌∷◌, drop, Some, refl, sym, ap, ◌∙◌, subst, arith}
use Rattle.std.specs.Prelude.{◌==◌}
use Rattle.std.proofs.lemmas.Bool.{eq-eqb, ne_eqb, cases_lt}
use Rattle.z_model.specs.declared.end.Halt.TheVariants.{AtQuit}
use Rattle.z_lang.specs.declared.act.Atom.TheVariants as atoms
use Rattle.z_lang.specs.declared.act.Comparison.TheVariants as comparisons
use Rattle.z_lang.specs.declared.act.Act.{Act}
use Rattle.z_lang.specs.declared.act.Act.TheVariants as acts
use Rattle.z_lang.specs.State.{State}
use Rattle.z_lang.specs.Runs.{ActsRun as Runs, ActsOutcome as Outcome, Returns, Stops, at_label, taken, passed, done, calls, calls_last, returns, behind_label}
use Rattle.dg_meaning.specs.Values.{Label, Value, Var, Node, Values, leaf}
use Rattle.dg_meaning.specs.Substitutions.{Substitution, walk, links}
use Rattle.dg_meaning.specs.Unify.{same_label, Goes, Binds, Clashes, turn, cost, Unified}
use Rattle.dg_meaning.specs.inside.Unify.{unify}
use Rattle.dg_rt.specs.declared.heads.TheConstants.{TAKE_ACTS}
use Rattle.dg_rt.specs.Cells.{compared, with_cell, Holds}
use Rattle.dg_rt.specs.Areas.{clash_reg}
use Rattle.dg_rt.specs.Shapes.{Shape, Cell, Shows}
use Rattle.dg_rt.specs.Moments.{trail_of, Setting, Moment, in_state}
use Rattle.dg_rt.specs.Unifies.{price}
use Rattle.dg_rt.specs.inside.Walks.{steps}
use Rattle.dg_rt.proofs.Standing.{bind_at}
use Rattle.dg_rt.proofs.Following.{copies, puts}
use Rattle.dg_rt.proofs.Locals.{get_1, get_2, set_3, reference, simple_no_reference, boxed_no_reference, simple_is_positive, boxed_is_negative}
use Rattle.dg_rt.proofs.Binding.{bind_works, bind_passes}
use Rattle.dg_rt.proofs.Ways.{bound, clashing, nothing, Simple, simple_small, same_words}
use Rattle.dg_rt.proofs.Storing.{written, stored, stores}
use Rattle.dg_rt.proofs.UnifySteps.{steps_are}
use Rattle.dg_rt.proofs.TakeSteps.{Taken, agrees, clashes, is_full, taken_map, first_less, second_less, same_words_test, third_zero, read_3, field_in}

module _ (g : Setting) (f : ℕ) where
  abbrev pub Run : List Act → State → Outcome → State → ℕ → Type 0
  Run acts s o s' n = Runs g.p f (5 * f) TAKE_ACTS acts s o s' n

  abbrev pub Meant : List Act → List ℕ → List ℕ → ℕ → ℕ → Unified → Type 0
  Meant acts memory locals spent most u = Taken g u spent most (λ n o s. Run acts (in_state g memory locals) o s n)

  pub longer : {acts acts' : List Act} {memory locals memory' locals' : List ℕ} {spent most : ℕ} {u : Unified} (k : ℕ) → ((o : Outcome) (s' : State) (n : ℕ) → Run acts' (in_state g memory' locals') o s' n → Run acts (in_state g memory locals) o s' (steps k n)) → Meant acts' memory' locals' (k + spent) most u → Meant acts memory locals spent most u
  longer k way r = taken_map (steps k) (λ n. let e = steps_are k n in omega arith) (λ n o s' q. way o s' n q) r

  -- to the write of an own variable
  abbrev pub if_own : Act
  if_own = acts.When (record { comparison = comparisons.Less; first = atoms.Var 2; second = atoms.Num 49152; answer = true }) 4

  module _ (S : Substitution) (m : Moment g S) where
    abbrev pub ref : ℕ → ℕ
    ref n = 32768 + g.sh.place n

    -- the register of clashes is set
    sets : (u w x y : ℕ) → Run (drop 32 TAKE_ACTS) (in_state g m.memory (u ∷ w ∷ x ∷ y ∷ [])) (Returns 0) (in_state g (with_cell m.memory clash_reg 1) (u ∷ w ∷ x ∷ y ∷ [])) 2
    sets u w x y =
        let room = g.has.mapped.room in
        let put = puts g.p (in_state g m.memory (u ∷ w ∷ x ∷ y ∷ [])) m.cells 29 1 m.at.holds (omega arith) (omega arith) (omega arith) (omega arith) in
        done (copies g.p (in_state g m.memory (u ∷ w ∷ x ∷ y ∷ [])) (in_state g (with_cell m.memory clash_reg 1) (u ∷ w ∷ x ∷ y ∷ [])) 29 (atoms.Num 1) 1 refl put.put_is) (returns refl)

    module _ (a b : Value) where
      abbrev pub at_most : ℕ
      at_most = price S ((a, b) ∷ [])

      -- the walk, and 15 that are left
      abbrev pub base : ℕ
      base = 18 + 4 * links S a

      abbrev pub Done : List Act → ℕ → ℕ → ℕ → ℕ → Type 0
      Done acts u w x y = Meant acts m.memory (u ∷ w ∷ x ∷ y ∷ []) base at_most (unify S a b)

      pub as_meant : {acts : List Act} {locals : List ℕ} {spent : ℕ} {r : Unified} → unify S a b ≡ r → Meant acts m.memory locals spent at_most r → Meant acts m.memory locals spent at_most (unify S a b)
      as_meant {acts} {locals} {spent} e d = subst (λ (r : Unified). Meant acts m.memory locals spent at_most r) (sym e) d

      -- ---- an own variable

      pub owns : (rest : List Act) (n u x y : ℕ) (v : Value) → n < g.sh.vars → g.since ≤ n → Shows g.sh u v → turn S a b ≡ Binds n v → Done (if_own ∷ rest) u (ref n) x y
      unfolding behind_label
      owns rest n u x y v old young s e =
          let answer = bound S a b n v m.at.stands.sound e in
          let count = ap (λ (r : Unified). r.count) answer.is in
          let within = g.is.within n old in
          as_meant answer.is (agrees 3 (stored g S m n u v old young answer.fits s) (u ∷ ref n ∷ x ∷ y ∷ []) refl (omega arith)
          (taken (second_less g m.memory u (ref n) x y 49152 true true (reference (g.sh.place n) (omega arith))) refl
          (done (stores g S m n u v old young answer.fits s x y) (at_label (returns refl)))))

      -- ---- an unbound variable of the argument

      pub binds_argument : (n w x y : ℕ) (v : Value) → n < g.sh.vars → 3 ≤ f → Shows g.sh w v → compared comparisons.Less w 49152 ≡ false → turn S a b ≡ Binds n v → Done (drop 22 TAKE_ACTS) (ref n) w x y
      binds_argument n w x y v old deep s none e =
          let answer = bound S a b n v m.at.stands.sound e in
          let count = ap (λ (r : Unified). r.count) answer.is in
          elim (cases_lt (2000 + trail_of g.since g.S0) (g.left + trail_of g.since ((n, v) ∷ S))) [
            | inl over ↦
                let q = bind_passes g.p g.has g.sh g.is g.since g.hb g.marked g.S0 g.left g.begun 2 0 m.memory g.typed g.output g.drawn m.cells S m.at n w v old answer.fits s m.room over in
                let few = q.few in
                as_meant answer.is (is_full (suc (suc q.count)) m.memory [] over (omega arith)
                (passed (second_less g m.memory (ref n) w x y 49152 false true none)
                (calls_last {f' = 2} {w' = 0} {n = q.count} {xs = (ref n, w, 0)} refl (rw (get_1 g.p m.memory (ref n) w x y g.typed g.drawn g.output, get_2 g.p m.memory (ref n) w x y g.typed g.drawn g.output) refl) (bind_at g.p g.has) (omega arith) (omega arith) q.runs)))
            | inr room ↦
                let q = bind_works g.p g.has g.sh g.is g.since g.hb g.marked g.S0 g.left g.begun 2 0 m.memory g.typed g.output g.drawn m.cells S m.at n w v old answer.fits s room in
                let few = q.few in
                as_meant answer.is (agrees (suc (suc q.count + 1)) (record { memory = q.memory'; cells = q.cells'; at = q.at; room = room }) (ref n ∷ w ∷ 1 ∷ y ∷ []) refl (omega arith)
                (passed (second_less g m.memory (ref n) w x y 49152 false true none)
                (calls {f' = 2} {w' = 0} {n = q.count} {n' = 1} {xs = (ref n, w, 0)} refl (rw (get_1 g.p m.memory (ref n) w x y g.typed g.drawn g.output, get_2 g.p m.memory (ref n) w x y g.typed g.drawn g.output) refl) (bind_at g.p g.has) (omega arith) (omega arith) q.runs (set_3 g.p q.memory' (ref n) w x y 1 g.typed g.drawn g.output)
                (returns refl))))
          ]

      -- ---- a simple value of the term

      pub two_simple : (u w x y : ℕ) (h h' : Label) → Simple u h → Simple w h' → walk S a ≡ leaf h → walk S b ≡ leaf h' → (t : Bool) → same_label h h' ≡ t → Done (drop 9 TAKE_ACTS) u w x y
      unfolding behind_label
      two_simple u w x y h h' s s' ea eb true e =
          let is_it : turn S a b ≡ Goes [] = rw (ea, eb, e) refl in
          let answer = nothing S a b m.at.stands.sound is_it in
          let count = ap (λ (r : Unified). r.count) answer in
          let lt = simple_small s' in
          as_meant answer (agrees 4 m (u ∷ w ∷ x ∷ y ∷ []) refl (omega arith)
          (passed (second_less g m.memory u w x y 49152 false true (simple_no_reference w lt))
          (taken (second_less g m.memory u w x y 0 false false (simple_is_positive w lt)) refl
          (taken (same_words_test g m.memory u w x y true (same_words s s' ∙ e)) refl (returns refl)))))
      two_simple u w x y h h' s s' ea eb false e =
          let is_it : turn S a b ≡ Clashes = rw (ea, eb, e) refl in
          let answer = clashing S a b m.at.stands.sound is_it in
          let count = ap (λ (r : Unified). r.count) answer in
          let lt = simple_small s' in
          as_meant answer (clashes 5 m (u ∷ w ∷ x ∷ y ∷ []) refl (omega arith)
          (passed (second_less g m.memory u w x y 49152 false true (simple_no_reference w lt))
          (taken (second_less g m.memory u w x y 0 false false (simple_is_positive w lt)) refl
          (passed (same_words_test g m.memory u w x y false (same_words s s' ∙ e)) (at_label (sets u w x y))))))

      pub box_simple : (k w x y : ℕ) (h h' : Label) (vs : Values) → Simple w h' → same_label h h' ≡ false → walk S a ≡ Node h vs → walk S b ≡ leaf h' → Done (drop 9 TAKE_ACTS) (49152 + k) w x y
      unfolding behind_label
      box_simple k w x y h h' vs s unlike ea eb =
          let is_it : turn S a b ≡ Clashes = rw (ea, eb, unlike) refl in
          let answer = clashing S a b m.at.stands.sound is_it in
          let count = ap (λ (r : Unified). r.count) answer in
          let lt = simple_small s in
          as_meant answer (clashes 5 m ((49152 + k) ∷ w ∷ x ∷ y ∷ []) refl (omega arith)
          (passed (second_less g m.memory (49152 + k) w x y 49152 false true (simple_no_reference w lt))
          (taken (second_less g m.memory (49152 + k) w x y 0 false false (simple_is_positive w lt)) refl
          (passed (same_words_test g m.memory (49152 + k) w x y false (ne_eqb (49152 + k) w (λ (e : 49152 + k ≡ w). (omega arith)))) (at_label (sets (49152 + k) w x y))))))

      -- ---- a pair of the term

      pub simple_box : (u k x y : ℕ) (h h' : Label) (us : Values) → Simple u h → k + 2 < 10000 → same_label h h' ≡ false → walk S a ≡ leaf h → walk S b ≡ Node h' us → Done (drop 9 TAKE_ACTS) u (49152 + k) x y
      unfolding behind_label
      simple_box u k x y h h' us s small unlike ea eb =
          let is_it : turn S a b ≡ Clashes = rw (ea, eb, unlike) refl in
          let answer = clashing S a b m.at.stands.sound is_it in
          let count = ap (λ (r : Unified). r.count) answer in
          as_meant answer (clashes 5 m (u ∷ (49152 + k) ∷ x ∷ y ∷ []) refl (omega arith)
          (passed (second_less g m.memory u (49152 + k) x y 49152 false true (boxed_no_reference k (omega arith)))
          (passed (second_less g m.memory u (49152 + k) x y 0 true false (boxed_is_negative k (omega arith)))
          (taken (first_less g m.memory u (49152 + k) x y 0 false false (simple_is_positive u (simple_small s))) refl (sets u (49152 + k) x y)))))

      -- up to the test of the header
      pub to_header : (k k' header x y : ℕ) → k + 2 < 10000 → k' + 2 < 10000 → Cell g.sh k header → (o : Outcome) (s' : State) (n : ℕ) → Run (drop 13 TAKE_ACTS) (in_state g m.memory ((49152 + k) ∷ (49152 + k') ∷ header ∷ y ∷ [])) o s' n → Run (drop 9 TAKE_ACTS) (in_state g m.memory ((49152 + k) ∷ (49152 + k') ∷ x ∷ y ∷ [])) o s' (steps 4 n)
      to_header k k' header x y lt lt' c o s' n r =
          passed (second_less g m.memory (49152 + k) (49152 + k') x y 49152 false true (boxed_no_reference k' (omega arith)))
          (passed (second_less g m.memory (49152 + k) (49152 + k') x y 0 true false (boxed_is_negative k' (omega arith)))
          (passed (first_less g m.memory (49152 + k) (49152 + k') x y 0 true false (boxed_is_negative k (omega arith)))
          (done (read_3 g m.memory (49152 + k) (49152 + k') x y 33438 header (field_in g m.memory m.cells m.at.holds m.at.stands.fixed 33438 0 k k header c (omega arith) (omega arith) refl)) r)))

      pub other_box : (k k' header x y : ℕ) → k + 2 < 10000 → k' + 2 < 10000 → Cell g.sh k header → header ≢ 0 → turn S a b ≡ Clashes → Done (drop 9 TAKE_ACTS) (49152 + k) (49152 + k') x y
      unfolding behind_label
      other_box k k' header x y lt lt' c ne is_it =
          let answer = clashing S a b m.at.stands.sound is_it in
          let count = ap (λ (r : Unified). r.count) answer in
          as_meant answer (clashes 7 m ((49152 + k) ∷ (49152 + k') ∷ header ∷ y ∷ []) refl (omega arith)
          (to_header k k' header x y lt lt' c (Returns 0) (in_state g (with_cell m.memory clash_reg 1) ((49152 + k) ∷ (49152 + k') ∷ header ∷ y ∷ [])) 3
          (taken (third_zero g m.memory (49152 + k) (49152 + k') header y false false (ne_eqb header 0 ne)) refl (sets (49152 + k) (49152 + k') header y))))
