-- Ends, tests and acts of the routine that unifies an argument with a term of which each variable is new.
use Rattle.std.proofs.Common.{◌≡◌, ℕ, suc, ◌+◌, ◌<◌, ◌≤◌, Bool, true, false, List, [], ◌∷◌, drop, Some, refl, ap, ◌∙◌, arith}
use Rattle.std.specs.Prelude.{◌==◌}
use Rattle.z_model.specs.declared.end.Halt.TheVariants.{AtQuit}
use Rattle.z_lang.specs.declared.act.Atom.TheVariants as atoms
use Rattle.z_lang.specs.declared.act.Function.TheVariants as functions
use Rattle.z_lang.specs.declared.act.Comparison.TheVariants as comparisons
use Rattle.z_lang.specs.declared.act.Act.{Act}
use Rattle.z_lang.specs.declared.act.Act.TheVariants as acts
use Rattle.z_lang.specs.State.{State, Program}
use Rattle.z_lang.specs.Acts.{answer_of, computed, does}
use Rattle.z_lang.specs.Runs.{ActsRun as Runs, ActsOutcome as Outcome, Returns, Stops}
use Rattle.dg_meaning.specs.Substitutions.{Substitution}
use Rattle.dg_meaning.specs.Unify.{Unified, counted}
use Rattle.dg_rt.specs.declared.numbers.TheConstants.{TAKE}
use Rattle.dg_rt.specs.declared.heads.TheConstants.{TAKE_ACTS}
use Rattle.dg_rt.specs.Cells.{compared, at_cell, with_cell, Holds}
use Rattle.dg_rt.specs.Areas.{heap_at, clash_reg, state}
use Rattle.dg_rt.specs.Shapes.{Shape, Cell, IsFixed}
use Rattle.dg_rt.specs.Closings.{closing_most}
use Rattle.dg_rt.specs.RunTime.{routine_of, HasRunTime}
use Rattle.dg_rt.specs.Moments.{Setting, Passes, Moment, in_state}
use Rattle.dg_rt.specs.Unifies.{closed}
use Rattle.dg_rt.specs.inside.Walks.{steps}
use Rattle.dg_rt.proofs.Following.{word, some_state, tested, computes, copies, register}
use Rattle.dg_rt.proofs.Locals.{get_1, get_2, get_3, set_1, set_2, set_3, set_4}
use Rattle.dg_rt.proofs.Cells.{reads_cell}
use Rattle.dg_rt.proofs.UnifySteps.{steps_are}

pub take_at : (p : Program) → HasRunTime p → p.routine_at (p.names.routine TAKE) ≡ Some (routine_of 4 TAKE_ACTS)
take_at p has = has.each 135 (routine_of 4 TAKE_ACTS) refl

-- ---- ends

-- How the routine ends, within so many instructions, what was spent before included: what is meant is bound, and the register of clashes is as it was
-- where the two agree, and else set; or the bindings that are meant pass the trail's limit, and its closing ends the run.
pub data Taken (g : Setting) (u : Unified) (spent most : ℕ) (leads : ℕ → Outcome → State → Type 0) : Type 0 where
  agrees : (count : ℕ) (m : Moment g u.subst) (locals : List ℕ) → u.agrees ≡ true → count + spent ≤ most →
      leads count (Returns 0) (in_state g m.memory locals) → Taken g u spent most leads
  clashes : (count : ℕ) (m : Moment g u.subst) (locals : List ℕ) → u.agrees ≡ false → count + spent ≤ most →
      leads count (Returns 0) (in_state g (with_cell m.memory clash_reg 1) locals) → Taken g u spent most leads
  is_full : (count : ℕ) (memory locals : List ℕ) → Passes g u.subst → count + spent ≤ most + closing_most →
      leads count (Stops AtQuit) (state memory locals g.typed g.drawn (closed g)) → Taken g u spent most leads

-- what an end leads to, in as many instructions as h says
pub taken_map : {g : Setting} {u : Unified} {spent spent' most : ℕ} {leads leads' : ℕ → Outcome → State → Type 0} (h : ℕ → ℕ) → ((n : ℕ) → h n + spent ≤ n + spent') →
    ((n : ℕ) (o : Outcome) (s : State) → leads n o s → leads' (h n) o s) → Taken g u spent' most leads → Taken g u spent most leads'
taken_map h le way (agrees n m locals e few r) = agrees (h n) m locals e (let l = le n in omega arith) (way n _ _ r)
taken_map h le way (clashes n m locals e few r) = clashes (h n) m locals e (let l = le n in omega arith) (way n _ _ r)
taken_map h le way (is_full n memory locals over few r) = is_full (h n) memory locals over (let l = le n in omega arith) (way n _ _ r)

-- the same within another bound
pub taken_into : {g : Setting} {u : Unified} {spent spent' most most' : ℕ} {leads leads' : ℕ → Outcome → State → Type 0} (h : ℕ → ℕ) →
    ((n e : ℕ) → n + spent' ≤ most' + e → h n + spent ≤ most + e) → ((n : ℕ) (o : Outcome) (s : State) → leads n o s → leads' (h n) o s) → Taken g u spent' most' leads → Taken g u spent most leads'
taken_into h le way (agrees n m locals e few r) = agrees (h n) m locals e (let l = le n 0 (omega arith) in omega arith) (way n _ _ r)
taken_into h le way (clashes n m locals e few r) = clashes (h n) m locals e (let l = le n 0 (omega arith) in omega arith) (way n _ _ r)
taken_into h le way (is_full n memory locals over few r) = is_full (h n) memory locals over (le n closing_most few) (way n _ _ r)

pub taken_counted : {g : Setting} {u : Unified} {spent most : ℕ} {leads : ℕ → Outcome → State → Type 0} (c : ℕ) → Taken g u spent most leads → Taken g (counted c u) spent most leads
taken_counted c (agrees n m locals e few r) = agrees n m locals e few r
taken_counted c (clashes n m locals e few r) = clashes n m locals e few r
taken_counted c (is_full n memory locals over few r) = is_full n memory locals over few r

-- ---- tests and acts

module _ (g : Setting) (memory : List ℕ) (u w x y : ℕ) where
  abbrev now : State
  now = in_state g memory (u ∷ w ∷ x ∷ y ∷ [])

  pub first_less : (k : ℕ) (t answer : Bool) → compared comparisons.Less u k ≡ t → answer_of g.p now (record { comparison = comparisons.Less; first = atoms.Var 1; second = atoms.Num k; answer = answer }) ≡ Some t
  first_less k t answer e = tested g.p now comparisons.Less (atoms.Var 1) (atoms.Num k) answer u k t (get_1 g.p memory u w x y g.typed g.drawn g.output) refl e

  pub second_less : (k : ℕ) (t answer : Bool) → compared comparisons.Less w k ≡ t → answer_of g.p now (record { comparison = comparisons.Less; first = atoms.Var 2; second = atoms.Num k; answer = answer }) ≡ Some t
  second_less k t answer e = tested g.p now comparisons.Less (atoms.Var 2) (atoms.Num k) answer w k t (get_2 g.p memory u w x y g.typed g.drawn g.output) refl e

  pub same_words_test : (t : Bool) → (u == w) ≡ t → answer_of g.p now (record { comparison = comparisons.Equal; first = atoms.Var 1; second = atoms.Var 2; answer = true }) ≡ Some t
  same_words_test t e = tested g.p now comparisons.Equal (atoms.Var 1) (atoms.Var 2) true u w t (get_1 g.p memory u w x y g.typed g.drawn g.output) (get_2 g.p memory u w x y g.typed g.drawn g.output) e

  pub third_first : (t : Bool) → (x == u) ≡ t → answer_of g.p now (record { comparison = comparisons.Equal; first = atoms.Var 3; second = atoms.Var 1; answer = true }) ≡ Some t
  third_first t e = tested g.p now comparisons.Equal (atoms.Var 3) (atoms.Var 1) true x u t (get_3 g.p memory u w x y g.typed g.drawn g.output) (get_1 g.p memory u w x y g.typed g.drawn g.output) e

  pub third_zero : (t answer : Bool) → (x == 0) ≡ t → answer_of g.p now (record { comparison = comparisons.Equal; first = atoms.Var 3; second = atoms.Num 0; answer = answer }) ≡ Some t
  third_zero t answer e = tested g.p now comparisons.Equal (atoms.Var 3) (atoms.Num 0) answer x 0 t (get_3 g.p memory u w x y g.typed g.drawn g.output) refl e

  pub clash_zero : (cells : ℕ → ℕ) → Holds g.p.world.layout memory cells → (t answer : Bool) → (cells clash_reg == 0) ≡ t → answer_of g.p now (record { comparison = comparisons.Equal; first = atoms.Var 29; second = atoms.Num 0; answer = answer }) ≡ Some t
  clash_zero cells h t answer e = let room = g.has.mapped.room in tested g.p now comparisons.Equal (atoms.Var 29) (atoms.Num 0) answer (cells clash_reg) 0 t (register g.p now cells 29 h (omega arith) (omega arith) (omega arith)) refl e

  abbrev pub Gets : ℕ → ℕ → ℕ → Type 0
  Gets at box r = computed g.p.world.layout memory functions.Word at box ≡ word r

  pub read_1 : (at r : ℕ) → Gets at u r → does g.p (acts.Compute 1 functions.Word (atoms.Num at) (atoms.Var 1)) now ≡ some_state (in_state g memory (r ∷ w ∷ x ∷ y ∷ []))
  read_1 at r e = computes g.p now (in_state g memory (r ∷ w ∷ x ∷ y ∷ [])) 1 functions.Word (atoms.Num at) (atoms.Var 1) at u r refl (get_1 g.p memory u w x y g.typed g.drawn g.output) e (set_1 g.p memory u w x y r g.typed g.drawn g.output)

  pub read_2 : (at r : ℕ) → Gets at w r → does g.p (acts.Compute 2 functions.Word (atoms.Num at) (atoms.Var 2)) now ≡ some_state (in_state g memory (u ∷ r ∷ x ∷ y ∷ []))
  read_2 at r e = computes g.p now (in_state g memory (u ∷ r ∷ x ∷ y ∷ [])) 2 functions.Word (atoms.Num at) (atoms.Var 2) at w r refl (get_2 g.p memory u w x y g.typed g.drawn g.output) e (set_2 g.p memory u w x y r g.typed g.drawn g.output)

  pub read_3 : (at r : ℕ) → Gets at u r → does g.p (acts.Compute 3 functions.Word (atoms.Num at) (atoms.Var 1)) now ≡ some_state (in_state g memory (u ∷ w ∷ r ∷ y ∷ []))
  read_3 at r e = computes g.p now (in_state g memory (u ∷ w ∷ r ∷ y ∷ [])) 3 functions.Word (atoms.Num at) (atoms.Var 1) at u r refl (get_1 g.p memory u w x y g.typed g.drawn g.output) e (set_3 g.p memory u w x y r g.typed g.drawn g.output)

  pub read_4 : (at r : ℕ) → Gets at w r → does g.p (acts.Compute 4 functions.Word (atoms.Num at) (atoms.Var 2)) now ≡ some_state (in_state g memory (u ∷ w ∷ x ∷ r ∷ []))
  read_4 at r e = computes g.p now (in_state g memory (u ∷ w ∷ x ∷ r ∷ [])) 4 functions.Word (atoms.Num at) (atoms.Var 2) at w r refl (get_2 g.p memory u w x y g.typed g.drawn g.output) e (set_4 g.p memory u w x y r g.typed g.drawn g.output)

  pub third_copied : does g.p (acts.Copy 1 (atoms.Var 3)) now ≡ some_state (in_state g memory (x ∷ w ∷ x ∷ y ∷ []))
  third_copied = copies g.p now (in_state g memory (x ∷ w ∷ x ∷ y ∷ [])) 1 (atoms.Var 3) x (get_3 g.p memory u w x y g.typed g.drawn g.output) (set_1 g.p memory u w x y x g.typed g.drawn g.output)

-- a field of a box, in memory whose heap is as it stands
pub field_in : (g : Setting) (memory : List ℕ) (cells : ℕ → ℕ) → Holds g.p.world.layout memory cells → ((k : ℕ) → k < 10000 → IsFixed g.sh k → cells (heap_at + k) ≡ g.sh.fixed k) → (at i k j x : ℕ) → Cell g.sh j x → j ≡ k + i → i ≤ 3 → at ≡ at_cell (heap_at + i) + 32768 → computed g.p.world.layout memory functions.Word at (49152 + k) ≡ word x
field_in g memory cells h fixed at i k j x c e le is_at =
    let room = g.has.mapped.room in
    let top = g.is.room in
    let low = c.fixed.0 in
    reads_cell g.p.world.layout memory cells at (49152 + k) (heap_at + j) h (omega arith) (omega arith) ∙ ap word (fixed j (omega arith) c.fixed ∙ c.is)
