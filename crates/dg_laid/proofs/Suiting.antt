-- The code of a sound program suits.
use Rattle.std.proofs.Common.{◌≡◌, ℕ, zero, suc, ◌≤◌, List, [], ◌∷◌, length, map, Option, Some, None, refl, sym, ap, ◌∙◌, arith}
use Rattle.std.specs.Prelude.{Bool, true, false, ◌&&◌, not}
use Rattle.std.specs.List.{All, slice_get}
use Rattle.std.proofs.Math.Dec.{eqb, ltb}
use Rattle.std.proofs.lemmas.Bool.{eqb-true, eq-eqb, le-ltb, ltb-false}
use Rattle.dg_base.specs.declared.program.ClosureBody.{ClosureBody}
use Rattle.dg_base.specs.declared.program.CoreProgram.{CoreProgram}
use Rattle.dg_base.specs.declared.program.Goal.{Goal, out-Goal}
use Rattle.dg_base.specs.declared.program.Goal.TheOpen as form
use Rattle.dg_base.specs.declared.program.Place.{Place}
use Rattle.dg_base.specs.declared.program.PlaceKind.{PlaceKind}
use Rattle.dg_base.specs.declared.program.PlaceKind.TheVariants.{Flag, ObjectFlag, ObjectVar, Parent, Global}
use Rattle.dg_base.specs.declared.program.Pred.{Pred}
use Rattle.dg_base.specs.declared.program.Rule.{Rule}
use Rattle.dg_base.specs.Goals.{all_goals_of}
use Rattle.dg_base.specs.Sound.{IsGoalOf, IsRuleOf, IsPredOf, IsClosureOf, IsEntry, FirstIsParent, FitsHeads, FitsPlace, FitsProgram, terms_of_kind, closure_vars, IsSound}
use Rattle.dg_meaning.specs.Facts.{kinds_of}
use Rattle.dg_meaning.specs.Moves.{rules_of}
use Rattle.dg_mid.specs.declared.code.BodyCode.{BodyCode}
use Rattle.dg_mid.specs.declared.code.Code.{Code}
use Rattle.dg_mid.specs.declared.code.Op.{Op}
use Rattle.dg_mid.specs.declared.code.Op.TheVariants as op
use Rattle.dg_mid.specs.declared.code.RuleCode.{RuleCode}
use Rattle.dg_mid.specs.Calls.{AllEnterWith}
use Rattle.dg_mid.specs.Code.{block_at, rules_at}
use Rattle.dg_mid.specs.Codes.{RulesStand, RuleStands, BodyStands, Codes}
use Rattle.dg_mid.specs.Passing.{Tests, GoalPasses, GoalsPass, RulesPass, PredsPass, ClosuresPass, ProgramPasses, OpPasses, OpsPass}
use Rattle.dg_mid.proofs.Passing.{code_passes}
use Rattle.dg_laid.specs.Laid.{OpCalls, OpsCall, BodiesAreFew}
use Rattle.dg_laid.specs.Goals.{GoalsSuit, BodiesSuit}

-- ## Tests that pass

both : (a b : Bool) → a && b ≡ true → (a ≡ true) × (b ≡ true)
both true b e = (refl, e)
both false b e = absurd (cc)

and_true : (a b : Bool) → a ≡ true → b ≡ true → a && b ≡ true
and_true a b d e = ap (λ (x : Bool). x && b) d ∙ e

rest_of : {A : Type 0} (P : A → Type 0) (x : A) (xs : List A) → All P (x ∷ xs) → All P xs
rest_of P x xs h k d lt = h (suc k) d (omega (arith, lt))

abbrev rules_take : ℕ → List Rule → Bool
rules_take n [] = true
rules_take n (r ∷ rs) = eqb (length r.head) n && rules_take n rs

abbrev pred_takes : ℕ → Option Pred → Bool
pred_takes n None = false
pred_takes n (Some pred) = rules_take n pred.rules

rules_right : (n : ℕ) (rs : List Rule) → All (λ (rule : Rule). length rule.head ≡ n) rs → rules_take n rs ≡ true
rules_right n [] h = refl
rules_right n (r ∷ rs) h =
    and_true (eqb (length r.head) n) (rules_take n rs) (eq-eqb (length r.head) n (h 0 r (omega arith))) (rules_right n rs (rest_of (λ (rule : Rule). length rule.head ≡ n) r rs h))

pred_right : (n : ℕ) (o : Option Pred) → FitsHeads n o → pred_takes n o ≡ true
pred_right n None h = absurd h
pred_right n (Some pred) h = rules_right n pred.rules h

of_pred : (n : ℕ) (o : Option Pred) → pred_takes n o ≡ true → rules_take n (rules_of o) ≡ true
of_pred n None e = absurd (cc)
of_pred n (Some pred) e = e

-- a place is a flag of no object
abbrev is_flag : Option PlaceKind → Bool
is_flag (Some Flag) = true
is_flag o = false

flag_by : (kind : PlaceKind) → 0 ≡ terms_of_kind kind → is_flag (Some kind) ≡ true
flag_by Flag e = refl
flag_by ObjectFlag e = absurd (cc)
flag_by ObjectVar e = absurd (cc)
flag_by Parent e = absurd (cc)
flag_by Global e = absurd (cc)

flag_right : (places : List Place) (i : ℕ) → FitsPlace 0 (slice_get places i) → is_flag (slice_get (map (λ (place : Place). place.kind) places) i) ≡ true
flag_right [] i h = absurd h
flag_right (place ∷ places) zero h = flag_by place.kind h
flag_right (place ∷ places) (suc i) h = flag_right places i h

-- the first place isn't
no_first : (places : List Place) → FirstIsParent places → is_flag (slice_get (map (λ (place : Place). place.kind) places) 0) ≡ true → ⊥
no_first [] h e = absurd h
no_first (place ∷ places) h e = let q : is_flag (Some Parent) ≡ true = ap (λ (k : PlaceKind). is_flag (Some k)) (sym h.0) ∙ e in cc

module _ (program : CoreProgram) where
  abbrev asks_right : form.Goal-F Goal → Bool
  asks_right (form.Ask pred terms many) = pred_takes (length terms) (slice_get program.preds pred)
  asks_right (form.Holds place [] many) = is_flag (slice_get (kinds_of program) place)
  asks_right form.Forever = false
  asks_right other = true

  abbrev tests : Tests
  tests = record { goal = asks_right; head = λ vars head. not (ltb 300 vars); gathers = true }

  -- ## The program

  goal_passes : (layer : form.Goal-F Goal) → FitsProgram program layer → GoalPasses tests layer
  goal_passes (form.Ask pred terms many) fits = pred_right (length terms) (slice_get program.preds pred) fits
  goal_passes (form.Holds place [] many) fits = flag_right program.places place fits
  goal_passes (form.Either lists) fits = tt
  goal_passes (form.Once goals) fits = tt
  goal_passes (form.Not goals) fits = tt
  goal_passes (form.If test first other) fits = tt
  goal_passes (form.Exhaust goals) fits = tt
  goal_passes (form.Stoppable goals) fits = tt
  goal_passes form.Forever fits = tt
  goal_passes (form.Collect a goals b) fits = (refl, refl)
  goal_passes (form.Accumulate a goals b) fits = (refl, refl)
  goal_passes (form.Select site mode lists) fits = refl
  goal_passes layer fits = refl

  goals_pass : (vars : ℕ) (gs : List Goal) → All (IsGoalOf program vars) gs → GoalsPass tests gs
  goals_pass vars [] a = tt
  goals_pass vars (g ∷ gs) a =
      let is : IsGoalOf program vars g = a 0 g (omega arith) in
      (goal_passes (out-Goal g) is.fits, goals_pass vars gs (rest_of (IsGoalOf program vars) g gs a))

  rules_pass : (rs : List Rule) → All (IsRuleOf program) rs → RulesPass tests rs
  rules_pass [] a = tt
  rules_pass (r ∷ rs) a =
      let is : IsRuleOf program r = a 0 r (omega arith) in
      let few = is.few in
      (ap not (le-ltb 300 r.vars (omega arith)), goals_pass r.vars (all_goals_of r.body) is.body, rules_pass rs (rest_of (IsRuleOf program) r rs a))

  preds_pass : (ps : List Pred) → All (IsPredOf program) ps → PredsPass tests ps
  preds_pass [] a = tt
  preds_pass (p ∷ ps) a =
      let is : IsPredOf program p = a 0 p (omega arith) in
      (rules_pass p.rules is.rules, preds_pass ps (rest_of (IsPredOf program) p ps a))

  closures_pass : (cs : List ClosureBody) → All (IsClosureOf program) cs → ClosuresPass tests cs
  closures_pass [] a = tt
  closures_pass (c ∷ cs) a =
      let is : IsClosureOf program c = a 0 c (omega arith) in
      (goals_pass (closure_vars c) (all_goals_of c.body) is.body, closures_pass cs (rest_of (IsClosureOf program) c cs a))

  entry_right : (o : Option Pred) → IsEntry o → pred_takes 0 o ≡ true
  entry_right None h = absurd h
  entry_right (Some pred) h = rules_right 0 pred.rules (λ k d lt. ap length (h k d lt))

  program_passes : IsSound program → ProgramPasses tests program
  program_passes sound = record {
    entry = entry_right (slice_get program.preds program.entry) sound.entry;
    preds = preds_pass program.preds sound.preds;
    closures = closures_pass program.closures sound.closures;
  }

  -- ## The code

  module _ (code : Code) (codes : Codes program code) (parent : FirstIsParent program.places) where
    rules_enter : (n : ℕ) (cs : List RuleCode) (rs : List Rule) → RulesStand code cs rs → rules_take n rs ≡ true → AllEnterWith n code cs
    rules_enter n [] rs s e = tt
    rules_enter n (c ∷ cs) [] s e = absurd s
    rules_enter n (c ∷ cs) (r ∷ rs) s e =
        let k = both (eqb (length r.head) n) (rules_take n rs) e in
        let first : RuleStands code c r = s.0 in
        (record { vars = r.vars; head = r.head; rest = first.ops; is = first.block; fits = eqb-true (length r.head) n k.0 }, rules_enter n cs rs s.1 k.1)

    pred_enters : (n pred : ℕ) → pred_takes n (slice_get program.preds pred) ≡ true → AllEnterWith n code (rules_at code pred)
    pred_enters n pred e = rules_enter n (rules_at code pred) (rules_of (slice_get program.preds pred)) (codes.rules pred) (of_pred n (slice_get program.preds pred) e)

    few_vars : (vars : ℕ) → not (ltb 300 vars) ≡ true → vars ≤ 300
    few_vars vars e = ltb-false 300 vars (untrue (ltb 300 vars) e)
      where
        untrue : (b : Bool) → not b ≡ true → b ≡ false
        untrue true e = absurd (cc)
        untrue false e = refl

    op_suits : (x : Op) → OpPasses tests x → OpCalls code x
    op_suits (op.Ask pred terms many next) h = pred_enters (length terms) pred h
    op_suits (op.LastAsk pred terms many) h = pred_enters (length terms) pred h
    op_suits (op.Enter vars head) h = few_vars vars h
    op_suits x h = tt

    ops_suit : (ops : List Op) → OpsPass tests ops → OpsCall code ops
    ops_suit [] h = tt
    ops_suit (x ∷ ops) h = (op_suits x h.0, ops_suit ops h.1)

    bodies_few : (cs : List BodyCode) (qs : List ClosureBody) → ((n : ℕ) → BodyStands code (slice_get cs n) (slice_get qs n)) → All (IsClosureOf program) qs → BodiesAreFew cs
    bodies_few [] qs h a = tt
    bodies_few (c ∷ cs) [] h a = absurd (h 0)
    bodies_few (c ∷ cs) (q ∷ qs) h a =
        let is : IsClosureOf program q = a 0 q (omega arith) in
        let few = is.few in
        let same : c.own ≡ q.own = (h 0).0 in
        (omega arith, bodies_few cs qs (λ n. h (suc n)) (rest_of (IsClosureOf program) q qs a))

pub goals_suit : GoalsSuit
goals_suit program code sound codes light b =
    ops_suit program code codes sound.parent (block_at code b) (code_passes (tests program) program code light (program_passes program sound) b)

pub bodies_suit : BodiesSuit
bodies_suit program code sound codes = bodies_few program code codes sound.parent code.closures program.closures codes.bodies sound.closures
