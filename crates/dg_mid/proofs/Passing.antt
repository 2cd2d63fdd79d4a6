-- Code passes what its program passes: what fails weighs 1, and all else nothing.
use Rattle.std.proofs.Common.{◌≡◌, ℕ, zero, suc, List, [], ◌∷◌, length, refl, ap, arith}
use Rattle.std.specs.Prelude.{Bool, true, false}
use Rattle.std.specs.List.{slice_get}
use Rattle.dg_base.specs.declared.program.ClosureBody.{ClosureBody}
use Rattle.dg_base.specs.declared.program.Goal.{Goal, out-Goal}
use Rattle.dg_base.specs.declared.program.Goal.TheOpen as form
use Rattle.dg_base.specs.declared.program.Pred.{Pred}
use Rattle.dg_base.specs.declared.program.Rule.{Rule}
use Rattle.dg_base.specs.declared.program.Term.{Term}
use Rattle.dg_base.specs.Goals.{all_goals_of, terms_held}
use Rattle.dg_base.specs.Terms.{nodes}
use Rattle.dg_mid.specs.declared.code.Action.TheVariants as action
use Rattle.dg_mid.specs.declared.code.Block.{Block}
use Rattle.dg_mid.specs.declared.code.Op.{Op}
use Rattle.dg_mid.specs.declared.code.Op.TheVariants as op
use Rattle.dg_mid.specs.Actions.{form_of}
use Rattle.dg_mid.specs.Code.{ops_of}
use Rattle.dg_mid.specs.Weights.{Weights, found_form, chooses, nodes_weight, terms_weight, op_weight, ops_weight, blocks_weight, lists_in, own_weight, ways_weight, goals_weight, rules_weight, preds_weight, closures_weight, IsLight}
use Rattle.dg_mid.specs.Passing.{Tests, GoalPasses, GoalsPass, RulesPass, PredsPass, ClosuresPass, OpPasses, OpsPass, CodePasses}

abbrev missed : Bool → ℕ
missed true = 0
missed false = 1

passed_if : (b : Bool) → missed b ≡ 0 → b ≡ true
passed_if true e = refl
passed_if false e = absurd (omega arith)

none_if : {b : Bool} → b ≡ true → missed b ≡ 0
none_if e = ap missed e

module _ (tests : Tests) where
  abbrev w : Weights
  w = record {
    own = λ g. missed (tests.goal g);
    enters = λ vars head. missed (tests.head vars head);
    opening = 0;
    leaving = 0;
    small = 0;
    gathers = missed tests.gathers;
    block = 0;
    node = λ layer. 0;
    text = λ text. missed (tests.goal (form.Text text));
  }

  nodes_none : (ts : List Term) → nodes_weight w ts ≡ 0
  nodes_none [] = refl
  nodes_none (t ∷ ts) = omega (arith, nodes_none ts)

  terms_none : (ts : List Term) → terms_weight w ts ≡ 0
  terms_none [] = refl
  terms_none (t ∷ ts) = omega (arith, nodes_none (nodes t), terms_none ts)

  ways_none : (lists : List (List Goal)) → ways_weight w lists ≡ 0
  ways_none [] = refl
  ways_none (gs ∷ lists) = omega (arith, ways_none lists)

  -- ## Goals

  own_none : (layer : form.Goal-F Goal) → GoalPasses tests layer → own_weight w layer ≡ 0
  own_none (form.Either lists) h = refl
  own_none (form.Once goals) h = refl
  own_none (form.Not goals) h = refl
  own_none (form.If test first other) h = refl
  own_none (form.Exhaust goals) h = refl
  own_none (form.Stoppable goals) h = refl
  own_none form.Forever h = refl
  own_none (form.Text text) h = none_if h
  own_none (form.Collect a goals b) h = omega (arith, none_if h.0, none_if h.1, terms_none (a ∷ b ∷ []))
  own_none (form.Accumulate a goals b) h = omega (arith, none_if h.0, none_if h.1, terms_none (a ∷ b ∷ []))
  own_none layer h = omega (arith, none_if h, terms_none (terms_held layer))

  goals_none : (gs : List Goal) → GoalsPass tests gs → goals_weight w gs ≡ 0
  goals_none [] h = refl
  goals_none (g ∷ gs) h = omega (arith, own_none (out-Goal g) h.0, ways_none (lists_in (out-Goal g)), goals_none gs h.1)

  rules_none : (rs : List Rule) → RulesPass tests rs → rules_weight w rs ≡ 0
  rules_none [] h = refl
  rules_none (r ∷ rs) h = omega (arith, none_if h.0, terms_none r.head, goals_none (all_goals_of r.body) h.1, rules_none rs h.2)

  preds_none : (ps : List Pred) → PredsPass tests ps → preds_weight w ps ≡ 0
  preds_none [] h = refl
  preds_none (p ∷ ps) h = omega (arith, rules_none p.rules h.0, preds_none ps h.1)

  closures_none : (cs : List ClosureBody) → ClosuresPass tests cs → closures_weight w cs ≡ 0
  closures_none [] h = refl
  closures_none (c ∷ cs) h = omega (arith, goals_none (all_goals_of c.body) h.0, closures_none cs h.1)

  -- ## Code

  op_passes : (x : Op) → op_weight w x ≡ 0 → OpPasses tests x
  op_passes (op.Do (action.Text text)) e = passed_if (tests.goal (form.Text text)) e
  op_passes (op.Do a) e = passed_if (tests.goal (form_of a)) (omega arith)
  op_passes (op.Ask pred terms many next) e = passed_if (tests.goal (form.Ask pred terms many)) (omega arith)
  op_passes (op.LastAsk pred terms many) e = passed_if (tests.goal (form.Ask pred terms many)) (omega arith)
  op_passes (op.Query a b many next) e = passed_if (tests.goal (form.Query a b many)) (omega arith)
  op_passes (op.LastQuery a b many) e = passed_if (tests.goal (form.Query a b many)) (omega arith)
  op_passes (op.Find place terms many next) e = passed_if (tests.goal (found_form place terms many)) (omega arith)
  op_passes (op.Select site mode blocks behind) e = passed_if (tests.goal (chooses site mode (length blocks))) e
  op_passes (op.Collect term into alt) e = passed_if (tests.goal (form.Collect term [] into)) (omega arith)
  op_passes (op.TakeOut whole into) e = passed_if tests.gathers (omega arith)
  op_passes (op.Keep term) e = passed_if tests.gathers (omega arith)
  op_passes (op.Enter vars head) e = passed_if (tests.head vars head) (omega arith)
  op_passes x e = tt

  ops_pass : (ops : List Op) → ops_weight w ops ≡ 0 → OpsPass tests ops
  ops_pass [] e = tt
  ops_pass (x ∷ ops) e = (op_passes x (omega arith), ops_pass ops (omega arith))

  block_passes : (blocks : List Block) (b : ℕ) → blocks_weight w blocks ≡ 0 → OpsPass tests (ops_of (slice_get blocks b))
  block_passes [] b e = tt
  block_passes (x ∷ blocks) zero e = ops_pass x.ops (omega arith)
  block_passes (x ∷ blocks) (suc b) e = block_passes blocks b (omega arith)

pub code_passes : CodePasses
code_passes tests program code light passes b =
    let l : IsLight (w tests) program code = light (w tests) in
    block_passes tests code.blocks b
    (omega (arith, none_if passes.entry, preds_none tests program.preds passes.preds, closures_none tests program.closures passes.closures))
