-- Code has no more selects of two branches or more than its program has selects.
use Rattle.std.proofs.Common.{◌≡◌, ℕ, ◌≤◌, List, [], ◌∷◌, length, refl, arith, length-append}
use Rattle.dg_base.specs.declared.program.ClosureBody.{ClosureBody}
use Rattle.dg_base.specs.declared.program.CoreProgram.{CoreProgram}
use Rattle.dg_base.specs.declared.program.Goal.{Goal, out-Goal}
use Rattle.dg_base.specs.declared.program.Goal.TheOpen as form
use Rattle.dg_base.specs.declared.program.Pred.{Pred}
use Rattle.dg_base.specs.declared.program.Rule.{Rule}
use Rattle.dg_base.specs.declared.program.Term.{Term}
use Rattle.dg_base.specs.Goals.{all_goals_of, terms_held}
use Rattle.dg_base.specs.Sound.{all_goals}
use Rattle.dg_base.specs.Terms.{nodes}
use Rattle.dg_mid.specs.declared.code.Block.{Block}
use Rattle.dg_mid.specs.declared.code.Code.{Code}
use Rattle.dg_mid.specs.declared.code.Op.{Op}
use Rattle.dg_mid.specs.declared.code.Op.TheVariants as op
use Rattle.dg_mid.specs.Weights.{Weights, nodes_weight, terms_weight, op_weight, ops_weight, blocks_weight, lists_in, own_weight, ways_weight, goals_weight, rules_weight, preds_weight, closures_weight, IsLight}
use Rattle.dg_turn.specs.Sites.{sites_of_op, sites_of_ops, sites_of}
use Rattle.dg_fits.specs.Sizes.{select_count, selects}
use Rattle.dg_fits.proofs.Selects.{of_rules, of_preds, of_closures, selects_append}

-- a select alone weighs
abbrev share : form.Goal-F Goal → ℕ
share (form.Select site mode lists) = 1
share layer = 0

abbrev w : Weights
w = record { own = share; enters = λ vars head. 0; opening = 0; leaving = 0; small = 0; gathers = 0; block = 0; node = λ layer. 0; text = λ text. 0 }

nodes_none : (ts : List Term) → nodes_weight w ts ≡ 0
nodes_none [] = refl
nodes_none (t ∷ ts) = omega (arith, nodes_none ts)

terms_none : (ts : List Term) → terms_weight w ts ≡ 0
terms_none [] = refl
terms_none (t ∷ ts) = omega (arith, nodes_none (nodes t), terms_none ts)

ways_none : (lists : List (List Goal)) → ways_weight w lists ≡ 0
ways_none [] = refl
ways_none (gs ∷ lists) = omega (arith, ways_none lists)

-- ## The program

own_counts : (layer : form.Goal-F Goal) → own_weight w layer ≡ select_count layer
own_counts (form.Select site mode lists) = refl
own_counts layer = omega (arith, terms_none (terms_held layer))

goals_count : (gs : List Goal) → goals_weight w gs ≡ selects gs
goals_count [] = refl
goals_count (g ∷ gs) = omega (arith, own_counts (out-Goal g), ways_none (lists_in (out-Goal g)), goals_count gs)

rules_count : (rs : List Rule) → rules_weight w rs ≡ selects (of_rules rs)
rules_count [] = refl
rules_count (rule ∷ rs) =
    omega (arith, terms_none rule.head, goals_count (all_goals_of rule.body), rules_count rs, selects_append (all_goals_of rule.body) (of_rules rs))

preds_count : (ps : List Pred) → preds_weight w ps ≡ selects (of_preds ps)
preds_count [] = refl
preds_count (pred ∷ ps) = omega (arith, rules_count pred.rules, preds_count ps, selects_append (of_rules pred.rules) (of_preds ps))

closures_count : (cs : List ClosureBody) → closures_weight w cs ≡ selects (of_closures cs)
closures_count [] = refl
closures_count (c ∷ cs) = omega (arith, goals_count (all_goals_of c.body), closures_count cs, selects_append (all_goals_of c.body) (of_closures cs))

-- ## The code

op_counts : (x : Op) → length (sites_of_op x) ≤ op_weight w x
op_counts (op.Select site mode blocks next) = omega arith
op_counts x = omega arith

ops_count : (ops : List Op) → length (sites_of_ops ops) ≤ ops_weight w ops
ops_count [] = omega arith
ops_count (x ∷ ops) = omega (arith, op_counts x, ops_count ops, length-append (sites_of_op x) (sites_of_ops ops))

blocks_count : (blocks : List Block) → length (sites_of blocks) ≤ blocks_weight w blocks
blocks_count [] = omega arith
blocks_count (block ∷ blocks) = omega (arith, ops_count block.ops, blocks_count blocks, length-append (sites_of_ops block.ops) (sites_of blocks))

-- So there are at most as many.
pub sites_counted : (program : CoreProgram) (code : Code) → ((v : Weights) → IsLight v program code) → length (sites_of code.blocks) ≤ selects (all_goals program)
sites_counted program code light =
    let l : IsLight w program code = light w in
    omega (
      arith,
      blocks_count code.blocks,
      preds_count program.preds,
      closures_count program.closures,
      selects_append (of_preds program.preds) (of_closures program.closures),
    )
