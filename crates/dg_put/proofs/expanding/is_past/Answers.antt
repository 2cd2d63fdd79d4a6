use Rattle.std.proofs.Common.{arith}
use Rattle.std.proofs.lemmas.List.{length-map}
use Rattle.dg_base.specs.TreeView.{change_view}
use Rattle.dg_plain.specs.Building.{built_view}
use Rattle.dg_put.proofs.WeightLemmas.{past_by_weight, past_by_heads}
use Rattle.dg_put.proofs.expanding.is_past.Goals as goal

pub returns-then-weighed-gt-MOST : goal.returns-then-weighed-gt-MOST
returns-then-weighed-gt-MOST c = λ at past. past_by_weight at c.args.left.now (built_view c.args.weighed.now.built) (omega (arith, c.if-weighed-gt-MOST.true, c.args.weighed.now.least))

pub returns-then-turn-eq0 : goal.returns-then-turn-eq0
returns-then-turn-eq0 c = λ at past.
    let built = c.args.weighed.now.built in
    past_by_heads at c.args.left.now (built_view built) (omega (arith, c.has_many_heads.ensures.many past, length-map built.changes.items change_view)) (c.has_many_heads.ensures.heads past)
