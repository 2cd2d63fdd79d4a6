use Rattle.dg_base.specs.TreeView.{body_view, head_view}
use Rattle.dg_put.specs.Put.{one_change, put_body, put_changes}
use Rattle.dg_put.specs.inside.Putting.{around}
use Rattle.dg_items.proofs.OverLemmas.{over_many_heads}
use Rattle.dg_put.proofs.WeightLemmas.{none_holds}
use Rattle.dg_items.proofs.rules.put_rule.Goals as goal

pub returns-in-None-clause-large : goal.returns-in-None-clause-large
returns-in-None-clause-large c =
    let a = around c.args.uses c.args.at.now in
    let heads = put_changes a.at a.place 0 (one_change c.args.set (head_view c.args.head.now)) in
    let heavy = none_holds _ c.in_ok-heads.field-0 c.in-None.is c.in_ok-heads.ensures.large in
    λ stopped. over_many_heads c.args.line heads.0 (put_body a.at a.place heads.1 (body_view c.args.body.now)).0 heavy
