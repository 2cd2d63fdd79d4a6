use Rattle.std.proofs.Common.{◌<◌, subst}
use Rattle.dg_base.specs.TreeView.{head_view}
use Rattle.dg_items.specs.Expanded.{stay}
use Rattle.dg_put.specs.Put.{put_parts}
use Rattle.dg_put.specs.inside.Putting.{Around}
use Rattle.dg_put.specs.inside.Weights.{parts_load}
use Rattle.dg_items.proofs.OverLemmas.{over_declared}
use Rattle.dg_put.proofs.WeightLemmas.{none_holds}
use Rattle.dg_items.proofs.rules.put_declaration.Goals as goal

pub returns-in-None-clause-large : goal.returns-in-None-clause-large
returns-in-None-clause-large c =
    let ps = head_view c.args.head.now in
    let heavy = none_holds _ c.in_ok-head.field-0 c.in-None.is c.in_ok-head.ensures.large in
    λ stopped. over_declared c.args.line (stay ps) (subst (λ (a : Around). 2500000 < parts_load (put_parts a.at a.place 0 ps).0) c.in_ok-at.ensures heavy)
