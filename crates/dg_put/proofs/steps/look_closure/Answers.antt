use Rattle.dg_plain.specs.Building.{built_view}
use Rattle.dg_plain.proofs.StepLemmas.{on_ok}
use Rattle.dg_put.specs.inside.Putting.{around}
use Rattle.dg_put.proofs.StepLemmas.{closed_off, copied_off}
use Rattle.dg_put.proofs.steps.look_closure.Goals as goal

pub returns-in_ok-inner : goal.returns-in_ok-inner
returns-in_ok-inner c =
    let s = built_view c.args.weighed.now.built in
    on_ok c.put_off.result _ _ c.put_off.ensures
    (λ put. copied_off c.args.at c.in_ok-inner.inner (around c.args.uses) c.args.body c.in_ok-number.number s _ c.args.left.now.items _ c.if-at.true c.in_ok-inner.ensures c.in_ok-number.ensures.number c.in_ok-number.ensures.built put)

pub returns-in_ok-inner-2 : goal.returns-in_ok-inner-2
returns-in_ok-inner-2 c =
    on_ok c.put_off-else-at.result _ _ c.put_off-else-at.ensures
    (λ put. closed_off c.args.at c.in_ok-inner-2.inner (around c.args.uses) c.args.body (built_view c.args.weighed.now.built) c.args.left.now.items _ c.if-at.false c.in_ok-inner-2.ensures put)
