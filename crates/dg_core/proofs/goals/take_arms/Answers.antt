use Rattle.std.proofs.Common.{[], refl}
use Rattle.dg_base.proofs.Views.{arm_seen}
use Rattle.dg_core.proofs.MakingLemmas.{comes}
use Rattle.dg_core.proofs.MakeLemmas.{parted, on_ok, none_of, nothing_put, arms_none, arms_weigh_none, arms_come_other, arms_come}
use Rattle.dg_core.proofs.goals.take_arms.Goals as goal

pub returns-in-None : goal.returns-in-None
returns-in-None c =
    let none = none_of c.args.arms.now c.in-empty.len_below in
    comes _ _ [] _ (nothing_put _) (λ s m. arms_none s m c.args.arms c.args.other none c.in-None.is) (arms_weigh_none c.args.arms c.args.other none c.in-None.is)

pub returns-in-Some : goal.returns-in-Some
returns-in-Some c = on_ok _ (λ put. arms_come_other _ _ c.args.arms c.args.other _ put (none_of c.args.arms.now c.in-empty.len_below) c.in-Some.is) c.push.ensures.ok

pub returns-in-len1-up : goal.returns-in-len1-up
returns-in-len1-up c =
    on_ok _ (λ put. arms_come _ _ c.args.arms c.args.other _ c.first-item.result _ _ _ put refl (parted c.args.arms.now c.first-item.result c.in-len1-up.len_at_least c.first-item.is) (arm_seen c.first-item.result)) c.put_arm.ensures
