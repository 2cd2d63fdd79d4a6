use Rattle.std.proofs.Common.{[]}
use Rattle.dg_core.proofs.MakingLemmas.{comes}
use Rattle.dg_core.proofs.MakeLemmas.{parted, on_ok, none_of, nothing_put, branches_none, branches_weigh_none, branches_come}
use Rattle.dg_core.proofs.goals.take_branches.Goals as goal

pub returns-in-empty : goal.returns-in-empty
returns-in-empty c =
    let none = none_of c.args.branches.now c.in-empty.len_below in
    comes _ _ [] _ (nothing_put _) (λ s m. branches_none s m c.args.branches none) (branches_weigh_none c.args.branches none)

pub returns-in_ok-push-in-len1-up-3 : goal.returns-in_ok-push-in-len1-up-3
returns-in_ok-push-in-len1-up-3 c =
    on_ok _
    (λ put. branches_come _ _ _ _ _ c.args.branches c.first-item.result _ _ c.in_ok-push-in-len1-up.ensures.ok c.in_ok-push-in-len1-up-2.ensures.ok c.in_ok-push-in-len1-up-3.ensures.ok put (parted c.args.branches.now c.first-item.result c.in-len1-up.len_at_least c.first-item.is) c.as_slice.ensures)
    c.push-in-len1-up-3.ensures.ok
