use Rattle.std.proofs.Common.{[]}
use Rattle.dg_core.proofs.MakingLemmas.{comes}
use Rattle.dg_core.proofs.MakeLemmas.{parted, on_ok, none_of, nothing_put, stmts_none, stmts_weigh_none, stmts_come}
use Rattle.dg_core.proofs.goals.take_stmts.Goals as goal

pub returns-in-empty : goal.returns-in-empty
returns-in-empty c =
    let none = none_of c.args.stmts.now c.in-empty.len_below in
    comes _ _ [] _ (nothing_put _) (λ s m. stmts_none s m c.args.stmts none) (stmts_weigh_none c.args.stmts none)

pub returns-in_ok-push-in-len1-up : goal.returns-in_ok-push-in-len1-up
returns-in_ok-push-in-len1-up c =
    on_ok _ (λ put. stmts_come _ _ _ c.args.stmts _ _ c.in_ok-push-in-len1-up.ensures.ok put (parted c.args.stmts.now c.first-item.result c.in-len1-up.len_at_least c.first-item.is)) c.push-in-len1-up.ensures.ok
