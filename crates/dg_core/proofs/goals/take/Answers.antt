use Rattle.std.proofs.Common.{arith}
use Rattle.dg_core.proofs.MakeLemmas.{on_ok, takes_is, takes_apart, takes_now}
use Rattle.dg_core.proofs.goals.take.Goals as goal

pub returns-in-Stmt : goal.returns-in-Stmt
returns-in-Stmt c = on_ok _ (λ h. takes_is _ c.args.work _ _ _ _ _ c.in-Stmt.is h) c.take_stmt.ensures

pub returns-in-Stmts : goal.returns-in-Stmts
returns-in-Stmts c = on_ok _ (λ h. takes_apart _ c.args.work _ _ _ _ c.in-Stmts.is h) c.take_stmts.ensures

pub returns-in-Body : goal.returns-in-Body
returns-in-Body c = on_ok _ (λ h. takes_apart _ c.args.work _ _ _ _ c.in-Body.is h) c.take_body.ensures

pub returns-in-Branches : goal.returns-in-Branches
returns-in-Branches c = on_ok _ (λ h. takes_apart _ c.args.work _ _ _ _ c.in-Branches.is h) c.take_branches.ensures

pub returns-in-Arms : goal.returns-in-Arms
returns-in-Arms c = on_ok _ (λ h. takes_apart _ c.args.work _ _ _ _ c.in-Arms.is h) c.take_arms.ensures

pub returns-in-Begin : goal.returns-in-Begin
returns-in-Begin c = on_ok _ (λ e. takes_now _ c.args.work _ _ _ _ c.in-Begin.is e (omega arith)) c.begin_goals.ensures

pub returns-in-BeginLists : goal.returns-in-BeginLists
returns-in-BeginLists c = on_ok _ (λ e. takes_now _ c.args.work _ _ _ _ c.in-BeginLists.is e (omega arith)) c.begin_lists.ensures

pub returns-in-Branch : goal.returns-in-Branch
returns-in-Branch c = on_ok _ (λ e. takes_now _ c.args.work _ _ _ _ c.in-Branch.is e (omega arith)) c.end_branch.ensures

pub returns-in-End : goal.returns-in-End
returns-in-End c = on_ok _ (λ e. takes_now _ c.args.work _ _ _ _ c.in-End.is e (omega arith)) c.end.ensures
