use Rattle.std.proofs.Common.{sym}
use Rattle.dg_plain.proofs.StepLemmas.{on_ok, parted}
use Rattle.dg_put.proofs.StepLemmas.{queries_off, skipped_off}
use Rattle.dg_put.proofs.steps.look_queries.Goals as goal

pub returns-in-Some : goal.returns-in-Some
returns-in-Some c = on_ok c.put_off_both.result _ _ c.put_off_both.ensures (queries_off c.args.at c.args.stmts.now c.first-item.result c.args.set c.in-Some.sets c.in-Some.parts _ c.args.left.now.items _ (parted c.args.stmts.now c.first-item.result c.in-len1-up.len_at_least c.first-item.is) (sym c.in-Some.ensures))

pub returns-in-None : goal.returns-in-None
returns-in-None c = on_ok c.put_off_one.result _ _ c.put_off_one.ensures (skipped_off c.args.at c.args.stmts.now c.first-item.result c.args.set _ c.args.left.now.items _ (parted c.args.stmts.now c.first-item.result c.in-len1-up.len_at_least c.first-item.is) (sym c.in-None.ensures))
