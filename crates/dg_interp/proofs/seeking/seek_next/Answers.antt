use Rattle.dg_interp.proofs.Searches.{next_done, next_short}
use Rattle.dg_interp.proofs.seeking.seek_next.Goals as goal

pub returns-in-Ok-true-clause-turns : goal.returns-in-Ok-true-clause-turns
returns-in-Ok-true-clause-turns c = next_done c.args.engine.now c.seek_goal.new.engine (rw c.in-Ok-true.field-0-test at c.in-Ok-true.ensures.done) c.next_goal.new.self c.next_goal.result c.next_goal.ensures.next

pub returns-in-Ok-true-clause-lacks : goal.returns-in-Ok-true-clause-lacks
returns-in-Ok-true-clause-lacks c = next_short c.args.engine.now c.seek_goal.new.engine (rw c.in-Ok-true.field-0-test at c.in-Ok-true.ensures.done) c.next_goal.result c.next_goal.ensures.lacks
