use Rattle.dg_interp.proofs.Searches.{goal_done, goal_short}
use Rattle.dg_interp.proofs.seeking.seek_goal.Goals as goal

pub returns-in_default : goal.returns-in_default
returns-in_default c = record {
  done = goal_done c.take_goal.result.now c.args.engine.now c.take_goal.new.self c.take_goal.ensures.taken c.act.new.self c.act.result c.act.ensures.done;
  lacks = goal_short c.take_goal.result.now c.args.engine.now c.take_goal.new.self c.take_goal.ensures.taken c.act.result c.act.ensures.lacks;
}
