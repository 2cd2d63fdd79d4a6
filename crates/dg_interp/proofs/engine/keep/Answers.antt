use Rattle.std.proofs.Common.{rules}
use Rattle.dg_interp.proofs.Begins.{kept_more}
use Rattle.dg_interp.proofs.engine.keep.Goals as goal

pub returns-in-Ok-push-clause-choices : goal.returns-in-Ok-push-clause-choices
returns-in-Ok-push-clause-choices c = kept_more c.args.stays c.args.choice c.args.choices.now.items c.push.new.self.items (search rules) c.in-Ok-push.ensures.items
