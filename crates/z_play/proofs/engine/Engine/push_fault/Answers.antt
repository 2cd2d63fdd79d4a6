use Rattle.std.proofs.Common.{refl}
use Rattle.z_play.proofs.Views.{is_full, is_pushed}
use Rattle.z_play.proofs.engine.Engine.push_fault.Goals as goal

pub returns-then-self-ge65536 : goal.returns-then-self-ge65536
returns-then-self-ge65536 c = λ x. rw (is_full c.args.self.now c.requires c.if-self-ge65536.true x) refl

pub returns : goal.returns
returns c = λ x. rw (is_pushed c.args.self.now c.requires c.if-self-ge65536.false x) refl
