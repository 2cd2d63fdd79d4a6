use Rattle.std.proofs.Common.{refl, arith}
use Rattle.z_play.proofs.Views.{local_is_set, no_local_set}
use Rattle.z_play.proofs.engine.Engine.local_fault.Goals as goal

pub returns-then-self-v : goal.returns-then-self-v
returns-then-self-v c = λ x. rw (no_local_set c.args.self.now c.args.v x c.requires.sound (omega arith)) refl

pub returns : goal.returns
returns c = λ x. rw (local_is_set c.args.self.now c.args.v x c.requires.sound (omega arith)) refl
