use Rattle.std.proofs.Common.{◌≡◌, refl, subst}
use Rattle.z_model.specs.declared.story.Layout.{Layout}
use Rattle.z_model.specs.Machine.{stored_if}
use Rattle.z_play.specs.View.{layout_in, machine}
use Rattle.z_play.specs.inside.Faults.{fault_of}
use Rattle.z_play.proofs.Returns.{no_caller, left_returns}
use Rattle.z_play.proofs.engine.Engine.return_fault.Goals as goal

pub returns-then-self-eq0-clause-fault : goal.returns-then-self-eq0-clause-fault
returns-then-self-eq0-clause-fault c = λ x. rw (no_caller c.args.self.now (layout_in c.args.self.now) x c.if-self-eq0.true) refl

pub returns-clause-fault : goal.returns-clause-fault
returns-clause-fault c = λ x.
    rw (left_returns (layout_in c.args.self.now) (machine c.args.self.now) (machine c.leave.new.self) x c.leave.ensures.left) (subst (λ (layout : Layout). c.store_fault-fault.result ≡ fault_of (stored_if layout (machine c.leave.new.self) c.args.self.now.here.store x)) c.leave.ensures.kept.layout (c.store_fault-fault.ensures x))
