use Rattle.std.proofs.Common.{subst, sym, Result}
use Rattle.z_model.specs.Machine.{Machine, stored_if}
use Rattle.z_model.specs.declared.fault.ZFault.{ZFault}
use Rattle.z_model.specs.declared.story.Layout.{Layout}
use Rattle.z_play.specs.View.{layout_in, machine, Sets}
use Rattle.z_play.proofs.Returns.{no_caller, left_returns}
use Rattle.z_play.proofs.engine.Engine.give_back.Goals as goal

pub returns-then-self-eq0-clause-returned : goal.returns-then-self-eq0-clause-returned
returns-then-self-eq0-clause-returned c = no_caller c.args.self.now (layout_in c.args.self.now) c.args.x c.if-self-eq0.true

pub returns-clause-returned : goal.returns-clause-returned
returns-clause-returned c =
    let same = left_returns (layout_in c.args.self.now) (machine c.args.self.now) (machine c.leave.new.self) c.args.x c.leave.ensures.left in
    subst (λ (r : Result Machine ZFault). Sets c.store_if.result (machine c.store_if.new.self) r) (sym same) (subst (λ (layout : Layout). Sets c.store_if.result (machine c.store_if.new.self) (stored_if layout (machine c.leave.new.self) c.args.self.now.here.store c.args.x)) c.leave.ensures.kept.layout c.store_if.ensures.stored)
