use Rattle.std.proofs.Common.{subst}
use Rattle.z_model.specs.declared.story.Layout.{Layout}
use Rattle.z_model.specs.Machine.{stored_if}
use Rattle.z_model.specs.Run.{line_read}
use Rattle.z_play.specs.View.{machine, Sets}
use Rattle.z_play.proofs.Rights.{rights_kept, kept_then}
use Rattle.z_play.proofs.engine.Engine.finish_read.Goals as goal

pub returns-in_err-write_typed-clause-kept : goal.returns-in_err-write_typed-clause-kept
returns-in_err-write_typed-clause-kept c = rights_kept c.args.self.now c.write_typed.new.mem c.args.self.now.pc c.requires.sound c.in_err-write_typed.ensures.rights

pub store_if-requires : goal.store_if-requires
store_if-requires c = (rights_kept c.args.self.now c.write_typed.new.mem c.args.self.now.pc c.requires.sound c.in_ok-write_typed.ensures.rights).sound

pub returns-clause-kept : goal.returns-clause-kept
returns-clause-kept c = kept_then _ _ _ (rights_kept c.args.self.now c.write_typed.new.mem c.args.self.now.pc c.requires.sound c.in_ok-write_typed.ensures.rights) c.store_if.ensures.kept

pub returns-clause-read : goal.returns-clause-read
unfolding line_read
returns-clause-read c =
    let kept = rights_kept c.args.self.now c.write_typed.new.mem c.args.self.now.pc c.requires.sound c.in_ok-write_typed.ensures.rights in
    rw c.in_ok-write_typed.ensures.set (subst (λ (layout : Layout). Sets c.store_if.result (machine c.store_if.new.self) (stored_if layout (machine (record c.args.self.now { memory = c.write_typed.new.mem })) c.args.store 13)) kept.layout c.store_if.ensures.stored)
