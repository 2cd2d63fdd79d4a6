use Rattle.std.proofs.Common.{arith}
use Rattle.dg_interp.proofs.Branches.{may_undo}
use Rattle.dg_interp.proofs.Parts.{popped_on, cut_on, part_reached, nowhere_to_stop}
use Rattle.dg_interp.proofs.engine.Engine.stop_newest.Goals as goal

pub returns-in-None : goal.returns-in-None
returns-in-None c = nowhere_to_stop c.args.self.now c.pop.new.self c.args.tag (omega (arith, c.in-None.ensures.cases.0))

pub returns-in-Some-waiting : goal.returns-in-Some-waiting
returns-in-Some-waiting c = cut_on c.args.self.now c.in-Some.choice c.pop.new.self c.requires.sound c.in-Some.ensures.items c.args.tag c.in-None-part_of.ensures c.in-Some-waiting.waits c.cut.new.choices c.in-Some-waiting.ensures c.cut.ensures

pub returns-in_default : goal.returns-in_default
returns-in_default c = popped_on c.args.self.now c.in-Some.choice c.pop.new.self c.requires.sound c.in-Some.ensures.items c.args.tag c.in-None-part_of.ensures c.in_default.ensures

pub undo-requires : goal.undo-requires
undo-requires c = may_undo c.args.self.now c.in-Some.choice c.pop.new.self c.requires.sound c.in-Some.ensures.items

pub returns-in-Some-part_of : goal.returns-in-Some-part_of
returns-in-Some-part_of c =
    part_reached c.args.self.now c.in-Some.choice c.pop.new.self c.requires.sound c.in-Some.ensures.items c.args.tag c.truncate.new.self c.truncate-in-Some-part_of.new.self c.close_to.new.self c.undo.new.self c.truncate.ensures.items c.truncate-in-Some-part_of.ensures.items c.close_to.ensures c.undo.ensures.back c.undo.ensures.saved c.cut-in-Some-part_of.new.choices (c.in-Some-part_of.frame, c.in-Some-part_of.older) c.in-Some-part_of.ensures c.cut-in-Some-part_of.ensures
