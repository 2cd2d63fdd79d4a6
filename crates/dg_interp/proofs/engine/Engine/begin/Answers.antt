use Rattle.std.proofs.Common.{length}
use Rattle.dg_choices.specs.declared.frames.Left.TheVariants.{Ways}
use Rattle.dg_interp.proofs.Begins.{one_way_begun, part_begun}
use Rattle.dg_interp.proofs.BeginFrames.{ways_begin}
use Rattle.dg_interp.proofs.engine.Engine.begin.Goals as goal

pub begin_rule-requires-clause-left : goal.begin_rule-requires-clause-left
begin_rule-requires-clause-left c = rw c.in-Rules.is at c.requires.left

pub begin_list-requires-clause-left : goal.begin_list-requires-clause-left
begin_list-requires-clause-left c = rw c.in-Lists.is at c.requires.left

pub begin_frame-requires-clause-frame : goal.begin_frame-requires-clause-frame
begin_frame-requires-clause-frame c = (rw c.in-Ways.is at c.requires.left).0

pub begin_frame-requires-clause-others : goal.begin_frame-requires-clause-others
begin_frame-requires-clause-others c = (rw c.in-Ways.is at c.requires.left).1

pub returns-in-Ok-begin_frame-clause-tried : goal.returns-in-Ok-begin_frame-clause-tried
returns-in-Ok-begin_frame-clause-tried c = rw c.in-Ways.is (c.in-Ok-begin_frame.ensures.begun (Ways c.in-Ways.first c.in-Ways.other) (ways_begin (length c.args.self.now.frames.items) c.in-Ways.first c.in-Ways.other))

pub returns-in-Err-begin_frame-clause-full : goal.returns-in-Err-begin_frame-clause-full
returns-in-Err-begin_frame-clause-full c = rw c.in-Ways.is (c.in-Err-begin_frame.ensures.full (Ways c.in-Ways.first c.in-Ways.other) (ways_begin (length c.args.self.now.frames.items) c.in-Ways.first c.in-Ways.other))

pub returns-in-Way-clause-tried : goal.returns-in-Way-clause-tried
returns-in-Way-clause-tried c = rw c.in-Way.is (one_way_begun c.args.self.now c.in-Way.frame c.args.place c.requires.sound (rw c.in-Way.is at c.requires.left))

pub begin_rule-requires-clause-sound : goal.begin_rule-requires-clause-sound
begin_rule-requires-clause-sound c = c.requires.sound

pub begin_rule-requires-clause-place : goal.begin_rule-requires-clause-place
begin_rule-requires-clause-place c = c.requires.place

pub begin_list-requires-clause-sound : goal.begin_list-requires-clause-sound
begin_list-requires-clause-sound c = c.requires.sound

pub begin_list-requires-clause-place : goal.begin_list-requires-clause-place
begin_list-requires-clause-place c = c.requires.place

pub begin_frame-requires-clause-sound : goal.begin_frame-requires-clause-sound
begin_frame-requires-clause-sound c = c.requires.sound

pub begin_frame-requires-clause-place : goal.begin_frame-requires-clause-place
begin_frame-requires-clause-place c = c.requires.place

pub returns-in-Behind-clause-tried : goal.returns-in-Behind-clause-tried
returns-in-Behind-clause-tried c = rw c.in-Behind.is (part_begun c.args.self.now c.in-Behind.frame c.in-Behind.field-1 c.args.place c.requires.sound (rw c.in-Behind.is at c.requires.left))

pub take_out-requires-clause-left : goal.take_out-requires-clause-left
take_out-requires-clause-left c = rw c.in-TakeOut.is at c.requires.left

pub returns-in-TakeOut-clause-tried : goal.returns-in-TakeOut-clause-tried
returns-in-TakeOut-clause-tried c = rw c.in-TakeOut.is (c.take_out.ensures.tried c.args.place)

pub returns-in-TakeOut-clause-full : goal.returns-in-TakeOut-clause-full
returns-in-TakeOut-clause-full c = rw c.in-TakeOut.is (c.take_out.ensures.full c.args.place)

pub returns-in-TakeOut-clause-fewer : goal.returns-in-TakeOut-clause-fewer
returns-in-TakeOut-clause-fewer c = rw c.in-TakeOut.is c.take_out.ensures.fewer

pub begin_object-requires-clause-left : goal.begin_object-requires-clause-left
begin_object-requires-clause-left c = rw c.in-Things.is at c.requires.left

pub begin_object-requires-clause-some : goal.begin_object-requires-clause-some
begin_object-requires-clause-some c = rw c.in-Things.is at c.requires.some

pub returns-in-Things-clause-tried : goal.returns-in-Things-clause-tried
returns-in-Things-clause-tried c = rw c.in-Things.is c.begin_object.ensures.tried

pub returns-in-Things-clause-full : goal.returns-in-Things-clause-full
returns-in-Things-clause-full c = rw c.in-Things.is c.begin_object.ensures.full

pub returns-in-Things-clause-fewer : goal.returns-in-Things-clause-fewer
returns-in-Things-clause-fewer c = rw c.in-Things.is c.begin_object.ensures.fewer
