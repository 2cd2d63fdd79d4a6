use Rattle.dg_interp.proofs.BeginFrames.{frame_full, frame_begun}
use Rattle.dg_interp.proofs.engine.Engine.begin_frame.Goals as goal

pub returns-in-Err-clause-full : goal.returns-in-Err-clause-full
returns-in-Err-clause-full c = λ all with.
    frame_full c.args.self.now c.args.frame c.args.others c.args.stays c.args.place c.keep.new.store c.keep.new.choices c.requires.sound c.requires.frame c.requires.others c.requires.plain c.requires.stays c.requires.place c.keep.ensures.kept c.keep.ensures.saved all with c.in-Err.e (rw c.frame_cells-cells.ensures at c.in-Err.ensures.taken)

pub returns-clause-begun : goal.returns-clause-begun
returns-clause-begun c = λ all with.
    frame_begun c.args.self.now c.args.frame c.args.others c.args.stays c.args.place c.keep.new.store c.keep.new.choices c.requires.sound c.requires.frame c.requires.others c.requires.plain c.requires.stays c.requires.place c.keep.ensures.kept c.keep.ensures.saved all with (rw c.frame_cells-cells.ensures at c.in_default.ensures.taken) (rw c.choice_here-choice.ensures at c.in_default.ensures.choices)
