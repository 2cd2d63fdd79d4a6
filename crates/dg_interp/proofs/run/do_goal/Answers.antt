use Rattle.std.proofs.Common.{◌∷◌, [], ◌∙◌}
use Rattle.dg_meaning.specs.World.{Piece, Prints}
use Rattle.dg_spacing.specs.Gaps.{print_of}
use Rattle.dg_interp.proofs.Places.{same_limits}
use Rattle.dg_interp.proofs.Runs.{shown_done, shown_breaks}
use Rattle.dg_interp.proofs.Doing.{one_then, word_prints, gap_prints, is_act, goal_does, goal_breaks, goal_quits, stops_does, stops_breaks, stopped_does, stopped_breaks}
use Rattle.dg_interp.proofs.run.do_goal.Goals as goal

pub returns-in-Ok-clause-ok : goal.returns-in-Ok-clause-ok
returns-in-Ok-clause-ok g c =
    shown_done g.A.Showing.watching c.args.engine.now c.take_goal.new.self c.args.output.now.printer.spacer c.print_one.new.printer.spacer (c.args.output.now.printer.showing, c.args.sink.now) (c.print_one.new.printer.showing, c.print_one.new.sink) _ (Prints (Piece c.as_slice.result.now) ∷ []) c.take_goal.ensures.taken.left (one_then c.take_goal.result.now (Piece c.as_slice.result.now) c.args.engine.now c.take_goal.new.self c.take_goal.ensures.taken (word_prints c.take_goal.result.now c.in-Text.name c.as_slice.result.now c.take_goal.new.self c.in-Text.is c.as_slice.ensures))
    c.take_goal.ensures.taken.ready (same_limits c.take_goal.ensures.taken.limits) (c.take_goal.ensures.taken.limits.told ∙ c.requires.quiet) c.in-Ok.ensures

pub returns-in-Err-clause-err : goal.returns-in-Err-clause-err
returns-in-Err-clause-err g c =
    shown_breaks g.A.Showing.watching c.args.engine.now c.take_goal.new.self c.args.output.now.printer.spacer c.print_one.new.printer.spacer (c.args.output.now.printer.showing, c.args.sink.now) (c.print_one.new.printer.showing, c.print_one.new.sink) _ (Prints (Piece c.as_slice.result.now) ∷ []) c.take_goal.ensures.taken.left (one_then c.take_goal.result.now (Piece c.as_slice.result.now) c.args.engine.now c.take_goal.new.self c.take_goal.ensures.taken (word_prints c.take_goal.result.now c.in-Text.name c.as_slice.result.now c.take_goal.new.self c.in-Text.is c.as_slice.ensures))
    c.requires.goal c.in-Err.fault c.in-Err.ensures

pub returns-in-Ok-print_one-clause-ok : goal.returns-in-Ok-print_one-clause-ok
returns-in-Ok-print_one-clause-ok g c =
    shown_done g.A.Showing.watching c.args.engine.now c.take_goal.new.self c.args.output.now.printer.spacer c.print_one-in-Gap.new.printer.spacer (c.args.output.now.printer.showing, c.args.sink.now) (c.print_one-in-Gap.new.printer.showing, c.print_one-in-Gap.new.sink) _ (Prints (print_of c.event_of.result) ∷ []) c.take_goal.ensures.taken.left (one_then c.take_goal.result.now (print_of c.event_of.result) c.args.engine.now c.take_goal.new.self c.take_goal.ensures.taken (gap_prints c.take_goal.result.now c.in-Gap.kind (print_of c.event_of.result) c.take_goal.new.self c.in-Gap.is c.event_of.ensures))
    c.take_goal.ensures.taken.ready (same_limits c.take_goal.ensures.taken.limits) (c.take_goal.ensures.taken.limits.told ∙ c.requires.quiet) c.in-Ok-print_one.ensures

pub returns-in-Err-print_one-clause-err : goal.returns-in-Err-print_one-clause-err
returns-in-Err-print_one-clause-err g c =
    shown_breaks g.A.Showing.watching c.args.engine.now c.take_goal.new.self c.args.output.now.printer.spacer c.print_one-in-Gap.new.printer.spacer (c.args.output.now.printer.showing, c.args.sink.now) (c.print_one-in-Gap.new.printer.showing, c.print_one-in-Gap.new.sink) _ (Prints (print_of c.event_of.result) ∷ []) c.take_goal.ensures.taken.left (one_then c.take_goal.result.now (print_of c.event_of.result) c.args.engine.now c.take_goal.new.self c.take_goal.ensures.taken (gap_prints c.take_goal.result.now c.in-Gap.kind (print_of c.event_of.result) c.take_goal.new.self c.in-Gap.is c.event_of.ensures))
    c.requires.goal c.in-Err-print_one.fault c.in-Err-print_one.ensures

pub print_term-requires-clause-quiet : goal.print_term-requires-clause-quiet
print_term-requires-clause-quiet g c = c.take_goal.ensures.taken.limits.told ∙ c.requires.quiet

pub returns-in-Print-clause-ok : goal.returns-in-Print-clause-ok
returns-in-Print-clause-ok g c = c.print_term.ensures.ok c.args.engine.now _ c.requires.goal (rw c.in-Print.is at c.take_goal.ensures.taken)

pub returns-in-Print-clause-err : goal.returns-in-Print-clause-err
returns-in-Print-clause-err g c = c.print_term.ensures.err c.args.engine.now _ c.requires.goal (rw c.in-Print.is at c.take_goal.ensures.taken)

pub print_spaces-requires-clause-quiet : goal.print_spaces-requires-clause-quiet
print_spaces-requires-clause-quiet g c = c.take_goal.ensures.taken.limits.told ∙ c.requires.quiet

pub returns-in-GapN-clause-ok : goal.returns-in-GapN-clause-ok
returns-in-GapN-clause-ok g c = c.print_spaces.ensures.ok c.args.engine.now _ c.requires.goal (rw c.in-GapN.is at c.take_goal.ensures.taken)

pub returns-in-GapN-clause-err : goal.returns-in-GapN-clause-err
returns-in-GapN-clause-err g c = c.print_spaces.ensures.err c.args.engine.now _ c.requires.goal (rw c.in-GapN.is at c.take_goal.ensures.taken)

pub read_input-requires-clause-quiet : goal.read_input-requires-clause-quiet
read_input-requires-clause-quiet g c = c.take_goal.ensures.taken.limits.told ∙ c.requires.quiet

pub returns-in-Input-clause-ok : goal.returns-in-Input-clause-ok
returns-in-Input-clause-ok g c = c.read_input.ensures.ok c.args.engine.now c.requires.goal (rw c.in-Input.is at c.take_goal.ensures.taken)

pub returns-in-Input-clause-err : goal.returns-in-Input-clause-err
returns-in-Input-clause-err g c = c.read_input.ensures.err c.args.engine.now c.requires.goal (rw c.in-Input.is at c.take_goal.ensures.taken)

pub returns-in-Quit-clause-ok : goal.returns-in-Quit-clause-ok
returns-in-Quit-clause-ok g c = goal_quits g.A.Showing.watching c.take_goal.result.now c.args.engine.now c.take_goal.new.self c.args.output.now.printer.spacer (c.args.output.now.printer.showing, c.args.sink.now) _ c.requires.goal c.take_goal.ensures.taken (c.take_goal.ensures.taken.limits.told ∙ c.requires.quiet) c.in-Quit.is

pub returns-then-stop-clause-ok : goal.returns-then-stop-clause-ok
returns-then-stop-clause-ok g c = stops_does g.A.Showing.watching c.take_goal.result.now c.args.engine.now c.take_goal.new.self c.args.output.now.printer.spacer (c.args.output.now.printer.showing, c.args.sink.now) _ c.requires.goal c.take_goal.ensures.taken (c.take_goal.ensures.taken.limits.told ∙ c.requires.quiet) c.stop.new.self c.told.new.engine c.told.new.output.printer.spacer c.told.ensures.spacer (c.told.new.output.printer.showing, c.told.new.sink) c.told.result (rw c.if-stop.true at c.stop.ensures).left c.told.ensures.told c.in-Stop.is (rw c.if-stop.true at c.stop.ensures)

pub returns-then-stop-clause-err : goal.returns-then-stop-clause-err
returns-then-stop-clause-err g c = stops_breaks g.A.Showing.watching c.take_goal.result.now c.args.engine.now c.take_goal.new.self c.args.output.now.printer.spacer (c.args.output.now.printer.showing, c.args.sink.now) _ c.requires.goal c.take_goal.ensures.taken (c.take_goal.ensures.taken.limits.told ∙ c.requires.quiet) c.stop.new.self c.told.new.engine c.told.new.output.printer.spacer c.told.ensures.spacer (c.told.new.output.printer.showing, c.told.new.sink) c.told.result (rw c.if-stop.true at c.stop.ensures).left c.told.ensures.told c.in-Stop.is (rw c.if-stop.true at c.stop.ensures)

pub returns-else-stop-clause-ok : goal.returns-else-stop-clause-ok
returns-else-stop-clause-ok g c = stopped_does g.A.Showing.watching c.take_goal.result.now c.args.engine.now c.take_goal.new.self c.args.output.now.printer.spacer (c.args.output.now.printer.showing, c.args.sink.now) _ c.requires.goal c.take_goal.ensures.taken (c.take_goal.ensures.taken.limits.told ∙ c.requires.quiet) c.stop.new.self c.told-else-stop.new.engine c.told-else-stop.new.output.printer.spacer c.told-else-stop.ensures.spacer (c.told-else-stop.new.output.printer.showing, c.told-else-stop.new.sink) c.told-else-stop.result (rw c.if-stop.false at c.stop.ensures).left c.told-else-stop.ensures.told c.in-Stop.is (rw c.if-stop.false at c.stop.ensures)

pub returns-else-stop-clause-err : goal.returns-else-stop-clause-err
returns-else-stop-clause-err g c = stopped_breaks g.A.Showing.watching c.take_goal.result.now c.args.engine.now c.take_goal.new.self c.args.output.now.printer.spacer (c.args.output.now.printer.showing, c.args.sink.now) _ c.requires.goal c.take_goal.ensures.taken (c.take_goal.ensures.taken.limits.told ∙ c.requires.quiet) c.stop.new.self c.told-else-stop.new.engine c.told-else-stop.new.output.printer.spacer c.told-else-stop.ensures.spacer (c.told-else-stop.new.output.printer.showing, c.told-else-stop.new.sink) c.told-else-stop.result (rw c.if-stop.false at c.stop.ensures).left c.told-else-stop.ensures.told c.in-Stop.is (rw c.if-stop.false at c.stop.ensures)

pub act-done-requires-clause-act : goal.act-done-requires-clause-act
act-done-requires-clause-act g c = is_act c.take_goal.result.now c.in_default.not-Text c.in_default.not-Print c.in_default.not-Quit c.in_default.not-Stop c.in_default.not-Gap c.in_default.not-GapN c.in_default.not-Input

pub returns-in_default-clause-ok : goal.returns-in_default-clause-ok
returns-in_default-clause-ok g c = goal_does g.A.Showing.watching c.take_goal.result.now c.args.engine.now c.take_goal.new.self c.args.output.now.printer.spacer (c.args.output.now.printer.showing, c.args.sink.now) _ c.requires.goal c.take_goal.ensures.taken (c.take_goal.ensures.taken.limits.told ∙ c.requires.quiet) c.act-done.new.self c.outcome.new.engine c.outcome.new.output.printer.spacer c.outcome.ensures.spacer (c.outcome.new.output.printer.showing, c.outcome.new.sink) c.outcome.result c.act-done.ensures.left c.act-done.result c.outcome.ensures.comes c.act-done.ensures.done c.act-done.ensures.lacks

pub returns-in_default-clause-err : goal.returns-in_default-clause-err
returns-in_default-clause-err g c = goal_breaks g.A.Showing.watching c.take_goal.result.now c.args.engine.now c.take_goal.new.self c.args.output.now.printer.spacer (c.args.output.now.printer.showing, c.args.sink.now) _ c.requires.goal c.take_goal.ensures.taken (c.take_goal.ensures.taken.limits.told ∙ c.requires.quiet) c.act-done.new.self c.outcome.new.engine c.outcome.new.output.printer.spacer c.outcome.ensures.spacer (c.outcome.new.output.printer.showing, c.outcome.new.sink) c.outcome.result c.act-done.ensures.left c.act-done.result c.outcome.ensures.comes c.act-done.ensures.done
