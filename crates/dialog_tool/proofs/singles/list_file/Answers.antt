use Rattle.std.proofs.Common.{Some, subst}
use Rattle.dg_base.specs.Written.{SinkView}
use Rattle.dialog_tool.specs.Promise.{Answers}
use Rattle.dialog_tool.specs.inside.Calls.{call}
use Rattle.dialog_tool.specs.Command.{singles as singles_command}
use Rattle.dialog_tool.proofs.singles.list_file.Goals as goal

pub returns-in-Ok : goal.returns-in-Ok
returns-in-Ok g c = λ dice input.
    let from = c.in-Ok.ensures.program in
    let lists = c.list-status.ensures (g.F.Shelf.view c.args.shelf.now) (g.F.Shelf.view c.program_in.new.shelf) c.args.name.now from.0 dice input from.1 from.2 in
    subst (λ (before : SinkView). Answers (call (Some (singles_command c.args.name.now)) dice (g.F.Shelf.view c.args.shelf.now) (g.F.Shelf.view c.program_in.new.shelf)
    input input before (g.K.Sink.view c.list-status.new.out)) c.list-status.result) c.in-Ok.ensures.silent lists
