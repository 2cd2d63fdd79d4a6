use Rattle.std.proofs.Common.{sym}
use Rattle.dg_interp.proofs.engine.Engine.print.Goals as goal

pub returns-clause-printed : goal.returns-clause-printed
returns-clause-printed g c = c.print_parts.ensures.printed c.args.self.now.program.now (sym c.as_slice-words.ensures) (sym c.as_slice-objects.ensures)
