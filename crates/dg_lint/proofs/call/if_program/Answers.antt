use Rattle.std.proofs.Common.{refl}
use Rattle.dg_base.specs.TreeView.{tree_view}
use Rattle.dg_lint.proofs.CallLemmas.{became}
use Rattle.dg_lint.proofs.call.if_program.Goals as goal

pub returns-in-Ok-clause-program : goal.returns-in-Ok-clause-program
returns-in-Ok-clause-program c = (c.in-Ok.program, c.in-Ok.ensures, refl)

pub returns-in-Err-clause-refused : goal.returns-in-Err-clause-refused
returns-in-Err-clause-refused c = became (tree_view c.args.tree) c.in-Err.fault c.in-Err.ensures
