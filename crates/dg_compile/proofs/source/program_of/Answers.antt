use Rattle.dg_base.specs.TreeView.{tree_view}
use Rattle.dg_names.specs.Counts.{IsNamed}
use Rattle.dg_names.specs.State.{names_view}
use Rattle.dg_compile.proofs.SourceLemmas.{then_ok, then_err}
use Rattle.dg_compile.proofs.source.program_of.Goals as goal

pub returns-in-Ok : goal.returns-in-Ok
returns-in-Ok c = then_ok (IsNamed (tree_view c.args.tree)) _ (names_view c.in-Ok.names) c.named_program.result c.in-Ok.ensures.named c.named_program.ensures

pub returns-in-Err : goal.returns-in-Err
returns-in-Err c = then_err (IsNamed (tree_view c.args.tree)) _ c.in-Err.fault c.in-Err.ensures.refused
