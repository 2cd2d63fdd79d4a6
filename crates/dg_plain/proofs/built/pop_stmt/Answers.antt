use Rattle.dg_base.specs.TreeView.{stmt_view}
use Rattle.dg_plain.specs.Building.{no_stmt}
use Rattle.dg_plain.proofs.BuildLemmas.{popped_last, popped_init}
use Rattle.dg_plain.proofs.built.pop_stmt.Goals as goal

pub returns-in-Some-clause-stmt : goal.returns-in-Some-clause-stmt
returns-in-Some-clause-stmt c = popped_last stmt_view no_stmt _ _ _ c.in-Some.ensures.items

pub returns-in-Some-clause-stmts : goal.returns-in-Some-clause-stmts
returns-in-Some-clause-stmts c = popped_init stmt_view _ _ _ c.in-Some.ensures.items
