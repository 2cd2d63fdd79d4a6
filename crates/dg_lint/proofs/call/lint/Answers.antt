use Rattle.dg_base.specs.TreeView.{tree_view}
use Rattle.dg_lint.proofs.CallLemmas.{all_refused, unread_refused}
use Rattle.dg_lint.proofs.call.lint.Goals as goal

pub returns-in-Ok-clause-lines : goal.returns-in-Ok-clause-lines
returns-in-Ok-clause-lines c = c.lines_of_tree.ensures.lines c.args.source.now c.in-Ok.ensures.tree

pub returns-in-Ok-clause-refused : goal.returns-in-Ok-clause-refused
returns-in-Ok-clause-refused c = all_refused c.items_decide.ensures c.args.source.now (tree_view c.in-Ok.tree) c.lines_of_tree.result c.in-Ok.ensures.tree c.lines_of_tree.ensures.refused

pub returns-in-Err-clause-refused : goal.returns-in-Err-clause-refused
returns-in-Err-clause-refused c = unread_refused c.unread_sources_are_refused.ensures c.args.source.now c.in-Err.fault c.in-Err.ensures.refused

pub lines_of_tree-requires : goal.lines_of_tree-requires
lines_of_tree-requires c = (c.args.source.now, c.in-Ok.ensures.tree)
