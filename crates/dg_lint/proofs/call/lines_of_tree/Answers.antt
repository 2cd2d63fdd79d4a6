use Rattle.std.proofs.Common.{Vec, Global, ℕ}
use Rattle.dg_base.specs.TreeView.{tree_view}
use Rattle.dg_lint.proofs.CallLemmas.{has_lines}
use Rattle.dg_lint.proofs.call.lines_of_tree.Goals as goal

pub returns-in-Ok-clause-lines : goal.returns-in-Ok-clause-lines
returns-in-Ok-clause-lines c = λ source read. has_lines c.args.name.now source c.in-Ok.text.items (tree_view c.args.tree) (λ (v : Vec ℕ Global). v.items) c.if_program.result read c.in-Ok.ensures c.if_program.ensures.program
