use Rattle.dg_base.specs.Tree as tree
use Rattle.dg_base.specs.TreeView.{body_view}
use Rattle.dg_plain.proofs.BuildLemmas.{popped_last}
use Rattle.dg_put.proofs.expanding.last_body.Goals as goal

pub returns-in-Some : goal.returns-in-Some
returns-in-Some c = popped_last body_view tree.no_branches _ _ _ c.in-Some.ensures.items
