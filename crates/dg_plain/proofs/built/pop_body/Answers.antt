use Rattle.dg_base.specs.Tree as tree
use Rattle.dg_base.specs.TreeView.{body_view}
use Rattle.dg_plain.proofs.BuildLemmas.{popped_last, popped_init}
use Rattle.dg_plain.proofs.built.pop_body.Goals as goal

pub returns-in-Some-clause-body : goal.returns-in-Some-clause-body
returns-in-Some-clause-body c = popped_last body_view tree.no_branches _ _ _ c.in-Some.ensures.items

pub returns-in-Some-clause-bodies : goal.returns-in-Some-clause-bodies
returns-in-Some-clause-bodies c = popped_init body_view _ _ _ c.in-Some.ensures.items
