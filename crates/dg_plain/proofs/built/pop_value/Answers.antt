use Rattle.dg_base.specs.Tree as tree
use Rattle.dg_base.specs.TreeView.{value_view}
use Rattle.dg_plain.proofs.BuildLemmas.{popped_last, popped_init}
use Rattle.dg_plain.proofs.built.pop_value.Goals as goal

pub returns-in-Some-clause-value : goal.returns-in-Some-clause-value
returns-in-Some-clause-value c = popped_last value_view tree.current_topic _ _ _ c.in-Some.ensures.items

pub returns-in-Some-clause-values : goal.returns-in-Some-clause-values
returns-in-Some-clause-values c = popped_init value_view _ _ _ c.in-Some.ensures.items
