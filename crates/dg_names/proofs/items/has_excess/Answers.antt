use Rattle.dg_base.specs.TreeView.{said_view}
use Rattle.dg_base.specs.Walk.{seen}
use Rattle.dg_names.proofs.ScopeLemmas.{item_over}
use Rattle.dg_names.proofs.items.has_excess.Goals as goal

pub returns : goal.returns
returns c = item_over c.has_many_variables.result (said_view c.args.said.now) (seen c.args.mentions.now) c.has_excess.result c.requires.walk c.requires.things c.has_excess.ensures c.if-has_excess.false c.has_many_variables.ensures
