use Rattle.std.proofs.Common.{map, ap, ◌∙◌}
use Rattle.dg_base.specs.Heads.{is_close}
use Rattle.dg_base.specs.Tree.{parts_of}
use Rattle.dg_base.specs.TreeView.{part_view}
use Rattle.dg_base.proofs.HeadLemmas.{is_named}
use Rattle.dg_base.proofs.heads.is_named.Goals as goal

pub returns : goal.returns
returns c = c.is_close.ensures ∙ ap is_close c.behind_open.ensures ∙ is_named (parts_of (map part_view c.args.parts.now)) c.args.name.now
