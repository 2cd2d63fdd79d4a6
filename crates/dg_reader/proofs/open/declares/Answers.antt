use Rattle.std.proofs.Common.{map}
use Rattle.std.proofs.lemmas.List.{length-map}
use Rattle.dg_base.specs.TreeView.{part_view}
use Rattle.dg_reader.proofs.Keys.{short_declares_nothing}
use Rattle.dg_reader.proofs.open.declares.Goals as goal

pub returns-in_default : goal.returns-in_default
returns-in_default c = short_declares_nothing (map part_view c.args.parts.now) (simp length-map c.in_default.len_below)
