use Rattle.std.proofs.Common.{◌∙◌, ap, map}
use Rattle.dg_base.specs.Tree as tree
use Rattle.dg_base.specs.Tree.{parts_of}
use Rattle.dg_base.specs.TreeView.{part_view}
use Rattle.dg_plain.specs.State.{first_or}
use Rattle.dg_plain.proofs.PartsLemmas.{first_else}
use Rattle.dg_plain.proofs.standing.first_value.Goals as goal

pub loop-part-init : goal.loop-part-init
loop-part-init c =
    ap (λ (d : tree.Value). first_or (parts_of (map part_view c.args.parts)) d) c.no_value-first.ensures
    ∙ first_else (parts_of (map part_view c.args.parts))
