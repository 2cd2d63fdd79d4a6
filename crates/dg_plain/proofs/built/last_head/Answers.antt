use Rattle.std.proofs.Common.{◌∙◌, ap, map}
use Rattle.dg_base.specs.Tree as tree
use Rattle.dg_base.specs.Tree.{parts_of}
use Rattle.dg_base.specs.TreeView.{part_view}
use Rattle.dg_base.proofs.Views.{head_seen}
use Rattle.dg_plain.specs.Building.{Built, built_view}
use Rattle.dg_plain.proofs.BuildLemmas.{front_map, behind_map}
use Rattle.dg_plain.proofs.built.last_head.Goals as goal
use Rattle.std.specs.Prelude.{List}

pub returns-clause-head : goal.returns-clause-head
returns-clause-head c = head_seen _ ∙ ap (λ (l : List tree.Part). parts_of l) (ap (map part_view) c.in_ok-parts.ensures.last ∙ behind_map part_view c.args.count c.args.built.now.parts.items)

pub returns-clause-built : goal.returns-clause-built
returns-clause-built c = ap (λ (l : List tree.Part). record (built_view c.args.built.now) { parts = l }) (ap (map part_view) c.in_ok-parts.ensures.front ∙ front_map part_view c.args.count c.args.built.now.parts.items)
