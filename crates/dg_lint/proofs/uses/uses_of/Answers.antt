use Rattle.std.proofs.Common.{◌∙◌, ap, map}
use Rattle.dg_base.specs.TreeView.{item_view}
use Rattle.dg_lint.specs.Uses.{Uses}
use Rattle.dg_lint.specs.inside.View.{used_by}
use Rattle.dg_lint.proofs.UseLemmas.{used_all}
use Rattle.dg_lint.proofs.uses.uses_of.Goals as goal

pub returns : goal.returns
returns c = c.in_ok-note_items.ensures ∙ ap (λ (u : Uses). used_by (map item_view c.args.items.now) u) c.unused-uses.ensures ∙ used_all (map item_view c.args.items.now)
