use Rattle.std.proofs.Common.{◌||◌, ◌++◌, Bool, map, sym, ◌∙◌, ap}
use Rattle.dg_base.specs.TreeView.{item_view}
use Rattle.dg_scopes.specs.Counts.{are_over}
use Rattle.dg_scopes.specs.State.{counts_view}
use Rattle.dg_scopes.proofs.CountLemmas.{counts_added, passes_added}
use Rattle.dg_scopes.proofs.counts.add_items.Goals as goal

pub returns-then-branch-clause-counted : goal.returns-then-branch-clause-counted
returns-then-branch-clause-counted c = λ before e. counts_added (counts_view c.args.counts.now) (counts_view c.in_ok-counts.field-0) before (map item_view c.args.items.now) c.in_ok-counts.ensures e

pub returns-clause-passes : goal.returns-clause-passes
returns-clause-passes c = λ before e.
    c.has_many.ensures
    ∙ passes_added (counts_view c.args.counts.now) (counts_view c.in_ok-counts.field-0) before (map item_view c.args.items.now) c.in_ok-counts.ensures e
    ∙ ap (λ (b : Bool). b || are_over (before ++ map item_view c.args.items.now)) (sym c.if-branch.false ∙ c.in_ok-are_large.ensures)

pub returns-clause-counted : goal.returns-clause-counted
returns-clause-counted c = λ before e. counts_added (counts_view c.args.counts.now) (counts_view c.in_ok-counts.field-0) before (map item_view c.args.items.now) c.in_ok-counts.ensures e
