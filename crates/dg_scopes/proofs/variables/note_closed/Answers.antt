use Rattle.std.proofs.Common.{◌∙◌, ap}
use Rattle.dg_scopes.specs.Scopes.{is_full, merged}
use Rattle.dg_scopes.specs.State.{scope_view, total_in}
use Rattle.dg_scopes.proofs.NoteLemmas.{noted_closed}
use Rattle.dg_scopes.proofs.variables.note_closed.Goals as goal

pub returns-in_ok-merge-in-Some : goal.returns-in_ok-merge-in-Some
returns-in_ok-merge-in-Some c =
    noted_closed (total_in c.args.totals.now) c.args.scopes.now.outer.items c.pop.new.self.items c.in-Some.outer (scope_view c.args.scopes.now.inner.items) (scope_view c.merge.new.outer.items) c.is_full.result
    c.in-Some.ensures.items
    (c.in_ok-merge-in-Some.ensures ∙ ap (λ es. merged (total_in c.args.totals.now) (scope_view c.in-Some.outer.items) (scope_view es)) c.as_slice.ensures.value)
    (c.is_full.ensures ∙ ap (λ es. is_full (scope_view es)) c.as_slice-in-Some.ensures.value)
