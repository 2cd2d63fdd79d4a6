use Rattle.std.proofs.Common.{ℕ, List, ◌∙◌, ap}
use Rattle.dg_names.specs.Scopes.{with_names}
use Rattle.dg_names.specs.State.{seen}
use Rattle.dg_names.proofs.StateLemmas.{noted_closed}
use Rattle.dg_names.proofs.variables.note_closed.Goals as goal

pub returns-in_ok-outer-in-Some : goal.returns-in_ok-outer-in-Some
returns-in_ok-outer-in-Some c =
    noted_closed c.args.scopes.now _ c.in-Some.outer _ c.in-Some.ensures.items
    (ap (λ (l : List (List ℕ)). record { names = l; own = c.in-Some.outer.own; shared = c.in_ok-outer-in-Some.field-0 }) (c.in_ok-add_names-in-Some.ensures.names ∙ ap (λ xs. with_names (seen c.in-Some.outer.names.items) (seen xs)) c.as_slice.ensures.value)
    ∙ ap (λ (k : ℕ). record { names = with_names (seen c.in-Some.outer.names.items) (seen c.args.scopes.now.inner.names.items); own = c.in-Some.outer.own; shared = k }) c.in_ok-outer-in-Some.ensures)
    c.is_over.ensures
