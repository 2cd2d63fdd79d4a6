use Rattle.std.proofs.Common.{◌∷◌, ◌∙◌, ap}
use Rattle.dg_names.specs.State.{scope_view, stack_of, seen}
use Rattle.dg_names.specs.declared.state.Scope.{Scope}
use Rattle.dg_names.proofs.StateLemmas.{stack_push, noted_opened}
use Rattle.dg_names.proofs.variables.note_opened.Goals as goal

pub returns : goal.returns
returns c =
    noted_opened c.args.scopes.now _
    (ap scope_view c.replace-outer.ensures.after ∙ ap (λ l. record { names = seen l; own = 0; shared = 0 }) c.new.ensures.items)
    (ap stack_of c.in_ok-push.ensures.items ∙ stack_push c.args.scopes.now.outer.items c.replace-outer.result ∙ ap (λ (s : Scope). scope_view s ∷ stack_of c.args.scopes.now.outer.items) c.replace-outer.ensures.value)
