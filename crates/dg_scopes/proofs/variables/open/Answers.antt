use Rattle.std.proofs.Common.{◌∷◌, Vec, Global, ◌∙◌, ap}
use Rattle.dg_scopes.specs.State.{scope_view, stack_of}
use Rattle.dg_scopes.specs.declared.variables.Entry.{Entry}
use Rattle.dg_scopes.proofs.NoteLemmas.{stack_push}
use Rattle.dg_scopes.proofs.variables.open.Goals as goal

pub returns-clause-outer : goal.returns-clause-outer
returns-clause-outer c =
    ap stack_of c.in_ok-put.ensures
    ∙ stack_push c.args.scopes.now.outer.items c.replace-outer.result
    ∙ ap (λ (s : Vec Entry Global). scope_view s.items ∷ stack_of c.args.scopes.now.outer.items) c.replace-outer.ensures.value

pub returns-clause-inner : goal.returns-clause-inner
returns-clause-inner c = ap (λ (s : Vec Entry Global). scope_view s.items) c.replace-outer.ensures.after ∙ ap scope_view c.new.ensures.items
