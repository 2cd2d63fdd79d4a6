use Rattle.std.proofs.Common.{◌∙◌, Some, refl, sym}
use Rattle.dg_meaning.specs.Substitutions.{resolved}
use Rattle.dg_unify.specs.Store.{told}
use Rattle.dg_unify.proofs.FindLemmas.{finds_one}
use Rattle.dg_unify.proofs.finding.stands_in.Goals as goal

pub finds-requires-clause-x_in : goal.finds-requires-clause-x_in
finds-requires-clause-x_in g c = (Some c.requires.x_in.0, c.requires.x_in.1)

pub returns-clause-found : goal.returns-clause-found
returns-clause-found g c = λ n hx.
    let s = g.B.Bindings.meaning c.args.store.now in
    c.finds.ensures.found (Some n) hx ∙ finds_one n (resolved s.state.subst (told s c.args.at))

pub returns-then-is_clear-clause-found : goal.returns-then-is_clear-clause-found
returns-then-is_clear-clause-found g c = λ n hx. sym (c.if-is_clear.ensures n hx refl)
