use Rattle.std.proofs.Common.{subst}
use Rattle.dg_unify.specs.Finds.{IsSought}
use Rattle.dg_unify.proofs.FindLemmas.{sought_is, clear_finds}
use Rattle.dg_unify.proofs.finding.is_clear.Goals as goal

pub is_clear-requires-clause-x_in : goal.is_clear-requires-clause-x_in
is_clear-requires-clause-x_in g c =
    let s = g.B.Bindings.meaning c.args.store.now in
    sought_is s c.in-Some.x (c.requires.x_in.0, subst (λ x. IsSought s x c.requires.x_in.0) c.in-Some.is c.requires.x_in.1)

pub returns-in-Some : goal.returns-in-Some
returns-in-Some g c = λ o h e.
    let s = g.B.Bindings.meaning c.args.store.now in
    clear_finds s c.in-Some.x c.args.at c.is_clear.result o (subst (λ x. IsSought s x o) c.in-Some.is h) e c.is_clear.ensures
