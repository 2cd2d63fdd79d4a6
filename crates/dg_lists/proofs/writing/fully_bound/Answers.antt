use Rattle.std.proofs.Common.{ap, ◌∙◌}
use Rattle.std.specs.Prelude.{not}
use Rattle.dg_meaning.specs.Substitutions.{resolved}
use Rattle.dg_unify.specs.Store.{told}
use Rattle.dg_lists.proofs.WriteLemmas.{full_value}
use Rattle.dg_lists.proofs.writing.fully_bound.Goals as goal

pub returns-clause-bound : goal.returns-clause-bound
returns-clause-bound g c =
    let s = g.B.Bindings.meaning c.args.store.now in
    ap not c.is_open.ensures.found ∙ full_value (resolved s.state.subst (told s c.args.value))
