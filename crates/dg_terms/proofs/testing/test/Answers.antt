use Rattle.std.proofs.Common.{sym, ap, ◌∙◌}
use Rattle.std.specs.Prelude.{not}
use Rattle.dg_meaning.specs.Substitutions.{resolved}
use Rattle.dg_meaning.specs.TypeTests.{passes}
use Rattle.dg_unify.specs.Store.{told}
use Rattle.dg_unify.proofs.StoreLemmas.{walked_to}
use Rattle.dg_terms.proofs.TestLemmas.{full_value, passes_top}
use Rattle.dg_terms.proofs.testing.test.Goals as goal

pub returns-in_default-clause-passed : goal.returns-in_default-clause-passed
returns-in_default-clause-passed g c =
    let s = g.B.Bindings.meaning c.args.store.now in
    c.view_passes.ensures s (walked_to s c.args.value) c.walk.ensures ∙ sym (passes_top s.state.subst c.args.kind (told s c.args.value) c.in_default.not-FullyBound)

pub returns-in-FullyBound-clause-passed : goal.returns-in-FullyBound-clause-passed
returns-in-FullyBound-clause-passed g c =
    let s = g.B.Bindings.meaning c.args.store.now in
    ap not c.is_open.ensures.found ∙ full_value (resolved s.state.subst (told s c.args.value)) ∙ ap (λ k. passes s.state.subst k (told s c.args.value)) (sym c.in-FullyBound.is)
