use Rattle.std.proofs.Common.{◌∙◌}
use Rattle.dg_meaning.specs.Substitutions.{walk}
use Rattle.dg_unify.specs.Store.{told}
use Rattle.dg_terms.proofs.OrderLemmas.{order_shown}
use Rattle.dg_terms.proofs.testing.in_order.Goals as goal

pub returns : goal.returns
returns g c =
    let s = g.B.Bindings.meaning c.args.store.now in
    c.views_in_order.ensures ∙ order_shown c.args.op s (walk s.state.subst (told s c.args.first)) (walk s.state.subst (told s c.args.second)) c.walk.result c.walk-2.result c.walk.ensures c.walk-2.ensures
