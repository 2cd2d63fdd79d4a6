use Rattle.std.proofs.Common.{refl, sym}
use Rattle.dg_unify.specs.Finds.{finds_at}
use Rattle.dg_unify.proofs.finding.look_again.Goals as goal

pub returns-then-has : goal.returns-then-has
returns-then-has g c = λ o hx. sym (c.if-has.ensures (finds_at (g.B.Bindings.meaning c.args.store.now) o) (c.requires.seen_in o hx) refl)
