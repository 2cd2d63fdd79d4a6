use Rattle.std.proofs.Common.{sym}
use Rattle.dg_meaning.specs.Values.{Node}
use Rattle.dg_unify.proofs.unifying.compare.Goals as goal

pub returns-then-same_top : goal.returns-then-same_top
returns-then-same_top g c = λ f f' vs us hv hw. (sym (c.if-same_top.ensures f f' vs us hv hw), c.inner.ensures (g.B.Bindings.meaning c.args.store.now) (Node f vs) hv, c.inner-then-same_top.ensures (g.B.Bindings.meaning c.args.store.now) (Node f' us) hw)
