use Rattle.dg_unify.proofs.Goings.{none_left, none_right, first_is}
use Rattle.dg_unify.proofs.unifying.first_of.Goals as goal

pub returns-in-None : goal.returns-in-None
returns-in-None g c = none_left (g.B.Bindings.meaning c.args.store.now) c.args.p c.args.q c.in-None.ensures

pub returns-in-None-split : goal.returns-in-None-split
returns-in-None-split g c = none_right (g.B.Bindings.meaning c.args.store.now) c.args.p c.args.q c.in-None-split.ensures

pub returns-in-Some-split : goal.returns-in-Some-split
returns-in-Some-split g c = first_is (g.B.Bindings.meaning c.args.store.now) c.args.p c.args.q c.in-Some.x c.in-Some-split.y c.in-Some.ensures c.in-Some-split.ensures
