use Rattle.std.proofs.Common.{subst}
use Rattle.dg_unify.specs.Store.{Shows}
use Rattle.dg_unify.proofs.StoreLemmas.{walked_to}
use Rattle.dg_unify.proofs.PartsLemmas.{shown_var, shown_node}
use Rattle.dg_unify.proofs.Meets.{unbound_at, met_vars, met_left, met_right, met_nodes}
use Rattle.dg_unify.proofs.unifying.meet.Goals as goal

pub tie-requires-clause-x_in : goal.tie-requires-clause-x_in
tie-requires-clause-x_in g c = unbound_at (g.B.Bindings.meaning c.args.store.now) (g.met.B.Bindings.sound c.args.store.now) c.args.a c.in-Some.x (shown_var (g.B.Bindings.meaning c.args.store.now) (walked_to (g.B.Bindings.meaning c.args.store.now) c.args.a) c.walk-v.result c.in-Some.x c.in-Some.ensures c.walk-v.ensures)

pub tie-requires-clause-y_in : goal.tie-requires-clause-y_in
tie-requires-clause-y_in g c = unbound_at (g.B.Bindings.meaning c.args.store.now) (g.met.B.Bindings.sound c.args.store.now) c.args.b c.in-Some-variable_of.y (shown_var (g.B.Bindings.meaning c.args.store.now) (walked_to (g.B.Bindings.meaning c.args.store.now) c.args.b) c.walk-w.result c.in-Some-variable_of.y c.in-Some-variable_of.ensures c.walk-w.ensures)

pub point-requires-clause-x_in : goal.point-requires-clause-x_in
point-requires-clause-x_in g c = unbound_at (g.B.Bindings.meaning c.args.store.now) (g.met.B.Bindings.sound c.args.store.now) c.args.a c.in-Some.x (shown_var (g.B.Bindings.meaning c.args.store.now) (walked_to (g.B.Bindings.meaning c.args.store.now) c.args.a) c.walk-v.result c.in-Some.x c.in-Some.ensures c.walk-v.ensures)

pub point-requires-in-Some-variable_of-2-clause-x_in : goal.point-requires-in-Some-variable_of-2-clause-x_in
point-requires-in-Some-variable_of-2-clause-x_in g c = unbound_at (g.B.Bindings.meaning c.args.store.now) (g.met.B.Bindings.sound c.args.store.now) c.args.b c.in-Some-variable_of-2.y (shown_var (g.B.Bindings.meaning c.args.store.now) (walked_to (g.B.Bindings.meaning c.args.store.now) c.args.b) c.walk-w.result c.in-Some-variable_of-2.y c.in-Some-variable_of-2.ensures c.walk-w.ensures)

pub compare-requires-clause-v_in : goal.compare-requires-clause-v_in
compare-requires-clause-v_in g c =
    let node = shown_node (g.B.Bindings.meaning c.args.store.now) (walked_to (g.B.Bindings.meaning c.args.store.now) c.args.a) c.walk-v.result c.in-None.ensures c.walk-v.ensures in
    (node.f, node.vs, subst (λ w. Shows (g.B.Bindings.meaning c.args.store.now) w c.walk-v.result) node.is c.walk-v.ensures)

pub compare-requires-clause-w_in : goal.compare-requires-clause-w_in
compare-requires-clause-w_in g c =
    let node = shown_node (g.B.Bindings.meaning c.args.store.now) (walked_to (g.B.Bindings.meaning c.args.store.now) c.args.b) c.walk-w.result c.in-None-variable_of-2.ensures c.walk-w.ensures in
    (node.f, node.vs, subst (λ w. Shows (g.B.Bindings.meaning c.args.store.now) w c.walk-w.result) node.is c.walk-w.ensures)

pub returns-in-Some-variable_of-clause-met : goal.returns-in-Some-variable_of-clause-met
returns-in-Some-variable_of-clause-met g c =
    let sx = (shown_var (g.B.Bindings.meaning c.args.store.now) (walked_to (g.B.Bindings.meaning c.args.store.now) c.args.a) c.walk-v.result c.in-Some.x c.in-Some.ensures c.walk-v.ensures) in
    let sy = shown_var (g.B.Bindings.meaning c.args.store.now) (walked_to (g.B.Bindings.meaning c.args.store.now) c.args.b) c.walk-w.result c.in-Some-variable_of.y c.in-Some-variable_of.ensures c.walk-w.ensures in
    rw c.done.ensures (met_vars (g.B.Bindings.meaning c.args.store.now) (g.B.Bindings.meaning c.tie.new.store) (g.met.B.Bindings.sound c.args.store.now) c.args.a c.args.b c.in-Some.x c.in-Some-variable_of.y c.tie.result sx sy (c.tie.ensures.follows sx.number sy.number sx.value sy.value))

pub returns-in-None-variable_of-clause-met : goal.returns-in-None-variable_of-clause-met
returns-in-None-variable_of-clause-met g c =
    let sx = (shown_var (g.B.Bindings.meaning c.args.store.now) (walked_to (g.B.Bindings.meaning c.args.store.now) c.args.a) c.walk-v.result c.in-Some.x c.in-Some.ensures c.walk-v.ensures) in
    let node = shown_node (g.B.Bindings.meaning c.args.store.now) (walked_to (g.B.Bindings.meaning c.args.store.now) c.args.b) c.walk-w.result c.in-None-variable_of.ensures c.walk-w.ensures in
    rw c.done-in-None-variable_of.ensures (met_left (g.B.Bindings.meaning c.args.store.now) (g.B.Bindings.meaning c.point.new.store) (g.met.B.Bindings.sound c.args.store.now) c.args.a c.args.b c.in-Some.x node.f node.vs c.point.result sx node.is (c.point.ensures.follows sx.number sx.value))

pub returns-in-Some-variable_of-2-clause-met : goal.returns-in-Some-variable_of-2-clause-met
returns-in-Some-variable_of-2-clause-met g c =
    let sy = shown_var (g.B.Bindings.meaning c.args.store.now) (walked_to (g.B.Bindings.meaning c.args.store.now) c.args.b) c.walk-w.result c.in-Some-variable_of-2.y c.in-Some-variable_of-2.ensures c.walk-w.ensures in
    let node = shown_node (g.B.Bindings.meaning c.args.store.now) (walked_to (g.B.Bindings.meaning c.args.store.now) c.args.a) c.walk-v.result c.in-None.ensures c.walk-v.ensures in
    rw c.done-in-Some-variable_of-2.ensures (met_right (g.B.Bindings.meaning c.args.store.now) (g.B.Bindings.meaning c.point-in-Some-variable_of-2.new.store) (g.met.B.Bindings.sound c.args.store.now) c.args.a c.args.b c.in-Some-variable_of-2.y node.f node.vs c.point-in-Some-variable_of-2.result node.is sy (c.point-in-Some-variable_of-2.ensures.follows sy.number sy.value))

pub returns-in-None-variable_of-2-clause-met : goal.returns-in-None-variable_of-2-clause-met
returns-in-None-variable_of-2-clause-met g c =
    let v = shown_node (g.B.Bindings.meaning c.args.store.now) (walked_to (g.B.Bindings.meaning c.args.store.now) c.args.a) c.walk-v.result c.in-None.ensures c.walk-v.ensures in
    let w = shown_node (g.B.Bindings.meaning c.args.store.now) (walked_to (g.B.Bindings.meaning c.args.store.now) c.args.b) c.walk-w.result c.in-None-variable_of-2.ensures c.walk-w.ensures in
    met_nodes (g.B.Bindings.meaning c.args.store.now) (g.met.B.Bindings.sound c.args.store.now) c.args.a c.args.b v.f w.f v.vs w.vs v.is w.is c.compare.result
    (c.compare.ensures v.f w.f v.vs w.vs (subst (λ x. Shows (g.B.Bindings.meaning c.args.store.now) x c.walk-v.result) v.is c.walk-v.ensures) (subst (λ x. Shows (g.B.Bindings.meaning c.args.store.now) x c.walk-w.result) w.is c.walk-w.ensures))
