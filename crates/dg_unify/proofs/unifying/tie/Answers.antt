use Rattle.std.proofs.Common.{sym, arith}
use Rattle.dg_unify.proofs.Meets.{tie_same, tie_differ, tie_binds, tie_younger, tie_older}
use Rattle.dg_unify.proofs.unifying.tie.Goals as goal

pub returns-then-x-y-clause-follows : goal.returns-then-x-y-clause-follows
returns-then-x-y-clause-follows g c = λ m n hx hy.
    tie_same (g.B.Bindings.meaning c.args.store.now) (g.met.B.Bindings.sound c.args.store.now) (g.met.B.Bindings.younger c.args.store.now) c.args.x c.args.y m n hx hy c.if-x-y.true

pub link-requires : goal.link-requires
link-requires g c =
    tie_binds (g.B.Bindings.meaning c.args.store.now) c.args.x c.args.y c.requires.x_in c.requires.y_in
    (tie_differ (g.B.Bindings.meaning c.args.store.now) (g.met.B.Bindings.younger c.args.store.now) c.args.x c.args.y c.requires.x_in.number c.requires.y_in.number c.requires.x_in.value c.requires.y_in.value c.if-x-y.false)

pub link-requires-else-x-y-2 : goal.link-requires-else-x-y-2
link-requires-else-x-y-2 g c =
    tie_binds (g.B.Bindings.meaning c.args.store.now) c.args.y c.args.x c.requires.y_in c.requires.x_in
    (tie_differ (g.B.Bindings.meaning c.args.store.now) (g.met.B.Bindings.younger c.args.store.now) c.args.y c.args.x c.requires.y_in.number c.requires.x_in.number c.requires.y_in.value c.requires.x_in.value (λ e. c.if-x-y.false (sym e)))

pub returns-then-x-y-2-clause-follows : goal.returns-then-x-y-2-clause-follows
returns-then-x-y-2-clause-follows g c = λ m n hx hy.
    tie_younger (g.B.Bindings.meaning c.args.store.now) (g.B.Bindings.meaning c.link.new.store) (g.met.B.Bindings.younger c.args.store.now) c.args.x c.args.y m n c.requires.x_in hx hy c.if-x-y.false (omega arith) c.link.result (c.link.ensures.follows n hy)

pub returns-else-x-y-2-clause-follows : goal.returns-else-x-y-2-clause-follows
returns-else-x-y-2-clause-follows g c = λ m n hx hy.
    tie_older (g.B.Bindings.meaning c.args.store.now) (g.B.Bindings.meaning c.link-else-x-y-2.new.store) (g.met.B.Bindings.younger c.args.store.now) c.args.x c.args.y m n c.requires.y_in hx hy c.if-x-y.false (omega arith) c.link-else-x-y-2.result (c.link-else-x-y-2.ensures.follows m hx)
