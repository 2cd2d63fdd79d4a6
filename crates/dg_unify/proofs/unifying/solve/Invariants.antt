use Rattle.std.proofs.Common.{List}
use Rattle.dg_unify.specs.Store.{Saved}
use Rattle.dg_unify.specs.inside.Known.{AreEqual}
use Rattle.dg_unify.proofs.Goings.{Going, equations, need}
use Rattle.dg_unify.proofs.Standing.{Nesting}
use Rattle.dg_unify.proofs.Settling.{Settled}
use Rattle.dg_unify.proofs.unifying.solve.Given as goal

abbrev pub invariant-turns : goal.invariant-turns
invariant-turns g l = record {
  going : Going (g.B.Bindings.meaning l.fn.store) (g.B.Bindings.meaning l.store) (equations (g.B.Bindings.meaning l.fn.store) l.fn.p l.fn.q) l.p l.q (g.B.Bindings.waits l.store);
  saved : (ms : List Saved) → g.B.Bindings.saves l.fn.store ms → g.B.Bindings.saves l.store ms;
  left : Nesting (g.B.Bindings.meaning l.store) (λ w. w.a) (λ w. w.p) l.fn.a l.p (g.B.Bindings.waits l.store);
  right : Nesting (g.B.Bindings.meaning l.store) (λ w. w.b) (λ w. w.q) l.fn.b l.q (g.B.Bindings.waits l.store);
  settled : Settled (g.B.Bindings.meaning l.store) (equations (g.B.Bindings.meaning l.store) l.p l.q) (g.B.Bindings.waits l.store);
  known : AreEqual (g.B.Bindings.meaning l.store) l.known;
}

abbrev pub decreases-turns : goal.decreases-turns
decreases-turns g l = need (g.B.Bindings.meaning l.store) l.p l.q (g.B.Bindings.waits l.store)
