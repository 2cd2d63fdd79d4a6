use Rattle.std.proofs.Common.{arith, rules}
use Rattle.dg_lists.proofs.MakeLemmas.{closure_made}
use Rattle.dg_lists.proofs.reading.make_closure.Goals as goal

pub returns-clause-made : goal.returns-clause-made
returns-clause-made g c =
    closure_made (g.B.Bindings.meaning c.args.store.now) (g.B.Bindings.meaning c.closure.new.self) c.args.place c.args.count c.args.stack.now _ c.closure.result (search rules) (omega (arith, c.if-captured-stack.false)) c.closure.ensures.made
