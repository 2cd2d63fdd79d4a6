use Rattle.std.proofs.Common.{arith}
use Rattle.dg_unify.proofs.PartsLemmas.{split_none, split_below, split_some}
use Rattle.dg_unify.proofs.parts.split_captured.Goals as goal

pub overflow_add-at : goal.overflow_add-at
overflow_add-at g c = omega (arith, split_below (g.B.Bindings.meaning c.args.store.now) c.args.closure c.args.at c.requires.0 c.requires.1 c.in-Some.first c.requires.2 (c.in-Some.ensures c.requires.0 c.requires.1 c.requires.2))

pub returns-in-None : goal.returns-in-None
returns-in-None g c = split_none (g.B.Bindings.meaning c.args.store.now) c.args.closure c.args.at c.requires.0 c.requires.1 c.requires.2 (c.in-None.ensures c.requires.0 c.requires.1 c.requires.2)

pub returns-in-Some : goal.returns-in-Some
returns-in-Some g c = split_some (g.B.Bindings.meaning c.args.store.now) c.args.closure c.args.at c.requires.0 c.requires.1 c.in-Some.first c.captured_from.result c.requires.2 (c.in-Some.ensures c.requires.0 c.requires.1 c.requires.2) c.captured_from.ensures
