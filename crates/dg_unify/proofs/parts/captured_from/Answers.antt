use Rattle.dg_unify.proofs.PartsLemmas.{rest_none}
use Rattle.dg_unify.proofs.parts.captured_from.Goals as goal

pub returns-in-None : goal.returns-in-None
returns-in-None g c = rest_none (g.B.Bindings.meaning c.args.store.now) c.args.closure c.args.at c.requires.0 c.requires.1 c.requires.2 (c.in-None.ensures c.requires.0 c.requires.1 c.requires.2)
