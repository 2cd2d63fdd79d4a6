use Rattle.dg_core.proofs.FewLemmas.{rules_ask_few, rules_heads_few}
use Rattle.dg_core.proofs.laws.rules_hold_few.Goals as goal

pub returns-clause-asks : goal.returns-clause-asks
returns-clause-asks c = rules_ask_few

pub returns-clause-heads : goal.returns-clause-heads
returns-clause-heads c = rules_heads_few
