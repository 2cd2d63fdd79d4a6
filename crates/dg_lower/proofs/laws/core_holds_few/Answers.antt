use Rattle.dg_lower.proofs.CoreLemmas.{lowered_asks_few, lowered_heads_few}
use Rattle.dg_lower.proofs.EntryLemmas.{entry_printable}
use Rattle.dg_lower.proofs.laws.core_holds_few.Goals as goal

pub returns-clause-asks : goal.returns-clause-asks
returns-clause-asks c = lowered_asks_few (record {
  asks = c.rules_hold_few.ensures.asks;
  heads = c.rules_hold_few.ensures.heads;
  asks_kept = c.rules_may_be_lost.ensures.asks;
  heads_kept = c.rules_may_be_lost.ensures.heads;
}) entry_printable

pub returns-clause-heads : goal.returns-clause-heads
returns-clause-heads c = lowered_heads_few (record {
  asks = c.rules_hold_few.ensures.asks;
  heads = c.rules_hold_few.ensures.heads;
  asks_kept = c.rules_may_be_lost.ensures.asks;
  heads_kept = c.rules_may_be_lost.ensures.heads;
})
