use Rattle.std.proofs.Common.{List, length, ◌-◌}
use Rattle.dg_unify.specs.Store.{Saved}
use Rattle.dg_terms.proofs.MatchLemmas.{Matching}
use Rattle.dg_terms.proofs.matching.unify_all.Given as goal

abbrev pub invariant-pairs : goal.invariant-pairs
invariant-pairs g l = record {
  matching : Matching (g.B.Bindings.meaning l.fn.store) (g.B.Bindings.meaning l.store) l.args l.head l.at;
  saved : (ms : List Saved) → g.B.Bindings.saves l.fn.store ms → g.B.Bindings.saves l.store ms;
}

abbrev pub decreases-pairs : goal.decreases-pairs
decreases-pairs g l = length l.args - l.at
