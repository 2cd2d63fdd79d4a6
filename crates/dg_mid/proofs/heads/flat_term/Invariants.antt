use Rattle.std.proofs.Common.{ℕ, ◌+◌, ◌-◌, ◌≤◌}
use Rattle.dg_mid.specs.Heads.{IsList}
use Rattle.dg_mid.proofs.heads.flat_term.Given as goal

abbrev pub invariant-pairs : goal.invariant-pairs
invariant-pairs l = record {
  flat : (n : ℕ) → IsList n l.rest → IsList (l.pairs + n) l.fn.term;
  few : l.pairs ≤ 12;
}

abbrev pub decreases-pairs : goal.decreases-pairs
decreases-pairs l = 12 - l.pairs
