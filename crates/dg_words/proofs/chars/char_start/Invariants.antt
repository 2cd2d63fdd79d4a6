use Rattle.std.proofs.Common.{◌≡◌, ◌<◌, ◌≤◌, ℕ, true}
use Rattle.std.specs.Prelude.{slice_index}
use Rattle.dg_base.specs.Units.{is_tail}
use Rattle.dg_words.proofs.chars.char_start.Given as goal

abbrev pub invariant-tails : goal.invariant-tails
invariant-tails l = record {
  order : l.start ≤ l.at;
  tails : (i : ℕ) → l.start < i → i ≤ l.at → is_tail (slice_index l.spelling i) ≡ true;
}

abbrev pub decreases-tails : goal.decreases-tails
decreases-tails l = l.start
