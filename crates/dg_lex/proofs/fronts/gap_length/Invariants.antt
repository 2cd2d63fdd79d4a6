use Rattle.std.proofs.Common.{◌≡◌, ◌≤◌, ◌+◌, ◌-◌, false, drop, length}
use Rattle.dg_lex.specs.Tokens.{gap_length}
use Rattle.dg_lex.proofs.fronts.gap_length.Given as goal

abbrev pub invariant-loop-at : goal.invariant-loop-at
invariant-loop-at l = record {
  within : l.at ≤ length l.text;
  same : gap_length false l.text ≡ l.at + gap_length l.in_comment (drop l.at l.text);
}

abbrev pub decreases-loop-at : goal.decreases-loop-at
decreases-loop-at l = length l.text - l.at
