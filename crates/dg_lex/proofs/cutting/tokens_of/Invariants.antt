use Rattle.std.proofs.Common.{◌≤◌, ◌+◌, length}
use Rattle.dg_lex.proofs.SoFar.{SoFar}
use Rattle.dg_lex.proofs.cutting.tokens_of.Given as goal

abbrev pub invariant-loop-token : goal.invariant-loop-token
invariant-loop-token l = record {
  so_far : SoFar l.text l.tokens.items l.start l.line l.rest;
  shorter : length l.rest ≤ length l.text;
  few : l.line + length l.rest ≤ 1 + length l.text;
}

abbrev pub decreases-loop-token : goal.decreases-loop-token
decreases-loop-token l = length l.rest
