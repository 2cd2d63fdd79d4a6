use Rattle.std.proofs.Common.{◌≡◌, ◌≤◌, ◌+◌, ◌++◌, length, take, drop}
use Rattle.dg_base.specs.Written.{texts, joined}
use Rattle.dg_trace.proofs.joined.fill.Given as goal

abbrev pub invariant-loop-piece : goal.invariant-loop-piece
invariant-loop-piece l = record {
  within : l.len ≤ 128;
  room : length l.row ≡ 128;
  are : take l.len l.row ++ joined (texts (drop l.piece-index l.pieces)) ≡ joined (texts l.pieces);
}
