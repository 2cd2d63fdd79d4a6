use Rattle.std.proofs.Common.{◌≡◌, length}
use Rattle.z_text.specs.Walk.{rest_of, characters_left}
use Rattle.z_text.proofs.walker.Walker.next.Given as goal

abbrev pub invariant-loop-fault : goal.invariant-loop-fault
invariant-loop-fault l = record {
  same : rest_of l.here l.bytes ≡ rest_of l.fn.self l.bytes;
  kept : l.self ≡ l.fn.self;
}

abbrev pub decreases-loop-fault : goal.decreases-loop-fault
decreases-loop-fault l = length (characters_left l.here l.bytes)
