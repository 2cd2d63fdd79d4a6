use Rattle.std.proofs.Common.{◌≡◌, ◌+◌, ◌≤◌, drop}
use Rattle.dg_scopes.specs.Counts.{times}
use Rattle.dg_put.specs.inside.Putting.{names_seen}
use Rattle.dg_put.proofs.place.is_repeated.Given as goal

abbrev pub invariant-loop-known : goal.invariant-loop-known
invariant-loop-known l = record {
  counted : l.count + times l.name (names_seen (drop l.known-index l.names)) ≡ times l.name (names_seen l.names);
  few : l.count ≤ 1;
}
