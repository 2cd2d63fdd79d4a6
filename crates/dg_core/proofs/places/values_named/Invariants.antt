use Rattle.std.proofs.Common.{◌≡◌, ◌+◌, ◌≤◌, drop}
use Rattle.dg_core.specs.Places as spec
use Rattle.dg_core.specs.inside.View.{named_behind}
use Rattle.dg_core.proofs.places.values_named.Given as goal

abbrev pub invariant-loop-character : goal.invariant-loop-character
invariant-loop-character l = record {
  count : l.count + named_behind l.escaped (drop l.character-index l.name) ≡ spec.values_named l.name;
  few : l.count ≤ l.character-index;
}
