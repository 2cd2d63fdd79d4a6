use Rattle.std.proofs.Common.{◌≡◌, drop}
use Rattle.dg_core.specs.Places.{is_among}
use Rattle.dg_lower.proofs.items.is_among.Given as goal

abbrev pub invariant-loop-known : goal.invariant-loop-known
invariant-loop-known l = is_among l.name (drop l.known-index l.names) ≡ is_among l.name l.names
