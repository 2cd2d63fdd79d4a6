use Rattle.std.proofs.Common.{◌≡◌, ◌+◌, drop}
use Rattle.std.specs.List.{position_or_len}
use Rattle.std.specs.Str.{bytes_eq}
use Rattle.dg_names.specs.State.{seen}
use Rattle.dg_core.proofs.terms.place_of.Given as goal

abbrev pub invariant-loop-at : goal.invariant-loop-at
invariant-loop-at l = l.at + position_or_len (bytes_eq l.name) (seen (drop l.at l.names)) ≡ position_or_len (bytes_eq l.name) (seen l.names)
