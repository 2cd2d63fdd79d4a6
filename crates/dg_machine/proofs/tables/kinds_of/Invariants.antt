use Rattle.std.proofs.Common.{◌≡◌, map, take}
use Rattle.dg_base.specs.declared.program.Place.{Place}
use Rattle.dg_machine.proofs.tables.kinds_of.Given as goal

abbrev pub invariant-places : goal.invariant-places
invariant-places l = l.kinds.items ≡ map (λ (place : Place). place.kind) (take l.place-index l.places)
