use Rattle.std.proofs.Common.{◌≡◌, drop}
use Rattle.z_code.specs.Targets.{spot_of}
use Rattle.z_asm.proofs.sizes.place_of.Given as goal

abbrev pub invariant-loop-spot : goal.invariant-loop-spot
invariant-loop-spot l = spot_of l.spots l.label ≡ spot_of (drop l.spot-index l.spots) l.label
