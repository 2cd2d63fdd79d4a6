use Rattle.std.proofs.Common.{◌≡◌, drop}
use Rattle.dg_base.specs.Typed.{place_from, place_of}
use Rattle.dg_base.proofs.typing.find_place.Given as goal

abbrev pub invariant-loop-place : goal.invariant-loop-place
invariant-loop-place l = place_from l.value l.place (drop l.place l.table) ≡ place_of l.value l.table
