use Rattle.std.proofs.Common.{◌≡◌, map, take}
use Rattle.dg_base.specs.declared.program.Place.{Place}
use Rattle.dg_emit.proofs.outline.places_like.Given as goal

abbrev pub invariant-loop-place : goal.invariant-loop-place
invariant-loop-place l = map (λ (p : Place). p.kind) l.made ≡ map (λ (p : Place). p.kind) (take l.place-index l.places)
