-- Bodies whose routines are still to be written. The proofs alone rest on it.
use Rattle.std.specs.Prelude.{◌≡◌, ℕ, ◌+◌, ◌*◌, ◌-◌, ◌<◌, ◌≤◌, List, [], ◌∷◌, ◌++◌, length}
use Rattle.z_lang.specs.declared.act.Routine.{Routine}
use Rattle.dg_emit.specs.declared.numbers.Numbers.{Numbers}
use Rattle.dg_emit.specs.declared.bodies.Part.{Part}
use Rattle.dg_emit.specs.Numbers.{bodies_size}
use Rattle.dg_emit.specs.Bodies.{bodies_routines}

-- A part has numbers and places of a story.
pub record PartFits (part : Part) : Type 0 where
  pub room : part.number + bodies_size part.bodies.now ≤ 65535
  pub places : part.place + length part.bodies.now ≤ 16384

-- So does each of some.
abbrev pub PartsFit : List Part → Type 0
PartsFit [] = Unit {0}
PartsFit (part ∷ parts) = PartFits part × PartsFit parts

-- The routines of a part.
abbrev pub part_routines : Numbers → Part → List Routine
part_routines numbers part = bodies_routines numbers (length part.bodies.now) part.number part.place part.bodies.now

-- Those of parts, of which the last comes first.
abbrev pub parts_routines : Numbers → List Part → List Routine
parts_routines numbers [] = []
parts_routines numbers (part ∷ parts) = parts_routines numbers parts ++ part_routines numbers part

-- A measure of what is left to write: it falls where a part is halved, and where one is done.
abbrev pub weight : Part → ℕ
weight part = 1 + 2 * (length part.bodies.now - 1)

abbrev pub parts_weight : List Part → ℕ
parts_weight [] = 0
parts_weight (part ∷ parts) = weight part + parts_weight parts

-- A part is written as far as routines go that are there then, and what is left of it is left.
pub record Shrinks (numbers : Numbers) (part : Part) (all all' : List Routine) (left left' : List Part) : Type 0 where
  pub same : all' ++ parts_routines numbers left' ≡ all ++ (part_routines numbers part ++ parts_routines numbers left)
  pub fit : PartsFit left → PartsFit left'
  pub less : parts_weight left' < weight part + parts_weight left
