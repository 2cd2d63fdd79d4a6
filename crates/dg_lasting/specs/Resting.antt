-- How large what lasts is, whatever runs do to it, and when runs of a program may begin with it. Hold it against docs/LANGUAGE.md, "The world" and "Limits".
use Rattle.std.specs.Prelude.{ℕ, ◌≡◌, ◌<◌, ◌≤◌, List, Option, Some, None, length}
use Rattle.dg_base.specs.declared.program.CoreProgram.{CoreProgram}
use Rattle.dg_base.specs.declared.program.Place.{Place}
use Rattle.dg_base.specs.declared.run.Limits.{Limits}
use Rattle.dg_meaning.specs.Facts.{kinds_of, kept_size, start_facts}
use Rattle.dg_world.specs.Worlds.{Shape, shape_of, shape_in}
use Rattle.dg_lasting.specs.Lasting.{outline, StartsWorld}
use Rattle.dg_lasting.specs.declared.lasting.Lasting.{Lasting}
use Rattle.dg_lasting.specs.declared.resting.Resting.{Resting}

-- How large it is: its world, how many sites there are, how much may be gathered, and how many cells have room in its row.
pub record Extent : Type 0 where
  pub world : Shape
  pub sites : ℕ
  pub aux : ℕ
  pub row : ℕ

abbrev pub extent_of : Lasting → Extent
extent_of out = record { world = shape_of out.world; sites = length out.sites.items; aux = out.gathered.aux; row = length out.row.items }

-- The same between runs.
abbrev pub extent_resting : Resting → Extent
extent_resting r = record { world = shape_of r.world; sites = length r.sites.items; aux = r.gathered.aux; row = length r.row.items }

-- How large it is for a program under limits.
abbrev pub extent_for : CoreProgram → Limits → Extent
extent_for p l = record { world = shape_in (outline p l.keep); sites = p.sites; aux = l.aux; row = l.keep }

-- It rests for the runs of a program: what starts set there is kept apart, no more of it is kept than may be, and all is as large as a run needs.
pub record RestsFor (program : CoreProgram) (limits : Limits) (r : Resting) : Type 0 where
  pub starts : StartsWorld program limits.keep r.start
  pub begins : kept_size (kinds_of program) (start_facts program.places) ≤ limits.keep
  pub large : extent_resting r ≡ extent_for program limits

-- What lasts between runs is that of a program; there is nothing where more of it starts kept than may be.
abbrev pub Rests : CoreProgram → Limits → Option Resting → Type 0
Rests program limits None = limits.keep < kept_size (kinds_of program) (start_facts program.places)
Rests program limits (Some resting) = RestsFor program limits resting

-- A program has these places, and so many objects and selects.
pub record HasParts (program : CoreProgram) (here : List Place) (many selects : ℕ) : Type 0 where
  pub places : program.places ≡ here
  pub objects : length program.objects ≡ many
  pub sites : program.sites ≡ selects
