-- What a world holds of global variables where a story starts. The proofs alone rest on it.
use Rattle.std.specs.Prelude.{◌≡◌, ℕ, ◌<◌, List, [], All, Option, Some, None, length}
use Rattle.std.specs.List.{slice_get}
use Rattle.dg_base.specs.declared.cells.Cell.{Cell}
use Rattle.dg_base.specs.declared.program.CoreProgram.{CoreProgram}
use Rattle.dg_base.specs.declared.program.PlaceKind.{PlaceKind}
use Rattle.dg_base.specs.declared.program.PlaceKind.TheVariants.{Global}
use Rattle.dg_meaning.specs.Facts.{Fact, value_at, kinds_of}
use Rattle.dg_meaning.specs.Values.{Value}
use Rattle.dg_meaning.specs.ValueCells.{cells_of}
use Rattle.dg_rt.specs.Copies.{cell_word}
use Rattle.dg_world.specs.Tables.{outline_of}
use Rattle.dg_world.specs.Worlds.{StandsFor}
use Rattle.dg_world.specs.declared.world.World.{World}
use Rattle.dg_story.specs.Kept.{kept_facts}

-- The value that is kept of a place of a kind, if it has one.
abbrev pub kept_value : List Fact → ℕ → PlaceKind → Option Value
kept_value facts place Global = value_at facts place 0
kept_value facts place kind = None

-- There is a world that stands for what is kept at the start, or nothing is kept.
abbrev pub HoldsStart : Option World → CoreProgram → Type 0
HoldsStart None program = kept_facts program ≡ []
HoldsStart (Some world) program = StandsFor world (outline_of program.places (length program.objects) 500) (kept_facts program)

-- Words of cells are words.
abbrev pub AreWords : List Cell → Type 0
AreWords cells = All (λ (c : Cell). cell_word c < 65536) cells

-- So it is with those of the values that global variables start with.
abbrev pub KeepsWords : CoreProgram → Type 0
KeepsWords program =
    (place : ℕ) → slice_get (kinds_of program) place ≡ Some Global → (v : Value) → value_at (kept_facts program) place 0 ≡ Some v →
    AreWords (cells_of v)
