-- Where the world lies in memory. Hold it against docs/REFUSALS.md, "Of a build", where it says what the world takes.
use Rattle.std.specs.Prelude.{ℕ, ◌+◌, ◌*◌, ◌/◌, List, length, take}
use Rattle.std.specs.List.{sum_by}
use Rattle.dg_base.specs.declared.program.CoreProgram.{CoreProgram}
use Rattle.dg_base.specs.declared.program.PlaceKind.{PlaceKind}
use Rattle.dg_base.specs.declared.program.PlaceKind.TheVariants.{Flag, ObjectFlag, ObjectVar, Parent, Global}
use Rattle.dg_meaning.specs.Facts.{kinds_of}
use Rattle.dg_rt.specs.Areas.{fixed_end}

-- The first word of the world, behind all that every story has.
abbrev pub world_at : ℕ
world_at = fixed_end

-- The words of a place: one an object for a value, one for a flag of no object, and two for a global variable.
abbrev pub place_words : ℕ → PlaceKind → ℕ
place_words objects Flag = 1
place_words objects ObjectFlag = 0
place_words objects ObjectVar = objects
place_words objects Parent = objects
place_words objects Global = 2

-- The bytes of a place: one an object for a flag.
abbrev pub place_bytes : ℕ → PlaceKind → ℕ
place_bytes objects ObjectFlag = objects
place_bytes objects kind = 0

-- The words of some places, and their bytes.
abbrev pub all_words : ℕ → List PlaceKind → ℕ
all_words objects kinds = sum_by (place_words objects) kinds

abbrev pub all_bytes : ℕ → List PlaceKind → ℕ
all_bytes objects kinds = sum_by (place_bytes objects) kinds

-- The first word of a place: its words lie behind those of the places in front of it.
abbrev pub words_at : CoreProgram → ℕ → ℕ
words_at program place = world_at + all_words (length program.objects) (take place (kinds_of program))

-- The first byte of a place, from word 0 on: bytes lie behind all words, in the order of places.
abbrev pub bytes_at : CoreProgram → ℕ → ℕ
bytes_at program place =
    2 * (world_at + all_words (length program.objects) (kinds_of program)) + all_bytes (length program.objects) (take place (kinds_of program))

-- The first word behind the world.
abbrev pub world_end : CoreProgram → ℕ
world_end program =
    let n = length program.objects in world_at + all_words n (kinds_of program) + (all_bytes n (kinds_of program) + 1) / 2
