-- What global variables start with, as a story holds it. Hold it against dg_rt/specs/Kept.antt, "Where they lie".
use Rattle.std.specs.Prelude.{ℕ, suc, ◌+◌, ◌-◌, List, [], ◌∷◌, ◌++◌, length, replicate, nat_le, Bool, if◌then◌else◌, Option, Some, None}
use Rattle.dg_base.specs.declared.program.CoreProgram.{CoreProgram}
use Rattle.dg_base.specs.declared.program.PlaceKind.{PlaceKind}
use Rattle.dg_base.specs.declared.program.PlaceKind.TheVariants.{Global}
use Rattle.dg_meaning.specs.Facts.{Fact, value_at, kept_at as kept_of, kept_size, kinds_of, start_facts}
use Rattle.dg_meaning.specs.Values.{Value}
use Rattle.dg_rt.specs.Cells.{at_cell}
use Rattle.dg_rt.specs.Copies.{words_of}
use Rattle.dg_rt.specs.Kept.{Block, block, total}
use Rattle.dg_turn.specs.Layout.{world_at, place_words}
use Rattle.dg_turn.specs.Starts.{words_of_place}

-- ## Values

-- The value of a variable whose own words begin with this one, if it has one.
abbrev pub variable_block : Option Value → ℕ → List Block
variable_block None h = []
variable_block (Some v) h = block h v ∷ []

-- The value that is kept of a place of a kind.
abbrev pub place_block : List Fact → ℕ → ℕ → PlaceKind → List Block
place_block facts h place Global = variable_block (value_at facts place 0) h
place_block facts h place kind = []

-- Those of the places from a number on, whose words begin with this one, among so many objects.
abbrev pub blocks_from : ℕ → List Fact → ℕ → ℕ → List PlaceKind → List Block
blocks_from n facts h place [] = []
blocks_from n facts h place (kind ∷ kinds) =
    place_block facts h place kind ++ blocks_from n facts (h + place_words n kind) (suc place) kinds

-- ## Where they lie

-- The words of values, one behind another.
abbrev pub kept_words : List Block → List ℕ
kept_words [] = []
kept_words (b ∷ bs) = words_of b.value ++ kept_words bs

-- For each of these words the address of the variable whose value begins there, or 0.
abbrev pub owner_words : List Block → List ℕ
owner_words [] = []
owner_words (b ∷ bs) = at_cell b.entry ∷ (replicate (length (words_of b.value) - 1) 0 ++ owner_words bs)

-- Filled up with zeros to 500 words, the values and then the owners.
abbrev pub kept_areas : List Block → List ℕ
kept_areas bs = (kept_words bs ++ replicate (500 - total bs) 0) ++ (owner_words bs ++ replicate (500 - total bs) 0)

-- The words of a variable's own: where its value begins, and how many words it has, or zeros.
abbrev pub variable_words : Option Value → ℕ → List ℕ
variable_words None j = 0 ∷ 0 ∷ []
variable_words (Some v) j = at_cell j ∷ length (words_of v) ∷ []

-- The words of a place of a kind, where its value is kept from a word on.
abbrev pub place_words_at : ℕ → List Fact → List Fact → ℕ → ℕ → PlaceKind → List ℕ
place_words_at n facts kept j place Global = variable_words (value_at kept place 0) j
place_words_at n facts kept j place kind = words_of_place n facts place kind

-- Those of the places from a number on.
abbrev pub start_words_from : ℕ → List Fact → List Fact → ℕ → ℕ → List PlaceKind → List ℕ
start_words_from n facts kept j place [] = []
start_words_from n facts kept j place (kind ∷ kinds) =
    place_words_at n facts kept j place kind ++ start_words_from n facts kept (j + kept_of kept place kind) (suc place) kinds

-- ## The start

-- What starts keep is within the limit of a story.
abbrev pub keeps_within : CoreProgram → Bool
keeps_within program = nat_le (kept_size (kinds_of program) (start_facts program.places)) 500

-- What is kept at the start: nothing where it isn't within the limit, since the run ends at once.
abbrev pub kept_facts : CoreProgram → List Fact
kept_facts program = if keeps_within program then start_facts program.places else []

-- The values that global variables start with.
abbrev pub kept_blocks : CoreProgram → List Block
kept_blocks program = blocks_from (length program.objects) (kept_facts program) world_at 0 (kinds_of program)
