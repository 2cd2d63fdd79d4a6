-- What starts set in the world, place by place. The proofs alone rest on it.
use Rattle.std.specs.Prelude.{ℕ, zero, suc, ◌+◌, ◌<◌, List, [], ◌∷◌, ◌++◌, All, nat_eq, if◌then◌else◌, Option, Some, None, length}
use Rattle.dg_base.specs.declared.cells.Cell.{Cell}
use Rattle.dg_base.specs.declared.program.Place.{Place}
use Rattle.dg_base.specs.declared.program.PlaceKind.{PlaceKind}
use Rattle.dg_base.specs.declared.program.PlaceKind.TheVariants.{Flag, ObjectFlag, ObjectVar, Parent, Global}
use Rattle.dg_base.specs.declared.program.Term.{Term, out-Term}
use Rattle.dg_base.specs.declared.program.Term.TheOpen as term
use Rattle.dg_meaning.specs.Facts.{Fact, value_at, kept_at}
use Rattle.dg_rt.specs.Cells.{at_cell}
use Rattle.dg_rt.specs.Operands.{no_value}
use Rattle.dg_story.specs.Kept.{variable_words}

abbrev pub Starts : Type 0
Starts = List (ℕ × Term)

-- The word of a simple term.
abbrev pub term_word : term.Term-F Term → ℕ
term_word (term.Num n) = n
term_word (term.Word n) = 16384 + n
term_word (term.Object n) = 24576 + n
term_word other = 28672

-- The terms of some starts have words, and those of places.
abbrev pub AreSmall : Starts → Type 0
AreSmall starts = All (λ (start : ℕ × Term). term_word (out-Term start.1) < 65536) starts

abbrev pub AllAreSmall : List Place → Type 0
AllAreSmall places = All (λ (place : Place). AreSmall place.start) places

-- The word and the flag of an object: the first start that is its own says them.
abbrev pub word_by : Starts → ℕ → ℕ
word_by [] object = no_value
word_by (start ∷ starts) object = if nat_eq start.0 object then term_word (out-Term start.1) else word_by starts object

abbrev pub flag_by : Starts → ℕ → ℕ
flag_by [] object = 0
flag_by (start ∷ starts) object = if nat_eq start.0 object then 1 else flag_by starts object

-- Those of so many objects from one on.
abbrev pub words_by : Starts → ℕ → ℕ → List ℕ
words_by starts object zero = []
words_by starts object (suc n) = word_by starts object ∷ words_by starts (suc object) n

abbrev pub flags_by : Starts → ℕ → ℕ → List ℕ
flags_by starts object zero = []
flags_by starts object (suc n) = flag_by starts object ∷ flags_by starts (suc object) n

-- The words of a variable whose value has these cells, where it is kept from a word on, and how many cells they are.
abbrev pub cells_words : Option (List Cell) → ℕ → List ℕ
cells_words None j = 0 ∷ 0 ∷ []
cells_words (Some cells) j = at_cell j ∷ length cells ∷ []

abbrev pub cells_many : Option (List Cell) → ℕ
cells_many None = 0
cells_many (Some cells) = length cells

-- The words of a place, and its flags.
abbrev pub own_words : ℕ → Option (List Cell) → ℕ → PlaceKind → Starts → List ℕ
own_words objects cells j Flag starts = words_by starts 0 1
own_words objects cells j ObjectFlag starts = []
own_words objects cells j ObjectVar starts = words_by starts 0 objects
own_words objects cells j Parent starts = words_by starts 0 objects
own_words objects cells j Global starts = cells_words cells j

abbrev pub own_flags : ℕ → PlaceKind → Starts → List ℕ
own_flags objects ObjectFlag starts = flags_by starts 0 objects
own_flags objects kind starts = []

-- The words of a place where so much is kept in front of it: those of a global variable tell of its value.
abbrev pub laid_own : ℕ → List Fact → ℕ → ℕ → PlaceKind → Starts → List ℕ
laid_own objects kept j number Global starts = variable_words (value_at kept number 0) j
laid_own objects kept j number kind starts = own_words objects None j kind starts

-- Those of the places from a number on.
abbrev pub laid_words : ℕ → List Fact → ℕ → ℕ → List Place → List ℕ
laid_words objects kept j number [] = []
laid_words objects kept j number (place ∷ places) =
    laid_own objects kept j number place.kind place.start ++ laid_words objects kept (j + kept_at kept number place.kind) (suc number) places

-- The flags of places.
abbrev pub world_flags : ℕ → List Place → List ℕ
world_flags objects [] = []
world_flags objects (place ∷ places) = own_flags objects place.kind place.start ++ world_flags objects places
