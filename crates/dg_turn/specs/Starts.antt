-- What lies in the world where a story starts. Hold it against docs/LANGUAGE.md, "The world", and dg_meaning/specs/Facts.antt, "The start".
use Rattle.std.specs.Prelude.{◌≡◌, ℕ, zero, suc, ◌+◌, ◌*◌, ◌<◌, ◌≤◌, List, [], ◌∷◌, ◌++◌, length, Option, Some, None, is_some, All}
use Rattle.std.specs.List.{slice_get}
use Rattle.dg_base.specs.declared.program.CoreProgram.{CoreProgram}
use Rattle.dg_base.specs.declared.program.Place.{Place}
use Rattle.dg_base.specs.declared.program.PlaceKind.{PlaceKind}
use Rattle.dg_base.specs.declared.program.PlaceKind.TheVariants.{Flag, ObjectFlag, ObjectVar, Parent, Global}
use Rattle.dg_base.specs.declared.program.Term.{Term, out-Term}
use Rattle.dg_base.specs.Sound.{IsSound}
use Rattle.dg_meaning.specs.Facts.{Fact, value_at, kinds_of, start_facts}
use Rattle.dg_meaning.specs.Values.{Value}
use Rattle.dg_rt.specs.Cells.{bit}
use Rattle.dg_rt.specs.Changes.{SetIn}
use Rattle.dg_rt.specs.Copies.{Row}
use Rattle.dg_rt.specs.Operands.{no_value, simple_word}
use Rattle.dg_rt.specs.Tables.{byte_at}
use Rattle.dg_turn.specs.Terms.{IsTerm}
use Rattle.dg_turn.specs.World.{world_at, all_words, KeptFacts, FactsIn}

-- ## Words and bytes

-- The word of what is set: no value for nothing.
abbrev pub set_word : Option Value → ℕ
set_word None = no_value
set_word (Some v) = simple_word v

-- The words of a place, one for each of so many objects from one on, and the bytes of its flags.
abbrev pub object_words : List Fact → ℕ → ℕ → ℕ → List ℕ
object_words facts place o zero = []
object_words facts place o (suc n) = set_word (value_at facts place o) ∷ object_words facts place (suc o) n

abbrev pub object_bytes : List Fact → ℕ → ℕ → ℕ → List ℕ
object_bytes facts place o zero = []
object_bytes facts place o (suc n) = bit (is_some (value_at facts place o)) ∷ object_bytes facts place (suc o) n

-- The table of a place of a kind among so many objects: its words, and its bytes.
abbrev pub words_of_place : ℕ → List Fact → ℕ → PlaceKind → List ℕ
words_of_place n facts place Flag = object_words facts place 0 1
words_of_place n facts place ObjectFlag = []
words_of_place n facts place ObjectVar = object_words facts place 0 n
words_of_place n facts place Parent = object_words facts place 0 n
words_of_place n facts place Global = 0 ∷ 0 ∷ []

abbrev pub bytes_of_place : ℕ → List Fact → ℕ → PlaceKind → List ℕ
bytes_of_place n facts place ObjectFlag = object_bytes facts place 0 n
bytes_of_place n facts place kind = []

-- Those of the places from a number on.
abbrev pub words_from : ℕ → List Fact → ℕ → List PlaceKind → List ℕ
words_from n facts place [] = []
words_from n facts place (kind ∷ kinds) = words_of_place n facts place kind ++ words_from n facts (suc place) kinds

abbrev pub bytes_from : ℕ → List Fact → ℕ → List PlaceKind → List ℕ
bytes_from n facts place [] = []
bytes_from n facts place (kind ∷ kinds) = bytes_of_place n facts place kind ++ bytes_from n facts (suc place) kinds

-- The words and the bytes of the world in a row, and the values of global variables.
pub record WorldIn (program : CoreProgram) (facts : List Fact) (words : ℕ → ℕ) : Type 0 where
  pub in_words : Row words world_at (words_from (length program.objects) facts 0 (kinds_of program))
  pub in_bytes : Row (byte_at words) (2 * (world_at + all_words (length program.objects) (kinds_of program)))
      (bytes_from (length program.objects) facts 0 (kinds_of program))
  pub kept : KeptFacts program facts words

-- ## What can be set

-- A place of so many objects has simple values, and nothing of others.
pub record AreSimple (facts : List Fact) (place n : ℕ) : Type 0 where
  pub each : (o : ℕ) → o < n → SetIn (set_word (value_at facts place o)) (value_at facts place o)
  pub few : (o : ℕ) → n ≤ o → value_at facts place o ≡ None

-- So it is by the kind of a place; a flag has any value.
abbrev pub FitsPlace : ℕ → List Fact → ℕ → PlaceKind → Type 0
FitsPlace n facts place Flag = AreSimple facts place 1
FitsPlace n facts place ObjectFlag = (o : ℕ) → n ≤ o → value_at facts place o ≡ None
FitsPlace n facts place ObjectVar = AreSimple facts place n
FitsPlace n facts place Parent = AreSimple facts place n
FitsPlace n facts place Global = Unit {0}

-- Words and bytes of facts that fit their places stand for them.
abbrev pub WorldStands : Type 0
WorldStands = (program : CoreProgram) (facts : List Fact) (words : ℕ → ℕ) →
    ((place : ℕ) (kind : PlaceKind) → slice_get (kinds_of program) place ≡ Some kind → FitsPlace (length program.objects) facts place kind) →
    WorldIn program facts words → FactsIn program facts words

-- The terms that start set are those of a story.
abbrev pub StartTerms : List Place → Type 0
StartTerms places = All (λ (place : Place). All (λ (start : ℕ × Term). IsTerm (out-Term start.1)) place.start) places

-- What starts set in a sound program fits its places.
abbrev pub StartsFit : Type 0
StartsFit = (program : CoreProgram) → IsSound program → StartTerms program.places → (place : ℕ) (kind : PlaceKind) →
    slice_get (kinds_of program) place ≡ Some kind → FitsPlace (length program.objects) (start_facts program.places) place kind
