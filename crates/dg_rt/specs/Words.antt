-- The words of a program as they stand in a story's static memory, and what the routines do that read and print them. Hold it against docs/LANGUAGE.md,
-- where it says how a word is printed, and dg_meaning/specs/Pieces.antt.
use Rattle.std.specs.Prelude.{◌≡◌, ℕ, suc, ◌+◌, ◌*◌, ◌/◌, ◌%◌, ◌<◌, ◌≤◌, List, [], ◌∷◌, ◌++◌, length, get_or, Some, All, encode_utf8}
use Rattle.dg_base.specs.Sound.{IsName}
use Rattle.z_model.specs.Memory.{guarded, byte_in}
use Rattle.z_lang.specs.State.{Program, unless_fault}
use Rattle.z_lang.specs.Runs.{ActsRun as Runs, Returns}
use Rattle.z_lang.specs.Standing.{IsKept}
use Rattle.dg_rt.specs.declared.numbers.TheConstants.{SPELL}
use Rattle.dg_rt.specs.declared.spelling.TheConstants.{WORDS, CHARACTER_ACTS}
use Rattle.dg_rt.specs.Areas.{state}
use Rattle.dg_rt.specs.RunTime.{HasRunTime}
use Rattle.dg_rt.specs.Prints.{SpellsBy}

-- ## The table

-- A number as two bytes.
abbrev pub two_bytes : ℕ → List ℕ
two_bytes x = x / 256 ∷ x % 256 ∷ []

-- Where spellings begin, the first at a place, each with a zero behind it.
abbrev pub word_starts : ℕ → List (List ℕ) → List ℕ
word_starts at [] = []
word_starts at (word ∷ words) = two_bytes at ++ word_starts (at + length word + 1) words

-- Spellings, each with a zero behind it.
abbrev pub spellings : List (List ℕ) → List ℕ
spellings [] = []
spellings (word ∷ words) = word ++ 0 ∷ spellings words

-- The table of words: how many there are, where in the table the spelling of each begins, and the spellings.
abbrev pub words_table : List (List ℕ) → List ℕ
words_table words = two_bytes (length words) ++ word_starts (2 + 2 * length words) words ++ spellings words

-- ## What is read

-- A byte is read at an address.
abbrev pub ByteAt : Program → List ℕ → ℕ → ℕ → Type 0
ByteAt p m a b = (a < 65536) × (unless_fault (byte_in (guarded p.world.layout m) a) ≡ Some b)

-- Bytes are read from an address on.
abbrev pub BytesFrom : Program → List ℕ → ℕ → List ℕ → Type 0
BytesFrom p m a [] = Unit {0}
BytesFrom p m a (b ∷ bs) = ByteAt p m a b × BytesFrom p m (suc a) bs

-- The table of a program's words is read wherever memory is the story's from its static part on.
pub record HasWords (p : Program) (story : List ℕ) (words : List (List ℕ)) : Type 0 where
  pub names : All IsName words
  pub told : (m : List ℕ) → IsKept p.world.layout.base story m → BytesFrom p m (p.names.table WORDS) (words_table words)

-- ## The routines

-- A character was answered, in 11 instructions.
pub record TellsCharacter (p : Program) (f w : ℕ) (memory typed output : List ℕ) (drawn a c : ℕ) : Type 0 where
  pub locals' : List ℕ
  pub count : ℕ
  pub few : count ≤ 11
  pub runs : Runs p f w CHARACTER_ACTS CHARACTER_ACTS (state memory (a ∷ 0 ∷ 0 ∷ []) typed drawn output) (Returns c)
      (state memory locals' typed drawn output) count

-- So it is with any character below 65,536 whose bytes in UTF-8 are read at an address.
abbrev pub CharacterWorks : Type 0
CharacterWorks = (p : Program) (f w : ℕ) (memory typed output : List ℕ) (drawn a c : ℕ) → c < 65536 → BytesFrom p memory a (encode_utf8 c) →
    TellsCharacter p f w memory typed output drawn a c

-- The words of a program are printed by their spelling, and a number behind the last one as a word of no letters.
abbrev pub SpellWorks : Type 0
SpellWorks = (p : Program) → HasRunTime p → (story : List ℕ) (words : List (List ℕ)) → HasWords p story words →
    SpellsBy p story (p.names.routine SPELL) 8192 (λ n. get_or words n [])

-- Both.
pub record WordsWork : Type 0 where
  pub character : CharacterWorks
  pub spells : SpellWorks
