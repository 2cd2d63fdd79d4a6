-- The words of a program as a table of a story, and what the routines do that look words up in it. Hold it against docs/LANGUAGE.md, "Typed lines and
-- words", where it says that whole spellings are compared.
use Rattle.std.specs.Prelude.{◌≡◌, ℕ, suc, ◌+◌, ◌*◌, ◌<◌, ◌≤◌, List, [], ◌∷◌, ◌++◌, length, take, get_or, Some}
use Rattle.std.specs.List.{sum_by}
use Rattle.dg_base.specs.Sound.{IsName}
use Rattle.dg_meaning.specs.Words.{word_from}
use Rattle.dg_meaning.specs.Values.{Word, Value, Node}
use Rattle.z_lang.specs.declared.act.Function.TheVariants as functions
use Rattle.z_lang.specs.State.{Program}
use Rattle.z_lang.specs.Acts.{computed}
use Rattle.z_lang.specs.Runs.{ActsRun as Runs, Returns}
use Rattle.z_lang.specs.Standing.{IsKept}
use Rattle.dg_rt.specs.declared.dictionary.TheConstants.{FIND_WORD_ACTS}
use Rattle.dg_rt.specs.Cells.{at_cell, Holds}
use Rattle.dg_rt.specs.Areas.{state}
use Rattle.dg_rt.specs.Copies.{Row}
use Rattle.dg_rt.specs.Operands.{no_value}
use Rattle.dg_rt.specs.RunTime.{HasRunTime}

-- ## The table

-- Where the spelling of a word begins: behind two bytes that say how many words there are, two for each word, and the spellings before it, each with a
-- zero byte.
abbrev pub spelling_at : List (List ℕ) → ℕ → ℕ
spelling_at words n = 2 * (length words + 1) + sum_by length (take n words) + n

-- Bytes stand in table 1 from a place on, wherever memory is the story's from its static part on.
abbrev pub BytesStand : Program → List ℕ → ℕ → List ℕ → Type 0
BytesStand p story x [] = Unit {0}
BytesStand p story x (b ∷ bs) =
    ((m : List ℕ) → IsKept p.world.layout.base story m → computed p.world.layout m functions.Byte (p.names.table 1) x ≡ Some b)
    × BytesStand p story (suc x) bs

-- So table 1 tells how many words a program has and where the spelling of each begins, and has their bytes, a zero byte behind each.
pub record HasSpellings (p : Program) (story : List ℕ) (words : List (List ℕ)) : Type 0 where
  pub few : length words ≤ 8192
  pub small : spelling_at words (length words) < 32768
  pub names : (n : ℕ) → n < length words → IsName (get_or words n [])
  pub many : (m : List ℕ) → IsKept p.world.layout.base story m →
      computed p.world.layout m functions.Word (p.names.table 1) 0 ≡ Some (length words)
  pub begins : (n : ℕ) → n < length words → (m : List ℕ) → IsKept p.world.layout.base story m →
      computed p.world.layout m functions.Word (p.names.table 1) (suc n) ≡ Some (spelling_at words n)
  pub bytes : (n : ℕ) → n < length words → BytesStand p story (spelling_at words n) (get_or words n [] ++ 0 ∷ [])

-- ## Words that are looked up

-- The number of the word that a value is.
abbrev pub dict_word : Value → ℕ
dict_word (Node (Word n) parts) = n
dict_word v = no_value

-- The first word with a spelling was answered, if there is one, and nothing was changed.
pub record FindsWord (p : Program) (words : List (List ℕ)) (f w : ℕ) (memory typed output : List ℕ) (drawn k : ℕ) (letters : List ℕ) : Type 0 where
  pub locals' : List ℕ
  pub count : ℕ
  pub few : count ≤ length words * (31 * length letters + 16) + (31 * length letters + 15)
  pub runs : Runs p f w FIND_WORD_ACTS FIND_WORD_ACTS
      (state memory (at_cell k ∷ at_cell (k + length letters) ∷ 0 ∷ 0 ∷ []) typed drawn output) (Returns (dict_word (word_from 0 words letters)))
      (state memory locals' typed drawn output) count

-- So it is with letters that stand in a row.
abbrev pub FindWorks : Type 0
FindWorks = (p : Program) → HasRunTime p → (story : List ℕ) (words : List (List ℕ)) → HasSpellings p story words → (f w : ℕ) →
    2 ≤ f → 9 ≤ w →
    (memory typed output : List ℕ) (drawn : ℕ) (cells : ℕ → ℕ) → Holds p.world.layout memory cells → IsKept p.world.layout.base story memory →
    (k : ℕ) (letters : List ℕ) → at_cell (k + length letters) ≤ p.world.layout.base → at_cell (k + length letters) < 65536 → Row cells k letters →
    FindsWord p words f w memory typed output drawn k letters
