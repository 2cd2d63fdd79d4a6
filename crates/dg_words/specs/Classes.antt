-- What a spelling is, by its bytes. Hold it against dg_meaning/specs/Words.antt.
use Rattle.std.specs.Prelude.{ℕ, suc, List, [], ◌∷◌, Option, Some, None, if◌then◌else◌}
use Rattle.dg_meaning.specs.Values.{Num, Word, Unknown, Value, leaf}
use Rattle.dg_meaning.specs.Unify.{same_spelling}
use Rattle.dg_meaning.specs.Words.{is_number, number_behind}
use Rattle.dg_words.specs.declared.classes.Class.{Class}
use Rattle.dg_words.specs.declared.classes.Class.TheVariants as class

-- The value of a spelling with these letters, of such a class.
abbrev pub value_of_class : List ℕ → Class → Value
value_of_class letters (class.Num n) = leaf (Num n)
value_of_class letters (class.Known n) = leaf (Word n)
value_of_class letters class.Unknown = leaf (Unknown letters)

-- The number that bytes write, if they write one.
abbrev pub number_in : List ℕ → Option ℕ
number_in bytes = if is_number bytes then Some (number_behind 0 bytes) else None

-- The first place of a spelling among words that are numbered from n on.
abbrev pub place_from : ℕ → List (List ℕ) → List ℕ → Option ℕ
place_from n [] bytes = None
place_from n (word ∷ words) bytes = if same_spelling word bytes then Some n else place_from (suc n) words bytes

abbrev pub place_in : List (List ℕ) → List ℕ → Option ℕ
place_in words bytes = place_from 0 words bytes
