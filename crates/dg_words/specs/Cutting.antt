-- Where the words of a line stand. Hold it against docs/LANGUAGE.md, "Typed lines and words", and dg_meaning/specs/Words.antt.
use Rattle.std.specs.Prelude.{◌≡◌, ℕ, ◌-◌, ◌<◌, ◌≤◌, eqb, List, [], ◌∷◌, ◌++◌, Option, Some, None, false, length, take, drop, slice_index, map, encode_utf8_all}
use Rattle.dg_meaning.specs.Words.{spellings_of}

-- The word from one place to another of a line.
abbrev pub between : List ℕ → ℕ → ℕ → List ℕ
between line from to = take (to - from) (drop from line)

-- The words in front of a place.
abbrev pub words_before : List ℕ → ℕ → List (List ℕ)
words_before line end = spellings_of (take end line)

-- The words in front of a place are those in front of another, at which a word ends or the line begins.
pub record SkipsBackTo (line : List ℕ) (end to : ℕ) : Type 0 where
  pub order : to ≤ end
  pub same : words_before line end ≡ words_before line to
  pub no_space : 0 < to → eqb (slice_index line (to - 1)) 32 ≡ false

-- A word ends at a place.
pub record EndsAt (line : List ℕ) (to : ℕ) : Type 0 where
  pub some : 0 < to
  pub within : to ≤ length line
  pub no_space : eqb (slice_index line (to - 1)) 32 ≡ false

-- It begins at another: of the words in front of its end it is the last, and the others stand in front of its beginning.
pub record BeginsAt (line : List ℕ) (from to : ℕ) : Type 0 where
  pub order : from < to
  pub words : words_before line to ≡ words_before line from ++ between line from to ∷ []

-- The last word in front of a place.
pub record IsWord (line : List ℕ) (end from to : ℕ) : Type 0 where
  pub order : from < to
  pub before : to ≤ end
  pub words : words_before line end ≡ words_before line from ++ between line from to ∷ []

-- The last word in front of a place, or there is none.
abbrev pub IsLastWord : List ℕ → ℕ → Option (ℕ × ℕ) → Type 0
IsLastWord line end None = words_before line end ≡ []
IsLastWord line end (Some word) = IsWord line end word.0 word.1

-- The words of the bytes of letters are the bytes of the words of the letters.
abbrev pub WordsAreBytes : Type 0
WordsAreBytes = (letters : List ℕ) → spellings_of (encode_utf8_all letters) ≡ map encode_utf8_all (spellings_of letters)
