-- The letters of typed lines, and what is taken of a line. Hold it against docs/LANGUAGE.md, "Typed lines and words".
use Rattle.std.specs.Prelude.{◌≡◌, ◌≢◌, ◌<◌, ◌≤◌, ℕ, List, [], All, length, map, Option, Bool, true, false, Result, Ok, Err, encode_utf8_all}
use Rattle.dg_base.specs.Units.{units_of}
use Rattle.dg_base.specs.declared.traits.Failed.{Failed}
use Rattle.dg_meaning.specs.Words.{letter_of, letters_of, first_line, behind_first}
use Rattle.dg_words.specs.Lines.{Took, IsOver}

-- All letters of a line.
abbrev pub all_letters : List ℕ → List ℕ
all_letters bytes = map letter_of (units_of bytes)

-- Each letter is below 65,536, as those that may be typed are, and those of names.
abbrev pub AreSmall : List ℕ → Type 0
AreSmall letters = All (λ c. c < 65536) letters

-- A line is in front of the rest, spelled by its letters.
pub record IsLine (spelling typed rest : List ℕ) : Type 0 where
  pub some : typed ≢ []
  pub spelled : spelling ≡ encode_utf8_all (letters_of (first_line typed))
  pub behind : behind_first typed ≡ rest

-- A line is read; or no byte is left; or the source failed within it, and has left at least what is behind it.
abbrev pub ReadsLine : Result Bool Failed → List ℕ → Option (List ℕ) → Option (List ℕ) → Type 0
ReadsLine (Ok true) spelling old new = Took old new (IsLine spelling)
ReadsLine (Ok false) spelling old new = IsOver old new
ReadsLine (Err failed) spelling old new = Took old new (λ typed rest. length (behind_first typed) ≤ length rest)
