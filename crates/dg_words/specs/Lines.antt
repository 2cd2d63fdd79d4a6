-- What is taken of the typed bytes, line by line. Hold it against docs/LANGUAGE.md, "Typed lines and words".
use Rattle.std.specs.Prelude.{ℕ, List, ◌++◌, Option}
use Rattle.std.specs.Io.KnownBytes.{IsAtEnd, Keeps}
use Rattle.dg_meaning.specs.Shows.{IsLeft}

-- A source took bytes from the front of what it had left, and has left the rest; of all of them and the rest this holds. Of a source that doesn't
-- tell what it has left it holds for some bytes that are taken, and any rest.
pub record Took (old new : Option (List ℕ)) (P : List ℕ → List ℕ → Type 0) : Type 0 where
  pub taken : List ℕ
  pub gave : (rest : List ℕ) → IsLeft new rest → IsLeft old (taken ++ rest)
  pub holds : (rest : List ℕ) → IsLeft new rest → P (taken ++ rest) rest

-- No byte is left.
abbrev pub IsOver : Option (List ℕ) → Option (List ℕ) → Type 0
IsOver old new = IsAtEnd old × Keeps old new
