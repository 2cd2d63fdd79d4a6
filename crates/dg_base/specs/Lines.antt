-- What is taken of the typed bytes for a line, and what is kept of it. Hold it against docs/LANGUAGE.md, "Typed lines and words".
use Rattle.std.specs.Prelude.{◌≡◌, ◌≢◌, ◌<◌, ◌≤◌, ◌-◌, ◌⊎◌, ℕ, List, [], ◌∷◌, ◌++◌, All, length, take, Option, Some, None, Result, Ok, Err}
use Rattle.std.specs.Io.KnownBytes.{Consumes, IsAtEnd, Keeps}
use Rattle.dg_base.specs.Typed.{longest}
use Rattle.dg_base.specs.declared.traits.Failed.{Failed}

-- These bytes may stand in a line: none is a newline, and they are no more than a line has.
pub record IsPlain (bytes : List ℕ) : Type 0 where
  pub no_newline : All (λ b. b ≢ 10) bytes
  pub within : length bytes ≤ longest

-- A line ends that may have so many more bytes: with a newline; or with nothing, where it may have no more, or these bytes were all that was left.
abbrev pub Ends : ℕ → Option (List ℕ) → List ℕ → List ℕ → Type 0
Ends room left bytes end = ((0 < room) × (end ≡ 10 ∷ [])) ⊎ (((room ≡ 0) ⊎ Consumes left (Some []) bytes) × (end ≡ []))

-- The bytes of a line are taken, and what ends it.
pub record TookLine (bytes : List ℕ) (old new : Option (List ℕ)) : Type 0 where
  pub plain : IsPlain bytes
  pub end : List ℕ
  pub took : Consumes old new (bytes ++ end)
  pub ends : Ends (longest - length bytes) old bytes end
  pub some : bytes ++ end ≢ []

-- A text is these bytes without a carriage return at their end.
abbrev pub IsText : List ℕ → List ℕ → Type 0
IsText text bytes = (bytes ≡ text ++ 13 ∷ []) ⊎ ((bytes ≡ text) × ((front : List ℕ) → bytes ≢ front ++ 13 ∷ []))

-- These bytes are kept, as many as there is room for.
pub record IsKept (line : List ℕ) (kept : ℕ) (bytes : List ℕ) : Type 0 where
  pub front : take kept line ≡ take (length line) bytes
  pub count : kept ≡ length (take (length line) bytes)

-- The text of these bytes is kept.
pub record KeepsText (line : List ℕ) (kept : ℕ) (bytes : List ℕ) : Type 0 where
  pub text : List ℕ
  pub is : IsText text bytes
  pub keeps : IsKept line kept text

-- A byte of a line that may have so many more is taken, or its end.
abbrev pub TakesNext : Result (Option ℕ) Failed → ℕ → Option (List ℕ) → Option (List ℕ) → Type 0
TakesNext (Ok (Some byte)) room old new = Consumes old new (byte ∷ []) × (byte ≢ 10) × (0 < room)
TakesNext (Ok None) room old new = (end : List ℕ) × Consumes old new end × Ends room old [] end
TakesNext (Err failed) room old new = Keeps old new

-- A line is taken, and its text is kept; or no byte was left; or bytes of a line are taken in front of a failure.
abbrev pub TakesLine : Result (Option ℕ) Failed → List ℕ → Option (List ℕ) → Option (List ℕ) → Type 0
TakesLine (Ok (Some kept)) line old new = (bytes : List ℕ) × TookLine bytes old new × KeepsText line kept bytes
TakesLine (Ok None) line old new = IsAtEnd old × Keeps old new
TakesLine (Err failed) line old new = (bytes : List ℕ) × IsPlain bytes × Consumes old new bytes

-- The same of a line whose first byte was taken before.
abbrev pub TakesRest : Result ℕ Failed → List ℕ → Option (List ℕ) → Option (List ℕ) → Type 0
TakesRest (Ok kept) line old new = TakesLine (Ok (Some kept)) line old new
TakesRest (Err failed) line old new = TakesLine (Err failed) line old new
