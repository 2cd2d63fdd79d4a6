-- What lines hold: their bytes, the numbers of their rules, and when they are those of a story.
use Rattle.std.specs.Prelude.{◌<◌, ◌≤◌, ℕ, List, [], ◌∷◌, ◌++◌, All}
use Rattle.z_list.specs.Listing.{Line, Data, Rule, Locals, Does, End}

abbrev pub bytes_in : Line → List ℕ
bytes_in (Data at bytes) = bytes
bytes_in (Rule at pred rule) = []
bytes_in (Locals at byte) = byte ∷ []
bytes_in (Does at bytes) = bytes
bytes_in (End at) = []

-- the bytes of lines
abbrev pub bytes_of : List Line → List ℕ
bytes_of [] = []
bytes_of (l ∷ ls) = bytes_in l ++ bytes_of ls

abbrev pub place_in : Line → ℕ
place_in (Data at bytes) = at
place_in (Rule at pred rule) = at
place_in (Locals at byte) = at
place_in (Does at bytes) = at
place_in (End at) = at

abbrev pub HasNumbers : Line → Type 0
HasNumbers (Rule at pred rule) = (pred < 65536) × (rule < 65536)
HasNumbers (Data at bytes) = Unit {0}
HasNumbers (Locals at byte) = Unit {0}
HasNumbers (Does at bytes) = Unit {0}
HasNumbers (End at) = Unit {0}

-- a line of a story: its place, its bytes and the numbers of its rule
pub record IsFit (l : Line) : Type 0 where
  pub place : place_in l ≤ 524288
  pub bytes : All (λ b. b < 256) (bytes_in l)
  pub numbers : HasNumbers l

abbrev pub AreFit : List Line → Type 0
AreFit [] = Unit {0}
AreFit (l ∷ ls) = IsFit l × AreFit ls

abbrev pub HaveNumbers : List Line → Type 0
HaveNumbers [] = Unit {0}
HaveNumbers (l ∷ ls) = HasNumbers l × HaveNumbers ls
