-- The objects of a place in order. Hold it against docs/LANGUAGE.md, "The world".
use Rattle.std.specs.Prelude.{◌≡◌, ◌≢◌, ℕ, ◌<◌, ◌≤◌, List, Option, Some, None}
use Rattle.dg_meaning.specs.Facts.{Fact, value_at}

-- Something is set of an object at a place.
abbrev pub IsSetAt : List Fact → ℕ → ℕ → Type 0
IsSetAt facts place object = value_at facts place object ≢ None

-- The first object, from one on and of so many, of which something is set at a place; or there is none.
abbrev pub IsFirstSet : List Fact → ℕ → ℕ → ℕ → Option ℕ → Type 0
IsFirstSet facts place from objects None = (o : ℕ) → from ≤ o → o < objects → value_at facts place o ≡ None
IsFirstSet facts place from objects (Some first) =
    (from ≤ first) × (first < objects) × IsSetAt facts place first × ((o : ℕ) → from ≤ o → o < first → value_at facts place o ≡ None)
