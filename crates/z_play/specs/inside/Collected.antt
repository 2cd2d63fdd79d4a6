-- Codes that are collected before they go into a table.
use Rattle.z_model.specs.declared.end.Effect.{Effect}
use Rattle.z_model.specs.declared.end.Effect.TheVariants.{Goes, PrintsCode, PrintsUnicode, PrintsNumber, PrintsText, PrintsLine, Draws, Reads, ReadsKey, Quits}
use Rattle.std.specs.Prelude.{◌≡◌, ◌<◌, ◌≤◌, ℕ, List, length, take, Option, Some, None}

-- These codes are the first so many in a room, or they are more than it holds.
abbrev pub Collects : Option ℕ → List ℕ → List ℕ → Type 0
Collects (Some n) room codes = (n ≤ length room) × (take n room ≡ codes)
Collects None room codes = length room < length codes

-- It prints no number.
abbrev pub IsText : Effect → Type 0
IsText Goes = Unit {0}
IsText (PrintsCode c) = Unit {0}
IsText (PrintsUnicode c) = Unit {0}
IsText (PrintsNumber x) = ⊥
IsText (PrintsText at) = Unit {0}
IsText (PrintsLine at) = Unit {0}
IsText Draws = Unit {0}
IsText (Reads buffer most store) = Unit {0}
IsText (ReadsKey store) = Unit {0}
IsText Quits = Unit {0}
