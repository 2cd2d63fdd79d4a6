-- What the laws on the variables of closures say: hold it against docs/LANGUAGE.md, "Search" on closures, and "Limits".
use Rattle.std.specs.Prelude.{ℕ, ◌≤◌, List, [], Contains, length}
use Rattle.std.specs.List.{All}
use Rattle.dg_base.specs.Mentions.{Mentions, nothing, thing, closed, closures, variable_in}
use Rattle.dg_scopes.specs.Counts.{names_out}
use Rattle.dg_scopes.specs.Few.{AreFew}
use Rattle.dg_scopes.specs.Closures.{Layout, layout_by, variables_in, layouts_from, layouts_of}

-- These names are among others.
abbrev pub Within : List (List ℕ) → List (List ℕ) → Type 0
Within names others = (n : List ℕ) → Contains names n → Contains others n

-- A rule or a closure with these variables has each one that stands in it, and each that a closure in it captures; so has each closure.
abbrev pub Holds : List (List ℕ) → List (List ℕ) → Mentions → Type 0
Holds all variables nothing = Unit {0}
Holds all variables (thing t ms) = Within (variable_in t) variables × Holds all variables ms
Holds all variables (closed inner ms) =
    let layout = layout_by all (names_out all inner) [] in
    Within layout.captured variables × Holds all (variables_in layout) inner × Holds all variables ms

-- A closure has at most 64 variables and its parameter.
abbrev pub IsSmall : Layout → Type 0
IsSmall layout = length (variables_in layout) ≤ 65

-- Each closure that stands here is small, where few variables stand in each.
abbrev pub AllAreSmall : List (List ℕ) → ℕ → Mentions → Type 0
AllAreSmall all k ms = All (AreFew all) (closures ms) → All IsSmall (layouts_from all k ms)

-- A rule has at most 64 variables and the parameter of a closure, where few variables stand in it.
abbrev pub RuleIsSmall : List (List ℕ) → Mentions → Type 0
RuleIsSmall all ms = AreFew all ms → length (layouts_of all ms).variables ≤ 65
