-- How many variables an item has: hold it against docs/LANGUAGE.md, "Limits".
use Rattle.std.specs.Prelude.{◌≡◌, ◌≤◌, ℕ, List, false}
use Rattle.std.specs.List.{All}
use Rattle.dg_base.specs.Tree.{Said, Item}
use Rattle.dg_base.specs.Mentions.{Mentions, things, closures, names_in, variable_in}
use Rattle.dg_scopes.specs.Counts.{variables_among, counted_of, are_large}

-- At most 64 variables, of all the names in an item.
abbrev pub AreFew : List (List ℕ) → Mentions → Type 0
AreFew all ms = variables_among all ms ≤ 64

-- A rule and each closure in it has few variables.
abbrev pub HasFewVariables : Said → Type 0
HasFewVariables said = let ms = counted_of said in let all = names_in variable_in (things ms) in AreFew all ms × All (AreFew all) (closures ms)

-- What one item becomes has few variables where it isn't too large.
abbrev pub SmallAreFew : List Item → Type 0
SmallAreFew is = are_large is ≡ false → All (λ (i : Item). HasFewVariables i.said) is
