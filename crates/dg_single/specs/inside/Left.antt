-- Lists of goals that are left to be looked at, and how much they are. The proofs alone rest on it.
use Rattle.std.specs.Prelude.{◌≡◌, ℕ, ◌+◌, List, [], ◌∷◌, Bool, true, false, ◌&&◌, slice_set}
use Rattle.std.specs.Borrow.{Bor}
use Rattle.dg_base.specs.declared.program.Goal.{Goal, If', Select', Row_of-Goal, end_of-Goal, more_of-Goal, Row_of-Goal-Either-0-1, end_of-Goal-Either-0-1, more_of-Goal-Either-0-1}
use Rattle.dg_base.specs.declared.program.Goal.TheOpen.{Goal-F, If, Select}
use Rattle.dg_base.specs.declared.program.Rule.{Rule}
use Rattle.dg_single.specs.Plain.{are_plain, rules_fit}
use Rattle.dg_meaning.specs.Sets.{is_in_set}

-- Each of some lists is plain.
abbrev pub all_plain : List Bool → List (List Goal) → Bool
all_plain set [] = true
all_plain set (goals ∷ lists) = are_plain set goals && all_plain set lists

-- The lists that a goal goes on with are plain.
abbrev pub inside_plain : List Bool → Goal-F Goal → Bool
inside_plain set (If test first other) = are_plain set first && are_plain set other
inside_plain set (Select site mode lists) = all_plain set lists
inside_plain set x = true

-- Each list that is left is plain.
abbrev pub left_plain : List Bool → List (Bor (List Goal)) → Bool
left_plain set [] = true
left_plain set (goals ∷ left) = are_plain set goals.now && left_plain set left

-- How much a goal is to look at: one, and the lists that it goes on with; a list is one and its goals.
abbrev mutual
  pub weight : Goal → ℕ
  weight (If' s test t first u other) = 1 + (row_weight first + row_weight other)
  weight (Select' site mode s lists) = 1 + rows_weight lists
  weight goal = 1

  pub row_weight : {m : _} → Row_of-Goal m → ℕ
  row_weight end_of-Goal = 1
  row_weight (more_of-Goal goal others) = weight goal + row_weight others

  pub rows_weight : {m : _} → Row_of-Goal-Either-0-1 m → ℕ
  rows_weight end_of-Goal-Either-0-1 = 0
  rows_weight (more_of-Goal-Either-0-1 s goals others) = row_weight goals + rows_weight others

-- How much a body is.
abbrev pub body_weight : List Goal → ℕ
body_weight [] = 1
body_weight (goal ∷ goals) = weight goal + body_weight goals

-- How much some lists are.
abbrev pub lists_weight : List (List Goal) → ℕ
lists_weight [] = 0
lists_weight (goals ∷ lists) = body_weight goals + lists_weight lists

-- How much the lists are that a goal goes on with.
abbrev pub inside_weight : Goal-F Goal → ℕ
inside_weight (If test first other) = body_weight first + body_weight other
inside_weight (Select site mode lists) = lists_weight lists
inside_weight x = 0

-- How much is left.
abbrev pub left_weight : List (Bor (List Goal)) → ℕ
left_weight [] = 0
left_weight (goals ∷ left) = body_weight goals.now + left_weight left

-- A predicate with these rules was taken out of a set, where they don't fit it; or else it stays.
abbrev pub Sifted : List Bool → ℕ → List Rule → List Bool → Bool → Type 0
Sifted old p rules new true = (is_in_set old p ≡ true) × (rules_fit old rules ≡ false) × (new ≡ slice_set old p false)
Sifted old p rules new false = (new ≡ old) × (is_in_set old p ≡ true → rules_fit old rules ≡ true)

-- How many predicates a set has.
abbrev pub one_if : Bool → ℕ
one_if true = 1
one_if false = 0

abbrev pub count_in : List Bool → ℕ
count_in [] = 0
count_in (b ∷ set) = one_if b + count_in set
