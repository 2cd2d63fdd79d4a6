-- Lists of goals that are left to be looked at, whether they are quiet, and how much they are. The proofs alone rest on it.
use Rattle.std.specs.Prelude.{ℕ, ◌+◌, List, [], ◌∷◌, Bool, true, false, ◌&&◌, Option, Some, None, Vec}
use Rattle.std.specs.Global.{Global}
use Rattle.std.specs.List.{list_all}
use Rattle.std.specs.Borrow.{Bor}
use Rattle.dg_base.specs.declared.program.Goal.{Goal, Either', Once', Not', If', Exhaust', Row_of-Goal, end_of-Goal, more_of-Goal, Row_of-Goal-Either-0-1, end_of-Goal-Either-0-1, more_of-Goal-Either-0-1}
use Rattle.dg_base.specs.declared.program.Goal.TheOpen.{Goal-F, Either, Once, Not, If, Exhaust}
use Rattle.dg_meaning.specs.Sets.{is_in_set}
use Rattle.dg_meaning.specs.Quiet.{are_quiet}
use Rattle.dg_quiet.specs.declared.asks.Form.{Form}
use Rattle.dg_quiet.specs.declared.asks.Form.TheVariants.{Quiet, Asks, Loud}

-- A goal of a form is quiet, where these predicates are.
abbrev pub form_in : List Bool → Form → Bool
form_in set Quiet = true
form_in set (Asks pred) = is_in_set set pred
form_in set Loud = false

-- All that is asked is in a set.
abbrev pub asks_in : List Bool → List ℕ → Bool
asks_in set asks = list_all (is_in_set set) asks

-- What asks these, and no more, is quiet.
abbrev pub quiet_if : List Bool → Option (Vec ℕ Global) → Bool
quiet_if set None = false
quiet_if set (Some asks) = asks_in set asks.items

-- Each of some lists is quiet.
abbrev pub all_quiet : List Bool → List (List Goal) → Bool
all_quiet set [] = true
all_quiet set (goals ∷ lists) = are_quiet set goals && all_quiet set lists

-- The lists that stand in a goal which may be quiet are so.
abbrev pub inside_quiet : List Bool → Goal-F Goal → Bool
inside_quiet set (Either lists) = all_quiet set lists
inside_quiet set (Once goals) = are_quiet set goals
inside_quiet set (Not goals) = are_quiet set goals
inside_quiet set (If test first other) = are_quiet set test && (are_quiet set first && are_quiet set other)
inside_quiet set (Exhaust goals) = are_quiet set goals
inside_quiet set x = true

-- Each list that is left is quiet.
abbrev pub left_quiet : List Bool → List (Bor (List Goal)) → Bool
left_quiet set [] = true
left_quiet set (goals ∷ left) = are_quiet set goals.now && left_quiet set left

-- How much a goal is to look at: one, and the lists that stand in it; a list is one and its goals.
abbrev mutual
  pub weight : Goal → ℕ
  weight (Either' s lists) = 1 + rows_weight lists
  weight (Once' s goals) = 1 + row_weight goals
  weight (Not' s goals) = 1 + row_weight goals
  weight (If' s test t first u other) = 1 + (row_weight test + (row_weight first + row_weight other))
  weight (Exhaust' s goals) = 1 + row_weight goals
  weight goal = 1

  pub row_weight : {m : _} → Row_of-Goal m → ℕ
  row_weight end_of-Goal = 1
  row_weight (more_of-Goal goal others) = weight goal + row_weight others

  pub rows_weight : {m : _} → Row_of-Goal-Either-0-1 m → ℕ
  rows_weight end_of-Goal-Either-0-1 = 0
  rows_weight (more_of-Goal-Either-0-1 s goals others) = row_weight goals + rows_weight others

-- How much a body is.
abbrev pub body_weight : List Goal → ℕ
body_weight [] = 1
body_weight (goal ∷ goals) = weight goal + body_weight goals

-- How much some lists are.
abbrev pub lists_weight : List (List Goal) → ℕ
lists_weight [] = 0
lists_weight (goals ∷ lists) = body_weight goals + lists_weight lists

-- How much the lists are that stand in a goal which may be quiet.
abbrev pub inside_weight : Goal-F Goal → ℕ
inside_weight (Either lists) = lists_weight lists
inside_weight (Once goals) = body_weight goals
inside_weight (Not goals) = body_weight goals
inside_weight (If test first other) = body_weight test + (body_weight first + body_weight other)
inside_weight (Exhaust goals) = body_weight goals
inside_weight x = 0

-- How much is left.
abbrev pub left_weight : List (Bor (List Goal)) → ℕ
left_weight [] = 0
left_weight (goals ∷ left) = body_weight goals.now + left_weight left
