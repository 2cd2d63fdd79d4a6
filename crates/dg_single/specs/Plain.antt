-- Which goals leave no choice open behind their answer, where the predicates of a set don't. Hold it against docs/LANGUAGE.md, "Search", on queries and (just).
use Rattle.std.specs.Prelude.{List, [], ◌∷◌, Bool, true, false, not, ◌&&◌, ◌||◌}
use Rattle.std.specs.List.{list_any}
use Rattle.dg_base.specs.declared.program.Goal.{Goal, out-Goal, If', Select', Row_of-Goal, end_of-Goal, more_of-Goal, items-the_row-Goal, Row_of-Goal-Either-0-1, end_of-Goal-Either-0-1, more_of-Goal-Either-0-1}
use Rattle.dg_base.specs.declared.program.Goal.TheOpen.{Goal-F, Ask, Holds, IsObject, Query, Either, Forever, Just, Fail}
use Rattle.dg_base.specs.declared.program.Rule.{Rule}
use Rattle.dg_base.specs.Goals.{has_rule}
use Rattle.dg_meaning.specs.Sets.{is_in_set}

-- It is a (just).
abbrev pub is_just : Goal-F Goal → Bool
is_just Just = true
is_just x = false

-- It is a (just) or a (fail).
abbrev pub is_cut_goal : Goal-F Goal → Bool
is_cut_goal Just = true
is_cut_goal Fail = true
is_cut_goal x = false

-- A form of goal that is plain, its inner lists apart: none of `(or)`, `(repeat forever)`, a query for all answers of a place,
-- of objects or of a closure, and one for all answers of a predicate that isn't in the set.
abbrev pub is_plain_form : List Bool → Goal-F Goal → Bool
is_plain_form set (Either lists) = false
is_plain_form set Forever = false
is_plain_form set (Holds place args many) = not many
is_plain_form set (IsObject a many) = not many
is_plain_form set (Query a b many) = not many
is_plain_form set (Ask pred args many) = not many || is_in_set set pred
is_plain_form set x = true

-- A (just) stands in a body, at its top.
abbrev pub has_just : List Goal → Bool
has_just goals = list_any (λ goal. is_just (out-Goal goal)) goals

-- A goal is plain; of a condition and a select the lists that it goes on with are plain, too.
-- A list is plain where every goal behind its last (just) is, or every goal where it has none.
abbrev mutual
  pub is_plain : List Bool → Goal → Bool
  is_plain set (If' s test t first u other) = is_plain_row set first && is_plain_row set other
  is_plain set (Select' site mode s lists) = are_plain_rows set lists
  is_plain set goal = is_plain_form set (out-Goal goal)

  pub is_plain_row : {m : _} → List Bool → Row_of-Goal m → Bool
  is_plain_row set end_of-Goal = true
  is_plain_row set (more_of-Goal goal others) = is_plain_row set others && (has_just (items-the_row-Goal _ others) || is_plain set goal)

  pub are_plain_rows : {m : _} → List Bool → Row_of-Goal-Either-0-1 m → Bool
  are_plain_rows set end_of-Goal-Either-0-1 = true
  are_plain_rows set (more_of-Goal-Either-0-1 s goals others) = is_plain_row set goals && are_plain_rows set others

-- A (just) or (fail) stands in a body, at its top.
abbrev pub has_cut : List Goal → Bool
has_cut goals = list_any (λ goal. is_cut_goal (out-Goal goal)) goals

-- A body is plain.
abbrev pub are_plain : List Bool → List Goal → Bool
are_plain set [] = true
are_plain set (goal ∷ goals) = are_plain set goals && (has_just goals || is_plain set goal)

-- The body of each rule is plain, and each but the last has a (just) or (fail) at its top.
abbrev pub rules_fit : List Bool → List Rule → Bool
rules_fit set [] = true
rules_fit set (rule ∷ rules) = are_plain set rule.body && (not (has_rule rules) || has_cut rule.body) && rules_fit set rules
