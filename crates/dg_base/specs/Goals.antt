-- The rules of a predicate, and the goals and the terms of a body, at every depth.
use Rattle.std.specs.Prelude.{List, [], ◌∷◌, ◌++◌, Option, Some, None, Bool, true, false}
use Rattle.std.specs.List.{flat_map}
use Rattle.dg_base.specs.declared.program.Goal.{Goal, Either', Once', Not', If', Exhaust', Collect', Accumulate', Stoppable', Select', Row_of-Goal, end_of-Goal, more_of-Goal, Row_of-Goal-Either-0-1, end_of-Goal-Either-0-1, more_of-Goal-Either-0-1}
use Rattle.dg_base.specs.declared.program.Goal.TheOpen.{Goal-F, Print, GapN, Equal, Ask, Holds, Now, Query, Collect, Accumulate, Arith, Compare, Random, Test, IsObject, Input, SplitWord, JoinWords}
use Rattle.dg_base.specs.declared.program.Term.{Term}
use Rattle.dg_base.specs.declared.program.Rule.{Rule}

-- there is a rule
abbrev pub has_rule : List Rule → Bool
has_rule [] = false
has_rule (rule ∷ rules) = true

-- a goal, and the goals in it at every depth
abbrev mutual
  pub goals_within : Goal → List Goal
  goals_within (Either' s lists) = Either' s lists ∷ within_lists lists
  goals_within (Once' s goals) = Once' s goals ∷ within_goals goals
  goals_within (Not' s goals) = Not' s goals ∷ within_goals goals
  goals_within (If' s test t first u other) = If' s test t first u other ∷ (within_goals test ++ within_goals first ++ within_goals other)
  goals_within (Exhaust' s goals) = Exhaust' s goals ∷ within_goals goals
  goals_within (Collect' x s goals y) = Collect' x s goals y ∷ within_goals goals
  goals_within (Accumulate' x s goals y) = Accumulate' x s goals y ∷ within_goals goals
  goals_within (Stoppable' s goals) = Stoppable' s goals ∷ within_goals goals
  goals_within (Select' site mode s lists) = Select' site mode s lists ∷ within_lists lists
  goals_within g = g ∷ []

  pub within_goals : {m : _} → Row_of-Goal m → List Goal
  within_goals end_of-Goal = []
  within_goals (more_of-Goal goal others) = goals_within goal ++ within_goals others

  pub within_lists : {m : _} → Row_of-Goal-Either-0-1 m → List Goal
  within_lists end_of-Goal-Either-0-1 = []
  within_lists (more_of-Goal-Either-0-1 s goals others) = within_goals goals ++ within_lists others

-- the goals of a body at every depth
abbrev pub all_goals_of : List Goal → List Goal
all_goals_of body = flat_map goals_within body

-- the term, where there is one
abbrev pub option_terms : Option Term → List Term
option_terms None = []
option_terms (Some term) = term ∷ []

-- the terms that a goal holds itself
abbrev pub terms_held : Goal-F Goal → List Term
terms_held (Print a) = a ∷ []
terms_held (GapN a) = a ∷ []
terms_held (Equal a b) = a ∷ b ∷ []
terms_held (Ask pred args many) = args
terms_held (Holds place args many) = args
terms_held (Now place args set) = args
terms_held (Query a b many) = a ∷ option_terms b
terms_held (Collect a goals b) = a ∷ b ∷ []
terms_held (Accumulate a goals b) = a ∷ b ∷ []
terms_held (Arith op a b c) = a ∷ b ∷ c ∷ []
terms_held (Compare op a b) = a ∷ b ∷ []
terms_held (Random a b c) = a ∷ b ∷ c ∷ []
terms_held (Test kind a) = a ∷ []
terms_held (IsObject a many) = a ∷ []
terms_held (Input a) = a ∷ []
terms_held (SplitWord a b) = a ∷ b ∷ []
terms_held (JoinWords a b) = a ∷ b ∷ []
terms_held goal = []
