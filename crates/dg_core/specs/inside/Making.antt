-- What comes of terms and goals that are made with a stack of what is left. The proofs alone rest on it.
use Rattle.std.specs.Prelude.{◌≡◌, ◌<◌, ℕ, ◌+◌, ◌*◌, List, [], ◌∷◌, ◌++◌, false, Option, Some, None, length, map, reverse}
use Rattle.dg_base.specs.Mentions.{of_stmt, of_stmts, of_body, of_branches, of_arms}
use Rattle.std.specs.Borrow.{Bor}
use Rattle.dg_base.specs.Tree as tree
use Rattle.dg_base.specs.Tree.{values_of, stmts_of, arms_of}
use Rattle.dg_base.specs.TreeView.{value_view, stmt_view, body_view, arm_view, branches_view}
use Rattle.dg_base.specs.Walk.{value_size, values_size, stmt_size, stmts_size, branches_size, arms_size}
use Rattle.dg_base.specs.declared.program.Goal.{Goal}
use Rattle.dg_base.specs.declared.program.Goal.TheVariants as goal
use Rattle.dg_base.specs.declared.program.Term.{Term}
use Rattle.dg_base.specs.declared.program.Term.TheVariants as term
use Rattle.dg_base.specs.declared.tree.Body.{Body}
use Rattle.dg_base.specs.declared.tree.Value.{Value}
use Rattle.dg_core.specs.Bodies.{Closed, no_closure, joined_closures, direct, in_value, in_values, in_stmt, in_stmts, in_branches, in_arms}
use Rattle.dg_core.specs.Goals.{Scope, at, past, number_in, term_of, listed, count_selects, unit, stmt_goals, goals_of, lists, arm_goals}
use Rattle.dg_core.specs.declared.terms.TermWork.{TermWork}
use Rattle.dg_core.specs.declared.terms.TermWork.TheVariants as work
use Rattle.dg_core.specs.declared.goals.Close.{Close}
use Rattle.dg_core.specs.declared.goals.Close.TheVariants as close
use Rattle.dg_core.specs.declared.goals.GoalWork.{GoalWork}
use Rattle.dg_core.specs.declared.goals.GoalWork.TheVariants as left
use Rattle.dg_core.specs.declared.goals.Making.{Making}

-- ---- terms, the last of them first

-- The terms that were made, and the bodies of the closures that were found.
pub record Terms : Type 0 where
  pub terms : List Term
  pub found : List tree.Body

-- The last two terms as a pair.
abbrev pub paired : List Term → List Term
paired [] = []
paired (tail ∷ []) = []
paired (tail ∷ first ∷ ts) = term.Pair first tail ∷ ts

-- The last term, and the empty list where there is none.
abbrev pub last_term : List Term → Term
last_term [] = term.Nil
last_term (t ∷ ts) = t

-- The closures in a list's tail, and its term.
abbrev pub in_tail : Option Value → Closed
in_tail None = no_closure
in_tail (Some v) = in_value (value_view v)

abbrev pub tail_of : Scope → Option Value → Term
tail_of scope None = term.Nil
tail_of scope (Some v) = term_of scope (value_view v)

-- What was made, and a term in which these closures stand.
abbrev pub with_term : Closed → Term → Terms → Terms
with_term cs t m = record { terms = t ∷ m.terms; found = m.found ++ direct cs }

abbrev pub listed_tail : Scope → tree.Values → Option Value → Term
listed_tail scope vs tail = listed scope vs (tail_of (past scope (in_values vs)) tail)

-- What is made behind one part of what is left.
abbrev pub term_behind : Scope → TermWork → Terms → Terms
term_behind scope (work.Value v) m = with_term (in_value (value_view v.now)) (term_of (at scope (length m.found)) (value_view v.now)) m
term_behind scope (work.Values vs tail) m =
    let all = values_of (map value_view vs.now) in
    with_term (joined_closures (in_values all) (in_tail tail.now)) (listed_tail (at scope (length m.found)) all tail.now) m
term_behind scope work.Pair m = record m { terms = paired m.terms }

-- What is made behind all that is left, the last of it being looked at first.
abbrev pub terms_behind : Scope → List TermWork → Terms → Terms
terms_behind scope [] m = m
terms_behind scope (w ∷ ws) m = term_behind scope w (terms_behind scope ws m)

abbrev pub tail_weight : Option Value → ℕ
tail_weight None = 0
tail_weight (Some v) = 2 * value_size (value_view v)

abbrev pub term_weight : TermWork → ℕ
term_weight (work.Value v) = 2 * value_size (value_view v.now)
term_weight (work.Values vs tail) = 1 + (2 * values_size (values_of (map value_view vs.now)) + tail_weight tail.now)
term_weight work.Pair = 1

abbrev pub terms_weight : List TermWork → ℕ
terms_weight [] = 0
terms_weight (w ∷ ws) = term_weight w + terms_weight ws

-- ---- goals

-- Lists of goals and lists of such lists, the last begun first, and the selects so far.
pub record Made : Type 0 where
  pub goals : List (List Goal)
  pub lists : List (List (List Goal))
  pub values : List Term
  pub sites : ℕ
  pub found : List tree.Body

-- Bodies of closures that are lent.
abbrev pub bodies_view : List (Bor Body) → List tree.Body
bodies_view bs = map (λ (b : Bor Body). body_view b.now) bs

abbrev pub made : Making → Made
made m = record { goals = reverse m.goals; lists = reverse m.lists; values = reverse m.values; sites = m.sites; found = bodies_view m.found }

-- A scope where the closures that were found stand before.
abbrev pub here : Scope → Made → Scope
here scope m = at scope (length m.found)

abbrev pub first_of : {A : Type 0} → List (List A) → List A
first_of [] = []
first_of (xs ∷ xss) = xs

abbrev pub others_of : {A : Type 0} → List (List A) → List (List A)
others_of [] = []
others_of (xs ∷ xss) = xss

-- The first list with more behind it, where there is one.
abbrev pub with_more : {A : Type 0} → List A → List (List A) → List (List A)
with_more more [] = []
with_more more (xs ∷ xss) = (xs ++ more) ∷ xss

-- More goals, in which so many selects and these closures stand.
abbrev pub with_goals : List Goal → ℕ → Closed → Made → Made
with_goals goals k cs m = record m { goals = with_more goals m.goals; sites = m.sites + k; found = m.found ++ direct cs }

-- More goals, in which no select and these closures stand.
abbrev pub added : List Goal → Closed → Made → Made
added goals cs m = record m { goals = with_more goals m.goals; found = m.found ++ direct cs }

-- A value that is kept until the goals behind it are made.
abbrev pub held : Scope → tree.Value → Made → Made
held scope v m = record m { values = term_of (here scope m) v ∷ m.values; found = m.found ++ direct (in_value v) }

-- The first list is ended, and makes a goal of the list around it.
abbrev pub wrapped : (List Goal → Goal) → Made → Made
wrapped f m = record m { goals = with_more (f (first_of m.goals) ∷ []) (others_of m.goals) }

-- The first list of lists is ended, and makes a goal.
abbrev pub gathered : (List (List Goal) → Goal) → Made → Made
gathered f m = record m { goals = with_more (f (first_of m.lists) ∷ []) m.goals; lists = others_of m.lists }

abbrev pub other_terms : List Term → List Term
other_terms [] = []
other_terms (t ∷ ts) = ts

-- The first list is ended, and makes a goal of the last value and of this one.
abbrev pub collected : (Term → List Goal → Term → Goal) → Scope → tree.Value → Made → Made
collected f scope into m = record m {
  goals = with_more (f (last_term m.values) (first_of m.goals) (term_of (here scope m) into) ∷ []) (others_of m.goals);
  values = other_terms m.values;
  found = m.found ++ direct (in_value into);
}

-- A condition, what follows it and the other way make a goal.
abbrev pub chosen : Made → Made
chosen m =
    let rest = others_of m.goals in
    record m { goals = with_more (goal.If (first_of (others_of rest)) (first_of rest) (first_of m.goals) ∷ []) (others_of (others_of rest)) }

abbrev pub closed_by : Scope → Close → Made → Made
closed_by scope close.Not m = wrapped goal.Not m
closed_by scope close.Once m = wrapped goal.Once m
closed_by scope close.Exhaust m = wrapped goal.Exhaust m
closed_by scope close.Stoppable m = wrapped goal.Stoppable m
closed_by scope (close.Collect into) m = collected goal.Collect scope (value_view into.now) m
closed_by scope (close.Accumulate into) m = collected goal.Accumulate scope (value_view into.now) m
closed_by scope close.If m = chosen m
closed_by scope close.Either m = gathered goal.Either m
closed_by scope (close.Select site mode) m = gathered (goal.Select site mode) m

-- What is done where no condition holds.
abbrev pub otherwise : Scope → ℕ → Option Body → List Goal
otherwise scope n None = []
otherwise scope n (Some b) = unit (lists scope n (body_view b))

abbrev pub selects_otherwise : Option Body → ℕ
selects_otherwise None = 0
selects_otherwise (Some b) = count_selects (of_body false (body_view b))

abbrev pub in_other : Option Body → Closed
in_other None = no_closure
in_other (Some b) = in_branches (body_view b)

-- What is made behind a body.
abbrev pub body_behind : Scope → tree.Body → Made → Made
body_behind scope b m = with_goals (unit (lists (here scope m) m.sites b)) (count_selects (of_body false b)) (in_branches b) m

-- What is made behind one part of what is left.
abbrev pub goal_behind : Scope → GoalWork → Made → Made
goal_behind scope (left.Stmt s) m = let x = stmt_view s.now in with_goals (stmt_goals (here scope m) m.sites x) (count_selects (of_stmt false x)) (in_stmt x) m
goal_behind scope (left.Stmts ss) m =
    let all = stmts_of (map stmt_view ss.now) in
    with_goals (goals_of (here scope m) m.sites all) (count_selects (of_stmts false all)) (in_stmts all) m
goal_behind scope (left.Body b) m = body_behind scope (body_view b.now) m
goal_behind scope (left.Branches bs) m =
    let all = branches_view (map (map stmt_view) bs.now) in
    record m {
      lists = with_more (lists (here scope m) m.sites all) m.lists;
      sites = m.sites + count_selects (of_branches false all);
      found = m.found ++ direct (in_branches all);
    }
goal_behind scope (left.Arms arms other) m =
    let all = arms_of (map arm_view arms.now) in
    let behind = m.sites + count_selects (of_arms false all) in
    record m {
      goals = with_more (arm_goals (here scope m) m.sites all (otherwise (past (here scope m) (in_arms all)) behind other.now)) m.goals;
      sites = behind + selects_otherwise other.now;
      found = m.found ++ direct (joined_closures (in_arms all) (in_other other.now));
    }
goal_behind scope left.Begin m = record m { goals = [] ∷ m.goals }
goal_behind scope left.BeginLists m = record m { lists = [] ∷ m.lists }
goal_behind scope left.Branch m = record m { goals = others_of m.goals; lists = with_more (first_of m.goals ∷ []) m.lists }
goal_behind scope (left.End c) m = closed_by scope c m

-- What is made behind all that is left, the last of it being looked at first.
abbrev pub goals_behind : Scope → List GoalWork → Made → Made
goals_behind scope [] m = m
goals_behind scope (w ∷ ws) m = goal_behind scope w (goals_behind scope ws m)

abbrev pub other_weight : Option Body → ℕ
other_weight None = 0
other_weight (Some b) = 3 * branches_size (body_view b) + 3

abbrev pub goal_weight : GoalWork → ℕ
goal_weight (left.Stmt s) = 3 * stmt_size (stmt_view s.now)
goal_weight (left.Stmts ss) = 3 * stmts_size (stmts_of (map stmt_view ss.now))
goal_weight (left.Body b) = 3 * branches_size (body_view b.now) + 3
goal_weight (left.Branches bs) = 3 * branches_size (branches_view (map (map stmt_view) bs.now))
goal_weight (left.Arms arms other) = 3 * arms_size (arms_of (map arm_view arms.now)) + other_weight other.now
goal_weight w = 1

abbrev pub goals_weight : List GoalWork → ℕ
goals_weight [] = 0
goals_weight (w ∷ ws) = goal_weight w + goals_weight ws

-- A part of what is left was taken: what is left makes the same of what is made, and is smaller.
pub record Takes (scope : Scope) (work : GoalWork) (old new : List GoalWork) (before after : Made) : Type 0 where
  pub behind : goals_behind scope new after ≡ goals_behind scope old (goal_behind scope work before)
  pub weight : goals_weight new < goal_weight work + goals_weight old

-- A part of what is left was taken apart, whatever is made.
pub record ComesTo (work : GoalWork) (old new : List GoalWork) : Type 0 where
  pub behind : (scope : Scope) (m : Made) → goals_behind scope new m ≡ goals_behind scope old (goal_behind scope work m)
  pub weight : goals_weight new < goal_weight work + goals_weight old
