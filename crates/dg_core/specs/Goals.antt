-- From values to terms and from statements to goals: hold them against the chapters of the Dialog manual on values, control, choosing and the world.
use Rattle.std.specs.Prelude.{ℕ, ◌+◌, List, [], ◌∷◌, ◌++◌, Bool, true, false, Option, Some, None, length, nat_lt, position, slice_get, if◌then◌else◌}
use Rattle.std.specs.Str.{bytes_eq}
use Rattle.dg_base.specs.Heads.{name_of}
use Rattle.dg_base.specs.Mentions as mentions
use Rattle.dg_base.specs.Mentions.{Mentions, nothing, thing, closed, of_stmt, of_branches, of_body, of_arms}
use Rattle.dg_base.specs.Names.{builtin_named}
use Rattle.dg_base.specs.Tree.{Parts, Value, num, dict_word, object_name, variable, plain_list, tailed_list, closure, Values, no_values, value, Stmt, text, print, ask, ask_all, ask_not, group, not_group, now, choice, choice_else, exhaust, stoppable, collect, accumulate, select, first_answer, Stmts, no_stmts, stmt, Body, no_branches, branch, Arms, no_arms, arm, Changes, no_changes, change}
use Rattle.dg_base.specs.declared.names.Builtin.{Builtin}
use Rattle.dg_base.specs.declared.names.Builtin.TheVariants as built_in
use Rattle.dg_base.specs.declared.program.Term.{Term}
use Rattle.dg_base.specs.declared.program.Term.TheVariants as term
use Rattle.dg_base.specs.declared.program.Goal.{Goal}
use Rattle.dg_base.specs.declared.program.Goal.TheVariants as goal
use Rattle.dg_names.specs.Named.{Named}
use Rattle.dg_core.specs.Bodies.{Closed, direct, in_value, in_values, in_parts, in_stmt, in_stmts, in_branches, in_arms}
use Rattle.dg_core.specs.Places.{head_values}

-- What the names in a rule stand for: those of the program, the places, and the variables of the rule. With them, the numbers of the closures
-- that stand directly in it, and how many of these stand before what is looked at.
pub record Scope : Type 0 where
  pub names : Named
  pub places : List (List ℕ)
  pub variables : List (List ℕ)
  pub closures : List ℕ
  pub before : ℕ

-- A scope where so many stand before.
abbrev pub at : Scope → ℕ → Scope
at scope k = record scope { before = k }

-- A scope behind these closures.
abbrev pub past : Scope → Closed → Scope
past scope cs = at scope (scope.before + length (direct cs))

-- ---- numbers

-- The number of a place, and 0 where there is none.
abbrev pub place_number : Option ℕ → ℕ
place_number None = 0
place_number (Some n) = n

-- A number of 16 bits, and 0 for another one.
abbrev pub in_16_bits : ℕ → ℕ
in_16_bits n = if nat_lt n 65536 then n else 0

-- The number of a name among names, and 0 where it isn't there.
abbrev pub number_in : List (List ℕ) → List ℕ → ℕ
number_in names name = in_16_bits (place_number (position (bytes_eq name) names))

-- ---- terms

-- The closure with this number, and the empty list where there is none.
abbrev pub closure_of : Option ℕ → Term
closure_of None = term.Nil
closure_of (Some k) = term.Closure (in_16_bits k)

abbrev mutual
  -- The term of a value. What rewriting leaves nowhere stands as the empty list.
  pub term_of : Scope → Value → Term
  term_of scope (num n) = term.Num n
  term_of scope (dict_word w) = term.Word (number_in scope.names.words w)
  term_of scope (object_name n) = term.Object (number_in scope.names.objects n)
  term_of scope (variable n) = term.Var (number_in scope.variables n)
  term_of scope (plain_list vs) = listed scope vs term.Nil
  term_of scope (tailed_list vs v) = listed scope vs (term_of (past scope (in_values vs)) v)
  term_of scope (closure b) = closure_of (slice_get scope.closures scope.before)
  term_of scope v = term.Nil

  -- Elements in front of a tail.
  pub listed : Scope → Values → Term → Term
  listed scope no_values tail = tail
  listed scope (value v vs) tail = term.Pair (term_of scope v) (listed (past scope (in_value v)) vs tail)

-- The terms of values.
abbrev pub terms_of_values : Scope → List Value → List Term
terms_of_values scope [] = []
terms_of_values scope (v ∷ vs) = term_of scope v ∷ terms_of_values (past scope (in_value v)) vs

-- The terms of a head or a query.
abbrev pub terms_of : Scope → Parts → List Term
terms_of scope ps = terms_of_values scope (head_values ps)

-- ---- queries

-- The term with this number, and the empty list where there is none.
abbrev pub or_nil : Option Term → Term
or_nil None = term.Nil
or_nil (Some t) = t

abbrev pub arg : List Term → ℕ → Term
arg ts k = or_nil (slice_get ts k)

-- The goal of a built-in query with these terms, which asks for many answers or for the first.
abbrev pub built_in_goal : Term → Term → Term → Bool → Builtin → Goal
built_in_goal a b c many built_in.Equal = goal.Equal a b
built_in_goal a b c many (built_in.Arith op) = goal.Arith op a b c
built_in_goal a b c many (built_in.Compare op) = goal.Compare op a b
built_in_goal a b c many built_in.Random = goal.Random a b c
built_in_goal a b c many (built_in.Test kind) = goal.Test kind a
built_in_goal a b c many built_in.Object = goal.IsObject a many
built_in_goal a b c many built_in.Fail = goal.Fail
built_in_goal a b c many built_in.Just = goal.Just
built_in_goal a b c many built_in.Stop = goal.Stop
built_in_goal a b c many built_in.Quit = goal.Quit
built_in_goal a b c many built_in.RepeatForever = goal.Forever
built_in_goal a b c many built_in.Query = goal.Query a None many
built_in_goal a b c many built_in.QueryWith = goal.Query a (Some b) many
built_in_goal a b c many built_in.GetInput = goal.Input a
built_in_goal a b c many built_in.SplitWord = goal.SplitWord a b
built_in_goal a b c many built_in.JoinWords = goal.JoinWords a b
built_in_goal a b c many (built_in.Gap kind) = goal.Gap kind
built_in_goal a b c many built_in.Spaces = goal.GapN a
built_in_goal a b c many built_in.HasParent = goal.Holds 0 (a ∷ b ∷ []) many

-- The goal of a built-in query of these terms.
abbrev pub goal_with : List Term → Bool → Builtin → Goal
goal_with ts many b = built_in_goal (arg ts 0) (arg ts 1) (arg ts 2) many b

-- The goal of a query of a predicate, which may have a place.
abbrev pub place_goal : Scope → Parts → Bool → Option ℕ → Goal
place_goal scope ps many None = goal.Ask (number_in scope.names.preds (name_of ps)) (terms_of scope ps) many
place_goal scope ps many (Some place) = goal.Holds (in_16_bits place) (terms_of scope ps) many

-- The goal of a query, by the built-in one of its name where there is one.
abbrev pub query_goal : Scope → Parts → Bool → Option Builtin → Goal
query_goal scope ps many (Some b) = goal_with (terms_of scope ps) many b
query_goal scope ps many None = place_goal scope ps many (position (bytes_eq (name_of ps)) scope.places)

-- The goal of a query.
abbrev pub asked : Scope → Parts → Bool → Goal
asked scope ps many = query_goal scope ps many (builtin_named (name_of ps))

-- The goals of changes, one after the other.
abbrev pub change_goals : Scope → Changes → List Goal
change_goals scope no_changes = []
change_goals scope (change ps set cs) = goal.Now (number_in scope.places (name_of ps)) (terms_of scope ps) set ∷ change_goals (past scope (in_parts ps)) cs

-- ---- statements

-- The lists of a body as a unit: one list is its goals, and several are one goal.
abbrev pub unit : List (List Goal) → List Goal
unit [] = []
unit (goals ∷ []) = goals
unit lists = goal.Either lists ∷ []

-- The selects that are mentioned outside closures.
abbrev pub count_selects : Mentions → ℕ
count_selects nothing = 0
count_selects (thing (mentions.select n) ms) = count_selects ms + 1
count_selects (thing t ms) = count_selects ms
count_selects (closed inner ms) = count_selects ms

-- The goals of statements, a select having the number of those that stand before it.
abbrev mutual
  pub stmt_goals : Scope → ℕ → Stmt → List Goal
  stmt_goals scope n (text w) = goal.Text w ∷ []
  stmt_goals scope n (print v) = goal.Print (term_of scope v) ∷ []
  stmt_goals scope n (ask ps) = asked scope ps false ∷ []
  stmt_goals scope n (ask_all ps) = asked scope ps true ∷ []
  stmt_goals scope n (ask_not ps) = goal.Not (asked scope ps false ∷ []) ∷ []
  stmt_goals scope n (group b) = unit (lists scope n b)
  stmt_goals scope n (not_group b) = goal.Not (unit (lists scope n b)) ∷ []
  stmt_goals scope n (now cs) = change_goals scope cs
  stmt_goals scope n (choice arms) = arm_goals scope n arms []
  stmt_goals scope n (choice_else arms b) = arm_goals scope n arms (unit (lists (past scope (in_arms arms)) (n + count_selects (of_arms false arms)) b))
  stmt_goals scope n (exhaust s) = goal.Exhaust (stmt_goals scope n s) ∷ []
  stmt_goals scope n (stoppable s) = goal.Stoppable (stmt_goals scope n s) ∷ []
  stmt_goals scope n (collect v b into) =
      let within = past scope (in_value v) in
      goal.Collect (term_of scope v) (unit (lists within n b)) (term_of (past within (in_branches b)) into) ∷ []
  stmt_goals scope n (accumulate v b into) =
      let within = past scope (in_value v) in
      goal.Accumulate (term_of scope v) (unit (lists within n b)) (term_of (past within (in_branches b)) into) ∷ []
  stmt_goals scope n (select mode b) = goal.Select n mode (lists scope (n + 1) b) ∷ []
  stmt_goals scope n (first_answer b) = goal.Once (unit (lists scope n b)) ∷ []

  -- One statement after the other.
  pub goals_of : Scope → ℕ → Stmts → List Goal
  goals_of scope n no_stmts = []
  goals_of scope n (stmt s ss) = stmt_goals scope n s ++ goals_of (past scope (in_stmt s)) (n + count_selects (of_stmt false s)) ss

  -- The list of each branch.
  pub lists : Scope → ℕ → Body → List (List Goal)
  lists scope n no_branches = []
  lists scope n (branch ss b) = goals_of scope n ss ∷ lists (past scope (in_stmts ss)) (n + count_selects (mentions.of_stmts false ss)) b

  -- Conditions, each with what follows it, and what is done where none holds.
  pub arm_goals : Scope → ℕ → Arms → List Goal → List Goal
  arm_goals scope n no_arms otherwise = otherwise
  arm_goals scope n (arm c b arms) otherwise =
      let behind = n + count_selects (of_body false c) in
      let between = past scope (in_branches c) in
      let last = behind + count_selects (of_body false b) in
      goal.If (unit (lists scope n c)) (unit (lists between behind b)) (arm_goals (past between (in_branches b)) last arms otherwise) ∷ []

-- The goals of a body.
abbrev pub body_goals : Scope → ℕ → Body → List Goal
body_goals scope n b = unit (lists scope n b)
