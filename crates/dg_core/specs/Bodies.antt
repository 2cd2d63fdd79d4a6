-- The closures that stand in a rule, each by its body: hold them against the chapter of the Dialog manual on closures.
use Rattle.std.specs.Prelude.{List, [], ◌∷◌}
use Rattle.dg_base.specs.Tree.{Parts, no_parts, part, part_word, part_value, Value, plain_list, tailed_list, closure, Values, no_values, value, Stmt, print, ask, ask_all, ask_not, group, not_group, now, choice, choice_else, exhaust, stoppable, collect, accumulate, select, first_answer, Stmts, no_stmts, stmt, Body, no_branches, branch, Arms, no_arms, arm, Changes, no_changes, change}

-- The closures that stand somewhere, one after the other: the body of each, and the closures in it.
pub data Closed : Type 0 where
  no_closure : Closed
  a_closure : Body → Closed → Closed → Closed

-- Some closures, and then others.
abbrev pub joined_closures : Closed → Closed → Closed
joined_closures no_closure after = after
joined_closures (a_closure b inner cs) after = a_closure b inner (joined_closures cs after)

-- Those that stand in no other closure.
abbrev pub direct : Closed → List Body
direct no_closure = []
direct (a_closure b inner cs) = b ∷ direct cs

-- No closure stands in a nested query that is left: rewriting leaves none.
abbrev mutual
  pub in_value : Value → Closed
  in_value (closure b) = a_closure b (in_branches b) no_closure
  in_value (plain_list vs) = in_values vs
  in_value (tailed_list vs v) = joined_closures (in_values vs) (in_value v)
  in_value v = no_closure

  pub in_values : Values → Closed
  in_values no_values = no_closure
  in_values (value v vs) = joined_closures (in_value v) (in_values vs)

  pub in_parts : Parts → Closed
  in_parts no_parts = no_closure
  in_parts (part (part_word w) ps) = in_parts ps
  in_parts (part (part_value v) ps) = joined_closures (in_value v) (in_parts ps)

  pub in_stmt : Stmt → Closed
  in_stmt (print v) = in_value v
  in_stmt (ask ps) = in_parts ps
  in_stmt (ask_all ps) = in_parts ps
  in_stmt (ask_not ps) = in_parts ps
  in_stmt (group b) = in_branches b
  in_stmt (not_group b) = in_branches b
  in_stmt (now cs) = in_changes cs
  in_stmt (choice arms) = in_arms arms
  in_stmt (choice_else arms b) = joined_closures (in_arms arms) (in_branches b)
  in_stmt (exhaust s) = in_stmt s
  in_stmt (stoppable s) = in_stmt s
  in_stmt (collect v b into) = joined_closures (in_value v) (joined_closures (in_branches b) (in_value into))
  in_stmt (accumulate v b into) = joined_closures (in_value v) (joined_closures (in_branches b) (in_value into))
  in_stmt (select mode b) = in_branches b
  in_stmt (first_answer b) = in_branches b
  in_stmt s = no_closure

  pub in_stmts : Stmts → Closed
  in_stmts no_stmts = no_closure
  in_stmts (stmt s ss) = joined_closures (in_stmt s) (in_stmts ss)

  pub in_branches : Body → Closed
  in_branches no_branches = no_closure
  in_branches (branch ss b) = joined_closures (in_stmts ss) (in_branches b)

  pub in_arms : Arms → Closed
  in_arms no_arms = no_closure
  in_arms (arm c b arms) = joined_closures (in_branches c) (joined_closures (in_branches b) (in_arms arms))

  pub in_changes : Changes → Closed
  in_changes no_changes = no_closure
  in_changes (change ps set cs) = joined_closures (in_parts ps) (in_changes cs)
