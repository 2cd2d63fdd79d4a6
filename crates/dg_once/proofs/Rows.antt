-- A rule holds one term at most of each closure that stands directly in it, and so does each closure.
use Rattle.std.proofs.Common.{◌≡◌, ◌+◌, ◌≤◌, ℕ, List, [], ◌∷◌, ◌++◌, length, get_or, false, refl, ap, arith}
use Rattle.dg_base.specs.Mentions.{of_body}
use Rattle.dg_base.specs.Tree as tree
use Rattle.dg_base.specs.Tree.{Parts, Value, Values, Stmt, Stmts, Body, Arms, Changes}
use Rattle.dg_base.specs.declared.program.ClosureBody.{ClosureBody}
use Rattle.dg_base.specs.declared.program.Goal.{Goal}
use Rattle.dg_base.specs.declared.program.Goal.TheOpen as form
use Rattle.dg_base.specs.declared.program.Goal.TheVariants as goal
use Rattle.dg_scopes.specs.Closures.{variables_in}
use Rattle.dg_core.specs.Bodies.{Closed, no_closure, a_closure, joined_closures, in_value, in_values, in_parts, in_stmt, in_stmts, in_branches, in_arms, in_changes}
use Rattle.dg_core.specs.Core.{Before, scope_of, rule_of, failing}
use Rattle.dg_core.specs.Goals.{Scope, past, body_goals, count_selects}
use Rattle.dg_core.specs.Rows.{size, selects_within, layout_at, Home, scope_in, rows, closures_in_rule, closure_rows}
use Rattle.dg_core.specs.Variables.{layouts_in}
use Rattle.dg_core.proofs.BodyLemmas.{many, many_join}
use Rattle.dg_core.proofs.RowLemmas.{rows_counted}
use Rattle.dg_fits.specs.Once.{in_body, in_rules, in_closures}
use Rattle.dg_once.proofs.Goals.{body_append, goal_counts, body_few}
use Rattle.dg_once.proofs.Terms.{parts_few}

-- ## Closures with those in their bodies

abbrev AreOwn : Closed → Type 0
AreOwn no_closure = Unit {0}
AreOwn (a_closure b inner cs) = (inner ≡ in_branches b) × AreOwn inner × AreOwn cs

join_own : (a b : Closed) → AreOwn a → AreOwn b → AreOwn (joined_closures a b)
join_own no_closure b h k = k
join_own (a_closure x inner a) b h k = (h.0, h.1, join_own a b h.2 k)

mutual
  value_own : (v : Value) → AreOwn (in_value v)
  value_own (tree.closure b) = (refl, branches_own b, tt)
  value_own (tree.plain_list vs) = values_own vs
  value_own (tree.tailed_list vs v) = join_own (in_values vs) (in_value v) (values_own vs) (value_own v)
  value_own v = tt

  values_own : (vs : Values) → AreOwn (in_values vs)
  values_own tree.no_values = tt
  values_own (tree.value v vs) = join_own (in_value v) (in_values vs) (value_own v) (values_own vs)

  parts_own : (ps : Parts) → AreOwn (in_parts ps)
  parts_own tree.no_parts = tt
  parts_own (tree.part (tree.part_word w) ps) = parts_own ps
  parts_own (tree.part (tree.part_value v) ps) = join_own (in_value v) (in_parts ps) (value_own v) (parts_own ps)

  stmt_own : (x : Stmt) → AreOwn (in_stmt x)
  stmt_own (tree.print v) = value_own v
  stmt_own (tree.ask ps) = parts_own ps
  stmt_own (tree.ask_all ps) = parts_own ps
  stmt_own (tree.ask_not ps) = parts_own ps
  stmt_own (tree.group b) = branches_own b
  stmt_own (tree.not_group b) = branches_own b
  stmt_own (tree.now cs) = changes_own cs
  stmt_own (tree.choice arms) = arms_own arms
  stmt_own (tree.choice_else arms b) = join_own (in_arms arms) (in_branches b) (arms_own arms) (branches_own b)
  stmt_own (tree.exhaust x) = stmt_own x
  stmt_own (tree.stoppable x) = stmt_own x
  stmt_own (tree.collect v b into) =
      join_own (in_value v) (joined_closures (in_branches b) (in_value into)) (value_own v) (join_own (in_branches b) (in_value into) (branches_own b) (value_own into))
  stmt_own (tree.accumulate v b into) =
      join_own (in_value v) (joined_closures (in_branches b) (in_value into)) (value_own v) (join_own (in_branches b) (in_value into) (branches_own b) (value_own into))
  stmt_own (tree.select mode b) = branches_own b
  stmt_own (tree.first_answer b) = branches_own b
  stmt_own x = tt

  stmts_own : (xs : Stmts) → AreOwn (in_stmts xs)
  stmts_own tree.no_stmts = tt
  stmts_own (tree.stmt x xs) = join_own (in_stmt x) (in_stmts xs) (stmt_own x) (stmts_own xs)

  branches_own : (b : Body) → AreOwn (in_branches b)
  branches_own tree.no_branches = tt
  branches_own (tree.branch xs b) = join_own (in_stmts xs) (in_branches b) (stmts_own xs) (branches_own b)

  arms_own : (arms : Arms) → AreOwn (in_arms arms)
  arms_own tree.no_arms = tt
  arms_own (tree.arm c b arms) =
      join_own (in_branches c) (joined_closures (in_branches b) (in_arms arms)) (branches_own c) (join_own (in_branches b) (in_arms arms) (branches_own b) (arms_own arms))

  changes_own : (cs : Changes) → AreOwn (in_changes cs)
  changes_own tree.no_changes = tt
  changes_own (tree.change ps set cs) = join_own (in_parts ps) (in_changes cs) (parts_own ps) (changes_own cs)

-- ## Rows

closures_append : (xs ys : List ClosureBody) → in_closures (xs ++ ys) ≡ in_closures xs + in_closures ys
closures_append [] ys = omega arith
closures_append (x ∷ xs) ys = omega (arith, closures_append xs ys)

-- the bodies of closures leave a term for each of those that stand directly
rows_few : (home : Home) (vars : List (List ℕ)) (places : List ℕ) (i n : ℕ) (cs : Closed) → AreOwn cs → in_closures (rows home vars places i n cs) + many cs ≤ size cs
rows_few home vars places i n no_closure own = omega arith
rows_few home vars places i n (a_closure b inner cs) own =
    let l = layout_at home.layouts (get_or places i 0) in
    let m = n + count_selects (of_body false b) in
    let inside = rows home (variables_in l) l.places 0 m inner in
    let rest = rows home vars places (i + 1) (m + selects_within inner) cs in
    omega (
      arith,
      body_few (scope_in home (variables_in l) l.places) n b,
      ap many own.0,
      closures_append inside rest,
      rows_few home (variables_in l) l.places 0 m inner own.1,
      rows_few home vars places (i + 1) (m + selects_within inner) cs own.2,
    )

-- ## Rules

pub failing_behind : in_body failing ≡ 0
failing_behind =
    omega (arith, body_append (goal.Just ∷ []) (goal.Fail ∷ []), goal_counts goal.Just form.Just goal.outs-Just, goal_counts goal.Fail form.Fail goal.outs-Fail)

pub rule_few : (around : Scope) (n : Before) (ps : Parts) (b : Body) (behind : List Goal) → in_body behind ≡ 0 → in_rules (rule_of around n ps b behind ∷ []) ≤ many (closures_in_rule ps b)
rule_few around n ps b behind none =
    let s = scope_of around n.closures ps b in
    let within = past s (in_parts ps) in
    omega (
      arith,
      none,
      parts_few s ps,
      body_append (body_goals within n.selects b) behind,
      body_few within n.selects b,
      many_join (in_parts ps) (in_branches b),
    )

pub rule_rows_few : (around : Scope) (first n : ℕ) (ps : Parts) (b : Body) → in_closures (closure_rows around first n ps b) + many (closures_in_rule ps b) ≤ length (closure_rows around first n ps b)
rule_rows_few around first n ps b =
    let ls = layouts_in ps b in
    let home : Home = record { around = around; layouts = ls.closures; first = first } in
    let cs = closures_in_rule ps b in
    omega (
      arith,
      rows_few home ls.variables ls.places 0 n cs (join_own (in_parts ps) (in_branches b) (parts_own ps) (branches_own b)),
      rows_counted home ls.variables ls.places 0 n cs,
    )
