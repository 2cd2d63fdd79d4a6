-- Of each closure that stands in statements there is one term at most.
use Rattle.std.proofs.Common.{◌≡◌, ◌+◌, ◌≤◌, ℕ, List, [], ◌∷◌, ◌++◌, Bool, true, false, Option, Some, None, position, refl, ◌∙◌, ap, arith}
use Rattle.std.specs.List.{flat_map}
use Rattle.std.specs.Str.{bytes_eq}
use Rattle.std.proofs.lemmas.List.Concat.{flat_map-append}
use Rattle.dg_base.specs.Goals.{goals_within, all_goals_of, terms_held}
use Rattle.dg_base.specs.Heads.{name_of}
use Rattle.dg_base.specs.Mentions.{of_stmt, of_stmts, of_body, of_arms}
use Rattle.dg_base.specs.Names.{builtin_named}
use Rattle.dg_base.specs.Tree as tree
use Rattle.dg_base.specs.Tree.{Parts, Stmt, Stmts, Body, Arms, Changes}
use Rattle.dg_base.specs.declared.names.Builtin.{Builtin}
use Rattle.dg_base.specs.declared.names.Builtin.TheVariants as built_in
use Rattle.dg_base.specs.declared.program.Goal.{Goal, out-Goal}
use Rattle.dg_base.specs.declared.program.Goal.TheVariants as goal
use Rattle.dg_base.specs.declared.program.Goal.TheOpen as form
use Rattle.dg_base.specs.declared.program.Term.{Term}
use Rattle.dg_base.proofs.NodeLemmas.{inside, within_out}
use Rattle.dg_core.specs.Bodies.{joined_closures, in_value, in_parts, in_stmt, in_stmts, in_branches, in_arms, in_changes}
use Rattle.dg_core.specs.Goals.{Scope, past, in_16_bits, number_in, term_of, terms_of, arg, built_in_goal, place_goal, query_goal, asked, change_goals, unit, count_selects, stmt_goals, goals_of, lists, arm_goals, body_goals}
use Rattle.dg_core.proofs.BodyLemmas.{many, many_join}
use Rattle.dg_fits.specs.Once.{in_term, in_terms, in_goals, in_body}
use Rattle.dg_once.proofs.Terms.{term_few, parts_few, three_few}

pub goals_append : (xs ys : List Goal) → in_goals (xs ++ ys) ≡ in_goals xs + in_goals ys
goals_append [] ys = omega arith
goals_append (x ∷ xs) ys = omega (arith, goals_append xs ys)

pub body_append : (xs ys : List Goal) → in_body (xs ++ ys) ≡ in_body xs + in_body ys
body_append xs ys = ap in_goals (flat_map-append goals_within xs ys) ∙ goals_append (all_goals_of xs) (all_goals_of ys)

-- a goal counts its own terms, and the goals in it
pub goal_counts : (g : Goal) (layer : form.Goal-F Goal) → out-Goal g ≡ layer → in_body (g ∷ []) ≡ in_terms (terms_held layer) + in_goals (inside layer)
goal_counts g layer is =
    omega (
      arith,
      goals_append (goals_within g) [],
      ap in_goals (within_out g),
      ap (λ (l : form.Goal-F Goal). in_terms (terms_held l)) is,
      ap (λ (l : form.Goal-F Goal). in_goals (inside l)) is,
    )

-- ## Queries

built_in_few : (a b c : Term) (all : Bool) (q : Builtin) → in_body (built_in_goal a b c all q ∷ []) ≤ in_term a + in_term b + in_term c
built_in_few a b c all built_in.Equal = omega (arith, goal_counts _ (form.Equal a b) (goal.outs-Equal _ _))
built_in_few a b c all (built_in.Arith op) = omega (arith, goal_counts _ (form.Arith op a b c) (goal.outs-Arith _ _ _ _))
built_in_few a b c all (built_in.Compare op) = omega (arith, goal_counts _ (form.Compare op a b) (goal.outs-Compare _ _ _))
built_in_few a b c all built_in.Random = omega (arith, goal_counts _ (form.Random a b c) (goal.outs-Random _ _ _))
built_in_few a b c all (built_in.Test kind) = omega (arith, goal_counts _ (form.Test kind a) (goal.outs-Test _ _))
built_in_few a b c all built_in.Object = omega (arith, goal_counts _ (form.IsObject a all) (goal.outs-IsObject _ _))
built_in_few a b c all built_in.Fail = omega (arith, goal_counts _ form.Fail goal.outs-Fail)
built_in_few a b c all built_in.Just = omega (arith, goal_counts _ form.Just goal.outs-Just)
built_in_few a b c all built_in.Stop = omega (arith, goal_counts _ form.Stop goal.outs-Stop)
built_in_few a b c all built_in.Quit = omega (arith, goal_counts _ form.Quit goal.outs-Quit)
built_in_few a b c all built_in.RepeatForever = omega (arith, goal_counts _ form.Forever goal.outs-Forever)
built_in_few a b c all built_in.Query = omega (arith, goal_counts _ (form.Query a None all) (goal.outs-Query _ _ _))
built_in_few a b c all built_in.QueryWith = omega (arith, goal_counts _ (form.Query a (Some b) all) (goal.outs-Query _ _ _))
built_in_few a b c all built_in.GetInput = omega (arith, goal_counts _ (form.Input a) (goal.outs-Input _))
built_in_few a b c all built_in.SplitWord = omega (arith, goal_counts _ (form.SplitWord a b) (goal.outs-SplitWord _ _))
built_in_few a b c all built_in.JoinWords = omega (arith, goal_counts _ (form.JoinWords a b) (goal.outs-JoinWords _ _))
built_in_few a b c all (built_in.Gap kind) = omega (arith, goal_counts _ (form.Gap kind) (goal.outs-Gap _))
built_in_few a b c all built_in.Spaces = omega (arith, goal_counts _ (form.GapN a) (goal.outs-GapN _))
built_in_few a b c all built_in.HasParent = omega (arith, goal_counts _ (form.Holds 0 (a ∷ b ∷ []) all) (goal.outs-Holds _ _ _))

place_few : (s : Scope) (ps : Parts) (all : Bool) (o : Option ℕ) → in_body (place_goal s ps all o ∷ []) ≤ in_terms (terms_of s ps)
place_few s ps all None = omega (arith, goal_counts _ (form.Ask (number_in s.names.preds (name_of ps)) (terms_of s ps) all) (goal.outs-Ask _ _ _))
place_few s ps all (Some place) = omega (arith, goal_counts _ (form.Holds (in_16_bits place) (terms_of s ps) all) (goal.outs-Holds _ _ _))

query_few : (s : Scope) (ps : Parts) (all : Bool) (o : Option Builtin) → in_body (query_goal s ps all o ∷ []) ≤ in_terms (terms_of s ps)
query_few s ps all None = place_few s ps all (position (bytes_eq (name_of ps)) s.places)
query_few s ps all (Some b) =
    let ts = terms_of s ps in
    omega (arith, built_in_few (arg ts 0) (arg ts 1) (arg ts 2) all b, three_few ts)

asked_few : (s : Scope) (ps : Parts) (all : Bool) → in_body (asked s ps all ∷ []) ≤ many (in_parts ps)
asked_few s ps all = omega (arith, query_few s ps all (builtin_named (name_of ps)), parts_few s ps)

changes_few : (s : Scope) (cs : Changes) → in_body (change_goals s cs) ≤ many (in_changes cs)
changes_few s tree.no_changes = omega arith
changes_few s (tree.change ps set cs) =
    let behind = past s (in_parts ps) in
    let now = goal.Now (number_in s.places (name_of ps)) (terms_of s ps) set in
    omega (
      arith,
      body_append (now ∷ []) (change_goals behind cs),
      goal_counts now (form.Now (number_in s.places (name_of ps)) (terms_of s ps) set) (goal.outs-Now _ _ _),
      parts_few s ps,
      changes_few behind cs,
      many_join (in_parts ps) (in_changes cs),
    )

-- ## Statements

abbrev in_lists : List (List Goal) → ℕ
in_lists ls = in_goals (flat_map all_goals_of ls)

unit_counts : (ls : List (List Goal)) → in_body (unit ls) ≡ in_lists ls
unit_counts [] = refl
unit_counts (goals ∷ []) = omega (arith, goals_append (all_goals_of goals) [])
unit_counts (goals ∷ more ∷ ls) = omega (arith, goal_counts _ (form.Either (goals ∷ more ∷ ls)) (goal.outs-Either _))

mutual
  stmt_few : (s : Scope) (n : ℕ) (x : Stmt) → in_body (stmt_goals s n x) ≤ many (in_stmt x)
  stmt_few s n (tree.text w) = omega (arith, goal_counts _ (form.Text w) (goal.outs-Text _))
  stmt_few s n (tree.print v) = omega (arith, goal_counts _ (form.Print (term_of s v)) (goal.outs-Print _), term_few s v)
  stmt_few s n (tree.ask ps) = asked_few s ps false
  stmt_few s n (tree.ask_all ps) = asked_few s ps true
  stmt_few s n (tree.ask_not ps) = omega (arith, goal_counts _ (form.Not (asked s ps false ∷ [])) (goal.outs-Not _), asked_few s ps false)
  stmt_few s n (tree.group b) = omega (arith, unit_counts (lists s n b), lists_few s n b)
  stmt_few s n (tree.not_group b) = omega (arith, goal_counts _ (form.Not (unit (lists s n b))) (goal.outs-Not _), unit_counts (lists s n b), lists_few s n b)
  stmt_few s n (tree.now cs) = changes_few s cs
  stmt_few s n (tree.choice arms) = omega (arith, arms_few s n arms [])
  stmt_few s n (tree.choice_else arms b) =
      let k = n + count_selects (of_arms false arms) in
      let behind = past s (in_arms arms) in
      omega (
        arith,
        arms_few s n arms (unit (lists behind k b)),
        unit_counts (lists behind k b),
        lists_few behind k b,
        many_join (in_arms arms) (in_branches b),
      )
  stmt_few s n (tree.exhaust x) = omega (arith, goal_counts _ (form.Exhaust (stmt_goals s n x)) (goal.outs-Exhaust _), stmt_few s n x)
  stmt_few s n (tree.stoppable x) = omega (arith, goal_counts _ (form.Stoppable (stmt_goals s n x)) (goal.outs-Stoppable _), stmt_few s n x)
  stmt_few s n (tree.collect v b into) =
      let within = past s (in_value v) in
      let behind = past within (in_branches b) in
      omega (
        arith,
        goal_counts _ (form.Collect (term_of s v) (unit (lists within n b)) (term_of behind into)) (goal.outs-Collect _ _ _),
        term_few s v,
        term_few behind into,
        unit_counts (lists within n b),
        lists_few within n b,
        many_join (in_value v) (joined_closures (in_branches b) (in_value into)),
        many_join (in_branches b) (in_value into),
      )
  stmt_few s n (tree.accumulate v b into) =
      let within = past s (in_value v) in
      let behind = past within (in_branches b) in
      omega (
        arith,
        goal_counts _ (form.Accumulate (term_of s v) (unit (lists within n b)) (term_of behind into)) (goal.outs-Accumulate _ _ _),
        term_few s v,
        term_few behind into,
        unit_counts (lists within n b),
        lists_few within n b,
        many_join (in_value v) (joined_closures (in_branches b) (in_value into)),
        many_join (in_branches b) (in_value into),
      )
  stmt_few s n (tree.select mode b) = omega (arith, goal_counts _ (form.Select n mode (lists s (n + 1) b)) (goal.outs-Select _ _ _), lists_few s (n + 1) b)
  stmt_few s n (tree.first_answer b) = omega (arith, goal_counts _ (form.Once (unit (lists s n b))) (goal.outs-Once _), unit_counts (lists s n b), lists_few s n b)

  stmts_few : (s : Scope) (n : ℕ) (xs : Stmts) → in_body (goals_of s n xs) ≤ many (in_stmts xs)
  stmts_few s n tree.no_stmts = omega arith
  stmts_few s n (tree.stmt x xs) =
      let k = n + count_selects (of_stmt false x) in
      let behind = past s (in_stmt x) in
      omega (
        arith,
        body_append (stmt_goals s n x) (goals_of behind k xs),
        stmt_few s n x,
        stmts_few behind k xs,
        many_join (in_stmt x) (in_stmts xs),
      )

  lists_few : (s : Scope) (n : ℕ) (b : Body) → in_lists (lists s n b) ≤ many (in_branches b)
  lists_few s n tree.no_branches = omega arith
  lists_few s n (tree.branch xs b) =
      let k = n + count_selects (of_stmts false xs) in
      let behind = past s (in_stmts xs) in
      omega (
        arith,
        goals_append (all_goals_of (goals_of s n xs)) (flat_map all_goals_of (lists behind k b)),
        stmts_few s n xs,
        lists_few behind k b,
        many_join (in_stmts xs) (in_branches b),
      )

  arms_few : (s : Scope) (n : ℕ) (arms : Arms) (other : List Goal) → in_body (arm_goals s n arms other) ≤ many (in_arms arms) + in_body other
  arms_few s n tree.no_arms other = omega arith
  arms_few s n (tree.arm c b arms) other =
      let i = n + count_selects (of_body false c) in
      let j = i + count_selects (of_body false b) in
      let between = past s (in_branches c) in
      let behind = past between (in_branches b) in
      let test = unit (lists s n c) in
      let first = unit (lists between i b) in
      let last = arm_goals behind j arms other in
      omega (
        arith,
        goal_counts _ (form.If test first last) (goal.outs-If _ _ _),
        goals_append (all_goals_of test ++ all_goals_of first) (all_goals_of last),
        goals_append (all_goals_of test) (all_goals_of first),
        unit_counts (lists s n c),
        unit_counts (lists between i b),
        lists_few s n c,
        lists_few between i b,
        arms_few behind j arms other,
        many_join (in_branches c) (joined_closures (in_branches b) (in_arms arms)),
        many_join (in_branches b) (in_arms arms),
      )

pub body_few : (s : Scope) (n : ℕ) (b : Body) → in_body (body_goals s n b) ≤ many (in_branches b)
body_few s n b = omega (arith, unit_counts (lists s n b), lists_few s n b)
