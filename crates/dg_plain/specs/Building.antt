-- What is built of an item with plain heads, as plain data, and what each step comes to. The proofs alone rest on it.
use Rattle.std.specs.Prelude.{◌≡◌, ℕ, ◌+◌, ◌-◌, List, [], ◌∷◌, ◌++◌, Bool, true, false, map, length, take, drop, if◌then◌else◌}
use Rattle.dg_base.specs.Tree as tree
use Rattle.dg_base.specs.Tree.{Part, Parts, Value, Values, Stmt, Stmts, Body, Arms, Changes, parts_of, values_of, stmts_of, branches_of, arms_of, changes_of}
use Rattle.dg_base.specs.TreeView.{part_view, value_view, stmt_view, arm_view, body_view, change_view, branch_view, branches_view}
use Rattle.dg_plain.specs.Plain.{Setting, standing_for, new_in_value, new_in_values, new_in_parts, new_in_stmt, new_in_stmts, new_in_body, new_in_arms, new_in_changes, plain_value, plain_values, plain_parts, plain_stmt, plain_stmts, plain_body, plain_arms, plain_changes, puts_of_value, puts_of_values, puts_of_parts}
use Rattle.dg_plain.specs.declared.work.Work.{Work}
use Rattle.dg_plain.specs.declared.work.Work.TheVariants as work
use Rattle.dg_plain.specs.declared.work.Close.{Close}
use Rattle.dg_plain.specs.declared.work.Close.TheVariants as close
use Rattle.dg_plain.specs.declared.work.Wrap.{Wrap}
use Rattle.dg_plain.specs.declared.work.Wrap.TheVariants as wrap
use Rattle.dg_plain.specs.declared.work.Asking.{Asking}
use Rattle.dg_plain.specs.declared.work.Asking.TheVariants as asking
use Rattle.dg_plain.specs.declared.built.Built.{Built as CodeBuilt}

-- The number of the next new name, and what is built so far of each kind, the last of it at the end.
pub record Built : Type 0 where
  pub at : ℕ
  pub values : List Value
  pub parts : List Part
  pub stmts : List Stmt
  pub branches : List Stmts
  pub bodies : List Body
  pub arms : List (Body × Body)
  pub changes : List (Parts × Bool)
  pub puts : List Stmt

abbrev pub built_view : CodeBuilt → Built
built_view b = record {
  at = b.at;
  values = map value_view b.values.items;
  parts = map part_view b.parts.items;
  stmts = map stmt_view b.stmts.items;
  branches = map branch_view b.branches.items;
  bodies = map body_view b.bodies.items;
  arms = map arm_view b.arms.items;
  changes = map change_view b.changes.items;
  puts = map stmt_view b.puts.items;
}

-- ---- the end of a list

-- All but so many.
abbrev pub front : {X : Type 0} → ℕ → List X → List X
front k xs = take (length xs - k) xs

-- The last so many.
abbrev pub behind : {X : Type 0} → ℕ → List X → List X
behind k xs = drop (length xs - k) xs

-- All but the last.
abbrev pub init : {X : Type 0} → List X → List X
init [] = []
init (x ∷ []) = []
init (x ∷ y ∷ xs) = x ∷ init (y ∷ xs)

-- The last, or this one where there is none.
abbrev pub last_or : {X : Type 0} → X → List X → X
last_or d [] = d
last_or d (x ∷ xs) = last_or x xs

-- ---- a construct whose parts are all built

abbrev pub wrapped : Wrap → Body → Stmt
wrapped wrap.Group = tree.group
wrapped wrap.NotGroup = tree.not_group
wrapped wrap.First = tree.first_answer

abbrev pub asked : Asking → Parts → Stmt
asked asking.One = tree.ask
asked asking.All = tree.ask_all
asked asking.Not = tree.ask_not

-- The statement of no branches, which comes where there is none.
abbrev pub no_stmt : Stmt
no_stmt = tree.group tree.no_branches

abbrev pub closing : Setting → Close → Built → Built
closing c (close.List k) s = record s { values = front k s.values ++ tree.plain_list (values_of (behind k s.values)) ∷ [] }
closing c (close.Tailed k) s = record s {
  values = front k (init s.values)
      ++ tree.tailed_list (values_of (behind k (init s.values))) (last_or tree.current_topic s.values) ∷ [];
}
closing c close.Closure s = record s { bodies = init s.bodies; values = s.values ++ tree.closure (last_or tree.no_branches s.bodies) ∷ [] }
closing c (close.Nested k) s = record s { parts = front k s.parts; values = s.values ++ standing_for c (parts_of (behind k s.parts)) ∷ [] }
closing c (close.Put k n) s = record s { at = n; parts = front k s.parts; puts = s.puts ++ tree.ask_all (parts_of (behind k s.parts)) ∷ [] }
closing c close.Part s = record s { values = init s.values; parts = s.parts ++ tree.part_value (last_or tree.current_topic s.values) ∷ [] }
closing c close.Print s = record s { values = init s.values; stmts = s.stmts ++ tree.print (last_or tree.current_topic s.values) ∷ [] }
closing c (close.Query a k) s = record s { parts = front k s.parts; stmts = s.stmts ++ asked a (parts_of (behind k s.parts)) ∷ [] }
closing c (close.Wrapped w) s = record s { bodies = init s.bodies; stmts = s.stmts ++ wrapped w (last_or tree.no_branches s.bodies) ∷ [] }
closing c (close.Now k) s = record s { changes = front k s.changes; stmts = s.stmts ++ tree.now (changes_of (behind k s.changes)) ∷ [] }
closing c (close.If k) s = record s { arms = front k s.arms; stmts = s.stmts ++ tree.choice (arms_of (behind k s.arms)) ∷ [] }
closing c (close.IfElse k) s = record s {
  arms = front k s.arms;
  bodies = init s.bodies;
  stmts = s.stmts
      ++ tree.choice_else (arms_of (behind k s.arms)) (last_or tree.no_branches s.bodies) ∷ [];
}
closing c close.Exhaust s = record s { stmts = init s.stmts ++ tree.exhaust (last_or no_stmt s.stmts) ∷ [] }
closing c close.Stoppable s = record s { stmts = init s.stmts ++ tree.stoppable (last_or no_stmt s.stmts) ∷ [] }
closing c close.Collect s = record s {
  values = init (init s.values);
  bodies = init s.bodies;
  stmts = s.stmts
      ++ tree.collect (last_or tree.current_topic (init s.values)) (last_or tree.no_branches s.bodies) (last_or tree.current_topic s.values) ∷ [];
}
closing c close.Accumulate s = record s {
  values = init (init s.values);
  bodies = init s.bodies;
  stmts = s.stmts
      ++ tree.accumulate (last_or tree.current_topic (init s.values)) (last_or tree.no_branches s.bodies) (last_or tree.current_topic s.values) ∷ [];
}
closing c (close.Select mode k) s = record s { branches = front k s.branches; stmts = s.stmts ++ tree.select mode (branches_of (behind k s.branches)) ∷ [] }
closing c (close.Branch k) s = record s { stmts = front k s.stmts; branches = s.branches ++ stmts_of (behind k s.stmts) ∷ [] }
closing c (close.Body k) s = record s { branches = front k s.branches; bodies = s.bodies ++ branches_of (behind k s.branches) ∷ [] }
closing c close.Arm s = record s {
  bodies = init (init s.bodies);
  arms = s.arms
      ++ (last_or tree.no_branches (init s.bodies), last_or tree.no_branches s.bodies) ∷ [];
}
closing c (close.Change set k) s = record s { parts = front k s.parts; changes = s.changes ++ (parts_of (behind k s.parts), set) ∷ [] }

-- ---- a part of the tree that is looked at

-- These, or none.
abbrev pub only_if : {X : Type 0} → Bool → List X → List X
only_if true xs = xs
only_if false xs = []

abbrev pub after_value : Setting → Bool → Value → Built → Built
after_value c puts v s = record s {
  at = s.at + new_in_value v;
  values = s.values ++ plain_value c s.at v ∷ [];
  puts = s.puts
      ++ only_if puts (puts_of_value c s.at v);
}

abbrev pub list_of_values : Values → List Value
list_of_values tree.no_values = []
list_of_values (tree.value v vs) = v ∷ list_of_values vs

abbrev pub after_values : Setting → Bool → Values → Built → Built
after_values c puts vs s = record s {
  at = s.at + new_in_values vs;
  values = s.values ++ list_of_values (plain_values c s.at vs);
  puts = s.puts
      ++ only_if puts (puts_of_values c s.at vs);
}

abbrev pub list_of_parts : Parts → List Part
list_of_parts tree.no_parts = []
list_of_parts (tree.part p ps) = p ∷ list_of_parts ps

abbrev pub after_parts : Setting → Bool → Parts → Built → Built
after_parts c puts ps s = record s {
  at = s.at + new_in_parts ps;
  parts = s.parts ++ list_of_parts (plain_parts c s.at ps);
  puts = s.puts
      ++ only_if puts (puts_of_parts c s.at ps);
}

abbrev pub after_stmt : Setting → Stmt → Built → Built
after_stmt c x s = record s { at = s.at + new_in_stmt x; stmts = s.stmts ++ plain_stmt c s.at x ∷ [] }

abbrev pub list_of_stmts : Stmts → List Stmt
list_of_stmts tree.no_stmts = []
list_of_stmts (tree.stmt s ss) = s ∷ list_of_stmts ss

abbrev pub after_stmts : Setting → Stmts → Built → Built
after_stmts c ss s = record s { at = s.at + new_in_stmts ss; stmts = s.stmts ++ list_of_stmts (plain_stmts c s.at ss) }

abbrev pub list_of_branches : Body → List Stmts
list_of_branches tree.no_branches = []
list_of_branches (tree.branch ss b) = ss ∷ list_of_branches b

abbrev pub after_branches : Setting → Body → Built → Built
after_branches c b s = record s { at = s.at + new_in_body b; branches = s.branches ++ list_of_branches (plain_body c s.at b) }

abbrev pub after_body : Setting → Body → Built → Built
after_body c b s = record s { at = s.at + new_in_body b; bodies = s.bodies ++ plain_body c s.at b ∷ [] }

abbrev pub list_of_arms : Arms → List (Body × Body)
list_of_arms tree.no_arms = []
list_of_arms (tree.arm a b arms) = (a, b) ∷ list_of_arms arms

abbrev pub after_arms : Setting → Arms → Built → Built
after_arms c arms s = record s { at = s.at + new_in_arms arms; arms = s.arms ++ list_of_arms (plain_arms c s.at arms) }

abbrev pub list_of_changes : Changes → List (Parts × Bool)
list_of_changes tree.no_changes = []
list_of_changes (tree.change ps set cs) = (ps, set) ∷ list_of_changes cs

abbrev pub after_changes : Setting → Changes → Built → Built
after_changes c cs s = record s { at = s.at + new_in_changes cs; changes = s.changes ++ list_of_changes (plain_changes c s.at cs) }

-- ---- all that is left

-- What a step comes to.
abbrev pub does : Setting → Work → Built → Built
does c (work.Value puts v) s = after_value c puts (value_view v.now) s
does c (work.Values puts vs) s = after_values c puts (values_of (map value_view vs.now)) s
does c (work.Parts puts ps) s = after_parts c puts (parts_of (map part_view ps.now)) s
does c (work.Stmt x) s = after_stmt c (stmt_view x.now) s
does c (work.Stmts ss) s = after_stmts c (stmts_of (map stmt_view ss.now)) s
does c (work.Branches bs) s = after_branches c (branches_view (map (map stmt_view) bs.now)) s
does c (work.Body b) s = after_body c (body_view b.now) s
does c (work.Arms arms) s = after_arms c (arms_of (map arm_view arms.now)) s
does c (work.Changes cs) s = after_changes c (changes_of (map change_view cs.now)) s
does c (work.Close k) s = closing c k s

-- What all that is left comes to, the last of it being done first.
abbrev pub run : Setting → List Work → Built → Built
run c [] s = s
run c (w ∷ ws) s = does c w (run c ws s)

-- Something was put off: what is left comes to the same as it and what was left.
abbrev pub IsPutOff : (Setting → Built → Built) → List Work → List Work → Type 0
IsPutOff f old new = (c : Setting) (s : Built) → run c new s ≡ run c old (f c s)

-- A step was taken, or put off: what is left comes to the same as before.
abbrev pub IsStep : Setting → (Built → Built) → List Work → List Work → CodeBuilt → CodeBuilt → Type 0
IsStep c f old new before after = run c new (built_view after) ≡ run c old (f (built_view before))

-- Nothing yet.
abbrev pub unbuilt : Built
unbuilt = record { at = 0; values = []; parts = []; stmts = []; branches = []; bodies = []; arms = []; changes = []; puts = [] }
