-- How much a tree weighs that is built where access rules are put in, so that one of which too much comes is left before it is built. The proofs alone rest
-- on it.
use Rattle.std.specs.Prelude.{◌≡◌, ◌⊎◌, ◌<◌, ℕ, ◌+◌, ◌*◌, ◌||◌, List, ◌++◌, Bool, true, false, length, sum_by}
use Rattle.dg_base.specs.Tree as tree
use Rattle.dg_base.specs.Tree.{Part, Parts, Value, Stmt, Stmts, Body, Changes, Item}
use Rattle.dg_base.specs.Mentions.{Thing, Mentions, things, weight_of, of_value, of_parts, of_stmt, of_stmts, of_branches, of_changes}
use Rattle.dg_plain.specs.Building.{Built, list_of_changes}
use Rattle.dg_scopes.specs.Counts.{nodes_at, queries_at, are_large, are_over}
use Rattle.dg_plain.specs.declared.work.Close.{Close}
use Rattle.dg_plain.specs.declared.work.Close.TheVariants as close

-- A node weighs 1, and a query 50 more. So what weighs more than 2,500,000 has more than 2,000,000 nodes or more than 10,000 queries.
abbrev pub load : Thing → ℕ
load t = nodes_at t + 50 * queries_at t

-- What these mentions weigh together.
abbrev pub load_of : Mentions → ℕ
load_of ms = weight_of load (things ms)

abbrev pub value_load : Value → ℕ
value_load v = load_of (of_value false v)

abbrev pub parts_load : Parts → ℕ
parts_load ps = load_of (of_parts false ps)

abbrev pub part_load : Part → ℕ
part_load (tree.part_word w) = 0
part_load (tree.part_value v) = value_load v

abbrev pub stmt_load : Stmt → ℕ
stmt_load s = load_of (of_stmt false s)

abbrev pub stmts_load : Stmts → ℕ
stmts_load ss = load_of (of_stmts false ss)

abbrev pub body_load : Body → ℕ
body_load b = load_of (of_branches false b)

-- A condition and what follows it.
abbrev pub arm_load : Body × Body → ℕ
arm_load a = body_load a.0 + body_load a.1

-- A change, or a head.
abbrev pub change_load : Parts × Bool → ℕ
change_load c = parts_load c.0 + 1

-- Changes, or heads.
abbrev pub changes_load : Changes → ℕ
changes_load cs = load_of (of_changes false cs)

-- What all that is built weighs together.
abbrev pub heavy : Built → ℕ
heavy s = sum_by value_load s.values
    + (sum_by part_load s.parts
    + (sum_by stmt_load s.stmts
    + (sum_by stmts_load s.branches
    + (sum_by body_load s.bodies
    + (sum_by arm_load s.arms
    + (sum_by change_load s.changes + sum_by stmt_load s.puts))))))

-- What is built is too much: it weighs too much, or has more heads than there may be rules.
abbrev pub IsPast : Built → Type 0
IsPast s = (2500000 < heavy s) ⊎ (16000 < length s.changes)

-- Heads that are too much: they weigh too much, or there may not be so many rules.
abbrev pub HasManyHeads : Changes → Type 0
HasManyHeads cs = (2500000 < changes_load cs) ⊎ (16000 < length (list_of_changes cs))

-- What is added at least where a construct is closed.
abbrev pub gain : Close → ℕ
gain close.Part = 0
gain (close.Branch k) = 0
gain (close.Body k) = 0
gain close.Arm = 0
gain (close.Query a k) = 52
gain (close.Put k n) = 52
gain k = 1

-- These items are refused as too many, whatever came before them.
abbrev pub IsOver : List Item → Type 0
IsOver is = (before : List Item) → (are_large is || are_over (before ++ is)) ≡ true
