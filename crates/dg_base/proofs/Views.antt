-- What each form of a tree stands for, by what it holds.
use Rattle.std.proofs.Common.{◌≡◌, ℕ, List, Bool, Some, None, map, sym, ◌∙◌, ap}
use Rattle.dg_base.specs.Tree as tree
use Rattle.dg_base.specs.TreeView.{part_step, stmt_step, value_step, arm_step, body_step, head_step, change_step, part_view, value_view, stmt_view, arm_view, head_view, body_view, change_view, branches_view}
use Rattle.dg_base.specs.declared.tree.Arm.{Arm, fold-roll-Arm}
use Rattle.dg_base.specs.declared.tree.Body.{Body, fold-roll-Body}
use Rattle.dg_base.specs.declared.tree.Head.{Head, fold-roll-Head}
use Rattle.dg_base.specs.declared.tree.NowChange.{NowChange, fold-roll-NowChange}
use Rattle.dg_base.specs.declared.tree.Part
use Rattle.dg_base.specs.declared.tree.Part.{Part, fold-roll-Part}
use Rattle.dg_base.specs.declared.tree.Part.TheVariants as parts
use Rattle.dg_base.specs.declared.tree.Part.TheOpen.{Part-F, Stmt-F, Value-F}
use Rattle.dg_base.specs.declared.tree.Stmt
use Rattle.dg_base.specs.declared.tree.Stmt.{Stmt, fold-roll-Stmt}
use Rattle.dg_base.specs.declared.tree.Stmt.TheVariants as stmts
use Rattle.dg_base.specs.declared.tree.Value
use Rattle.dg_base.specs.declared.tree.Value.{Value, fold-roll-Value}
use Rattle.dg_base.specs.declared.tree.Value.TheVariants as values
use Rattle.dg_base.specs.declared.program.Mode.{Mode}

-- ---- what stands in statements

pub part_word_seen : (w : List ℕ) → part_view (Part.Word w) ≡ tree.part_word w
part_word_seen w = ap part_view (sym (parts.rolls-Word w)) ∙ fold-roll-Part tree.Part tree.Stmt tree.Value (tree.Body × tree.Body) tree.Body tree.Parts (tree.Parts × Bool) part_step stmt_step value_step arm_step body_step head_step change_step (Part-F.Part::Word w)

pub value_seen : (v : Value) → part_view (Part.Value v) ≡ tree.part_value (value_view v)
value_seen v = ap part_view (sym (parts.rolls-Value v)) ∙ fold-roll-Part tree.Part tree.Stmt tree.Value (tree.Body × tree.Body) tree.Body tree.Parts (tree.Parts × Bool) part_step stmt_step value_step arm_step body_step head_step change_step (Part-F.Value v)

pub head_seen : (h : Head) → head_view h ≡ tree.parts_of (map part_view h.parts)
head_seen h = fold-roll-Head tree.Part tree.Stmt tree.Value (tree.Body × tree.Body) tree.Body tree.Parts (tree.Parts × Bool) part_step stmt_step value_step arm_step body_step head_step change_step (record { parts = h.parts })

pub body_seen : (b : Body) → body_view b ≡ branches_view (map (map stmt_view) b.branches)
body_seen b = fold-roll-Body tree.Part tree.Stmt tree.Value (tree.Body × tree.Body) tree.Body tree.Parts (tree.Parts × Bool) part_step stmt_step value_step arm_step body_step head_step change_step (record { branches = b.branches })

pub arm_seen : (a : Arm) → arm_view a ≡ (body_view a.condition, body_view a.body)
arm_seen a = fold-roll-Arm tree.Part tree.Stmt tree.Value (tree.Body × tree.Body) tree.Body tree.Parts (tree.Parts × Bool) part_step stmt_step value_step arm_step body_step head_step change_step (record { condition = a.condition; body = a.body })

pub change_seen : (c : NowChange) → change_view c ≡ (head_view c.head, c.set)
change_seen c = fold-roll-NowChange tree.Part tree.Stmt tree.Value (tree.Body × tree.Body) tree.Body tree.Parts (tree.Parts × Bool) part_step stmt_step value_step arm_step body_step head_step change_step (record { head = c.head; set = c.set })

-- ---- values

pub num_seen : (n : ℕ) → value_view (Value.Num n) ≡ tree.num n
num_seen n = ap value_view (sym (values.rolls-Num n)) ∙ fold-roll-Value tree.Part tree.Stmt tree.Value (tree.Body × tree.Body) tree.Body tree.Parts (tree.Parts × Bool) part_step stmt_step value_step arm_step body_step head_step change_step (Value-F.Num n)

pub dict_word_seen : (w : List ℕ) → value_view (Value.Word w) ≡ tree.dict_word w
dict_word_seen w = ap value_view (sym (values.rolls-Word w)) ∙ fold-roll-Value tree.Part tree.Stmt tree.Value (tree.Body × tree.Body) tree.Body tree.Parts (tree.Parts × Bool) part_step stmt_step value_step arm_step body_step head_step change_step (Value-F.Value::Word w)

pub object_seen : (w : List ℕ) → value_view (Value.Object w) ≡ tree.object_name w
object_seen w = ap value_view (sym (values.rolls-Object w)) ∙ fold-roll-Value tree.Part tree.Stmt tree.Value (tree.Body × tree.Body) tree.Body tree.Parts (tree.Parts × Bool) part_step stmt_step value_step arm_step body_step head_step change_step (Value-F.Object w)

pub topic_seen : value_view Value.Topic ≡ tree.current_topic
topic_seen = ap value_view (sym values.rolls-Topic) ∙ fold-roll-Value tree.Part tree.Stmt tree.Value (tree.Body × tree.Body) tree.Body tree.Parts (tree.Parts × Bool) part_step stmt_step value_step arm_step body_step head_step change_step Value-F.Topic

pub any_seen : value_view Value.Any ≡ tree.anonymous
any_seen = ap value_view (sym values.rolls-Any) ∙ fold-roll-Value tree.Part tree.Stmt tree.Value (tree.Body × tree.Body) tree.Body tree.Parts (tree.Parts × Bool) part_step stmt_step value_step arm_step body_step head_step change_step Value-F.Any

pub var_seen : (w : List ℕ) → value_view (Value.Var w) ≡ tree.variable w
var_seen w = ap value_view (sym (values.rolls-Var w)) ∙ fold-roll-Value tree.Part tree.Stmt tree.Value (tree.Body × tree.Body) tree.Body tree.Parts (tree.Parts × Bool) part_step stmt_step value_step arm_step body_step head_step change_step (Value-F.Var w)

pub plain_list_seen : (vs : List Value) → value_view (Value.List vs None) ≡ tree.plain_list (tree.values_of (map value_view vs))
plain_list_seen vs = ap value_view (sym (values.rolls-List vs None)) ∙ fold-roll-Value tree.Part tree.Stmt tree.Value (tree.Body × tree.Body) tree.Body tree.Parts (tree.Parts × Bool) part_step stmt_step value_step arm_step body_step head_step change_step (Value-F.List vs None)

pub tailed_list_seen : (vs : List Value) (v : Value) → value_view (Value.List vs (Some v)) ≡ tree.tailed_list (tree.values_of (map value_view vs)) (value_view v)
tailed_list_seen vs v = ap value_view (sym (values.rolls-List vs (Some v))) ∙ fold-roll-Value tree.Part tree.Stmt tree.Value (tree.Body × tree.Body) tree.Body tree.Parts (tree.Parts × Bool) part_step stmt_step value_step arm_step body_step head_step change_step (Value-F.List vs (Some v))

pub closure_seen : (b : Body) → value_view (Value.Closure b) ≡ tree.closure (body_view b)
closure_seen b = ap value_view (sym (values.rolls-Closure b)) ∙ fold-roll-Value tree.Part tree.Stmt tree.Value (tree.Body × tree.Body) tree.Body tree.Parts (tree.Parts × Bool) part_step stmt_step value_step arm_step body_step head_step change_step (Value-F.Closure b)

pub query_seen : (h : Head) → value_view (Value.Query h) ≡ tree.nested (head_view h)
query_seen h = ap value_view (sym (values.rolls-Query h)) ∙ fold-roll-Value tree.Part tree.Stmt tree.Value (tree.Body × tree.Body) tree.Body tree.Parts (tree.Parts × Bool) part_step stmt_step value_step arm_step body_step head_step change_step (Value-F.Query h)

pub words_seen : (ws : List (List ℕ)) → value_view (Value.Words ws) ≡ tree.word_choice ws
words_seen ws = ap value_view (sym (values.rolls-Words ws)) ∙ fold-roll-Value tree.Part tree.Stmt tree.Value (tree.Body × tree.Body) tree.Body tree.Parts (tree.Parts × Bool) part_step stmt_step value_step arm_step body_step head_step change_step (Value-F.Words ws)

pub ruleset values_seen = (num_seen, dict_word_seen, object_seen, topic_seen, any_seen, var_seen, plain_list_seen, tailed_list_seen, closure_seen, query_seen, words_seen)

-- ---- statements

pub text_seen : (w : List ℕ) → stmt_view (Stmt.Text w) ≡ tree.text w
text_seen w = ap stmt_view (sym (stmts.rolls-Text w)) ∙ fold-roll-Stmt tree.Part tree.Stmt tree.Value (tree.Body × tree.Body) tree.Body tree.Parts (tree.Parts × Bool) part_step stmt_step value_step arm_step body_step head_step change_step (Stmt-F.Text w)

pub print_seen : (v : Value) → stmt_view (Stmt.Print v) ≡ tree.print (value_view v)
print_seen v = ap stmt_view (sym (stmts.rolls-Print v)) ∙ fold-roll-Stmt tree.Part tree.Stmt tree.Value (tree.Body × tree.Body) tree.Body tree.Parts (tree.Parts × Bool) part_step stmt_step value_step arm_step body_step head_step change_step (Stmt-F.Print v)

pub ask_seen : (h : Head) → stmt_view (Stmt.Ask h) ≡ tree.ask (head_view h)
ask_seen h = ap stmt_view (sym (stmts.rolls-Ask h)) ∙ fold-roll-Stmt tree.Part tree.Stmt tree.Value (tree.Body × tree.Body) tree.Body tree.Parts (tree.Parts × Bool) part_step stmt_step value_step arm_step body_step head_step change_step (Stmt-F.Ask h)

pub ask_all_seen : (h : Head) → stmt_view (Stmt.AskAll h) ≡ tree.ask_all (head_view h)
ask_all_seen h = ap stmt_view (sym (stmts.rolls-AskAll h)) ∙ fold-roll-Stmt tree.Part tree.Stmt tree.Value (tree.Body × tree.Body) tree.Body tree.Parts (tree.Parts × Bool) part_step stmt_step value_step arm_step body_step head_step change_step (Stmt-F.AskAll h)

pub ask_not_seen : (h : Head) → stmt_view (Stmt.AskNot h) ≡ tree.ask_not (head_view h)
ask_not_seen h = ap stmt_view (sym (stmts.rolls-AskNot h)) ∙ fold-roll-Stmt tree.Part tree.Stmt tree.Value (tree.Body × tree.Body) tree.Body tree.Parts (tree.Parts × Bool) part_step stmt_step value_step arm_step body_step head_step change_step (Stmt-F.AskNot h)

pub group_seen : (b : Body) → stmt_view (Stmt.Group b) ≡ tree.group (body_view b)
group_seen b = ap stmt_view (sym (stmts.rolls-Group b)) ∙ fold-roll-Stmt tree.Part tree.Stmt tree.Value (tree.Body × tree.Body) tree.Body tree.Parts (tree.Parts × Bool) part_step stmt_step value_step arm_step body_step head_step change_step (Stmt-F.Group b)

pub not_group_seen : (b : Body) → stmt_view (Stmt.NotGroup b) ≡ tree.not_group (body_view b)
not_group_seen b = ap stmt_view (sym (stmts.rolls-NotGroup b)) ∙ fold-roll-Stmt tree.Part tree.Stmt tree.Value (tree.Body × tree.Body) tree.Body tree.Parts (tree.Parts × Bool) part_step stmt_step value_step arm_step body_step head_step change_step (Stmt-F.NotGroup b)

pub now_seen : (cs : List NowChange) → stmt_view (Stmt.Now cs) ≡ tree.now (tree.changes_of (map change_view cs))
now_seen cs = ap stmt_view (sym (stmts.rolls-Now cs)) ∙ fold-roll-Stmt tree.Part tree.Stmt tree.Value (tree.Body × tree.Body) tree.Body tree.Parts (tree.Parts × Bool) part_step stmt_step value_step arm_step body_step head_step change_step (Stmt-F.Now cs)

pub choice_seen : (arms : List Arm) → stmt_view (Stmt.If arms None) ≡ tree.choice (tree.arms_of (map arm_view arms))
choice_seen arms = ap stmt_view (sym (stmts.rolls-If arms None)) ∙ fold-roll-Stmt tree.Part tree.Stmt tree.Value (tree.Body × tree.Body) tree.Body tree.Parts (tree.Parts × Bool) part_step stmt_step value_step arm_step body_step head_step change_step (Stmt-F.If arms None)

pub choice_else_seen : (arms : List Arm) (b : Body) → stmt_view (Stmt.If arms (Some b)) ≡ tree.choice_else (tree.arms_of (map arm_view arms)) (body_view b)
choice_else_seen arms b = ap stmt_view (sym (stmts.rolls-If arms (Some b))) ∙ fold-roll-Stmt tree.Part tree.Stmt tree.Value (tree.Body × tree.Body) tree.Body tree.Parts (tree.Parts × Bool) part_step stmt_step value_step arm_step body_step head_step change_step (Stmt-F.If arms (Some b))

pub exhaust_seen : (s : Stmt) → stmt_view (Stmt.Exhaust s) ≡ tree.exhaust (stmt_view s)
exhaust_seen s = ap stmt_view (sym (stmts.rolls-Exhaust s)) ∙ fold-roll-Stmt tree.Part tree.Stmt tree.Value (tree.Body × tree.Body) tree.Body tree.Parts (tree.Parts × Bool) part_step stmt_step value_step arm_step body_step head_step change_step (Stmt-F.Exhaust s)

pub stoppable_seen : (s : Stmt) → stmt_view (Stmt.Stoppable s) ≡ tree.stoppable (stmt_view s)
stoppable_seen s = ap stmt_view (sym (stmts.rolls-Stoppable s)) ∙ fold-roll-Stmt tree.Part tree.Stmt tree.Value (tree.Body × tree.Body) tree.Body tree.Parts (tree.Parts × Bool) part_step stmt_step value_step arm_step body_step head_step change_step (Stmt-F.Stoppable s)

pub collect_seen : (v : Value) (b : Body) (into : Value) → stmt_view (Stmt.Collect v b into) ≡ tree.collect (value_view v) (body_view b) (value_view into)
collect_seen v b into = ap stmt_view (sym (stmts.rolls-Collect v b into)) ∙ fold-roll-Stmt tree.Part tree.Stmt tree.Value (tree.Body × tree.Body) tree.Body tree.Parts (tree.Parts × Bool) part_step stmt_step value_step arm_step body_step head_step change_step (Stmt-F.Collect v b into)

pub accumulate_seen : (v : Value) (b : Body) (into : Value) → stmt_view (Stmt.Accumulate v b into) ≡ tree.accumulate (value_view v) (body_view b) (value_view into)
accumulate_seen v b into = ap stmt_view (sym (stmts.rolls-Accumulate v b into)) ∙ fold-roll-Stmt tree.Part tree.Stmt tree.Value (tree.Body × tree.Body) tree.Body tree.Parts (tree.Parts × Bool) part_step stmt_step value_step arm_step body_step head_step change_step (Stmt-F.Accumulate v b into)

pub select_seen : (mode : Mode) (bs : List (List Stmt)) → stmt_view (Stmt.Select mode bs) ≡ tree.select mode (branches_view (map (map stmt_view) bs))
select_seen mode bs = ap stmt_view (sym (stmts.rolls-Select mode bs)) ∙ fold-roll-Stmt tree.Part tree.Stmt tree.Value (tree.Body × tree.Body) tree.Body tree.Parts (tree.Parts × Bool) part_step stmt_step value_step arm_step body_step head_step change_step (Stmt-F.Select mode bs)

pub first_seen : (b : Body) → stmt_view (Stmt.First b) ≡ tree.first_answer (body_view b)
first_seen b = ap stmt_view (sym (stmts.rolls-First b)) ∙ fold-roll-Stmt tree.Part tree.Stmt tree.Value (tree.Body × tree.Body) tree.Body tree.Parts (tree.Parts × Bool) part_step stmt_step value_step arm_step body_step head_step change_step (Stmt-F.First b)

pub ruleset stmts_seen = (text_seen, print_seen, ask_seen, ask_all_seen, ask_not_seen, group_seen, not_group_seen, now_seen, choice_seen, choice_else_seen, exhaust_seen, stoppable_seen, collect_seen, accumulate_seen, select_seen, first_seen)
