-- The plain data that a tree stands for, form by form.
use Rattle.std.specs.Prelude.{List, Bool, Option, Some, None, map}
use Rattle.dg_base.specs.Tree as tree
use Rattle.dg_base.specs.declared.tree.Part.{Part, fold-Part}
use Rattle.dg_base.specs.declared.tree.Stmt.{Stmt, fold-Stmt}
use Rattle.dg_base.specs.declared.tree.Value.{Value, fold-Value}
use Rattle.dg_base.specs.declared.tree.Arm.{Arm, fold-Arm}
use Rattle.dg_base.specs.declared.tree.Body.{Body, fold-Body}
use Rattle.dg_base.specs.declared.tree.Head.{Head, fold-Head}
use Rattle.dg_base.specs.declared.tree.NowChange.{NowChange, fold-NowChange}
use Rattle.dg_base.specs.declared.tree.Part.TheOpen.{Part-F, Stmt-F, Value-F, Arm-F, Body-F, Head-F, NowChange-F}
use Rattle.dg_base.specs.declared.tree.ItemBody.{ItemBody}
use Rattle.dg_base.specs.declared.tree.ItemBody.TheVariants.{Topic, Rule, Deny, Access, Variable}
use Rattle.dg_base.specs.declared.tree.Item.{Item}
use Rattle.dg_base.specs.declared.tree.Tree.{Tree}

-- One level of a type of the tree, with what it holds seen as plain data.
abbrev pub Layer : ((P S V A B H C : Type 0) → Type 0) → Type 0
Layer F = F tree.Part tree.Stmt tree.Value (tree.Body × tree.Body) tree.Body tree.Parts (tree.Parts × Bool)

-- A part, its value being plain data already.
abbrev pub part_step : Layer Part-F → tree.Part
part_step (Part-F.Part::Word w) = tree.part_word w
part_step (Part-F.Value v) = tree.part_value v

-- A list without a tail, or with one.
abbrev pub list_view : List tree.Value → Option tree.Value → tree.Value
list_view vs None = tree.plain_list (tree.values_of vs)
list_view vs (Some v) = tree.tailed_list (tree.values_of vs) v

-- A value, with what it holds being plain data already.
abbrev pub value_step : Layer Value-F → tree.Value
value_step (Value-F.Num n) = tree.num n
value_step (Value-F.Value::Word w) = tree.dict_word w
value_step (Value-F.Object w) = tree.object_name w
value_step Value-F.Topic = tree.current_topic
value_step Value-F.Any = tree.anonymous
value_step (Value-F.Var w) = tree.variable w
value_step (Value-F.List vs tail) = list_view vs tail
value_step (Value-F.Closure b) = tree.closure b
value_step (Value-F.Query ps) = tree.nested ps
value_step (Value-F.Words ws) = tree.word_choice ws

-- A choice without another way, or with one.
abbrev pub choice_view : List (tree.Body × tree.Body) → Option tree.Body → tree.Stmt
choice_view arms None = tree.choice (tree.arms_of arms)
choice_view arms (Some b) = tree.choice_else (tree.arms_of arms) b

-- Branches, each a list of statements.
abbrev pub branches_view : List (List tree.Stmt) → tree.Body
branches_view bs = tree.branches_of (map (λ ss. tree.stmts_of ss) bs)

-- A statement, with what it holds being plain data already.
abbrev pub stmt_step : Layer Stmt-F → tree.Stmt
stmt_step (Stmt-F.Text w) = tree.text w
stmt_step (Stmt-F.Print v) = tree.print v
stmt_step (Stmt-F.Ask ps) = tree.ask ps
stmt_step (Stmt-F.AskAll ps) = tree.ask_all ps
stmt_step (Stmt-F.AskNot ps) = tree.ask_not ps
stmt_step (Stmt-F.Group b) = tree.group b
stmt_step (Stmt-F.NotGroup b) = tree.not_group b
stmt_step (Stmt-F.Now cs) = tree.now (tree.changes_of cs)
stmt_step (Stmt-F.If arms other) = choice_view arms other
stmt_step (Stmt-F.Exhaust s) = tree.exhaust s
stmt_step (Stmt-F.Stoppable s) = tree.stoppable s
stmt_step (Stmt-F.Collect v b into) = tree.collect v b into
stmt_step (Stmt-F.Accumulate v b into) = tree.accumulate v b into
stmt_step (Stmt-F.Select mode bs) = tree.select mode (branches_view bs)
stmt_step (Stmt-F.First b) = tree.first_answer b

-- A condition and its body.
abbrev pub arm_step : Layer Arm-F → tree.Body × tree.Body
arm_step a = (a.condition, a.body)

-- A body by its branches.
abbrev pub body_step : Layer Body-F → tree.Body
body_step b = branches_view b.branches

-- A head by its parts.
abbrev pub head_step : Layer Head-F → tree.Parts
head_step h = tree.parts_of h.parts

-- A head and whether it is set.
abbrev pub change_step : Layer NowChange-F → tree.Parts × Bool
change_step c = (c.head, c.set)

-- What a part stands for.
abbrev pub part_view : Part → tree.Part
part_view = fold-Part tree.Part tree.Stmt tree.Value (tree.Body × tree.Body) tree.Body tree.Parts
    (tree.Parts × Bool) part_step stmt_step value_step arm_step body_step head_step change_step

-- What a statement stands for.
abbrev pub stmt_view : Stmt → tree.Stmt
stmt_view = fold-Stmt tree.Part tree.Stmt tree.Value (tree.Body × tree.Body) tree.Body tree.Parts
    (tree.Parts × Bool) part_step stmt_step value_step arm_step body_step head_step change_step

-- What a value stands for.
abbrev pub value_view : Value → tree.Value
value_view = fold-Value tree.Part tree.Stmt tree.Value (tree.Body × tree.Body) tree.Body tree.Parts
    (tree.Parts × Bool) part_step stmt_step value_step arm_step body_step head_step change_step

-- What a condition with its body stands for.
abbrev pub arm_view : Arm → tree.Body × tree.Body
arm_view = fold-Arm tree.Part tree.Stmt tree.Value (tree.Body × tree.Body) tree.Body tree.Parts
    (tree.Parts × Bool) part_step stmt_step value_step arm_step body_step head_step change_step

-- What a body stands for.
abbrev pub body_view : Body → tree.Body
body_view = fold-Body tree.Part tree.Stmt tree.Value (tree.Body × tree.Body) tree.Body tree.Parts
    (tree.Parts × Bool) part_step stmt_step value_step arm_step body_step head_step change_step

-- What a head stands for.
abbrev pub head_view : Head → tree.Parts
head_view = fold-Head tree.Part tree.Stmt tree.Value (tree.Body × tree.Body) tree.Body tree.Parts
    (tree.Parts × Bool) part_step stmt_step value_step arm_step body_step head_step change_step

-- What one change stands for.
abbrev pub change_view : NowChange → tree.Parts × Bool
change_view = fold-NowChange tree.Part tree.Stmt tree.Value (tree.Body × tree.Body) tree.Body tree.Parts
    (tree.Parts × Bool) part_step stmt_step value_step arm_step body_step head_step change_step

-- What one branch stands for.
abbrev pub branch_view : List Stmt → tree.Stmts
branch_view ss = tree.stmts_of (map stmt_view ss)

-- What an item says.
abbrev pub said_view : ItemBody → tree.Said
said_view (Topic n) = tree.topic n
said_view (Rule h b) = tree.rule (head_view h) (body_view b)
said_view (Deny h b) = tree.deny (head_view h) (body_view b)
said_view (Access h b) = tree.access (head_view h) (body_view b)
said_view (Variable h) = tree.global_variable (head_view h)

-- What an item stands for.
abbrev pub item_view : Item → tree.Item
item_view i = record { line = i.line; said = said_view i.body }

-- What a tree stands for: its items, in order.
abbrev pub tree_view : Tree → List tree.Item
tree_view t = map item_view t.items
