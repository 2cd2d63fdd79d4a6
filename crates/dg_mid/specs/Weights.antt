-- How much room code takes, and how much the goals have for it that it is written of, whatever its parts weigh: so an engine gives bytes to them, or
-- weighs one part alone, of which there is none in the code where the program has none.
use Rattle.std.specs.Prelude.{◌≤◌, ℕ, ◌+◌, ◌*◌, List, [], ◌∷◌, Option, Some, None, Bool, false, length, replicate}
use Rattle.dg_base.specs.declared.program.Goal.{Goal, out-Goal}
use Rattle.dg_base.specs.declared.program.Goal.TheOpen as form
use Rattle.dg_base.specs.declared.program.Mode.{Mode}
use Rattle.dg_base.specs.declared.program.Term.{Term, out-Term}
use Rattle.dg_base.specs.declared.program.Term.TheOpen.{Term-F}
use Rattle.dg_base.specs.declared.program.Rule.{Rule}
use Rattle.dg_base.specs.declared.program.Pred.{Pred}
use Rattle.dg_base.specs.declared.program.ClosureBody.{ClosureBody}
use Rattle.dg_base.specs.declared.program.CoreProgram.{CoreProgram}
use Rattle.dg_base.specs.Goals.{all_goals_of, terms_held, option_terms}
use Rattle.dg_base.specs.Terms.{nodes}
use Rattle.dg_mid.specs.declared.code.Action.TheVariants as action
use Rattle.dg_mid.specs.declared.code.Op.{Op}
use Rattle.dg_mid.specs.declared.code.Op.TheVariants as op
use Rattle.dg_mid.specs.declared.branches.Branching.{Branching}
use Rattle.dg_mid.specs.declared.code.Block.{Block}
use Rattle.dg_mid.specs.declared.code.Code.{Code}
use Rattle.dg_mid.specs.declared.writing.Level.{Level}
use Rattle.dg_mid.specs.declared.writing.Level.TheVariants as level
use Rattle.dg_mid.specs.declared.writing.Work.{Work}
use Rattle.dg_mid.specs.Actions.{form_of, terms_of}

-- What the parts of code weigh.
pub record Weights : Type 0 where
  -- an instruction that does or asks something, begins a gathering, or chooses a branch, by its goal with nothing in its lists; its terms apart
  pub own : form.Goal-F Goal → ℕ
  -- one that begins a rule, by its variables and its head, whose terms are apart
  pub enters : ℕ → List Term → ℕ
  -- one that opens a choice or an inner construct, or goes on with a choice
  pub opening : ℕ
  -- one that leaves a stoppable part
  pub leaving : ℕ
  -- any other instruction
  pub small : ℕ
  -- what an instruction weighs more that gathers a value, or takes values out
  pub gathers : ℕ
  -- a block, its instructions apart
  pub block : ℕ
  -- a node of a term, by its form
  pub node : Term-F Term → ℕ
  -- an instruction that prints a text
  pub text : List ℕ → ℕ

-- ## Code

abbrev pub nodes_weight : Weights → List Term → ℕ
nodes_weight w [] = 0
nodes_weight w (term ∷ terms) = w.node (out-Term term) + nodes_weight w terms

-- Terms, with their nodes at every depth.
abbrev pub terms_weight : Weights → List Term → ℕ
terms_weight w [] = 0
terms_weight w (term ∷ terms) = nodes_weight w (nodes term) + terms_weight w terms

-- The goal of a query of a place or, without one, of all objects, which has one term; for any other stands a goal that no query is.
abbrev pub found_form : Option ℕ → List Term → Bool → form.Goal-F Goal
found_form None (term ∷ []) many = form.IsObject term many
found_form None terms many = form.Forever
found_form (Some place) terms many = form.Holds place terms many

-- A select of so many branches, with nothing in them.
abbrev pub chooses : ℕ → Mode → ℕ → form.Goal-F Goal
chooses site mode n = form.Select site mode (replicate n [])

abbrev pub op_weight : Weights → Op → ℕ
op_weight w (op.Do (action.Text text)) = w.text text
op_weight w (op.Do a) = w.own (form_of a) + terms_weight w (terms_of a)
op_weight w (op.Ask pred terms many next) = w.own (form.Ask pred terms many) + terms_weight w terms
op_weight w (op.LastAsk pred terms many) = w.own (form.Ask pred terms many) + terms_weight w terms
op_weight w (op.Query a b many next) = w.own (form.Query a b many) + terms_weight w (a ∷ option_terms b)
op_weight w (op.LastQuery a b many) = w.own (form.Query a b many) + terms_weight w (a ∷ option_terms b)
op_weight w (op.Find place terms many next) = w.own (found_form place terms many) + terms_weight w terms
op_weight w (op.Select site mode blocks behind) = w.own (chooses site mode (length blocks))
op_weight w (op.Collect term into alt) = w.own (form.Collect term [] into) + terms_weight w (term ∷ into ∷ [])
op_weight w (op.Enter vars head) = w.enters vars head + terms_weight w head
op_weight w (op.Branch alt) = w.opening
op_weight w op.Once = w.opening
op_weight w (op.Try alt) = w.opening
op_weight w (op.Shield alt) = w.opening
op_weight w (op.Retry alt) = w.opening
op_weight w (op.TakeOut whole into) = w.opening + w.gathers
op_weight w (op.Keep term) = w.small + w.gathers
op_weight w op.Leave = w.leaving
op_weight w x = w.small

abbrev pub ops_weight : Weights → List Op → ℕ
ops_weight w [] = 0
ops_weight w (x ∷ ops) = op_weight w x + ops_weight w ops

abbrev pub blocks_weight : Weights → List Block → ℕ
blocks_weight w [] = 0
blocks_weight w (block ∷ blocks) = w.block + ops_weight w block.ops + blocks_weight w blocks

-- ## Goals

-- The lists of goals that a goal holds.
abbrev pub lists_in : form.Goal-F Goal → List (List Goal)
lists_in (form.Either lists) = lists
lists_in (form.Once goals) = goals ∷ []
lists_in (form.Not goals) = goals ∷ []
lists_in (form.If test first other) = test ∷ first ∷ other ∷ []
lists_in (form.Exhaust goals) = goals ∷ []
lists_in (form.Collect a goals b) = goals ∷ []
lists_in (form.Accumulate a goals b) = goals ∷ []
lists_in (form.Stoppable goals) = goals ∷ []
lists_in (form.Select site mode lists) = lists
lists_in goal = []

-- A goal with nothing in its lists; the two ways to gather are one.
abbrev pub bare : form.Goal-F Goal → form.Goal-F Goal
bare (form.Collect a goals b) = form.Collect a [] b
bare (form.Accumulate a goals b) = form.Collect a [] b
bare (form.Select site mode lists) = chooses site mode (length lists)
bare goal = goal

-- What gathers has room for two instructions of gatherings.
abbrev pub gathering_weight : Weights → form.Goal-F Goal → ℕ
gathering_weight w (form.Collect a goals b) = 2 * w.gathers
gathering_weight w (form.Accumulate a goals b) = 2 * w.gathers
gathering_weight w goal = 0

-- What a goal has room for beside its lists: one that only holds lists for what comes behind them, any other for its own instruction, two blocks and
-- what leads to them.
abbrev pub own_weight : Weights → form.Goal-F Goal → ℕ
own_weight w (form.Text text) = w.text text
own_weight w form.Forever = w.opening + w.small + w.block
own_weight w (form.Either lists) = w.small + w.block
own_weight w (form.Once goals) = w.small + w.block
own_weight w (form.Not goals) = w.small + w.block
own_weight w (form.If test first other) = w.small + w.block
own_weight w (form.Exhaust goals) = w.small + w.block
own_weight w (form.Stoppable goals) = w.leaving + w.block
own_weight w goal = w.own (bare goal) + gathering_weight w goal + 3 * w.small + 2 * w.block + terms_weight w (terms_held goal)

-- What the lists of a goal have room for beside their goals.
abbrev pub ways_weight : Weights → List (List Goal) → ℕ
ways_weight w [] = 0
ways_weight w (goals ∷ lists) = w.opening + w.small + w.block + ways_weight w lists

abbrev pub goal_weight : Weights → form.Goal-F Goal → ℕ
goal_weight w goal = own_weight w goal + ways_weight w (lists_in goal)

abbrev pub goals_weight : Weights → List Goal → ℕ
goals_weight w [] = 0
goals_weight w (goal ∷ goals) = goal_weight w (out-Goal goal) + goals_weight w goals

-- A body, with its goals at every depth.
abbrev pub body_weight : Weights → List Goal → ℕ
body_weight w body = goals_weight w (all_goals_of body)

-- Lists that a goal holds, with their goals.
abbrev pub lists_weight : Weights → List (List Goal) → ℕ
lists_weight w [] = 0
lists_weight w (goals ∷ lists) = w.opening + w.small + w.block + body_weight w goals + lists_weight w lists

-- A goal with all that is in it.
abbrev pub whole_weight : Weights → Goal → ℕ
whole_weight w goal = own_weight w (out-Goal goal) + lists_weight w (lists_in (out-Goal goal))

-- ## Programs

-- A rule has room for its head, its answer and their block, and the body of a closure for its answer and the block.
abbrev pub rules_weight : Weights → List Rule → ℕ
rules_weight w [] = 0
rules_weight w (rule ∷ rules) =
    w.enters rule.vars rule.head + w.small + w.block + terms_weight w rule.head + body_weight w rule.body + rules_weight w rules

abbrev pub preds_weight : Weights → List Pred → ℕ
preds_weight w [] = 0
preds_weight w (pred ∷ preds) = rules_weight w pred.rules + preds_weight w preds

abbrev pub closures_weight : Weights → List ClosureBody → ℕ
closures_weight w [] = 0
closures_weight w (closure ∷ closures) = w.small + w.block + body_weight w closure.body + closures_weight w closures

-- The code of a program takes no more room than its goals, rules and closures have, and the first three blocks.
abbrev pub IsLight : Weights → CoreProgram → Code → Type 0
IsLight w program code =
    blocks_weight w code.blocks ≤
    w.own (form.Ask program.entry [] false) + 2 * w.small + 3 * w.block + preds_weight w program.preds + closures_weight w program.closures

-- ## What is being written

-- How many branches a select has while it is written: those left, and those that are blocks.
abbrev pub branches_of : Branching → ℕ
branches_of s = length s.left + length s.blocks.items

-- What is open, with room for what is still to be written of it.
abbrev pub level_weight : Weights → Level → ℕ
level_weight w (level.Inner x others) = op_weight w x + body_weight w others
level_weight w (level.Other test first tail others) =
    w.opening + 2 * w.small + w.block + body_weight w test + body_weight w first + body_weight w others
level_weight w (level.Lists left alt tail others) = w.opening + w.block + lists_weight w left + body_weight w others
level_weight w (level.Branches s others) =
    w.own (chooses s.site s.mode (branches_of s + 1)) + w.block + lists_weight w s.left + body_weight w others

abbrev pub levels_weight : Weights → List Level → ℕ
levels_weight w [] = 0
levels_weight w (l ∷ levels) = level_weight w l + levels_weight w levels

abbrev pub work_weight : Weights → Work → ℕ
work_weight w work = ops_weight w work.ops.items + body_weight w work.goals + levels_weight w work.levels
