-- Which code stands for which goals. Hold it against the Dialog manual, chapters "Choice points" and "Control flow".
use Rattle.std.specs.Prelude.{ℕ, ◌≡◌, List, [], ◌∷◌, ◌++◌, Bool, true, false, Option, Some, None, slice_get}
use Rattle.dg_base.specs.declared.program.Goal.{Goal}
use Rattle.dg_base.specs.declared.program.Goal.TheVariants as goal
use Rattle.dg_base.specs.declared.program.Term.{Term}
use Rattle.dg_base.specs.declared.program.Mode.{Mode}
use Rattle.dg_base.specs.declared.program.Rule.{Rule}
use Rattle.dg_base.specs.declared.program.ClosureBody.{ClosureBody}
use Rattle.dg_base.specs.declared.program.CoreProgram.{CoreProgram}
use Rattle.dg_meaning.specs.Moves.{rules_of}
use Rattle.dg_mid.specs.declared.code.Op.{Op}
use Rattle.dg_mid.specs.declared.code.Op.TheVariants as op
use Rattle.dg_mid.specs.declared.code.Action.{Action}
use Rattle.dg_mid.specs.declared.code.Gathered.TheVariants as gathered
use Rattle.dg_mid.specs.declared.code.RuleCode.{RuleCode}
use Rattle.dg_mid.specs.declared.code.BodyCode.{BodyCode}
use Rattle.dg_mid.specs.declared.code.Code.{Code}
use Rattle.dg_mid.specs.Code.{block_at, rules_at, label_of, first_label}
use Rattle.dg_mid.specs.Actions.{goal_of}

-- ## Goals

-- What comes behind goals: their rule is answered, an inner construct or a stoppable part is left and these goals follow, what is negated or
-- exhausted was answered, a term is gathered, or the run is done.
pub data End : Type 0 where
  Returns : End
  Commits : (goals : List Goal) → (end : End) → End
  Refuses : End
  Backs : End
  Leaves : (goals : List Goal) → (end : End) → End
  Keeps : (term : Term) → End
  Finishes : End

-- The goals where an object is found, and what comes behind them: where one answer is wanted an inner construct is left first.
abbrev pub found_goals : Bool → List Goal → List Goal
found_goals true goals = goals
found_goals false goals = []

abbrev pub found_end : Bool → List Goal → End → End
found_end true goals end = end
found_end false goals end = Commits goals end

-- These instructions stand for these goals and what comes behind them; the code from a block on stands for the lists between (or) that are left, each
-- with these goals behind it; so does each of some blocks for each branch of a select.
mutual
  pub data Stands (code : Code) : List Op → List Goal → End → Type 0 where
    -- the code lies at another place
    jumps : (b : ℕ) (ops : List Op) (goals : List Goal) (end : End) → Stands code (block_at code b) goals end → Stands code (op.Goto b ∷ ops) goals end
    -- no goal is left
    returns : (ops : List Op) → Stands code (op.Return ∷ ops) [] Returns
    commits : (ops : List Op) (goals : List Goal) (end : End) → Stands code ops goals end → Stands code (op.Commit ∷ ops) [] (Commits goals end)
    refuses : (ops : List Op) → Stands code (op.Refuse ∷ ops) [] Refuses
    backs : (ops : List Op) → Stands code (op.Back ∷ ops) [] Backs
    leaves : (ops : List Op) (goals : List Goal) (end : End) → Stands code ops goals end → Stands code (op.Leave ∷ ops) [] (Leaves goals end)
    keeps : (term : Term) (ops : List Op) → Stands code (op.Keep term ∷ ops) [] (Keeps term)
    finishes : (ops : List Op) → Stands code (op.Done ∷ ops) [] Finishes
    -- a goal that is done at once
    acts : (a : Action) (ops : List Op) (goals : List Goal) (end : End) → Stands code ops goals end →
        Stands code (op.Do a ∷ ops) (goal_of a ∷ goals) end
    -- a query, which goes on at a block; the last of a rule needs none
    ask : (pred : ℕ) (terms : List Term) (many : Bool) (next : ℕ) (ops : List Op) (goals : List Goal) (end : End) →
        Stands code (block_at code next) goals end → Stands code (op.Ask pred terms many next ∷ ops) (goal.Ask pred terms many ∷ goals) end
    last_ask : (pred : ℕ) (terms : List Term) (many : Bool) (ops : List Op) →
        Stands code (op.LastAsk pred terms many ∷ ops) (goal.Ask pred terms many ∷ []) Returns
    -- a query of a closure, which goes on at a block; the last of a rule needs none
    query : (a : Term) (b : Option Term) (many : Bool) (next : ℕ) (ops : List Op) (goals : List Goal) (end : End) →
        Stands code (block_at code next) goals end → Stands code (op.Query a b many next ∷ ops) (goal.Query a b many ∷ goals) end
    last_query : (a : Term) (b : Option Term) (many : Bool) (ops : List Op) →
        Stands code (op.LastQuery a b many ∷ ops) (goal.Query a b many ∷ []) Returns
    -- a query of a place of the world, and of all objects, which goes on at a block where an object is found
    holds : (place : ℕ) (terms : List Term) (many : Bool) (next : ℕ) (ops : List Op) (goals : List Goal) (end : End) →
        Stands code ops goals end → Stands code (block_at code next) (found_goals many goals) (found_end many goals end) →
        Stands code (op.Find (Some place) terms many next ∷ ops) (goal.Holds place terms many ∷ goals) end
    objects : (term : Term) (many : Bool) (next : ℕ) (ops : List Op) (goals : List Goal) (end : End) →
        Stands code ops goals end → Stands code (block_at code next) (found_goals many goals) (found_end many goals end) →
        Stands code (op.Find None (term ∷ []) many next ∷ ops) (goal.IsObject term many ∷ goals) end
    -- a goal with inner ones
    only : (list : List Goal) (ops : List Op) (goals : List Goal) (end : End) →
        Stands code ops (list ++ goals) end → Stands code (op.Take ∷ ops) (goal.Either (list ∷ []) ∷ goals) end
    either : (alt : ℕ) (list second : List Goal) (lists : List (List Goal)) (ops : List Op) (goals : List Goal) (end : End) →
        Stands code ops (list ++ goals) end → Others code alt (second ∷ lists) goals end →
        Stands code (op.Branch alt ∷ ops) (goal.Either (list ∷ second ∷ lists) ∷ goals) end
    selects : (site : ℕ) (mode : Mode) (blocks : List ℕ) (lists : List (List Goal)) (behind : ℕ) (ops : List Op) (goals : List Goal) (end : End) →
        Branches code blocks lists goals end → Stands code (block_at code behind) goals end →
        Stands code (op.Select site mode blocks behind ∷ ops) (goal.Select site mode lists ∷ goals) end
    once : (inner : List Goal) (ops : List Op) (goals : List Goal) (end : End) →
        Stands code ops inner (Commits goals end) → Stands code (op.Once ∷ ops) (goal.Once inner ∷ goals) end
    negates : (alt : ℕ) (inner : List Goal) (ops : List Op) (goals : List Goal) (end : End) →
        Stands code ops inner Refuses → Stands code (block_at code alt) goals end → Stands code (op.Try alt ∷ ops) (goal.Not inner ∷ goals) end
    branch : (alt : ℕ) (test first other : List Goal) (ops : List Op) (goals : List Goal) (end : End) →
        Stands code ops test (Commits (first ++ goals) end) → Stands code (block_at code alt) (other ++ goals) end →
        Stands code (op.Try alt ∷ ops) (goal.If test first other ∷ goals) end
    exhausts : (alt : ℕ) (inner : List Goal) (ops : List Op) (goals : List Goal) (end : End) →
        Stands code ops inner Backs → Stands code (block_at code alt) goals end → Stands code (op.Try alt ∷ ops) (goal.Exhaust inner ∷ goals) end
    shields : (alt : ℕ) (inner : List Goal) (ops : List Op) (goals : List Goal) (end : End) →
        Stands code ops inner (Leaves goals end) → Stands code (block_at code alt) goals end →
        Stands code (op.Shield alt ∷ ops) (goal.Stoppable inner ∷ goals) end
    collects : (term into : Term) (alt : ℕ) (inner : List Goal) (ops others : List Op) (goals : List Goal) (end : End) →
        Stands code ops inner (Keeps term) → block_at code alt ≡ op.TakeOut gathered.List into ∷ others → Stands code others goals end →
        Stands code (op.Collect term into alt ∷ ops) (goal.Collect term inner into ∷ goals) end
    accumulates : (term into : Term) (alt : ℕ) (inner : List Goal) (ops others : List Op) (goals : List Goal) (end : End) →
        Stands code ops inner (Keeps term) → block_at code alt ≡ op.TakeOut gathered.Sum into ∷ others → Stands code others goals end →
        Stands code (op.Collect term into alt ∷ ops) (goal.Accumulate term inner into ∷ goals) end
    forever : (b : ℕ) (ops : List Op) (goals : List Goal) (end : End) →
        block_at code b ≡ op.Branch b ∷ ops → Stands code ops goals end → Stands code (op.Branch b ∷ ops) (goal.Forever ∷ goals) end

  pub data Others (code : Code) : ℕ → List (List Goal) → List Goal → End → Type 0 where
    last_list : (b : ℕ) (list goals : List Goal) (end : End) → Stands code (block_at code b) (list ++ goals) end → Others code b (list ∷ []) goals end
    more_lists : (b alt : ℕ) (ops : List Op) (list second : List Goal) (lists : List (List Goal)) (goals : List Goal) (end : End) →
        block_at code b ≡ op.Retry alt ∷ ops → Stands code ops (list ++ goals) end → Others code alt (second ∷ lists) goals end →
        Others code b (list ∷ second ∷ lists) goals end

  pub data Branches (code : Code) : List ℕ → List (List Goal) → List Goal → End → Type 0 where
    no_branch : (goals : List Goal) (end : End) → Branches code [] [] goals end
    a_branch : (b : ℕ) (blocks : List ℕ) (list : List Goal) (lists : List (List Goal)) (goals : List Goal) (end : End) →
        Stands code (block_at code b) (list ++ goals) end → Branches code blocks lists goals end → Branches code (b ∷ blocks) (list ∷ lists) goals end

-- ## Rules

-- The code of a rule stands for it.
pub record RuleStands (code : Code) (c : RuleCode) (rule : Rule) : Type 0 where
  pub ops : List Op
  pub block : block_at code c.block ≡ op.Enter rule.vars rule.head ∷ ops
  pub body : Stands code ops rule.body Returns
  pub key_is : label_of c.key ≡ first_label rule.head

-- So it is for each of some rules.
abbrev pub RulesStand : Code → List RuleCode → List Rule → Type 0
RulesStand code [] [] = Unit {0}
RulesStand code (c ∷ cs) (rule ∷ rules) = RuleStands code c rule × RulesStand code cs rules
RulesStand code cs rules = ⊥

-- The code of the body of a closure stands for it; without the one there is none of the other.
abbrev pub BodyStands : Code → Option BodyCode → Option ClosureBody → Type 0
BodyStands code None None = Unit {0}
BodyStands code (Some c) (Some closure) = (c.own ≡ closure.own) × Stands code (block_at code c.block) closure.body Returns
BodyStands code c closure = ⊥

-- The code stands for the program: for each of its rules and closures, and from block 1 on for the query of its entry; block 0 answers a rule.
pub record Codes (program : CoreProgram) (code : Code) : Type 0 where
  pub rules : (pred : ℕ) → RulesStand code (rules_at code pred) (rules_of (slice_get program.preds pred))
  pub bodies : (n : ℕ) → BodyStands code (slice_get code.closures n) (slice_get program.closures n)
  pub answers : block_at code 0 ≡ op.Return ∷ []
  pub starts : Stands code (block_at code 1) (goal.Ask program.entry [] false ∷ []) Finishes
