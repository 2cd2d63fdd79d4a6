-- What code that is being written stands for: it is written from the last goal to the first, and what was written stays. Hold it against the Dialog
-- manual, chapter "Choice points".
use Rattle.std.specs.Prelude.{ℕ, ◌+◌, ◌*◌, ◌≤◌, List, [], ◌∷◌, ◌++◌, ◌≡◌, Option, Some, None, Bool, false, reverse}
use Rattle.std.specs.List.{slice_get}
use Rattle.dg_base.specs.declared.program.Goal.{Goal}
use Rattle.dg_base.specs.declared.program.Goal.TheVariants as goal
use Rattle.dg_base.specs.declared.program.Term.{Term}
use Rattle.dg_base.specs.declared.program.Rule.{Rule}
use Rattle.dg_base.specs.declared.program.Pred.{Pred}
use Rattle.dg_base.specs.declared.program.ClosureBody.{ClosureBody}
use Rattle.dg_base.specs.Begins.{Begins}
use Rattle.dg_meaning.specs.Moves.{rules_of}
use Rattle.dg_mid.specs.declared.code.Op.{Op}
use Rattle.dg_mid.specs.declared.code.Op.TheVariants as op
use Rattle.dg_mid.specs.declared.code.Block.{Block}
use Rattle.dg_mid.specs.declared.code.Gathered.{Gathered}
use Rattle.dg_mid.specs.declared.code.Gathered.TheVariants as gathered
use Rattle.dg_mid.specs.declared.code.RuleCode.{RuleCode}
use Rattle.dg_mid.specs.declared.code.BodyCode.{BodyCode}
use Rattle.dg_mid.specs.declared.code.Code.{Code}
use Rattle.dg_mid.specs.declared.writing.Level.{Level}
use Rattle.dg_mid.specs.declared.writing.Level.TheVariants as level
use Rattle.dg_mid.specs.declared.writing.Work.{Work}
use Rattle.dg_mid.specs.declared.branches.Branching.{Branching}
use Rattle.dg_mid.specs.Code.{block_at, codes_of}
use Rattle.dg_mid.specs.Seeking.{LeavesFirst}
use Rattle.dg_mid.specs.Tidying.{BlocksTidy, Neat, LandsTidy, TailTidy, IsThere, WorkTidy}
use Rattle.dg_mid.specs.Weights.{Weights, ops_weight, blocks_weight, body_weight, work_weight}
use Rattle.dg_mid.specs.Codes.{End, Stands, RuleStands, RulesStand, Others, Branches, BodyStands, found_goals, found_end}

-- ## Growing

-- In every code that begins with these blocks, the instructions stand for the goals and what comes behind them.
abbrev pub StandsFor : List Block → List Op → List Goal → End → Type 0
StandsFor blocks ops goals end = (code : Code) → Begins blocks code.blocks → Stands code ops goals end

-- Whatever the old instructions stand for, the new ones stand for these goals in front of it; they stay tidy, and weigh no more than the goals do.
pub record PutsFirst (goals : List Goal) (old new : List Block) (before after : List Op) : Type 0 where
  pub stands : (rest : List Goal) (end : End) → StandsFor old before rest end → StandsFor new after (goals ++ rest) end
  pub neat : Neat old before → Neat new after
  pub light : (w : Weights) → blocks_weight w new + ops_weight w after ≤ blocks_weight w old + ops_weight w before + body_weight w goals

-- In every code that begins with these blocks, the block stands for the goals and what comes behind them.
abbrev pub BlockFor : List Block → ℕ → List Goal → End → Type 0
BlockFor blocks b goals end = (code : Code) → Begins blocks code.blocks → Stands code (block_at code b) goals end

-- Whatever the instructions stand for, the block does; it is tidy where they are, and weighs no more than they do in a block of their own.
pub record Lands (old new : List Block) (ops : List Op) (b : ℕ) : Type 0 where
  pub stands : (rest : List Goal) (end : End) → StandsFor old ops rest end → BlockFor new b rest end
  pub neat : Neat old ops → LandsTidy new ops b
  pub light : (w : Weights) → blocks_weight w new ≤ blocks_weight w old + w.block + ops_weight w ops

-- What two ways end with stands for these goals: the answer of a rule, or a block.
abbrev pub TailFor : List Block → Option ℕ → List Goal → End → Type 0
TailFor blocks None goals end = StandsFor blocks (op.Return ∷ []) goals end
TailFor blocks (Some b) goals end = BlockFor blocks b goals end

-- Whatever the instructions stand for, what two ways end with does; it is tidy where they are.
pub record Shares (old new : List Block) (ops : List Op) (tail : Option ℕ) : Type 0 where
  pub stands : (rest : List Goal) (end : End) → StandsFor old ops rest end → TailFor new tail rest end
  pub neat : Neat old ops → BlocksTidy new × TailTidy new tail
  pub light : (w : Weights) → blocks_weight w new ≤ blocks_weight w old + w.block + ops_weight w ops

-- Where a block stands for goals, another stands for them where an object is found: it leaves an inner construct first, where one answer is wanted. The
-- blocks stay tidy.
pub record FoundAt (old new : List Block) (many : Bool) (behind b : ℕ) : Type 0 where
  pub blocks : Begins old new
  pub stands : (rest : List Goal) (end : End) → BlockFor old behind rest end → BlockFor new b (found_goals many rest) (found_end many rest end)
  pub leaves : (code : Code) → Begins new code.blocks → LeavesFirst code many b
  pub neat : BlocksTidy old → BlocksTidy new
  pub light : (w : Weights) → blocks_weight w new ≤ blocks_weight w old + 2 * w.small + w.block

-- The block stands for what two ways end with; the blocks stay tidy.
pub record EndsAt (old new : List Block) (tail : Option ℕ) (b : ℕ) : Type 0 where
  pub stands : (rest : List Goal) (end : End) → TailFor old tail rest end → BlockFor new b rest end
  pub neat : BlocksTidy old → BlocksTidy new
  pub light : (w : Weights) → blocks_weight w new ≤ blocks_weight w old + w.small + w.block

-- The instructions of what a way ends with.
abbrev pub tail_ops : Option ℕ → List Op
tail_ops None = op.Return ∷ []
tail_ops (Some b) = op.Goto b ∷ []

-- The code from a block on stands for these lists of a choice, each with the goals behind it; without a block there are none.
abbrev pub OthersFor : List Block → Option ℕ → List (List Goal) → List Goal → End → Type 0
OthersFor blocks None lists goals end = lists ≡ []
OthersFor blocks (Some b) lists goals end = (code : Code) → Begins blocks code.blocks → Others code b lists goals end

-- Whatever list the instructions stand for, the code from the block on stands for it and the lists behind it; it is tidy where they are.
pub record ListLands (old new : List Block) (ops : List Op) (alt : Option ℕ) (b : ℕ) : Type 0 where
  pub stands : (list : List Goal) (lists : List (List Goal)) (rest : List Goal) (end : End) → StandsFor old ops (list ++ rest) end →
      OthersFor old alt lists rest end → OthersFor new (Some b) (list ∷ lists) rest end
  pub neat : Neat old ops → IsThere old alt → BlocksTidy new × IsThere new (Some b)
  pub light : (w : Weights) → blocks_weight w new ≤ blocks_weight w old + w.opening + w.block + ops_weight w ops

-- What comes behind a list of a choice: the choice itself where it is the first, else the lists in front of it.
abbrev pub after_list : List (List Goal) → ℕ → Option ℕ → List Goal → Level
after_list [] b tail others = level.Inner (op.Branch b) others
after_list (list ∷ lists) b tail others = level.Lists (list ∷ lists) (Some b) tail others

-- Each of some blocks stands for its branch of a select with the goals behind it.
abbrev pub BranchesFor : List Block → List ℕ → List (List Goal) → List Goal → End → Type 0
BranchesFor blocks bs lists goals end = (code : Code) → Begins blocks code.blocks → Branches code bs lists goals end

-- The goal that gathers.
abbrev pub gathers : Gathered → Term → List Goal → Term → Goal
gathers gathered.List term inner into = goal.Collect term inner into
gathers gathered.Sum term inner into = goal.Accumulate term inner into

-- ## What is open

-- An instruction in front of code that stands for goals, with what comes behind them, makes code for others.
abbrev pub Wraps : List Block → Op → List Goal → End → List Goal → End → Type 0
Wraps blocks x goals end outer behind =
    (code : Code) → Begins blocks code.blocks → (ops : List Op) → Stands code ops goals end → Stands code (x ∷ ops) outer behind

-- Code for these goals comes, by what is open, the next first, to code for those that are wanted.
abbrev pub Leads : List Block → List Level → List Goal → End → List Goal → End → Type 0
Leads blocks [] goals end wanted last = (goals ≡ wanted) × (end ≡ last)
Leads blocks (level.Inner x others ∷ levels) goals end wanted last =
    (outer : List Goal) × (behind : End) × Wraps blocks x goals end outer behind × Leads blocks levels (others ++ outer) behind wanted last
Leads blocks (level.Other test first tail others ∷ levels) goals end wanted last =
    (other : List Goal) × (rest : List Goal) × (goals ≡ other ++ rest) × TailFor blocks tail rest end
    × Leads blocks levels (others ++ goal.If test first other ∷ rest) end wanted last
Leads blocks (level.Lists left alt tail others ∷ levels) goals end wanted last =
    (list : List Goal) × (rest : List Goal) × (lists : List (List Goal)) × (goals ≡ list ++ rest)
    × OthersFor blocks alt lists rest end × TailFor blocks tail rest end
    × Leads blocks levels (others ++ goal.Either (left ++ list ∷ lists) ∷ rest) end wanted last
Leads blocks (level.Branches s others ∷ levels) goals end wanted last =
    (list : List Goal) × (rest : List Goal) × (lists : List (List Goal)) × (goals ≡ list ++ rest)
    × BranchesFor blocks (reverse s.blocks.items) lists rest end × TailFor blocks s.tail rest end × BlockFor blocks s.behind rest end
    × Leads blocks levels (others ++ goal.Select s.site s.mode (s.left ++ list ∷ lists) ∷ rest) end wanted last

-- A select with the goals in front of it, of which some branches are written, comes to code for the goals that are wanted.
pub record AtBranch (blocks : List Block) (s : Branching) (others : List Goal) (levels : List Level) (wanted : List Goal) (last : End) : Type 0 where
  pub lists : List (List Goal)
  pub rest : List Goal
  pub end : End
  pub branches : BranchesFor blocks (reverse s.blocks.items) lists rest end
  pub tail : TailFor blocks s.tail rest end
  pub behind : BlockFor blocks s.behind rest end
  pub leads : Leads blocks levels (others ++ goal.Select s.site s.mode (s.left ++ lists) ∷ rest) end wanted last

-- What is being written comes to code for the goals that are wanted.
pub record ComesTo (blocks : List Block) (work : Work) (wanted : List Goal) (last : End) : Type 0 where
  pub rest : List Goal
  pub end : End
  pub stands : StandsFor blocks (reverse work.ops.items) rest end
  pub leads : Leads blocks (reverse work.levels) (work.goals ++ rest) end wanted last

-- Blocks are only added, and what is being written comes to what it did, stays tidy and weighs no more.
pub record Moves (old : List Block) (before : Work) (new : List Block) (after : Work) : Type 0 where
  pub blocks : Begins old new
  pub neat : WorkTidy old before → WorkTidy new after
  pub light : (w : Weights) → blocks_weight w new + work_weight w after ≤ blocks_weight w old + work_weight w before
  pub comes : (wanted : List Goal) (last : End) → ComesTo old before wanted last → ComesTo new after wanted last

-- What is being written, with one more goal to write first.
abbrev pub with_goal : Goal → Work → Work
with_goal g work = record work { goals = work.goals ++ g ∷ [] }

-- What is being written, with one more level that goes on next.
abbrev pub with_level : Level → Work → Work
with_level l work = record work { levels = work.levels ++ l ∷ [] }

-- ## Rules

-- In every code that begins with these blocks, the code of a rule stands for it.
abbrev pub RuleFor : List Block → RuleCode → Rule → Type 0
RuleFor blocks c rule = (code : Code) → Begins blocks code.blocks → RuleStands code c rule

-- So it is for each of some rules.
abbrev pub RulesFor : List Block → List RuleCode → List Rule → Type 0
RulesFor blocks codes rules = (code : Code) → Begins blocks code.blocks → RulesStand code codes rules

-- So it is for the rules of each predicate.
abbrev pub PredsFor : List Block → List (List RuleCode) → List Pred → Type 0
PredsFor blocks codes preds =
    (code : Code) → Begins blocks code.blocks → (pred : ℕ) → RulesStand code (codes_of (slice_get codes pred)) (rules_of (slice_get preds pred))

-- In every code that begins with these blocks, the code of the body of a closure stands for it.
abbrev pub BodyFor : List Block → BodyCode → ClosureBody → Type 0
BodyFor blocks c closure = (code : Code) → Begins blocks code.blocks → BodyStands code (Some c) (Some closure)

-- So it is for each of some closures.
abbrev pub BodiesFor : List Block → List BodyCode → List ClosureBody → Type 0
BodiesFor blocks codes closures = (code : Code) → Begins blocks code.blocks → (n : ℕ) → BodyStands code (slice_get codes n) (slice_get closures n)

-- The first blocks of a program: the answer of a rule, the query of the entry, and the end of the run.
abbrev pub starting : ℕ → List Block
starting entry = record { ops = op.Return ∷ [] } ∷ record { ops = op.Ask entry [] false 2 ∷ [] } ∷ record { ops = op.Done ∷ [] } ∷ []
