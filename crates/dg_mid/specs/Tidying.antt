-- When code that is being written is tidy. Hold it against what is tidy of code that is written.
use Rattle.std.specs.Prelude.{ℕ, List, [], ◌∷◌, ◌≡◌, ◌<◌, Option, Some, None, false, length, reverse}
use Rattle.dg_base.specs.Begins.{Begins}
use Rattle.dg_mid.specs.declared.code.Op.{Op}
use Rattle.dg_mid.specs.declared.code.Op.TheVariants as op
use Rattle.dg_mid.specs.declared.code.Block.{Block}
use Rattle.dg_mid.specs.declared.code.Code.{Code}
use Rattle.dg_mid.specs.declared.writing.Level.{Level}
use Rattle.dg_mid.specs.declared.writing.Level.TheVariants as level
use Rattle.dg_mid.specs.declared.writing.Work.{Work}
use Rattle.dg_mid.specs.Code.{block_at}
use Rattle.dg_mid.specs.Potential.{begins_goto, begins_return, OpTidy}
use Rattle.dg_mid.specs.Seeking.{LeavesFirst}

-- ## Queries

-- A query that could be a last one is, and one of objects for one answer leaves an inner construct first.
abbrev pub OpNeat : Code → Op → Type 0
OpNeat code (op.Find place terms many next) = LeavesFirst code many next
OpNeat code x = OpTidy code x

-- So it is with each of some instructions.
abbrev pub OpsNeat : Code → List Op → Type 0
OpsNeat code [] = Unit {0}
OpsNeat code (x ∷ ops) = OpNeat code x × OpsNeat code ops

-- ## Blocks

-- A block doesn't begin with a jump, its queries go on where they should, and where it keeps a choice it does so with an earlier block.
pub record BlockTidy (code : Code) (b : ℕ) : Type 0 where
  pub no_jump : begins_goto (block_at code b) ≡ false
  pub queries : OpsNeat code (block_at code b)
  pub earlier : (alt : ℕ) (ops : List Op) → block_at code b ≡ op.Retry alt ∷ ops → alt < b

-- In every code that begins with these blocks, each of them is tidy.
abbrev pub BlocksTidy : List Block → Type 0
BlocksTidy blocks = (code : Code) → Begins blocks code.blocks → (b : ℕ) → b < length blocks → BlockTidy code b

-- The block is there, and in every code that begins with these blocks it begins with more than the answer of a rule.
pub record DoesMore (blocks : List Block) (b : ℕ) : Type 0 where
  pub there : b < length blocks
  pub more : (code : Code) → Begins blocks code.blocks → begins_return (block_at code b) ≡ false

-- ## Instructions

-- A jump that comes first stands alone and goes to more than an answer, an answer that comes first stands alone, and no choice is kept.
abbrev pub FirstTidy : List Block → List Op → Type 0
FirstTidy blocks (op.Goto b ∷ ops) = (ops ≡ []) × DoesMore blocks b
FirstTidy blocks (op.Return ∷ ops) = ops ≡ []
FirstTidy blocks (op.Retry alt ∷ ops) = ⊥
FirstTidy blocks ops = Unit {0}

-- Blocks are tidy, and so are the instructions that are being written.
pub record Neat (blocks : List Block) (ops : List Op) : Type 0 where
  pub blocks_are : BlocksTidy blocks
  pub first : FirstTidy blocks ops
  pub queries : (code : Code) → Begins blocks code.blocks → OpsNeat code ops

-- An instruction that may go in front of any others: no jump, no answer, no query that goes on at a block, and none that keeps a choice.
abbrev pub IsPlain : Op → Type 0
IsPlain (op.Goto b) = ⊥
IsPlain op.Return = ⊥
IsPlain (op.Retry alt) = ⊥
IsPlain (op.Ask pred terms many next) = ⊥
IsPlain (op.Query a b many next) = ⊥
IsPlain (op.Find place terms many next) = ⊥
IsPlain x = Unit {0}

-- ## What is open

-- What two ways end with: an answer, or a block that does more.
abbrev pub TailTidy : List Block → Option ℕ → Type 0
TailTidy blocks None = Unit {0}
TailTidy blocks (Some b) = DoesMore blocks b

-- The block of the next list of a choice is there.
abbrev pub IsThere : List Block → Option ℕ → Type 0
IsThere blocks None = Unit {0}
IsThere blocks (Some b) = b < length blocks

-- What comes when the goals at hand are written.
abbrev pub LevelTidy : List Block → Level → Type 0
LevelTidy blocks (level.Inner x others) = IsPlain x
LevelTidy blocks (level.Other test first tail others) = TailTidy blocks tail
LevelTidy blocks (level.Lists left alt tail others) = IsThere blocks alt × TailTidy blocks tail
LevelTidy blocks (level.Branches s others) = TailTidy blocks s.tail

-- So is all that is open.
abbrev pub LevelsTidy : List Block → List Level → Type 0
LevelsTidy blocks [] = Unit {0}
LevelsTidy blocks (l ∷ levels) = LevelTidy blocks l × LevelsTidy blocks levels

-- What is being written is tidy.
pub record WorkTidy (blocks : List Block) (work : Work) : Type 0 where
  pub neat : Neat blocks (reverse work.ops.items)
  pub levels : LevelsTidy blocks (reverse work.levels)

-- ## What a block that was made is

-- The blocks are tidy with it, it is there, and it does more than answer where its instructions do.
pub record LandsTidy (new : List Block) (ops : List Op) (b : ℕ) : Type 0 where
  pub blocks_are : BlocksTidy new
  pub there : b < length new
  pub more : begins_return ops ≡ false → DoesMore new b
