-- Routines that lie in a story in the order of their numbers stand for its code. Hold it against dg_emit/specs/Code.antt and dg_chain/specs/Routines.antt.
use Rattle.std.specs.Prelude.{◌≡◌, ℕ, ◌+◌, ◌≤◌, List, [], ◌∷◌, length, Some}
use Rattle.std.specs.List.{slice_get}
use Rattle.dg_mid.specs.declared.code.BodyCode.{BodyCode}
use Rattle.dg_mid.specs.declared.code.Code.{Code}
use Rattle.dg_mid.specs.declared.code.Op.{Op}
use Rattle.dg_mid.specs.declared.code.Op.TheVariants as op
use Rattle.dg_mid.specs.Calls.{AllEnterWith}
use Rattle.dg_mid.specs.Code.{block_at, rules_at}
use Rattle.z_lang.specs.declared.act.Routine.{Routine}
use Rattle.dg_rt.specs.CopiesIn.{HasCaptures}
use Rattle.dg_turn.specs.Told.{Telling, told_count}
use Rattle.dg_rt.specs.Words.{HasWords}
use Rattle.dg_turn.specs.Plays.{Playing}
use Rattle.dg_turn.specs.Rules.{keyed}
use Rattle.dg_turn.specs.Typing.{HasTables}
use Rattle.dg_turn.specs.Sites.{sites_of, HasSites}
use Rattle.dg_turn.specs.World.{HasWorld}
use Rattle.dg_emit.specs.Numbers.{numbers_from, block_number}
use Rattle.dg_emit.specs.Code.{code_routines, CodeFits}
use Rattle.dg_chain.specs.Routines.{BlocksAt}

-- ## Where they lie

-- The routines of code have their numbers in a story, from a number on, each block is where its first one is, the story's selects are those of the code,
-- and it tells how many values closures capture.
pub record CodeIsLaid (t : Telling) (first : ℕ) (code : Code) : Type 0 where
  pub has : (k : ℕ) (r : Routine) → slice_get (code_routines t.program first code) k ≡ Some r →
      t.p.routine_at (t.p.names.routine (first + k)) ≡ Some r
  pub blocks : (b : ℕ) → t.at_block b ≡ t.p.names.routine (block_number (numbers_from first code) b)
  pub told : HasCaptures t.p t.story (told_count t.program)
  pub sites : t.sites ≡ sites_of code.blocks
  pub has_sites : HasSites t

-- ## Code that suits

-- A query of a predicate has as many terms as the heads of its rules; a rule has at most 300 variables.
abbrev pub OpCalls : Code → Op → Type 0
OpCalls code (op.Ask pred terms many next) = AllEnterWith (length terms) code (rules_at code pred)
OpCalls code (op.LastAsk pred terms many) = AllEnterWith (length terms) code (rules_at code pred)
OpCalls code (op.Enter vars head) = vars ≤ 300
OpCalls code x = Unit {0}

-- So it is with each of some instructions.
abbrev pub OpsCall : Code → List Op → Type 0
OpsCall code [] = Unit {0}
OpsCall code (x ∷ ops) = OpCalls code x × OpsCall code ops

-- Each instruction of a block calls as it should.
abbrev pub BlockSuits : Code → ℕ → Type 0
BlockSuits code b = OpsCall code (block_at code b)

-- The bodies of closures have at most 300 variables of their own each.
abbrev pub BodiesAreFew : List BodyCode → Type 0
BodiesAreFew [] = Unit {0}
BodiesAreFew (body ∷ bodies) = (body.own ≤ 300) × BodiesAreFew bodies

-- No predicate has more than 2,200 rules that have a key.
abbrev pub KeysAreFew : Code → Type 0
KeysAreFew code = (pred : ℕ) → keyed (rules_at code pred) ≤ 2200

-- ## The law

-- Where they lie so in a story whose world may be written, and which has the tables of its program, they stand for code that fits and suits.
abbrev pub BlocksStand : Type 0
BlocksStand = (t : Telling) → Playing t → HasWorld t → HasTables t → HasWords t.p t.story t.program.words → (first : ℕ) (code : Code) →
    CodeIsLaid t first code → CodeFits t.program code → ((b : ℕ) → BlockSuits code b) → BodiesAreFew code.closures → KeysAreFew code →
    BlocksAt t code
