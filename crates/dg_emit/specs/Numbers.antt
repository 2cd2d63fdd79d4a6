-- The numbers of the routines of code: one for each rule, from a number on, then those of its blocks and those that find and enter the bodies of closures.
-- Hold it against dg_mid/specs/Code.antt.
use Rattle.std.specs.Prelude.{ℕ, ◌+◌, ◌*◌, List, [], ◌∷◌, length, Option, Some, None}
use Rattle.std.specs.List.{slice_get}
use Rattle.dg_mid.specs.declared.code.Action.TheVariants as action
use Rattle.dg_mid.specs.declared.code.Op.{Op}
use Rattle.dg_mid.specs.declared.code.Op.TheVariants as op
use Rattle.dg_mid.specs.declared.code.Block.{Block}
use Rattle.dg_mid.specs.declared.code.RuleCode.{RuleCode}
use Rattle.dg_mid.specs.declared.code.BodyCode.{BodyCode}
use Rattle.dg_mid.specs.declared.code.Code.{Code}
use Rattle.dg_rt.specs.declared.numbers.TheConstants.{FAIL, LEAVE, NONE as NO_RULE, UNSTOP, KEEP_VALUE}
use Rattle.dg_turn.specs.Sites.{numbers_of, sites_of}
use Rattle.dg_emit.specs.declared.numbers.Numbers.{Numbers}

-- ## Blocks

-- An instruction has one routine, and a query with terms of the world has two. To answer a rule, to stop and to gather a value are
-- routines that every story has.
abbrev pub routines_of_op : Op → ℕ
routines_of_op op.Return = 0
routines_of_op (op.Do action.Stop) = 0
routines_of_op (op.Keep a) = 0
routines_of_op (op.Find place (t ∷ ts) many next) = 2
routines_of_op x = 1

-- Those of a block, and one that fails behind them.
abbrev pub routines_of_ops : List Op → ℕ
routines_of_ops [] = 1
routines_of_ops (x ∷ ops) = routines_of_op x + routines_of_ops ops

abbrev pub blocks_size : List Block → ℕ
blocks_size [] = 0
blocks_size (block ∷ blocks) = routines_of_ops block.ops + blocks_size blocks

-- The routine with which some instructions begin, where their own ones begin with a number.
abbrev pub first_of : ℕ → List Op → ℕ
first_of number (op.Return ∷ ops) = LEAVE
first_of number (op.Do action.Stop ∷ ops) = UNSTOP
first_of number (op.Keep a ∷ ops) = KEEP_VALUE
first_of number ops = number

-- The first routine of each block.
abbrev pub block_starts : ℕ → List Block → List ℕ
block_starts number [] = []
block_starts number (block ∷ blocks) = first_of number block.ops ∷ block_starts (number + routines_of_ops block.ops) blocks

-- ## Rules

-- How many rules there are.
abbrev pub rules_count : List (List RuleCode) → ℕ
rules_count [] = 0
rules_count (rules ∷ preds) = length rules + rules_count preds

-- The routine of the first of some rules, where it has a number; behind the last stands the one for what was found.
abbrev pub first_rule : ℕ → List RuleCode → ℕ
first_rule number [] = NO_RULE
first_rule number (rule ∷ rules) = number

-- The first routine of each predicate's rules.
abbrev pub pred_starts : ℕ → List (List RuleCode) → List ℕ
pred_starts number [] = []
pred_starts number (rules ∷ preds) = first_rule number rules ∷ pred_starts (number + length rules) preds

-- ## Bodies of closures

-- How many routines bodies have: one each, and a fork less than there are bodies.
abbrev pub bodies_size : List BodyCode → ℕ
bodies_size [] = 0
bodies_size (body ∷ bodies) = 1 + 2 * length bodies

-- The routine that finds them, where their routines begin with a number; without closures it is the one that fails.
abbrev pub bodies_start : ℕ → List BodyCode → ℕ
bodies_start number [] = FAIL
bodies_start number (body ∷ bodies) = number

-- ## All

-- The first number behind the routines of blocks, and the one behind all of them.
abbrev pub behind_blocks : ℕ → Code → ℕ
behind_blocks first code = first + rules_count code.preds + blocks_size code.blocks

abbrev pub number_behind : ℕ → Code → ℕ
number_behind first code = behind_blocks first code + bodies_size code.closures

-- Behind them stand the routines of the names of objects, no more than 4,230: the number where the last of them ends at most.
abbrev pub numbers_end : ℕ → Code → ℕ
numbers_end first code = number_behind first code + 4230

-- The numbers of code whose first routine has a number.
abbrev pub numbers_from : ℕ → Code → Numbers
numbers_from first code = record {
  preds = pred_starts first code.preds;
  blocks = block_starts (first + rules_count code.preds) code.blocks;
  find = bodies_start (behind_blocks first code) code.closures;
  sites = numbers_of (sites_of code.blocks);
  objects = number_behind first code;
}

-- The number, or another where there is none.
abbrev pub number_or : ℕ → Option ℕ → ℕ
number_or other None = other
number_or other (Some number) = number

-- The first routine of a block; without such a block, the one that fails.
abbrev pub block_number : Numbers → ℕ → ℕ
block_number numbers block = number_or FAIL (slice_get numbers.blocks block)

-- The first routine of a predicate's rules; without such a predicate, the one behind the last rule.
abbrev pub pred_number : Numbers → ℕ → ℕ
pred_number numbers pred = number_or NO_RULE (slice_get numbers.preds pred)
