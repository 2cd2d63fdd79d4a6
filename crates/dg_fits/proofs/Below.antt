-- All numbers of code are those of routines.
use Rattle.std.specs.Prelude.{take}
use Rattle.std.proofs.Common.{◌≡◌, ℕ, zero, suc, ◌+◌, ◌*◌, ◌/◌, ◌<◌, ◌≤◌, List, [], ◌∷◌, ◌++◌, length, drop, refl, arith, length-append, length-drop}
use Rattle.std.specs.List.{slice_get}
use Rattle.std.proofs.lemmas.List.{length-take-le}
use Rattle.dg_base.specs.declared.program.CoreProgram.{CoreProgram}
use Rattle.dg_mid.specs.declared.code.Action.TheVariants as action
use Rattle.dg_mid.specs.declared.code.Op.{Op}
use Rattle.dg_mid.specs.declared.code.Op.TheVariants as op
use Rattle.dg_mid.specs.declared.code.Block.{Block}
use Rattle.dg_mid.specs.declared.code.BodyCode.{BodyCode}
use Rattle.dg_mid.specs.declared.code.RuleCode.{RuleCode}
use Rattle.dg_mid.specs.declared.code.Code.{Code}
use Rattle.dg_rt.specs.RunTime.{runtime}
use Rattle.dg_turn.specs.Names.{objects_routines}
use Rattle.dg_emit.specs.declared.numbers.Numbers.{Numbers}
use Rattle.dg_emit.specs.Numbers.{routines_of_op, routines_of_ops, blocks_size, bodies_size, rules_count, first_of, first_rule, block_starts, pred_starts, bodies_start, behind_blocks, number_behind, numbers_from, number_or, block_number, pred_number}
use Rattle.dg_emit.specs.Bodies.{bodies_routines}
use Rattle.dg_emit.specs.Code.{op_routines, ops_routines, blocks_routines, rules_routines, preds_routines, code_routines}

pub record AreBelow (numbers : Numbers) (count : ℕ) : Type 0 where
  pub block : (b : ℕ) → block_number numbers b < count
  pub pred : (p : ℕ) → pred_number numbers p < count
  pub find : numbers.find < count
  pub objects : numbers.objects < count

pub ops_some : (ops : List Op) → 1 ≤ routines_of_ops ops
ops_some [] = omega arith
ops_some (x ∷ ops) = omega (arith, ops_some ops)

module _ (count : ℕ) (many : 1 + length runtime ≤ count) where
  pub first_below : (k : ℕ) (ops : List Op) → k + routines_of_ops ops ≤ count → first_of k ops < count
  first_below k [] le = omega arith
  first_below k (op.Return ∷ ops) le = omega arith
  first_below k (op.Do action.Stop ∷ ops) le = omega arith
  first_below k (op.Keep a ∷ ops) le = omega arith
  first_below k (op.Do a ∷ ops) le = omega (arith, ops_some ops)
  first_below k (x ∷ ops) le = omega (arith, ops_some ops)

  block_below : (k : ℕ) (blocks : List Block) (b : ℕ) → k + blocks_size blocks ≤ count → number_or 21 (slice_get (block_starts k blocks) b) < count
  block_below k [] b le = omega arith
  block_below k (block ∷ blocks) zero le = first_below k block.ops (omega arith)
  block_below k (block ∷ blocks) (suc b) le = block_below (k + routines_of_ops block.ops) blocks b (omega arith)

  pub rule_below : (k : ℕ) (rules : List RuleCode) → k + length rules ≤ count → first_rule k rules < count
  rule_below k [] le = omega arith
  rule_below k (rule ∷ rules) le = omega arith

  pred_below : (k : ℕ) (preds : List (List RuleCode)) (p : ℕ) → k + rules_count preds ≤ count → number_or 26 (slice_get (pred_starts k preds) p) < count
  pred_below k [] p le = omega arith
  pred_below k (rules ∷ preds) zero le = rule_below k rules (omega arith)
  pred_below k (rules ∷ preds) (suc p) le = pred_below (k + length rules) preds p (omega arith)

  find_below : (k : ℕ) (bodies : List BodyCode) → k + bodies_size bodies ≤ count → bodies_start k bodies < count
  find_below k [] le = omega arith
  find_below k (body ∷ bodies) le = omega arith

  pub numbers_below : (first : ℕ) (code : Code) → number_behind first code < count → AreBelow (numbers_from first code) count
  numbers_below first code le = record {
    block = λ b. block_below (first + rules_count code.preds) code.blocks b (omega arith);
    pred = λ p. pred_below first code.preds p (omega arith);
    find = find_below (behind_blocks first code) code.closures (omega arith);
    objects = le;
  }

-- ## How many there are

op_many : (p : CoreProgram) (numbers : Numbers) (number k : ℕ) (x : Op) → length (op_routines p numbers number k x) ≡ routines_of_op x
op_many p numbers number k op.Return = refl
op_many p numbers number k (op.Do action.Stop) = refl
op_many p numbers number k (op.Keep a) = refl
op_many p numbers number k (op.Find place (t ∷ ts) many next) = refl
op_many p numbers number k x = refl

ops_many : (p : CoreProgram) (numbers : Numbers) (k : ℕ) (ops : List Op) → length (ops_routines p numbers k ops) ≡ routines_of_ops ops
ops_many p numbers k [] = refl
ops_many p numbers k (x ∷ ops) =
    let behind = k + routines_of_op x in
    omega (
      arith,
      length-append (op_routines p numbers k (first_of behind ops) x) (ops_routines p numbers behind ops),
      op_many p numbers k (first_of behind ops) x,
      ops_many p numbers behind ops,
    )

blocks_many : (p : CoreProgram) (numbers : Numbers) (k : ℕ) (blocks : List Block) → length (blocks_routines p numbers k blocks) ≡ blocks_size blocks
blocks_many p numbers k [] = refl
blocks_many p numbers k (block ∷ blocks) =
    let behind = k + routines_of_ops block.ops in
    omega (
      arith,
      length-append (ops_routines p numbers k block.ops) (blocks_routines p numbers behind blocks),
      ops_many p numbers k block.ops,
      blocks_many p numbers behind blocks,
    )

rules_many : (code : Code) (numbers : Numbers) (k : ℕ) (rules : List RuleCode) → length (rules_routines code numbers k rules) ≡ length rules
rules_many code numbers k [] = refl
rules_many code numbers k (rule ∷ rules) = omega (arith, rules_many code numbers (k + 1) rules)

preds_many : (code : Code) (numbers : Numbers) (k : ℕ) (preds : List (List RuleCode)) → length (preds_routines code numbers k preds) ≡ rules_count preds
preds_many code numbers k [] = refl
preds_many code numbers k (rules ∷ preds) =
    omega (
      arith,
      length-append (rules_routines code numbers k rules) (preds_routines code numbers (k + length rules) preds),
      rules_many code numbers k rules,
      preds_many code numbers (k + length rules) preds,
    )

-- what bodies have, by how many there are
abbrev pub two_each : ℕ → ℕ
two_each zero = 0
two_each (suc n) = 1 + 2 * n

pub two_is : (n : ℕ) → 1 ≤ n → two_each n + 1 ≡ 2 * n
two_is zero some = absurd (omega arith)
two_is (suc n) some = omega arith

bodies_many : (numbers : Numbers) (halvings number place : ℕ) (bodies : List BodyCode) → length bodies ≤ 1 + halvings →
    length (bodies_routines numbers halvings number place bodies) ≡ two_each (length bodies)
bodies_many numbers halvings number place [] le = refl
bodies_many numbers halvings number place (body ∷ []) le = refl
bodies_many numbers zero number place (a ∷ b ∷ bodies) le = absurd (omega arith)
bodies_many numbers (suc halvings) number place (a ∷ b ∷ bodies) le =
    let all : List BodyCode = a ∷ b ∷ bodies in
    let half : ℕ = length all / 2 in
    let first : length (take half all) ≡ half = length-take-le half all (omega arith) in
    let second : length (drop half all) + half ≡ length all = omega (arith, length-drop half all) in
    omega (
      arith,
      length-append
          (bodies_routines numbers halvings (number + 1) place (take half all)) (bodies_routines numbers halvings (number + 2 * half) (place + half) (drop half all)),
      bodies_many numbers halvings (number + 1) place (take half all) (omega arith),
      bodies_many numbers halvings (number + 2 * half) (place + half) (drop half all) (omega arith),
      two_is (length (take half all)) (omega arith),
      two_is (length (drop half all)) (omega arith),
    )

pub size_is : (bodies : List BodyCode) → two_each (length bodies) ≡ bodies_size bodies
size_is [] = refl
size_is (body ∷ bodies) = refl

pub code_many : (p : CoreProgram) (first : ℕ) (code : Code) → first + length (code_routines p first code) ≡ number_behind first code + length (objects_routines (number_behind first code) p.objects)
code_many p first code =
    let numbers = numbers_from first code in
    let rules = preds_routines code numbers first code.preds in
    let blocks = blocks_routines p numbers (first + rules_count code.preds) code.blocks in
    let bodies = bodies_routines numbers (length code.closures) (behind_blocks first code) 0 code.closures in
    let objects = objects_routines (number_behind first code) p.objects in
    omega (
      arith,
      length-append rules (blocks ++ (bodies ++ objects)),
      length-append blocks (bodies ++ objects),
      length-append bodies objects,
      preds_many code numbers first code.preds,
      blocks_many p numbers (first + rules_count code.preds) code.blocks,
      bodies_many numbers (length code.closures) (behind_blocks first code) 0 code.closures (omega arith),
      size_is code.closures,
    )
