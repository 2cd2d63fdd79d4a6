-- Routines that lie one behind the other, from a number on.
use Rattle.std.proofs.Common.{◌≡◌, ℕ, zero, suc, ◌+◌, List, [], ◌∷◌, ◌++◌, length, Option, Some, None, refl, ap, ◌∙◌, subst, arith, length-append}
use Rattle.std.specs.List.{slice_get}
use Rattle.dg_base.specs.declared.program.CoreProgram.{CoreProgram}
use Rattle.dg_mid.specs.declared.code.Block.{Block}
use Rattle.dg_mid.specs.declared.code.Code.{Code}
use Rattle.dg_mid.specs.declared.code.Op.{Op}
use Rattle.dg_mid.specs.declared.code.Op.TheVariants as op
use Rattle.dg_mid.specs.declared.code.Action.TheVariants as action
use Rattle.dg_mid.specs.declared.code.RuleCode.{RuleCode}
use Rattle.z_lang.specs.State.{Program}
use Rattle.z_lang.specs.declared.act.Routine.{Routine}
use Rattle.dg_emit.specs.declared.numbers.Numbers.{Numbers}
use Rattle.dg_emit.specs.Numbers.{routines_of_op, routines_of_ops, first_of, first_rule, rules_count, blocks_size, block_starts, pred_starts}
use Rattle.dg_emit.specs.Code.{op_routines, ops_routines, blocks_routines, rules_routines, preds_routines}

-- ## How many there are

rules_length : (code : Code) (numbers : Numbers) (n : ℕ) (rules : List RuleCode) → length (rules_routines code numbers n rules) ≡ length rules
rules_length code numbers n [] = refl
rules_length code numbers n (r ∷ rules) = ap suc (rules_length code numbers (n + 1) rules)

pub preds_length : (code : Code) (numbers : Numbers) (n : ℕ) (preds : List (List RuleCode)) → length (preds_routines code numbers n preds) ≡ rules_count preds
preds_length code numbers n [] = refl
preds_length code numbers n (rules ∷ preds) =
    length-append (rules_routines code numbers n rules) (preds_routines code numbers (n + length rules) preds)
    ∙ ap (λ (k : ℕ). k + length (preds_routines code numbers (n + length rules) preds)) (rules_length code numbers n rules)
    ∙ ap (λ (k : ℕ). length rules + k) (preds_length code numbers (n + length rules) preds)

op_length : (program : CoreProgram) (numbers : Numbers) (number behind : ℕ) (x : Op) → length (op_routines program numbers number behind x) ≡ routines_of_op x
op_length program numbers number behind op.Return = refl
op_length program numbers number behind (op.Do action.Stop) = refl
op_length program numbers number behind (op.Keep a) = refl
op_length program numbers number behind (op.Find place (a ∷ ts) many next) = refl
op_length program numbers number behind x = refl

ops_length : (program : CoreProgram) (numbers : Numbers) (n : ℕ) (ops : List Op) → length (ops_routines program numbers n ops) ≡ routines_of_ops ops
ops_length program numbers n [] = refl
ops_length program numbers n (x ∷ ops) =
    let behind = n + routines_of_op x in
    let a = op_length program numbers n (first_of behind ops) x in
    let b = ops_length program numbers behind ops in
    omega (arith, length-append (op_routines program numbers n (first_of behind ops) x) (ops_routines program numbers behind ops))

pub blocks_length : (program : CoreProgram) (numbers : Numbers) (n : ℕ) (blocks : List Block) → length (blocks_routines program numbers n blocks) ≡ blocks_size blocks
blocks_length program numbers n [] = refl
blocks_length program numbers n (x ∷ blocks) =
    let k = n + routines_of_ops x.ops in
    omega (arith, length-append (ops_routines program numbers n x.ops) (blocks_routines program numbers k blocks), ops_length program numbers n x.ops, blocks_length program numbers k blocks)

module _ (p : Program) where
  -- They stand at the addresses of their numbers.
  abbrev pub LieAt : ℕ → List Routine → Type 0
  LieAt n [] = Unit {0}
  LieAt n (r ∷ rs) = (p.routine_at (p.names.routine n) ≡ Some r) × LieAt (n + 1) rs

  -- at equal numbers
  at_number : (n k : ℕ) (r : Routine) → n ≡ k → p.routine_at (p.names.routine n) ≡ Some r → p.routine_at (p.names.routine k) ≡ Some r
  at_number n k r e h = subst (λ (j : ℕ). p.routine_at (p.names.routine j) ≡ Some r) e h

  pub lie_at : (n : ℕ) (rs : List Routine) → ((k : ℕ) (r : Routine) → slice_get rs k ≡ Some r → p.routine_at (p.names.routine (n + k)) ≡ Some r) → LieAt n rs
  lie_at n [] has = tt
  lie_at n (r ∷ rs) has =
      (at_number (n + 0) n r (omega arith) (has 0 r refl), lie_at (n + 1) rs (λ k q e. at_number (n + suc k) (n + 1 + k) q (omega arith) (has (suc k) q e)))

  pub those_lie : (n : ℕ) (rs : List Routine) → LieAt n rs → (k : ℕ) (r : Routine) → slice_get rs k ≡ Some r → p.routine_at (p.names.routine (n + k)) ≡ Some r
  those_lie n [] h k r e = absurd (cc)
  those_lie n (r ∷ rs) h zero s e = at_number n (n + 0) s (omega arith) (h.0 ∙ e)
  those_lie n (r ∷ rs) h (suc k) s e = at_number (n + 1 + k) (n + suc k) s (omega arith) (those_lie (n + 1) rs h.1 k s e)

  pub lie_front : (n : ℕ) (xs ys : List Routine) → LieAt n (xs ++ ys) → LieAt n xs
  lie_front n [] ys h = tt
  lie_front n (x ∷ xs) ys h = (h.0, lie_front (n + 1) xs ys h.1)

  pub lie_behind : (n k : ℕ) (xs ys : List Routine) → length xs ≡ k → LieAt n (xs ++ ys) → LieAt (n + k) ys
  lie_behind n k [] ys e h = let q : n ≡ n + k = omega arith in subst (λ (j : ℕ). LieAt j ys) q h
  lie_behind n k (x ∷ xs) ys e h =
      let q : n + 1 + length xs ≡ n + k = omega arith in
      subst (λ (j : ℕ). LieAt j ys) q (lie_behind (n + 1) (length xs) xs ys refl h.1)

  -- ## By numbers

  -- The rules of a predicate lie from a number on, where their first one is told to be.
  pub record RulesLie (code : Code) (numbers : Numbers) (told : Option ℕ) (rules : List RuleCode) : Type 0 where
    pub start : ℕ
    pub told_is : told ≡ Some (first_rule start rules)
    pub lie : LieAt start (rules_routines code numbers start rules)

  pub rules_lie : (code : Code) (numbers : Numbers) (n : ℕ) (preds : List (List RuleCode)) (pred : ℕ) (rules : List RuleCode) → slice_get preds pred ≡ Some rules →
      LieAt n (preds_routines code numbers n preds) → RulesLie code numbers (slice_get (pred_starts n preds) pred) rules
  rules_lie code numbers n [] pred rules e h = absurd (cc)
  rules_lie code numbers n (rs ∷ preds) zero rules e h =
      let same : rs ≡ rules = cc in
      subst (RulesLie code numbers (Some (first_rule n rs))) same (record { start = n; told_is = refl; lie = lie_front n (rules_routines code numbers n rs) (preds_routines code numbers (n + length rs) preds) h })
  rules_lie code numbers n (rs ∷ preds) (suc pred) rules e h =
      rules_lie code numbers (n + length rs) preds pred rules e
      (lie_behind n (length rs) (rules_routines code numbers n rs) (preds_routines code numbers (n + length rs) preds) (rules_length code numbers n rs) h)

  -- So do the instructions of a block.
  pub record OpsLie (program : CoreProgram) (numbers : Numbers) (told : Option ℕ) (ops : List Op) : Type 0 where
    pub start : ℕ
    pub told_is : told ≡ Some (first_of start ops)
    pub lie : LieAt start (ops_routines program numbers start ops)

  pub ops_lie : (program : CoreProgram) (numbers : Numbers) (n : ℕ) (blocks : List Block) (b : ℕ) (block : Block) → slice_get blocks b ≡ Some block →
      LieAt n (blocks_routines program numbers n blocks) → OpsLie program numbers (slice_get (block_starts n blocks) b) block.ops
  ops_lie program numbers n [] b block e h = absurd (cc)
  ops_lie program numbers n (x ∷ blocks) zero block e h =
      let same : x ≡ block = cc in
      subst (λ (y : Block). OpsLie program numbers (Some (first_of n x.ops)) y.ops) same
      (record { start = n; told_is = refl; lie = lie_front n (ops_routines program numbers n x.ops) (blocks_routines program numbers (n + routines_of_ops x.ops) blocks) h })
  ops_lie program numbers n (x ∷ blocks) (suc b) block e h =
      ops_lie program numbers (n + routines_of_ops x.ops) blocks b block e
      (lie_behind n (routines_of_ops x.ops) (ops_routines program numbers n x.ops) (blocks_routines program numbers (n + routines_of_ops x.ops) blocks) (ops_length program numbers n x.ops) h)

-- ## Without them

pub no_pred : (n : ℕ) (preds : List (List RuleCode)) (pred : ℕ) → slice_get preds pred ≡ None → slice_get (pred_starts n preds) pred ≡ None
no_pred n [] pred e = refl
no_pred n (rs ∷ preds) zero e = absurd (cc)
no_pred n (rs ∷ preds) (suc pred) e = no_pred (n + length rs) preds pred e

pub no_block : (n : ℕ) (blocks : List Block) (b : ℕ) → slice_get blocks b ≡ None → slice_get (block_starts n blocks) b ≡ None
no_block n [] b e = refl
no_block n (x ∷ blocks) zero e = absurd (cc)
no_block n (x ∷ blocks) (suc b) e = no_block (n + routines_of_ops x.ops) blocks b e
