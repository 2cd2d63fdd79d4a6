-- Selects that stand in a block are those of code.
use Rattle.std.proofs.Common.{◌≡◌, ℕ, zero, suc, List, [], ◌∷◌, ◌++◌, Some, refl, sym, subst, arith}
use Rattle.std.specs.Prelude.{Contains}
use Rattle.std.specs.List.{slice_get}
use Rattle.dg_mid.specs.declared.code.Block.{Block}
use Rattle.dg_mid.specs.declared.code.Code.{Code}
use Rattle.dg_mid.specs.declared.code.Op.{Op}
use Rattle.dg_mid.specs.declared.code.Op.TheVariants as op
use Rattle.dg_turn.specs.Told.{Site}
use Rattle.dg_turn.specs.Sites.{select_of, sites_of_op, sites_of_ops, sites_of}
use Rattle.dg_laid.specs.Laid.{OpCalls, OpsCall}

-- ## Lists

pub contains_later : (x s : Site) (xs : List Site) → Contains xs s → Contains (x ∷ xs) s
contains_later x s xs c = let lt = c.1 in (suc c.0, (omega arith), c.2)

contains_front : (xs ys : List Site) (s : Site) → Contains xs s → Contains (xs ++ ys) s
contains_front [] ys s c = absurd (let lt = c.1 in omega arith)
contains_front (x ∷ xs) ys s (zero, lt, is) = (0, (omega arith), is)
contains_front (x ∷ xs) ys s (suc k, lt, is) = contains_later x s (xs ++ ys) (contains_front xs ys s (k, (omega arith), is))

contains_behind : (xs ys : List Site) (s : Site) → Contains ys s → Contains (xs ++ ys) s
contains_behind [] ys s c = c
contains_behind (x ∷ xs) ys s c = contains_later x s (xs ++ ys) (contains_behind xs ys s c)

-- ## Code

-- those of a block
pub block_sites : (blocks : List Block) (b : ℕ) (block : Block) → slice_get blocks b ≡ Some block → (s : Site) → Contains (sites_of_ops block.ops) s → Contains (sites_of blocks) s
block_sites [] b block e s c = absurd (cc)
block_sites (x ∷ blocks) zero block e s c = let same : x ≡ block = cc in contains_front (sites_of_ops x.ops) (sites_of blocks) s (subst (λ (y : Block). Contains (sites_of_ops y.ops) s) (sym same) c)
block_sites (x ∷ blocks) (suc b) block e s c = contains_behind (sites_of_ops x.ops) (sites_of blocks) s (block_sites blocks b block e s c)

-- An instruction calls as it should, and a select is one of the code.
abbrev pub OpReaches : Code → Op → Type 0
OpReaches code (op.Select site mode blocks next) = Contains (sites_of code.blocks) (select_of site mode blocks)
OpReaches code x = OpCalls code x

abbrev pub OpsReach : Code → List Op → Type 0
OpsReach code [] = Unit {0}
OpsReach code (x ∷ ops) = OpReaches code x × OpsReach code ops

pub ops_reach : (code : Code) (ops : List Op) → ((s : Site) → Contains (sites_of_ops ops) s → Contains (sites_of code.blocks) s) → OpsCall code ops → OpsReach code ops
ops_reach code [] within calls = tt
ops_reach code (op.Select site mode blocks next ∷ ops) within calls =
    let first = select_of site mode blocks in
    (within first (0, (omega arith), refl), ops_reach code ops (λ s c. within s (contains_later first s (sites_of_ops ops) c)) calls.1)
ops_reach code (x ∷ ops) within calls = (calls.0, ops_reach code ops (λ s c. within s (contains_behind (sites_of_op x) (sites_of_ops ops) s c)) calls.1)
