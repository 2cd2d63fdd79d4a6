-- Where register code lies, and which rules a first argument excludes. Hold it against docs/LANGUAGE.md, where it says what a limit counts.
use Rattle.std.specs.Prelude.{ℕ, List, [], ◌∷◌, Option, Some, None, Bool, false, if◌then◌else◌}
use Rattle.std.specs.List.{slice_get}
use Rattle.dg_base.specs.declared.program.Term.{Term, out-Term}
use Rattle.dg_meaning.specs.Values.{Label, Num, Word, Object, Nil, Pair, Closure, Value, Var, Node}
use Rattle.dg_meaning.specs.Selection.{label_at, differs_from}
use Rattle.dg_mid.specs.declared.code.Op.{Op}
use Rattle.dg_mid.specs.declared.code.Block.{Block}
use Rattle.dg_mid.specs.declared.code.Key.{Key}
use Rattle.dg_mid.specs.declared.code.Key.TheVariants as key
use Rattle.dg_mid.specs.declared.code.RuleCode.{RuleCode}
use Rattle.dg_mid.specs.declared.code.Code.{Code}

-- ## Blocks

-- The instructions of a block; none where there is no such block.
abbrev pub ops_of : Option Block → List Op
ops_of None = []
ops_of (Some block) = block.ops

-- The instructions from the beginning of a block on.
abbrev pub block_at : Code → ℕ → List Op
block_at code b = ops_of (slice_get code.blocks b)

-- The rules of a predicate; none where there is no such predicate.
abbrev pub codes_of : Option (List RuleCode) → List RuleCode
codes_of None = []
codes_of (Some rules) = rules

-- The rules of the predicate of a number.
abbrev pub rules_at : Code → ℕ → List RuleCode
rules_at code pred = codes_of (slice_get code.preds pred)

-- ## Selection

-- The label that a key tells.
abbrev pub label_of : Key → Option Label
label_of key.Any = None
label_of (key.Num n) = Some (Num n)
label_of (key.Word n) = Some (Word n)
label_of (key.Object n) = Some (Object n)
label_of key.Nil = Some Nil
label_of key.Pair = Some Pair
label_of (key.Closure n) = Some (Closure n)

-- The label at the top of each value of the first of some head terms, where its variables don't decide it.
abbrev pub first_label : List Term → Option Label
first_label [] = None
first_label (t ∷ ts) = label_at (out-Term t)

-- A walked first argument excludes the rules of a key: it is no variable, and at its top stands another label. Without an argument none is excluded.
abbrev pub excluded : Option Value → Key → Bool
excluded None k = false
excluded (Some (Var x)) k = false
excluded (Some (Node f vs)) k = differs_from f (label_of k)

-- The rules from the first on that isn't excluded.
abbrev pub selected : Option Value → List RuleCode → List RuleCode
selected first [] = []
selected first (r ∷ rs) = if excluded first r.key then selected first rs else r ∷ rs
