-- What is left of the typed bytes while register code runs. Hold it against docs/LANGUAGE.md, "Typed lines and words" and "Limits".
use Rattle.std.specs.Prelude.{ℕ, zero, suc, ◌+◌, nat_lt, List, [], ◌∷◌, Bool, false, not, if◌then◌else◌}
use Rattle.dg_meaning.specs.Cells.{cells}
use Rattle.dg_meaning.specs.Words.{behind_first}
use Rattle.dg_mid.specs.declared.code.Op.{Op}
use Rattle.dg_mid.specs.declared.code.Op.TheVariants as op
use Rattle.dg_mid.specs.declared.code.Action.TheVariants as action
use Rattle.dg_mid.specs.State.{Mid, Status, Runs}
use Rattle.dg_mid.specs.Step.{Setting}

-- So many more cells on a heap of this height pass its limit.
abbrev pub overfills : Setting → ℕ → ℕ → Bool
overfills s heap zero = false
overfills s heap (suc n) = nat_lt s.limits.heap (heap + suc n)

-- The first of some instructions reads a line: it is a goal of typed input, and the heap has room for its term.
abbrev pub reads_in : Setting → Mid → List Op → Bool
reads_in s m (op.Do (action.Input t) ∷ ops) = not (overfills s m.state.heap (cells s.game.program (t ∷ [])))
reads_in s m ops = false

-- The next step reads a line.
abbrev pub reads : Setting → Status → Bool
reads s (Runs m) = reads_in s m m.ops
reads s now = false

-- What is left behind the next step, of what is left in front of it: a step that reads takes a line, whatever else it comes to.
abbrev pub left_behind : Setting → Status → List ℕ → List ℕ
left_behind s now typed = if reads s now then behind_first typed else typed
