-- What a machine takes of typed bytes. Hold it against the Dialog manual, chapter "Beyond the program", on input, and docs/LANGUAGE.md, "Typed lines
-- and words".
use Rattle.std.specs.Prelude.{ℕ, ◌≡◌, ◌≤◌, ◌++◌, List, [], ◌∷◌, length, Bool, true, false}
use Rattle.dg_base.specs.Causes.{Rose}
use Rattle.dg_base.specs.Streams.{SourceView}
use Rattle.dg_base.specs.declared.program.GapKind.TheVariants.{Line}
use Rattle.dg_meaning.specs.World.{Print, GapOf}
use Rattle.dg_mid.specs.declared.code.Op.{Op}
use Rattle.dg_mid.specs.declared.code.Op.TheVariants as op
use Rattle.dg_mid.specs.declared.code.Action.TheVariants as action
use Rattle.dg_meaning.specs.Words.{behind_first}
use Rattle.dg_meaning.specs.Shows.{IsLeft}
use Rattle.dg_meaning.specs.Engines.{left_told}
use Rattle.dg_machine.specs.declared.now.Now.{Now}
use Rattle.dg_machine.specs.declared.now.Now.TheVariants.{Ended}

-- The run has ended.
abbrev pub IsEnd : Now → Type 0
IsEnd (Ended e) = Unit {0}
IsEnd now = ⊥

-- These bytes are left: nothing where the end was met, and else what the source has left.
abbrev pub LeftBehind : Bool → SourceView → List ℕ → Type 0
LeftBehind false now rest = IsLeft now.left rest
LeftBehind true now rest = rest ≡ []

-- Up to where a machine is now a source gave these bytes: what it had left is these, and then what is left. Where it met its end the run has ended.
pub record Gave (old new : SourceView) (now : Now) : Type 0 where
  pub taken : List ℕ
  pub ended : Bool
  pub over : ended ≡ true → IsEnd now
  pub left : (rest : List ℕ) → LeftBehind ended new rest → IsLeft old.left (taken ++ rest)
  pub told : (rest : List ℕ) → LeftBehind ended new rest → IsLeft (left_told old new) rest
  pub later : old.faults ≤ new.faults

-- A source failed within a line: it gave these bytes, and has left no less than is behind that line.
pub record Failed (old new : SourceView) : Type 0 where
  pub taken : List ℕ
  pub left : (rest : List ℕ) → IsLeft new.left rest → IsLeft old.left (taken ++ rest)
  pub short : (rest : List ℕ) → IsLeft new.left rest → length (behind_first (taken ++ rest)) ≤ length rest
  pub later : old.faults ≤ new.faults
  pub rose : Rose old.faults new.faults

-- An instruction reads no line.
abbrev pub ReadsNone : Op → Type 0
ReadsNone (op.Do (action.Input t)) = ⊥
ReadsNone x = Unit {0}

-- The first of some instructions reads no line.
abbrev pub NoLine : List Op → Type 0
NoLine [] = Unit {0}
NoLine (x ∷ ops) = ReadsNone x

-- What is printed behind a line that was read: a newline where the run goes on.
abbrev pub line_behind : Now → List Print
line_behind (Ended e) = []
line_behind now = GapOf Line ∷ []
