-- What a story's code needs of a program beside its register code: the variables that each of its closures captures, the kinds of its places, and the
-- names of its objects. Hold it against dg_meaning/specs/Cells.antt and dg_turn/specs/World.antt.
use Rattle.std.specs.Prelude.{◌≡◌, ℕ}
use Rattle.std.specs.List.{slice_get}
use Rattle.dg_base.specs.declared.program.CoreProgram.{CoreProgram}
use Rattle.dg_meaning.specs.Facts.{kinds_of}
use Rattle.dg_mid.specs.declared.code.Code.{Code}
use Rattle.dg_turn.specs.Told.{count_told}
use Rattle.dg_turn.specs.Terms.{captured_of}
use Rattle.dg_emit.specs.Code.{code_routines, CodeFits}

-- Closures of the same number capture the same variables, and where one is there, so is the other; places of the same number have the same kind, and
-- objects the same names.
pub record SameOutline (p q : CoreProgram) : Type 0 where
  pub captures : (c : ℕ) → captured_of (slice_get p.closures c) ≡ captured_of (slice_get q.closures c)
  pub told : (c : ℕ) → count_told (slice_get p.closures c) ≡ count_told (slice_get q.closures c)
  pub kinds : kinds_of p ≡ kinds_of q
  pub objects : p.objects ≡ q.objects

-- Such programs have the same routines for the same code, and it fits the one where it fits the other.
pub record RoutinesAlike : Type 0 where
  pub routines : (p q : CoreProgram) → SameOutline p q → (first : ℕ) (code : Code) → code_routines p first code ≡ code_routines q first code
  pub fits : (p q : CoreProgram) → SameOutline p q → (code : Code) → CodeFits p code → CodeFits q code
