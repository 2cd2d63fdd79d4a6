-- Runs by a part of a table: where they don't break, they are the runs by the whole table.
use Rattle.std.specs.Prelude.{◌≡◌, ℕ, Some}
use Rattle.z_model.specs.declared.end.ZEnd.{ZEnd}
use Rattle.z_model.specs.declared.end.ZEnd.TheVariants as ends
use Rattle.z_model.specs.declared.table.Kind.{Kind}
use Rattle.z_model.specs.declared.table.Row.{Row}
use Rattle.z_model.specs.Table.{Rows, row_at}
use Rattle.z_model.specs.Run.{ZGiven, ZState, zrun}

-- Each row of one table is a row of another.
abbrev pub IsPartOf : Rows → Rows → Type 0
IsPartOf part rows = (kind : Kind) (number : ℕ) (row : Row) → row_at part kind number ≡ Some row → row_at rows kind number ≡ Some row

-- A run broke.
abbrev pub IsBroken : ZEnd → Type 0
IsBroken ends.Quit = ⊥
IsBroken ends.InputEnded = ⊥
IsBroken ends.StepLimit = ⊥
IsBroken (ends.Broken fault at) = Unit {0}

-- A run that doesn't break under a part of a table has the same output and end under the whole.
pub record RunsStay (w : ZGiven) (s : ZState) : Type 0 where
  pub same : (rows : Rows) → IsPartOf w.rows rows → (n : ℕ) → (IsBroken (zrun w n s).end → ⊥) → zrun (record w { rows = rows }) n s ≡ zrun w n s
