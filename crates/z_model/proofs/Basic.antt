-- The basic instructions are a part of the table.
use Rattle.std.proofs.Common.{◌≡◌, ℕ, zero, suc, Bool, true, false, cond, List, [], ◌∷◌, map, Option, Some, None, refl, sym, ◌∙◌}
use Rattle.std.specs.Prelude.{slice_get}
use Rattle.z_model.specs.declared.table.Kind.{Kind}
use Rattle.z_model.specs.declared.table.Row.{Row}
use Rattle.z_model.specs.Table.{Rows, player_rows, entry, row_at}
use Rattle.z_model.specs.Parts.{IsPartOf, RunsStay}
use Rattle.z_model.specs.Basic.{is_basic, basic_row, basic_rows, by_rows, BasicRunsStay}
use Rattle.z_model.specs.Run.{ZGiven, ZState}
use Rattle.z_model.proofs.Parts.{runs_stay}

abbrev row_or_none : Option Row → Option Row
row_or_none o = o

kept_row : (o : Option Row) (row : Row) → entry (Some (basic_row o)) ≡ row_or_none (Some row) → entry (Some o) ≡ row_or_none (Some row)
kept_row None row e = e
kept_row (Some other) row e = by_test (is_basic other.instr) e
  where
    by_test : (t : Bool) → cond t (Some other) None ≡ row_or_none (Some row) → row_or_none (Some other) ≡ Some row
    by_test true e = e
    by_test false e = absurd cc

row_within : (rows : List (Option Row)) (number : ℕ) (row : Row) → entry (slice_get (map basic_row rows) number) ≡ row_or_none (Some row) → entry (slice_get rows number) ≡ row_or_none (Some row)
row_within [] number row e = e
row_within (o ∷ rows) zero row e = kept_row o row e
row_within (o ∷ rows) (suc number) row e = row_within rows number row e

basic_part : IsPartOf basic_rows player_rows
basic_part kind number row e = row_within (player_rows kind) number row e

pub basic_runs_stay : (w : ZGiven) (s : ZState) → BasicRunsStay w s
basic_runs_stay w s = record { same = λ n whole. (runs_stay (by_rows basic_rows w) s).same player_rows basic_part n whole }
