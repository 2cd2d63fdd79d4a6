-- The routine of a select of a story's code, and where it goes on. Hold it against `at_choice` of dg_mid/specs/Step.antt.
use Rattle.std.specs.Prelude.{◌≡◌, ℕ, List, Contains, length, get_or, Some}
use Rattle.dg_base.specs.declared.program.Mode.{Mode}
use Rattle.dg_rt.specs.Cells.{at_cell}
use Rattle.dg_turn.specs.Told.{Telling}
use Rattle.dg_turn.specs.Sites.{select_of, numbers_of, site_at, HasSites, select_routine}

-- It goes on at the block of the branch that is chosen; the select is one of the story.
pub record SelectsAt (t : Telling) (x site : ℕ) (mode : Mode) (blocks : List ℕ) (behind : ℕ) : Type 0 where
  pub branches : List ℕ
  pub other : ℕ
  pub is : t.p.routine_at x ≡ Some (select_routine (at_cell (site_at t.program (numbers_of t.sites) site)) mode branches other)
  pub all : length branches ≡ length blocks
  pub each : (i : ℕ) → t.p.names.routine (get_or branches i other) ≡ t.at_block (get_or blocks i behind)
  pub known : Contains t.sites (select_of site mode blocks)
  pub sites : HasSites t
