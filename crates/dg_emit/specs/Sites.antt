-- The routines of selects. Hold it against dg_turn/specs/Sites.antt.
use Rattle.std.specs.Prelude.{ℕ, ◌%◌, ◌≤◌, List, length}
use Rattle.dg_base.specs.declared.program.CoreProgram.{CoreProgram}
use Rattle.dg_rt.specs.Cells.{at_cell}
use Rattle.dg_turn.specs.Sites.{site_at}
use Rattle.dg_emit.specs.World.{WorldFits}

-- The address of what is kept of a site, as a word.
abbrev pub site_address : CoreProgram → List ℕ → ℕ → ℕ
site_address program numbers site = at_cell (site_at program numbers site) % 65536

-- A select has at most 500 branches, and what is kept of it lies behind a world that can be addressed.
pub record SelectFits (program : CoreProgram) (blocks : List ℕ) : Type 0 where
  pub few : length blocks ≤ 500
  pub world : WorldFits program
