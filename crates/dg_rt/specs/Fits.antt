-- That the routines can be assembled. Hold it against the Z-machine standard, section 5 (routines) and section 4 (instructions).
use Rattle.std.specs.Prelude.{ℕ, ◌+◌, ◌<◌, ◌≤◌, List, [], ◌∷◌, length}
use Rattle.z_code.specs.Open.{Counts, HasLabel}
use Rattle.z_lang.specs.declared.act.Routine.{Routine}
use Rattle.z_lang.specs.Code.{ops_of_acts}
use Rattle.z_lang.specs.Sizes.{body_bytes}
use Rattle.z_lang.specs.Bodies.{AreFit}
use Rattle.dg_rt.specs.RunTime.{runtime}

-- A routine has at most 15 locals; its numbers fit, what it names is there, and each of its labels stands once; where one stands in it, it takes at most
-- 8,000 bytes, the first of them the number of its locals.
pub record IsFit (counts : Counts) (r : Routine) : Type 0 where
  pub few : r.locals ≤ 15
  pub short : (l : ℕ) → HasLabel l (ops_of_acts r.body) → body_bytes r.body < 8000
  pub fit : AreFit counts (ops_of_acts r.body) r.body

-- So it is with each of some routines.
abbrev pub AllFit : Counts → List Routine → Type 0
AllFit counts [] = Unit {0}
AllFit counts (r ∷ rs) = IsFit counts r × AllFit counts rs

-- So it is with those of the run-time, in a story that has them, a routine to begin with, and two tables.
abbrev pub RuntimeFits : Type 0
RuntimeFits = (counts : Counts) → 1 + length runtime ≤ counts.routines → 2 ≤ counts.tables → AllFit counts runtime
