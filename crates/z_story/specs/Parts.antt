-- What a story is made of when its routines are acts.
use Rattle.std.specs.Prelude.{ℕ, ◌<◌, ◌≤◌, List, [], ◌∷◌, map, length}
use Rattle.z_code.specs.Open.{Counts, HasLabel}
use Rattle.z_lang.specs.declared.act.Routine.{Routine}
use Rattle.z_lang.specs.Code.{ops_of_acts}
use Rattle.z_lang.specs.Sizes.{body_bytes}
use Rattle.z_lang.specs.Bodies.{AreFit}
use Rattle.z_asm.specs.declared.image.Code.{Code}
use Rattle.z_asm.specs.declared.image.Image.{Image}
use Rattle.z_asm.specs.Conditions.{ArePrintable}
use Rattle.z_story.specs.declared.building.Parts.{Parts}

abbrev pub parts_counts : Parts → Counts
parts_counts parts = record { routines = length parts.routines; tables = length parts.tables; texts = length parts.strings }

-- A routine has at most 15 locals, and its acts fit; where a label stands in it, it takes at most 8,000 bytes, the first of them the number of its locals.
pub record IsRoutine (counts : Counts) (r : Routine) : Type 0 where
  pub few : r.locals ≤ 15
  pub short : (l : ℕ) → HasLabel l (ops_of_acts r.body) → body_bytes r.body < 8000
  pub fit : AreFit counts (ops_of_acts r.body) r.body

abbrev pub AreRoutines : Counts → List Routine → Type 0
AreRoutines counts [] = Unit {0}
AreRoutines counts (r ∷ rs) = IsRoutine counts r × AreRoutines counts rs

-- Parts with a routine, whose routines and texts can be written.
pub record AreParts (parts : Parts) : Type 0 where
  pub some : 0 < length parts.routines
  pub routines : AreRoutines (parts_counts parts) parts.routines
  pub texts : ArePrintable parts.strings

-- the image of parts: the instructions of each routine's acts
abbrev pub routine_code : Routine → Code
routine_code r = record { locals = r.locals; ops = ops_of_acts r.body }

abbrev pub image_of : Parts → Image
image_of parts = record { tables = parts.tables; strings = parts.strings; routines = map routine_code parts.routines }
