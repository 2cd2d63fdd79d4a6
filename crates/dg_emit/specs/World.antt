-- The routines of changes and queries of the world. Hold it against dg_turn/specs/World.antt.
use Rattle.std.specs.Prelude.{◌≡◌, ℕ, ◌+◌, ◌*◌, ◌<◌, ◌≤◌, List, length, Option, Some, None, Bool}
use Rattle.std.specs.List.{slice_get}
use Rattle.dg_base.specs.declared.program.CoreProgram.{CoreProgram}
use Rattle.dg_base.specs.declared.program.PlaceKind.{PlaceKind}
use Rattle.dg_base.specs.declared.program.PlaceKind.TheVariants.{Flag}
use Rattle.dg_base.specs.declared.program.Term.{Term}
use Rattle.dg_base.specs.Sound.{terms_of_kind}
use Rattle.dg_meaning.specs.Facts.{kinds_of}
use Rattle.z_lang.specs.declared.act.Routine.{Routine}
use Rattle.dg_rt.specs.declared.numbers.TheConstants.{FAIL}
use Rattle.dg_turn.specs.Turns.{goto_routine}
use Rattle.dg_turn.specs.World.{world_at, all_words, all_bytes, now_routine}

-- The routine of a change of a place of a kind; without such a place it fails.
abbrev pub change_routine : CoreProgram → ℕ → Option PlaceKind → List Term → Bool → ℕ → Routine
change_routine program place None ts sets behind = goto_routine FAIL
change_routine program place (Some kind) ts sets behind = now_routine program kind place ts sets behind

-- The world lies within the memory that can be addressed, and has no more objects than values name.
pub record WorldFits (program : CoreProgram) : Type 0 where
  pub few : length program.objects ≤ 4096
  pub room : let objects = length program.objects in
      64 + 2 * (world_at + all_words objects (kinds_of program)) + all_bytes objects (kinds_of program) < 65536

-- A change is of a place of the program, with as many terms as its kind wants.
pub record ChangeFits (program : CoreProgram) (place terms : ℕ) : Type 0 where
  pub kind : PlaceKind
  pub kind_is : slice_get (kinds_of program) place ≡ Some kind
  pub fits : terms ≡ terms_of_kind kind
  pub world : WorldFits program

-- A query without terms is one of a flag of no object.
pub record FlagFits (program : CoreProgram) (place : ℕ) : Type 0 where
  pub kind_is : slice_get (kinds_of program) place ≡ Some Flag
  pub world : WorldFits program
