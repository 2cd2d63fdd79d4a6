-- A story whose first routine prints a letter, from its acts to its run.
use Rattle.std.proofs.Common.{◌≡◌, ℕ, ◌≤◌, List, [], ◌∷◌, Some, refl, arith}
use Rattle.std.specs.Prelude.{slice_get}
use lib.Utf8.{encode}
use Rattle.z_model.specs.Zscii.{code_utf8}
use Rattle.z_model.specs.declared.end.ZEnd.TheVariants as ends
use Rattle.z_model.specs.Story.{story_run}
use Rattle.z_lang.specs.declared.act.Routine.{Routine}
use Rattle.z_lang.specs.declared.act.Print.TheVariants as prints
use Rattle.z_lang.specs.declared.act.Atom.TheVariants as atoms
use Rattle.z_lang.specs.declared.act.Act.{Act}
use Rattle.z_lang.specs.declared.act.Act.TheVariants as acts
use Rattle.z_lang.specs.State.{State, Program}
use Rattle.z_lang.specs.Acts.{print_output, with_output}
use Rattle.z_lang.specs.Runs.{Returns, ActsRun, done, returns}
use Rattle.z_story.specs.declared.building.Parts.{Parts}
use Rattle.z_story.specs.Does.{first_state, program, IsRun, StoryDoes}

abbrev body : List Act
body = acts.Print prints.Code (atoms.Num 65) ∷ acts.Return (atoms.Num 0) ∷ []

abbrev routine : Routine
routine = record { locals = 0; body = body }

runs : (p : Program) (f w : ℕ) (s : State) → ActsRun p f w body body s (Returns 0) (with_output s (65 ∷ [])) 2
unfolding print_output code_utf8 encode
runs p f w s = done refl (returns refl)

-- With four instructions or more it has written A and quit.
pub prints_a_letter : (parts : Parts) (story : List ℕ) → StoryDoes parts story → slice_get parts.routines 0 ≡ Some routine → (typed dice : List ℕ) (k : ℕ) → 4 ≤ k →
    IsRun (story_run story typed dice k) ends.Quit (65 ∷ [])
prints_a_letter parts story does first typed dice k le =
    (does.plays dice routine first).goes typed 0 0 2 (with_output (first_state story typed routine) (65 ∷ [])) (Returns 0) (omega arith) (omega arith)
    (runs (program parts story dice) 0 0 (first_state story typed routine)) k (omega arith)
