-- What building a program comes to.
use Rattle.std.specs.Prelude.{◌≡◌, ℕ, List, Some}
use Rattle.dg_base.specs.Written.{SinkView}
use Rattle.dg_base.specs.declared.program.CoreProgram.{CoreProgram as Core}
use Rattle.dg_meaning.specs.Transcript.{no_memory_line}
use Rattle.dg_story.specs.Refusals.{build_refusal}
use Rattle.dg_story.specs.declared.refusal.BuildRefusal.{BuildRefusal}
use Rattle.dialog_tool.specs.Lines.{Says, build_line}

-- A program has no story, and the line says why; or no memory was found, and the line says so.
pub data HasNoStory (p : Core) (name : List ℕ) (old new : SinkView) (result : ℕ) : Type 0 where
  none : (r : BuildRefusal) → build_refusal p ≡ Some r → Says 7 (build_line name r) old new result → HasNoStory p name old new result
  no_room : Says 6 no_memory_line old new result → HasNoStory p name old new result
