-- What holds of stories of code that was written of a program. The proofs alone rest on it.
use Rattle.std.specs.Prelude.{◌≡◌, ℕ, List, Bool, None}
use Rattle.dg_base.specs.declared.program.CoreProgram.{CoreProgram}
use Rattle.dg_base.specs.Sound.{IsSound}
use Rattle.dg_meaning.specs.Few.{AllHoldFew, HeadsAreFew}
use Rattle.dg_mid.specs.declared.code.Code.{Code}
use Rattle.dg_mid.specs.Codes.{Codes}
use Rattle.dg_mid.specs.Potential.{Tidy}
use Rattle.dg_mid.specs.Seeking.{BlocksLeave}
use Rattle.dg_mid.specs.Weights.{Weights, IsLight}
use Rattle.z_story.specs.Parts.{AreParts}
use Rattle.dg_chain.specs.Agrees.{Agrees}
use Rattle.dg_emit.specs.Code.{CodeFits}
use Rattle.dg_fits.specs.Once.{StandOnce}
use Rattle.dg_story.specs.Refusals.{build_refusal}
use Rattle.dg_story.specs.Built.{story_parts, keeps_within, IsStoryOf, HasNoStory}

-- A program that isn't refused, with code that was written of it.
pub record IsWritten (program : CoreProgram) (code : Code) : Type 0 where
  pub sound : IsSound program
  pub once : StandOnce program
  pub goals : AllHoldFew 12 program
  pub heads : HeadsAreFew 12 program
  pub fits : build_refusal program ≡ None
  pub codes : Codes program code
  pub tidy : Tidy code
  pub leaves : BlocksLeave code
  pub light : (w : Weights) → IsLight w program code

-- Its story agrees with it.
abbrev pub StoriesAgree : Type 0
StoriesAgree = (program : CoreProgram) (code : Code) → IsWritten program code → (story : List ℕ) →
    IsStoryOf (story_parts program code (keeps_within program)) story → Agrees story program

-- The code fits, its parts can be assembled, and it has a story.
pub record HasStory (program : CoreProgram) (code : Code) : Type 0 where
  pub fits : CodeFits program code
  pub parts : (keeps : Bool) → AreParts (story_parts program code keeps)
  pub some : (keeps : Bool) → HasNoStory code (story_parts program code keeps) → ⊥

abbrev pub ProgramsHaveStories : Type 0
ProgramsHaveStories = (program : CoreProgram) (code : Code) → IsWritten program code → HasStory program code
