-- The story that is built of a program agrees with it.
use Rattle.std.proofs.Common.{◌≡◌, ℕ, ◌<◌, Bool, true, false, List, refl}
use Rattle.dg_base.specs.declared.program.CoreProgram.{CoreProgram}
use Rattle.dg_mid.specs.declared.code.Code.{Code}
use Rattle.z_model.specs.Run.{zrun}
use Rattle.z_model.specs.Story.{start_state, story_run}
use Rattle.z_asm.specs.Story.{IsTooLarge}
use Rattle.z_story.specs.Parts.{image_of}
use Rattle.dg_rt.specs.Words.{HasWords}
use Rattle.dg_turn.specs.Told.{Telling}
use Rattle.dg_turn.specs.Typing.{HasTables}
use Rattle.dg_turn.specs.Plays.{Playing}
use Rattle.dg_chain.specs.Agrees.{Agrees, Fits}
use Rattle.dg_chain.specs.Routines.{BlocksAt}
use Rattle.dg_chain.specs.Whole.{CodeFits}
use Rattle.dg_mid.specs.Laws.{RunsAsSearched, CostsItsWork, LooksItsWork, MovesOn, HeightsOrder, TrailsOrder, CallsCut, CallsFit, NoStepLimit}
use Rattle.dg_emit.specs.Code as emit
use Rattle.dg_emit.specs.Story.{first_number}
use Rattle.dg_laid.specs.Goals.{SitesSuit}
use Rattle.dg_laid.specs.Laid.{CodeIsLaid, BlockSuits, BodiesAreFew, KeysAreFew, BlocksStand}
use Rattle.dg_story.specs.Built.{story_parts, keeps_within, IsStoryOf}
use Rattle.dg_story.specs.inside.Stories.{IsWritten}
use Rattle.dg_story.proofs.Mapped.{p, code_is, words_are}
use Rattle.dg_story.proofs.Worded.{has_words}
use Rattle.dg_story.proofs.Capturing.{told}
use Rattle.dg_story.proofs.Spelled.{spellings_stand, spelled_within}
use Rattle.dg_story.proofs.RefusalLemmas.{words_fit}
use Rattle.dg_story.proofs.Starting as starting
use Rattle.dg_story.proofs.Keeping.{fits_over}
use Rattle.dg_story.proofs.Rows.{StartsFit}

module _ (searched : RunsAsSearched) (costs : CostsItsWork) (looks : LooksItsWork) (moves : MovesOn) (heights : HeightsOrder) (trails : TrailsOrder) (cuts : CallsCut) (fits_calls : CallsFit) (never : NoStepLimit) (whole : CodeFits) (stand : BlocksStand) (sited : SitesSuit)
    (program : CoreProgram) (starts : StartsFit program) (code : Code) (written : IsWritten program code) (fits : emit.CodeFits program code) (suits : (b : ℕ) → BlockSuits code b) (bodies : BodiesAreFew code.closures) (keys : KeysAreFew code)
    (small : (keeps : Bool) → IsTooLarge (image_of (story_parts program code keeps)) → ⊥) where
  module _ (story : List ℕ) (is : IsStoryOf (story_parts program code true) story) (typed dice : List ℕ) (kept : keeps_within program ≡ true) where
    words : (k : ℕ) → (p program code true story is dice).names.routine k < 65536
    words = words_are program code true story is dice (small true)

    abbrev t : Telling
    t = starting.t program starts code story is dice typed words kept

    plays : Playing t
    plays = starting.plays program starts code story is dice typed words kept

    laid : CodeIsLaid t first_number code
    laid = record { has = code_is program code true story is dice; blocks = λ b. refl; told = told program code true story is dice; sites = refl; has_sites = starting.has_sites program starts code story is dice typed words kept (sited program code written.sound written.light) }

    worded : HasWords t.p story program.words
    worded = has_words program code true story is dice (small true) written.sound.words

    tables : HasTables t
    tables = record {
      captures = told program code true story is dice;
      words = (let within = spelled_within program.words (words_fit program written.fits) in spellings_stand t.p story program.words worded within.0 within.1);
    }

    blocks : BlocksAt t code
    blocks = stand t plays (starting.world program starts code story is dice typed words kept) tables worded first_number code laid fits suits bodies keys

    fits_kept : (steps : ℕ) → Fits (record { program = program; dice = dice }) typed steps (zrun t.p.world steps (start_state story typed)).state.output (zrun t.p.world steps (start_state story typed)).end
    fits_kept =
        whole searched costs looks moves heights trails cuts fits_calls never t code typed plays blocks written.codes written.tidy written.leaves written.sound written.goals
        (start_state story typed) (starting.started program starts code story is dice typed words kept blocks)

  by_kept : (b : Bool) → keeps_within program ≡ b → (story : List ℕ) → IsStoryOf (story_parts program code b) story → Agrees story program
  unfolding story_run
  by_kept true e story is typed dice steps = fits_kept story is typed dice e steps
  by_kept false e story is typed dice steps = fits_over program starts code story is typed dice e steps

  -- The story agrees with its program.
  pub agrees : (story : List ℕ) → IsStoryOf (story_parts program code (keeps_within program)) story → Agrees story program
  agrees story is = by_kept (keeps_within program) refl story is
