-- Whole runs of a story whose routines stand. Hold it against dg_mid/specs/Runs.antt.
use Rattle.std.specs.Prelude.{ℕ, List}
use Rattle.dg_base.specs.Sound.{IsSound}
use Rattle.dg_meaning.specs.Few.{AllHoldFew}
use Rattle.dg_mid.specs.declared.code.Code.{Code}
use Rattle.dg_mid.specs.declared.code.Op.{Op}
use Rattle.dg_mid.specs.Codes.{Codes}
use Rattle.dg_mid.specs.Laws.{RunsAsSearched, CostsItsWork, LooksItsWork, MovesOn, HeightsOrder, TrailsOrder, CallsCut, CallsFit, NoStepLimit}
use Rattle.dg_mid.specs.Potential.{Tidy}
use Rattle.dg_mid.specs.Seeking.{BlocksLeave}
use Rattle.dg_mid.specs.Step.{Setting, setting}
use Rattle.z_model.specs.Run.{ZState, zrun}
use Rattle.dg_turn.specs.Told.{Telling}
use Rattle.dg_turn.specs.Plays.{Playing}
use Rattle.dg_chain.specs.Agrees.{story_limits, Fits}
use Rattle.dg_chain.specs.Steps.{Next, OpTurns, OtherTurns, Starts}
use Rattle.dg_chain.specs.Routines.{BlocksAt}
use Rattle.dg_chain.specs.Always.{Always}
use Rattle.dg_chain.specs.Stands.{Stands, Meant}

-- The steps of a program's code in a story, whose limits are those of every story.
abbrev pub story_setting : Telling → Code → List ℕ → Setting
story_setting t code dice = setting (record { program = t.program; dice = dice }) code story_limits

-- An instruction is a turn.
abbrev pub OpLeads : Telling → Code → List ℕ → Op → Type 0
OpLeads t code dice x = OpTurns (story_setting t code dice) (Always code) (Stands t code) (Next t.p.world (Stands t code)) x

-- So it is in whichever way memory stands for a status, and so are the end of a block, a rule that is entered, what a choice goes on with, and a
-- failure.
abbrev pub OpMeans : Telling → Code → List ℕ → Op → Type 0
OpMeans t code dice x = OpTurns (story_setting t code dice) (Always code) (Meant t code) (Next t.p.world (Meant t code)) x

abbrev pub OthersMean : Telling → Code → List ℕ → Type 0
OthersMean t code dice = OtherTurns (story_setting t code dice) (Always code) (Meant t code) (Next t.p.world (Meant t code))

-- Each is, and so is the rest, where the routines of the code stand; the dice are the player's.
pub record CodeLeads : Type 0 where
  pub ops : (t : Telling) → Playing t → (code : Code) → BlocksAt t code → (x : Op) → OpMeans t code t.p.world.dice x
  pub others : (t : Telling) → Playing t → (code : Code) → BlocksAt t code → OthersMean t code t.p.world.dice

-- A story whose routines stand for the code of a sound program, in which queries of objects for one answer leave an inner construct first, and whose
-- goals hold at most 12 terms each, fits the program, whatever is typed and drawn, and however many instructions are done.
abbrev pub CodeFits : Type 0
CodeFits = RunsAsSearched → CostsItsWork → LooksItsWork → MovesOn → HeightsOrder → TrailsOrder → CallsCut → CallsFit → NoStepLimit →
    (t : Telling) (code : Code) (typed : List ℕ) → let set = story_setting t code t.p.world.dice in
    Playing t → BlocksAt t code → Codes t.program code → Tidy code → BlocksLeave code → IsSound t.program → AllHoldFew 12 t.program →
    (z : ZState) → Starts t.p.world set (Stands t code) typed z → (steps : ℕ) →
    let r = zrun t.p.world steps z in Fits set.game typed steps r.state.output r.end
