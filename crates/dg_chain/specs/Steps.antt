-- A story whose turns are the steps of its code, whatever memory stands for. Hold it against dg_mid/specs/Step.antt.
use Rattle.std.specs.Prelude.{◌≡◌, ℕ, ◌+◌, ◌*◌, ◌≤◌, List, [], ◌∷◌, Bool, true, false, if◌then◌else◌}
use Rattle.dg_base.specs.declared.run.Ending.{Ending}
use Rattle.dg_base.specs.declared.run.Ending.TheVariants as endings
use Rattle.dg_meaning.specs.World.{Game, Print}
use Rattle.dg_meaning.specs.Render.{render}
use Rattle.dg_meaning.specs.Transcript.{line_of, closed_text}
use Rattle.dg_mid.specs.declared.code.Code.{Code}
use Rattle.dg_mid.specs.Codes.{Codes}
use Rattle.dg_mid.specs.Laws.{RunsAsSearched, CostsItsWork, LooksItsWork, MovesOn, HeightsOrder, NoStepLimit}
use Rattle.dg_mid.specs.declared.code.Op.{Op}
use Rattle.dg_mid.specs.State.{Call, Way, Mid, Status, Runs, Enters, Resumes, Fails, Ended}
use Rattle.dg_mid.specs.Step.{Setting, setting, step, does, entered, goes_on, goes_back, said, followed}
use Rattle.dg_mid.specs.Heights.{StatusOrdered}
use Rattle.dg_mid.specs.Units.{units, selects}
use Rattle.dg_mid.specs.Runs.{start}
use Rattle.dg_mid.specs.Potential.{Tidy, IsOver}
use Rattle.z_model.specs.declared.end.ZEnd.{ZEnd}
use Rattle.z_model.specs.declared.end.ZEnd.TheVariants as ends
use Rattle.z_model.specs.Run.{ZGiven, ZState, zrun}
use Rattle.z_lang.specs.Leads.{Leads, Ends}
use Rattle.dg_chain.specs.Agrees.{story_limits, Fits}

-- How a story's run ends with an ending of its code, and what it has written then.
abbrev pub end_of : Ending → ZEnd
end_of endings.InputEnded = ends.InputEnded
end_of e = ends.Quit

abbrev pub written_with : List Print → Ending → List ℕ
written_with ps endings.InputEnded = render ps
written_with ps e = closed_text ps (line_of e)

-- ## What comes of a step

-- What memory stands for: a relation of what was printed, a status, and the player's state.
abbrev pub Standing : Type 1
Standing = List Print → Status → ZState → Type 0

-- What a step comes to: a relation of the instructions that it takes at least, what was printed, the status behind it, the instructions that it takes
-- at most, and the player's state in front of it.
abbrev pub Coming : Type 1
Coming = ℕ → List Print → Status → ℕ → ZState → Type 0

-- The player comes to where it stands for a status, in so many instructions.
pub record Comes (w : ZGiven) (Stands : Standing) (least : ℕ) (ps : List Print) (now : Status) (most : ℕ) (z : ZState) : Type 0 where
  pub there : ZState
  pub stands : Stands ps now there
  pub count : ℕ
  pub some : least ≤ count
  pub few : count ≤ most
  pub leads : Leads w count z there

-- The run ends in so many instructions, as this ending does.
pub record Over (w : ZGiven) (least : ℕ) (ps : List Print) (e : Ending) (most : ℕ) (z : ZState) : Type 0 where
  pub last : ZState
  pub output : last.output ≡ written_with ps e
  pub count : ℕ
  pub some : least ≤ count
  pub few : count ≤ most
  pub ends : Ends w count z (record { end = end_of e; state = last })

-- What an ending takes more at most: its line.
abbrev pub closing_cost : ℕ
closing_cost = 20

-- The player stands for the status behind the step, or the run is over.
abbrev pub Next : ZGiven → Standing → Coming
Next w Stands least ps (Ended e) most z = Over w least ps e (most + closing_cost) z
Next w Stands least ps (Runs m) most z = Comes w Stands least ps (Runs m) most z
Next w Stands least ps (Enters call m) most z = Comes w Stands least ps (Enters call m) most z
Next w Stands least ps (Resumes way m) most z = Comes w Stands least ps (Resumes way m) most z
Next w Stands least ps (Fails m) most z = Comes w Stands least ps (Fails m) most z

-- ## What a step costs

-- What it costs a story at most: 800 instructions a unit, and 9,000 where rules are looked at.
abbrev pub step_cost : Setting → List Print → Status → ℕ
step_cost set ps now = 800 * units set ps now + 9000 * selects now

-- A choice goes on.
abbrev pub is_resumed : Status → Bool
is_resumed (Runs m) = false
is_resumed (Enters call m) = false
is_resumed (Resumes way m) = true
is_resumed (Fails m) = false
is_resumed (Ended e) = false

-- What a step takes at least: an instruction, or none where a choice goes on, since going back to it leads to the routine of its block.
abbrev pub least_of : Status → ℕ
least_of now = if is_resumed now then 0 else 1

-- ## Turns

-- Each step is a turn, where what always holds of a status does.
pub record StepsAreTurns (w : ZGiven) (set : Setting) (Always : Status → Type 0) (Stands : Standing) : Type 0 where
  pub printed : (ps : List Print) (now : Status) (z : ZState) → Stands ps now z → z.output ≡ render ps
  pub turn : (ps : List Print) (now : Status) (z : ZState) → (IsOver now → ⊥) → Always now → Stands ps now z →
      Next w Stands (least_of now) (followed ps (said set now)) (step set now) (step_cost set ps now) z

-- An instruction is a turn: from in front of it, where what always holds does, to what it does.
abbrev pub OpTurns : Setting → (Status → Type 0) → Standing → Coming → Op → Type 0
OpTurns set Always Stands To x = (ps : List Print) (m : Mid) (rest : List Op) (z : ZState) → m.ops ≡ x ∷ rest → Always (Runs m) →
    Stands ps (Runs m) z → To 1 (followed ps (said set (Runs m))) (does set x (record m { ops = rest })) (step_cost set ps (Runs m)) z

-- So are the end of a block, a rule that is entered, what a choice goes on with, and a failure.
pub record OtherTurns (set : Setting) (Always : Status → Type 0) (Stands : Standing) (To : Coming) : Type 0 where
  pub ends : (ps : List Print) (m : Mid) (z : ZState) → m.ops ≡ [] → Always (Runs m) → Stands ps (Runs m) z →
      To 1 (followed ps (said set (Runs m))) (Fails m) (step_cost set ps (Runs m)) z
  pub enters : (ps : List Print) (call : Call) (m : Mid) (z : ZState) → Always (Enters call m) → Stands ps (Enters call m) z →
      To 1 ps (entered set call m.ops m) (step_cost set ps (Enters call m)) z
  pub resumes : (ps : List Print) (way : Way) (m : Mid) (z : ZState) → Always (Resumes way m) → Stands ps (Resumes way m) z →
      To 0 ps (goes_on set way m) (step_cost set ps (Resumes way m)) z
  pub fails : (ps : List Print) (m : Mid) (z : ZState) → Always (Fails m) → Stands ps (Fails m) z →
      To 1 ps (goes_back m.choices m) (step_cost set ps (Fails m)) z

-- The player comes to the start in 10 instructions at most.
pub record Starts (w : ZGiven) (set : Setting) (Stands : Standing) (typed : List ℕ) (z : ZState) : Type 0 where
  pub count : ℕ
  pub few : count ≤ 10
  pub there : ZState
  pub leads : Leads w count z there
  pub stands : Stands [] (start set typed) there
  pub printed : z.output ≡ []

-- ## Laws

-- A story each of whose instructions is a turn, and so the rest, has the steps of its code for turns: here one whose state is a function of what was
-- printed and of the status. `steps_by` of proofs/Ops.antt says it of any relation.
abbrev pub OpsMakeSteps : Type 0
OpsMakeSteps = (w : ZGiven) (set : Setting) (at : List Print → Status → ZState) →
    ((x : Op) → OpTurns set StatusOrdered (λ ps now z. z ≡ at ps now) (Next w (λ ps now z. z ≡ at ps now)) x) →
    OtherTurns set StatusOrdered (λ ps now z. z ≡ at ps now) (Next w (λ ps now z. z ≡ at ps now)) →
    ((ps : List Print) (now : Status) → (at ps now).output ≡ render ps) → StepsAreTurns w set StatusOrdered (λ ps now z. z ≡ at ps now)

-- A story whose turns are the steps of code that stands for a program fits the program, however many instructions are done: here one whose state is a
-- function of what was printed and of the status. `fits_by` of proofs/Telling.antt says it of any relation.
abbrev pub StoriesFit : Type 0
StoriesFit = RunsAsSearched → CostsItsWork → LooksItsWork → MovesOn → HeightsOrder → NoStepLimit →
    (g : Game) (code : Code) (typed : List ℕ) → Codes g.program code → Tidy code →
    (w : ZGiven) (at : List Print → Status → ZState) → StepsAreTurns w (setting g code story_limits) StatusOrdered (λ ps now z. z ≡ at ps now) →
    (z : ZState) → Starts w (setting g code story_limits) (λ ps now y. y ≡ at ps now) typed z →
    (steps : ℕ) → Fits g typed steps (zrun w steps z).state.output (zrun w steps z).end
