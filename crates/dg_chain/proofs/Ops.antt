-- Turns of instructions, and of the rest, are turns of steps.
use Rattle.std.proofs.Common.{◌≡◌, List, [], ◌∷◌, refl, ap, ◌∙◌}
use Rattle.dg_meaning.specs.World.{Print}
use Rattle.dg_meaning.specs.Render.{render}
use Rattle.dg_mid.specs.declared.code.Op.{Op}
use Rattle.dg_mid.specs.State.{Mid, Status, Runs, Enters, Resumes, Fails, Ended}
use Rattle.dg_mid.specs.Step.{Setting, runs, step, said, followed}
use Rattle.dg_mid.specs.Potential.{IsOver}
use Rattle.dg_mid.specs.Heights.{StatusOrdered}
use Rattle.z_model.specs.Run.{ZGiven, ZState}
use Rattle.dg_chain.specs.Steps.{Standing, Coming, Next, step_cost, least_of, StepsAreTurns, OpTurns, OtherTurns, OpsMakeSteps}

module _ (set : Setting) (Always : Status → Type 0) (Stands : Standing) (To : Coming) (ops : (x : Op) → OpTurns set Always Stands To x) (others : OtherTurns set Always Stands To) where
  runs_turn : (ps : List Print) (m : Mid) (z : ZState) (l : List Op) → m.ops ≡ l → Always (Runs m) → Stands ps (Runs m) z → To 1 (followed ps (said set (Runs m))) (runs set l m) (step_cost set ps (Runs m)) z
  runs_turn ps m z [] e always h = others.ends ps m z e always h
  runs_turn ps m z (x ∷ rest) e always h = ops x ps m rest z e always h

  -- Whatever stands for a status, and whatever is said of what a step comes to.
  pub turn_by : (ps : List Print) (now : Status) (z : ZState) → (IsOver now → ⊥) → Always now → Stands ps now z → To (least_of now) (followed ps (said set now)) (step set now) (step_cost set ps now) z
  turn_by ps (Runs m) z on always h = runs_turn ps m z m.ops refl always h
  turn_by ps (Enters call m) z on always h = others.enters ps call m z always h
  turn_by ps (Resumes way m) z on always h = others.resumes ps way m z always h
  turn_by ps (Fails m) z on always h = others.fails ps m z always h
  turn_by ps (Ended e) z on always h = absurd (on tt)

-- Whatever stands for a status.
pub steps_by : (w : ZGiven) (set : Setting) (Always : Status → Type 0) (Stands : Standing) → ((x : Op) → OpTurns set Always Stands (Next w Stands) x) → OtherTurns set Always Stands (Next w Stands) → ((ps : List Print) (now : Status) (z : ZState) → Stands ps now z → z.output ≡ render ps) → StepsAreTurns w set Always Stands
steps_by w set Always Stands ops others printed = record { printed = printed; turn = turn_by set Always Stands (Next w Stands) ops others }

pub ops_make_steps : OpsMakeSteps
ops_make_steps w set at ops others printed = steps_by w set StatusOrdered (λ ps now z. z ≡ at ps now) ops others (λ ps now z e. ap (λ (y : ZState). y.output) e ∙ printed ps now)
