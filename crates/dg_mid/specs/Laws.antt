-- What holds of all register code. Hold it against the Dialog manual, chapters "Choice points" and "Output", and docs/LANGUAGE.md, "Limits".
use Rattle.std.specs.Prelude.{ℕ, ◌+◌, ◌*◌, ◌≡◌, ◌≢◌, ◌<◌, ◌≤◌, ◌⊎◌, List, Bool, true, false}
use Rattle.dg_base.specs.declared.run.Ending.TheVariants.{StepLimit}
use Rattle.dg_base.specs.declared.run.Limits.{Limits}
use Rattle.dg_base.specs.Sound.{IsSound}
use Rattle.dg_meaning.specs.Few.{AllHoldFew}
use Rattle.dg_meaning.specs.World.{Game}
use Rattle.dg_meaning.specs.Transcript.{run}
use Rattle.dg_meaning.specs.Shows.{MayBegin}
use Rattle.dg_meaning.specs.Sets.{is_in_set}
use Rattle.dg_single.specs.Singles.{IsClosed}
use Rattle.dg_mid.specs.declared.code.Code.{Code}
use Rattle.dg_mid.specs.State.{Mid, Status, Runs, Ended}
use Rattle.dg_mid.specs.Step.{Setting, setting, step, takes_goal}
use Rattle.dg_mid.specs.Codes.{Codes}
use Rattle.dg_mid.specs.Runs.{after, IsAt, ShowsAll, ShowsFaults}
use Rattle.dg_mid.specs.Heights.{StatusOrdered}
use Rattle.dg_mid.specs.Trails.{StatusTrailed}
use Rattle.dg_mid.specs.Calls.{StatusCuts, StatusFits}
use Rattle.dg_mid.specs.Seeking.{BlocksLeave, StatusSeeks}
use Rattle.dg_mid.specs.Singles.{IsAnswered, choices_in}
use Rattle.dg_mid.specs.Falling.{left_at}
use Rattle.dg_mid.specs.Potential.{Tidy, IsOver}

-- Where code stands for the program of a game, each run of the game comes from where the machine is after so many steps.
abbrev pub RunsAsSearched : Type 0
RunsAsSearched = (g : Game) (code : Code) (limits : Limits) → Codes g.program code → (typed : List ℕ) (k : ℕ) →
    IsAt (setting g code limits) g typed (after (setting g code limits) typed k)

-- Where code stands for the program of a game that may begin, what it prints shows the game.
abbrev pub CodeShows : Type 0
CodeShows = (g : Game) (code : Code) (limits : Limits) → Codes g.program code → MayBegin g limits → (typed : List ℕ) →
    ShowsAll (setting g code limits) g typed

-- The same where its input fails.
abbrev pub CodeShowsFaults : Type 0
CodeShowsFaults = (g : Game) (code : Code) (limits : Limits) → Codes g.program code → (typed : List ℕ) → ShowsFaults (setting g code limits) g typed

-- In every run of any code, heights order places as tags do.
abbrev pub HeightsOrder : Type 0
HeightsOrder = (s : Setting) (typed : List ℕ) (k : ℕ) → StatusOrdered (after s typed k).now

-- In every run of any code, so do trails.
abbrev pub TrailsOrder : Type 0
TrailsOrder = (s : Setting) (typed : List ℕ) (k : ℕ) → StatusTrailed (after s typed k).now

-- In every run of any code, a call that is gone on with cuts to the height of the heap there.
abbrev pub CallsCut : Type 0
CallsCut = (s : Setting) (typed : List ℕ) (k : ℕ) → StatusCuts (after s typed k).now

-- No run of any code ends with a step limit: that is its caller's.
abbrev pub NoStepLimit : Type 0
NoStepLimit = (s : Setting) (typed : List ℕ) (k : ℕ) → (after s typed k).now ≢ Ended StepLimit

-- In every run of code that stands for a sound program whose goals hold few terms each, calls have as many arguments as the rules that they may enter
-- have terms in their heads, and no more than that.
abbrev pub CallsFit : Type 0
CallsFit = (g : Game) (code : Code) (limits : Limits) → Codes g.program code → IsSound g.program → (n : ℕ) → AllHoldFew n g.program →
    (typed : List ℕ) (k : ℕ) → StatusFits n code (after (setting g code limits) typed k).now

-- In every run of code in which queries of objects for one answer leave an inner construct first, objects are tried where they may be found.
abbrev pub ObjectsTried : Type 0
ObjectsTried = (s : Setting) → BlocksLeave s.code → (typed : List ℕ) (k : ℕ) →
    StatusSeeks s.game s.code (after s typed k).now

-- In every run of code that stands for a program, a query of a predicate of a set that its rules fit leaves the choices as they were, once it is
-- answered.
abbrev pub SinglesLeaveNone : Type 0
SinglesLeaveNone = (g : Game) (code : Code) (limits : Limits) → Codes g.program code → (set : List Bool) → IsClosed g.program.preds set →
    (typed : List ℕ) (k pred : ℕ) (m : Mid) (steps : ℕ) (answer : Mid) → is_in_set set pred ≡ true →
    (after (setting g code limits) typed k).now ≡ Runs m → IsAnswered (setting g code limits) pred m steps answer →
    choices_in (step (setting g code limits) (Runs answer)) ≡ m.choices

-- In tidy code a number falls at each step that takes no goal, until the run has ended.
abbrev pub Falls : Type 0
Falls = (s : Setting) (now : Status) → Tidy s.code → takes_goal now ≡ false → (IsOver now → ⊥) → left_at (step s now) < left_at now

-- What the steps of tidy code have cost is within the work of the goals that were taken.
abbrev pub CostsItsWork : Type 0
CostsItsWork = (g : Game) (code : Code) (limits : Limits) → Codes g.program code → Tidy code → (typed : List ℕ) (k : ℕ) →
    let p = after (setting g code limits) typed k in p.spent ≤ 13 * (run g typed p.goals).world.meters.work + 7

-- Rules are looked at no more often than that work says, and once.
abbrev pub LooksItsWork : Type 0
LooksItsWork = (g : Game) (code : Code) (limits : Limits) → Codes g.program code → Tidy code → (typed : List ℕ) (k : ℕ) →
    let p = after (setting g code limits) typed k in p.looks ≤ 1 + (run g typed p.goals).world.meters.work

-- After more steps than the work of n goals allows, a further goal has been taken or the run has ended.
abbrev pub MovesOn : Type 0
MovesOn = (g : Game) (code : Code) (limits : Limits) → Codes g.program code → Tidy code → (typed : List ℕ) (n k : ℕ) →
    13 * (run g typed n).world.meters.work + 7 < k → let p = after (setting g code limits) typed k in IsOver p.now ⊎ (n < p.goals)
