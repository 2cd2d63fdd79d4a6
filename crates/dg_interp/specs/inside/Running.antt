-- What an engine, a spacer and what a run is shown to come to together. Hold it against the Dialog manual, chapter "Output".
use Rattle.std.specs.Prelude.{ℕ, suc, ◌+◌, ◌≡◌, ◌<◌, ◌≤◌, ◌⊎◌, ◌++◌, List, [], Option, Some, None, Bool, true, false, Result, Ok, Err, length}
use Rattle.dg_base.specs.declared.run.Ending.{Ending}
use Rattle.dg_base.specs.declared.run.Ending.TheVariants.{Failed, InputEnded, StepLimit, HeapLimit, TrailLimit, AuxLimit, KeepLimit}
use Rattle.dg_base.specs.declared.run.RunFault.{RunFault}
use Rattle.dg_base.specs.declared.run.RunFault.TheVariants.{Read, Write, OutOfMemory}
use Rattle.dg_meaning.specs.World.{Game, World, Event, prints}
use Rattle.dg_meaning.specs.Transcript.{Run}
use Rattle.dg_meaning.specs.inside.OneRun.{Grows}
use Rattle.dg_base.specs.Begins.{Begins, EndsWith}
use Rattle.dg_meaning.specs.Peaks.{Area, Heap, Trail, Aux, Keep, greatest, limit_ending}
use Rattle.dg_spacing.specs.declared.spacer.Spacer.{Spacer}
use Rattle.dg_interp.specs.declared.engine.Engine.{Engine}
use Rattle.dg_lasting.specs.declared.lack.Lack.{Lack}
use Rattle.dg_lasting.specs.Lacks.{area_of}
use Rattle.dg_base.specs.Causes.{Rose}
use Rattle.dg_base.specs.Streams.{SourceView}
use Rattle.dg_meaning.specs.Shows.{IsLeft}
use Rattle.dg_watch.specs.Told.{told_events}
use Rattle.dg_watch.specs.Watching.{Watching, Given, Lost}
use Rattle.dg_spacing.specs.Spacer.{StandsFor}
use Rattle.dg_meaning.specs.Engines.{left_told}
use Rattle.dg_interp.specs.inside.Engine.{limit_in, IsReady, StandsAt, SameLimits, Forgets}
use Rattle.dg_interp.specs.inside.Showing.{calls_told}

-- Since the start what a run is shown to was told these things, and the spacer stands for them.
pub record HasText {P : Type 0} (v : Watching P) (s : Spacer) (start now : P) (es : List Event) : Type 0 where
  pub stands : StandsFor s (prints es)
  pub given : Given v start now (told_events es)

-- Whatever these things were added to, they were told.
abbrev pub Writes : {P : Type 0} → Watching P → Spacer → Spacer → P → P → List Event → Type 0
Writes {P = P} v s s' before now added = (start : P) (es : List Event) → HasText v s start before es → HasText v s' start now (es ++ added)

-- These bytes are left: nothing where the end was met, and else what the source has left.
abbrev pub LeftBehind : Bool → SourceView → List ℕ → Type 0
LeftBehind false now rest = IsLeft now.left rest
LeftBehind true now rest = rest ≡ []

-- A source gave these bytes: what it had left is these, and then what is left.
pub record Gave (old new : SourceView) (ended : Bool) (taken : List ℕ) : Type 0 where
  pub left : (rest : List ℕ) → LeftBehind ended new rest → IsLeft old.left (taken ++ rest)
  pub later : old.faults ≤ new.faults

-- The typed bytes of a world are those that a stretch of the run takes, and then what is left behind it.
pub record Awaits (now : SourceView) (ended : Bool) (taken : List ℕ) (w : World) : Type 0 where
  pub rest : List ℕ
  pub left : LeftBehind ended now rest
  pub typed : w.typed ≡ taken ++ rest

-- In a stretch of the run these things happened, and it took these typed bytes, and then this holds.
pub record Stretch (added : List Event) (taken : List ℕ) (w : World) (P : World → Type 0) : Type 0 where
  pub world : World
  pub events_are : world.events ≡ w.events ++ added
  pub typed : w.typed ≡ taken ++ world.typed
  pub holds : P world

-- Whatever run comes from where the engine is, with as much of its budget left, all that it printed so far written,
-- and the typed bytes that the source gives up to its end, this holds of it.
pub record Reaches {P : Type 0} (v : Watching P) (e : Engine) (s : Spacer) (before : P) (from to : SourceView)
    (Q : World → Run → P → Type 0) : Type 0 where
  pub taken : List ℕ
  pub ended : Bool
  pub gave : Gave from to ended taken
  pub reaches : (g : Game) (w : World) (run : Run) (start : P) → Awaits to ended taken w → StandsAt e g e.left w run →
      HasText v s start before w.events → Q w run start

-- A goal was taken and done, and each run goes on from where the engine is; what was added to it was written.
pub record GoalDone {P : Type 0} (v : Watching P) (old new : Engine) (s s' : Spacer) (before now : P) (from to : SourceView) : Type 0 where
  pub ready : IsReady new
  pub limits : SameLimits old new
  pub left : old.left ≡ suc new.left
  pub added : List Event
  pub taken : List ℕ
  pub gave : Gave from to false taken
  pub leads : (g : Game) (n : ℕ) (w : World) (run : Run) → Awaits to false taken w → StandsAt old g (suc n) w run →
      Stretch added taken w (λ v. StandsAt new g n v run)
  pub writes : Writes v s s' before now added
  pub silent : new.told.items ≡ []

-- Some goals were taken, and each run goes on from where the engine is; what was added to it was written.
pub record GoesOn {P : Type 0} (v : Watching P) (old new : Engine) (s s' : Spacer) (before now : P) (from to : SourceView) : Type 0 where
  pub ready : IsReady new
  pub goal : 0 < length new.here.goals.now
  pub limits : SameLimits old new
  pub goals : ℕ
  pub left : old.left ≡ goals + new.left
  pub added : List Event
  pub taken : List ℕ
  pub gave : Gave from to false taken
  pub leads : (g : Game) (n : ℕ) (w : World) (run : Run) → Awaits to false taken w → StandsAt old g (goals + n) w run →
      Stretch added taken w (λ v. StandsAt new g n v run)
  pub writes : Writes v s s' before now added
  pub silent : new.told.items ≡ []

-- The run has ended so, with this much of its budget left, all that it printed was written, and what the source tells is
-- what the run has left.
pub record HasEnded {P : Type 0} (v : Watching P) (ending : Ending) (left : ℕ) (s : Spacer) (now : P) (told : Option (List ℕ)) (w : World) (run : Run)
    (start : P) : Type 0 where
  pub world : World
  pub typed : IsLeft told world.typed
  pub is : run ≡ record { left = left; world = world; ending = ending }
  pub text : HasText v s start now world.events

-- A run has printed no more than a world and these things, and has left what is left here, or more.
pub record IsNoFurther (added : List Event) (rest : List ℕ) (w : World) (run : Run) : Type 0 where
  pub events : Begins run.world.events (w.events ++ added)
  pub typed : EndsWith run.world.typed rest

-- A limit was met behind some goals, with this much of the budget left: the run with a budget of these goals passes it and comes
-- later than what was written and taken, and the run with a budget of one less is no further.
pub record MeetsLimit {P : Type 0} (v : Watching P) (area : Area) (left : ℕ) (old : Engine) (s s' : Spacer) (before now : P)
    (from to : SourceView) : Type 0 where
  pub goals : ℕ
  pub left_is : old.left ≡ suc goals + left
  pub added : List Event
  pub taken : List ℕ
  pub gave : Gave from to false taken
  pub passed : (g : Game) (w : World) (run : Run) → Awaits to false taken w → StandsAt old g (suc goals) w run →
      limit_in area old < greatest area run.world.meters
  pub until : (g : Game) (w : World) (run : Run) → Awaits to false taken w → StandsAt old g (suc goals) w run →
      Stretch added taken w (λ v. Grows v run.world)
  pub since : (g : Game) (w : World) (run : Run) (awaits : Awaits to false taken w) → StandsAt old g goals w run →
      IsNoFurther added awaits.rest w run
  pub writes : Writes v s s' before now added

-- How a run has ended: at a limit, or as its search ends.
abbrev pub Ended : {P : Type 0} → Watching P → Ending → ℕ → Engine → Spacer → Spacer → P → P → SourceView → SourceView → Type 0
Ended v HeapLimit left old s s' before now from to = MeetsLimit v Heap left old s s' before now from to
Ended v TrailLimit left old s s' before now from to = MeetsLimit v Trail left old s s' before now from to
Ended v AuxLimit left old s s' before now from to = MeetsLimit v Aux left old s s' before now from to
Ended v KeepLimit left old s s' before now from to = MeetsLimit v Keep left old s s' before now from to
Ended v ending left old s s' before now from to = Reaches v old s before from to (HasEnded v ending left s' now (left_told from to))

-- A part of what happens in the run, later than a world, was told; and what the source tells is left between the two.
pub record HasPart {P : Type 0} (v : Watching P) (s : Spacer) (now : P) (told : Option (List ℕ)) (w : World) (run : Run) (start : P) : Type 0 where
  pub part : List Event
  pub until : Begins part run.world.events
  pub text : HasText v s start now part
  pub rest : List ℕ
  pub left : IsLeft told rest
  pub taken : EndsWith w.typed rest
  pub typed : EndsWith rest run.world.typed

-- A run ended at its budget, with this world.
pub record IsLimited (w : World) (run : Run) : Type 0 where
  pub ending : run.ending ≡ StepLimit
  pub events : run.world.events ≡ w.events
  pub typed : run.world.typed ≡ w.typed

-- A run found the input at its end, or behind so many typed bytes it took so many more, and at least one.
abbrev pub TakesMore : ℕ → ℕ → World → Run → Type 0
TakesMore taken more w run = (run.ending ≡ InputEnded) ⊎
    ((taken + more + length run.world.typed ≤ length w.typed) × (taken + length run.world.typed < length w.typed))

-- The input failed at the goal behind some others. What these printed was written; that goal finds the input at its end, or takes more than they
-- did, and all that the source gave.
pub record LosesInput {P : Type 0} (v : Watching P) (old : Engine) (s s' : Spacer) (before now : P) (from to : SourceView) : Type 0 where
  pub goals : ℕ
  pub below : goals < old.left
  pub added : List Event
  pub taken : List ℕ
  pub more : List ℕ
  pub gave : Gave from to false (taken ++ more)
  pub rose : Rose from.faults to.faults
  pub stops : (g : Game) (w : World) (run : Run) → Awaits to false (taken ++ more) w → StandsAt old g goals w run →
      Stretch added taken w (λ v. IsLimited v run)
  pub reads : (g : Game) (w : World) (run : Run) → Awaits to false (taken ++ more) w → StandsAt old g (suc goals) w run →
      TakesMore (length taken) (length more) w run
  pub writes : Writes v s s' before now added

-- The output failed at the goal behind some others, within what is printed up to that goal: it leaves no more than what is left here, and the others
-- no less.
pub record LosesOutput {P : Type 0} (v : Watching P) (old : Engine) (s : Spacer) (before now : P) (from to : SourceView) : Type 0 where
  pub goals : ℕ
  pub below : goals < old.left
  pub taken : List ℕ
  pub gave : Gave from to false taken
  pub breaks : (g : Game) (w : World) (run : Run) (start : P) → Awaits to false taken w → StandsAt old g (suc goals) w run →
      HasText v s start before w.events → Lost v start now (told_events run.world.events)
  pub until : (g : Game) (w : World) (run : Run) (awaits : Awaits to false taken w) → StandsAt old g (suc goals) w run →
      EndsWith awaits.rest run.world.typed
  pub since : (g : Game) (w : World) (run : Run) (awaits : Awaits to false taken w) → StandsAt old g goals w run →
      EndsWith run.world.typed awaits.rest

-- The run was broken off: the input failed, or what it was shown to within the run, or memory ran out.
abbrev pub Broken : {P : Type 0} → Watching P → RunFault → Engine → Spacer → Spacer → P → P → SourceView → SourceView → Type 0
Broken v Read old s s' before now from to = LosesInput v old s s' before now from to
Broken v Write old s s' before now from to = LosesOutput v old s before now from to
Broken v OutOfMemory old s s' before now from to = Reaches v old s before from to (HasPart v s' now to.left)

-- The goal at hand was done, or the run has ended so.
abbrev pub DoesGoal : {P : Type 0} → Watching P → Option Ending → Engine → Engine → Spacer → Spacer → P → P →
    SourceView → SourceView → Type 0
DoesGoal v None old new s s' before now from to = GoalDone v old new s s' before now from to
DoesGoal v (Some ending) old new s s' before now from to = Ended v ending new.left old s s' before now from to

-- The next goal is at hand, or the run has ended so.
abbrev pub Does : {P : Type 0} → Watching P → Option Ending → Engine → Engine → Spacer → Spacer → P → P → SourceView → SourceView → Type 0
Does v None old new s s' before now from to = GoesOn v old new s s' before now from to × (old.left ≡ suc new.left)
Does v (Some ending) old new s s' before now from to = Ended v ending new.left old s s' before now from to

-- The ending of a run that met the limit of an area; want of memory is a fault.
abbrev pub ending_at : Option Area → Result Ending RunFault
ending_at None = Err OutOfMemory
ending_at (Some area) = Ok (limit_ending area)

abbrev pub limit_of : Lack → Result Ending RunFault
limit_of lack = ending_at (area_of lack)

-- The run is over.
abbrev pub over : Result Ending RunFault → Result (Option Ending) RunFault
over (Ok ending) = Ok (Some ending)
over (Err fault) = Err fault

-- The calls that were told were shown, and are forgotten; the run goes on, or has ended, as it did before.
pub record AllTold {P : Type 0} (v : Watching P) (ending result : Option Ending) (old new : Engine) (before now : P) : Type 0 where
  pub is : result ≡ ending
  pub forgets : Forgets old new
  pub given : Given v before now (calls_told old.told.items)

-- What comes of showing the calls that were told.
abbrev pub TellsSo : {P : Type 0} → Watching P → Option Ending → Engine → Engine → P → P → Result (Option Ending) RunFault → Type 0
TellsSo v ending old new before now (Ok result) = AllTold v ending result old new before now
TellsSo v ending old new before now (Err Write) = Lost v before now (calls_told old.told.items)
TellsSo v ending old new before now (Err other) = ⊥

-- Something was lacking: nothing was shown.
pub record LacksSo {P : Type 0} (lack : Lack) (old new : Engine) (before now : P) (result : Result (Option Ending) RunFault) : Type 0 where
  pub is : result ≡ over (limit_of lack)
  pub engine : new ≡ old
  pub shown : now ≡ before

-- What a goal comes to whose branch has begun, or which has failed, or lacked something.
abbrev pub ComesTo : {P : Type 0} → Watching P → Result Bool Lack → Engine → Engine → P → P → Result (Option Ending) RunFault → Type 0
ComesTo v (Ok true) old new before now result = TellsSo v None old new before now result
ComesTo v (Ok false) old new before now result = TellsSo v (Some Failed) old new before now result
ComesTo v (Err lack) old new before now result = LacksSo lack old new before now result
