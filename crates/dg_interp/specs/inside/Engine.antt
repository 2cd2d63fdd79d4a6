-- What an engine stands for, and what its parts do to that. Hold it against the Dialog manual, chapter "Choice points".
use Rattle.std.specs.Prelude.{ℕ, suc, ◌+◌, ◌^◌, ◌≡◌, ◌<◌, ◌≤◌, ◌++◌, List, [], ◌∷◌, Bool, true, false, length, map, reverse, Option, Some, None, if◌then◌else◌}
use Rattle.std.specs.List.{All}
use Rattle.dg_base.specs.declared.program.Goal.{Goal, Goal-F}
use Rattle.dg_base.specs.declared.program.Goal.TheVariants.{Print as PrintGoal, Stop as StopGoal}
use Rattle.dg_base.specs.declared.program.Goal.TheOpen.{Text, Print as PrintForm, Gap, GapN, Now, Quit, Stop, Input, Collect, Accumulate}
use Rattle.dg_base.specs.declared.program.Rule.{Rule}
use Rattle.dg_base.specs.declared.program.Term.{Term}
use Rattle.dg_base.specs.declared.program.CoreProgram.{CoreProgram}
use Rattle.dg_base.specs.Sound.{IsSound as IsSoundProgram}
use Rattle.dg_base.specs.declared.run.Ending.{Ending}
use Rattle.dg_base.specs.declared.run.Limits.{Limits}
use Rattle.dg_base.specs.declared.run.Ending.TheVariants.{Done as Done-Ending, Failed as Failed-Ending, Stopped}
use Rattle.dg_meaning.specs.World.{Game, World, Piece, Event, Prints, Asked, Answered, Retried, HasFailed}
use Rattle.dg_meaning.specs.Facts.{kinds_of, kept_size, start_facts}
use Rattle.dg_meaning.specs.Substitutions.{resolved}
use Rattle.dg_meaning.specs.Pieces.{pieces}
use Rattle.dg_meaning.specs.Path.{Step, Do, Registers, Result, Failing, End}
use Rattle.dg_meaning.specs.Moves.{path_of, new_vars}
use Rattle.dg_meaning.specs.Search.{search}
use Rattle.dg_meaning.specs.Transcript.{Run, run_of, run, start_world, asking_path}
use Rattle.dg_meaning.specs.inside.Context.{Way, Live}
use Rattle.dg_meaning.specs.inside.Keeps.{Stands, Failed, Finished, Tried, WentOn as LeftPart}
use Rattle.dg_meaning.specs.Peaks.{Area, Heap, Trail, Aux, Keep, greatest, limit_of}
use Rattle.dg_interp.specs.Runnable.{IsRunnable, IsRunnableGoal, AreRunnable}
use Rattle.dg_unify.specs.Store.{Store, Saved, Holds, told}
use Rattle.dg_unify.specs.inside.Engines.{Agrees, IsPlace as IsPlaceOf}
use Rattle.dg_unify.specs.Slots.{store_of, Stand}
use Rattle.dg_unify.specs.Listed.{fields_of}
use Rattle.dg_unify.specs.declared.bindings.Ref.{Ref}
use Rattle.dg_unify.specs.declared.bindings.Full.{Full}
use Rattle.dg_unify.specs.declared.bindings.Full.TheVariants as full
use Rattle.dg_unify.specs.declared.bindings.Mark.{Mark as Place}
use Rattle.dg_unify.specs.declared.list.ListBindings.{ListBindings}
use Rattle.dg_choices.specs.declared.frames.Mark.TheVariants.{Nothing}
use Rattle.dg_choices.specs.declared.frames.Left.{Left}
use Rattle.dg_choices.specs.declared.frames.Left.TheVariants.{Rules, Behind}
use Rattle.dg_choices.specs.declared.frames.Frame.{Frame}
use Rattle.dg_choices.specs.declared.frames.Choice.{Choice}
use Rattle.dg_interp.specs.declared.engine.Engine.{Engine}
use Rattle.dg_watch.specs.declared.watch.CallEvent.{CallEvent}
use Rattle.dg_watch.specs.declared.watch.CallEvent.TheVariants as call
use Rattle.dg_lasting.specs.declared.lack.Lack.{Lack}
use Rattle.dg_lasting.specs.declared.lasting.Lasting.{Lasting}
use Rattle.dg_lasting.specs.Lacks.{area_of}
use Rattle.dg_lasting.specs.Lasting.{picks_in, InWorld, MayPick}
use Rattle.dg_interp.specs.declared.engine.Settled.{Settled}
use Rattle.dg_interp.specs.declared.engine.Settled.TheVariants as settled
use Rattle.dg_interp.specs.inside.Frames.{values_in, steps_at, kind_of, branches_of, AreChoices, IsFrame, AreFrames, StandOn, GoBackTo, lives_of, ways_of, TakesNewest, all_left}

-- ## What holds of an engine

-- What a store stands for.
abbrev pub store_in : ListBindings → Store
store_in s = store_of true (fields_of s)

-- The places of these stores are kept.
abbrev pub KeepsPlaces : ListBindings → List Saved → Type 0
KeepsPlaces s ms = Stand true (fields_of s) ms

-- The stores to which choices on these Refs go back.
pub record HasPlaces (store : ListBindings) (refs : List Ref) (os : List Choice) : Type 0 where
  pub saved : List Saved
  pub keeps : KeepsPlaces store saved
  pub back_to : GoBackTo refs (store_in store).heap_limit (store_in store).trail_limit os saved

-- All is runnable and sound, Refs have values, and links and choices are in order.
pub record Sound (p : CoreProgram) (store : ListBindings) (refs : List Ref) (fs : List Frame) (os : List Choice) (newest : ℕ) : Type 0 where
  pub program : IsRunnable p
  pub sound : IsSoundProgram p
  pub hold : All (Holds (store_in store)) refs
  pub frames : AreFrames (length fs) (length refs) fs
  pub choices : StandOn fs (length fs) (length refs) newest os
  pub places : HasPlaces store refs os

-- So it is with an engine, and neither its tags nor the counts of its selects can run out before its goals do.
pub record IsSound (e : Engine) : Type 0 where
  pub base : Sound e.program.now e.store e.refs.items e.frames.items (reverse e.choices.items) e.newest
  pub room : e.newest + e.left < 2 ^ 64
  pub picks : MayPick e.left (picks_in e.lasting)

-- The same, with goals at hand.
pub record IsReady (e : Engine) : Type 0 where
  pub sound : IsSound e
  pub here : IsFrame (length e.frames.items) (length e.refs.items) e.here

-- ## What it stands for

-- How many gatherings are open.
abbrev pub open_in : Engine → ℕ
open_in e = length e.lasting.gathered.rows

-- Where a run may be: the game, the goals left of its budget, its world, and all that it comes to.
abbrev pub Point : Type 1
Point = Game → ℕ → World → Run → Type 0

-- The steps of the frame at hand.
abbrev pub steps_of : Engine → List Step
steps_of e = steps_at (values_in (store_in e.store) e.refs.items) e.frames.items e.here

-- A program, what lasts, a store, Refs, frames and choices are in this world, inside choices of the meaning, and no more of the heap was reached than
-- the store's limit.
pub record Within (p : CoreProgram) (out : Lasting) (store : ListBindings) (refs : List Ref) (frames : List Frame) (os : List Choice)
    (g : Game) (w : World) : Type 0 where
  pub program : p ≡ g.program
  pub entries : List Live
  pub lives : List Live
  pub lives_are : lives ≡ lives_of os entries
  pub saved : List Saved
  pub keeps : KeepsPlaces store saved
  pub choices : AreChoices g refs frames os saved entries
  pub world : InWorld out g w
  pub peak : w.meters.heap ≤ (store_in store).heap_limit

-- The same of an engine.
abbrev pub Inside : Engine → Game → World → Type 0
Inside e g w = Within e.program.now e.lasting e.store e.refs.items e.frames.items (reverse e.choices.items) g w

-- They are there on a path with these registers, on which the next choice has this tag, inside this stoppable part.
pub record On (p : CoreProgram) (out : Lasting) (store : ListBindings) (refs : List Ref) (frames : List Frame) (os : List Choice) (next : ℕ)
    (part : Option ℕ) (g : Game) (w : World) : Type 0 where
  pub inside : Within p out store refs frames os g w
  pub ways : List Way
  pub ways_are : ways ≡ ways_of os inside.entries
  pub registers : Registers
  pub agrees : Agrees (store_in store) registers
  pub tag : registers.next_tag ≡ next
  pub stop : registers.stoppable ≡ part

-- The same of an engine.
abbrev pub There : Engine → ℕ → Game → World → Type 0
There e next g w = On e.program.now e.lasting e.store e.refs.items e.frames.items (reverse e.choices.items) next e.stoppable g w

-- The run comes from where the engine is, with so many goals left of its budget.
pub record StandsAt (e : Engine) (g : Game) (n : ℕ) (w : World) (run : Run) : Type 0 where
  pub at : There e (e.newest + 1) g w
  pub stands : Stands g at.inside.lives at.ways (path_of (steps_of e) at.registers) n w run

-- The run comes from a failure where the engine is.
pub record FailsAt (e : Engine) (g : Game) (n : ℕ) (w : World) (run : Run) : Type 0 where
  pub inside : Inside e g w
  pub failed : Failed g inside.lives n w run

-- Some things with others behind them, one after another.
abbrev pub with_all : {A : Type 0} → List A → List A → List A
with_all xs [] = xs
with_all xs (y ∷ ys) = with_all (xs ++ y ∷ []) ys

-- From one world to another these things happened, and nothing was read.
pub record Adds (es : List Event) (old new : World) : Type 0 where
  pub events_are : new.events ≡ with_all old.events es
  pub typed : new.typed ≡ old.typed

-- After these things happened, this holds.
pub record Then (es : List Event) (w : World) (P : World → Type 0) : Type 0 where
  pub world : World
  pub adds : Adds es w world
  pub holds : P world

-- ## What its parts do

-- The limit that an engine has.
abbrev pub limit_in : Area → Engine → ℕ
limit_in Heap e = (store_in e.store).heap_limit
limit_in Trail e = (store_in e.store).trail_limit
limit_in Aux e = e.lasting.gathered.aux
limit_in Keep e = e.lasting.world.area.keep

-- A store holds so many new variables at these Refs, counts nothing, and has these limits of heap and trail.
pub record HasNew (own heap trail : ℕ) (store : ListBindings) (refs : List Ref) : Type 0 where
  pub state : (store_in store).state ≡ record { vars = own; subst = []; since = own; heap = 0; trail = 0 }
  pub hold : All (Holds (store_in store)) refs
  pub values : map (told (store_in store)) refs ≡ new_vars own 0
  pub heap_is : (store_in store).heap_limit ≡ heap
  pub trail_is : (store_in store).trail_limit ≡ trail

-- It stands at the start of each run of these goals among so many new variables, with these dice words, and has these limits.
pub record StartsOn (program : CoreProgram) (goals : List Goal) (own : ℕ) (limits : Limits) (dice : List ℕ) (e : Engine) : Type 0 where
  pub ready : IsReady e
  pub goal : 0 < length e.here.goals.now
  pub left : e.left ≡ limits.steps
  pub begins : kept_size (kinds_of program) (start_facts program.places) ≤ limits.keep
  pub limits_are : (area : Area) → limit_in area e ≡ limit_of area limits
  pub stands : (g : Game) (n : ℕ) (typed : List ℕ) → g.program ≡ program → g.dice ≡ dice →
      StandsAt e g n (start_world g typed) (run_of (search g n (asking_path goals own) (start_world g typed)))

-- It stands at the start of each run of the program with these dice words, and has these limits.
pub record Starts (program : CoreProgram) (limits : Limits) (dice : List ℕ) (e : Engine) : Type 0 where
  pub ready : IsReady e
  pub goal : 0 < length e.here.goals.now
  pub left : e.left ≡ limits.steps
  pub begins : kept_size (kinds_of program) (start_facts program.places) ≤ limits.keep
  pub limits_are : (area : Area) → limit_in area e ≡ limit_of area limits
  pub stands : (g : Game) (n : ℕ) (typed : List ℕ) → g.program ≡ program → g.dice ≡ dice → StandsAt e g n (start_world g typed) (run g typed n)

-- What a call is among the things that happen.
abbrev pub event_of : CallEvent → List Event
event_of (call.Asked pred) = Asked pred ∷ []
event_of (call.Answered pred) = Answered pred ∷ []
event_of (call.Retried pred) = Retried pred ∷ []
event_of (call.Failed pred) = HasFailed pred ∷ []
event_of call.Printed = []

-- What calls are.
abbrev pub events_of : List CallEvent → List Event
events_of [] = []
events_of (c ∷ cs) = event_of c ++ events_of cs

-- A run that comes from one point comes from the other once these calls have happened.
abbrev pub LeadsBy : List CallEvent → Point → Point → Type 0
LeadsBy calls From To = (g : Game) (n : ℕ) (w : World) (run : Run) → From g n w run → Then (events_of calls) w (λ v. To g n v run)

-- A run that comes from one point comes from the other, and nothing happens.
abbrev pub Leads : Point → Point → Type 0
Leads From To = LeadsBy [] From To

-- Each run that comes from there passes this limit of an area.
abbrev pub PassesLimit : Area → Point → ℕ → Type 0
PassesLimit area From limit = (g : Game) (n : ℕ) (w : World) (run : Run) → From g n w run → limit < greatest area run.world.meters

-- A limit of a store was met: each run that comes from there passes it.
abbrev pub FullAt : Point → Store → Full → Type 0
FullAt From s full.Heap = PassesLimit Heap From s.heap_limit
FullAt From s full.Trail = PassesLimit Trail From s.trail_limit
FullAt From s full.OutOfMemory = Unit {0}

-- The limit of an area was met, if it is one that has a limit.
abbrev pub LacksIn : Option Area → Point → Engine → Type 0
LacksIn None From e = Unit {0}
LacksIn (Some area) From e = PassesLimit area From (limit_in area e)

-- What an engine lacks: each run that comes from there passes that limit.
abbrev pub LackAt : Point → Engine → Lack → Type 0
LackAt From e lack = LacksIn (area_of lack) From e

-- The limits are the same.
pub record SameLimits (old new : Engine) : Type 0 where
  pub heap : (store_in new.store).heap_limit ≡ (store_in old.store).heap_limit
  pub trail : (store_in new.store).trail_limit ≡ (store_in old.store).trail_limit
  pub aux : new.lasting.gathered.aux ≡ old.lasting.gathered.aux
  pub keep : new.lasting.world.area.keep ≡ old.lasting.world.area.keep

-- The limits are the same, and nothing was told.
pub record Silent (old new : Engine) : Type 0 where
  pub heap : (store_in new.store).heap_limit ≡ (store_in old.store).heap_limit
  pub trail : (store_in new.store).trail_limit ≡ (store_in old.store).trail_limit
  pub aux : new.lasting.gathered.aux ≡ old.lasting.gathered.aux
  pub keep : new.lasting.world.area.keep ≡ old.lasting.world.area.keep
  pub told : new.told.items ≡ old.told.items

-- The limits are the same, and these calls were told.
pub record Tells (old new : Engine) : Type 0 where
  pub heap : (store_in new.store).heap_limit ≡ (store_in old.store).heap_limit
  pub trail : (store_in new.store).trail_limit ≡ (store_in old.store).trail_limit
  pub aux : new.lasting.gathered.aux ≡ old.lasting.gathered.aux
  pub keep : new.lasting.world.area.keep ≡ old.lasting.world.area.keep
  pub calls : List CallEvent
  pub told : new.told.items ≡ with_all old.told.items calls

-- How many choices it has, and branches that they have left.
abbrev pub branches_left : Engine → ℕ
branches_left e = all_left (reverse e.choices.items)

-- A run that comes from there comes from where the engine is, which is ready, with as many goals left.
pub record WentOn (From : Point) (old new : Engine) : Type 0 where
  pub ready : IsReady new
  pub left : new.left ≡ old.left
  pub limits : Tells old new
  pub leads : LeadsBy limits.calls From (StandsAt new)

-- The run has failed inside the choices of the engine.
pub record WentWrong (From : Point) (old new : Engine) : Type 0 where
  pub sound : IsSound new
  pub left : new.left ≡ old.left
  pub limits : Tells old new
  pub leads : LeadsBy limits.calls From (FailsAt new)

-- The run has ended so, in a world for which what lasts stands, and no more of the heap was reached than the limit.
pub record EndsAt (result : Result) (e : Engine) (g : Game) (n : ℕ) (w : World) (run : Run) : Type 0 where
  pub finished : Finished n w result run
  pub world : InWorld e.lasting g w
  pub peak : w.meters.heap ≤ (store_in e.store).heap_limit

-- The run has ended so.
pub record HasEndedSo (From : Point) (result : Result) (old new : Engine) : Type 0 where
  pub left : new.left ≡ old.left
  pub limits : Tells old new
  pub ends : LeadsBy limits.calls From (EndsAt result new)

-- The goals at hand are done, and so is the mark behind them.
pub record MarkPassed (old new : Engine) : Type 0 where
  pub went_on : WentOn (StandsAt old) old new
  pub goals : new.here.goals.now ≡ []
  pub mark : new.here.mark ≡ Nothing
  pub behind : new.here.behind ≡ old.here.behind
  pub fewer : branches_left new ≤ branches_left old

-- What is negated was answered.
pub record Refused (old new : Engine) : Type 0 where
  pub wrong : WentWrong (StandsAt old) old new
  pub fewer : branches_left new ≤ branches_left old

-- The mark is passed, or what is negated was answered.
abbrev pub Passes : Bool → Engine → Engine → Type 0
Passes true old new = MarkPassed old new
Passes false old new = Refused old new

-- The frame behind is at hand.
pub record FrameLeft (old new : Engine) : Type 0 where
  pub went_on : WentOn (StandsAt old) old new
  pub older : new.here.behind < old.here.behind
  pub fewer : branches_left new ≤ branches_left old

-- A goal is at hand.
pub record AtGoal (From : Point) (old new : Engine) : Type 0 where
  pub went_on : WentOn From old new
  pub goal : 0 < length new.here.goals.now

-- A goal is at hand, all steps are done, or what is negated was answered.
abbrev pub Settles : Settled → Engine → Engine → Type 0
Settles settled.Goal old new = AtGoal (StandsAt old) old new
Settles settled.Done old new = HasEndedSo (StandsAt old) (End Done-Ending) old new
Settles settled.Refused old new = Refused old new

-- The next goal is at hand, or the run is done or has failed.
abbrev pub GoesToGoal : Point → Option Ending → Engine → Engine → Type 0
GoesToGoal From None old new = AtGoal From old new
GoesToGoal From (Some Done-Ending) old new = HasEndedSo From (End Done-Ending) old new
GoesToGoal From (Some Failed-Ending) old new = HasEndedSo From Failing old new
GoesToGoal From (Some other) old new = ⊥

-- ## Goals

-- The run comes from this goal, in front of where the engine is.
pub record TakesAt (x : Goal) (e : Engine) (g : Game) (n : ℕ) (w : World) (run : Run) : Type 0 where
  pub at : There e (e.newest + 1) g w
  pub stands : Stands g at.inside.lives at.ways (path_of (Do x (values_in (store_in e.store) e.refs.items e.here.env) e.here.tag
      ∷ steps_of e) at.registers) (suc n) w run

-- A frame that goes on where the engine is, with this goal in front.
pub record IsAgain (x : Goal) (again : Frame) (e : Engine) : Type 0 where
  pub is : IsFrame (length e.frames.items) (length e.refs.items) again
  pub goals : again.goals.now ≡ x ∷ e.here.goals.now
  pub rest : again ≡ record e.here { goals = again.goals }

-- A goal that neither prints nor reads nor ends the run.
abbrev pub IsAct : Goal-F Goal → Type 0
IsAct (Text name) = ⊥
IsAct (PrintForm a) = ⊥
IsAct Quit = ⊥
IsAct Stop = ⊥
IsAct (Gap kind) = ⊥
IsAct (GapN a) = ⊥
IsAct (Input a) = ⊥
IsAct x = Unit {0}

-- A goal that needs room in the store alone.
abbrev pub IsOnStore : Goal-F Goal → Type 0
IsOnStore (Now place terms sets) = ⊥
IsOnStore (Collect term goals into) = ⊥
IsOnStore (Accumulate term goals into) = ⊥
IsOnStore x = Unit {0}

-- A goal was taken, and what it does is left to do.
pub record Taken (x : Goal) (old new : Engine) : Type 0 where
  pub ready : IsReady new
  pub left : old.left ≡ suc new.left
  pub limits : Silent old new
  pub room : new.newest + 1 + new.left < 2 ^ 64
  pub picks : MayPick (new.left + 1) (picks_in new.lasting)
  pub runnable : IsRunnableGoal x
  pub whole : AreRunnable (x ∷ [])
  pub again : IsAgain x old.here new
  pub takes : (g : Game) (n : ℕ) (w : World) (run : Run) → StandsAt old g (suc n) w run → TakesAt x new g n w run

-- The pieces of a value that stands at a Ref.
abbrev pub pieces_at : Engine → Ref → List (List ℕ)
pieces_at e r = let s = store_in e.store in pieces e.program.now (resolved s.state.subst (told s r))

-- All is as it was, but for what waits in the store.
pub record StaysBut (old new : Engine) : Type 0 where
  pub same : new ≡ record old { store = new.store }
  pub store : store_in new.store ≡ store_in old.store
  pub places : (ms : List Saved) → KeepsPlaces old.store ms → KeepsPlaces new.store ms

-- The value that a goal prints stands at a Ref, and a run that comes from that goal comes from where the engine is once the pieces are printed.
pub record WrotePrinted (term : Term) (value : Ref) (old new : Engine) : Type 0 where
  pub ready : IsReady new
  pub left : new.left ≡ old.left
  pub limits : Silent old new
  pub holds : Holds (store_in new.store) value
  pub leads : (g : Game) (n : ℕ) (w : World) (run : Run) → TakesAt (PrintGoal term) old g n w run →
      Then (map (λ piece. Prints (Piece piece)) (pieces_at new value)) w (λ v. StandsAt new g n v run)

-- What was told is forgotten.
pub record Forgets (old new : Engine) : Type 0 where
  pub told : new.told.items ≡ []
  pub same : new ≡ record old { told = new.told }

-- ## Branches

-- That a query goes on to the first of some rules, where there is one.
abbrev pub again_rules : ℕ → List Rule → List CallEvent
again_rules pred [] = []
again_rules pred (rule ∷ rules) = call.Retried pred ∷ []

-- What is told where a choice with these branches left is tried again.
abbrev pub again : Left → List CallEvent
again (Rules query args rules) = again_rules query.pred rules.now
again other = []

-- From there a branch has begun, or the run has failed.
abbrev pub Branches : Point → Bool → Engine → Engine → Type 0
Branches From true old new = WentOn From old new
Branches From false old new = HasEndedSo From Failing old new

-- From there a branch has begun, or failed where it began.
abbrev pub Tries : Point → Bool → Engine → Engine → Type 0
Tries From true old new = WentOn From old new
Tries From false old new = WentWrong From old new

-- A store to which the engine may go back to this place is where it is now.
abbrev pub IsPlace : Engine → Place → Saved → List Saved → Type 0
IsPlace e place back saved = IsPlaceOf (KeepsPlaces e.store) (store_in e.store) e.refs.items place back saved

-- There is such a store.
pub record HasPlace (e : Engine) (place : Place) : Type 0 where
  pub back : Saved
  pub saved : List Saved
  pub is : IsPlace e place back saved
  pub back_to : GoBackTo e.refs.items (store_in e.store).heap_limit (store_in e.store).trail_limit (reverse e.choices.items) saved

-- The run comes from these branches, of which the first is to begin, with all frames behind them.
pub record BeginsAt (left : Left) (place : Place) (e : Engine) (g : Game) (n : ℕ) (w : World) (run : Run) : Type 0 where
  pub at : There e e.newest g w
  pub back : Saved
  pub is : IsPlace e place back at.inside.saved
  pub back_agrees : Agrees back.store at.registers
  pub newest : TakesNewest left at.registers.next_tag w
  pub tried : Tried g (kind_of left) at.registers.next_tag (open_in e) at.ways at.inside.lives
      (branches_of g (values_in (store_in e.store) e.refs.items) e.frames.items (length e.frames.items) left at.registers) n w run

-- A choice, or what stands in step with it, in front of others where it stays.
abbrev pub kept_if : {A : Type 0} → Bool → A → List A → List A
kept_if false x xs = xs
kept_if true x xs = x ∷ xs

-- The newest choice was tried again: none was left, or its next branch has begun, or has failed where it began.
abbrev pub Retries : Point → Option Bool → Engine → Engine → Type 0
Retries From None old new = HasEndedSo From Failing old new
Retries From (Some begun) old new = Tries From begun old new × (branches_left new < branches_left old)

-- The run comes from the first of these branches, in a choice that opens where the engine is.
pub record OpensAt (left : Left) (e : Engine) (g : Game) (n : ℕ) (w : World) (run : Run) : Type 0 where
  pub at : There e (e.newest + 1) g w
  pub tried : Tried g (kind_of left) at.registers.next_tag (open_in e) at.ways at.inside.lives
      (branches_of g (values_in (store_in e.store) e.refs.items) e.frames.items (length e.frames.items) left at.registers) n w run

-- A frame was put behind the others; all else is as it was.
pub record IsPushed (frame : Frame) (old new : Engine) : Type 0 where
  pub ready : IsReady new
  pub frames : new.frames.items ≡ old.frames.items ++ frame ∷ []
  pub same : new ≡ record old { frames = new.frames }

-- Another branch has begun, of fewer, or the run has failed.
abbrev pub GoesBack : Point → Bool → Engine → Engine → Type 0
GoesBack From true old new = WentOn From old new × (branches_left new < branches_left old)
GoesBack From false old new = HasEndedSo From Failing old new

-- ## Stops

-- What the leaving of a stoppable part cuts to: its own tag, or what waits to be cut in it.
abbrev pub leaving : ℕ → Option ℕ → ℕ
leaving tag None = tag
leaving tag (Some t) = t

-- What goes on behind a stoppable part, where it is the one of a tag, and what its leaving cuts to.
abbrev pub part_at : Bool → ℕ → Left → Option (Frame × ℕ)
part_at same tag (Behind frame cut) = if same then Some (frame, leaving tag cut) else None
part_at same tag other = None

-- The run comes from a stop to a stoppable part, inside the choices of the engine.
pub record StopsAt (s : ℕ) (e : Engine) (g : Game) (n : ℕ) (w : World) (run : Run) : Type 0 where
  pub inside : Inside e g w
  pub part_left : LeftPart g inside.lives (ways_of (reverse e.choices.items) inside.entries) s n w run

-- The run comes from the same stop inside choices that are left.
pub record StopsWithin (s : ℕ) (old new : Engine) : Type 0 where
  pub sound : IsSound new
  pub left : new.left ≡ old.left
  pub limits : Silent old new
  pub leads : Leads (StopsAt s old) (StopsAt s new)

-- The same, with a choice fewer.
pub record StopsFurther (s : ℕ) (old new : Engine) : Type 0 where
  pub sound : IsSound new
  pub left : new.left ≡ old.left
  pub limits : Silent old new
  pub leads : Leads (StopsAt s old) (StopsAt s new)
  pub fewer : branches_left new < branches_left old

-- A stop goes on behind its part, or to an older choice, or there is no choice.
abbrev pub StopsOn : ℕ → Option Bool → Engine → Engine → Type 0
StopsOn s None old new = HasEndedSo (StopsAt s old) (End Stopped) old new
StopsOn s (Some true) old new = WentOn (StopsAt s old) old new
StopsOn s (Some false) old new = StopsFurther s old new

-- A stop has led behind its part, or there is no choice.
abbrev pub StopsTo : ℕ → Bool → Engine → Engine → Type 0
StopsTo s true old new = WentOn (StopsAt s old) old new
StopsTo s false old new = HasEndedSo (StopsAt s old) (End Stopped) old new

-- A stop was taken: the run goes on behind the innermost stoppable part, or has stopped.
abbrev pub Stops : Bool → Engine → Engine → Type 0
Stops true old new = WentOn (TakesAt StopGoal old) old new
Stops false old new = HasEndedSo (TakesAt StopGoal old) (End Stopped) old new
