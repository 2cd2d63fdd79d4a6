-- What a machine, a spacer and a sink come to together. Hold it against the Dialog manual, chapter "Output".
use Rattle.std.specs.Prelude.{ℕ, ◌+◌, ◌≡◌, ◌<◌, ◌≤◌, ◌-◌, ◌⊎◌, ◌++◌, suc, List, [], length, Bool, true, false, Option, Some, None}
use Rattle.dg_base.specs.declared.run.Limits.{Limits}
use Rattle.dg_base.specs.declared.run.Ending.{Ending}
use Rattle.dg_base.specs.declared.run.Ending.TheVariants as ending
use Rattle.dg_base.specs.declared.run.Ending.TheVariants.{StepLimit}
use Rattle.dg_base.specs.declared.run.Fault.{Fault}
use Rattle.dg_base.specs.declared.run.Fault.TheVariants.{Read, Write}
use Rattle.dg_base.specs.Causes.{Rose}
use Rattle.dg_base.specs.Streams.{SourceView}
use Rattle.dg_base.specs.Written.{SinkView, Wrote, BrokeOff}
use Rattle.dg_meaning.specs.World.{Game, Print}
use Rattle.dg_meaning.specs.Render.{render}
use Rattle.dg_meaning.specs.Words.{behind_first}
use Rattle.dg_meaning.specs.Shows.{IsLeft}
use Rattle.dg_meaning.specs.Engines.{left_told}
use Rattle.dg_spacing.specs.declared.spacer.Spacer.{Spacer}
use Rattle.dg_spacing.specs.Spacer.{StandsFor}
use Rattle.dg_lasting.specs.declared.lasting.Lasting.{Lasting}
use Rattle.dg_mid.specs.declared.code.Op.{Op}
use Rattle.dg_mid.specs.declared.code.Code.{Code}
use Rattle.dg_mid.specs.State.{Mid, Status, Runs as RunsOf, Ended as EndedOf}
use Rattle.dg_mid.specs.Heights.{MidOrdered, StatusOrdered}
use Rattle.dg_mid.specs.Step.{setting, step, said, followed, takes_goal, at_goal}
use Rattle.dg_mid.specs.Potential.{IsOver}
use Rattle.dg_mid.specs.Left.{reads, left_behind}
use Rattle.dg_mid.specs.Runs.{after, left_after}
use Rattle.dg_machine.specs.declared.now.Now.{Now}
use Rattle.dg_machine.specs.declared.now.Now.TheVariants.{Runs, Enters, Resumes, Misses, Fails, Ended}
use Rattle.dg_machine.specs.declared.now.Way.{Way}
use Rattle.dg_machine.specs.declared.memory.Memory.{Memory}
use Rattle.dg_machine.specs.declared.tables.Tables.{Tables}
use Rattle.dg_machine.specs.Tables.{IsOf}
use Rattle.dg_machine.specs.Built.{BeginsQuietly}
use Rattle.dg_machine.specs.Layout.{Roomy, Holds}
use Rattle.dg_mid.specs.Seeking.{StatusSeeks}
use Rattle.dg_machine.specs.Standing.{CodeIs, Stands, Around, HasLasting}
use Rattle.dg_machine.specs.Measure.{left_of, with_way}
use Rattle.dg_machine.specs.inside.Reading.{IsEnd, LeftBehind, Gave, Failed}

-- ## Steps

-- The machine has done a step that takes no goal: it stands for the step of what it stood for, and so does what lasts, nothing is printed, and a
-- number has fallen.
pub record MarkDone (code : Code) (g : Game) (l : Limits) (old : Memory) (before : Now)
    (new : Memory) (out' : Lasting) (after : Now) (s : Status) : Type 0 where
  pub stands : Stands code l new after (step (setting g code l) s)
  pub lasting : HasLasting out' g l (step (setting g code l) s)
  pub falls : (IsOver s → ⊥) → left_of new after < left_of old before
  pub quiet : said (setting g code l) s ≡ []

abbrev pub DoesMarks : Tables → Code → Memory → Lasting → Now → Memory → Lasting → Now → Type 0
DoesMarks t code old out before new out' after =
    (g : Game) → IsOf g.program t → (l : Limits) (s : Status) → StatusOrdered s → StatusSeeks g code s → takes_goal s ≡ false →
    Stands code l old before s → HasLasting out g l s → MarkDone code g l old before new out' after s

-- A machine that needs no step before its next goal, or has ended.
abbrev pub rests : Now → Bool
rests (Runs ops) = at_goal ops.now
rests (Ended e) = true
rests now = false

-- A rule is entered, or code is at hand whose first instruction leaves what lasts.
abbrev pub IsQuick : Now → Type 0
IsQuick (Runs ops) = BeginsQuietly ops.now
IsQuick (Enters ops) = Unit {0}
IsQuick now = ⊥

-- It fails, in an inner construct that isn't kept or not.
abbrev pub IsFailing : Now → Type 0
IsFailing Misses = Unit {0}
IsFailing Fails = Unit {0}
IsFailing now = ⊥

-- What memory holds and what is done next where a choice is gone back to that goes on so, or where there was none.
abbrev pub found_in : Option Way → Memory → Memory
found_in None r = r
found_in (Some way) r = with_way r way

abbrev pub found_next : Option Way → Now
found_next None = Ended ending.Failed
found_next (Some way) = Resumes

-- ## Text

-- Since the start the sink took the text of these things, and the spacer stands for them.
pub record HasText (s : Spacer) (start now : SinkView) (ps : List Print) : Type 0 where
  pub stands : StandsFor s ps
  pub wrote : Wrote start now (render ps)

-- An instruction that takes a goal was done: the machine and what lasts stand for what it leads to, and what it prints was written.
pub record GoalDone (code : Code) (g : Game) (l : Limits) (new : Memory) (out : Lasting) (after : Now)
    (s s' : Spacer) (k k' : SinkView) (m : Mid) : Type 0 where
  pub stands : Stands code l new after (step (setting g code l) (RunsOf m))
  pub lasting : HasLasting out g l (step (setting g code l) (RunsOf m))
  pub writes : (start : SinkView) (ps : List Print) → HasText s start k ps → HasText s' start k' (followed ps (said (setting g code l) (RunsOf m)))

abbrev pub DoesGoal : Tables → Code → Memory → Lasting → List Op → Memory → Lasting → Now →
    Spacer → Spacer → SinkView → SinkView → Type 0
DoesGoal t code old out ops new out' after s s' k k' =
    (g : Game) → IsOf g.program t → (l : Limits) (m : Mid) → MidOrdered m → at_goal ops ≡ true → CodeIs ops m → Holds code l old m →
    Around out g l m → GoalDone code g l new out' after s s' k k' m

-- The same of a machine whose typed bytes are those that its source gives there, and then those that are left behind it.
pub record ReadsGoal (t : Tables) (code : Code) (old : Memory) (out : Lasting) (ops : List Op) (new : Memory) (out' : Lasting) (after : Now)
    (s s' : Spacer) (k k' : SinkView) (i i' : SourceView) : Type 0 where
  pub gave : Gave i i' after
  pub does : (rest : List ℕ) → LeftBehind gave.ended i' rest → (g : Game) → IsOf g.program t → (l : Limits) (m : Mid) → MidOrdered m →
      at_goal ops ≡ true → CodeIs ops m → Holds code l old m → Around out g l m → m.lasting.typed ≡ gave.taken ++ rest →
      GoalDone code g l new out' after s s' k k' m × (left_behind (setting g code l) (RunsOf m) m.lasting.typed ≡ rest)

-- The sink failed within what an instruction prints, and the code goes on behind it.
pub record GoalLost (g : Game) (code : Code) (l : Limits) (k k' : SinkView) (m : Mid) (start : SinkView) (ps : List Print) : Type 0 where
  pub behind : Mid
  pub goes : step (setting g code l) (RunsOf m) ≡ RunsOf behind
  pub broke : BrokeOff start k' (render (followed ps (said (setting g code l) (RunsOf m))))

abbrev pub LosesGoal : Tables → Code → Memory → List Op → Spacer → SinkView → SinkView → Type 0
LosesGoal t code old ops s k k' =
    (g : Game) → IsOf g.program t → (l : Limits) (m : Mid) → CodeIs ops m → Holds code l old m → (start : SinkView) (ps : List Print) →
    HasText s start k ps → GoalLost g code l k k' m start ps

-- The sink failed within what an instruction prints, or had printed. The source gave these bytes, and what it has left is left behind the instruction.
pub record LosesText (t : Tables) (code : Code) (old : Memory) (ops : List Op) (s : Spacer) (k k' : SinkView) (i i' : SourceView) : Type 0 where
  pub taken : List ℕ
  pub left : (rest : List ℕ) → IsLeft i'.left rest → IsLeft i.left (taken ++ rest)
  pub later : i.faults ≤ i'.faults
  pub loses : (rest : List ℕ) → IsLeft i'.left rest → (g : Game) → IsOf g.program t → (l : Limits) (m : Mid) → CodeIs ops m →
      Holds code l old m → m.lasting.typed ≡ taken ++ rest → (start : SinkView) (ps : List Print) → HasText s start k ps →
      (GoalLost g code l k k' m start ps ⊎ BrokeOff start k' (render ps)) × (left_behind (setting g code l) (RunsOf m) m.lasting.typed ≡ rest)

-- The source failed while an instruction read its line.
pub record LosesLine (t : Tables) (code : Code) (old : Memory) (ops : List Op) (s s' : Spacer) (k k' : SinkView) (i i' : SourceView) : Type 0 where
  pub failed : Failed i i'
  pub reading : (g : Game) → IsOf g.program t → (l : Limits) (m : Mid) → CodeIs ops m → Holds code l old m →
      reads (setting g code l) (RunsOf m) ≡ true
  pub text : (start : SinkView) (ps : List Print) → HasText s start k ps → HasText s' start k' ps

-- An instruction met a fault.
abbrev pub BreaksGoal : Fault → Tables → Code → Memory → List Op → Spacer → Spacer → SinkView → SinkView → SourceView → SourceView →
    Type 0
BreaksGoal Read t code old ops s s' k k' i i' = LosesLine t code old ops s s' k k' i i'
BreaksGoal Write t code old ops s s' k k' i i' = LosesText t code old ops s k k' i i'

-- ## Whole runs

-- The machine is where a run of code is after some steps, of which so many goals are, what was printed was written, and these bytes are left.
pub record IsAt (code : Code) (g : Game) (l : Limits) (typed : List ℕ) (r : Memory) (out : Lasting) (now : Now) (goals : ℕ) (s : Spacer)
    (start k : SinkView) (left : List ℕ) : Type 0 where
  pub steps : ℕ
  pub stands : Stands code l r now (after (setting g code l) typed steps).now
  pub lasting : HasLasting out g l (after (setting g code l) typed steps).now
  pub goals_is : (after (setting g code l) typed steps).goals ≡ goals
  pub text : HasText s start k (after (setting g code l) typed steps).prints
  pub left_is : left_after (setting g code l) typed steps ≡ left

-- Wherever the machine was, it has taken so many goals from there, and what the source gave.
pub record Takes (t : Tables) (code : Code) (n : ℕ) (old : Memory) (out : Lasting) (before : Now) (s : Spacer) (k : SinkView) (i : SourceView)
    (new : Memory) (out' : Lasting) (now : Now) (s' : Spacer) (k' : SinkView) (i' : SourceView) : Type 0 where
  pub gave : Gave i i' now
  pub takes : (rest : List ℕ) → LeftBehind gave.ended i' rest → (g : Game) → IsOf g.program t → (l : Limits) (typed : List ℕ) (goals : ℕ)
      (start : SinkView) → IsAt code g l typed old out before goals s start k (gave.taken ++ rest) →
      IsAt code g l typed new out' now (n + goals) s' start k' rest

-- The sink failed within the text of what was printed up to a step, behind which the code goes on.
pub record BreaksAt (code : Code) (g : Game) (l : Limits) (typed : List ℕ) (steps : ℕ) (start k : SinkView) : Type 0 where
  pub mid : Mid
  pub is : (after (setting g code l) typed steps).now ≡ RunsOf mid
  pub broke : BrokeOff start k (render (after (setting g code l) typed steps).prints)

-- The output was lost at the goal behind so many, in front of its step or behind it, and these bytes are left.
pub record IsLost (code : Code) (g : Game) (l : Limits) (typed : List ℕ) (goals : ℕ) (start k : SinkView) (left : List ℕ) : Type 0 where
  pub steps : ℕ
  pub takes : takes_goal (after (setting g code l) typed steps).now ≡ true
  pub goals_is : (after (setting g code l) typed steps).goals ≡ goals
  pub broke : BreaksAt code g l typed steps start k ⊎ BreaksAt code g l typed (suc steps) start k
  pub left_is : left_after (setting g code l) typed (suc steps) ≡ left

-- Wherever the machine was, the next goal has lost the output, and what the source gave was taken.
pub record Loses (t : Tables) (code : Code) (old : Memory) (out : Lasting) (before : Now) (s : Spacer) (k : SinkView) (i : SourceView)
    (k' : SinkView) (i' : SourceView) : Type 0 where
  pub taken : List ℕ
  pub left : (rest : List ℕ) → IsLeft i'.left rest → IsLeft i.left (taken ++ rest)
  pub later : i.faults ≤ i'.faults
  pub loses : (rest : List ℕ) → IsLeft i'.left rest → (g : Game) → IsOf g.program t → (l : Limits) (typed : List ℕ) (goals : ℕ)
      (start : SinkView) → IsAt code g l typed old out before goals s start k (taken ++ rest) → IsLost code g l typed goals start k' rest

-- The input was lost at the goal behind so many: what was printed up to there was written.
pub record IsUnread (code : Code) (g : Game) (l : Limits) (typed : List ℕ) (goals : ℕ) (s : Spacer) (start k : SinkView) (left : List ℕ) : Type 0 where
  pub steps : ℕ
  pub reading : reads (setting g code l) (after (setting g code l) typed steps).now ≡ true
  pub goals_is : (after (setting g code l) typed steps).goals ≡ goals
  pub text : HasText s start k (after (setting g code l) typed steps).prints
  pub left_is : left_after (setting g code l) typed steps ≡ left

-- Wherever the machine was, the next goal has lost the input.
pub record FailsToRead (t : Tables) (code : Code) (old : Memory) (out : Lasting) (before : Now) (s : Spacer) (k : SinkView) (i : SourceView)
    (s' : Spacer) (k' : SinkView) (i' : SourceView) : Type 0 where
  pub failed : Failed i i'
  pub unread : (g : Game) → IsOf g.program t → (l : Limits) (typed : List ℕ) (goals : ℕ) (start : SinkView) (left : List ℕ) →
      IsAt code g l typed old out before goals s start k left → IsUnread code g l typed goals s' start k' left

-- The next goal met a fault.
abbrev pub BreaksTurn : Fault → Tables → Code → Memory → Lasting → Now → Spacer → SinkView → SourceView → Spacer → SinkView →
    SourceView → Type 0
BreaksTurn Read t code old out before s k i s' k' i' = FailsToRead t code old out before s k i s' k' i'
BreaksTurn Write t code old out before s k i s' k' i' = Loses t code old out before s k i k' i'

-- How a run has ended: as its code does, or at a goal for which no budget is left.
abbrev pub EndsSo : Ending → ℕ → Status → Type 0
EndsSo e left s = (s ≡ EndedOf e) ⊎ ((e ≡ StepLimit) × (left ≡ 0) × (takes_goal s ≡ true))

-- A run has ended so, with so much of its budget left, what it printed was written, and these bytes are left.
pub record HasEnded (code : Code) (g : Game) (l : Limits) (typed : List ℕ) (goals : ℕ) (e : Ending) (left : ℕ)
    (r : Memory) (s : Spacer) (start k : SinkView) (rest : List ℕ) : Type 0 where
  pub steps : ℕ
  pub ends : EndsSo e left (after (setting g code l) typed steps).now
  pub goals_is : (after (setting g code l) typed steps).goals ≡ goals
  pub text : HasText s start k (after (setting g code l) typed steps).prints
  pub left_is : left_after (setting g code l) typed steps ≡ rest
  pub roomy : Roomy l r

-- Wherever the machine was with such a budget, where these bytes were left, it has ended so.
pub record Finishes (t : Tables) (code : Code) (old : Memory) (out : Lasting) (before : Now) (budget : ℕ) (s : Spacer) (k : SinkView)
    (i : SourceView) (e : Ending) (left : ℕ) (new : Memory) (s' : Spacer) (k' : SinkView) (i' : SourceView) : Type 0 where
  pub typed : List ℕ
  pub is_typed : IsLeft i.left typed
  pub rest : List ℕ
  pub is_rest : IsLeft (left_told i i') rest
  pub later : i.faults ≤ i'.faults
  pub within : left ≤ budget
  pub ends : (g : Game) → IsOf g.program t → (l : Limits) (bytes : List ℕ) (start : SinkView) →
      IsAt code g l bytes old out before 0 s start k typed → HasEnded code g l bytes (budget - left) e left new s' start k' rest

-- Or within its budget it has lost the output, and this is left.
pub record IsLostWithin (code : Code) (g : Game) (l : Limits) (typed : List ℕ) (budget : ℕ) (r : Memory) (start k : SinkView)
    (left : List ℕ) : Type 0 where
  pub goals : ℕ
  pub within : goals < budget
  pub lost : IsLost code g l typed goals start k left
  pub roomy : Roomy l r

pub record LosesRun (t : Tables) (code : Code) (old : Memory) (out : Lasting) (before : Now) (budget : ℕ) (s : Spacer) (k : SinkView)
    (i : SourceView) (new : Memory) (k' : SinkView) (i' : SourceView) : Type 0 where
  pub typed : List ℕ
  pub is_typed : IsLeft i.left typed
  pub rest : List ℕ
  pub is_rest : IsLeft i'.left rest
  pub later : i.faults ≤ i'.faults
  pub loses : (g : Game) → IsOf g.program t → (l : Limits) (bytes : List ℕ) (start : SinkView) →
      IsAt code g l bytes old out before 0 s start k typed → IsLostWithin code g l bytes budget new start k' rest

-- Or it has lost the input, and this is left.
pub record IsUnreadWithin (code : Code) (g : Game) (l : Limits) (typed : List ℕ) (budget : ℕ) (r : Memory) (s : Spacer) (start k : SinkView)
    (left : List ℕ) : Type 0 where
  pub goals : ℕ
  pub within : goals < budget
  pub unread : IsUnread code g l typed goals s start k left
  pub roomy : Roomy l r

pub record UnreadRun (t : Tables) (code : Code) (old : Memory) (out : Lasting) (before : Now) (budget : ℕ) (s : Spacer) (k : SinkView)
    (i : SourceView) (new : Memory) (s' : Spacer) (k' : SinkView) (i' : SourceView) : Type 0 where
  pub typed : List ℕ
  pub is_typed : IsLeft i.left typed
  pub taken : List ℕ
  pub rest : List ℕ
  pub is_rest : IsLeft i'.left rest
  pub short : length (behind_first (taken ++ rest)) ≤ length rest
  pub later : i.faults ≤ i'.faults
  pub rose : Rose i.faults i'.faults
  pub fails : (g : Game) → IsOf g.program t → (l : Limits) (bytes : List ℕ) (start : SinkView) →
      IsAt code g l bytes old out before 0 s start k typed → IsUnreadWithin code g l bytes budget new s' start k' (taken ++ rest)

-- A run met a fault.
abbrev pub BreaksRun : Fault → Tables → Code → Memory → Lasting → Now → ℕ → Spacer → SinkView → SourceView → Memory → Spacer →
    SinkView → SourceView → Type 0
BreaksRun Read t code old out before budget s k i new s' k' i' = UnreadRun t code old out before budget s k i new s' k' i'
BreaksRun Write t code old out before budget s k i new s' k' i' = LosesRun t code old out before budget s k i new k' i'

-- A machine is where a run of some game is whose program has these tables.
pub record IsSomewhere (t : Tables) (code : Code) (r : Memory) (now : Now) : Type 0 where
  pub game : Game
  pub tabled : IsOf game.program t
  pub limits : Limits
  pub typed : List ℕ
  pub steps : ℕ
  pub stands : Stands code limits r now (after (setting game code limits) typed steps).now

-- So is what lasts.
pub record IsSomewhereWith (t : Tables) (code : Code) (r : Memory) (out : Lasting) (now : Now) : Type 0 where
  pub somewhere : IsSomewhere t code r now
  pub lasting : HasLasting out somewhere.game somewhere.limits (after (setting somewhere.game code somewhere.limits) somewhere.typed somewhere.steps).now

-- And these bytes are left.
pub record IsSomewhereLeft (t : Tables) (code : Code) (r : Memory) (out : Lasting) (now : Now) (left : List ℕ) : Type 0 where
  pub found : IsSomewhereWith t code r out now
  pub left_is : let x = found.somewhere in left_after (setting x.game code x.limits) x.typed x.steps ≡ left

-- Whatever may be left of a source.
abbrev pub IsSomewhereAt : Tables → Code → Memory → Lasting → Now → SourceView → Type 0
IsSomewhereAt t code r out now i = (rest : List ℕ) → IsLeft i.left rest → IsSomewhereLeft t code r out now rest

-- The same where the run goes on.
abbrev pub IsSomewhereStill : Tables → Code → Memory → Lasting → Now → SourceView → Type 0
IsSomewhereStill t code r out now i = (IsEnd now → ⊥) → IsSomewhereAt t code r out now i

-- The machine has done steps that take no goal.
pub record HasSettled (code : Code) (g : Game) (l : Limits) (typed : List ℕ) (steps : ℕ) (new : Memory) (out' : Lasting) (now : Now) : Type 0 where
  pub further : ℕ
  pub stands : Stands code l new now (after (setting g code l) typed further).now
  pub lasting : HasLasting out' g l (after (setting g code l) typed further).now
  pub goals : (after (setting g code l) typed further).goals ≡ (after (setting g code l) typed steps).goals
  pub prints : (after (setting g code l) typed further).prints ≡ (after (setting g code l) typed steps).prints
  pub left : left_after (setting g code l) typed further ≡ left_after (setting g code l) typed steps

-- Wherever it was.
abbrev pub Settles : Tables → Code → Memory → Lasting → Now → Memory → Lasting → Now → Type 0
Settles t code old out before new out' now = (g : Game) → IsOf g.program t → (l : Limits) (typed : List ℕ) (steps : ℕ) →
    Stands code l old before (after (setting g code l) typed steps).now → HasLasting out g l (after (setting g code l) typed steps).now →
    HasSettled code g l typed steps new out' now
