-- What the frames and choices of an engine are in the meaning. Hold it against the Dialog manual, chapter "Choice points".
use Rattle.std.specs.Prelude.{ℕ, zero, suc, ◌+◌, ◌-◌, ◌≡◌, ◌<◌, ◌≤◌, ◌++◌, eqb, nat_lt, List, [], ◌∷◌, Option, Some, None, Bool, true, false, length, map, take, drop, slice_get, if◌then◌else◌}
use Rattle.std.specs.List.{All}
use Rattle.dg_base.specs.declared.program.Goal.{Goal}
use Rattle.dg_base.specs.declared.program.Term.TheVariants.{Var as Var-Term}
use Rattle.dg_meaning.specs.Values.{Value, value_of_var}
use Rattle.dg_meaning.specs.Facts.{kinds_of}
use Rattle.dg_meaning.specs.World.{Game, World}
use Rattle.dg_meaning.specs.Path.{Step, Answers, Cut, Refuse, Back, Keep, Leave, Registers, Whole, AsList, AsSum, Branch, TakeOut as TakeOutBranch, ChoiceKind, Plain, Rules as RulesOf}
use Rattle.dg_meaning.specs.Moves.{path_of, goals_at, first_alone, inside, enter, list_branches, rule_branches}
use Rattle.dg_meaning.specs.inside.Context.{Live, Way as WayOn, tags_of, cut_to, IsNewest}
use Rattle.dg_meaning.specs.inside.Keeps.{open_at}
use Rattle.dg_interp.specs.Runnable.{AreRunnable, IsRunnableRule}
use Rattle.dg_choices.specs.inside.Cutting.{cut_of}
use Rattle.dg_unify.specs.Store.{Store, Saved, told, Holds}
use Rattle.dg_unify.specs.inside.Engines.{Agrees, GoBackTo as GoBack}
use Rattle.dg_unify.specs.declared.bindings.Ref.{Ref}
use Rattle.dg_choices.specs.declared.frames.Env.{Env}
use Rattle.dg_choices.specs.declared.frames.Mark.{Mark}
use Rattle.dg_choices.specs.declared.frames.Mark.TheVariants.{Nothing, AnswerOf, CutTo, RefuseTo, Exhausted, LeavePart, Keep as KeepIn}
use Rattle.dg_choices.specs.declared.frames.Whole.{Whole as TheWhole}
use Rattle.dg_choices.specs.declared.frames.Whole.TheVariants.{List as InList, Sum}
use Rattle.dg_choices.specs.declared.frames.Frame.{Frame}
use Rattle.dg_choices.specs.declared.frames.Left.{Left}
use Rattle.dg_choices.specs.declared.frames.Left.TheVariants.{Rules, Lists, Ways, Way, Behind, TakeOut, Things}
use Rattle.dg_choices.specs.declared.frames.Choice.{Choice}
use Rattle.dg_lasting.specs.Finding.{counted}
use Rattle.dg_meaning.specs.inside.Finding.{may_find}
use Rattle.dg_interp.specs.inside.Trying.{trial_branches}

-- ## Values

-- The Refs of a stretch.
abbrev pub stretch : List Ref → Env → List Ref
stretch refs env = take env.len (drop env.from refs)

-- The values of a stretch in a store.
abbrev pub values_in : Store → List Ref → Env → List Value
values_in s refs env = map (told s) (stretch refs env)

-- ## Steps

-- A mark among these values, and the steps behind it.
abbrev pub mark_steps : List Value → Mark → ℕ → List Step → List Step
mark_steps values Nothing tag rest = rest
mark_steps values (AnswerOf query) tag rest = Answers query.pred ∷ first_alone query.many tag rest
mark_steps values (CutTo t) tag rest = Cut t ∷ rest
mark_steps values (RefuseTo t) tag rest = Refuse t ∷ []
mark_steps values Exhausted tag rest = Back ∷ []
mark_steps values (LeavePart t outer) tag rest = Leave t outer ∷ rest
mark_steps values (KeepIn t) tag rest = Keep t (Var-Term 0) values ∷ []

-- Goals among these values, the mark behind them, and the steps behind that.
abbrev pub frame_steps : List Value → List Goal → ℕ → Mark → List Step → List Step
frame_steps values goals tag mark rest = goals_at values tag goals ++ mark_steps values mark tag rest

-- The steps of a frame that was found, where these stand behind each link.
abbrev pub found_steps : (Env → List Value) → Option Frame → (ℕ → List Step) → List Step
found_steps values None deeper = []
found_steps values (Some f) deeper = frame_steps (values f.env) f.goals.now f.tag f.mark (deeper f.behind)

-- The steps from a link on, where only the first n frames are looked at: 0 is the end, and k + 1 the frame at k.
unfoldable pub steps_below : (Env → List Value) → List Frame → ℕ → ℕ → List Step
steps_below values fs zero k = []
steps_below values fs (suc n) k = if eqb k (suc n) then found_steps values (slice_get fs n) (steps_below values fs n) else steps_below values fs n k

-- The steps from a link on.
abbrev pub steps_behind : (Env → List Value) → List Frame → ℕ → List Step
steps_behind values fs k = steps_below values fs k k

-- The steps of a frame that is at hand.
abbrev pub steps_at : (Env → List Value) → List Frame → Frame → List Step
steps_at values fs f = frame_steps (values f.env) f.goals.now f.tag f.mark (steps_behind values fs f.behind)

-- ## Choices

-- The kind of a choice with these branches left.
abbrev pub kind_of : Left → ChoiceKind
kind_of (Rules query args rules) = RulesOf query.pred
kind_of other = Plain

-- What a gathering is taken out as.
abbrev pub whole_of : TheWhole → Whole
whole_of InList = AsList
whole_of Sum = AsSum

-- The branches that a choice has left, on so many frames.
abbrev pub branches_of : Game → (Env → List Value) → List Frame → ℕ → Left → Registers → List Branch
branches_of g values fs height (Rules query args rules) registers = rule_branches g query.pred (values args) query.many
    (steps_behind values fs height) registers rules.now
branches_of g values fs height (Lists env tag lists) registers = list_branches (values env) tag (steps_behind values fs height) registers lists.now
branches_of g values fs height (Ways first other) registers = enter 10 0 registers (steps_at values fs first)
    ∷ enter 0 0 registers (steps_at values fs other) ∷ []
branches_of g values fs height (Way frame) registers = enter 0 0 registers (steps_at values fs frame) ∷ []
branches_of g values fs height (Behind frame cut) registers = enter 0 0 registers (steps_at values fs frame) ∷ []
branches_of g values fs height (TakeOut whole into frame) registers = TakeOutBranch registers.next_tag (whole_of whole) (value_of_var (values into) 0)
    (path_of (steps_at values fs frame) (inside 0 registers)) ∷ []
branches_of g values fs height (Things trial args) registers = trial_branches (may_find (kinds_of g.program) trial.place) trial.place (values args)
    trial.many (steps_behind values fs height) registers (counted trial.from (trial.end - trial.from))

-- How many branches a choice has left.
abbrev pub left_in : Left → ℕ
left_in (Rules query args rules) = length rules.now
left_in (Lists env tag lists) = length lists.now
left_in (Ways first other) = 2
left_in (Way frame) = 1
left_in (Behind frame cut) = 1
left_in (TakeOut whole into frame) = 1
left_in (Things trial args) = trial.end - trial.from

-- There is something in a list.
abbrev pub has_some : {A : Type 0} → List A → Bool
has_some [] = false
has_some (x ∷ xs) = true

-- A choice between rules stays as long as it isn't cut, and any other as long as it has a branch left.
abbrev pub stays_with : Left → Bool
stays_with (Lists env tag lists) = has_some lists.now
stays_with (Things trial args) = nat_lt trial.from trial.end
stays_with other = true

-- What a choice between goals takes of the heap, where it stays.
abbrev pub cells_if : Bool → ℕ
cells_if true = 10
cells_if false = 0

-- A choice on so many frames that has these branches left begins with this frame, and then has those others, of the same kind.
pub record BeginsWith (height : ℕ) (frame : Frame) (others left : Left) : Type 0 where
  pub kind : kind_of others ≡ kind_of left
  pub work : ℕ
  pub branches : (g : Game) (values : Env → List Value) (fs : List Frame) (r : Registers) →
      branches_of g values fs height left r ≡
      enter (cells_if (stays_with others)) work r (steps_at values fs frame) ∷ branches_of g values fs height others r

-- These aren't the way on behind a stoppable part.
abbrev pub IsNoPart : Left → Type 0
IsNoPart (Behind frame cut) = ⊥
IsNoPart other = Unit {0}

-- These begin a choice: they are neither such a way on, nor one on which a gathering is taken out.
abbrev pub IsOrdinary : Left → Type 0
IsOrdinary (Behind frame cut) = ⊥
IsOrdinary (TakeOut whole into frame) = ⊥
IsOrdinary other = Unit {0}

-- Where a gathering is taken out, it is the newest one in a world, with this tag.
abbrev pub TakesNewest : Left → ℕ → World → Type 0
TakesNewest (TakeOut whole into frame) t w = IsNewest t (tags_of w.gathered)
TakesNewest other t w = Unit {0}

-- Choices without those that a cut drops.
abbrev pub cut_if : Option ℕ → List Live → List Live
cut_if None cs = cs
cut_if (Some t) cs = cut_to t cs

-- The choices of the meaning that were not cut, where it keeps these of an engine's choices.
abbrev pub lives_of : List Choice → List Live → List Live
lives_of (o ∷ os) (c ∷ cs) = cut_if (cut_of o.left) (c ∷ lives_of os cs)
lives_of os cs = []

-- The way on behind a stoppable part, in front of others.
abbrev pub with_way : Left → Live → List WayOn → List WayOn
with_way (Behind frame cut) c ws = record { tag = c.tag; others = c.others; height = c.height } ∷ ws
with_way other c ws = ws

-- The ways on behind the stoppable parts among an engine's choices.
abbrev pub ways_of : List Choice → List Live → List WayOn
ways_of (o ∷ os) (c ∷ cs) = with_way o.left c (ways_of os cs)
ways_of os cs = []

-- An engine's choice, which goes back to this store, is one of the meaning, inside so many gatherings and these stoppable parts.
pub record IsChoice (g : Game) (refs : List Ref) (fs : List Frame) (o : Choice) (m : Saved) (ws : List WayOn) (c : Live) : Type 0 where
  pub registers : Registers
  pub agrees : Agrees m.store registers
  pub hold : All (Holds m.store) (take o.refs refs)
  pub place : m.mark ≡ o.place
  pub tag_at : registers.next_tag ≡ o.tag
  pub stop : registers.stoppable ≡ o.stoppable
  pub kind : c.kind ≡ kind_of o.left
  pub tag : c.tag ≡ o.tag
  pub others : c.others ≡ branches_of g (values_in m.store refs) fs o.height o.left registers
  pub height : open_at c.others c.height ≡ o.gathered
  pub ways_on : c.ways_on ≡ ws

-- An engine's choices, the newest first, are those of the meaning.
abbrev pub AreChoices : Game → List Ref → List Frame → List Choice → List Saved → List Live → Type 0
AreChoices g refs fs [] [] [] = Unit {0}
AreChoices g refs fs (o ∷ os) (m ∷ ms) (c ∷ cs) = IsChoice g refs fs o m (ways_of os cs) c × AreChoices g refs fs os ms cs
AreChoices g refs fs os ms cs = ⊥

-- ## What holds of them

-- A stretch ends within so many Refs.
abbrev pub EndsBy : ℕ → Env → Type 0
EndsBy n env = env.from + env.len ≤ n

-- All goals are runnable, what stands behind a frame is older, and its values are among so many Refs.
pub record IsFrame (k n : ℕ) (f : Frame) : Type 0 where
  pub runnable : AreRunnable f.goals.now
  pub older : f.behind ≤ k
  pub env : EndsBy n f.env

-- The first so many frames have runnable goals, older ones behind them, and values among so many Refs.
abbrev pub AreFrames : ℕ → ℕ → List Frame → Type 0
AreFrames height n fs = (k : ℕ) (f : Frame) → k < height → slice_get fs k ≡ Some f → IsFrame k n f

-- All branches that are left are runnable, and their values are among so many Refs.
abbrev pub IsLeft : ℕ → ℕ → Left → Type 0
IsLeft height n (Rules query args rules) = All IsRunnableRule rules.now × EndsBy n args
IsLeft height n (Lists env tag lists) = All AreRunnable lists.now × EndsBy n env
IsLeft height n (Ways first other) = IsFrame height n first × IsFrame height n other
IsLeft height n (Way frame) = IsFrame height n frame
IsLeft height n (Behind frame cut) = IsFrame height n frame
IsLeft height n (TakeOut whole into frame) = IsFrame height n frame × EndsBy n into
IsLeft height n (Things trial args) = EndsBy n args × (0 < args.len)

-- A cut that waits isn't younger than its stoppable part.
abbrev pub IsNoted : ℕ → Option ℕ → Type 0
IsNoted tag None = Unit {0}
IsNoted tag (Some t) = t ≤ tag

-- Choices, the newest first, stand on at most so many frames and Refs, and their tags are at most this.
abbrev pub StandOn : List Frame → ℕ → ℕ → ℕ → List Choice → Type 0
StandOn fs height refs tag [] = Unit {0}
StandOn fs height refs tag (o ∷ os) = (o.height ≤ height) × (o.refs ≤ refs) × (o.tag ≤ tag) ×
    (IsLeft o.height o.refs o.left × (stays_with o.left ≡ true) × IsNoted o.tag (cut_of o.left)) × AreFrames o.height o.refs fs ×
    StandOn fs o.height o.refs o.tag os

-- The stores to which choices go back hold what stands behind them, and have these limits.
abbrev pub GoBackTo : List Ref → ℕ → ℕ → List Choice → List Saved → Type 0
GoBackTo refs heap trail os ms = GoBack (λ o. o.place) (λ o. take o.refs refs) heap trail os ms

-- How many frames the choices stand on, the newest first.
abbrev pub floor_of : List Choice → ℕ
floor_of [] = 0
floor_of (o ∷ os) = o.height

-- How many choices there are, and branches that they have left.
abbrev pub all_left : List Choice → ℕ
all_left [] = 0
all_left (o ∷ os) = 1 + left_in o.left + all_left os
