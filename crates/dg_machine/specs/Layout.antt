-- How what a machine is in lies in memory. Hold it against the Dialog manual, chapters "Choice points" and "Control flow".
use Rattle.std.specs.Prelude.{ℕ, ◌+◌, ◌*◌, ◌-◌, ◌≡◌, ◌<◌, ◌≤◌, ◌++◌, List, [], ◌∷◌, Option, Some, None, length, reverse, drop, vec_capacity, Bool}
use Rattle.dg_base.specs.declared.run.Limits.{Limits}
use Rattle.dg_meaning.specs.Values.{Value, value_of_var}
use Rattle.dg_base.specs.Begins.{Begins}
use Rattle.dg_meaning.specs.Moves.{new_vars}
use Rattle.dg_meaning.specs.Unify.{Equations, Unified}
use Rattle.dg_unify.specs.Store.{State, Store, Saved, Kept}
use Rattle.dg_arena.specs.declared.arena.Arena.{Arena}
use Rattle.dg_arena.specs.Held.{meaning_of, saves_of}
use Rattle.dg_mid.specs.declared.code.Code.{Code}
use Rattle.dg_mid.specs.declared.code.RuleCode.{RuleCode}
use Rattle.dg_mid.specs.Code.{rules_at}
use Rattle.dg_lasting.specs.Finding.{counted}
use Rattle.dg_mid.specs.State.{Place, Mid, Stop, Frame as FrameOf, Call as CallOf, Find as FindOf, Way as WayOf, Goes as GoesOf, Takes as TakesOf, Calls as CallsOf, Tries as TriesOf, Choice as ChoiceOf}
use Rattle.dg_mid.specs.Step.{more, inside, new_stop, back_at, bound, trail_more}
use Rattle.dg_mid.specs.Stops.{choices_of}
use Rattle.dg_unify.specs.declared.bindings.Ref.{Ref}
use Rattle.dg_unify.specs.declared.bindings.Mark.{Mark}
use Rattle.dg_machine.specs.declared.now.Row.{Row}
use Rattle.dg_machine.specs.declared.now.Frame.{Frame}
use Rattle.dg_machine.specs.declared.now.Inner.{Inner}
use Rattle.dg_machine.specs.declared.now.Call.{Call}
use Rattle.dg_machine.specs.declared.now.Choice.{Choice}
use Rattle.dg_machine.specs.declared.now.Way.{Way}
use Rattle.dg_machine.specs.declared.now.Search.{Search}
use Rattle.dg_machine.specs.declared.now.Way.TheVariants.{Goes, Takes, Calls, Tries}
use Rattle.dg_machine.specs.declared.memory.Memory.{Memory}
use Rattle.dg_machine.specs.Links.{named}
use Rattle.dg_machine.specs.Refs.{RowAt, RefsAt}
use Rattle.dg_machine.specs.Built.{most_args}
use Rattle.dg_machine.specs.Stops.{tags_of, StopIs, Among, IsUnder}

-- ## Frames and inner constructs

-- A value is kept, if a place gathers one.
abbrev pub KeptAt : Store → Option Ref → Option Value → Type 0
KeptAt s None None = Unit {0}
KeptAt s (Some r) (Some v) = s.value r ≡ Some v
KeptAt s kept gathers = ⊥

-- An inner construct begins at the height of its place, with the stoppable part of that around it, keeps what is gathered there, and stands behind
-- the one around it.
pub record InnerAt (around : ℕ → Type 0) (s : Store) (tags : List ℕ) (inners : List Inner) (l : ℕ) (p : Place) : Type 0 where
  pub inner : Inner
  pub there : named inners l ≡ Some inner
  pub height : p.height ≡ inner.height
  pub outer : StopIs tags inner.stop p.outer
  pub kept : KeptAt s inner.kept p.gathers
  pub older : inner.around < l
  pub around_is : around inner.around

-- So does each of some inner constructs, the innermost first.
abbrev pub InnersAt : Store → List ℕ → List Inner → ℕ → List Place → Type 0
InnersAt s tags inners l [] = l ≡ 0
InnersAt s tags inners l (p ∷ ps) = InnerAt (λ k. InnersAt s tags inners k ps) s tags inners l p

-- A frame keeps what a rule that is being run needs; its variables stand in the store, and it stands behind the one behind it.
pub record FrameAt (behind : ℕ → Type 0) (s : Store) (tags : List ℕ) (inners : List Inner) (frames : List Frame) (e : ℕ) (f : FrameOf) : Type 0 where
  pub frame : Frame
  pub there : named frames e ≡ Some frame
  pub next : f.next ≡ frame.next
  pub many : f.many ≡ frame.many
  pub cut : f.cut.height ≡ frame.cut
  pub vars : RowAt s frame.vars f.vars
  pub inner_is : InnersAt s tags inners frame.inner f.inner
  pub older : frame.behind < e
  pub behind_is : behind frame.behind

-- So does each of some frames, the newest first.
abbrev pub FramesAt : Store → List ℕ → List Inner → List Frame → ℕ → List FrameOf → Type 0
FramesAt s tags inners frames e [] = e ≡ 0
FramesAt s tags inners frames e (f ∷ fs) = FrameAt (λ k. FramesAt s tags inners frames k fs) s tags inners frames e f

-- ## Choices

-- A call is kept, and Refs of its arguments.
pub record CallAt (s : Store) (refs : List Ref) (k : Call) (c : CallOf) : Type 0 where
  pub args : RefsAt s refs c.args
  pub next : c.next ≡ k.next
  pub many : c.many ≡ k.many
  pub cut : c.cut.height ≡ k.cut

-- The last so many rules of a predicate.
abbrev pub last_rules : Code → ℕ → ℕ → List RuleCode
last_rules code pred left = let rules = rules_at code pred in drop (length rules - left) rules

-- The last rules of a predicate are kept by their number, and the call that they are for.
pub record RulesAt (code : Code) (s : Store) (refs : List Ref) (k : Call) (pred left : ℕ) (c : CallOf) (rules : List RuleCode) : Type 0 where
  pub call : CallAt s refs k c
  pub there : left ≤ length (rules_at code pred)
  pub rules_are : rules ≡ last_rules code pred left

-- A query of objects is kept, and Refs of its arguments.
pub record FindAt (s : Store) (refs : List Ref) (k : Search) (f : FindOf) : Type 0 where
  pub place : f.place ≡ k.place
  pub args : RefsAt s refs f.args
  pub many : f.many ≡ k.many
  pub next : f.next ≡ k.next

-- What a choice goes on with is kept, with Refs of its arguments; those of a gathering are its value, and what it is taken out for.
abbrev pub WayAt : Code → Store → List Ref → Way → WayOf → Type 0
WayAt code s refs (Goes b) (GoesOf b') = b' ≡ b
WayAt code s refs (Takes b) (TakesOf b' into) = (b' ≡ b) × (v : Value) × RefsAt s refs (v ∷ into ∷ [])
WayAt code s refs (Calls k pred left) (CallsOf c rules) = RulesAt code s refs k pred left c rules
WayAt code s refs (Tries k from end) (TriesOf f objects) = FindAt s refs k f × (objects ≡ counted from (end - from))
WayAt code s refs way other = ⊥

-- A choice keeps where it goes back to: of the store a mark that stands, and of frames, inner constructs, stoppable parts, Refs and open gatherings how
-- many there were; Refs of its arguments stand behind those. The older choices were made among them.
pub record ChoiceAt (older : List Frame → List Inner → List Ref → List Choice → Type 0) (code : Code) (frames : List Frame) (inners : List Inner)
    (refs : List Ref) (stops : List Choice) (m : Saved) (k : Choice) (c : ChoiceOf) : Type 0 where
  pub args : List Ref
  pub way : WayAt code m.store args k.way c.way
  pub mark : m.mark ≡ k.mark
  pub state : m.store.state ≡ c.state
  pub height : c.place.height ≡ k.mark.heap
  pub heap : c.state.heap ≡ k.mark.heap
  pub frames_then : List Frame
  pub inners_then : List Inner
  pub frames_begin : Begins frames_then frames
  pub inners_begin : Begins inners_then inners
  pub frames_len : length frames_then ≡ k.frames
  pub inners_len : length inners_then ≡ k.inners
  pub stops_then : List Choice
  pub stops_begin : Begins stops_then stops
  pub stops_len : length stops_then ≡ k.stops
  pub refs_then : List Ref
  pub refs_begin : Begins (refs_then ++ args) refs
  pub refs_len : length refs_then ≡ k.refs
  pub args_len : length args ≡ k.args
  pub args_few : length args ≤ most_args
  pub refs_few : length refs_then ≤ c.state.heap
  pub frames_are : FramesAt m.store (tags_of c.stops) inners_then frames_then k.frame c.frames
  pub inner_are : InnersAt m.store (tags_of c.stops) inners_then k.inner c.inner
  pub stop_is : StopIs (tags_of c.stops) k.stop c.stop
  pub frames_few : 6 * length frames_then ≤ c.state.heap
  pub inners_few : 10 * length inners_then ≤ c.state.heap
  pub gathered : c.height ≡ k.gathered
  pub older_are : older frames_then inners_then refs_then stops_then

-- So does each of some choices, the newest first; the older ones are under it, and the choices of the stoppable parts there are among them.
abbrev pub ChoicesAt : Code → List Frame → List Inner → List Ref → List Choice → List Saved → List Choice → List ChoiceOf → Type 0
ChoicesAt code frames inners refs stops [] [] [] = Unit {0}
ChoicesAt code frames inners refs stops (m ∷ ms) (k ∷ ks) (c ∷ cs) =
    ChoiceAt (λ fs is rs ts. ChoicesAt code fs is rs ts ms ks cs × Among ks cs (reverse ts) (choices_of c.stops)) code frames inners refs stops m k c ×
    IsUnder c.state.heap ks
ChoicesAt code frames inners refs stops ms ks cs = ⊥

-- The choices that stand and those that stoppable parts keep are among choices that lie in memory, under a height of the heap.
pub record AreAmong (code : Code) (frames : List Frame) (inners : List Inner) (refs : List Ref) (heap : ℕ) (saves : List Saved) (stand : List Choice)
    (choices : List ChoiceOf) (kept : List Choice) (stops : List Stop) : Type 0 where
  pub points : List Choice
  pub means : List ChoiceOf
  pub are : ChoicesAt code frames inners refs kept saves points means
  pub under : IsUnder heap points
  pub choices_in : Among points means (reverse stand) choices
  pub stops_in : Among points means (reverse kept) (choices_of stops)

-- ## Memory

-- What was taken of the heap, and its limit.
abbrev pub heap_in : Memory → ℕ
heap_in r = (meaning_of r.arena).state.heap

abbrev pub limit_in : Memory → ℕ
limit_in r = (meaning_of r.arena).heap_limit

-- There is room for the Refs that choices keep, one for each cell of the heap, for the arguments of a call and the values of a head, and for a path
-- into a term whose pairs the heap has room for.
pub record RefsFit (limit heap kept_room : ℕ) (kept : List Ref) (args_room : ℕ) (args : List Ref) (heads_room path_room : ℕ) : Type 0 where
  pub kept_fit : limit ≤ kept_room
  pub kept_few : length kept ≤ heap
  pub args_fit : most_args ≤ args_room
  pub args_few : length args ≤ most_args
  pub heads_fit : most_args ≤ heads_room
  pub path_fit : limit < 3 * path_room + 3

-- There is room for all that the heap may count: a frame is six cells or more, an inner construct, a choice and a stoppable part ten.
pub record HasRoom (r : Memory) : Type 0 where
  pub frames_fit : limit_in r < 6 * vec_capacity r.frames + 6
  pub inners_fit : limit_in r < 10 * vec_capacity r.inners + 10
  pub choices_fit : limit_in r < 10 * vec_capacity r.choices + 10
  pub stops_fit : limit_in r < 10 * vec_capacity r.stops + 10
  pub frames_few : 6 * length r.frames.items ≤ heap_in r
  pub inners_few : 10 * length r.inners.items ≤ heap_in r
  pub choices_few : 10 * length r.choices.items ≤ heap_in r
  pub stops_few : 10 * length r.stops.items ≤ heap_in r
  pub refs : RefsFit (limit_in r) (heap_in r) (vec_capacity r.kept) r.kept.items (vec_capacity r.args) r.args.items (vec_capacity r.heads)
      (vec_capacity r.path)

-- The limits are those of the store.
pub record Limited (l : Limits) (s : Store) : Type 0 where
  pub heap : s.heap_limit ≡ l.heap
  pub trail : s.trail_limit ≡ l.trail

-- The state of a store that is empty.
abbrev pub at_rest : State
at_rest = record { vars = 0; subst = []; since = 0; heap = 0; trail = 0 }

-- There is room for as many as the limits allow.
pub record Roomy (l : Limits) (r : Memory) : Type 0 where
  pub limits : Limited l (meaning_of r.arena)
  pub frames : l.heap < 6 * vec_capacity r.frames + 6
  pub inners : l.heap < 10 * vec_capacity r.inners + 10
  pub choices : l.heap < 10 * vec_capacity r.choices + 10
  pub stops : l.heap < 10 * vec_capacity r.stops + 10
  pub kept : l.heap ≤ vec_capacity r.kept
  pub args : most_args ≤ vec_capacity r.args
  pub heads : most_args ≤ vec_capacity r.heads
  pub path : l.heap < 3 * vec_capacity r.path + 3

-- So many cells more than were taken are too many, and room is left as it was.
pub record Lacks (n : ℕ) (l : Limits) (heap : ℕ) (r : Memory) : Type 0 where
  pub over : l.heap < heap + n
  pub roomy : Roomy l r

-- Memory holds this state of the store, frames, inner constructs, choices and stoppable parts, of which this is the innermost that is open.
pub record HoldsWith (code : Code) (l : Limits) (r : Memory) (state : State) (frames : List FrameOf) (inner : List Place) (choices : List ChoiceOf)
    (stops : List Stop) (stop : Option ℕ) : Type 0 where
  pub saves : List Saved
  pub stand : saves_of r.arena saves
  pub state_is : (meaning_of r.arena).state ≡ state
  pub limits : Limited l (meaning_of r.arena)
  pub frames_are : FramesAt (meaning_of r.arena) (tags_of stops) r.inners.items r.frames.items r.frame frames
  pub inner_are : InnersAt (meaning_of r.arena) (tags_of stops) r.inners.items r.inner inner
  pub stop_is : StopIs (tags_of stops) r.stop stop
  pub choices_are : AreAmong code r.frames.items r.inners.items r.kept.items (heap_in r) saves r.choices.items choices r.stops.items stops
  pub room : HasRoom r

-- Memory holds what a machine is in, and knows how many gatherings are open.
abbrev pub Holds : Code → Limits → Memory → Mid → Type 0
Holds code l r m = HoldsWith code l r m.state m.frames m.inner m.choices m.stops m.stop × (length m.gathered ≡ r.gathered)

-- ## What calls do to memory

-- So much more of the heap was taken, and nothing else has changed.
pub record Took (n : ℕ) (old new : Memory) : Type 0 where
  pub heap : heap_in new ≡ heap_in old + n
  pub others : new ≡ record old { arena = new.arena }
  pub room : HasRoom new

-- A choice of what is at hand, which keeps so many arguments.
abbrev pub choice_here : Memory → Way → ℕ → Mark → Choice
choice_here r way count mark = record {
  way = way;
  frame = r.frame;
  inner = r.inner;
  stop = r.stop;
  frames = length r.frames.items;
  inners = length r.inners.items;
  stops = length r.stops.items;
  refs = length r.kept.items;
  args = count;
  gathered = r.gathered;
  mark = mark;
}

-- The machine inside a choice and a stoppable part that opened with it.
abbrev pub parted : ℕ → Mid → Mid
parted alt m = record (inside (GoesOf alt) 0 m) { stops = new_stop alt m ∷ m.stops; stop = Some m.next_tag }

-- A choice was opened, and took ten of the heap and one for each of so many arguments.
pub record Opened (way : Way) (count : ℕ) (old new : Memory) : Type 0 where
  pub heap : heap_in new ≡ heap_in old + (10 + count)
  pub values : Kept (meaning_of old.arena) (meaning_of new.arena)
  pub args : new.args ≡ old.args
  pub inners : new.inners ≡ old.inners
  pub frame : new.frame ≡ old.frame
  pub inner : new.inner ≡ old.inner
  pub room : HasRoom new
  pub choice : Choice
  pub goes : choice.way ≡ way
  pub choices : new.choices.items ≡ old.choices.items ++ choice ∷ []

-- Memory may go back to a choice with these left: its mark stands, and they are among those older than it.
pub record MayGoBack (code : Code) (a : Arena) (frames : List Frame) (inners : List Inner) (refs : List Ref) (kept : List Choice) (k : Choice)
    (c : ChoiceOf) (left : List Choice) (cs : List ChoiceOf) : Type 0 where
  pub saved : Saved
  pub saves : List Saved
  pub points : List Choice
  pub means : List ChoiceOf
  pub stand : saves_of a (saved ∷ saves)
  pub at : ChoiceAt (λ fs is rs ts. ChoicesAt code fs is rs ts saves points means × Among points means (reverse ts) (choices_of c.stops)) code frames
      inners refs kept saved k c
  pub under : IsUnder c.state.heap points
  pub left_in : Among points means left cs

-- The same of all that memory has.
abbrev pub CanRestore : Code → Memory → Choice → ChoiceOf → List ChoiceOf → Type 0
CanRestore code r k c cs =
    MayGoBack code r.arena r.frames.items r.inners.items r.kept.items r.stops.items k c (reverse r.choices.items) cs

-- The newest choice is gone, and memory holds what it goes back to, with its arguments; or there was none.
abbrev pub WentBack : Code → Limits → Option Way → Memory → Mid → List ChoiceOf → Type 0
WentBack code l (Some way) new m (c ∷ cs) = WayAt code (meaning_of new.arena) new.args.items way c.way × Holds code l new (back_at c cs m)
WentBack code l None new m [] = Unit {0}
WentBack code l way new m cs = ⊥

-- The state of a machine with a rule's cells and variables made.
abbrev pub made_state : ℕ → State → State
made_state n s = record s { vars = s.vars + n; heap = s.heap + (6 + n) }

-- A rule's cells were taken, and its variables stand in a row.
pub record MadeRule (code : Code) (l : Limits) (n : ℕ) (m : Mid) (new : Memory) (row : Row) : Type 0 where
  pub held : Holds code l new (record m { state = made_state n m.state })
  pub row_is : RowAt (meaning_of new.arena) row (new_vars n m.state.vars)

-- The same, where the head took so many cells.
abbrev pub headed_state : ℕ → ℕ → State → State
headed_state n cells s = record s { vars = s.vars + n; heap = s.heap + (6 + n + cells) }

-- The values of the rule's head stand in their register as well.
pub record MadeHead (code : Code) (l : Limits) (n cells : ℕ) (m : Mid) (values : List Value) (new : Memory) (row : Row) : Type 0 where
  pub held : Holds code l new (record m { state = headed_state n cells m.state })
  pub row_is : RowAt (meaning_of new.arena) row (new_vars n m.state.vars)
  pub heads : RefsAt (meaning_of new.arena) new.heads.items values

-- Values stand in the register of arguments, and took so many cells.
pub record HasPut (code : Code) (l : Limits) (n : ℕ) (values : List Value) (m : Mid) (new : Memory) : Type 0 where
  pub held : Holds code l new (more n m)
  pub args : RefsAt (meaning_of new.arena) new.args.items values

-- A number, or none, was read of a value, which took so many cells.
pub record HasNumber (code : Code) (l : Limits) (n : ℕ) (meant : Option ℕ) (m : Mid) (new : Memory) (number : Option ℕ) : Type 0 where
  pub held : Holds code l new (more n m)
  pub number_is : number ≡ meant

-- Values stand in the register of heads, and took so many cells.
pub record HasHeads (code : Code) (l : Limits) (n : ℕ) (values : List Value) (m : Mid) (new : Memory) : Type 0 where
  pub held : Holds code l new (more n m)
  pub heads : RefsAt (meaning_of new.arena) new.heads.items values

-- What the argument of a body has to become equal to, if there is one: the variable of that number, the first of its own.
abbrev pub parameter_equations : List Value → List Value → ℕ → Equations
parameter_equations [] vs n = []
parameter_equations (w ∷ ws) vs n = (w, value_of_var vs n) ∷ []

-- There is room for one more frame.
abbrev pub HasFrameRoom : Memory → Type 0
HasFrameRoom r = 6 * length r.frames.items + 6 ≤ heap_in r

-- A machine in a new frame of these variables, which a call has entered.
abbrev pub in_frame : CallOf → List Value → Mid → Mid
in_frame c vs m = record m { frames = record { vars = vs; cut = c.cut; many = c.many; next = c.next; inner = m.inner } ∷ m.frames; inner = [] }

-- Arguments were unified with a head, which led to this: it is told whether they agree, memory holds what was bound, and that is within the trail.
pub record Matched (code : Code) (l : Limits) (u : Unified) (m : Mid) (new : Memory) (yes : Bool) : Type 0 where
  pub agrees : yes ≡ u.agrees
  pub held : Holds code l new (bound u m)
  pub fits : trail_more m.state u ≤ l.trail

-- What would be bound is too much for the trail, and room is left as it was.
pub record Unmatched (l : Limits) (u : Unified) (m : Mid) (new : Memory) : Type 0 where
  pub over : l.trail < trail_more m.state u
  pub roomy : Roomy l new
