-- How what a machine of register code is in lies in a story's memory. Hold it against dg_mid/specs/State.antt.
use Rattle.std.specs.Prelude.{◌≡◌, ℕ, suc, ◌+◌, ◌*◌, ◌<◌, ◌≤◌, List, [], ◌∷◌, ◌++◌, length, Bool, true, false, Option, Some, None}
use Rattle.dg_meaning.specs.Values.{Value}
use Rattle.dg_meaning.specs.Substitutions.{Substitution}
use Rattle.dg_meaning.specs.inside.Unifiers.{binding_of}
use Rattle.dg_unify.specs.Store.{State}
use Rattle.dg_mid.specs.declared.code.RuleCode.{RuleCode}
use Rattle.dg_mid.specs.State.{Place, Frame, Call, Find, Way, Goes, Takes, Calls, Tries, Stop, Choice, Mid}
use Rattle.dg_mid.specs.Step.{first_of}
use Rattle.dg_turn.specs.Told.{Telling, told_count, FirstIs, RulesAt}
use Rattle.dg_turn.specs.Rest.{gather_words, newest, open_to, RestIn}
use Rattle.dg_turn.specs.Tries.{Sought, sought_at, sought_terms, tries_routine, AreLeft}
use Rattle.dg_rt.specs.Areas.{trail_reg, mark_reg, heap_reg, frame_reg, choice_reg, inner_reg, stop_reg}
use Rattle.dg_rt.specs.Shapes.{Shape, IsShape, Cell, Shows, Stands}
use Rattle.dg_rt.specs.Back.{at_place, Saved, GivesBack, OnTrail}
use Rattle.dg_rt.specs.Moments.{IsMark}
use Rattle.dg_rt.specs.Frames.{InRow, Captured}

-- A yes or no as a word.
abbrev pub bit_of : Bool → ℕ
bit_of false = 0
bit_of true = 1

-- ## Names of stoppable parts

-- A word names the stoppable part of a tag, which is one of some.
pub record NamesStop (word tag : ℕ) (ss : List Stop) : Type 0 where
  pub within : List Stop
  pub part : Stop
  pub around : List Stop
  pub is : ss ≡ within ++ part ∷ around
  pub tag_is : tag ≡ part.place.tag
  pub word_is : word ≡ at_place part.place.height

-- So it is with the innermost that is open; 0 is none.
abbrev pub StopNamed : ℕ → Option ℕ → List Stop → Type 0
StopNamed word None ss = word ≡ 0
StopNamed word (Some tag) ss = NamesStop word tag ss

-- ## Frames

-- The value that is gathered: 65,535 is none.
abbrev pub GathersIn : Shape → ℕ → Option Value → Type 0
GathersIn sh word None = word ≡ 65535
GathersIn sh word (Some v) = Shows sh word v

-- An inner construct lies at its height: the one around it is in its fourth cell, the stoppable part there, one of these, in its fifth, and what it
-- gathers in its ninth.
pub record InnerIn (around : ℕ → Type 0) (sh : Shape) (ss : List Stop) (word : ℕ) (p : Place) : Type 0 where
  pub word_is : word ≡ at_place p.height
  pub below : p.height + 10 ≤ sh.top
  pub l : ℕ
  pub l_is : Cell sh (p.height + 3) l
  pub stop : ℕ
  pub stop_is : Cell sh (p.height + 4) stop
  pub outer_is : StopNamed stop p.outer ss
  pub value : ℕ
  pub value_is : Cell sh (p.height + 8) value
  pub gathers_is : GathersIn sh value p.gathers
  pub around_is : around l

-- So do all of them, each within the next; 0 is none.
abbrev pub InnersIn : Shape → List Stop → ℕ → List Place → Type 0
InnersIn sh ss word [] = word ≡ 0
InnersIn sh ss word (p ∷ ps) = InnerIn (λ l. InnersIn sh ss l ps) sh ss word p

-- A frame lies in six cells: the frame behind it, the routine behind its answer, where it cuts to, the inner constructs there, twice the number of its
-- own variables with whether all answers are wanted, and its closure; its variables stand behind them.
pub record FrameIn (behind : ℕ → Type 0) (t : Telling) (sh : Shape) (ss : List Stop) (word : ℕ) (f : Frame) : Type 0 where
  pub at : ℕ
  pub word_is : word ≡ at_place at
  pub captured : List Value
  pub own : List Value
  pub vars : f.vars ≡ captured ++ own
  pub below : at + 6 + length own ≤ sh.top
  pub e : ℕ
  pub e_is : Cell sh (at + 0) e
  pub next : Cell sh (at + 1) (t.at_block f.next)
  pub cut : Cell sh (at + 2) (at_place f.cut.height)
  pub l : ℕ
  pub l_is : Cell sh (at + 3) l
  pub many : Cell sh (at + 4) (2 * length own + bit_of f.many)
  pub c : ℕ
  pub c_is : Cell sh (at + 5) c
  pub closure : Captured sh c captured
  pub row : InRow sh (at + 6) own
  pub inner : InnersIn sh ss l f.inner
  pub behind_is : behind e

-- So do all of them, the newest first; 0 is none.
abbrev pub FramesIn : Telling → Shape → List Stop → ℕ → List Frame → Type 0
FramesIn t sh ss word [] = word ≡ 0
FramesIn t sh ss word (f ∷ fs) = FrameIn (λ e. FramesIn t sh ss e fs) t sh ss word f

-- ## The store

-- Words stand for a state of the store: what is bound, and the counts. The shape has as many captured values of each closure as the program.
pub record StateIn (t : Telling) (sh : Shape) (cells : ℕ → ℕ) (trail : List ℕ) (s : State) : Type 0 where
  pub shape : IsShape sh
  pub low : (n : ℕ) → n < sh.vars → sh.place n < sh.top
  pub stands : Stands sh cells s.subst
  pub known : (n : ℕ) → sh.vars ≤ n → binding_of n s.subst ≡ None
  pub heap : sh.top ≡ s.heap
  pub vars : sh.vars ≡ s.vars
  pub trail_len : length trail ≡ s.trail
  pub few : s.heap ≤ 10000
  pub few_trail : s.trail ≤ 2000
  pub told : (place : ℕ) → sh.captures place ≡ told_count t.program place

-- ## Calls and ways

-- Words stand for values one by one.
abbrev pub WordsIn : Shape → List ℕ → List Value → Type 0
WordsIn sh [] [] = Unit {0}
WordsIn sh (x ∷ xs) (v ∷ vs) = Shows sh x v × WordsIn sh xs vs
WordsIn sh xs vs = ⊥

-- Words stand in a row of cells.
abbrev pub CellsAre : Shape → ℕ → List ℕ → Type 0
CellsAre sh k [] = Unit {0}
CellsAre sh k (x ∷ xs) = Cell sh k x × CellsAre sh (suc k) xs

-- The words of a call: of its arguments, the routine behind it, where it cuts to, and whether all answers are wanted.
pub record CallIn (t : Telling) (sh : Shape) (args : List ℕ) (next cut many : ℕ) (call : Call) : Type 0 where
  pub args_are : WordsIn sh args call.args
  pub next_is : next ≡ t.at_block call.next
  pub cut_is : cut ≡ at_place call.cut.height
  pub many_is : many ≡ bit_of call.many

-- What a choice of further rules goes on with, by its words: the routine of the first of them, the arguments, where it goes on behind the query, the
-- place to which its rule cuts, whether all answers are wanted, and the key of the first argument.
pub record CallsIn (t : Telling) (sh : Shape) (routine : ℕ) (args : List ℕ) (next cut many key : ℕ) (S : Substitution) (call : Call)
    (rules : List RuleCode) : Type 0 where
  pub number : ℕ
  pub routine_is : routine ≡ t.p.names.routine number
  pub rules_are : RulesAt t (length call.args) number rules
  pub call_is : CallIn t sh args next cut many call
  pub key_is : FirstIs (first_of S call) key

-- What a choice of further objects goes on with: the routine that tries the first of them, whose number is the key, and the arguments.
pub record TriesIn (t : Telling) (sh : Shape) (routine : ℕ) (args : List ℕ) (key : ℕ) (f : Find) (objects : List ℕ) : Type 0 where
  pub sought : Sought
  pub sought_is : sought_at t.program f.place ≡ Some sought
  pub count : length f.args ≡ sought_terms sought
  pub next : ℕ
  pub next_is : t.p.names.routine next ≡ t.at_block f.next
  pub is : t.p.routine_at routine ≡ Some (tries_routine t.program sought f.many next)
  pub args_are : WordsIn sh args f.args
  pub objects_are : AreLeft (length t.program.objects) key objects

-- The same of each way on.
abbrev pub WayIn : Telling → Shape → (routine : ℕ) → (args : List ℕ) → (next cut many key : ℕ) → Substitution → Way → Type 0
WayIn t sh routine args next cut many key S (Goes b) = routine ≡ t.at_block b
WayIn t sh routine args next cut many key S (Takes b into) = (routine ≡ t.at_block b) × Shows sh next into
WayIn t sh routine args next cut many key S (Calls call rules) = CallsIn t sh routine args next cut many key S call rules
WayIn t sh routine args next cut many key S (Tries f objects) = TriesIn t sh routine args key f objects

-- ## Stoppable parts

-- Boxes of memory as it is that stand in front of what undoing gives back stand there too.
abbrev pub BoxesStay : Shape → Saved → Type 0
BoxesStay sh w = (k : ℕ) (v : Value) → sh.box k ≡ Some v → k < w.sh.top → w.sh.box k ≡ Some v

-- A stoppable part lies in the cells of the choice that opened with it: the routine behind it, the frame, the inner construct and the stoppable part
-- there, the trail, and the newest gathering of so many. Undoing gives back memory there, which stands for what it restores.
pub record StopIn (older : Saved → Type 0) (t : Telling) (sh : Shape) (cells : ℕ → ℕ) (trail : List ℕ) (opens : List ℕ) (around : List Stop)
    (s : Stop) : Type 0 where
  pub routine : ℕ
  pub e : ℕ
  pub l : ℕ
  pub stop : ℕ
  pub gather : ℕ
  pub cells_are : CellsAre sh (suc s.place.height) (routine ∷ e ∷ l ∷ stop ∷ s.state.trail ∷ gather ∷ [])
  pub below : s.place.height + 10 ≤ sh.top
  pub block : routine ≡ t.at_block s.block
  pub outer_is : StopNamed stop s.place.outer around
  pub few_open : s.height ≤ length opens
  pub gather_is : gather ≡ newest (open_to s.height opens)
  pub saved : Saved
  pub back : GivesBack sh cells trail saved
  pub boxes : BoxesStay sh saved
  pub state : StateIn t saved.sh saved.cells saved.trail s.state
  pub marked : IsMark saved.sh s.state.since saved.sh.top
  pub frames : FramesIn t saved.sh around e s.frames
  pub inner : InnersIn saved.sh around l s.inner
  pub older_are : older saved

-- So do all of them, the innermost first, each within the next. Of those around it is said over the memory that undoing gives there.
abbrev pub StopsIn : Telling → Shape → (ℕ → ℕ) → List ℕ → (opens : List ℕ) → List Stop → Type 0
StopsIn t sh cells trail opens [] = Unit {0}
StopsIn t sh cells trail opens (s ∷ ss) =
    StopIn (λ w. StopsIn t w.sh w.cells w.trail (open_to s.height opens) ss) t sh cells trail opens ss s

-- The innermost gives back no more than there was at a mark.
abbrev pub StopsUnder : (t : Telling) (sh : Shape) (cells : ℕ → ℕ) (trail opens : List ℕ) (hb : ℕ) (ss : List Stop) →
    StopsIn t sh cells trail opens ss → Type 0
StopsUnder t sh cells trail opens hb [] h = Unit {0}
StopsUnder t sh cells trail opens hb (s ∷ ss) h = h.saved.sh.top ≤ hb

-- ## Choices

-- How many arguments a choice keeps.
abbrev pub arguments_of : Way → ℕ
arguments_of (Calls call rules) = length call.args
arguments_of (Tries f objects) = length f.args
arguments_of way = 0

-- A choice in front of a place ends in front of it, and no more gatherings are open there than at the place.
abbrev pub EndsBefore : (at opens : ℕ) → List Choice → Type 0
EndsBefore at opens [] = Unit {0}
EndsBefore at opens (c ∷ cs) =
    (c.place.height < at → (c.place.height + 10 + arguments_of c.way ≤ at) × (c.height ≤ opens)) × EndsBefore at opens cs

-- So it is with the place of each of some stoppable parts.
abbrev pub AreApart : List Stop → List Choice → Type 0
AreApart [] cs = Unit {0}
AreApart (s ∷ ss) cs = EndsBefore s.place.height s.height cs × AreApart ss cs

-- The newest of some choices, and of some stoppable parts, was opened where fewer gatherings were open than so many.
abbrev pub OpensFewer : ℕ → List Choice → Type 0
OpensFewer n [] = Unit {0}
OpensFewer n (c ∷ cs) = c.height < n

abbrev pub StopsFewer : ℕ → List Stop → Type 0
StopsFewer n [] = Unit {0}
StopsFewer n (s ∷ ss) = s.height < n

-- So it is in front of a choice that takes the newest of so many gatherings out.
abbrev pub TakesLast : Way → ℕ → List Choice → List Stop → Type 0
TakesLast (Takes b into) n cs ss = OpensFewer n cs × StopsFewer n ss
TakesLast way n cs ss = Unit {0}

-- A choice lies in ten cells and those of its arguments, from its height on; undoing gives back memory there, which stands for what it restores. It
-- keeps the stoppable part around, and the newest gathering of so many.
pub record ChoiceIn (older : Saved → ℕ → Type 0) (t : Telling) (sh : Shape) (cells : ℕ → ℕ) (trail : List ℕ) (opens : List ℕ) (word : ℕ)
    (c : Choice) (cs : List Choice) : Type 0 where
  pub word_is : word ≡ at_place c.place.height
  pub behind : ℕ
  pub routine : ℕ
  pub e : ℕ
  pub l : ℕ
  pub stop : ℕ
  pub gather : ℕ
  pub next : ℕ
  pub many : ℕ
  pub key : ℕ
  pub args : List ℕ
  pub cells_are : CellsAre sh c.place.height
      (behind ∷ routine ∷ e ∷ l ∷ stop ∷ c.state.trail ∷ gather ∷ next ∷ many ∷ key ∷ args)
  pub size : length args ≡ arguments_of c.way
  pub saved : Saved
  pub back : GivesBack sh cells trail saved
  pub state : StateIn t saved.sh saved.cells saved.trail c.state
  pub marked : IsMark saved.sh c.state.since saved.sh.top
  pub way : WayIn t saved.sh routine args next (at_place c.place.height) many key c.state.subst c.way
  pub frames : FramesIn t saved.sh c.stops e c.frames
  pub inner : InnersIn saved.sh c.stops l c.inner
  pub stop_is : StopNamed stop c.stop c.stops
  pub few_open : c.height ≤ length opens
  pub gather_is : gather ≡ newest (open_to c.height opens)
  pub stops : StopsIn t saved.sh saved.cells saved.trail (open_to c.height opens) c.stops
  pub apart : AreApart c.stops cs
  pub fewer : TakesLast c.way c.height cs c.stops
  pub older_are : older saved behind

-- So do all of them, the newest first; 0 is none. Of the older ones it is said over the memory that going back to the newer one gives.
abbrev pub ChoicesIn : Telling → Shape → (ℕ → ℕ) → List ℕ → (opens : List ℕ) → ℕ → List Choice → Type 0
ChoicesIn t sh cells trail opens word [] = word ≡ 0
ChoicesIn t sh cells trail opens word (c ∷ cs) =
    ChoiceIn (λ w b. ChoicesIn t w.sh w.cells w.trail (open_to c.height opens) b cs) t sh cells trail opens word c cs

-- The newest choice gives back no more than there was at a mark.
abbrev pub NewestUnder : (t : Telling) (sh : Shape) (cells : ℕ → ℕ) (trail opens : List ℕ) (word hb : ℕ) (cs : List Choice) →
    ChoicesIn t sh cells trail opens word cs → Type 0
NewestUnder t sh cells trail opens word hb [] h = Unit {0}
NewestUnder t sh cells trail opens word hb (c ∷ cs) h = h.saved.sh.top ≤ hb

-- ## A machine

-- Words stand for a machine: the registers of the heap, the trail, the newest frame, choice, inner construct and stoppable part, and the newest mark
-- name its parts. The rest is as these words outside are.
pub record MidIn (t : Telling) (outer : ℕ → ℕ) (sh : Shape) (cells : ℕ → ℕ) (trail : List ℕ) (m : Mid) : Type 0 where
  pub heap : cells heap_reg ≡ m.state.heap
  pub height : cells trail_reg ≡ m.state.trail
  pub state : StateIn t sh cells trail m.state
  pub on_trail : OnTrail cells trail
  pub frames : FramesIn t sh m.stops (cells frame_reg) m.frames
  pub choices : ChoicesIn t sh cells trail (gather_words m.gathered) (cells choice_reg) m.choices
  pub hb : ℕ
  pub mark : cells mark_reg ≡ 32768 + hb
  pub marked : IsMark sh m.state.since hb
  pub under : NewestUnder t sh cells trail (gather_words m.gathered) (cells choice_reg) hb m.choices choices
  pub inner : InnersIn sh m.stops (cells inner_reg) m.inner
  pub stop : StopNamed (cells stop_reg) m.stop m.stops
  pub stops : StopsIn t sh cells trail (gather_words m.gathered) m.stops
  pub stops_under : StopsUnder t sh cells trail (gather_words m.gathered) hb m.stops stops
  pub apart : AreApart m.stops m.choices
  pub rest : RestIn t outer cells m.gathered
