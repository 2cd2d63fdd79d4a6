-- What a machine is in while it runs register code. Hold it against the Dialog manual, chapters "Choice points" and "Control flow".
use Rattle.std.specs.Prelude.{ℕ, List, [], ◌∷◌, Option, Some, None, Bool, true, false, nat_lt, eqb, if◌then◌else◌}
use Rattle.dg_base.specs.declared.run.Ending.{Ending}
use Rattle.dg_meaning.specs.Values.{Value}
use Rattle.dg_meaning.specs.Choosing.{Picks}
use Rattle.dg_meaning.specs.Facts.{Fact}
use Rattle.dg_meaning.specs.World.{Gathering}
use Rattle.dg_unify.specs.Store.{State}
use Rattle.dg_mid.specs.declared.code.Op.{Op}
use Rattle.dg_mid.specs.declared.code.RuleCode.{RuleCode}
use Rattle.dg_mid.specs.declared.code.BodyCode.{BodyCode}

-- A place to which a cut goes: how many choices were opened before it along the path, the height of the heap there, and the innermost stoppable part
-- there; where a gathering begins there, the value that it gathers. Heights order places as numbers do, and are what an engine keeps.
pub record Place : Type 0 where
  pub tag : ℕ
  pub height : ℕ
  pub outer : Option ℕ
  pub gathers : Option Value

-- A rule that is being run: the values of its variables, the place to which its (just) cuts, whether all its answers are wanted, the block behind its
-- answer, and the inner constructs that are open there. The frames behind it are those of that block.
pub record Frame : Type 0 where
  pub vars : List Value
  pub cut : Place
  pub many : Bool
  pub next : ℕ
  pub inner : List Place

-- A query of a predicate that is about to enter a rule: its arguments, whether all its answers are wanted, the block behind it, and the place to which it cuts.
pub record Call : Type 0 where
  pub args : List Value
  pub many : Bool
  pub next : ℕ
  pub cut : Place

-- What is asked: a predicate, or the body of a closure with what it has captured.
pub data Target : Type 0 where
  ToPred : (pred : ℕ) → Target
  ToBody : (body : BodyCode) → (captured : List Value) → Target

-- A query of the objects at a place, or without one of all objects: its arguments, whether all its answers are wanted, and the block behind an object
-- that is found.
pub record Find : Type 0 where
  pub place : Option ℕ
  pub args : List Value
  pub many : Bool
  pub next : ℕ

-- What a choice goes on with: a block, the block that takes a gathering out, for a value, further rules of a query, of which the first isn't excluded,
-- or further objects to be tried.
pub data Way : Type 0 where
  Goes : (block : ℕ) → Way
  Takes : (block : ℕ) → (into : Value) → Way
  Calls : (call : Call) → (rules : List RuleCode) → Way
  Tries : (find : Find) → (objects : List ℕ) → Way

-- Where it goes on behind a stoppable part: its place, the block behind it with its frames and inner constructs, the state of the store there, and
-- how many gatherings are open there.
pub record Stop : Type 0 where
  pub place : Place
  pub block : ℕ
  pub frames : List Frame
  pub inner : List Place
  pub state : State
  pub height : ℕ

-- A choice: its place, what it goes on with, what is restored where it is gone back to, and how many gatherings are open there.
pub record Choice : Type 0 where
  pub place : Place
  pub way : Way
  pub frames : List Frame
  pub inner : List Place
  pub stops : List Stop
  pub stop : Option ℕ
  pub height : ℕ
  pub state : State

-- What backtracking doesn't take back, beside what is gathered: the typed bytes left, how many dice words were drawn, what is set, and what is kept
-- of each select.
pub record Lasting : Type 0 where
  pub typed : List ℕ
  pub dice : ℕ
  pub facts : List Fact
  pub sites : List Picks

-- The code at hand, the frames with the newest first, the inner constructs that are open in the newest one, the choices, the stoppable parts around,
-- the innermost of them that is still open, the open gatherings, how many choices were opened along the path, the state of the store, and what
-- lasts.
pub record Mid : Type 0 where
  pub ops : List Op
  pub frames : List Frame
  pub inner : List Place
  pub choices : List Choice
  pub stops : List Stop
  pub stop : Option ℕ
  pub gathered : List Gathering
  pub next_tag : ℕ
  pub state : State
  pub lasting : Lasting

-- It runs its code, enters a rule, goes on with what a choice had left, goes back to the newest choice, or has ended.
pub data Status : Type 0 where
  Runs : (m : Mid) → Status
  Enters : (call : Call) → (m : Mid) → Status
  Resumes : (way : Way) → (m : Mid) → Status
  Fails : (m : Mid) → Status
  Ended : (ending : Ending) → Status

-- ## Parts

-- The values of the variables of the code at hand.
abbrev pub vars_of : List Frame → List Value
vars_of [] = []
vars_of (f ∷ fs) = f.vars

-- The place to which (just) cuts there.
abbrev pub cut_of : List Frame → Place
cut_of [] = record { tag = 0; height = 0; outer = None; gathers = None }
cut_of (f ∷ fs) = f.cut

-- The place of a choice that opens now.
abbrev pub place_of : Mid → Place
place_of m = record { tag = m.next_tag; height = m.state.heap; outer = m.stop; gathers = None }

-- The inner constructs where an object is found: one more, where one answer is wanted.
abbrev pub inner_for : Bool → Place → List Place → List Place
inner_for true p inner = inner
inner_for false p inner = p ∷ inner

-- The choices older than a place.
abbrev pub cut_choices : Place → List Choice → List Choice
cut_choices p [] = []
cut_choices p (c ∷ cs) = if nat_lt c.place.tag p.tag then c ∷ cs else cut_choices p cs

-- The stoppable part of a tag, and those around it.
abbrev pub stop_to : ℕ → List Stop → Option (Stop × List Stop)
stop_to t [] = None
stop_to t (s ∷ ss) = if eqb s.place.tag t then Some (s, ss) else stop_to t ss
