-- What backtracking doesn't take back. Hold it against the Dialog manual, chapters "Output" and "Beyond the program".
use Rattle.std.specs.Prelude.{ℕ, ◌+◌, List, [], ◌∷◌, ◌++◌, length, max, if◌then◌else◌, eqb}
use Rattle.std.specs.List.{sum_by}
use Rattle.dg_base.specs.declared.program.GapKind.{GapKind}
use Rattle.dg_base.specs.declared.program.CoreProgram.{CoreProgram}
use Rattle.dg_meaning.specs.Values.{Value}
use Rattle.dg_meaning.specs.ValueCells.{cells_of}
use Rattle.dg_meaning.specs.Facts.{Fact}
use Rattle.dg_meaning.specs.Choosing.{Picks}

-- What stays the same through a run: the program, and the dice words, which are drawn one after another and then from the first again.
pub record Game : Type 0 where
  pub program : CoreProgram
  pub dice : List ℕ

-- One thing that is printed: a piece of text, a gap of some kind, or a number of spaces.
pub data Print : Type 0 where
  Piece : (bytes : List ℕ) → Print
  GapOf : (kind : GapKind) → Print
  SpacesOf : (count : ℕ) → Print

-- One thing that happens: something is printed, or a query of a predicate is asked, answered, tried again with its next rule, or fails at its last.
pub data Event : Type 0 where
  Prints : (print : Print) → Event
  Asked : (pred : ℕ) → Event
  Answered : (pred : ℕ) → Event
  Retried : (pred : ℕ) → Event
  HasFailed : (pred : ℕ) → Event

-- An open gathering: the tag of its choice, and the values that were gathered so far.
pub record Gathering : Type 0 where
  pub tag : ℕ
  pub values : List Value

-- The greatest counts that were reached so far, and the work that was done.
pub record Meters : Type 0 where
  pub heap : ℕ
  pub trail : ℕ
  pub aux : ℕ
  pub keep : ℕ
  pub work : ℕ

-- The events in order, the open gatherings with the newest first, the meters, the typed bytes left, how many dice words were drawn, what is set, and
-- what is kept of each select.
pub record World : Type 0 where
  pub events : List Event
  pub gathered : List Gathering
  pub meters : Meters
  pub typed : List ℕ
  pub dice : ℕ
  pub facts : List Fact
  pub sites : List Picks

-- What of the events was printed.
abbrev pub prints : List Event → List Print
prints [] = []
prints (Prints e ∷ es) = e ∷ prints es
prints (Asked q ∷ es) = prints es
prints (Answered q ∷ es) = prints es
prints (Retried q ∷ es) = prints es
prints (HasFailed q ∷ es) = prints es

-- The world with one more event.
abbrev pub noted : Event → World → World
noted e w = record w { events = w.events ++ e ∷ [] }

-- The world with more work done.
abbrev pub worked : ℕ → World → World
worked n w = record w { meters = record w.meters { work = w.meters.work + n } }

-- The world in which these counts of heap and trail were reached.
abbrev pub reached : ℕ → ℕ → World → World
reached heap trail w = record w { meters = record w.meters { heap = max w.meters.heap heap; trail = max w.meters.trail trail } }

-- What the open gatherings count: 2 for each, and the cells of each value in it.
abbrev pub gathered_size : List Gathering → ℕ
gathered_size gs = sum_by (λ (g : Gathering). 2 + sum_by (λ v. length (cells_of v)) g.values) gs

-- The world in which these gatherings are open.
abbrev pub gathering : List Gathering → World → World
gathering gs w = record w { gathered = gs; meters = record w.meters { aux = max w.meters.aux (gathered_size gs) } }

-- The gatherings with a value added to the newest one of this tag.
abbrev pub gathered_with : ℕ → Value → List Gathering → List Gathering
gathered_with t v [] = []
gathered_with t v (g ∷ gs) = if eqb g.tag t then record g { values = g.values ++ v ∷ [] } ∷ gs else g ∷ gathered_with t v gs

-- The values of the newest gathering of this tag.
abbrev pub gathered_at : ℕ → List Gathering → List Value
gathered_at t [] = []
gathered_at t (g ∷ gs) = if eqb g.tag t then g.values else gathered_at t gs

-- The gatherings without the newest one of this tag.
abbrev pub gathered_without : ℕ → List Gathering → List Gathering
gathered_without t [] = []
gathered_without t (g ∷ gs) = if eqb g.tag t then gs else g ∷ gathered_without t gs

-- The world with an empty gathering opened.
abbrev pub opened : ℕ → World → World
opened t w = gathering (record { tag = t; values = [] } ∷ w.gathered) w

-- The world with a value gathered.
abbrev pub kept : ℕ → Value → World → World
kept t v w = gathering (gathered_with t v w.gathered) w

-- The world with a gathering dropped.
abbrev pub dropped : ℕ → World → World
dropped t w = record w { gathered = gathered_without t w.gathered }

-- The world with more dice words drawn.
abbrev pub drew : ℕ → World → World
drew n w = record w { dice = w.dice + n }
