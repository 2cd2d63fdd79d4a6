-- What it is that a predicate has at most one answer. Hold it against the Dialog manual, chapter "Choice points".
use Rattle.std.specs.Prelude.{◌≡◌, ◌≢◌, ℕ, ◌+◌, ◌<◌, ◌≤◌, eqb, List, [], ◌∷◌, Option, Some, None, true, slice_get, if◌then◌else◌}
use Rattle.dg_base.specs.declared.program.Term.{Term}
use Rattle.dg_base.specs.declared.program.Goal.TheVariants.{Ask}
use Rattle.dg_meaning.specs.Values.{Value}
use Rattle.dg_meaning.specs.World.{Game, World, Event, Answered}
use Rattle.dg_meaning.specs.Path.{Step, Do, Answers, Cut, Refuse, Back, Keep, Leave, Registers, Path}
use Rattle.dg_meaning.specs.Moves.{path_of}
use Rattle.dg_meaning.specs.Search.{search}
use Rattle.dg_meaning.specs.inside.Bindings.{IsBound}

-- How often it is told that q was answered.
abbrev pub passes : ℕ → List Event → ℕ
passes q [] = 0
passes q (Answered p ∷ es) = (if eqb p q then 1 else 0) + passes q es
passes q (e ∷ es) = passes q es

-- No step tells an answer of q.
abbrev pub IsFree : ℕ → List Step → Type 0
IsFree q [] = Unit {0}
IsFree q (Answers p ∷ steps) = (p ≢ q) × IsFree q steps
IsFree q (s ∷ steps) = IsFree q steps

-- A tag is older than t, where there is one.
abbrev pub IsOlder : ℕ → Option ℕ → Type 0
IsOlder t None = Unit {0}
IsOlder t (Some s) = s < t

-- The tags to which steps may lead back are older than t.
abbrev pub AreOlder : ℕ → List Step → Type 0
AreOlder t [] = Unit {0}
AreOlder t (Do goal env u ∷ steps) = (u < t) × AreOlder t steps
AreOlder t (Answers p ∷ steps) = AreOlder t steps
AreOlder t (Cut u ∷ steps) = (u < t) × AreOlder t steps
AreOlder t (Refuse u ∷ steps) = (u < t) × AreOlder t steps
AreOlder t (Back ∷ steps) = AreOlder t steps
AreOlder t (Keep u term env ∷ steps) = AreOlder t steps
AreOlder t (Leave u outer ∷ steps) = (u < t) × IsOlder t outer × AreOlder t steps

-- A path may be searched alone: its variables were made, and its tags are older than its next one.
pub record MayBeSearched (path : Path) : Type 0 where
  pub bound : IsBound path
  pub steps : AreOlder path.registers.next_tag path.steps
  pub stoppable : IsOlder path.registers.next_tag path.registers.stoppable

-- The path of a query for all answers of a predicate, then a mark, and then other steps; the mark tells an answer of q.
abbrev pub asking : ℕ → List Term → List Value → ℕ → ℕ → List Step → Registers → Path
asking pred terms env t q steps r = path_of (Do (Ask pred terms true) env t ∷ Answers q ∷ steps) r

-- A predicate has at most one answer: whatever it is asked, whatever comes then, the search passes the mark at most once.
-- The mark is none of the program's own.
abbrev pub HasOneAnswer : Game → ℕ → Type 0
HasOneAnswer g pred =
    (terms : List Term) → (env : List Value) → (t q : ℕ) → (steps : List Step) → (r : Registers) → (n : ℕ) → (w : World) →
    slice_get g.program.preds q ≡ None → IsFree q steps → MayBeSearched (asking pred terms env t q steps r) →
    passes q (search g n (asking pred terms env t q steps r) w).world.events ≤ passes q w.events + 1
