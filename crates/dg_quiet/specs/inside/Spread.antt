-- Which predicates aren't quiet, and how far that was followed to those that ask them. The proofs alone rest on it.
use Rattle.std.specs.Prelude.{◌≡◌, ◌<◌, ◌⊎◌, ◌≤◌, ℕ, ◌+◌, zero, suc, List, [], ◌∷◌, ◌++◌, Bool, true, false, Some, Contains, Vec, map, length, slice_get, slice_set}
use Rattle.std.specs.Global.{Global}
use Rattle.dg_base.specs.declared.program.Pred.{Pred}
use Rattle.dg_base.specs.declared.program.Rule.{Rule}
use Rattle.dg_meaning.specs.Sets.{is_in_set}
use Rattle.dg_meaning.specs.Quiet.{have_quiet_bodies, IsQuietBy}

-- The predicates that ask each.
abbrev pub rows_of : List (Vec ℕ Global) → List (List ℕ)
rows_of rows = map (λ (row : Vec ℕ Global). row.items) rows

abbrev pub row_at : List (List ℕ) → ℕ → List ℕ
row_at [] q = []
row_at (row ∷ rows) zero = row
row_at (row ∷ rows) (suc q) = row_at rows q

-- One predicate asks another.
abbrev pub Asks : List (List ℕ) → ℕ → ℕ → Type 0
Asks rows p q = Contains (row_at rows q) p

-- What a predicate asks is in a set.
abbrev pub AsksIn : List (List ℕ) → ℕ → List Bool → Type 0
AsksIn rows p set = (q : ℕ) → Asks rows p q → is_in_set set q ≡ true

-- A predicate is in no set of quiet ones.
abbrev pub IsNeverQuiet : List Pred → (ℕ → Bool) → ℕ → Type 0
IsNeverQuiet preds changing p = (set : List Bool) → length set ≡ length preds → IsQuietBy preds changing set → is_in_set set p ≡ false

-- A predicate doesn't change, and its bodies are quiet exactly where what it asks is.
pub record IsKnown (preds : List Pred) (changing : ℕ → Bool) (rows : List (List ℕ)) (p : ℕ) (pred : Pred) : Type 0 where
  pub stays : changing p ≡ false
  pub enough : (set : List Bool) → length set ≡ length preds → AsksIn rows p set → have_quiet_bodies set pred.rules ≡ true
  pub needs : (set : List Bool) → length set ≡ length preds → have_quiet_bodies set pred.rules ≡ true → AsksIn rows p set

-- A predicate was taken out of a set, if it was in it, and then waits.
pub record TookOut (set : List Bool) (left : List ℕ) (p : ℕ) (set' : List Bool) (left' : List ℕ) : Type 0 where
  pub was : is_in_set set p ≡ true → (set' ≡ slice_set set p false) × (left' ≡ left ++ p ∷ [])
  pub was_out : is_in_set set p ≡ false → (set' ≡ set) × (left' ≡ left)

-- How many are in a set.
abbrev pub one_if : Bool → ℕ
one_if true = 1
one_if false = 0

abbrev pub count_in : List Bool → ℕ
count_in [] = 0
count_in (b ∷ set) = one_if b + count_in set

-- These were taken out, each that was in the set waits, and no other was.
pub record TookAllOut (set : List Bool) (left ps : List ℕ) (set' : List Bool) (left' : List ℕ) : Type 0 where
  pub answers : length set' ≡ length set
  pub gone : (p : ℕ) → Contains ps p → is_in_set set' p ≡ false
  pub kept : (p : ℕ) → is_in_set set' p ≡ true → is_in_set set p ≡ true
  pub only : (p : ℕ) → is_in_set set p ≡ true → is_in_set set' p ≡ false → Contains ps p
  pub waits : (p : ℕ) → is_in_set set p ≡ true → is_in_set set' p ≡ false → Contains left' p
  pub waited : (p : ℕ) → Contains left p → Contains left' p
  pub from : (p : ℕ) → Contains left' p → (is_in_set set' p ≡ false) ⊎ Contains left p
  pub many : count_in set' + length left' ≡ count_in set + length left

-- A predicate stands in the rows of what it asks, and no other was added; or else one of these is no predicate.
pub record AddedTo (rows : List (List ℕ)) (pred : ℕ) (asks : List ℕ) (fits : Bool) (rows' : List (List ℕ)) : Type 0 where
  pub many : length rows' ≡ length rows
  pub others : (p q : ℕ) → (p ≡ pred → ⊥) → (Asks rows p q → Asks rows' p q) × (Asks rows' p q → Asks rows p q)
  pub added : fits ≡ true → (q : ℕ) → Contains asks q → Asks rows' pred q
  pub only : (q : ℕ) → Asks rows' pred q → Asks rows pred q ⊎ Contains asks q
  pub none : fits ≡ false → (q : ℕ) × (Contains asks q × (length rows ≤ q))

-- What others ask than one predicate stayed.
abbrev pub SameButFor : ℕ → List (List ℕ) → List (List ℕ) → Type 0
SameButFor k rows rows' = (p q : ℕ) → (p ≡ k → ⊥) → (Asks rows p q → Asks rows' p q) × (Asks rows' p q → Asks rows p q)

-- What these rules ask of a predicate was noted, if it doesn't change; or else it changes, or its bodies are quiet by no set.
pub record IsNoted (rules : List Rule) (changes : Bool) (rows : List (List ℕ)) (k : ℕ) (fits : Bool) (rows' : List (List ℕ)) : Type 0 where
  pub many : length rows' ≡ length rows
  pub others : SameButFor k rows rows'
  pub stays : fits ≡ true → changes ≡ false
  pub enough : fits ≡ true → (set : List Bool) → AsksIn rows' k set → have_quiet_bodies set rules ≡ true
  pub needs : fits ≡ true → (set : List Bool) → have_quiet_bodies set rules ≡ true →
      (q : ℕ) → Asks rows' k q → Asks rows k q ⊎ (is_in_set set q ≡ true)
  pub never : fits ≡ false → (changes ≡ true) ⊎ ((set : List Bool) → length set ≡ length rows → have_quiet_bodies set rules ≡ false)

-- The first k predicates were looked at: those that are loud or change are out and wait, and of the others it is known what they ask.
pub record IsSorted (preds : List Pred) (changing : ℕ → Bool) (rows : List (List ℕ)) (set : List Bool) (left : List ℕ) (k : ℕ) : Type 0 where
  pub answers : length set ≡ length preds
  pub rowed : length rows ≡ length preds
  pub out : (p : ℕ) → is_in_set set p ≡ false → IsNeverQuiet preds changing p
  pub waits : (p : ℕ) → p < length preds → is_in_set set p ≡ false → Contains left p
  pub lefts : (p : ℕ) → Contains left p → is_in_set set p ≡ false
  pub known : (p : ℕ) → p < k → (pred : Pred) → slice_get preds p ≡ Some pred → is_in_set set p ≡ true → IsKnown preds changing rows p pred
  pub earlier : (p q : ℕ) → Asks rows p q → p < k

-- Of those in the set it is known what they ask: what is in the set, or waits.
pub record IsSpread (preds : List Pred) (changing : ℕ → Bool) (rows : List (List ℕ)) (set : List Bool) (left : List ℕ) : Type 0 where
  pub answers : length set ≡ length preds
  pub out : (p : ℕ) → is_in_set set p ≡ false → IsNeverQuiet preds changing p
  pub lefts : (p : ℕ) → Contains left p → is_in_set set p ≡ false
  pub known : (p : ℕ) → (pred : Pred) → slice_get preds p ≡ Some pred → is_in_set set p ≡ true → IsKnown preds changing rows p pred
  pub spread : (p q : ℕ) → Asks rows p q → is_in_set set p ≡ true → (is_in_set set q ≡ true) ⊎ Contains left q
