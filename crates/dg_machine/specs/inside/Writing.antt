-- How far a term is written that has lists in it. Hold it against docs/LANGUAGE.md, where it says what a value is and what a limit counts.
use Rattle.std.specs.Prelude.{ℕ, ◌≡◌, ◌+◌, ◌<◌, ◌≤◌, List, [], ◌∷◌, ◌++◌, Option, Some, None, length, take}
use Rattle.std.specs.List.{All}
use Rattle.dg_base.specs.declared.program.Term.{Term, out-Term}
use Rattle.dg_base.specs.declared.program.Term.TheOpen as term
use Rattle.dg_base.specs.declared.program.Term.TheVariants.{Pair as Pair-Term}
use Rattle.dg_base.specs.declared.program.CoreProgram.{CoreProgram}
use Rattle.dg_base.specs.Terms.{nodes}
use Rattle.dg_meaning.specs.Values.{Value, value_of}
use Rattle.dg_meaning.specs.Cells.{cells}
use Rattle.dg_unify.specs.Store.{Store, Charged, Made}
use Rattle.dg_unify.specs.declared.bindings.Ref.{Ref}
use Rattle.dg_machine.specs.declared.now.Side.{Side}
use Rattle.dg_machine.specs.declared.now.Side.TheVariants.{Head, Tail}
use Rattle.dg_machine.specs.declared.paths.Mark.{Mark}

-- ## Paths

-- The part of a term on a side; a term without parts is its own.
abbrev pub part_in : Side → term.Term-F Term → Term → Term
part_in Head (term.Pair head tail) t = head
part_in (Tail r) (term.Pair head tail) t = tail
part_in side other t = t

abbrev pub part_of : Side → Term → Term
part_of side t = part_in side (out-Term t) t

-- The part of a term to which a path leads.
abbrev pub reached : List Side → Term → Term
reached [] t = t
reached (side ∷ path) t = reached path (part_of side t)

-- Where a path goes behind the head of a pair, the Ref that it keeps stands for the value of the head.
abbrev pub IsHead : Store → Side → Value → Type 0
IsHead s Head v = Unit {0}
IsHead s (Tail r) v = s.value r ≡ Some v

-- A pair is gone into.
pub record IsGone (s : Store) (p : CoreProgram) (vs : List Value) (side : Side) (t : Term) : Type 0 where
  pub head : Term
  pub tail : Term
  pub is : t ≡ Pair-Term head tail
  pub value : IsHead s side (value_of p vs head)

-- So is each pair of a path.
abbrev pub AreGone : Store → CoreProgram → List Value → List Side → Term → Type 0
AreGone s p vs [] t = Unit {0}
AreGone s p vs (side ∷ path) t = IsGone s p vs side t × AreGone s p vs path (part_of side t)

-- This is the value of the part to which a path leads.
pub record IsAtPart (s : Store) (p : CoreProgram) (vs : List Value) (path : List Side) (t : Term) (r : Ref) : Type 0 where
  pub gone : AreGone s p vs path t
  pub value : s.value r ≡ Some (value_of p vs (reached path t))

-- ## Fronts

-- A path goes on from another one.
abbrev pub GoesOn : List Side → List Side → Type 0
GoesOn before behind = (more : List Side) × (behind ≡ before ++ more)

-- A front of a path is one of the next path too, where that is longer than it.
abbrev pub FrontsStay : List Side → List Side → Type 0
FrontsStay before behind = (n : ℕ) → n ≤ length before → n < length behind → take n behind ≡ take n before

-- This mark has the part of a term to which a front of a path leads.
pub record IsMark (path : List Side) (t : Term) (mark : Mark) : Type 0 where
  pub within : mark.depth ≤ length path
  pub at : mark.term.now ≡ reached (take mark.depth path) t

-- So has each of these.
abbrev pub AreMarks : List Side → Term → List Mark → Type 0
AreMarks path t marks = All (IsMark path t) marks

-- This mark has it where the front is shorter than the path.
abbrev pub IsMarkBelow : List Side → Term → Mark → Type 0
IsMarkBelow path t mark = mark.depth < length path → mark.term.now ≡ reached (take mark.depth path) t

-- So has each of these.
abbrev pub AreMarksBelow : List Side → Term → List Mark → Type 0
AreMarksBelow path t marks = All (IsMarkBelow path t) marks

-- ## What is left

-- What is left of a pair that is gone into: itself, and its tail where that comes later.
abbrev pub left_in : ℕ → (Term → ℕ) → Side → term.Term-F Term → ℕ
left_in one all Head (term.Pair head tail) = one + all tail
left_in one all (Tail r) (term.Pair head tail) = one
left_in one all side other = 0

-- The same of all pairs of a path.
abbrev pub left_around : ℕ → (Term → ℕ) → List Side → Term → ℕ
left_around one all [] t = 0
left_around one all (side ∷ path) t = left_in one all side (out-Term t) + left_around one all path (part_of side t)

-- The cells of one term, and its nodes.
abbrev pub cells_of : CoreProgram → Term → ℕ
cells_of p t = cells p (t ∷ [])

abbrev pub nodes_of : Term → ℕ
nodes_of t = length (nodes t)

-- The cells that are left to take around the part to which a path leads, and with those of that part.
abbrev pub cells_around : CoreProgram → List Side → Term → ℕ
cells_around p path t = left_around 3 (cells_of p) path t

abbrev pub cells_left : CoreProgram → List Side → Term → ℕ
cells_left p path t = cells_around p path t + cells_of p (reached path t)

-- The same of nodes.
abbrev pub nodes_around : List Side → Term → ℕ
nodes_around path t = left_around 1 nodes_of path t

abbrev pub nodes_left : List Side → Term → ℕ
nodes_left path t = nodes_around path t + nodes_of (reached path t)

-- So many cells more are too many.
abbrev pub Overflows : ℕ → Store → Type 0
Overflows n s = s.heap_limit < s.state.heap + n

-- There is room for as many Refs more as the heap has cells left.
pub record SpareFits (s : Store) (room : ℕ) (spare : List Ref) : Type 0 where
  pub fits : s.heap_limit ≤ room
  pub few : length spare ≤ s.state.heap

-- ## Steps

-- A path goes on into a term, and the heads that it passes are written.
pub record Descends (p : CoreProgram) (vs : List Value) (t : Term) (old new : Store) (before behind : List Side) : Type 0 where
  pub count : ℕ
  pub charged : Charged count old new
  pub gone : AreGone new p vs behind t
  pub left : count + cells_left p behind t ≡ cells_left p before t
  pub fewer : nodes_left behind t ≤ nodes_left before t

-- The head is made of the newest pair that was gone into so.
pub record HeadMade (p : CoreProgram) (vs : List Value) (t : Term) (old new : Store) (before behind : List Side) : Type 0 where
  pub count : ℕ
  pub charged : Charged count old new
  pub gone : AreGone new p vs behind t
  pub left : count + cells_left p behind t ≡ cells_around p before t
  pub fewer : nodes_left behind t ≤ nodes_around before t

-- The pairs around a part are made, up to one whose head they are, or all of them.
abbrev pub Closes : CoreProgram → List Value → Term → Store → Store → List Side → List Side → Option Ref → Type 0
Closes p vs t old new before behind None = HeadMade p vs t old new before behind
Closes p vs t old new before behind (Some r) = Made (cells_around p before t) old new r (value_of p vs t)

-- A list in a head is written, and the part behind it is next.
pub record ListWritten (p : CoreProgram) (vs : List Value) (t : Term) (old new : Store) (before behind : List Side) : Type 0 where
  pub count : ℕ
  pub charged : Charged count old new
  pub gone : AreGone new p vs behind t
  pub left : count + cells_left p behind t ≡ cells_left p before t
  pub fewer : nodes_left behind t < nodes_left before t

-- A list in a head is written, and the part behind it is next, or the whole is made.
abbrev pub Writes : CoreProgram → List Value → Term → Store → Store → List Side → List Side → Option Ref → Type 0
Writes p vs t old new before behind None = ListWritten p vs t old new before behind
Writes p vs t old new before behind (Some r) = Made (cells_left p before t) old new r (value_of p vs t)
