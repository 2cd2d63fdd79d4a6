-- Values that are copied out of the world.
use Rattle.std.proofs.Common.{◌≡◌, ℕ, ◌+◌, ◌-◌, ◌<◌, ◌≤◌, List, ap, arith, length, length-append, Result, Ok, Err, MatchResult}
use Rattle.std.proofs.lemmas.List.{length-map}
use Rattle.dg_arena.specs.Held.{meaning_of}
use Rattle.dg_arena.specs.declared.arena.Arena.{Arena}
use Rattle.dg_base.specs.declared.cells.Cell.{Cell}
use Rattle.dg_base.specs.declared.cells.Cell.TheVariants as cell
use Rattle.dg_meaning.specs.Copies.{copy_cells, all_copy_cells}
use Rattle.dg_meaning.specs.ValueCells.{count_of, cells_of, cells_of_all, label_cells}
use Rattle.dg_meaning.specs.Values.{Label, Num, Word, Unknown, Object, Nil, Pair, Closure, Value, Var, Node, Values, NoMore, More}
use Rattle.dg_lists.specs.Formed.{IsFormed, AreFormed}
use Rattle.dg_lists.specs.Reading.{Stopped, Copied}
use Rattle.dg_unify.specs.Store.{Store}
use Rattle.dg_unify.specs.declared.bindings.Ref.{Ref}
use Rattle.dg_unify.specs.declared.bindings.Full.{Full}
use Rattle.dg_unify.specs.declared.bindings.Full.TheVariants as full
use Rattle.dg_machine.specs.inside.Writing.{Overflows, SpareFits}
use Rattle.dg_machine.proofs.Opens.{grows_not}

-- ## How many cells a value has

parts_none : (vs : Values) → vs ≡ NoMore → count_of vs ≡ 0
parts_none vs e = ap count_of e

node_cells : (f : Label) (vs : Values) → length (cells_of (Node f vs)) ≡ length (label_cells f (count_of vs)) + length (cells_of_all vs)
node_cells f vs = length-append (label_cells f (count_of vs)) (cells_of_all vs)

mutual
  -- one more than it takes of the heap
  pub few_cells : (v : Value) → IsFormed v → length (cells_of v) ≤ 1 + copy_cells v
  few_cells (Var x) h = omega arith
  few_cells (Node (Num n) vs) h = let all = few_all vs h.1 in let whole = node_cells (Num n) vs in let none = parts_none vs h.0 in omega (arith, all, whole, none)
  few_cells (Node (Word n) vs) h = let all = few_all vs h.1 in let whole = node_cells (Word n) vs in let none = parts_none vs h.0 in omega (arith, all, whole, none)
  few_cells (Node (Object n) vs) h = let all = few_all vs h.1 in let whole = node_cells (Object n) vs in let none = parts_none vs h.0 in omega (arith, all, whole, none)
  few_cells (Node Nil vs) h = let all = few_all vs h.1 in let whole = node_cells Nil vs in let none = parts_none vs h.0 in omega (arith, all, whole, none)
  few_cells (Node (Unknown spelling) vs) h =
      let all = few_all vs h.1 in
      let whole = node_cells (Unknown spelling) vs in
      let none = parts_none vs h.0.0 in
      let letters = length-map spelling cell.Char in
      omega (arith, all, whole, none, letters)
  few_cells (Node Pair vs) h = let all = few_all vs h.1 in let whole = node_cells Pair vs in let two : count_of vs ≡ 2 = h.0 in omega (arith, all, whole, two)
  few_cells (Node (Closure place) vs) h = let all = few_all vs h.1 in let whole = node_cells (Closure place) vs in omega (arith, all, whole)

  few_all : (vs : Values) → AreFormed vs → length (cells_of_all vs) ≤ count_of vs + all_copy_cells vs
  few_all NoMore h = omega arith
  few_all (More v vs) h =
      let one = few_cells v h.0 in
      let others = few_all vs h.1 in
      let whole = length-append (cells_of v) (cells_of_all vs) in
      omega (arith, one, others, whole)

-- no more than it takes of the heap, where they are two or more
pub cells_fit : (v : Value) → IsFormed v → 2 ≤ length (cells_of v) → length (cells_of v) ≤ copy_cells v
cells_fit (Var x) h le = absurd (omega (arith, le))
cells_fit (Node (Num n) vs) h le = absurd (let all = few_all vs h.1 in let whole = node_cells (Num n) vs in let none : vs ≡ NoMore = h.0 in let no = ap (λ x. length (cells_of_all x)) none in omega (arith, le, whole, no))
cells_fit (Node (Word n) vs) h le = absurd (let whole = node_cells (Word n) vs in let none : vs ≡ NoMore = h.0 in let no = ap (λ x. length (cells_of_all x)) none in omega (arith, le, whole, no))
cells_fit (Node (Object n) vs) h le = absurd (let whole = node_cells (Object n) vs in let none : vs ≡ NoMore = h.0 in let no = ap (λ x. length (cells_of_all x)) none in omega (arith, le, whole, no))
cells_fit (Node Nil vs) h le = absurd (let whole = node_cells Nil vs in let none : vs ≡ NoMore = h.0 in let no = ap (λ x. length (cells_of_all x)) none in omega (arith, le, whole, no))
cells_fit (Node (Unknown spelling) vs) h le =
    let all = few_all vs h.1 in
    let whole = node_cells (Unknown spelling) vs in
    let none = parts_none vs h.0.0 in
    let letters = length-map spelling cell.Char in
    omega (arith, all, whole, none, letters)
cells_fit (Node Pair vs) h le = let all = few_all vs h.1 in let whole = node_cells Pair vs in let two : count_of vs ≡ 2 = h.0 in omega (arith, all, whole, two)
cells_fit (Node (Closure place) vs) h le = let all = few_all vs h.1 in let whole = node_cells (Closure place) vs in omega (arith, all, whole)

-- ## Copies

-- why a copy came to no end
pub stopped_over : (n : ℕ) (a b : Arena) (e : Full) → Stopped n (meaning_of a) (meaning_of b) e → Overflows n (meaning_of a)
stopped_over n a b full.Heap h = h.cause
stopped_over n a b full.Trail h = absurd h.cause
stopped_over n a b full.OutOfMemory h = absurd (grows_not h.cause)

pub copied_over : (v : Value) (a b : Arena) (r : Result Ref Full) → MatchResult r (λ made. Copied (meaning_of a) (meaning_of b) v made) (λ e. Stopped (copy_cells v) (meaning_of a) (meaning_of b) e) → MatchResult r (λ made. Copied (meaning_of a) (meaning_of b) v made) (λ _. Overflows (copy_cells v) (meaning_of a))
copied_over v a b (Ok made) h = h
copied_over v a b (Err e) h = stopped_over (copy_cells v) a b e h

-- cells for which there is no room are those of a value that has none
pub too_many : (v : Value) (cells : List Cell) (s : Store) (room : ℕ) (spare : List Ref) → SpareFits s room spare → cells ≡ cells_of v → IsFormed v → 2 ≤ length cells → room - length spare < length cells → Overflows (copy_cells v) s
too_many v cells s room spare fits is formed some over =
    let count = ap length is in
    let all = cells_fit v formed (omega (arith, count, some)) in
    omega (arith, count, all, over, fits.fits, fits.few)
