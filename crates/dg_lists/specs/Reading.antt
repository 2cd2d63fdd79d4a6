-- What a row of cells is read as, from its end on. Hold it against dg_meaning/specs/ValueCells.antt.
use Rattle.std.specs.Prelude.{◌≡◌, ℕ, ◌+◌, ◌*◌, ◌<◌, ◌≤◌, List, [], ◌∷◌, Some, nat_le, ◌&&◌, if◌then◌else◌, IsTrue, map, take, drop, length}
use Rattle.std.specs.List.{All}
use Rattle.dg_base.specs.declared.cells.Cell.{Cell}
use Rattle.dg_base.specs.declared.cells.Cell.TheVariants as cell
use Rattle.dg_meaning.specs.Values.{Num, Word, Unknown, Object, Nil, Closure, Value, Var, Node, Values, leaf, pair, node_parts}
use Rattle.dg_meaning.specs.Copies.{copy_from, vars_in, copy_cells, values_of, copies_from, vars_in_all, all_copy_cells, list_of}
use Rattle.dg_unify.specs.Store.{Store, told, Holds, Kept}
use Rattle.dg_unify.specs.declared.bindings.Ref.{Ref}
use Rattle.dg_unify.specs.declared.bindings.Full.{Full}
use Rattle.dg_unify.specs.declared.bindings.Full.TheVariants as full

-- ## What is made of a cell

-- The letter of a cell.
abbrev pub letter : Cell → ℕ
letter (cell.Char c) = c
letter other = 0

-- An unknown word of the letters of so many cells; the empty list where there are fewer, or it would be too long.
abbrev pub word_from : ℕ → List Cell → Value
word_from count behind = if nat_le count 200 && nat_le count (length behind) then leaf (Unknown (map letter (take count behind))) else leaf Nil

-- A closure that captures so many of the values behind it.
abbrev pub closure_from : ℕ → ℕ → List Value → Value
closure_from place count vs = if nat_le count (length vs) then Node (Closure place) (node_parts (take count vs)) else leaf Nil

-- A pair of the two values behind it.
abbrev pub pair_from : List Value → Value
pair_from [] = leaf Nil
pair_from (v ∷ []) = leaf Nil
pair_from (v ∷ u ∷ vs) = pair v u

-- The value of a cell, made from the cells and the values behind it; a new variable is n.
abbrev pub value_from : ℕ → Cell → List Cell → List Value → Value
value_from n (cell.Num k) behind vs = leaf (Num k)
value_from n (cell.Word k) behind vs = leaf (Word k)
value_from n (cell.Object k) behind vs = leaf (Object k)
value_from n cell.Nil behind vs = leaf Nil
value_from n cell.Pair behind vs = pair_from vs
value_from n (cell.Closure place count) behind vs = closure_from place count vs
value_from n (cell.Unknown count) behind vs = word_from count behind
value_from n (cell.Char c) behind vs = leaf Nil
value_from n cell.Fresh behind vs = Var n

-- How many of the values behind a cell it takes as its parts.
abbrev pub parts_taken : Cell → ℕ
parts_taken cell.Pair = 2
parts_taken (cell.Closure place count) = count
parts_taken other = 0

-- How many variables a cell makes.
abbrev pub cell_vars : Cell → ℕ
cell_vars cell.Fresh = 1
cell_vars other = 0

-- What a cell takes of the heap.
abbrev pub cell_weight : Cell → ℕ
cell_weight cell.Pair = 3
cell_weight (cell.Closure place count) = 3 + count
cell_weight (cell.Unknown count) = 3 + 3 * count
cell_weight cell.Fresh = 1
cell_weight other = 0

-- ## What is made of a row

-- The variables that cells make.
abbrev pub row_vars : List Cell → ℕ
row_vars [] = 0
row_vars (c ∷ cells) = cell_vars c + row_vars cells

-- What they take of the heap.
abbrev pub row_weight : List Cell → ℕ
row_weight [] = 0
row_weight (c ∷ cells) = cell_weight c + row_weight cells

-- A value in front of those that it leaves of others; a letter is no value of its own.
abbrev pub in_front : Cell → Value → List Value → List Value
in_front (cell.Char c) v vs = vs
in_front other v vs = v ∷ drop (parts_taken other) vs

-- The values of a row, where new variables are numbered from n on, the last first.
abbrev pub values_read : ℕ → List Cell → List Value
values_read n [] = []
values_read n (c ∷ cells) = in_front c (value_from (n + row_vars cells) c cells (values_read n cells)) (values_read n cells)

-- ## What is made in a store

-- So many variables were made, and so much of the heap was taken.
pub record Grew (vars cells : ℕ) (old new : Store) : Type 0 where
  pub fits : old.state.heap + cells ≤ old.heap_limit
  pub state : new.state ≡ record old.state { vars = old.state.vars + vars; heap = old.state.heap + cells }

-- Why so much of the heap couldn't be taken, in one lump or several: it would pass the limit; or memory is wanted, by a store that grows.
abbrev pub Lacks : ℕ → Store → Full → Type 0
Lacks n s full.Heap = s.heap_limit < s.state.heap + n
Lacks n s full.Trail = ⊥
Lacks n s full.OutOfMemory = IsTrue s.grows

-- What was to take so much of the heap came to no end, and has bound nothing.
pub record Stopped (n : ℕ) (old new : Store) (e : Full) : Type 0 where
  pub cause : Lacks n old e
  pub subst : new.state.subst ≡ old.state.subst
  pub since : new.state.since ≡ old.state.since
  pub trail : new.state.trail ≡ old.state.trail

-- A value was made of a cell, from the values of Refs behind it.
pub record MadeFrom (c : Cell) (behind : List Cell) (stack : List Ref) (old new : Store) (r : Ref) : Type 0 where
  pub grew : Grew (cell_vars c) (cell_weight c) old new
  pub value : new.value r ≡ Some (value_from old.state.vars c behind (map (told old) stack))

-- A row was read into Refs of its values.
pub record HasRead (old new : Store) (cells : List Cell) (refs : List Ref) : Type 0 where
  pub kept : Kept old new
  pub grew : Grew (row_vars cells) (row_weight cells) old new
  pub holds : All (Holds new) refs
  pub values : map (told new) refs ≡ values_read old.state.vars cells
  pub few : length refs ≤ length cells

-- The list of the values of Refs was made.
pub record ListMade (old new : Store) (elements : List Ref) (r : Ref) : Type 0 where
  pub kept : Kept old new
  pub grew : Grew 0 (3 * length elements) old new
  pub value : new.value r ≡ Some (list_of (map (told old) elements))

-- A copy of a value was made.
pub record Copied (old new : Store) (v : Value) (r : Ref) : Type 0 where
  pub grew : Grew (vars_in v) (copy_cells v) old new
  pub value : new.value r ≡ Some (copy_from old.state.vars v)

-- A list of copies of values was made; each of its pairs takes 3.
pub record ListCopied (old new : Store) (vs : Values) (r : Ref) : Type 0 where
  pub grew : Grew (vars_in_all vs) (all_copy_cells vs + 3 * length (values_of vs)) old new
  pub value : new.value r ≡ Some (list_of (values_of (copies_from old.state.vars vs)))
