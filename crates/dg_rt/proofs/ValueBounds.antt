-- How values, the cells of their copies and their rows of words are as large as one another.
use Rattle.std.proofs.Common.{◌≡◌, ℕ, suc, ◌+◌, ◌*◌, ◌≤◌, List, [], ◌∷◌, length, map, refl, ap, ◌∙◌, arith, length-append}
use Rattle.std.specs.List.{sum_by}
use Rattle.std.proofs.lemmas.List.{append-nil, map-append}
use Rattle.std.proofs.lemmas.List.Sums.{sum_by-cons}
use Rattle.dg_base.specs.declared.cells.Cell.TheVariants as cell
use Rattle.dg_meaning.specs.Values.{Num, Word, Unknown, Object, Nil, Pair, Closure, Value, Var, Node, Values, NoMore, More, leaf}
use Rattle.dg_meaning.specs.ValueCells.{count_of, cells_of, cells_of_all}
use Rattle.dg_meaning.specs.Copies.{list_of, copy_cells, all_copy_cells}
use Rattle.dg_meaning.specs.Unify.{size, sizes}
use Rattle.dg_rt.specs.Laying.{Formed, AllFormed}
use Rattle.dg_rt.specs.Copies.{cell_word, words_of}
use Rattle.dg_rt.specs.Gatherings.{rows_of, AreFormed}
use Rattle.dg_rt.proofs.CopySteps.{chars_are}

abbrev rows : Values → List ℕ
rows vs = map cell_word (cells_of_all vs)

rows_more : (v : Value) (vs : Values) → length (rows (More v vs)) ≡ length (words_of v) + length (rows vs)
rows_more v vs = ap (λ (l : List ℕ). length l) (map-append cell_word (cells_of v) (cells_of_all vs)) ∙ length-append (words_of v) (rows vs)

word_size : (xs : List ℕ) → length (words_of (leaf (Unknown xs))) ≡ 1 + length xs
word_size xs = let e = ap (λ (l : List ℕ). length l) (ap (map cell_word) (append-nil (map cell.Char xs)) ∙ chars_are xs) in ap suc e ∙ (omega arith)

-- each value is a node at least
pub some_size : (v : Value) → 1 ≤ size v
some_size (Var x) = omega arith
some_size (Node f vs) = omega arith

mutual
  -- A value has no more nodes than words.
  pub size_words : (captures : ℕ → ℕ) (v : Value) → Formed captures v → size v ≤ length (words_of v)
  size_words captures (Var x) fine = omega arith
  size_words captures (Node (Num n) NoMore) fine = omega arith
  size_words captures (Node (Word n) NoMore) fine = omega arith
  size_words captures (Node (Object n) NoMore) fine = omega arith
  size_words captures (Node Nil NoMore) fine = omega arith
  size_words captures (Node (Unknown xs) NoMore) fine = let w = word_size xs in omega arith
  size_words captures (Node Pair vs) fine = let s = sizes_words captures vs fine.1 in omega arith
  size_words captures (Node (Closure place) vs) fine = let s = sizes_words captures vs fine.1 in omega arith
  size_words captures (Node f vs) fine = absurd fine.0

  sizes_words : (captures : ℕ → ℕ) (vs : Values) → AllFormed captures vs → sizes vs ≤ length (rows vs)
  sizes_words captures NoMore fine = omega arith
  sizes_words captures (More v vs) fine =
      let a = size_words captures v fine.0 in
      let b = sizes_words captures vs fine.1 in
      let n = rows_more v vs in
      omega arith

mutual
  -- A copy takes less than four cells a word.
  copy_words : (captures : ℕ → ℕ) (v : Value) → Formed captures v → copy_cells v + 1 ≤ 4 * length (words_of v)
  copy_words captures (Var x) fine = omega arith
  copy_words captures (Node (Num n) NoMore) fine = omega arith
  copy_words captures (Node (Word n) NoMore) fine = omega arith
  copy_words captures (Node (Object n) NoMore) fine = omega arith
  copy_words captures (Node Nil NoMore) fine = omega arith
  copy_words captures (Node (Unknown xs) NoMore) fine = let w = word_size xs in omega arith
  copy_words captures (Node Pair (More h (More t NoMore))) fine = let s = copies_words captures (More h (More t NoMore)) fine.1 in omega arith
  copy_words captures (Node (Closure place) vs) fine = let s = copies_words captures vs fine.1 in omega arith
  copy_words captures (Node f vs) fine = absurd fine.0

  copies_words : (captures : ℕ → ℕ) (vs : Values) → AllFormed captures vs → all_copy_cells vs + count_of vs ≤ 4 * length (rows vs)
  copies_words captures NoMore fine = omega arith
  copies_words captures (More v vs) fine =
      let a = copy_words captures v fine.0 in
      let b = copies_words captures vs fine.1 in
      let n = rows_more v vs in
      omega arith

-- The list of values takes a pair for each.
pub list_cells : (vs : List Value) → copy_cells (list_of vs) ≡ 3 * length vs + sum_by copy_cells vs
list_cells [] = refl
list_cells (v ∷ vs) = let k = list_cells vs in let a = sum_by-cons copy_cells v vs in omega arith

pub copies_few : (captures : ℕ → ℕ) (vs : List Value) → AreFormed captures vs → sum_by copy_cells vs + length vs ≤ 4 * length (rows_of vs)
copies_few captures [] fine = omega arith
copies_few captures (v ∷ vs) fine =
    let a = copy_words captures v fine.0 in
    let b = copies_few captures vs fine.1 in
    let c = sum_by-cons copy_cells v vs in
    let n = length-append (words_of v) (rows_of vs) in
    omega arith

pub as_many : (captures : ℕ → ℕ) (vs : List Value) → AreFormed captures vs → length vs ≤ length (rows_of vs)
as_many captures [] fine = omega arith
as_many captures (v ∷ vs) fine =
    let a = size_words captures v fine.0 in
    let some = some_size v in
    let b = as_many captures vs fine.1 in
    let n = length-append (words_of v) (rows_of vs) in
    omega arith
