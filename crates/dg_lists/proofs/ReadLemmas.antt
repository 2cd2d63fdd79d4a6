-- Cells that were written of values are read as copies of them.
use Rattle.std.proofs.Common.{◌≡◌, ℕ, suc, ◌+◌, ◌≤◌, List, [], ◌∷◌, ◌++◌, refl, sym, ap, ◌∙◌, arith, length, take, drop, map, length-append, append_assoc, append-nil}
use Rattle.std.specs.Prelude.{nat_le, ◌&&◌, if◌then◌else◌}
use Rattle.std.proofs.lemmas.Bool.{le-leb}
use Rattle.std.proofs.lemmas.List.{take_at, drop_at, length-map}
use Rattle.dg_base.specs.declared.cells.Cell.{Cell}
use Rattle.dg_base.specs.declared.cells.Cell.TheVariants as cell
use Rattle.dg_meaning.specs.Values.{Label, Num, Word, Unknown, Object, Nil, Pair, Closure, Value, Var, Node, Values, NoMore, More, leaf, node_parts}
use Rattle.dg_meaning.specs.ValueCells.{count_of, label_cells, cells_of, cells_of_all}
use Rattle.dg_meaning.specs.Copies.{values_of, vars_in, vars_in_all, copy_from, copies_from, label_weight, copy_cells, all_copy_cells}
use Rattle.dg_lists.specs.Formed.{IsFormed, AreFormed}
use Rattle.dg_lists.specs.Reading.{letter, word_from, closure_from, pair_from, row_vars, row_weight, values_read}

parts_again : (vs : Values) → node_parts (values_of vs) ≡ vs
parts_again NoMore = refl
parts_again (More v vs) = ap (More v) (parts_again vs)

count_again : (n : ℕ) (vs : Values) → length (values_of (copies_from n vs)) ≡ count_of vs
count_again n NoMore = refl
count_again n (More v vs) = let next : suc (count_of vs) ≡ 1 + count_of vs = omega arith in ap suc (count_again n vs) ∙ next

count_values : (vs : Values) → length (values_of vs) ≡ count_of vs
count_values NoMore = refl
count_values (More v vs) = let next : suc (count_of vs) ≡ 1 + count_of vs = omega arith in ap suc (count_values vs) ∙ next

pub count_same : (n : ℕ) (vs : Values) → length (values_of (copies_from n vs)) ≡ length (values_of vs)
count_same n vs = count_again n vs ∙ sym (count_values vs)

-- ## Letters

letters_again : (spelling : List ℕ) → map letter (map cell.Char spelling) ≡ spelling
letters_again [] = refl
letters_again (c ∷ spelling) = ap (λ l. c ∷ l) (letters_again spelling)

read_letters : (n : ℕ) (spelling : List ℕ) (cells : List Cell) → values_read n (map cell.Char spelling ++ cells) ≡ values_read n cells
read_letters n [] cells = refl
read_letters n (c ∷ spelling) cells = read_letters n spelling cells

vars_letters : (spelling : List ℕ) (cells : List Cell) → row_vars (map cell.Char spelling ++ cells) ≡ row_vars cells
vars_letters [] cells = refl
vars_letters (c ∷ spelling) cells = omega (arith, vars_letters spelling cells)

weight_letters : (spelling : List ℕ) (cells : List Cell) → row_weight (map cell.Char spelling ++ cells) ≡ row_weight cells
weight_letters [] cells = refl
weight_letters (c ∷ spelling) cells = omega (arith, weight_letters spelling cells)

word_again : (spelling : List ℕ) (cells : List Cell) → length spelling ≤ 200 → word_from (length spelling) (map cell.Char spelling ++ cells) ≡ leaf (Unknown spelling)
word_again spelling cells short =
    let row : List Cell = map cell.Char spelling ++ cells in
    let count = length spelling in
    let front : List Cell = map cell.Char spelling in
    let long : length front ≡ count = length-map spelling cell.Char in
    let within : count ≤ length row = omega (arith, long, length-append front cells) in
    ap (λ b. if b && nat_le count (length row) then leaf (Unknown (map letter (take count row))) else leaf Nil) (le-leb count 200 short)
    ∙ ap (λ b. if b then leaf (Unknown (map letter (take count row))) else leaf Nil) (le-leb count (length row) within)
    ∙ ap (λ l. leaf (Unknown (map letter l))) (take_at front cells count long)
    ∙ ap (λ l. leaf (Unknown l)) (letters_again spelling)

-- ## What cells of values take

label_vars : (f : Label) (parts : ℕ) (cells : List Cell) → row_vars (label_cells f parts ++ cells) ≡ row_vars cells
label_vars (Num n) parts cells = omega arith
label_vars (Word n) parts cells = omega arith
label_vars (Unknown spelling) parts cells = omega (arith, vars_letters spelling cells)
label_vars (Object n) parts cells = omega arith
label_vars Nil parts cells = omega arith
label_vars Pair parts cells = omega arith
label_vars (Closure place) parts cells = omega arith

mutual
  pub vars_again : (v : Value) (cells : List Cell) → row_vars (cells_of v ++ cells) ≡ vars_in v + row_vars cells
  vars_again (Var x) cells = refl
  vars_again (Node f vs) cells =
      ap row_vars (append_assoc (label_cells f (count_of vs)) (cells_of_all vs) cells) ∙ label_vars f (count_of vs) (cells_of_all vs ++ cells) ∙ all_vars_again vs cells

  pub all_vars_again : (vs : Values) (cells : List Cell) → row_vars (cells_of_all vs ++ cells) ≡ vars_in_all vs + row_vars cells
  all_vars_again NoMore cells = omega arith
  all_vars_again (More v vs) cells =
      ap row_vars (append_assoc (cells_of v) (cells_of_all vs) cells) ∙ omega (arith, vars_again v (cells_of_all vs ++ cells), all_vars_again vs cells)

label_weighs : (f : Label) (parts : ℕ) (cells : List Cell) → row_weight (label_cells f parts ++ cells) ≡ label_weight f parts + row_weight cells
label_weighs (Num n) parts cells = refl
label_weighs (Word n) parts cells = refl
label_weighs (Unknown spelling) parts cells = omega (arith, weight_letters spelling cells)
label_weighs (Object n) parts cells = refl
label_weighs Nil parts cells = refl
label_weighs Pair parts cells = refl
label_weighs (Closure place) parts cells = refl

mutual
  pub weight_again : (v : Value) (cells : List Cell) → row_weight (cells_of v ++ cells) ≡ copy_cells v + row_weight cells
  weight_again (Var x) cells = refl
  weight_again (Node f vs) cells =
      ap row_weight (append_assoc (label_cells f (count_of vs)) (cells_of_all vs) cells) ∙ omega (arith, label_weighs f (count_of vs) (cells_of_all vs ++ cells), all_weight_again vs cells)

  pub all_weight_again : (vs : Values) (cells : List Cell) → row_weight (cells_of_all vs ++ cells) ≡ all_copy_cells vs + row_weight cells
  all_weight_again NoMore cells = omega arith
  all_weight_again (More v vs) cells =
      ap row_weight (append_assoc (cells_of v) (cells_of_all vs) cells) ∙ omega (arith, weight_again v (cells_of_all vs ++ cells), all_weight_again vs cells)

-- ## What they are read as

closure_again : (place count : ℕ) (vs : Values) (rest : List Value) → length (values_of vs) ≡ count → closure_from place count (values_of vs ++ rest) ∷ drop count (values_of vs ++ rest) ≡ Node (Closure place) vs ∷ rest
closure_again place count vs rest long =
    let all = values_of vs ++ rest in
    let within : count ≤ length all = omega (arith, long, length-append (values_of vs) rest) in
    ap (λ b. (if b then Node (Closure place) (node_parts (take count all)) else leaf Nil) ∷ drop count all) (le-leb count (length all) within)
    ∙ ap (λ l. Node (Closure place) (node_parts l) ∷ drop count all) (take_at (values_of vs) rest count long)
    ∙ ap (λ l. Node (Closure place) (node_parts (values_of vs)) ∷ l) (drop_at (values_of vs) rest count long)
    ∙ ap (λ ps. Node (Closure place) ps ∷ rest) (parts_again vs)

mutual
  pub read_value : (n : ℕ) (v : Value) (cells : List Cell) → IsFormed v → values_read n (cells_of v ++ cells) ≡ copy_from (n + row_vars cells) v ∷ values_read n cells
  read_value n (Var x) cells formed = refl
  read_value n (Node (Num k) NoMore) cells formed = refl
  read_value n (Node (Num k) (More v vs)) cells formed = absurd (cc formed.0)
  read_value n (Node (Word k) NoMore) cells formed = refl
  read_value n (Node (Word k) (More v vs)) cells formed = absurd (cc formed.0)
  read_value n (Node (Object k) NoMore) cells formed = refl
  read_value n (Node (Object k) (More v vs)) cells formed = absurd (cc formed.0)
  read_value n (Node Nil NoMore) cells formed = refl
  read_value n (Node Nil (More v vs)) cells formed = absurd (cc formed.0)
  read_value n (Node (Unknown spelling) NoMore) cells formed =
      ap (λ row. word_from (length spelling) (row ++ cells) ∷ values_read n (row ++ cells)) (append-nil (map cell.Char spelling))
      ∙ ap (λ v. v ∷ values_read n (map cell.Char spelling ++ cells)) (word_again spelling cells formed.0.1)
      ∙ ap (λ l. leaf (Unknown spelling) ∷ l) (read_letters n spelling cells)
  read_value n (Node (Unknown spelling) (More v vs)) cells formed = absurd (cc formed.0.0)
  read_value n (Node Pair NoMore) cells formed = absurd (omega (arith, formed.0))
  read_value n (Node Pair (More h NoMore)) cells formed = absurd (omega (arith, formed.0))
  read_value n (Node Pair (More h (More t NoMore))) cells formed = ap (λ l. pair_from l ∷ drop 2 l) (read_values n (More h (More t NoMore)) cells formed.1)
  read_value n (Node Pair (More h (More t (More u us)))) cells formed = absurd (omega (arith, formed.0))
  read_value n (Node (Closure place) vs) cells formed =
      ap (λ l. closure_from place (count_of vs) l ∷ drop (count_of vs) l) (read_values n vs cells formed.1)
      ∙ closure_again place (count_of vs) (copies_from (n + row_vars cells) vs) (values_read n cells) (count_again (n + row_vars cells) vs)

  pub read_values : (n : ℕ) (vs : Values) (cells : List Cell) → AreFormed vs → values_read n (cells_of_all vs ++ cells) ≡ values_of (copies_from (n + row_vars cells) vs) ++ values_read n cells
  read_values n NoMore cells formed = refl
  read_values n (More v vs) cells formed =
      let count : n + row_vars (cells_of_all vs ++ cells) ≡ n + row_vars cells + vars_in_all vs = omega (arith, all_vars_again vs cells) in
      ap (values_read n) (append_assoc (cells_of v) (cells_of_all vs) cells)
      ∙ read_value n v (cells_of_all vs ++ cells) formed.0
      ∙ ap (λ k. copy_from k v ∷ values_read n (cells_of_all vs ++ cells)) count
      ∙ ap (λ l. copy_from (n + row_vars cells + vars_in_all vs) v ∷ l) (read_values n vs cells formed.1)
