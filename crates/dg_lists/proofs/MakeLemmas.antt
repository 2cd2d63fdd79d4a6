-- What becomes of a store and its stack when a cell is read.
use Rattle.std.proofs.Common.{◌++◌, ◌-◌, append-nil, ◌≡◌, ℕ, zero, suc, ◌+◌, ◌*◌, ◌<◌, ◌≤◌, List, [], ◌∷◌, refl, sym, ap, ◌∙◌, subst, arith, length, take, drop, map, Some, Result, Ok, Err, length-drop}
use Rattle.std.specs.Prelude.{MatchResult, IfOk, if◌then◌else◌}
use Rattle.std.specs.List.{All}
use Rattle.std.proofs.lemmas.Bool.{le-leb}
use Rattle.std.proofs.lemmas.List.{take-map, drop-map, length-map, length-take-le}
use Rattle.std.proofs.lemmas.List.Elements.{All-cons, All-drop, All-head, All-tail}
use Rattle.dg_base.specs.declared.cells.Cell.{Cell}
use Rattle.dg_base.specs.declared.cells.Cell.TheVariants as cell
use Rattle.dg_meaning.specs.Values.{Closure, Nil, Value, Values, Node, leaf, pair, node_parts}
use Rattle.dg_meaning.specs.ValueCells.{cells_of, cells_of_all}
use Rattle.dg_meaning.specs.Copies.{list_of, values_of, vars_in, vars_in_all, copy_from, copies_from, copy_cells, all_copy_cells}
use Rattle.dg_lists.specs.Formed.{IsFormed, AreFormed}
use Rattle.dg_unify.specs.Store.{State, Store, told, told_parts, Holds, Kept, Charged, Made, HeapFull}
use Rattle.dg_unify.specs.declared.bindings.Ref.{Ref}
use Rattle.dg_unify.specs.declared.bindings.Full.{Full}
use Rattle.dg_unify.specs.declared.bindings.Full.TheVariants as full
use Rattle.dg_unify.proofs.StoreLemmas.{kept_on, kept_holds, kept_told, holds_some, holds_told, told_is}
use Rattle.dg_lists.specs.Reading.{closure_from, value_from, parts_taken, cell_vars, cell_weight, row_vars, row_weight, in_front, values_read, Grew, Stopped, MadeFrom, HasRead, Copied, ListMade, ListCopied}
use Rattle.dg_lists.proofs.ReadLemmas.{count_same, vars_again, all_vars_again, weight_again, all_weight_again, read_value, read_values}

-- ## Captured values

closure_is : (place count : ℕ) (vs : List Value) → count ≤ length vs → closure_from place count vs ≡ Node (Closure place) (node_parts (take count vs))
closure_is place count vs le = ap (λ b. if b then Node (Closure place) (node_parts (take count vs)) else leaf Nil) (le-leb count (length vs) le)

pub closure_made : (s t : Store) (place count : ℕ) (stack captured : List Ref) (made : Result Ref Full) → captured ≡ take count stack → count ≤ length stack → MatchResult made (λ r. Made (3 + length captured) s t r (Node (Closure place) (told_parts s captured))) (λ e. HeapFull (3 + length captured) s t e) → MatchResult made (λ r. Made (3 + count) s t r (closure_from place count (map (told s) stack))) (λ e. HeapFull (3 + count) s t e)
closure_made s t place count stack captured made is le h =
    let long : length captured ≡ count = ap length is ∙ length-take-le count stack le in
    let value : Node (Closure place) (told_parts s captured) ≡ closure_from place count (map (told s) stack) =
    ap (λ l. Node (Closure place) (node_parts (map (told s) l))) is ∙ ap (λ l. Node (Closure place) (node_parts l)) (sym (take-map (told s) count stack)) ∙ sym (closure_is place count (map (told s) stack) (omega (arith, le, length-map stack (told s)))) in
    let one = subst (λ v. MatchResult made (λ r. Made (3 + length captured) s t r v) (λ e. HeapFull (3 + length captured) s t e)) value h in
    subst (λ n. MatchResult made (λ r. Made (3 + n) s t r (closure_from place count (map (told s) stack))) (λ e. HeapFull (3 + n) s t e)) long one

-- ## What was made before

pub all_kept : (s t : Store) (rs : List Ref) → Kept s t → All (Holds s) rs → All (Holds t) rs
all_kept s t rs k h = λ i d lt. kept_holds s t (Rattle.std.specs.List.slice_index_or rs i d) k (h i d lt)

pub map_kept : (s t : Store) (rs : List Ref) → Kept s t → All (Holds s) rs → map (told t) rs ≡ map (told s) rs
map_kept s t [] k h = refl
map_kept s t (r ∷ rs) k h =
    ap (λ v. v ∷ map (told t) rs) (kept_told s t r k (All-head (Holds s) r rs h)) ∙ ap (λ l. told s r ∷ l) (map_kept s t rs k (All-tail (Holds s) r rs h))

-- ## Counts

with_more : (m n k l : ℕ) (s : State) → record s { vars = s.vars + m + k; heap = s.heap + n + l } ≡ record s { vars = s.vars + (k + m); heap = s.heap + (l + n) }
with_more m n k l s =
    let a : s.vars + m + k ≡ s.vars + (k + m) = omega arith in
    let b : s.heap + n + l ≡ s.heap + (l + n) = omega arith in
    ap (λ x. record s { vars = x; heap = s.heap + n + l }) a ∙ ap (λ x. record s { vars = s.vars + (k + m); heap = x }) b

pub grown : (m n k l : ℕ) (s t u : Store) → Kept s t → Grew m n s t → Grew k l t u → Grew (k + m) (l + n) s u
grown m n k l s t u kept g h = record {
  fits = omega (arith, h.fits, ap (λ (x : State). x.heap) g.state, kept.heap_limit);
  state = h.state ∙ ap (λ (x : State). record x { vars = x.vars + k; heap = x.heap + l }) g.state ∙ with_more m n k l s.state;
}

-- a store that has grown, and then lacks room
pub stopped : (m n l : ℕ) (s t u : Store) (e : Full) → Kept s t → Grew m n s t → HeapFull l t u e → Stopped (l + n) s u e
stopped m n l s t u full.Heap kept g h = record {
  cause = omega (arith, h.0, ap (λ (x : State). x.heap) g.state, kept.heap_limit);
  subst = ap (λ (x : State). x.subst) (h.1 ∙ g.state);
  since = ap (λ (x : State). x.since) (h.1 ∙ g.state);
  trail = ap (λ (x : State). x.trail) (h.1 ∙ g.state);
}
stopped m n l s t u full.Trail kept g h = absurd h
stopped m n l s t u full.OutOfMemory kept g h = record {
  cause = subst (λ b. Rattle.std.specs.Bool.IsTrue b) kept.grows h.0;
  subst = ap (λ (x : State). x.subst) (h.2 ∙ g.state);
  since = ap (λ (x : State). x.since) (h.2 ∙ g.state);
  trail = ap (λ (x : State). x.trail) (h.2 ∙ g.state);
}

-- the same, where it stopped on the way
pub stopped_on : (m n l : ℕ) (s t u : Store) (e : Full) → Kept s t → Grew m n s t → Stopped l t u e → Stopped (l + n) s u e
stopped_on m n l s t u full.Heap kept g h = record {
  cause = omega (arith, h.cause, ap (λ (x : State). x.heap) g.state, kept.heap_limit);
  subst = h.subst ∙ ap (λ (x : State). x.subst) g.state;
  since = h.since ∙ ap (λ (x : State). x.since) g.state;
  trail = h.trail ∙ ap (λ (x : State). x.trail) g.state;
}
stopped_on m n l s t u full.Trail kept g h = absurd h.cause
stopped_on m n l s t u full.OutOfMemory kept g h = record {
  cause = subst (λ b. Rattle.std.specs.Bool.IsTrue b) kept.grows h.cause;
  subst = h.subst ∙ ap (λ (x : State). x.subst) g.state;
  since = h.since ∙ ap (λ (x : State). x.since) g.state;
  trail = h.trail ∙ ap (λ (x : State). x.trail) g.state;
}

pub stopped_more : (m n : ℕ) (s t : Store) (e : Full) → m ≤ n → Stopped m s t e → Stopped n s t e
stopped_more m n s t full.Heap le h = record { cause = omega (arith, le, h.cause); subst = h.subst; since = h.since; trail = h.trail }
stopped_more m n s t full.Trail le h = absurd h.cause
stopped_more m n s t full.OutOfMemory le h = record { cause = h.cause; subst = h.subst; since = h.since; trail = h.trail }

-- ## A cell more

-- it isn't a letter
abbrev pub IsNoLetter : Cell → Type 0
IsNoLetter (cell.Char c) = ⊥
IsNoLetter other = Unit {0}

pub no_letter : (c : Cell) → ((n : ℕ) → c ≡ cell.Char n → ⊥) → IsNoLetter c
no_letter (cell.Char n) h = h n refl
no_letter (cell.Num n) h = tt
no_letter (cell.Word n) h = tt
no_letter (cell.Object n) h = tt
no_letter cell.Nil h = tt
no_letter cell.Pair h = tt
no_letter (cell.Closure place count) h = tt
no_letter (cell.Unknown count) h = tt
no_letter cell.Fresh h = tt

front_is : (c : Cell) (v : Value) (vs : List Value) → IsNoLetter c → in_front c v vs ≡ v ∷ drop (parts_taken c) vs
front_is (cell.Num n) v vs h = refl
front_is (cell.Word n) v vs h = refl
front_is (cell.Object n) v vs h = refl
front_is cell.Nil v vs h = refl
front_is cell.Pair v vs h = refl
front_is (cell.Closure place count) v vs h = refl
front_is (cell.Unknown count) v vs h = refl
front_is (cell.Char c) v vs h = absurd h
front_is cell.Fresh v vs h = refl

pub read_on : (c : Cell) (behind : List Cell) (refs : List Ref) (start mid new : Store) (r : Ref) → IsNoLetter c → HasRead start mid behind refs → Kept mid new → MadeFrom c behind refs mid new r → HasRead start new (c ∷ behind) (r ∷ drop (parts_taken c) refs)
read_on c behind refs start mid new r plain read kept made =
    let n = start.state.vars in
    let vars : mid.state.vars ≡ n + row_vars behind = ap (λ (x : State). x.vars) read.grew.state in
    let rest = drop (parts_taken c) refs in
    let first : told new r ≡ value_from (n + row_vars behind) c behind (values_read n behind) =
    told_is new r (value_from mid.state.vars c behind (map (told mid) refs)) made.value ∙ ap (λ k. value_from k c behind (map (told mid) refs)) vars ∙ ap (value_from (n + row_vars behind) c behind) read.values in
    let others : map (told new) rest ≡ drop (parts_taken c) (values_read n behind) =
    map_kept mid new rest kept (All-drop (Holds mid) (parts_taken c) refs read.holds) ∙ sym (drop-map (told mid) (parts_taken c) refs) ∙ ap (drop (parts_taken c)) read.values in
    record {
      kept = kept_on start mid new read.kept kept;
      grew = grown (row_vars behind) (row_weight behind) (cell_vars c) (cell_weight c) start mid new read.kept read.grew made.grew;
      holds = All-cons (Holds new) r rest (holds_some new r (value_from mid.state.vars c behind (map (told mid) refs)) made.value) (all_kept mid new rest kept (All-drop (Holds mid) (parts_taken c) refs read.holds));
      values = ap (λ v. v ∷ map (told new) rest) first ∙ ap (λ l. value_from (n + row_vars behind) c behind (values_read n behind) ∷ l) others ∙ sym (front_is c (value_from (n + row_vars behind) c behind (values_read n behind)) (values_read n behind) plain);
      few = omega (arith, read.few, length-drop (parts_taken c) refs);
    }

-- a letter more
pub letter_on : (c : ℕ) (behind : List Cell) (refs : List Ref) (start now : Store) → HasRead start now behind refs → HasRead start now (cell.Char c ∷ behind) refs
letter_on c behind refs start now read = record {
  kept = read.kept;
  grew = subst (λ k. Grew k (0 + row_weight behind) start now) (omega arith) (subst (λ k. Grew (row_vars behind) k start now) (omega arith) read.grew);
  holds = read.holds;
  values = read.values;
  few = omega (arith, read.few);
}

pub weight_within : (n : ℕ) (cells : List Cell) → row_weight (drop n cells) ≤ row_weight cells
weight_within zero cells = omega arith
weight_within (suc n) [] = omega arith
weight_within (suc n) (c ∷ cells) = omega (arith, weight_within n cells)

pub made_grew : (n : ℕ) (s t : Store) → Charged n s t → Grew 0 n s t
made_grew n s t h =
    let none : s.state.vars ≡ s.state.vars + 0 = omega arith in
    record { fits = h.fits; state = h.state ∙ ap (λ k. record s.state { vars = k; heap = s.state.heap + n }) none }

-- ## Lists

pub list_on : (e : Ref) (es : List Ref) (s t u : Store) (list r : Ref) → Holds s e → ListMade s t es list → Kept t u → Made 3 t u r (pair (told t e) (told t list)) → ListMade s u (e ∷ es) r
list_on e es s t u list r hold made kept new =
    let more : 3 + 3 * length es ≡ 3 * length (e ∷ es) = omega arith in
    let rest : told t list ≡ list_of (map (told s) es) = told_is t list (list_of (map (told s) es)) made.value in
    record {
      kept = kept_on s t u made.kept kept;
      grew = subst (λ k. Grew 0 k s u) more (grown 0 (3 * length es) 0 3 s t u made.kept made.grew (made_grew 3 t u new.charged));
      value = new.value ∙ ap (λ v. Some (pair v (told t list))) (kept_told s t e made.kept hold) ∙ ap (λ v. Some (pair (told s e) v)) rest;
    }

pub no_list : (s t : Store) (r : Ref) → s.state.heap ≤ s.heap_limit → Kept s t → t.state ≡ s.state → t.value r ≡ Some (leaf Nil) → ListMade s t [] r
no_list s t r within kept same value =
    let vars : s.state.vars ≡ s.state.vars + 0 = omega arith in
    let heap : s.state.heap ≡ s.state.heap + 3 * 0 = omega arith in
    record {
      kept = kept;
      grew = record { fits = omega (arith, within); state = same ∙ ap (λ k. record s.state { vars = k }) vars ∙ ap (λ k. record s.state { vars = s.state.vars + 0; heap = k }) heap };
      value = value;
    }

-- ## Whole values

-- what was read of the cells of one value
pub record ReadOne (old new : Store) (v : Value) (refs : List Ref) : Type 0 where
  pub r : Ref
  pub is : refs ≡ r ∷ []
  pub copied : Copied old new v r

one_of : (s : Store) (v : Value) (refs : List Ref) → map (told s) refs ≡ v ∷ [] → (r : Ref) × (refs ≡ r ∷ [])
one_of s v [] e = absurd (cc e)
one_of s v (r ∷ []) e = (r, refl)
one_of s v (r ∷ q ∷ rs) e = absurd (let k : length (map (told s) (r ∷ q ∷ rs)) ≡ 1 = ap length e in omega (arith, k))

first_or : Value → List Value → Value
first_or d [] = d
first_or d (v ∷ vs) = v

pub read_one : (old new : Store) (v : Value) (cells : List Cell) (refs : List Ref) → cells ≡ cells_of v → IsFormed v → HasRead old new cells refs → ReadOne old new v refs
unfolding first_or
read_one old new v cells refs is formed read =
    let whole : cells ≡ cells_of v ++ [] = is ∙ sym (append-nil (cells_of v)) in
    let n = old.state.vars in
    let none : n + 0 ≡ n = omega arith in
    let values : map (told new) refs ≡ copy_from n v ∷ [] = read.values ∙ ap (values_read n) whole ∙ read_value n v [] formed ∙ ap (λ k. copy_from k v ∷ []) none in
    let one = one_of new (copy_from n v) refs values in
    let hold : Holds new one.0 = All-head (Holds new) one.0 [] (subst (All (Holds new)) one.1 read.holds) in
    let value : told new one.0 ≡ copy_from n v = ap (first_or (leaf Nil)) (ap (map (told new)) (sym one.1) ∙ values) in
    let vars : row_vars cells ≡ vars_in v = ap row_vars whole ∙ omega (arith, vars_again v []) in
    let weight : row_weight cells ≡ copy_cells v = ap row_weight whole ∙ omega (arith, weight_again v []) in
    record {
      r = one.0;
      is = one.1;
      copied = record {
        grew = subst (λ k. Grew (vars_in v) k old new) weight (subst (λ k. Grew k (row_weight cells) old new) vars read.grew);
        value = holds_told new one.0 hold ∙ ap Some value;
      };
    }

pub weight_of_one : (v : Value) (cells : List Cell) → cells ≡ cells_of v → row_weight cells ≡ copy_cells v
weight_of_one v cells is = ap row_weight (is ∙ sym (append-nil (cells_of v))) ∙ omega (arith, weight_again v [])

pub weight_of_all : (vs : Values) (cells : List Cell) → cells ≡ cells_of_all vs → row_weight cells ≡ all_copy_cells vs
weight_of_all vs cells is = ap row_weight (is ∙ sym (append-nil (cells_of_all vs))) ∙ omega (arith, all_weight_again vs [])

-- what was read of the cells of several
pub record ReadAll (old new : Store) (vs : Values) (cells : List Cell) (refs : List Ref) : Type 0 where
  pub vars : row_vars cells ≡ vars_in_all vs
  pub weight : row_weight cells ≡ all_copy_cells vs
  pub values : map (told new) refs ≡ values_of (copies_from old.state.vars vs)
  pub count : length refs ≡ length (values_of vs)

pub read_all : (old new : Store) (vs : Values) (cells : List Cell) (refs : List Ref) → cells ≡ cells_of_all vs → AreFormed vs → HasRead old new cells refs → ReadAll old new vs cells refs
read_all old new vs cells refs is formed read =
    let whole : cells ≡ cells_of_all vs ++ [] = is ∙ sym (append-nil (cells_of_all vs)) in
    let n = old.state.vars in
    let none : n + 0 ≡ n = omega arith in
    let values : map (told new) refs ≡ values_of (copies_from n vs) =
    read.values ∙ ap (values_read n) whole ∙ read_values n vs [] formed ∙ append-nil (values_of (copies_from (n + 0) vs)) ∙ ap (λ k. values_of (copies_from k vs)) none in
    record {
      vars = ap row_vars whole ∙ omega (arith, all_vars_again vs []);
      weight = weight_of_all vs cells is;
      values = values;
      count = sym (length-map refs (told new)) ∙ ap length values ∙ count_same n vs;
    }

-- a list of what was read
pub list_copied : (old mid new : Store) (vs : Values) (cells : List Cell) (refs : List Ref) (r : Ref) → cells ≡ cells_of_all vs → AreFormed vs → HasRead old mid cells refs → ListMade mid new refs r → ListCopied old new vs r
list_copied old mid new vs cells refs r is formed read made =
    let all = read_all old mid vs cells refs is formed read in
    let a : 0 + row_vars cells ≡ vars_in_all vs = omega (arith, all.vars) in
    let b : 3 * length refs + row_weight cells ≡ all_copy_cells vs + 3 * length (values_of vs) = omega (arith, all.weight, all.count) in
    record {
      grew = subst (λ k. Grew (vars_in_all vs) k old new) b (subst (λ k. Grew k (3 * length refs + row_weight cells) old new) a (grown (row_vars cells) (row_weight cells) 0 (3 * length refs) old mid new read.kept read.grew made.grew));
      value = made.value ∙ ap (λ l. Some (list_of l)) all.values;
    }

-- no list of it
pub list_stopped : (old mid new : Store) (vs : Values) (cells : List Cell) (refs : List Ref) (e : Full) → cells ≡ cells_of_all vs → AreFormed vs → HasRead old mid cells refs → Stopped (3 * length refs) mid new e → Stopped (all_copy_cells vs + 3 * length (values_of vs)) old new e
list_stopped old mid new vs cells refs e is formed read h =
    let all = read_all old mid vs cells refs is formed read in
    let b : 3 * length refs + row_weight cells ≡ all_copy_cells vs + 3 * length (values_of vs) = omega (arith, all.weight, all.count) in
    subst (λ k. Stopped k old new e) b (stopped_on (row_vars cells) (row_weight cells) (3 * length refs) old mid new e read.kept read.grew h)

list_came : (old mid new : Store) (vs : Values) (cells : List Cell) (refs : List Ref) (made : Result Ref Full) → cells ≡ cells_of_all vs → AreFormed vs → HasRead old mid cells refs → MatchResult made (λ r. ListMade mid new refs r) (λ e. Stopped (3 * length refs) mid new e) → MatchResult made (λ r. ListCopied old new vs r) (λ e. Stopped (all_copy_cells vs + 3 * length (values_of vs)) old new e)
list_came old mid new vs cells refs (Ok r) is formed read h = list_copied old mid new vs cells refs r is formed read h
list_came old mid new vs cells refs (Err e) is formed read h = list_stopped old mid new vs cells refs e is formed read h

-- what came of making a list of what was read
pub list_result : (old mid new : Store) (vs : Values) (cells : List Cell) (refs part : List Ref) (made : Result Ref Full) → part ≡ refs → cells ≡ cells_of_all vs → AreFormed vs → HasRead old mid cells refs → MatchResult made (λ r. ListMade mid new part r) (λ e. Stopped (3 * length part) mid new e) → MatchResult made (λ r. ListCopied old new vs r) (λ e. Stopped (all_copy_cells vs + 3 * length (values_of vs)) old new e)
list_result old mid new vs cells refs part made e is formed read h =
    list_came old mid new vs cells refs made is formed read (subst (λ l. MatchResult made (λ r. ListMade mid new l r) (λ e. Stopped (3 * length l) mid new e)) e h)

pub element_holds : (s : Store) (n : ℕ) (es rest : List Ref) (r : Ref) → All (Holds s) es → drop n es ≡ r ∷ rest → Holds s r
element_holds s n es rest r h is = All-head (Holds s) r rest (subst (All (Holds s)) is (All-drop (Holds s) n es h))

-- the row before what was read, and behind
pub back_one : {A : Type 0} (n : ℕ) (xs : List A) → 0 < n → drop (n - 1 + 1) xs ≡ drop n xs
back_one n xs lt = let e : n - 1 + 1 ≡ n = omega (arith, lt) in ap (λ k. drop k xs) e

ref_or : Ref → List Ref → Ref
ref_or d [] = d
ref_or d (r ∷ rs) = r

pub same_first : (a b : Ref) (rs qs : List Ref) → a ∷ rs ≡ b ∷ qs → a ≡ b
unfolding ref_or
same_first a b rs qs e = ap (ref_or a) e

-- a list that was made is there
pub made_holds : (s t : Store) (n : ℕ) (elements : List Ref) (r : Result Ref Full) → MatchResult r (λ x. ListMade s t elements x) (λ e. Stopped n s t e) → IfOk r (λ x. Holds t x)
made_holds s t n elements (Ok x) h = holds_some t x _ h.value
made_holds s t n elements (Err e) h = tt
