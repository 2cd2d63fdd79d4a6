-- Terms whose nodes are written stand for their values.
use Rattle.std.proofs.Common.{◌≡◌, ℕ, zero, suc, ◌+◌, ◌*◌, ◌%◌, ◌<◌, ◌≤◌, inl, inr, List, [], ◌∷◌, ◌++◌, length, map, Option, Some, None, refl, sym, ap, ◌∙◌, subst, arith, length-append, append-nil}
use Rattle.std.specs.Prelude.{◌==◌, if◌then◌else◌}
use Rattle.std.specs.List.{sum_by, slice_get}
use Rattle.std.proofs.lemmas.Bool.{eq-eqb, ne_eqb, cond-true, cond-false, cases_eq}
use Rattle.std.proofs.lemmas.List.Sums.{sum_by-cons}
use Rattle.dg_base.specs.declared.program.ClosureBody.{ClosureBody}
use Rattle.dg_base.specs.declared.program.CoreProgram.{CoreProgram}
use Rattle.dg_base.specs.declared.program.Term.{Term, Pair', out-Term}
use Rattle.dg_base.specs.declared.program.Term.TheBlock.{hidden-the_row-Term-0}
use Rattle.dg_base.specs.declared.program.Term.TheOpen as term
use Rattle.dg_base.specs.declared.program.Term.TheVariants.{Pair as Pair-Term, outs-Pair}
use Rattle.dg_base.specs.Terms.{nodes}
use Rattle.dg_meaning.specs.Cells.{node_cells, nodes_of, cells as cells_of}
use Rattle.dg_meaning.specs.ValueCells.{count_of}
use Rattle.dg_meaning.specs.Values.{Closure, Value, Values, Node, node_parts, pair, value_of, value_of_leaf, value_of_var, captured_values}
use Rattle.dg_mid.proofs.FlatLemmas.{nodes_are, pair_is}
use Rattle.dg_rt.specs.Areas.{heap_at}
use Rattle.dg_rt.specs.Shapes.{Shape, Cell, Shows, boxed, pair_in, closure_in, AllShow, no_more, one_more}
use Rattle.dg_rt.specs.Back.{Grown}
use Rattle.dg_rt.specs.Frames.{HoldVars}
use Rattle.dg_rt.proofs.Grows.{grown_shows}
use Rattle.dg_turn.specs.Told.{told_count}
use Rattle.dg_turn.specs.Terms.{captured_of, IsNode, AreNodes}
use Rattle.dg_turn.proofs.Rows.{InRegisters}
use Rattle.dg_turn.proofs.Writing.{WordOf}
use Rattle.dg_turn.proofs.Nodes.{AllAt, size, count_is, told_is, Written, AreWords, pair_count, pairs}

-- ## Lists of nodes

pub size_is : (program : CoreProgram) (xs : List Term) → sum_by (λ (x : Term). node_cells program (out-Term x)) xs ≡ size program xs
size_is program [] = refl
size_is program (x ∷ xs) = sum_by-cons (λ (y : Term). node_cells program (out-Term y)) x xs ∙ ap (λ (n : ℕ). node_cells program (out-Term x) + n) (size_is program xs)

pub size_append : (program : CoreProgram) (xs ys : List Term) → size program (xs ++ ys) ≡ size program xs + size program ys
size_append program [] ys = omega arith
size_append program (x ∷ xs) ys = omega (arith, size_append program xs ys)

pub all_front : (program : CoreProgram) (P : ℕ → Term → Type 0) (o : ℕ) (xs ys : List Term) → AllAt program P o (xs ++ ys) → AllAt program P o xs
all_front program P o [] ys h = tt
all_front program P o (x ∷ xs) ys h = (h.0, all_front program P (o + node_cells program (out-Term x)) xs ys h.1)

pub all_behind : (program : CoreProgram) (P : ℕ → Term → Type 0) (o : ℕ) (xs ys : List Term) → AllAt program P o (xs ++ ys) → AllAt program P (o + size program xs) ys
all_behind program P o [] ys h = let z : o ≡ o + 0 = omega arith in subst (λ (i : ℕ). AllAt program P i ys) z h
all_behind program P o (x ∷ xs) ys h =
    let n = node_cells program (out-Term x) in
    let z : o + n + size program xs ≡ o + (n + size program xs) = omega arith in
    subst (λ (i : ℕ). AllAt program P i ys) z (all_behind program P (o + n) xs ys h.1)

pub all_both : (program : CoreProgram) (P Q : ℕ → Term → Type 0) (o : ℕ) (xs : List Term) → AllAt program P o xs → AllAt program Q o xs → AllAt program (λ i x. P i x × Q i x) o xs
all_both program P Q o [] a b = tt
all_both program P Q o (x ∷ xs) a b = ((a.0, b.0), all_both program P Q (o + node_cells program (out-Term x)) xs a.1 b.1)

pub all_fit : (program : CoreProgram) (total o : ℕ) (xs : List Term) → o + size program xs ≤ total → AllAt program (λ i x. i + node_cells program (out-Term x) ≤ total) o xs
all_fit program total o [] le = tt
all_fit program total o (x ∷ xs) le = (omega arith, all_fit program total (o + node_cells program (out-Term x)) xs (omega arith))

pub all_nodes : (program : CoreProgram) (o : ℕ) (xs : List Term) → AreNodes program xs → AllAt program (λ i x. IsNode program (out-Term x)) o xs
all_nodes program o [] are = tt
all_nodes program o (x ∷ xs) are = (are.0, all_nodes program (o + node_cells program (out-Term x)) xs are.1)

pub all_map : (program : CoreProgram) (P Q : ℕ → Term → Type 0) (o : ℕ) (xs : List Term) → ((i : ℕ) (x : Term) → P i x → Q i x) → AllAt program P o xs → AllAt program Q o xs
all_map program P Q o [] f h = tt
all_map program P Q o (x ∷ xs) f h = (f o x h.0, all_map program P Q (o + node_cells program (out-Term x)) xs f h.1)

-- ## Boxes

-- The box at a place, where a node's cells begin there.
abbrev pub box_or : ℕ → ℕ → Value → Option Value → term.Term-F Term → Option Value
box_or k at v other (term.Pair head tail) = if k == at then Some v else other
box_or k at v other (term.Closure c) = if k == at then Some v else other
box_or k at v other x = other

-- The boxes that nodes are, the first of them with its cells so far behind the first.
abbrev pub box_in : CoreProgram → List Value → ℕ → ℕ → List Term → ℕ → Option Value
box_in program env top o [] k = None
box_in program env top o (x ∷ xs) k = box_or k (top + o) (value_of program env x) (box_in program env top (o + node_cells program (out-Term x)) xs k) (out-Term x)

none_some : (v : Value) → ◌≡◌ {A = Option Value} None (Some v) → ⊥
none_some v e = cc

within_one : (program : CoreProgram) (x : term.Term-F Term) (k at n : ℕ) (v w : Value) (other : Option Value) → (other ≡ Some w → (at + node_cells program x ≤ k) × (k + 3 ≤ at + node_cells program x + n)) → box_or k at v other x ≡ Some w → (at ≤ k) × (k + 3 ≤ at + (node_cells program x + n))
within_one program (term.Pair head tail) k at n v w other rest e = elim (cases_eq k at) [
  | inl same ↦ (omega arith, omega arith)
  | inr ne ↦ (let r = rest (sym (cond-false (k == at) (Some v) other (ne_eqb k at ne)) ∙ e) in let low = r.0 in let high = r.1 in (omega arith, omega arith))
]
within_one program (term.Num i) k at n v w other rest e = let r = rest e in let low = r.0 in let high = r.1 in (omega arith, omega arith)
within_one program (term.Word i) k at n v w other rest e = let r = rest e in let low = r.0 in let high = r.1 in (omega arith, omega arith)
within_one program (term.Object i) k at n v w other rest e = let r = rest e in let low = r.0 in let high = r.1 in (omega arith, omega arith)
within_one program (term.Var i) k at n v w other rest e = let r = rest e in let low = r.0 in let high = r.1 in (omega arith, omega arith)
within_one program term.Nil k at n v w other rest e = let r = rest e in let low = r.0 in let high = r.1 in (omega arith, omega arith)
within_one program (term.Closure i) k at n v w other rest e = elim (cases_eq k at) [
  | inl same ↦ (omega arith, omega arith)
  | inr ne ↦ (let r = rest (sym (cond-false (k == at) (Some v) other (ne_eqb k at ne)) ∙ e) in let low = r.0 in let high = r.1 in (omega arith, omega arith))
]

pub boxes_within : (program : CoreProgram) (env : List Value) (top o : ℕ) (xs : List Term) (k : ℕ) (w : Value) → box_in program env top o xs k ≡ Some w → (top + o ≤ k) × (k + 3 ≤ top + o + size program xs)
boxes_within program env top o [] k w e = absurd (none_some w e)
boxes_within program env top o (x ∷ xs) k w e =
    let n = node_cells program (out-Term x) in
    within_one program (out-Term x) k (top + o) (size program xs) (value_of program env x) w (box_in program env top (o + n) xs k) (λ q. (let r = boxes_within program env top (o + n) xs k w q in let low = r.0 in let high = r.1 in (omega arith, omega arith))) e

apart_one : (program : CoreProgram) (x : term.Term-F Term) (j k at : ℕ) (u v w : Value) (first second : Option Value) → (first ≡ Some v → at + node_cells program x ≤ j) → (second ≡ Some w → at + node_cells program x ≤ k) → (first ≡ Some v → second ≡ Some w → j + 3 ≤ k) →
    box_or j at u first x ≡ Some v → box_or k at u second x ≡ Some w → j < k → j + 3 ≤ k
apart_one program (term.Pair head tail) j k at u v w first second low_j low_k rest ej ek lt = elim (cases_eq j at) [
  | inl same ↦ (let q = low_k (sym (cond-false (k == at) (Some u) second (ne_eqb k at (λ (e : k ≡ at). (omega arith)))) ∙ ek) in omega arith)
  | inr ne ↦
      let fj : first ≡ Some v = sym (cond-false (j == at) (Some u) first (ne_eqb j at ne)) ∙ ej in
      let low = low_j fj in
      rest fj (sym (cond-false (k == at) (Some u) second (ne_eqb k at (λ (e : k ≡ at). (omega arith)))) ∙ ek)
]
apart_one program (term.Num i) j k at u v w first second low_j low_k rest ej ek lt = rest ej ek
apart_one program (term.Word i) j k at u v w first second low_j low_k rest ej ek lt = rest ej ek
apart_one program (term.Object i) j k at u v w first second low_j low_k rest ej ek lt = rest ej ek
apart_one program (term.Var i) j k at u v w first second low_j low_k rest ej ek lt = rest ej ek
apart_one program term.Nil j k at u v w first second low_j low_k rest ej ek lt = rest ej ek
apart_one program (term.Closure i) j k at u v w first second low_j low_k rest ej ek lt = elim (cases_eq j at) [
  | inl same ↦ (let q = low_k (sym (cond-false (k == at) (Some u) second (ne_eqb k at (λ (e : k ≡ at). (omega arith)))) ∙ ek) in omega arith)
  | inr ne ↦
      let fj : first ≡ Some v = sym (cond-false (j == at) (Some u) first (ne_eqb j at ne)) ∙ ej in
      let low = low_j fj in
      rest fj (sym (cond-false (k == at) (Some u) second (ne_eqb k at (λ (e : k ≡ at). (omega arith)))) ∙ ek)
]

pub boxes_apart : (program : CoreProgram) (env : List Value) (top o : ℕ) (xs : List Term) (j k : ℕ) (v w : Value) → box_in program env top o xs j ≡ Some v → box_in program env top o xs k ≡ Some w → j < k → j + 3 ≤ k
boxes_apart program env top o [] j k v w ej ek lt = absurd (none_some v ej)
boxes_apart program env top o (x ∷ xs) j k v w ej ek lt =
    let n = node_cells program (out-Term x) in
    apart_one program (out-Term x) j k (top + o) (value_of program env x) v w (box_in program env top (o + n) xs j) (box_in program env top (o + n) xs k)
    (λ q. (let r = (boxes_within program env top (o + n) xs j v q).0 in omega arith)) (λ q. (let r = (boxes_within program env top (o + n) xs k w q).0 in omega arith))
    (λ a b. boxes_apart program env top (o + n) xs j k v w a b lt) ej ek lt

-- A pair's cells are a box, and so are a closure's.
abbrev pub IsBox : (ℕ → Option Value) → ℕ → Value → term.Term-F Term → Type 0
IsBox boxes at v (term.Pair head tail) = boxes at ≡ Some v
IsBox boxes at v (term.Closure c) = boxes at ≡ Some v
IsBox boxes at v x = Unit {0}

one_boxed : (boxes : ℕ → Option Value) (at : ℕ) (v : Value) (x : term.Term-F Term) (other : Option Value) → boxes at ≡ box_or at at v other x → IsBox boxes at v x
one_boxed boxes at v (term.Pair head tail) other e = e ∙ cond-true (at == at) (Some v) other (eq-eqb at at refl)
one_boxed boxes at v (term.Num i) other e = tt
one_boxed boxes at v (term.Word i) other e = tt
one_boxed boxes at v (term.Object i) other e = tt
one_boxed boxes at v (term.Var i) other e = tt
one_boxed boxes at v term.Nil other e = tt
one_boxed boxes at v (term.Closure i) other e = e ∙ cond-true (at == at) (Some v) other (eq-eqb at at refl)

box_other : (program : CoreProgram) (x : term.Term-F Term) (k at : ℕ) (v : Value) (other : Option Value) → at + node_cells program x ≤ k → box_or k at v other x ≡ other
box_other program (term.Pair head tail) k at v other le = cond-false (k == at) (Some v) other (ne_eqb k at (λ (e : k ≡ at). (omega arith)))
box_other program (term.Num i) k at v other le = refl
box_other program (term.Word i) k at v other le = refl
box_other program (term.Object i) k at v other le = refl
box_other program (term.Var i) k at v other le = refl
box_other program term.Nil k at v other le = refl
box_other program (term.Closure i) k at v other le = cond-false (k == at) (Some v) other (ne_eqb k at (λ (e : k ≡ at). (omega arith)))

pub all_boxed : (program : CoreProgram) (env : List Value) (top : ℕ) (boxes : ℕ → Option Value) (o : ℕ) (xs : List Term) → ((k : ℕ) → top + o ≤ k → boxes k ≡ box_in program env top o xs k) → AllAt program (λ i x. IsBox boxes (top + i) (value_of program env x) (out-Term x)) o xs
all_boxed program env top boxes o [] are = tt
all_boxed program env top boxes o (x ∷ xs) are =
    let n = node_cells program (out-Term x) in (
      one_boxed boxes (top + o) (value_of program env x) (out-Term x) (box_in program env top (o + n) xs (top + o)) (are (top + o) (omega arith)),
      all_boxed program env top boxes (o + n) xs (λ k le. are k (omega arith) ∙ box_other program (out-Term x) k (top + o) (value_of program env x) (box_in program env top (o + n) xs k) (omega arith)),
    )

-- ## Values

pair_value : (program : CoreProgram) (env : List Value) (h t : Term) → value_of program env (Pair-Term h t) ≡ pair (value_of program env h) (value_of program env t)
unfolding hidden-the_row-Term-0 denote.Hole.Carrier.hidden
pair_value program env h t = refl

-- A term without parts.
abbrev pub HasNone : term.Term-F Term → Type 0
HasNone (term.Pair head tail) = ⊥
HasNone other = Unit {0}

pub leaf_value : (program : CoreProgram) (env : List Value) (x : Term) → HasNone (out-Term x) → value_of program env x ≡ value_of_leaf program env (out-Term x)
unfolding out-Term denote.Hole.Carrier.out
leaf_value program env (Pair' s head t tail) h = absurd h
leaf_value program env other h = refl

one_node : (x : Term) → HasNone (out-Term x) → nodes x ≡ x ∷ []
unfolding out-Term denote.Hole.Carrier.out
one_node (Pair' s head t tail) h = absurd h
one_node other h = refl

-- The nodes of a pair.
pub pair_nodes : (h t : Term) → nodes_of (Pair-Term h t ∷ []) ≡ Pair-Term h t ∷ (nodes_of (h ∷ []) ++ nodes_of (t ∷ []))
pair_nodes h t = append-nil (nodes (Pair-Term h t)) ∙ nodes_are h t

-- A closure has as many parts as it captures.
parts_count : (env : List Value) (vs : List ℕ) → count_of (node_parts (map (value_of_var env) vs)) ≡ length vs
parts_count env [] = refl
parts_count env (v ∷ vs) = let e = parts_count env vs in omega arith

parts_are : (env : List Value) (o : Option ClosureBody) → captured_values env o ≡ node_parts (map (value_of_var env) (captured_of o))
parts_are env None = refl
parts_are env (Some body) = refl

module _ (program : CoreProgram) (sh sh' : Shape) (g : Grown sh sh') (told : (place : ℕ) → sh'.captures place ≡ told_count program place) (env : List Value) (c : ℕ → ℕ) (total : ℕ) (few : sh.top + total ≤ 10000) (cell_at : (i : ℕ) → i < total → Cell sh' (sh.top + i) (c (heap_at + (sh.top + i)))) where
  -- A node is written, and its cells are a box.
  abbrev pub LiesAs : ℕ → Value → term.Term-F Term → Type 0
  LiesAs o v y = (Written program sh env c o y × IsBox sh'.box (sh.top + o) v y) × (IsNode program y × (o + node_cells program y ≤ total))

  abbrev pub Lies : ℕ → Term → Type 0
  Lies o x = LiesAs o (value_of program env x) (out-Term x)

  leaf_shown : (x : Term) (y : term.Term-F Term) → out-Term x ≡ y → HasNone y → (w : ℕ) → Shows sh w (value_of_leaf program env y) → Shows sh' w (value_of program env x)
  leaf_shown x y e none w s = subst (Shows sh' w) (sym (leaf_value program env x (subst HasNone (sym e) none) ∙ ap (value_of_leaf program env) e)) (grown_shows g s)

  -- a pair's cells stand for it, where its parts do
  pair_shown : (x h t : Term) (o w : ℕ) → x ≡ Pair-Term h t → o + 3 ≤ total → w ≡ (49152 + (sh.top + o)) % 65536 → sh'.box (sh.top + o) ≡ Some (value_of program env x) → c (heap_at + (sh.top + o + 0)) ≡ 0 → Shows sh' (c (heap_at + (sh.top + o + 1))) (value_of program env h) → Shows sh' (c (heap_at + (sh.top + o + 2))) (value_of program env t) → Shows sh' w (value_of program env x)
  pair_shown x h t o w e le is box header head tail =
      let k = sh.top + o in
      let v : value_of program env x ≡ pair (value_of program env h) (value_of program env t) = ap (value_of program env) e ∙ pair_value program env h t in
      let at1 : sh.top + (o + 1) ≡ k + 1 = omega arith in
      let at2 : sh.top + (o + 2) ≡ k + 2 = omega arith in
      let one : Cell sh' (k + 1) (c (heap_at + (k + 1))) = subst (λ (i : ℕ). Cell sh' i (c (heap_at + i))) at1 (cell_at (o + 1) (omega arith)) in
      let two : Cell sh' (k + 2) (c (heap_at + (k + 2))) = subst (λ (i : ℕ). Cell sh' i (c (heap_at + i))) at2 (cell_at (o + 2) (omega arith)) in
      let at0 : k + 0 ≡ k = omega arith in
      let zero_cell : Cell sh' k 0 = subst (λ (y : ℕ). Cell sh' k y) (subst (λ (i : ℕ). c (heap_at + i) ≡ 0) at0 header) (cell_at o (omega arith)) in
      let there : w ≡ 49152 + k = omega arith in
      subst (Shows sh' w) (sym v)
      (subst (λ (y : ℕ). Shows sh' y (pair (value_of program env h) (value_of program env t))) (sym there)
      (boxed k 0 (omega arith) (box ∙ ap Some v) zero_cell (pair_in k (c (heap_at + (k + 1))) (c (heap_at + (k + 2))) one two head tail)))

  -- captured values stand in their cells
  all_captured : (o k : ℕ) (vs : List ℕ) → k ≡ sh.top + o → o + length vs ≤ total → HoldVars sh c k env vs → AllShow sh' k (node_parts (map (value_of_var env) vs))
  all_captured o k [] e le h = no_more k
  all_captured o k (v ∷ vs) e le h = one_more k (c (heap_at + k)) (subst (λ (i : ℕ). Cell sh' i (c (heap_at + i))) (sym e) (cell_at o (omega arith))) (grown_shows g h.0) (all_captured (suc o) (suc k) vs (omega arith) (omega arith) h.1)

  -- a closure's cells stand for it
  closure_shown : (x : Term) (place o w : ℕ) → out-Term x ≡ term.Closure place → HasNone (out-Term x) → w ≡ (49152 + (sh.top + o)) % 65536 → LiesAs o (value_of program env x) (term.Closure place) → Shows sh' w (value_of program env x)
  closure_shown x place o w e none is lies =
      let k = sh.top + o in
      let body = slice_get program.closures place in
      let vs = captured_of body in
      let count = count_is body in
      let parts = node_parts (map (value_of_var env) vs) in
      let v : value_of program env x ≡ Node (Closure place) parts = leaf_value program env x none ∙ ap (value_of_leaf program env) e ∙ ap (λ (l : Values). Node (Closure place) l) (parts_are env body) in
      let written = lies.0.0 in
      let box = lies.0.1 in
      let fits = lies.1.0 in
      let le = lies.1.1 in
      let many = parts_count env vs in
      let n = told place in
      let at0 : k + 0 ≡ k = omega arith in
      let at1 : sh.top + (o + 1) ≡ k + 1 = omega arith in
      let header : Cell sh' k (1 + place) = subst (λ (y : ℕ). Cell sh' k y) (subst (λ (i : ℕ). c (heap_at + i) ≡ 1 + place) at0 written.0) (cell_at o (omega arith)) in
      let second : Cell sh' (k + 1) (c (heap_at + (k + 1))) = subst (λ (i : ℕ). Cell sh' i (c (heap_at + i))) at1 (cell_at (o + 1) (omega arith)) in
      let one : Cell sh' (k + 1) (count_of parts) = subst (λ (y : ℕ). Cell sh' (k + 1) y) (written.1 ∙ sym many) second in
      let all : AllShow sh' (k + 3) parts = all_captured (o + 3) (k + 3) vs (omega arith) (omega arith) written.2 in
      let there : w ≡ 49152 + k = omega arith in
      let there_is = fits.3 in
      let same = told_is body there_is in
      subst (Shows sh' w) (sym v)
      (subst (λ (y : ℕ). Shows sh' y (Node (Closure place) parts)) (sym there)
      (boxed k (1 + place) (omega arith) (box ∙ ap Some v) header (closure_in k place fits.0 (many ∙ sym count ∙ sym same ∙ sym n) (omega arith) one all)))

  -- The word of a term stands for its value, where its nodes lie there.
  pub shown : (n : ℕ) (x : Term) (y : term.Term-F Term) → out-Term x ≡ y → length (nodes_of (x ∷ [])) ≤ n → (o : ℕ) → AllAt program Lies o (nodes_of (x ∷ [])) → (w : ℕ) → WordOf program sh env o w y → Shows sh' w (value_of program env x)
  shown n x (term.Num i) e le o all w is = leaf_shown x (term.Num i) e tt w is
  shown n x (term.Word i) e le o all w is = leaf_shown x (term.Word i) e tt w is
  shown n x (term.Object i) e le o all w is = leaf_shown x (term.Object i) e tt w is
  shown n x (term.Var i) e le o all w is = leaf_shown x (term.Var i) e tt w is
  shown n x term.Nil e le o all w is = leaf_shown x term.Nil e tt w is
  shown n x (term.Closure i) e le o all w is =
      let alone : nodes_of (x ∷ []) ≡ x ∷ [] = append-nil (nodes x) ∙ one_node x (subst HasNone (sym e) tt) in
      let here : AllAt program Lies o (x ∷ []) = subst (λ (l : List Term). AllAt program Lies o l) alone all in
      let lies : LiesAs o (value_of program env x) (term.Closure i) = subst (λ (y : term.Term-F Term). LiesAs o (value_of program env x) y) e here.0 in
      closure_shown x i o w e (subst HasNone (sym e) tt) is lies
  shown zero x (term.Pair h t) e le o all w is =
      let l = ap length (ap (λ (z : Term). nodes_of (z ∷ [])) (pair_is x h t e) ∙ pair_nodes h t) in
      absurd (omega arith)
  shown (suc n) x (term.Pair h t) e le o all w is =
      let q = pair_is x h t e in
      let them : nodes_of (x ∷ []) ≡ Pair-Term h t ∷ (nodes_of (h ∷ []) ++ nodes_of (t ∷ [])) = ap (λ (z : Term). nodes_of (z ∷ [])) q ∙ pair_nodes h t in
      let long = ap length them in
      let both = length-append (nodes_of (h ∷ [])) (nodes_of (t ∷ [])) in
      let here : AllAt program Lies o (Pair-Term h t ∷ (nodes_of (h ∷ []) ++ nodes_of (t ∷ []))) = subst (λ (l : List Term). AllAt program Lies o l) them all in
      let lies : LiesAs o (value_of program env (Pair-Term h t)) (term.Pair h t) = subst (λ (y : term.Term-F Term). LiesAs o (value_of program env (Pair-Term h t)) y) (outs-Pair h t) here.0 in
      let three : o + node_cells program (out-Term (Pair-Term h t)) ≡ o + 3 = ap (λ (y : term.Term-F Term). o + node_cells program y) (outs-Pair h t) in
      let parts : AllAt program Lies (o + 3) (nodes_of (h ∷ []) ++ nodes_of (t ∷ [])) = subst (λ (i : ℕ). AllAt program Lies i (nodes_of (h ∷ []) ++ nodes_of (t ∷ []))) three here.1 in
      let behind : o + 3 + size program (nodes_of (h ∷ [])) ≡ o + 3 + cells_of program (h ∷ []) = ap (λ (i : ℕ). o + 3 + i) (sym (size_is program (nodes_of (h ∷ [])))) in
      let head = shown n h (out-Term h) refl (omega arith) (o + 3) (all_front program Lies (o + 3) (nodes_of (h ∷ [])) (nodes_of (t ∷ [])) parts) (c (heap_at + (sh.top + o + 1))) lies.0.0.0 in
      let tail = shown n t (out-Term t) refl (omega arith) (o + 3 + cells_of program (h ∷ [])) (subst (λ (i : ℕ). AllAt program Lies i (nodes_of (t ∷ []))) behind (all_behind program Lies (o + 3) (nodes_of (h ∷ [])) (nodes_of (t ∷ [])) parts)) (c (heap_at + (sh.top + o + 2))) lies.0.0.1 in
      pair_shown x h t o w q lies.1.1 is (lies.0.1 ∙ ap (λ (z : Term). Some (value_of program env z)) (sym q)) lies.0.0.2 head tail

  -- ## Registers

  pub all_shown : (k o : ℕ) (xs : List Term) → AllAt program Lies o (nodes_of xs) → AreWords program sh env c k o xs → InRegisters sh' c k (map (value_of program env) xs)
  all_shown k o [] all are = tt
  all_shown k o (x ∷ xs) all are =
      let alone : nodes x ≡ nodes_of (x ∷ []) = sym (append-nil (nodes x)) in
      let behind : o + size program (nodes x) ≡ o + cells_of program (x ∷ []) = ap (λ (l : List Term). o + size program l) alone ∙ ap (λ (i : ℕ). o + i) (sym (size_is program (nodes_of (x ∷ [])))) in (
        shown (length (nodes_of (x ∷ []))) x (out-Term x) refl (omega arith) o (subst (λ (l : List Term). AllAt program Lies o l) alone (all_front program Lies o (nodes x) (nodes_of xs) all)) (c k) are.0,
        all_shown (suc k) (o + cells_of program (x ∷ [])) xs (subst (λ (i : ℕ). AllAt program Lies i (nodes_of xs)) behind (all_behind program Lies o (nodes x) (nodes_of xs) all)) are.1,
      )

-- ## How many pairs

pairs_append : (xs ys : List Term) → pairs (xs ++ ys) ≡ pairs xs + pairs ys
pairs_append [] ys = omega arith
pairs_append (x ∷ xs) ys = omega (arith, pairs_append xs ys)

no_pair : (y : term.Term-F Term) → HasNone y → pair_count y ≡ 0
no_pair (term.Pair h t) none = absurd none
no_pair other none = refl

leaf_pairs : (x : Term) → HasNone (out-Term x) → length (nodes_of (x ∷ [])) ≡ 2 * pairs (nodes_of (x ∷ [])) + 1
leaf_pairs x none =
    let alone : nodes_of (x ∷ []) ≡ x ∷ [] = append-nil (nodes x) ∙ one_node x none in
    let a = ap length alone in
    let b = ap pairs alone in
    let d = no_pair (out-Term x) none in
    omega arith

-- A term has one node more than twice its pairs.
pub pairs_of_one : (n : ℕ) (x : Term) (y : term.Term-F Term) → out-Term x ≡ y → length (nodes_of (x ∷ [])) ≤ n → length (nodes_of (x ∷ [])) ≡ 2 * pairs (nodes_of (x ∷ [])) + 1
pairs_of_one n x (term.Num i) e le = leaf_pairs x (subst HasNone (sym e) tt)
pairs_of_one n x (term.Word i) e le = leaf_pairs x (subst HasNone (sym e) tt)
pairs_of_one n x (term.Object i) e le = leaf_pairs x (subst HasNone (sym e) tt)
pairs_of_one n x (term.Var i) e le = leaf_pairs x (subst HasNone (sym e) tt)
pairs_of_one n x term.Nil e le = leaf_pairs x (subst HasNone (sym e) tt)
pairs_of_one n x (term.Closure i) e le = leaf_pairs x (subst HasNone (sym e) tt)
pairs_of_one zero x (term.Pair h t) e le = let l = ap length (ap (λ (z : Term). nodes_of (z ∷ [])) (pair_is x h t e) ∙ pair_nodes h t) in absurd (omega arith)
pairs_of_one (suc n) x (term.Pair h t) e le =
    let them : nodes_of (x ∷ []) ≡ Pair-Term h t ∷ (nodes_of (h ∷ []) ++ nodes_of (t ∷ [])) = ap (λ (z : Term). nodes_of (z ∷ [])) (pair_is x h t e) ∙ pair_nodes h t in
    let long = ap length them in
    let many = ap pairs them in
    let one = ap pair_count (outs-Pair h t) in
    let both = length-append (nodes_of (h ∷ [])) (nodes_of (t ∷ [])) in
    let sum = pairs_append (nodes_of (h ∷ [])) (nodes_of (t ∷ [])) in
    let a = pairs_of_one n h (out-Term h) refl (omega arith) in
    let b = pairs_of_one n t (out-Term t) refl (omega arith) in
    omega arith

-- Terms have twice their pairs and one node more for each.
pub pairs_of_all : (xs : List Term) → length (nodes_of xs) ≡ 2 * pairs (nodes_of xs) + length xs
pairs_of_all [] = refl
pairs_of_all (x ∷ xs) =
    let alone : nodes_of (x ∷ []) ≡ nodes x = append-nil (nodes x) in
    let a = pairs_of_one (length (nodes_of (x ∷ []))) x (out-Term x) refl (omega arith) in
    let a' : length (nodes x) ≡ 2 * pairs (nodes x) + 1 = subst (λ (l : List Term). length l ≡ 2 * pairs l + 1) alone a in
    let long = length-append (nodes x) (nodes_of xs) in
    let many = pairs_append (nodes x) (nodes_of xs) in
    let b = pairs_of_all xs in
    omega arith
