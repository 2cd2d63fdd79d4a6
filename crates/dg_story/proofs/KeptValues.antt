-- The values that global variables start with are formed as those of a program are, and their words are words.
use Rattle.std.proofs.Common.{◌≡◌, ℕ, zero, suc, Bool, true, false, ◌+◌, ◌<◌, ◌≤◌, List, [], ◌∷◌, ◌++◌, length, map, Some, refl, sym, ap, ◌∙◌, subst, arith, length-append}
use Rattle.std.specs.Prelude.{All, nat_eq, if◌then◌else◌}
use Rattle.std.specs.List.{slice_get}
use Rattle.std.proofs.lemmas.List.{append-nil}
use Rattle.std.proofs.lemmas.List.Elements.{All-head, All-tail, All-cons}
use Rattle.dg_base.specs.declared.cells.Cell.{Cell}
use Rattle.dg_base.specs.declared.cells.Cell.TheVariants as cell
use Rattle.dg_base.specs.declared.program.Place.{Place}
use Rattle.dg_base.specs.declared.program.PlaceKind.TheVariants.{Global}
use Rattle.dg_base.specs.declared.program.Term.{Term, out-Term}
use Rattle.dg_base.specs.declared.program.Term.TheOpen as term
use Rattle.dg_base.specs.declared.program.Term.TheVariants.{Pair as Pair-Term}
use Rattle.dg_base.specs.declared.program.Term.TheBlock.{hidden-the_row-Term-0}
use Rattle.dg_base.specs.Sound.{IsConstant}
use Rattle.dg_base.specs.Terms.{nodes}
use Rattle.dg_meaning.specs.Cells.{nodes_of}
use Rattle.dg_meaning.specs.Facts.{value_at, no_program, start_value, starts_from, start_facts}
use Rattle.dg_meaning.specs.Values.{Value, value_of, value_of_leaf, pair}
use Rattle.dg_meaning.specs.ValueCells.{cells_of}
use Rattle.dg_mid.proofs.FlatLemmas.{pair_is}
use Rattle.dg_rt.specs.Copies.{cell_word}
use Rattle.dg_rt.specs.Laying.{Formed}
use Rattle.dg_turn.specs.Terms.{IsTerm}
use Rattle.dg_turn.proofs.Assembling.{leaf_value, pair_nodes, HasNone}
use Rattle.dg_emit.specs.inside.Left.{parts_of}
use Rattle.dg_emit.proofs.Left.{nodes_next}
use Rattle.dg_story.specs.inside.World.{Starts}
use Rattle.dg_story.proofs.Worlds.{set_by, set_at}

-- A node of a value that starts set.
abbrev pub IsKept : Term → Type 0
IsKept x = IsTerm (out-Term x) × IsConstant (out-Term x)

value_pair : (h t : Term) → value_of no_program [] (Pair-Term h t) ≡ pair (value_of no_program [] h) (value_of no_program [] t)
unfolding hidden-the_row-Term-0 denote.Hole.Carrier.hidden
value_pair h t = refl

-- Its words are words, and it is formed.
abbrev pub IsFine : (ℕ → ℕ) → Value → Type 0
IsFine captures v = Formed captures v × All (λ (c : Cell). cell_word c < 65536) (cells_of v)

all_none : (P : Cell → Type 0) → All P []
all_none P = λ k d lt. absurd (omega arith)

all_both : (P : Cell → Type 0) (xs ys : List Cell) → All P xs → All P ys → All P (xs ++ ys)
all_both P [] ys f g = g
all_both P (x ∷ xs) ys f g = All-cons P x (xs ++ ys) (All-head P x xs f) (all_both P xs ys (All-tail P x xs f) g)

all_front : (P : Term → Type 0) (xs ys : List Term) → All P (xs ++ ys) → All P xs
all_front P [] ys f = λ k d lt. absurd (omega arith)
all_front P (x ∷ xs) ys f = All-cons P x xs (All-head P x (xs ++ ys) f) (all_front P xs ys (All-tail P x (xs ++ ys) f))

all_back : (P : Term → Type 0) (xs ys : List Term) → All P (xs ++ ys) → All P ys
all_back P [] ys f = f
all_back P (x ∷ xs) ys f = all_back P xs ys (All-tail P x (xs ++ ys) f)

module _ (captures : ℕ → ℕ) where
  abbrev Small : Cell → Type 0
  Small c = cell_word c < 65536

  one_cell : (c : Cell) → cell_word c < 65536 → All Small (c ∷ [])
  one_cell c lt = All-cons Small c [] lt (all_none Small)

  leaf_fine : (x : term.Term-F Term) → IsTerm x → IsConstant x → HasNone x → IsFine captures (value_of_leaf no_program [] x)
  leaf_fine (term.Num n) few c none = ((few, tt), one_cell (cell.Num n) (omega arith))
  leaf_fine (term.Word n) few c none = ((few, tt), one_cell (cell.Word n) (omega arith))
  leaf_fine (term.Object n) few c none = ((few, tt), one_cell (cell.Object n) (omega arith))
  leaf_fine term.Nil few c none = ((tt, tt), one_cell cell.Nil (omega arith))
  leaf_fine (term.Var v) few c none = absurd c
  leaf_fine (term.Pair a b) few c none = absurd none
  leaf_fine (term.Closure k) few c none = absurd c

  pair_fine : (u v : Value) → IsFine captures u → IsFine captures v → IsFine captures (pair u v)
  pair_fine u v f g = (
    (tt, (f.0, (g.0, tt))),
    All-cons Small cell.Pair (cells_of u ++ (cells_of v ++ [])) (omega arith) (all_both Small (cells_of u) (cells_of v ++ []) f.1 (all_both Small (cells_of v) [] g.1 (all_none Small))),
  )

  leaf_here : (x : Term) (y : term.Term-F Term) → out-Term x ≡ y → HasNone y → IsKept x → IsFine captures (start_value x)
  leaf_here x y e none k =
      let none' : HasNone (out-Term x) = subst HasNone (sym e) none in
      subst (IsFine captures) (sym (leaf_value no_program [] x none')) (leaf_fine (out-Term x) k.0 k.1 none')

  first : (x : Term) → All IsKept (nodes_of (x ∷ [])) → IsKept x
  first x all = let rest = nodes_of (parts_of (out-Term x) ++ []) in All-head IsKept x rest (subst (λ (l : List Term). All IsKept l) (nodes_next x []) all)

  split : (x h t : Term) → out-Term x ≡ term.Pair h t → nodes_of (x ∷ []) ≡ Pair-Term h t ∷ (nodes_of (h ∷ []) ++ nodes_of (t ∷ []))
  split x h t e = ap (λ (y : Term). nodes_of (y ∷ [])) (pair_is x h t e) ∙ pair_nodes h t

  pub fine_by : (n : ℕ) (x : Term) (y : term.Term-F Term) → out-Term x ≡ y → length (nodes_of (x ∷ [])) ≤ n → All IsKept (nodes_of (x ∷ [])) → IsFine captures (start_value x)
  fine_by zero x (term.Pair h t) e le all = let l = ap length (split x h t e) in absurd (omega arith)
  fine_by (suc m) x (term.Pair h t) e le all =
      let l = ap length (split x h t e) in
      let both = length-append (nodes_of (h ∷ [])) (nodes_of (t ∷ [])) in
      let inner = All-tail IsKept (Pair-Term h t) (nodes_of (h ∷ []) ++ nodes_of (t ∷ [])) (subst (λ (xs : List Term). All IsKept xs) (split x h t e) all) in
      subst (IsFine captures) (sym (ap start_value (pair_is x h t e) ∙ value_pair h t))
      (pair_fine (start_value h) (start_value t) (fine_by m h (out-Term h) refl (omega arith) (all_front IsKept (nodes_of (h ∷ [])) (nodes_of (t ∷ [])) inner)) (fine_by m t (out-Term t) refl (omega arith) (all_back IsKept (nodes_of (h ∷ [])) (nodes_of (t ∷ [])) inner)))
  fine_by n x (term.Num k) e le all = leaf_here x (term.Num k) e tt (first x all)
  fine_by n x (term.Word k) e le all = leaf_here x (term.Word k) e tt (first x all)
  fine_by n x (term.Object k) e le all = leaf_here x (term.Object k) e tt (first x all)
  fine_by n x term.Nil e le all = leaf_here x term.Nil e tt (first x all)
  fine_by n x (term.Var k) e le all = leaf_here x (term.Var k) e tt (first x all)
  fine_by n x (term.Closure k) e le all = leaf_here x (term.Closure k) e tt (first x all)

  -- A term of such nodes starts with such a value.
  pub start_fine : (x : Term) → All IsKept (nodes x) → IsFine captures (start_value x)
  start_fine x all = fine_by (length (nodes_of (x ∷ []))) x (out-Term x) refl (omega arith) (subst (λ (l : List Term). All IsKept l) (sym (append-nil (nodes x))) all)

  set_fine : (starts : Starts) (v : Value) → All (λ (s : ℕ × Term). All IsKept (nodes s.1)) starts → set_by starts 0 ≡ Some v → IsFine captures v
  set_fine [] v all e = absurd (cc)
  set_fine (s ∷ starts) v all e = by_test (nat_eq s.0 0) (set_fine starts v (All-tail (λ (q : ℕ × Term). All IsKept (nodes q.1)) s starts all)) e
    where
      by_test : (b : Bool) → (set_by starts 0 ≡ Some v → IsFine captures v) → (if b then Some (start_value s.1) else set_by starts 0) ≡ Some v → IsFine captures v
      by_test true rest q = let same : start_value s.1 ≡ v = cc in subst (IsFine captures) same (start_fine s.1 (All-head (λ (q' : ℕ × Term). All IsKept (nodes q'.1)) s starts all))
      by_test false rest q = rest q

  -- A place of such starts, where it is a global variable.
  abbrev pub KeepsFine : Place → Type 0
  KeepsFine place = place.kind ≡ Global → All (λ (s : ℕ × Term). All IsKept (nodes s.1)) place.start

  pub globals_fine : (all places : List Place) (n i : ℕ) → ((k : ℕ) (place : Place) → slice_get places k ≡ Some place → slice_get all (n + k) ≡ Some place) → All KeepsFine places → slice_get (map (λ (place : Place). place.kind) places) i ≡ Some Global → (v : Value) → value_at (starts_from 0 all) (n + i) 0 ≡ Some v → IsFine captures v
  globals_fine all [] n i there each e v q = absurd (cc)
  globals_fine all (place ∷ places) n zero there each e v q =
      let global : place.kind ≡ Global = cc in
      let at : 0 + (n + 0) ≡ n + 0 = omega arith in
      let set = set_at all 0 (n + 0) place (there 0 place refl) 0 in
      set_fine place.start v (All-head KeepsFine place places each global) (sym set ∙ ap (λ (k : ℕ). value_at (starts_from 0 all) k 0) at ∙ q)
  globals_fine all (place ∷ places) n (suc i) there each e v q =
      let at : n + 1 + i ≡ n + suc i = omega arith in
      globals_fine all places (n + 1) i (λ k other g. (let z : n + suc k ≡ n + 1 + k = omega arith in subst (λ (j : ℕ). slice_get all j ≡ Some other) z (there (suc k) other g))) (All-tail KeepsFine place places each) e v (ap (λ (k : ℕ). value_at (starts_from 0 all) k 0) at ∙ q)

  -- So it is with all places of a program.
  pub starts_fine : (places : List Place) → All KeepsFine places → (i : ℕ) → slice_get (map (λ (place : Place). place.kind) places) i ≡ Some Global → (v : Value) → value_at (start_facts places) i 0 ≡ Some v → IsFine captures v
  starts_fine places each i e v q =
      let at : 0 + i ≡ i = omega arith in
      globals_fine places places 0 i (λ k place g. (let z : k ≡ 0 + k = omega arith in subst (λ (j : ℕ). slice_get places j ≡ Some place) z g)) each e v (ap (λ (k : ℕ). value_at (start_facts places) k 0) at ∙ q)
