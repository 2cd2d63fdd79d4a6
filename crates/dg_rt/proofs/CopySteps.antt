-- Copying a value out of the heap: acts, and what is written.
use Rattle.std.proofs.Common.{◌≡◌, ℕ, suc, ◌+◌, ◌*◌, ◌%◌, ◌<◌, ◌≤◌, inl, inr, Bool, true, false, List, [], ◌∷◌, ◌++◌, drop, map, length, Some, refl, sym, ap, ◌∙◌, subst, arith, length-append}
use Rattle.std.specs.Prelude.{◌==◌}
use Rattle.std.proofs.lemmas.Bool.{eq-eqb, ne_eqb, cases_lt, cond-true, cond-false}
use Rattle.std.proofs.lemmas.List.{map-append}
use Rattle.z_lang.specs.declared.act.Act.{Act}
use Rattle.z_lang.specs.declared.act.Act.TheVariants as acts
use Rattle.z_lang.specs.declared.act.Args.TheVariants as args
use Rattle.z_lang.specs.declared.act.Atom.TheVariants as atoms
use Rattle.z_lang.specs.declared.act.Function.TheVariants as functions
use Rattle.z_lang.specs.declared.act.Comparison.TheVariants as comparisons
use Rattle.z_lang.specs.declared.act.Width.TheVariants as widths
use Rattle.z_model.specs.declared.story.Layout.{Layout}
use Rattle.z_lang.specs.State.{State, Program}
use Rattle.z_lang.specs.Acts.{answer_of, computed, does}
use Rattle.z_lang.specs.Runs.{ActsRun as Runs, Returns, at_label, taken, passed, done, calls, returns, behind_label}
use Rattle.dg_base.specs.declared.cells.Cell.TheVariants as cell
use Rattle.dg_meaning.specs.Values.{Label, Value, Node, Values, More}
use Rattle.dg_meaning.specs.ValueCells.{cells_of, cells_of_all}
use Rattle.dg_meaning.specs.Letters.{letters_in, letters_in_all}
use Rattle.dg_meaning.specs.Substitutions.{Substitution, walk, links, resolved, contains, any_contains}
use Rattle.dg_meaning.specs.inside.Substitutions.{all_resolved, IsSubstitution}
use Rattle.dg_meaning.specs.Unify.{looked, all_looked}
use Rattle.dg_meaning.proofs.Walks.{walked, resolved_node}
use Rattle.dg_rt.proofs.Standing.{copy_out_at}
use Rattle.dg_rt.specs.declared.numbers.TheConstants.{COPY_OUT}
use Rattle.dg_rt.specs.declared.copies.TheConstants.{COPY_OUT_ACTS}
use Rattle.dg_rt.specs.Cells.{compared, at_cell, with_cell, replaced, Holds}
use Rattle.dg_rt.specs.Areas.{heap_at, state}
use Rattle.dg_rt.specs.Shapes.{Shape, IsShape, Cell, Shows, Stands}
use Rattle.dg_rt.specs.RunTime.{HasRunTime}
use Rattle.dg_rt.specs.Copies.{cell_word, words_of, Row, Copies, in_area, past_it, CopiesOut}
use Rattle.dg_rt.specs.inside.Walks.{steps}
use Rattle.dg_rt.proofs.Following.{word, some_state, tested, computes, copies, writes}
use Rattle.dg_rt.proofs.Locals.{first, second, third, fourth, fifth, put_first, put_second, put_fourth, put_fifth, added}
use Rattle.dg_rt.proofs.Cells.{holds_with, reads_cell, writes_cell}
use Rattle.dg_rt.proofs.Containing.{looked_found}
use Rattle.dg_rt.proofs.Looks.{then_on}
use Rattle.dg_rt.proofs.UnifySteps.{steps_are}

-- ---- rows

pub rows_keep : (cells cells' : ℕ → ℕ) (j : ℕ) (xs : List ℕ) → ((k : ℕ) → j ≤ k → k < j + length xs → cells' k ≡ cells k) → Row cells j xs → Row cells' j xs
rows_keep cells cells' j [] same r = tt
rows_keep cells cells' j (x ∷ xs) same r = (same j (omega arith) (omega arith) ∙ r.0, rows_keep cells cells' (suc j) xs (λ k le lt. same k (omega arith) (omega arith)) r.1)

pub rows_append : (cells : ℕ → ℕ) (j i : ℕ) (xs ys : List ℕ) → i ≡ j + length xs → Row cells j xs → Row cells i ys → Row cells j (xs ++ ys)
rows_append cells j i [] ys e r q = let same : i ≡ j = omega arith in subst (λ (k : ℕ). Row cells k ys) same q
rows_append cells j i (x ∷ xs) ys e r q = (r.0, rows_append cells (suc j) i xs ys (omega arith) r.1 q)

pub copies_map : {layout : Layout} {cells : ℕ → ℕ} {j end : ℕ} {row : List ℕ} {leads leads' : ℕ → List ℕ → List ℕ → Type 0} → ((x : ℕ) (memory locals : List ℕ) → leads x memory locals → leads' x memory locals) → Copies layout cells j end row leads → Copies layout cells j end row leads'
copies_map way (in_area memory locals cells' h le row others q) = in_area memory locals cells' h le row others (way _ memory locals q)
copies_map way (past_it memory locals cells' h lt others q) = past_it memory locals cells' h lt others (way _ memory locals q)

-- A row behind one that is written.
pub behind : {layout : Layout} {cells cells' : ℕ → ℕ} {j end : ℕ} {leads : ℕ → List ℕ → List ℕ → Type 0} (xs ys : List ℕ) (i : ℕ) → i ≡ j + length xs → i ≤ end → Row cells' j xs → ((k : ℕ) → (j ≤ k → j + length xs ≤ k) → cells' k ≡ cells k) → Copies layout cells' i end ys leads → Copies layout cells j end (xs ++ ys) leads
behind {cells = cells} {cells' = cells'} {j = j} {leads = leads} xs ys i e below r others (in_area memory locals cells'' h le row others' q) =
    let total = length-append xs ys in
    let same : at_cell (i + length ys) ≡ at_cell (j + length (xs ++ ys)) = omega arith in
    in_area memory locals cells'' h (omega arith) (rows_append cells'' j i xs ys e (rows_keep cells' cells'' j xs (λ k from to. others' k (λ z. (omega arith))) r) row)
    (λ k far. others' k (λ z. (let f = far (omega arith) in omega arith)) ∙ others k (λ z. (let f = far z in omega arith)))
    (subst (λ (z : ℕ). leads z memory locals) same q)
behind xs ys i e below r others (past_it memory locals cells'' h lt others' q) =
    let total = length-append xs ys in
    past_it memory locals cells'' h (omega arith) (λ k far. others' k (λ z. far (omega arith)) ∙ others k (λ z. (let f = far z in omega arith))) q

-- ---- memory

-- Memory at a moment.
pub record Spot (p : Program) (sh : Shape) (S : Substitution) : Type 0 where
  pub memory : List ℕ
  pub cells : ℕ → ℕ
  pub holds : Holds p.world.layout memory cells
  pub stands : Stands sh cells S

-- what is written behind the heap changes nothing in it
pub stands_away : {sh : Shape} → IsShape sh → {S : Substitution} (cells cells' : ℕ → ℕ) → ((k : ℕ) → k < 10303 → cells' k ≡ cells k) → Stands sh cells S → Stands sh cells' S
stands_away {sh} is cells cells' same st = record {
  sound = st.sound;
  fixed = λ k lt f. same (heap_at + k) (omega arith) ∙ st.fixed k lt f;
  unbound = λ n lt e. let w = is.within n lt in same (heap_at + sh.place n) (omega arith) ∙ st.unbound n lt e;
  bound = λ n v lt e. let w = is.within n lt in subst (λ (x : ℕ). Shows sh x v) (sym (same (heap_at + sh.place n) (omega arith))) (st.bound n v lt e);
}

-- ---- letters as cells

pub chars_are : (xs : List ℕ) → map cell_word (map cell.Char xs) ≡ xs
chars_are [] = refl
chars_are (x ∷ xs) = ap (λ (l : List ℕ). x ∷ l) (chars_are xs)

pub labelled : {p : Program} {f j end spent most : ℕ} {typed output memory locals row : List ℕ} {drawn : ℕ} {cells : ℕ → ℕ} → CopiesOut p f (drop 1 COPY_OUT_ACTS) typed output drawn memory locals cells j end row spent most → CopiesOut p f COPY_OUT_ACTS typed output drawn memory locals cells j end row spent most
labelled r = record { count = r.count; ends = copies_map (λ x memory locals q. at_label q) r.ends; few = r.few }

-- What stays while a value is copied: the program, what lies in the heap, the outside, the substitution, the variable for which a test of containment
-- would look at all of the value, and the area's end.
pub record CopyingOut : Type 0 where
  pub p : Program
  pub has : HasRunTime p
  pub sh : Shape
  pub is : IsShape sh
  pub typed : List ℕ
  pub output : List ℕ
  pub drawn : ℕ
  pub S : Substitution
  pub s : IsSubstitution S
  pub n : ℕ
  pub end : ℕ
  pub room : at_cell end ≤ p.world.layout.base
  pub small : at_cell end < 65536

module _ (io : CopyingOut) where
  open io use {p, has, sh, is, typed, output, drawn, S, s, n, end, room, small}

  abbrev pub lim : ℕ
  lim = at_cell end

  abbrev pub at : List ℕ → ℕ → ℕ → ℕ → ℕ → State
  at memory u w y z = state memory (u ∷ w ∷ at_cell end ∷ y ∷ z ∷ []) typed drawn output

  abbrev pub Run : ℕ → List Act → State → ℕ → State → ℕ → Type 0
  Run f acts s x s' i = Runs p (suc f) (5 * suc f) COPY_OUT_ACTS acts s (Returns x) s' i

  abbrev pub Out : ℕ → List Act → Spot p sh S → ℕ → ℕ → ℕ → ℕ → List ℕ → ℕ → ℕ → Type 0
  Out f acts m u j y z row spent most = CopiesOut p (suc f) acts typed output drawn m.memory (u ∷ at_cell j ∷ at_cell end ∷ y ∷ z ∷ []) m.cells j end row spent most

  pub longer : {f j spent most : ℕ} {acts acts' : List Act} {memory locals memory' locals' row : List ℕ} {cells : ℕ → ℕ} (k : ℕ) → ((x : ℕ) (s' : State) (i : ℕ) → Run f acts' (state memory' locals' typed drawn output) x s' i → Run f acts (state memory locals typed drawn output) x s' (steps k i)) →
      CopiesOut p (suc f) acts' typed output drawn memory' locals' cells j end row (k + spent) most → CopiesOut p (suc f) acts typed output drawn memory locals cells j end row spent most
  longer k way r = let few = r.few in record { count = steps k r.count; ends = copies_map (λ x memory locals q. way x (state memory locals typed drawn output) r.count q) r.ends; few = omega (arith, steps_are k r.count) }

  -- ---- tests and acts

  module _ (memory : List ℕ) (u w y z : ℕ) where
    pub first_less : (k : ℕ) (t answer : Bool) → compared comparisons.Less u k ≡ t → answer_of p (at memory u w y z) (record { comparison = comparisons.Less; first = atoms.Var 1; second = atoms.Num k; answer = answer }) ≡ Some t
    first_less k t answer e = tested p (at memory u w y z) comparisons.Less (atoms.Var 1) (atoms.Num k) answer u k t (first p memory u w lim y z typed drawn output) refl e

    pub fourth_less : (t answer : Bool) → compared comparisons.Less y 0 ≡ t → answer_of p (at memory u w y z) (record { comparison = comparisons.Less; first = atoms.Var 4; second = atoms.Num 0; answer = answer }) ≡ Some t
    fourth_less t answer e = tested p (at memory u w y z) comparisons.Less (atoms.Var 4) (atoms.Num 0) answer y 0 t (fourth p memory u w lim y z typed drawn output) refl e

    pub fourth_zero : (t answer : Bool) → (y == 0) ≡ t → answer_of p (at memory u w y z) (record { comparison = comparisons.Equal; first = atoms.Var 4; second = atoms.Num 0; answer = answer }) ≡ Some t
    fourth_zero t answer e = tested p (at memory u w y z) comparisons.Equal (atoms.Var 4) (atoms.Num 0) answer y 0 t (fourth p memory u w lim y z typed drawn output) refl e

    second_zero : (t : Bool) → (w == 0) ≡ t → answer_of p (at memory u w y z) (record { comparison = comparisons.Equal; first = atoms.Var 2; second = atoms.Num 0; answer = true }) ≡ Some t
    second_zero t e = tested p (at memory u w y z) comparisons.Equal (atoms.Var 2) (atoms.Num 0) true w 0 t (second p memory u w lim y z typed drawn output) refl e

    is_full : (t : Bool) → (w == lim) ≡ t → answer_of p (at memory u w y z) (record { comparison = comparisons.Equal; first = atoms.Var 2; second = atoms.Var 3; answer = true }) ≡ Some t
    is_full t e = tested p (at memory u w y z) comparisons.Equal (atoms.Var 2) (atoms.Var 3) true w lim t (second p memory u w lim y z typed drawn output) (third p memory u w lim y z typed drawn output) e

    pub first_fifth : (t : Bool) → (u == z) ≡ t → answer_of p (at memory u w y z) (record { comparison = comparisons.Equal; first = atoms.Var 1; second = atoms.Var 5; answer = false }) ≡ Some t
    first_fifth t e = tested p (at memory u w y z) comparisons.Equal (atoms.Var 1) (atoms.Var 5) false u z t (first p memory u w lim y z typed drawn output) (fifth p memory u w lim y z typed drawn output) e

    pub first_fourth : (t : Bool) → (u == y) ≡ t → answer_of p (at memory u w y z) (record { comparison = comparisons.Equal; first = atoms.Var 1; second = atoms.Var 4; answer = false }) ≡ Some t
    first_fourth t e = tested p (at memory u w y z) comparisons.Equal (atoms.Var 1) (atoms.Var 4) false u y t (first p memory u w lim y z typed drawn output) (fourth p memory u w lim y z typed drawn output) e

    pub read_1 : (a r : ℕ) → computed p.world.layout memory functions.Word a u ≡ word r → does p (acts.Compute 1 functions.Word (atoms.Num a) (atoms.Var 1)) (at memory u w y z) ≡ some_state (at memory r w y z)
    read_1 a r e = computes p (at memory u w y z) (at memory r w y z) 1 functions.Word (atoms.Num a) (atoms.Var 1) a u r refl (first p memory u w lim y z typed drawn output) e (put_first p memory u w lim y z r typed drawn output)

    pub read_4 : (a r : ℕ) → computed p.world.layout memory functions.Word a u ≡ word r → does p (acts.Compute 4 functions.Word (atoms.Num a) (atoms.Var 1)) (at memory u w y z) ≡ some_state (at memory u w r z)
    read_4 a r e = computes p (at memory u w y z) (at memory u w r z) 4 functions.Word (atoms.Num a) (atoms.Var 1) a u r refl (first p memory u w lim y z typed drawn output) e (put_fourth p memory u w lim y z r typed drawn output)

    pub read_5 : (a r : ℕ) → computed p.world.layout memory functions.Word a u ≡ word r → does p (acts.Compute 5 functions.Word (atoms.Num a) (atoms.Var 1)) (at memory u w y z) ≡ some_state (at memory u w y r)
    read_5 a r e = computes p (at memory u w y z) (at memory u w y r) 5 functions.Word (atoms.Num a) (atoms.Var 1) a u r refl (first p memory u w lim y z typed drawn output) e (put_fifth p memory u w lim y z r typed drawn output)

    pub next_1 : (r : ℕ) → (u + 1) % 65536 ≡ r → does p (acts.Compute 1 functions.Add (atoms.Var 1) (atoms.Num 1)) (at memory u w y z) ≡ some_state (at memory r w y z)
    next_1 r e = computes p (at memory u w y z) (at memory r w y z) 1 functions.Add (atoms.Var 1) (atoms.Num 1) u 1 r (first p memory u w lim y z typed drawn output) refl (added p memory u 1 r e) (put_first p memory u w lim y z r typed drawn output)

    next_2 : (r : ℕ) → (w + 2) % 65536 ≡ r → does p (acts.Compute 2 functions.Add (atoms.Var 2) (atoms.Num 2)) (at memory u w y z) ≡ some_state (at memory u r y z)
    next_2 r e = computes p (at memory u w y z) (at memory u r y z) 2 functions.Add (atoms.Var 2) (atoms.Num 2) w 2 r (second p memory u w lim y z typed drawn output) refl (added p memory w 2 r e) (put_second p memory u w lim y z r typed drawn output)

    pub sum_5 : (k r : ℕ) → (y + k) % 65536 ≡ r → does p (acts.Compute 5 functions.Add (atoms.Var 4) (atoms.Num k)) (at memory u w y z) ≡ some_state (at memory u w y r)
    sum_5 k r e = computes p (at memory u w y z) (at memory u w y r) 5 functions.Add (atoms.Var 4) (atoms.Num k) y k r (fourth p memory u w lim y z typed drawn output) refl (added p memory y k r e) (put_fifth p memory u w lim y z r typed drawn output)

    pub end_5 : (r : ℕ) → (u + z) % 65536 ≡ r → does p (acts.Compute 5 functions.Add (atoms.Var 1) (atoms.Var 5)) (at memory u w y z) ≡ some_state (at memory u w y r)
    end_5 r e = computes p (at memory u w y z) (at memory u w y r) 5 functions.Add (atoms.Var 1) (atoms.Var 5) u z r (first p memory u w lim y z typed drawn output) (fifth p memory u w lim y z typed drawn output) (added p memory u z r e) (put_fifth p memory u w lim y z r typed drawn output)

    pub end_4 : (r : ℕ) → (u + y) % 65536 ≡ r → does p (acts.Compute 4 functions.Add (atoms.Var 1) (atoms.Var 4)) (at memory u w y z) ≡ some_state (at memory u w r z)
    end_4 r e = computes p (at memory u w y z) (at memory u w r z) 4 functions.Add (atoms.Var 1) (atoms.Var 4) u y r (first p memory u w lim y z typed drawn output) (fourth p memory u w lim y z typed drawn output) (added p memory u y r e) (put_fourth p memory u w lim y z r typed drawn output)

    pub half_4 : (r : ℕ) → (y + 32768) % 65536 ≡ r → does p (acts.Compute 4 functions.Add (atoms.Var 4) (atoms.Num 32768)) (at memory u w y z) ≡ some_state (at memory u w r z)
    half_4 r e = computes p (at memory u w y z) (at memory u w r z) 4 functions.Add (atoms.Var 4) (atoms.Num 32768) y 32768 r (fourth p memory u w lim y z typed drawn output) refl (added p memory y 32768 r e) (put_fourth p memory u w lim y z r typed drawn output)

    pub own_5 : does p (acts.Copy 5 (atoms.Var 1)) (at memory u w y z) ≡ some_state (at memory u w y u)
    own_5 = copies p (at memory u w y z) (at memory u w y u) 5 (atoms.Var 1) u (first p memory u w lim y z typed drawn output) (put_fifth p memory u w lim y z u typed drawn output)

    pub set_5 : (k : ℕ) → does p (acts.Copy 5 (atoms.Num k)) (at memory u w y z) ≡ some_state (at memory u w y k)
    set_5 k = copies p (at memory u w y z) (at memory u w y k) 5 (atoms.Num k) k refl (put_fifth p memory u w lim y z k typed drawn output)

  -- a field of a box
  pub field : (m : Spot p sh S) (a i k j x : ℕ) → Cell sh j x → j ≡ k + i → i ≤ 3 → a ≡ at_cell (heap_at + i) + 32768 → computed p.world.layout m.memory functions.Word a (49152 + k) ≡ word x
  field m a i k j x c e le is_at =
      let mapped = has.mapped.room in
      let top = is.room in
      let low = c.fixed.0 in
      reads_cell p.world.layout m.memory m.cells a (49152 + k) (heap_at + j) m.holds (omega arith) (omega arith) ∙ ap word (m.stands.fixed j (omega arith) c.fixed ∙ c.is)

  -- ---- a word is written

  put : (m : Spot p sh S) (j z : ℕ) → 12315 ≤ j → j < end → z < 65536 → Spot p sh S
  put m j z low lt few = record {
    memory = with_cell m.memory j z;
    cells = replaced m.cells j z;
    holds = holds_with p.world.layout m.memory m.cells j z m.holds (omega arith) few;
    stands = stands_away is m.cells (replaced m.cells j z) (λ k below. cond-false (k == j) z (m.cells k) (ne_eqb k j (λ (e : k ≡ j). (omega arith)))) m.stands;
  }

  abbrev if_full : Act
  if_full = acts.When (record { comparison = comparisons.Equal; first = atoms.Var 2; second = atoms.Var 3; answer = true }) 3

  abbrev write_5 : Act
  write_5 = acts.Write widths.Word (atoms.Var 2) (atoms.Num 0) (atoms.Var 5)

  abbrev go_on : Act
  go_on = acts.Compute 2 functions.Add (atoms.Var 2) (atoms.Num 2)

  pub emits : (rest : List Act) (f : ℕ) (m : Spot p sh S) (u j y z : ℕ) (ys : List ℕ) (spent most : ℕ) → 12315 ≤ j → j ≤ end → z < 65536 → 2 + spent ≤ most → ((m' : Spot p sh S) → suc j ≤ end → Out f rest m' u (suc j) y z ys (3 + spent) most) → Out f (if_full ∷ write_5 ∷ go_on ∷ rest) m u j y z (z ∷ ys) spent most
  unfolding behind_label put
  emits rest f m u j y z ys spent most low le few cheap next =
      elim (cases_lt j end) [
        | inl lt ↦ (let m' = put m j z low lt few in
            let r = next m' (omega arith) in
            let few' = r.few in
            record {
              count = suc (suc (suc r.count));
              ends = behind (z ∷ []) ys (suc j) (omega arith) (omega arith) (cond-true (j == j) z (m.cells j) (eq-eqb j j refl), tt) (λ k far. cond-false (k == j) z (m.cells k) (ne_eqb k j (λ (e : k ≡ j). (let q = far (omega arith) in omega arith))))
                  (copies_map (λ x memory locals q. passed (is_full m.memory u (at_cell j) y z false (ne_eqb (at_cell j) lim (λ (e : at_cell j ≡ lim). (omega arith))))
                  (done (writes p (at m.memory u (at_cell j) y z) widths.Word (atoms.Var 2) (atoms.Num 0) (atoms.Var 5) (at_cell j) 0 z m'.memory (second p m.memory u (at_cell j) lim y z typed drawn output) refl (fifth p m.memory u (at_cell j) lim y z typed drawn output) (writes_cell p.world.layout m.memory m.cells (at_cell j) 0 z j m.holds (omega arith) (omega arith)))
                  (done (next_2 m'.memory u (at_cell j) y z (at_cell (suc j)) (omega arith)) q))) r.ends);
              few = omega arith;
            })
        | inr ge ↦ record {
          count = 2;
          ends = past_it m.memory (u ∷ at_cell j ∷ at_cell end ∷ y ∷ z ∷ []) m.cells m.holds (omega arith) (λ k far. refl) (taken (is_full m.memory u (at_cell j) y z true (eq-eqb (at_cell j) lim (omega arith))) refl (returns refl));
          few = omega arith;
        }
      ]

  -- it is the end of the row
  pub ends_here : {f : ℕ} {acts : List Act} (m : Spot p sh S) (u j y z i spent most : ℕ) → j ≤ end → Run f acts (at m.memory u (at_cell j) y z) (at_cell j) (at m.memory u (at_cell j) y z) i → i + spent ≤ most → Out f acts m u j y z [] spent most
  ends_here {f} {acts} m u j y z i spent most le r few =
      let same : at_cell j ≡ at_cell (j + 0) = omega arith in
      record { count = i; ends = in_area m.memory (u ∷ at_cell j ∷ at_cell end ∷ y ∷ z ∷ []) m.cells m.holds (omega arith) tt (λ k far. refl) (subst (λ (x : ℕ). Run f acts (at m.memory u (at_cell j) y z) x (at m.memory u (at_cell j) y z) i) same r); few = few }

  -- ---- a part is copied by a call

  abbrev call_part : Act
  call_part = acts.Call (Some 2) (atoms.Routine COPY_OUT) (args.Three (atoms.Var 4) (atoms.Var 2) (atoms.Var 3))

  abbrev if_passed : Act
  if_passed = acts.When (record { comparison = comparisons.Equal; first = atoms.Var 2; second = atoms.Num 0; answer = true }) 3

  pub called : (rest : List Act) (f : ℕ) (m : Spot p sh S) (u j x z : ℕ) (xs ys : List ℕ) (costs spent most : ℕ) → 12315 ≤ j → costs + spent ≤ most + 2 → CopiesOut p f COPY_OUT_ACTS typed output drawn m.memory (x ∷ at_cell j ∷ at_cell end ∷ 0 ∷ 0 ∷ []) m.cells j end xs 5 costs →
      ((m' : Spot p sh S) (i spent' : ℕ) → 12315 ≤ i → i ≤ end → spent' + 3 ≤ spent + costs → Out f rest m' u i x z ys spent' most) → Out f (call_part ∷ if_passed ∷ rest) m u j x z (xs ++ ys) spent most
  unfolding behind_label
  called rest f m u j x z xs ys costs spent most low cheap oc next = by_end oc.ends
    where
      by_end : Copies p.world.layout m.cells j end xs (λ a memory' locals'. Runs p f (5 * f) COPY_OUT_ACTS COPY_OUT_ACTS (state m.memory (x ∷ at_cell j ∷ at_cell end ∷ 0 ∷ 0 ∷ []) typed drawn output) (Returns a) (state memory' locals' typed drawn output) oc.count) → Out f (call_part ∷ if_passed ∷ rest) m u j x z (xs ++ ys) spent most
      by_end (in_area memory locals cells' h le row others q) =
          let few = oc.few in
          let i = j + length xs in
          let m' : Spot p sh S = record { memory = memory; cells = cells'; holds = h; stands = stands_away is m.cells cells' (λ k below. others k (λ from. (omega arith))) m.stands } in
          let r = next m' i (spent + 2 + oc.count) (omega arith) (omega arith) (omega arith) in
          let few' = r.few in
          record {
            count = suc oc.count + suc r.count;
            ends = behind xs ys i refl le row others
                (copies_map (λ a memory'' locals'' q'. calls {f' = f} {w' = 5 * f} {n = oc.count} {n' = suc r.count} {xs = (x, at_cell j, at_cell end)} refl (rw (fourth p m.memory u (at_cell j) lim x z typed drawn output, second p m.memory u (at_cell j) lim x z typed drawn output, third p m.memory u (at_cell j) lim x z typed drawn output) refl) (copy_out_at p has) (omega arith) (omega arith) q (put_second p memory u (at_cell j) lim x z (at_cell i) typed drawn output)
                (passed (second_zero memory u (at_cell i) x z false (ne_eqb (at_cell i) 0 (λ (e : at_cell i ≡ 0). (omega arith)))) q')) r.ends);
            few = omega arith;
          }
      by_end (past_it memory locals cells' h lt others q) =
          let few = oc.few in
          let total = length-append xs ys in
          record {
            count = suc oc.count + 2;
            ends = past_it memory (u ∷ 0 ∷ at_cell end ∷ x ∷ z ∷ []) cells' h (omega arith) others
                (calls {f' = f} {w' = 5 * f} {n = oc.count} {n' = 2} {xs = (x, at_cell j, at_cell end)} refl (rw (fourth p m.memory u (at_cell j) lim x z typed drawn output, second p m.memory u (at_cell j) lim x z typed drawn output, third p m.memory u (at_cell j) lim x z typed drawn output) refl) (copy_out_at p has) (omega arith) (omega arith) q (put_second p memory u (at_cell j) lim x z 0 typed drawn output)
                (taken (second_zero memory u 0 x z true refl) refl (returns refl)));
            few = omega arith;
          }

  -- ---- what is copied, and what it costs

  abbrev pub seen : Value → Bool × ℕ
  seen v = looked (resolved S v) S n v (walk S v)

  abbrev seen_all : Values → Bool × ℕ
  seen_all vs = all_looked (all_resolved S vs) S n vs

  abbrev pub row : Value → List ℕ
  row v = words_of (resolved S v)

  abbrev pub rows : Values → List ℕ
  rows vs = map cell_word (cells_of_all (all_resolved S vs))

  abbrev pub price_of : Value → ℕ
  price_of v = 20 * (looked (resolved S v) S n v (walk S v)).1 + 8 * letters_in (resolved S v)

  abbrev pub price_all : Values → ℕ
  price_all vs = 20 * (all_looked (all_resolved S vs) S n vs).1 + 8 * letters_in_all (all_resolved S vs)

  abbrev pub Absent : Value → Type 0
  Absent v = contains n (resolved S v) ≡ false

  abbrev pub AllAbsent : Values → Type 0
  AllAbsent vs = any_contains n (all_resolved S vs) ≡ false

  pub rows_more : (a : Value) (vs : Values) → rows (More a vs) ≡ row a ++ rows vs
  rows_more a vs = map-append cell_word (cells_of (resolved S a)) (cells_of_all (all_resolved S vs))

  pub seen_more : (a : Value) (vs : Values) → Absent a → (seen_all (More a vs)).1 ≡ (seen a).1 + (seen_all vs).1
  seen_more a vs e = ap (λ (q : Bool × ℕ). q.1) (then_on (seen a) (seen_all vs) (looked_found S s n a ∙ e))

  pub resolved_walked : (v w : Value) → walk S v ≡ w → resolved S v ≡ resolved S w
  resolved_walked v w e = sym (walked S s v).same ∙ ap (resolved S) e

  pub seen_node : (v : Value) (g : Label) (vs : Values) → walk S v ≡ Node g vs → (seen v).1 ≡ links S v + 1 + (seen_all vs).1
  seen_node v g vs e = rw (e, resolved_walked v (Node g vs) e, resolved_node S g vs) refl

  pub resolved_as : (v : Value) (g : Label) (vs : Values) → walk S v ≡ Node g vs → resolved S v ≡ Node g (all_resolved S vs)
  resolved_as v g vs e = resolved_walked v (Node g vs) e ∙ resolved_node S g vs
