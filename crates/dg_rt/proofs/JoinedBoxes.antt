-- The letters of an unknown word are written into a row.
use Rattle.std.proofs.Common.{◌≡◌, ℕ, suc, ◌+◌, ◌<◌, ◌≤◌, inl, inr, Bool, true, false, List, [], ◌∷◌, drop, length, Some, refl, sym, ap, ◌∙◌, subst, arith}
use Rattle.std.specs.Prelude.{◌==◌}
use Rattle.std.proofs.lemmas.Bool.{cases_eq, eq-eqb, ne_eqb}
use Rattle.z_lang.specs.declared.act.Act.{Act}
use Rattle.z_lang.specs.declared.act.Atom.TheVariants as atoms
use Rattle.z_lang.specs.declared.act.Comparison.TheVariants as comparisons
use Rattle.z_lang.specs.declared.act.Function.TheVariants as functions
use Rattle.z_lang.specs.declared.act.Width.TheVariants as widths
use Rattle.z_lang.specs.State.{State, Program}
use Rattle.z_lang.specs.Acts.{answer_of}
use Rattle.z_lang.specs.Runs.{ActsRun as Runs, Returns, at_label, goes, taken, passed, done, returns, behind_label}
use Rattle.z_lang.specs.Standing.{IsKept}
use Rattle.dg_rt.specs.declared.joining.TheConstants.{BOX_LETTERS_ACTS}
use Rattle.dg_rt.specs.Cells.{at_cell, with_cell, replaced, Holds}
use Rattle.dg_rt.specs.Areas.{heap_at, state}
use Rattle.dg_rt.specs.Copies.{Row}
use Rattle.dg_rt.specs.RunTime.{HasRunTime}
use Rattle.dg_rt.specs.Shapes.{ArePrinted}
use Rattle.dg_rt.proofs.Cells.{holds_with, reads_cell, writes_cell, other_cell, same_cell}
use Rattle.dg_rt.proofs.Following.{word, tested, computes, writes}
use Rattle.dg_rt.proofs.JoinedRows.{Puts, in_row, past_row, mapped}
use Rattle.dg_rt.proofs.LaySteps.{kept_cell}
use Rattle.dg_rt.proofs.Lettering.{LieAt}
use Rattle.dg_rt.proofs.Locals.{added, get_1, get_2, get_3, get_4, set_1, set_2, set_3, set_4}

module _ (p : Program) (has : HasRunTime p) (story : List ℕ) (f w : ℕ) (typed output : List ℕ) (drawn : ℕ) where
  abbrev now : List ℕ → ℕ → ℕ → ℕ → ℕ → State
  now m a b c d = state m (a ∷ b ∷ c ∷ d ∷ []) typed drawn output

  abbrev From : List Act → State → ℕ → List ℕ → List ℕ → ℕ → Type 0
  From acts s x m l i = Runs p f w BOX_LETTERS_ACTS acts s (Returns x) (state m l typed drawn output) i

  -- letters in the heap aren't changed by what is written into the row
  still : (cells : ℕ → ℕ) (j y k : ℕ) (xs : List ℕ) → 15315 ≤ j → LieAt cells k xs → LieAt (replaced cells j y) k xs
  still cells j y k [] le l = tt
  still cells j y k (x ∷ xs) le l = let low = l.0.1 in ((other_cell cells j y (heap_at + (k + 3)) (λ (e : heap_at + (k + 3) ≡ j). (omega arith)) ∙ l.0.0, l.0.1), still cells j y (suc k) xs le l.1)

  at_end : (m : List ℕ) (a b c d : ℕ) (t : Bool) → (a == c) ≡ t → answer_of p (now m a b c d) (record { comparison = comparisons.Equal; first = atoms.Var 1; second = atoms.Var 3; answer = true }) ≡ Some t
  at_end m a b c d t e = tested p (now m a b c d) comparisons.Equal (atoms.Var 1) (atoms.Var 3) true a c t (get_1 p m a b c d typed drawn output) (get_3 p m a b c d typed drawn output) e

  is_full : (m : List ℕ) (a b c d : ℕ) (t : Bool) → (b == 31664) ≡ t → answer_of p (now m a b c d) (record { comparison = comparisons.Equal; first = atoms.Var 2; second = atoms.Num 31664; answer = true }) ≡ Some t
  is_full m a b c d t e = tested p (now m a b c d) comparisons.Equal (atoms.Var 2) (atoms.Num 31664) true b 31664 t (get_2 p m a b c d typed drawn output) refl e

  none_left : (m : List ℕ) (cells : ℕ → ℕ) (k j d end : ℕ) → Holds p.world.layout m cells → IsKept p.world.layout.base story m → j ≤ 15800 → 49152 + k ≡ end → Puts p story cells j (Some []) 3 (From (drop 4 BOX_LETTERS_ACTS) (now m (49152 + k) (at_cell j) end d))
  unfolding behind_label
  none_left m cells k j d end h kept le is =
      let a = 49152 + k in
      let o = at_cell j in
      let last : at_cell j ≡ at_cell (j + 0) = omega arith in
      in_row [] m (a ∷ o ∷ end ∷ d ∷ []) cells 2 refl tt (omega arith) h kept tt (λ i far. refl) (omega arith)
      (subst (λ (y : ℕ). From (drop 4 BOX_LETTERS_ACTS) (now m a o end d) y m (a ∷ o ∷ end ∷ d ∷ []) 2) last
      (taken (at_end m a o end d true (eq-eqb a end is)) refl
      (returns (get_2 p m a o end d typed drawn output))))

  too_many : (m : List ℕ) (cells : ℕ → ℕ) (k j d end x : ℕ) (xs : List ℕ) → Holds p.world.layout m cells → IsKept p.world.layout.base story m → j ≡ 15800 → 49152 + k < end → Puts p story cells j (Some (x ∷ xs)) 3 (From (drop 4 BOX_LETTERS_ACTS) (now m (49152 + k) (at_cell j) end d))
  unfolding behind_label
  too_many m cells k j d end x xs h kept full lt =
      let a = 49152 + k in
      let o = at_cell j in
      past_row m (a ∷ o ∷ end ∷ d ∷ []) cells 31666 3 (λ ys e. let same : x ∷ xs ≡ ys = cc e in let size : length (x ∷ xs) ≡ length ys = ap length same in omega arith) h kept (λ i far. refl) (omega arith) (omega arith) (omega arith)
      (passed (at_end m a o end d false (ne_eqb a end (λ (e : a ≡ end). (omega arith))))
      (taken (is_full m a o end d true (eq-eqb o 31664 (omega arith))) refl
      (returns refl)))

  one_more : (m : List ℕ) (cells : ℕ → ℕ) (k j d end x : ℕ) (xs : List ℕ) → Holds p.world.layout m cells → IsKept p.world.layout.base story m → j < 15800 → 49152 + k < end → cells (heap_at + (k + 3)) ≡ x → k + 3 < 10000 → ArePrinted (x ∷ xs) →
      Puts p story (replaced cells j x) (suc j) (Some xs) 3 (From (drop 4 BOX_LETTERS_ACTS) (now (with_cell m j x) (49152 + suc k) (at_cell (suc j)) end x)) → Puts p story cells j (Some (x ∷ xs)) 3 (From (drop 4 BOX_LETTERS_ACTS) (now m (49152 + k) (at_cell j) end d))
  unfolding behind_label
  one_more m cells k j d end x xs h kept lt more is low fine rest = by_rest rest
    where
      way : (v i : ℕ) (m' l' : List ℕ) → From (drop 4 BOX_LETTERS_ACTS) (now (with_cell m j x) (49152 + suc k) (at_cell (suc j)) end x) v m' l' i → From (drop 4 BOX_LETTERS_ACTS) (now m (49152 + k) (at_cell j) end d) v m' l' (suc (suc (suc (suc (suc (suc (suc i)))))))
      way v i m' l' r =
          let room = has.mapped.room in
          let a = 49152 + k in
          let a1 = 49152 + suc k in
          let o = at_cell j in
          let o1 = at_cell (suc j) in
          let m1 = with_cell m j x in
          passed (at_end m a o end d false (ne_eqb a end (λ (e : a ≡ end). (omega arith))))
          (passed (is_full m a o end d false (ne_eqb o 31664 (λ (e : o ≡ 31664). (omega arith))))
          (done (computes p (now m a o end d) (now m a o end x) 4 functions.Word (atoms.Num 33444) (atoms.Var 1) 33444 a x refl (get_1 p m a o end d typed drawn output) (reads_cell p.world.layout m cells 33444 a (heap_at + (k + 3)) h (omega arith) (omega arith) ∙ ap word is) (set_4 p m a o end d x typed drawn output))
          (done (writes p (now m a o end x) widths.Word (atoms.Var 2) (atoms.Num 0) (atoms.Var 4) o 0 x m1 (get_2 p m a o end x typed drawn output) refl (get_4 p m a o end x typed drawn output) (writes_cell p.world.layout m cells o 0 x j h (omega arith) (omega arith)))
          (done (computes p (now m1 a o end x) (now m1 a o1 end x) 2 functions.Add (atoms.Var 2) (atoms.Num 2) o 2 o1 (get_2 p m1 a o end x typed drawn output) refl (added p m1 o 2 o1 (omega arith)) (set_2 p m1 a o end x o1 typed drawn output))
          (done (computes p (now m1 a o1 end x) (now m1 a1 o1 end x) 1 functions.Add (atoms.Var 1) (atoms.Num 1) a 1 a1 (get_1 p m1 a o1 end x typed drawn output) refl (added p m1 a 1 a1 (omega arith)) (set_1 p m1 a o1 end x a1 typed drawn output))
          (goes refl r))))))

      by_rest : Puts p story (replaced cells j x) (suc j) (Some xs) 3 (From (drop 4 BOX_LETTERS_ACTS) (now (with_cell m j x) (49152 + suc k) (at_cell (suc j)) end x)) → Puts p story cells j (Some (x ∷ xs)) 3 (From (drop 4 BOX_LETTERS_ACTS) (now m (49152 + k) (at_cell j) end d))
      by_rest (in_row ys m' l' c' count e fine' short h' kept' row others few runs) =
          let same : xs ≡ ys = cc e in
          let size : length xs ≡ length ys = ap length same in
          let last : at_cell (suc j + length ys) ≡ at_cell (j + length (x ∷ xs)) = omega arith in
          in_row (x ∷ xs) m' l' c' (suc (suc (suc (suc (suc (suc (suc count))))))) refl fine (omega arith) h' kept' (others j (λ z. (omega arith)) ∙ same_cell cells j x, subst (λ (zs : List ℕ). Row c' (suc j) zs) (sym same) row)
          (λ i far. others i (λ z. far (omega arith)) ∙ other_cell cells j x i (λ (q : i ≡ j). (let z = far (omega arith) in omega arith))) (omega arith)
          (subst (λ (v : ℕ). From (drop 4 BOX_LETTERS_ACTS) (now m (49152 + k) (at_cell j) end d) v m' l' (suc (suc (suc (suc (suc (suc (suc count)))))))) last (way (at_cell (suc j + length ys)) count m' l' runs))
      by_rest (past_row m' l' c' v count not h' kept' others above high few runs) =
          past_row m' l' c' v (suc (suc (suc (suc (suc (suc (suc count))))))) (λ ys e. let same : x ∷ xs ≡ ys = cc e in let size : length (x ∷ xs) ≡ length ys = ap length same in let q = not xs refl in omega arith) h' kept'
          (λ i far. others i (λ z. far (omega arith)) ∙ other_cell cells j x i (λ (q : i ≡ j). (let z = far (omega arith) in omega arith))) above high (omega arith)
          (way v count m' l' runs)

  letters : (xs m : List ℕ) (cells : ℕ → ℕ) (k j d end : ℕ) → Holds p.world.layout m cells → IsKept p.world.layout.base story m → 15315 ≤ j → j ≤ 15800 → 49152 + (k + length xs) ≡ end → LieAt cells k xs → ArePrinted xs → Puts p story cells j (Some xs) 3 (From (drop 4 BOX_LETTERS_ACTS) (now m (49152 + k) (at_cell j) end d))
  letters [] m cells k j d end h kept from le is lie fine = none_left m cells k j d end h kept le (omega arith)
  letters (x ∷ xs) m cells k j d end h kept from le is lie fine =
      elim (cases_eq j 15800) [
        | inl full ↦ too_many m cells k j d end x xs h kept full (omega arith)
        | inr not ↦ (let lt : j < 15800 = omega arith in
            let room = has.mapped.room in
            one_more m cells k j d end x xs h kept lt (omega arith) lie.0.0 lie.0.1 fine
            (letters xs (with_cell m j x) (replaced cells j x) (suc k) (suc j) x end (holds_with p.world.layout m cells j x h (omega arith) fine.0.0) (kept_cell p.world.layout.base story m j x (omega arith) kept) (omega arith) (omega arith) (omega arith) (still cells j x (suc k) xs from lie.1) fine.1))
      ]

  pub box_letters : (xs m : List ℕ) (cells : ℕ → ℕ) (k j : ℕ) → Holds p.world.layout m cells → IsKept p.world.layout.base story m → 15315 ≤ j → j ≤ 15800 → cells (heap_at + k) ≡ 32768 + length xs → k + 3 + length xs ≤ 10000 → LieAt cells k xs → ArePrinted xs → Puts p story cells j (Some xs) 6 (From BOX_LETTERS_ACTS (now m (49152 + k) (at_cell j) 0 0))
  box_letters xs m cells k j h kept from le header low lie fine =
      let room = has.mapped.room in
      let n = length xs in
      let a = 49152 + k in
      let o = at_cell j in
      let top = 32768 + length xs in
      let end = 49152 + (k + length xs) in
      mapped 3 (λ i. suc (suc (suc i))) (λ i. omega arith)
      (λ v m' l' i rest. done (computes p (now m a o 0 0) (now m a o top 0) 3 functions.Word (atoms.Num 33438) (atoms.Var 1) 33438 a top refl (get_1 p m a o 0 0 typed drawn output) (reads_cell p.world.layout m cells 33438 a (heap_at + k) h (omega arith) (omega arith) ∙ ap word header) (set_3 p m a o 0 0 top typed drawn output))
      (done (computes p (now m a o top 0) (now m a o n 0) 3 functions.Add (atoms.Var 3) (atoms.Num 32768) top 32768 n (get_3 p m a o top 0 typed drawn output) refl (added p m top 32768 n (omega arith)) (set_3 p m a o top 0 n typed drawn output))
      (done (computes p (now m a o n 0) (now m a o end 0) 3 functions.Add (atoms.Var 1) (atoms.Var 3) a n end (get_1 p m a o n 0 typed drawn output) (get_3 p m a o n 0 typed drawn output) (added p m a n end (omega arith)) (set_3 p m a o n 0 end typed drawn output))
      (at_label rest))))
      (letters xs m cells k j 0 end h kept from le refl lie fine)
