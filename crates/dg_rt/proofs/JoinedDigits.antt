-- The digits of a number are written into a row.
use Rattle.std.proofs.Common.{◌≡◌, ℕ, zero, suc, ◌+◌, ◌*◌, ◌/◌, ◌%◌, ◌<◌, ◌≤◌, inl, inr, true, false, List, [], ◌∷◌, drop, length, Some, refl, sym, ap, ◌∙◌, subst, arith, length-append}
use Rattle.std.specs.Fmt.{decimal}
use Rattle.std.proofs.lemmas.Bool.{cases_lt, lt-ltb, le-ltb, ne_eqb}
use Rattle.std.proofs.lemmas.Fmt.{decimal_digit, decimal_step}
use Rattle.z_lang.specs.declared.act.Atom.TheVariants as atoms
use Rattle.z_lang.specs.declared.act.Comparison.TheVariants as comparisons
use Rattle.z_lang.specs.declared.act.Function.TheVariants as functions
use Rattle.z_lang.specs.declared.act.Width.TheVariants as widths
use Rattle.z_lang.specs.State.{State, Program}
use Rattle.z_lang.specs.Runs.{ActsRun as Runs, Returns, at_label, taken, passed, done, calls, returns, behind_label}
use Rattle.z_lang.specs.Standing.{IsKept}
use Rattle.dg_rt.specs.declared.numbers.TheConstants.{DIGITS}
use Rattle.dg_rt.specs.declared.joining.TheConstants.{DIGITS_ACTS}
use Rattle.dg_rt.specs.Cells.{at_cell, with_cell, replaced, Holds}
use Rattle.dg_rt.specs.Areas.{state}
use Rattle.dg_rt.specs.Copies.{Row}
use Rattle.dg_rt.specs.RunTime.{routine_of, HasRunTime}
use Rattle.dg_rt.specs.Shapes.{ArePrinted}
use Rattle.dg_rt.proofs.CaptureSteps.{divides, leaves}
use Rattle.dg_rt.proofs.Cells.{holds_with, writes_cell, other_cell, same_cell}
use Rattle.dg_rt.proofs.CopySteps.{rows_keep, rows_append}
use Rattle.dg_rt.proofs.Following.{tested, computes, writes, local_1, local_2, local_3, put_1, put_2, put_3}
use Rattle.dg_rt.proofs.JoinedRows.{printed_on}
use Rattle.dg_rt.proofs.LaySteps.{kept_cell}
use Rattle.dg_rt.proofs.Locals.{added, less_by, not_less_by}

pub digits_at : (p : Program) → HasRunTime p → p.routine_at (p.names.routine DIGITS) ≡ Some (routine_of 3 DIGITS_ACTS)
digits_at p has = has.each 129 (routine_of 3 DIGITS_ACTS) refl

-- ## Digits

-- Numbers of so many digits and one are below this one.
abbrev pub top : ℕ → ℕ
top zero = 10
top (suc d) = 10 * top d

glyph_printed : (q : ℕ) → q < 10 → ArePrinted ((48 + q) ∷ [])
glyph_printed q lt = ((omega arith, rw (lt-ltb (48 + q) 55296 (omega arith), lt-ltb 31 (48 + q) (omega arith), ne_eqb (48 + q) 127 (λ (e : 48 + q ≡ 127). (omega arith)), le-ltb 55295 (48 + q) (omega arith)) refl), tt)

module _ (p : Program) (has : HasRunTime p) (story typed output : List ℕ) (drawn : ℕ) where
  abbrev now : List ℕ → ℕ → ℕ → ℕ → State
  now m a b c = state m (a ∷ b ∷ c ∷ []) typed drawn output

  -- One digit was written.
  record Last (f w : ℕ) (memory : List ℕ) (cells : ℕ → ℕ) (j q c : ℕ) : Type 0 where
    memory' : List ℕ
    cells' : ℕ → ℕ
    locals' : List ℕ
    holds : Holds p.world.layout memory' cells'
    kept : IsKept p.world.layout.base story memory'
    here : cells' j ≡ 48 + q
    others : (i : ℕ) → (j ≤ i → j + 1 ≤ i) → cells' i ≡ cells i
    runs : Runs p f w DIGITS_ACTS (drop 5 DIGITS_ACTS) (now memory q (at_cell j) c) (Returns (at_cell (suc j))) (state memory' locals' typed drawn output) 4

  last : (f w : ℕ) (memory : List ℕ) (cells : ℕ → ℕ) (j q c : ℕ) → Holds p.world.layout memory cells → IsKept p.world.layout.base story memory → j < 15945 → q < 10 → Last f w memory cells j q c
  last f w memory cells j q c h kept lt small =
      let room = has.mapped.room in
      let a = at_cell j in
      let a' = at_cell (suc j) in
      let x = 48 + q in
      let m1 = with_cell memory j x in
      record {
        memory' = m1;
        cells' = replaced cells j x;
        locals' = x ∷ a' ∷ c ∷ [];
        holds = holds_with p.world.layout memory cells j x h (omega arith) (omega arith);
        kept = kept_cell p.world.layout.base story memory j x (omega arith) kept;
        here = same_cell cells j x;
        others = λ i far. other_cell cells j x i (λ (e : i ≡ j). (let z = far (omega arith) in omega arith));
        runs = done (computes p (now memory q a c) (now memory x a c) 1 functions.Add (atoms.Var 1) (atoms.Num 48) q 48 x (local_1 p memory q (a ∷ c ∷ []) typed drawn output) refl (added p memory q 48 x (omega arith)) (put_1 p memory q x (a ∷ c ∷ []) typed drawn output))
            (done (writes p (now memory x a c) widths.Word (atoms.Var 2) (atoms.Num 0) (atoms.Var 1) a 0 x m1 (local_2 p memory x a (c ∷ []) typed drawn output) refl (local_1 p memory x (a ∷ c ∷ []) typed drawn output) (writes_cell p.world.layout memory cells a 0 x j h (omega arith) (omega arith)))
            (done (computes p (now m1 x a c) (now m1 x a' c) 2 functions.Add (atoms.Var 2) (atoms.Num 2) a 2 a' (local_2 p m1 x a (c ∷ []) typed drawn output) refl (added p m1 a 2 a' (omega arith)) (put_2 p m1 x a a' (c ∷ []) typed drawn output))
            (returns (local_2 p m1 x a' (c ∷ []) typed drawn output))));
      }

  -- All of them were.
  pub record Digits (f w : ℕ) (memory : List ℕ) (cells : ℕ → ℕ) (k n d : ℕ) : Type 0 where
    pub memory' : List ℕ
    pub cells' : ℕ → ℕ
    pub locals' : List ℕ
    pub holds : Holds p.world.layout memory' cells'
    pub kept : IsKept p.world.layout.base story memory'
    pub short : length (decimal n) ≤ suc d
    pub fine : ArePrinted (decimal n)
    pub row : Row cells' k (decimal n)
    pub others : (i : ℕ) → (k ≤ i → k + length (decimal n) ≤ i) → cells' i ≡ cells i
    pub count : ℕ
    pub few : count ≤ 8 * length (decimal n)
    pub runs : Runs p f w DIGITS_ACTS DIGITS_ACTS (now memory n (at_cell k) 0) (Returns (at_cell (k + length (decimal n)))) (state memory' locals' typed drawn output) count

  one_digit : (f w d n k : ℕ) (memory : List ℕ) (cells : ℕ → ℕ) → Holds p.world.layout memory cells → IsKept p.world.layout.base story memory → n < 10 → k < 15945 → Digits f w memory cells k n d
  unfolding behind_label
  one_digit f w d n k memory cells h kept lt low =
      let is = decimal_digit n lt in
      let size : length (decimal n) ≡ 1 = ap (λ (l : List ℕ). length l) is in
      let r = last f w memory cells k n 0 h kept low lt in
      let end : at_cell (suc k) ≡ at_cell (k + length (decimal n)) = omega arith in
      record {
        memory' = r.memory';
        cells' = r.cells';
        locals' = r.locals';
        holds = r.holds;
        kept = r.kept;
        short = omega arith;
        fine = subst ArePrinted (sym is) (glyph_printed n lt);
        row = subst (Row r.cells' k) (sym is) (r.here, tt);
        others = λ i far. r.others i (λ z. (let q = far z in omega arith));
        count = 5;
        few = omega arith;
        runs = subst (λ (x : ℕ). Runs p f w DIGITS_ACTS DIGITS_ACTS (now memory n (at_cell k) 0) (Returns x) (state r.memory' r.locals' typed drawn output) 5) end
            (taken (tested p (now memory n (at_cell k) 0) comparisons.Less (atoms.Var 1) (atoms.Num 10) true n 10 true (local_1 p memory n (at_cell k ∷ 0 ∷ []) typed drawn output) refl (less_by n 10 (omega arith) (omega arith) lt)) refl r.runs);
      }

  more_digits : (f w d n k : ℕ) (memory : List ℕ) (cells : ℕ → ℕ) → suc d ≤ f → 3 * suc d ≤ w → 10 ≤ n → n < 32768 → k + suc (suc d) ≤ 15945 → (r : Digits d (3 * d) memory cells k (n / 10) d) → Digits f w memory cells k n (suc d)
  unfolding behind_label
  more_digits f w d n k memory cells some enough le small within r =
      let is = decimal_step n le (omega arith) in
      let a = at_cell k in
      let n1 = n / 10 in
      let q = n % 10 in
      let ds = decimal n1 in
      let few = r.few in
      let short = r.short in
      let j = k + length ds in
      let b = at_cell (k + length ds) in
      let l = last f w r.memory' r.cells' (k + length ds) q n1 r.holds r.kept (omega arith) (omega arith) in
      let size : length (decimal n) ≡ length ds + 1 = ap (λ (xs : List ℕ). length xs) is ∙ length-append ds ((48 + q) ∷ []) in
      let end : at_cell (suc (k + length ds)) ≡ at_cell (k + length (decimal n)) = omega arith in
      record {
        memory' = l.memory';
        cells' = l.cells';
        locals' = l.locals';
        holds = l.holds;
        kept = l.kept;
        short = omega arith;
        fine = subst ArePrinted (sym is) (printed_on ds ((48 + q) ∷ []) r.fine (glyph_printed q (omega arith)));
        row = subst (Row l.cells' k) (sym is) (rows_append l.cells' k (k + length ds) ds ((48 + q) ∷ []) refl (rows_keep r.cells' l.cells' k ds (λ i from to. l.others i (λ z. (omega arith))) r.row) (l.here, tt));
        others = λ i far. l.others i (λ z. (let y = far (omega arith) in omega arith)) ∙ r.others i (λ z. (let y = far z in omega arith));
        count = suc (suc (suc r.count + suc 4));
        few = omega arith;
        runs = subst (λ (x : ℕ). Runs p f w DIGITS_ACTS DIGITS_ACTS (now memory n a 0) (Returns x) (state l.memory' l.locals' typed drawn output) (suc (suc (suc r.count + suc 4)))) end
            (passed (tested p (now memory n a 0) comparisons.Less (atoms.Var 1) (atoms.Num 10) true n 10 false (local_1 p memory n (a ∷ 0 ∷ []) typed drawn output) refl (not_less_by n 10 (omega arith) (omega arith) le))
            (done (computes p (now memory n a 0) (now memory n a n1) 3 functions.Div (atoms.Var 1) (atoms.Num 10) n 10 n1 (local_1 p memory n (a ∷ 0 ∷ []) typed drawn output) refl (divides p memory n 10 (omega arith) (omega arith) (omega arith)) (put_3 p memory n a 0 n1 [] typed drawn output))
            (calls {f' = d} {w' = 3 * d} {n = r.count} {n' = suc 4} {xs = (n1, a, 0)} {s2 = now r.memory' n b n1} refl (rw (local_3 p memory n a n1 [] typed drawn output, local_2 p memory n a (n1 ∷ []) typed drawn output) refl) (digits_at p has) (omega arith) (omega arith) r.runs (put_2 p r.memory' n a b (n1 ∷ []) typed drawn output)
            (done (computes p (now r.memory' n b n1) (now r.memory' q b n1) 1 functions.Mod (atoms.Var 1) (atoms.Num 10) n 10 q (local_1 p r.memory' n (b ∷ n1 ∷ []) typed drawn output) refl (leaves p r.memory' n 10 (omega arith) (omega arith) (omega arith)) (put_1 p r.memory' n q (b ∷ n1 ∷ []) typed drawn output))
            (at_label l.runs)))));
      }

  pub digits : (d n k f w : ℕ) (memory : List ℕ) (cells : ℕ → ℕ) → Holds p.world.layout memory cells → IsKept p.world.layout.base story memory → n < top d → n < 32768 → d ≤ f → 3 * d ≤ w → k + suc d ≤ 15945 → Digits f w memory cells k n d
  digits zero n k f w memory cells h kept lt small some enough within = one_digit f w 0 n k memory cells h kept lt (omega arith)
  digits (suc d) n k f w memory cells h kept lt small some enough within =
      elim (cases_lt n 10) [
        | inl low ↦ one_digit f w (suc d) n k memory cells h kept low (omega arith)
        | inr le ↦ more_digits f w d n k memory cells some enough le small within (digits d (n / 10) k d (3 * d) memory cells h kept (omega arith) (omega arith) (omega arith) (omega arith) (omega arith))
      ]
