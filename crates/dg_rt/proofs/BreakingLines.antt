-- A line that was read breaks the text.
use Rattle.std.proofs.Common.{◌≡◌, ◌≢◌, ℕ, ◌<◌, ◌≤◌, inl, inr, Bool, true, false, List, [], Some, refl, sym, ap, ◌∙◌, arith}
use Rattle.std.specs.Prelude.{◌==◌, if◌then◌else◌}
use Rattle.std.proofs.lemmas.Bool.{eq-eqb, ne_eqb, cases_eq}
use Rattle.z_lang.specs.declared.act.Atom.TheVariants as atoms
use Rattle.z_lang.specs.declared.act.Comparison.TheVariants as comparisons
use Rattle.z_lang.specs.State.{State, Program}
use Rattle.z_lang.specs.Acts.{answer_of}
use Rattle.z_lang.specs.Runs.{taken, passed, done, at_label, returns, behind_label}
use Rattle.dg_rt.specs.Cells.{with_cell, replaced, Holds}
use Rattle.dg_rt.specs.Areas.{state}
use Rattle.dg_rt.specs.RunTime.{HasRunTime}
use Rattle.dg_rt.specs.Typing.{BreaksLine, BreakWorks}
use Rattle.dg_rt.proofs.Cells.{other_cell, same_cell}
use Rattle.dg_rt.proofs.Following.{IsPut, tested, copies, register, puts}

module _ (p : Program) (has : HasRunTime p) (f w : ℕ) (memory typed output : List ℕ) (drawn : ℕ) (cells : ℕ → ℕ) (h : Holds p.world.layout memory cells) where
  abbrev now : List ℕ → State
  now m = state m [] typed drawn output

  sets : (m : List ℕ) (c : ℕ → ℕ) → Holds p.world.layout m c → (v y : ℕ) → 16 ≤ v → v < 240 → y < 65536 → IsPut p (now m) c v y
  sets m c k v y low lt small = let high = has.mapped.room in puts p (now m) c v y k (omega arith) low lt small

  asks : (b : Bool) → (cells 30 == 0) ≡ b → answer_of p (now memory) (record { comparison = comparisons.Equal; first = atoms.Var 46; second = atoms.Num 0; answer = false }) ≡ Some b
  asks b e = let high = has.mapped.room in tested p (now memory) comparisons.Equal (atoms.Var 46) (atoms.Num 0) false (cells 30) 0 b (register p (now memory) cells 46 h (omega arith) (omega arith) (omega arith)) refl e

  first_line : cells 30 ≡ 0 → BreaksLine p f w memory typed output drawn cells
  first_line none =
      let put = sets memory cells h 46 1 (omega arith) (omega arith) (omega arith) in
      let m1 = with_cell memory 30 1 in
      let c1 = replaced cells 30 1 in
      let put' = sets m1 c1 put.holds 47 0 (omega arith) (omega arith) (omega arith) in
      record {
        memory' = with_cell m1 31 0;
        cells' = replaced c1 31 0;
        holds = put'.holds;
        lines = other_cell c1 31 0 30 (λ e. (omega arith)) ∙ same_cell cells 30 1 ∙ sym (ap (λ (n : ℕ). if n == 0 then 1 else n) none);
        spaces = same_cell c1 31 0;
        others = λ k n30 n31. other_cell c1 31 0 k n31 ∙ other_cell cells 30 1 k n30;
        count = 4;
        few = omega arith;
        runs = passed (asks true (eq-eqb (cells 30) 0 none)) (done (copies p (now memory) (now m1) 46 (atoms.Num 1) 1 refl put.put_is) (at_label (done (copies p (now m1) (now (with_cell m1 31 0)) 47 (atoms.Num 0) 0 refl put'.put_is) (returns refl))));
      }

  more_lines : cells 30 ≢ 0 → BreaksLine p f w memory typed output drawn cells
  unfolding behind_label
  more_lines some =
      let put = sets memory cells h 47 0 (omega arith) (omega arith) (omega arith) in
      let m1 = with_cell memory 31 0 in
      let same : (if cells 30 == 0 then 1 else cells 30) ≡ cells 30 = rw (ne_eqb (cells 30) 0 some) refl in
      record {
        memory' = m1;
        cells' = replaced cells 31 0;
        holds = put.holds;
        lines = other_cell cells 31 0 30 (λ e. (omega arith)) ∙ sym same;
        spaces = same_cell cells 31 0;
        others = λ k n30 n31. other_cell cells 31 0 k n31;
        count = 3;
        few = omega arith;
        runs = taken (asks false (ne_eqb (cells 30) 0 some)) refl (done (copies p (now memory) (now m1) 47 (atoms.Num 0) 0 refl put.put_is) (returns refl));
      }

pub break_works : BreakWorks
break_works p has f w memory typed output drawn cells h = elim (cases_eq (cells 30) 0) [
  | inl none ↦ first_line p has f w memory typed output drawn cells h none
  | inr some ↦ more_lines p has f w memory typed output drawn cells h some
]
