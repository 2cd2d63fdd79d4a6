-- The routines that read and write words of objects do so.
use Rattle.std.proofs.Common.{◌≡◌, ℕ, zero, suc, ◌+◌, ◌≤◌, inl, inr, true, false, List, [], ◌∷◌, drop, refl, ap, ◌∙◌, arith}
use Rattle.std.proofs.lemmas.Bool.{ne_eqb, cases_eq}
use Rattle.z_lang.specs.declared.act.Atom.TheVariants as atoms
use Rattle.z_lang.specs.declared.act.Comparison.TheVariants as comparisons
use Rattle.z_lang.specs.declared.act.Function.TheVariants as functions
use Rattle.z_lang.specs.declared.act.Width.TheVariants as widths
use Rattle.z_lang.specs.State.{State, Program}
use Rattle.z_lang.specs.Runs.{done, taken, passed, goes, returns, behind_label, at_label}
use Rattle.dg_rt.specs.declared.world.TheConstants.{CLEAR_ALL_ACTS}
use Rattle.dg_rt.specs.Cells.{at_cell, with_cell, replaced, Holds}
use Rattle.dg_rt.specs.Areas.{areas_end, state}
use Rattle.dg_rt.specs.Tables.{ValueWorks, SetWorks, ClearWorks, ClearsAll, ClearAllWorks}
use Rattle.dg_rt.proofs.Cells.{holds_with, reads_cell, writes_cell, other_cell, same_cell}
use Rattle.dg_rt.proofs.Following.{tested, computes, writes, local_1, local_2, local_3, put_1, put_2}
use Rattle.dg_rt.proofs.Locals.{subtracts}

pub value_works : ValueWorks
value_works p has f w memory typed output drawn t n o cells h table lt =
    let within = table.within in
    let low = h.low in
    let a = at_cell t in
    let x = cells (t + o) in
    done (computes p (state memory (a ∷ o ∷ []) typed drawn output) (state memory (x ∷ o ∷ []) typed drawn output) 1 functions.Word (atoms.Var 1) (atoms.Var 2) a o x (local_1 p memory a (o ∷ []) typed drawn output) (local_2 p memory a o [] typed drawn output) (reads_cell p.world.layout memory cells a o (t + o) h (omega arith) (omega arith)) (put_1 p memory a x (o ∷ []) typed drawn output))
    (returns (local_1 p memory x (o ∷ []) typed drawn output))

pub set_works : SetWorks
set_works p has f w memory typed output drawn t n o x cells h table lt small =
    let within = table.within in
    let low = h.low in
    let a = at_cell t in
    let k = t + o in
    record {
      memory' = with_cell memory k x;
      cells' = replaced cells k x;
      locals' = a ∷ o ∷ x ∷ [];
      holds = holds_with p.world.layout memory cells k x h (omega arith) small;
      is = same_cell cells k x;
      others = λ j ne. other_cell cells k x j ne;
      count = 2;
      few = omega arith;
      runs = done (writes p (state memory (a ∷ o ∷ x ∷ []) typed drawn output) widths.Word (atoms.Var 1) (atoms.Var 2) (atoms.Var 3) a o x (with_cell memory k x) (local_1 p memory a (o ∷ x ∷ []) typed drawn output) (local_2 p memory a o (x ∷ []) typed drawn output) (local_3 p memory a o x [] typed drawn output) (writes_cell p.world.layout memory cells a o x k h (omega arith) (omega arith))) (returns refl);
    }

pub clear_works : ClearWorks
clear_works p has f w memory typed output drawn t n o cells h table lt =
    let within = table.within in
    let low = h.low in
    let a = at_cell t in
    let k = t + o in
    record {
      memory' = with_cell memory k 65535;
      cells' = replaced cells k 65535;
      locals' = a ∷ o ∷ [];
      holds = holds_with p.world.layout memory cells k 65535 h (omega arith) (omega arith);
      is = same_cell cells k 65535;
      others = λ j ne. other_cell cells k 65535 j ne;
      count = 2;
      few = omega arith;
      runs = done (writes p (state memory (a ∷ o ∷ []) typed drawn output) widths.Word (atoms.Var 1) (atoms.Var 2) (atoms.Num 65535) a o 65535 (with_cell memory k 65535) (local_1 p memory a (o ∷ []) typed drawn output) (local_2 p memory a o [] typed drawn output) refl (writes_cell p.world.layout memory cells a o 65535 k h (omega arith) (omega arith))) (returns refl);
    }

-- ## All objects

module _ (p : Program) (f w : ℕ) (typed output : List ℕ) (drawn t : ℕ) (from : areas_end ≤ t) where
  abbrev a : ℕ
  a = at_cell t

  abbrev now : List ℕ → ℕ → State
  now memory i = state memory (a ∷ i ∷ []) typed drawn output

  clears : (n : ℕ) (memory : List ℕ) (cells : ℕ → ℕ) → Holds p.world.layout memory cells → at_cell (t + n) ≤ p.world.layout.base → ClearsAll p f w (drop 1 CLEAR_ALL_ACTS) memory typed output drawn t n cells
  unfolding behind_label
  clears zero memory cells h within = record {
    memory' = memory;
    cells' = cells;
    locals' = a ∷ 0 ∷ [];
    holds = h;
    are = λ o lt. absurd (omega arith);
    others = λ k far. refl;
    count = 2;
    few = omega arith;
    runs = taken (tested p (now memory 0) comparisons.Equal (atoms.Var 2) (atoms.Num 0) true 0 0 true (local_2 p memory a 0 [] typed drawn output) refl refl) refl (returns refl);
  }
  clears (suc n) memory cells h within =
      let low = h.low in
      let k = t + n in
      let m1 = with_cell memory k 65535 in
      let c1 = replaced cells k 65535 in
      let h1 = holds_with p.world.layout memory cells k 65535 h (omega arith) (omega arith) in
      let r = clears n m1 c1 h1 (omega arith) in
      let few = r.few in
      record {
        memory' = r.memory';
        cells' = r.cells';
        locals' = r.locals';
        holds = r.holds;
        are = λ o lt. elim (cases_eq o n) [
          | inl same ↦ ap (λ (i : ℕ). r.cells' (t + i)) same ∙ (r.others k (λ le. (omega arith)) ∙ same_cell cells k 65535)
          | inr ne ↦ r.are o (omega arith)
        ];
        others = λ j far. r.others j (λ le. (let z : t + suc n ≤ j = far le in omega arith)) ∙ other_cell cells k 65535 j (λ (e : j ≡ k). (let z : t + suc n ≤ j = far (omega arith) in omega arith));
        count = suc (suc (suc (suc r.count)));
        few = omega arith;
        runs = passed (tested p (now memory (suc n)) comparisons.Equal (atoms.Var 2) (atoms.Num 0) true (suc n) 0 false (local_2 p memory a (suc n) [] typed drawn output) refl (ne_eqb (suc n) 0 (λ (e : suc n ≡ 0). (omega arith))))
            (done (computes p (now memory (suc n)) (now memory n) 2 functions.Sub (atoms.Var 2) (atoms.Num 1) (suc n) 1 n (local_2 p memory a (suc n) [] typed drawn output) refl (subtracts p memory (suc n) 1 n (omega arith) (omega arith)) (put_2 p memory a (suc n) n [] typed drawn output))
            (done (writes p (now memory n) widths.Word (atoms.Var 1) (atoms.Var 2) (atoms.Num 65535) a n 65535 m1 (local_1 p memory a (n ∷ []) typed drawn output) (local_2 p memory a n [] typed drawn output) refl (writes_cell p.world.layout memory cells a n 65535 k h (omega arith) (omega arith)))
            (goes refl r.runs)));
      }

pub clear_all_works : ClearAllWorks
clear_all_works p has f w memory typed output drawn t n cells h table =
    let r = clears p f w typed output drawn t table.from n memory cells h table.within in
    record { memory' = r.memory'; cells' = r.cells'; locals' = r.locals'; holds = r.holds; are = r.are; others = r.others; count = r.count; few = r.few; runs = at_label r.runs }
