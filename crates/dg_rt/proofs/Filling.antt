-- The variables of a frame are made: each holds its own place.
use Rattle.std.proofs.Common.{◌≡◌, ℕ, zero, suc, ◌+◌, ◌*◌, ◌%◌, ◌<◌, ◌≤◌, true, false, List, [], ◌∷◌, Option, Some, refl, sym, ◌∙◌, subst, arith}
use Rattle.std.proofs.lemmas.Bool.{eq-eqb, ne_eqb}
use Rattle.z_lang.specs.declared.act.Act.{Act}
use Rattle.z_lang.specs.declared.act.Act.TheVariants as acts
use Rattle.z_lang.specs.declared.act.Atom.TheVariants as atoms
use Rattle.z_lang.specs.declared.act.Function.TheVariants as functions
use Rattle.z_lang.specs.declared.act.Comparison.TheVariants as comparisons
use Rattle.z_lang.specs.declared.act.Width.TheVariants as widths
use Rattle.z_lang.specs.State.{Program}
use Rattle.z_lang.specs.Runs.{ActsRun as Runs, Returns, goes, taken, passed, done, returns, behind_label}
use Rattle.dg_rt.specs.Cells.{at_cell, with_cell, replaced, Holds}
use Rattle.dg_rt.specs.Areas.{heap_at, IsMapped, state}
use Rattle.dg_rt.specs.Back.{at_place}
use Rattle.dg_rt.proofs.Cells.{holds_with, writes_cell, other_cell, same_cell}
use Rattle.dg_rt.proofs.Following.{tested, computes, writes}
use Rattle.dg_rt.proofs.Locals.{get_2, get_3, set_2, adds}

-- The loop, which stands behind label 0, and what follows it.
abbrev pub fill_acts : List Act → List Act
fill_acts rest =
    acts.When (record { comparison = comparisons.Equal; first = atoms.Var 2; second = atoms.Var 3; answer = true }) 2
    ∷ acts.Write widths.Word (atoms.Num 670) (atoms.Var 2) (atoms.Var 2) ∷ acts.Compute 2 functions.Add (atoms.Var 2) (atoms.Num 1) ∷ acts.Goto 0 ∷ rest

abbrev pub some_acts : List Act → Option (List Act)
some_acts body = Some body

-- Cells in a row hold their own places.
pub record Fills (p : Program) (f w : ℕ) (body rest : List Act) (memory typed output : List ℕ) (drawn q d j left : ℕ) (c : ℕ → ℕ) : Type 0 where
  pub memory' : List ℕ
  pub cells' : ℕ → ℕ
  pub locals' : List ℕ
  pub holds : Holds p.world.layout memory' cells'
  pub are : (i : ℕ) → i < left → cells' (heap_at + (j + i)) ≡ at_place (j + i)
  pub others : (k : ℕ) → (heap_at + j ≤ k → heap_at + (j + left) ≤ k) → cells' k ≡ c k
  pub count : ℕ
  pub few : count ≤ 4 * left + 2
  pub runs : Runs p f w body (fill_acts rest) (state memory (q ∷ at_place j ∷ at_place (j + left) ∷ d ∷ []) typed drawn output) (Returns 0)
      (state memory' locals' typed drawn output) count

pub fills : (p : Program) → IsMapped p → (f w : ℕ) (body rest out : List Act) → behind_label 0 body ≡ some_acts (fill_acts rest) → behind_label 2 body ≡ some_acts (acts.Return (atoms.Num 0) ∷ out) → (typed output : List ℕ) (drawn q d : ℕ) (left j : ℕ) (memory : List ℕ) (c : ℕ → ℕ) → Holds p.world.layout memory c → j + left ≤ 10000 →
    Fills p f w body rest memory typed output drawn q d j left c
fills p map f w body rest out loop end typed output drawn q d zero j memory c h le =
    let room = map.room in
    let e = at_place (j + 0) in
    let s0 = state memory (q ∷ at_place j ∷ e ∷ d ∷ []) typed drawn output in
    record {
      memory' = memory;
      cells' = c;
      locals' = q ∷ at_place j ∷ e ∷ d ∷ [];
      holds = h;
      are = λ i lt. absurd (omega arith);
      others = λ k far. refl;
      count = 2;
      few = omega arith;
      runs = taken (tested p s0 comparisons.Equal (atoms.Var 2) (atoms.Var 3) true (at_place j) e true (get_2 p memory q (at_place j) e d typed drawn output) (get_3 p memory q (at_place j) e d typed drawn output) (eq-eqb (at_place j) e (omega arith))) end (returns refl);
    }
fills p map f w body rest out loop end typed output drawn q d (suc left) j memory c h le =
    let room = map.room in
    let e = at_place (j + suc left) in
    let k0 = heap_at + j in
    let s0 = state memory (q ∷ at_place j ∷ e ∷ d ∷ []) typed drawn output in
    let m1 = with_cell memory k0 (at_place j) in
    let c1 = replaced c k0 (at_place j) in
    let s1 = state m1 (q ∷ at_place j ∷ e ∷ d ∷ []) typed drawn output in
    let s2 = state m1 (q ∷ at_place (suc j) ∷ e ∷ d ∷ []) typed drawn output in
    let h1 = holds_with p.world.layout memory c k0 (at_place j) h (omega arith) (omega arith) in
    let r = fills p map f w body rest out loop end typed output drawn q d left (suc j) m1 c1 h1 (omega arith) in
    let few = r.few in
    let same : at_place (suc j + left) ≡ e = omega arith in
    let there : (670 + 2 * at_place j) % 65536 ≡ at_cell k0 = omega arith in
    record {
      memory' = r.memory';
      cells' = r.cells';
      locals' = r.locals';
      holds = r.holds;
      are = λ i lt. at_index i lt r;
      others = λ k far. r.others k (λ low. (let z : heap_at + (j + suc left) ≤ k = far (omega arith) in omega arith)) ∙ other_cell c k0 (at_place j) k (λ (x : k ≡ k0). (let z : heap_at + (j + suc left) ≤ k = far (omega arith) in omega arith));
      count = suc (suc (suc (suc r.count)));
      few = omega arith;
      runs = passed (tested p s0 comparisons.Equal (atoms.Var 2) (atoms.Var 3) true (at_place j) e false (get_2 p memory q (at_place j) e d typed drawn output) (get_3 p memory q (at_place j) e d typed drawn output) (ne_eqb (at_place j) e (λ (x : at_place j ≡ e). (omega arith))))
          (done (writes p s0 widths.Word (atoms.Num 670) (atoms.Var 2) (atoms.Var 2) 670 (at_place j) (at_place j) m1 refl (get_2 p memory q (at_place j) e d typed drawn output) (get_2 p memory q (at_place j) e d typed drawn output) (writes_cell p.world.layout memory c 670 (at_place j) (at_place j) k0 h there (omega arith)))
          (done (computes p s1 s2 2 functions.Add (atoms.Var 2) (atoms.Num 1) (at_place j) 1 (at_place (suc j)) (get_2 p m1 q (at_place j) e d typed drawn output) refl (adds p m1 (at_place j) 1 (at_place (suc j)) (omega arith) (omega arith)) (set_2 p m1 q (at_place j) e d (at_place (suc j)) typed drawn output))
          (goes loop (subst (λ (y : ℕ). Runs p f w body (fill_acts rest) (state m1 (q ∷ at_place (suc j) ∷ y ∷ d ∷ []) typed drawn output) (Returns 0) (state r.memory' r.locals' typed drawn output) r.count) same r.runs))));
    }
  where
    at_index : (i : ℕ) → i < suc left → (r : Fills p f w body rest (with_cell memory (heap_at + j) (at_place j)) typed output drawn q d (suc j) left (replaced c (heap_at + j) (at_place j))) → r.cells' (heap_at + (j + i)) ≡ at_place (j + i)
    at_index zero lt r = let z : j + 0 ≡ j = omega arith in subst (λ (x : ℕ). r.cells' (heap_at + x) ≡ at_place x) (sym z) (r.others (heap_at + j) (λ low. (omega arith)) ∙ same_cell c (heap_at + j) (at_place j))
    at_index (suc i) lt r = let z : suc j + i ≡ j + suc i = omega arith in subst (λ (x : ℕ). r.cells' (heap_at + x) ≡ at_place x) z (r.are i (omega arith))
