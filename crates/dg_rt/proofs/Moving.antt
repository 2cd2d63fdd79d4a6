-- The routine that moves words does so.
use Rattle.std.proofs.Common.{◌≡◌, ℕ, zero, suc, ◌+◌, ◌<◌, ◌≤◌, true, false, List, [], ◌∷◌, drop, refl, sym, ap, ◌∙◌, arith}
use Rattle.std.proofs.lemmas.Bool.{ne_eqb}
use Rattle.z_lang.specs.declared.act.Atom.TheVariants as atoms
use Rattle.z_lang.specs.declared.act.Comparison.TheVariants as comparisons
use Rattle.z_lang.specs.declared.act.Function.TheVariants as functions
use Rattle.z_lang.specs.declared.act.Width.TheVariants as widths
use Rattle.z_lang.specs.State.{State, Program}
use Rattle.z_lang.specs.Runs.{done, taken, passed, goes, returns, behind_label, at_label}
use Rattle.dg_rt.specs.declared.keeping.TheConstants.{MOVE_ACTS}
use Rattle.dg_rt.specs.Cells.{at_cell, with_cell, replaced, Holds}
use Rattle.dg_rt.specs.Areas.{state}
use Rattle.dg_rt.specs.Moves.{Moves, MoveWorks}
use Rattle.dg_rt.proofs.Cells.{holds_with, reads_cell, writes_cell, other_cell, same_cell}
use Rattle.dg_rt.proofs.Following.{tested, computes, writes}
use Rattle.dg_rt.proofs.Locals.{adds, subtracts, get_1, get_2, get_3, get_4, set_1, set_2, set_3, set_4}

module _ (p : Program) (f w : ℕ) (typed output : List ℕ) (drawn : ℕ) where
  abbrev now : List ℕ → ℕ → ℕ → ℕ → ℕ → State
  now m a b c d = state m (a ∷ b ∷ c ∷ d ∷ []) typed drawn output

  moves : (n : ℕ) (memory : List ℕ) (from to a : ℕ) (cells : ℕ → ℕ) → Holds p.world.layout memory cells → to ≤ from → at_cell (from + n) ≤ p.world.layout.base → at_cell (from + n) < 65536 → Moves p f w (drop 1 MOVE_ACTS) memory typed output drawn from to n a cells
  unfolding behind_label
  moves zero memory from to a cells h le within small = record {
    memory' = memory;
    cells' = cells;
    locals' = at_cell from ∷ at_cell to ∷ 0 ∷ a ∷ [];
    holds = h;
    are = λ i lt. absurd (omega arith);
    others = λ k far. refl;
    count = 2;
    few = omega arith;
    runs = taken (tested p (now memory (at_cell from) (at_cell to) 0 a) comparisons.Equal (atoms.Var 3) (atoms.Num 0) true 0 0 true (get_3 p memory (at_cell from) (at_cell to) 0 a typed drawn output) refl refl) refl (returns refl);
  }
  moves (suc n) memory from to a cells h le within small =
      let x = cells from in
      let s = at_cell from in
      let t = at_cell to in
      let s' = at_cell (suc from) in
      let t' = at_cell (suc to) in
      let m1 = with_cell memory to x in
      let c1 = replaced cells to x in
      let h1 = holds_with p.world.layout memory cells to x h (omega arith) (h.words from) in
      let r = moves n m1 (suc from) (suc to) x c1 h1 (omega arith) (omega arith) (omega arith) in
      let few = r.few in
      record {
        memory' = r.memory';
        cells' = r.cells';
        locals' = r.locals';
        holds = r.holds;
        are = λ i lt. by_place from to n cells r.cells' (r.others to (λ z. (omega arith)) ∙ same_cell cells to x) (λ j lt'. r.are j lt' ∙ other_cell cells to x (suc from + j) (λ z. (omega arith))) i lt;
        others = λ k far. r.others k (λ z. (let q : to + suc n ≤ k = far (omega arith) in omega arith)) ∙ other_cell cells to x k (λ (e : k ≡ to). (let q : to + suc n ≤ k = far (omega arith) in omega arith));
        count = suc (suc (suc (suc (suc (suc (suc r.count))))));
        few = omega arith;
        runs = passed (tested p (now memory s t (suc n) a) comparisons.Equal (atoms.Var 3) (atoms.Num 0) true (suc n) 0 false (get_3 p memory s t (suc n) a typed drawn output) refl (ne_eqb (suc n) 0 (λ (e : suc n ≡ 0). (omega arith))))
            (done (computes p (now memory s t (suc n) a) (now memory s t (suc n) x) 4 functions.Word (atoms.Var 1) (atoms.Num 0) s 0 x (get_1 p memory s t (suc n) a typed drawn output) refl (reads_cell p.world.layout memory cells s 0 from h (omega arith) (omega arith)) (set_4 p memory s t (suc n) a x typed drawn output))
            (done (writes p (now memory s t (suc n) x) widths.Word (atoms.Var 2) (atoms.Num 0) (atoms.Var 4) t 0 x m1 (get_2 p memory s t (suc n) x typed drawn output) refl (get_4 p memory s t (suc n) x typed drawn output) (writes_cell p.world.layout memory cells t 0 x to h (omega arith) (omega arith)))
            (done (computes p (now m1 s t (suc n) x) (now m1 s' t (suc n) x) 1 functions.Add (atoms.Var 1) (atoms.Num 2) s 2 s' (get_1 p m1 s t (suc n) x typed drawn output) refl (adds p m1 s 2 s' (omega arith) (omega arith)) (set_1 p m1 s t (suc n) x s' typed drawn output))
            (done (computes p (now m1 s' t (suc n) x) (now m1 s' t' (suc n) x) 2 functions.Add (atoms.Var 2) (atoms.Num 2) t 2 t' (get_2 p m1 s' t (suc n) x typed drawn output) refl (adds p m1 t 2 t' (omega arith) (omega arith)) (set_2 p m1 s' t (suc n) x t' typed drawn output))
            (done (computes p (now m1 s' t' (suc n) x) (now m1 s' t' n x) 3 functions.Sub (atoms.Var 3) (atoms.Num 1) (suc n) 1 n (get_3 p m1 s' t' (suc n) x typed drawn output) refl (subtracts p m1 (suc n) 1 n (omega arith) (omega arith)) (set_3 p m1 s' t' (suc n) x n typed drawn output))
            (goes refl r.runs))))));
      }
    where
      -- the first of the words, and those behind it
      by_place : (from to n : ℕ) (cells cells' : ℕ → ℕ) → cells' to ≡ cells from → ((j : ℕ) → j < n → cells' (suc to + j) ≡ cells (suc from + j)) → (i : ℕ) → i < suc n → cells' (to + i) ≡ cells (from + i)
      by_place from to n cells cells' first rest zero lt =
          let a : to + 0 ≡ to = omega arith in
          let b : from + 0 ≡ from = omega arith in
          ap cells' a ∙ first ∙ sym (ap cells b)
      by_place from to n cells cells' first rest (suc i) lt =
          let a : to + suc i ≡ suc to + i = omega arith in
          let b : from + suc i ≡ suc from + i = omega arith in
          ap cells' a ∙ rest i (omega arith) ∙ sym (ap cells b)

pub move_works : MoveWorks
move_works p has f w memory typed output drawn from to n cells h low le within small =
    let r = moves p f w typed output drawn n memory from to 0 cells h le within small in
    record { memory' = r.memory'; cells' = r.cells'; locals' = r.locals'; holds = r.holds; are = r.are; others = r.others; count = r.count; few = r.few; runs = at_label r.runs }
