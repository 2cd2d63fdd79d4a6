-- Words are written in a row, at a place that a local names.
use Rattle.std.proofs.Common.{◌≡◌, ℕ, suc, ◌+◌, ◌*◌, ◌%◌, ◌<◌, ◌≤◌, List, [], ◌∷◌, ◌++◌, length, refl, ◌∙◌, subst, arith}
use Rattle.z_lang.specs.declared.act.Act.{Act}
use Rattle.z_lang.specs.declared.act.Act.TheVariants as acts
use Rattle.z_lang.specs.declared.act.Atom.{Atom}
use Rattle.z_lang.specs.declared.act.Atom.TheVariants as atoms
use Rattle.z_lang.specs.declared.act.Width.TheVariants as widths
use Rattle.z_lang.specs.State.{State, Program, value}
use Rattle.z_lang.specs.Runs.{ActsRun, ActsOutcome, done}
use Rattle.dg_rt.specs.Cells.{at_cell, with_cell, replaced, Holds}
use Rattle.dg_rt.specs.Areas.{heap_at, IsMapped, state}
use Rattle.dg_rt.specs.Back.{at_place}
use Rattle.dg_rt.proofs.Cells.{holds_with, writes_cell, other_cell, same_cell}
use Rattle.dg_rt.proofs.Following.{word as word_is, writes}
use Rattle.dg_rt.specs.inside.Walks.{steps}
use Rattle.dg_rt.specs.Frames.{RowIs}

-- Acts that write atoms in a row, from a field of what local 2 names on.
abbrev pub row_acts : ℕ → List Atom → List Act
row_acts i [] = []
row_acts i (a ∷ as') = acts.Write widths.Word (atoms.Num (670 + 2 * i)) (atoms.Var 2) a ∷ row_acts (suc i) as'

pub row_same : (c c' : ℕ → ℕ) (at : ℕ) (xs : List ℕ) → ((k : ℕ) → at ≤ k → c' (heap_at + k) ≡ c (heap_at + k)) → RowIs c at xs → RowIs c' at xs
row_same c c' at [] same h = tt
row_same c c' at (x ∷ xs) same h = (same at (omega arith) ∙ h.0, row_same c c' (suc at) xs (λ k le. same k (omega arith)) h.1)

module _ (p : Program) (map : IsMapped p) (f w : ℕ) (locals typed output : List ℕ) (drawn : ℕ) (at : ℕ) (local_2 : (memory : List ℕ) → value p (state memory locals typed drawn output) (atoms.Var 2) ≡ word_is (at_place at)) where
  abbrev now : List ℕ → State
  now memory = state memory locals typed drawn output

  -- An atom has this value, wherever memory's first words are these.
  abbrev pub Steady : (ℕ → ℕ) → Atom → ℕ → Type 0
  Steady c a x = (memory : List ℕ) (c' : ℕ → ℕ) → Holds p.world.layout memory c' → ((k : ℕ) → k < 303 → c' k ≡ c k) → value p (now memory) a ≡ word_is x

  abbrev pub AreSteady : (ℕ → ℕ) → List Atom → List ℕ → Type 0
  AreSteady c [] [] = Unit {0}
  AreSteady c (a ∷ as') (x ∷ xs) = Steady c a x × (x < 65536) × AreSteady c as' xs
  AreSteady c as' xs = ⊥

  pub record Row (body rest : List Act) (i : ℕ) (as' : List Atom) (xs : List ℕ) (memory : List ℕ) (c : ℕ → ℕ) : Type 0 where
    pub memory' : List ℕ
    pub cells' : ℕ → ℕ
    pub holds : Holds p.world.layout memory' cells'
    pub are : RowIs cells' (at + i) xs
    pub others : (k : ℕ) → (heap_at + (at + i) ≤ k → heap_at + (at + i + length xs) ≤ k) → cells' k ≡ c k
    pub runs : (o : ActsOutcome) (s' : State) (n : ℕ) → ActsRun p f w body rest (now memory') o s' n → ActsRun p f w body (row_acts i as' ++ rest) (now memory) o s' (steps (length xs) n)

  pub put_row : (body rest : List Act) (i : ℕ) (as' : List Atom) (xs : List ℕ) (memory : List ℕ) (c start : ℕ → ℕ) → Holds p.world.layout memory c → at + i + length xs ≤ 10012 → ((k : ℕ) → k < 303 → c k ≡ start k) → AreSteady start as' xs → Row body rest i as' xs memory c
  put_row body rest i [] [] memory c start h le low steady = record { memory' = memory; cells' = c; holds = h; are = tt; others = λ k far. refl; runs = λ o s' n r. r }
  put_row body rest i [] (x ∷ xs) memory c start h le low steady = absurd steady
  put_row body rest i (a ∷ as') [] memory c start h le low steady = absurd steady
  put_row body rest i (a ∷ as') (x ∷ xs) memory c start h le low steady =
      let high = map.room in
      let k0 = heap_at + (at + i) in
      let new = replaced c k0 x in
      let there : (670 + 2 * i + 2 * at_place at) % 65536 ≡ at_cell k0 = omega arith in
      let h1 = holds_with p.world.layout memory c k0 x h (omega arith) steady.1 in
      let r = put_row body rest (suc i) as' xs (with_cell memory k0 x) new start h1 (omega arith) (λ k lt. other_cell c k0 x k (λ e. (omega arith)) ∙ low k lt) steady.2 in
      let next : at + suc i ≡ suc (at + i) = omega arith in
      record {
        memory' = r.memory';
        cells' = r.cells';
        holds = r.holds;
        are = (r.others k0 (λ q. (omega arith)) ∙ same_cell c k0 x, subst (λ (j : ℕ). RowIs r.cells' j xs) next r.are);
        others = λ k far. r.others k (λ q. (let z : heap_at + (at + i + suc (length xs)) ≤ k = far (omega arith) in omega arith)) ∙ other_cell c k0 x k (λ (e : k ≡ k0). (let z : heap_at + (at + i + suc (length xs)) ≤ k = far (omega arith) in omega arith));
        runs = λ o s' n r'. done (writes p (now memory) widths.Word (atoms.Num (670 + 2 * i)) (atoms.Var 2) a (670 + 2 * i) (at_place at) x (with_cell memory k0 x) refl (local_2 memory) (steady.0 memory c h low) (writes_cell p.world.layout memory c (670 + 2 * i) (at_place at) x k0 h there (omega arith))) (r.runs o s' n r');
      }
