-- Fields of a block are put into registers.
use Rattle.std.proofs.Common.{◌≡◌, ◌≢◌, ℕ, suc, ◌+◌, ◌-◌, ◌*◌, ◌%◌, ◌<◌, ◌≤◌, List, [], ◌∷◌, ◌++◌, length, refl, ◌∙◌, arith}
use Rattle.z_lang.specs.declared.act.Act.{Act}
use Rattle.z_lang.specs.declared.act.Act.TheVariants as acts
use Rattle.z_lang.specs.declared.act.Atom.TheVariants as atoms
use Rattle.z_lang.specs.declared.act.Function.TheVariants as functions
use Rattle.z_lang.specs.State.{State, Program, value}
use Rattle.z_lang.specs.Runs.{ActsRun, ActsOutcome, done}
use Rattle.dg_rt.specs.Cells.{at_cell, with_cell, replaced, Holds}
use Rattle.dg_rt.specs.Areas.{heap_at, IsMapped, state}
use Rattle.dg_rt.specs.Back.{at_place}
use Rattle.dg_rt.proofs.Cells.{reads_cell, other_cell, same_cell}
use Rattle.dg_rt.proofs.Following.{word as word_is, computes, puts}
use Rattle.dg_rt.specs.inside.Walks.{steps}

-- Acts that put fields of what local 1 names into registers.
abbrev pub load_acts : List (ℕ × ℕ) → List Act
load_acts [] = []
load_acts (x ∷ xs) = acts.Compute x.0 functions.Word (atoms.Num (670 + 2 * x.1)) (atoms.Var 1) ∷ load_acts xs

-- Registers in ascending order, from one on, and fields of a block.
abbrev pub Ascend : ℕ → List (ℕ × ℕ) → Type 0
Ascend v [] = Unit {0}
Ascend v (x ∷ xs) = (v ≤ x.0) × (x.0 < 240) × (x.1 ≤ 21) × Ascend (suc x.0) xs

-- A word is none of the registers.
abbrev pub Avoids : ℕ → List (ℕ × ℕ) → Type 0
Avoids k [] = Unit {0}
Avoids k (x ∷ xs) = (k ≢ x.0 - 16) × Avoids k xs

-- The registers have the fields' words.
abbrev pub AreLoaded : (ℕ → ℕ) → (ℕ → ℕ) → ℕ → List (ℕ × ℕ) → Type 0
AreLoaded c c' at [] = Unit {0}
AreLoaded c c' at (x ∷ xs) = (c' (x.0 - 16) ≡ c (heap_at + (at + x.1))) × AreLoaded c c' at xs

pub loaded_same : (at : ℕ) (xs : List (ℕ × ℕ)) (c c1 c' : ℕ → ℕ) → ((k : ℕ) → 302 < k → c k ≡ c1 k) → AreLoaded c c' at xs → AreLoaded c1 c' at xs
loaded_same at [] c c1 c' same h = tt
loaded_same at (x ∷ xs) c c1 c' same h = (h.0 ∙ same (heap_at + (at + x.1)) (omega arith), loaded_same at xs c c1 c' same h.1)

pub loaded_behind : (at : ℕ) (xs : List (ℕ × ℕ)) (c c' c2 : ℕ → ℕ) (v : ℕ) → Ascend v xs → 16 ≤ v → ((k : ℕ) → v ≤ k + 16 → k < 303 → c2 k ≡ c' k) → AreLoaded c c' at xs → AreLoaded c c2 at xs
loaded_behind at [] c c' c2 v up le same h = tt
loaded_behind at (x ∷ xs) c c' c2 v up le same h = (let a = up.0 in let b = up.1 in same (x.0 - 16) (omega arith) (omega arith) ∙ h.0, loaded_behind at xs c c' c2 (suc x.0) up.3 (let a = up.0 in omega arith) (λ k low lt. same k (let a = up.0 in omega arith) lt) h.1)

module _ (p : Program) (map : IsMapped p) (f w : ℕ) (locals typed output : List ℕ) (drawn at : ℕ) (small : at ≤ 10000) (local_1 : (memory : List ℕ) → value p (state memory locals typed drawn output) (atoms.Var 1) ≡ word_is (at_place at)) where
  abbrev now : List ℕ → State
  now memory = state memory locals typed drawn output

  pub record Loads (body rest : List Act) (v : ℕ) (xs : List (ℕ × ℕ)) (memory : List ℕ) (c : ℕ → ℕ) : Type 0 where
    pub memory' : List ℕ
    pub cells' : ℕ → ℕ
    pub holds : Holds p.world.layout memory' cells'
    pub are : AreLoaded c cells' at xs
    pub others : (k : ℕ) → (v ≤ k + 16 → 302 < k) → cells' k ≡ c k
    pub kept : (k : ℕ) → Avoids k xs → cells' k ≡ c k
    pub runs : (o : ActsOutcome) (s' : State) (n : ℕ) → ActsRun p f w body rest (now memory') o s' n → ActsRun p f w body (load_acts xs ++ rest) (now memory) o s' (steps (length xs) n)

  pub loads : (body rest : List Act) (v : ℕ) (xs : List (ℕ × ℕ)) (memory : List ℕ) (c start : ℕ → ℕ) → Holds p.world.layout memory c → 16 ≤ v → Ascend v xs → ((k : ℕ) → 302 < k → c k ≡ start k) → Loads body rest v xs memory c
  loads body rest v [] memory c start h le up same = record { memory' = memory; cells' = c; holds = h; are = tt; others = λ k far. refl; kept = λ k av. refl; runs = λ o s' n r. r }
  loads body rest v (x ∷ xs) memory c start h le up same =
      let high = map.room in
      let a = up.0 in
      let b = up.1 in
      let d = up.2 in
      let y = c (heap_at + (at + x.1)) in
      let j = x.0 - 16 in
      let put = puts p (now memory) c x.0 y h (omega arith) (omega arith) b (h.words (heap_at + (at + x.1))) in
      let new = replaced c j y in
      let apart : (k : ℕ) → 302 < k → new k ≡ c k = λ k far. other_cell c j y k (λ (e : k ≡ j). (omega arith)) in
      let r = loads body rest (suc x.0) xs (with_cell memory j y) new start put.holds (omega arith) up.3 (λ k far. apart k far ∙ same k far) in
      let there : (670 + 2 * x.1 + 2 * at_place at) % 65536 ≡ at_cell (heap_at + (at + x.1)) = omega arith in
      record {
        memory' = r.memory';
        cells' = r.cells';
        holds = r.holds;
        are = (r.others j (λ q. (omega arith)) ∙ same_cell c j y, loaded_same at xs new c r.cells' (λ k far. apart k far) r.are);
        others = λ k far. r.others k (λ q. far (omega arith)) ∙ other_cell c j y k (λ (e : k ≡ j). (let q : 302 < k = far (omega arith) in omega arith));
        kept = λ k av. r.kept k av.1 ∙ other_cell c j y k av.0;
        runs = λ o s' n r'. done (computes p (now memory) (now (with_cell memory j y)) x.0 functions.Word (atoms.Num (670 + 2 * x.1)) (atoms.Var 1) (670 + 2 * x.1) (at_place at) y refl (local_1 memory) (reads_cell p.world.layout memory c (670 + 2 * x.1) (at_place at) (heap_at + (at + x.1)) h there (omega arith)) put.put_is) (r.runs o s' n r');
      }
