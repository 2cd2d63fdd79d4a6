-- What is read and written of memory's words.
use Rattle.std.proofs.Common.{◌≡◌, ◌≢◌, ℕ, ◌+◌, ◌-◌, ◌*◌, ◌/◌, ◌%◌, ◌<◌, ◌≤◌, ⊎_elim, Bool, true, false, List, length, Option, Some, refl, sym, ap, ◌∙◌, subst, arith, length-set}
use Rattle.std.specs.Prelude.{◌==◌, if◌then◌else◌, slice_index, slice_set}
use Rattle.std.proofs.lemmas.Bool.{lt-ltb, le-ltb, eq-eqb, ne_eqb, cases_eq, cond-true, cond-false}
use Rattle.std.proofs.lemmas.List.{get_or-set_same, get_or-set_other}
use Rattle.z_model.specs.declared.story.Layout.{Layout}
use Rattle.z_model.specs.Memory.{word_of, is_writable, byte_in, memory_word, with_byte, with_word}
use Rattle.z_lang.specs.declared.act.Function.TheVariants as functions
use Rattle.z_lang.specs.declared.act.Width.TheVariants as widths
use Rattle.z_lang.specs.State.{global, with_global}
use Rattle.z_lang.specs.Acts.{computed, memory_with}
use Rattle.dg_rt.specs.Cells.{at_cell, cell, with_cell, replaced, Holds}

-- ---- one word

cell_same : (memory : List ℕ) (k x : ℕ) → at_cell k + 1 < length memory → cell (with_cell memory k x) k ≡ x
cell_same memory k x lt =
    let a = at_cell k in
    let first : slice_index (slice_set (slice_set memory a (x / 256)) (a + 1) (x % 256)) a ≡ x / 256 = get_or-set_other (slice_set memory a (x / 256)) (a + 1) a (x % 256) 0 (omega arith) ∙ get_or-set_same memory a (x / 256) 0 (omega arith) in
    let second : slice_index (slice_set (slice_set memory a (x / 256)) (a + 1) (x % 256)) (a + 1) ≡ x % 256 = get_or-set_same (slice_set memory a (x / 256)) (a + 1) (x % 256) 0 (omega (arith, length-set memory a (x / 256))) in
    omega arith

cell_other : (memory : List ℕ) (k j x : ℕ) → j ≢ k → cell (with_cell memory k x) j ≡ cell memory j
cell_other memory k j x ne =
    let a = at_cell k in
    let b = at_cell j in
    let byte : (i : ℕ) → i ≢ a → i ≢ a + 1 → slice_index (slice_set (slice_set memory a (x / 256)) (a + 1) (x % 256)) i ≡ slice_index memory i = λ i p q. get_or-set_other (slice_set memory a (x / 256)) (a + 1) i (x % 256) 0 q ∙ get_or-set_other memory a i (x / 256) 0 p in
    rw (byte b (omega arith) (omega arith), byte (b + 1) (omega arith) (omega arith)) refl

-- memory with a word written holds the words with that one replaced
pub holds_with : (layout : Layout) (memory : List ℕ) (cells : ℕ → ℕ) (k x : ℕ) → Holds layout memory cells → at_cell k + 1 < layout.base → x < 65536 → Holds layout (with_cell memory k x) (replaced cells k x)
holds_with layout memory cells k x h lt small =
    let b = h.base in
    record {
      globals = h.globals;
      base = omega (arith, length-set (slice_set memory (at_cell k) (x / 256)) (at_cell k + 1) (x % 256), length-set memory (at_cell k) (x / 256));
      low = h.low;
      is = λ j within. ⊎_elim (same j within) (other j within) (cases_eq j k);
      words = λ j. by_test j (j == k);
    }
  where
    same : (j : ℕ) → 64 + 2 * j + 1 < layout.base → j ≡ k → cell (with_cell memory k x) j ≡ replaced cells k x j
    same j within e = rw (eq-eqb j k e) (subst (λ (i : ℕ). cell (with_cell memory k x) i ≡ x) (sym e) (let b = h.base in cell_same memory k x (omega arith)))

    other : (j : ℕ) → 64 + 2 * j + 1 < layout.base → (j ≡ k → ⊥) → cell (with_cell memory k x) j ≡ replaced cells k x j
    other j within ne = rw (ne_eqb j k ne) (cell_other memory k j x ne ∙ h.is j within)

    by_test : (j : ℕ) → (t : Bool) → (if t then x else cells j) < 65536
    by_test j true = small
    by_test j false = h.words j

pub other_cell : (cells : ℕ → ℕ) (j x k : ℕ) → k ≢ j → replaced cells j x k ≡ cells k
other_cell cells j x k ne = cond-false (k == j) x (cells k) (ne_eqb k j ne)

pub same_cell : (cells : ℕ → ℕ) (k x : ℕ) → replaced cells k x k ≡ x
same_cell cells k x = cond-true (k == k) x (cells k) (eq-eqb k k refl)

-- ---- registers

-- a register is a word
pub global_is : (layout : Layout) (memory : List ℕ) (cells : ℕ → ℕ) (v : ℕ) → Holds layout memory cells → 16 ≤ v → 64 + 2 * (v - 16) + 1 < layout.base → global layout memory v ≡ cells (v - 16)
global_is layout memory cells v h le within = subst (λ (g : ℕ). word_of (slice_index memory (g + 2 * (v - 16))) (slice_index memory (g + 2 * (v - 16) + 1)) ≡ cells (v - 16)) (sym h.globals) (h.is (v - 16) within)

pub with_global_is : (layout : Layout) (memory : List ℕ) (v x : ℕ) → layout.globals ≡ 64 → with_global layout memory v x ≡ with_cell memory (v - 16) x
with_global_is layout memory v x e = ap (λ (g : ℕ). slice_set (slice_set memory (g + 2 * (v - 16)) (x / 256)) (g + 2 * (v - 16) + 1) (x % 256)) e

-- ---- reads and writes

-- a word is read at an address with an index
pub reads_cell : (layout : Layout) (memory : List ℕ) (cells : ℕ → ℕ) (x y k : ℕ) → Holds layout memory cells → (x + 2 * y) % 65536 ≡ at_cell k → at_cell k + 1 < layout.base → computed layout memory functions.Word x y ≡ Some (cells k)
unfolding computed memory_word byte_in
reads_cell layout memory cells x y k h a lt =
    let b : (at_cell k + 1) % 65536 ≡ at_cell k + 1 = (let l = h.low in omega arith) in
    let base = h.base in
    rw (a, lt-ltb (at_cell k) (length memory) (omega arith), b, lt-ltb (at_cell k + 1) (length memory) (omega arith)) (ap Some (h.is k lt))

abbrev pub some_list : List ℕ → Option (List ℕ)
some_list xs = Some xs

pub may : (layout : Layout) (a : ℕ) → 64 ≤ a → a < layout.base → is_writable layout a ≡ true
may layout a low lt = rw (ne_eqb a 16 (λ (e : a ≡ 16). (omega arith)), ne_eqb a 17 (λ (e : a ≡ 17). (omega arith)), le-ltb a 64 low, lt-ltb a layout.base lt) refl

-- a word is written
pub writes_cell : (layout : Layout) (memory : List ℕ) (cells : ℕ → ℕ) (a i x k : ℕ) → Holds layout memory cells → (a + 2 * i) % 65536 ≡ at_cell k → at_cell k + 1 < layout.base → memory_with layout memory widths.Word a i x ≡ some_list (with_cell memory k x)
unfolding memory_with with_word with_byte
writes_cell layout memory cells a i x k h p lt =
    let q : (at_cell k + 1) % 65536 ≡ at_cell k + 1 = (let l = h.low in omega arith) in
    rw (p, may layout (at_cell k) (omega arith) (omega arith), q, may layout (at_cell k + 1) (omega arith) lt) refl
