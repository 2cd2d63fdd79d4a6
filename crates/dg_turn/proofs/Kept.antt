-- Words that stay where terms are written.
use Rattle.std.proofs.Common.{◌≡◌, ◌≢◌, ℕ, ◌+◌, ◌<◌, ◌≤◌, ◌∙◌, arith}
use Rattle.dg_rt.specs.Cells.{replaced}
use Rattle.dg_rt.specs.Areas.{heap_at, trail_at}
use Rattle.dg_rt.proofs.Cells.{other_cell}
use Rattle.dg_turn.proofs.Staying.{IsKept}

-- Words that differ in registers that may be written, the one of the next routine, the top of the heap, and the heap's cells from one on, at most.
abbrev pub Beyond : ℕ → (ℕ → ℕ) → (ℕ → ℕ) → Type 0
Beyond top cells cells' = (k : ℕ) → k ≢ 0 → k ≢ 3 → IsKept k → (heap_at + top ≤ k → trail_at ≤ k) → cells' k ≡ cells k

-- Words that differ in so many cells of the heap from one on, and in the register of a word, at most.
abbrev pub KeptBut : ℕ → ℕ → (ℕ → ℕ) → (ℕ → ℕ) → Type 0
KeptBut at n cells cells' = (k : ℕ) → k ≢ 36 → (heap_at + at ≤ k → heap_at + (at + n) ≤ k) → cells' k ≡ cells k

pub kept_cell : (at n i : ℕ) (cells : ℕ → ℕ) (x : ℕ) → i < n → KeptBut at n cells (replaced cells (heap_at + (at + i)) x)
kept_cell at n i cells x lt k ne far = other_cell cells (heap_at + (at + i)) x k (λ (e : k ≡ heap_at + (at + i)). (let q : heap_at + (at + n) ≤ k = far (omega arith) in omega arith))

pub kept_word : (at n : ℕ) (cells : ℕ → ℕ) (x : ℕ) → KeptBut at n cells (replaced cells 36 x)
kept_word at n cells x k ne far = other_cell cells 36 x k ne

pub kept_then : (at n : ℕ) (a b c : ℕ → ℕ) → KeptBut at n a b → KeptBut at n b c → KeptBut at n a c
kept_then at n a b c f g k ne far = g k ne far ∙ f k ne far

pub kept_wider : (at n at' n' : ℕ) (a b : ℕ → ℕ) → at' ≤ at → at + n ≤ at' + n' → KeptBut at n a b → KeptBut at' n' a b
kept_wider at n at' n' a b low high f k ne far = f k ne (λ le. (let q : heap_at + (at' + n') ≤ k = far (omega arith) in omega arith))

-- The twelve words behind the heap are nothing's.
pub beyond_kept : (top at n : ℕ) (a b c : ℕ → ℕ) → top ≤ at → at + n ≤ 10012 → Beyond top a b → KeptBut at n b c → Beyond top a c
beyond_kept top at n a b c le few old new k n0 n3 mid far =
    new k (λ e. (let q : 302 < k = mid.1 (omega arith) in omega arith)) (λ low. (let q : trail_at ≤ k = far (omega arith) in omega arith)) ∙ old k n0 n3 mid far
