-- Memory from 64 on as words: the registers, and the areas behind them. Hold it against the Z-machine standard, section 2 (numbers), and section 15
-- (loadw, storew and the comparisons).
use Rattle.std.specs.Prelude.{◌≡◌, ℕ, ◌+◌, ◌*◌, ◌/◌, ◌%◌, ◌<◌, ◌≤◌, List, length, ◌==◌, if◌then◌else◌, slice_index, slice_set, Bool, true, false, int_lt}
use Rattle.z_model.specs.declared.story.Layout.{Layout}
use Rattle.z_model.specs.Memory.{word_of}
use Rattle.z_model.specs.Numbers.{signed_16}
use Rattle.z_lang.specs.declared.act.Comparison.{Comparison}
use Rattle.z_lang.specs.declared.act.Comparison.TheVariants as comparisons

-- The address of a word.
abbrev pub at_cell : ℕ → ℕ
at_cell k = 64 + 2 * k

-- A word.
abbrev pub cell : List ℕ → ℕ → ℕ
cell memory k = word_of (slice_index memory (at_cell k)) (slice_index memory (at_cell k + 1))

-- Memory with a word written.
abbrev pub with_cell : List ℕ → ℕ → ℕ → List ℕ
with_cell memory k x = slice_set (slice_set memory (at_cell k) (x / 256)) (at_cell k + 1) (x % 256)

-- Words with one of them replaced.
abbrev pub replaced : (ℕ → ℕ) → ℕ → ℕ → ℕ → ℕ
replaced cells k x j = if j == k then x else cells j

-- Memory holds these words, as many as may be written.
pub record Holds (layout : Layout) (memory : List ℕ) (cells : ℕ → ℕ) : Type 0 where
  pub globals : layout.globals ≡ 64
  pub base : layout.base ≤ length memory
  pub low : layout.base ≤ 65536
  pub is : (k : ℕ) → 64 + 2 * k + 1 < layout.base → cell memory k ≡ cells k
  pub words : (k : ℕ) → cells k < 65536

-- What a comparison of two words answers, where it has no further values; the order is that of signed numbers.
abbrev pub compared : Comparison → ℕ → ℕ → Bool
compared comparisons.Equal x y = x == y
compared comparisons.Less x y = int_lt (signed_16 x) (signed_16 y)
compared comparisons.Greater x y = int_lt (signed_16 y) (signed_16 x)
compared (comparisons.Either c) x y = false
compared (comparisons.Any c d) x y = false

-- A yes or no as a word.
abbrev pub bit : Bool → ℕ
bit true = 1
bit false = 0
