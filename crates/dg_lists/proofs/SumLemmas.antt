-- The sum of gathered values.
use Rattle.std.proofs.Common.{◌≡◌, ℕ, suc, ◌+◌, ◌<◌, ◌≤◌, List, [], ◌∷◌, ◌++◌, Option, Some, None, refl, ap, ◌∙◌, arith, All, length, get_or}
use Rattle.std.specs.Prelude.{nat_le}
use Rattle.std.specs.List.{flat_map}
use Rattle.std.specs.Option.{option_and_then}
use Rattle.std.proofs.lemmas.Bool.{cond_both, cond-true, cond-false, lt-leb, leb-false, le-leb}
use Rattle.std.proofs.lemmas.List.Concat.{flat_map-cons}
use Rattle.dg_base.specs.declared.cells.Cell.{Cell}
use Rattle.dg_base.specs.declared.cells.Cell.TheVariants as cell
use Rattle.dg_meaning.specs.Values.{Num, Word, Unknown, Object, Nil, Pair, Closure, Value, Var, Node, NoMore, More}
use Rattle.dg_meaning.specs.ValueCells.{cells_of}
use Rattle.dg_meaning.specs.Numbers.{in_range, plus, sum_of, total}
use Rattle.dg_lists.specs.Formed.{IsFormed}
use Rattle.dg_lists.specs.inside.Summing.{sum_in, total_from}

more : (s n : ℕ) (o : Option ℕ) → option_and_then in_range (plus s (plus n o)) ≡ option_and_then in_range (plus (s + n) o)
more s n None = refl
more s n (Some m) = ap in_range (omega arith)

-- one number more
pub sum_on : (s n : ℕ) (cells : List Cell) → total_from s (cell.Num n ∷ cells) ≡ total_from (s + n) cells
sum_on s n cells = more s n (sum_in cells)

too_great : (s : ℕ) (o : Option ℕ) → 16383 < s → option_and_then in_range (plus s o) ≡ None
too_great s None lt = refl
too_great s (Some m) lt = cond-false (nat_le (s + m) 16383) (Some (s + m)) None (lt-leb (s + m) 16383 (omega (arith, lt)))

pub sum_over : (s : ℕ) (cells : List Cell) → in_range s ≡ None → total_from s cells ≡ None
sum_over s cells h = too_great s (sum_in cells) (above s h)
  where
    above : (s : ℕ) → in_range s ≡ None → 16383 < s
    above s h = cond_both (nat_le s 16383) (Some s) None (λ o. o ≡ None → 16383 < s) (λ e k. cc) (λ e k. leb-false s 16383 e) h

-- where the first is no number
pub sum_none : (s : ℕ) (c : Cell) (cells : List Cell) → ((n : ℕ) → c ≡ cell.Num n → ⊥) → total_from s (c ∷ cells) ≡ None
sum_none s (cell.Num n) cells h = absurd (h n refl)
sum_none s (cell.Word n) cells h = refl
sum_none s (cell.Object n) cells h = refl
sum_none s cell.Nil cells h = refl
sum_none s cell.Pair cells h = refl
sum_none s (cell.Closure place count) cells h = refl
sum_none s (cell.Unknown count) cells h = refl
sum_none s (cell.Char c) cells h = refl
sum_none s cell.Fresh cells h = refl

-- the sum of no more
pub sum_end : (s : ℕ) → s ≤ 16383 → total_from s [] ≡ Some s
sum_end s le = let same : s + 0 ≡ s = omega arith in ap in_range same ∙ cond-true (nat_le s 16383) (Some s) None (le-leb s 16383 le)

-- the cells of values are added as the values are
sum_first : (v : Value) (cells : List Cell) (vs : List Value) → IsFormed v → sum_in cells ≡ sum_of vs → sum_in (cells_of v ++ cells) ≡ sum_of (v ∷ vs)
sum_first (Var n) cells vs f h = refl
sum_first (Node (Num n) NoMore) cells vs f h = ap (plus n) h
sum_first (Node (Num n) (More v us)) cells vs f h = cc
sum_first (Node (Word n) us) cells vs f h = refl
sum_first (Node (Unknown spelling) us) cells vs f h = refl
sum_first (Node (Object n) us) cells vs f h = refl
sum_first (Node Nil us) cells vs f h = refl
sum_first (Node Pair us) cells vs f h = refl
sum_first (Node (Closure place) us) cells vs f h = refl

sums_same : (vs : List Value) → All IsFormed vs → sum_in (flat_map cells_of vs) ≡ sum_of vs
sums_same [] f = refl
sums_same (v ∷ vs) f = ap sum_in (flat_map-cons cells_of v vs) ∙ sum_first v (flat_map cells_of vs) vs (f 0 v (omega arith)) (sums_same vs (λ k d lt. f (suc k) d (omega arith)))

none_more : (o : Option ℕ) → plus 0 o ≡ o
none_more None = refl
none_more (Some m) = ap Some (omega arith)

pub sum_says : (cells : List Cell) (vs : List Value) → cells ≡ flat_map cells_of vs → All IsFormed vs → total_from 0 cells ≡ total vs
sum_says cells vs is f = ap (option_and_then in_range) (none_more (sum_in cells) ∙ ap sum_in is ∙ sums_same vs f)

-- what stands first in a row
pub none_at : (s : ℕ) (cells : List Cell) → 1 ≤ length cells → ((n : ℕ) → get_or cells 0 (cell.Num 0) ≡ cell.Num n → ⊥) → total_from s cells ≡ None
none_at s [] le h = absurd (omega (arith, le))
none_at s (c ∷ cells) le h = sum_none s c cells h

pub over_at : (s n : ℕ) (cells : List Cell) → 1 ≤ length cells → get_or cells 0 (cell.Num 0) ≡ cell.Num n → in_range (s + n) ≡ None → total_from s cells ≡ None
over_at s n [] le is h = absurd (omega (arith, le))
over_at s n (c ∷ cells) le is h = ap (λ x. total_from s (x ∷ cells)) is ∙ sum_on s n cells ∙ sum_over (s + n) cells h

pub ended_at : (s : ℕ) (cells : List Cell) → length cells < 1 → s ≤ 16383 → total_from s cells ≡ Some s
ended_at s [] lt le = sum_end s le
ended_at s (c ∷ cells) lt le = absurd (omega (arith, lt))
