-- What the tests say of words, how locals are read and written, and how the heap is.
use Rattle.std.proofs.Common.{◌≡◌, ℕ, ◌+◌, ◌-◌, ◌%◌, ◌<◌, ◌≤◌, true, false, List, [], ◌∷◌, Some, refl, sym, ap, ◌∙◌, subst, arith}
use Rattle.std.specs.Prelude.{pos, nat_lt}
use lib.IntN.{negsuc}
use Rattle.std.proofs.lemmas.Int.{ints}
use Rattle.std.proofs.lemmas.Bool.{lt-ltb, le-ltb}
use Rattle.z_model.specs.Numbers.{signed_16}
use Rattle.z_lang.specs.declared.act.Atom.TheVariants as atoms
use Rattle.z_lang.specs.declared.act.Function.TheVariants as functions
use Rattle.z_lang.specs.declared.act.Comparison.TheVariants as comparisons
use Rattle.z_lang.specs.State.{Program, variable, value, put, with_local}
use Rattle.z_lang.specs.Acts.{computed}
use Rattle.dg_rt.specs.Cells.{compared}
use Rattle.dg_rt.specs.Areas.{state}
use Rattle.dg_rt.proofs.Following.{word, some_state}

-- ---- words as signed numbers

negative : (k : ℕ) → k < 32768 → signed_16 (32768 + k) ≡ negsuc (32767 - k)
negative k lt = rw (le-ltb (32768 + k) 32768 (omega arith)) (omega (arith, ints))

pub positive : (x : ℕ) → x < 32768 → signed_16 x ≡ pos x
positive x lt = rw (lt-ltb x 32768 lt) refl

pub reference : (k : ℕ) → k < 16384 → compared comparisons.Less (32768 + k) 49152 ≡ true
reference k lt = rw (negative k (omega arith)) (lt-ltb 16383 (32767 - k) (omega arith))

pub simple_no_reference : (x : ℕ) → x < 32768 → compared comparisons.Less x 49152 ≡ false
simple_no_reference x lt = rw (positive x lt) refl

boxed_word : (k : ℕ) → 49152 + k ≡ 32768 + (16384 + k)
boxed_word k = omega arith

pub boxed_no_reference : (k : ℕ) → k < 16384 → compared comparisons.Less (49152 + k) 49152 ≡ false
boxed_no_reference k lt = rw (boxed_word k, negative (16384 + k) (omega arith)) (le-ltb 16383 (32767 - (16384 + k)) (omega arith))

pub simple_is_positive : (x : ℕ) → x < 32768 → compared comparisons.Less x 0 ≡ false
simple_is_positive x lt = rw (positive x lt) (le-ltb x 0 (omega arith))

pub boxed_is_negative : (k : ℕ) → k < 16384 → compared comparisons.Less (49152 + k) 0 ≡ true
boxed_is_negative k lt = rw (boxed_word k, negative (16384 + k) (omega arith)) refl

pub reference_is_negative : (k : ℕ) → k < 16384 → compared comparisons.Less (32768 + k) 0 ≡ true
reference_is_negative k lt = rw (negative k (omega arith)) refl

pub high_is_negative : (k : ℕ) → k < 32768 → compared comparisons.Less (32768 + k) 0 ≡ true
high_is_negative k lt = rw (negative k lt) refl

-- A word that is a reference or a box is less than every other one.
pub high_is_less : (x y : ℕ) → 32768 ≤ x → x < 65536 → y < 32768 → compared comparisons.Less x y ≡ true
high_is_less x y le lt small =
    let k = x - 32768 in
    let is : x ≡ 32768 + k = omega arith in
    let less : compared comparisons.Less (32768 + k) y ≡ true = rw (negative k (omega arith), lt-ltb y 32768 small) refl in
    subst (λ (z : ℕ). compared comparisons.Less z y ≡ true) (sym is) less

-- References and boxes are in the order of numbers, and every other word is more.
pub high_less : (x y : ℕ) → 32768 ≤ x → x < y → y < 65536 → compared comparisons.Less x y ≡ true
high_less x y le lt small =
    let j = x - 32768 in
    let k = y - 32768 in
    let is : x ≡ 32768 + j = omega arith in
    let is' : y ≡ 32768 + k = omega arith in
    let less : compared comparisons.Less (32768 + j) (32768 + k) ≡ true = rw (negative j (omega arith), negative k (omega arith)) (lt-ltb (32767 - k) (32767 - j) (omega arith)) in
    subst (λ (z : ℕ). compared comparisons.Less z y ≡ true) (sym is) (subst (λ (z : ℕ). compared comparisons.Less (32768 + j) z ≡ true) (sym is') less)

pub high_not_less : (x y : ℕ) → 32768 ≤ y → y ≤ x → x < 65536 → compared comparisons.Less x y ≡ false
high_not_less x y le le' small =
    let j = x - 32768 in
    let k = y - 32768 in
    let is : x ≡ 32768 + j = omega arith in
    let is' : y ≡ 32768 + k = omega arith in
    let less : compared comparisons.Less (32768 + j) (32768 + k) ≡ false = rw (negative j (omega arith), negative k (omega arith)) (le-ltb (32767 - k) (32767 - j) (omega arith)) in
    subst (λ (z : ℕ). compared comparisons.Less z y ≡ false) (sym is) (subst (λ (z : ℕ). compared comparisons.Less (32768 + j) z ≡ false) (sym is') less)

pub low_not_less : (x y : ℕ) → x < 32768 → 32768 ≤ y → y < 65536 → compared comparisons.Less x y ≡ false
low_not_less x y lt le small =
    let k = y - 32768 in
    let is : y ≡ 32768 + k = omega arith in
    let less : compared comparisons.Less x (32768 + k) ≡ false = rw (positive x lt, negative k (omega arith)) refl in
    subst (λ (z : ℕ). compared comparisons.Less x z ≡ false) (sym is) less

pub older : (j k : ℕ) → j < k → k < 16384 → compared comparisons.Less (32768 + j) (32768 + k) ≡ true
older j k lt small = rw (negative j (omega arith), negative k (omega arith)) (lt-ltb (32767 - k) (32767 - j) (omega arith))

pub not_older : (j k : ℕ) → k ≤ j → j < 16384 → compared comparisons.Less (32768 + j) (32768 + k) ≡ false
not_older j k le small = rw (negative j (omega arith), negative k (omega arith)) (le-ltb (32767 - k) (32767 - j) (omega arith))

-- Words that are no references are in the order of numbers.
positives : (x y : ℕ) → x < 32768 → y < 32768 → compared comparisons.Less x y ≡ nat_lt x y
positives x y a b = rw (lt-ltb x 32768 a, lt-ltb y 32768 b) refl

pub less_by : (x y : ℕ) → x < 32768 → y < 32768 → x < y → compared comparisons.Less x y ≡ true
less_by x y a b lt = positives x y a b ∙ lt-ltb x y lt

pub not_less_by : (x y : ℕ) → x < 32768 → y < 32768 → y ≤ x → compared comparisons.Less x y ≡ false
not_less_by x y a b le = positives x y a b ∙ le-ltb x y le

pub more_by : (x y : ℕ) → x < 32768 → y < 32768 → y < x → compared comparisons.Greater x y ≡ true
more_by x y a b lt = less_by y x b a lt

pub not_more_by : (x y : ℕ) → x < 32768 → y < 32768 → x ≤ y → compared comparisons.Greater x y ≡ false
not_more_by x y a b le = not_less_by y x b a le

-- ---- sums

-- A sum that is a word.
pub added : (p : Program) (memory : List ℕ) (x y z : ℕ) → (x + y) % 65536 ≡ z → computed p.world.layout memory functions.Add x y ≡ Some z
unfolding computed
added p memory x y z e = ap (λ (i : ℕ). Some i) e

pub adds : (p : Program) (memory : List ℕ) (x y z : ℕ) → x + y ≡ z → z < 65536 → computed p.world.layout memory functions.Add x y ≡ word z
unfolding computed
adds p memory x y z e lt = ap word (omega arith)

pub subtracts : (p : Program) (memory : List ℕ) (x y z : ℕ) → x ≡ y + z → x < 65536 → computed p.world.layout memory functions.Sub x y ≡ word z
unfolding computed
subtracts p memory x y z e lt = ap word (omega arith)

-- ---- locals

pub get_1 : (p : Program) (m : List ℕ) (a b c d : ℕ) (t : List ℕ) (n : ℕ) (o : List ℕ) → value p (state m (a ∷ b ∷ c ∷ d ∷ []) t n o) (atoms.Var 1) ≡ word a
unfolding variable
get_1 p m a b c d t n o = refl

pub get_2 : (p : Program) (m : List ℕ) (a b c d : ℕ) (t : List ℕ) (n : ℕ) (o : List ℕ) → value p (state m (a ∷ b ∷ c ∷ d ∷ []) t n o) (atoms.Var 2) ≡ word b
unfolding variable
get_2 p m a b c d t n o = refl

pub get_3 : (p : Program) (m : List ℕ) (a b c d : ℕ) (t : List ℕ) (n : ℕ) (o : List ℕ) → value p (state m (a ∷ b ∷ c ∷ d ∷ []) t n o) (atoms.Var 3) ≡ word c
unfolding variable
get_3 p m a b c d t n o = refl

pub get_4 : (p : Program) (m : List ℕ) (a b c d : ℕ) (t : List ℕ) (n : ℕ) (o : List ℕ) → value p (state m (a ∷ b ∷ c ∷ d ∷ []) t n o) (atoms.Var 4) ≡ word d
unfolding variable
get_4 p m a b c d t n o = refl

pub set_1 : (p : Program) (m : List ℕ) (a b c d x : ℕ) (t : List ℕ) (n : ℕ) (o : List ℕ) → put p 1 x (state m (a ∷ b ∷ c ∷ d ∷ []) t n o) ≡ some_state (state m (x ∷ b ∷ c ∷ d ∷ []) t n o)
unfolding put with_local
set_1 p m a b c d x t n o = refl

pub set_2 : (p : Program) (m : List ℕ) (a b c d x : ℕ) (t : List ℕ) (n : ℕ) (o : List ℕ) → put p 2 x (state m (a ∷ b ∷ c ∷ d ∷ []) t n o) ≡ some_state (state m (a ∷ x ∷ c ∷ d ∷ []) t n o)
unfolding put with_local
set_2 p m a b c d x t n o = refl

pub set_3 : (p : Program) (m : List ℕ) (a b c d x : ℕ) (t : List ℕ) (n : ℕ) (o : List ℕ) → put p 3 x (state m (a ∷ b ∷ c ∷ d ∷ []) t n o) ≡ some_state (state m (a ∷ b ∷ x ∷ d ∷ []) t n o)
unfolding put with_local
set_3 p m a b c d x t n o = refl

pub set_4 : (p : Program) (m : List ℕ) (a b c d x : ℕ) (t : List ℕ) (n : ℕ) (o : List ℕ) → put p 4 x (state m (a ∷ b ∷ c ∷ d ∷ []) t n o) ≡ some_state (state m (a ∷ b ∷ c ∷ x ∷ []) t n o)
unfolding put with_local
set_4 p m a b c d x t n o = refl

-- ---- five locals

pub first : (p : Program) (m : List ℕ) (a b c d e : ℕ) (t : List ℕ) (n : ℕ) (o : List ℕ) → value p (state m (a ∷ b ∷ c ∷ d ∷ e ∷ []) t n o) (atoms.Var 1) ≡ word a
unfolding variable
first p m a b c d e t n o = refl

pub second : (p : Program) (m : List ℕ) (a b c d e : ℕ) (t : List ℕ) (n : ℕ) (o : List ℕ) → value p (state m (a ∷ b ∷ c ∷ d ∷ e ∷ []) t n o) (atoms.Var 2) ≡ word b
unfolding variable
second p m a b c d e t n o = refl

pub third : (p : Program) (m : List ℕ) (a b c d e : ℕ) (t : List ℕ) (n : ℕ) (o : List ℕ) → value p (state m (a ∷ b ∷ c ∷ d ∷ e ∷ []) t n o) (atoms.Var 3) ≡ word c
unfolding variable
third p m a b c d e t n o = refl

pub fourth : (p : Program) (m : List ℕ) (a b c d e : ℕ) (t : List ℕ) (n : ℕ) (o : List ℕ) → value p (state m (a ∷ b ∷ c ∷ d ∷ e ∷ []) t n o) (atoms.Var 4) ≡ word d
unfolding variable
fourth p m a b c d e t n o = refl

pub fifth : (p : Program) (m : List ℕ) (a b c d e : ℕ) (t : List ℕ) (n : ℕ) (o : List ℕ) → value p (state m (a ∷ b ∷ c ∷ d ∷ e ∷ []) t n o) (atoms.Var 5) ≡ word e
unfolding variable
fifth p m a b c d e t n o = refl

pub put_first : (p : Program) (m : List ℕ) (a b c d e x : ℕ) (t : List ℕ) (n : ℕ) (o : List ℕ) → put p 1 x (state m (a ∷ b ∷ c ∷ d ∷ e ∷ []) t n o) ≡ some_state (state m (x ∷ b ∷ c ∷ d ∷ e ∷ []) t n o)
unfolding put with_local
put_first p m a b c d e x t n o = refl

pub put_second : (p : Program) (m : List ℕ) (a b c d e x : ℕ) (t : List ℕ) (n : ℕ) (o : List ℕ) → put p 2 x (state m (a ∷ b ∷ c ∷ d ∷ e ∷ []) t n o) ≡ some_state (state m (a ∷ x ∷ c ∷ d ∷ e ∷ []) t n o)
unfolding put with_local
put_second p m a b c d e x t n o = refl

pub put_third : (p : Program) (m : List ℕ) (a b c d e x : ℕ) (t : List ℕ) (n : ℕ) (o : List ℕ) → put p 3 x (state m (a ∷ b ∷ c ∷ d ∷ e ∷ []) t n o) ≡ some_state (state m (a ∷ b ∷ x ∷ d ∷ e ∷ []) t n o)
unfolding put with_local
put_third p m a b c d e x t n o = refl

pub put_fourth : (p : Program) (m : List ℕ) (a b c d e x : ℕ) (t : List ℕ) (n : ℕ) (o : List ℕ) → put p 4 x (state m (a ∷ b ∷ c ∷ d ∷ e ∷ []) t n o) ≡ some_state (state m (a ∷ b ∷ c ∷ x ∷ e ∷ []) t n o)
unfolding put with_local
put_fourth p m a b c d e x t n o = refl

pub put_fifth : (p : Program) (m : List ℕ) (a b c d e x : ℕ) (t : List ℕ) (n : ℕ) (o : List ℕ) → put p 5 x (state m (a ∷ b ∷ c ∷ d ∷ e ∷ []) t n o) ≡ some_state (state m (a ∷ b ∷ c ∷ d ∷ x ∷ []) t n o)
unfolding put with_local
put_fifth p m a b c d e x t n o = refl
