-- What words that stand for values are like.
use Rattle.std.proofs.Common.{◌≡◌, ℕ, suc, ◌+◌, ◌<◌, ◌≤◌, inl, inr, false, List, [], ◌∷◌, length, refl, ap, arith}
use Rattle.std.proofs.lemmas.Bool.{cases_order}
use Rattle.z_lang.specs.declared.act.Comparison.TheVariants as comparisons
use Rattle.dg_rt.specs.Cells.{compared}
use Rattle.dg_rt.specs.Shapes.{Shape, IsShape, Letters, Shows, number, dict, object, nil, variable, boxed, AllShow, one_more}
use Rattle.dg_meaning.specs.Values.{Label, Value, Var, Node, Values, NoMore, More}
use Rattle.dg_meaning.specs.ValueCells.{count_of}
use Rattle.dg_rt.proofs.Locals.{simple_no_reference, boxed_no_reference}

pub word_small : {sh : Shape} → IsShape sh → {x : ℕ} {v : Value} → Shows sh x v → x < 65536
word_small is (number n lt) = omega arith
word_small is (dict n lt) = omega arith
word_small is (object n lt) = omega arith
word_small is nil = omega arith
word_small is (variable n lt) = let w = is.within n lt in omega arith
word_small is (boxed k h lt at c b) = omega arith

pub record IsVariable (sh : Shape) (x n : ℕ) : Type 0 where
  pub is : x ≡ 32768 + sh.place n
  pub old : n < sh.vars

pub variable_word : {sh : Shape} {x n : ℕ} → Shows sh x (Var n) → IsVariable sh x n
variable_word (variable n lt) = record { is = refl; old = lt }
variable_word (boxed k h lt at c b) = elim b [ ]

pub node_word : {sh : Shape} {x : ℕ} {f : Label} {vs : Values} → Shows sh x (Node f vs) → compared comparisons.Less x 49152 ≡ false
node_word (number n lt) = simple_no_reference n (omega arith)
node_word (dict n lt) = simple_no_reference (16384 + n) (omega arith)
node_word (object n lt) = simple_no_reference (24576 + n) (omega arith)
node_word nil = refl
node_word (boxed k h lt at c b) = boxed_no_reference k (omega arith)

-- variables at one place are the same
pub same_place : {sh : Shape} → IsShape sh → (m n : ℕ) → m < sh.vars → n < sh.vars → sh.place m ≡ sh.place n → m ≡ n
same_place {sh} is m n lm ln e =
    elim (cases_order m n) [
      | inl same ↦ same
      | inr (inl lt) ↦ let o = is.order m n lt ln in absurd (omega arith)
      | inr (inr gt) ↦ let o = is.order n m gt lm in absurd (omega arith)
    ]

-- a variable's reference stands for it alone
pub reference_value : {sh : Shape} → IsShape sh → {x : ℕ} {v : Value} (n : ℕ) → n < sh.vars → Shows sh x v → x ≡ 32768 + sh.place n → v ≡ Var n
reference_value is n old (number m lt) e = absurd (omega arith)
reference_value is n old (dict m lt) e = absurd (omega arith)
reference_value is n old (object m lt) e = absurd (omega arith)
reference_value is n old nil e = absurd (omega arith)
reference_value is n old (variable m lt) e = ap Var (same_place is m n lt old (omega arith))
reference_value is n old (boxed k h lt at c b) e = let w = is.within n old in absurd (omega arith)

-- cells that stand for values, or for letters, end within the heap
pub all_low : {sh : Shape} → IsShape sh → (k : ℕ) (vs : Values) → k ≤ 10000 → AllShow sh k vs → k + count_of vs ≤ 10000
all_low is k NoMore le a = omega arith
all_low is k (More v vs) le (one_more _ x at s a) = let top = is.room in let low = at.fixed.0 in let r = all_low is (suc k) vs (omega arith) a in omega arith

pub letters_low : {sh : Shape} → IsShape sh → (k : ℕ) (xs : List ℕ) → k ≤ 10000 → Letters sh k xs → k + length xs ≤ 10000
letters_low is k [] le h = omega arith
letters_low is k (x ∷ xs) le h = let top = is.room in let low = h.0.fixed.0 in let r = letters_low is (suc k) xs (omega arith) h.1 in omega arith
