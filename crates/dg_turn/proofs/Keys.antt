-- Keys of labels are the same where the labels are.
use Rattle.std.proofs.Common.{◌≡◌, ◌≢◌, ℕ, ◌+◌, inl, inr, Bool, true, false, Option, Some, None, refl, sym, ap, ◌∙◌, arith}
use Rattle.std.specs.Prelude.{◌==◌, eqb, not, ◌||◌}
use Rattle.std.proofs.lemmas.Bool.{eq-eqb, ne_eqb, cases_eq}
use Rattle.dg_meaning.specs.Unify.{same_label}
use Rattle.dg_meaning.specs.Values.{Label, Num, Word, Unknown, Object, Nil, Pair, Closure, Value, Var, Node}
use Rattle.dg_mid.specs.Code.{label_of, excluded}
use Rattle.dg_mid.specs.declared.code.Key.{Key}
use Rattle.dg_rt.specs.Rules.{key_word, LabelFits}
use Rattle.dg_turn.specs.Told.{FirstIs, KeyFits}

shifted : (a m n : ℕ) → eqb m n ≡ (a + m == a + n)
shifted a m n = elim (cases_eq m n) [
  | inl same ↦ eq-eqb m n same ∙ sym (eq-eqb (a + m) (a + n) (omega arith))
  | inr ne ↦ ne_eqb m n ne ∙ sym (ne_eqb (a + m) (a + n) (λ (e : a + m ≡ a + n). ne (omega arith)))
]

key_same : (f g : Label) → LabelFits f → KeyFits (Some g) → same_label f g ≡ (key_word f == key_word g)
key_same (Num m) (Num n) a b = refl
key_same (Num m) (Word n) a b = sym (ne_eqb m (16384 + n) (λ (e : m ≡ (16384 + n)). (omega arith)))
key_same (Num m) (Object n) a b = sym (ne_eqb m (24576 + n) (λ (e : m ≡ (24576 + n)). (omega arith)))
key_same (Num m) Nil a b = sym (ne_eqb m 28672 (λ (e : m ≡ 28672). (omega arith)))
key_same (Num m) Pair a b = sym (ne_eqb m 28673 (λ (e : m ≡ 28673). (omega arith)))
key_same (Num m) (Unknown n) a b = absurd b
key_same (Num m) (Closure n) a b = sym (ne_eqb m (49152 + n) (λ (e : m ≡ (49152 + n)). (omega arith)))
key_same (Word m) (Num n) a b = sym (ne_eqb (16384 + m) n (λ (e : (16384 + m) ≡ n). (omega arith)))
key_same (Word m) (Word n) a b = shifted 16384 m n
key_same (Word m) (Object n) a b = sym (ne_eqb (16384 + m) (24576 + n) (λ (e : (16384 + m) ≡ (24576 + n)). (omega arith)))
key_same (Word m) Nil a b = sym (ne_eqb (16384 + m) 28672 (λ (e : (16384 + m) ≡ 28672). (omega arith)))
key_same (Word m) Pair a b = sym (ne_eqb (16384 + m) 28673 (λ (e : (16384 + m) ≡ 28673). (omega arith)))
key_same (Word m) (Unknown n) a b = absurd b
key_same (Word m) (Closure n) a b = sym (ne_eqb (16384 + m) (49152 + n) (λ (e : (16384 + m) ≡ (49152 + n)). (omega arith)))
key_same (Object m) (Num n) a b = sym (ne_eqb (24576 + m) n (λ (e : (24576 + m) ≡ n). (omega arith)))
key_same (Object m) (Word n) a b = sym (ne_eqb (24576 + m) (16384 + n) (λ (e : (24576 + m) ≡ (16384 + n)). (omega arith)))
key_same (Object m) (Object n) a b = shifted 24576 m n
key_same (Object m) Nil a b = sym (ne_eqb (24576 + m) 28672 (λ (e : (24576 + m) ≡ 28672). (omega arith)))
key_same (Object m) Pair a b = sym (ne_eqb (24576 + m) 28673 (λ (e : (24576 + m) ≡ 28673). (omega arith)))
key_same (Object m) (Unknown n) a b = absurd b
key_same (Object m) (Closure n) a b = sym (ne_eqb (24576 + m) (49152 + n) (λ (e : (24576 + m) ≡ (49152 + n)). (omega arith)))
key_same Nil (Num n) a b = sym (ne_eqb 28672 n (λ (e : 28672 ≡ n). (omega arith)))
key_same Nil (Word n) a b = sym (ne_eqb 28672 (16384 + n) (λ (e : 28672 ≡ (16384 + n)). (omega arith)))
key_same Nil (Object n) a b = sym (ne_eqb 28672 (24576 + n) (λ (e : 28672 ≡ (24576 + n)). (omega arith)))
key_same Nil Nil a b = refl
key_same Nil Pair a b = sym (ne_eqb 28672 28673 (λ (e : 28672 ≡ 28673). (omega arith)))
key_same Nil (Unknown n) a b = absurd b
key_same Nil (Closure n) a b = sym (ne_eqb 28672 (49152 + n) (λ (e : 28672 ≡ (49152 + n)). (omega arith)))
key_same Pair (Num n) a b = sym (ne_eqb 28673 n (λ (e : 28673 ≡ n). (omega arith)))
key_same Pair (Word n) a b = sym (ne_eqb 28673 (16384 + n) (λ (e : 28673 ≡ (16384 + n)). (omega arith)))
key_same Pair (Object n) a b = sym (ne_eqb 28673 (24576 + n) (λ (e : 28673 ≡ (24576 + n)). (omega arith)))
key_same Pair Nil a b = sym (ne_eqb 28673 28672 (λ (e : 28673 ≡ 28672). (omega arith)))
key_same Pair Pair a b = refl
key_same Pair (Unknown n) a b = absurd b
key_same Pair (Closure n) a b = sym (ne_eqb 28673 (49152 + n) (λ (e : 28673 ≡ (49152 + n)). (omega arith)))
key_same (Unknown m) (Num n) a b = sym (ne_eqb 28674 n (λ (e : 28674 ≡ n). (omega arith)))
key_same (Unknown m) (Word n) a b = sym (ne_eqb 28674 (16384 + n) (λ (e : 28674 ≡ (16384 + n)). (omega arith)))
key_same (Unknown m) (Object n) a b = sym (ne_eqb 28674 (24576 + n) (λ (e : 28674 ≡ (24576 + n)). (omega arith)))
key_same (Unknown m) Nil a b = sym (ne_eqb 28674 28672 (λ (e : 28674 ≡ 28672). (omega arith)))
key_same (Unknown m) Pair a b = sym (ne_eqb 28674 28673 (λ (e : 28674 ≡ 28673). (omega arith)))
key_same (Unknown m) (Unknown n) a b = absurd b
key_same (Unknown m) (Closure n) a b = sym (ne_eqb 28674 (49152 + n) (λ (e : 28674 ≡ (49152 + n)). (omega arith)))
key_same (Closure m) (Num n) a b = sym (ne_eqb (49152 + m) n (λ (e : (49152 + m) ≡ n). (omega arith)))
key_same (Closure m) (Word n) a b = sym (ne_eqb (49152 + m) (16384 + n) (λ (e : (49152 + m) ≡ (16384 + n)). (omega arith)))
key_same (Closure m) (Object n) a b = sym (ne_eqb (49152 + m) (24576 + n) (λ (e : (49152 + m) ≡ (24576 + n)). (omega arith)))
key_same (Closure m) Nil a b = sym (ne_eqb (49152 + m) 28672 (λ (e : (49152 + m) ≡ 28672). (omega arith)))
key_same (Closure m) Pair a b = sym (ne_eqb (49152 + m) 28673 (λ (e : (49152 + m) ≡ 28673). (omega arith)))
key_same (Closure m) (Unknown n) a b = absurd b
key_same (Closure m) (Closure n) a b = shifted 49152 m n

no_variable : (f : Label) → LabelFits f → key_word f ≢ 32768
no_variable (Num n) a e = omega arith
no_variable (Word n) a e = omega arith
no_variable (Object n) a e = omega arith
no_variable Nil a e = omega arith
no_variable Pair a e = omega arith
no_variable (Unknown n) a e = omega arith
no_variable (Closure n) a e = omega arith

-- A rule's test of the register tells whether the rule is not excluded.
pub key_tells : (first : Option Value) (key : ℕ) (k : Key) (g : Label) → label_of k ≡ Some g → FirstIs first key → KeyFits (Some g) → ((key == 32768) || (key == key_word g)) ≡ not (excluded first k)
key_tells None key k g e is fits = rw (eq-eqb key 32768 is) refl
key_tells (Some (Var x)) key k g e is fits = rw (eq-eqb key 32768 is) refl
key_tells (Some (Node f vs)) key k g e is fits =
    let same = key_same f g is.1 fits in
    let here : (key == key_word g) ≡ same_label f g = ap (λ (i : ℕ). i == key_word g) is.0 ∙ sym same in
    let none : (key == 32768) ≡ false = ne_eqb key 32768 (λ (q : key ≡ 32768). no_variable f is.1 (sym is.0 ∙ q)) in
    rw (none, here, e) (twice (same_label f g))
  where
    twice : (b : Bool) → b ≡ not (not b)
    twice true = refl
    twice false = refl
