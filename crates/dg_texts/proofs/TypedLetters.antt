-- The letters of typed lines are few and small.
use Rattle.std.proofs.Common.{◌≡◌, ℕ, zero, suc, ◌+◌, ◌<◌, ◌≤◌, Bool, true, false, cond, List, [], ◌∷◌, Option, Some, None, refl, sym, arith, length, take}
use Rattle.std.specs.Prelude.{◌||◌, ◌&&◌, ◌==◌, is_some, map, nat_lt}
use Rattle.std.specs.List.{list_all}
use Rattle.std.proofs.lemmas.Bool.{and_parts, ltb-true, eqb-true}
use Rattle.std.proofs.lemmas.List.Elements.{All-nil, All-cons}
use Rattle.dg_base.specs.Typed.{extra, place_from, place_of, is_capital, lowered, is_kept, typed}
use Rattle.dg_base.specs.Units.{units_of}
use Rattle.dg_meaning.specs.Words.{or_question, letter_of, letters_of}
use Rattle.dg_words.specs.Letters.{AreSmall}
use Rattle.dg_texts.specs.Spelling.{IsShort}

abbrev below : ℕ → Bool
below c = nat_lt c 65536

-- a value that stands in a table of small ones is small
found_small : (v here : ℕ) (table : List ℕ) → list_all below table ≡ true → is_some (place_from v here table) ≡ true → v < 65536
unfolding place_from
found_small v here [] small found = absurd (cc found)
found_small v here (entry ∷ table) small found =
    let parts = and_parts (below entry) (list_all below table) small in
    by_test (entry == v) refl parts.0 (λ h. found_small v (here + 1) table parts.1 h) found
  where
    by_test : (t : Bool) → t ≡ (entry == v) → below entry ≡ true → (is_some (place_from v (here + 1) table) ≡ true → v < 65536) → is_some (cond t (Some here) (place_from v (here + 1) table)) ≡ true → v < 65536
    by_test true is one rest found = let same = eqb-true entry v (sym is) in omega (arith, same, ltb-true entry 65536 one)
    by_test false is one rest found = rest found

extra_small : list_all below extra ≡ true
extra_small = refl

one_of : (a b : Bool) (c : ℕ) → (a ≡ true → c < 65536) → (b ≡ true → c < 65536) → (a || b) ≡ true → c < 65536
one_of true b c f h is = f refl
one_of false b c f h is = h is

kept_small : (c : ℕ) → is_kept c ≡ true → c < 65536
kept_small c is = one_of (nat_lt 31 c && nat_lt c 127) (is_some (place_of c extra)) c (λ e. let p = and_parts (nat_lt 31 c) (nat_lt c 127) e in omega (arith, ltb-true c 127 p.1)) (λ e. found_small c 0 extra extra_small e) is

capital_small : (c : ℕ) → is_capital c ≡ true → c + 32 < 65536
capital_small c is = by_range (nat_lt 64 c && nat_lt c 91) (nat_lt 191 c && nat_lt c 223) (λ e. let p = and_parts (nat_lt 64 c) (nat_lt c 91) e in omega (arith, ltb-true c 91 p.1)) (λ e. let p = and_parts (nat_lt 191 c) (nat_lt c 223) e in omega (arith, ltb-true c 223 p.1)) is where
  by_range : (a b : Bool) → (a ≡ true → c + 32 < 65536) → (b ≡ true → c + 32 < 65536) → (a || b) ≡ true → c + 32 < 65536
  by_range true b f h is = f refl
  by_range false b f h is = h is

lowered_small : (c : ℕ) → c < 65536 → lowered c < 65536
lowered_small c lt = by_test (is_capital c) (c == 0x152) refl where
  by_test : (a b : Bool) → a ≡ is_capital c → cond a (c + 32) (cond b 0x153 c) < 65536
  by_test true b is = capital_small c (sym is)
  by_test false true is = omega arith
  by_test false false is = lt

pub typed_small : (c : ℕ) → or_question (typed c) < 65536
typed_small c = by_test (c == 9) (is_kept c) refl where
  by_test : (a b : Bool) → b ≡ is_kept c → or_question (cond a (Some 32) (cond b (Some (lowered c)) None)) < 65536
  by_test true b is = omega arith
  by_test false true is = lowered_small c (kept_small c (sym is))
  by_test false false is = omega arith

letter_small : (o : Option ℕ) → letter_of o < 65536
letter_small None = omega arith
letter_small (Some c) = typed_small c

front_small : (n : ℕ) (units : List (Option ℕ)) → AreSmall (take n (map letter_of units))
front_small zero units = All-nil (λ c. c < 65536)
front_small (suc n) [] = All-nil (λ c. c < 65536)
front_small (suc n) (u ∷ units) = All-cons (λ c. c < 65536) (letter_of u) (take n (map letter_of units)) (letter_small u) (front_small n units)

few_front : (n : ℕ) (l : List ℕ) → length (take n l) ≤ n
few_front zero l = omega arith
few_front (suc n) [] = omega arith
few_front (suc n) (x ∷ l) = omega (arith, few_front n l)

-- the letters of a line
pub line_short : (line : List ℕ) → IsShort (letters_of line)
line_short line = record { few = few_front 200 (map letter_of (units_of line)); small = front_small 200 (units_of line) }
