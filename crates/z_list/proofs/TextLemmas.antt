-- Texts of lines: what one begins with, its newline, and that no text begins with two.
use Rattle.std.proofs.Common.{◌≡◌, ℕ, ◌+◌, ◌/◌, ◌%◌, ◌^◌, ◌<◌, List, [], ◌∷◌, ◌++◌, refl, sym, ap, subst, ◌∙◌, arith, append_assoc}
use Rattle.std.specs.Prelude.{nat_lt, Bool, true, false, if◌then◌else◌, codes, decimal}
use Rattle.std.proofs.lemmas.Fmt.{decimal_by_steps, decimal_injective}
use Rattle.z_model.specs.Table.{player_rows}
use Rattle.z_model.specs.Decode.{op_at}
use Rattle.z_list.specs.Listing.{Data, Rule, Locals, Does, End}
use Rattle.z_list.specs.Texts.{hex_digit, spaced, all_spaced, found_text, newline, story_line, line_text}
use Rattle.z_list.specs.inside.Read.{NoByte}
use Rattle.z_list.specs.inside.Numbers.{IsDigit, AreDigits}
use Rattle.z_list.proofs.Instructions.{Small, small_head, small_tail}

first_of : List ℕ → ℕ
first_of [] = 0
first_of (x ∷ xs) = x

rest_of : List ℕ → List ℕ
rest_of [] = []
rest_of (x ∷ xs) = xs

pub heads : (x y : ℕ) (xs ys : List ℕ) → x ∷ xs ≡ y ∷ ys → x ≡ y
unfolding first_of
heads x y xs ys e = ap first_of e

pub tails : (x y : ℕ) (xs ys : List ℕ) → x ∷ xs ≡ y ∷ ys → xs ≡ ys
unfolding rest_of
tails x y xs ys e = ap rest_of e

-- ---- digits

hex_case : (m n : ℕ) (b c : Bool) → nat_lt m 10 ≡ b → nat_lt n 10 ≡ c → (if b then 48 + m else 87 + m) ≡ (if c then 48 + n else 87 + n) → m ≡ n
hex_case m n true true p q e = omega (arith, e)
hex_case m n true false p q e = grind (arith, p, q, e)
hex_case m n false true p q e = grind (arith, p, q, e)
hex_case m n false false p q e = omega (arith, e)

pub hex_same : (m n : ℕ) → hex_digit m ≡ hex_digit n → m ≡ n
hex_same m n e = hex_case m n (nat_lt m 10) (nat_lt n 10) refl refl e

pub spaced_same : (b c : ℕ) (r s : List ℕ) → spaced b ++ r ≡ spaced c ++ s → (b ≡ c) × (r ≡ s)
spaced_same b c r s e =
    let e1 = tails 32 32 (hex_digit (b / 16) ∷ hex_digit (b % 16) ∷ r) (hex_digit (c / 16) ∷ hex_digit (c % 16) ∷ s) e in
    let high : b / 16 ≡ c / 16 = hex_same (b / 16) (c / 16) (heads _ _ (hex_digit (b % 16) ∷ r) (hex_digit (c % 16) ∷ s) e1) in
    let e2 = tails (hex_digit (b / 16)) (hex_digit (c / 16)) (hex_digit (b % 16) ∷ r) (hex_digit (c % 16) ∷ s) e1 in
    let low : b % 16 ≡ c % 16 = hex_same (b % 16) (c % 16) (heads _ _ r s e2) in
    (omega (arith, high, low), tails (hex_digit (b % 16)) (hex_digit (c % 16)) r s e2)

pub bytes_same : (bs cs r s : List ℕ) → Small bs → Small cs → NoByte r → NoByte s → all_spaced bs ++ r ≡ all_spaced cs ++ s → (bs ≡ cs) × (r ≡ s)
bytes_same [] [] r s hb hc nr ns e = (refl, e)
bytes_same [] (c ∷ cs) r s hb hc nr ns e = absurd (nr c (all_spaced cs ++ s) (small_head c cs hc) e)
bytes_same (b ∷ bs) [] r s hb hc nr ns e = absurd (ns b (all_spaced bs ++ r) (small_head b bs hb) (sym e))
bytes_same (b ∷ bs) (c ∷ cs) r s hb hc nr ns e =
    let one = spaced_same b c (all_spaced bs ++ r) (all_spaced cs ++ s) e in
    let more = bytes_same bs cs r s (small_tail b bs hb) (small_tail c cs hc) nr ns one.1 in
    (ap (λ (x : ℕ). x ∷ bs) one.0 ∙ ap (λ (l : List ℕ). c ∷ l) more.0, more.1)

pub no_byte_newline : (r : List ℕ) → NoByte (10 ∷ r)
no_byte_newline r b more lt e = let h = heads 10 32 r (hex_digit (b / 16) ∷ hex_digit (b % 16) ∷ more) e in absurd (omega (arith, h))

not_semicolon : (n : ℕ) → 59 ≡ hex_digit n → ⊥
not_semicolon n e = by_case (nat_lt n 10) refl e
  where
    by_case : (b : Bool) → nat_lt n 10 ≡ b → 59 ≡ (if b then 48 + n else 87 + n) → ⊥
    by_case true p e = grind (arith, p, e)
    by_case false p e = grind (arith, p, e)

pub no_byte_semicolon : (r : List ℕ) → NoByte (32 ∷ 59 ∷ r)
no_byte_semicolon r b more lt e = not_semicolon (b / 16) (heads 59 (hex_digit (b / 16)) r (hex_digit (b % 16) ∷ more) (tails 32 32 (59 ∷ r) (hex_digit (b / 16) ∷ hex_digit (b % 16) ∷ more) e))

-- ---- numbers

pub digits_push : (cs : List ℕ) (c : ℕ) → AreDigits cs → IsDigit c → AreDigits (cs ++ c ∷ [])
digits_push [] c h k = (k, tt)
digits_push (x ∷ cs) c h k = (h.0, digits_push cs c h.1 k)

pub decimal_digits : (n : ℕ) → n < 2 ^ 64 → AreDigits (decimal n)
decimal_digits n lt = decimal_by_steps (λ k ds. AreDigits ds)
    (λ k one. (record { least = omega arith; most = omega (arith, one) }, tt))
    (λ k ds ten h. digits_push ds (48 + k % 10) h (record { least = omega arith; most = omega arith })) n lt

pub digits_same : (xs ys : List ℕ) (c d : ℕ) (r s : List ℕ) → AreDigits xs → AreDigits ys → (IsDigit c → ⊥) → (IsDigit d → ⊥) → xs ++ c ∷ r ≡ ys ++ d ∷ s →
    (xs ≡ ys) × (c ∷ r ≡ d ∷ s)
digits_same [] [] c d r s hx hy nc nd e = (refl, e)
digits_same [] (y ∷ ys) c d r s hx hy nc nd e = absurd (nc (subst IsDigit (sym (heads c y r (ys ++ d ∷ s) e)) hy.0))
digits_same (x ∷ xs) [] c d r s hx hy nc nd e = absurd (nd (subst IsDigit (heads x d (xs ++ c ∷ r) s e) hx.0))
digits_same (x ∷ xs) (y ∷ ys) c d r s hx hy nc nd e =
    let more = digits_same xs ys c d r s hx.1 hy.1 nc nd (tails x y (xs ++ c ∷ r) (ys ++ d ∷ s) e) in
    (ap (λ (v : ℕ). v ∷ xs) (heads x y (xs ++ c ∷ r) (ys ++ d ∷ s) e) ∙ ap (λ (l : List ℕ). y ∷ l) more.0, more.1)

pub numbers_same : (m n c d : ℕ) (r s : List ℕ) → m < 2 ^ 64 → n < 2 ^ 64 → (IsDigit c → ⊥) → (IsDigit d → ⊥) → decimal m ++ c ∷ r ≡ decimal n ++ d ∷ s → (m ≡ n) × (c ∷ r ≡ d ∷ s)
numbers_same m n c d r s hm hn nc nd e =
    let both = digits_same (decimal m) (decimal n) c d r s (decimal_digits m hm) (decimal_digits n hn) nc nd e in
    (decimal_injective m n hm hn both.0, both.1)

pub newline_no_digit : IsDigit 10 → ⊥
newline_no_digit d = let l = d.least in omega (arith, l)

pub dot_no_digit : IsDigit 46 → ⊥
dot_no_digit d = let l = d.least in omega (arith, l)

-- ---- what stands behind a line

pub story_open : (n : ℕ) (r : List ℕ) → story_line n ++ r ≡ codes "story " ++ (decimal n ++ 10 ∷ r)
story_open n r = ap (λ (l : List ℕ). codes "story " ++ l) (append_assoc (decimal n) newline r)

pub data_open : (at : ℕ) (bs r : List ℕ) → line_text (Data at bs) ++ r ≡ (codes "data " ++ decimal at) ++ (all_spaced bs ++ 10 ∷ r)
data_open at bs r =
    ap (λ (l : List ℕ). codes "data " ++ l) (append_assoc (decimal at) (all_spaced bs ++ newline) r ∙ ap (λ (l : List ℕ). decimal at ++ l) (append_assoc (all_spaced bs) newline r))
    ∙ sym (append_assoc (codes "data ") (decimal at) (all_spaced bs ++ 10 ∷ r))

pub rule_open : (at p q : ℕ) (r : List ℕ) → line_text (Rule at p q) ++ r ≡ (codes "rule " ++ decimal at) ++ (32 ∷ (decimal p ++ 46 ∷ (decimal q ++ 10 ∷ r)))
rule_open at p q r =
    ap (λ (l : List ℕ). codes "rule " ++ l) (append_assoc (decimal at) (codes " " ++ (decimal p ++ (codes "." ++ (decimal q ++ newline)))) r
    ∙ ap (λ (l : List ℕ). decimal at ++ 32 ∷ l) (append_assoc (decimal p) (codes "." ++ (decimal q ++ newline)) r ∙ ap (λ (l : List ℕ). decimal p ++ 46 ∷ l) (append_assoc (decimal q) newline r)))
    ∙ sym (append_assoc (codes "rule ") (decimal at) (32 ∷ (decimal p ++ 46 ∷ (decimal q ++ 10 ∷ r))))

pub locals_open : (at b : ℕ) (r : List ℕ) → line_text (Locals at b) ++ r ≡ (codes "locals " ++ decimal at) ++ (spaced b ++ 10 ∷ r)
locals_open at b r =
    ap (λ (l : List ℕ). codes "locals " ++ l) (append_assoc (decimal at) (spaced b ++ newline) r)
    ∙ sym (append_assoc (codes "locals ") (decimal at) (spaced b ++ 10 ∷ r))

pub does_open : (at : ℕ) (bs r : List ℕ) → line_text (Does at bs) ++ r ≡ (codes "op " ++ decimal at) ++ (all_spaced bs ++ (codes " ; " ++ (found_text (op_at player_rows bs 0) ++ 10 ∷ r)))
does_open at bs r =
    ap (λ (l : List ℕ). codes "op " ++ l) (append_assoc (decimal at) (all_spaced bs ++ (codes " ; " ++ (found_text (op_at player_rows bs 0) ++ newline))) r
    ∙ ap (λ (l : List ℕ). decimal at ++ l) (append_assoc (all_spaced bs) (codes " ; " ++ (found_text (op_at player_rows bs 0) ++ newline)) r
    ∙ ap (λ (l : List ℕ). all_spaced bs ++ (codes " ; " ++ l)) (append_assoc (found_text (op_at player_rows bs 0)) newline r)))
    ∙ sym (append_assoc (codes "op ") (decimal at) (all_spaced bs ++ (codes " ; " ++ (found_text (op_at player_rows bs 0) ++ 10 ∷ r))))

pub end_open : (at : ℕ) (r : List ℕ) → line_text (End at) ++ r ≡ (codes "end " ++ decimal at) ++ 10 ∷ r
end_open at r = ap (λ (l : List ℕ). codes "end " ++ l) (append_assoc (decimal at) newline r) ∙ sym (append_assoc (codes "end ") (decimal at) (10 ∷ r))
