-- Numbers in decimal, read digit by digit.
use Rattle.std.proofs.Common.{◌≡◌, ℕ, zero, suc, ◌+◌, ◌-◌, ◌*◌, ◌<◌, ◌≤◌, ◌^◌, List, [], ◌∷◌, ◌++◌, length, take, drop, get_or, refl, sym, ap, subst, ◌∙◌, arith}
use Rattle.std.specs.Prelude.{decimal}
use Rattle.std.specs.Str.{all_ascii_digits}
use Rattle.std.proofs.Common.{Bool, true, false}
use Rattle.std.specs.Char.{is_ascii_digit}
use Rattle.std.proofs.lemmas.List.{append-nil, take-append-drop, take_more}
use Rattle.z_list.proofs.Written.{dropped_item}
use Rattle.std.proofs.lemmas.Str.Parse.{IsNumeralModel, numerals_by_fold}
use Rattle.std.proofs.lemmas.Fmt.{digits_value-decimal}
use Rattle.std.proofs.Common.{rules}
use Rattle.z_list.specs.inside.Numbers.{IsDigit, AreDigits, read_on}
use Rattle.z_list.proofs.TextLemmas.{heads, tails, decimal_digits, digits_push}

own : IsNumeralModel (λ ds. all_ascii_digits ds ≡ true) (read_on 0)
own = numerals_by_fold _ (search rules) read_on (search rules)

read_decimal : (n : ℕ) → n < 2 ^ 64 → read_on 0 (decimal n) ≡ n
read_decimal n lt = digits_value-decimal own n lt

read_more : (n : ℕ) (ds : List ℕ) → n ≤ read_on n ds
read_more n [] = omega arith
read_more n (c ∷ cs) = omega (arith, read_more (10 * n + (c - 48)) cs)

read_append : (n : ℕ) (xs ys : List ℕ) → read_on n (xs ++ ys) ≡ read_on (read_on n xs) ys
read_append n [] ys = refl
read_append n (x ∷ xs) ys = read_append (10 * n + (x - 48)) xs ys

-- digits in front of a text that begins with a number
prefix : (ds ys rest : List ℕ) (d : ℕ) (s : List ℕ) → AreDigits ds → AreDigits ys → (IsDigit d → ⊥) → ds ++ rest ≡ ys ++ d ∷ s →
    (es : List ℕ) × (ys ≡ ds ++ es) × (rest ≡ es ++ d ∷ s)
prefix [] ys rest d s hd hy nd e = (ys, refl, e)
prefix (x ∷ ds) [] rest d s hd hy nd e = absurd (nd (subst IsDigit (heads x d (ds ++ rest) s e) hd.0))
prefix (x ∷ ds) (y ∷ ys) rest d s hd hy nd e =
    let more = prefix ds ys rest d s hd.1 hy.1 nd (tails x y (ds ++ rest) (ys ++ d ∷ s) e) in
    (more.0, ap (λ (v : ℕ). v ∷ ys) (sym (heads x y (ds ++ rest) (ys ++ d ∷ s) e)) ∙ ap (λ (l : List ℕ). x ∷ l) more.1, more.2)

digits_behind : (ds es : List ℕ) → AreDigits (ds ++ es) → AreDigits es
digits_behind [] es h = h
digits_behind (d ∷ ds) es h = digits_behind ds es h.1

none_begins : (es : List ℕ) (x d : ℕ) (xs s : List ℕ) → AreDigits es → (IsDigit x → ⊥) → x ∷ xs ≡ es ++ d ∷ s → es ≡ []
none_begins [] x d xs s h nx e = refl
none_begins (y ∷ es) x d xs s h nx e = absurd (nx (subst IsDigit (sym (heads x y xs (es ++ d ∷ s) e)) h.0))

-- the digits end, and their number is the text's
pub ends_there : (ds : List ℕ) (x : ℕ) (xs : List ℕ) (n c : ℕ) (more : List ℕ) → n ≤ 524288 → AreDigits ds → (IsDigit x → ⊥) → (IsDigit c → ⊥) → ds ++ x ∷ xs ≡ decimal n ++ c ∷ more → read_on 0 ds ≡ n
ends_there ds x xs n c more few hd nx nc e =
    let p = prefix ds (decimal n) (x ∷ xs) c more hd (decimal_digits n (omega (arith, few))) nc e in
    let none : p.0 ≡ [] = none_begins p.0 x c xs more (digits_behind ds p.0 (subst AreDigits p.1 (decimal_digits n (omega (arith, few))))) nx p.2 in
    ap (read_on 0) (sym (p.1 ∙ (ap (λ (l : List ℕ). ds ++ l) none ∙ append-nil ds))) ∙ read_decimal n (omega (arith, few))

-- the number so far is no greater than the text's
pub no_greater : (ds rest : List ℕ) (n c : ℕ) (more : List ℕ) → n ≤ 524288 → AreDigits ds → (IsDigit c → ⊥) → ds ++ rest ≡ decimal n ++ c ∷ more → read_on 0 ds ≤ n
no_greater ds rest n c more few hd nc e =
    let p = prefix ds (decimal n) rest c more hd (decimal_digits n (omega (arith, few))) nc e in
    omega (arith, read_more (read_on 0 ds) p.0, read_append 0 ds p.0, ap (read_on 0) p.1, read_decimal n (omega (arith, few)))

nothing_there : (es : List ℕ) (c : ℕ) (more : List ℕ) → [] ≡ es ++ c ∷ more → ⊥
nothing_there [] c more e = cc
nothing_there (x ∷ es) c more e = cc

-- digits alone are no number with something behind it
pub digits_alone : (ds : List ℕ) (n c : ℕ) (more : List ℕ) → n ≤ 524288 → AreDigits ds → (IsDigit c → ⊥) → ds ≡ decimal n ++ c ∷ more → ⊥
digits_alone ds n c more few hd nc e =
    let p = prefix ds (decimal n) [] c more hd (decimal_digits n (omega (arith, few))) nc (append-nil ds ∙ e) in
    nothing_there p.0 c more p.2

-- one more digit is read
pub read_push : (ds : List ℕ) (d : ℕ) → read_on 0 (ds ++ d ∷ []) ≡ 10 * read_on 0 ds + (d - 48)
read_push ds d = read_append 0 ds (d ∷ [])

-- ---- the digits of a text, one after another

split_there : (text : List ℕ) (i : ℕ) → i < length text → take i text ++ get_or text i 0 ∷ drop (i + 1) text ≡ text
split_there text i lt =
    let next : suc i ≡ i + 1 = omega arith in
    ap (λ (l : List ℕ). take i text ++ l) (sym (dropped_item text i 0 lt ∙ ap (λ (k : ℕ). get_or text i 0 ∷ drop k text) next)) ∙ take-append-drop i text

pub stops_there : (text : List ℕ) (i v n c : ℕ) (more : List ℕ) → i < length text → AreDigits (take i text) → v ≡ read_on 0 (take i text) → (IsDigit (get_or text i 0) → ⊥) → n ≤ 524288 → (IsDigit c → ⊥) →
    text ≡ decimal n ++ c ∷ more → v ≡ n
stops_there text i v n c more lt hd is nx few nc e = is ∙ ends_there (take i text) (get_or text i 0) (drop (i + 1) text) n c more few hd nx nc (split_there text i lt ∙ e)

pub too_great : (text : List ℕ) (i v most n c : ℕ) (more : List ℕ) → AreDigits (take i text) → v ≡ read_on 0 (take i text) → most < v → n ≤ most → most ≤ 524288 → (IsDigit c → ⊥) → text ≡ decimal n ++ c ∷ more → v ≡ n
too_great text i v most n c more hd is over le few nc e =
    absurd (omega (arith, is, over, le, no_greater (take i text) (drop i text) n c more (omega (arith, le, few)) hd nc (take-append-drop i text ∙ e)))

take_all : (i : ℕ) (l : List ℕ) → length l ≤ i → take i l ≡ l
take_all zero [] le = refl
take_all (suc i) [] le = refl
take_all zero (x ∷ l) le = absurd (omega (arith, le))
take_all (suc i) (x ∷ l) le = ap (λ (t : List ℕ). x ∷ t) (take_all i l (omega (arith, le)))

pub runs_out : (text : List ℕ) (i v n c : ℕ) (more : List ℕ) → length text ≤ i → AreDigits (take i text) → n ≤ 524288 → (IsDigit c → ⊥) → text ≡ decimal n ++ c ∷ more → v ≡ n
runs_out text i v n c more le hd few nc e = absurd (digits_alone text n c more few (subst AreDigits (take_all i text le) hd) nc e)

pub digit_taken : (text : List ℕ) (i : ℕ) → i < length text → AreDigits (take i text) → IsDigit (get_or text i 0) → AreDigits (take (i + 1) text)
digit_taken text i lt hd d = subst AreDigits (sym (take_more text i 0 lt)) (digits_push (take i text) (get_or text i 0) hd d)

pub value_taken : (text : List ℕ) (i v : ℕ) → i < length text → v ≡ read_on 0 (take i text) → 10 * v + (get_or text i 0 - 48) ≡ read_on 0 (take (i + 1) text)
value_taken text i v lt is =
    ap (λ (k : ℕ). 10 * k + (get_or text i 0 - 48)) is ∙ sym (ap (read_on 0) (take_more text i 0 lt) ∙ read_push (take i text) (get_or text i 0))

pub is_digit : (c : ℕ) (r : Bool) → r ≡ is_ascii_digit c → r ≡ true → IsDigit c
is_digit c r is e = let test : is_ascii_digit c ≡ true = sym is ∙ e in record { least = grind (arith, test); most = grind (arith, test) }

pub no_digit : (c : ℕ) (r : Bool) → r ≡ is_ascii_digit c → r ≡ false → IsDigit c → ⊥
no_digit c r is e d =
    let test : is_ascii_digit c ≡ false = sym is ∙ e in
    let least = d.least in
    let most = d.most in
    grind (arith, test, least, most)
