-- A text of plain characters is not refused.
use Rattle.std.proofs.Common.{◌≡◌, ◌+◌, ◌≤◌, ◌<◌, ◌⊎◌, inl, inr, ℕ, zero, suc, Bool, true, false, not, ◌&&◌, ◌||◌, List, [], ◌∷◌, None, IsAscii, length, take, nat_eq, nat_le, nat_lt, refl, sym, ap, subst, ◌∙◌, arith}
use Rattle.std.specs.List.{list_all}
use Rattle.std.specs.Str.Lossy.{utf8_valid_len}
use Rattle.std.proofs.lemmas.Bool.{and_parts, and_left, or_from, or_cases, not-true, eqb-true, ltb-true, leb-true, le-ltb, lt-leb, ne_eqb, cond-false}
use Rattle.std.proofs.lemmas.List.{take_all}
use Rattle.std.proofs.lemmas.Str.{IsUtf8-from_ascii, utf8_valid_len-IsUtf8}
use Rattle.dg_lex.specs.Bad.{is_bad, bad_from, first_bad, lex_refusal, refusal_at}
use Rattle.dg_lex.specs.Chars.{is_control, begins_too_high, opens_comment}
use Rattle.dg_lex.specs.Spelled.{without_escapes}
use Rattle.dg_lex.specs.Tokens.{without_mark}
use Rattle.dg_lex.specs.declared.bad.Place.TheVariants.{Outside}

-- A newline, or a character of ASCII that can be printed, but for the percent sign and the backslash.
abbrev pub is_mere : ℕ → Bool
is_mere c = (nat_eq c 10 || (nat_le 32 c && nat_lt c 127)) && (not (nat_eq c 37) && not (nat_eq c 92))

record IsMere (c : ℕ) : Type 0 where
  low : c < 127
  clean : is_control c ≡ false
  no_comment : nat_eq c 37 ≡ false
  no_escape : nat_eq c 92 ≡ false

-- a newline, or from the space on
low_clean : (c : ℕ) → (nat_eq c 10 || (nat_le 32 c && nat_lt c 127)) ≡ true → (c < 127) × (is_control c ≡ false)
low_clean c e = here (or_cases (nat_eq c 10) (nat_le 32 c && nat_lt c 127) e)
  where
    here : (nat_eq c 10 ≡ true) ⊎ ((nat_le 32 c && nat_lt c 127) ≡ true) → (c < 127) × (is_control c ≡ false)
    here (inl q) = subst (λ d. (d < 127) × (is_control d ≡ false)) (sym (eqb-true c 10 q)) (omega arith, refl)
    here (inr q) =
        let each = and_parts (nat_le 32 c) (nat_lt c 127) q in
        let from = leb-true 32 c each.0 in
        let to = ltb-true c 127 each.1 in
        (to, or_from _ (nat_eq c 127) (and_left (nat_lt c 32) _ (le-ltb c 32 from)) (ne_eqb c 127 (λ s. omega (arith, s, to))))

mere_is : (c : ℕ) → is_mere c ≡ true → IsMere c
mere_is c e =
    let each = and_parts (nat_eq c 10 || (nat_le 32 c && nat_lt c 127)) _ e in
    let signs = and_parts (not (nat_eq c 37)) (not (nat_eq c 92)) each.1 in
    let low = low_clean c each.0 in
    record { low = low.0; clean = low.1; no_comment = not-true _ signs.0; no_escape = not-true _ signs.1 }

no_bad : (at : ℕ) (cs : List ℕ) → list_all is_mere cs ≡ true → bad_from Outside at cs ≡ None
no_bad at [] h = refl
no_bad at (c ∷ cs) h =
    let each = and_parts (is_mere c) (list_all is_mere cs) h in
    let is = mere_is c each.0 in
    let high : begins_too_high c ≡ false = lt-leb 240 c (omega (arith, is.low)) in
    let fine : is_bad Outside c cs ≡ false = or_from _ _ (or_from (is_control c) (begins_too_high c) is.clean high) (and_left (nat_eq c 92) _ is.no_escape) in
    let comment : opens_comment c cs ≡ false = and_left (nat_eq c 37) _ is.no_comment in
    rw (fine, is.no_escape, comment) (no_bad (at + 1) cs each.1)

ascii : (cs : List ℕ) → list_all is_mere cs ≡ true → IsAscii cs
ascii [] h i = omega arith
ascii (c ∷ cs) h zero = omega (arith, (mere_is c (and_parts (is_mere c) (list_all is_mere cs) h).0).low)
ascii (c ∷ cs) h (suc i) = ascii cs (and_parts (is_mere c) (list_all is_mere cs) h).1 i

none_bad : (cs : List ℕ) → list_all is_mere cs ≡ true → first_bad cs ≡ None
none_bad cs h =
    let whole : utf8_valid_len cs ≡ length cs = utf8_valid_len-IsUtf8 cs (IsUtf8-from_ascii cs (ascii cs h)) in
    let all : take (utf8_valid_len cs) cs ≡ cs = ap (λ n. take n cs) whole ∙ take_all (length cs) cs (omega arith) in
    let valid : nat_lt (utf8_valid_len cs) (length cs) ≡ false = le-ltb (utf8_valid_len cs) (length cs) (omega (arith, whole)) in
    rw (all, valid, no_bad 0 cs h) refl

-- A text of such characters that isn't too long.
pub not_refused : (cs : List ℕ) → length cs ≤ 1048576 → list_all is_mere cs ≡ true → lex_refusal cs ≡ None
not_refused cs short h = cond-false _ _ _ (le-ltb 1048576 (length cs) short) ∙ ap (refusal_at cs) (none_bad cs h)

-- It begins with no mark of byte order.
pub no_mark : (cs : List ℕ) → list_all is_mere cs ≡ true → without_mark cs ≡ cs
no_mark [] h = refl
no_mark (a ∷ []) h = refl
no_mark (a ∷ b ∷ []) h = refl
no_mark (a ∷ b ∷ c ∷ cs) h =
    let low = (mere_is a (and_parts (is_mere a) (list_all is_mere (b ∷ c ∷ cs)) h).0).low in
    cond-false _ _ _ (and_left (nat_eq a 239 && nat_eq b 187) (nat_eq c 191) (and_left (nat_eq a 239) (nat_eq b 187) (ne_eqb a 239 (λ s. omega (arith, s, low)))))

-- No escape stands in it.
pub no_escapes : (cs : List ℕ) → list_all is_mere cs ≡ true → without_escapes cs ≡ cs
no_escapes [] h = refl
no_escapes (c ∷ cs) h =
    let each = and_parts (is_mere c) (list_all is_mere cs) h in
    cond-false _ _ _ (mere_is c each.0).no_escape ∙ ap (λ (l : List ℕ). c ∷ l) (no_escapes cs each.1)
