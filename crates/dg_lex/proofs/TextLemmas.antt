-- Bytes that are a name: UTF-8 without what no source may hold.
use Rattle.std.proofs.Common.{◌≡◌, ◌<◌, ◌≤◌, inl, inr, ℕ, List, [], ◌∷◌, ◌++◌, ◌||◌, Bool, true, false, length, get_or, nat_eq, nat_lt, refl, sym, ◌∙◌, ap, subst, arith, append_assoc}
use Rattle.std.specs.Prelude.{if◌then◌else◌}
use Rattle.std.specs.Char.{IsScalar, encode_utf8}
use Rattle.std.specs.List.{All, list_any, list_all}
use Rattle.std.specs.Str.{IsUtf8, IsCharBoundary, encode_utf8_all, all_scalars}
use Rattle.std.proofs.lemmas.Bool.{and_parts, cases_lt}
use Rattle.std.proofs.lemmas.Bool.Decides.{nat_tests}
use Rattle.std.proofs.lemmas.List.{append-nil, take_at, drop_at, length-append}
use Rattle.std.proofs.lemmas.List.Elements.{All-nil, All-cons, All-head, All-tail}
use Rattle.std.proofs.lemmas.Str.{IsUtf8-append, IsUtf8-nil, IsUtf8-take, IsUtf8-drop, IsUtf8-past_char, IsUtf8-encode, IsCharBoundary-before_ascii, encode_ascii, length-encode, len_utf8_bounds}
use lib.Utf8.{low_scalar}
use Rattle.dg_base.specs.Sound.{IsPrintable, IsName}
use Rattle.dg_lex.specs.Chars.{is_special}
use Rattle.dg_lex.specs.Spelled.{IsClean, IsText, IsSpelled, escapes_dropped, without_escapes}

-- ---- lists

all_behind : {X : Type 0} (P : X → Type 0) (xs ys : List X) → All P (xs ++ ys) → All P ys
all_behind P [] ys h = h
all_behind P (x ∷ xs) ys h = all_behind P xs ys (All-tail P x (xs ++ ys) h)

all_front : {X : Type 0} (P : X → Type 0) (xs ys : List X) → All P (xs ++ ys) → All P xs
all_front P [] ys h = All-nil P
all_front P (x ∷ xs) ys h = All-cons P x xs (All-head P x (xs ++ ys) h) (all_front P xs ys (All-tail P x (xs ++ ys) h))

-- ---- characters

first_high : (c : ℕ) → 65536 ≤ c → 240 ≤ get_or (encode_utf8 c) 0 0
unfolding encode_utf8
first_high c h =
    let a : nat_lt c 128 ≡ false = grind (arith, nat_tests, h) in
    let b : nat_lt c 2048 ≡ false = grind (arith, nat_tests, h) in
    let d : nat_lt c 65536 ≡ false = grind (arith, nat_tests, h) in
    rw a (rw b (rw d (omega arith)))

some_byte : (c : ℕ) → 0 < length (encode_utf8 c)
some_byte c = omega (arith, length-encode c, (len_utf8_bounds c).0)

not_high : (c : ℕ) → All IsClean (encode_utf8 c) → c < 65536
not_high c h = elim (cases_lt c 65536) [
  | inl low ↦ low
  | inr high ↦ absurd (omega (arith, first_high c (omega arith), (h 0 0 (some_byte c)).low))
]

ascii_clean : (c : ℕ) → c < 128 → All IsClean (encode_utf8 c) → IsClean c
ascii_clean c small h = All-head IsClean c [] (subst (All IsClean) (encode_ascii c small) h)

char_printable : (c : ℕ) → IsScalar c → All IsClean (encode_utf8 c) → IsPrintable c
char_printable c s h = elim (cases_lt c 128) [
  | inl small ↦ record { from = (ascii_clean c small h).from; to = omega arith; scalar = s; no_delete = (ascii_clean c small h).no_delete }
  | inr past ↦ record { from = omega arith; to = not_high c h; scalar = s; no_delete = λ e. omega arith }
]

chars_printable : (cs : List ℕ) → all_scalars cs ≡ true → All IsClean (encode_utf8_all cs) → All IsPrintable cs
chars_printable [] s h = All-nil IsPrintable
chars_printable (c ∷ cs) s h =
    let each = and_parts _ (all_scalars cs) s in
    All-cons IsPrintable c cs (char_printable c each.0 (all_front IsClean (encode_utf8 c) (encode_utf8_all cs) h)) (chars_printable cs each.1 (all_behind IsClean (encode_utf8 c) (encode_utf8_all cs) h))

pub name_from : (bytes : List ℕ) → IsSpelled bytes → IsName bytes
name_from bytes h = record {
  characters = h.text.utf8.0;
  some = λ e. h.some (sym h.text.utf8.1.1 ∙ ap encode_utf8_all e);
  printable = chars_printable h.text.utf8.0 h.text.utf8.1.0 (subst (All IsClean) (sym h.text.utf8.1.1) h.text.clean);
  encoded = sym h.text.utf8.1.1;
}

-- ---- cuts

at_seam : (xs ys : List ℕ) → get_or (xs ++ ys) (length xs) 0 ≡ get_or ys 0 0
at_seam [] ys = refl
at_seam (x ∷ xs) ys = at_seam xs ys

-- a text may be cut at an ASCII character
pub seam : (xs : List ℕ) (c : ℕ) (ys : List ℕ) → c < 128 → IsUtf8 (xs ++ c ∷ ys) → IsUtf8 xs × IsUtf8 ys
seam xs c ys small u =
    let edge : IsCharBoundary (xs ++ c ∷ ys) (length xs) = IsCharBoundary-before_ascii (xs ++ c ∷ ys) (length xs) (omega (arith, length-append xs (c ∷ ys))) (omega (arith, at_seam xs (c ∷ ys))) in
    let behind : IsUtf8 (c ∷ ys) = subst IsUtf8 (drop_at xs (c ∷ ys) (length xs) refl) (IsUtf8-drop (xs ++ c ∷ ys) (length xs) u edge) in (
      subst IsUtf8 (take_at xs (c ∷ ys) (length xs) refl) (IsUtf8-take (xs ++ c ∷ ys) (length xs) u edge),
      IsUtf8-past_char (c ∷ ys) ys c behind (ap (λ (l : List ℕ). l ++ ys) (sym (encode_ascii c small))),
    )

pub one_utf8 : (c : ℕ) → c < 128 → IsUtf8 (c ∷ [])
one_utf8 c small = subst IsUtf8 (encode_ascii c small) (IsUtf8-encode c (low_scalar c (omega arith)))

-- the text begins with an ASCII character, or is empty
abbrev pub StartsAscii : List ℕ → Type 0
StartsAscii [] = Unit {0}
StartsAscii (c ∷ cs) = c < 128

pub cut : (xs ys : List ℕ) → StartsAscii ys → IsUtf8 (xs ++ ys) → IsUtf8 xs × IsUtf8 ys
cut xs [] small u = (subst IsUtf8 (append-nil xs) u, IsUtf8-nil)
cut xs (c ∷ ys) small u =
    let each = seam xs c ys small u in
    (each.0, IsUtf8-append (c ∷ []) ys (one_utf8 c small) each.1)

-- ---- escapes

pub moved : (done : List ℕ) (c : ℕ) (cs : List ℕ) → IsUtf8 (done ++ c ∷ cs) → IsUtf8 ((done ++ c ∷ []) ++ cs)
moved done c cs u = subst IsUtf8 (sym (append_assoc done (c ∷ []) cs)) u

pub back_moved : (done : List ℕ) (c : ℕ) (cs : List ℕ) → IsUtf8 ((done ++ c ∷ []) ++ cs) → IsUtf8 (done ++ c ∷ cs)
back_moved done c cs u = subst IsUtf8 (append_assoc done (c ∷ []) cs) u

dropped_utf8 : (e : Bool) (done cs : List ℕ) → IsUtf8 (done ++ cs) → IsUtf8 (done ++ escapes_dropped e cs)
dropped_utf8 e done [] u = u
dropped_utf8 true done (c ∷ cs) u = back_moved done c (escapes_dropped false cs) (dropped_utf8 false (done ++ c ∷ []) cs (moved done c cs u))
dropped_utf8 false done (c ∷ cs) u = here (nat_eq c 92) refl (λ v. dropped_utf8 true done cs v) (dropped_utf8 false (done ++ c ∷ []) cs (moved done c cs u))
  where
    here : (b : Bool) → nat_eq c 92 ≡ b → (IsUtf8 (done ++ cs) → IsUtf8 (done ++ escapes_dropped true cs)) → IsUtf8 ((done ++ c ∷ []) ++ escapes_dropped false cs) → IsUtf8 (done ++ (if b then escapes_dropped true cs else c ∷ escapes_dropped false cs))
    here true q skip keep = let each = seam done c cs (let small : c < 128 = grind (arith, nat_tests, q) in small) u in skip (IsUtf8-append done cs each.0 each.1)
    here false q skip keep = back_moved done c (escapes_dropped false cs) keep

dropped_clean : (e : Bool) (cs : List ℕ) → All IsClean cs → All IsClean (escapes_dropped e cs)
dropped_clean e [] h = h
dropped_clean true (c ∷ cs) h = All-cons IsClean c (escapes_dropped false cs) (All-head IsClean c cs h) (dropped_clean false cs (All-tail IsClean c cs h))
dropped_clean false (c ∷ cs) h = here (nat_eq c 92) (dropped_clean true cs (All-tail IsClean c cs h)) (dropped_clean false cs (All-tail IsClean c cs h))
  where
    here : (b : Bool) → All IsClean (escapes_dropped true cs) → All IsClean (escapes_dropped false cs) → All IsClean (if b then escapes_dropped true cs else c ∷ escapes_dropped false cs)
    here true skip keep = skip
    here false skip keep = All-cons IsClean c (escapes_dropped false cs) (All-head IsClean c cs h) keep

pub dropped_text : (cs : List ℕ) → IsText cs → IsText (without_escapes cs)
dropped_text cs h = record { utf8 = dropped_utf8 false [] cs h.utf8; clean = dropped_clean false cs h.clean }

-- ---- special characters

among_small : (c : ℕ) (ks : List ℕ) → list_all (λ k. nat_lt k 127) ks ≡ true → list_any (nat_eq c) ks ≡ true → c < 127
among_small c [] small e = cc
among_small c (k ∷ ks) small e =
    let each = and_parts (nat_lt k 127) (list_all (λ j. nat_lt j 127) ks) small in
    here (nat_eq c k) refl each.0 e (λ h. among_small c ks each.1 h)
  where
    here : (b : Bool) → nat_eq c k ≡ b → nat_lt k 127 ≡ true → (b || list_any (nat_eq c) ks) ≡ true → (list_any (nat_eq c) ks ≡ true → c < 127) → c < 127
    here true q low h rest = grind (arith, nat_tests, q, low)
    here false q low h rest = rest h

pub special_small : (c : ℕ) → is_special c ≡ true → c < 127
special_small c e = among_small c (35 ∷ 36 ∷ 64 ∷ 126 ∷ 42 ∷ 124 ∷ 92 ∷ 40 ∷ 41 ∷ 91 ∷ 93 ∷ 123 ∷ 125 ∷ []) refl e
