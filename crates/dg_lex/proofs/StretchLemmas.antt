-- The gaps, words and names of a text without bad characters.
use Rattle.std.proofs.Common.{◌≡◌, ◌≢◌, ◌<◌, ◌≤◌, ◌+◌, ◌⊎◌, inl, inr, ℕ, List, [], ◌∷◌, ◌++◌, ◌&&◌, ◌||◌, Bool, true, false, not, Some, None, length, nat_eq, nat_lt, refl, sym, ◌∙◌, ap, subst, arith}
use Rattle.std.specs.Prelude.{if◌then◌else◌, nat_le}
use Rattle.std.specs.List.{All, list_any, list_all}
use Rattle.std.specs.Str.{IsUtf8}
use Rattle.std.proofs.lemmas.Bool.{and_parts, and_cases, or_parts}
use Rattle.std.proofs.lemmas.Bool.Decides.{nat_tests}
use Rattle.std.proofs.lemmas.List.Elements.{All-nil, All-cons}
use Rattle.std.proofs.lemmas.Str.{IsUtf8-nil}
use Rattle.dg_lex.specs.Bad.{place_behind, is_lone, is_bad, bad_from}
use Rattle.dg_lex.specs.Chars.{newline, percent, backslash, is_blank, is_special, is_control, begins_too_high, is_past_ascii, is_digit, is_letter, is_name_char, begins_with, opens_comment}
use Rattle.dg_lex.specs.Tokens.{gap_length, is_word_char, word_length, name_length}
use Rattle.dg_lex.specs.declared.bad.Place.{Place}
use Rattle.dg_lex.specs.declared.bad.Place.TheVariants.{Outside, Escaped, Comment}
use Rattle.dg_lex.specs.Spelled.{IsClean, escapes_dropped}
use Rattle.dg_lex.proofs.TextLemmas.{StartsAscii, seam, moved, special_small}

-- ---- no bad characters

-- no character of a text that begins in this place is bad
abbrev pub IsGood : Place → List ℕ → Type 0
IsGood p [] = Unit {0}
IsGood p (c ∷ cs) = (is_bad p c cs ≡ false) × IsGood (place_behind p c cs) cs

pub good_from : (p : Place) (n : ℕ) (text : List ℕ) → bad_from p n text ≡ None → IsGood p text
good_from p n [] h = tt
good_from p n (c ∷ cs) h = here (is_bad p c cs) refl h (λ k. good_from (place_behind p c cs) (n + 1) cs k)
  where
    here : (b : Bool) → is_bad p c cs ≡ b → (if b then Some n else bad_from (place_behind p c cs) (n + 1) cs) ≡ None → (bad_from (place_behind p c cs) (n + 1) cs ≡ None → IsGood (place_behind p c cs) cs) → IsGood p (c ∷ cs)
    here true q k rest = cc
    here false q k rest = (q, rest k)

-- a character that isn't bad
pub record IsAllowed (p : Place) (c : ℕ) (cs : List ℕ) : Type 0 where
  pub no_control : is_control c ≡ false
  pub not_high : begins_too_high c ≡ false
  pub not_lone : is_lone p c cs ≡ false

pub allowed : (p : Place) (c : ℕ) (cs : List ℕ) → is_bad p c cs ≡ false → IsAllowed p c cs
allowed p c cs h =
    let each = or_parts (is_control c || begins_too_high c) (is_lone p c cs) h in
    let first = or_parts (is_control c) (begins_too_high c) each.0 in
    record { no_control = first.0; not_high = first.1; not_lone = each.1 }

either : (a b : Bool) → (a || b) ≡ true → (a ≡ true) ⊎ (b ≡ true)
either true b e = inl refl
either false b e = inr e

pub blank_small : (c : ℕ) → is_blank c ≡ true → c < 33
blank_small c e = elim (either (nat_eq c 32 || nat_eq c 9) (nat_eq c 10 || nat_eq c 13) e) [
  | inl a ↦ elim (either (nat_eq c 32) (nat_eq c 9) a) [ inl x ↦ grind (arith, nat_tests, x) | inr x ↦ grind (arith, nat_tests, x) ]
  | inr a ↦ elim (either (nat_eq c 10) (nat_eq c 13) a) [ inl x ↦ grind (arith, nat_tests, x) | inr x ↦ grind (arith, nat_tests, x) ]
]

not_blank : (c : ℕ) → 33 ≤ c → is_blank c ≡ false
not_blank c h = here (is_blank c) refl
  where
    here : (b : Bool) → is_blank c ≡ b → b ≡ false
    here false q = refl
    here true q = absurd (omega (arith, blank_small c q))

pub clean_from : (c : ℕ) → is_blank c ≡ false → is_control c ≡ false → begins_too_high c ≡ false → IsClean c
clean_from c blank control high =
    let each = or_parts (nat_lt c 32 && not (is_blank c)) (nat_eq c 127) control in
    let past : nat_lt c 32 ≡ false = elim (and_cases (nat_lt c 32) (not (is_blank c)) each.0) [ inl a ↦ a | inr a ↦ absurd (let no : true ≡ false = sym (ap not blank) ∙ a in cc) ] in
    record { from = grind (arith, nat_tests, past); no_delete = grind (arith, nat_tests, each.1); low = grind (arith, nat_tests, high) }

opens_small : (c : ℕ) (cs : List ℕ) → opens_comment c cs ≡ true → c ≡ 37
opens_small c cs e = let first = (and_parts (nat_eq c percent) (begins_with (nat_eq percent) cs) e).0 in grind (arith, nat_tests, first)

other : (c n : ℕ) → c ≢ n → nat_eq c n ≡ false
other c n h = grind (arith, nat_tests, h)

pub closed_comment : (c : ℕ) (cs : List ℕ) → c ≢ 37 → opens_comment c cs ≡ false
closed_comment c cs h = ap (λ (b : Bool). b && begins_with (nat_eq percent) cs) (other c 37 h)

pub outside_behind : (c : ℕ) (cs : List ℕ) → c ≢ 92 → c ≢ 37 → place_behind Outside c cs ≡ Outside
outside_behind c cs h k =
    ap (λ (b : Bool). if b then Escaped else (if opens_comment c cs then Comment else Outside)) (other c 92 h)
    ∙ ap (λ (b : Bool). if b then Comment else Outside) (closed_comment c cs k)

-- ---- gaps

abbrev place_in : Bool → Place
place_in true = Comment
place_in false = Outside

-- a text in UTF-8, or one behind the begin of a comment that goes on
abbrev IsWhole : Bool → List ℕ → Type 0
IsWhole false text = IsUtf8 text
IsWhole true text = (done : List ℕ) × IsUtf8 (done ++ text)

-- neither a blank nor a comment begins the text
abbrev pub Stops : List ℕ → Type 0
Stops [] = Unit {0}
Stops (c ∷ cs) = (is_blank c || opens_comment c cs) ≡ false

-- what stands behind a gap
pub record IsBehind (rest : List ℕ) : Type 0 where
  pub good : IsGood Outside rest
  pub stops : Stops rest
  pub utf8 : IsUtf8 rest

longer : (n : ℕ) (xs : List ℕ) (x : ℕ) → length (x ∷ xs) ≡ 1 + n → length xs ≡ n
longer n xs x e = omega (arith, e)

pub gap_fine : (inside : Bool) (gap rest : List ℕ) → length gap ≡ gap_length inside (gap ++ rest) → IsGood (place_in inside) (gap ++ rest) → IsWhole inside (gap ++ rest) → IsBehind rest
gap_fine true [] [] e g u = record { good = tt; stops = tt; utf8 = IsUtf8-nil }
gap_fine true [] (c ∷ cs) e g u = absurd (omega (arith, e))
gap_fine false [] [] e g u = record { good = tt; stops = tt; utf8 = u }
gap_fine false [] (c ∷ cs) e g u = here (is_blank c || opens_comment c cs) refl e
  where
    here : (b : Bool) → (is_blank c || opens_comment c cs) ≡ b → 0 ≡ (if b then 1 + gap_length (opens_comment c cs) cs else 0) → IsBehind (c ∷ cs)
    here true q k = absurd (omega (arith, k))
    here false q k = record { good = g; stops = q; utf8 = u }
gap_fine true (x ∷ gap) rest e g u = here (nat_eq x newline) refl e g.1 (λ a b c. gap_fine false gap rest a b c) (λ a b c. gap_fine true gap rest a b c)
  where
    here : (b : Bool) → nat_eq x newline ≡ b → length (x ∷ gap) ≡ 1 + gap_length (not b) (gap ++ rest) → IsGood (if b then Outside else Comment) (gap ++ rest)
        → (length gap ≡ gap_length false (gap ++ rest) → IsGood Outside (gap ++ rest) → IsUtf8 (gap ++ rest) → IsBehind rest)
        → (length gap ≡ gap_length true (gap ++ rest) → IsGood Comment (gap ++ rest) → ((done : List ℕ) × IsUtf8 (done ++ (gap ++ rest))) → IsBehind rest) → IsBehind rest
    here true q k good ends goes = ends (longer _ gap x k) good (seam u.0 x (gap ++ rest) (let small : x < 128 = grind (arith, nat_tests, q) in small) u.1).1
    here false q k good ends goes = goes (longer _ gap x k) good (u.0 ++ x ∷ [], moved u.0 x (gap ++ rest) u.1)
gap_fine false (x ∷ gap) rest e g u = here (is_blank x) (opens_comment x (gap ++ rest)) refl refl e g.1 (λ a b c. gap_fine false gap rest a b c) (λ a b c. gap_fine true gap rest a b c)
  where
    here : (b o : Bool) → is_blank x ≡ b → opens_comment x (gap ++ rest) ≡ o → length (x ∷ gap) ≡ (if b || o then 1 + gap_length o (gap ++ rest) else 0) → IsGood (if nat_eq x backslash then Escaped else (if o then Comment else Outside)) (gap ++ rest)
        → (length gap ≡ gap_length false (gap ++ rest) → IsGood Outside (gap ++ rest) → IsUtf8 (gap ++ rest) → IsBehind rest)
        → (length gap ≡ gap_length true (gap ++ rest) → IsGood Comment (gap ++ rest) → ((done : List ℕ) × IsUtf8 (done ++ (gap ++ rest))) → IsBehind rest) → IsBehind rest
    here true false q r k good ends goes =
        ends (longer _ gap x k) (subst (λ (b : Bool). IsGood (if b then Escaped else Outside) (gap ++ rest)) (other x 92 (λ s. omega (arith, blank_small x q))) good) (seam [] x (gap ++ rest) (omega (arith, blank_small x q)) u).1
    here true true q r k good ends goes =
        goes (longer _ gap x k) (subst (λ (b : Bool). IsGood (if b then Escaped else Comment) (gap ++ rest)) (other x 92 (λ s. omega (arith, opens_small x (gap ++ rest) r))) good) (x ∷ [], u)
    here false true q r k good ends goes =
        goes (longer _ gap x k) (subst (λ (b : Bool). IsGood (if b then Escaped else Comment) (gap ++ rest)) (other x 92 (λ s. omega (arith, opens_small x (gap ++ rest) r))) good) (x ∷ [], u)
    here false false q r k good ends goes = absurd (omega (arith, k))

-- ---- words

abbrev pub place_of : Bool → Place
place_of true = Escaped
place_of false = Outside

-- a stretch of clean bytes, and what stands behind it
pub record IsStretch (w rest : List ℕ) : Type 0 where
  pub clean : All IsClean w
  pub good : IsGood Outside rest
  pub ascii : StartsAscii rest

pub not_lone_special : (b c : Bool) → b ≡ true → (b && not c) ≡ false → c ≡ true
not_lone_special true true e h = refl
not_lone_special true false e h = cc
not_lone_special false c e h = cc

among_great : (c n : ℕ) (ks : List ℕ) → list_all (λ k. nat_lt n k) ks ≡ true → list_any (nat_eq c) ks ≡ true → n < c
among_great c n [] great e = cc
among_great c n (k ∷ ks) great e =
    let each = and_parts (nat_lt n k) (list_all (λ j. nat_lt n j) ks) great in
    here (nat_eq c k) refl each.0 e (λ h. among_great c n ks each.1 h)
  where
    here : (b : Bool) → nat_eq c k ≡ b → nat_lt n k ≡ true → (b || list_any (nat_eq c) ks) ≡ true → (list_any (nat_eq c) ks ≡ true → n < c) → n < c
    here true q high h rest = grind (arith, nat_tests, q, high)
    here false q high h rest = rest h

special_clean : (c : ℕ) → is_special c ≡ true → is_control c ≡ false → begins_too_high c ≡ false → IsClean c
special_clean c e control high = clean_from c (not_blank c (omega (arith, among_great c 32 (35 ∷ 36 ∷ 64 ∷ 126 ∷ 42 ∷ 124 ∷ 92 ∷ 40 ∷ 41 ∷ 91 ∷ 93 ∷ 123 ∷ 125 ∷ []) refl e))) control high

not_false : (b : Bool) → not b ≡ false → b ≡ true
not_false true e = refl
not_false false e = cc

not_true : (b : Bool) → not b ≡ true → b ≡ false
not_true true e = cc
not_true false e = refl

word_ends : (c : ℕ) (cs : List ℕ) → is_word_char c cs ≡ false → c < 128
word_ends c cs h = elim (and_cases (not (is_blank c || is_special c)) (not (opens_comment c cs)) h) [
  | inl a ↦ elim (either (is_blank c) (is_special c) (not_false (is_blank c || is_special c) a)) [ inl x ↦ omega (arith, blank_small c x) | inr x ↦ omega (arith, special_small c x) ]
  | inr a ↦ omega (arith, opens_small c cs (not_false (opens_comment c cs) a))
]

pub word_fine : (e : Bool) (w rest : List ℕ) → length w ≡ word_length e (w ++ rest) → IsGood (place_of e) (w ++ rest) → (e ≡ true → begins_with is_special (w ++ rest) ≡ true) → IsStretch w rest
word_fine true [] [] n g s = record { clean = All-nil IsClean; good = tt; ascii = tt }
word_fine true [] (c ∷ cs) n g s = absurd (omega (arith, n))
word_fine false [] [] n g s = record { clean = All-nil IsClean; good = tt; ascii = tt }
word_fine false [] (c ∷ cs) n g s = here (nat_eq c backslash) (is_word_char c cs) refl n
  where
    here : (b d : Bool) → is_word_char c cs ≡ d → 0 ≡ (if b then 1 + word_length true cs else (if d then 1 + word_length false cs else 0)) → IsStretch [] (c ∷ cs)
    here true d q k = absurd (omega (arith, k))
    here false true q k = absurd (omega (arith, k))
    here false false q k = record { clean = All-nil IsClean; good = g; ascii = word_ends c cs q }
word_fine true (x ∷ w) rest n g s =
    let fine = allowed Escaped x (w ++ rest) g.0 in
    let others = word_fine false w rest (longer _ w x n) g.1 (λ e. cc) in
    record { clean = All-cons IsClean x w (special_clean x (s refl) fine.no_control fine.not_high) others.clean; good = others.good; ascii = others.ascii }
word_fine false (x ∷ w) rest n g s = here (nat_eq x backslash) (is_word_char x (w ++ rest)) refl refl n g.1 (λ a b c. word_fine true w rest a b c) (λ a b. word_fine false w rest a b (λ e. cc))
  where
    fine : IsAllowed Outside x (w ++ rest)
    fine = allowed Outside x (w ++ rest) g.0

    with_first : IsClean x → IsStretch w rest → IsStretch (x ∷ w) rest
    with_first c others = record { clean = All-cons IsClean x w c others.clean; good = others.good; ascii = others.ascii }

    here : (b d : Bool) → nat_eq x backslash ≡ b → is_word_char x (w ++ rest) ≡ d → length (x ∷ w) ≡ (if b then 1 + word_length true (w ++ rest) else (if d then 1 + word_length false (w ++ rest) else 0)) → IsGood (if b then Escaped else (if opens_comment x (w ++ rest) then Comment else Outside)) (w ++ rest)
        → (length w ≡ word_length true (w ++ rest) → IsGood Escaped (w ++ rest) → (◌≡◌ {A = Bool} true true → begins_with is_special (w ++ rest) ≡ true) → IsStretch w rest)
        → (length w ≡ word_length false (w ++ rest) → IsGood Outside (w ++ rest) → IsStretch w rest) → IsStretch (x ∷ w) rest
    here true d q r k good escape goes =
        let same : x ≡ 92 = grind (arith, nat_tests, q) in
        with_first (record { from = omega arith; no_delete = λ e. omega arith; low = omega arith })
        (escape (longer _ w x k) good (λ e. not_lone_special (nat_eq x backslash) (begins_with is_special (w ++ rest)) q fine.not_lone))
    here false true q r k good escape goes =
        let each = and_parts (not (is_blank x || is_special x)) (not (opens_comment x (w ++ rest))) r in
        let plain = or_parts (is_blank x) (is_special x) (not_true (is_blank x || is_special x) each.0) in
        with_first (clean_from x plain.0 fine.no_control fine.not_high)
        (goes (longer _ w x k) (subst (λ (b : Bool). IsGood (if b then Comment else Outside) (w ++ rest)) (not_true (opens_comment x (w ++ rest)) each.1) good))
    here false false q r k good escape goes = absurd (omega (arith, k))

-- a character stands behind a backslash
pub escaped_some : (w rest : List ℕ) → length w ≡ word_length true (w ++ rest) → begins_with is_special (w ++ rest) ≡ true → escapes_dropped true w ≢ []
escaped_some [] [] n s = λ e. absurd (let no : false ≡ true = s in cc)
escaped_some [] (c ∷ cs) n s = absurd (omega (arith, n))
escaped_some (x ∷ w) rest n s = λ e. cc

pub word_some : (w rest : List ℕ) → w ≢ [] → length w ≡ word_length false (w ++ rest) → IsGood Outside (w ++ rest) → escapes_dropped false w ≢ []
word_some [] rest some n g = absurd (some refl)
word_some (x ∷ w) rest some n g = here (nat_eq x backslash) refl n
  where
    here : (b : Bool) → nat_eq x backslash ≡ b → length (x ∷ w) ≡ (if b then 1 + word_length true (w ++ rest) else (if is_word_char x (w ++ rest) then 1 + word_length false (w ++ rest) else 0)) → (if b then escapes_dropped true w else x ∷ escapes_dropped false w) ≢ []
    here true q k = escaped_some w rest (longer _ w x k) (not_lone_special (nat_eq x backslash) (begins_with is_special (w ++ rest)) q (allowed Outside x (w ++ rest) g.0).not_lone)
    here false q k = λ e. cc

-- ---- names

-- a character of a name, as numbers
abbrev IsOfName : ℕ → Type 0
IsOfName c = (43 ≤ c) × (c ≢ 92)

stretch : (c a b : ℕ) → 43 ≤ a → (92 < a) ⊎ (b < 92) → (nat_le a c && nat_le c b) ≡ true → IsOfName c
stretch c a b low apart e =
    let each = and_parts (nat_le a c) (nat_le c b) e in
    let from : a ≤ c = (let x = each.0 in grind (arith, nat_tests, x)) in
    let to : c ≤ b = (let x = each.1 in grind (arith, nat_tests, x)) in
    (omega arith, λ s. elim apart [ inl h ↦ omega arith | inr h ↦ omega arith ])

name_char : (c : ℕ) → is_name_char c ≡ true → IsOfName c
name_char c e = elim (either (is_letter c || is_digit c) (list_any (nat_eq c) (43 ∷ 45 ∷ 95 ∷ []) || is_past_ascii c) e) [
  | inl a ↦ elim (either (is_letter c) (is_digit c) a) [
    | inl l ↦ elim (either (nat_le 65 c && nat_le c 90) (nat_le 97 c && nat_le c 122) l) [ inl x ↦ stretch c 65 90 (omega arith) (inr (omega arith)) x | inr x ↦ stretch c 97 122 (omega arith) (inl (omega arith)) x ]
    | inr d ↦ stretch c 48 57 (omega arith) (inr (omega arith)) d
  ]
  | inr a ↦ elim (either (list_any (nat_eq c) (43 ∷ 45 ∷ 95 ∷ [])) (is_past_ascii c) a) [
    | inl x ↦ elim (either (nat_eq c 43) (nat_eq c 45 || (nat_eq c 95 || false)) x) [
      | inl y ↦ (let same : c ≡ 43 = grind (arith, nat_tests, y) in (omega arith, λ s. omega arith))
      | inr z ↦ elim (either (nat_eq c 45) (nat_eq c 95 || false) z) [
        | inl y ↦ (let same : c ≡ 45 = grind (arith, nat_tests, y) in (omega arith, λ s. omega arith))
        | inr v ↦ elim (either (nat_eq c 95) false v) [ inl y ↦ (let same : c ≡ 95 = grind (arith, nat_tests, y) in (omega arith, λ s. omega arith)) | inr y ↦ absurd (let no : false ≡ true = y in cc) ]
      ]
    ]
    | inr x ↦ (let past : 128 ≤ c = grind (arith, nat_tests, x) in (omega arith, λ s. omega arith))
  ]
]

pub name_fine : (n rest : List ℕ) → length n ≡ name_length (n ++ rest) → IsGood Outside (n ++ rest) → IsStretch n rest
name_fine [] [] k g = record { clean = All-nil IsClean; good = tt; ascii = tt }
name_fine [] (c ∷ cs) k g = here (is_name_char c) refl k
  where
    here : (b : Bool) → is_name_char c ≡ b → 0 ≡ (if b then 1 + name_length cs else 0) → IsStretch [] (c ∷ cs)
    here true q k' = absurd (omega (arith, k'))
    here false q k' =
        let last = (or_parts (list_any (nat_eq c) (43 ∷ 45 ∷ 95 ∷ [])) (is_past_ascii c) (or_parts (is_letter c || is_digit c) (list_any (nat_eq c) (43 ∷ 45 ∷ 95 ∷ []) || is_past_ascii c) q).1).1 in
        record { clean = All-nil IsClean; good = g; ascii = grind (arith, nat_tests, last) }
name_fine (x ∷ n) rest k g = here (is_name_char x) refl k (λ a b. name_fine n rest a b)
  where
    here : (b : Bool) → is_name_char x ≡ b → length (x ∷ n) ≡ (if b then 1 + name_length (n ++ rest) else 0) → (length n ≡ name_length (n ++ rest) → IsGood Outside (n ++ rest) → IsStretch n rest) → IsStretch (x ∷ n) rest
    here true q k' goes =
        let fine = allowed Outside x (n ++ rest) g.0 in
        let char = name_char x q in
        let others = goes (longer _ n x k') (subst (λ (p : Place). IsGood p (n ++ rest)) (outside_behind x (n ++ rest) char.1 (λ e. omega (arith, char.0, e))) g.1) in
        record { clean = All-cons IsClean x n (clean_from x (not_blank x (omega (arith, char.0))) fine.no_control fine.not_high) others.clean; good = others.good; ascii = others.ascii }
    here false q k' goes = absurd (omega (arith, k'))

pub name_some : (n rest : List ℕ) → n ≢ [] → length n ≡ name_length (n ++ rest) → escapes_dropped false n ≢ []
name_some [] rest some k = absurd (some refl)
name_some (x ∷ n) rest some k = here (is_name_char x) refl k
  where
    here : (b : Bool) → is_name_char x ≡ b → length (x ∷ n) ≡ (if b then 1 + name_length (n ++ rest) else 0) → escapes_dropped false (x ∷ n) ≢ []
    here true q k' = subst (λ (b : Bool). (if b then escapes_dropped true n else x ∷ escapes_dropped false n) ≢ []) (sym (other x 92 (name_char x q).1)) (λ e. cc)
    here false q k' = absurd (omega (arith, k'))
