-- The tokens of a source that is accepted have spelled texts.
use Rattle.std.proofs.Common.{◌≡◌, ◌≢◌, ◌<◌, ◌≤◌, ◌+◌, ℕ, zero, suc, List, [], ◌∷◌, ◌++◌, ◌&&◌, ◌||◌, Bool, true, false, Option, Some, None, length, map, take, nat_eq, nat_lt, refl, sym, ◌∙◌, ap, subst, arith}
use Rattle.std.specs.Prelude.{if◌then◌else◌}
use Rattle.std.specs.Char.{encode_utf8}
use Rattle.std.specs.List.{All}
use Rattle.std.specs.Option.{option_or}
use Rattle.std.specs.Str.{IsUtf8, is_utf8}
use Rattle.std.specs.Str.Lossy.{utf8_valid_len, valid_len_up_to}
use Rattle.std.proofs.lemmas.Bool.{and_parts, or_parts}
use Rattle.std.proofs.lemmas.Bool.Decides.{nat_tests}
use Rattle.std.proofs.lemmas.List.{take_all}
use Rattle.std.proofs.lemmas.List.Elements.{All-nil, All-cons}
use Rattle.std.proofs.lemmas.Str.{IsUtf8-nil, IsUtf8-past_char, IsUtf8-from_is_utf8}
use Rattle.dg_base.specs.declared.refusal.Kind.TheVariants.{SourceTooLong}
use Rattle.dg_lex.specs.Bad.{bad_from, first_invalid, first_bad, refusal_at, lex_refusal}
use Rattle.dg_lex.specs.Chars.{backslash, is_blank, is_special, begins_with, opens_comment}
use Rattle.dg_lex.specs.Tokens.{gap_length, word_length, name_length, shape, named, bracket_of, name_at, shape_or, shape_at, token_of, IsTokens, IsLexed, without_mark, seen}
use Rattle.dg_lex.specs.declared.bad.Place.{Place}
use Rattle.dg_lex.specs.declared.bad.Place.TheVariants.{Outside, Escaped, Comment}
use Rattle.dg_lex.specs.declared.token.Shape.{Shape}
use Rattle.dg_lex.specs.declared.token.Token.{Token}
use Rattle.dg_lex.specs.declared.token.TokenKind.{TokenKind}
use Rattle.dg_lex.specs.declared.token.TokenKind.TheVariants.{Word, Dict, Object, Var, Anon, At, Hash, RoundOpen, RoundClose, SquareOpen, SquareClose, BraceOpen, BraceClose, Bar, Star, Tilde}
use Rattle.dg_lex.specs.Spelled.{IsClean, IsText, IsSpelled, without_escapes, escapes_dropped, SpellsText, IsSpelledToken}
use Rattle.dg_lex.proofs.StretchLemmas.{IsGood, good_from, IsAllowed, allowed, clean_from, outside_behind, IsBehind, gap_fine, place_of, IsStretch, not_lone_special, word_fine, escaped_some, word_some, name_fine, name_some}
use Rattle.dg_lex.proofs.TextLemmas.{seam, cut, dropped_text}

-- ---- one token

-- a token of this kind and text is spelled, and what stands behind it is good
pub record IsFine (kind : TokenKind) (text rest : List ℕ) : Type 0 where
  pub spelled : SpellsText kind text
  pub utf8 : IsUtf8 rest
  pub good : IsGood Outside rest

-- a kind without a text that is spelled
abbrev IsSign : TokenKind → Type 0
IsSign Word = ⊥
IsSign Dict = ⊥
IsSign Object = ⊥
IsSign kind = Unit {0}

sign_spelled : (kind : TokenKind) (text : List ℕ) → IsSign kind → SpellsText kind text
sign_spelled Word text h = absurd h
sign_spelled Dict text h = absurd h
sign_spelled Object text h = absurd h
sign_spelled kind text h = tt

-- a character that no escape and no comment begins with
record IsSimple (c : ℕ) : Type 0 where
  small : c < 128
  no_escape : c ≢ 92
  no_comment : c ≢ 37

-- a kind of one character
abbrev IsBracket : ℕ → Option TokenKind → Type 0
IsBracket c None = Unit {0}
IsBracket c (Some kind) = IsSign kind × IsSimple c

pick : (c n : ℕ) (kind : TokenKind) (others : Option TokenKind) → IsSign kind → IsSimple n → IsBracket c others → IsBracket c (if nat_eq c n then Some kind else others)
pick c n kind others sign simple rest = here (nat_eq c n) refl
  where
    here : (b : Bool) → nat_eq c n ≡ b → IsBracket c (if b then Some kind else others)
    here true q = (sign, subst IsSimple (let same : n ≡ c = grind (arith, nat_tests, q) in same) simple)
    here false q = rest

simple : (n : ℕ) → n < 128 → n ≢ 92 → n ≢ 37 → IsSimple n
simple n a b c = record { small = a; no_escape = b; no_comment = c }

bracket_fine : (c : ℕ) → IsBracket c (bracket_of c)
bracket_fine c =
    pick c 40 RoundOpen _ tt (simple 40 (omega arith) (λ e. omega arith) (λ e. omega arith))
    (pick c 41 RoundClose _ tt (simple 41 (omega arith) (λ e. omega arith) (λ e. omega arith))
    (pick c 91 SquareOpen _ tt (simple 91 (omega arith) (λ e. omega arith) (λ e. omega arith))
    (pick c 93 SquareClose _ tt (simple 93 (omega arith) (λ e. omega arith) (λ e. omega arith))
    (pick c 123 BraceOpen _ tt (simple 123 (omega arith) (λ e. omega arith) (λ e. omega arith))
    (pick c 125 BraceClose _ tt (simple 125 (omega arith) (λ e. omega arith) (λ e. omega arith))
    (pick c 124 Bar _ tt (simple 124 (omega arith) (λ e. omega arith) (λ e. omega arith))
    (pick c 42 Star _ tt (simple 42 (omega arith) (λ e. omega arith) (λ e. omega arith))
    (pick c 126 Tilde None tt (simple 126 (omega arith) (λ e. omega arith) (λ e. omega arith)) tt))))))))

kinds : (k kind : TokenKind) (m n : ℕ) → shape k m ≡ shape kind n → (k ≡ kind) × (m ≡ n)
kinds k kind m n e = (ap (λ (s : Shape). s.kind) e, ap (λ (s : Shape). s.length) e)

-- behind a simple character
behind_simple : (c : ℕ) (text : List ℕ) → IsSimple c → IsUtf8 (c ∷ text) → IsGood Outside (c ∷ text) → IsUtf8 text × IsGood Outside text
behind_simple c text s u g = ((seam [] c text s.small u).1, subst (λ (p : Place). IsGood p text) (outside_behind c text s.no_escape s.no_comment) g.1)

sign_fine : (c : ℕ) (w rest : List ℕ) (k kind : TokenKind) → IsSign k → IsSimple c → IsUtf8 (c ∷ (w ++ rest)) → IsGood Outside (c ∷ (w ++ rest)) → shape k 1 ≡ shape kind (length (c ∷ w)) → IsFine kind (c ∷ w) rest
sign_fine c [] rest k kind sign s u g e =
    let behind = behind_simple c rest s u g in
    record { spelled = sign_spelled kind (c ∷ []) (subst IsSign (kinds k kind 1 1 e).0 sign); utf8 = behind.0; good = behind.1 }
sign_fine c (x ∷ w) rest k kind sign s u g e = absurd (omega (arith, (kinds k kind 1 (length (c ∷ x ∷ w)) e).1))

stretch_text : (w rest : List ℕ) → IsStretch w rest → IsUtf8 (w ++ rest) → IsText w × IsUtf8 rest
stretch_text w rest h u = let each = cut w rest h.ascii u in (record { utf8 = each.0; clean = h.clean }, each.1)

shorter : (c n : ℕ) (w : List ℕ) → 1 + n ≡ length (c ∷ w) → length w ≡ n
shorter c n w e = omega (arith, e)

some_left : (w : List ℕ) (n : ℕ) → length w ≡ n → nat_eq n 0 ≡ false → w ≢ []
some_left [] n e q = absurd (let no : n ≢ 0 = grind (arith, nat_tests, q) in omega (arith, e))
some_left (x ∷ w) n e q = λ s. cc

dict_fine : (w rest : List ℕ) (kind : TokenKind) → IsUtf8 (64 ∷ (w ++ rest)) → IsGood Outside (64 ∷ (w ++ rest)) → named Dict At (word_length false (w ++ rest)) ≡ shape kind (length (64 ∷ w)) → IsFine kind (64 ∷ w) rest
dict_fine w rest kind u g e = here (nat_eq (word_length false (w ++ rest)) 0) refl e
  where
    at : IsSimple 64
    at = simple 64 (omega arith) (λ s. omega arith) (λ s. omega arith)

    here : (b : Bool) → nat_eq (word_length false (w ++ rest)) 0 ≡ b → (if b then shape At 1 else shape Dict (1 + word_length false (w ++ rest))) ≡ shape kind (length (64 ∷ w)) → IsFine kind (64 ∷ w) rest
    here true q k = sign_fine 64 w rest At kind tt at u g k
    here false q k =
        let same = kinds Dict kind (1 + word_length false (w ++ rest)) (length (64 ∷ w)) k in
        let long = shorter 64 (word_length false (w ++ rest)) w same.1 in
        let behind = behind_simple 64 (w ++ rest) at u g in
        let stretch = word_fine false w rest long behind.1 (λ s. cc) in
        let text = stretch_text w rest stretch behind.0 in
        let spelled : IsSpelled (without_escapes w) = record { text = dropped_text w text.0; some = word_some w rest (some_left w (word_length false (w ++ rest)) long q) long behind.1 } in
        record { spelled = subst (λ (j : TokenKind). SpellsText j (64 ∷ w)) same.0 spelled; utf8 = text.1; good = stretch.good }

object_fine : (w rest : List ℕ) (kind : TokenKind) → IsUtf8 (35 ∷ (w ++ rest)) → IsGood Outside (35 ∷ (w ++ rest)) → named Object Hash (name_length (w ++ rest)) ≡ shape kind (length (35 ∷ w)) → IsFine kind (35 ∷ w) rest
object_fine w rest kind u g e = here (nat_eq (name_length (w ++ rest)) 0) refl e
  where
    sign : IsSimple 35
    sign = simple 35 (omega arith) (λ s. omega arith) (λ s. omega arith)

    here : (b : Bool) → nat_eq (name_length (w ++ rest)) 0 ≡ b → (if b then shape Hash 1 else shape Object (1 + name_length (w ++ rest))) ≡ shape kind (length (35 ∷ w)) → IsFine kind (35 ∷ w) rest
    here true q k = sign_fine 35 w rest Hash kind tt sign u g k
    here false q k =
        let same = kinds Object kind (1 + name_length (w ++ rest)) (length (35 ∷ w)) k in
        let long = shorter 35 (name_length (w ++ rest)) w same.1 in
        let behind = behind_simple 35 (w ++ rest) sign u g in
        let stretch = name_fine w rest long behind.1 in
        let text = stretch_text w rest stretch behind.0 in
        let spelled : IsSpelled (without_escapes w) = record { text = dropped_text w text.0; some = name_some w rest (some_left w (name_length (w ++ rest)) long q) long } in
        record { spelled = subst (λ (j : TokenKind). SpellsText j (35 ∷ w)) same.0 spelled; utf8 = text.1; good = stretch.good }

variable_fine : (w rest : List ℕ) (kind : TokenKind) → IsUtf8 (36 ∷ (w ++ rest)) → IsGood Outside (36 ∷ (w ++ rest)) → named Var Anon (name_length (w ++ rest)) ≡ shape kind (length (36 ∷ w)) → IsFine kind (36 ∷ w) rest
variable_fine w rest kind u g e = here (nat_eq (name_length (w ++ rest)) 0) refl e
  where
    sign : IsSimple 36
    sign = simple 36 (omega arith) (λ s. omega arith) (λ s. omega arith)

    here : (b : Bool) → nat_eq (name_length (w ++ rest)) 0 ≡ b → (if b then shape Anon 1 else shape Var (1 + name_length (w ++ rest))) ≡ shape kind (length (36 ∷ w)) → IsFine kind (36 ∷ w) rest
    here true q k = sign_fine 36 w rest Anon kind tt sign u g k
    here false q k =
        let same = kinds Var kind (1 + name_length (w ++ rest)) (length (36 ∷ w)) k in
        let long = shorter 36 (name_length (w ++ rest)) w same.1 in
        let behind = behind_simple 36 (w ++ rest) sign u g in
        let stretch = name_fine w rest long behind.1 in
        let text = stretch_text w rest stretch behind.0 in
        record { spelled = subst (λ (j : TokenKind). SpellsText j (36 ∷ w)) same.0 tt; utf8 = text.1; good = stretch.good }

word_token_fine : (c : ℕ) (w rest : List ℕ) (kind : TokenKind) → IsUtf8 (c ∷ (w ++ rest)) → IsGood Outside (c ∷ (w ++ rest)) → (is_blank c || opens_comment c (w ++ rest)) ≡ false → shape Word (1 + word_length (nat_eq c backslash) (w ++ rest)) ≡ shape kind (length (c ∷ w)) → IsFine kind (c ∷ w) rest
word_token_fine c w rest kind u g stops e = here (nat_eq c backslash) refl g.1 e
  where
    stop : (is_blank c ≡ false) × (opens_comment c (w ++ rest) ≡ false)
    stop = or_parts (is_blank c) (opens_comment c (w ++ rest)) stops

    fine : IsAllowed Outside c (w ++ rest)
    fine = allowed Outside c (w ++ rest) g.0

    placed : (b : Bool) → IsGood (if b then Escaped else (if opens_comment c (w ++ rest) then Comment else Outside)) (w ++ rest) → IsGood (place_of b) (w ++ rest)
    placed true good = good
    placed false good = subst (λ (o : Bool). IsGood (if o then Comment else Outside) (w ++ rest)) stop.1 good

    left : (b : Bool) → nat_eq c backslash ≡ b → length w ≡ word_length b (w ++ rest) → (if b then escapes_dropped true w else c ∷ escapes_dropped false w) ≢ []
    left true q long = escaped_some w rest long (not_lone_special (nat_eq c backslash) (begins_with is_special (w ++ rest)) q fine.not_lone)
    left false q long = λ s. cc

    here : (b : Bool) → nat_eq c backslash ≡ b → IsGood (if b then Escaped else (if opens_comment c (w ++ rest) then Comment else Outside)) (w ++ rest) → shape Word (1 + word_length b (w ++ rest)) ≡ shape kind (length (c ∷ w)) → IsFine kind (c ∷ w) rest
    here b q good k =
        let same = kinds Word kind (1 + word_length b (w ++ rest)) (length (c ∷ w)) k in
        let long = shorter c (word_length b (w ++ rest)) w same.1 in
        let stretch = word_fine b w rest long (placed b good) (λ s. not_lone_special (nat_eq c backslash) (begins_with is_special (w ++ rest)) (q ∙ s) fine.not_lone) in
        let all : IsStretch (c ∷ w) rest = record { clean = All-cons IsClean c w (clean_from c stop.0 fine.no_control fine.not_high) stretch.clean; good = stretch.good; ascii = stretch.ascii } in
        let text = stretch_text (c ∷ w) rest all u in
        let some : without_escapes (c ∷ w) ≢ [] = subst (λ (x : Bool). (if x then escapes_dropped true w else c ∷ escapes_dropped false w) ≢ []) (sym q) (left b q long) in
        let spelled : IsSpelled (without_escapes (c ∷ w)) = record { text = dropped_text (c ∷ w) text.0; some = some } in
        record { spelled = subst (λ (j : TokenKind). SpellsText j (c ∷ w)) same.0 spelled; utf8 = text.1; good = stretch.good }

name_token_fine : (c : ℕ) (w rest : List ℕ) (kind : TokenKind) → IsUtf8 (c ∷ (w ++ rest)) → IsGood Outside (c ∷ (w ++ rest)) → (is_blank c || opens_comment c (w ++ rest)) ≡ false → name_at c (w ++ rest) ≡ shape kind (length (c ∷ w)) → IsFine kind (c ∷ w) rest
name_token_fine c w rest kind u g stops e = first (nat_eq c 64) refl e
  where
    third : (b : Bool) → nat_eq c 36 ≡ b → (if b then named Var Anon (name_length (w ++ rest)) else shape Word (1 + word_length (nat_eq c backslash) (w ++ rest))) ≡ shape kind (length (c ∷ w)) → IsFine kind (c ∷ w) rest
    third true q k =
        let same : c ≡ 36 = grind (arith, nat_tests, q) in
        subst (λ (n : ℕ). IsFine kind (n ∷ w) rest) (sym same) (variable_fine w rest kind (subst (λ (n : ℕ). IsUtf8 (n ∷ (w ++ rest))) same u) (subst (λ (n : ℕ). IsGood Outside (n ∷ (w ++ rest))) same g) k)
    third false q k = word_token_fine c w rest kind u g stops k

    second : (b : Bool) → nat_eq c 35 ≡ b → (if b then named Object Hash (name_length (w ++ rest)) else (if nat_eq c 36 then named Var Anon (name_length (w ++ rest)) else shape Word (1 + word_length (nat_eq c backslash) (w ++ rest)))) ≡ shape kind (length (c ∷ w)) → IsFine kind (c ∷ w) rest
    second true q k =
        let same : c ≡ 35 = grind (arith, nat_tests, q) in
        subst (λ (n : ℕ). IsFine kind (n ∷ w) rest) (sym same) (object_fine w rest kind (subst (λ (n : ℕ). IsUtf8 (n ∷ (w ++ rest))) same u) (subst (λ (n : ℕ). IsGood Outside (n ∷ (w ++ rest))) same g) k)
    second false q k = third (nat_eq c 36) refl k

    first : (b : Bool) → nat_eq c 64 ≡ b → (if b then named Dict At (word_length false (w ++ rest)) else (if nat_eq c 35 then named Object Hash (name_length (w ++ rest)) else (if nat_eq c 36 then named Var Anon (name_length (w ++ rest)) else shape Word (1 + word_length (nat_eq c backslash) (w ++ rest))))) ≡ shape kind (length (c ∷ w)) → IsFine kind (c ∷ w) rest
    first true q k =
        let same : c ≡ 64 = grind (arith, nat_tests, q) in
        subst (λ (n : ℕ). IsFine kind (n ∷ w) rest) (sym same) (dict_fine w rest kind (subst (λ (n : ℕ). IsUtf8 (n ∷ (w ++ rest))) same u) (subst (λ (n : ℕ). IsGood Outside (n ∷ (w ++ rest))) same g) k)
    first false q k = second (nat_eq c 35) refl k

token_fine : (c : ℕ) (w rest : List ℕ) (kind : TokenKind) → IsUtf8 (c ∷ (w ++ rest)) → IsGood Outside (c ∷ (w ++ rest)) → (is_blank c || opens_comment c (w ++ rest)) ≡ false → shape_at c (w ++ rest) ≡ shape kind (length (c ∷ w)) → IsFine kind (c ∷ w) rest
token_fine c w rest kind u g stops e = here (bracket_of c) (bracket_fine c) e
  where
    here : (o : Option TokenKind) → IsBracket c o → shape_or o (name_at c (w ++ rest)) ≡ shape kind (length (c ∷ w)) → IsFine kind (c ∷ w) rest
    here None b k = name_token_fine c w rest kind u g stops k
    here (Some k) b j = sign_fine c w rest k kind b.0 b.1 u g j

-- ---- all tokens

-- a shape of one character at least
abbrev HasSome : Shape → Type 0
HasSome s = 1 ≤ s.length

some_if : (b : Bool) (x y : Shape) → HasSome x → HasSome y → HasSome (if b then x else y)
some_if true x y h k = h
some_if false x y h k = k

one_more : (n : ℕ) → 1 ≤ 1 + n
one_more n = omega arith

named_some : (k alone : TokenKind) (n : ℕ) → HasSome (named k alone n)
named_some k alone n = some_if (nat_eq n 0) (shape alone 1) (shape k (1 + n)) (omega arith) (one_more n)

shape_some : (c : ℕ) (behind : List ℕ) → HasSome (shape_at c behind)
shape_some c behind = here (bracket_of c)
  where
    here : (o : Option TokenKind) → HasSome (shape_or o (name_at c behind))
    here None =
        some_if (nat_eq c 64) _ _ (named_some Dict At (word_length false behind))
        (some_if (nat_eq c 35) _ _ (named_some Object Hash (name_length behind))
        (some_if (nat_eq c 36) _ _ (named_some Var Anon (name_length behind)) (one_more (word_length (nat_eq c backslash) behind))))
    here (Some k) = omega arith

next_fine : (text rest : List ℕ) (kind : TokenKind) → IsBehind (text ++ rest) → token_of (text ++ rest) ≡ Some (shape kind (length text)) → IsFine kind text rest
next_fine [] [] kind b e = cc
next_fine [] (c ∷ cs) kind b e =
    let same : shape_at c cs ≡ shape kind 0 = cc in
    absurd (omega (arith, shape_some c cs, ap (λ (s : Shape). s.length) same))
next_fine (c ∷ w) rest kind b e = let same : shape_at c (w ++ rest) ≡ shape kind (length (c ∷ w)) = cc in token_fine c w rest kind b.utf8 b.good b.stops same

tokens_fine : (start : Bool) (line : ℕ) (text : List ℕ) (ts : List Token) → IsTokens start line text ts → IsUtf8 text → IsGood Outside text → All IsSpelledToken (map seen ts)
tokens_fine start line text [] h u g = All-nil IsSpelledToken
tokens_fine start line text (t ∷ ts) h u g =
    let next = h.1 in
    let behind = gap_fine false next.gap (t.text.now ++ h.0) (next.longest ∙ ap (gap_length false) next.split) (subst (IsGood Outside) next.split g) (subst IsUtf8 next.split u) in
    let fine = next_fine t.text.now h.0 t.kind behind next.token in
    All-cons IsSpelledToken (seen t) (map seen ts) fine.spelled (tokens_fine false t.line h.0 ts h.2 fine.utf8 fine.good)

-- ---- a source

unmarked : (a b c : Bool) → ((a && b) && c) ≡ true → (a ≡ true) × (b ≡ true) × (c ≡ true)
unmarked a b c e = let first = and_parts (a && b) c e in let each = and_parts a b first.0 in (each.0, each.1, first.1)

mark_bytes : (cs : List ℕ) → 239 ∷ 187 ∷ 191 ∷ cs ≡ encode_utf8 65279 ++ cs
unfolding encode_utf8
mark_bytes cs = refl

-- in UTF-8, with no bad character
pub record IsAccepted (text : List ℕ) : Type 0 where
  pub utf8 : IsUtf8 text
  pub good : IsGood Outside text

unmarked_accepted : (a b c : ℕ) (cs : List ℕ) → a ≡ 239 → b ≡ 187 → c ≡ 191 → IsAccepted (a ∷ b ∷ c ∷ cs) → IsAccepted cs
unmarked_accepted a b c cs x y z h =
    let first = subst (λ (p : Place). IsGood p (b ∷ c ∷ cs)) (outside_behind a (b ∷ c ∷ cs) (λ e. omega arith) (λ e. omega arith)) h.good.1 in
    let second = subst (λ (p : Place). IsGood p (c ∷ cs)) (outside_behind b (c ∷ cs) (λ e. omega arith) (λ e. omega arith)) first.1 in
    let third = subst (λ (p : Place). IsGood p cs) (outside_behind c cs (λ e. omega arith) (λ e. omega arith)) second.1 in
    let bytes : a ∷ b ∷ c ∷ cs ≡ 239 ∷ 187 ∷ 191 ∷ cs = cc in
    record { utf8 = IsUtf8-past_char (a ∷ b ∷ c ∷ cs) cs 65279 h.utf8 (bytes ∙ mark_bytes cs); good = third }

mark_accepted : (text : List ℕ) → IsAccepted text → IsAccepted (without_mark text)
mark_accepted (a ∷ b ∷ c ∷ cs) h = here ((nat_eq a 239 && nat_eq b 187) && nat_eq c 191) refl
  where
    here : (m : Bool) → ((nat_eq a 239 && nat_eq b 187) && nat_eq c 191) ≡ m → IsAccepted (if m then cs else a ∷ b ∷ c ∷ cs)
    here true q =
        let each = unmarked (nat_eq a 239) (nat_eq b 187) (nat_eq c 191) q in
        let x : a ≡ 239 = (let e = each.0 in grind (arith, nat_tests, e)) in
        let y : b ≡ 187 = (let e = each.1 in grind (arith, nat_tests, e)) in
        let z : c ≡ 191 = (let e = each.2 in grind (arith, nat_tests, e)) in
        unmarked_accepted a b c cs x y z h
    here false q = h
mark_accepted [] h = h
mark_accepted (a ∷ []) h = h
mark_accepted (a ∷ b ∷ []) h = h

front_utf8 : (text : List ℕ) (n : ℕ) → IsUtf8 (take (valid_len_up_to text n) text)
front_utf8 text zero = IsUtf8-nil
front_utf8 text (suc n) = here (is_utf8 (take (suc n) text)) refl (front_utf8 text n)
  where
    here : (b : Bool) → is_utf8 (take (suc n) text) ≡ b → IsUtf8 (take (valid_len_up_to text n) text) → IsUtf8 (take (if b then suc n else valid_len_up_to text n) text)
    here true q rest = IsUtf8-from_is_utf8 (take (suc n) text) q
    here false q rest = rest

valid_utf8 : (text : List ℕ) → length text ≤ utf8_valid_len text → IsUtf8 text
unfolding utf8_valid_len
valid_utf8 text h = subst IsUtf8 (take_all (utf8_valid_len text) text h) (front_utf8 text (length text))

none_found : (source : List ℕ) (o : Option ℕ) → refusal_at source o ≡ None → o ≡ None
none_found source None e = refl
none_found source (Some n) e = cc

source_accepted : (source : List ℕ) → lex_refusal source ≡ None → IsAccepted source
source_accepted source h = long (nat_lt 1048576 (length source)) h
  where
    valid : (b : Bool) → nat_lt (utf8_valid_len source) (length source) ≡ b → (if b then Some (utf8_valid_len source) else None) ≡ None → length source ≤ utf8_valid_len source
    valid true q e = cc
    valid false q e = grind (arith, nat_tests, q)

    none_bad : (o : Option ℕ) → bad_from Outside 0 (take (utf8_valid_len source) source) ≡ o → refusal_at source (option_or o (first_invalid source)) ≡ None → IsAccepted source
    none_bad (Some n) q e = cc
    none_bad None q e =
        let whole = valid (nat_lt (utf8_valid_len source) (length source)) refl (none_found source (first_invalid source) e) in
        record {
          utf8 = valid_utf8 source whole;
          good = subst (IsGood Outside) (take_all (utf8_valid_len source) source whole) (good_from Outside 0 (take (utf8_valid_len source) source) q);
        }

    long : (b : Bool) → (if b then Some (record { kind = SourceTooLong; line = 1 }) else refusal_at source (first_bad source)) ≡ None → IsAccepted source
    long true e = cc
    long false e = none_bad (bad_from Outside 0 (take (utf8_valid_len source) source)) refl e

-- the tokens of a source that is accepted are spelled
pub lexed_spelled : (source : List ℕ) (tokens : List Token) → lex_refusal source ≡ None → IsLexed source tokens → All IsSpelledToken (map seen tokens)
lexed_spelled source tokens h lexed =
    let accepted = mark_accepted source (source_accepted source h) in
    tokens_fine true 1 (without_mark source) tokens lexed accepted.utf8 accepted.good
