-- A text as a row of tokens with gaps between them, and that these are its tokens.
use Rattle.std.proofs.Common.{◌≡◌, ◌+◌, ◌<◌, ◌⊎◌, inl, inr, ℕ, zero, suc, Bool, true, false, not, ◌&&◌, ◌||◌, List, [], ◌∷◌, ◌++◌, Some, None, length, map, nat_eq, refl, sym, ap, subst, ◌∙◌, arith}
use Rattle.std.specs.List.{list_any, list_all}
use Rattle.std.proofs.lemmas.Bool.{and_parts, or_parts, or_cases, or_from, and_left, not-true, eqb-true, ne_eqb, cond-true, cond-false, false≢true}
use Rattle.dg_lex.specs.Bad.{lines}
use Rattle.dg_lex.specs.Chars.{is_blank, is_special, is_name_char, opens_comment}
use Rattle.dg_lex.specs.Tokens.{gap_length, is_word_char, word_length, name_length, shape, named, bracket_of, shape_at, token_of, at_first, IsTokens, Seen, seen}
use Rattle.dg_lex.specs.declared.token.Token.{Token}
use Rattle.dg_lex.specs.declared.token.TokenKind.{TokenKind}
use Rattle.dg_lex.specs.declared.token.TokenKind.TheVariants.{Word, Object, Hash, Var, Anon, RoundOpen, RoundClose, BraceOpen, BraceClose, Star}
use Rattle.dg_made.proofs.Items.{Each}

-- ---- a row of tokens

-- A token, and the gap behind it.
pub record Cell : Type 0 where
  pub kind : TokenKind
  pub text : List ℕ
  pub gap : List ℕ

abbrev pub cell : TokenKind → List ℕ → List ℕ → Cell
cell kind text gap = record { kind = kind; text = text; gap = gap }

-- The text of a row.
abbrev pub text_of : List Cell → List ℕ
text_of [] = []
text_of (c ∷ cs) = c.text ++ (c.gap ++ text_of cs)

-- A line, and so many more.
abbrev pub plus : ℕ → ℕ → ℕ
plus line zero = line
plus line (suc n) = plus line n + 1

plus_is : (line n : ℕ) → plus line n ≡ line + n
plus_is line zero = omega arith
plus_is line (suc n) = omega (arith, plus_is line n)

-- The tokens of a row that stands behind a gap, from this line on.
abbrev pub tokens_from : Bool → ℕ → List ℕ → List Cell → List Token
tokens_from start line gap [] = []
tokens_from start line gap (c ∷ cs) =
    record { kind = c.kind; text = record { ref_ptr = (0, 0); now = c.text }; line = plus line (lines gap); first = at_first start gap }
    ∷ tokens_from false (plus line (lines gap)) c.gap cs

-- What is seen of them.
abbrev pub seen_from : Bool → ℕ → List ℕ → List Cell → List Seen
seen_from start line gap cs = map seen (tokens_from start line gap cs)

-- ---- what is asked of a row

abbrev pub is_gap : ℕ → Bool
is_gap c = nat_eq c 32 || nat_eq c 10

-- A character of a word, wherever it stands.
abbrev pub is_kept : ℕ → Bool
is_kept c = not (is_blank c || is_special c) && not (nat_eq c 37)

-- A character behind which no word and no name goes on.
abbrev pub ending : List ℕ
ending = 10 ∷ 32 ∷ 40 ∷ 41 ∷ 123 ∷ 125 ∷ []

abbrev pub ends : List ℕ → Bool
ends [] = true
ends (c ∷ cs) = list_any (nat_eq c) ending

-- A text of a token of this kind.
abbrev pub is_form : TokenKind → List ℕ → Bool
is_form Word (c ∷ w) = list_all is_kept (c ∷ w)
is_form Object (c ∷ d ∷ w) = nat_eq c 35 && list_all is_name_char (d ∷ w)
is_form Var (c ∷ d ∷ w) = nat_eq c 36 && list_all is_name_char (d ∷ w)
is_form RoundOpen (c ∷ []) = nat_eq c 40
is_form RoundClose (c ∷ []) = nat_eq c 41
is_form BraceOpen (c ∷ []) = nat_eq c 123
is_form BraceClose (c ∷ []) = nat_eq c 125
is_form Star (c ∷ []) = nat_eq c 42
is_form kind text = false

-- A token of this kind ends before a text.
abbrev pub stops : TokenKind → List ℕ → Bool
stops Word rest = ends rest
stops Object rest = ends rest
stops Var rest = ends rest
stops kind rest = true

abbrev pub is_cell : Cell → Bool
is_cell c = is_form c.kind c.text && list_all is_gap c.gap

-- Each token ends before the next.
abbrev pub are_cells : List Cell → Bool
are_cells [] = true
are_cells (c ∷ cs) = is_cell c && (stops c.kind (c.gap ++ text_of cs) && are_cells cs)

-- ---- characters

-- What is so of each of these is so of one of them.
one_of : (P : ℕ → Type 0) (cs : List ℕ) → Each P cs → (c : ℕ) → list_any (nat_eq c) cs ≡ true → P c
one_of P [] h c e = absurd (false≢true e)
one_of P (d ∷ cs) h c e = here (or_cases (nat_eq c d) (list_any (nat_eq c) cs) e) (one_of P cs h.1 c)
  where
    here : (nat_eq c d ≡ true) ⊎ (list_any (nat_eq c) cs ≡ true) → (list_any (nat_eq c) cs ≡ true → P c) → P c
    here (inl q) rest = subst P (sym (eqb-true c d q)) h.0
    here (inr q) rest = rest q

record EndsAll (c : ℕ) : Type 0 where
  no_escape : nat_eq c 92 ≡ false
  no_word : (is_blank c || is_special c) ≡ true
  no_name : is_name_char c ≡ false

ended : (c : ℕ) → nat_eq c 92 ≡ false → (is_blank c || is_special c) ≡ true → is_name_char c ≡ false → EndsAll c
ended c e w n = record { no_escape = e; no_word = w; no_name = n }

ends_all : (c : ℕ) → list_any (nat_eq c) ending ≡ true → EndsAll c
ends_all =
    one_of EndsAll ending (
      ended 10 refl refl refl,
      (
        ended 32 refl refl refl,
        (
          ended 40 refl refl refl,
          (
            ended 41 refl refl refl,
            (
              ended 123 refl refl refl,
              (ended 125 refl refl refl, tt),
            ),
          ),
        ),
      ),
    )

-- a character that opens no comment
no_comment : (c : ℕ) (rest : List ℕ) → nat_eq c 37 ≡ false → opens_comment c rest ≡ false
no_comment c rest e = and_left (nat_eq c 37) _ e

record IsGap (c : ℕ) : Type 0 where
  blank : is_blank c ≡ true
  simple : nat_eq c 37 ≡ false

gap_is : (c : ℕ) → is_gap c ≡ true → IsGap c
gap_is c e = here (or_cases (nat_eq c 32) (nat_eq c 10) e)
  where
    here : (nat_eq c 32 ≡ true) ⊎ (nat_eq c 10 ≡ true) → IsGap c
    here (inl q) = subst IsGap (sym (eqb-true c 32 q)) (record { blank = refl; simple = refl })
    here (inr q) = subst IsGap (sym (eqb-true c 10 q)) (record { blank = refl; simple = refl })

record IsKept (c : ℕ) : Type 0 where
  no_blank : is_blank c ≡ false
  plain : is_special c ≡ false
  simple : nat_eq c 37 ≡ false

kept_is : (c : ℕ) → is_kept c ≡ true → IsKept c
kept_is c e =
    let each = and_parts (not (is_blank c || is_special c)) (not (nat_eq c 37)) e in
    let parts = or_parts (is_blank c) (is_special c) (not-true _ each.0) in
    record { no_blank = parts.0; plain = parts.1; simple = not-true _ each.1 }

-- the signs that a character isn't which is none of the special ones
record IsNoSign (c : ℕ) : Type 0 where
  hash : nat_eq c 35 ≡ false
  dollar : nat_eq c 36 ≡ false
  at : nat_eq c 64 ≡ false
  escape : nat_eq c 92 ≡ false
  bracket : bracket_of c ≡ None

no_sign : (c : ℕ) → is_special c ≡ false → IsNoSign c
no_sign c e =
    let a = or_parts (nat_eq c 35) _ e in
    let b = or_parts (nat_eq c 36) _ a.1 in
    let d = or_parts (nat_eq c 64) _ b.1 in
    let f = or_parts (nat_eq c 126) _ d.1 in
    let g = or_parts (nat_eq c 42) _ f.1 in
    let h = or_parts (nat_eq c 124) _ g.1 in
    let k = or_parts (nat_eq c 92) _ h.1 in
    let l = or_parts (nat_eq c 40) _ k.1 in
    let m = or_parts (nat_eq c 41) _ l.1 in
    let n = or_parts (nat_eq c 91) _ m.1 in
    let o = or_parts (nat_eq c 93) _ n.1 in
    let p = or_parts (nat_eq c 123) _ o.1 in
    let q = or_parts (nat_eq c 125) _ p.1 in
    record {
      hash = a.0;
      dollar = b.0;
      at = d.0;
      escape = k.0;
      bracket = rw (l.0, m.0, n.0, o.0, p.0, q.0, h.0, g.0, f.0) refl;
    }

-- ---- the longest fronts

-- no gap begins a text that begins so
no_gap : (c : ℕ) (rest : List ℕ) → is_blank c ≡ false → nat_eq c 37 ≡ false → gap_length false (c ∷ rest) ≡ 0
no_gap c rest b e = cond-false _ _ _ (or_from (is_blank c) (opens_comment c rest) b (no_comment c rest e))

gap_front : (gap rest : List ℕ) → list_all is_gap gap ≡ true → gap_length false rest ≡ 0 → gap_length false (gap ++ rest) ≡ length gap
gap_front [] rest g e = e
gap_front (c ∷ gap) rest g e =
    let each = and_parts (is_gap c) (list_all is_gap gap) g in
    let is = gap_is c each.0 in
    let comment = no_comment c (gap ++ rest) is.simple in
    let one : gap_length false (c ∷ (gap ++ rest)) ≡ 1 + gap_length false (gap ++ rest) = rw (is.blank, comment) refl in
    one ∙ omega (arith, gap_front gap rest each.1 e)

word_front : (w rest : List ℕ) → list_all is_kept w ≡ true → ends rest ≡ true → word_length false (w ++ rest) ≡ length w
word_front [] [] k e = refl
word_front [] (c ∷ rest) k e =
    let end = ends_all c e in
    let stop : is_word_char c rest ≡ false = rw end.no_word refl in
    cond-false _ _ _ end.no_escape ∙ cond-false _ _ _ stop
word_front (c ∷ w) rest k e =
    let each = and_parts (is_kept c) (list_all is_kept w) k in
    let is = kept_is c each.0 in
    let comment = no_comment c (w ++ rest) is.simple in
    let on : is_word_char c (w ++ rest) ≡ true = rw (or_from (is_blank c) (is_special c) is.no_blank is.plain, comment) refl in
    cond-false _ _ _ (no_sign c is.plain).escape ∙ cond-true _ _ _ on ∙ omega (arith, word_front w rest each.1 e)

name_front : (w rest : List ℕ) → list_all is_name_char w ≡ true → ends rest ≡ true → name_length (w ++ rest) ≡ length w
name_front [] [] k e = refl
name_front [] (c ∷ rest) k e = cond-false _ _ _ (ends_all c e).no_name
name_front (c ∷ w) rest k e =
    let each = and_parts (is_name_char c) (list_all is_name_char w) k in
    cond-true _ _ _ each.0 ∙ omega (arith, name_front w rest each.1 e)

-- ---- one token

word_token : (c : ℕ) (w rest : List ℕ) → list_all is_kept (c ∷ w) ≡ true → ends rest ≡ true → token_of (c ∷ (w ++ rest)) ≡ Some (shape Word (length (c ∷ w)))
word_token c w rest k e =
    let each = and_parts (is_kept c) (list_all is_kept w) k in
    let sign = no_sign c (kept_is c each.0).plain in
    let here : shape_at c (w ++ rest) ≡ shape Word (1 + word_length false (w ++ rest)) = rw (sign.bracket, sign.at, sign.hash, sign.dollar, sign.escape) refl in
    ap Some (here ∙ ap (shape Word) (omega (arith, word_front w rest each.1 e)))

-- a sign with a name behind it
named_is : (kind alone : TokenKind) (n : ℕ) → 0 < n → named kind alone n ≡ shape kind (1 + n)
named_is kind alone n some = cond-false _ _ _ (ne_eqb n 0 (λ e. omega (arith, e, some)))

sign_named : (kind alone : TokenKind) (d : ℕ) (w rest : List ℕ) → list_all is_name_char (d ∷ w) ≡ true → ends rest ≡ true → named kind alone (name_length (d ∷ (w ++ rest))) ≡ shape kind (length (d ∷ w) + 1)
sign_named kind alone d w rest k e =
    ap (named kind alone) (name_front (d ∷ w) rest k e) ∙ named_is kind alone (length (d ∷ w)) (omega arith) ∙ ap (shape kind) (omega arith)

named_token : (sign : ℕ) (kind : TokenKind) (d : ℕ) (w rest : List ℕ) → token_of (sign ∷ (d ∷ (w ++ rest))) ≡ Some (shape kind (length (d ∷ w) + 1)) → (c : ℕ) → nat_eq c sign ≡ true → token_of (c ∷ (d ∷ (w ++ rest))) ≡ Some (shape kind (length (c ∷ d ∷ w)))
named_token sign kind d w rest h c q = subst (λ s. token_of (s ∷ (d ∷ (w ++ rest))) ≡ Some (shape kind (length (s ∷ d ∷ w)))) (sym (eqb-true c sign q)) (h ∙ ap (λ n. Some (shape kind n)) (omega arith))

sign_token : (sign : ℕ) (kind : TokenKind) (rest : List ℕ) → token_of (sign ∷ rest) ≡ Some (shape kind 1) → (c : ℕ) → nat_eq c sign ≡ true → token_of (c ∷ rest) ≡ Some (shape kind 1)
sign_token sign kind rest h c q = subst (λ s. token_of (s ∷ rest) ≡ Some (shape kind 1)) (sym (eqb-true c sign q)) h

-- a text of this form is the token that begins before such a rest, and no gap stands before it
record IsToken (kind : TokenKind) (text rest : List ℕ) : Type 0 where
  token : token_of (text ++ rest) ≡ Some (shape kind (length text))
  close : gap_length false (text ++ rest) ≡ 0

signed : (sign : ℕ) (kind : TokenKind) (rest : List ℕ) → token_of (sign ∷ rest) ≡ Some (shape kind 1) → is_blank sign ≡ false → nat_eq sign 37 ≡ false → (c : ℕ) → nat_eq c sign ≡ true → IsToken kind (c ∷ []) rest
signed sign kind rest h b e c q = record {
  token = sign_token sign kind rest h c q;
  close = subst (λ s. gap_length false (s ∷ rest) ≡ 0) (sym (eqb-true c sign q)) (no_gap sign rest b e);
}

form_is : (kind : TokenKind) (text rest : List ℕ) → is_form kind text ≡ true → stops kind rest ≡ true → IsToken kind text rest
form_is Word (c ∷ w) rest f s =
    let is = kept_is c (and_parts (is_kept c) (list_all is_kept w) f).0 in
    record { token = word_token c w rest f s; close = no_gap c (w ++ rest) is.no_blank is.simple }
form_is Object (c ∷ d ∷ w) rest f s =
    let each = and_parts (nat_eq c 35) (list_all is_name_char (d ∷ w)) f in
    record {
      token = named_token 35 Object d w rest (ap Some (sign_named Object Hash d w rest each.1 s)) c each.0;
      close = subst (λ t. gap_length false (t ∷ d ∷ (w ++ rest)) ≡ 0) (sym (eqb-true c 35 each.0)) (no_gap 35 (d ∷ (w ++ rest)) refl refl);
    }
form_is Var (c ∷ d ∷ w) rest f s =
    let each = and_parts (nat_eq c 36) (list_all is_name_char (d ∷ w)) f in
    record {
      token = named_token 36 Var d w rest (ap Some (sign_named Var Anon d w rest each.1 s)) c each.0;
      close = subst (λ t. gap_length false (t ∷ d ∷ (w ++ rest)) ≡ 0) (sym (eqb-true c 36 each.0)) (no_gap 36 (d ∷ (w ++ rest)) refl refl);
    }
form_is RoundOpen (c ∷ []) rest f s = signed 40 RoundOpen rest refl refl refl c f
form_is RoundClose (c ∷ []) rest f s = signed 41 RoundClose rest refl refl refl c f
form_is BraceOpen (c ∷ []) rest f s = signed 123 BraceOpen rest refl refl refl c f
form_is BraceClose (c ∷ []) rest f s = signed 125 BraceClose rest refl refl refl c f
form_is Star (c ∷ []) rest f s = signed 42 Star rest refl refl refl c f
form_is kind text rest f s = absurd (false≢true f)

-- ---- all tokens

-- The tokens of a text that is a row behind a gap.
pub are_tokens : (start : Bool) (line : ℕ) (gap : List ℕ) (cs : List Cell) → list_all is_gap gap ≡ true → are_cells cs ≡ true → IsTokens start line (gap ++ text_of cs) (tokens_from start line gap cs)
are_tokens start line gap [] g a = gap_front gap [] g refl ∙ omega (arith, length_nil gap)
  where
    length_nil : (xs : List ℕ) → length (xs ++ []) ≡ length xs
    length_nil [] = refl
    length_nil (x ∷ xs) = omega (arith, length_nil xs)
are_tokens start line gap (c ∷ cs) g a =
    let each = and_parts (is_cell c) _ a in
    let own = and_parts (is_form c.kind c.text) (list_all is_gap c.gap) each.0 in
    let more = and_parts (stops c.kind (c.gap ++ text_of cs)) (are_cells cs) each.1 in
    let is = form_is c.kind c.text (c.gap ++ text_of cs) own.0 more.0 in (
      c.gap ++ text_of cs,
      record {
        gap = gap;
        split = refl;
        longest = sym (gap_front gap (c.text ++ (c.gap ++ text_of cs)) g is.close);
        token = is.token;
        on_line = plus_is line (lines gap);
        first = refl;
      },
      are_tokens false (plus line (lines gap)) c.gap cs own.1 more.1,
    )
