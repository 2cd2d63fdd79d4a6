-- The tokens of a text: hold it against the chapter of the Dialog manual on the syntax, and the table of tokens in docs/LANGUAGE.md.
use Rattle.std.specs.Prelude.{◌≡◌, ℕ, ◌+◌, ◌&&◌, ◌||◌, List, [], ◌∷◌, ◌++◌, Bool, true, false, not, nat_eq, length, Option, Some, None, if◌then◌else◌}
use Rattle.dg_lex.specs.Chars.{newline, backslash, is_blank, is_special, is_name_char, opens_comment}
use Rattle.dg_lex.specs.Bad.{lines}
use Rattle.dg_lex.specs.declared.token.Token.{Token}
use Rattle.dg_lex.specs.declared.token.Shape.{Shape}
use Rattle.dg_lex.specs.declared.token.TokenKind.{TokenKind}
use Rattle.dg_lex.specs.declared.token.TokenKind.TheVariants.{Word, Dict, Object, Var, Anon, At, Hash, RoundOpen, RoundClose, SquareOpen, SquareClose, BraceOpen, BraceClose, Bar, Star, Tilde}

-- ---- the longest fronts of a text

-- how many blanks and comments begin a text; the Bool says that a comment goes on
abbrev pub gap_length : Bool → List ℕ → ℕ
gap_length inside [] = 0
gap_length true (c ∷ cs) = 1 + gap_length (not (nat_eq c newline)) cs
gap_length false (c ∷ cs) = if is_blank c || opens_comment c cs then 1 + gap_length (opens_comment c cs) cs else 0

-- a character of a word: one that is neither blank nor special, and begins no comment
abbrev pub is_word_char : ℕ → List ℕ → Bool
is_word_char c behind = not (is_blank c || is_special c) && not (opens_comment c behind)

-- how many bytes of word characters begin a text; the Bool says that a backslash stands before it
abbrev pub word_length : Bool → List ℕ → ℕ
word_length escaped [] = 0
word_length true (c ∷ cs) = 1 + word_length false cs
word_length false (c ∷ cs) = if nat_eq c backslash then 1 + word_length true cs else (if is_word_char c cs then 1 + word_length false cs else 0)

-- how many bytes of name characters begin a text
abbrev pub name_length : List ℕ → ℕ
name_length [] = 0
name_length (c ∷ cs) = if is_name_char c then 1 + name_length cs else 0

-- ---- one token

-- a token's kind and its length in bytes
abbrev pub shape : TokenKind → ℕ → Shape
shape kind n = record { kind = kind; length = n }

-- a sign with a name behind it, or alone
abbrev pub named : TokenKind → TokenKind → ℕ → Shape
named kind alone n = if nat_eq n 0 then shape alone 1 else shape kind (1 + n)

-- a token that is one sign
abbrev pub bracket_of : ℕ → Option TokenKind
bracket_of c =
    if nat_eq c 40 then Some RoundOpen
    else (if nat_eq c 41 then Some RoundClose
    else (if nat_eq c 91 then Some SquareOpen
    else (if nat_eq c 93 then Some SquareClose
    else (if nat_eq c 123 then Some BraceOpen
    else (if nat_eq c 125 then Some BraceClose
    else (if nat_eq c 124 then Some Bar
    else (if nat_eq c 42 then Some Star
    else (if nat_eq c 126 then Some Tilde else None))))))))

-- a word, or a sign that may have a name behind it
abbrev pub name_at : ℕ → List ℕ → Shape
name_at c behind =
    if nat_eq c 64 then named Dict At (word_length false behind)
    else (if nat_eq c 35 then named Object Hash (name_length behind)
    else (if nat_eq c 36 then named Var Anon (name_length behind) else shape Word (1 + word_length (nat_eq c backslash) behind)))

-- the token at a character, with the text behind it
abbrev pub shape_or : Option TokenKind → Shape → Shape
shape_or None other = other
shape_or (Some kind) other = shape kind 1

abbrev pub shape_at : ℕ → List ℕ → Shape
shape_at c behind = shape_or (bracket_of c) (name_at c behind)

-- the token that begins a text
abbrev pub token_of : List ℕ → Option Shape
token_of [] = None
token_of (c ∷ cs) = Some (shape_at c cs)

-- ---- all tokens

-- behind this gap a line begins
abbrev pub at_first : Bool → List ℕ → Bool
at_first start [] = start
at_first start (c ∷ cs) = at_first (nat_eq c newline) cs

-- the first token of a text that stands at the start of a line or not, on this line, and the rest behind it
pub record IsNext (start : Bool) (line : ℕ) (text : List ℕ) (t : Token) (rest : List ℕ) : Type 0 where
  pub gap : List ℕ
  pub split : text ≡ gap ++ (t.text.now ++ rest)
  pub longest : length gap ≡ gap_length false text
  pub token : token_of (t.text.now ++ rest) ≡ Some (shape t.kind (length t.text.now))
  pub on_line : t.line ≡ line + lines gap
  pub first : t.first ≡ at_first start gap

-- these are the tokens of a text, all of them
abbrev pub IsTokens : Bool → ℕ → List ℕ → List Token → Type 0
IsTokens start line text [] = gap_length false text ≡ length text
IsTokens start line text (t ∷ ts) = (rest : List ℕ) × IsNext start line text t rest × IsTokens false t.line rest ts

-- a mark of byte order at the very front is no part of the text
abbrev pub without_mark : List ℕ → List ℕ
without_mark (a ∷ b ∷ c ∷ cs) = if (nat_eq a 239 && nat_eq b 187) && nat_eq c 191 then cs else a ∷ b ∷ c ∷ cs
without_mark cs = cs

-- these are the tokens of a source
abbrev pub IsLexed : List ℕ → List Token → Type 0
IsLexed source tokens = IsTokens true 1 (without_mark source) tokens

-- what tells tokens apart
pub record Seen : Type 0 where
  pub kind : TokenKind
  pub text : List ℕ
  pub line : ℕ
  pub first : Bool

abbrev pub seen : Token → Seen
seen t = record { kind = t.kind; text = t.text.now; line = t.line; first = t.first }
