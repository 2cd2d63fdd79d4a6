-- What the text of a token spells: hold it against the chapter of the Dialog manual on the syntax, and docs/LANGUAGE.md, "Characters and tokens".
use Rattle.std.specs.Prelude.{◌≢◌, ◌<◌, ◌≤◌, ℕ, List, [], ◌∷◌, Bool, true, false, All, drop, nat_eq, if◌then◌else◌}
use Rattle.std.specs.Str.{IsUtf8}
use Rattle.dg_lex.specs.Chars.{backslash}
use Rattle.dg_lex.specs.Tokens.{Seen}
use Rattle.dg_lex.specs.declared.token.TokenKind.{TokenKind}
use Rattle.dg_lex.specs.declared.token.TokenKind.TheVariants.{Word, Dict, Object}

-- A text behind a backslash or not, with each further backslash dropped, so that the character behind one stands for itself.
abbrev pub escapes_dropped : Bool → List ℕ → List ℕ
escapes_dropped escaped [] = []
escapes_dropped true (c ∷ cs) = c ∷ escapes_dropped false cs
escapes_dropped false (c ∷ cs) = if nat_eq c backslash then escapes_dropped true cs else c ∷ escapes_dropped false cs

-- A text without escapes.
abbrev pub without_escapes : List ℕ → List ℕ
without_escapes text = escapes_dropped false text

-- A byte of a character that can be printed, from the space on up to U+FFFF.
pub record IsClean (b : ℕ) : Type 0 where
  pub from : 32 ≤ b
  pub no_delete : b ≢ 127
  pub low : b < 240

-- Some characters of such bytes.
pub record IsText (bytes : List ℕ) : Type 0 where
  pub utf8 : IsUtf8 bytes
  pub clean : All IsClean bytes

-- One character of such bytes at least.
pub record IsSpelled (bytes : List ℕ) : Type 0 where
  pub text : IsText bytes
  pub some : bytes ≢ []

-- A word, and what stands behind the sign of a dictionary word or an object, is spelled once its escapes are dropped.
abbrev pub SpellsText : TokenKind → List ℕ → Type 0
SpellsText Word text = IsSpelled (without_escapes text)
SpellsText Dict text = IsSpelled (without_escapes (drop 1 text))
SpellsText Object text = IsSpelled (without_escapes (drop 1 text))
SpellsText kind text = Unit {0}

-- The text of a token is spelled.
abbrev pub IsSpelledToken : Seen → Type 0
IsSpelledToken t = SpellsText t.kind t.text
