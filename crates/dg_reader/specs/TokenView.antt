-- A token of the source as the grammar sees it.
use Rattle.std.specs.Prelude.{ℕ, List, drop}
use Rattle.dg_reader.specs.Tokens as tokens
use Rattle.dg_lex.specs.Spelled.{without_escapes}
use Rattle.dg_lex.specs.declared.token.Token.{Token}
use Rattle.dg_lex.specs.declared.token.TokenKind.{TokenKind}
use Rattle.dg_lex.specs.declared.token.TokenKind.TheVariants.{Word, Dict, Object, Var, Anon, At, Hash, RoundOpen, RoundClose, SquareOpen, SquareClose, BraceOpen, BraceClose, Bar, Star, Tilde}

-- What a kind with a text is: the sign before a name is no part of it.
abbrev pub kind_view : TokenKind → List ℕ → tokens.Tok
kind_view Word text = tokens.word (without_escapes text)
kind_view Dict text = tokens.dict (without_escapes (drop 1 text))
kind_view Object text = tokens.object (without_escapes (drop 1 text))
kind_view Var text = tokens.var (without_escapes (drop 1 text))
kind_view Anon text = tokens.anon
kind_view At text = tokens.at
kind_view Hash text = tokens.hash
kind_view RoundOpen text = tokens.open_round
kind_view RoundClose text = tokens.close_round
kind_view SquareOpen text = tokens.open_square
kind_view SquareClose text = tokens.close_square
kind_view BraceOpen text = tokens.open_brace
kind_view BraceClose text = tokens.close_brace
kind_view Bar text = tokens.bar
kind_view Star text = tokens.star
kind_view Tilde text = tokens.tilde

-- What a token is.
abbrev pub token_view : Token → tokens.Tok
token_view t = kind_view t.kind t.text.now
