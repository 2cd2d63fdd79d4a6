-- The tokens so far, and those of what is left.
use Rattle.std.proofs.Common.{List, [], ◌∷◌, ◌++◌, Bool, true, false, ℕ, sym, subst, append_assoc}
use Rattle.std.proofs.lemmas.List.{append-nil}
use Rattle.dg_lex.specs.Tokens.{IsNext, IsTokens}
use Rattle.dg_lex.specs.declared.token.Token.{Token}

-- whatever tokens the rest has, the text has those so far and them
pub record SoFar (text : List ℕ) (ts : List Token) (start : Bool) (line : ℕ) (rest : List ℕ) : Type 0 where
  pub goes_on : (more : List Token) → IsTokens start line rest more → IsTokens true 1 text (ts ++ more)

pub at_start : (text : List ℕ) → SoFar text [] true 1 text
at_start text = record { goes_on = λ more h. h }

pub one_token : (text : List ℕ) (ts : List Token) (start : Bool) (line : ℕ) (rest after : List ℕ) (t : Token) → SoFar text ts start line rest → IsNext start line rest t after → SoFar text (ts ++ t ∷ []) false t.line after
one_token text ts start line rest after t so next = record {
  goes_on = λ more h. subst (λ (l : List Token). IsTokens true 1 text l) (sym (append_assoc ts (t ∷ []) more)) (so.goes_on (t ∷ more) (after, next, h));
}

pub at_end : (text : List ℕ) (ts : List Token) (start : Bool) (line : ℕ) (rest : List ℕ) → SoFar text ts start line rest → IsTokens start line rest [] → IsTokens true 1 text ts
at_end text ts start line rest so h = subst (λ (l : List Token). IsTokens true 1 text l) (append-nil ts) (so.goes_on [] h)
