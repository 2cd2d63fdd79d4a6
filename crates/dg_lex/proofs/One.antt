-- No text has two lists of tokens.
use Rattle.std.proofs.Common.{◌≡◌, ◌+◌, ℕ, List, [], ◌∷◌, ◌++◌, Bool, false, Some, length, take, map, refl, sym, ◌∙◌, ap, subst, arith, length-append}
use Rattle.std.proofs.lemmas.List.{take_at, append_cancel_left}
use Rattle.dg_lex.specs.Tokens.{IsNext, IsTokens, Seen, seen, shape, token_of, gap_length, at_first}
use Rattle.dg_lex.specs.declared.token.Shape.{Shape}
use Rattle.dg_lex.specs.Bad.{lines}
use Rattle.dg_lex.specs.declared.token.Token.{Token}

-- fronts of one text that are as long are the same, and so is what stands behind them
pub same_front : (xs ys us vs : List ℕ) → xs ++ ys ≡ us ++ vs → length xs ≡ length us → xs ≡ us
same_front xs ys us vs e n = sym (take_at xs ys (length us) n) ∙ ap (take (length us)) e ∙ take_at us vs (length us) refl

pub same_rest : (xs ys us vs : List ℕ) → xs ++ ys ≡ us ++ vs → xs ≡ us → ys ≡ vs
same_rest xs ys us vs e f = append_cancel_left us ys vs (ap (λ (l : List ℕ). l ++ ys) (sym f) ∙ e)

-- the next token of a text is one
pub record SameNext (t u : Token) (rest after : List ℕ) : Type 0 where
  pub is : seen t ≡ seen u
  pub behind : rest ≡ after

shape_is : (t u : Token) (text : List ℕ) → token_of text ≡ Some (shape t.kind (length t.text.now)) → token_of text ≡ Some (shape u.kind (length u.text.now)) → shape t.kind (length t.text.now) ≡ shape u.kind (length u.text.now)
shape_is t u text h k = cc

pub next_is_one : (start : Bool) (line : ℕ) (text : List ℕ) (t u : Token) (rest after : List ℕ) → IsNext start line text t rest → IsNext start line text u after → SameNext t u rest after
next_is_one start line text t u rest after h k =
    let whole : h.gap ++ (t.text.now ++ rest) ≡ k.gap ++ (u.text.now ++ after) = sym h.split ∙ k.split in
    let gaps : h.gap ≡ k.gap = same_front _ _ _ _ whole (h.longest ∙ sym k.longest) in
    let tail : t.text.now ++ rest ≡ u.text.now ++ after = same_rest _ _ _ _ whole gaps in
    let shapes : shape t.kind (length t.text.now) ≡ shape u.kind (length u.text.now) = shape_is t u (u.text.now ++ after) (subst (λ (l : List ℕ). token_of l ≡ Some (shape t.kind (length t.text.now))) tail h.token) k.token in
    let texts : t.text.now ≡ u.text.now = same_front _ _ _ _ tail (ap (λ (s : Shape). s.length) shapes) in
    let kinds : t.kind ≡ u.kind = ap (λ (s : Shape). s.kind) shapes in
    let same_line : t.line ≡ u.line = h.on_line ∙ ap (λ (g : List ℕ). line + lines g) gaps ∙ sym k.on_line in
    let same_first : t.first ≡ u.first = h.first ∙ ap (at_first start) gaps ∙ sym k.first in
    record { is = seen_by t u kinds texts same_line same_first; behind = same_rest _ _ _ _ tail texts }
  where
    seen_by : (t u : Token) → t.kind ≡ u.kind → t.text.now ≡ u.text.now → t.line ≡ u.line → t.first ≡ u.first → seen t ≡ seen u
    seen_by t u a b c d = cc

-- where a token stands, more than a gap is left
more_than_gap : (start : Bool) (line : ℕ) (text : List ℕ) (t : Token) (rest : List ℕ) → IsNext start line text t rest → gap_length false text ≡ length text → ⊥
more_than_gap start line text t rest h whole = nothing (t.text.now ++ rest) h.token (omega (arith, ap length h.split, length-append h.gap (t.text.now ++ rest), h.longest, whole))
  where
    nothing : (tail : List ℕ) → token_of tail ≡ Some (shape t.kind (length t.text.now)) → length tail ≡ 0 → ⊥
    nothing [] h e = cc
    nothing (c ∷ cs) h e = absurd (omega arith)

pub tokens_one : (start : Bool) (line : ℕ) (text : List ℕ) (ts us : List Token) → IsTokens start line text ts → IsTokens start line text us → map seen ts ≡ map seen us
tokens_one start line text [] [] h k = refl
tokens_one start line text [] (u ∷ us) h k = absurd (more_than_gap start line text u k.0 k.1 h)
tokens_one start line text (t ∷ ts) [] h k = absurd (more_than_gap start line text t h.0 h.1 k)
tokens_one start line text (t ∷ ts) (u ∷ us) h k =
    let next : SameNext t u h.0 k.0 = next_is_one start line text t u h.0 k.0 h.1 k.1 in
    let same_line : t.line ≡ u.line = ap (λ (s : Seen). s.line) next.is in
    let later : IsTokens false t.line h.0 us = subst (λ (r : List ℕ). IsTokens false t.line r us) (sym next.behind) (subst (λ (l : ℕ). IsTokens false l k.0 us) (sym same_line) k.2) in
    join t u ts us next.is (tokens_one false t.line h.0 ts us h.2 later)
  where
    join : (t u : Token) (ts us : List Token) → seen t ≡ seen u → map seen ts ≡ map seen us → map seen (t ∷ ts) ≡ map seen (u ∷ us)
    join t u ts us a b = cc
