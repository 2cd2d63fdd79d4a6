-- A line that is taken, by the functions that a meaning speaks of lines with.
use Rattle.std.proofs.Common.{◌≡◌, ◌≢◌, ℕ, zero, suc, ◌-◌, ◌≤◌, Bool, true, false, cond, eqb, List, [], ◌∷◌, ◌++◌, length, Some, inl, inr, refl, ap, ◌∙◌, arith}
use Rattle.std.specs.Prelude.{All}
use Rattle.std.proofs.lemmas.Bool.{ne_eqb}
use Rattle.std.proofs.lemmas.List.{append-nil}
use Rattle.std.proofs.lemmas.List.Elements.{All-head, All-tail}
use Rattle.dg_base.specs.Lines.{IsPlain, Ends, IsText}
use Rattle.dg_base.specs.Typed.{longest}
use Rattle.dg_base.proofs.LineLemmas.{IsLine}

-- These functions are the bytes before the first newline, of at most so many, those behind it, and bytes without a carriage return at their end.
pub record Means (within behind : ℕ → List ℕ → List ℕ) (stripped : List ℕ → List ℕ) : Type 0 where
  pub full : (bytes : List ℕ) → (within 0 bytes ≡ []) × (behind 0 bytes ≡ bytes)
  pub over : (n : ℕ) → (within (suc n) [] ≡ []) × (behind (suc n) [] ≡ [])
  pub on : (n b : ℕ) (bytes : List ℕ) → (within (suc n) (b ∷ bytes) ≡ cond (eqb b 10) [] (b ∷ within n bytes)) × (behind (suc n) (b ∷ bytes) ≡ cond (eqb b 10) bytes (behind n bytes))
  pub none : stripped [] ≡ []
  pub last : (b : ℕ) → stripped (b ∷ []) ≡ cond (eqb b 13) [] (b ∷ [])
  pub more : (b c : ℕ) (bytes : List ℕ) → stripped (b ∷ c ∷ bytes) ≡ b ∷ stripped (c ∷ bytes)

module _ (within behind : ℕ → List ℕ → List ℕ) (stripped : List ℕ → List ℕ) (m : Means within behind stripped) where
  -- ---- the bytes of a line, and its end

  passed : (bytes more : List ℕ) (n : ℕ) → All (λ b. b ≢ 10) bytes → length bytes ≤ n →
      (within n (bytes ++ more) ≡ bytes ++ within (n - length bytes) more) × (behind n (bytes ++ more) ≡ behind (n - length bytes) more)
  passed [] more n plain few = let all : n - 0 ≡ n = omega arith in (rw all refl, rw all refl)
  passed (b ∷ bytes) more zero plain few = absurd (omega arith)
  passed (b ∷ bytes) more (suc n) plain few =
      let other = ne_eqb b 10 (All-head (λ b. b ≢ 10) b bytes plain) in
      let less : suc n - suc (length bytes) ≡ n - length bytes = omega arith in
      let on = m.on n b (bytes ++ more) in
      let rest = passed bytes more n (All-tail (λ b. b ≢ 10) b bytes plain) (omega arith) in
      (on.0 ∙ rw (other, less) (ap (λ (l : List ℕ). b ∷ l) rest.0), on.1 ∙ rw (other, less) rest.1)

  ended : (room : ℕ) (end rest : List ℕ) → Ends room (Some rest) [] end → (within room (end ++ rest) ≡ []) × (behind room (end ++ rest) ≡ rest)
  ended zero end rest (inl (some, is)) = absurd (omega arith)
  ended (suc room) end rest (inl (some, is)) = (rw is (m.on room 10 rest).0, rw is (m.on room 10 rest).1)
  ended room end rest (inr (inl full, is)) = (rw (is, full) (m.full rest).0, rw (is, full) (m.full rest).1)
  ended zero end rest (inr (inr over, is)) = (rw is (m.full rest).0, rw is (m.full rest).1)
  ended (suc room) end rest (inr (inr over, is)) = (rw (is, over) (m.over room).0, rw (is, over) (m.over room).1)

  pub behind_shorter : (room : ℕ) (typed : List ℕ) → length (behind room typed) ≤ length typed
  behind_shorter zero typed = rw (m.full typed).1 (omega arith)
  behind_shorter (suc room) [] = rw (m.over room).1 (omega arith)
  behind_shorter (suc room) (b ∷ typed) = rw (m.on room b typed).1 (by_test (eqb b 10) (behind_shorter room typed))
    where
      by_test : (t : Bool) → length (behind room typed) ≤ length typed → length (cond t typed (behind room typed)) ≤ length (b ∷ typed)
      by_test true less = omega arith
      by_test false less = omega arith

  -- ---- a carriage return at the end

  without_last : (front : List ℕ) → stripped (front ++ 13 ∷ []) ≡ front
  without_last [] = m.last 13
  without_last (x ∷ []) = m.more x 13 [] ∙ ap (λ (l : List ℕ). x ∷ l) (m.last 13)
  without_last (x ∷ y ∷ front) = m.more x y (front ++ 13 ∷ []) ∙ ap (λ (l : List ℕ). x ∷ l) (without_last (y ∷ front))

  with_last : (bytes : List ℕ) → ((front : List ℕ) → bytes ≢ front ++ 13 ∷ []) → stripped bytes ≡ bytes
  with_last [] other = m.none
  with_last (b ∷ []) other = m.last b ∙ rw (ne_eqb b 13 (λ e. other [] (ap (λ (x : ℕ). x ∷ []) e))) refl
  with_last (b ∷ c ∷ bytes) other = m.more b c bytes ∙ ap (λ (l : List ℕ). b ∷ l) (with_last (c ∷ bytes) (λ front e. other (b ∷ front) (ap (λ (l : List ℕ). b ∷ l) e)))

  text_is : (text bytes : List ℕ) → IsText text bytes → stripped bytes ≡ text
  text_is text bytes (inl is) = ap stripped is ∙ without_last text
  text_is text bytes (inr (is, other)) = with_last bytes other ∙ is

  -- ---- a line, and a part of one

  pub line_is : (text bytes typed rest : List ℕ) → IsLine bytes typed rest → IsText text bytes → (stripped (within longest typed) ≡ text) × (behind longest typed ≡ rest)
  line_is text bytes typed rest line is =
      let front = passed bytes (line.end ++ rest) longest line.plain.no_newline line.plain.within in
      let end = ended (longest - length bytes) line.end rest line.ends in
      let whole = front.0 ∙ ap (λ (l : List ℕ). bytes ++ l) end.0 ∙ append-nil bytes in
      (ap (λ (l : List ℕ). stripped (within longest l)) line.is ∙ ap stripped whole ∙ text_is text bytes is, ap (behind longest) line.is ∙ front.1 ∙ end.1)

  pub part_is : (bytes rest : List ℕ) → IsPlain bytes → length (behind longest (bytes ++ rest)) ≤ length rest
  part_is bytes rest plain = rw (passed bytes rest longest plain.no_newline plain.within).1 (behind_shorter (longest - length bytes) rest)
