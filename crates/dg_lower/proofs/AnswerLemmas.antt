-- A tree has one answer.
use Rattle.std.proofs.Common.{◌≡◌, ◌<◌, ℕ, zero, suc, List, [], ◌∷◌, Bool, true, false, Option, Some, None, Result, Ok, Err, length, refl, sym, ◌∙◌, ap, arith}
use Rattle.std.specs.Prelude.{slice_get}
use Rattle.dg_base.specs.Tree.{Item}
use Rattle.dg_base.specs.declared.program.CoreProgram.{CoreProgram as Core}
use Rattle.dg_base.specs.declared.program.Pred.{Pred}
use Rattle.dg_base.specs.declared.refusal.Refusal.{Refusal}
use Rattle.dg_meaning.specs.Quiet.{AreQuiet}
use Rattle.dg_meaning.specs.Sets.{is_in_set}
use Rattle.dg_names.specs.Named.{Named}
use Rattle.dg_lower.specs.Lowered.{core_refusal, IsQuietSet, ComesOf, with_entry, IsLowered}

-- sets of as many answers that agree are one
same_answers : (s t : List Bool) → length s ≡ length t → ((p : ℕ) → p < length s → is_in_set s p ≡ is_in_set t p) → s ≡ t
same_answers [] [] e h = refl
same_answers [] (b ∷ t) e h = absurd (omega (arith, e))
same_answers (a ∷ s) [] e h = absurd (omega (arith, e))
same_answers (a ∷ s) (b ∷ t) e h =
    let first : a ≡ b = h 0 (omega arith) in
    let rest : s ≡ t = same_answers s t (omega (arith, e)) (λ p lt. h (suc p) (omega (arith, lt))) in
    ap (λ (c : Bool). c ∷ s) first ∙ ap (λ (l : List Bool). b ∷ l) rest

both_ways : (a b : Bool) → (a ≡ true → b ≡ true) → (b ≡ true → a ≡ true) → a ≡ b
both_ways true b f g = sym (f refl)
both_ways false true f g = g refl
both_ways false false f g = refl

quiet_one : (preds : List Pred) (changing : ℕ → Bool) (s t : List Bool) → AreQuiet preds changing s → AreQuiet preds changing t → s ≡ t
quiet_one preds changing s t h j =
    same_answers s t (h.answers ∙ sym j.answers) (λ p lt. at p (slice_get preds p) refl (omega (arith, lt, h.answers)))
  where
    at : (p : ℕ) (o : Option Pred) → slice_get preds p ≡ o → p < length preds → is_in_set s p ≡ is_in_set t p
    at p (Some pred) e lt = both_ways (is_in_set s p) (is_in_set t p) (j.greatest s h.answers h.closed p pred e) (h.greatest t j.answers j.closed p pred e)
    at p None e lt = absurd (none preds p lt e)
      where
        none : (ps : List Pred) (k : ℕ) → k < length ps → slice_get ps k ≡ None → ⊥
        none [] k lt e = absurd (omega (arith, lt))
        none (q ∷ ps) zero lt e = cc
        none (q ∷ ps) (suc k) lt e = none ps k (omega (arith, lt)) e

-- the refusals of two answers are one
same_refusal : (names : Named) (items : List Item) (s t : List Bool) → IsQuietSet names items s → IsQuietSet names items t → core_refusal names items s ≡ core_refusal names items t
same_refusal names items s t h j = ap (core_refusal names items) (quiet_one _ _ s t h j)

comes_one : (names : Named) (items : List Item) (x y : Result Core Refusal) → ComesOf names items x → ComesOf names items y → x ≡ y
comes_one names items (Ok p) (Ok q) h j = ap Ok (h.3 ∙ sym j.3)
comes_one names items (Ok p) (Err s) h j = let no = sym h.2 ∙ same_refusal names items h.0 j.0 h.1 j.1 ∙ j.2 in cc
comes_one names items (Err r) (Ok q) h j = let no = sym h.2 ∙ same_refusal names items h.0 j.0 h.1 j.1 ∙ j.2 in cc
comes_one names items (Err r) (Err s) h j = let same = sym h.2 ∙ same_refusal names items h.0 j.0 h.1 j.1 ∙ j.2 in cc

pub lowered_one : (names : Named) (items : List Item) (x y : Result Core Refusal) → IsLowered names items x → IsLowered names items y → x ≡ y
lowered_one names items x y h j = comes_one (with_entry names) items x y h j
