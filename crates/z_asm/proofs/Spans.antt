-- Where routines begin and end.
use Rattle.std.proofs.Common.{◌≡◌, ℕ, zero, suc, ◌+◌, ◌*◌, ◌/◌, ◌<◌, ◌≤◌, List, [], ◌∷◌, ◌++◌, length, map, drop, get_or, Some, refl, sym, ap, ◌∙◌, subst, arith, append_assoc}
use Rattle.std.specs.Prelude.{slice_get, slice_index}
use Rattle.std.proofs.lemmas.List.{at_drop_more}
use Rattle.std.proofs.lemmas.Option.{same_Some}
use Rattle.z_asm.specs.declared.image.Code.{Code}
use Rattle.z_asm.specs.declared.image.Image.{Image}
use Rattle.z_asm.specs.Layout.{aligned, code_size, stand_from, spans_from, end_from, packed_address}
use Rattle.z_asm.specs.Story.{front_of, routines_from, image_end, story_of}
use Rattle.z_asm.specs.Conditions.{IsImage}
use Rattle.z_asm.specs.Assembled.{AreApart, ArePlaces}
use Rattle.z_asm.proofs.Layouts.{aligned_is, aligned_most, near, next_end}
use Rattle.z_asm.proofs.Standing.{whole}

spans_many : (at : ℕ) (codes : List Code) → length (spans_from at (map code_size codes)) ≡ length codes
spans_many at [] = refl
spans_many at (c ∷ codes) = ap (λ (n : ℕ). suc n) (spans_many (aligned at + code_size c) codes)

span_is : (at : ℕ) (codes : List Code) (k : ℕ) (code : Code) → slice_get codes k ≡ Some code →
    let start = 8 * slice_index (map packed_address (stand_from at (map code_size codes))) k in
    slice_get (spans_from at (map code_size codes)) k ≡ Some (start, start + code_size code)
span_is at [] k code e = absurd (cc)
span_is at (c ∷ codes) zero code e =
    ap (λ (x : ℕ). Some (x, x + code_size c)) (sym (aligned_is at))
    ∙ ap (λ (y : Code). Some (8 * (aligned at / 8), 8 * (aligned at / 8) + code_size y)) (same_Some c code e)
span_is at (c ∷ codes) (suc k) code e = span_is (aligned at + code_size c) codes k code e

spans_apart : (before at end : ℕ) (codes : List Code) → before ≤ at → end_from at (map code_size codes) ≤ end → AreApart before end (spans_from at (map code_size codes))
spans_apart before at end [] h e = omega arith
spans_apart before at end (c ∷ codes) h e =
    let w = aligned_most at in
    (omega arith, omega arith, spans_apart (aligned at + code_size c) (aligned at + code_size c) end codes (omega arith) e)

pub are_places : (image : Image) → IsImage image → front_of image ≤ 65536 → image_end image ≤ 524280 → ArePlaces image (spans_from (routines_from image) (map code_size image.routines))
are_places image is readable close = record {
  count = spans_many (routines_from image) image.routines;
  each = λ k code e. span_is (routines_from image) image.routines k code e;
  apart =
      let long = whole image is readable close in
      let most = aligned_most (image_end image) in
      spans_apart 0 (routines_from image) (length (story_of image)) image.routines (omega arith) (omega arith);
}

-- the next routine ends near where all do
pub routine_near : (codes : List Code) (k : ℕ) (c : Code) (at : ℕ) → k < length codes → c ≡ get_or codes k c →
    end_from at (map code_size (drop k codes)) ≤ 524280 → aligned at + code_size c < 524281
routine_near codes k c at lt is h = near code_size codes k c at 524281 lt is (omega arith)

-- one more routine
pub span_next : (codes : List Code) (i : ℕ) (code : Code) (from end start size : ℕ) (places new : List (ℕ × ℕ)) → i < length codes → code ≡ get_or codes i code → start ≡ aligned end → size ≡ code_size code →
    spans_from from (map code_size codes) ≡ places ++ spans_from end (map code_size (drop i codes)) → new ≡ places ++ (start, start + size) ∷ [] →
    spans_from from (map code_size codes) ≡ new ++ spans_from (start + size) (map code_size (drop (i + 1) codes))
span_next codes i code from end start size places new lt is there same e n =
    e ∙ ap (λ (l : List (ℕ × ℕ)). places ++ l) next ∙ sym (append_assoc places ((start, start + size) ∷ []) (spans_from (start + size) tail))
    ∙ ap (λ (l : List (ℕ × ℕ)). l ++ spans_from (start + size) tail) (sym n)
  where
    tail : List ℕ
    tail = map code_size (drop (i + 1) codes)

    next : spans_from end (map code_size (drop i codes)) ≡ (start, start + size) ∷ spans_from (start + size) tail
    next = at_drop_more (λ (l : List Code). spans_from end (map code_size l)) codes i code lt
        ∙ ap (λ (s : ℕ). (aligned end, aligned end + s) ∷ spans_from (aligned end + s) tail) (sym (same ∙ ap code_size is))
        ∙ ap (λ (a : ℕ). (a, a + size) ∷ spans_from (a + size) tail) (sym there)

pub near_next : (codes : List Code) (i : ℕ) (code : Code) (end start size : ℕ) → i < length codes → code ≡ get_or codes i code → start ≡ aligned end → size ≡ code_size code →
    end_from end (map code_size (drop i codes)) ≤ 524280 → end_from (start + size) (map code_size (drop (i + 1) codes)) ≤ 524280
near_next codes i code end start size lt is there same h =
    let tail = map code_size (drop (i + 1) codes) in
    subst (λ (n : ℕ). n ≤ 524280)
    (next_end code_size codes i code end lt is ∙ ap (λ (s : ℕ). end_from (aligned end + s) tail) (sym same) ∙ ap (λ (a : ℕ). end_from (a + size) tail) (sym there)) h
