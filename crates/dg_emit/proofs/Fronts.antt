-- What lies in front of a place is part of the world.
use Rattle.std.proofs.Common.{◌≡◌, ℕ, zero, suc, ◌+◌, ◌*◌, ◌<◌, ◌≤◌, List, [], ◌∷◌, length, map, take, refl, ap, ◌∙◌, arith}
use Rattle.std.specs.List.{sum_by}
use Rattle.std.proofs.lemmas.List.Sums.{sum_by-cons}
use Rattle.dg_base.specs.declared.program.CoreProgram.{CoreProgram}
use Rattle.dg_base.specs.declared.program.Place.{Place}
use Rattle.dg_base.specs.declared.program.PlaceKind.{PlaceKind}
use Rattle.dg_meaning.specs.Facts.{kinds_of}
use Rattle.dg_turn.specs.World.{place_words, place_bytes, all_words, all_bytes, words_at, bytes_at}
use Rattle.dg_emit.specs.World.{WorldFits}
use Rattle.dg_emit.specs.inside.Places.{words_in, bytes_in}

pub sum_front : (f : PlaceKind → ℕ) (kinds : List PlaceKind) (n : ℕ) → sum_by f (take n kinds) ≤ sum_by f kinds
sum_front f [] zero = omega arith
sum_front f [] (suc n) = omega arith
sum_front f (k ∷ ks) zero = omega arith
sum_front f (k ∷ ks) (suc n) = omega (arith, sum_front f ks n, sum_by-cons f k ks, sum_by-cons f k (take n ks))

-- The kinds of the places in front are those in front of its kind.
pub kinds_front : (places : List Place) (n : ℕ) → map (λ (p : Place). p.kind) (take n places) ≡ take n (map (λ (p : Place). p.kind) places)
kinds_front [] zero = refl
kinds_front [] (suc n) = refl
kinds_front (p ∷ ps) zero = refl
kinds_front (p ∷ ps) (suc n) = ap (λ (l : List PlaceKind). p.kind ∷ l) (kinds_front ps n)

module _ (p : CoreProgram) (world : WorldFits p) (place : ℕ) where
  -- Words and bytes of a place have addresses.
  pub words_small : 64 + 2 * words_at p place < 65536
  words_small = let room = world.room in omega (arith, sum_front (place_words (length p.objects)) (kinds_of p) place)

  pub bytes_small : 64 + bytes_at p place < 65536
  bytes_small = let room = world.room in omega (arith, sum_front (place_bytes (length p.objects)) (kinds_of p) place)

-- The words and the bytes of places are what their kinds say.
words_counted : (objects : ℕ) (places : List Place) → words_in objects places ≡ all_words objects (map (λ (p : Place). p.kind) places)
words_counted objects [] = refl
words_counted objects (place ∷ places) = omega (arith, words_counted objects places, sum_by-cons (place_words objects) place.kind (map (λ (p : Place). p.kind) places))

bytes_counted : (objects : ℕ) (places : List Place) → bytes_in objects places ≡ all_bytes objects (map (λ (p : Place). p.kind) places)
bytes_counted objects [] = refl
bytes_counted objects (place ∷ places) = omega (arith, bytes_counted objects places, sum_by-cons (place_bytes objects) place.kind (map (λ (p : Place). p.kind) places))

module _ (p : CoreProgram) (world : WorldFits p) where
  pub words_all : words_in (length p.objects) p.places ≡ all_words (length p.objects) (kinds_of p)
  words_all = words_counted (length p.objects) p.places

  -- Those in front of a place.
  pub words_before : (place : ℕ) → words_in (length p.objects) (take place p.places) ≡ all_words (length p.objects) (take place (kinds_of p))
  words_before place = words_counted (length p.objects) (take place p.places) ∙ ap (all_words (length p.objects)) (kinds_front p.places place)

  pub bytes_before : (place : ℕ) → bytes_in (length p.objects) (take place p.places) ≡ all_bytes (length p.objects) (take place (kinds_of p))
  bytes_before place = bytes_counted (length p.objects) (take place p.places) ∙ ap (all_bytes (length p.objects)) (kinds_front p.places place)

  -- There are few of them.
  pub few_words : (place : ℕ) → words_in (length p.objects) (take place p.places) ≤ 16790
  few_words place =
      let room = world.room in
      omega (arith, words_before place, sum_front (place_words (length p.objects)) (kinds_of p) place)

  pub few_bytes : (place : ℕ) → 2 * words_in (length p.objects) p.places + bytes_in (length p.objects) (take place p.places) ≤ 33581
  few_bytes place =
      let room = world.room in
      omega (arith, words_all, bytes_before place, sum_front (place_bytes (length p.objects)) (kinds_of p) place)
