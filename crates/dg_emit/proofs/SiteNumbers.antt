-- The numbers of sites in a row, and where what is kept of them begins.
use Rattle.std.proofs.Common.{◌≡◌, ℕ, ◌+◌, ◌*◌, ◌/◌, ◌≤◌, List, [], ◌∷◌, ◌++◌, length, map, refl, ap, arith}
use Rattle.std.proofs.lemmas.List.Sums.{sum_by-cons}
use Rattle.dg_base.specs.declared.program.CoreProgram.{CoreProgram}
use Rattle.dg_base.specs.declared.program.Place.{Place}
use Rattle.dg_rt.specs.Cells.{at_cell}
use Rattle.dg_turn.specs.Told.{Site}
use Rattle.dg_turn.specs.Sites.{numbers_of}
use Rattle.dg_turn.specs.World.{place_bytes, all_bytes, world_end}
use Rattle.dg_emit.specs.World.{WorldFits}
use Rattle.dg_emit.specs.inside.Places.{words_in, bytes_in}
use Rattle.dg_emit.proofs.Fronts.{words_all}

pub numbers_append : (xs ys : List Site) → numbers_of (xs ++ ys) ≡ numbers_of xs ++ numbers_of ys
numbers_append [] ys = refl
numbers_append (x ∷ xs) ys = ap (λ (l : List ℕ). x.number ∷ l) (numbers_append xs ys)

bytes_counted : (objects : ℕ) (places : List Place) → bytes_in objects places ≡ all_bytes objects (map (λ (p : Place). p.kind) places)
bytes_counted objects [] = refl
bytes_counted objects (place ∷ places) = omega (arith, bytes_counted objects places, sum_by-cons (place_bytes objects) place.kind (map (λ (p : Place). p.kind) places))

module _ (p : CoreProgram) (world : WorldFits p) where
  -- There are few words and bytes of the world.
  pub words_few : words_in (length p.objects) p.places ≤ 16790
  words_few = let room = world.room in omega (arith, words_all p world)

  pub bytes_few : bytes_in (length p.objects) p.places ≤ 33581
  bytes_few = let room = world.room in omega (arith, bytes_counted (length p.objects) p.places)

  -- Behind them lies what is kept of sites.
  pub behind_is : at_cell (world_end p) ≡ 31954 + 2 * (words_in (length p.objects) p.places + (bytes_in (length p.objects) p.places + 1) / 2)
  behind_is = omega (arith, words_all p world, bytes_counted (length p.objects) p.places)
