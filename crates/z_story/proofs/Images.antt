-- The image of parts can be assembled.
use Rattle.std.proofs.Common.{◌≡◌, ℕ, List, [], ◌∷◌, length, map, sym, ap, subst, arith}
use Rattle.z_code.specs.Open.{Counts}
use Rattle.z_lang.specs.declared.act.Routine.{Routine}
use Rattle.z_lang.specs.declared.act.Act.{Act}
use Rattle.z_lang.specs.Sizes.{TakesBytes}
use Rattle.z_lang.specs.Bodies.{Opens}
use Rattle.z_asm.specs.Conditions.{AreCodes, IsImage, counts_of_image as image_counts}
use Rattle.z_asm.proofs.Standing.{many}
use Rattle.z_story.specs.declared.building.Parts.{Parts}
use Rattle.z_story.specs.Parts.{parts_counts, AreRoutines, AreParts, routine_code, image_of}

same_counts : (parts : Parts) → parts_counts parts ≡ image_counts (image_of parts)
same_counts parts = ap (λ (n : ℕ). let c : Counts = record { routines = n; tables = length parts.tables; texts = length parts.strings } in c) (sym (many routine_code parts.routines))

module _ (opens : (counts : Counts) (body : List Act) → Opens counts body) (takes : (body : List Act) → TakesBytes body) where
  codes : (counts : Counts) (rs : List Routine) → AreRoutines counts rs → AreCodes counts (map routine_code rs)
  codes counts [] h = tt
  codes counts (r ∷ rs) h =
      let bytes = (takes r.body).all in
      (record { few = h.0.few; short = λ l has. (let short = h.0.short l has in omega arith); are_open = (opens counts r.body).opens h.0.fit }, codes counts rs h.1)

  pub is_image : (parts : Parts) → AreParts parts → IsImage (image_of parts)
  is_image parts is =
      let some = is.some in
      let as_many = many routine_code parts.routines in
      record {
        some = omega arith;
        routines = subst (λ (c : Counts). AreCodes c (map routine_code parts.routines)) (same_counts parts) (codes (parts_counts parts) parts.routines is.routines);
        texts = is.texts;
      }
