-- The parts that are made of what is left of a program are those of its story.
use Rattle.std.proofs.Common.{◌≡◌, ℕ, List, Bool, sym, ap, ◌∙◌, subst, ◌++◌, ◌∷◌, []}
use Rattle.dg_base.specs.declared.program.CoreProgram.{CoreProgram}
use Rattle.dg_mid.specs.declared.code.Code.{Code}
use Rattle.z_asm.specs.declared.image.Table.{Table}
use Rattle.z_asm.specs.Assembled.{ArePlaces}
use Rattle.z_lang.specs.declared.act.Routine.{Routine}
use Rattle.z_story.specs.declared.building.Parts.{Parts}
use Rattle.z_story.specs.Parts.{AreParts, image_of}
use Rattle.dg_rt.specs.RunTime.{routine_of, runtime}
use Rattle.dg_emit.specs.Outline.{RoutinesAlike, SameOutline}
use Rattle.dg_emit.specs.Code.{CodeFits}
use Rattle.dg_emit.specs.Numbers.{numbers_from, block_number}
use Rattle.dg_rt.specs.Start.{start_acts}
use Rattle.dg_emit.specs.Story.{first_number}
use Rattle.dg_fits.specs.Laws.{parts_with}
use Rattle.dg_story.specs.declared.building.Left.{Left}
use Rattle.dg_story.specs.Built.{sites_table, story_tables, story_parts, keeps_within, IsStoryOf, HasNoStory}
use Rattle.dg_story.specs.inside.Left.{IsLeftOf, parts_left}
use Rattle.dg_story.specs.inside.Stories.{HasStory}

abbrev with_routines : List Table → List Routine → Parts
with_routines tables routines = record { tables = tables; strings = []; routines = routines }

turned : {p q : CoreProgram} → SameOutline p q → SameOutline q p
turned h = record { captures = λ c. sym (h.captures c); told = λ c. sym (h.told c); kinds = sym h.kinds; objects = sym h.objects }

module _ (alike : RoutinesAlike) (program : CoreProgram) (code : Code) (left : Left) (is : IsLeftOf program left) where
  pub parts_are : parts_left left code ≡ story_parts program code (keeps_within program)
  parts_are =
      ap (λ (keeps : Bool). parts_with (left.tables ++ sites_table code ∷ []) left.outline code keeps) is.keeps
      ∙ (ap (λ (tables : List Table). parts_with (tables ++ sites_table code ∷ []) left.outline code (keeps_within program)) is.tables
      ∙ ap (λ (rs : List Routine). with_routines (story_tables program code) (routine_of 0 (start_acts (keeps_within program) (block_number (numbers_from first_number code) 1)) ∷ (runtime ++ rs)))
      (alike.routines left.outline program is.outline first_number code))

  pub code_fits : HasStory program code → CodeFits left.outline code
  code_fits has = alike.fits program left.outline (turned is.outline) code has.fits

  pub parts_fit : HasStory program code → AreParts (parts_left left code)
  parts_fit has = subst AreParts (sym parts_are) (has.parts (keeps_within program))

  pub none_large : HasStory program code → HasNoStory code (parts_left left code) → ⊥
  none_large has none = has.some (keeps_within program) (subst (HasNoStory code) parts_are none)

  pub story_is : (story : List ℕ) → IsStoryOf (parts_left left code) story → IsStoryOf (story_parts program code (keeps_within program)) story
  story_is story h = subst (λ (parts : Parts). IsStoryOf parts story) parts_are h

  pub places_are : (places : List (ℕ × ℕ)) → ArePlaces (image_of (parts_left left code)) places → ArePlaces (image_of (story_parts program code (keeps_within program))) places
  places_are places h = subst (λ (parts : Parts). ArePlaces (image_of parts) places) parts_are h
