-- Where what may be written ends in a built story, and where its routines are.
use Rattle.std.proofs.Common.{◌≡◌, ℕ, ◌+◌, ◌<◌, List, ◌++◌, length, map, replicate, Bool, true, Some, inl, ⊎_elim, ap, ◌∙◌, arith, length-append}
use Rattle.std.specs.List.{slice_get}
use Rattle.std.proofs.lemmas.Bool.{cases_lt}
use Rattle.std.proofs.lemmas.List.{length-replicate}
use Rattle.dg_base.specs.declared.program.CoreProgram.{CoreProgram}
use Rattle.dg_mid.specs.declared.code.Code.{Code}
use Rattle.z_lang.specs.State.{Program}
use Rattle.z_lang.specs.declared.act.Routine.{Routine}
use Rattle.z_asm.specs.declared.image.Image.{Image}
use Rattle.z_asm.specs.Layout.{code_size, table_bytes}
use Rattle.z_asm.specs.Story.{routines_from, image_end, IsTooLarge}
use Rattle.z_asm.proofs.Layouts.{packed_below}
use Rattle.z_story.specs.Parts.{image_of}
use Rattle.z_story.specs.Does as does
use Rattle.dg_rt.specs.RunTime.{HasRunTime}
use Rattle.dg_emit.specs.Code.{code_routines}
use Rattle.dg_emit.specs.Story.{first_number, story_routines}
use Rattle.dg_story.specs.Built.{story_tables, site_words, story_parts, IsStoryOf}
use Rattle.dg_story.proofs.Numbered.{runtime_has, code_has}
use Rattle.dg_story.proofs.Rows.{from_kept, from_kept_long, written_is}

-- so many zeros
abbrev pub zeros : ℕ → List ℕ
zeros n = replicate n 0

-- zeros and what stands behind them
long : (n : ℕ) (behind : List ℕ) → length (zeros n ++ behind) ≡ n + length behind
long n behind = omega (arith, length-append (zeros n) behind, length-replicate {A = ℕ} n 0)

-- So many bytes may be written.
pub written_long : (program : CoreProgram) (code : Code) → length (table_bytes true (story_tables program code)) ≡ 28024 + length (from_kept program (site_words code))
written_long program code = ap length (written_is program (zeros 28024) (site_words code)) ∙ long 28024 (from_kept program (site_words code))

module _ (program : CoreProgram) (code : Code) (keeps : Bool) (story : List ℕ) (is : IsStoryOf (story_parts program code keeps) story) (dice : List ℕ) where
  abbrev pub p : Program
  p = does.program (story_parts program code keeps) story dice

  abbrev image : Image
  image = image_of (story_parts program code keeps)

  pub base_is : p.world.layout.base ≡ 28694 + length (from_kept program (site_words code))
  base_is =
      let written : length (table_bytes true (story_tables program code)) ≡ 28024 + length (from_kept program (site_words code)) = written_long program code in
      is.assembled.header.base ∙ (omega (arith, written))

  pub globals_are : p.world.layout.globals ≡ 64
  globals_are = is.assembled.header.globals_is

  -- Each routine stands at the address of its number.
  pub routine_is : (k : ℕ) (r : Routine) → slice_get (story_routines program code keeps) k ≡ Some r → p.routine_at (p.names.routine k) ≡ Some r
  routine_is k r e = is.does.named dice k r e

  pub has : HasRunTime p
  has = record {
    mapped = record { room = let b = base_is in let l = from_kept_long program (site_words code) in omega arith };
    each = λ k r e. routine_is (1 + k) r (runtime_has program code keeps k r e);
  }

  pub code_is : (k : ℕ) (r : Routine) → slice_get (code_routines program first_number code) k ≡ Some r → p.routine_at (p.names.routine (first_number + k)) ≡ Some r
  code_is k r e = routine_is (first_number + k) r (code_has program code keeps k r e)

  -- Addresses of routines are words.
  pub words_are : (IsTooLarge image → ⊥) → (k : ℕ) → p.names.routine k < 65536
  words_are small k =
      packed_below (routines_from image) (map code_size image.routines) k (⊎_elim (λ lt. absurd (small (inl lt))) (λ le. le) (cases_lt 524280 (image_end image)))
