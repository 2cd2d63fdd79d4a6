-- The words of a program stand in static memory of its story.
use Rattle.std.proofs.Common.{◌≡◌, ℕ, suc, ◌+◌, ◌<◌, ◌≤◌, Bool, List, [], ◌∷◌, ◌++◌, length, Some, inr, refl, sym, ap, ◌∙◌, subst, arith, length-append, ⊎_elim}
use Rattle.std.specs.Prelude.{All, slice_get, slice_index}
use Rattle.std.proofs.lemmas.Bool.{lt-ltb, cases_lt}
use Rattle.std.proofs.lemmas.Option.{same_Some, slice_get_within, slice_get-get_or}
use Rattle.dg_base.specs.declared.program.CoreProgram.{CoreProgram}
use Rattle.dg_base.specs.Sound.{IsName}
use Rattle.dg_mid.specs.declared.code.Code.{Code}
use Rattle.z_model.specs.Memory.{byte_in}
use Rattle.z_model.specs.Spelling.{BytesAt}
use Rattle.z_lang.specs.State.{Program}
use Rattle.z_lang.specs.Standing.{IsKept}
use Rattle.z_lang.proofs.Kept.{kept_get}
use Rattle.z_asm.specs.declared.image.Image.{Image}
use Rattle.z_asm.specs.Assembled.{HasTable}
use Rattle.z_asm.specs.Story.{image_base, front_of, IsTooLarge}
use Rattle.z_story.specs.Parts.{image_of}
use Rattle.dg_rt.specs.Words.{words_table, ByteAt, BytesFrom, HasWords}
use Rattle.dg_story.specs.Built.{captures_table, words_part, story_parts, IsStoryOf}
use Rattle.dg_story.proofs.Mapped.{p}

-- a byte is read where it stands
reads : (q : Program) (m : List ℕ) (a x : ℕ) → a < 65536 → slice_get m a ≡ Some x → ByteAt q m a x
unfolding byte_in
reads q m a x low e =
    let within = slice_get_within m a x e in
    let is : slice_index m a ≡ x = same_Some (slice_index m a) x (sym (slice_get-get_or m a 0 within) ∙ e) in
    (low, rw (lt-ltb a (length m) within) (ap (λ (i : ℕ). Some i) is))

bytes_read : (q : Program) (story m : List ℕ) (a : ℕ) (xs : List ℕ) → IsKept q.world.layout.base story m → q.world.layout.base ≤ a → a + length xs ≤ 65536 → BytesAt story a xs → BytesFrom q m a xs
bytes_read q story m a [] kept le low h = tt
bytes_read q story m a (x ∷ xs) kept le low h =
    let next : a + 1 ≡ suc a = omega arith in (
      reads q m a x (omega arith) (kept_get q.world.layout.base story m a kept le ∙ h.0),
      bytes_read q story m (suc a) xs kept (omega arith) (omega arith) (subst (λ (i : ℕ). BytesAt story i xs) next h.1),
    )

module _ (program : CoreProgram) (code : Code) (keeps : Bool) (story : List ℕ) (is : IsStoryOf (story_parts program code keeps) story) (dice : List ℕ) where
  abbrev built : Image
  built = image_of (story_parts program code keeps)

  pub has_words : (IsTooLarge built → ⊥) → All IsName program.words → HasWords (p program code keeps story is dice) story program.words
  has_words small names = record {
    names = names;
    told = λ m kept.
        let t : HasTable built story 1 (words_part program.words) = is.assembled.tables 1 (words_part program.words) refl in
        let base = is.assembled.header.base in
        let near : front_of built ≤ 65536 = ⊎_elim (λ lt. absurd (small (inr lt))) (λ le. le) (cases_lt 65536 (front_of built)) in
        let fixed = t.fixed refl in
        let table_is : (p program code keeps story is dice).names.table 1 ≡ image_base built + length (captures_table program.closures).bytes = refl in
        let bytes = words_table program.words in
        bytes_read (p program code keeps story is dice) story m ((p program code keeps story is dice).names.table 1) bytes kept (omega (arith, base)) (omega (arith, near, length-append (captures_table program.closures).bytes (bytes ++ []), length-append bytes [], table_is)) t.stands;
  }
