-- A story tells how many values the closure of each place captures.
use Rattle.std.proofs.Common.{◌≡◌, ℕ, zero, suc, ◌+◌, ◌%◌, ◌<◌, ◌≤◌, List, [], ◌∷◌, ◌++◌, length, map, inr, ⊎_elim, length-append, Bool, false, Option, Some, None, refl, sym, ap, ◌∙◌, subst, arith}
use Rattle.std.specs.Prelude.{slice_get, slice_index}
use Rattle.std.proofs.lemmas.Bool.{lt-ltb, cases_lt}
use Rattle.std.proofs.lemmas.List.{length-map}
use Rattle.dg_base.specs.declared.program.ClosureBody.{ClosureBody}
use Rattle.dg_base.specs.declared.program.CoreProgram.{CoreProgram}
use Rattle.dg_mid.specs.declared.code.Code.{Code}
use Rattle.z_model.specs.Memory.{byte_in}
use Rattle.z_model.specs.Spelling.{BytesAt}
use Rattle.z_model.specs.declared.story.Layout.{Layout}
use Rattle.z_lang.specs.declared.act.Function.TheVariants as functions
use Rattle.z_lang.specs.Acts.{computed}
use Rattle.z_lang.proofs.Kept.{kept_get}
use Rattle.z_asm.specs.declared.image.Table.{Table}
use Rattle.z_asm.specs.Layout.{table_places}
use Rattle.z_asm.specs.Story.{image_base, tables_from, front_of}
use Rattle.z_story.specs.Parts.{image_of}
use Rattle.dg_rt.specs.CopiesIn.{HasCaptures}
use Rattle.dg_rt.specs.Words.{words_table}
use Rattle.dg_turn.specs.Told.{count_told, told_count}
use Rattle.dg_story.specs.Kept.{kept_blocks}
use Rattle.dg_story.specs.Built.{captures_table, words_part, kept_table, world_table, sites_table, story_parts, IsStoryOf}
use Rattle.dg_story.proofs.Mapped.{p, has}

abbrev given : Option ℕ → ℕ
given None = 0
given (Some n) = n

index_is : (l : List ℕ) (i v : ℕ) → slice_get l i ≡ Some v → slice_index l i ≡ v
index_is [] i v e = absurd (cc e)
index_is (x ∷ l) zero v e = ap given e
index_is (x ∷ l) (suc i) v e = index_is l i v e

within : (l : List ℕ) (i v : ℕ) → slice_get l i ≡ Some v → i < length l
within [] i v e = absurd (cc e)
within (x ∷ l) zero v e = omega arith
within (x ∷ l) (suc i) v e = let k = within l i v e in omega arith

byte_read : (layout : Layout) (memory : List ℕ) (x y a v : ℕ) → (x + y) % 65536 ≡ a → slice_get memory a ≡ Some v → computed layout memory functions.Byte x y ≡ Some v
unfolding computed byte_in
byte_read layout memory x y a v at e = rw (at, lt-ltb a (length memory) (within memory a v e)) (ap Some (index_is memory a v e))

first_fixed : (here there : ℕ) (t : Table) (ts : List Table) → t.writable ≡ false → slice_index (table_places here there (t ∷ ts)) 0 ≡ there
first_fixed here there t ts e = rw e refl

byte_there : (cs : List ClosureBody) (at place : ℕ) (bytes : List ℕ) → BytesAt bytes at (map (λ (c : ClosureBody). length c.captured) cs) → count_told (slice_get cs place) < 256 → slice_get bytes (at + place) ≡ Some (count_told (slice_get cs place))
byte_there [] at place bytes stands few = absurd (omega arith)
byte_there (c ∷ cs) at zero bytes stands few =
    let same : at ≡ at + 0 = omega arith in
    subst (λ (k : ℕ). slice_get bytes k ≡ Some (length c.captured)) same stands.0
byte_there (c ∷ cs) at (suc place) bytes stands few =
    let same : at + 1 + place ≡ at + suc place = omega arith in
    subst (λ (k : ℕ). slice_get bytes k ≡ Some (count_told (slice_get cs place))) same (byte_there cs (at + 1) place bytes stands.1 few)

closure_there : (cs : List ClosureBody) (place : ℕ) → count_told (slice_get cs place) < 256 → place < length cs
closure_there [] place few = absurd (omega arith)
closure_there (c ∷ cs) zero few = omega arith
closure_there (c ∷ cs) (suc place) few = let k = closure_there cs place few in omega arith

module _ (program : CoreProgram) (code : Code) (keeps : Bool) (story : List ℕ) (is : IsStoryOf (story_parts program code keeps) story) (dice : List ℕ) where
  table_is : (p program code keeps story is dice).names.table 0 ≡ (p program code keeps story is dice).world.layout.base
  table_is = first_fixed tables_from (image_base (image_of (story_parts program code keeps))) (captures_table program.closures) (words_part program.words ∷ kept_table (kept_blocks program) ∷ world_table program ∷ sites_table code ∷ []) refl ∙ sym is.assembled.header.base

  pub told : HasCaptures (p program code keeps story is dice) story (told_count program)
  told = record {
    has = has program code keeps story is dice;
    told = λ m place low few kept.
        let base = (p program code keeps story is dice).world.layout.base in
        let built = image_of (story_parts program code keeps) in
        let near : front_of built ≤ 65536 = ⊎_elim (λ lt. absurd (is.small (inr lt))) (λ le. le) (cases_lt 65536 (front_of built)) in
        let within = closure_there program.closures place few in
        let counts = map (λ (c : ClosureBody). length c.captured) program.closures in
        let high : base + place < 65536 = omega (arith, near, within, length-map program.closures (λ (c : ClosureBody). length c.captured), length-append counts (words_table program.words ++ [])) in
        let table = table_is in
        let there = byte_there program.closures ((p program code keeps story is dice).names.table 0) place story (is.assembled.tables 0 (captures_table program.closures) refl).stands few in
        let at : slice_get story (base + place) ≡ Some (told_count program place) = subst (λ (k : ℕ). slice_get story (k + place) ≡ Some (told_count program place)) table there in
        byte_read (p program code keeps story is dice).world.layout m ((p program code keeps story is dice).names.table 0) place (base + place) (told_count program place) (omega arith) (kept_get base story m (base + place) kept (omega arith) ∙ at);
  }
