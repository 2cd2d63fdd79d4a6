-- A story isn't too large.
use Rattle.std.specs.Prelude.{map}
use Rattle.std.proofs.Common.{◌≡◌, ℕ, ◌+◌, ◌*◌, ◌/◌, ◌≤◌, List, [], ◌∷◌, length, inl, inr, Bool, true, false, refl, arith}
use Rattle.std.proofs.lemmas.Bool.{ltb-true}
use Rattle.dg_base.specs.declared.program.CoreProgram.{CoreProgram}
use Rattle.dg_mid.specs.declared.code.Code.{Code}
use Rattle.z_lang.specs.declared.act.Routine.{Routine}
use Rattle.z_lang.specs.Sizes.{body_bytes}
use Rattle.z_lang.proofs.Sizes.{takes_bytes}
use Rattle.z_asm.specs.Layout.{aligned, end_from, code_size}
use Rattle.z_asm.specs.Story as image
use Rattle.z_story.specs.Parts.{routine_code, image_of}
use Rattle.dg_rt.specs.RunTime.{runtime, routine_of}
use Rattle.dg_mid.specs.Weights.{blocks_weight}
use Rattle.dg_emit.specs.Numbers.{number_behind, rules_count, numbers_from, block_number}
use Rattle.dg_emit.specs.Code.{code_routines}
use Rattle.dg_rt.specs.Start.{start_acts}
use Rattle.dg_emit.specs.Story.{first_number, story_routines}
use Rattle.dg_fits.specs.Sizes.{names_size, story_size}
use Rattle.dg_fits.specs.inside.Bytes.{room, rooms, bytes}
use Rattle.dg_fits.specs.Laws.{IsSized, StoryFits, parts_with}
use Rattle.dg_fits.proofs.Rooms.{rooms_append, code_room, code_many}
use Rattle.dg_fits.proofs.Counting.{counted}
use Rattle.dg_fits.proofs.Selects.{selects_count}
use Rattle.dg_fits.proofs.Suits.{captured_all, objects_few, objects_least, suits}
use Rattle.dg_fits.proofs.Objects.{objects_room}

aligned_below : (at q : ℕ) → at ≤ 8 * q → aligned at ≤ 8 * q
aligned_below at q le = omega arith

aligned_eights : (n : ℕ) → aligned n ≡ 8 * (aligned n / 8)
aligned_eights n = omega arith

-- routines end behind so much room
end_within : (rs : List Routine) (at q : ℕ) → at ≤ 8 * q → end_from at (map code_size (map routine_code rs)) ≤ 8 * q + rooms rs
end_within [] at q le = omega arith
end_within (r ∷ rs) at q le =
    let size = (takes_bytes r.body).all in
    let n = aligned (1 + body_bytes r.body) / 8 in
    let e = aligned_eights (1 + body_bytes r.body) in
    let b = aligned_below at q le in
    omega (arith, end_within rs (aligned at + code_size (routine_code r)) (q + n) (omega arith))

-- the run-time, and the routine that begins
runtime_room : rooms runtime ≤ 19000
runtime_room = let lt = ltb-true (rooms runtime) 19000 refl in omega arith

start_room : (keeps : Bool) (entry : ℕ) → room (routine_of 0 (start_acts keeps entry)) ≤ 400
start_room true entry = omega arith
start_room false entry = let lt = ltb-true (room (routine_of 0 (start_acts false entry))) 400 refl in omega arith

module _ (program : CoreProgram) (code : Code) (sized : IsSized program code) where
  count : 25 * (blocks_weight (bytes program) code.blocks + 32 * rules_count code.preds + 32 * length code.closures) + 23 * names_size program.objects ≤ 23 * (100 + story_size program)
  count = counted program code (captured_all program sized.sound) sized.once sized.codes (sized.light (bytes program))

  all_room : (keeps : Bool) → rooms (story_routines program code keeps) ≤ 457900
  all_room keeps =
      let entry = block_number (numbers_from first_number code) 1 in
      omega (
        arith,
        sized.size,
        count,
        start_room keeps entry,
        runtime_room,
        rooms_append runtime (code_routines program first_number code),
        code_room program first_number code (suits program code sized).fits.0,
        objects_room (number_behind first_number code) program.objects sized.sound.objects (objects_few program code sized),
        objects_least program code sized,
      )

  pub story_fits : StoryFits program code
  story_fits = record {
    near = λ tables keeps short. (
        let written = short.written in
        let told = short.told in
        omega (arith, sized.size, selects_count program sized.sound)
        );
    small = λ tables keeps near large. elim large [
      | inl far ↦ let e = end_within (story_routines program code keeps) (image.front_of (image_of (parts_with tables program code keeps))) 8192 (omega arith) in let r = all_room keeps in omega arith
      | inr far ↦ omega arith
    ];
    numbered = let n = ltb-true first_number 1000 refl in omega (arith, sized.size, count, code_many program first_number code);
  }
