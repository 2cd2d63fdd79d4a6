-- Each routine is the one at its packed address.
use Rattle.std.proofs.Common.{◌≡◌, ◌≢◌, ℕ, zero, suc, ◌+◌, ◌<◌, Bool, true, false, List, [], ◌∷◌, length, map, Some, sym, ap, ◌∙◌, arith}
use Rattle.std.specs.Prelude.{slice_get, slice_index, ◌==◌, if◌then◌else◌}
use Rattle.std.proofs.lemmas.Bool.{eq-eqb, ne_eqb}
use Rattle.z_code.specs.Targets.{Names}
use Rattle.z_lang.specs.declared.act.Routine.{Routine}
use Rattle.z_lang.specs.Standing.{look}
use Rattle.z_asm.specs.declared.image.Code.{Code}
use Rattle.z_asm.specs.Layout.{aligned, code_size, stand_from, packed_address}
use Rattle.z_asm.specs.Story.{image_names, routines_from}
use Rattle.z_asm.proofs.Layouts.{aligned_is}
use Rattle.z_asm.proofs.Standing.{packed_place, place_most, within, many}
use Rattle.z_story.specs.declared.building.Parts.{Parts}
use Rattle.z_story.specs.Parts.{routine_code, image_of}
use Rattle.z_story.specs.Does.{packed_at}

-- routines behind others have greater addresses
rising : (at : ℕ) (cs : List Code) (i j : ℕ) → i < j → j < length (map code_size cs) →
    slice_index (map packed_address (stand_from at (map code_size cs))) i < slice_index (map packed_address (stand_from at (map code_size cs))) j
rising at [] i j lt le = absurd (omega arith)
rising at (c ∷ cs) i zero lt le = absurd (omega arith)
rising at (c ∷ cs) zero (suc j) lt le =
    let here = aligned_is at in
    let there = packed_place (aligned at + code_size c) (map code_size cs) j in
    let most = place_most (aligned at + code_size c) (map code_size cs) j (omega arith) in
    omega arith
rising at (c ∷ cs) (suc i) (suc j) lt le = rising (aligned at + code_size c) cs i j (omega arith) (omega arith)

-- the first routine at an address is found
found : (names : Names) (k x : ℕ) (rs : List Routine) (j : ℕ) (r : Routine) → slice_get rs j ≡ Some r → names.routine (k + j) ≡ x → ((i : ℕ) → i < j → names.routine (k + i) ≢ x) → look names k x rs ≡ Some r
found names k x [] j r e is none = absurd (cc)
found names k x (y ∷ rs) zero r e is none =
    let q : k + 0 ≡ k = omega arith in
    by_test (names.routine k == x) (eq-eqb (names.routine k) x (ap names.routine (sym q) ∙ is))
  where
    by_test : (t : Bool) → t ≡ true → (if t then Some y else look names (suc k) x rs) ≡ Some r
    by_test true q = e
    by_test false q = absurd (cc)
found names k x (y ∷ rs) (suc j) r e is none =
    let q : k + 0 ≡ k = omega arith in
    let at : suc k + j ≡ k + suc j = omega arith in
    by_test (names.routine k == x) (ne_eqb (names.routine k) x (λ (h : names.routine k ≡ x). (none 0 (omega arith) (ap names.routine q ∙ h))))
    (found names (suc k) x rs j r e (ap names.routine at ∙ is) (λ i lt h. none (suc i) (omega arith) (let to : k + suc i ≡ suc k + i = omega arith in ap names.routine to ∙ h)))
  where
    by_test : (t : Bool) → t ≡ false → look names (suc k) x rs ≡ Some r → (if t then Some y else look names (suc k) x rs) ≡ Some r
    by_test true q later = absurd (cc)
    by_test false q later = later

pub found_at : (parts : Parts) (j : ℕ) (r : Routine) → slice_get parts.routines j ≡ Some r → look (image_names (image_of parts)) 0 (packed_at parts j) parts.routines ≡ Some r
found_at parts j r e =
    let lt = within parts.routines j r e in
    let cs = map routine_code parts.routines in
    let as_many = many routine_code parts.routines in
    let sized = many code_size cs in
    let z : 0 + j ≡ j = omega arith in
    found (image_names (image_of parts)) 0 (packed_at parts j) parts.routines j r e (ap (packed_at parts) z)
    (λ i below same. (let y : 0 + i ≡ i = omega arith in let less = rising (routines_from (image_of parts)) cs i j below (omega arith) in let other : packed_at parts i ≡ packed_at parts j = ap (packed_at parts) (sym y) ∙ same in omega arith))
