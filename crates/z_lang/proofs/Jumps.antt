-- Where a jump and a branch lead.
use Rattle.z_model.specs.Flow.{at_pc, jumped, branch_taken}
use Rattle.z_model.specs.Machine.{Machine}
use Rattle.z_model.specs.Numbers.{signed_16, wrapped_word}
use Rattle.z_code.specs.Targets.{offset_to, IsNear}
use Rattle.std.proofs.Common.{◌≡◌, ℕ, suc, ◌+◌, ◌-◌, ◌%◌, ◌<◌, ◌≤◌, ⊎_elim, Result, Ok, refl, sym, subst, arith}
use Rattle.std.specs.Prelude.{pos}
use lib.IntN.{ℤ, ◌+ℤ◌, ◌-ℤ◌, negsuc}
use Rattle.std.proofs.lemmas.Int.{ints}
use Rattle.std.proofs.lemmas.Bool.{lt-ltb, le-ltb}
use Rattle.z_model.specs.declared.fault.ZFault.{ZFault}
use Rattle.z_model.specs.declared.story.Layout.{Layout}

abbrev the_machine : Machine → Result Machine ZFault
the_machine m = Ok m

-- what an offset is
offset_back : (end to : ℕ) → to + 3 ≤ end → offset_to end to ≡ negsuc (end - to - 3)
offset_back end to le = omega (arith, ints)

offset_ahead : (end to : ℕ) → end ≤ to → offset_to end to ≡ pos (suc (suc (to - end)))
offset_ahead end to le = omega (arith, ints)

back_again : (end to : ℕ) → to + 3 ≤ end → pos end +ℤ negsuc (end - to - 3) -ℤ pos 2 ≡ pos to
back_again end to le = omega (arith, ints)

ahead_again : (end to : ℕ) → end ≤ to → pos end +ℤ pos (suc (suc (to - end))) -ℤ pos 2 ≡ pos to
ahead_again end to le = omega (arith, ints)

-- a jump by such an offset
jumps_by : (m : Machine) (end to : ℕ) (z : ℤ) → pos end +ℤ z -ℤ pos 2 ≡ pos to → jumped m end z ≡ the_machine (at_pc m to)
unfolding jumped
jumps_by m end to z e = rw e refl

takes_back : (layout : Layout) (m : Machine) (end to : ℕ) → to + 3 ≤ end → branch_taken layout m end (offset_to end to) ≡ the_machine (at_pc m to)
unfolding branch_taken
takes_back layout m end to le = subst (λ (z : ℤ). branch_taken layout m end z ≡ the_machine (at_pc m to)) (sym (offset_back end to le)) (jumps_by m end to (negsuc (end - to - 3)) (back_again end to le))

takes_ahead : (layout : Layout) (m : Machine) (end to : ℕ) → end ≤ to → branch_taken layout m end (offset_to end to) ≡ the_machine (at_pc m to)
unfolding branch_taken
takes_ahead layout m end to le = subst (λ (z : ℤ). branch_taken layout m end z ≡ the_machine (at_pc m to)) (sym (offset_ahead end to le)) (jumps_by m end to (pos (suc (suc (to - end)))) (ahead_again end to le))

-- a branch that is taken
pub branch_leads : (layout : Layout) (m : Machine) (end to : ℕ) → IsNear end to → branch_taken layout m end (offset_to end to) ≡ the_machine (at_pc m to)
branch_leads layout m end to near = ⊎_elim (λ le. takes_back layout m end to le) (λ le. takes_ahead layout m end to le) near.apart

wraps_back : (n : ℕ) → n < 8192 → pos (65535 - n) -ℤ pos 65536 ≡ negsuc n
wraps_back n lt = omega (arith, ints)

word_back : (n : ℕ) → n < 8192 → signed_16 (wrapped_word (negsuc n)) ≡ negsuc n
word_back n lt = let q : 65535 - n % 65536 ≡ 65535 - n = omega arith in rw (q, le-ltb (65535 - n) 32768 (omega arith)) (wraps_back n lt)

word_ahead : (n : ℕ) → n < 8192 → signed_16 (wrapped_word (pos n)) ≡ pos n
word_ahead n lt = let q : n % 65536 ≡ n = omega arith in rw (q, lt-ltb n 32768 (omega arith)) refl

-- a jump by a word
pub jump_leads : (m : Machine) (end to : ℕ) → IsNear end to → jumped m end (signed_16 (wrapped_word (offset_to end to))) ≡ the_machine (at_pc m to)
jump_leads m end to near = ⊎_elim back ahead near.apart
  where
    back : to + 3 ≤ end → jumped m end (signed_16 (wrapped_word (offset_to end to))) ≡ the_machine (at_pc m to)
    back le =
        let b = near.back in
        subst (λ (z : ℤ). jumped m end (signed_16 (wrapped_word z)) ≡ the_machine (at_pc m to)) (sym (offset_back end to le))
        (subst (λ (z : ℤ). jumped m end z ≡ the_machine (at_pc m to)) (sym (word_back (end - to - 3) (omega arith))) (jumps_by m end to (negsuc (end - to - 3)) (back_again end to le)))

    ahead : end ≤ to → jumped m end (signed_16 (wrapped_word (offset_to end to))) ≡ the_machine (at_pc m to)
    ahead le =
        let b = near.ahead in
        subst (λ (z : ℤ). jumped m end (signed_16 (wrapped_word z)) ≡ the_machine (at_pc m to)) (sym (offset_ahead end to le))
        (subst (λ (z : ℤ). jumped m end z ≡ the_machine (at_pc m to)) (sym (word_ahead (suc (suc (to - end))) (omega arith))) (jumps_by m end to (pos (suc (suc (to - end)))) (ahead_again end to le)))
