-- A call begins a routine, and its return goes on behind the call.
use Rattle.std.proofs.Common.{◌≡◌, ◌≢◌, ℕ, ◌+◌, ◌-◌, ◌*◌, ◌<◌, ◌≤◌, List, [], ◌∷◌, length, Option, Some, None, Result, Ok, refl, ap, arith}
use Rattle.std.specs.Prelude.{slice_get}
use Rattle.std.proofs.lemmas.Option.{same_Some}
use Rattle.std.proofs.lemmas.Bool.{lt-ltb, le-ltb, ne_eqb}
use Rattle.z_model.specs.declared.fault.ZFault.{ZFault}
use Rattle.z_model.specs.declared.story.Layout.{Layout}
use Rattle.z_model.specs.declared.end.Args.{Args}
use Rattle.z_model.specs.Flow.{called, frame_entered as entered_by, local_count, locals_from, return_to, returned}
use Rattle.z_model.specs.Machine.{Frame, Machine, words, words_in, stored_if}
use Rattle.z_lang.specs.State.{State, Program, put_if}
use Rattle.z_lang.specs.Runs.{routine_entered, left_with}
use Rattle.z_lang.specs.Standing.{Context, machine_at, resumed}
use Rattle.z_lang.proofs.Operands.{args_of, put_stored}

abbrev the_machine : Machine → Result Machine ZFault
the_machine m = Ok m

-- where a routine is called from, when it is called by an instruction of another
abbrev pub within : State → Context → ℕ → Option ℕ → ℕ → Context
within s c end v k = record { back = end; store = v; args = k; callers = (machine_at s c end).here ∷ c.callers }

enters : (m : Machine) (end : ℕ) (store : Option ℕ) (a : Args) (n : ℕ) → length m.callers + 1 < 8192 → slice_get m.memory (8 * a.first) ≡ Some n → n ≤ 15 → words m + n ≤ 65536 →
    entered_by m end store a ≡ the_machine (record m { pc = 8 * a.first + 1; here = record { back = end; store = store; args = a.count - 1; locals = locals_from n a; stack = [] }; callers = m.here ∷ m.callers })
unfolding entered_by local_count
enters m end store a n frames count few room = rw (lt-ltb (length m.callers + 1) 8192 frames, count, le-ltb 15 n few, le-ltb 65536 (words m + n) room) refl

-- a call leads to the routine's first instruction
pub call_enters : (layout : Layout) (s : State) (c : Context) (pc end : ℕ) (v : Option ℕ) (k x y z u n : ℕ) → x ≢ 0 → length c.callers + 1 < 8192 → slice_get s.memory (8 * x) ≡ Some n → n ≤ 15 → words_in c.callers + length s.locals + n ≤ 65536 →
    called layout (machine_at s c pc) end v (args_of k x y z u) ≡ the_machine (machine_at (routine_entered s n (y, z, u)) (within s c end v (k - 1)) (8 * x + 1))
unfolding called
call_enters layout s c pc end v k x y z u n some frames count few room = rw (ne_eqb x 0 some) (enters (machine_at s c pc) end v (args_of k x y z u) n frames count few (omega arith))

-- what a return does doesn't depend on its address
pub return_resumes : (layout : Layout) (s : State) (c : Context) (pc x : ℕ) → returned layout (machine_at s c pc) x ≡ resumed layout s c x
unfolding returned
return_resumes layout s c pc x = by_callers c.callers
  where
    by_callers : (fs : List Frame) → return_to layout (machine_at s c pc) fs x ≡ return_to layout (machine_at s c 0) fs x
    by_callers [] = refl
    by_callers (f ∷ fs) = refl

-- the caller goes on behind its call
pub call_returns : (p : Program) (s s1 s2 : State) (c : Context) (end : ℕ) (v : Option ℕ) (k y : ℕ) → put_if p v y (left_with s s1) ≡ Some s2 → resumed p.world.layout s1 (within s c end v k) y ≡ the_machine (machine_at s2 c end)
unfolding stored_if
call_returns p s s1 s2 c end None k y e = ap (λ (t : State). the_machine (machine_at t c end)) (same_Some (left_with s s1) s2 e)
call_returns p s s1 s2 c end (Some v) k y e = put_stored p v y (left_with s s1) s2 c end e
