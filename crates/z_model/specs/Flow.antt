-- Where the machine goes on: jumps, branches, returns and calls (Z-Machine Standard 1.1, sections 4.7, 6.3, 6.4 and 15).
use Rattle.std.specs.Prelude.{ℕ, zero, suc, ◌+◌, ◌-◌, ◌*◌, List, [], ◌∷◌, length, take, drop, Option, Some, None, Result, Ok, Err, Bool, true, false, nat_lt, ◌==◌, ◌||◌, if◌then◌else◌, slice_get, pos}
use lib.IntN.{ℤ, ◌+ℤ◌, ◌-ℤ◌, negsuc}
use Rattle.z_model.specs.declared.fault.ZFault.{ZFault}
use Rattle.z_model.specs.declared.fault.ZFault.TheVariants.{OffEnd, BadCall, StackFull, BadReturn}
use Rattle.z_model.specs.declared.op.Branch.{Branch}
use Rattle.z_model.specs.declared.end.Args.{Args}
use Rattle.z_model.specs.declared.story.Layout.{Layout}
use Rattle.z_model.specs.Decode.{◌>>=◌, or_fault}
use Rattle.z_model.specs.Machine.{Frame, Machine, words, stored_if}

-- ---- where it goes on

abbrev pub at_pc : Machine → ℕ → Machine
at_pc m pc = record m { pc = pc }

-- an address, which may not be below 0
abbrev pub jump_address : ℤ → Result ℕ ZFault
jump_address (pos n) = Ok n
jump_address (negsuc n) = Err OffEnd

-- the address behind, plus the offset, minus 2
unfoldable pub jumped : Machine → ℕ → ℤ → Result Machine ZFault
jumped m end offset = do
  pc ← jump_address (pos end +ℤ offset -ℤ pos 2)
  Ok (at_pc m pc)

-- the answer of a routine, for its caller to store
abbrev pub return_to : Layout → Machine → List Frame → ℕ → Result Machine ZFault
return_to layout m [] x = Err BadReturn
return_to layout m (f ∷ fs) x = stored_if layout (record m { pc = m.here.back; here = f; callers = fs }) m.here.store x

unfoldable pub returned : Layout → Machine → ℕ → Result Machine ZFault
returned layout m x = return_to layout m m.callers x

-- the machine in the first of these frames, called by the others
abbrev pub in_frames : Machine → List Frame → Machine
in_frames m [] = m
in_frames m (f ∷ fs) = record m { here = f; callers = fs }

-- The frames above that of a number are dropped, and it returns an answer; the opening frame is 0.
unfoldable pub frames_thrown : Layout → Machine → ℕ → ℕ → Result Machine ZFault
frames_thrown layout m x frame =
    if (frame == 0) || nat_lt (length m.callers) frame then Err BadReturn
    else returned layout (in_frames m (drop (length m.callers - frame) (m.here ∷ m.callers))) x

-- where a branch leads: offsets 0 and 1 return
unfoldable pub branch_taken : Layout → Machine → ℕ → ℤ → Result Machine ZFault
branch_taken layout m end (pos zero) = returned layout m 0
branch_taken layout m end (pos (suc zero)) = returned layout m 1
branch_taken layout m end (pos (suc (suc n))) = jumped m end (pos (suc (suc n)))
branch_taken layout m end (negsuc n) = jumped m end (negsuc n)

abbrev pub agrees : Bool → Bool → Bool
agrees true test = test
agrees false true = false
agrees false false = true

unfoldable pub branched : Layout → Machine → ℕ → Option Branch → Bool → Result Machine ZFault
branched layout m end None test = Ok (at_pc m end)
branched layout m end (Some b) test = if agrees b.when test then branch_taken layout m end b.offset else Ok (at_pc m end)

-- ---- calls

abbrev pub zeros : List ℕ
zeros = 0 ∷ 0 ∷ 0 ∷ 0 ∷ 0 ∷ 0 ∷ 0 ∷ 0 ∷ 0 ∷ 0 ∷ 0 ∷ 0 ∷ []

-- the locals of a routine that has so many: its arguments, and then zeros
abbrev pub locals_from : ℕ → Args → List ℕ
locals_from n a = take n (a.second ∷ a.third ∷ a.fourth ∷ zeros)

unfoldable pub local_count : List ℕ → ℕ → Result ℕ ZFault
local_count memory at = do
  n ← or_fault BadCall (slice_get memory at)
  if nat_lt 15 n then Err BadCall else Ok n

-- the frame of a routine that has so many locals
abbrev pub callee : ℕ → Option ℕ → Args → ℕ → Frame
callee end store a n = record { back = end; store = store; args = a.count - 1; locals = locals_from n a; stack = [] }

-- at most 8,192 frames and 65,536 words
unfoldable pub frame_entered : Machine → ℕ → Option ℕ → Args → Result Machine ZFault
frame_entered m end store a =
    if nat_lt (length m.callers + 1) 8192 then
    (local_count m.memory (8 * a.first) >>= λ n.
    if nat_lt 65536 (words m + n) then Err StackFull
    else Ok (record m { pc = 8 * a.first + 1; here = callee end store a n; callers = m.here ∷ m.callers }))
    else Err StackFull

-- the routine at the packed address 0 answers 0
unfoldable pub called : Layout → Machine → ℕ → Option ℕ → Args → Result Machine ZFault
called layout m end store a = if a.first == 0 then stored_if layout (at_pc m end) store 0 else frame_entered m end store a
