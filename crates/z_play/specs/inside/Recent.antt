-- What a player keeps of the code that it decoded, so that it need not decode it again.
use Rattle.std.specs.Prelude.{ℕ, ◌≡◌, ◌<◌, ◌≤◌, ◌%◌, List, Some, Ok, length, slice_get, slice_index_or}
use Rattle.z_model.specs.Table.{player_rows}
use Rattle.z_model.specs.Decode.{op_at}
use Rattle.z_model.specs.Spelling.{IsInstruction}
use Rattle.z_play.specs.declared.recent.Slot.{Slot}
use Rattle.z_play.specs.declared.recent.Recent.{Recent}

-- The instruction of a slot stands at its address, in code that begins at a base.
pub record IsRight (base : ℕ) (bytes : List ℕ) (slot : Slot) : Type 0 where
  pub from : base ≤ slot.at
  pub stands : IsInstruction player_rows bytes slot.at slot.found.op slot.found.end
  pub is : op_at player_rows bytes slot.at ≡ Ok slot.found
  pub within : slot.found.end ≤ length bytes

-- A slot at a place is right, if it is the place of the slot's address.
abbrev pub Recalls : ℕ → List ℕ → ℕ → Slot → Type 0
Recalls base bytes place slot = slot.at % 4096 ≡ place → IsRight base bytes slot

-- Each slot at the place of its address is right, for code from this base on in these bytes.
pub record IsRecent (base : ℕ) (bytes : List ℕ) (recent : Recent) : Type 0 where
  pub size : length recent.slots.items ≡ 4097
  pub each : (place : ℕ) (d : Slot) → place < length recent.slots.items → Recalls base bytes place (slice_index_or recent.slots.items place d)

-- The slot at a place holds what stands at an address.
pub record IsFound (bytes : List ℕ) (pc : ℕ) (recent : Recent) (place : ℕ) : Type 0 where
  pub slot : Slot
  pub there : slice_get recent.slots.items place ≡ Some slot
  pub is : op_at player_rows bytes pc ≡ Ok slot.found
  pub within : slot.found.end ≤ length bytes
