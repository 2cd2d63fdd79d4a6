-- What was decoded of the code stays right, since no instruction changes the code.
use Rattle.std.proofs.Common.{◌≡◌, ◌≤◌, ℕ, List, [], length, get_or, None, Ok, Fits, w8, sym, subst, arith}
use Rattle.std.proofs.lemmas.Option.{get_or_from_slice_get}
use Rattle.z_model.specs.declared.op.Found.{Found}
use Rattle.z_model.specs.Decode.{op_at}
use Rattle.z_model.specs.Spelling.{AreBytes, Again}
use Rattle.z_model.specs.declared.story.Layout.{Layout}
use Rattle.z_model.specs.Table.{player_rows}
use Rattle.z_model.specs.Machine.{Machine}
use Rattle.z_model.specs.Laws.{KeepsCode, CodeStays, StandsOn, state_behind}
use Rattle.z_model.specs.Run.{ZGiven, Next}
use Rattle.z_play.specs.inside.Scene.{Scene, state, Came}
use Rattle.z_play.specs.inside.Advancing.{next_from}
use Rattle.z_play.specs.inside.Recent.{IsRight, IsRecent}
use Rattle.z_play.specs.declared.recent.Slot.{Slot}
use Rattle.z_play.specs.declared.recent.Recent.{Recent}

are_bytes : (bytes : List ℕ) → ((i : ℕ) → Fits w8 (get_or bytes i 0)) → AreBytes bytes
are_bytes bytes fits i b e = let is = get_or_from_slice_get bytes i b 0 e in let fit = fits i in omega arith

-- what was decoded in the code is right there
pub right_of : (base : ℕ) (bytes : List ℕ) (pc : ℕ) (found : Found) → Again player_rows bytes pc → ((i : ℕ) → Fits w8 (get_or bytes i 0)) → base ≤ pc →
    op_at player_rows bytes pc ≡ Ok found → found.end ≤ length bytes → IsRight base bytes (record { at = pc; found = found })
right_of base bytes pc found law fits from is within =
    record { from = from; stands = law.there (are_bytes bytes fits) found.row found.op found.end is; is = is; within = within }

module _ (layout : Layout) (old new : List ℕ) (kept : KeepsCode layout old new) (on : StandsOn layout old new) where
  slot_on : (slot : Slot) → IsRight layout.base old slot → IsRight layout.base new slot
  slot_on slot right = record {
    from = right.from;
    stands = on.instruction player_rows slot.at slot.found.op slot.found.end right.from right.stands;
    is = on.decoded player_rows slot.at slot.found right.from right.stands right.is;
    within = subst (λ (n : ℕ). slot.found.end ≤ n) (sym kept.size) right.within;
  }

  pub recent_on : (recent : Recent) → IsRecent layout.base old recent → IsRecent layout.base new recent
  recent_on recent is = record { size = is.size; each = λ k d lt there. slot_on (get_or recent.slots.items k d) (is.each k d lt there) }

-- an instruction behind which the run goes on keeps the code
pub came_keeps : (w : ZGiven) (old new : Scene) (typed : List ℕ) → CodeStays w (state old.machine typed old.drawn []) →
    Came (next_from w old typed) None old new → KeepsCode w.layout old.machine.memory new.machine.memory
came_keeps w old new typed law came =
    let step = subst (λ (next : Next). KeepsCode w.layout old.machine.memory (state_behind next).machine.memory) (came.is []) law.step in
    subst (λ (m : Machine). KeepsCode w.layout old.machine.memory m.memory) came.same step
