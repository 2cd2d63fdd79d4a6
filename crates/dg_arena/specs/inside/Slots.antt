-- The slots of new variables.
use Rattle.std.specs.Prelude.{ℕ, zero, suc, List, [], ◌∷◌}
use Rattle.dg_unify.specs.declared.slots.Slot.{Slot}
use Rattle.dg_unify.specs.declared.slots.Slot.TheVariants as slot

-- So many variables, numbered from this on.
abbrev pub var_slots : ℕ → ℕ → List Slot
var_slots n zero = []
var_slots n (suc k) = slot.Var n ∷ var_slots (suc n) k
