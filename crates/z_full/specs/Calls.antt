-- What a call that may fail makes of memory.
use Rattle.std.specs.Prelude.{◌≡◌, Result, Ok, Err}
use Rattle.z_model.specs.declared.fault.ZFault.{ZFault}
use Rattle.z_model.specs.Memory.{Memory}

-- It is what the definitions give, or their fault.
abbrev pub Sets : {X Y : Type 0} → Result X ZFault → Y → Result Y ZFault → Type 0
Sets (Ok x) new given = given ≡ Ok new
Sets (Err fault) new given = given ≡ Err fault

-- The same, where a fault changes nothing.
abbrev pub Becomes : {X Y : Type 0} → Result X ZFault → Y → Y → Result Y ZFault → Type 0
Becomes (Ok x) old new given = given ≡ Ok new
Becomes (Err fault) old new given = (given ≡ Err fault) × (new ≡ old)

-- What may be read and written stays, also where a call fails.
pub record SameRights (old new : Memory) : Type 0 where
  pub reads : new.may_read ≡ old.may_read
  pub writes : new.may_write ≡ old.may_write
