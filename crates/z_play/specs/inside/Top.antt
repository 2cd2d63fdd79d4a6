-- The word on top of the routine's stack (Z-Machine Standard 1.1, section 6.3).
use Rattle.std.specs.Prelude.{ℕ, Result, Ok}
use Rattle.z_model.specs.declared.fault.ZFault.{ZFault}
use Rattle.z_model.specs.Decode.{◌>>=◌}
use Rattle.z_model.specs.Machine.{Machine, popped}

abbrev pub top_of : Machine → Result ℕ ZFault
top_of m = popped m >>= λ p. Ok p.0
