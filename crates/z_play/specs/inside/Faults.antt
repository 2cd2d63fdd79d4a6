-- The fault of a step that is only tried.
use Rattle.std.specs.Prelude.{Option, Some, None, Result, Ok, Err}
use Rattle.z_model.specs.declared.fault.ZFault.{ZFault}

abbrev pub fault_of : {A : Type 0} → Result A ZFault → Option ZFault
fault_of (Ok x) = None
fault_of (Err fault) = Some fault
