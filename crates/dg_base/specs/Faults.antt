-- What a call that reads answers in place of its result.
use Rattle.dg_base.specs.declared.refusal.Refusal.{Refusal}
use Rattle.dg_base.specs.declared.refusal.ReadFault.{ReadFault}
use Rattle.dg_base.specs.declared.refusal.ReadFault.TheVariants.{Refused, OutOfMemory}

-- memory ran out, or this holds of the refusal that is answered
abbrev pub IsFault : (Refusal → Type 0) → ReadFault → Type 0
IsFault P (Refused refusal) = P refusal
IsFault P OutOfMemory = Unit {0}
