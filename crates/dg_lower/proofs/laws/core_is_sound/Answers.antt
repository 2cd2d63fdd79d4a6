use Rattle.dg_lower.proofs.CoreLemmas.{lowered_sound}
use Rattle.dg_lower.proofs.EntryLemmas.{entry_printable}
use Rattle.dg_lower.proofs.laws.core_is_sound.Goals as goal

pub returns : goal.returns
returns c = lowered_sound (record { kind = c.declared_values_fit.ensures.kind; value = λ names items g ps v vs. c.declared_values_fit.ensures.value names items ps v vs g })
    (record { rules = c.initial_cores_are_sound.ensures.rules; sound = c.rules_may_be_lost.ensures.sound }) entry_printable
