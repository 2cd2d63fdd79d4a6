use Rattle.dg_base.proofs.CausesLemmas.{rose_earlier, rose_later}
use Rattle.dg_base.proofs.laws.faults_last.Goals as goal

pub returns : goal.returns
returns c = λ first before now last. record { rises = λ from rose to. rose_later first now last (rose_earlier first before now from rose) to }
