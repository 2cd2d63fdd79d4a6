use Rattle.dg_mid.proofs.Charge.{in_time}
use Rattle.dg_mid.proofs.Selects.{looks_in_time}
use Rattle.dg_mid.proofs.laws.code_costs_its_work.Goals as goal

pub returns-clause-cost : goal.returns-clause-cost
returns-clause-cost c g code limits codes tidy typed k = in_time g code limits codes tidy typed k

pub returns-clause-looks : goal.returns-clause-looks
returns-clause-looks c g code limits codes tidy typed k = looks_in_time g code limits codes tidy typed k
