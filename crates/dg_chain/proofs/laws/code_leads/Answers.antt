use Rattle.dg_chain.proofs.Coded as coded
use Rattle.dg_chain.proofs.laws.code_leads.Goals as goal

pub returns : goal.returns
returns c = coded.code_leads
