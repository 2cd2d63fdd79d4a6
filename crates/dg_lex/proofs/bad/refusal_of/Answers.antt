use Rattle.std.proofs.Common.{rules}
use Rattle.dg_lex.proofs.bad.refusal_of.Goals as goal

pub returns-clause-refusal : goal.returns-clause-refusal
returns-clause-refusal c = search rules
