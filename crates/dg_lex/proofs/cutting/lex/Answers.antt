use Rattle.std.proofs.Common.{rules}
use Rattle.dg_lex.proofs.cutting.lex.Goals as goal

pub returns-in-Some-clause-memory : goal.returns-in-Some-clause-memory
returns-in-Some-clause-memory c = search rules
