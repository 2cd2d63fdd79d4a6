use Rattle.std.proofs.Common.{rules}
use Rattle.dg_lex.proofs.bad.is_bad.Goals as goal

pub returns-else-c-eq92 : goal.returns-else-c-eq92
returns-else-c-eq92 c = search rules
