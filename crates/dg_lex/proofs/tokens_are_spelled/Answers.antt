use Rattle.dg_lex.proofs.LexedLemmas.{lexed_spelled}
use Rattle.dg_lex.proofs.tokens_are_spelled.Goals as goal

pub returns : goal.returns
returns c = lexed_spelled
