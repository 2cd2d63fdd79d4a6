use Rattle.dg_lex.proofs.TextLemmas.{name_from}
use Rattle.dg_lex.proofs.spelled_texts_are_names.Goals as goal

pub returns : goal.returns
returns c = name_from
