use Rattle.dg_lex.proofs.One.{tokens_one}
use Rattle.dg_lex.specs.Tokens.{without_mark}
use Rattle.dg_lex.proofs.tokens_are_one.Goals as goal

pub returns : goal.returns
returns c = λ source ts us h k. tokens_one _ _ (without_mark source) ts us h k
