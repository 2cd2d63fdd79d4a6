use Rattle.std.proofs.Common.{ap, arith, Some}
use Rattle.dg_words.proofs.CharLemmas.{starts_at, no_character}
use Rattle.dg_words.proofs.chars.last_char.Goals as goal

pub returns-then-end-eq0-clause-start : goal.returns-then-end-eq0-clause-start
returns-then-end-eq0-clause-start c = λ before k is. absurd (no_character c.args.spelling.now before k c.args.end c.if-end-eq0.true is)

pub returns-clause-start : goal.returns-clause-start
returns-clause-start c = λ before k is. ap Some (starts_at c.args.spelling.now before k c.args.end c.char_start.result c.requires (omega arith) is c.char_start.ensures)
