use Rattle.dg_words.proofs.ClassLemmas.{too_large}
use Rattle.dg_words.proofs.classes.number_of.Goals as goal

pub returns-then-number-gt-GREATEST : goal.returns-then-number-gt-GREATEST
returns-then-number-gt-GREATEST c = too_large c.args.spelling.now c.digits.letter-index c.digits.number c.digits-test.true c.digits.invariant c.if-number-gt-GREATEST.true
