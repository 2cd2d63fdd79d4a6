use Rattle.dg_words.proofs.ClassLemmas.{Digits}
use Rattle.dg_words.proofs.classes.number_of.Given as goal

abbrev pub invariant-digits : goal.invariant-digits
invariant-digits l = Digits l.spelling l.letter-index l.number
