use Rattle.dg_words.proofs.WordLemmas.{words_again}
use Rattle.dg_words.proofs.cutting.words_are_bytes.Goals as goal

pub returns : goal.returns
returns c = words_again
