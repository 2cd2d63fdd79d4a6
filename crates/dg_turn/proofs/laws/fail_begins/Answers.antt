use Rattle.dg_turn.proofs.Begun as begun
use Rattle.dg_turn.proofs.laws.fail_begins.Goals as goal

pub returns : goal.returns
returns c = λ t plays blocks out m x xs call rules z e way ordered few r. begun.fail_begins t plays blocks out m x xs call rules z e way ordered few r
