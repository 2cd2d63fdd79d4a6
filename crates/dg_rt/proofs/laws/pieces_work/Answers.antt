use Rattle.dg_rt.proofs.Lettering as lettering
use Rattle.dg_rt.proofs.Marks as marks
use Rattle.dg_rt.proofs.laws.pieces_work.Goals as goal

pub returns : goal.returns
returns c = record { mark = marks.mark_works; number = marks.number_works; letters = lettering.letters_work }
