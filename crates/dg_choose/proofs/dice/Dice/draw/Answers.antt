use Rattle.std.proofs.Common.{length, ap}
use Rattle.dg_choose.proofs.Turns.{turned}
use Rattle.dg_choose.proofs.dice.Dice.draw.Goals as goal

pub returns-clause-drawn : goal.returns-clause-drawn
returns-clause-drawn c words n h = record { words = h.words; place = turned c.args.self.now.at n _ (length words) h.place (ap length h.words) }
