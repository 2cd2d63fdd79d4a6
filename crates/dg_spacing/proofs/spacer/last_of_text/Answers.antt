use Rattle.std.proofs.Common.{arith}
use Rattle.dg_spacing.proofs.GapLemmas.{last_long}
use Rattle.dg_spacing.proofs.spacer.last_of_text.Goals as goal

pub returns-in-len2-up : goal.returns-in-len2-up
returns-in-len2-up c = last_long c.args.last c.args.upper c.args.piece.now (omega arith)
