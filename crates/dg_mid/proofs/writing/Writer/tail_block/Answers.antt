use Rattle.std.proofs.Common.{sym, subst}
use Rattle.dg_mid.specs.Writing.{EndsAt}
use Rattle.dg_mid.proofs.Selecting.{tail_lands, tail_is}
use Rattle.dg_mid.proofs.writing.Writer.tail_block.Goals as goal

pub returns-in_ok-block-in-None-clause-lands : goal.returns-in_ok-block-in-None-clause-lands
returns-in_ok-block-in-None-clause-lands c =
    subst (λ t. EndsAt c.args.self.now.blocks c.block.new.self.blocks t c.in_ok-block-in-None.field-0) (sym c.in-None.is)
    (tail_lands c.args.self.now.blocks c.block.new.self.blocks c.in_ok-answer-in-None.answer.items c.in_ok-block-in-None.field-0 c.in_ok-answer-in-None.ensures c.in_ok-block-in-None.ensures.made c.in_ok-block-in-None.ensures.number)

pub returns-in-Some-clause-lands : goal.returns-in-Some-clause-lands
returns-in-Some-clause-lands c = subst (λ t. EndsAt c.args.self.now.blocks c.args.self.now.blocks t c.in-Some.b) (sym c.in-Some.is) (tail_is c.args.self.now.blocks c.in-Some.b)
