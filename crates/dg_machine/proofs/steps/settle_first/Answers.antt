use Rattle.std.proofs.Common.{refl}
use Rattle.dg_machine.proofs.Failing.{settled_then}
use Rattle.dg_machine.proofs.Turns.{somewhere_settled, end_rests}
use Rattle.dg_machine.proofs.steps.settle_first.Goals as goal

pub answers-requires-clause-some : goal.answers-requires-clause-some
answers-requires-clause-some c =
    let some = c.requires.some in
    (some.0, somewhere_settled c.args.tables.now c.args.code.now c.args.memory.now c.enter_first-now.new.memory some.0 some.0 c.args.now c.enter_first-now.result (c.enter_first-now.ensures.comes some.0) some.1)

pub returns-then-returns-clause-comes : goal.returns-then-returns-clause-comes
returns-then-returns-clause-comes c out =
    settled_then c.args.tables.now c.args.code.now c.args.memory.now c.enter_first-now.new.memory c.answers.new.memory out out out c.args.now c.enter_first-now.result c.answers.result (c.enter_first-now.ensures.comes out) (c.answers.ensures.comes out)

pub returns-then-returns-clause-stays : goal.returns-then-returns-clause-stays
returns-then-returns-clause-stays c end =
    let e = end_rests c.enter_first-now.result (c.enter_first-now.ensures.stays end) in
    let mark = c.if-returns.ensures.mark refl in
    absurd (cc (e, mark))
