use Rattle.std.proofs.Common.{sym, subst}
use Rattle.dg_machine.specs.Standing.{DoesMark}
use Rattle.dg_machine.proofs.steps.do_mark.Goals as goal

pub returns-in-Commit : goal.returns-in-Commit
returns-in-Commit c = subst (λ x. DoesMark c.args.code.now c.args.memory.now c.args.ops x c.args.rest.now c.commit.new.self c.commit.result) (sym c.in-Commit.is) (c.commit.ensures c.args.code.now)

pub returns-in-Refuse : goal.returns-in-Refuse
returns-in-Refuse c = subst (λ x. DoesMark c.args.code.now c.args.memory.now c.args.ops x c.args.rest.now c.refuse.new.self c.refuse.result) (sym c.in-Refuse.is) (c.refuse.ensures c.args.code.now)

pub returns-in-Return : goal.returns-in-Return
returns-in-Return c = subst (λ x. DoesMark c.args.code.now c.args.memory.now c.args.ops x c.args.rest.now c.answer.new.self c.answer.result) (sym c.in-Return.is) c.answer.ensures

pub returns-in-Leave : goal.returns-in-Leave
returns-in-Leave c = subst (λ x. DoesMark c.args.code.now c.args.memory.now c.args.ops x c.args.rest.now c.leave.new.self c.leave.result) (sym c.in-Leave.is) (c.leave.ensures c.args.code.now)
