use Rattle.std.proofs.Common.{sym, subst, ap, ◌∙◌}
use Rattle.dg_machine.specs.Standing.{DoesOp}
use Rattle.dg_mid.specs.declared.code.Op.TheVariants as op
use Rattle.dg_machine.proofs.steps.do_quiet.Goals as goal

pub returns-in-Ask : goal.returns-in-Ask
returns-in-Ask c =
    let x = c.in-Ask in
    subst (λ y. DoesOp c.args.tables.now c.args.code.now c.args.memory.now y c.args.rest.now c.ask.new.self c.ask.result) (sym (x.is ∙ ap (λ ts. op.Ask x.pred ts x.many x.next) (sym c.as_slice.ensures))) (c.ask.ensures c.args.rest.now)

pub returns-in-LastAsk : goal.returns-in-LastAsk
returns-in-LastAsk c =
    let x = c.in-LastAsk in
    subst (λ y. DoesOp c.args.tables.now c.args.code.now c.args.memory.now y c.args.rest.now c.ask_last.new.self c.ask_last.result) (sym (x.is ∙ ap (λ ts. op.LastAsk x.pred ts x.many) (sym c.as_slice-in-LastAsk.ensures))) (c.ask_last.ensures c.args.rest.now)

pub returns-in-Branch : goal.returns-in-Branch
returns-in-Branch c = subst (λ x. DoesOp c.args.tables.now c.args.code.now c.args.memory.now x c.args.rest.now c.branch-memory.new.self c.branch-memory.result) (sym c.in-Branch.is) (c.branch-memory.ensures c.args.tables.now c.args.code.now)

pub returns-in-Once : goal.returns-in-Once
returns-in-Once c = subst (λ x. DoesOp c.args.tables.now c.args.code.now c.args.memory.now x c.args.rest.now c.once.new.self c.once.result) (sym c.in-Once.is) (c.once.ensures c.args.tables.now c.args.code.now)

pub returns-in-Try : goal.returns-in-Try
returns-in-Try c = subst (λ x. DoesOp c.args.tables.now c.args.code.now c.args.memory.now x c.args.rest.now c.attempt.new.self c.attempt.result) (sym c.in-Try.is) (c.attempt.ensures c.args.tables.now c.args.code.now)

pub returns-in-Query : goal.returns-in-Query
returns-in-Query c = subst (λ y. DoesOp c.args.tables.now c.args.code.now c.args.memory.now y c.args.rest.now c.query.new.self c.query.result) (sym c.in-Query.is) (c.query.ensures c.args.rest.now)

pub returns-in-LastQuery : goal.returns-in-LastQuery
returns-in-LastQuery c = subst (λ y. DoesOp c.args.tables.now c.args.code.now c.args.memory.now y c.args.rest.now c.query_last.new.self c.query_last.result) (sym c.in-LastQuery.is) (c.query_last.ensures c.args.rest.now)

pub returns-in-Shield : goal.returns-in-Shield
returns-in-Shield c = subst (λ x. DoesOp c.args.tables.now c.args.code.now c.args.memory.now x c.args.rest.now c.shield.new.self c.shield.result) (sym c.in-Shield.is) (c.shield.ensures c.args.tables.now c.args.code.now)
