use Rattle.std.proofs.Common.{◌∷◌, ◌-◌, take, drop, length, refl, ap, ◌∙◌, subst}
use Rattle.dg_base.specs.declared.run.Limits.{Limits}
use Rattle.dg_mid.specs.State.{Mid}
use Rattle.dg_machine.specs.Built.{OpsBuilt}
use Rattle.dg_machine.specs.Layout.{Holds, Roomy}
use Rattle.dg_machine.proofs.Lines.{err_at}
use Rattle.dg_machine.proofs.Leaving.{split_list}
use Rattle.dg_machine.proofs.Readings.{goes_unread, loses_unread, none_first}
use Rattle.dg_machine.proofs.Selects.{keeps_sites}
use Rattle.dg_machine.proofs.steps.next_goal.Goals as goal

pub read_line-requires-clause-some : goal.read_line-requires-clause-some
read_line-requires-clause-some g c = let some = c.requires.some in (c.args.code.now, some.0, some.1, some.2)

pub read_line-requires-clause-whole : goal.read_line-requires-clause-whole
read_line-requires-clause-whole g c =
    let all = c.args.ops.now in
    split_list all c.op-item.result c.in-len1-up.len_at_least c.op-item.is ∙ ap (λ x. x ∷ take (length all - 1) (drop 1 all)) c.in-Some.ensures

pub read_line-requires-clause-built : goal.read_line-requires-clause-built
read_line-requires-clause-built g c =
    let all = c.args.ops.now in
    (subst OpsBuilt (split_list all c.op-item.result c.in-len1-up.len_at_least c.op-item.is) c.requires.ops_built).1

pub returns-in-Some-clause-ok : goal.returns-in-Some-clause-ok
returns-in-Some-clause-ok g c = c.read_line.ensures.ok c.args.code.now c.args.lasting.now

pub returns-in-Some-clause-err : goal.returns-in-Some-clause-err
returns-in-Some-clause-err g c = c.read_line.ensures.err c.args.code.now

pub returns-in-Some-clause-roomy : goal.returns-in-Some-clause-roomy
returns-in-Some-clause-roomy g c = err_at (λ code. (l : Limits) (m : Mid) → Holds code l c.args.memory.now m → Roomy l c.read_line.new.memory) c.args.code.now c.read_line.result c.read_line.ensures.roomy

pub returns-in-Some-clause-once : goal.returns-in-Some-clause-once
returns-in-Some-clause-once g c = keeps_sites c.args.lasting.now c.args.lasting.now refl

pub goal_step-requires-clause-unread : goal.goal_step-requires-clause-unread
goal_step-requires-clause-unread g c =
    let all = c.args.ops.now in
    none_first all c.op-item.result (take (length all - 1) (drop 1 all)) (split_list all c.op-item.result c.in-len1-up.len_at_least c.op-item.is) c.in-None.ensures

pub returns-in-Ok-clause-ok : goal.returns-in-Ok-clause-ok
returns-in-Ok-clause-ok g c =
    let all = c.args.ops.now in
    goes_unread c.args.tables.now c.args.code.now c.args.memory.now c.args.lasting.now c.args.ops.now c.goal_step.new.memory c.goal_step.new.lasting c.in-Ok.now c.args.spacer.now c.goal_step.new.spacer (g.K.Sink.view c.args.sink.now) (g.K.Sink.view c.goal_step.new.sink) (g.S.Source.view c.args.source.now)
    (none_first all c.op-item.result (take (length all - 1) (drop 1 all)) (split_list all c.op-item.result c.in-len1-up.len_at_least c.op-item.is) c.in-None.ensures) c.in-Ok.ensures.ok

pub returns-in-Err-clause-err : goal.returns-in-Err-clause-err
returns-in-Err-clause-err g c =
    let all = c.args.ops.now in
    loses_unread c.args.tables.now c.args.code.now c.args.memory.now c.args.ops.now c.args.spacer.now (g.K.Sink.view c.args.sink.now) (g.K.Sink.view c.goal_step.new.sink) (g.S.Source.view c.args.source.now)
    (none_first all c.op-item.result (take (length all - 1) (drop 1 all)) (split_list all c.op-item.result c.in-len1-up.len_at_least c.op-item.is) c.in-None.ensures) c.in-Err.ensures.err
