use Rattle.std.proofs.Common.{sym, subst, ap, ◌∙◌, ◌≡◌, false, take, drop, length, ◌-◌}
use Rattle.dg_mid.specs.Step.{at_goal, is_goal}
use Rattle.dg_machine.specs.Built.{BeginsQuietly}
use Rattle.dg_machine.specs.inside.Running.{rests, IsQuick, DoesMarks}
use Rattle.dg_machine.proofs.Leaving.{split_list}
use Rattle.dg_machine.proofs.Goals.{marks_run, marks_enter}
use Rattle.dg_machine.proofs.Turns.{not_quick}
use Rattle.dg_machine.proofs.steps.quick_mark.Goals as goal

pub do_mark-requires-clause-quiet : goal.do_mark-requires-clause-quiet
do_mark-requires-clause-quiet c =
    let all = c.in-Runs.ops.now in
    subst BeginsQuietly (split_list all c.op-item.result c.in-len1-up.len_at_least c.op-item.is) (subst IsQuick c.in-Runs.is c.requires.quick)

pub returns-in-Enters : goal.returns-in-Enters
returns-in-Enters c out =
    subst (λ n. DoesMarks c.args.tables.now c.args.code.now c.args.memory.now out n c.enter_rule.new.self out c.enter_rule.result) (sym c.in-Enters.is)
    (marks_enter c.args.tables.now c.args.code.now c.args.memory.now c.enter_rule.new.self out c.enter_rule.result c.in-Enters.ops (c.enter_rule.ensures c.args.code.now))

pub returns-in-len1-up : goal.returns-in-len1-up
returns-in-len1-up c out =
    let all = c.in-Runs.ops.now in
    let rest = take (length all - 1) (drop 1 all) in
    let split = split_list all c.op-item.result c.in-len1-up.len_at_least c.op-item.is in
    let mark : is_goal c.op-item.result ≡ false = sym (ap at_goal split) ∙ ap rests (sym c.in-Runs.is) ∙ c.requires.mark in
    subst (λ n. DoesMarks c.args.tables.now c.args.code.now c.args.memory.now out n c.do_mark.new.memory out c.do_mark.result) (sym c.in-Runs.is)
    (marks_run c.args.tables.now c.args.code.now c.args.memory.now c.do_mark.new.memory out c.do_mark.result c.in-Runs.ops c.op-item.result rest split mark (subst BeginsQuietly split (subst IsQuick c.in-Runs.is c.requires.quick)) c.do_mark.ensures)

pub returns-in_default : goal.returns-in_default
returns-in_default c out = absurd (not_quick c.args.now c.requires.quick c.in_default.not-Enters c.in_default.not-Runs)
