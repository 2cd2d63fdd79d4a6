use Rattle.std.proofs.Common.{sym, subst, ap, ◌∙◌, ◌≡◌, ◌∷◌, false, take, drop, length, ◌-◌}
use Rattle.dg_mid.specs.Step.{at_goal, is_goal}
use Rattle.dg_machine.specs.inside.Running.{rests, DoesMarks}
use Rattle.dg_machine.proofs.Leaving.{split_list}
use Rattle.dg_machine.proofs.Goals.{marks_run, marks_keep, quiet_mark_op, marks_enter, marks_resume, marks_leave}
use Rattle.dg_machine.proofs.Failing.{not_failing}
use Rattle.dg_machine.proofs.steps.mark_step.Goals as goal

pub returns-in_default-op-clause-done : goal.returns-in_default-op-clause-done
returns-in_default-op-clause-done c =
    let all = c.in-Runs.ops.now in
    let rest = take (length all - 1) (drop 1 all) in
    let split = split_list all c.op-item.result c.in-len1-up.len_at_least c.op-item.is in
    let mark : is_goal c.op-item.result ≡ false = sym (ap at_goal split) ∙ ap rests (sym c.in-Runs.is) ∙ c.requires.mark in
    subst (λ n. DoesMarks c.args.tables.now c.args.code.now c.args.memory.now c.args.lasting.now n c.do_mark.new.memory c.args.lasting.now c.do_mark.result) (sym c.in-Runs.is)
    (marks_run c.args.tables.now c.args.code.now c.args.memory.now c.do_mark.new.memory c.args.lasting.now c.do_mark.result c.in-Runs.ops c.op-item.result rest split mark (quiet_mark_op c.op-item.result mark c.in_default-op.not-Keep) c.do_mark.ensures)

pub returns-in-Keep-clause-done : goal.returns-in-Keep-clause-done
returns-in-Keep-clause-done c =
    let all = c.in-Runs.ops.now in
    let rest = take (length all - 1) (drop 1 all) in
    let split = split_list all c.op-item.result c.in-len1-up.len_at_least c.op-item.is ∙ ap (λ x. x ∷ rest) c.in-Keep.is in
    subst (λ n. DoesMarks c.args.tables.now c.args.code.now c.args.memory.now c.args.lasting.now n c.keep.new.self c.keep.new.lasting c.keep.result) (sym c.in-Runs.is)
    (marks_keep c.args.tables.now c.args.code.now c.args.memory.now c.keep.new.self c.args.lasting.now c.keep.new.lasting c.keep.result c.in-Runs.ops c.in-Keep.field-0 rest split (c.keep.ensures.keeps c.args.code.now))

pub returns-in-Enters-clause-done : goal.returns-in-Enters-clause-done
returns-in-Enters-clause-done c =
    subst (λ n. DoesMarks c.args.tables.now c.args.code.now c.args.memory.now c.args.lasting.now n c.enter_rule.new.self c.args.lasting.now c.enter_rule.result) (sym c.in-Enters.is)
    (marks_enter c.args.tables.now c.args.code.now c.args.memory.now c.enter_rule.new.self c.args.lasting.now c.enter_rule.result c.in-Enters.ops (c.enter_rule.ensures c.args.code.now))

pub returns-in-Resumes-clause-done : goal.returns-in-Resumes-clause-done
returns-in-Resumes-clause-done c =
    subst (λ n. DoesMarks c.args.tables.now c.args.code.now c.args.memory.now c.args.lasting.now n c.go_on.new.self c.go_on.new.lasting c.go_on.result) (sym c.in-Resumes.is)
    (marks_resume c.args.tables.now c.args.code.now c.args.memory.now c.go_on.new.self c.args.lasting.now c.go_on.new.lasting c.go_on.result c.go_on.ensures.goes_on)

pub returns-in-Leaves-clause-done : goal.returns-in-Leaves-clause-done
returns-in-Leaves-clause-done c =
    subst (λ n. DoesMarks c.args.tables.now c.args.code.now c.args.memory.now c.args.lasting.now n c.leave_around.new.self c.args.lasting.now c.leave_around.result) (sym c.in-Leaves.is)
    (marks_leave c.args.tables.now c.args.code.now c.args.memory.now c.leave_around.new.self c.args.lasting.now c.leave_around.result c.in-Leaves.height c.in-Leaves.ops (c.leave_around.ensures c.args.code.now))

pub returns-in_default-clause-done : goal.returns-in_default-clause-done
returns-in_default-clause-done c = absurd (not_failing c.args.now c.requires.mark c.requires.on c.in_default.not-Runs c.in_default.not-Enters c.in_default.not-Resumes c.in_default.not-Leaves)
