use Rattle.std.proofs.Common.{sym, ap, ◌∙◌, subst, arith, length}
use Rattle.dg_mid.specs.Step.{setting, begins}
use Rattle.dg_machine.specs.Layout.{last_rules}
use Rattle.dg_machine.specs.Standing.{CallBegins}
use Rattle.dg_machine.proofs.Leaving.{slice_is}
use Rattle.dg_machine.proofs.PassedRules.{last_count}
use Rattle.dg_machine.proofs.memory.Memory.call.Goals as goal

pub call_first-requires-clause-there : goal.call_first-requires-clause-there
call_first-requires-clause-there c =
    let code = c.args.code.now in
    let all = c.rules_of-all.result.now in
    let slice = slice_is code c.args.pred c.args.left all c.rules_of-all.ensures c.requires.there in
    omega (arith, ap length slice, last_count code c.args.pred c.args.left c.requires.there, c.requires.there)

pub call_first-requires-clause-rules : goal.call_first-requires-clause-rules
call_first-requires-clause-rules c =
    let code = c.args.code.now in
    let all = c.rules_of-all.result.now in
    let slice = slice_is code c.args.pred c.args.left all c.rules_of-all.ensures c.requires.there in
    let count = ap length slice ∙ last_count code c.args.pred c.args.left c.requires.there in
    slice ∙ ap (last_rules code c.args.pred) (sym count)

pub returns : goal.returns
returns c g l m call rules h at =
    let code = c.args.code.now in
    let all = c.rules_of-all.result.now in
    let slice = slice_is code c.args.pred c.args.left all c.rules_of-all.ensures c.requires.there in
    let count = ap length slice ∙ last_count code c.args.pred c.args.left c.requires.there in
    subst (λ n. CallBegins code l c.args.self.now c.args.call c.args.pred n c.call_first.new.self c.call_first.result (begins (setting g code l) call rules m)) count
    (c.call_first.ensures g l m call rules h (record { call = at.call; there = omega (arith, count, at.there); rules_are = at.rules_are ∙ ap (last_rules code c.args.pred) (sym count) }))
