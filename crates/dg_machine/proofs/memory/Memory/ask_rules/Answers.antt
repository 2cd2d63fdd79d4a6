use Rattle.std.proofs.Common.{sym, ap, length, ◌∙◌, subst}
use Rattle.dg_mid.specs.Code.{rules_at}
use Rattle.dg_machine.specs.Passing.{codes_from}
use Rattle.dg_machine.proofs.Leaving.{asked_all}
use Rattle.dg_mid.proofs.RulesLeft.{EndsIn}
use Rattle.dg_machine.proofs.PassedRules.{are_last, passed_end}
use Rattle.dg_machine.proofs.memory.Memory.ask_rules.Goals as goal

pub call_first-requires-clause-there : goal.call_first-requires-clause-there
call_first-requires-clause-there c =
    let all = rules_at c.args.code.now c.args.pred in
    let first = c.first_argument-first.result in
    let is = c.pass-rules.ensures ∙ ap (codes_from first) c.rules_of.ensures in
    (are_last c.args.code.now c.args.pred c.pass-rules.result.now (subst (EndsIn all) (sym is) (passed_end first all))).there

pub call_first-requires-clause-rules : goal.call_first-requires-clause-rules
call_first-requires-clause-rules c =
    let all = rules_at c.args.code.now c.args.pred in
    let first = c.first_argument-first.result in
    let is = c.pass-rules.ensures ∙ ap (codes_from first) c.rules_of.ensures in
    (are_last c.args.code.now c.args.pred c.pass-rules.result.now (subst (EndsIn all) (sym is) (passed_end first all))).are

pub returns : goal.returns
returns c g l m vs h refs =
    let first = c.first_argument-first.result in
    asked_all c.args.code.now g l c.args.pred c.args.next (length c.pass-rules.result.now) c.heap-cut.result c.args.many vs first m c.args.self.now c.call_first.new.self c.call_first.result h refs c.first_argument-first.ensures
    (ap length (c.pass-rules.ensures ∙ ap (codes_from first) c.rules_of.ensures)) c.heap-cut.ensures c.call_first.ensures
