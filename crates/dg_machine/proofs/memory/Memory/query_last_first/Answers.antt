use Rattle.std.proofs.Common.{sym, subst}
use Rattle.dg_mid.specs.Step.{setting, queries_last}
use Rattle.dg_machine.specs.Standing.{Stands}
use Rattle.dg_machine.specs.declared.now.Now.TheVariants.{Fails}
use Rattle.dg_machine.proofs.memory.Memory.query_last_first.Goals as goal

pub enter_last_body-requires-clause-closure : goal.enter_last_body-requires-clause-closure
enter_last_body-requires-clause-closure c =
    let some = c.requires.some in
    let args = c.requires.args in
    let x = c.in-Some.ensures some.0 some.1 args.0 args.1 some.2 args.2 in
    (x.0, x.1, x.3)

pub returns-in-None : goal.returns-in-None
returns-in-None c g l m v us h refs =
    subst (λ t. Stands c.args.code.now l c.args.self.now Fails (queries_last (setting g c.args.code.now l) t us c.args.many m)) (sym (c.in-None.ensures l m v us h refs)) h

pub returns-in-Some : goal.returns-in-Some
returns-in-Some c g l m v us h refs =
    let x = c.in-Some.ensures l m v us h refs in
    subst (λ t. Stands c.args.code.now l c.enter_last_body.new.self c.enter_last_body.result (queries_last (setting g c.args.code.now l) t us c.args.many m)) (sym x.2)
    (c.enter_last_body.ensures g l m v us x.0 x.1 h refs x.3)
