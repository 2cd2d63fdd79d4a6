use Rattle.std.proofs.Common.{sym, subst, refl}
use Rattle.dg_mid.specs.Step.{setting, queries, call_of}
use Rattle.dg_machine.specs.Standing.{Stands}
use Rattle.dg_machine.specs.declared.now.Now.TheVariants.{Fails}
use Rattle.dg_machine.proofs.Leads.{height_now}
use Rattle.dg_machine.proofs.memory.Memory.query_first.Goals as goal

pub enter_body-requires-clause-closure : goal.enter_body-requires-clause-closure
enter_body-requires-clause-closure c =
    let some = c.requires.some in
    let args = c.requires.args in
    let x = c.in-Some.ensures some.0 some.1 args.0 args.1 some.2 args.2 in
    (x.0, x.1, x.3)

pub returns-in-None : goal.returns-in-None
returns-in-None c g l m v us h refs =
    subst (λ t. Stands c.args.code.now l c.args.self.now Fails (queries (setting g c.args.code.now l) t us c.args.many c.args.next m)) (sym (c.in-None.ensures l m v us h refs)) h

pub returns-in-Some : goal.returns-in-Some
returns-in-Some c g l m v us h refs =
    let x = c.in-Some.ensures l m v us h refs in
    subst (λ t. Stands c.args.code.now l c.enter_body.new.self c.enter_body.result (queries (setting g c.args.code.now l) t us c.args.many c.args.next m)) (sym x.2)
    (c.enter_body.ensures g l m (call_of us c.args.many c.args.next m) v x.0 x.1 h refs refl refl (height_now c.args.code.now l m c.args.self.now c.heap-cut.result h c.heap-cut.ensures) x.3)
