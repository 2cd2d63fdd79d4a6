use Rattle.std.proofs.Common.{sym, subst}
use Rattle.dg_mid.specs.Heads.{FlatTerms}
use Rattle.dg_machine.specs.Standing.{comes_to, EntersIn}
use Rattle.dg_machine.proofs.memory.Memory.enter.Goals as goal

pub enter_flat-requires-clause-flat : goal.enter_flat-requires-clause-flat
enter_flat-requires-clause-flat c = subst (λ ts. FlatTerms ts c.in-Some.cells) (sym c.terms-terms.ensures) c.in-Some.ensures

pub returns-in-Some : goal.returns-in-Some
returns-in-Some c code rest =
    let r = c.args.self.now in
    subst (λ ts. EntersIn c.args.tables.now code r r.call c.args.vars ts rest.now c.enter_flat.new.self (comes_to c.enter_flat.result rest)) c.terms-terms.ensures
    (c.enter_flat.ensures c.args.tables.now code rest)

pub returns-in-None : goal.returns-in-None
returns-in-None c code rest =
    let r = c.args.self.now in
    subst (λ ts. EntersIn c.args.tables.now code r r.call c.args.vars ts rest.now c.enter_written.new.self (comes_to c.enter_written.result rest)) c.terms-terms.ensures
    (c.enter_written.ensures code rest)
