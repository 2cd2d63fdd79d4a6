use Rattle.std.proofs.Common.{true, refl, ap, ◌-◌}
use Rattle.dg_interp.specs.Asking.{question}
use Rattle.dg_interp.proofs.Asked.{value_came}
use Rattle.dg_interp.proofs.asking.value_of.Goals as goal

pub returns : goal.returns
returns c =
    value_came c.args.program.now c.args.pred _ c.in-Some.thing 4294967295 c.args.object c.in_ok-terms.field-0 c.in_ok-terms-2.field-0 c.in_ok-found.world c.value.result c.in_ok-found.found c.requires.last (ap (λ n. n - 1) c.len.ensures) c.in-Some.is c.in_ok-terms.ensures c.in_ok-terms-2.ensures
    c.value.ensures c.in-Answered.is (c.in_ok-found.ensures (question c.args.pred c.args.object true) refl)
