use Rattle.std.proofs.Common.{ap, sym, refl, ◌∙◌, option_copied}
use Rattle.dg_unify.proofs.KnownLemmas.{equal_self, equal_on}
use Rattle.dg_unify.proofs.known.Known.end_of.Goals as goal

pub steps-init : goal.steps-init
steps-init c = λ s h at_in. equal_self s c.args.at c.args.at at_in refl

pub returns-in-None : goal.returns-in-None
returns-in-None c = c.steps.invariant

pub steps-preserved : goal.steps-preserved
steps-preserved c = λ s h at_in.
    equal_on s c.args.at c.steps.end c.in-Some.next.now (c.steps.invariant s h at_in) (h.nexts c.steps.end.0 c.in-Some.next.now (sym c.get.ensures.value ∙ ap option_copied c.in-Some.is))

pub returns : goal.returns
returns c = c.steps.invariant
