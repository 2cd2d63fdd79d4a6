use Rattle.std.proofs.Common.{sym, ◌∙◌, ap, arith}
use Rattle.dg_reader.specs.inside.Sizes.{all_constant, work}
use Rattle.dg_reader.proofs.HeadLemmas.{all_constant_push, work_push, no_fit, fit}
use Rattle.dg_reader.proofs.heads.is_constant.Goals as goal

pub returns-then-not-branch-2 : goal.returns-then-not-branch-2
returns-then-not-branch-2 c = no_fit _ _ _ c.if-not-branch-2.true c.in_ok-take_first.ensures.fits ∙ sym (ap all_constant c.in-Some.ensures.items ∙ all_constant_push c.pop.new.self.items c.in-Some.values) ∙ c.loop-values.invariant

pub loop-values-smaller : goal.loop-values-smaller
loop-values-smaller c =
    let popped = ap work c.in-Some.ensures.items ∙ work_push c.pop.new.self.items c.in-Some.values in
    let less = c.in_ok-take_first.ensures.less c.if-not-branch-2.false in
    omega (arith, popped, less)

pub loop-values-preserved : goal.loop-values-preserved
loop-values-preserved c = fit _ _ _ c.if-not-branch-2.false c.in_ok-take_first.ensures.fits ∙ sym (ap all_constant c.in-Some.ensures.items ∙ all_constant_push c.pop.new.self.items c.in-Some.values) ∙ c.loop-values.invariant
