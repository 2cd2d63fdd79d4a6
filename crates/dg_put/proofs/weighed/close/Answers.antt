use Rattle.std.proofs.Common.{◌∙◌, ap, arith}
use Rattle.dg_plain.specs.Building.{built_view, closing}
use Rattle.dg_plain.specs.Plain.{Setting}
use Rattle.dg_put.specs.inside.Weights.{heavy}
use Rattle.dg_put.proofs.WeightLemmas.{closed_gains}
use Rattle.dg_put.proofs.weighed.close.Goals as goal

pub invariant_of-weighed-2 : goal.invariant_of-weighed-2
invariant_of-weighed-2 c =
    let s = built_view c.args.weighed.now.built in
    let gains = closed_gains c.args.close s in
    let weight = ap heavy c.in_ok-close.ensures ∙ ap (λ (k : Setting). heavy (closing k c.args.close s)) c.bare.ensures in
    record { least = omega (arith, weight, gains, c.args.weighed.now.least, c.saturating_add-weighed.ensures, c.gain.ensures) }
