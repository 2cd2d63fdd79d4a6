use Rattle.std.proofs.Common.{◌≡◌, ◌+◌, ◌≤◌, ap, ◌∙◌, arith}
use Rattle.dg_choose.specs.Site.{turn_of}
use Rattle.dg_choose.proofs.Turns.{more_turned, turned_back}
use Rattle.dg_choose.proofs.site.one_more.Goals as goal

pub returns-in-Some-clause-turned : goal.returns-in-Some-clause-turned
returns-in-Some-clause-turned c mode n e =
    let next : c.in-Some.next ≡ c.args.count + 1 = omega (arith, c.in-Some.ensures) in
    ap (turn_of mode c.args.branches) next ∙ more_turned mode c.args.branches c.args.count n e

pub returns-in-None-clause-turned : goal.returns-in-None-clause-turned
returns-in-None-clause-turned c mode n e =
    let many : c.args.branches ≤ c.args.count + 1 = omega (arith, c.in-None.ensures, c.ranges.branches.fits) in
    turned_back mode c.args.branches c.args.count many ∙ more_turned mode c.args.branches c.args.count n e
