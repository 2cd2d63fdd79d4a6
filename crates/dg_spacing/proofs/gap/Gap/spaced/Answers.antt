use Rattle.std.proofs.Common.{◌≡◌, ◌+◌, min, refl, arith}
use Rattle.dg_meaning.specs.World.{SpacesOf}
use Rattle.dg_spacing.proofs.GapLemmas.{gap_on, unbroken, as_before}
use Rattle.dg_spacing.proofs.gap.Gap.spaced.Goals as goal

pub returns : goal.returns
returns c es h =
    let sum : c.min-spaces.result ≡ min (c.args.self.spaces + c.args.count) 16383 = omega arith in
    gap_on c.args.self _ es (SpacesOf c.args.count) h (unbroken c.args.self es h) sum refl (as_before c.args.self.upper)
