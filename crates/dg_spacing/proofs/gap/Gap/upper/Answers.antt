use Rattle.std.proofs.Common.{refl}
use Rattle.dg_base.specs.declared.program.GapKind.TheVariants as gap
use Rattle.dg_meaning.specs.World.{GapOf}
use Rattle.dg_spacing.proofs.GapLemmas.{gap_on, unbroken, made_true}
use Rattle.dg_spacing.proofs.gap.Gap.upper.Goals as goal

pub returns : goal.returns
returns c es h = gap_on c.args.self _ es (GapOf gap.Upper) h (unbroken c.args.self es h) refl refl (made_true c.args.self.upper)
