use Rattle.std.proofs.Common.{refl, ap, Some}
use Rattle.dg_base.specs.declared.program.GapKind.TheVariants as gap
use Rattle.dg_meaning.specs.World.{GapOf}
use Rattle.dg_spacing.proofs.GapLemmas.{gap_on, unbroken, as_before}
use Rattle.dg_spacing.proofs.gap.Gap.asking.Goals as goal

pub returns-clause-space : goal.returns-clause-space
returns-clause-space c es h e = gap_on c.args.self _ es (GapOf gap.Space) h (unbroken c.args.self es h) refl (ap Some e) (as_before c.args.self.upper)

pub returns-clause-none : goal.returns-clause-none
returns-clause-none c es h e = gap_on c.args.self _ es (GapOf gap.NoSpace) h (unbroken c.args.self es h) refl (ap Some e) (as_before c.args.self.upper)
