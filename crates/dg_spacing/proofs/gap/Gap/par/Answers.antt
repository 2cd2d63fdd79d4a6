use Rattle.std.proofs.Common.{refl}
use Rattle.dg_base.specs.declared.program.GapKind.TheVariants as gap
use Rattle.dg_meaning.specs.World.{GapOf}
use Rattle.dg_spacing.proofs.GapLemmas.{gap_on, par_by, as_before}
use Rattle.dg_spacing.proofs.gap.Gap.par.Goals as goal

pub returns : goal.returns
returns c es h = gap_on c.args.self _ es (GapOf gap.Par) h (par_by _ _) refl refl (as_before c.args.self.upper)
