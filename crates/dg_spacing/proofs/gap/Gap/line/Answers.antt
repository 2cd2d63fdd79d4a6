use Rattle.std.proofs.Common.{refl, sym, ◌∙◌}
use Rattle.dg_base.specs.declared.program.GapKind.TheVariants as gap
use Rattle.dg_meaning.specs.World.{GapOf}
use Rattle.dg_spacing.proofs.GapLemmas.{gap_on, line_by, line_new, as_before}
use Rattle.dg_spacing.proofs.gap.Gap.line.Goals as goal

pub returns-in-Par : goal.returns-in-Par
returns-in-Par c es h = gap_on c.args.self _ es (GapOf gap.Line) h (line_by _ _ (sym h.break_is ∙ c.in-Par.is)) refl refl (as_before c.args.self.upper)

pub returns-in-Line : goal.returns-in-Line
returns-in-Line c es h = gap_on c.args.self _ es (GapOf gap.Line) h (line_new _ _ (λ e. let x = h.break_is ∙ e in let y = c.in-Line.is in cc)) refl refl (as_before c.args.self.upper)

pub returns-in-Nothing : goal.returns-in-Nothing
returns-in-Nothing c es h = gap_on c.args.self _ es (GapOf gap.Line) h (line_new _ _ (λ e. let x = h.break_is ∙ e in let y = c.in-Nothing.is in cc)) refl refl (as_before c.args.self.upper)
