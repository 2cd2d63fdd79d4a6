use Rattle.std.proofs.Common.{sym, ap, ◌∙◌}
use Rattle.dg_quiet.specs.inside.Left.{asks_in, quiet_if}
use Rattle.dg_quiet.specs.inside.Spread.{rows_of}
use Rattle.dg_quiet.proofs.SortLemmas.{noted_changes, noted_added}
use Rattle.dg_quiet.proofs.set.note_asks.Goals as goal

pub returns-then-changes : goal.returns-then-changes
returns-then-changes c = noted_changes c.args.rules.now c.args.changes (rows_of c.args.askers.now.items) c.args.number c.if-changes.true

pub returns : goal.returns
returns c =
    noted_added c.args.rules.now c.args.changes (rows_of c.args.askers.now.items) c.args.number c.as_slice.result.now c.in_ok-fits.fits (rows_of c.add_asker.new.askers.items) c.if-changes.false
    (λ set. c.in_ok-asks.ensures set ∙ ap (quiet_if set) c.in-Some.is ∙ ap (asks_in set) (sym c.as_slice.ensures.value)) c.in_ok-fits.ensures
