use Rattle.std.proofs.Common.{refl, []}
use Rattle.dg_meaning.specs.Pieces.{pieces}
use Rattle.dg_texts.specs.Printing.{named, value_at}
use Rattle.dg_interp.proofs.Pieces.{single_filled}
use Rattle.dg_interp.proofs.printing.fill_single.Goals as goal

pub returns-in-Ok-clause-filled : goal.returns-in-Ok-clause-filled
returns-in-Ok-clause-filled g c = λ piece is.
    let program = named c.args.words.now c.args.objects.now in
    single_filled (pieces program (value_at (g.B.Bindings.meaning c.args.store.now) c.args.value)) piece _ _ _ _ c.print_value.new.spacer c.clear.ensures (c.in-Ok.ensures.printed program refl refl [] c.new-spacer.ensures) is
