use Rattle.std.proofs.Common.{rules, ◌≡◌, ◌∷◌, [], false}
use Rattle.dg_meaning.specs.Pieces.{first_piece}
use Rattle.dg_texts.specs.Printing.{named, single_pieces, shows_nil}
use Rattle.dg_texts.proofs.PrintLemmas.{printed_as, other_shown}
use Rattle.dg_texts.proofs.printing.print_single.Goals as goal

pub returns : goal.returns
returns g c = λ w shows.
    let program = named c.args.words.now c.args.objects.now in
    let is : shows_nil c.args.value ≡ false = search rules in
    printed_as (first_piece program w ∷ []) (single_pieces program w) _ _ _ _ c.print_first.result (other_shown (g.B.Bindings.meaning c.args.store.now) program w c.args.value is shows).single (c.print_first.ensures w shows)
