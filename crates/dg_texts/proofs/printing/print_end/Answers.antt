use Rattle.std.proofs.Common.{rules, ap, ◌≡◌, ◌∷◌, [], true, false}
use Rattle.std.specs.Prelude.{codes}
use Rattle.dg_meaning.specs.Pieces.{first_piece}
use Rattle.dg_texts.specs.Printing.{named, end_pieces, shows_nil}
use Rattle.dg_texts.proofs.PrintLemmas.{printed_as, other_shown, nil_shown}
use Rattle.dg_texts.proofs.printing.print_end.Goals as goal

pub returns : goal.returns
returns g c = λ w shows.
    let program = named c.args.words.now c.args.objects.now in
    let is : shows_nil c.args.tail ≡ false = search rules in
    printed_as (codes "|" ∷ first_piece program w ∷ codes "]" ∷ []) (end_pieces program w) _ _ _ _ c.print_tail.result (other_shown (g.B.Bindings.meaning c.args.store.now) program w c.args.tail is shows).end (c.print_tail.ensures w shows)

pub returns-then-is_nil : goal.returns-then-is_nil
returns-then-is_nil g c = λ w shows.
    let program = named c.args.words.now c.args.objects.now in
    let is : shows_nil c.args.tail ≡ true = search rules in
    printed_as (codes "]" ∷ []) (end_pieces program w) _ _ _ _ c.print_piece.result (ap (end_pieces program) (nil_shown (g.B.Bindings.meaning c.args.store.now) w c.args.tail is shows)) c.print_piece.ensures
