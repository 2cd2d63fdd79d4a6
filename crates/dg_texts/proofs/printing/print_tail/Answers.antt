use Rattle.std.proofs.Common.{◌∷◌, [], Err}
use Rattle.std.specs.Prelude.{codes}
use Rattle.dg_meaning.specs.Pieces.{first_piece}
use Rattle.dg_texts.specs.Printing.{named}
use Rattle.dg_texts.proofs.PrintLemmas.{printed_then, printed_stop}
use Rattle.dg_texts.proofs.printing.print_tail.Goals as goal

pub returns-in-Err : goal.returns-in-Err
returns-in-Err g c = λ w shows. printed_stop (codes "|" ∷ []) (first_piece (named c.args.words.now c.args.objects.now) w ∷ codes "]" ∷ []) c.args.spacer.now c.print_piece.new.spacer _ _ c.in-Err.fault c.in-Err.ensures

pub returns-in-Err-print_first : goal.returns-in-Err-print_first
returns-in-Err-print_first g c = λ w shows.
    let first = first_piece (named c.args.words.now c.args.objects.now) w in
    printed_then (codes "|" ∷ []) (first ∷ codes "]" ∷ []) c.args.spacer.now c.print_piece.new.spacer c.print_first.new.spacer _ _ _ (Err c.in-Err-print_first.fault) c.in-Ok.ensures
    (printed_stop (first ∷ []) (codes "]" ∷ []) c.print_piece.new.spacer c.print_first.new.spacer _ _ c.in-Err-print_first.fault (c.in-Err-print_first.ensures w shows))

pub returns-in-Ok-print_first : goal.returns-in-Ok-print_first
returns-in-Ok-print_first g c = λ w shows.
    let first = first_piece (named c.args.words.now c.args.objects.now) w in
    printed_then (codes "|" ∷ []) (first ∷ codes "]" ∷ []) _ _ _ _ _ _ c.print_piece-in-Ok-print_first.result c.in-Ok.ensures
    (printed_then (first ∷ []) (codes "]" ∷ []) _ _ _ _ _ _ c.print_piece-in-Ok-print_first.result (c.in-Ok-print_first.ensures w shows) c.print_piece-in-Ok-print_first.ensures)
