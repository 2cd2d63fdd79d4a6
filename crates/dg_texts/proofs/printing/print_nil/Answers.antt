use Rattle.std.proofs.Common.{◌∷◌, []}
use Rattle.std.specs.Prelude.{codes}
use Rattle.dg_texts.proofs.PrintLemmas.{printed_then, printed_stop}
use Rattle.dg_texts.proofs.printing.print_nil.Goals as goal

pub returns-in-Err : goal.returns-in-Err
returns-in-Err g c = printed_stop (codes "[" ∷ []) (codes "]" ∷ []) c.args.spacer.now c.print_piece.new.spacer _ _ c.in-Err.fault c.in-Err.ensures

pub returns-in-Ok : goal.returns-in-Ok
returns-in-Ok g c = printed_then (codes "[" ∷ []) (codes "]" ∷ []) _ _ _ _ _ _ c.print_piece-in-Ok.result c.in-Ok.ensures c.print_piece-in-Ok.ensures
