use Rattle.std.proofs.Common.{ap, ◌∙◌}
use Rattle.dg_spacing.specs.Gaps.{gap_text}
use Rattle.dg_spacing.proofs.GapLemmas.{piece_written, front_broke, spaces_broke, text_broke, stands_behind}
use Rattle.dg_spacing.proofs.spacer.Spacer.piece.Goals as goal

pub returns-in-Err-clause-err : goal.returns-in-Err-clause-err
returns-in-Err-clause-err g c =
    front_broke c.args.self.now _ _ c.separator-spaces.result.0.now c.separator-spaces.result.1 c.args.piece.now (c.separator-spaces.ensures ∙ ap (gap_text c.args.self.now.gap c.args.self.now.last) c.first_of_piece.ensures) c.in-Err.ensures.err

pub returns-in-Err-write_spaces-clause-err : goal.returns-in-Err-write_spaces-clause-err
returns-in-Err-write_spaces-clause-err g c =
    spaces_broke c.args.self.now _ _ _ c.separator-spaces.result.0.now c.separator-spaces.result.1 c.args.piece.now (c.separator-spaces.ensures ∙ ap (gap_text c.args.self.now.gap c.args.self.now.last) c.first_of_piece.ensures) c.in_default.ensures.ok c.in-Err-write_spaces.ensures.err

pub returns-in-Err-write_piece-clause-err : goal.returns-in-Err-write_piece-clause-err
returns-in-Err-write_piece-clause-err g c =
    text_broke c.args.self.now _ _ _ _ c.separator-spaces.result.0.now c.separator-spaces.result.1 c.args.piece.now (c.separator-spaces.ensures ∙ ap (gap_text c.args.self.now.gap c.args.self.now.last) c.first_of_piece.ensures) c.in_default.ensures.ok c.in_default-write_spaces.ensures.ok c.in-Err-write_piece.ensures.err

pub returns-clause-ok : goal.returns-clause-ok
returns-clause-ok g c =
    piece_written c.args.self.now _ _ _ _ c.separator-spaces.result.0.now c.separator-spaces.result.1 c.args.piece.now (c.separator-spaces.ensures ∙ ap (gap_text c.args.self.now.gap c.args.self.now.last) c.first_of_piece.ensures) c.in_default.ensures.ok c.in_default-write_spaces.ensures.ok c.in_default-write_piece.ensures.ok

pub returns-clause-stands : goal.returns-clause-stands
returns-clause-stands g c es h = stands_behind c.args.self.now _ es c.args.piece.now c.last_of_text-self.ensures c.new-self.ensures h
