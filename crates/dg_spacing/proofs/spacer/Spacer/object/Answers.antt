use Rattle.std.proofs.Common.{◌∷◌, sym, subst}
use Rattle.dg_base.specs.Written.{Wrote, BrokeOff}
use Rattle.dg_spacing.proofs.GapLemmas.{piece_written, front_broke, spaces_broke, text_broke, stands_behind, same_mark, object_last}
use Rattle.dg_spacing.proofs.spacer.Spacer.object.Goals as goal

pub returns-in-Err-clause-err : goal.returns-in-Err-clause-err
returns-in-Err-clause-err g c = front_broke c.args.self.now _ _ c.separator-spaces.result.0.now c.separator-spaces.result.1 (35 ∷ c.args.name.now) c.separator-spaces.ensures c.in-Err.ensures.err

pub returns-in-Err-write_spaces-clause-err : goal.returns-in-Err-write_spaces-clause-err
returns-in-Err-write_spaces-clause-err g c = spaces_broke c.args.self.now _ _ _ c.separator-spaces.result.0.now c.separator-spaces.result.1 (35 ∷ c.args.name.now) c.separator-spaces.ensures c.in_default.ensures.ok c.in-Err-write_spaces.ensures.err

pub returns-in-Err-write_both-clause-err : goal.returns-in-Err-write_both-clause-err
returns-in-Err-write_both-clause-err g c =
    text_broke c.args.self.now _ _ _ _ c.separator-spaces.result.0.now c.separator-spaces.result.1 (35 ∷ c.args.name.now) c.separator-spaces.ensures c.in_default.ensures.ok c.in_default-write_spaces.ensures.ok
    (subst (BrokeOff _ _) (sym (same_mark c.args.self.now.gap.upper c.args.name.now)) c.in-Err-write_both.ensures.err)

pub returns-clause-ok : goal.returns-clause-ok
returns-clause-ok g c =
    piece_written c.args.self.now _ _ _ _ c.separator-spaces.result.0.now c.separator-spaces.result.1 (35 ∷ c.args.name.now) c.separator-spaces.ensures c.in_default.ensures.ok c.in_default-write_spaces.ensures.ok
    (subst (Wrote _ _) (sym (same_mark c.args.self.now.gap.upper c.args.name.now)) c.in_default-write_both.ensures.ok)

pub returns-clause-stands : goal.returns-clause-stands
returns-clause-stands g c es h = stands_behind c.args.self.now _ es (35 ∷ c.args.name.now) (object_last c.args.self.now.last _ c.args.self.now.gap.upper c.args.name.now c.last_of_text-self.ensures) c.new-self.ensures h
