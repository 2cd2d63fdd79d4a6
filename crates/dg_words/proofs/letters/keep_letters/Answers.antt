use Rattle.std.proofs.Common.{◌+◌, get_or, ap, ◌∙◌}
use Rattle.std.proofs.Math.ListN.{set}
use Rattle.std.proofs.lemmas.List.{length-set}
use Rattle.dg_base.specs.Units.{unit_at}
use Rattle.dg_words.proofs.LetterLemmas.{letters_full, letters_end, letters_more, rest_whole}
use Rattle.dg_words.proofs.letters.keep_letters.Goals as goal

pub returns-then-line-kept-clause-letters : goal.returns-then-line-kept-clause-letters
returns-then-line-kept-clause-letters c = letters_full c.loop-line.line c.args.bytes.now c.loop-line.kept c.loop-line.at c.if-line-kept.true c.loop-line.invariant

pub returns-then-bytes-at-clause-letters : goal.returns-then-bytes-at-clause-letters
returns-then-bytes-at-clause-letters c = letters_end c.loop-line.line c.args.bytes.now c.loop-line.kept c.loop-line.at c.if-bytes-at.true c.loop-line.invariant

pub loop-line-preserved : goal.loop-line-preserved
loop-line-preserved c =
    letters_more c.loop-line.line c.args.bytes.now c.loop-line.kept c.loop-line.at c.unit_at-unit.result c.if-line-kept.false c.if-bytes-at.false c.unit_at-unit.ensures.size.0 (c.unit_at-unit.ensures.unit ∙ ap (unit_at (get_or c.args.bytes.now c.loop-line.at 0)) (rest_whole c.args.bytes.now (c.loop-line.at + 1)))
    (set c.loop-line.line c.loop-line.kept c.letter_of.result) (ap (set c.loop-line.line c.loop-line.kept) c.letter_of.ensures) (length-set c.loop-line.line c.loop-line.kept c.letter_of.result) c.loop-line.invariant
