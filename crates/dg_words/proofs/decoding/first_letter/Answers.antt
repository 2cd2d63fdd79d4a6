use Rattle.std.proofs.Common.{ap, ◌∙◌, ◌+◌, ◌*◌, get_or}
use Rattle.std.specs.Prelude.{◌%◌}
use Rattle.dg_words.proofs.Decoded.{one_letter, two_letter, three_letter}
use Rattle.dg_words.proofs.decoding.first_letter.Goals as goal

pub returns-then-first-lt128-clause-letter : goal.returns-then-first-lt128-clause-letter
returns-then-first-lt128-clause-letter c = λ x behind is le. (one_letter c.args.bytes.now behind x le is c.if-first-lt128.true).0

pub returns-then-first-lt128-clause-size : goal.returns-then-first-lt128-clause-size
returns-then-first-lt128-clause-size c = λ x behind is le. (one_letter c.args.bytes.now behind x le is c.if-first-lt128.true).1

pub returns-then-first-lt224-clause-letter : goal.returns-then-first-lt224-clause-letter
returns-then-first-lt224-clause-letter c = λ x behind is le.
    ap (λ n. get_or c.args.bytes.now 0 0 % 32 * 64 + n) c.bits_at.ensures ∙ (two_letter c.args.bytes.now behind x le is c.if-first-lt128.false c.if-first-lt224.true).0

pub returns-then-first-lt224-clause-size : goal.returns-then-first-lt224-clause-size
returns-then-first-lt224-clause-size c = λ x behind is le. (two_letter c.args.bytes.now behind x le is c.if-first-lt128.false c.if-first-lt224.true).1

pub returns-clause-letter : goal.returns-clause-letter
returns-clause-letter c = λ x behind is le.
    ap (λ n. get_or c.args.bytes.now 0 0 % 16 * 4096 + n * 64 + c.bits_at-3.result) c.bits_at-2.ensures
    ∙ ap (λ n. get_or c.args.bytes.now 0 0 % 16 * 4096 + get_or c.args.bytes.now 1 0 % 64 * 64 + n) c.bits_at-3.ensures
    ∙ (three_letter c.args.bytes.now behind x le is c.if-first-lt224.false).0

pub returns-clause-size : goal.returns-clause-size
returns-clause-size c = λ x behind is le. (three_letter c.args.bytes.now behind x le is c.if-first-lt224.false).1
