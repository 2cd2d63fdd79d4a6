use Rattle.std.proofs.Common.{Some, None, arith}
use Rattle.std.proofs.lemmas.Str.Pattern.{split_parts}
use Rattle.dialog_tool.proofs.DiceLemmas.{parts_at_comma, one_part}
use Rattle.dialog_tool.proofs.numbers.cut.Goals as goal

pub returns-in-Some-clause-parts : goal.returns-in-Some-clause-parts
returns-in-Some-clause-parts c =
    let found = split_parts 44 c.args.word.now (Some (c.in-Some.part, c.in-Some.rest)) c.in-Some.ensures.cases (omega arith) in
    parts_at_comma c.args.word.now c.in-Some.part.now c.in-Some.rest.now found.0 found.1

pub returns-in-None-clause-parts : goal.returns-in-None-clause-parts
returns-in-None-clause-parts c = one_part c.args.word.now (split_parts 44 c.args.word.now None c.in-None.ensures.cases (omega arith))
