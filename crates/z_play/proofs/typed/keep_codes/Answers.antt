use Rattle.std.proofs.Common.{◌+◌, get_or, ap, ◌∙◌}
use Rattle.std.proofs.Math.ListN.{set}
use Rattle.std.proofs.lemmas.List.{length-set}
use Rattle.dg_base.specs.Units.{unit_at}
use Rattle.z_play.proofs.Codes.{codes_full, codes_end, codes_more, rest_whole}
use Rattle.z_play.proofs.typed.keep_codes.Goals as goal

pub returns-then-line-kept-clause-codes : goal.returns-then-line-kept-clause-codes
returns-then-line-kept-clause-codes c = codes_full c.loop-line.line c.args.bytes.now c.loop-line.kept c.loop-line.at c.if-line-kept.true c.loop-line.invariant

pub returns-then-bytes-at-clause-codes : goal.returns-then-bytes-at-clause-codes
returns-then-bytes-at-clause-codes c = codes_end c.loop-line.line c.args.bytes.now c.loop-line.kept c.loop-line.at c.if-bytes-at.true c.loop-line.invariant

pub loop-line-preserved : goal.loop-line-preserved
loop-line-preserved c =
    codes_more c.loop-line.line c.args.bytes.now c.loop-line.kept c.loop-line.at c.unit_at-unit.result c.if-line-kept.false c.if-bytes-at.false c.unit_at-unit.ensures.size.0 (c.unit_at-unit.ensures.unit ∙ ap (unit_at (get_or c.args.bytes.now c.loop-line.at 0)) (rest_whole c.args.bytes.now (c.loop-line.at + 1)))
    (set c.loop-line.line c.loop-line.kept c.code_of_unit.result) (ap (set c.loop-line.line c.loop-line.kept) c.code_of_unit.ensures) (length-set c.loop-line.line c.loop-line.kept c.code_of_unit.result) c.loop-line.invariant
