use Rattle.std.proofs.Common.{arith}
use Rattle.z_list.proofs.FormLemmas.{match_some}
use Rattle.z_list.proofs.Decoded.{rows_on}
use Rattle.z_list.proofs.rest.read_rows.Goals as goal

pub loop-full-preserved : goal.loop-full-preserved
loop-full-preserved c =
    rows_on c.args.story.now.items c.args.text.now c.args.count c.len-at.result c.len.result c.loop-full.full c.loop-full.story.items c.loop-full.rest.now c.data_line.new.story.items c.in-Some.next.now c.requires.short
    (omega (arith, c.len-at.ensures, c.loop-full.story.ok.0)) (omega (arith, c.len.ensures, c.data_line.new.story.ok.0)) c.loop-full-test.true c.loop-full.invariant
    (match_some c.in_ok-next.field-0 _ _ c.in-Some.next c.in-Some.is c.in_ok-next.ensures)
