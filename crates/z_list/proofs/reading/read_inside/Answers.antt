use Rattle.std.proofs.Common.{arith}
use Rattle.z_list.proofs.FormLemmas.{match_some}
use Rattle.z_list.proofs.Steps.{op_inside}
use Rattle.z_list.proofs.reading.read_inside.Goals as goal

pub returns : goal.returns
returns c =
    op_inside c.args.text.now c.in-Some.rest.now c.args.story.now.items c.op_line.new.story.items c.args.count c.args.line.now c.len-at.result (omega (arith, c.len-at.ensures, c.args.story.now.ok.0)) c.requires.within c.requires.short
    (match_some c.in_ok-rest.field-0 _ _ c.in-Some.rest c.in-Some.is c.in_ok-rest.ensures)
