use Rattle.std.proofs.Common.{arith}
use Rattle.z_list.proofs.FormLemmas.{match_none, match_some, op_none, op_some}
use Rattle.z_list.proofs.forms.op_line.Goals as goal

pub returns-in_default-2 : goal.returns-in_default-2
returns-in_default-2 c =
    op_none c.len-at.result c.args.left c.args.text.now c.in-Some.bytes.now c.in_ok-rest.rest.now c.args.story.now.items c.put_bytes.new.bytes.items c.deref.result.now c.truncate.new.self.items
    c.in_ok-rest.ensures (omega (arith, c.len-at.ensures, c.args.story.now.ok.0)) c.in-Some.ensures c.deref.ensures.value (match_none c.in_ok-next.field-0 _ _ c.in_default-2.is c.in_ok-next.ensures) c.truncate.ensures.items

pub returns : goal.returns
returns c =
    op_some c.len-at.result c.args.left c.args.text.now c.in-Some.bytes.now c.in_ok-rest.rest.now c.in-Some-2.next.now c.args.story.now.items c.put_bytes.new.bytes.items c.deref.result.now
    c.in_ok-rest.ensures (omega (arith, c.len-at.ensures, c.args.story.now.ok.0)) c.in-Some.ensures c.deref.ensures.value (match_some c.in_ok-next.field-0 _ _ c.in-Some-2.next c.in-Some-2.is c.in_ok-next.ensures)
