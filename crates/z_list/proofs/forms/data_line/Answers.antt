use Rattle.std.proofs.Common.{arith}
use Rattle.z_list.proofs.FormLemmas.{data_none, data_some}
use Rattle.z_list.proofs.forms.data_line.Goals as goal

pub returns-in_default-behind_row : goal.returns-in_default-behind_row
returns-in_default-behind_row c =
    data_none c.len-at.result c.len.result c.args.left c.args.text.now c.in-Some.bytes.now c.in_ok-rest.rest.now c.args.story.now.items c.put_bytes.new.bytes.items c.truncate.new.self.items
    c.in_ok-rest.ensures (omega (arith, c.len-at.ensures, c.args.story.now.ok.0)) (omega (arith, c.len.ensures, c.put_bytes.new.bytes.ok.0)) c.in-Some.ensures c.in_default-behind_row.ensures c.truncate.ensures.items

pub returns : goal.returns
returns c =
    data_some c.len-at.result c.len.result c.args.left c.args.text.now c.in-Some.bytes.now c.in_ok-rest.rest.now c.in-Some-behind_row.next.now c.args.story.now.items c.put_bytes.new.bytes.items
    c.in_ok-rest.ensures (omega (arith, c.len-at.ensures, c.args.story.now.ok.0)) (omega (arith, c.len.ensures, c.put_bytes.new.bytes.ok.0)) c.in-Some.ensures c.in-Some-behind_row.ensures
