use Rattle.std.proofs.Common.{◌++◌, arith}
use Rattle.z_list.specs.Texts.{story_line}
use Rattle.z_list.specs.inside.Turned.{where_of}
use Rattle.z_list.proofs.FormLemmas.{match_none, match_some}
use Rattle.z_list.proofs.Lines.{reads_more, reads_bad, reads_short, reads_whole, turn_shorter, none_left, some_left}
use Rattle.z_list.proofs.reading.read_lines.Goals as goal

pub returns-in_default : goal.returns-in_default
returns-in_default c =
    reads_bad c.args.count (story_line c.args.count ++ c.args.text.now) c.loop-rest.place c.loop-rest.story.items c.loop-rest.rest.now c.loop-rest.line c.loop-rest.invariant
    c.read_turn.new.line (some_left c.loop-rest.rest.now c.is_empty.result c.is_empty.ensures c.loop-rest-test.true) (match_none c.in_ok-next.field-0 _ _ c.in_default.is c.in_ok-next.ensures)

pub loop-rest-smaller : goal.loop-rest-smaller
loop-rest-smaller c =
    turn_shorter (where_of c.loop-rest.place) c.loop-rest.story.items c.loop-rest.rest.now c.args.count c.loop-rest.line c.in-Some.next c.read_turn.new.story.items c.in-Some.behind.now c.read_turn.new.line
    (match_some c.in_ok-next.field-0 _ _ (c.in-Some.next, c.in-Some.behind) c.in-Some.is c.in_ok-next.ensures)

pub loop-rest-preserved : goal.loop-rest-preserved
loop-rest-preserved c =
    reads_more c.args.count (story_line c.args.count ++ c.args.text.now) c.loop-rest.place c.loop-rest.story.items c.loop-rest.rest.now c.loop-rest.line c.loop-rest.invariant
    c.in-Some.next c.read_turn.new.story.items c.in-Some.behind.now c.read_turn.new.line
    (match_some c.in_ok-next.field-0 _ _ (c.in-Some.next, c.in-Some.behind) c.in-Some.is c.in_ok-next.ensures)

pub returns-then-is_whole : goal.returns-then-is_whole
returns-then-is_whole c =
    reads_whole c.args.count (story_line c.args.count ++ c.args.text.now) c.loop-rest.place c.loop-rest.story.items c.loop-rest.rest.now c.loop-rest.line c.loop-rest.invariant
    (none_left c.loop-rest.rest.now c.is_empty.result c.is_empty.ensures c.loop-rest-test.false) c.is_whole.result c.len.result (omega (arith, c.len.ensures, c.loop-rest.story.ok.0)) c.is_whole.ensures c.if-is_whole.true

pub returns-else-is_whole : goal.returns-else-is_whole
returns-else-is_whole c =
    reads_short c.args.count (story_line c.args.count ++ c.args.text.now) c.loop-rest.place c.loop-rest.story.items c.loop-rest.rest.now c.loop-rest.line c.loop-rest.invariant
    (none_left c.loop-rest.rest.now c.is_empty.result c.is_empty.ensures c.loop-rest-test.false) c.is_whole.result c.len.result (omega (arith, c.len.ensures, c.loop-rest.story.ok.0)) c.is_whole.ensures c.if-is_whole.false
