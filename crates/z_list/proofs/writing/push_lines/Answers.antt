use Rattle.std.proofs.Common.{◌+◌, drop, get_or, length, arith}
use Rattle.z_list.proofs.Written.{mark_at, mark_next, mark_written, range_length}
use Rattle.z_list.proofs.writing.push_lines.Goals as goal

pub slice_bounds-push_rows-end : goal.slice_bounds-push_rows-end
slice_bounds-push_rows-end c =
    let m = mark_at c.loop-mark.at (length c.args.story.now) c.args.marks.now c.loop-mark.mark-index (record { from = 0; to = 0; pred = 0; rule = 0 }) c.loop-mark-test.true c.loop-mark.invariant.marks in
    omega (arith, m.some, m.within)

pub push_rows-requires : goal.push_rows-requires
push_rows-requires c =
    let m = mark_at c.loop-mark.at (length c.args.story.now) c.args.marks.now c.loop-mark.mark-index (record { from = 0; to = 0; pred = 0; rule = 0 }) c.loop-mark-test.true c.loop-mark.invariant.marks in
    let from = (get_or c.args.marks.now c.loop-mark.mark-index (record { from = 0; to = 0; pred = 0; rule = 0 })).from in
    let long = range_length c.args.story.now c.loop-mark.at from m.from (omega (arith, m.some, m.within)) in
    omega (arith, long, m.from, m.some, m.within, c.requires.short)

pub slice_bounds-push_mark-end : goal.slice_bounds-push_mark-end
slice_bounds-push_mark-end c =
    let m = mark_at c.loop-mark.at (length c.args.story.now) c.args.marks.now c.loop-mark.mark-index (record { from = 0; to = 0; pred = 0; rule = 0 }) c.loop-mark-test.true c.loop-mark.invariant.marks in
    omega (arith, m.within)

pub loop-mark-preserved : goal.loop-mark-preserved
loop-mark-preserved c =
    let at = c.loop-mark.at in
    let story = c.args.story.now in
    let marks = c.args.marks.now in
    let i = c.loop-mark.mark-index in
    let m = mark_at at (length story) marks i (record { from = 0; to = 0; pred = 0; rule = 0 }) c.loop-mark-test.true c.loop-mark.invariant.marks in
    record {
      rest = mark_written _ c.loop-mark.text.items c.push_rows.new.text.items c.push_mark.new.text.items at story (get_or marks i (record { from = 0; to = 0; pred = 0; rule = 0 })) (drop (i + 1) marks) m.from m.some
          (mark_next _ c.loop-mark.text.items at (drop at story) marks i (record { from = 0; to = 0; pred = 0; rule = 0 }) c.loop-mark-test.true c.loop-mark.invariant.rest) c.in_ok-push_rows.ensures c.in_ok-push_mark.ensures;
      marks = m.others;
    }
