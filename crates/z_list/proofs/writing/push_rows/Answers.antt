use Rattle.std.proofs.Common.{◌+◌, ◌++◌, ◌∙◌, [], List, ap, drop, slice_range}
use Rattle.z_list.specs.Listing.{Line, Data, rows}
use Rattle.z_list.specs.Texts.{texts}
use Rattle.z_list.proofs.Written.{line_written, next_row}
use Rattle.z_list.proofs.writing.push_rows.Goals as goal

pub loop-done-preserved : goal.loop-done-preserved
loop-done-preserved c =
    let at = c.args.at in
    let bytes = c.args.bytes.now in
    let done = c.loop-done.done in
    let end = c.row_end-end.result in
    record {
      rest = line_written _ c.loop-done.text.items c.push_data.new.text.items (Data (at + done) (slice_range bytes done end)) (rows (at + end) [] (drop end bytes))
          (c.loop-done.invariant.rest ∙ ap (λ (ls : List Line). c.loop-done.text.items ++ texts ls) (next_row at done end bytes c.row_end-end.ensures.ends)) c.in_ok-push_data.ensures;
      within = c.row_end-end.ensures.ends.within;
    }
