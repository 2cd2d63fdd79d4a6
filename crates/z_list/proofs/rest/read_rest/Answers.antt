use Rattle.std.proofs.Common.{◌∙◌, sym, length, arith, slice_range}
use Rattle.z_list.specs.inside.Held.{bytes_of}
use Rattle.z_list.proofs.FormLemmas.{put_since}
use Rattle.z_list.proofs.Decoded.{rest_bad, rest_no_end, rest_end}
use Rattle.z_list.proofs.rest.read_rest.Goals as goal

pub returns-in-Some : goal.returns-in-Some
returns-in-Some c =
    let r = c.in_ok-behind.ensures in
    let old = c.args.story.now.items in
    let seen = c.deref.result.now in
    rest_bad old c.args.text.now c.args.count r.0 c.read_rows.new.story.items c.in_ok-behind.behind.now (slice_range seen c.len-from.result (length seen)) r.1
    (put_since c.len-from.result old (bytes_of r.1.lines) seen (omega (arith, c.len-from.ensures, c.args.story.now.ok.0)) (c.deref.ensures.value ∙ r.1.bytes))
    c.args.line.now c.in-Some.size c.requires.none (sym c.first_length.ensures.is ∙ c.in-Some.is) c.in-Some.ensures.within.0

pub returns-in_default-end_line : goal.returns-in_default-end_line
returns-in_default-end_line c =
    let r = c.in_ok-behind.ensures in
    let old = c.args.story.now.items in
    let seen = c.deref.result.now in
    rest_no_end old c.args.text.now c.args.count r.0 c.read_rows.new.story.items c.in_ok-behind.behind.now (slice_range seen c.len-from.result (length seen)) r.1
    (put_since c.len-from.result old (bytes_of r.1.lines) seen (omega (arith, c.len-from.ensures, c.args.story.now.ok.0)) (c.deref.ensures.value ∙ r.1.bytes))
    (sym c.first_length.ensures.is ∙ c.in_default.is) c.len.result c.div_ceil.result (omega (arith, c.len.ensures, c.read_rows.new.story.ok.0)) c.div_ceil.ensures
    c.args.line.now c.requires.none r.2 c.in_default-end_line.ensures

pub returns : goal.returns
returns c =
    let r = c.in_ok-behind.ensures in
    let old = c.args.story.now.items in
    let seen = c.deref.result.now in
    rest_end old c.args.text.now c.args.count r.0 c.read_rows.new.story.items c.in_ok-behind.behind.now (slice_range seen c.len-from.result (length seen)) r.1
    (put_since c.len-from.result old (bytes_of r.1.lines) seen (omega (arith, c.len-from.ensures, c.args.story.now.ok.0)) (c.deref.ensures.value ∙ r.1.bytes))
    (sym c.first_length.ensures.is ∙ c.in_default.is) c.len.result c.div_ceil.result (omega (arith, c.len.ensures, c.read_rows.new.story.ok.0)) c.div_ceil.ensures
    c.args.line.now c.in-Some-end_line.next.now c.requires.short c.in-Some-end_line.ensures
