use Rattle.std.proofs.Common.{◌∙◌, ap, List, ℕ, refl}
use Rattle.dialog_tool.specs.Making.{made_report}
use Rattle.dialog_tool.proofs.MakeLemmas.{if_both, made_whole, made_long}
use Rattle.dialog_tool.proofs.making.report_of.Goals as goal

pub returns-in-Ok : goal.returns-in-Ok
returns-in-Ok c =
    let shown = rw (c.debug-limits.ensures, c.new-input.ensures, c.new-2.ensures.items) at c.in-Ok.ensures.shows in
    if_both _ _ _ c.whole.result
    (λ report text status n source is.
    made_whole n c.args.program c.args.dice.now c.args.source.now c.in_ok-output.output.bytes c.run_program.new.sink.bytes report.text.items c.in-Ok.outcome _ _ _ _ _ report.status is source
    (ap (λ s. s.bytes) c.in_ok-output.ensures) shown (text ∙ ap (λ (l : List ℕ). made_report c.args.source.now l c.in-Ok.outcome) c.taken.ensures) status)
    c.whole.ensures.text c.whole.ensures.status

pub returns-in-Err-Write : goal.returns-in-Err-Write
returns-in-Err-Write c =
    let lost = rw (c.in-Err-Write.field-0-is, c.debug-limits.ensures, c.new-input.ensures, c.new-2.ensures.items) at c.in-Err-Write.ensures.output in
    if_both _ _ _ c.too_long.result
    (λ report text status n source is.
    made_long n c.args.program c.args.dice.now c.in_ok-output.output.bytes report.text.items _ _ c.in_ok-output.output.room _ report.status _ is
    (ap (λ s. s.room) c.in_ok-output.ensures) (lost refl) text status)
    c.too_long.ensures.text c.too_long.ensures.status
