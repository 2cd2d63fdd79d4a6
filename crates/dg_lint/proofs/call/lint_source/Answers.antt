use Rattle.std.proofs.Common.{List, ℕ, subst}
use Rattle.dg_lint.specs.Call.{HasLines, Tells, refused, lines}
use Rattle.dg_lint.proofs.call.lint_source.Goals as goal

pub returns-in-Ok : goal.returns-in-Ok
returns-in-Ok g c =
    lines c.in-Ok.text.items
    (subst (λ (n : List ℕ). HasLines n c.args.source.now c.in-Ok.text.items) c.as_bytes.ensures.value c.in-Ok.ensures.lines)
    (subst (λ (t : List ℕ). Tells t (g.K.Sink.view c.args.out.now) (g.K.Sink.view c.tell.new.out) c.tell.result) c.as_slice.ensures.value c.tell.ensures)

pub returns-in-Err-Refused : goal.returns-in-Err-Refused
returns-in-Err-Refused g c =
    let why = rw c.in-Err-Refused.field-0-is at c.in-Err-Refused.ensures.refused in
    let says = rw c.in-Err-Refused.refusal-is at c.refuse.ensures in
    refused c.in-Err-Refused.refusal why says
