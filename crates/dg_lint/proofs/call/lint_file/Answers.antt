use Rattle.std.proofs.Common.{List, ℕ, refl, subst}
use Rattle.dg_lint.specs.Call.{Lints, found}
use Rattle.dg_lint.proofs.CallLemmas.{long_found}
use Rattle.dg_lint.proofs.call.lint_file.Goals as goal

pub returns-in-Ok-clause-opens : goal.returns-in-Ok-clause-opens
returns-in-Ok-clause-opens g c =
    found c.in-Ok.source.items c.in-Ok.ensures.bytes
    (subst (λ (s : List ℕ). Lints c.args.name.now s (g.K.Sink.view c.args.out.now) (g.K.Sink.view c.lint_source.new.out) c.lint_source.result) c.as_slice.ensures.value c.lint_source.ensures)

pub returns-in-Err-TooLong-clause-opens : goal.returns-in-Err-TooLong-clause-opens
returns-in-Err-TooLong-clause-opens g c =
    let long = rw c.in-Err-TooLong.field-0-is at c.in-Err-TooLong.ensures.too_long in
    long_found c.long_sources_are_refused.ensures c.args.name.now _ _ _ _ _ c.too_long.result (long refl) c.too_long.ensures c.refuse.ensures
