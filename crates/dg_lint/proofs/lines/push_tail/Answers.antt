use Rattle.std.proofs.Common.{◌++◌, sym, ◌∙◌, ap}
use Rattle.dg_lint.specs.Lines as spec
use Rattle.dg_lint.specs.declared.slip.Slip.{Slip}
use Rattle.dg_lint.proofs.LineLemmas.{on_ok}
use Rattle.dg_lint.proofs.lines.push_tail.Goals as goal

pub returns-in-NoRule : goal.returns-in-NoRule
returns-in-NoRule c = on_ok c.push_hint_among.result
    (λ e. e ∙ ap (λ (s : Slip). c.args.text.now.items ++ spec.tail_of s c.args.name.now) (sym c.in-NoRule.is)) c.push_hint_among.ensures
