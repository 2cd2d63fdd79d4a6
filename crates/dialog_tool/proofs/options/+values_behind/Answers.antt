use Rattle.std.proofs.Common.{sym, ◌∙◌}
use Rattle.dialog_tool.specs.inside.CommandView.{values_view}
use Rattle.dialog_tool.proofs.OptionLemmas.{two_more}
use Rattle.dialog_tool.proofs.options.+values_behind.Goals as goal

pub returns-in-Some : goal.returns-in-Some
returns-in-Some t c =
    c.values_behind.ensures
    ∙ two_more (values_view c.args.values) (values_view c.in-Some.more) c.args.options.now c.option-item.result c.word-item.result c.in-len2-up.len_at_least c.option-item.is c.word-item.is
    (rw (sym c.as_str.ensures.value) c.in-Some.ensures)
