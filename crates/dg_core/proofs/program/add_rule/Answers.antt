use Rattle.std.proofs.Common.{position, sym, ◌∙◌, ap, subst}
use Rattle.std.specs.List.{IsDistinct}
use Rattle.std.specs.Str.{bytes_eq}
use Rattle.dg_base.specs.Heads.{name_of}
use Rattle.dg_base.specs.TreeView.{head_view}
use Rattle.dg_core.specs.inside.View.{pred_names}
use Rattle.dg_core.proofs.PredLemmas.{untouched, apart_from_none, added_at}
use Rattle.dg_core.proofs.program.add_rule.Goals as goal

pub returns-in_ok-push : goal.returns-in_ok-push
returns-in_ok-push c =
    let place = ap (position (bytes_eq (name_of (head_view c.args.head.now)))) c.requires.named ∙ sym c.in_ok-at.ensures ∙ c.in-Some.is in
    let distinct = subst (IsDistinct bytes_eq) (sym c.requires.named) c.requires.distinct in
    added_at (name_of (head_view c.args.head.now)) c.args.rule c.args.preds.now.items c.in-Some.at c.index_mut-pred.result.now c.push.new.self distinct place c.index_mut-pred.ensures.value c.in_ok-push.ensures.ok

pub returns-in_default : goal.returns-in_default
returns-in_default c =
    let place = ap (position (bytes_eq (name_of (head_view c.args.head.now)))) c.requires.named ∙ sym c.in_ok-at.ensures ∙ c.in_default.is in
    sym (untouched (name_of (head_view c.args.head.now)) c.args.rule c.args.preds.now.items (apart_from_none _ (pred_names c.args.preds.now.items) place))
