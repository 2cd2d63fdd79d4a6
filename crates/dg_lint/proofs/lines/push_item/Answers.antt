use Rattle.std.proofs.Common.{◌++◌, [], ℕ, List, Option, ◌∙◌, ap, append_assoc}
use Rattle.dg_base.specs.TreeView.{said_view}
use Rattle.dg_lint.specs.Lines.{place_of, line_of, things_lines}
use Rattle.dg_lint.specs.Slips.{item_slip}
use Rattle.dg_lint.specs.declared.slip.Slip.{Slip}
use Rattle.dg_lint.specs.inside.View.{uses_view}
use Rattle.dg_lint.proofs.LineLemmas.{on_ok}
use Rattle.dg_lint.proofs.lines.push_item.Goals as goal

pub returns : goal.returns
returns c =
    let u = uses_view c.args.uses.now in
    let said = said_view c.args.item.now.body in
    let old = c.args.text.now.items in
    let place = place_of c.args.file.now c.args.item.now.line in
    let first = c.in_ok-push_line.ensures
    ∙ ap (λ (s : Option Slip). old ++ line_of c.as_slice.result.now [] s) c.item_slip.ensures
    ∙ ap (λ (p : List ℕ). old ++ line_of p [] (item_slip said)) (c.as_slice.ensures.value ∙ c.in_ok-place.ensures) in
    on_ok c.push_said.result
    (λ e. e
    ∙ ap (λ (p : List ℕ). c.push_line.new.text.items ++ things_lines p u said) (c.as_slice-2.ensures.value ∙ c.in_ok-place.ensures)
    ∙ ap (λ (l : List ℕ). l ++ things_lines place u said) first
    ∙ append_assoc old (line_of place [] (item_slip said)) (things_lines place u said))
    c.push_said.ensures
