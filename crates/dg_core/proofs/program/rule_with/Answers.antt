use Rattle.std.proofs.Common.{◌≡◌, ◌+◌, ◌∙◌, ℕ, List, map, ap}
use Rattle.dg_base.specs.TreeView.{head_view, body_view}
use Rattle.dg_scopes.specs.inside.View.{layout_view, layouts_view}
use Rattle.dg_scopes.specs.declared.layouts.Layout.{Layout}
use Rattle.dg_core.specs.Goals.{Scope}
use Rattle.dg_core.specs.inside.Making.{bodies_view}
use Rattle.dg_core.specs.inside.View.{scope_view, before_view}
use Rattle.dg_core.specs.inside.Waiting.{home_of, waiting_from}
use Rattle.dg_core.proofs.KeptLemmas.{rule_is, rule_waits}
use Rattle.dg_core.proofs.program.rule_with.Goals as goal

pub returns-clause-rule : goal.returns-clause-rule
returns-clause-rule c =
    let around = scope_view c.args.around.now in
    let ls = layouts_view c.args.layouts in
    let first = c.args.before.now.closures in
    let inside = c.in_ok-scope.ensures ∙ ap (λ (ps : List ℕ). record around { variables = ls.variables; closures = map (λ p. first + p) ps; before = 0 }) c.as_slice.ensures.value in
    c.in_ok-rule.ensures.rule
    ∙ rule_is around (scope_view c.in_ok-scope.scope) (before_view c.args.before.now) (head_view c.args.head.now) (body_view c.args.body.now) c.args.behind ls c.requires inside

pub returns-clause-kept : goal.returns-clause-kept
returns-clause-kept c =
    let around = scope_view c.args.around.now in
    let ls = layouts_view c.args.layouts in
    let first = c.args.before.now.closures in
    let kept = c.in_ok-kept.kept in
    let found = bodies_view c.in_ok-rule.found in
    let here : home_of around kept ≡ record { around = around; layouts = ls.closures; first = first } = ap (λ (x : List Layout). record { around = around; layouts = map layout_view x; first = kept.first }) c.in_ok-kept.ensures.layouts
    ∙ ap (λ (k : ℕ). record { around = around; layouts = ls.closures; first = k }) c.in_ok-kept.ensures.first in
    rule_waits around first (head_view c.args.head.now) (body_view c.args.body.now) kept ls found c.requires here c.in_ok-rule.ensures.found
    (c.in_ok-kept.ensures.left
    ∙ ap (λ (s : Scope). waiting_from ls.closures s.variables c.as_slice-2.result.now 0 found) c.in_ok-scope.ensures
    ∙ ap (λ (ps : List ℕ). waiting_from ls.closures ls.variables ps 0 found) c.as_slice-2.ensures.value)
