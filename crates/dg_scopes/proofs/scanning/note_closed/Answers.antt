use Rattle.std.proofs.Common.{List, map, set, refl, sym, ◌∙◌, ap}
use Rattle.std.proofs.lemmas.List.{map-set}
use Rattle.dg_scopes.specs.Scopes as scopes
use Rattle.dg_scopes.specs.Scopes.{merged}
use Rattle.dg_scopes.specs.State.{scope_view, total_in}
use Rattle.dg_scopes.specs.declared.variables.Entry.{Entry}
use Rattle.dg_scopes.specs.inside.Scanning.{ended, layout_by_entries}
use Rattle.dg_scopes.specs.inside.View.{layout_view, open_view, stack_of, scan_view}
use Rattle.dg_scopes.specs.declared.layouts.Open.{Open}
use Rattle.dg_scopes.proofs.StackLemmas.{stack_push, scan_same}
use Rattle.dg_scopes.proofs.scanning.note_closed.Goals as goal

pub returns-in_ok-layout : goal.returns-in_ok-layout
returns-in_ok-layout c =
    let old = c.args.scan.now in
    let total = total_in c.args.totals.now in
    let outer = c.in-Some.outer in
    let rows = old.layouts.items in
    scan_same _ _ _ _ _ _
    (ap open_view c.replace-ended.ensures.after
    ∙ ap (λ (es : List scopes.Entry). record (open_view outer) { entries = es }) (c.in_ok-merge.ensures ∙ ap (λ (es : List Entry). merged total (scope_view outer.entries.items) (scope_view es)) c.as_slice.ensures.value))
    refl
    (ap (map layout_view) c.put.ensures
    ∙ map-set layout_view rows c.replace-ended.result.at c.in_ok-layout.layout
    ∙ ap (set (map layout_view rows) c.replace-ended.result.at) c.in_ok-layout.ensures
    ∙ ap (λ (o : Open). set (map layout_view rows) o.at (layout_by_entries total (open_view o))) c.replace-ended.ensures.value)
    ∙ ap (ended total (scan_view old)) (sym (ap stack_of c.in-Some.ensures.items ∙ stack_push c.pop.new.self.items outer))
