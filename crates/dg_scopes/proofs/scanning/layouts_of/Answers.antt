use Rattle.std.proofs.Common.{ℕ, List, map, ◌∙◌, ap}
use Rattle.dg_scopes.specs.Counts.{times}
use Rattle.dg_scopes.specs.State.{total_in}
use Rattle.dg_scopes.specs.declared.variables.Entry.{Entry}
use Rattle.dg_base.specs.Mentions.{Thing, names_in, variable_in, of_said, things_in}
use Rattle.dg_base.specs.TreeView.{said_view}
use Rattle.dg_base.specs.Walk.{Met, seen, things_at}
use Rattle.dg_base.specs.declared.mentions.Mention.{Mention}
use Rattle.dg_scopes.specs.inside.Scanning.{scanned, start}
use Rattle.dg_scopes.specs.inside.View.{layout_view, scan_view}
use Rattle.dg_scopes.proofs.StackLemmas.{names_seen}
use Rattle.dg_scopes.proofs.ScanLemmas.{item_scanned}
use Rattle.dg_scopes.proofs.scanning.layouts_of.Goals as goal

pub returns : goal.returns
returns c =
    let said = said_view c.args.said.now in
    let total = total_in c.in_ok-totals.totals in
    let scan = c.in_ok-scan.scan in
    ap (λ (ns : List (List ℕ)). record { variables = ns; places = scan.inner.places.items; closures = map layout_view scan.layouts.items })
    (c.in_ok-names_of.ensures ∙ ap (map (λ (e : Entry). e.name.now)) c.as_slice-3.ensures.value ∙ names_seen scan.inner.entries.items)
    ∙ item_scanned total (names_in variable_in (things_in said)) (of_said said) (scan_view scan)
    (λ n. c.in_ok-totals.ensures n
    ∙ ap (λ (ms : List Mention). times n (names_in variable_in (things_at (seen ms)))) c.as_slice.ensures.value
    ∙ ap (λ (ts : List Thing). times n (names_in variable_in ts)) c.in_ok-mentions.ensures.things)
    (c.in_ok-scan.ensures
    ∙ ap (λ (ms : List Mention). scanned total (seen ms) start) c.as_slice-2.ensures.value
    ∙ ap (λ (ms : List Met). scanned total ms start) c.in_ok-mentions.ensures.walk)
