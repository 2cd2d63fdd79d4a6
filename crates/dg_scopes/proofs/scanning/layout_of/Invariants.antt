use Rattle.std.proofs.Common.{◌≡◌, ◌++◌, ◌∷◌, drop}
use Rattle.dg_scopes.specs.State.{scope_view, total_in}
use Rattle.dg_scopes.specs.Closures.{parameter}
use Rattle.dg_scopes.specs.inside.Scanning.{captured_of, own_of}
use Rattle.dg_scopes.specs.inside.View.{names_view}
use Rattle.dg_scopes.proofs.scanning.layout_of.Given as goal

abbrev pub invariant-loop-entry : goal.invariant-loop-entry
invariant-loop-entry l =
    (names_view l.captured.items ++ captured_of (total_in l.totals) (scope_view (drop l.entry-index l.entries)) ≡ captured_of (total_in l.totals) (scope_view l.entries)) ×
    (names_view l.own.items ++ own_of (total_in l.totals) (scope_view (drop l.entry-index l.entries)) ≡ parameter ∷ own_of (total_in l.totals) (scope_view l.entries))
