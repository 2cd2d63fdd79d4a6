use Rattle.std.proofs.Common.{◌≡◌, drop}
use Rattle.dg_scopes.specs.State.{total_in}
use Rattle.dg_base.specs.Walk.{seen}
use Rattle.dg_scopes.specs.inside.Scanning as spec
use Rattle.dg_scopes.specs.inside.Scanning.{start}
use Rattle.dg_scopes.specs.inside.View.{scan_view}
use Rattle.dg_scopes.proofs.scanning.scanned.Given as goal

abbrev pub invariant-loop-mention : goal.invariant-loop-mention
invariant-loop-mention l = spec.scanned (total_in l.totals) (seen (drop l.mention-index l.mentions)) (scan_view l.scan) ≡ spec.scanned (total_in l.totals) (seen l.mentions) start
