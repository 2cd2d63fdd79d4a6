use Rattle.std.proofs.Common.{◌≡◌, ◌++◌, drop, map}
use Rattle.dg_scopes.specs.declared.variables.Entry.{Entry}
use Rattle.dg_scopes.specs.inside.View.{names_view}
use Rattle.dg_scopes.proofs.scanning.names_of.Given as goal

abbrev pub invariant-loop-entry : goal.invariant-loop-entry
invariant-loop-entry l = names_view l.names.items ++ map (λ (e : Entry). e.name.now) (drop l.entry-index l.entries) ≡ map (λ (e : Entry). e.name.now) l.entries
