use Rattle.std.proofs.Common.{◌≡◌, ◌++◌, drop}
use Rattle.dg_core.proofs.rows.add_names.Given as goal

abbrev pub invariant-loop-name : goal.invariant-loop-name
invariant-loop-name l = l.variables.items ++ drop l.name-index l.names ≡ l.initial.variables.items ++ l.names
