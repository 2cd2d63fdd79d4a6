use Rattle.std.proofs.Common.{◌≡◌, drop}
use Rattle.dg_names.specs.Scopes.{with_names}
use Rattle.dg_names.specs.State.{seen}
use Rattle.dg_names.proofs.variables.add_names.Given as goal

abbrev pub invariant-loop-name : goal.invariant-loop-name
invariant-loop-name l = with_names (seen l.names.items) (seen (drop l.name-index l.more)) ≡ with_names (seen l.initial.names.items) (seen l.more)
