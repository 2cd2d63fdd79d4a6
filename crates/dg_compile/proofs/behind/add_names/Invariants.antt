use Rattle.std.proofs.Common.{◌≡◌, drop, map}
use Rattle.dg_names.specs.Scopes.{with_names}
use Rattle.dg_names.specs.State.{listed}
use Rattle.dg_compile.proofs.behind.add_names.Given as goal

abbrev pub invariant-loop-name : goal.invariant-loop-name
invariant-loop-name l = with_names (listed l.preds) (map (λ name. name.now) (drop l.name-index l.names)) ≡ with_names (listed l.initial.preds) (map (λ name. name.now) l.names)
