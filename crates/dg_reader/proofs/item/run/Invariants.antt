use Rattle.std.proofs.Common.{◌≡◌, ◌∷◌, [], Some, map, take}
use Rattle.dg_reader.specs.inside.Machine.{run}
use Rattle.dg_open.specs.inside.Standing.{start}
use Rattle.dg_reader.specs.TokenView.{token_view}
use Rattle.dg_open.specs.inside.Views.{stack_view}
use Rattle.dg_reader.proofs.item.run.Given as goal

abbrev pub invariant-loop-index : goal.invariant-loop-index
invariant-loop-index l = run (map token_view (take l.index l.tokens)) (start ∷ []) ≡ Some (stack_view l.stack.items)
