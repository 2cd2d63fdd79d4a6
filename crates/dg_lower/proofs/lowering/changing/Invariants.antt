use Rattle.std.proofs.Common.{◌≡◌, ◌++◌, ℕ, List, Vec, Global, drop, map}
use Rattle.dg_core.specs.Places.{is_among, place_names}
use Rattle.dg_lower.specs.Lowered.{changing}
use Rattle.dg_lower.specs.inside.View.{names_in, items_in}
use Rattle.dg_lower.proofs.lowering.changing.Given as goal

abbrev pub invariant-loop-name : goal.invariant-loop-name
invariant-loop-name l =
    l.all.items ++ map (λ (n : List ℕ). is_among n (place_names (items_in l.around))) (map (λ (n : Vec ℕ Global). n.items) (drop l.name-index l.name-items))
    ≡ changing (names_in l.around) (items_in l.around)
