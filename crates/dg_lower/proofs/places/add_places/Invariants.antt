use Rattle.std.proofs.Common.{◌≡◌, ◌++◌, ℕ, Vec, Global, drop, map}
use Rattle.dg_core.specs.Places.{place_names}
use Rattle.dg_lower.specs.Lowered as spec
use Rattle.dg_lower.specs.inside.View.{names_in, items_in}
use Rattle.dg_lower.proofs.places.add_places.Given as goal

abbrev pub invariant-loop-name : goal.invariant-loop-name
invariant-loop-name l =
    let left = map (λ (n : Vec ℕ Global). n.items) (drop l.name-index l.name-items) in
    let core = spec.core_place (names_in l.around) (items_in l.around) in
    record {
      asker : l.asker ≡ l.core;
      places : l.places ++ map core left ≡ map core (place_names (items_in l.around));
      refusal : spec.place_refusal (names_in l.around) (items_in l.around) left ≡ spec.place_refusal (names_in l.around) (items_in l.around) (place_names (items_in l.around));
    }
