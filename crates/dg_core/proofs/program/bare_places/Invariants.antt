use Rattle.std.proofs.Common.{◌≡◌, ◌++◌, ℕ, Vec, Global, drop, map}
use Rattle.dg_core.specs.inside.View.{places_view, bare_in}
use Rattle.dg_core.proofs.program.bare_places.Given as goal

abbrev pub invariant-loop-name : goal.invariant-loop-name
invariant-loop-name l = l.bare ++ map (bare_in (places_view l.places).declared) (map (λ (n : Vec ℕ Global). n.items) (drop l.name-index l.name-items)) ≡ map (bare_in (places_view l.places).declared) (places_view l.places).names
