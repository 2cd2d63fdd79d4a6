-- Values inside values, and the boxes on the way down.
use Rattle.std.specs.Prelude.{◌≡◌, ℕ, ◌+◌, ◌<◌, List, [], ◌∷◌, ◌++◌, Some}
use Rattle.dg_meaning.specs.Values.{Value, Values, NoMore, More}
use Rattle.dg_meaning.specs.Substitutions.{Substitution, resolved}
use Rattle.dg_meaning.specs.Unify.{size}
use Rattle.dg_rt.specs.Shapes.{Shape}

-- Whatever is bound later, the first is smaller than the second.
abbrev pub Smaller : Substitution → Value → Value → Type 0
Smaller S v w = (made : Substitution) → size (resolved (made ++ S) v) < size (resolved (made ++ S) w)

-- The same of each of some values.
abbrev pub AllSmaller : Substitution → Values → Value → Type 0
AllSmaller S NoMore w = Unit {0}
AllSmaller S (More v vs) w = Smaller S v w × AllSmaller S vs w

-- A value stands inside the boxes at these places, each inside the next.
pub data Below (sh : Shape) (S : Substitution) : List ℕ → Value → Type 0 where
  on_top : (v : Value) → Below sh S [] v
  under : (ks : List ℕ) (v : Value) (k : ℕ) (w : Value) → k + 2 < 10000 → sh.box k ≡ Some w → Smaller S v w → Below sh S ks w →
      Below sh S (k ∷ ks) v
