-- What waits while a part of a value is looked at, and how many may wait. Hold it against dg_unify/specs/Parts.antt.
use Rattle.std.specs.Prelude.{◌≡◌, ℕ, zero, suc, ◌+◌, ◌≤◌, ◌⊎◌, nat_le, List, [], ◌∷◌, ◌++◌, Option, Some, None, if◌then◌else◌}
use Rattle.dg_meaning.specs.Substitutions.{resolved}
use Rattle.dg_meaning.specs.Unify.{size}
use Rattle.dg_unify.specs.Store.{Store, told}
use Rattle.dg_unify.specs.declared.bindings.Ref.{Ref}
use Rattle.dg_unify.specs.declared.parts.Parts.{Parts}
use Rattle.dg_unify.specs.declared.parts.Parts.TheVariants as parts
use Rattle.dg_unify.specs.declared.parts.Wait.{Wait}

-- ## Taking up and putting off

-- The newest that waits is taken up; none where nothing waits.
abbrev pub TakesUp : List Wait → List Wait → Option Wait → Type 0
TakesUp old new None = (old ≡ []) × (new ≡ [])
TakesUp old new (Some w) = old ≡ w ∷ new

-- The newest of those above others is taken up; none where there are none.
abbrev pub TakesAbove : List Wait → List Wait → List Wait → Option Wait → Type 0
TakesAbove above base new None = (above ≡ []) × (new ≡ base)
TakesAbove above base new (Some w) = (rest : List Wait) × (above ≡ w ∷ rest) × (new ≡ rest ++ base)

-- One more waits where there are parts.
abbrev pub with_parts : Parts → Wait → List Wait → List Wait
with_parts parts.Nothing w ws = ws
with_parts other w ws = w ∷ ws

-- One more waits, if its parts are any.
abbrev pub put_behind : Wait → List Wait → List Wait
put_behind w ws = with_parts w.p w ws

-- One more waits, and may be left out where it has no parts.
abbrev pub PutsBy : Wait → List Wait → List Wait → Type 0
PutsBy w old new = (new ≡ w ∷ old) ⊎ ((w.p ≡ parts.Nothing) × (new ≡ old))

-- ## How many may wait

-- The nodes of a value, resolved.
abbrev pub size_at : Store → Ref → ℕ
size_at s r = size (resolved s.state.subst (told s r))

-- How many of the first k places have a value with at most n nodes.
abbrev pub places_to : Store → ℕ → ℕ → ℕ
places_to s n zero = 0
places_to s n (suc k) = (if nat_le (size_at s (record { 0 = k })) n then 1 else 0) + places_to s n k

-- So many may wait, and beside them as many as a walk through a value lets wait: the values inside each other that it goes into have fewer and fewer
-- nodes, so no place is among them twice.
abbrev pub HasRoom : Store → ℕ → Ref → Type 0
HasRoom s n r = n + places_to s (size_at s r) s.places ≤ s.places
