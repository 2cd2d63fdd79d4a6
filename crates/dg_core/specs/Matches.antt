-- The closures that stand in a rule are those that it mentions.
use Rattle.std.specs.Prelude.{◌≡◌, false}
use Rattle.dg_base.specs.Mentions.{Thing, query, Mentions, nothing, thing, closed, of_body}
use Rattle.dg_base.specs.declared.mentions.Role.TheVariants as role
use Rattle.dg_core.specs.Bodies.{Closed, no_closure, a_closure, in_branches}

-- A query that stands as a value isn't left.
abbrev pub IsPlain : Thing → Type 0
IsPlain (query role.Nested ps) = ⊥
IsPlain t = Unit {0}

-- No such query stands here, at any depth.
abbrev pub ArePlain : Mentions → Type 0
ArePlain nothing = Unit {0}
ArePlain (thing t ms) = IsPlain t × ArePlain ms
ArePlain (closed inner ms) = ArePlain inner × ArePlain ms

-- These closures are those that are mentioned here, one after the other and within each other.
abbrev pub Matches : Mentions → Closed → Type 0
Matches nothing no_closure = Unit {0}
Matches nothing (a_closure b inner cs) = ⊥
Matches (thing t ms) cs = Matches ms cs
Matches (closed within ms) no_closure = ⊥
Matches (closed within ms) (a_closure b inner cs) = (within ≡ of_body false b) × (inner ≡ in_branches b) × Matches within inner × Matches ms cs
