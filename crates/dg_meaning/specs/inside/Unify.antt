-- Unification of two values, and of one thing after another. Hold it against docs/LANGUAGE.md, where it says when two values unify.
use Rattle.std.specs.Prelude.{[], ◌∷◌, ◌++◌, if◌then◌else◌}
use Rattle.dg_meaning.specs.Values.{Value}
use Rattle.dg_meaning.specs.Substitutions.{Substitution}
use Rattle.dg_meaning.specs.Unify.{Equations, Turn, Goes, Binds, Clashes, Unified, clashed, counted, solve}

-- Two values.
abbrev pub unify : Substitution → Value → Value → Unified
unify S a b = solve S ((a, b) ∷ [])

-- What comes of one thing, and where it agrees of the next.
abbrev pub and_then : Unified → (Substitution → Unified) → Unified
and_then u next = if u.agrees then counted u.count (next u.subst) else u

-- What comes of a turn, with these equations left.
abbrev pub solve_turn : Substitution → Equations → Turn → Unified
solve_turn S es (Goes parts) = solve S (parts ++ es)
solve_turn S es (Binds x v) = solve ((x, v) ∷ S) es
solve_turn S es Clashes = clashed S
