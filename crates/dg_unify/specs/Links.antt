-- What the bindings of variables are, as a list. Hold it against dg_meaning/specs/Substitutions.antt.
use Rattle.std.specs.Prelude.{◌≡◌, ℕ, ◌<◌, ◌≤◌, eqb, List, [], ◌∷◌, Option, Some, None, if◌then◌else◌, length, reverse}
use Rattle.std.specs.List.{slice_get}
use Rattle.dg_unify.specs.declared.bindings.Ref.{Ref}
use Rattle.dg_unify.specs.declared.slots.Link.{Link}

-- What a variable is bound to.
abbrev pub to_of : ℕ → List Link → Option Ref
to_of n [] = None
to_of n (l ∷ ls) = if eqb n l.var then Some l.to else to_of n ls

-- Each of these variables is bound once at most, and no other is.
abbrev pub Once : ℕ → List Link → Type 0
Once vars [] = Unit {0}
Once vars (l ∷ ls) = (l.var < vars) × (to_of l.var ls ≡ None) × Once vars ls

-- The list has for each variable what it is bound to, and has no binding at its other places.
abbrev pub Lists : List (Option Ref) → List Link → Type 0
Lists to ls = (n : ℕ) → n < length to → slice_get to n ≡ Some (to_of n ls)

-- So it is with all bindings, the oldest first, of so many variables. There may be places of further ones.
pub record AreLinked (vars : ℕ) (to : List (Option Ref)) (log : List Link) : Type 0 where
  pub once : Once vars (reverse log)
  pub lists : Lists to (reverse log)
  pub within : vars ≤ length to
