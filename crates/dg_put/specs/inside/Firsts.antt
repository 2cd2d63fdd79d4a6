-- Access rules by their names, as the code finds them. The proofs alone rest on it.
use Rattle.std.specs.Prelude.{ℕ, ◌+◌, List, [], ◌∷◌, Bool, if◌then◌else◌}
use Rattle.std.specs.List.{list_any}
use Rattle.std.specs.Str.{bytes_eq}
use Rattle.dg_put.specs.Put.{Access}

-- The number of the first access rule of this name, or else how many there are.
abbrev pub first_of : List Access → List ℕ → ℕ
first_of [] name = 0
first_of (r ∷ rules) name = if bytes_eq r.name name then 0 else first_of rules name + 1

-- Whether one of these has this name.
abbrev pub is_among : List Access → List ℕ → Bool
is_among rules name = list_any (λ (r : Access). bytes_eq r.name name) rules
