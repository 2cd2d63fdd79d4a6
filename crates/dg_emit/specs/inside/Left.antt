-- Terms that are left to look at. The proofs alone rest on it.
use Rattle.std.specs.Borrow.{Bor}
use Rattle.std.specs.Prelude.{ℕ, List, [], ◌∷◌, length, map, reverse}
use Rattle.dg_base.specs.declared.program.Term.{Term}
use Rattle.dg_base.specs.declared.program.Term.TheOpen as term
use Rattle.dg_meaning.specs.Cells.{nodes_of}

-- What stands in a node.
abbrev pub parts_of : term.Term-F Term → List Term
parts_of (term.Pair head tail) = head ∷ tail ∷ []
parts_of other = []

-- Terms that are referred to.
abbrev pub those : List (Bor Term) → List Term
those terms = map (λ (t : Bor Term). t.now) terms

-- Terms that were put behind one another, the last first.
abbrev pub left : List (Bor Term) → List Term
left terms = reverse (those terms)

-- How many nodes they have.
abbrev pub nodes_left : List (Bor Term) → ℕ
nodes_left terms = length (nodes_of (left terms))
