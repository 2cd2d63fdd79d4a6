-- The parts of a term.
use Rattle.std.specs.Prelude.{List, [], ◌∷◌, ◌++◌}
use Rattle.dg_base.specs.declared.program.Term.{Term, Pair', Row_of-Term, end_of-Term, more_of-Term}

-- a term, and the terms in it at every depth
abbrev mutual
  pub nodes : Term → List Term
  nodes (Pair' s head t tail) = Pair' s head t tail ∷ (row_nodes head ++ row_nodes tail)
  nodes term = term ∷ []

  pub row_nodes : {m : _} → Row_of-Term m → List Term
  row_nodes end_of-Term = []
  row_nodes (more_of-Term term others) = nodes term ++ row_nodes others
