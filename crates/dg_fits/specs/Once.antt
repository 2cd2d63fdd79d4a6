-- How many terms of a program are closures.
use Rattle.std.specs.Prelude.{ℕ, ◌+◌, ◌≤◌, List, [], ◌∷◌, length}
use Rattle.dg_base.specs.declared.program.ClosureBody.{ClosureBody}
use Rattle.dg_base.specs.declared.program.CoreProgram.{CoreProgram}
use Rattle.dg_base.specs.declared.program.Goal.{Goal, out-Goal}
use Rattle.dg_base.specs.declared.program.Place.{Place}
use Rattle.dg_base.specs.declared.program.Pred.{Pred}
use Rattle.dg_base.specs.declared.program.Rule.{Rule}
use Rattle.dg_base.specs.declared.program.Term.{Term, out-Term}
use Rattle.dg_base.specs.declared.program.Term.TheOpen.{Term-F, Closure}
use Rattle.dg_base.specs.Goals.{all_goals_of, terms_held}
use Rattle.dg_base.specs.Terms.{nodes}

abbrev pub in_node : Term-F Term → ℕ
in_node (Closure c) = 1
in_node layer = 0

abbrev pub in_nodes : List Term → ℕ
in_nodes [] = 0
in_nodes (node ∷ nodes) = in_node (out-Term node) + in_nodes nodes

-- Those in a term, at every depth.
abbrev pub in_term : Term → ℕ
in_term term = in_nodes (nodes term)

abbrev pub in_terms : List Term → ℕ
in_terms [] = 0
in_terms (term ∷ terms) = in_term term + in_terms terms

abbrev pub in_goals : List Goal → ℕ
in_goals [] = 0
in_goals (goal ∷ goals) = in_terms (terms_held (out-Goal goal)) + in_goals goals

-- Those in a body, with its goals at every depth.
abbrev pub in_body : List Goal → ℕ
in_body body = in_goals (all_goals_of body)

abbrev pub in_rules : List Rule → ℕ
in_rules [] = 0
in_rules (rule ∷ rules) = in_terms rule.head + in_body rule.body + in_rules rules

abbrev pub in_preds : List Pred → ℕ
in_preds [] = 0
in_preds (pred ∷ preds) = in_rules pred.rules + in_preds preds

abbrev pub in_closures : List ClosureBody → ℕ
in_closures [] = 0
in_closures (closure ∷ closures) = in_body closure.body + in_closures closures

abbrev pub in_starts : List (ℕ × Term) → ℕ
in_starts [] = 0
in_starts (start ∷ starts) = in_term start.1 + in_starts starts

abbrev pub in_places : List Place → ℕ
in_places [] = 0
in_places (place ∷ places) = in_starts place.start + in_places places

-- There are no more of them than closures: each closure stands in one term at most.
abbrev pub StandOnce : CoreProgram → Type 0
StandOnce program = in_preds program.preds + in_closures program.closures + in_places program.places ≤ length program.closures
