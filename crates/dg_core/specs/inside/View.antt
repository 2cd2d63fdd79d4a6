-- What the code holds, as plain data. The proofs alone rest on it.
use Rattle.std.specs.Prelude.{ℕ, ◌++◌, List, [], ◌∷◌, map, min, length, reverse, Bool, true, false, nat_eq, if◌then◌else◌}
use Rattle.std.specs.Borrow.{Bor}
use Rattle.std.specs.Str.{bytes_eq}
use Rattle.dg_base.specs.Tree as tree
use Rattle.dg_base.specs.Tree.{Parts, Said, Item}
use Rattle.dg_base.specs.TreeView.{value_view, head_view}
use Rattle.dg_base.specs.declared.tree.Body.{Body}
use Rattle.dg_base.specs.declared.tree.Head.{Head}
use Rattle.dg_base.specs.declared.tree.Value.{Value}
use Rattle.dg_base.specs.declared.program.Goal.{Goal}
use Rattle.dg_base.specs.declared.program.Place.{Place}
use Rattle.dg_base.specs.declared.program.Pred.{Pred}
use Rattle.dg_base.specs.declared.program.Rule.{Rule}
use Rattle.dg_names.specs.Named.{Named}
use Rattle.dg_names.specs.State.{names_view, listed, seen}
use Rattle.dg_core.specs.Core.{Before, rules_of_item, rules_from}
use Rattle.dg_base.specs.declared.program.Term.{Term}
use Rattle.dg_core.specs.Bodies.{direct, in_value, in_parts}
use Rattle.dg_core.specs.Goals as spec
use Rattle.dg_core.specs.Goals.{at, past}
use Rattle.dg_core.specs.inside.Making.{bodies_view, Terms}
use Rattle.dg_core.specs.Places.{Placed, kind_of, values_named, values_behind}
use Rattle.dg_core.specs.declared.program.Before.{Before as CodeBefore}
use Rattle.dg_core.specs.declared.scope.Places.{Places}
use Rattle.dg_core.specs.declared.scope.Scope.{Scope}

-- What the names in a rule stand for.
abbrev pub scope_view : Scope → spec.Scope
scope_view scope = record {
  names = names_view scope.names.now;
  places = listed scope.places.now.names;
  variables = seen scope.variables.items;
  closures = scope.closures.items;
  before = 0;
}

-- A scope where these closures were found before.
abbrev pub scope_behind : Scope → List (Bor Body) → spec.Scope
scope_behind scope found = at (scope_view scope) (length (bodies_view found))

-- The terms that were made, the last of them first, with the closures that were found.
abbrev pub terms_made : List Term → List (Bor Body) → Terms
terms_made terms found = record { terms = reverse terms; found = bodies_view found }

-- The closures that stand directly in values.
abbrev pub directs : List tree.Value → List tree.Body
directs [] = []
directs (v ∷ vs) = direct (in_value v) ++ directs vs

-- The names of places, and which of them are declared.
abbrev pub places_view : Places → Placed
places_view places = record { names = listed places.names; declared = listed places.declared }

-- What names stand for outside rules, these being the places.
abbrev pub outer_in : Named → List (List ℕ) → spec.Scope
outer_in names places = record { names = names; places = places; variables = []; closures = []; before = 0 }

-- A place in which nothing starts set, some names being declared.
abbrev pub bare_in : List (List ℕ) → List ℕ → Place
bare_in declared name = record { kind = kind_of declared name; start = [] }

-- Values that are lent.
abbrev pub values_view : List (Bor Value) → List tree.Value
values_view vs = map (λ (v : Bor Value). value_view v.now) vs

-- How many values a character of a name stands for, and whether the next one stands behind a backslash.
abbrev pub value_at : Bool → ℕ → ℕ
value_at true c = 0
value_at false c = if nat_eq c 92 then 0 else (if nat_eq c 36 then 1 else 0)

abbrev pub escape_at : Bool → ℕ → Bool
escape_at true c = false
escape_at false c = nat_eq c 92

-- The number of values in what is left of a name, behind a backslash or not.
abbrev pub named_behind : Bool → List ℕ → ℕ
named_behind true name = values_behind name
named_behind false name = values_named name

-- Heads that are lent.
abbrev pub heads_view : List (Bor Head) → List Parts
heads_view hs = map (λ (h : Bor Head). head_view h.now) hs

-- A rule in this scope with so many selects before it, whose body is followed by these goals.
abbrev pub rule_in : spec.Scope → ℕ → Parts → tree.Body → List Goal → Rule
rule_in scope n ps b behind = record {
  vars = min (length scope.variables) 65535;
  head = spec.terms_of scope ps;
  body = spec.body_goals (past scope (in_parts ps)) n b ++ behind;
}

-- A predicate to which an item gives its rule.
abbrev pub with_rules_in : spec.Scope → Before → Said → Pred → Pred
with_rules_in around n said pred = record pred { rules = pred.rules ++ rules_of_item around n pred.name said }

-- A predicate with one rule more where its name is this one.
abbrev pub with_rule : List ℕ → Rule → Pred → Pred
with_rule name rule pred = record pred { rules = pred.rules ++ (if bytes_eq name pred.name then rule ∷ [] else []) }

-- A predicate to which the items give their rules.
abbrev pub with_all : spec.Scope → Before → List Item → Pred → Pred
with_all around n items pred = record pred { rules = pred.rules ++ rules_from around n pred.name items }

-- How many selects and closures stand before an item.
abbrev pub before_view : CodeBefore → Before
before_view n = record { selects = n.selects; closures = n.closures }

-- The names of predicates.
abbrev pub pred_names : List Pred → List (List ℕ)
pred_names preds = map (λ (p : Pred). p.name) preds
