-- Which rules a query passes by. Hold it against the Dialog manual, chapter "Rules", and dg_meaning/specs/Selection.antt.
use Rattle.std.specs.Prelude.{◌≡◌, List, [], ◌∷◌, Bool, true, false, Option, Some, None, if◌then◌else◌}
use Rattle.dg_base.specs.declared.program.Rule.{Rule}
use Rattle.dg_base.specs.declared.program.Term.{Term, out-Term}
use Rattle.dg_base.specs.declared.program.Term.TheOpen as term
use Rattle.dg_meaning.specs.Values.{Label, Pair, Closure, Value}
use Rattle.dg_meaning.specs.Substitutions.{walk}
use Rattle.dg_meaning.specs.Selection.{label_at, differs_from, first_excludes, from_candidate}
use Rattle.dg_unify.specs.Store.{Store, label_of, Shows}
use Rattle.dg_unify.specs.declared.bindings.View.{View}
use Rattle.dg_unify.specs.declared.bindings.View.TheVariants as view

-- There is a label.
abbrev pub has_label : Option Label → Bool
has_label None = false
has_label (Some f) = true

-- What a view shows has another label than a term; an unknown word has another than each.
abbrev pub top_differs : View → term.Term-F Term → Bool
top_differs (view.Unbound r) t = false
top_differs (view.Simple x) t = differs_from (label_of x) (label_at t)
top_differs (view.Pair head tail) t = differs_from Pair (label_at t)
top_differs (view.Closure place r) t = differs_from (Closure place) (label_at t)
top_differs (view.Unknown r) t = has_label (label_at t)

-- What the first argument shows, where there is one, excludes the head of a rule.
abbrev pub view_excludes : Option View → List Term → Bool
view_excludes None head = false
view_excludes (Some v) [] = false
view_excludes (Some v) (t ∷ ts) = top_differs v (out-Term t)

-- Rules from the first on that isn't excluded.
abbrev pub rules_from : Option View → List Rule → List Rule
rules_from first [] = []
rules_from first (rule ∷ rules) = if view_excludes first rule.head then rules_from first rules else rule ∷ rules

-- This is what the first of some values is, where there is one.
abbrev pub IsFirst : Store → List Value → Option View → Type 0
IsFirst s [] None = Unit {0}
IsFirst s (v ∷ vs) (Some first) = Shows s (walk s.state.subst v) first
IsFirst s vs first = ⊥

-- The first of some rules isn't excluded.
abbrev pub IsCandidate : Store → List Value → List Rule → Type 0
IsCandidate s args [] = Unit {0}
IsCandidate s args (rule ∷ rules) = first_excludes s.state.subst args rule.head ≡ false

-- These rules are left where the ones in front are passed by. Of any arguments of a store that shows the first one so, they begin at
-- the first rule that isn't excluded.
pub record PassesTo (first : Option View) (rules left : List Rule) : Type 0 where
  pub is : left ≡ rules_from first rules
  pub begin : (s : Store) → (args : List Value) → IsFirst s args first → left ≡ from_candidate s.state.subst args rules
  pub candidate : (s : Store) → (args : List Value) → IsFirst s args first → IsCandidate s args left
