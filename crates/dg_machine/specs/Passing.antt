-- Which rules a first argument excludes, as the store shows it. Hold it against dg_mid/specs/Code.antt.
use Rattle.std.specs.Prelude.{List, [], ◌∷◌, Option, Some, None, Bool, true, false, if◌then◌else◌}
use Rattle.dg_meaning.specs.Values.{Label, Pair, Closure}
use Rattle.dg_meaning.specs.Substitutions.{walk}
use Rattle.dg_meaning.specs.Selection.{differs_from}
use Rattle.dg_unify.specs.Store.{Store, Shows, told, label_of as simple_label}
use Rattle.dg_unify.specs.declared.bindings.Ref.{Ref}
use Rattle.dg_unify.specs.declared.bindings.View.{View}
use Rattle.dg_unify.specs.declared.bindings.View.TheVariants as view
use Rattle.dg_mid.specs.declared.code.Key.{Key}
use Rattle.dg_mid.specs.declared.code.RuleCode.{RuleCode}
use Rattle.dg_mid.specs.Code.{label_of}

-- There is a label.
abbrev pub has_label : Option Label → Bool
has_label None = false
has_label (Some f) = true

-- What a view shows has another label than a key; an unknown word has another than each.
abbrev pub view_differs : View → Key → Bool
view_differs (view.Unbound r) k = false
view_differs (view.Simple x) k = differs_from (simple_label x) (label_of k)
view_differs (view.Pair head tail) k = differs_from Pair (label_of k)
view_differs (view.Closure place r) k = differs_from (Closure place) (label_of k)
view_differs (view.Unknown r) k = has_label (label_of k)

-- What the first argument shows, where there is one, excludes the rules of a key.
abbrev pub view_excludes : Option View → Key → Bool
view_excludes None k = false
view_excludes (Some v) k = view_differs v k

-- The rules from the first on that isn't excluded.
abbrev pub codes_from : Option View → List RuleCode → List RuleCode
codes_from first [] = []
codes_from first (rule ∷ rules) = if view_excludes first rule.key then codes_from first rules else rule ∷ rules

-- This is what the first of some Refs shows, where there is one.
abbrev pub IsFirst : Store → List Ref → Option View → Type 0
IsFirst s [] None = Unit {0}
IsFirst s (r ∷ rs) (Some v) = Shows s (walk s.state.subst (told s r)) v
IsFirst s rs first = ⊥
