-- What the first argument of a query excludes.
use Rattle.std.proofs.Common.{◌≡◌, List, [], ◌∷◌, Option, Some, None, ◌<◌, refl, sym, ap, ◌∙◌, subst, arith, length}
use Rattle.std.specs.Prelude.{if◌then◌else◌}
use Rattle.std.proofs.lemmas.Bool.{cond_both}
use Rattle.dg_base.specs.declared.program.Rule.{Rule}
use Rattle.dg_base.specs.declared.program.Term.{Term, out-Term}
use Rattle.dg_base.specs.declared.program.Term.TheOpen as term
use Rattle.dg_meaning.specs.Values.{Unknown, Value}
use Rattle.dg_meaning.specs.Substitutions.{walk}
use Rattle.dg_meaning.specs.Selection.{label_at, differs_from, excludes, first_excludes, from_candidate}
use Rattle.dg_unify.specs.Store.{Store, Shows}
use Rattle.dg_unify.specs.declared.bindings.View.{View}
use Rattle.dg_unify.specs.declared.bindings.View.TheVariants as view
use Rattle.dg_terms.specs.Passing.{has_label, view_excludes, rules_from, IsFirst, IsCandidate, PassesTo}

-- no term of a program is an unknown word
unknown_differs : (spelling : _) (t : term.Term-F Term) → has_label (label_at t) ≡ differs_from (Unknown spelling) (label_at t)
unknown_differs spelling (term.Num n) = refl
unknown_differs spelling (term.Word n) = refl
unknown_differs spelling (term.Object n) = refl
unknown_differs spelling term.Nil = refl
unknown_differs spelling (term.Pair head tail) = refl
unknown_differs spelling (term.Closure c) = refl
unknown_differs spelling (term.Var v) = refl

-- what a view shows excludes what the value that it shows excludes
view_is : (s : Store) (w : Value) (v : View) (head : List Term) → Shows s w v → view_excludes (Some v) head ≡ excludes w head
view_is s w (view.Unbound r) [] shows = ap (λ x. excludes x []) (sym shows.is)
view_is s w (view.Unbound r) (t ∷ ts) shows = ap (λ x. excludes x (t ∷ ts)) (sym shows.is)
view_is s w (view.Simple x) [] shows = ap (λ y. excludes y []) (sym shows)
view_is s w (view.Simple x) (t ∷ ts) shows = ap (λ y. excludes y (t ∷ ts)) (sym shows)
view_is s w (view.Pair head tail) [] shows = ap (λ y. excludes y []) (sym shows.is)
view_is s w (view.Pair head tail) (t ∷ ts) shows = ap (λ y. excludes y (t ∷ ts)) (sym shows.is)
view_is s w (view.Closure p r) [] shows = ap (λ y. excludes y []) (sym shows.is)
view_is s w (view.Closure p r) (t ∷ ts) shows = ap (λ y. excludes y (t ∷ ts)) (sym shows.is)
view_is s w (view.Unknown r) [] shows = ap (λ y. excludes y []) (sym shows.is)
view_is s w (view.Unknown r) (t ∷ ts) shows = unknown_differs shows.spelling (out-Term t) ∙ ap (λ y. excludes y (t ∷ ts)) (sym shows.is)

first_is : (s : Store) (args : List Value) (first : Option View) → IsFirst s args first → (head : List Term) → view_excludes first head ≡ first_excludes s.state.subst args head
first_is s [] None h head = refl
first_is s [] (Some v) h head = absurd h
first_is s (a ∷ args) None h head = absurd h
first_is s (a ∷ args) (Some v) h head = view_is s (walk s.state.subst a) v head h

rules_from_candidate : (s : Store) (args : List Value) (first : Option View) → IsFirst s args first → (rules : List Rule) → rules_from first rules ≡ from_candidate s.state.subst args rules
rules_from_candidate s args first h [] = refl
rules_from_candidate s args first h (rule ∷ rules) =
    ap (λ b. if b then rules_from first rules else rule ∷ rules) (first_is s args first h rule.head)
    ∙ ap (λ l. if first_excludes s.state.subst args rule.head then l else rule ∷ rules) (rules_from_candidate s args first h rules)

-- the first rule that is left isn't excluded
from_is_candidate : (s : Store) (args : List Value) (rules : List Rule) → IsCandidate s args (from_candidate s.state.subst args rules)
from_is_candidate s args [] = tt
from_is_candidate s args (rule ∷ rules) =
    cond_both (first_excludes s.state.subst args rule.head) (from_candidate s.state.subst args rules) (rule ∷ rules) (IsCandidate s args) (λ e. from_is_candidate s args rules) (λ e. e)

pub passes_to : (first : Option View) (rules left : List Rule) → left ≡ rules_from first rules → PassesTo first rules left
passes_to first rules left is = record {
  is = is;
  begin = λ s args shown. is ∙ rules_from_candidate s args first shown rules;
  candidate = λ s args shown. subst (IsCandidate s args) (sym (is ∙ rules_from_candidate s args first shown rules)) (from_is_candidate s args rules);
}

-- all were passed by
pub passes_all : (first : Option View) (rules left : List Rule) → length left < 1 → rules_from first left ≡ rules_from first rules → PassesTo first rules left
passes_all first rules [] few same = passes_to first rules [] same
passes_all first rules (r ∷ left) few same = absurd (omega (arith, few))
