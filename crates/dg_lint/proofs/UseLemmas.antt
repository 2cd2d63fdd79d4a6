-- What is used behind things is used one by one, and what is used of items is used of them all at once.
use Rattle.std.proofs.Common.{◌≡◌, ℕ, List, [], ◌∷◌, ◌++◌, Bool, refl, sym, ◌∙◌, ap}
use Rattle.dg_base.specs.Mentions.{Thing, names_in, things_in}
use Rattle.dg_base.specs.Tree.{Item}
use Rattle.dg_base.proofs.MentionLemmas.{names_append}
use Rattle.dg_names.specs.Scopes.{with_names}
use Rattle.dg_names.proofs.FirstLemmas.{firsts_of, with_append}
use Rattle.dg_lint.specs.Uses.{Uses, asks, gives, changes, is_access, named_where, names_where, uses_of}
use Rattle.dg_lint.specs.inside.View.{unused, used, used_by}

abbrev make : List (List ℕ) → List (List ℕ) → List (List ℕ) → Uses
make a g c = record { asked = a; given = g; changed = c }

pub same_uses : (a a' g g' c c' : List (List ℕ)) → a ≡ a' → g ≡ g' → c ≡ c' → make a g c ≡ make a' g' c'
same_uses a a' g g' c c' ae ge ce =
    ap (λ (x : List (List ℕ)). make x g c) ae
    ∙ ap (λ (x : List (List ℕ)). make a' x c) ge
    ∙ ap (λ (x : List (List ℕ)). make a' g' x) ce

names_on : (f : Thing → List (List ℕ)) (ks : List (List ℕ)) (a b : List Thing) → with_names ks (names_in f (a ++ b)) ≡ with_names (with_names ks (names_in f a)) (names_in f b)
names_on f ks a b = ap (with_names ks) (names_append f a b) ∙ with_append ks (names_in f a) (names_in f b)

pub used_append : (all : Bool) (a b : List Thing) (u : Uses) → used all (a ++ b) u ≡ used all b (used all a u)
used_append all a b u = same_uses _ _ _ _ _ _
    (names_on (named_where all asks) u.asked a b) (names_on (named_where all gives) u.given a b) (names_on (named_where all changes) u.changed a b)

-- Names that are there already, and those of items.
abbrev with_items : List Item → Uses → Uses
with_items is u = make (with_names u.asked (names_where asks is)) (with_names u.given (names_where gives is)) (with_names u.changed (names_where changes is))

used_items : (is : List Item) (u : Uses) → used_by is u ≡ with_items is u
used_items [] u = refl
used_items (i ∷ is) u =
    used_items is (used (is_access i.said) (things_in i.said) u)
    ∙ same_uses _ _ _ _ _ _
    (sym (with_append u.asked (names_in (named_where (is_access i.said) asks) (things_in i.said)) (names_where asks is)))
    (sym (with_append u.given (names_in (named_where (is_access i.said) gives) (things_in i.said)) (names_where gives is)))
    (sym (with_append u.changed (names_in (named_where (is_access i.said) changes) (things_in i.said)) (names_where changes is)))

pub used_all : (is : List Item) → used_by is unused ≡ uses_of is
used_all is = used_items is unused ∙ same_uses _ _ _ _ _ _ (firsts_of (names_where asks is)) (firsts_of (names_where gives is)) (firsts_of (names_where changes is))
