-- Names and weights of mentions, at every depth.
use Rattle.std.proofs.Common.{◌≡◌, ◌+◌, ◌||◌, ℕ, Bool, List, [], ◌∷◌, ◌++◌, refl, sym, ◌∙◌, ap, append_assoc, arith}
use Rattle.std.specs.List.{list_any}
use Rattle.std.proofs.lemmas.List.Folds.{list_any-append}
use Rattle.dg_base.specs.Tree.{Item}
use Rattle.dg_base.specs.Mentions.{Thing, Mentions, nothing, thing, closed, closure, join, things, things_in, mentioned, names_in, weight_of}
use Rattle.dg_base.specs.Walk.{Met, met, opens, closes, walk, thing_at, things_at}

pub walk_join : (a b : Mentions) → walk (join a b) ≡ walk a ++ walk b
walk_join nothing b = refl
walk_join (thing t ms) b = ap (λ (l : List Met). met t ∷ l) (walk_join ms b)
walk_join (closed inner ms) b =
    ap (λ (l : List Met). opens ∷ (walk inner ++ closes ∷ l)) (walk_join ms b)
    ∙ ap (λ (l : List Met). opens ∷ l) (sym (append_assoc (walk inner) (closes ∷ walk ms) (walk b)))

pub things_join : (a b : Mentions) → things (join a b) ≡ things a ++ things b
things_join nothing b = refl
things_join (thing t ms) b = ap (λ (l : List Thing). t ∷ l) (things_join ms b)
things_join (closed inner ms) b =
    ap (λ (l : List Thing). closure ∷ (things inner ++ l)) (things_join ms b)
    ∙ ap (λ (l : List Thing). closure ∷ l) (sym (append_assoc (things inner) (things ms) (things b)))

things_append : (a b : List Met) → things_at (a ++ b) ≡ things_at a ++ things_at b
things_append [] b = refl
things_append (m ∷ a) b = ap (λ (l : List Thing). thing_at m ++ l) (things_append a b) ∙ sym (append_assoc (thing_at m) (things_at a) (things_at b))

pub things_walk : (ms : Mentions) → things_at (walk ms) ≡ things ms
things_walk nothing = refl
things_walk (thing t ms) = ap (λ (l : List Thing). t ∷ l) (things_walk ms)
things_walk (closed inner ms) =
    ap (λ (l : List Thing). closure ∷ l)
    (things_append (walk inner) (closes ∷ walk ms)
    ∙ ap (λ (l : List Thing). l ++ things_at (walk ms)) (things_walk inner)
    ∙ ap (λ (l : List Thing). things inner ++ l) (things_walk ms))

pub names_append : (f : Thing → List (List ℕ)) (a b : List Thing) → names_in f (a ++ b) ≡ names_in f a ++ names_in f b
names_append f [] b = refl
names_append f (m ∷ a) b = ap (λ (l : List (List ℕ)). f m ++ l) (names_append f a b) ∙ sym (append_assoc (f m) (names_in f a) (names_in f b))

pub weight_append : (f : Thing → ℕ) (a b : List Thing) → weight_of f (a ++ b) ≡ weight_of f a + weight_of f b
weight_append f [] b = omega arith
weight_append f (m ∷ a) b = omega (arith, weight_append f a b)

pub nil_behind : (xs : List Thing) → xs ++ [] ≡ xs
nil_behind [] = refl
nil_behind (x ∷ xs) = ap (λ (l : List Thing). x ∷ l) (nil_behind xs)

-- one item more
pub mentioned_push : (before : List Item) (i : Item) → mentioned (before ++ i ∷ []) ≡ mentioned before ++ things_in i.said
mentioned_push [] i = nil_behind (things_in i.said)
mentioned_push (j ∷ before) i =
    ap (λ (l : List Thing). things_in j.said ++ l) (mentioned_push before i)
    ∙ sym (append_assoc (things_in j.said) (mentioned before) (things_in i.said))

-- a test of what is mentioned at one step, and at those behind it
pub any_at : (test : Thing → Bool) (m : Met) (ms : List Met) → list_any test (things_at (m ∷ ms)) ≡ (list_any test (thing_at m) || list_any test (things_at ms))
any_at test m ms = list_any-append test (thing_at m) (things_at ms)
