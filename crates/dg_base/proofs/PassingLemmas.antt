-- Items that are counted one by one, and all up to one at once.
use Rattle.std.proofs.Common.{◌≡◌, ◌||◌, List, [], ◌∷◌, ◌++◌, Bool, Option, Some, None, refl, sym, ◌∙◌, ap}
use Rattle.std.specs.Prelude.{if◌then◌else◌, Result, Ok, Err}
use Rattle.dg_base.specs.Tree.{Said, Item}
use Rattle.dg_base.specs.declared.refusal.Refusal.{Refusal}
use Rattle.dg_base.specs.declared.refusal.Kind.TheVariants.{TooMany}
use Rattle.dg_base.specs.Passing.{first_passing, passing, IsCounted}

pub passing_is_first : {M : Type 0} (large : Said → Bool) (behind : M → Said → M) (many : M → Bool) (counted : List Item → M) (all : List Item → Bool) → ((before : List Item) (i : Item) → counted (before ++ i ∷ []) ≡ behind (counted before) i.said) → ((is : List Item) → many (counted is) ≡ all is) → (before is : List Item) → passing large behind many (counted before) is ≡ first_passing large all before is
passing_is_first large behind many counted all push same before [] = refl
passing_is_first {M = M} large behind many counted all push same before (i ∷ is) =
    ap (λ (m : M). if large i.said || many m then Some i else passing large behind many m is) (sym (push before i))
    ∙ ap (λ (b : Bool). if large i.said || b then Some i else passing large behind many (counted (before ++ i ∷ [])) is) (same (before ++ i ∷ []))
    ∙ ap (λ (o : Option Item). if large i.said || all (before ++ i ∷ []) then Some i else o) (passing_is_first large behind many counted all push same (before ++ i ∷ []) is)

some_same : (a b : Item) → Some a ≡ Some b → a ≡ b
some_same a b e = cc

-- there is one answer
pub one_answer : {A : Type 0} (first : Option Item) (new : A) (a b : Result A Refusal) → IsCounted first new a → IsCounted first new b → a ≡ b
one_answer {A = A} first new (Ok a) (Ok b) x y = ap (λ (n : A). Ok n) (x.1 ∙ sym (y.1))
one_answer first new (Ok a) (Err r) x y = absurd (let no : None ≡ Some y.0 = sym (x.0) ∙ y.1 in cc)
one_answer first new (Err r) (Ok b) x y = absurd (let no : None ≡ Some x.0 = sym (y.0) ∙ x.1 in cc)
one_answer first new (Err r) (Err q) x y =
    ap (λ (e : Refusal). Err e) (x.2 ∙ ap (λ (i : Item). record { kind = TooMany; line = i.line }) (some_same x.0 y.0 (sym (x.1) ∙ y.1)) ∙ sym (y.2))
