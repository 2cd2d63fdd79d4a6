-- A text to which lines are put one by one.
use Rattle.std.proofs.Common.{◌≡◌, ℕ, List, [], ◌∷◌, ◌++◌, sym, ◌∙◌, ap, append_assoc, append-nil}
use Rattle.std.specs.Prelude.{Result, Ok, Err, OnOk, flat_map}
use Rattle.std.proofs.lemmas.Grind.{flat_map-append}

pub on_ok : {A E P Q : Type 0} (r : Result A E) → (P → Q) → OnOk r P → OnOk r Q
on_ok (Ok x) f h = f h
on_ok (Err e) f h = h

-- what is put behind is in front of the rest
pub step : (a b old new whole : List ℕ) → new ≡ old ++ a → old ++ (a ++ b) ≡ whole → new ++ b ≡ whole
step a b old new whole e is = ap (λ (l : List ℕ). l ++ b) e ∙ append_assoc old a b ∙ is

pub steps : {X : Type 0} (f : X → List ℕ) (xs ys : List X) (old new whole : List ℕ) → new ≡ old ++ flat_map f xs → old ++ flat_map f (xs ++ ys) ≡ whole → new ++ flat_map f ys ≡ whole
steps f xs ys old new whole e is = step (flat_map f xs) (flat_map f ys) old new whole e (ap (λ (l : List ℕ). old ++ l) (sym (flat_map-append f xs ys)) ∙ is)

pub alone : {X : Type 0} (f : X → List ℕ) (x : X) (old new : List ℕ) → new ≡ old ++ f x → new ≡ old ++ flat_map f (x ∷ [])
alone f x old new e = e ∙ ap (λ (l : List ℕ). old ++ l) (sym (append-nil (f x)))
