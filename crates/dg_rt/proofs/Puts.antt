-- Routines that are written one after another.
use Rattle.std.proofs.Common.{◌≡◌, List, [], ◌∷◌, ◌++◌, ap, ◌∙◌, append_assoc}

-- one more behind others
pub one_more : {A : Type 0} (base ys xs zs : List A) (r : A) → xs ≡ base ++ ys → zs ≡ xs ++ r ∷ [] → zs ≡ base ++ (ys ++ r ∷ [])
one_more base ys xs zs r e f = f ∙ ap (λ l. l ++ r ∷ []) e ∙ append_assoc base ys (r ∷ [])
