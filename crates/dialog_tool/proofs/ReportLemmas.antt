-- Where no answer is left, no line is.
use Rattle.std.proofs.Common.{◌≡◌, List, [], ◌∷◌, zip, refl}

pub none_left : {A B : Type 0} (l : List A) → zip {X = B} l [] ≡ []
none_left [] = refl
none_left (x ∷ l) = refl
