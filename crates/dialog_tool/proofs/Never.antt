-- What doesn't hold: a test that fails, nothing that is something, a value that is a refusal.
use Rattle.std.proofs.Common.{◌≡◌, true, false, Option, Some, None, Result, Ok, Err}

pub never : {A : Type 0} → false ≡ true → A
never h = cc

pub not_some : {A B : Type 0} (o : Option A) (x : A) → o ≡ Some x → o ≡ None → B
not_some o x h k = cc

pub not_both : {A B C : Type 0} (a b : Result A B) (x : A) (r : B) → a ≡ Ok x → b ≡ Err r → a ≡ b → C
not_both a b x r h k same = cc
