use Rattle.std.proofs.Common.{◌≡◌, ◌<◌, ℕ, zero, suc, Bool, true, false, cond, List, [], ◌∷◌, length, get_or, All, IsTrue, refl, arith}
use lib.Utf8.{encode}
use Rattle.z_model.specs.Zscii.{code_utf8}
use Rattle.z_text.specs.Encode.{has_code}
use Rattle.dialog_tests.proofs.strings.encodes_as_inform_does.Goals as goal

all_coded : List ℕ → Bool
all_coded [] = true
all_coded (c ∷ cs) = cond (has_code c) (all_coded cs) false

coded : (cs : List ℕ) → all_coded cs ≡ true → All (λ code. IsTrue (has_code code)) cs
unfolding all_coded
coded [] e = λ k d lt. absurd (omega arith)
coded (c ∷ cs) e = by_test (has_code c) refl (λ h. coded cs h) e
  where
    by_test : (t : Bool) → has_code c ≡ t → (all_coded cs ≡ true → All (λ code. IsTrue (has_code code)) cs) → cond t (all_coded cs) false ≡ true → All (λ code. IsTrue (has_code code)) (c ∷ cs)
    by_test false is later e = absurd cc
    by_test true is later e = by_index
      where
        by_index : (k d : ℕ) → k < length (c ∷ cs) → IsTrue (has_code (get_or (c ∷ cs) k d))
        by_index zero d lt = is
        by_index (suc k) d lt = later e k d (omega arith)

pub encode-requires : goal.encode-requires
unfolding all_coded code_utf8 encode
encode-requires g c = record { codes = 72 ∷ 101 ∷ 108 ∷ 108 ∷ 111 ∷ []; is = record { coded = coded (72 ∷ 101 ∷ 108 ∷ 108 ∷ 111 ∷ []) refl; printed = refl } }
