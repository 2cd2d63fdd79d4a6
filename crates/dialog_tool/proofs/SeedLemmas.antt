-- The dice of a seed, made one by one.
use Rattle.std.proofs.Common.{◌≡◌, ◌<◌, ◌-◌, ℕ, ◌%◌, suc, List, [], ◌∷◌, ◌++◌, length, length-append, refl, sym, ◌∙◌, ap, subst, arith, append_assoc, append-nil}
use Rattle.rand_pcg.specs.Lcg.{Lcg}
use Rattle.rand_pcg.specs.Pcg.{pcg32}
use Rattle.dialog_tool.specs.layer.Dice.{generated, halves}

words_more : (n : ℕ) (g : Lcg) → generated (suc n) g ≡ (pcg32 g).0 ∷ generated n (pcg32 g).1
unfolding generated
words_more n g = refl

no_words : (g : Lcg) → generated 0 g ≡ []
unfolding generated
no_words g = refl

-- one more word is drawn
one_more : (dice all : List ℕ) (left n : ℕ) (g h : Lcg) (w : ℕ) → left ≡ suc n → (w, h) ≡ pcg32 g → dice ++ halves (generated left g) ≡ all → (dice ++ w % 65536 ∷ []) ++ halves (generated n h) ≡ all
one_more dice all left n g h w e step so =
    let same : generated left g ≡ w ∷ generated n h =
    ap (λ (k : ℕ). generated k g) e
    ∙ words_more n g
    ∙ ap (λ (p : ℕ × Lcg). p.0 ∷ generated n p.1) (sym step) in
    append_assoc dice (w % 65536 ∷ []) (halves (generated n h)) ∙ ap (λ (ws : List ℕ). dice ++ halves ws) (sym same) ∙ so

pub made_more : (dice new all : List ℕ) (g h : Lcg) (w : ℕ) → new ≡ dice ++ w % 65536 ∷ [] → length dice < 1024 → (w, h) ≡ pcg32 g → dice ++ halves (generated (1024 - length dice) g) ≡ all → new ++ halves (generated (1024 - length new) h) ≡ all
made_more dice new all g h w e less step so =
    let left : 1024 - length dice ≡ suc (1024 - length (dice ++ w % 65536 ∷ [])) = omega (arith, length-append dice (w % 65536 ∷ [])) in
    subst (λ (l : List ℕ). l ++ halves (generated (1024 - length l) h) ≡ all) (sym e)
    (one_more dice all (1024 - length dice) (1024 - length (dice ++ w % 65536 ∷ [])) g h w left step so)

-- all words are drawn
pub all_made : (dice all : List ℕ) (left : ℕ) (g : Lcg) → left ≡ 0 → dice ++ halves (generated left g) ≡ all → dice ≡ all
all_made dice all left g e so =
    sym (append-nil dice) ∙ ap (λ (ws : List ℕ). dice ++ halves ws) (sym (no_words g)) ∙ ap (λ (k : ℕ). dice ++ halves (generated k g)) (sym e) ∙ so
