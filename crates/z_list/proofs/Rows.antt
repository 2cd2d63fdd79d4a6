-- Rows of sixteen bytes.
use Rattle.std.proofs.Common.{◌≡◌, ℕ, ◌+◌, ◌<◌, List, [], ◌∷◌, ◌++◌, length, refl, sym, ap, ◌∙◌, arith, append_assoc}
use Rattle.std.specs.Prelude.{nat_lt, Bool, true, false, if◌then◌else◌}
use Rattle.std.proofs.lemmas.List.{append-nil, length_push}
use Rattle.z_list.specs.Listing.{Data, last_row, rows}

push : (row : List ℕ) (b : ℕ) (bs : List ℕ) → row ++ b ∷ bs ≡ (row ++ b ∷ []) ++ bs
push row b bs = sym (append_assoc row (b ∷ []) bs)

if_true : {A : Type 0} (c : Bool) (x y : A) → c ≡ true → (if c then x else y) ≡ x
if_true true x y e = refl
if_true false x y e = absurd cc

if_false : {A : Type 0} (c : Bool) (x y : A) → c ≡ false → (if c then x else y) ≡ y
if_false true x y e = absurd cc
if_false false x y e = refl

-- a whole row comes first
pub full_row : (at : ℕ) (row bs more : List ℕ) → length row + length bs ≡ 16 → 0 < length bs → rows at row (bs ++ more) ≡ Data at (row ++ bs) ∷ rows (at + 16) [] more
full_row at row [] more e some = absurd (omega (arith, some))
full_row at row (b ∷ []) more e some = if_false (nat_lt (length row) 15) _ _ (grind (arith, e))
full_row at row (b ∷ c ∷ bs) more e some =
    if_true (nat_lt (length row) 15) _ _ (grind (arith, e)) ∙ (full_row at (row ++ b ∷ []) (c ∷ bs) more (omega (arith, e, length_push row b)) (omega arith)
    ∙ ap (λ l. Data at l ∷ rows (at + 16) [] more) (sym (push row b (c ∷ bs))))

-- a row that isn't whole is the last
pub short_row : (at : ℕ) (row bs : List ℕ) → length row + length bs < 16 → rows at row bs ≡ last_row at (row ++ bs)
short_row at row [] e = ap (last_row at) (sym (append-nil row))
short_row at row (b ∷ bs) e =
    if_true (nat_lt (length row) 15) _ _ (grind (arith, e)) ∙ (short_row at (row ++ b ∷ []) bs (omega (arith, e, length_push row b)) ∙ ap (last_row at) (sym (push row b bs)))
