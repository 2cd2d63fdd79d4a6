-- Lines of bytes are the same where numbers are taken as bytes; the instructions of a mark, one after another.
use Rattle.std.proofs.Common.{◌≡◌, ℕ, zero, suc, ◌+◌, ◌-◌, ◌<◌, ◌≤◌, List, [], ◌∷◌, ◌++◌, length, take, drop, Option, Some, None, Ok, Err, refl, sym, ap, ◌∙◌, arith}
use Rattle.std.proofs.lemmas.List.{length-drop}
use Rattle.z_model.specs.declared.fault.ZFault.{ZFault}
use Rattle.z_model.specs.declared.op.Found.{Found}
use Rattle.z_model.specs.Table.{player_rows}
use Rattle.z_model.specs.Decode.{op_at}
use Rattle.z_list.specs.declared.mark.Mark.{Mark}
use Rattle.z_list.specs.Listing.{Line, Rule, Locals, Does, End, rows, by_first, instructions, marked, lines}
use Rattle.z_list.specs.Texts.{end_of, first_length}
use Rattle.z_list.specs.inside.Read.{first_clamped}
use Rattle.z_list.proofs.Instructions.{Small, small_take, small_drop, small_tail, first_same, asked, found_some, found_within}

pub instructions_same : (n at : ℕ) (bs : List ℕ) → Small bs → instructions first_clamped n at bs ≡ instructions first_length n at bs
instructions_same zero at bs small = refl
instructions_same (suc n) at bs small =
    ap (λ (o : Option ℕ). by_first at bs o (λ k. instructions first_clamped n (at + k) (drop k bs))) (first_same bs small)
    ∙ by_found (λ k. instructions_same n (at + k) (drop k bs) (small_drop k bs small)) (first_length bs)
  where
    by_found : ((k : ℕ) → instructions first_clamped n (at + k) (drop k bs) ≡ instructions first_length n (at + k) (drop k bs)) → (o : Option ℕ) →
        by_first at bs o (λ k. instructions first_clamped n (at + k) (drop k bs)) ≡ by_first at bs o (λ k. instructions first_length n (at + k) (drop k bs))
    by_found again None = refl
    by_found again (Some k) = ap (λ (l : List Line). Does at (take k bs) ∷ l) (again k)

marked_same : (m : Mark) (bs : List ℕ) → Small bs → marked first_clamped m bs ≡ marked first_length m bs
marked_same m [] small = refl
marked_same m (b ∷ bs) small = ap (λ (l : List Line). Rule m.from m.pred m.rule ∷ Locals m.from b ∷ l) (instructions_same (length bs) (m.from + 1) bs (small_tail b bs small))

pub lines_same : (at : ℕ) (bs : List ℕ) (ms : List Mark) → Small bs → lines first_clamped at bs ms ≡ lines first_length at bs ms
lines_same at bs [] small = refl
lines_same at bs (m ∷ ms) small =
    ap (λ (l : List Line). rows at [] (take (m.from - at) bs) ++ (l ++ lines first_clamped m.to (drop (m.to - at) bs) ms))
    (marked_same m (take (m.to - m.from) (drop (m.from - at) bs)) (small_take (m.to - m.from) (drop (m.from - at) bs) (small_drop (m.from - at) bs small)))
    ∙ ap (λ (l : List Line). rows at [] (take (m.from - at) bs) ++ (marked first_length m (take (m.to - m.from) (drop (m.from - at) bs)) ++ l))
    (lines_same m.to (drop (m.to - at) bs) ms (small_drop (m.to - at) bs small))

-- ---- the instructions of a mark

nothing : (n at : ℕ) → instructions first_clamped n at [] ≡ End at ∷ []
nothing zero at = refl
nothing (suc n) at =
    let here : at + length {A = ℕ} [] ≡ at = omega arith in
    ap (λ (o : Option ℕ). by_first at [] o (λ k. instructions first_clamped n (at + k) (drop k []))) asked.empty ∙ ap (λ (k : ℕ). End k ∷ []) here

enough : (n m at : ℕ) (bs : List ℕ) → length bs ≤ n → length bs ≤ m → instructions first_clamped n at bs ≡ instructions first_clamped m at bs
enough n m at [] le more = nothing n at ∙ sym (nothing m at)
enough zero m at (b ∷ bs) le more = absurd (omega (arith, le))
enough (suc n) zero at (b ∷ bs) le more = absurd (omega (arith, more))
enough (suc n) (suc m) at (b ∷ bs) le more = by_found (λ k. enough n m (at + k) (drop k (b ∷ bs))) (first_clamped (b ∷ bs)) refl
  where
    by_found : ((k : ℕ) → length (drop k (b ∷ bs)) ≤ n → length (drop k (b ∷ bs)) ≤ m → instructions first_clamped n (at + k) (drop k (b ∷ bs)) ≡ instructions first_clamped m (at + k) (drop k (b ∷ bs))) →
        (o : Option ℕ) → first_clamped (b ∷ bs) ≡ o →
        by_first at (b ∷ bs) o (λ k. instructions first_clamped n (at + k) (drop k (b ∷ bs))) ≡ by_first at (b ∷ bs) o (λ k. instructions first_clamped m (at + k) (drop k (b ∷ bs)))
    by_found again None e = refl
    by_found again (Some k) e =
        let some = (asked.some (b ∷ bs) k e).0 in
        let left = length-drop k (b ∷ bs) in
        ap (λ (l : List Line). Does at (take k (b ∷ bs)) ∷ l) (again k (omega (arith, le, some, left)) (omega (arith, more, some, left)))

-- an instruction comes first
pub does_first : (at : ℕ) (bs : List ℕ) (x : Found) → Small bs → op_at player_rows bs 0 ≡ Ok x →
    instructions first_length (length bs) at bs ≡ Does at (take x.end bs) ∷ instructions first_length (length (drop x.end bs)) (at + x.end) (drop x.end bs)
does_first at bs x small e = by_length (length bs) refl
  where
    some : 0 < x.end
    some = found_some bs x small e

    within : x.end ≤ length bs
    within = found_within bs x small e

    left : length (drop x.end bs) ≡ length bs - x.end
    left = length-drop x.end bs

    smaller : Small (drop x.end bs)
    smaller = small_drop x.end bs small

    by_length : (n : ℕ) → length bs ≡ n → instructions first_length n at bs ≡ Does at (take x.end bs) ∷ instructions first_length (length (drop x.end bs)) (at + x.end) (drop x.end bs)
    by_length zero none = absurd (omega (arith, none, some, within))
    by_length (suc n) is =
        ap (λ (o : Option ℕ). by_first at bs o (λ k. instructions first_length n (at + k) (drop k bs))) (ap end_of e)
        ∙ ap (λ (l : List Line). Does at (take x.end bs) ∷ l)
        (sym (instructions_same n (at + x.end) (drop x.end bs) smaller)
        ∙ enough n (length (drop x.end bs)) (at + x.end) (drop x.end bs) (omega (arith, is, left, some)) (omega arith)
        ∙ instructions_same (length (drop x.end bs)) (at + x.end) (drop x.end bs) smaller)

-- no more instruction comes
pub none_first : (at : ℕ) (bs : List ℕ) (fault : ZFault) → op_at player_rows bs 0 ≡ Err fault →
    instructions first_length (length bs) at bs ≡ rows at [] bs ++ End (at + length bs) ∷ []
none_first at [] fault e = let here : at ≡ at + length {A = ℕ} [] = omega arith in ap (λ (k : ℕ). End k ∷ []) here
none_first at (b ∷ bs) fault e = ap (λ (o : Option ℕ). by_first at (b ∷ bs) o (λ k. instructions first_length (length bs) (at + k) (drop k (b ∷ bs)))) (ap end_of e)
