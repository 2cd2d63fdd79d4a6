-- An op that is written between other bytes stands there.
use Rattle.std.proofs.Common.{◌≡◌, ℕ, suc, ◌+◌, ◌-◌, Bool, true, false, ltb, cond, List, [], ◌∷◌, ◌++◌, length, Some, None, Ok, refl, ap, subst, ◌∙◌, arith, add-one, add-zero, append_assoc, length-append, ◌⊎◌, inl, inr}
use Rattle.std.proofs.Math.Seq.{drop-append_seam}
use Rattle.z_model.specs.Table.{Rows}
use Rattle.z_model.specs.declared.op.Op.{Op}
use Rattle.z_model.specs.Decode.{text_end, text_at}
use Rattle.z_model.specs.Spelling.{spelling, BytesAt, IsOfTable, IsText, IsInstruction, Written}
use Rattle.z_model.proofs.Again.{instruction_again}
use Rattle.z_model.proofs.Stays.{end_stays}

behind_one : (b : ℕ) (bytes : List ℕ) (at : ℕ) (xs : List ℕ) → BytesAt bytes at xs → BytesAt (b ∷ bytes) (at + 1) xs
behind_one b bytes at [] h = tt
behind_one b bytes at (x ∷ xs) h = (rw add-one h.0, behind_one b bytes (at + 1) xs h.1)

at_front : (xs ys : List ℕ) → BytesAt (xs ++ ys) 0 xs
at_front [] ys = tt
at_front (x ∷ xs) ys = (refl, behind_one x (xs ++ ys) 0 xs (at_front xs ys))

stands_between : (front xs ys : List ℕ) → BytesAt (front ++ (xs ++ ys)) (length front) xs
stands_between [] xs ys = at_front xs ys
stands_between (b ∷ front) xs ys =
    let e : length front + 1 ≡ suc (length front) = omega arith in
    subst (λ (k : ℕ). BytesAt (b ∷ front ++ (xs ++ ys)) k xs) e (behind_one b (front ++ (xs ++ ys)) (length front) xs (stands_between front xs ys))

-- ---- the text

later_end : (w : List ℕ) (at k n : ℕ) → text_end w at ≡ Some n → text_end w (at + k) ≡ Some (n + k)
unfolding text_end
later_end [] at k n e = absurd cc
later_end (a ∷ []) at k n e = absurd cc
later_end (a ∷ b ∷ w) at k n e = by_mark (λ h. later_end w (at + 2) k n h) (ltb a 128) e
  where
    by_mark : (text_end w (at + 2) ≡ Some n → text_end w (at + 2 + k) ≡ Some (n + k)) → (t : Bool) → cond t (text_end w (at + 2)) (Some (at + 2)) ≡ Some n → cond t (text_end w (at + k + 2)) (Some (at + k + 2)) ≡ Some (n + k)
    by_mark more true e =
        let same : at + 2 + k ≡ at + k + 2 = omega arith in
        subst (λ (p : ℕ). text_end w p ≡ Some (n + k)) same (more e)
    by_mark more false e =
        let is : at + 2 ≡ n = cc in
        ap Some (omega arith)

still_ends : (text rest : List ℕ) (n : ℕ) → text_end text 0 ≡ Some n → text_end (text ++ rest) 0 ≡ Some n
still_ends text rest n e = by_case (end_stays rest text 0)
  where
    by_case : (text_end text 0 ≡ None) ⊎ (text_end (text ++ rest) 0 ≡ text_end text 0) → text_end (text ++ rest) 0 ≡ Some n
    by_case (inl none) = absurd cc
    by_case (inr same) = same ∙ e

text_between : (front text rest : List ℕ) (wanted : Bool) (n : ℕ) → IsText wanted n text → text_at (front ++ (text ++ rest)) wanted (length front) ≡ Ok (n, length front + length text)
unfolding text_at
text_between front text rest false n is = rw (is.0, is.1, add-zero) refl
text_between front text rest true n is =
    let there : text_end (text ++ rest) (0 + length front) ≡ Some (n + length front) = later_end (text ++ rest) 0 (length front) n (still_ends text rest n is.1) in
    let zero_more : 0 + length front ≡ length front = omega arith in
    let here : text_end (text ++ rest) (length front) ≡ Some (n + length front) = subst (λ (p : ℕ). text_end (text ++ rest) p ≡ Some (n + length front)) zero_more there in
    let long : n + length front - length front ≡ n = omega arith in
    let end : n + length front ≡ length front + length text = omega (arith, is.0) in
    rw (drop-append_seam front (text ++ rest), here, long, end) refl

pub op_written : (rows : Rows) (op : Op) (front text rest : List ℕ) → Written rows op front text rest
op_written rows op front text rest = record { written = λ is of. instruction_again rows (front ++ (spelling op ++ (text ++ rest))) (length front) op (length front + length (spelling op) + length text) (there is of) }
  where
    there : (is : IsOfTable rows op) → IsText is.row.text op.text text → IsInstruction rows (front ++ (spelling op ++ (text ++ rest))) (length front) op (length front + length (spelling op) + length text)
    there is of =
        let long : length (front ++ spelling op) ≡ length front + length (spelling op) = length-append front (spelling op) in
        let group : (front ++ spelling op) ++ (text ++ rest) ≡ front ++ (spelling op ++ (text ++ rest)) = append_assoc front (spelling op) (text ++ rest) in
        let text_there = text_between (front ++ spelling op) text rest is.row.text op.text of in
        record {
          row = is.row;
          is = is.is;
          stands = stands_between front (spelling op) (text ++ rest);
          text = rw (group, long) at text_there;
        }
