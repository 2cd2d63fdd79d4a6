-- The lines of a listing hold the bytes of its story and the numbers of its marks.
use Rattle.std.proofs.Common.{◌≡◌, ℕ, zero, suc, ◌+◌, ◌-◌, ◌<◌, ◌≤◌, List, [], ◌∷◌, ◌++◌, length, take, drop, All, Option, Some, None, refl, sym, ap, subst, ◌∙◌, arith, append_assoc}
use Rattle.std.specs.Prelude.{nat_lt, Bool, true, false, if◌then◌else◌}
use Rattle.std.proofs.lemmas.List.{append-nil, length-drop, length-take-le, drop-drop}
use Rattle.std.proofs.lemmas.List.{take-append-drop}
use Rattle.std.proofs.lemmas.List.Elements.{All-nil, All-cons, All-head, All-tail}
use Rattle.z_list.specs.declared.mark.Mark.{Mark}
use Rattle.z_list.specs.Listing.{Line, Data, End, AreMarks, rows, by_first, instructions, marked, lines}
use Rattle.z_list.specs.Reads.{IsMark}
use Rattle.z_list.specs.inside.Lines.{AreInstructions}
use Rattle.z_list.specs.inside.Held.{bytes_in, bytes_of, HaveNumbers}

pub bytes_append : (xs ys : List Line) → bytes_of (xs ++ ys) ≡ bytes_of xs ++ bytes_of ys
bytes_append [] ys = refl
bytes_append (x ∷ xs) ys = ap (λ (l : List ℕ). bytes_in x ++ l) (bytes_append xs ys) ∙ sym (append_assoc (bytes_in x) (bytes_of xs) (bytes_of ys))

pub numbers_append : (xs ys : List Line) → HaveNumbers xs → HaveNumbers ys → HaveNumbers (xs ++ ys)
numbers_append [] ys h k = k
numbers_append (x ∷ xs) ys h k = (h.0, numbers_append xs ys h.1 k)

pub numbers_front : (xs ys : List Line) → HaveNumbers (xs ++ ys) → HaveNumbers xs
numbers_front [] ys h = tt
numbers_front (x ∷ xs) ys h = (h.0, numbers_front xs ys h.1)

pub numbers_rest : (xs ys : List Line) → HaveNumbers (xs ++ ys) → HaveNumbers ys
numbers_rest [] ys h = h
numbers_rest (x ∷ xs) ys h = numbers_rest xs ys h.1

rows_bytes : (at : ℕ) (row bs : List ℕ) → bytes_of (rows at row bs) ≡ row ++ bs
rows_bytes at [] [] = refl
rows_bytes at (b ∷ row) [] = refl
rows_bytes at row (b ∷ bs) = by_case (nat_lt (length row) 15) (rows_bytes at (row ++ b ∷ []) bs) (rows_bytes (at + 16) [] bs)
  where
    push : (row ++ b ∷ []) ++ bs ≡ row ++ b ∷ bs
    push = append_assoc row (b ∷ []) bs

    by_case : (c : Bool) → bytes_of (rows at (row ++ b ∷ []) bs) ≡ (row ++ b ∷ []) ++ bs → bytes_of (rows (at + 16) [] bs) ≡ bs →
        bytes_of (if c then rows at (row ++ b ∷ []) bs else Data at (row ++ b ∷ []) ∷ rows (at + 16) [] bs) ≡ row ++ b ∷ bs
    by_case true one two = one ∙ push
    by_case false one two = ap (λ (l : List ℕ). (row ++ b ∷ []) ++ l) two ∙ push

rows_numbers : (at : ℕ) (row bs : List ℕ) → HaveNumbers (rows at row bs)
rows_numbers at [] [] = tt
rows_numbers at (b ∷ row) [] = (tt, tt)
rows_numbers at row (b ∷ bs) = by_case (nat_lt (length row) 15) (rows_numbers at (row ++ b ∷ []) bs) (rows_numbers (at + 16) [] bs)
  where
    by_case : (c : Bool) → HaveNumbers (rows at (row ++ b ∷ []) bs) → HaveNumbers (rows (at + 16) [] bs) →
        HaveNumbers (if c then rows at (row ++ b ∷ []) bs else Data at (row ++ b ∷ []) ∷ rows (at + 16) [] bs)
    by_case true one two = one
    by_case false one two = (tt, two)

module _ (first : List ℕ → Option ℕ) (asked : AreInstructions first) where
  nil : (l : List ℕ) → length l ≤ 0 → l ≡ []
  nil [] h = refl
  nil (x ∷ l) h = absurd (omega (arith, h))

  pub instructions_bytes : (n at : ℕ) (bs : List ℕ) → length bs ≤ n → bytes_of (instructions first n at bs) ≡ bs
  instructions_bytes zero at bs le = sym (nil bs le)
  instructions_bytes (suc n) at bs le = by_found (λ k. instructions_bytes n (at + k) (drop k bs)) (first bs) refl
    where
      by_found : ((k : ℕ) → length (drop k bs) ≤ n → bytes_of (instructions first n (at + k) (drop k bs)) ≡ drop k bs) → (o : Option ℕ) → first bs ≡ o →
          bytes_of (by_first at bs o (λ k. instructions first n (at + k) (drop k bs))) ≡ bs
      by_found again None e = bytes_append (rows at [] bs) (End (at + length bs) ∷ []) ∙ (append-nil (bytes_of (rows at [] bs)) ∙ rows_bytes at [] bs)
      by_found again (Some k) e =
          let some = (asked.some bs k e).0 in
          ap (λ (l : List ℕ). take k bs ++ l) (again k (omega (arith, le, some, length-drop k bs))) ∙ take-append-drop k bs

  pub instructions_numbers : (n at : ℕ) (bs : List ℕ) → HaveNumbers (instructions first n at bs)
  instructions_numbers zero at bs = (tt, tt)
  instructions_numbers (suc n) at bs = by_found (λ k. instructions_numbers n (at + k) (drop k bs)) (first bs)
    where
      by_found : ((k : ℕ) → HaveNumbers (instructions first n (at + k) (drop k bs))) → (o : Option ℕ) → HaveNumbers (by_first at bs o (λ k. instructions first n (at + k) (drop k bs)))
      by_found again None = numbers_append (rows at [] bs) (End (at + length bs) ∷ []) (rows_numbers at [] bs) (tt, tt)
      by_found again (Some k) = (tt, again k)

  marked_bytes : (m : Mark) (bs : List ℕ) → bytes_of (marked first m bs) ≡ bs
  marked_bytes m [] = refl
  marked_bytes m (b ∷ bs) = ap (λ (l : List ℕ). b ∷ l) (instructions_bytes (length bs) (m.from + 1) bs (omega arith))

  marked_numbers : (m : Mark) (bs : List ℕ) → IsMark m → HaveNumbers (marked first m bs)
  marked_numbers m [] is = tt
  marked_numbers m (b ∷ bs) is = ((is.pred, is.rule), (tt, instructions_numbers (length bs) (m.from + 1) bs))

  pub parted : (at : ℕ) (bs : List ℕ) (m : Mark) → at ≤ m.from → m.from < m.to →
      take (m.from - at) bs ++ (take (m.to - m.from) (drop (m.from - at) bs) ++ drop (m.to - at) bs) ≡ bs
  parted at bs m le some =
      ap (λ (l : List ℕ). take (m.from - at) bs ++ (take (m.to - m.from) (drop (m.from - at) bs) ++ l)) (ap (λ (n : ℕ). drop n bs) sum ∙ sym (drop-drop (m.to - m.from) (m.from - at) bs))
      ∙ (ap (λ (l : List ℕ). take (m.from - at) bs ++ l) (take-append-drop (m.to - m.from) (drop (m.from - at) bs)) ∙ take-append-drop (m.from - at) bs)
    where
      sum : m.to - at ≡ (m.from - at) + (m.to - m.from)
      sum = omega (arith, le, some)

  pub lines_bytes : (at end : ℕ) (bs : List ℕ) (ms : List Mark) → AreMarks at end ms → bytes_of (lines first at bs ms) ≡ bs
  lines_bytes at end bs [] are = rows_bytes at [] bs
  lines_bytes at end bs (m ∷ ms) are =
      bytes_append (rows at [] front) (marked first m mine ++ lines first m.to others ms)
      ∙ (ap (λ (l : List ℕ). l ++ bytes_of (marked first m mine ++ lines first m.to others ms)) (rows_bytes at [] front)
      ∙ (ap (λ (l : List ℕ). front ++ l) (bytes_append (marked first m mine) (lines first m.to others ms))
      ∙ (ap (λ (l : List ℕ). front ++ (l ++ bytes_of (lines first m.to others ms))) (marked_bytes m mine)
      ∙ (ap (λ (l : List ℕ). front ++ (mine ++ l)) (lines_bytes m.to end others ms are.2) ∙ parted at bs m are.0 are.1))))
    where
      front : List ℕ
      front = take (m.from - at) bs

      mine : List ℕ
      mine = take (m.to - m.from) (drop (m.from - at) bs)

      others : List ℕ
      others = drop (m.to - at) bs

  pub lines_numbers : (at : ℕ) (bs : List ℕ) (ms : List Mark) → All IsMark ms → HaveNumbers (lines first at bs ms)
  lines_numbers at bs [] are = rows_numbers at [] bs
  lines_numbers at bs (m ∷ ms) are =
      numbers_append (rows at [] (take (m.from - at) bs)) _ (rows_numbers at [] (take (m.from - at) bs))
      (numbers_append (marked first m (take (m.to - m.from) (drop (m.from - at) bs))) _ (marked_numbers m (take (m.to - m.from) (drop (m.from - at) bs)) (All-head IsMark m ms are))
      (lines_numbers m.to (drop (m.to - at) bs) ms (All-tail IsMark m ms are)))

  marked_mark : (m : Mark) (bs : List ℕ) → 0 < length bs → HaveNumbers (marked first m bs) → IsMark m
  marked_mark m [] some h = absurd (omega (arith, some))
  marked_mark m (b ∷ bs) some h = record { pred = h.0.0; rule = h.0.1 }

  last_place : (at end : ℕ) (ms : List Mark) → AreMarks at end ms → at ≤ end
  last_place at end [] h = h
  last_place at end (m ∷ ms) h = omega (arith, h.0, h.1, last_place m.to end ms h.2)

  -- the numbers of lines are those of their marks
  pub numbers_back : (at : ℕ) (bs : List ℕ) (ms : List Mark) → AreMarks at (at + length bs) ms → HaveNumbers (lines first at bs ms) → All IsMark ms
  numbers_back at bs [] are h = All-nil IsMark
  numbers_back at bs (m ∷ ms) are h =
      All-cons IsMark m ms (marked_mark m mine (omega (arith, long, are.1)) (numbers_front (marked first m mine) (lines first m.to others ms) behind))
      (numbers_back m.to others ms (subst (λ (e : ℕ). AreMarks m.to e ms) end are.2) (numbers_rest (marked first m mine) (lines first m.to others ms) behind))
    where
      mine : List ℕ
      mine = take (m.to - m.from) (drop (m.from - at) bs)

      others : List ℕ
      others = drop (m.to - at) bs

      behind : HaveNumbers (marked first m mine ++ lines first m.to others ms)
      behind = numbers_rest (rows at [] (take (m.from - at) bs)) (marked first m mine ++ lines first m.to others ms) h

      within : m.to ≤ at + length bs
      within = last_place m.to (at + length bs) ms are.2

      long : length mine ≡ m.to - m.from
      long = length-take-le (m.to - m.from) (drop (m.from - at) bs) (omega (arith, length-drop (m.from - at) bs, are.0, are.1, within))

      end : at + length bs ≡ m.to + length others
      end = omega (arith, length-drop (m.to - at) bs, within, are.0, are.1)
