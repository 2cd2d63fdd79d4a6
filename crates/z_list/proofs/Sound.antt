-- What is read is listed.
use Rattle.std.proofs.Common.{◌≡◌, ℕ, zero, suc, ◌+◌, ◌-◌, ◌<◌, ◌≤◌, List, [], ◌∷◌, ◌++◌, length, take, drop, Option, None, refl, sym, ap, ◌∙◌, arith}
use Rattle.std.specs.Prelude.{Bool, true, false}
use Rattle.std.proofs.lemmas.List.{append-nil, take_at}
use Rattle.z_list.specs.Listing.{Line, Data, Locals, End, AreMarks, last_row, rows, instructions, marked, lines}
use Rattle.z_list.specs.declared.mark.Mark.{Mark}
use Rattle.z_list.specs.inside.Lines.{Where, Outside, Named, Inside, Behind, is_full, AreInstructions}
use Rattle.z_list.proofs.Rows.{full_row, short_row}

pub take_past : {A : Type 0} (n : ℕ) (xs ys : List A) → length xs ≤ n → take n (xs ++ ys) ≡ xs ++ take (n - length xs) ys
take_past zero [] ys h = refl
take_past (suc n) [] ys h = let e : suc n ≡ suc n - zero = omega arith in ap (λ k. take k ys) e
take_past zero (x ∷ xs) ys h = absurd (omega (arith, h))
take_past (suc n) (x ∷ xs) ys h = ap (λ l. x ∷ l) (take_past n xs ys (omega (arith, h)) ∙ ap (λ k. xs ++ take k ys) (omega arith))

pub drop_past : {A : Type 0} (n : ℕ) (xs ys : List A) → length xs ≤ n → drop n (xs ++ ys) ≡ drop (n - length xs) ys
drop_past zero [] ys h = refl
drop_past (suc n) [] ys h = let e : suc n ≡ suc n - zero = omega arith in ap (λ k. drop k ys) e
drop_past zero (x ∷ xs) ys h = absurd (omega (arith, h))
drop_past (suc n) (x ∷ xs) ys h = drop_past n xs ys (omega (arith, h)) ∙ ap (λ k. drop k ys) (omega arith)

-- nothing of the stretch is left
abbrev pub Empty : ℕ → List ℕ → List Mark → Type 0
Empty at bytes [] = bytes ≡ []
Empty at bytes (m ∷ ms) = m.from ≡ at

pub last_one : (at : ℕ) (bs : List ℕ) → 0 < length bs → last_row at bs ≡ Data at bs ∷ []
last_one at [] h = absurd (omega (arith, h))
last_one at (b ∷ bs) h = refl

pub is_row : (bs : List ℕ) → length bs ≤ 16 → is_full bs ≡ true → length bs ≡ 16
is_row bs few e = grind (arith, few, e)

pub is_short : (bs : List ℕ) → is_full bs ≡ false → length bs < 16
is_short bs e = grind (arith, e)

pub bool : (b : Bool) → (P : Type 0) → (b ≡ true → P) → (b ≡ false → P) → P
bool true P f g = f refl
bool false P f g = g refl

-- the first of marks begins behind a place
abbrev pub AreMarksFrom : ℕ → List Mark → Type 0
AreMarksFrom at [] = Unit {0}
AreMarksFrom at (m ∷ ms) = (at ≤ m.from) × (m.from < m.to)

module _ (first : List ℕ → Option ℕ) (asked : AreInstructions first) where
  pub full_front : (at end : ℕ) (bs bytes : List ℕ) (marks : List Mark) → length bs ≡ 16 → AreMarks (at + 16) end marks →
      Data at bs ∷ lines first (at + 16) bytes marks ≡ lines first at (bs ++ bytes) marks
  full_front at end bs bytes [] len are = sym (full_row at [] bs bytes (omega (arith, len)) (omega (arith, len)))
  full_front at end bs bytes (m ∷ ms) len are =
      sym (ap (λ r. r ++ (marked first m (take (m.to - m.from) (drop (m.from - at) (bs ++ bytes))) ++ lines first m.to (drop (m.to - at) (bs ++ bytes)) ms)) rows_are
      ∙ ap (λ l. Data at bs ∷ (rows (at + 16) [] (take (m.from - (at + 16)) bytes) ++ l)) (ap (λ l. marked first m (take (m.to - m.from) l) ++ lines first m.to (drop (m.to - at) (bs ++ bytes)) ms) (dropped m.from are.0)
      ∙ ap (λ l. marked first m (take (m.to - m.from) (drop (m.from - (at + 16)) bytes)) ++ lines first m.to l ms) (dropped m.to (omega (arith, are.0, are.1)))))
    where
      dropped : (k : ℕ) → at + 16 ≤ k → drop (k - at) (bs ++ bytes) ≡ drop (k - (at + 16)) bytes
      dropped k le = drop_past (k - at) bs bytes (omega (arith, le, len)) ∙ ap (λ n. drop n bytes) (omega (arith, le, len))

      rows_are : rows at [] (take (m.from - at) (bs ++ bytes)) ≡ Data at bs ∷ rows (at + 16) [] (take (m.from - (at + 16)) bytes)
      rows_are = ap (rows at []) (take_past (m.from - at) bs bytes (omega (arith, are.0, len)) ∙ ap (λ n. bs ++ take n bytes) (omega (arith, are.0, len)))
          ∙ full_row at [] bs (take (m.from - (at + 16)) bytes) (omega (arith, len)) (omega (arith, len))

  pub short_front : (at : ℕ) (bs bytes : List ℕ) (marks : List Mark) → length bs < 16 → 0 < length bs → Empty (at + length bs) bytes marks → AreMarksFrom (at + length bs) marks →
      Data at bs ∷ lines first (at + length bs) bytes marks ≡ lines first at (bs ++ bytes) marks
  short_front at bs bytes [] len some none from =
      ap (λ l. Data at bs ∷ rows (at + length bs) [] l) none
      ∙ (sym (short_row at [] bs (omega (arith, len)) ∙ last_one at bs some) ∙ ap (rows at []) (sym (append-nil bs) ∙ ap (λ l. bs ++ l) (sym none)))
  short_front at bs bytes (m ∷ ms) len some here from =
      ap (λ r. Data at bs ∷ (r ++ (marked first m (take (m.to - m.from) (drop (m.from - (at + length bs)) bytes)) ++ lines first m.to (drop (m.to - (at + length bs)) bytes) ms))) none
      ∙ (ap (λ r. r ++ (marked first m (take (m.to - m.from) (drop (m.from - (at + length bs)) bytes)) ++ lines first m.to (drop (m.to - (at + length bs)) bytes) ms)) (sym rows_are)
      ∙ (ap (λ l. rows at [] (take (m.from - at) (bs ++ bytes)) ++ (marked first m (take (m.to - m.from) l) ++ lines first m.to (drop (m.to - (at + length bs)) bytes) ms)) (sym (dropped m.from (omega (arith, here))))
      ∙ ap (λ l. rows at [] (take (m.from - at) (bs ++ bytes)) ++ (marked first m (take (m.to - m.from) (drop (m.from - at) (bs ++ bytes))) ++ lines first m.to l ms)) (sym (dropped m.to (omega (arith, here, from))))))
    where
      none : rows (at + length bs) [] (take (m.from - (at + length bs)) bytes) ≡ []
      none = let e : m.from - (at + length bs) ≡ zero = omega (arith, here) in ap (λ n. rows (at + length bs) [] (take n bytes)) e

      dropped : (k : ℕ) → at + length bs ≤ k → drop (k - at) (bs ++ bytes) ≡ drop (k - (at + length bs)) bytes
      dropped k le = drop_past (k - at) bs bytes (omega (arith, le)) ∙ ap (λ n. drop n bytes) (omega (arith, le))

      rows_are : rows at [] (take (m.from - at) (bs ++ bytes)) ≡ Data at bs ∷ []
      rows_are = ap (rows at []) (take_at bs bytes (m.from - at) (omega (arith, here))) ∙ (short_row at [] bs (omega (arith, len)) ∙ last_one at bs some)

  -- ## What is left to be read

  pub record Stretch (full : Bool) (at left : ℕ) (ls : List Line) : Type 0 where
    pub bytes : List ℕ
    pub marks : List Mark
    pub count : length bytes ≡ left
    pub are : AreMarks at (at + left) marks
    pub is : ls ≡ lines first at bytes marks
    pub empty : full ≡ false → Empty at bytes marks

  pub record Mine (at left : ℕ) (ls : List Line) : Type 0 where
    pub bytes : List ℕ
    pub more : List ℕ
    pub marks : List Mark
    pub count : length bytes + length more ≡ left
    pub are : AreMarks (at + length bytes) (at + left) marks
    pub is : (n : ℕ) → length bytes ≤ n → ls ≡ instructions first n at bytes ++ lines first (at + length bytes) more marks

  pub record Left (full : Bool) (since : List ℕ) (at left : ℕ) (ls : List Line) : Type 0 where
    pub bytes : List ℕ
    pub more : List ℕ
    pub marks : List Mark
    pub count : length bytes + length more ≡ left
    pub are : AreMarks (at + length bytes) (at + left) marks
    pub none : first (since ++ bytes) ≡ None
    pub is : ls ≡ rows at [] bytes ++ (End (at + length bytes) ∷ lines first (at + length bytes) more marks)
    pub empty : full ≡ false → bytes ≡ []

  pub record Begun (at left : ℕ) (ls : List Line) : Type 0 where
    pub byte : ℕ
    pub bytes : List ℕ
    pub more : List ℕ
    pub marks : List Mark
    pub count : 1 + length bytes + length more ≡ left
    pub are : AreMarks (at + 1 + length bytes) (at + left) marks
    pub is : ls ≡ Locals at byte ∷ (instructions first (length bytes) (at + 1) bytes ++ lines first (at + 1 + length bytes) more marks)

  abbrev pub Claim : Where → ℕ → ℕ → List Line → Type 0
  Claim (Outside full) at left ls = Stretch full at left ls
  Claim Named at left ls = Begun at left ls
  Claim Inside at left ls = Mine at left ls
  Claim (Behind full since) at left ls = Left full since at left ls

  abbrev pub Fine : Where → Type 0
  Fine (Behind full since) = first since ≡ None
  Fine w = Unit {0}
