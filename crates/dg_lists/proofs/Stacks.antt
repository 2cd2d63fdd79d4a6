-- Rows one behind another: what they count, and what becomes of them when the newest changes.
use Rattle.std.proofs.Common.{◌≡◌, ℕ, zero, suc, ◌+◌, ◌*◌, ◌<◌, ◌≤◌, List, [], ◌∷◌, ◌++◌, Bool, true, false, refl, sym, ap, ◌∙◌, subst, arith, length, take, drop, length-append, length-drop, slice_index}
use Rattle.std.specs.Prelude.{slice_get, Some, ◌&&◌, nat_le, reverse}
use Rattle.std.proofs.lemmas.List.{take-append-le, drop-append-le, length-take-le}
use Rattle.std.proofs.lemmas.Bool.{leb-true, le-leb, eqb-true}
use Rattle.std.proofs.lemmas.List.{reverse-append, length-reverse}
use Rattle.std.proofs.lemmas.List.Sums.{sum_by-cons}
use Rattle.dg_base.specs.declared.cells.Cell.{Cell}
use Rattle.dg_lists.specs.Gathered.{gathered_size, added, cut, is_stacked}

both : (a b : Bool) → (a && b) ≡ true → (a ≡ true) × (b ≡ true)
both true true h = (refl, refl)
both true false h = (refl, h)
both false b h = (h, cc)

-- the newest begins within the row, and the others are stacked before it
pub record Stacked (start : ℕ) (starts : List ℕ) (cells : List Cell) : Type 0 where
  pub within : start ≤ length cells
  pub others : is_stacked starts (take start cells) ≡ true

pub stacked : (start : ℕ) (starts : List ℕ) (cells : List Cell) → is_stacked (start ∷ starts) cells ≡ true → Stacked start starts cells
stacked start starts cells h =
    let parts = both (nat_le start (length cells)) (is_stacked starts (take start cells)) h in
    record { within = leb-true start (length cells) parts.0; others = parts.1 }

pub length_cut : (starts : List ℕ) (cells : List Cell) → length (cut starts cells) ≡ length starts
length_cut [] cells = refl
length_cut (start ∷ starts) cells = ap suc (length_cut starts (take start cells))

nothing : (cells : List Cell) → is_stacked [] cells ≡ true → 2 * 0 + length cells ≡ 0
nothing cells h = omega (arith, eqb-true (length cells) 0 h)

pub size_of_cut : (starts : List ℕ) (cells : List Cell) → is_stacked starts cells ≡ true → gathered_size (cut starts cells) ≡ 2 * length starts + length cells
size_of_cut [] cells h = sym (nothing cells h)
size_of_cut (start ∷ starts) cells h =
    let s = stacked start starts cells h in
    omega (arith, sum_by-cons (λ (row : List Cell). 2 + length row) (drop start cells) (cut starts (take start cells)), size_of_cut starts (take start cells) s.others, length-take-le start cells s.within, length-drop start cells)

pub cut_added : (start : ℕ) (starts : List ℕ) (cells more : List Cell) → is_stacked (start ∷ starts) cells ≡ true → cut (start ∷ starts) (cells ++ more) ≡ added more (cut (start ∷ starts) cells)
cut_added start starts cells more h =
    let s = stacked start starts cells h in
    ap (λ l. l ∷ cut starts (take start (cells ++ more))) (drop-append-le start cells more s.within) ∙ ap (λ l. (drop start cells ++ more) ∷ cut starts l) (take-append-le start cells more s.within)

-- the others stay stacked
pub stacked_added : (start : ℕ) (starts : List ℕ) (cells more : List Cell) → is_stacked (start ∷ starts) cells ≡ true → is_stacked (start ∷ starts) (cells ++ more) ≡ true
stacked_added start starts cells more h =
    let s = stacked start starts cells h in
    let within : start ≤ length (cells ++ more) = omega (arith, s.within, length-append cells more) in
    ap (λ b. b && is_stacked starts (take start (cells ++ more))) (le-leb start (length (cells ++ more)) within)
    ∙ ap (is_stacked starts) (take-append-le start cells more s.within) ∙ s.others

-- the last of the places in order is the first of them from the newest on
pub newest_first : (xs : List ℕ) (m : ℕ) → length xs ≡ m + 1 → reverse xs ≡ slice_index xs m ∷ reverse (take m xs)
newest_first [] m e = absurd (omega (arith, e))
newest_first (x ∷ []) zero e = refl
newest_first (x ∷ []) (suc m) e = absurd (omega (arith, e))
newest_first (x ∷ y ∷ ys) zero e = absurd (omega (arith, e))
newest_first (x ∷ y ∷ ys) (suc m) e =
    reverse-append (x ∷ []) (y ∷ ys) ∙ ap (λ l. l ++ x ∷ []) (newest_first (y ∷ ys) m (omega (arith, e))) ∙ ap (λ l. slice_index (y ∷ ys) m ∷ l) (sym (reverse-append (x ∷ []) (take m (y ∷ ys))))

-- how many there are, and what they count
pub length-rows : (starts : List ℕ) (cells : List Cell) → length (cut (reverse starts) cells) ≡ length starts
length-rows starts cells = length_cut (reverse starts) cells ∙ length-reverse starts

pub size_of_rows : (starts : List ℕ) (cells : List Cell) → is_stacked (reverse starts) cells ≡ true → gathered_size (cut (reverse starts) cells) ≡ 2 * length starts + length cells
size_of_rows starts cells h = omega (arith, size_of_cut (reverse starts) cells h, length-reverse starts)

-- the newest, whose place is the last
pub record Newest (starts : List ℕ) (cells : List Cell) (m : ℕ) : Type 0 where
  pub within : slice_index starts m ≤ length cells
  pub row : slice_get (cut (reverse starts) cells) 0 ≡ Some (drop (slice_index starts m) cells)

pub newest : (starts : List ℕ) (cells : List Cell) (m : ℕ) → is_stacked (reverse starts) cells ≡ true → length starts ≡ m + 1 → Newest starts cells m
newest starts cells m h e =
    let first = newest_first starts m e in
    let here = subst (λ l. is_stacked l cells ≡ true) first h in
    record {
      within = (stacked (slice_index starts m) (reverse (take m starts)) cells here).within;
      row = ap (λ l. slice_get (cut l cells) 0) first;
    }

-- cells are added to the newest
pub record Adds (starts : List ℕ) (cells more : List Cell) : Type 0 where
  pub stacked : is_stacked starts (cells ++ more) ≡ true
  pub rows : cut starts (cells ++ more) ≡ added more (cut starts cells)

pub adds : (starts : List ℕ) (cells more : List Cell) → is_stacked starts cells ≡ true → 0 < length (cut starts cells) → Adds starts cells more
adds [] cells more h some = absurd (omega (arith, some))
adds (start ∷ starts) cells more h some = record { stacked = stacked_added start starts cells more h; rows = cut_added start starts cells more h }

pub drop_one : {A : Type 0} (k : ℕ) (xs : List A) → drop 1 (drop k xs) ≡ drop (k + 1) xs
drop_one zero xs = refl
drop_one (suc k) [] = let next : suc (k + 1) ≡ suc k + 1 = omega arith in ap (λ n. drop n []) next
drop_one (suc k) (x ∷ xs) = let next : suc (k + 1) ≡ suc k + 1 = omega arith in drop_one k xs ∙ ap (λ n. drop n (x ∷ xs)) next

pub size_added : (more : List Cell) (rows : List (List Cell)) → 0 < length rows → gathered_size (added more rows) ≡ gathered_size rows + length more
size_added more [] some = absurd (omega (arith, some))
size_added more (row ∷ rows) some =
    omega (arith, sum_by-cons (λ (r : List Cell). 2 + length r) (row ++ more) rows, sum_by-cons (λ (r : List Cell). 2 + length r) row rows, length-append row more)
