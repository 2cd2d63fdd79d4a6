-- Lists one after another: where they begin, and what changes when one of them does.
use Rattle.std.proofs.Common.{◌≡◌, Bool, true, cond, ℕ, zero, suc, ◌+◌, ◌-◌, ◌<◌, ◌≤◌, List, [], ◌∷◌, ◌++◌, map, refl, sym, ap, ◌∙◌, subst, arith, length, take, drop, get_or, append_assoc, length-append, length-drop}
use Rattle.std.proofs.lemmas.List.{append-nil, take_at, drop_at, get_or_at, get_or-append-add}
use Rattle.std.proofs.Math.ListN.{set}
use Rattle.std.proofs.lemmas.List.{set_split, drop_more, take-append-drop, length-take-le}
use Rattle.dg_base.specs.declared.cells.Cell.{Cell}
use Rattle.dg_world.specs.Lists.{joined, starts_from, cut_from, cut, IsCut}

-- ## Cutting

cut_next : (n m : ℕ) (ls : List (List Cell)) (cells : List Cell) → cut_from n (starts_from m ls) cells ≡ take (m - n) cells ∷ cut (starts_from m ls) (drop (m - n) cells)
cut_next n m [] cells = refl
cut_next n m (l ∷ ls) cells = refl

cut_all : (n : ℕ) (ls : List (List Cell)) → cut (starts_from n ls) (joined ls) ≡ ls
cut_all n [] = refl
cut_all n (l ∷ ls) =
    let m = n + length l in
    let long : length l ≡ m - n = omega arith in
    cut_next n m ls (l ++ joined ls)
    ∙ ap (λ x. x ∷ cut (starts_from m ls) (drop (m - n) (l ++ joined ls))) (take_at l (joined ls) (m - n) long)
    ∙ ap (λ x. l ∷ cut (starts_from m ls) x) (drop_at l (joined ls) (m - n) long)
    ∙ ap (λ x. l ∷ x) (cut_all m ls)

-- a row and places that are those of some lists are cut into them
pub cut_is : (starts : List ℕ) (cells : List Cell) (ls : List (List Cell)) → starts ≡ starts_from 0 ls → cells ≡ joined ls → cut starts cells ≡ ls
cut_is starts cells ls e f = ap (λ s. cut s cells) e ∙ ap (λ c. cut (starts_from 0 ls) c) f ∙ cut_all 0 ls

pub is_cut : (starts : List ℕ) (cells : List Cell) (ls : List (List Cell)) → starts ≡ starts_from 0 ls → cells ≡ joined ls → IsCut starts cells
is_cut starts cells ls e f =
    let is = sym (cut_is starts cells ls e f) in
    record { row = f ∙ ap joined is; begin = e ∙ ap (starts_from 0) is }

-- ## Lists in front of others

-- where lists begin that have others behind them
pub begins : ℕ → List (List Cell) → List ℕ
begins n [] = []
begins n (l ∷ ls) = n ∷ begins (n + length l) ls

length-begins : (n : ℕ) (ls : List (List Cell)) → length (begins n ls) ≡ length ls
unfolding begins
length-begins n [] = refl
length-begins n (l ∷ ls) = ap suc (length-begins (n + length l) ls)

pub joined_append : (fs bs : List (List Cell)) → joined (fs ++ bs) ≡ joined fs ++ joined bs
joined_append [] bs = refl
joined_append (a ∷ fs) bs = ap (λ l. a ++ l) (joined_append fs bs) ∙ sym (append_assoc a (joined fs) (joined bs))

starts_append : (n : ℕ) (fs bs : List (List Cell)) → starts_from n (fs ++ bs) ≡ begins n fs ++ starts_from (n + length (joined fs)) bs
unfolding begins
starts_append n [] bs = ap (λ k. starts_from k bs) (omega arith)
starts_append n (a ∷ fs) bs =
    let long : n + length a + length (joined fs) ≡ n + length (a ++ joined fs) = omega (arith, length-append a (joined fs)) in
    ap (λ l. n ∷ l) (starts_append (n + length a) fs bs) ∙ ap (λ k. n ∷ (begins (n + length a) fs ++ starts_from k bs)) long

first_start : (n : ℕ) (ls : List (List Cell)) → get_or (starts_from n ls) 0 0 ≡ n
first_start n [] = refl
first_start n (l ∷ ls) = refl

pub length-starts : (n : ℕ) (ls : List (List Cell)) → length (starts_from n ls) ≡ length ls + 1
length-starts n [] = refl
length-starts n (l ∷ ls) = omega (arith, length-starts (n + length l) ls)

-- ## One list among others

-- a list at a place among others, with those before and behind it
pub record Parts (starts : List ℕ) (cells : List Cell) (ls : List (List Cell)) (i : ℕ) : Type 0 where
  pub others : (l : List Cell) → set ls i l ≡ take i ls ++ l ∷ drop (i + 1) ls
  pub count : length starts ≡ length ls + 1
  pub from : get_or starts i 0 ≡ length (joined (take i ls))
  pub to : get_or starts (i + 1) 0 ≡ length (joined (take i ls)) + length (get_or ls i [])
  pub row : cells ≡ joined (take i ls) ++ (get_or ls i [] ++ joined (drop (i + 1) ls))
  pub front : length (begins 0 (take i ls) ++ length (joined (take i ls)) ∷ []) ≡ i + 1
  pub begin : starts ≡ (begins 0 (take i ls) ++ length (joined (take i ls)) ∷ []) ++ starts_from (length (joined (take i ls)) + length (get_or ls i [])) (drop (i + 1) ls)

joined_parts : (front back : List (List Cell)) (l : List Cell) → joined (front ++ l ∷ back) ≡ joined front ++ (l ++ joined back)
joined_parts front back l = joined_append front (l ∷ back)

starts_parts : (front back : List (List Cell)) (l : List Cell) → starts_from 0 (front ++ l ∷ back) ≡ (begins 0 front ++ length (joined front) ∷ []) ++ starts_from (length (joined front) + length l) back
starts_parts front back l =
    let n = length (joined front) in
    let same : 0 + n ≡ n = omega arith in
    starts_append 0 front (l ∷ back)
    ∙ ap (λ k. begins 0 front ++ starts_from k (l ∷ back)) same
    ∙ sym (append_assoc (begins 0 front) (n ∷ []) (starts_from (n + length l) back))

split_at : (ls : List (List Cell)) (i : ℕ) → i < length ls → ls ≡ take i ls ++ get_or ls i [] ∷ drop (i + 1) ls
split_at ls i lt = sym (take-append-drop i ls) ∙ ap (λ x. take i ls ++ x) (drop_more ls i [] lt)

pub parts_at : (starts : List ℕ) (cells : List Cell) (ls : List (List Cell)) (i : ℕ) → IsCut starts cells → cut starts cells ≡ ls → i < length ls → Parts starts cells ls i
parts_at starts cells ls i holds are lt =
    let front = take i ls in
    let back = drop (i + 1) ls in
    let item = get_or ls i [] in
    let n = length (joined front) in
    let is : ls ≡ front ++ item ∷ back = split_at ls i lt in
    let long : length (begins 0 front) ≡ i = length-begins 0 front ∙ length-take-le i ls (omega arith) in
    let longer : length (begins 0 front ++ n ∷ []) ≡ i + 1 = length-append (begins 0 front) (n ∷ []) ∙ ap (λ k. k + 1) long in
    let same : i + 1 ≡ length (begins 0 front ++ n ∷ []) + 0 = omega arith in
    let one : suc i ≡ i + 1 = omega arith in
    let begin : starts ≡ (begins 0 front ++ n ∷ []) ++ starts_from (n + length item) back = holds.begin ∙ ap (starts_from 0) (are ∙ is) ∙ starts_parts front back item in
    record {
      others = λ l. set_split ls i l lt ∙ ap (λ k. take i ls ++ l ∷ drop k ls) one;
      count = ap length (holds.begin ∙ ap (starts_from 0) are) ∙ length-starts 0 ls;
      from = ap (λ s. get_or s i 0) (begin ∙ append_assoc (begins 0 front) (n ∷ []) (starts_from (n + length item) back)) ∙ get_or_at (begins 0 front) n (starts_from (n + length item) back) 0 i long;
      to =
          ap (λ s. get_or s (i + 1) 0) begin
          ∙ ap (λ k. get_or ((begins 0 front ++ n ∷ []) ++ starts_from (n + length item) back) k 0) same
          ∙ get_or-append-add (begins 0 front ++ n ∷ []) (starts_from (n + length item) back) 0 0
          ∙ first_start (n + length item) back;
      row = holds.row ∙ ap joined (are ∙ is) ∙ joined_parts front back item;
      front = longer;
      begin = begin;
    }

-- another list at that place
pub row_with : (ls : List (List Cell)) (i : ℕ) (l : List Cell) → set ls i l ≡ take i ls ++ l ∷ drop (i + 1) ls → joined (set ls i l) ≡ joined (take i ls) ++ (l ++ joined (drop (i + 1) ls))
row_with ls i l is = ap joined is ∙ joined_parts (take i ls) (drop (i + 1) ls) l

pub starts_with : (ls : List (List Cell)) (i : ℕ) (l : List Cell) → set ls i l ≡ take i ls ++ l ∷ drop (i + 1) ls
    → starts_from 0 (set ls i l) ≡ (begins 0 (take i ls) ++ length (joined (take i ls)) ∷ []) ++ starts_from (length (joined (take i ls)) + length l) (drop (i + 1) ls)
starts_with ls i l is = ap (starts_from 0) is ∙ starts_parts (take i ls) (drop (i + 1) ls) l

-- ## Places that are moved

pub shifted : (n gone come : ℕ) (ls : List (List Cell)) → map (λ s. s - gone + come) (starts_from (n + gone) ls) ≡ starts_from (n + come) ls
shifted n gone come [] = ap (λ (k : ℕ). k ∷ []) (omega arith)
shifted n gone come (l ∷ ls) =
    let step : n + gone - gone + come ≡ n + come = omega arith in
    ap (λ k. k ∷ map (λ s. s - gone + come) (starts_from (n + gone + length l) ls)) step
    ∙ ap (λ k. (n + come) ∷ map (λ s. s - gone + come) (starts_from k ls)) (omega arith)
    ∙ ap (λ x. (n + come) ∷ x) (shifted (n + length l) gone come ls)
    ∙ ap (λ k. (n + come) ∷ starts_from k ls) (omega arith)

pub start_within : (n : ℕ) (ls : List (List Cell)) (k d : ℕ) → k < length (starts_from n ls) → (n ≤ get_or (starts_from n ls) k d) × (get_or (starts_from n ls) k d ≤ n + length (joined ls))
start_within n [] zero d lt = (omega arith, omega arith)
start_within n [] (suc k) d lt = absurd (omega arith)
start_within n (l ∷ ls) zero d lt = (omega arith, omega arith)
start_within n (l ∷ ls) (suc k) d lt =
    let here = start_within (n + length l) ls k d (omega arith) in
    let low = here.0 in
    let high = here.1 in
    (omega arith, omega (arith, length-append l (joined ls)))

-- ## Cells put in the place of others

-- what stands in a vector behind a change of all its elements
pub written_back : (row cells : List Cell) (n : ℕ) → n ≡ length row → take n (row ++ drop (length row) cells) ≡ row
written_back row cells n e = take_at row (drop (length row) cells) n (sym e)

-- cells are moved to the end and taken away, and others are put there and moved back
pub spliced : (r₀ r₁ r₂ r₃ r₄ new : List Cell) (from gone : ℕ) → from + gone ≤ length r₀ → r₁ ≡ take from r₀ ++ (drop (from + gone) r₀ ++ take gone (drop from r₀)) → r₂ ≡ take (length r₀ - gone) r₁ → r₃ ≡ r₂ ++ new
    → r₄ ≡ take from r₃ ++ (drop (length r₃ - length new) r₃ ++ take (length r₃ - length new - from) (drop from r₃)) → r₄ ≡ take from r₀ ++ (new ++ drop (from + gone) r₀)
spliced r₀ r₁ r₂ r₃ r₄ new from gone le e₁ e₂ e₃ e₄ =
    let a = take from r₀ in
    let b = take gone (drop from r₀) in
    let m = drop (from + gone) r₀ in
    let long_a : length a ≡ from = length-take-le from r₀ (omega arith) in
    let long_m : length m ≡ length r₀ - (from + gone) = length-drop (from + gone) r₀ in
    let long_am : length (a ++ m) ≡ length r₀ - gone = omega (arith, length-append a m) in
    let is₂ : r₂ ≡ a ++ m = e₂ ∙ ap (take (length r₀ - gone)) (e₁ ∙ sym (append_assoc a m b)) ∙ take_at (a ++ m) b (length r₀ - gone) long_am in
    let is₃ : r₃ ≡ (a ++ m) ++ new = e₃ ∙ ap (λ r. r ++ new) is₂ in
    let is₃' : r₃ ≡ a ++ (m ++ new) = is₃ ∙ append_assoc a m new in
    let long₃ : length r₃ ≡ length (a ++ m) + length new = ap length is₃ ∙ length-append (a ++ m) new in
    let first : take from r₃ ≡ a = ap (take from) is₃' ∙ take_at a (m ++ new) from long_a in
    let last : drop (length r₃ - length new) r₃ ≡ new = ap (drop (length r₃ - length new)) is₃ ∙ drop_at (a ++ m) new (length r₃ - length new) (omega arith) in
    let others : drop from r₃ ≡ m ++ new = ap (drop from) is₃' ∙ drop_at a (m ++ new) from long_a in
    let middle : take (length r₃ - length new - from) (drop from r₃) ≡ m = ap (take (length r₃ - length new - from)) others ∙ take_at m new (length r₃ - length new - from) (omega arith) in
    e₄ ∙ ap (λ x. x ++ (drop (length r₃ - length new) r₃ ++ take (length r₃ - length new - from) (drop from r₃))) first
    ∙ ap (λ x. a ++ (x ++ take (length r₃ - length new - from) (drop from r₃))) last
    ∙ ap (λ x. a ++ (new ++ x)) middle

pub refilled : (r₂ r₃ new : List Cell) (ok : Bool) → ok ≡ true → r₃ ≡ cond ok (r₂ ++ new) r₂ → r₃ ≡ r₂ ++ new
refilled r₂ r₃ new ok e h = h ∙ ap (λ b. cond b (r₂ ++ new) r₂) e

-- ## One list more

pub joined_push : (ls : List (List Cell)) (l : List Cell) → joined (ls ++ l ∷ []) ≡ joined ls ++ l
joined_push ls l = joined_append ls (l ∷ []) ∙ ap (λ x. joined ls ++ x) (append-nil l)

pub starts_push : (n : ℕ) (ls : List (List Cell)) (l : List Cell) → starts_from n (ls ++ l ∷ []) ≡ starts_from n ls ++ (n + length (joined ls) + length l) ∷ []
starts_push n [] l = ap (λ (k : ℕ). n ∷ (k + length l) ∷ []) (omega arith)
starts_push n (x ∷ ls) l =
    let long : n + length x + length (joined ls) + length l ≡ n + length (x ++ joined ls) + length l = omega (arith, length-append x (joined ls)) in
    ap (λ s. n ∷ s) (starts_push (n + length x) ls l) ∙ ap (λ (k : ℕ). n ∷ (starts_from (n + length x) ls ++ k ∷ [])) long

-- ## Another list in the place of one

head_is : (starts : List ℕ) (cells : List Cell) (ls : List (List Cell)) (i : ℕ) → Parts starts cells ls i → take (i + 1) starts ≡ begins 0 (take i ls) ++ length (joined (take i ls)) ∷ []
head_is starts cells ls i p = ap (take (i + 1)) p.begin ∙ take_at (begins 0 (take i ls) ++ length (joined (take i ls)) ∷ []) _ (i + 1) p.front

tail_is : (starts : List ℕ) (cells : List Cell) (ls : List (List Cell)) (i : ℕ) → Parts starts cells ls i → drop (i + 1) starts ≡ starts_from (length (joined (take i ls)) + length (get_or ls i [])) (drop (i + 1) ls)
tail_is starts cells ls i p = ap (drop (i + 1)) p.begin ∙ drop_at (begins 0 (take i ls) ++ length (joined (take i ls)) ∷ []) _ (i + 1) p.front

pub row_length : (starts : List ℕ) (cells : List Cell) (ls : List (List Cell)) (i : ℕ) → Parts starts cells ls i → length cells ≡ length (joined (take i ls)) + (length (get_or ls i []) + length (joined (drop (i + 1) ls)))
row_length starts cells ls i p =
    let item = get_or ls i [] in
    let back = joined (drop (i + 1) ls) in
    omega (arith, ap length p.row, length-append (joined (take i ls)) (item ++ back), length-append item back)

-- the places behind it can be moved
pub may_move : (starts : List ℕ) (cells : List Cell) (ls : List (List Cell)) (i gone come top : ℕ) → Parts starts cells ls i → gone ≡ length (get_or ls i []) → length cells - gone + come < top
    → (k d : ℕ) → k < length (drop (i + 1) starts) → (gone ≤ get_or (drop (i + 1) starts) k d) × (get_or (drop (i + 1) starts) k d - gone + come < top)
may_move starts cells ls i gone come top p same fits k d lt =
    let s = length (joined (take i ls)) in
    let back = drop (i + 1) ls in
    let tail = tail_is starts cells ls i p in
    let first = s + length (get_or ls i []) in
    let here = start_within first back k d (subst (λ x. k < length x) tail lt) in
    let is : get_or (drop (i + 1) starts) k d ≡ get_or (starts_from first back) k d = ap (λ x. get_or x k d) tail in
    let low = here.0 in
    let high = here.1 in
    let long = row_length starts cells ls i p in
    (omega arith, omega arith)

pub moved_starts : (starts : List ℕ) (cells : List Cell) (ls : List (List Cell)) (i gone : ℕ) (l : List Cell) → Parts starts cells ls i → gone ≡ length (get_or ls i [])
    → take (i + 1) starts ++ map (λ s. s - gone + length l) (drop (i + 1) starts) ≡ starts_from 0 (set ls i l)
moved_starts starts cells ls i gone l p same =
    let s = length (joined (take i ls)) in
    let back = drop (i + 1) ls in
    let head = begins 0 (take i ls) ++ s ∷ [] in
    let f : ℕ → ℕ = λ x. x - gone + length l in
    ap (λ x. x ++ map f (drop (i + 1) starts)) (head_is starts cells ls i p)
    ∙ ap (λ x. head ++ map f x) (tail_is starts cells ls i p)
    ∙ ap (λ k. head ++ map f (starts_from (s + k) back)) (sym same)
    ∙ ap (λ x. head ++ x) (shifted s gone (length l) back)
    ∙ sym (starts_with ls i l (p.others l))

pub moved_row : (starts : List ℕ) (cells : List Cell) (ls : List (List Cell)) (i from gone : ℕ) (l : List Cell) → Parts starts cells ls i → from ≡ length (joined (take i ls)) → gone ≡ length (get_or ls i [])
    → take from cells ++ (l ++ drop (from + gone) cells) ≡ joined (set ls i l)
moved_row starts cells ls i from gone l p e same =
    let front = joined (take i ls) in
    let item = get_or ls i [] in
    let back = joined (drop (i + 1) ls) in
    let longer : length (front ++ item) ≡ from + gone = length-append front item ∙ omega arith in
    ap (λ x. x ++ (l ++ drop (from + gone) cells)) (ap (take from) p.row ∙ take_at front (item ++ back) from (sym e))
    ∙ ap (λ x. front ++ (l ++ x)) (ap (drop (from + gone)) (p.row ∙ sym (append_assoc front item back)) ∙ drop_at (front ++ item) back (from + gone) longer)
    ∙ sym (row_with ls i l (p.others l))

pub changed_length : (ls : List (List Cell)) (i : ℕ) (l : List Cell) → set ls i l ≡ take i ls ++ l ∷ drop (i + 1) ls → length (joined (set ls i l)) ≡ length (joined (take i ls)) + (length l + length (joined (drop (i + 1) ls)))
changed_length ls i l is =
    let back = joined (drop (i + 1) ls) in
    omega (arith, ap length (row_with ls i l is), length-append (joined (take i ls)) (l ++ back), length-append l back)

pub item_within : (ls : List (List Cell)) (i : ℕ) → length (get_or ls i []) ≤ length (joined ls)
item_within [] i = omega arith
item_within (l ∷ ls) zero = omega (arith, length-append l (joined ls))
item_within (l ∷ ls) (suc i) = omega (arith, length-append l (joined ls), item_within ls i)
