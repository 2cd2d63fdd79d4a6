-- Whether two values have the same label and as many parts.
use Rattle.std.proofs.Common.{◌≡◌, ℕ, zero, suc, ◌<◌, ◌≤◌, List, [], ◌∷◌, Bool, true, false, refl, sym, ◌∙◌, arith, Option, Some, None, length, drop}
use Rattle.std.specs.Prelude.{eqb, ◌&&◌}
use Rattle.std.specs.List.{slice_get}
use Rattle.std.proofs.lemmas.Bool.{eq-eqb, ne_eqb}
use Rattle.std.proofs.lemmas.Option.{slice_get_within}
use Rattle.dg_meaning.specs.Values.{Value, Values, NoMore, More}
use Rattle.dg_meaning.specs.Unify.{same_spelling, as_many}
use Rattle.dg_unify.specs.Store.{or_nil, IsTold, part_at}
use Rattle.dg_unify.specs.Parts.{dropped}

-- ## Letters

-- what two letters at the same place say, where the others say r
abbrev both_letters : Option ℕ → Option ℕ → Bool → Bool
both_letters None None r = true
both_letters None (Some y) r = false
both_letters (Some x) None r = false
both_letters (Some x) (Some y) r = eqb x y && r

spelling_left : (n : ℕ) (ys : List ℕ) → same_spelling [] (drop n ys) ≡ both_letters None (slice_get ys n) (same_spelling [] (drop (suc n) ys))
spelling_left zero [] = refl
spelling_left zero (y ∷ ys) = refl
spelling_left (suc n) [] = refl
spelling_left (suc n) (y ∷ ys) = spelling_left n ys

spelling_right : (n : ℕ) (xs : List ℕ) → same_spelling (drop n xs) [] ≡ both_letters (slice_get xs n) None (same_spelling (drop (suc n) xs) [])
spelling_right zero [] = refl
spelling_right zero (x ∷ xs) = refl
spelling_right (suc n) [] = refl
spelling_right (suc n) (x ∷ xs) = spelling_right n xs

spelling_at : (n : ℕ) (xs ys : List ℕ) → same_spelling (drop n xs) (drop n ys) ≡ both_letters (slice_get xs n) (slice_get ys n) (same_spelling (drop (suc n) xs) (drop (suc n) ys))
spelling_at zero [] [] = refl
spelling_at zero [] (y ∷ ys) = refl
spelling_at zero (x ∷ xs) [] = refl
spelling_at zero (x ∷ xs) (y ∷ ys) = refl
spelling_at (suc n) [] [] = refl
spelling_at (suc n) [] (y ∷ ys) = spelling_left n ys
spelling_at (suc n) (x ∷ xs) [] = spelling_right n xs
spelling_at (suc n) (x ∷ xs) (y ∷ ys) = spelling_at n xs ys

-- what is known of two words when the letters before a place are the same
pub record SameTo (n : ℕ) (xs ys : List ℕ) : Type 0 where
  pub same : same_spelling xs ys ≡ same_spelling (drop n xs) (drop n ys)

pub same_start : (xs ys : List ℕ) → SameTo 0 xs ys
same_start xs ys = record { same = refl }

pub letters_end : (n : ℕ) (xs ys : List ℕ) → SameTo n xs ys → slice_get xs n ≡ None → slice_get ys n ≡ None → true ≡ same_spelling xs ys
letters_end n xs ys h ex ey = sym (h.same ∙ spelling_at n xs ys ∙ rw (ex, ey) refl)

pub letters_longer : (n : ℕ) (xs ys : List ℕ) (y : ℕ) → SameTo n xs ys → slice_get xs n ≡ None → slice_get ys n ≡ Some y → false ≡ same_spelling xs ys
letters_longer n xs ys y h ex ey = sym (h.same ∙ spelling_at n xs ys ∙ rw (ex, ey) refl)

pub letters_shorter : (n : ℕ) (xs ys : List ℕ) (x : ℕ) → SameTo n xs ys → slice_get xs n ≡ Some x → slice_get ys n ≡ None → false ≡ same_spelling xs ys
letters_shorter n xs ys x h ex ey = sym (h.same ∙ spelling_at n xs ys ∙ rw (ex, ey) refl)

pub letters_differ : (n : ℕ) (xs ys : List ℕ) (x y : ℕ) → SameTo n xs ys → slice_get xs n ≡ Some x → slice_get ys n ≡ Some y → (x ≡ y → ⊥) → false ≡ same_spelling xs ys
letters_differ n xs ys x y h ex ey ne = sym (h.same ∙ spelling_at n xs ys ∙ rw (ex, ey, ne_eqb x y ne) refl)

pub letters_go_on : (n m : ℕ) (xs ys : List ℕ) (x y : ℕ) → m ≡ suc n → SameTo n xs ys → slice_get xs n ≡ Some x → slice_get ys n ≡ Some y → x ≡ y → SameTo m xs ys
letters_go_on n m xs ys x y em h ex ey e = record { same = h.same ∙ spelling_at n xs ys ∙ rw (ex, ey, eq-eqb x y e, em) refl }

pub letter_below : (n : ℕ) (xs : List ℕ) (x : ℕ) → length xs ≤ 200 → slice_get xs n ≡ Some x → n < 200
letter_below n xs x le h = omega (arith, slice_get_within xs n x h, le)

-- ## Captured values

abbrev both_parts : Option Value → Option Value → Bool → Bool
both_parts None None r = true
both_parts None (Some y) r = false
both_parts (Some x) None r = false
both_parts (Some x) (Some y) r = r

many_left : (n : ℕ) (us : Values) → as_many NoMore (dropped n us) ≡ both_parts None (part_at n us) (as_many NoMore (dropped (suc n) us))
many_left zero NoMore = refl
many_left zero (More u us) = refl
many_left (suc n) NoMore = refl
many_left (suc n) (More u us) = many_left n us

many_right : (n : ℕ) (vs : Values) → as_many (dropped n vs) NoMore ≡ both_parts (part_at n vs) None (as_many (dropped (suc n) vs) NoMore)
many_right zero NoMore = refl
many_right zero (More v vs) = refl
many_right (suc n) NoMore = refl
many_right (suc n) (More v vs) = many_right n vs

many_at : (n : ℕ) (vs us : Values) → as_many (dropped n vs) (dropped n us) ≡ both_parts (part_at n vs) (part_at n us) (as_many (dropped (suc n) vs) (dropped (suc n) us))
many_at zero NoMore NoMore = refl
many_at zero NoMore (More u us) = refl
many_at zero (More v vs) NoMore = refl
many_at zero (More v vs) (More u us) = refl
many_at (suc n) NoMore us = many_left (suc n) us
many_at (suc n) (More v vs) NoMore = many_right n vs
many_at (suc n) (More v vs) (More u us) = many_at n vs us

pub record ManyTo (n : ℕ) (vs us : Values) : Type 0 where
  pub same : as_many vs us ≡ as_many (dropped n vs) (dropped n us)

pub many_start : (vs us : Values) → ManyTo 0 vs us
many_start vs us = record { same = refl }

part_some : (o : Option Value) → IsTold o → o ≡ Some (or_nil o)
part_some None h = absurd h
part_some (Some v) h = refl

pub parts_end : (n : ℕ) (vs us : Values) → ManyTo n vs us → part_at n vs ≡ None → part_at n us ≡ None → true ≡ as_many vs us
parts_end n vs us h ev eu = sym (h.same ∙ many_at n vs us ∙ rw (ev, eu) refl)

pub parts_longer : (n : ℕ) (vs us : Values) → ManyTo n vs us → part_at n vs ≡ None → IsTold (part_at n us) → false ≡ as_many vs us
parts_longer n vs us h ev eu = sym (h.same ∙ many_at n vs us ∙ rw (ev, part_some (part_at n us) eu) refl)

pub parts_shorter : (n : ℕ) (vs us : Values) → ManyTo n vs us → IsTold (part_at n vs) → part_at n us ≡ None → false ≡ as_many vs us
parts_shorter n vs us h ev eu = sym (h.same ∙ many_at n vs us ∙ rw (part_some (part_at n vs) ev, eu) refl)

pub parts_go_on : (n m : ℕ) (vs us : Values) → m ≡ suc n → ManyTo n vs us → IsTold (part_at n vs) → IsTold (part_at n us) → ManyTo m vs us
parts_go_on n m vs us em h ev eu = record { same = h.same ∙ many_at n vs us ∙ rw (part_some (part_at n vs) ev, part_some (part_at n us) eu, em) refl }
