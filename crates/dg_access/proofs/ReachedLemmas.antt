-- Which places are reached from others.
use Rattle.std.proofs.Common.{◌≡◌, ◌+◌, ◌<◌, ◌≤◌, ◌⊎◌, ℕ, zero, suc, List, [], ◌∷◌, ◌++◌, ◌&&◌, ◌||◌, Bool, true, false, not, length, set, take, get_or, replicate, nat_eq, nat_lt, refl, sym, ◌∙◌, ap, subst, inl, inr, append_assoc, append-nil, take-append-drop, drop, ltb-true, take_all, length-set, eqb-true, eq-eqb, lt-ltb, arith}
use Rattle.std.specs.Prelude.{Vec, if◌then◌else◌}
use Rattle.std.specs.Global.{Global}
use Rattle.std.proofs.lemmas.Bool.{or_cases, or_left, or_right}
use Rattle.std.proofs.lemmas.List.{length-append, length-replicate, take_more, take-append-le}
use Rattle.dg_access.specs.inside.Reached.{is_set, is_in, row_at, rows_of, Places, noted, all_noted, Leads, begins, goes, IsReached}

pub set_here : (row : List Bool) (i : ℕ) (d : Bool) → i < length row → is_set row i ≡ get_or row i d
set_here [] i d h = absurd (omega arith)
set_here (y ∷ row) zero d h = refl
set_here (y ∷ row) (suc i) d h = set_here row i d (omega arith)

pub set_behind : (row : List Bool) (i : ℕ) → length row ≤ i → is_set row i ≡ false
set_behind [] i h = refl
set_behind (y ∷ row) zero h = absurd (omega arith)
set_behind (y ∷ row) (suc i) h = set_behind row i (omega arith)

pub row_here : (rows : List (Vec ℕ Global)) (i : ℕ) (row : Vec ℕ Global) → row ≡ get_or rows i row → i < length rows
    → row_at (rows_of rows) i ≡ row.items
row_here [] i row e h = absurd (omega arith)
row_here (y ∷ rows) zero row e h = ap (λ (v : Vec ℕ Global). v.items) (sym e)
row_here (y ∷ rows) (suc i) row e h = row_here rows i row e (omega arith)

pub row_behind : (rows : List (Vec ℕ Global)) (i : ℕ) → length rows ≤ i → row_at (rows_of rows) i ≡ []
row_behind [] i h = refl
row_behind (y ∷ rows) zero h = absurd (omega arith)
row_behind (y ∷ rows) (suc i) h = row_behind rows i (omega arith)

-- ---- lists of places

in_left : (k : ℕ) (xs ys : List ℕ) → is_in k xs ≡ true → is_in k (xs ++ ys) ≡ true
in_left k [] ys e = cc
in_left k (x ∷ xs) ys e = by (λ f. in_left k xs ys f) (or_cases (nat_eq k x) (is_in k xs) e)
  where
    by : (is_in k xs ≡ true → is_in k (xs ++ ys) ≡ true) → (nat_eq k x ≡ true) ⊎ (is_in k xs ≡ true)
        → (nat_eq k x || is_in k (xs ++ ys)) ≡ true
    by on (inl f) = or_left (nat_eq k x) (is_in k (xs ++ ys)) f
    by on (inr f) = or_right (nat_eq k x) (is_in k (xs ++ ys)) (on f)

in_last : (k : ℕ) (xs : List ℕ) → is_in k (xs ++ k ∷ []) ≡ true
in_last k [] = or_left (nat_eq k k) false (eq-eqb k k refl)
in_last k (x ∷ xs) = or_right (nat_eq k x) (is_in k (xs ++ k ∷ [])) (in_last k xs)

in_more : (k j : ℕ) (xs : List ℕ) → is_in k (xs ++ j ∷ []) ≡ true → (is_in k xs ≡ true) ⊎ (k ≡ j)
in_more k j [] e = by (or_cases (nat_eq k j) false e)
  where
    by : (nat_eq k j ≡ true) ⊎ (false ≡ true) → (false ≡ true) ⊎ (k ≡ j)
    by (inl f) = inr (eqb-true k j f)
    by (inr f) = inl f
in_more k j (x ∷ xs) e = by (λ f. in_more k j xs f) (or_cases (nat_eq k x) (is_in k (xs ++ j ∷ [])) e)
  where
    then_on : (is_in k xs ≡ true) ⊎ (k ≡ j) → ((nat_eq k x || is_in k xs) ≡ true) ⊎ (k ≡ j)
    then_on (inl f) = inl (or_right (nat_eq k x) (is_in k xs) f)
    then_on (inr f) = inr f

    by : (is_in k (xs ++ j ∷ []) ≡ true → (is_in k xs ≡ true) ⊎ (k ≡ j)) → (nat_eq k x ≡ true) ⊎ (is_in k (xs ++ j ∷ []) ≡ true)
        → ((nat_eq k x || is_in k xs) ≡ true) ⊎ (k ≡ j)
    by on (inl f) = inl (or_left (nat_eq k x) (is_in k xs) f)
    by on (inr f) = then_on (on f)

-- ---- one more place

set_kept : (seen : List Bool) (i j : ℕ) → is_set seen j ≡ true → is_set (set seen i true) j ≡ true
set_kept [] i j e = e
set_kept (x ∷ seen) zero zero e = refl
set_kept (x ∷ seen) zero (suc j) e = e
set_kept (x ∷ seen) (suc i) zero e = e
set_kept (x ∷ seen) (suc i) (suc j) e = set_kept seen i j e

set_same : (seen : List Bool) (i : ℕ) → i < length seen → is_set (set seen i true) i ≡ true
set_same [] i h = absurd (omega arith)
set_same (x ∷ seen) zero h = refl
set_same (x ∷ seen) (suc i) h = set_same seen i (omega arith)

set_from : (seen : List Bool) (i j : ℕ) → is_set (set seen i true) j ≡ true → (is_set seen j ≡ true) ⊎ (j ≡ i)
set_from [] i j e = inl e
set_from (x ∷ seen) zero zero e = inr refl
set_from (x ∷ seen) zero (suc j) e = inl e
set_from (x ∷ seen) (suc i) zero e = inl e
set_from (x ∷ seen) (suc i) (suc j) e = by (set_from seen i j e)
  where
    by : (is_set seen j ≡ true) ⊎ (j ≡ i) → (is_set seen j ≡ true) ⊎ (suc j ≡ suc i)
    by (inl f) = inl f
    by (inr f) = inr (ap (λ (n : ℕ). suc n) f)

-- how many places were reached
abbrev many_set : List Bool → ℕ
many_set [] = 0
many_set (true ∷ seen) = many_set seen + 1
many_set (false ∷ seen) = many_set seen

none_many : (n : ℕ) → many_set (replicate n false) ≡ 0
none_many zero = refl
none_many (suc n) = none_many n

few_set : (seen : List Bool) → many_set seen ≤ length seen
few_set [] = omega arith
few_set (true ∷ seen) = let h = few_set seen in omega (arith, h)
few_set (false ∷ seen) = let h = few_set seen in omega (arith, h)

one_set : (seen : List Bool) (k : ℕ) → k < length seen → is_set seen k ≡ false → many_set (set seen k true) ≡ many_set seen + 1
one_set [] k h e = absurd (omega arith)
one_set (true ∷ seen) zero h e = absurd (let bad : true ≡ false = e in cc)
one_set (false ∷ seen) zero h e = refl
one_set (true ∷ seen) (suc k) h e = ap (λ (n : ℕ). n + 1) (one_set seen k (omega (arith, h)) e)
one_set (false ∷ seen) (suc k) h e = one_set seen k (omega (arith, h)) e

-- what is known where these come to the places that were reached
record Grows (ks : List ℕ) (old new : Places) : Type 0 where
  size : length new.seen ≡ length old.seen
  many : length old.found ≡ many_set old.seen → length new.found ≡ many_set new.seen
  kept : (j : ℕ) → is_set old.seen j ≡ true → is_set new.seen j ≡ true
  from : (j : ℕ) → is_set new.seen j ≡ true → (is_set old.seen j ≡ true) ⊎ (is_in j ks ≡ true)
  here : (j : ℕ) → is_in j ks ≡ true → j < length old.seen → is_set new.seen j ≡ true
  rest : List ℕ
  behind : new.found ≡ old.found ++ rest
  told : ((j : ℕ) → is_set old.seen j ≡ true → is_in j old.found ≡ true) → (j : ℕ) → is_set new.seen j ≡ true → is_in j new.found ≡ true
  shown : ((j : ℕ) → is_in j old.found ≡ true → is_set old.seen j ≡ true) → (j : ℕ) → is_in j new.found ≡ true → is_set new.seen j ≡ true

stays : (k : ℕ) (r : Places) → (k < length r.seen → is_set r.seen k ≡ true) → Grows (k ∷ []) r r
stays k r there = record {
  size = refl;
  many = λ all. all;
  kept = λ j e. e;
  from = λ j e. inl e;
  here = λ j e h. let is = only j e in subst (λ (n : ℕ). is_set r.seen n ≡ true) (sym is) (there (subst (λ (n : ℕ). n < length r.seen) is h));
  rest = [];
  behind = sym (append-nil r.found);
  told = λ all. all;
  shown = λ all. all;
}
  where
    only : (j : ℕ) → is_in j (k ∷ []) ≡ true → j ≡ k
    only j e = by (or_cases (nat_eq j k) false e)
      where
        by : (nat_eq j k ≡ true) ⊎ (false ≡ true) → j ≡ k
        by (inl f) = eqb-true j k f
        by (inr f) = absurd (let bad : false ≡ true = f in cc)

comes : (k : ℕ) (r : Places) → k < length r.seen → is_set r.seen k ≡ false
    → Grows (k ∷ []) r (record { seen = set r.seen k true; found = r.found ++ k ∷ [] })
comes k r h off = record {
  size = length-set r.seen k true;
  many = λ e. length-append r.found (k ∷ []) ∙ ap (λ (n : ℕ). n + 1) e ∙ sym (one_set r.seen k h off);
  kept = λ j e. set_kept r.seen k j e;
  from = λ j e. from_one j (set_from r.seen k j e);
  here = λ j e l. subst (λ (n : ℕ). is_set (set r.seen k true) n ≡ true) (sym (only j e)) (set_same r.seen k h);
  rest = k ∷ [];
  behind = refl;
  told = λ all j e. told_one all j (set_from r.seen k j e);
  shown = λ all j e. shown_one all j (in_more j k r.found e);
}
  where
    only : (j : ℕ) → is_in j (k ∷ []) ≡ true → j ≡ k
    only j e = by (or_cases (nat_eq j k) false e)
      where
        by : (nat_eq j k ≡ true) ⊎ (false ≡ true) → j ≡ k
        by (inl f) = eqb-true j k f
        by (inr f) = absurd (let bad : false ≡ true = f in cc)

    from_one : (j : ℕ) → (is_set r.seen j ≡ true) ⊎ (j ≡ k) → (is_set r.seen j ≡ true) ⊎ (is_in j (k ∷ []) ≡ true)
    from_one j (inl f) = inl f
    from_one j (inr f) = inr (or_left (nat_eq j k) false (eq-eqb j k f))

    told_one : ((j : ℕ) → is_set r.seen j ≡ true → is_in j r.found ≡ true) → (j : ℕ) → (is_set r.seen j ≡ true) ⊎ (j ≡ k)
        → is_in j (r.found ++ k ∷ []) ≡ true
    told_one all j (inl f) = in_left j r.found (k ∷ []) (all j f)
    told_one all j (inr f) = subst (λ (n : ℕ). is_in n (r.found ++ k ∷ []) ≡ true) (sym f) (in_last k r.found)

    shown_one : ((j : ℕ) → is_in j r.found ≡ true → is_set r.seen j ≡ true) → (j : ℕ) → (is_in j r.found ≡ true) ⊎ (j ≡ k)
        → is_set (set r.seen k true) j ≡ true
    shown_one all j (inl f) = set_kept r.seen k j (all j f)
    shown_one all j (inr f) = subst (λ (n : ℕ). is_set (set r.seen k true) n ≡ true) (sym f) (set_same r.seen k h)

one_grows : (k : ℕ) (r : Places) → Grows (k ∷ []) r (noted k r)
one_grows k r = by (nat_lt k (length r.seen)) (is_set r.seen k) refl refl
  where
    by : (b c : Bool) → nat_lt k (length r.seen) ≡ b → is_set r.seen k ≡ c
        → Grows (k ∷ []) r (if b && not c then record { seen = set r.seen k true; found = r.found ++ k ∷ [] } else r)
    by true false e f = comes k r (ltb-true k (length r.seen) e) f
    by true true e f = stays k r (λ h. f)
    by false c e f = stays k r (λ h. absurd (let bad : false ≡ true = sym e ∙ lt-ltb k (length r.seen) h in cc))

one_more : (k : ℕ) (ks : List ℕ) (old mid new : Places) → Grows (k ∷ []) old mid → Grows ks mid new → Grows (k ∷ ks) old new
one_more k ks old mid new a b = record {
  size = b.size ∙ a.size;
  many = λ e. b.many (a.many e);
  kept = λ j e. b.kept j (a.kept j e);
  from = λ j e. by_from j (b.from j e);
  here = λ j e h. by_here j h (or_cases (nat_eq j k) (is_in j ks) e);
  rest = a.rest ++ b.rest;
  behind = b.behind ∙ ap (λ (l : List ℕ). l ++ b.rest) a.behind ∙ append_assoc old.found a.rest b.rest;
  told = λ all. b.told (a.told all);
  shown = λ all. b.shown (a.shown all);
}
  where
    first_from : (j : ℕ) → (is_set old.seen j ≡ true) ⊎ (is_in j (k ∷ []) ≡ true) → (is_set old.seen j ≡ true) ⊎ (is_in j (k ∷ ks) ≡ true)
    first_from j (inl f) = inl f
    first_from j (inr f) = inr (in_left j (k ∷ []) ks f)

    by_from : (j : ℕ) → (is_set mid.seen j ≡ true) ⊎ (is_in j ks ≡ true) → (is_set old.seen j ≡ true) ⊎ (is_in j (k ∷ ks) ≡ true)
    by_from j (inl f) = first_from j (a.from j f)
    by_from j (inr f) = inr (or_right (nat_eq j k) (is_in j ks) f)

    by_here : (j : ℕ) → j < length old.seen → (nat_eq j k ≡ true) ⊎ (is_in j ks ≡ true) → is_set new.seen j ≡ true
    by_here j h (inl f) = b.kept j (a.here j (or_left (nat_eq j k) false f) h)
    by_here j h (inr f) = b.here j f (subst (λ (n : ℕ). j < n) (sym a.size) h)

none_grows : (r : Places) → Grows [] r r
none_grows r = record {
  size = refl;
  many = λ all. all;
  kept = λ j e. e;
  from = λ j e. inl e;
  here = λ j e h. absurd (let bad : false ≡ true = e in cc);
  rest = [];
  behind = sym (append-nil r.found);
  told = λ all. all;
  shown = λ all. all;
}

all_grow : (ks : List ℕ) (r : Places) → Grows ks r (all_noted ks r)
all_grow [] r = none_grows r
all_grow (k ∷ ks) r = one_more k ks r (noted k r) (all_noted ks (noted k r)) (one_grows k r) (all_grow ks (noted k r))

-- ---- the walk

-- Where the first n of the places that were reached have led on.
pub record IsGoing (rows : List (List ℕ)) (start : List ℕ) (n : ℕ) (r : Places) : Type 0 where
  pub size : length r.seen ≡ length rows
  pub many : length r.found ≡ many_set r.seen
  pub led : (k : ℕ) → is_set r.seen k ≡ true → Leads rows start k
  pub begun : (k : ℕ) → k < length rows → is_in k start ≡ true → is_set r.seen k ≡ true
  pub gone : (k to : ℕ) → is_in k (take n r.found) ≡ true → to < length rows → is_in to (row_at rows k) ≡ true → is_set r.seen to ≡ true
  pub told : (k : ℕ) → is_set r.seen k ≡ true → is_in k r.found ≡ true
  pub shown : (k : ℕ) → is_in k r.found ≡ true → is_set r.seen k ≡ true

none_set : (n k : ℕ) → is_set (replicate n false) k ≡ false
none_set zero k = refl
none_set (suc n) zero = refl
none_set (suc n) (suc k) = none_set n k

start_grown : (rows : List (List ℕ)) (start : List ℕ) (old new : Places) → old.found ≡ [] → length old.seen ≡ length rows
    → many_set old.seen ≡ 0 → ((k : ℕ) → is_set old.seen k ≡ false) → Grows start old new → IsGoing rows start 0 new
start_grown rows start old new none size few off g = record {
  size = g.size ∙ size;
  many = g.many (ap length none ∙ sym few);
  led = λ k e. by k (g.from k e);
  begun = λ k h e. g.here k e (subst (λ (n : ℕ). k < n) (sym size) h);
  gone = λ k to e h i. absurd (let bad : false ≡ true = e in cc);
  told = g.told (λ k e. absurd (let bad : false ≡ true = sym (off k) ∙ e in cc));
  shown = g.shown (λ k e. absurd (let bad : false ≡ true = ap (is_in k) (sym none) ∙ e in cc));
}
  where
    by : (k : ℕ) → (is_set old.seen k ≡ true) ⊎ (is_in k start ≡ true) → Leads rows start k
    by k (inl f) = absurd (let bad : false ≡ true = sym (off k) ∙ f in cc)
    by k (inr f) = begins k f

pub started : (rows : List (List ℕ)) (start : List ℕ) (n : ℕ) (seen : List Bool) (found : List ℕ) (new : Places) → seen ≡ replicate n false
    → n ≡ length rows → found ≡ [] → new ≡ all_noted start (record { seen = seen; found = found }) → IsGoing rows start 0 new
started rows start n seen found new e size none is =
    let old : Places = record { seen = seen; found = found } in
    start_grown rows start old new none (ap length e ∙ length-replicate n false ∙ size) (ap many_set e ∙ none_many n) (λ k. ap (λ (l : List Bool). is_set l k) e ∙ none_set n k)
    (subst (λ (r : Places). Grows start old r) (sym is) (all_grow start old))

grown : (rows : List (List ℕ)) (start : List ℕ) (n place : ℕ) (old new : Places) → n < length old.found → place ≡ get_or old.found n place
    → IsGoing rows start n old → Grows (row_at rows place) old new → IsGoing rows start (n + 1) new
grown rows start n place old new h at w g = record {
  size = g.size ∙ w.size;
  many = g.many w.many;
  led = λ k e. by_led k (g.from k e);
  begun = λ k l e. g.kept k (w.begun k l e);
  gone = λ k to e l i. by_gone k to l i (in_more k place (take n old.found) (sym (ap (is_in k) firsts) ∙ e));
  told = g.told w.told;
  shown = g.shown w.shown;
}
  where
    firsts : take (n + 1) new.found ≡ take n old.found ++ place ∷ []
    firsts =
        ap (take (n + 1)) g.behind
        ∙ take-append-le (n + 1) old.found g.rest (omega (arith, h))
        ∙ take_more old.found n place h
        ∙ ap (λ (p : ℕ). take n old.found ++ p ∷ []) (sym at)

    is_found : is_in place old.found ≡ true
    is_found = subst (λ (l : List ℕ). is_in place l ≡ true) (take_split old.found n) (in_left place (take (n + 1) old.found) (drop (n + 1) old.found) (ap (is_in place) (take_more old.found n place h ∙ ap (λ (p : ℕ). take n old.found ++ p ∷ []) (sym at)) ∙ in_last place (take n old.found)))
      where
        take_split : (l : List ℕ) (m : ℕ) → take (m + 1) l ++ drop (m + 1) l ≡ l
        take_split l m = take-append-drop (m + 1) l

    by_led : (k : ℕ) → (is_set old.seen k ≡ true) ⊎ (is_in k (row_at rows place) ≡ true) → Leads rows start k
    by_led k (inl f) = w.led k f
    by_led k (inr f) = goes place k (w.led place (w.shown place is_found)) f

    by_gone : (k to : ℕ) → to < length rows → is_in to (row_at rows k) ≡ true → (is_in k (take n old.found) ≡ true) ⊎ (k ≡ place)
        → is_set new.seen to ≡ true
    by_gone k to l i (inl f) = g.kept to (w.gone k to f l i)
    by_gone k to l i (inr f) = g.here to (subst (λ (p : ℕ). is_in to (row_at rows p) ≡ true) f i) (subst (λ (m : ℕ). to < m) (sym w.size) l)

pub stepped : (rows : List (List ℕ)) (start : List ℕ) (n place : ℕ) (old new : Places) → n < length old.found → place ≡ get_or old.found n place
    → new ≡ all_noted (row_at rows place) old → IsGoing rows start n old → IsGoing rows start (n + 1) new
stepped rows start n place old new h at e w =
    grown rows start n place old new h at w (subst (λ (r : Places). Grows (row_at rows place) old r) (sym e) (all_grow (row_at rows place) old))

pub ended : (rows : List (List ℕ)) (start : List ℕ) (n : ℕ) (r : Places) → length r.found ≤ n → IsGoing rows start n r
    → IsReached rows start r.seen
ended rows start n r h w = record {
  led = w.led;
  begun = w.begun;
  gone = λ k to e l i. w.gone k to (ap (is_in k) (take_all n r.found h) ∙ w.told k e) l i;
}

-- no more places are reached than there are
pub all_gone : (rows : List (List ℕ)) (start : List ℕ) (n : ℕ) (r : Places) → length rows ≤ n → IsGoing rows start n r
    → IsReached rows start r.seen
all_gone rows start n r h w = ended rows start n r (few (few_set r.seen) w.many w.size) w
  where
    few : many_set r.seen ≤ length r.seen → length r.found ≡ many_set r.seen → length r.seen ≡ length rows → length r.found ≤ n
    few f m s = omega (arith, f, m, s, h)
