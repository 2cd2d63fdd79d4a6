-- Sets of predicates, and what is taken out of them.
use Rattle.std.proofs.Common.{◌≡◌, ℕ, zero, suc, ◌+◌, ◌<◌, ◌≤◌, ◌⊎◌, inl, inr, List, [], ◌∷◌, Bool, true, false, Some, refl, sym, ap, ◌∙◌, subst, arith, length, get_or, replicate}
use Rattle.std.specs.Prelude.{not, ◌&&◌, ◌||◌, slice_get, slice_set}
use Rattle.std.proofs.lemmas.Bool.{cases_eq}
use Rattle.dg_base.specs.declared.program.Goal.{Goal, out-Goal, Row_of-Goal, end_of-Goal, more_of-Goal, items-the_row-Goal, Row_of-Goal-Either-0-1, end_of-Goal-Either-0-1, more_of-Goal-Either-0-1, If', Select'}
use Rattle.dg_base.specs.declared.program.Goal.TheOpen as part
use Rattle.dg_base.specs.declared.program.Pred.{Pred}
use Rattle.dg_base.specs.Goals.{has_rule}
use Rattle.dg_base.specs.declared.program.Rule.{Rule}
use Rattle.dg_single.specs.Plain.{is_plain_form, is_plain, is_plain_row, are_plain_rows, has_just, has_cut, are_plain, rules_fit}
use Rattle.dg_meaning.specs.Sets.{is_in_set, IsSubset}
use Rattle.dg_single.specs.Singles.{HasAll}
use Rattle.dg_single.specs.inside.Left.{one_if, count_in, Sifted}

-- ## Tests that hold

pub and_left : (a b : Bool) → (a && b) ≡ true → a ≡ true
and_left true b h = refl
and_left false b h = h

pub and_right : (a b : Bool) → (a && b) ≡ true → b ≡ true
and_right true b h = h
and_right false b h = absurd (cc (h))

pub and_both : (a b : Bool) → a ≡ true → b ≡ true → (a && b) ≡ true
and_both a b h k = ap (λ x. x && b) h ∙ k

pub or_cases : (a b : Bool) → (a || b) ≡ true → (a ≡ true) ⊎ (b ≡ true)
or_cases true b h = inl refl
or_cases false b h = inr h

pub or_left : (a b : Bool) → a ≡ true → (a || b) ≡ true
or_left a b h = ap (λ x. x || b) h

pub or_right : (a b : Bool) → b ≡ true → (a || b) ≡ true
or_right true b h = refl
or_right false b h = h

-- ## A larger set has more plain goals

abbrev pub Sub : List Bool → List Bool → Type 0
Sub s t = (p : ℕ) → is_in_set s p ≡ true → is_in_set t p ≡ true

form_more : (s t : List Bool) → Sub s t → (x : part.Goal-F Goal) → is_plain_form s x ≡ true → is_plain_form t x ≡ true
form_more s t sub (part.Ask pred args many) h = elim (or_cases (not many) (is_in_set s pred) h) [ inl e ↦ or_left (not many) (is_in_set t pred) e | inr e ↦ or_right (not many) (is_in_set t pred) (sub pred e) ]
form_more s t sub (part.Either lists) h = h
form_more s t sub part.Forever h = h
form_more s t sub (part.Holds place args many) h = h
form_more s t sub (part.IsObject a many) h = h
form_more s t sub (part.Query a b many) h = h
form_more s t sub _ h = refl

mutual
  goal_more : (s t : List Bool) → Sub s t → (g : Goal) → is_plain s g ≡ true → is_plain t g ≡ true
  goal_more s t sub (If' k test l first m other) h =
      and_both (is_plain_row t first) (is_plain_row t other) (row_more s t sub first (and_left (is_plain_row s first) (is_plain_row s other) h)) (row_more s t sub other (and_right (is_plain_row s first) (is_plain_row s other) h))
  goal_more s t sub (Select' site mode k lists) h = rows_more s t sub lists h
  goal_more s t sub g h = form_more s t sub (out-Goal g) h

  row_more : {n : _} → (s t : List Bool) → Sub s t → (k : Row_of-Goal n) → is_plain_row s k ≡ true → is_plain_row t k ≡ true
  row_more s t sub end_of-Goal h = refl
  row_more s t sub (more_of-Goal g others) h =
      and_both (is_plain_row t others) (has_just (items-the_row-Goal _ others) || is_plain t g) (row_more s t sub others (and_left (is_plain_row s others) (has_just (items-the_row-Goal _ others) || is_plain s g) h))
      (elim (or_cases (has_just (items-the_row-Goal _ others)) (is_plain s g) (and_right (is_plain_row s others) (has_just (items-the_row-Goal _ others) || is_plain s g) h)) [
        | inl e ↦ or_left (has_just (items-the_row-Goal _ others)) (is_plain t g) e
        | inr e ↦ or_right (has_just (items-the_row-Goal _ others)) (is_plain t g) (goal_more s t sub g e)
      ])

  rows_more : {n : _} → (s t : List Bool) → Sub s t → (k : Row_of-Goal-Either-0-1 n) → are_plain_rows s k ≡ true → are_plain_rows t k ≡ true
  rows_more s t sub end_of-Goal-Either-0-1 h = refl
  rows_more s t sub (more_of-Goal-Either-0-1 k goals others) h =
      and_both (is_plain_row t goals) (are_plain_rows t others) (row_more s t sub goals (and_left (is_plain_row s goals) (are_plain_rows s others) h)) (rows_more s t sub others (and_right (is_plain_row s goals) (are_plain_rows s others) h))

body_more : (s t : List Bool) → Sub s t → (gs : List Goal) → are_plain s gs ≡ true → are_plain t gs ≡ true
body_more s t sub [] h = refl
body_more s t sub (g ∷ gs) h =
    and_both (are_plain t gs) (has_just gs || is_plain t g) (body_more s t sub gs (and_left (are_plain s gs) (has_just gs || is_plain s g) h))
    (elim (or_cases (has_just gs) (is_plain s g) (and_right (are_plain s gs) (has_just gs || is_plain s g) h)) [
      | inl e ↦ or_left (has_just gs) (is_plain t g) e
      | inr e ↦ or_right (has_just gs) (is_plain t g) (goal_more s t sub g e)
    ])

rules_more : (s t : List Bool) → Sub s t → (rules : List Rule) → rules_fit s rules ≡ true → rules_fit t rules ≡ true
rules_more s t sub [] h = refl
rules_more s t sub (rule ∷ rules) h =
    let first = and_left (are_plain s rule.body && (not (has_rule rules) || has_cut rule.body)) (rules_fit s rules) h in
    and_both (are_plain t rule.body && (not (has_rule rules) || has_cut rule.body)) (rules_fit t rules)
    (and_both (are_plain t rule.body) (not (has_rule rules) || has_cut rule.body) (body_more s t sub rule.body (and_left (are_plain s rule.body) (not (has_rule rules) || has_cut rule.body) first)) (and_right (are_plain s rule.body) (not (has_rule rules) || has_cut rule.body) first))
    (rules_more s t sub rules (and_right (are_plain s rule.body && (not (has_rule rules) || has_cut rule.body)) (rules_fit s rules) h))

-- ## Taking out

in_range : (set : List Bool) (p : ℕ) → is_in_set set p ≡ true → p < length set
in_range [] p h = absurd (cc (h))
in_range (b ∷ set) zero h = omega arith
in_range (b ∷ set) (suc p) h = omega (arith, in_range set p h)

has_pred : (preds : List Pred) (p : ℕ) → p < length preds → (pred : Pred) × (slice_get preds p ≡ Some pred)
has_pred [] p lt = absurd (omega arith)
has_pred (x ∷ preds) zero lt = (x, refl)
has_pred (x ∷ preds) (suc p) lt = has_pred preds p (omega arith)

within_sub : (preds : List Pred) (s t : List Bool) → length s ≡ length preds → IsSubset preds s t → Sub s t
within_sub preds s t e w p h = let x = has_pred preds p (omega (arith, in_range s p h, e)) in w p x.0 x.1 h

length_without : (set : List Bool) (p : ℕ) → length (slice_set set p false) ≡ length set
length_without [] p = refl
length_without (b ∷ set) zero = refl
length_without (b ∷ set) (suc p) = ap suc (length_without set p)

others_stay : (set : List Bool) (p k : ℕ) → (p ≡ k → ⊥) → is_in_set (slice_set set k false) p ≡ is_in_set set p
others_stay [] p k ne = refl
others_stay (b ∷ set) zero zero ne = absurd (ne refl)
others_stay (b ∷ set) (suc p) zero ne = refl
others_stay (b ∷ set) zero (suc k) ne = refl
others_stay (b ∷ set) (suc p) (suc k) ne = others_stay set p k (λ e. ne (ap suc e))

fewer_without : (set : List Bool) (p : ℕ) → is_in_set set p ≡ true → count_in (slice_set set p false) < count_in set
fewer_without [] p h = absurd (cc (h))
fewer_without (b ∷ set) zero h = let e = ap one_if h in omega (arith, e)
fewer_without (b ∷ set) (suc p) h = omega (arith, fewer_without set p h)

-- what doesn't fit is in no such set
still_all : (preds : List Pred) (set : List Bool) (k : ℕ) (pred : Pred) → slice_get preds k ≡ Some pred → rules_fit set pred.rules ≡ false → HasAll preds set → HasAll preds (slice_set set k false)
still_all preds set k pred at unfit all s len closed p x get h =
    elim (cases_eq p k) [
      | inl e ↦
          let get' = ap (slice_get preds) (sym e) ∙ get in
          let here : is_in_set s k ≡ true = ap (is_in_set s) (sym e) ∙ h in
          let fits = rules_more s set (within_sub preds s set len (all s len closed)) pred.rules (closed k pred at here) in
          absurd (cc (fits, unfit))
      | inr ne ↦ others_stay set p k ne ∙ all s len closed p x get h
    ]

pub record Sieving (preds : List Pred) (old new : List Bool) (k : ℕ) (changed : Bool) : Type 0 where
  pub answers : length new ≡ length preds
  pub greatest : HasAll preds old → HasAll preds new
  pub fewer : changed ≡ true → count_in new < count_in old
  pub same : changed ≡ false → new ≡ old
  pub closed : changed ≡ false → (p : ℕ) → (pred : Pred) → p < k → slice_get preds p ≡ Some pred → is_in_set new p ≡ true → rules_fit new pred.rules ≡ true

at_most : (preds : List Pred) (old new : List Bool) (k : ℕ) (changed : Bool) → Sieving preds old new k changed → count_in new ≤ count_in old
at_most preds old new k true s = omega (arith, s.fewer refl)
at_most preds old new k false s = let e = ap count_in (s.same refl) in omega (arith, e)

pub sieving_starts : (preds : List Pred) (set : List Bool) → length set ≡ length preds → Sieving preds set set 0 false
sieving_starts preds set e = record { answers = e; greatest = λ h. h; fewer = λ h. absurd (cc (h)); same = λ h. refl; closed = λ h p pred lt. absurd (omega (arith, lt)) }

pub sieving_out : (preds : List Pred) (old set new : List Bool) (k : ℕ) (changed : Bool) (pred : Pred) → slice_get preds k ≡ Some pred → Sieving preds old set k changed → Sifted set k pred.rules new true → Sieving preds old new (k + 1) true
sieving_out preds old set new k changed pred at s h = record {
  answers = ap length h.2 ∙ length_without set k ∙ s.answers;
  greatest = λ all. subst (HasAll preds) (sym h.2) (still_all preds set k pred at h.1 (s.greatest all));
  fewer = λ e. let n = ap count_in h.2 in omega (arith, n, fewer_without set k h.0, at_most preds old set k changed s);
  same = λ e. absurd (cc (e));
  closed = λ e. absurd (cc (e));
}

pub sieving_on : (preds : List Pred) (old set new : List Bool) (k : ℕ) (changed : Bool) (pred : Pred) → slice_get preds k ≡ Some pred → Sieving preds old set k changed → Sifted set k pred.rules new false → Sieving preds old new (k + 1) changed
sieving_on preds old set new k changed pred at s h =
    subst (λ l. Sieving preds old l (k + 1) changed) (sym h.0) (record {
      answers = s.answers;
      greatest = s.greatest;
      fewer = s.fewer;
      same = s.same;
      closed = λ e p x lt get in_set.
          elim (cases_eq p k) [
            | inl here ↦
                let same : Some x ≡ Some pred = sym get ∙ ap (slice_get preds) here ∙ at in
                let is : x ≡ pred = cc (same) in
                ap (λ (y : Pred). rules_fit set y.rules) is ∙ h.1 (ap (is_in_set set) (sym here) ∙ in_set)
            | inr ne ↦ s.closed e p x (omega (arith, lt, ne)) get in_set
          ];
    })

got : (preds : List Pred) (k : ℕ) (pred : Pred) → k < length preds → pred ≡ get_or preds k pred → slice_get preds k ≡ Some pred
got [] k pred lt e = absurd (omega arith)
got (x ∷ preds) zero pred lt e = ap Some (sym e)
got (x ∷ preds) (suc k) pred lt e = got preds k pred (omega arith) e

pub sieving_step : (preds : List Pred) (old set new : List Bool) (k : ℕ) (changed out : Bool) (pred : Pred) (rules : List Rule) → k < length preds → pred ≡ get_or preds k pred → rules ≡ pred.rules → Sieving preds old set k changed → Sifted set k rules new out → Sieving preds old new (k + 1) (out || changed)
sieving_step preds old set new k changed true pred rules lt e f s h = sieving_out preds old set new k changed pred (got preds k pred lt e) s (subst (λ rs. Sifted set k rs new true) f h)
sieving_step preds old set new k changed false pred rules lt e f s h = sieving_on preds old set new k changed pred (got preds k pred lt e) s (subst (λ rs. Sifted set k rs new false) f h)

pub all_in : (preds : List Pred) (n : ℕ) → n ≡ length preds → HasAll preds (replicate n true)
all_in preds n e s len closed p pred get h = here p n (omega (arith, in_range s p h, len, e))
  where
    here : (p n : ℕ) → p < n → is_in_set (replicate n true) p ≡ true
    here p zero lt = absurd (omega arith)
    here zero (suc n) lt = refl
    here (suc p) (suc n) lt = here p n (omega arith)

pub all_count : (n : ℕ) → length (replicate n true) ≡ n
all_count zero = refl
all_count (suc n) = ap suc (all_count n)
