-- The variables of closures are few, and are there where they are captured.
use Rattle.std.proofs.Common.{◌≡◌, ◌+◌, ◌⊎◌, inl, inr, ℕ, zero, suc, List, [], ◌∷◌, ◌++◌, Bool, true, false, not, length, length-append, refl, sym, ◌∙◌, ap, subst, arith}
use Rattle.std.specs.Prelude.{if◌then◌else◌, filter}
use Rattle.std.specs.List.{All, Contains}
use Rattle.std.specs.Str.{bytes_eq}
use Rattle.std.specs.Cmp.Lexicographic.{bytes_decides}
use Rattle.std.proofs.lemmas.List.Elements.{All-nil, All-cons, All-append, All-head, All-tail, Contains-append_left, Contains-append_right, Contains-append_cases}
use Rattle.dg_base.specs.Mentions.{Thing, variable, Mentions, nothing, thing, closed, closures, variable_in}
use Rattle.dg_names.specs.Counts.{counted_in}
use Rattle.dg_names.specs.Named.{firsts}
use Rattle.dg_names.proofs.MemberLemmas.{firsts_are, first_there, later_there}
use Rattle.dg_scopes.specs.Counts.{is_at_home, leaving, names_out}
use Rattle.dg_scopes.specs.Few.{AreFew}
use Rattle.dg_scopes.specs.Closures.{parameter, layout_by, variables_in, behind_closure, places_from, layouts_from, names_around, layouts_of}
use Rattle.dg_scopes.specs.Held.{Within, Holds, IsSmall, AllAreSmall, RuleIsSmall}

-- ---- names that a test lets through

filter_twice : (p q : List ℕ → Bool) (ns : List (List ℕ)) → filter p (filter q ns) ≡ filter q (filter p ns)
filter_twice p q [] = refl
filter_twice p q (n ∷ ns) = here (p n) (q n) refl refl (filter_twice p q ns)
  where
    here : (a b : Bool) → p n ≡ a → q n ≡ b → filter p (filter q ns) ≡ filter q (filter p ns) → filter p (if b then n ∷ filter q ns else filter q ns) ≡ filter q (if a then n ∷ filter p ns else filter p ns)
    here true true h k e = rw h (rw k (ap (λ (l : List (List ℕ)). n ∷ l) e))
    here true false h k e = rw k e
    here false true h k e = rw h e
    here false false h k e = e

-- what a test doesn't let through isn't left by it
none_left : (p : List ℕ → Bool) (n : List ℕ) (ns : List (List ℕ)) → p n ≡ false → filter p (filter (λ m. not (bytes_eq m n)) ns) ≡ filter p ns
none_left p n [] e = refl
none_left p n (m ∷ ns) e = here (bytes_eq m n) refl (none_left p n ns e)
  where
    here : (b : Bool) → bytes_eq m n ≡ b → filter p (filter (λ k. not (bytes_eq k n)) ns) ≡ filter p ns → filter p (if not b then m ∷ filter (λ k. not (bytes_eq k n)) ns else filter (λ k. not (bytes_eq k n)) ns) ≡ (if p m then m ∷ filter p ns else filter p ns)
    here true q h = h ∙ sym (ap (λ (b : Bool). if b then m ∷ filter p ns else filter p ns) (ap p ((bytes_decides m n).0 q) ∙ e))
    here false q h = ap (λ (l : List (List ℕ)). if p m then m ∷ l else l) h

pub firsts_filter : (p : List ℕ → Bool) (ns : List (List ℕ)) → firsts (filter p ns) ≡ filter p (firsts ns)
firsts_filter p [] = refl
firsts_filter p (n ∷ ns) = here (p n) refl (firsts_filter p ns)
  where
    here : (b : Bool) → p n ≡ b → firsts (filter p ns) ≡ filter p (firsts ns) → firsts (if b then n ∷ filter p ns else filter p ns) ≡ (if b then n ∷ filter p (filter (λ m. not (bytes_eq m n)) (firsts ns)) else filter p (filter (λ m. not (bytes_eq m n)) (firsts ns)))
    here true q h = ap (λ (l : List (List ℕ)). n ∷ l) (ap (filter (λ m. not (bytes_eq m n))) h ∙ filter_twice (λ m. not (bytes_eq m n)) p (firsts ns))
    here false q h = h ∙ sym (none_left p n (firsts ns) q)

split : (p : List ℕ → Bool) (ns : List (List ℕ)) → length (filter (λ n. not (p n)) ns) + length (filter p ns) ≡ length ns
split p [] = refl
split p (n ∷ ns) = here (p n) (split p ns)
  where
    here : (b : Bool) → length (filter (λ m. not (p m)) ns) + length (filter p ns) ≡ length ns → length (if not b then n ∷ filter (λ m. not (p m)) ns else filter (λ m. not (p m)) ns) + length (if b then n ∷ filter p ns else filter p ns) ≡ suc (length ns)
    here true e = omega (arith, e)
    here false e = omega (arith, e)

-- ---- a closure has one variable more than stand in it

as_many : (all there : List (List ℕ)) (places : List ℕ) → length (variables_in (layout_by all there places)) ≡ length (firsts there) + 1
as_many all there places =
    let p = is_at_home all there in
    let out = ap length (firsts_filter (λ n. not (p n)) there) in
    let home = ap length (firsts_filter p there) in
    omega (arith, length-append (firsts (leaving all there)) (parameter ∷ firsts (filter p there)), out, home, split p (firsts there))

pub all_small : (all : List (List ℕ)) (k : ℕ) (ms : Mentions) → AllAreSmall all k ms
all_small all k nothing few = All-nil IsSmall
all_small all k (thing t ms) few = all_small all k ms few
all_small all k (closed inner ms) few =
    let here = All-head (AreFew all) inner _ few in
    let rest = All-tail (AreFew all) inner _ few in
    All-cons IsSmall (layout_by all (names_out all inner) (places_from (k + 1) inner)) (layouts_from all (k + 1) inner ++ layouts_from all (behind_closure k inner) ms)
    (omega (arith, as_many all (names_out all inner) (places_from (k + 1) inner), here))
    (All-append IsSmall (layouts_from all (k + 1) inner) (layouts_from all (behind_closure k inner) ms)
    (all_small all (k + 1) inner (front (closures inner) (closures ms) rest))
    (all_small all (behind_closure k inner) ms (back (closures inner) (closures ms) rest)))
  where
    front : (xs ys : List Mentions) → All (AreFew all) (xs ++ ys) → All (AreFew all) xs
    front [] ys h = All-nil (AreFew all)
    front (x ∷ xs) ys h = All-cons (AreFew all) x xs (All-head (AreFew all) x (xs ++ ys) h) (front xs ys (All-tail (AreFew all) x (xs ++ ys) h))

    back : (xs ys : List Mentions) → All (AreFew all) (xs ++ ys) → All (AreFew all) ys
    back [] ys h = h
    back (x ∷ xs) ys h = back xs ys (All-tail (AreFew all) x (xs ++ ys) h)

-- ---- what stands in a closure is among its variables

filter_has : (p : List ℕ → Bool) (xs : List (List ℕ)) (x : List ℕ) → p x ≡ true → Contains xs x → Contains (filter p xs) x
filter_has p [] x e h = h
filter_has p (y ∷ ys) x e h = here (p y) refl (Contains-append_cases (y ∷ []) ys x h) (λ k. filter_has p ys x e k)
  where
    only : Contains (y ∷ []) x → y ≡ x
    only (zero, lt, same) = same
    only (suc k, lt, same) = absurd (omega arith)

    here : (b : Bool) → p y ≡ b → Contains (y ∷ []) x ⊎ Contains ys x → (Contains ys x → Contains (filter p ys) x) → Contains (if b then y ∷ filter p ys else filter p ys) x
    here true q (inl k) rest = subst (λ (z : List ℕ). Contains (y ∷ filter p ys) z) (only k) (first_there y (filter p ys))
    here false q (inl k) rest = absurd (let no : false ≡ true = sym q ∙ ap p (only k) ∙ e in cc)
    here true q (inr k) rest = later_there y (filter p ys) x (rest k)
    here false q (inr k) rest = rest k

either : (all there : List (List ℕ)) (n : List ℕ) → Contains there n → Contains (variables_in (layout_by all there [])) n
either all there n h = here (is_at_home all there n) refl
  where
    own : List (List ℕ)
    own = parameter ∷ firsts (filter (is_at_home all there) there)

    here : (b : Bool) → is_at_home all there n ≡ b → Contains (firsts (leaving all there) ++ own) n
    here true q = Contains-append_right (firsts (leaving all there)) own n (later_there parameter _ n ((firsts_are (filter (is_at_home all there) there)).all n (filter_has (is_at_home all there) there n q h)))
    here false q = Contains-append_left (firsts (leaving all there)) own n ((firsts_are (leaving all there)).all n (filter_has (λ m. not (is_at_home all there m)) there n (ap not q) h))

its_parameter : (all there : List (List ℕ)) → Contains (variables_in (layout_by all there [])) parameter
its_parameter all there = Contains-append_right (firsts (leaving all there)) _ parameter (first_there parameter _)

only_one : (m n : List ℕ) → Contains (m ∷ []) n → m ≡ n
only_one m n (zero, lt, e) = e
only_one m n (suc k, lt, e) = absurd (omega arith)

-- a variable of a closure is its parameter, or counted
one_counted : (vars : List (List ℕ)) (t : Thing) → Contains vars parameter → Within (counted_in t) vars → Within (variable_in t) vars
one_counted vars (variable m) p w n h = here (bytes_eq m parameter) refl w
  where
    here : (b : Bool) → bytes_eq m parameter ≡ b → Within (if b then [] else m ∷ []) vars → Contains vars n
    here true q k = subst (λ (x : List ℕ). Contains vars x) (sym ((bytes_decides m parameter).0 q) ∙ only_one m n h) p
    here false q k = k n h
one_counted vars t p w n h = absurd (let lt = h.1 in omega arith)

wider : (xs ys : List (List ℕ)) (n : List ℕ) → Contains (parameter ∷ ys) n → Contains (parameter ∷ (xs ++ ys)) n
wider xs ys n h = here (Contains-append_cases (parameter ∷ []) ys n h)
  where
    here : Contains (parameter ∷ []) n ⊎ Contains ys n → Contains (parameter ∷ (xs ++ ys)) n
    here (inl k) = subst (λ (x : List ℕ). Contains (parameter ∷ (xs ++ ys)) x) (only_one parameter n k) (first_there parameter _)
    here (inr k) = later_there parameter _ n (Contains-append_right xs ys n k)

captured_out : (all inner_names rest : List (List ℕ)) (vars : List (List ℕ)) → Within (leaving all inner_names ++ rest) vars → Within (firsts (leaving all inner_names)) vars
captured_out all names rest vars w n h = w n (Contains-append_left (leaving all names) rest n ((firsts_are (leaving all names)).none_else n h))

-- in a closure that has what stands there and isn't at home within
held_inside : (all vars : List (List ℕ)) (ms : Mentions) → Contains vars parameter → Within (names_out all ms) vars → Holds all vars ms
held_inside all vars nothing p w = tt
held_inside all vars (thing t ms) p w = (one_counted vars t p (λ n h. w n (Contains-append_left (counted_in t) (names_out all ms) n h)), held_inside all vars ms p (λ n h. w n (Contains-append_right (counted_in t) (names_out all ms) n h)))
held_inside all vars (closed inner ms) p w =
    let there = names_out all inner in (
      captured_out all there (names_out all ms) vars w,
      held_inside all (variables_in (layout_by all there [])) inner (its_parameter all there) (either all there),
      held_inside all vars ms p (λ n h. w n (Contains-append_right (leaving all there) (names_out all ms) n h)),
    )

held_around : (all vars : List (List ℕ)) (ms : Mentions) → Within (names_around all ms) vars → Holds all vars ms
held_around all vars nothing w = tt
held_around all vars (thing t ms) w = (λ n h. w n (Contains-append_left (variable_in t) (names_around all ms) n h), held_around all vars ms (λ n h. w n (Contains-append_right (variable_in t) (names_around all ms) n h)))
held_around all vars (closed inner ms) w =
    let there = names_out all inner in (
      captured_out all there (names_around all ms) vars w,
      held_inside all (variables_in (layout_by all there [])) inner (its_parameter all there) (either all there),
      held_around all vars ms (λ n h. w n (Contains-append_right (leaving all there) (names_around all ms) n h)),
    )

pub all_held : (all : List (List ℕ)) (ms : Mentions) → Holds all (layouts_of all ms).variables ms
all_held all ms = held_around all (firsts (names_around all ms)) ms (firsts_are (names_around all ms)).all

-- ---- a rule has one variable more than are counted

-- a variable around closures is a closure's parameter, or counted
thing_counted : (all : List (List ℕ)) (t : Thing) (ms : Mentions) (n : List ℕ) → (Contains (names_around all ms) n → Contains (parameter ∷ names_out all ms) n) → Contains (variable_in t) n ⊎ Contains (names_around all ms) n → Contains (parameter ∷ (counted_in t ++ names_out all ms)) n
thing_counted all t ms n rest (inl k) = one_counted (parameter ∷ (counted_in t ++ names_out all ms)) t (first_there parameter _) (λ m j. later_there parameter _ m (Contains-append_left (counted_in t) (names_out all ms) m j)) n k
thing_counted all t ms n rest (inr k) = wider (counted_in t) (names_out all ms) n (rest k)

closed_counted : (all left : List (List ℕ)) (ms : Mentions) (n : List ℕ) → (Contains (names_around all ms) n → Contains (parameter ∷ names_out all ms) n) → Contains left n ⊎ Contains (names_around all ms) n → Contains (parameter ∷ (left ++ names_out all ms)) n
closed_counted all left ms n rest (inl k) = later_there parameter _ n (Contains-append_left left (names_out all ms) n k)
closed_counted all left ms n rest (inr k) = wider left (names_out all ms) n (rest k)

around_counted : (all : List (List ℕ)) (ms : Mentions) → Within (names_around all ms) (parameter ∷ names_out all ms)
around_counted all nothing n h = absurd (let lt = h.1 in omega arith)
around_counted all (thing t ms) n h = thing_counted all t ms n (around_counted all ms n) (Contains-append_cases (variable_in t) (names_around all ms) n h)
around_counted all (closed inner ms) n h = closed_counted all (leaving all (names_out all inner)) ms n (around_counted all ms n) (Contains-append_cases (leaving all (names_out all inner)) (names_around all ms) n h)

pub rule_small : (all : List (List ℕ)) (ms : Mentions) → RuleIsSmall all ms
rule_small all ms few =
    let most = (firsts_are (names_around all ms)).fewest (parameter ∷ firsts (names_out all ms)) (λ n h. firsts_too n (around_counted all ms n h)) in
    omega (arith, most, few)
  where
    firsts_too : (n : List ℕ) → Contains (parameter ∷ names_out all ms) n → Contains (parameter ∷ firsts (names_out all ms)) n
    firsts_too n h = which (Contains-append_cases (parameter ∷ []) (names_out all ms) n h)
      where
        which : Contains (parameter ∷ []) n ⊎ Contains (names_out all ms) n → Contains (parameter ∷ firsts (names_out all ms)) n
        which (inl k) = subst (λ (x : List ℕ). Contains (parameter ∷ firsts (names_out all ms)) x) (only_one parameter n k) (first_there parameter _)
        which (inr k) = later_there parameter _ n ((firsts_are (names_out all ms)).all n k)
