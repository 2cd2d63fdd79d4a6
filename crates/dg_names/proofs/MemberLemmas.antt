-- Names in order of first appearance differ, and are those that are given.
use Rattle.std.proofs.Common.{◌≡◌, ◌≤◌, ◌⊎◌, inl, inr, ℕ, zero, suc, List, [], ◌∷◌, Bool, true, false, not, length, refl, sym, ◌∙◌, ap, subst, arith}
use Rattle.std.specs.Prelude.{if◌then◌else◌, filter}
use Rattle.std.specs.List.{Contains, IsDistinct}
use Rattle.std.specs.Cmp.{IsEquivalence}
use Rattle.std.specs.Str.{bytes_eq}
use Rattle.std.specs.Cmp.Lexicographic.{bytes_decides}
use Rattle.std.proofs.lemmas.List.Elements.{Contains-append_right, Contains-append_cases, recursion_from_All, All-from_recursion, filter_passes, All-filter}
use Rattle.std.proofs.lemmas.Map.Keys.{IsDistinct-head, IsDistinct-tail, IsDistinct-cons, IsDistinct-from_apart}
use Rattle.std.proofs.lemmas.Map.Made.{is_member-Decides, length-le_from_is_member}
use Rattle.dg_names.specs.Among.{AreFirsts}
use Rattle.dg_names.specs.Named.{firsts}

-- ---- what is in a list

pub first_there : {X : Type 0} (x : X) (xs : List X) → Contains (x ∷ xs) x
first_there x xs = (0, omega arith, refl)

pub later_there : {X : Type 0} (y : X) (ys : List X) (x : X) → Contains ys x → Contains (y ∷ ys) x
later_there y ys x h = Contains-append_right (y ∷ []) ys x h

only_there : {X : Type 0} (y x : X) → Contains (y ∷ []) x → y ≡ x
only_there y x (zero, lt, e) = e
only_there y x (suc k, lt, e) = absurd (omega arith)

there_cases : {X : Type 0} (y : X) (ys : List X) (x : X) → Contains (y ∷ ys) x → (y ≡ x) ⊎ Contains ys x
there_cases y ys x h = here (Contains-append_cases (y ∷ []) ys x h)
  where
    here : Contains (y ∷ []) x ⊎ Contains ys x → (y ≡ x) ⊎ Contains ys x
    here (inl k) = inl (only_there y x k)
    here (inr k) = inr k

-- ---- a test lets through what passes

filter_has : (p : List ℕ → Bool) (xs : List (List ℕ)) (x : List ℕ) → p x ≡ true → Contains xs x → Contains (filter p xs) x
filter_has p [] x e h = h
filter_has p (y ∷ ys) x e h = here (p y) refl (there_cases y ys x h) (λ k. filter_has p ys x e k)
  where
    here : (b : Bool) → p y ≡ b → (y ≡ x) ⊎ Contains ys x → (Contains ys x → Contains (filter p ys) x) → Contains (if b then y ∷ filter p ys else filter p ys) x
    here true q (inl k) rest = subst (λ (z : List ℕ). Contains (y ∷ filter p ys) z) k (first_there y (filter p ys))
    here false q (inl k) rest = absurd (let no : false ≡ true = sym q ∙ ap p k ∙ e in cc)
    here true q (inr k) rest = later_there y (filter p ys) x (rest k)
    here false q (inr k) rest = rest k

filter_from : (p : List ℕ → Bool) (xs : List (List ℕ)) (x : List ℕ) → Contains (filter p xs) x → Contains xs x
filter_from p [] x h = h
filter_from p (y ∷ ys) x h = here (p y) h (λ k. filter_from p ys x k)
  where
    here : (b : Bool) → Contains (if b then y ∷ filter p ys else filter p ys) x → (Contains (filter p ys) x → Contains ys x) → Contains (y ∷ ys) x
    here false k rest = later_there y ys x (rest k)
    here true k rest = which (there_cases y (filter p ys) x k)
      where
        which : (y ≡ x) ⊎ Contains (filter p ys) x → Contains (y ∷ ys) x
        which (inl e) = subst (λ (z : List ℕ). Contains (y ∷ ys) z) e (first_there y ys)
        which (inr j) = later_there y ys x (rest j)

-- ---- what is given appears, and nothing else

abbrev others : List ℕ → List (List ℕ) → List (List ℕ)
others n ns = filter (λ m. not (bytes_eq m n)) ns

firsts_have : (ns : List (List ℕ)) (n : List ℕ) → Contains ns n → Contains (firsts ns) n
firsts_have [] n h = h
firsts_have (m ∷ ns) n h = here (bytes_eq n m) refl (there_cases m ns n h) (λ k. firsts_have ns n k)
  where
    here : (b : Bool) → bytes_eq n m ≡ b → (m ≡ n) ⊎ Contains ns n → (Contains ns n → Contains (firsts ns) n) → Contains (firsts (m ∷ ns)) n
    here true q k rest = subst (λ (x : List ℕ). Contains (firsts (m ∷ ns)) x) (sym ((bytes_decides n m).0 q)) (first_there m (others m (firsts ns)))
    here false q (inl k) rest = absurd (let no : true ≡ false = sym ((bytes_decides n m).1 (sym k)) ∙ q in cc)
    here false q (inr k) rest = later_there m (others m (firsts ns)) n (filter_has (λ j. not (bytes_eq j m)) (firsts ns) n (ap not q) (rest k))

firsts_from : (ns : List (List ℕ)) (n : List ℕ) → Contains (firsts ns) n → Contains ns n
firsts_from [] n h = h
firsts_from (m ∷ ns) n h = which (there_cases m (others m (firsts ns)) n h) (λ k. firsts_from ns n k)
  where
    which : (m ≡ n) ⊎ Contains (others m (firsts ns)) n → (Contains (firsts ns) n → Contains ns n) → Contains (m ∷ ns) n
    which (inl e) rest = subst (λ (z : List ℕ). Contains (m ∷ ns) z) e (first_there m ns)
    which (inr j) rest = later_there m ns n (rest (filter_from (λ k. not (bytes_eq k m)) (firsts ns) n j))

-- ---- first appearances differ

distinct_filter : (p : List ℕ → Bool) (ns : List (List ℕ)) → IsDistinct bytes_eq ns → IsDistinct bytes_eq (filter p ns)
distinct_filter p [] d = d
distinct_filter p (n ∷ ns) d = here (p n) (distinct_filter p ns (IsDistinct-tail bytes_eq n ns d))
  where
    here : (b : Bool) → IsDistinct bytes_eq (filter p ns) → IsDistinct bytes_eq (if b then n ∷ filter p ns else filter p ns)
    here true rest =
        let others = All-filter p (λ m. bytes_eq n m ≡ false) ns (All-from_recursion (λ m. bytes_eq n m ≡ false) ns (IsDistinct-head bytes_eq n ns d)) in
        IsDistinct-cons bytes_eq n (filter p ns) (recursion_from_All (λ m. bytes_eq n m ≡ false) (filter p ns) others) rest
    here false rest = rest

apart : (n m : List ℕ) → not (bytes_eq m n) ≡ true → bytes_eq n m ≡ false
apart n m e = here (bytes_eq n m) refl
  where
    here : (b : Bool) → bytes_eq n m ≡ b → b ≡ false
    here false q = refl
    here true q = absurd (let no : false ≡ true = sym (ap not ((bytes_decides m n).1 (sym ((bytes_decides n m).0 q)))) ∙ e in cc)

firsts_differ : (ns : List (List ℕ)) → IsDistinct bytes_eq (firsts ns)
firsts_differ [] = IsDistinct-from_apart bytes_eq [] (λ i j d below within. absurd (omega arith))
firsts_differ (n ∷ ns) =
    IsDistinct-cons bytes_eq n (others n (firsts ns))
    (recursion_from_All (λ m. bytes_eq n m ≡ false) (others n (firsts ns)) (λ k d lt. apart n _ (filter_passes (λ m. not (bytes_eq m n)) (firsts ns) k d lt)))
    (distinct_filter (λ m. not (bytes_eq m n)) (firsts ns) (firsts_differ ns))

-- ---- names that differ are no more than those among which they are

same_truth : (a b : Bool) → (a ≡ true → b ≡ true) → (b ≡ true → a ≡ true) → a ≡ b
same_truth true true h k = refl
same_truth true false h k = sym (h refl)
same_truth false true h k = k refl
same_truth false false h k = refl

bytes_laws : IsEquivalence bytes_eq
bytes_laws = record {
  refl = λ x. (bytes_decides x x).1 refl;
  symm = λ x y. same_truth (bytes_eq x y) (bytes_eq y x) (λ e. (bytes_decides y x).1 (sym ((bytes_decides x y).0 e))) (λ e. (bytes_decides x y).1 (sym ((bytes_decides y x).0 e)));
  congr = λ x y z e. ap (λ (w : List ℕ). bytes_eq w z) ((bytes_decides x y).0 e);
}

no_more : (xs ys : List (List ℕ)) → IsDistinct bytes_eq xs → ((n : List ℕ) → Contains xs n → Contains ys n) → length xs ≤ length ys
no_more xs ys d h = length-le_from_is_member bytes_laws xs ys d (λ n k. (is_member-Decides bytes_decides ys n).1 (h n ((is_member-Decides bytes_decides xs n).0 k)))

pub firsts_are : (ns : List (List ℕ)) → AreFirsts ns (firsts ns)
firsts_are ns = record {
  differ = firsts_differ ns;
  all = firsts_have ns;
  none_else = firsts_from ns;
  fewest = λ ys h. no_more (firsts ns) ys (firsts_differ ns) (λ n k. h n (firsts_from ns n k));
}
