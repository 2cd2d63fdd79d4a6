-- What is among names is among their first appearances.
use Rattle.std.proofs.Common.{◌≡◌, ◌⊎◌, inl, inr, ℕ, zero, suc, List, [], ◌∷◌, Bool, true, false, not, refl, sym, ◌∙◌, ap, subst, arith}
use Rattle.std.specs.Prelude.{if◌then◌else◌, filter}
use Rattle.std.specs.List.{Contains}
use Rattle.std.specs.Str.{bytes_eq}
use Rattle.std.specs.Cmp.Lexicographic.{bytes_decides}
use Rattle.std.proofs.lemmas.List.Elements.{Contains-append_right, Contains-append_cases}
use Rattle.dg_names.specs.Named.{firsts}

pub alone_there : {X : Type 0} (x : X) → Contains (x ∷ []) x
alone_there x = (0, omega arith, refl)

pub first_there : {X : Type 0} (x : X) (xs : List X) → Contains (x ∷ xs) x
first_there x xs = (0, omega arith, refl)

pub later_there : {X : Type 0} (y : X) (ys : List X) (x : X) → Contains ys x → Contains (y ∷ ys) x
later_there y ys x h = Contains-append_right (y ∷ []) ys x h

only_there : {X : Type 0} (y x : X) → Contains (y ∷ []) x → y ≡ x
only_there y x (zero, lt, e) = e
only_there y x (suc k, lt, e) = absurd (omega arith)

pub there_cases : {X : Type 0} (y : X) (ys : List X) (x : X) → Contains (y ∷ ys) x → (y ≡ x) ⊎ Contains ys x
there_cases y ys x h = here (Contains-append_cases (y ∷ []) ys x h)
  where
    here : Contains (y ∷ []) x ⊎ Contains ys x → (y ≡ x) ⊎ Contains ys x
    here (inl k) = inl (only_there y x k)
    here (inr k) = inr k

pub nowhere : {X : Type 0} (x : X) → Contains [] x → ⊥
nowhere x h = omega (arith, h.1)

-- ---- names that a test lets through

pub filter_has : {X : Type 0} (p : X → Bool) (xs : List X) (x : X) → p x ≡ true → Contains xs x → Contains (filter p xs) x
filter_has p [] x e h = h
filter_has p (y ∷ ys) x e h = here (p y) refl (there_cases y ys x h) (λ k. filter_has p ys x e k)
  where
    here : (b : Bool) → p y ≡ b → (y ≡ x) ⊎ Contains ys x → (Contains ys x → Contains (filter p ys) x) → Contains (if b then y ∷ filter p ys else filter p ys) x
    here true q (inl k) rest = subst (λ (z : _). Contains (y ∷ filter p ys) z) k (first_there y (filter p ys))
    here false q (inl k) rest = absurd (let no : false ≡ true = sym q ∙ ap p k ∙ e in cc)
    here true q (inr k) rest = later_there y (filter p ys) x (rest k)
    here false q (inr k) rest = rest k

pub firsts_have : (ns : List (List ℕ)) (n : List ℕ) → Contains ns n → Contains (firsts ns) n
firsts_have [] n h = h
firsts_have (m ∷ ns) n h = here (bytes_eq n m) refl (there_cases m ns n h) (λ k. firsts_have ns n k)
  where
    here : (b : Bool) → bytes_eq n m ≡ b → (m ≡ n) ⊎ Contains ns n → (Contains ns n → Contains (firsts ns) n) → Contains (firsts (m ∷ ns)) n
    here true q k rest = subst (λ (x : List ℕ). Contains (firsts (m ∷ ns)) x) (sym ((bytes_decides n m).0 q)) (first_there m (filter (λ k. not (bytes_eq k m)) (firsts ns)))
    here false q (inl k) rest = absurd (let no : true ≡ false = sym ((bytes_decides n m).1 (sym k)) ∙ q in cc)
    here false q (inr k) rest = later_there m (filter (λ k. not (bytes_eq k m)) (firsts ns)) n (filter_has (λ k. not (bytes_eq k m)) (firsts ns) n (ap not q) (rest k))
