-- Names in order of first appearance, gathered one by one.
use Rattle.std.proofs.Common.{◌≡◌, ◌≤◌, ◌||◌, ℕ, List, [], ◌∷◌, ◌++◌, Bool, true, false, not, length, length-append, refl, sym, ◌∙◌, ap, append_assoc, arith}
use Rattle.std.specs.Prelude.{if◌then◌else◌, filter}
use Rattle.std.specs.List.{list_any}
use Rattle.std.specs.Str.{bytes_eq}
use Rattle.std.specs.Cmp.Lexicographic.{bytes_decides}
use Rattle.std.proofs.lemmas.List.Folds.{list_any-append}
use Rattle.std.proofs.lemmas.List.Elements.{filter-append}
use Rattle.dg_names.specs.Named.{firsts}
use Rattle.dg_names.specs.Scopes.{with_name, with_names}

nil_behind : (xs : List (List ℕ)) → xs ++ [] ≡ xs
nil_behind [] = refl
nil_behind (x ∷ xs) = ap (λ (l : List (List ℕ)). x ∷ l) (nil_behind xs)

itself : (n : List ℕ) → bytes_eq n n ≡ true
itself n = (bytes_decides n n).1 refl

other : List ℕ → List ℕ → Bool
other m k = not (bytes_eq k m)

kept_at : (n m k : List ℕ) (ks : List (List ℕ)) (b : Bool) → bytes_eq k m ≡ b → bytes_eq n m ≡ false → list_any (bytes_eq n) (filter (λ k. not (bytes_eq k m)) ks) ≡ list_any (bytes_eq n) ks → list_any (bytes_eq n) (if not b then k ∷ filter (λ k. not (bytes_eq k m)) ks else filter (λ k. not (bytes_eq k m)) ks) ≡ (bytes_eq n k || list_any (bytes_eq n) ks)
kept_at n m k ks true q e ih = ih ∙ sym (ap (λ (x : Bool). x || list_any (bytes_eq n) ks) (ap (bytes_eq n) ((bytes_decides k m).0 q) ∙ e))
kept_at n m k ks false q e ih = ap (λ (x : Bool). bytes_eq n k || x) ih

any_kept : (n m : List ℕ) (ks : List (List ℕ)) → bytes_eq n m ≡ false → list_any (bytes_eq n) (filter (λ k. not (bytes_eq k m)) ks) ≡ list_any (bytes_eq n) ks
any_kept n m [] e = refl
any_kept n m (k ∷ ks) e = kept_at n m k ks (bytes_eq k m) refl e (any_kept n m ks e)

one_kept : (n m : List ℕ) (X : List (List ℕ)) (b : Bool) → bytes_eq n m ≡ b → filter (λ k. not (bytes_eq k m)) (X ++ n ∷ []) ≡ filter (λ k. not (bytes_eq k m)) X ++ (if not b then n ∷ [] else [])
one_kept n m X b e =
    filter-append (λ k. not (bytes_eq k m)) X (n ∷ [])
    ∙ ap (λ (x : Bool). filter (λ k. not (bytes_eq k m)) X ++ (if not x then n ∷ [] else [])) e

push_at : (m n : List ℕ) (X : List (List ℕ)) (b c d : Bool) → bytes_eq n m ≡ b → (b ≡ false → d ≡ c) → (m ∷ filter (λ k. not (bytes_eq k m)) (if c then X else X ++ n ∷ [])) ≡ (if b || d then m ∷ filter (λ k. not (bytes_eq k m)) X else (m ∷ filter (λ k. not (bytes_eq k m)) X) ++ n ∷ [])
push_at m n X true true d e k = refl
push_at m n X true false d e k = ap (λ (l : List (List ℕ)). m ∷ l) (one_kept n m X true e ∙ nil_behind _)
push_at m n X false true d e k = ap (λ (x : Bool). if x then m ∷ filter (λ k. not (bytes_eq k m)) X else (m ∷ filter (λ k. not (bytes_eq k m)) X) ++ n ∷ []) (sym (k refl))
push_at m n X false false d e k =
    ap (λ (l : List (List ℕ)). m ∷ l) (one_kept n m X false e)
    ∙ ap (λ (x : Bool). if x then m ∷ filter (λ k. not (bytes_eq k m)) X else (m ∷ filter (λ k. not (bytes_eq k m)) X) ++ n ∷ []) (sym (k refl))

pub firsts_push : (ns : List (List ℕ)) (n : List ℕ) → firsts (ns ++ n ∷ []) ≡ with_name (firsts ns) n
firsts_push [] n = refl
firsts_push (m ∷ ns) n =
    ap (λ (l : List (List ℕ)). m ∷ filter (λ k. not (bytes_eq k m)) l) (firsts_push ns n)
    ∙ push_at m n (firsts ns) (bytes_eq n m) (list_any (bytes_eq n) (firsts ns)) (list_any (bytes_eq n) (filter (λ k. not (bytes_eq k m)) (firsts ns))) refl (any_kept n m (firsts ns))

pub firsts_more : (done ns : List (List ℕ)) → with_names (firsts done) ns ≡ firsts (done ++ ns)
firsts_more done [] = ap firsts (sym (nil_behind done))
firsts_more done (n ∷ ns) =
    ap (λ (l : List (List ℕ)). with_names l ns) (sym (firsts_push done n))
    ∙ firsts_more (done ++ n ∷ []) ns
    ∙ ap firsts (append_assoc done (n ∷ []) ns)

pub firsts_of : (ns : List (List ℕ)) → with_names [] ns ≡ firsts ns
firsts_of ns = firsts_more [] ns

-- ---- names with names

pub with_append : (ks a b : List (List ℕ)) → with_names ks (a ++ b) ≡ with_names (with_names ks a) b
with_append ks [] b = refl
with_append ks (n ∷ a) b = with_append (with_name ks n) a b

stays_if : (n m : List ℕ) (ks : List (List ℕ)) (c : Bool) → list_any (bytes_eq n) ks ≡ true → list_any (bytes_eq n) (if c then ks else ks ++ m ∷ []) ≡ true
stays_if n m ks true e = e
stays_if n m ks false e = list_any-append (bytes_eq n) ks (m ∷ []) ∙ ap (λ (x : Bool). x || list_any (bytes_eq n) (m ∷ [])) e

stays : (n : List ℕ) (ks ns : List (List ℕ)) → list_any (bytes_eq n) ks ≡ true → list_any (bytes_eq n) (with_names ks ns) ≡ true
stays n ks [] e = e
stays n ks (m ∷ ns) e = stays n (with_name ks m) ns (stays_if n m ks (list_any (bytes_eq m) ks) e)

or_true : (a b : Bool) → b ≡ true → (a || b) ≡ true
or_true true b e = refl
or_true false b e = e

comes_if : (n m : List ℕ) (ks : List (List ℕ)) (c : Bool) → n ≡ m → list_any (bytes_eq m) ks ≡ c → list_any (bytes_eq n) (if c then ks else ks ++ m ∷ []) ≡ true
comes_if n m ks true same e = ap (λ (x : List ℕ). list_any (bytes_eq x) ks) same ∙ e
comes_if n m ks false same e =
    list_any-append (bytes_eq n) ks (m ∷ [])
    ∙ or_true (list_any (bytes_eq n) ks) (bytes_eq n m || false) (ap (λ (x : Bool). x || false) ((bytes_decides n m).1 same))

comes_at : (n m : List ℕ) (ks js : List (List ℕ)) (b : Bool) → bytes_eq n m ≡ b → (b || list_any (bytes_eq n) js) ≡ true → (list_any (bytes_eq n) js ≡ true → list_any (bytes_eq n) (with_names (with_name ks m) js) ≡ true) → list_any (bytes_eq n) (with_names (with_name ks m) js) ≡ true
comes_at n m ks js true q e ih = stays n (with_name ks m) js (comes_if n m ks (list_any (bytes_eq m) ks) ((bytes_decides n m).0 q) refl)
comes_at n m ks js false q e ih = ih e

comes : (n : List ℕ) (ks js : List (List ℕ)) → list_any (bytes_eq n) js ≡ true → list_any (bytes_eq n) (with_names ks js) ≡ true
comes n ks [] e = stays n ks [] (absurd (let no : false ≡ true = e in cc))
comes n ks (m ∷ js) e = comes_at n m ks js (bytes_eq n m) refl e (comes n (with_name ks m) js)

again_at : (ks js : List (List ℕ)) (n : List ℕ) (c : Bool) → list_any (bytes_eq n) js ≡ c → with_names ks (if c then js else js ++ n ∷ []) ≡ with_name (with_names ks js) n
again_at ks js n true e = ap (λ (x : Bool). if x then with_names ks js else with_names ks js ++ n ∷ []) (sym (comes n ks js e))
again_at ks js n false e = with_append ks js (n ∷ [])

pub with_again : (ks js ns : List (List ℕ)) → with_names ks (with_names js ns) ≡ with_names (with_names ks js) ns
with_again ks js [] = refl
with_again ks js (n ∷ ns) =
    with_again ks (with_name js n) ns
    ∙ ap (λ (l : List (List ℕ)). with_names l ns) (again_at ks js n (list_any (bytes_eq n) js) refl)

longer_if : (ks : List (List ℕ)) (n : List ℕ) (c : Bool) → length ks ≤ length (if c then ks else ks ++ n ∷ [])
longer_if ks n true = omega arith
longer_if ks n false = omega (arith, length-append ks (n ∷ []))

pub longer : (ks ns : List (List ℕ)) → length ks ≤ length (with_names ks ns)
longer ks [] = omega arith
longer ks (n ∷ ns) = omega (arith, longer_if ks n (list_any (bytes_eq n) ks), longer (with_name ks n) ns)
