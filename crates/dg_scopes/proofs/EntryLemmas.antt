-- Entries of a scope: names that come one by one, or from a closure.
use Rattle.std.proofs.Common.{◌≡◌, ◌+◌, ◌≤◌, ◌||◌, ◌&&◌, ◌∙◌, ℕ, List, [], ◌∷◌, ◌++◌, Bool, true, false, not, length, map, nat_eq, refl, sym, ap, subst, arith}
use Rattle.std.specs.Prelude.{if◌then◌else◌, filter}
use Rattle.std.specs.List.{list_any}
use Rattle.std.specs.Str.{bytes_eq}
use Rattle.std.specs.Cmp.Lexicographic.{bytes_decides}
use Rattle.std.proofs.lemmas.List.{length-map}
use Rattle.std.proofs.lemmas.List.Folds.{list_any-append}
use Rattle.dg_names.specs.Named.{firsts}
use Rattle.dg_names.specs.Scopes.{with_name, with_names}
use Rattle.dg_names.proofs.FirstLemmas.{firsts_of}
use Rattle.dg_scopes.specs.Counts.{times, is_unnamed, is_at_home, leaving}
use Rattle.dg_scopes.specs.Scopes.{Entry, entry, with_places, stays, merged}

-- A scope behind these names.
abbrev pub add_all : List Entry → List (List ℕ) → List Entry
add_all es [] = es
add_all es (n ∷ ns) = add_all (with_places es n 1) ns

-- A scope behind all the entries of another.
abbrev merge : List Entry → List Entry → List Entry
merge o [] = o
merge o (e ∷ es) = merge (with_places o e.name e.places) es

abbrev pub names : List Entry → List (List ℕ)
names es = map (λ (e : Entry). e.name) es

abbrev has : List ℕ → List Entry → Bool
has n es = list_any (bytes_eq n) (names es)

itself : (n : List ℕ) → bytes_eq n n ≡ true
itself n = (bytes_decides n n).1 refl

apart_if : (n m : List ℕ) (b : Bool) → bytes_eq m n ≡ b → bytes_eq n m ≡ false → bytes_eq m n ≡ false
apart_if n m false q e = q
apart_if n m true q e = absurd (let no : false ≡ true = sym e ∙ (bytes_decides n m).1 (sym ((bytes_decides m n).0 q)) in cc)

apart : (n m : List ℕ) → bytes_eq n m ≡ false → bytes_eq m n ≡ false
apart n m e = apart_if n m (bytes_eq m n) refl e

-- ---- one name more

pub hit : (e : Entry) (es : List Entry) (n : List ℕ) (k : ℕ) → bytes_eq n e.name ≡ true → with_places (e ∷ es) n k ≡ entry e.name (e.places + k) ∷ es
hit e es n k q = ap (λ (b : Bool). if b then entry e.name (e.places + k) ∷ es else e ∷ with_places es n k) q

pub miss : (e : Entry) (es : List Entry) (n : List ℕ) (k : ℕ) → bytes_eq n e.name ≡ false → with_places (e ∷ es) n k ≡ e ∷ with_places es n k
miss e es n k q = ap (λ (b : Bool). if b then entry e.name (e.places + k) ∷ es else e ∷ with_places es n k) q

longer_if : (e : Entry) (es : List Entry) (n : List ℕ) (k : ℕ) (b : Bool) → length es ≤ length (with_places es n k) → length (e ∷ es) ≤ length (if b then entry e.name (e.places + k) ∷ es else e ∷ with_places es n k)
longer_if e es n k true le = omega arith
longer_if e es n k false le = omega (arith, le)

longer_one : (es : List Entry) (n : List ℕ) (k : ℕ) → length es ≤ length (with_places es n k)
longer_one [] n k = omega arith
longer_one (e ∷ es) n k = longer_if e es n k (bytes_eq n e.name) (longer_one es n k)

pub longer : (es : List Entry) (ns : List (List ℕ)) → length es ≤ length (add_all es ns)
longer es [] = omega arith
longer es (n ∷ ns) = omega (arith, longer_one es n 1, longer (with_places es n 1) ns)

pub add_append : (es : List Entry) (a b : List (List ℕ)) → add_all es (a ++ b) ≡ add_all (add_all es a) b
add_append es [] b = refl
add_append es (n ∷ a) b = add_append (with_places es n 1) a b

-- ---- names

names_rest : (m : List ℕ) (ks : List (List ℕ)) (n : List ℕ) (c : Bool) → (m ∷ (if c then ks else ks ++ n ∷ [])) ≡ (if c then m ∷ ks else (m ∷ ks) ++ n ∷ [])
names_rest m ks n true = refl
names_rest m ks n false = refl

names_if : (e : Entry) (es : List Entry) (n : List ℕ) (k : ℕ) (b : Bool) → bytes_eq n e.name ≡ b → names (with_places es n k) ≡ with_name (names es) n → names (with_places (e ∷ es) n k) ≡ with_name (names (e ∷ es)) n
names_if e es n k true q ih =
    ap names (hit e es n k q)
    ∙ ap (λ (b : Bool). if b || has n es then names (e ∷ es) else names (e ∷ es) ++ n ∷ []) (sym q)
names_if e es n k false q ih =
    ap names (miss e es n k q)
    ∙ ap (λ (l : List (List ℕ)). e.name ∷ l) ih
    ∙ names_rest e.name (names es) n (has n es)
    ∙ ap (λ (b : Bool). if b || has n es then names (e ∷ es) else names (e ∷ es) ++ n ∷ []) (sym q)

names_with : (es : List Entry) (n : List ℕ) (k : ℕ) → names (with_places es n k) ≡ with_name (names es) n
names_with [] n k = refl
names_with (e ∷ es) n k = names_if e es n k (bytes_eq n e.name) refl (names_with es n k)

pub names_added : (es : List Entry) (ns : List (List ℕ)) → names (add_all es ns) ≡ with_names (names es) ns
names_added es [] = refl
names_added es (n ∷ ns) = names_added (with_places es n 1) ns ∙ ap (λ (l : List (List ℕ)). with_names l ns) (names_with es n 1)

pub as_many : (ns : List (List ℕ)) → length (add_all [] ns) ≡ length (firsts ns)
as_many ns = sym (length-map (add_all [] ns) (λ (e : Entry). e.name)) ∙ ap length (names_added [] ns ∙ firsts_of ns)

-- ---- the places of a name

abbrev places_of : List ℕ → List Entry → ℕ
places_of n [] = 0
places_of n (e ∷ es) = if bytes_eq n e.name then e.places else places_of n es

places_hit : (c : Bool) (p k r : ℕ) → (if c then p + k else r) ≡ (if c then p else r) + (if c then k else 0)
places_hit true p k r = refl
places_hit false p k r = omega arith

places_miss : (c d : Bool) (p k r w : ℕ) → (c ≡ true → d ≡ false) → w ≡ r + (if d then k else 0) → (if c then p else w) ≡ (if c then p else r) + (if d then k else 0)
places_miss true true p k r w never e = absurd (let bad : true ≡ false = never refl in cc)
places_miss true false p k r w never e = omega arith
places_miss false d p k r w never e = e

not_both : (n m x : List ℕ) → bytes_eq m x ≡ false → bytes_eq n x ≡ true → bytes_eq n m ≡ false
not_both n m x e q = ap (λ (y : List ℕ). bytes_eq y m) ((bytes_decides n x).0 q) ∙ apart m x e

places_if : (e : Entry) (es : List Entry) (n m : List ℕ) (k : ℕ) (b : Bool) → bytes_eq m e.name ≡ b → places_of n (with_places es m k) ≡ places_of n es + (if bytes_eq n m then k else 0) → places_of n (with_places (e ∷ es) m k) ≡ places_of n (e ∷ es) + (if bytes_eq n m then k else 0)
places_if e es n m k true q ih =
    ap (places_of n) (hit e es m k q)
    ∙ places_hit (bytes_eq n e.name) e.places k (places_of n es)
    ∙ ap (λ (x : List ℕ). places_of n (e ∷ es) + (if bytes_eq n x then k else 0)) (sym ((bytes_decides m e.name).0 q))
places_if e es n m k false q ih =
    ap (places_of n) (miss e es m k q)
    ∙ places_miss (bytes_eq n e.name) (bytes_eq n m) e.places k (places_of n es) (places_of n (with_places es m k)) (not_both n m e.name q) ih

places_with : (es : List Entry) (n m : List ℕ) (k : ℕ) → places_of n (with_places es m k) ≡ places_of n es + (if bytes_eq n m then k else 0)
places_with [] n m k = omega arith
places_with (e ∷ es) n m k = places_if e es n m k (bytes_eq m e.name) refl (places_with es n m k)

times_one : (b : Bool) (p t : ℕ) → p + (if b then 1 else 0) + t ≡ p + (if b then t + 1 else t)
times_one true p t = omega arith
times_one false p t = omega arith

pub places_added : (es : List Entry) (n : List ℕ) (ns : List (List ℕ)) → places_of n (add_all es ns) ≡ places_of n es + times n ns
places_added es n [] = omega arith
places_added es n (m ∷ ns) =
    places_added (with_places es m 1) n ns
    ∙ ap (λ (p : ℕ). p + times n ns) (places_with es n m 1)
    ∙ times_one (bytes_eq n m) (places_of n es) (times n ns)

-- ---- each name has one entry

abbrev IsDistinct : List Entry → Type 0
IsDistinct [] = true ≡ true
IsDistinct (e ∷ es) = (has e.name es ≡ false) × IsDistinct es

lacks_if : (x n : List ℕ) (ks : List (List ℕ)) (c : Bool) → bytes_eq n x ≡ false → list_any (bytes_eq x) ks ≡ false → list_any (bytes_eq x) (if c then ks else ks ++ n ∷ []) ≡ false
lacks_if x n ks true q e = e
lacks_if x n ks false q e =
    list_any-append (bytes_eq x) ks (n ∷ [])
    ∙ ap (λ (b : Bool). b || (bytes_eq x n || false)) e
    ∙ ap (λ (b : Bool). b || false) (apart n x q)

distinct_if : (e : Entry) (es : List Entry) (n : List ℕ) (k : ℕ) (b : Bool) → bytes_eq n e.name ≡ b → IsDistinct (e ∷ es) → IsDistinct (with_places es n k) → IsDistinct (with_places (e ∷ es) n k)
distinct_if e es n k true q d ih = subst IsDistinct (sym (hit e es n k q)) (d.0, d.1)
distinct_if e es n k false q d ih =
    subst IsDistinct (sym (miss e es n k q))
    (ap (list_any (bytes_eq e.name)) (names_with es n k) ∙ lacks_if e.name n (names es) (has n es) q d.0, ih)

distinct_with : (es : List Entry) (n : List ℕ) (k : ℕ) → IsDistinct es → IsDistinct (with_places es n k)
distinct_with [] n k d = (refl, refl)
distinct_with (e ∷ es) n k d = distinct_if e es n k (bytes_eq n e.name) refl d (distinct_with es n k d.1)

pub distinct_added : (es : List Entry) (ns : List (List ℕ)) → IsDistinct es → IsDistinct (add_all es ns)
distinct_added es [] d = d
distinct_added es (n ∷ ns) d = distinct_added (with_places es n 1) ns (distinct_with es n 1 d)

or_right : (a b : Bool) → b ≡ true → (a || b) ≡ true
or_right true b e = refl
or_right false b e = e

-- the tests of entries are tests of their names
behind_first : (e : Entry) (es : List Entry) (n : List ℕ) (b : Bool) → bytes_eq n e.name ≡ b → has e.name es ≡ false → has n es ≡ true → places_of n (e ∷ es) ≡ places_of n es
behind_first e es n true q lacks there = absurd (let no : false ≡ true = sym lacks ∙ ap (λ (x : List ℕ). has x es) (sym ((bytes_decides n e.name).0 q)) ∙ there in cc)
behind_first e es n false q lacks there = ap (λ (b : Bool). if b then e.places else places_of n es) q

pub filter_names : (p : List ℕ → ℕ → Bool) (f : List ℕ → ℕ) (es : List Entry) → IsDistinct es → ((n : List ℕ) → has n es ≡ true → places_of n es ≡ f n) → filter (λ (e : Entry). p e.name e.places) es ≡ filter (λ (e : Entry). p e.name (f e.name)) es
filter_names p f [] d is = refl
filter_names p f (e ∷ es) d is =
    let here : e.places ≡ f e.name = ap (λ (b : Bool). if b then e.places else places_of e.name es) (sym (itself e.name)) ∙ is e.name (ap (λ (b : Bool). b || has e.name es) (itself e.name)) in
    ap (λ (l : List Entry). if p e.name e.places then e ∷ l else l) (filter_names p f es d.1 (λ n there. sym (behind_first e es n (bytes_eq n e.name) refl d.0 there) ∙ is n (or_right (bytes_eq n e.name) (has n es) there)))
    ∙ ap (λ (k : ℕ). if p e.name k then e ∷ filter (λ (e : Entry). p e.name (f e.name)) es else filter (λ (e : Entry). p e.name (f e.name)) es) here

-- ---- names that are left

abbrev kept : (List ℕ → Bool) → List Entry → List Entry
kept p es = filter (λ (e : Entry). p e.name) es

kept_nil : (n : List ℕ) (k : ℕ) (c : Bool) → (if c then entry n k ∷ [] else []) ≡ (if c then with_places [] n k else [])
kept_nil n k true = refl
kept_nil n k false = refl

kept_hit : (e : Entry) (r : List Entry) (n : List ℕ) (k : ℕ) (c : Bool) → bytes_eq n e.name ≡ true → (if c then entry e.name (e.places + k) ∷ r else r) ≡ (if c then with_places (if c then e ∷ r else r) n k else (if c then e ∷ r else r))
kept_hit e r n k true q = sym (hit e r n k q)
kept_hit e r n k false q = refl

kept_miss : (e : Entry) (r w : List Entry) (n : List ℕ) (k : ℕ) (c d : Bool) → bytes_eq n e.name ≡ false → w ≡ (if d then with_places r n k else r) → (if c then e ∷ w else w) ≡ (if d then with_places (if c then e ∷ r else r) n k else (if c then e ∷ r else r))
kept_miss e r w n k true true q is = ap (λ (l : List Entry). e ∷ l) is ∙ sym (miss e r n k q)
kept_miss e r w n k true false q is = ap (λ (l : List Entry). e ∷ l) is
kept_miss e r w n k false d q is = is

kept_if : (p : List ℕ → Bool) (e : Entry) (es : List Entry) (n : List ℕ) (k : ℕ) (b : Bool) → bytes_eq n e.name ≡ b → kept p (with_places es n k) ≡ (if p n then with_places (kept p es) n k else kept p es) → kept p (with_places (e ∷ es) n k) ≡ (if p n then with_places (kept p (e ∷ es)) n k else kept p (e ∷ es))
kept_if p e es n k true q ih =
    ap (kept p) (hit e es n k q)
    ∙ kept_hit e (kept p es) n k (p e.name) q
    ∙ ap (λ (x : List ℕ). if p x then with_places (kept p (e ∷ es)) n k else kept p (e ∷ es)) (sym ((bytes_decides n e.name).0 q))
kept_if p e es n k false q ih =
    ap (kept p) (miss e es n k q)
    ∙ kept_miss e (kept p es) (kept p (with_places es n k)) n k (p e.name) (p n) q ih

kept_with : (p : List ℕ → Bool) (es : List Entry) (n : List ℕ) (k : ℕ) → kept p (with_places es n k) ≡ (if p n then with_places (kept p es) n k else kept p es)
kept_with p [] n k = kept_nil n k (p n)
kept_with p (e ∷ es) n k = kept_if p e es n k (bytes_eq n e.name) refl (kept_with p es n k)

added_if : (es : List Entry) (n : List ℕ) (ns : List (List ℕ)) (c : Bool) → add_all (if c then with_places es n 1 else es) ns ≡ add_all es (if c then n ∷ ns else ns)
added_if es n ns true = refl
added_if es n ns false = refl

pub kept_added : (p : List ℕ → Bool) (es : List Entry) (ns : List (List ℕ)) → kept p (add_all es ns) ≡ add_all (kept p es) (filter p ns)
kept_added p es [] = refl
kept_added p es (n ∷ ns) =
    kept_added p (with_places es n 1) ns
    ∙ ap (λ (l : List Entry). add_all l (filter p ns)) (kept_with p es n 1)
    ∙ added_if (kept p es) n (filter p ns) (p n)

-- ---- the entries of a closure come to a scope

or_false : (b c : Bool) → b ≡ false → (b || c) ≡ true → c ≡ true
or_false true c q e = absurd (let no : true ≡ false = q in cc)
or_false false c q e = e

swap_if : (e : Entry) (o : List Entry) (m n : List ℕ) (a b : ℕ) (x y : Bool) → bytes_eq m e.name ≡ x → bytes_eq n e.name ≡ y → has n (e ∷ o) ≡ true → (has n o ≡ true → with_places (with_places o m a) n b ≡ with_places (with_places o n b) m a) → with_places (with_places (e ∷ o) m a) n b ≡ with_places (with_places (e ∷ o) n b) m a
swap_if e o m n a b true true qm qn there ih =
    ap (λ (l : List Entry). with_places l n b) (hit e o m a qm)
    ∙ hit (entry e.name (e.places + a)) o n b qn
    ∙ ap (λ (k : ℕ). entry e.name k ∷ o) (omega arith)
    ∙ sym (hit (entry e.name (e.places + b)) o m a qm)
    ∙ ap (λ (l : List Entry). with_places l m a) (sym (hit e o n b qn))
swap_if e o m n a b true false qm qn there ih =
    ap (λ (l : List Entry). with_places l n b) (hit e o m a qm)
    ∙ miss (entry e.name (e.places + a)) o n b qn
    ∙ sym (hit e (with_places o n b) m a qm)
    ∙ ap (λ (l : List Entry). with_places l m a) (sym (miss e o n b qn))
swap_if e o m n a b false true qm qn there ih =
    ap (λ (l : List Entry). with_places l n b) (miss e o m a qm)
    ∙ hit e (with_places o m a) n b qn
    ∙ sym (miss (entry e.name (e.places + b)) o m a qm)
    ∙ ap (λ (l : List Entry). with_places l m a) (sym (hit e o n b qn))
swap_if e o m n a b false false qm qn there ih =
    ap (λ (l : List Entry). with_places l n b) (miss e o m a qm)
    ∙ miss e (with_places o m a) n b qn
    ∙ ap (λ (l : List Entry). e ∷ l) (ih (or_false (bytes_eq n e.name) (has n o) qn there))
    ∙ sym (miss e (with_places o n b) m a qm)
    ∙ ap (λ (l : List Entry). with_places l m a) (sym (miss e o n b qn))

swap : (o : List Entry) (m n : List ℕ) (a b : ℕ) → has n o ≡ true → with_places (with_places o m a) n b ≡ with_places (with_places o n b) m a
swap [] m n a b there = absurd (let no : false ≡ true = there in cc)
swap (e ∷ o) m n a b there = swap_if e o m n a b (bytes_eq m e.name) (bytes_eq n e.name) refl refl there (swap o m n a b)

twice_if : (e : Entry) (o : List Entry) (n : List ℕ) (a b : ℕ) (y : Bool) → bytes_eq n e.name ≡ y → with_places (with_places o n a) n b ≡ with_places o n (a + b) → with_places (with_places (e ∷ o) n a) n b ≡ with_places (e ∷ o) n (a + b)
twice_if e o n a b true q ih =
    ap (λ (l : List Entry). with_places l n b) (hit e o n a q)
    ∙ hit (entry e.name (e.places + a)) o n b q
    ∙ ap (λ (k : ℕ). entry e.name k ∷ o) (omega arith)
    ∙ sym (hit e o n (a + b) q)
twice_if e o n a b false q ih =
    ap (λ (l : List Entry). with_places l n b) (miss e o n a q)
    ∙ miss e (with_places o n a) n b q
    ∙ ap (λ (l : List Entry). e ∷ l) ih
    ∙ sym (miss e o n (a + b) q)

twice : (o : List Entry) (n : List ℕ) (a b : ℕ) → with_places (with_places o n a) n b ≡ with_places o n (a + b)
twice [] n a b = hit (entry n a) [] n b (itself n)
twice (e ∷ o) n a b = twice_if e o n a b (bytes_eq n e.name) refl (twice o n a b)

has_if : (n m : List ℕ) (ks : List (List ℕ)) (c : Bool) → list_any (bytes_eq n) ks ≡ true → list_any (bytes_eq n) (if c then ks else ks ++ m ∷ []) ≡ true
has_if n m ks true e = e
has_if n m ks false e = list_any-append (bytes_eq n) ks (m ∷ []) ∙ ap (λ (x : Bool). x || list_any (bytes_eq n) (m ∷ [])) e

has_still : (o : List Entry) (n m : List ℕ) (k : ℕ) → has n o ≡ true → has n (with_places o m k) ≡ true
has_still o n m k e = ap (list_any (bytes_eq n)) (names_with o m k) ∙ has_if n m (names o) (has m o) e

has_new : (n : List ℕ) (ks : List (List ℕ)) (c : Bool) → list_any (bytes_eq n) ks ≡ c → list_any (bytes_eq n) (if c then ks else ks ++ n ∷ []) ≡ true
has_new n ks true e = e
has_new n ks false e =
    list_any-append (bytes_eq n) ks (n ∷ [])
    ∙ or_right (list_any (bytes_eq n) ks) (bytes_eq n n || false) (ap (λ (x : Bool). x || false) (itself n))

has_now : (o : List Entry) (n : List ℕ) (k : ℕ) → has n (with_places o n k) ≡ true
has_now o n k = ap (list_any (bytes_eq n)) (names_with o n k) ∙ has_new n (names o) (has n o) refl

merge_in : (o es : List Entry) (n : List ℕ) (b : ℕ) → has n o ≡ true → with_places (merge o es) n b ≡ merge (with_places o n b) es
merge_in o [] n b there = refl
merge_in o (e ∷ es) n b there =
    merge_in (with_places o e.name e.places) es n b (has_still o n e.name e.places there)
    ∙ ap (λ (l : List Entry). merge l es) (swap o e.name n e.places b there)

merge_if : (o : List Entry) (e : Entry) (es : List Entry) (n : List ℕ) (k : ℕ) (y : Bool) → bytes_eq n e.name ≡ y → merge (with_places o e.name e.places) (with_places es n k) ≡ with_places (merge (with_places o e.name e.places) es) n k → merge o (with_places (e ∷ es) n k) ≡ with_places (merge o (e ∷ es)) n k
merge_if o e es n k true q ih =
    let same : n ≡ e.name = (bytes_decides n e.name).0 q in
    ap (merge o) (hit e es n k q)
    ∙ ap (λ (l : List Entry). merge l es) (sym (twice o e.name e.places k))
    ∙ sym (merge_in (with_places o e.name e.places) es e.name k (has_now o e.name e.places))
    ∙ ap (λ (x : List ℕ). with_places (merge (with_places o e.name e.places) es) x k) (sym same)
merge_if o e es n k false q ih = ap (merge o) (miss e es n k q) ∙ ih

merge_with : (o es : List Entry) (n : List ℕ) (k : ℕ) → merge o (with_places es n k) ≡ with_places (merge o es) n k
merge_with o [] n k = refl
merge_with o (e ∷ es) n k = merge_if o e es n k (bytes_eq n e.name) refl (merge_with (with_places o e.name e.places) es n k)

merge_added : (o es : List Entry) (ns : List (List ℕ)) → merge o (add_all es ns) ≡ add_all (merge o es) ns
merge_added o es [] = refl
merge_added o es (n ∷ ns) = merge_added o (with_places es n 1) ns ∙ ap (λ (l : List Entry). add_all l ns) (merge_with o es n 1)

merge_one : (total : List ℕ → ℕ) (o : List Entry) (e : Entry) (r : List Entry) (c : Bool) → merge (if c then o else with_places o e.name e.places) r ≡ merge o (if not c then e ∷ r else r)
merge_one total o e r true = refl
merge_one total o e r false = refl

merged_kept : (total : List ℕ → ℕ) (o es : List Entry) → merged total o es ≡ merge o (filter (λ (e : Entry). not (stays total e)) es)
merged_kept total o [] = refl
merged_kept total o (e ∷ es) =
    merged_kept total (if stays total e then o else with_places o e.name e.places) es
    ∙ merge_one total o e (filter (λ (e : Entry). not (stays total e)) es) (stays total e)

-- what comes from a closure: the names that leave it
pub merged_leaving : (all : List (List ℕ)) (o : List Entry) (ns : List (List ℕ)) → merged (λ n. times n all) o (add_all [] ns) ≡ add_all o (leaving all ns)
merged_leaving all o ns =
    merged_kept (λ n. times n all) o (add_all [] ns)
    ∙ ap (merge o) (filter_names (λ n k. not (is_unnamed n && nat_eq k (times n all))) (λ n. times n ns) (add_all [] ns) (distinct_added [] ns refl) (λ n there. places_added [] n ns ∙ omega arith))
    ∙ ap (merge o) (kept_added (λ n. not (is_at_home all ns n)) [] ns)
    ∙ merge_added o [] (leaving all ns)
