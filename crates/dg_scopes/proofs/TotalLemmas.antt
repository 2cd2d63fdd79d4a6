-- How often a name stands in an item, as a map tells it.
use Rattle.std.proofs.Common.{◌≡◌, ◌+◌, ◌∙◌, ℕ, List, [], ◌∷◌, ◌++◌, Bool, true, false, Option, Some, Bor, cond, refl, sym, ap, arith}
use Rattle.std.specs.Prelude.{if◌then◌else◌, unwrap_or}
use Rattle.std.specs.Map.{lookup}
use Rattle.std.specs.Str.{bytes_eq}
use Rattle.std.specs.Cmp.Lexicographic.{bytes_decides}
use Rattle.indexmap.specs.IndexMap.{insert_entry}
use Rattle.dg_scopes.specs.Counts.{times}
use Rattle.dg_base.specs.Mentions.{Thing, names_in, variable_in}
use Rattle.dg_base.proofs.MentionLemmas.{names_append}
use Rattle.dg_scopes.specs.State.{total_at}

found_if : (b : Bool) (v : ℕ) (o : Option ℕ) → unwrap_or (cond b (Some v) o) 0 ≡ (if b then v else unwrap_or o 0)
found_if true v o = refl
found_if false v o = refl

pub total_found : (n : List ℕ) (es : List (Bor (List ℕ) × ℕ)) → unwrap_or (lookup (λ (k : Bor (List ℕ)). bytes_eq n k.now) es) 0 ≡ total_at es n
total_found n [] = refl
total_found n (e ∷ es) =
    found_if (bytes_eq n e.0.now) e.1 (lookup (λ (k : Bor (List ℕ)). bytes_eq n k.now) es)
    ∙ ap (λ (r : ℕ). if bytes_eq n e.0.now then e.1 else r) (total_found n es)

abbrev pub same_key : Bor (List ℕ) → Bor (List ℕ) → Bool
same_key a b = bytes_eq a.now b.now

apart_if : (n m k : List ℕ) (b : Bool) → bytes_eq n m ≡ b → bytes_eq m k ≡ false → bytes_eq n k ≡ true → bytes_eq n m ≡ false
apart_if n m k false is e q = is
apart_if n m k true is e q = absurd (let never : false ≡ true = sym e ∙ ap (λ (x : List ℕ). bytes_eq x k) (sym ((bytes_decides n m).0 is)) ∙ q in cc)

apart : (n m k : List ℕ) → bytes_eq m k ≡ false → bytes_eq n k ≡ true → bytes_eq n m ≡ false
apart n m k e q = apart_if n m k (bytes_eq n m) refl e q

hit : (c : Bool) (v w r : ℕ) → (if c then v else r) ≡ (if c then v else (if c then w else r))
hit true v w r = refl
hit false v w r = refl

miss : (c d : Bool) (v w r x : ℕ) → (c ≡ true → d ≡ false) → x ≡ (if d then v else r) → (if c then w else x) ≡ (if d then v else (if c then w else r))
miss true true v w r x never e = absurd (let bad : true ≡ false = never refl in cc)
miss true false v w r x never e = refl
miss false d v w r x never e = e

inserted_if : (e : Bor (List ℕ) × ℕ) (es : List (Bor (List ℕ) × ℕ)) (k : Bor (List ℕ)) (v : ℕ) (n : List ℕ) (b : Bool) → bytes_eq k.now e.0.now ≡ b → total_at (insert_entry same_key es k v) n ≡ (if bytes_eq n k.now then v else total_at es n) → total_at (if b then (e.0, v) ∷ es else e ∷ insert_entry same_key es k v) n ≡ (if bytes_eq n k.now then v else total_at (e ∷ es) n)
inserted_if e es k v n true q ih =
    hit (bytes_eq n e.0.now) v e.1 (total_at es n)
    ∙ ap (λ (x : List ℕ). if bytes_eq n x then v else total_at (e ∷ es) n) (sym ((bytes_decides k.now e.0.now).0 q))
inserted_if e es k v n false q ih = miss (bytes_eq n e.0.now) (bytes_eq n k.now) v e.1 (total_at es n) (total_at (insert_entry same_key es k v) n) (apart n k.now e.0.now q) ih

inserted : (es : List (Bor (List ℕ) × ℕ)) (k : Bor (List ℕ)) (v : ℕ) (n : List ℕ) → total_at (insert_entry same_key es k v) n ≡ (if bytes_eq n k.now then v else total_at es n)
inserted [] k v n = refl
inserted (e ∷ es) k v n = inserted_if e es k v n (bytes_eq k.now e.0.now) refl (inserted es k v n)

one_more : (es : List (Bor (List ℕ) × ℕ)) (k n : List ℕ) (b : Bool) → bytes_eq n k ≡ b → (if b then total_at es k + 1 else total_at es n) ≡ total_at es n + (if b then 1 else 0)
one_more es k n true q = ap (λ (x : List ℕ). total_at es x + 1) (sym ((bytes_decides n k).0 q))
one_more es k n false q = omega arith

times_one : (b : Bool) → (if b then 0 + 1 else 0) ≡ (if b then 1 else 0)
times_one true = refl
times_one false = refl

pub added : (es new : List (Bor (List ℕ) × ℕ)) (k : Bor (List ℕ)) (v : ℕ) → new ≡ insert_entry same_key es k v → v ≡ total_at es k.now + 1 → (n : List ℕ) → total_at new n ≡ total_at es n + times n (k.now ∷ [])
added es new k v e is n =
    ap (λ (l : List (Bor (List ℕ) × ℕ)). total_at l n) e
    ∙ inserted es k v n
    ∙ ap (λ (x : ℕ). if bytes_eq n k.now then x else total_at es n) is
    ∙ one_more es k.now n (bytes_eq n k.now) refl
    ∙ ap (λ (x : ℕ). total_at es n + x) (sym (times_one (bytes_eq n k.now)))

-- ---- along the mentions

times_if : (b : Bool) (x y z : ℕ) → x ≡ y + z → (if b then x + 1 else x) ≡ (if b then y + 1 else y) + z
times_if true x y z e = omega (arith, e)
times_if false x y z e = e

pub times_append : (n : List ℕ) (a b : List (List ℕ)) → times n (a ++ b) ≡ times n a + times n b
times_append n [] b = omega arith
times_append n (k ∷ a) b = times_if (bytes_eq n k) _ _ _ (times_append n a b)

pub times_step : (n : List ℕ) (a b : List Thing) (old new whole : ℕ) → new ≡ old + times n (names_in variable_in a) → old + times n (names_in variable_in (a ++ b)) ≡ whole → new + times n (names_in variable_in b) ≡ whole
times_step n a b old new whole e is =
    let split = ap (times n) (names_append variable_in a b) ∙ times_append n (names_in variable_in a) (names_in variable_in b) in
    omega (arith, e, is, split)
