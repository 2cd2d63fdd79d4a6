-- A name comes to a set.
use Rattle.std.proofs.Common.{◌≡◌, ℕ, List, [], ◌∷◌, ◌++◌, ◌||◌, Bool, true, false, not, Vec, Global, Some, None, length, map, nat_lt, refl, sym, ◌∙◌, ap}
use Rattle.std.specs.Prelude.{◌+◌, if◌then◌else◌, position}
use Rattle.std.specs.List.{list_any, position_or_len}
use Rattle.std.specs.Str.{bytes_eq}
use Rattle.std.proofs.lemmas.List.{map-append, length-map}
use Rattle.dg_names.specs.Scopes.{with_name}

pub any_listed : (n : List ℕ) (ks : List (Vec ℕ Global)) → list_any (λ k. bytes_eq n k.items) ks ≡ list_any (bytes_eq n) (map (λ k. k.items) ks)
any_listed n [] = refl
any_listed n (k ∷ ks) = ap (λ (b : Bool). bytes_eq n k.items || b) (any_listed n ks)

pub known_listed : (n : List ℕ) (ks : List (Vec ℕ Global)) (r : Bool) → r ≡ list_any (λ k. bytes_eq n k.items) ks → r ≡ true → map (λ k. k.items) ks ≡ with_name (map (λ k. k.items) ks) n
known_listed n ks r e known =
    ap (λ (b : Bool). if b then map (λ k. k.items) ks else map (λ k. k.items) ks ++ n ∷ []) (sym known ∙ e ∙ any_listed n ks)

pub new_listed : (n : List ℕ) (ks new : List (Vec ℕ Global)) (v : Vec ℕ Global) (r : Bool) → new ≡ (if list_any (λ k. bytes_eq v.items k.items) ks then ks else ks ++ v ∷ []) → v.items ≡ n → r ≡ list_any (λ k. bytes_eq n k.items) ks → r ≡ false → map (λ k. k.items) new ≡ with_name (map (λ k. k.items) ks) n
new_listed n ks new v r e same is none =
    ap (map (λ (k : Vec ℕ Global). k.items)) (e ∙ ap (λ (b : Bool). if b then ks else ks ++ v ∷ []) (ap (λ (x : List ℕ). list_any (λ (k : Vec ℕ Global). bytes_eq x k.items) ks) same ∙ sym is ∙ none))
    ∙ map-append (λ (k : Vec ℕ Global). k.items) ks (v ∷ [])
    ∙ ap (λ (x : List ℕ). map (λ (k : Vec ℕ Global). k.items) ks ++ x ∷ []) same
    ∙ ap (λ (b : Bool). if b then map (λ (k : Vec ℕ Global). k.items) ks else map (λ (k : Vec ℕ Global). k.items) ks ++ n ∷ []) (sym none ∙ is ∙ any_listed n ks)

first_listed : (n : List ℕ) (ks : List (Vec ℕ Global)) → position_or_len (λ (k : Vec ℕ Global). bytes_eq n k.items) ks ≡ position_or_len (bytes_eq n) (map (λ (k : Vec ℕ Global). k.items) ks)
first_listed n [] = refl
first_listed n (k ∷ ks) = ap (λ (m : ℕ). if not (bytes_eq n k.items) then 1 + m else 0) (first_listed n ks)

pub place_listed : (n : List ℕ) (ks : List (Vec ℕ Global)) → position (λ (k : Vec ℕ Global). bytes_eq n k.items) ks ≡ position (bytes_eq n) (map (λ (k : Vec ℕ Global). k.items) ks)
place_listed n ks =
    ap (λ (m : ℕ). if nat_lt m (length ks) then Some m else None) (first_listed n ks)
    ∙ ap (λ (l : ℕ). if nat_lt (position_or_len (bytes_eq n) (map (λ (k : Vec ℕ Global). k.items) ks)) l then Some (position_or_len (bytes_eq n) (map (λ (k : Vec ℕ Global). k.items) ks)) else None) (sym (length-map ks (λ (k : Vec ℕ Global). k.items)))
