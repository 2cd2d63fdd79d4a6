-- The names of places and what they keep, where a tree is given.
use Rattle.std.proofs.Common.{◌≡◌, ◌≤◌, ◌||◌, ℕ, zero, suc, List, [], ◌∷◌, ◌++◌, Bool, true, false, not, map, refl, sym, ◌∙◌, ap, subst, arith}
use Rattle.std.specs.Prelude.{if◌then◌else◌, filter}
use Rattle.std.specs.List.{All, Contains}
use Rattle.std.specs.Str.{bytes_eq}
use Rattle.std.specs.Cmp.Lexicographic.{bytes_decides}
use Rattle.std.proofs.lemmas.List.Elements.{All-nil, All-cons, All-append, All-head, All-tail, All-filter, All-contains}
use Rattle.dg_base.specs.Heads.{name_of}
use Rattle.dg_base.specs.Mentions.{Thing, query, names_in, mentioned}
use Rattle.dg_base.specs.Sound.{terms_of_kind}
use Rattle.dg_base.specs.Tree as tree
use Rattle.dg_base.specs.Tree.{Parts, Said, Item}
use Rattle.dg_base.specs.declared.mentions.Role.TheVariants as role
use Rattle.dg_base.specs.declared.program.PlaceKind.TheVariants.{Parent, Global}
use Rattle.dg_names.specs.Named.{Named, firsts}
use Rattle.dg_core.specs.Given.{IsFit, IsFitItem, IsDeclarable, IsGiven}
use Rattle.dg_core.specs.Places.{is_among, parent_name, values_named, declaration_in, declarations, declared_names, changed_in, place_names, kind_by, kind_of}
use Rattle.dg_core.proofs.HeadLemmas.{name_places}

firsts_all : (P : List ℕ → Type 0) (ns : List (List ℕ)) → All P ns → All P (firsts ns)
firsts_all P [] h = All-nil P
firsts_all P (n ∷ ns) h =
    All-cons P n (filter (λ m. not (bytes_eq m n)) (firsts ns)) (All-head P n ns h)
    (All-filter (λ m. not (bytes_eq m n)) P (firsts ns) (firsts_all P ns (All-tail P n ns h)))

-- each declaration may stand
pub all_declarable : (is : List Item) → All (λ (i : Item). IsFitItem i.said) is → All IsDeclarable (declarations is)
all_declarable [] h = All-nil IsDeclarable
all_declarable (i ∷ is) h =
    All-append IsDeclarable (declaration_in i.said) (declarations is) (one i.said (All-head (λ (j : Item). IsFitItem j.said) i is h)) (all_declarable is (All-tail (λ (j : Item). IsFitItem j.said) i is h))
  where
    one : (said : Said) → IsFitItem said → All IsDeclarable (declaration_in said)
    one (tree.global_variable ps) k = All-cons IsDeclarable ps [] k (All-nil IsDeclarable)
    one (tree.topic n) k = All-nil IsDeclarable
    one (tree.rule ps b) k = All-nil IsDeclarable
    one (tree.deny ps b) k = All-nil IsDeclarable
    one (tree.access ps b) k = All-nil IsDeclarable

named_all : (P : List ℕ → Type 0) (heads : List Parts) → ((ps : Parts) → IsDeclarable ps → P (name_of ps)) → All IsDeclarable heads → All P (map name_of heads)
named_all P [] f h = All-nil P
named_all P (ps ∷ heads) f h = All-cons P (name_of ps) (map name_of heads) (f ps (All-head IsDeclarable ps heads h)) (named_all P heads f (All-tail IsDeclarable ps heads h))

changed_all : (ts : List Thing) → All IsFit ts → All (λ (n : List ℕ). values_named n ≤ 2) (names_in changed_in ts)
changed_all [] h = All-nil (λ (n : List ℕ). values_named n ≤ 2)
changed_all (t ∷ ts) h = All-append (λ (n : List ℕ). values_named n ≤ 2) (changed_in t) (names_in changed_in ts) (one t (All-head IsFit t ts h)) (changed_all ts (All-tail IsFit t ts h))
  where
    one : (t : Thing) → IsFit t → All (λ (n : List ℕ). values_named n ≤ 2) (changed_in t)
    one (query (role.Changed set) ps) k = All-cons (λ (n : List ℕ). values_named n ≤ 2) (name_of ps) [] (let count = name_places ps in omega (arith, count, k)) (All-nil (λ (n : List ℕ). values_named n ≤ 2))
    one t k = All-nil (λ (n : List ℕ). values_named n ≤ 2)

two_places : values_named parent_name ≤ 2
two_places = omega arith

-- the heads of a place have at most two values
pub placed_values : (items : List Item) (names : Named) → IsGiven names items → All (λ (n : List ℕ). values_named n ≤ 2) (place_names items)
placed_values items names g =
    let P = λ (n : List ℕ). values_named n ≤ 2 in
    let declared = named_all P (declarations items) (λ ps d. let count = name_places ps in omega (arith, count, d.one)) (all_declarable items g.items) in
    firsts_all P (parent_name ∷ (map name_of (declarations items) ++ names_in changed_in (mentioned items)))
    (All-cons P parent_name _ two_places (All-append P (map name_of (declarations items)) (names_in changed_in (mentioned items)) declared (changed_all (mentioned items) g.fit)))

among_all : (P : List ℕ → Type 0) (n : List ℕ) (ns : List (List ℕ)) → All P ns → is_among n ns ≡ true → P n
among_all P n [] h e = cc
among_all P n (m ∷ ns) h e = here (bytes_eq n m) refl e (λ k. among_all P n ns (All-tail P m ns h) k)
  where
    here : (b : Bool) → bytes_eq n m ≡ b → (b || is_among n ns) ≡ true → (is_among n ns ≡ true → P n) → P n
    here true q k rest = subst P (sym ((bytes_decides n m).0 q)) (All-head P m ns h)
    here false q k rest = rest k

-- a declared name has one value, and isn't that of parents
pub declared_one : (items : List Item) (names : Named) (n : List ℕ) → IsGiven names items → is_among n (declared_names items) ≡ true → values_named n ≡ 1
declared_one items names n g e =
    among_all (λ (m : List ℕ). values_named m ≡ 1) n (declared_names items)
    (firsts_all (λ (m : List ℕ). values_named m ≡ 1) (map name_of (declarations items)) (named_all (λ (m : List ℕ). values_named m ≡ 1) (declarations items) (λ ps d. name_places ps ∙ d.one) (all_declarable items g.items))) e

pub declared_other : (items : List Item) (names : Named) (n : List ℕ) → IsGiven names items → is_among n (declared_names items) ≡ true → bytes_eq parent_name n ≡ false
declared_other items names n g e =
    among_all (λ (m : List ℕ). bytes_eq parent_name m ≡ false) n (declared_names items)
    (firsts_all (λ (m : List ℕ). bytes_eq parent_name m ≡ false) (map name_of (declarations items)) (named_all (λ (m : List ℕ). bytes_eq parent_name m ≡ false) (declarations items) (λ ps d. d.other) (all_declarable items g.items))) e

by_count : (k : ℕ) → k ≤ 2 → terms_of_kind (kind_by k) ≡ k
by_count zero h = refl
by_count (suc zero) h = refl
by_count (suc (suc zero)) h = refl
by_count (suc (suc (suc k))) h = absurd (omega (arith, h))

-- a place wants as many values as its name has
pub kind_wants : (items : List Item) (names : Named) (n : List ℕ) → IsGiven names items → Contains (place_names items) n → values_named n ≡ terms_of_kind (kind_of (declared_names items) n)
kind_wants items names n g there = here (bytes_eq parent_name n) refl (is_among n (declared_names items)) refl
  where
    here : (b : Bool) → bytes_eq parent_name n ≡ b → (d : Bool) → is_among n (declared_names items) ≡ d → values_named n ≡ terms_of_kind (if b then Parent else (if d then Global else kind_by (values_named n)))
    here true q d e = ap values_named (sym ((bytes_decides parent_name n).0 q))
    here false q true e = declared_one items names n g e
    here false q false e = sym (by_count (values_named n) (All-contains (λ (m : List ℕ). values_named m ≤ 2) (place_names items) n (placed_values items names g) there))
