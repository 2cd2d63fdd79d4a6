-- The names of places are gathered item by item.
use Rattle.std.proofs.Common.{◌≡◌, ◌+◌, ◌<◌, ℕ, suc, List, [], ◌∷◌, ◌++◌, Bool, true, false, Some, position, length, map, get_or, drop, drop-cons, add-one, refl, sym, ◌∙◌, ap, arith}
use Rattle.std.specs.Prelude.{if◌then◌else◌, nat_eq}
use Rattle.std.specs.List.{All, Contains}
use Rattle.std.specs.Str.{bytes_eq}
use Rattle.std.specs.Cmp.Lexicographic.{bytes_decides}
use Rattle.std.proofs.lemmas.List.Elements.{All-nil, All-cons, Contains-append_left, Contains-append_right}
use Rattle.std.proofs.lemmas.List.Quantifiers.{position-Some}
use Rattle.dg_base.specs.Heads.{name_of}
use Rattle.dg_base.specs.Mentions.{Thing, query, names_in, things_in, mentioned}
use Rattle.dg_base.specs.Tree.{Parts, Item}
use Rattle.dg_base.specs.TreeView.{item_view}
use Rattle.dg_base.specs.Walk.{mention_view, thing_at, seen, things_at}
use Rattle.dg_base.specs.declared.mentions.Mention.{Mention}
use Rattle.dg_base.specs.declared.mentions.Role.TheVariants as role
use Rattle.dg_base.specs.declared.tree.Item.{Item as TreeItem}
use Rattle.dg_base.proofs.MentionLemmas.{names_append}
use Rattle.dg_names.specs.Scopes.{with_name, with_names}
use Rattle.dg_names.proofs.FirstLemmas.{firsts_of, with_append}
use Rattle.dg_core.proofs.MemberLemmas.{alone_there, firsts_have}
use Rattle.dg_core.specs.inside.View.{named_behind, value_at, escape_at}
use Rattle.dg_base.specs.declared.program.PlaceKind.TheVariants.{Parent, Global}
use Rattle.dg_core.specs.Places.{is_among, kind_by, kind_of, values_named, values_behind, parent_name, declaration_in, declarations, declared_names, changed_in, place_names, Placed, placed_of}

abbrev pair : List (List ℕ) → List (List ℕ) → Placed
pair n d = record { names = n; declared = d }

pub next : {A : Type 0} (xs : List A) (k : ℕ) (x : A) → k < length xs → x ≡ get_or xs k x → drop k xs ≡ x ∷ drop (k + 1) xs
next xs k x h e =
    drop-cons xs k x h
    ∙ ap (λ y. y ∷ drop (suc k) xs) (sym e)
    ∙ ap (λ (n : ℕ). x ∷ drop n xs) (sym (add-one k))

map_names : (a b : List Parts) → map name_of (a ++ b) ≡ map name_of a ++ map name_of b
map_names [] b = refl
map_names (p ∷ a) b = ap (λ (l : List (List ℕ)). name_of p ∷ l) (map_names a b)

-- the names of declarations, an item first
pub declared_on : (ks ns : List (List ℕ)) (items : List TreeItem) (k : ℕ) (i : TreeItem) → k < length items → i ≡ get_or items k i → ns ≡ with_names ks (map name_of (declaration_in (item_view i).said)) → with_names ns (map name_of (declarations (map item_view (drop (k + 1) items)))) ≡ with_names ks (map name_of (declarations (map item_view (drop k items))))
declared_on ks ns items k i h e is =
    let rest = declarations (map item_view (drop (k + 1) items)) in
    let here = declaration_in (item_view i).said in
    ap (λ (l : List (List ℕ)). with_names l (map name_of rest)) is
    ∙ sym (with_append ks (map name_of here) (map name_of rest))
    ∙ ap (with_names ks) (sym (map_names here rest))
    ∙ ap (λ (l : List TreeItem). with_names ks (map name_of (declarations (map item_view l)))) (sym (next items k i h e))

-- the names of what is changed, a mention first
pub changed_on : (ks ns : List (List ℕ)) (ms : List Mention) (k : ℕ) (m : Mention) → k < length ms → m ≡ get_or ms k m → ns ≡ with_names ks (names_in changed_in (thing_at (mention_view m))) → with_names ns (names_in changed_in (things_at (seen (drop (k + 1) ms)))) ≡ with_names ks (names_in changed_in (things_at (seen (drop k ms))))
changed_on ks ns ms k m h e is =
    let rest = things_at (seen (drop (k + 1) ms)) in
    let here = thing_at (mention_view m) in
    ap (λ (l : List (List ℕ)). with_names l (names_in changed_in rest)) is
    ∙ sym (with_append ks (names_in changed_in here) (names_in changed_in rest))
    ∙ ap (with_names ks) (sym (names_append changed_in here rest))
    ∙ ap (λ (l : List Mention). with_names ks (names_in changed_in (things_at (seen l)))) (sym (next ms k m h e))

-- the names of what is changed, an item first
pub all_changed_on : (ks ns : List (List ℕ)) (items : List TreeItem) (k : ℕ) (i : TreeItem) → k < length items → i ≡ get_or items k i → ns ≡ with_names ks (names_in changed_in (things_in (item_view i).said)) → with_names ns (names_in changed_in (mentioned (map item_view (drop (k + 1) items)))) ≡ with_names ks (names_in changed_in (mentioned (map item_view (drop k items))))
all_changed_on ks ns items k i h e is =
    let rest = mentioned (map item_view (drop (k + 1) items)) in
    let here = things_in (item_view i).said in
    ap (λ (l : List (List ℕ)). with_names l (names_in changed_in rest)) is
    ∙ sym (with_append ks (names_in changed_in here) (names_in changed_in rest))
    ∙ ap (with_names ks) (sym (names_append changed_in here rest))
    ∙ ap (λ (l : List TreeItem). with_names ks (names_in changed_in (mentioned (map item_view l)))) (sym (next items k i h e))

-- all that was gathered, that of parents first
pub gathered : (is : List Item) (n a b c : List (List ℕ)) → n ≡ [] → a ≡ with_name n parent_name → b ≡ with_names a (map name_of (declarations is)) → c ≡ with_names b (names_in changed_in (mentioned is)) → c ≡ place_names is
gathered is n a b c none first second third =
    let all = map name_of (declarations is) ++ names_in changed_in (mentioned is) in
    third
    ∙ ap (λ (l : List (List ℕ)). with_names l (names_in changed_in (mentioned is))) second
    ∙ sym (with_append a (map name_of (declarations is)) (names_in changed_in (mentioned is)))
    ∙ ap (λ (l : List (List ℕ)). with_names l all) (first ∙ ap (λ (l : List (List ℕ)). with_name l parent_name) none)
    ∙ firsts_of (parent_name ∷ all)

pub declared_as : (is : List Item) (n a : List (List ℕ)) → n ≡ [] → a ≡ with_names n (map name_of (declarations is)) → a ≡ declared_names is
declared_as is n a none e = e ∙ ap (λ (l : List (List ℕ)). with_names l (map name_of (declarations is))) none ∙ firsts_of (map name_of (declarations is))

pub placed_as : (is : List Item) (names declared : List (List ℕ)) → names ≡ place_names is → declared ≡ declared_names is → pair names declared ≡ placed_of is
placed_as is names declared e f = both names declared (place_names is) (declared_names is) e f
  where
    both : (n d n' d' : List (List ℕ)) → n ≡ n' → d ≡ d' → pair n d ≡ pair n' d'
    both n d n' d' e f = ap (λ (x : List (List ℕ)). pair x d) e ∙ ap (λ (x : List (List ℕ)). pair n' x) f

-- a name with a place is among names
pub there_at : (n : List ℕ) (ms : List (List ℕ)) (k : ℕ) → position (bytes_eq n) ms ≡ Some k → Contains ms n
there_at n ms k e =
    let found = position-Some (bytes_eq n) ms k n e in
    (k, found.0, sym ((bytes_decides n (get_or ms k n)).0 found.1))

-- what is changed has a place
abbrev pub IsPlaced : List (List ℕ) → Thing → Type 0
IsPlaced placed (query (role.Changed set) ps) = Contains placed (name_of ps)
IsPlaced placed t = Unit {0}

placed_all : (ns : List (List ℕ)) (ts : List Thing) → ((n : List ℕ) → Contains (names_in changed_in ts) n → Contains ns n) → All (IsPlaced ns) ts
placed_all ns [] h = All-nil (IsPlaced ns)
placed_all ns (t ∷ ts) h = All-cons (IsPlaced ns) t ts (one t (λ n k. h n (Contains-append_left (changed_in t) (names_in changed_in ts) n k))) (placed_all ns ts (λ n k. h n (Contains-append_right (changed_in t) (names_in changed_in ts) n k)))
  where
    one : (t : Thing) → ((n : List ℕ) → Contains (changed_in t) n → Contains ns n) → IsPlaced ns t
    one (query (role.Changed set) ps) k = k (name_of ps) (alone_there (name_of ps))
    one t k = tt

pub changed_there : (is : List Item) → All (IsPlaced (place_names is)) (mentioned is)
changed_there is =
    let changed = names_in changed_in (mentioned is) in
    placed_all (place_names is) (mentioned is) (λ n k. firsts_have (parent_name ∷ (map name_of (declarations is) ++ changed)) n (Contains-append_right (parent_name ∷ map name_of (declarations is)) changed n k))

-- a character in front of the rest of a name
pub named_next : (b : Bool) (c : ℕ) (cs : List ℕ) → named_behind b (c ∷ cs) ≡ value_at b c + named_behind (escape_at b c) cs
named_next true c cs = omega arith
named_next false c cs = here (nat_eq c 92) (nat_eq c 36)
  where
    here : (x y : Bool) → (if x then values_behind cs else (if y then suc (values_named cs) else values_named cs)) ≡ (if x then 0 else (if y then 1 else 0)) + named_behind x cs
    here true y = omega arith
    here false true = omega arith
    here false false = omega arith

-- what the place of a name keeps that is neither that of parents nor declared
pub kind_else : (declared : List (List ℕ)) (n : List ℕ) → bytes_eq parent_name n ≡ false → is_among n declared ≡ false → kind_of declared n ≡ kind_by (values_named n)
kind_else declared n e f =
    ap (λ (b : Bool). if b then Parent else (if is_among n declared then Global else kind_by (values_named n))) e
    ∙ ap (λ (b : Bool). if b then Global else kind_by (values_named n)) f
