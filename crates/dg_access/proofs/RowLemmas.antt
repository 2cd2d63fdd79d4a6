-- What the access rules ask for by number is what they reach.
use Rattle.std.proofs.Common.{◌≡◌, ◌+◌, ◌<◌, ◌≤◌, ◌⊎◌, ℕ, zero, suc, List, [], ◌∷◌, ◌++◌, ◌||◌, ◌&&◌, Bool, true, false, Option, Some, length, map, take, drop, get_or, nat_eq, nat_lt, refl, sym, ◌∙◌, ap, subst, inl, inr, append_assoc, append-nil, add-zero, eqb-true, eq-eqb, ne_eqb, lt-ltb, arith}
use Rattle.std.specs.Prelude.{Vec, if◌then◌else◌}
use Rattle.std.specs.Global.{Global}
use Rattle.std.specs.List.{list_any}
use Rattle.std.specs.Option.{option_map}
use Rattle.std.specs.Str.{bytes_eq}
use Rattle.std.specs.Cmp.Lexicographic.{bytes_decides}
use Rattle.std.proofs.Math.ListN.{drop_of_length-le}
use Rattle.std.proofs.lemmas.Bool.{or_cases, or_left, or_right, and_parts, and_from}
use Rattle.std.proofs.lemmas.List.Folds.{list_any-append}
use Rattle.std.proofs.lemmas.List.{get_or_default, take_at, drop_at, length-append, length-map}
use Rattle.dg_base.specs.Heads.{name_of}
use Rattle.dg_base.specs.Mentions as thing
use Rattle.dg_base.specs.Mentions.{Thing, things_in}
use Rattle.dg_base.specs.Tree as tree
use Rattle.dg_base.specs.Tree.{Said, Item}
use Rattle.dg_base.specs.declared.mentions.Role.{Role}
use Rattle.dg_base.specs.declared.mentions.Role.TheVariants as role
use Rattle.dg_put.specs.Put.{Access}
use Rattle.dg_put.specs.inside.Putting.{access_view}
use Rattle.dg_put.specs.declared.access.Access.{Access as CodeAccess}
use Rattle.dg_items.specs.Expanded.{access_in, access_rules}
use Rattle.dg_access.specs.Loops.{asks, asks_for, mentions, reaches, loops, first_looping}
use Rattle.dg_access.specs.inside.Reached.{is_set, is_in, row_at, rows_of, Leads, begins, goes, IsReached}
use Rattle.dg_put.specs.inside.Firsts.{first_of}
use Rattle.dg_access.specs.inside.Rows.{number_in, asked_as, asked_at, asked, first_rows, asked_by, all_rows, firsts, pooled, pooled_from, all_pooled, is_here_looping, is_looping, first_numbered}

map_append : {X Y : Type 0} (f : X → Y) (xs ys : List X) → map f (xs ++ ys) ≡ map f xs ++ map f ys
map_append f [] ys = refl
map_append f (x ∷ xs) ys = ap (λ l. f x ∷ l) (map_append f xs ys)

-- ---- rows

pub asked_append : (rules : List Access) (a b : List Thing) → asked rules (a ++ b) ≡ asked rules a ++ asked rules b
asked_append rules [] b = refl
asked_append rules (t ∷ a) b =
    ap (λ (l : List ℕ). asked_at rules t ++ l) (asked_append rules a b) ∙ sym (append_assoc (asked_at rules t) (asked rules a) (asked rules b))

said_rows : (rules : List Access) (said : Said)
    → map (λ (r : Access). asked rules (things_in said)) (access_in said) ≡ map (asked_by rules) (access_in said)
said_rows rules (tree.topic n) = refl
said_rows rules (tree.rule ps b) = refl
said_rows rules (tree.deny ps b) = refl
said_rows rules (tree.access ps b) = refl
said_rows rules (tree.global_variable ps) = refl

pub first_are : (rules : List Access) (is : List Item) → first_rows rules is ≡ map (asked_by rules) (access_rules is)
first_are rules [] = refl
first_are rules (i ∷ is) =
    ap (λ l. l ++ first_rows rules is) (said_rows rules i.said)
    ∙ ap (λ l. map (asked_by rules) (access_in i.said) ++ l) (first_are rules is)
    ∙ sym (map_append (asked_by rules) (access_in i.said) (access_rules is))

row_at_map : (f : Access → List ℕ) (rules behind : List Access) (k : ℕ) (r : Access) → drop k rules ≡ r ∷ behind → row_at (map f rules) k ≡ f r
row_at_map f [] behind zero r e = cc
row_at_map f [] behind (suc k) r e = cc
row_at_map f (x ∷ rules) behind zero r e = ap f (first e)
  where
    first : {x r : Access} {xs ys : List Access} → x ∷ xs ≡ r ∷ ys → x ≡ r
    first e = cc
row_at_map f (x ∷ rules) behind (suc k) r e = row_at_map f rules behind k r e

pub rows_pushed : (made : List (Vec ℕ Global)) (row : Vec ℕ Global) (others : List (List ℕ))
    → rows_of (made ++ row ∷ []) ++ others ≡ rows_of made ++ row.items ∷ others
rows_pushed [] row others = refl
rows_pushed (v ∷ made) row others = ap (λ (l : List (List ℕ)). v.items ∷ l) (rows_pushed made row others)

-- ---- the rows of one name together

none_pooled : (k : ℕ) (ns : List ℕ) → pooled k ns [] ≡ []
none_pooled k [] = refl
none_pooled k (n ∷ ns) = refl

abbrev no_numbers : List ℕ
no_numbers = []

nothing_if : (b : Bool) → no_numbers ≡ (if b then no_numbers else no_numbers) ++ no_numbers
nothing_if true = refl
nothing_if false = refl

drop_none : {X : Type 0} (k : ℕ) (xs : List X) → xs ≡ [] → drop k xs ≡ []
drop_none zero xs e = e
drop_none (suc k) [] e = refl
drop_none (suc k) (x ∷ xs) e = cc

after_one : (i : ℕ) → suc i ≡ i + 1
after_one i = omega arith

pooled_behind : (k : ℕ) (ns : List ℕ) (rows : List (List ℕ)) (i n : ℕ) → i < length ns → n ≡ get_or ns i n
    → pooled k (drop i ns) (drop i rows) ≡ (if nat_eq n k then row_at rows i else []) ++ pooled k (drop (suc i) ns) (drop (suc i) rows)
pooled_behind k [] rows i n h e = absurd (omega arith)
pooled_behind k (m ∷ ns) [] zero n h e = nothing_if (nat_eq n k) ∙ ap (λ (l : List ℕ). (if nat_eq n k then [] else []) ++ l) (sym (none_pooled k ns))
pooled_behind k (m ∷ ns) (row ∷ rows) zero n h e = ap (λ (x : ℕ). (if nat_eq x k then row else []) ++ pooled k ns rows) (sym e)
pooled_behind k (m ∷ ns) [] (suc i) n h e =
    ap (λ (l : List (List ℕ)). pooled k (drop i ns) l) (sym (drop_none i [] refl))
    ∙ pooled_behind k ns [] i n (omega (arith, h)) e
    ∙ ap (λ (l : List (List ℕ)). (if nat_eq n k then [] else []) ++ pooled k (drop (suc i) ns) l) (drop_none (suc i) [] refl)
pooled_behind k (m ∷ ns) (row ∷ rows) (suc i) n h e = pooled_behind k ns rows i n (omega (arith, h)) e

-- what is pooled of the rest, from its first element on
pub pooled_on : (k : ℕ) (ns : List ℕ) (rows : List (List ℕ)) (i n : ℕ) → i < length ns → n ≡ get_or ns i n
    → pooled k (drop i ns) (drop i rows) ≡ (if nat_eq n k then row_at rows i else []) ++ pooled k (drop (i + 1) ns) (drop (i + 1) rows)
pooled_on k ns rows i n h e =
    pooled_behind k ns rows i n h e ∙ ap (λ (j : ℕ). (if nat_eq n k then row_at rows i else []) ++ pooled k (drop j ns) (drop j rows)) (after_one i)

row_if : (b : Bool) (made row others rest all : List ℕ) → rest ≡ (if b then row else []) ++ others → made ++ rest ≡ all
    → (if b then made ++ row else made) ++ others ≡ all
row_if true made row others rest all e f = append_assoc made row others ∙ ap (λ (l : List ℕ). made ++ l) (sym e) ∙ f
row_if false made row others rest all e f = ap (λ (l : List ℕ). made ++ l) (sym e) ∙ f

-- what is pooled so far, with the next row where it is one of them
pub pooled_with : (k : ℕ) (ns : List ℕ) (rows : List (List ℕ)) (i : ℕ) (made all : List ℕ) → i < length ns → get_or ns i 0 ≡ k
    → made ++ pooled k (drop i ns) (drop i rows) ≡ all → (made ++ row_at rows i) ++ pooled k (drop (i + 1) ns) (drop (i + 1) rows) ≡ all
pooled_with k ns rows i made all h e f =
    let n = get_or ns i 0 in
    let others = pooled k (drop (i + 1) ns) (drop (i + 1) rows) in
    let one = row_if (nat_eq n k) made (row_at rows i) others (pooled k (drop i ns) (drop i rows)) all (pooled_on k ns rows i n h (get_or_default ns i 0 n h)) f in
    ap (λ (b : Bool). (if b then made ++ row_at rows i else made) ++ others) (sym (eq-eqb n k e)) ∙ one

pub pooled_without : (k : ℕ) (ns : List ℕ) (rows : List (List ℕ)) (i : ℕ) (made all : List ℕ) → i < length ns → (get_or ns i 0 ≡ k → ⊥)
    → made ++ pooled k (drop i ns) (drop i rows) ≡ all → made ++ pooled k (drop (i + 1) ns) (drop (i + 1) rows) ≡ all
pooled_without k ns rows i made all h other f =
    let n = get_or ns i 0 in
    let others = pooled k (drop (i + 1) ns) (drop (i + 1) rows) in
    let one = row_if (nat_eq n k) made (row_at rows i) others (pooled k (drop i ns) (drop i rows)) all (pooled_on k ns rows i n h (get_or_default ns i 0 n h)) f in
    ap (λ (b : Bool). (if b then made ++ row_at rows i else made) ++ others) (sym (ne_eqb n k other)) ∙ one

from_behind : (k i : ℕ) (cs ns : List ℕ) (rows : List (List ℕ)) → i < length cs
    → pooled_from k (drop i cs) ns rows ≡ pooled k ns rows ∷ pooled_from (k + 1) (drop (suc i) cs) ns rows
from_behind k i [] ns rows h = absurd (omega arith)
from_behind k zero (c ∷ cs) ns rows h = refl
from_behind k (suc i) (c ∷ cs) ns rows h = from_behind k i cs ns rows (omega (arith, h))

pub from_on : (k i : ℕ) (cs ns : List ℕ) (rows : List (List ℕ)) → i < length cs
    → pooled_from k (drop i cs) ns rows ≡ pooled k ns rows ∷ pooled_from (k + 1) (drop (i + 1) cs) ns rows
from_on k i cs ns rows h = from_behind k i cs ns rows h ∙ ap (λ (j : ℕ). pooled k ns rows ∷ pooled_from (k + 1) (drop j cs) ns rows) (after_one i)

from_at : (k i : ℕ) (cs ns : List ℕ) (rows : List (List ℕ)) → i < length cs → row_at (pooled_from k cs ns rows) i ≡ pooled (k + i) ns rows
from_at k i [] ns rows h = absurd (omega arith)
from_at k zero (c ∷ cs) ns rows h = ap (λ (n : ℕ). pooled n ns rows) (omega arith)
from_at k (suc i) (c ∷ cs) ns rows h = from_at (k + 1) i cs ns rows (omega (arith, h)) ∙ ap (λ (n : ℕ). pooled n ns rows) (omega arith)

from_length : (k : ℕ) (cs ns : List ℕ) (rows : List (List ℕ)) → length (pooled_from k cs ns rows) ≡ length cs
from_length k [] ns rows = refl
from_length k (c ∷ cs) ns rows = ap (λ (n : ℕ). suc n) (from_length (k + 1) cs ns rows)

-- ---- numbers of names

-- An access rule is one of these.
abbrev IsOf : Access → List Access → Type 0
IsOf r [] = ⊥
IsOf r (x ∷ rs) = (r ≡ x) ⊎ IsOf r rs

same_name : (a : List ℕ) → bytes_eq a a ≡ true
same_name a = (bytes_decides a a).1 refl

found_here : (b : Bool) (n m : ℕ) → b ≡ true → (if b then 0 else n + 1) < suc m
found_here true n m e = omega arith
found_here false n m e = cc

found_behind : (b : Bool) (n m : ℕ) → n < m → (if b then 0 else n + 1) < suc m
found_behind true n m h = omega arith
found_behind false n m h = omega (arith, h)

found : (rules : List Access) (t : Access) → IsOf t rules → first_of rules t.name < length rules
found [] t o = absurd o
found (x ∷ rs) t (inl e) =
    found_here (bytes_eq x.name t.name) (first_of rs t.name) (length rs) (ap (λ (r : Access). bytes_eq r.name t.name) (sym e) ∙ same_name t.name)
found (x ∷ rs) t (inr o) = found_behind (bytes_eq x.name t.name) (first_of rs t.name) (length rs) (found rs t o)

same_first_if : (x t : Access) (rs : List Access) (name : List ℕ) (b c : Bool) → bytes_eq x.name t.name ≡ b → bytes_eq x.name name ≡ c
    → (t ≡ x) ⊎ IsOf t rs → (IsOf t rs → first_of rs t.name ≡ first_of rs name → bytes_eq t.name name ≡ true)
    → (if b then 0 else first_of rs t.name + 1) ≡ (if c then 0 else first_of rs name + 1) → bytes_eq t.name name ≡ true
same_first_if x t rs name true true be ce o on e = (bytes_decides t.name name).1 (sym ((bytes_decides x.name t.name).0 be) ∙ (bytes_decides x.name name).0 ce)
same_first_if x t rs name true false be ce o on e = absurd (omega (arith, e))
same_first_if x t rs name false true be ce o on e = absurd (omega (arith, e))
same_first_if x t rs name false false be ce (inl is) on e =
    absurd (let bad : false ≡ true = sym be ∙ ap (λ (r : Access). bytes_eq r.name t.name) (sym is) ∙ same_name t.name in cc)
same_first_if x t rs name false false be ce (inr o) on e = on o (omega (arith, e))

-- the number of an access rule's name is that of no other name
same_first : (rules : List Access) (t : Access) (name : List ℕ) → IsOf t rules → first_of rules t.name ≡ first_of rules name
    → bytes_eq t.name name ≡ true
same_first [] t name o e = absurd o
same_first (x ∷ rs) t name o e = same_first_if x t rs name (bytes_eq x.name t.name) (bytes_eq x.name name) refl refl o (λ p f. same_first rs t name p f) e

-- ---- what is asked for

number_if : (rules : List Access) (t : Access) (name : List ℕ) (b c : Bool) → IsOf t rules → bytes_eq t.name name ≡ b
    → nat_lt (first_of rules name) (length rules) ≡ c → is_in (first_of rules t.name) (if c then first_of rules name ∷ [] else []) ≡ b
number_if rules t name true true o be ce =
    or_left (nat_eq (first_of rules t.name) (first_of rules name)) false (eq-eqb (first_of rules t.name) (first_of rules name) (ap (first_of rules) ((bytes_decides t.name name).0 be)))
number_if rules t name true false o be ce =
    absurd (let bad : true ≡ false = sym (lt-ltb (first_of rules t.name) (length rules) (found rules t o)) ∙ ap (λ (n : List ℕ). nat_lt (first_of rules n) (length rules)) ((bytes_decides t.name name).0 be) ∙ ce in cc)
number_if rules t name false true o be ce = by (nat_eq (first_of rules t.name) (first_of rules name)) refl
  where
    by : (d : Bool) → nat_eq (first_of rules t.name) (first_of rules name) ≡ d → (d || false) ≡ false
    by true e = absurd (let bad : false ≡ true = sym be ∙ same_first rules t name o (eqb-true (first_of rules t.name) (first_of rules name) e) in cc)
    by false e = refl
number_if rules t name false false o be ce = refl

number_asked : (rules : List Access) (t : Access) (name : List ℕ) → IsOf t rules
    → is_in (first_of rules t.name) (number_in rules name) ≡ bytes_eq t.name name
number_asked rules t name o = number_if rules t name (bytes_eq t.name name) (nat_lt (first_of rules name) (length rules)) o refl refl

role_asked : (rules : List Access) (t : Access) (r : Role) (name : List ℕ) → IsOf t rules
    → is_in (first_of rules t.name) (asked_as rules r name) ≡ asks r t.name name
role_asked rules t role.Rule name o = number_asked rules t name o
role_asked rules t role.Access name o = refl
role_asked rules t role.Declared name o = number_asked rules t name o
role_asked rules t role.Asked name o = number_asked rules t name o
role_asked rules t role.AskedAll name o = number_asked rules t name o
role_asked rules t role.AskedNot name o = number_asked rules t name o
role_asked rules t (role.Changed set) name o = number_asked rules t name o
role_asked rules t role.Nested name o = number_asked rules t name o

thing_asked : (rules : List Access) (t : Access) (x : Thing) → IsOf t rules → is_in (first_of rules t.name) (asked_at rules x) ≡ asks_for t.name x
thing_asked rules t (thing.topic_line n) o = refl
thing_asked rules t (thing.query r ps) o = role_asked rules t r (name_of ps) o
thing_asked rules t (thing.number n) o = refl
thing_asked rules t (thing.word w) o = refl
thing_asked rules t (thing.object n) o = refl
thing_asked rules t thing.current_topic o = refl
thing_asked rules t (thing.unnamed twice) o = refl
thing_asked rules t (thing.variable n) o = refl
thing_asked rules t (thing.word_choice ws) o = refl
thing_asked rules t (thing.text w) o = refl
thing_asked rules t (thing.other form) o = refl
thing_asked rules t (thing.branches n) o = refl
thing_asked rules t (thing.select n) o = refl
thing_asked rules t thing.closure o = refl

all_asked : (rules : List Access) (t : Access) (ts : List Thing) → IsOf t rules
    → is_in (first_of rules t.name) (asked rules ts) ≡ list_any (asks_for t.name) ts
all_asked rules t [] o = refl
all_asked rules t (x ∷ ts) o =
    let k = first_of rules t.name in
    list_any-append (nat_eq k) (asked_at rules x) (asked rules ts)
    ∙ ap (λ (b : Bool). b || is_in k (asked rules ts)) (thing_asked rules t x o)
    ∙ ap (λ (b : Bool). asks_for t.name x || b) (all_asked rules t ts o)

mentioned : (rules : List Access) (r t : Access) → IsOf t rules → is_in (first_of rules t.name) (asked_by rules r) ≡ mentions r t.name
mentioned rules r t o = all_asked rules t (things_in (tree.access r.head r.body)) o

-- ---- what is asked for by one name

has_if : (b : Bool) (d : ℕ) (row others : List ℕ) → b ≡ true → is_in d row ≡ true → is_in d ((if b then row else []) ++ others) ≡ true
has_if true d row others e h = list_any-append (nat_eq d) row others ∙ or_left (is_in d row) (is_in d others) h
has_if false d row others e h = cc

pooled_has : (rules rs : List Access) (t : Access) (k d : ℕ) → IsOf t rs → first_of rules t.name ≡ k → is_in d (asked_by rules t) ≡ true
    → is_in d (pooled k (firsts rules rs) (map (asked_by rules) rs)) ≡ true
pooled_has rules [] t k d o e h = absurd o
pooled_has rules (x ∷ rs) t k d (inl is) e h =
    has_if (nat_eq (first_of rules x.name) k) d (asked_by rules x) (pooled k (firsts rules rs) (map (asked_by rules) rs)) (eq-eqb (first_of rules x.name) k (ap (λ (r : Access). first_of rules r.name) (sym is) ∙ e)) (ap (λ (r : Access). is_in d (asked_by rules r)) (sym is) ∙ h)
pooled_has rules (x ∷ rs) t k d (inr o) e h =
    let others = pooled k (firsts rules rs) (map (asked_by rules) rs) in
    let row = if nat_eq (first_of rules x.name) k then asked_by rules x else [] in
    list_any-append (nat_eq d) row others ∙ or_right (is_in d row) (is_in d others) (pooled_has rules rs t k d o e h)

-- the access rule of this number's name that asks for another
record AskedOf (rules rs : List Access) (k d : ℕ) : Type 0 where
  rule : Access
  among : IsOf rule rs
  first : first_of rules rule.name ≡ k
  asks_it : is_in d (asked_by rules rule) ≡ true

asker_behind : (rules rs : List Access) (x : Access) (k d : ℕ) → AskedOf rules rs k d → AskedOf rules (x ∷ rs) k d
asker_behind rules rs x k d a = record { rule = a.rule; among = inr a.among; first = a.first; asks_it = a.asks_it }

asker_if : (rules rs : List Access) (x : Access) (k d : ℕ) (b : Bool) → nat_eq (first_of rules x.name) k ≡ b
    → is_in d (if b then asked_by rules x else []) ≡ true → AskedOf rules (x ∷ rs) k d
asker_if rules rs x k d true e h = record { rule = x; among = inl refl; first = eqb-true (first_of rules x.name) k e; asks_it = h }
asker_if rules rs x k d false e h = absurd (let bad : false ≡ true = h in cc)

asker_by : (rules rs : List Access) (x : Access) (k d : ℕ)
    → (is_in d (pooled k (firsts rules rs) (map (asked_by rules) rs)) ≡ true → AskedOf rules rs k d)
    → (is_in d (if nat_eq (first_of rules x.name) k then asked_by rules x else []) ≡ true) ⊎ (is_in d (pooled k (firsts rules rs) (map (asked_by rules) rs)) ≡ true)
    → AskedOf rules (x ∷ rs) k d
asker_by rules rs x k d on (inl f) = asker_if rules rs x k d (nat_eq (first_of rules x.name) k) refl f
asker_by rules rs x k d on (inr f) = asker_behind rules rs x k d (on f)

asker : (rules rs : List Access) (k d : ℕ) → is_in d (pooled k (firsts rules rs) (map (asked_by rules) rs)) ≡ true → AskedOf rules rs k d
asker rules [] k d h = absurd (let bad : false ≡ true = h in cc)
asker rules (x ∷ rs) k d h =
    let row = if nat_eq (first_of rules x.name) k then asked_by rules x else [] in
    let others = pooled k (firsts rules rs) (map (asked_by rules) rs) in
    asker_by rules rs x k d (λ f. asker rules rs k d f) (or_cases (is_in d row) (is_in d others) (sym (list_any-append (nat_eq d) row others) ∙ h))

from_row : (k i d : ℕ) (cs ns : List ℕ) (rows : List (List ℕ)) → is_in d (row_at (pooled_from k cs ns rows) i) ≡ true
    → is_in d (pooled (k + i) ns rows) ≡ true
from_row k i d [] ns rows h = absurd (let bad : false ≡ true = h in cc)
from_row k zero d (c ∷ cs) ns rows h = ap (λ (n : ℕ). is_in d (pooled n ns rows)) (add-zero k) ∙ h
from_row k (suc i) d (c ∷ cs) ns rows h = ap (λ (n : ℕ). is_in d (pooled n ns rows)) (moved k i) ∙ from_row (k + 1) i d cs ns rows h
  where
    moved : (a b : ℕ) → a + suc b ≡ (a + 1) + b
    moved a b = omega arith

-- ---- what is reached

direct : (ks : List Access) (r : Access) (name : List ℕ) → mentions r name ≡ true → reaches ks r name ≡ true
direct [] r name e = e
direct (k ∷ ks) r name e = or_left (reaches ks r name) (reaches ks r k.name && reaches ks k name) (direct ks r name e)

through : (ks : List Access) (x r : Access) (name : List ℕ) → reaches ks r x.name ≡ true → reaches ks x name ≡ true
    → reaches (x ∷ ks) r name ≡ true
through ks x r name a b = or_right (reaches ks r name) (reaches ks r x.name && reaches ks x name) (and_from (reaches ks r x.name) (reaches ks x name) a b)

over : (ks : List Access) (x r : Access) (name : List ℕ) → reaches ks r name ≡ true → reaches (x ∷ ks) r name ≡ true
over ks x r name a = or_left (reaches ks r name) (reaches ks r x.name && reaches ks x name) a

-- what an access rule reaches without another or by it
abbrev Ways : List Access → Access → Access → List ℕ → Type 0
Ways ks x r name = (reaches ks r name ≡ true) ⊎ ((reaches ks r x.name ≡ true) × (reaches ks x name ≡ true))

ways : (ks : List Access) (x r : Access) (name : List ℕ) → reaches (x ∷ ks) r name ≡ true → Ways ks x r name
ways ks x r name e = by (or_cases (reaches ks r name) (reaches ks r x.name && reaches ks x name) e)
  where
    by : (reaches ks r name ≡ true) ⊎ ((reaches ks r x.name && reaches ks x name) ≡ true) → Ways ks x r name
    by (inl f) = inl f
    by (inr f) = inr (and_parts (reaches ks r x.name) (reaches ks x name) f)

to_first : (ks : List Access) (x r : Access) → Ways ks x r x.name → reaches ks r x.name ≡ true
to_first ks x r (inl e) = e
to_first ks x r (inr e) = e.0

from_first : (ks : List Access) (x : Access) (name : List ℕ) → Ways ks x x name → reaches ks x name ≡ true
from_first ks x name (inl e) = e
from_first ks x name (inr e) = e.1

on_from : (ks : List Access) (k r : Access) (name : List ℕ) → IsOf k ks → reaches ks r k.name ≡ true → reaches ks k name ≡ true
    → reaches ks r name ≡ true
on_from [] k r name o a b = absurd o
on_from (x ∷ ks) k r name (inl is) a b =
    through ks x r name
    (to_first ks x r (ways ks x r x.name (subst (λ (q : Access). reaches (x ∷ ks) r q.name ≡ true) is a)))
    (from_first ks x name (ways ks x x name (subst (λ (q : Access). reaches (x ∷ ks) q name ≡ true) is b)))
on_from (x ∷ ks) k r name (inr o) a b = by (λ q n f g. on_from ks k q n o f g) (ways ks x r k.name a) (ways ks x k name b)
  where
    by : ((q : Access) (n : List ℕ) → reaches ks q k.name ≡ true → reaches ks k n ≡ true → reaches ks q n ≡ true) → Ways ks x r k.name
        → Ways ks x k name → reaches (x ∷ ks) r name ≡ true
    by on (inl f) (inl g) = over ks x r name (on r name f g)
    by on (inl f) (inr g) = through ks x r name (on r x.name f g.0) g.1
    by on (inr f) (inl g) = through ks x r name f.0 (on x name f.1 g)
    by on (inr f) (inr g) = through ks x r name f.0 g.1

plain : (n : ℕ) → n ≡ 0 + n
plain n = omega arith

leads_on : (rules : List Access) (r : Access) {d : ℕ} → Leads (all_pooled rules) (asked_by rules r) d → (t : Access) → IsOf t rules
    → first_of rules t.name ≡ d → reaches rules r t.name ≡ true
leads_on rules r (begins d e) t o is = direct rules r t.name (sym (mentioned rules r t o) ∙ ap (λ (n : ℕ). is_in n (asked_by rules r)) is ∙ e)
leads_on rules r (goes c d l e) t o is =
    let a = asker rules rules c d (ap (λ (n : ℕ). is_in d (pooled n (firsts rules rules) (all_rows rules))) (plain c) ∙ from_row 0 c d (firsts rules rules) (firsts rules rules) (all_rows rules) e) in
    on_from rules a.rule r t.name a.among (leads_on rules r l a.rule a.among a.first)
    (direct rules a.rule t.name (sym (mentioned rules a.rule t o) ∙ ap (λ (n : ℕ). is_in n (asked_by rules a.rule)) is ∙ a.asks_it))

-- all that an access rule reaches is there where all that it asks for is
all_there : (rules : List Access) (start : List ℕ) (seen : List Bool) → IsReached (all_pooled rules) start seen → (ks : List Access)
    → ((k : Access) → IsOf k ks → IsOf k rules) → (r : Access)
    → ((t : Access) → IsOf t rules → mentions r t.name ≡ true → is_set seen (first_of rules t.name) ≡ true) → (t : Access) → IsOf t rules
    → reaches ks r t.name ≡ true → is_set seen (first_of rules t.name) ≡ true
all_there rules start seen h [] all r step t o e = step t o e
all_there rules start seen h (k ∷ ks) all r step t o e =
    by (λ q s p i f. all_there rules start seen h ks (λ x j. all x (inr j)) q s p i f) (ways ks k r t.name e)
  where
    k_is : IsOf k rules
    k_is = all k (inl refl)

    fits : (q : Access) → IsOf q rules → first_of rules q.name < length (all_pooled rules)
    fits q p = subst (λ (n : ℕ). first_of rules q.name < n) (sym (length-map rules (λ (x : Access). first_of rules x.name)) ∙ sym (from_length 0 (firsts rules rules) (firsts rules rules) (all_rows rules))) (found rules q p)

    on : is_set seen (first_of rules k.name) ≡ true → (q : Access) → IsOf q rules → mentions k q.name ≡ true
        → is_set seen (first_of rules q.name) ≡ true
    on there q p f =
        let i = first_of rules k.name in
        let d = first_of rules q.name in
        let inside : i < length (firsts rules rules) = subst (λ (n : ℕ). i < n) (sym (length-map rules (λ (x : Access). first_of rules x.name))) (found rules k k_is) in
        h.gone i d there (fits q p)
        (ap (is_in d) (from_at 0 i (firsts rules rules) (firsts rules rules) (all_rows rules) inside ∙ ap (λ (n : ℕ). pooled n (firsts rules rules) (all_rows rules)) (sym (plain i))) ∙ pooled_has rules rules k i d k_is refl (mentioned rules k q p ∙ f))

    by : ((q : Access) → ((p : Access) → IsOf p rules → mentions q p.name ≡ true → is_set seen (first_of rules p.name) ≡ true) → (p : Access) → IsOf p rules → reaches ks q p.name ≡ true → is_set seen (first_of rules p.name) ≡ true)
        → Ways ks k r t.name → is_set seen (first_of rules t.name) ≡ true
    by then_on (inl f) = then_on r step t o f
    by then_on (inr f) = then_on k (on (then_on r step k k_is f.0)) t o f.1

same_answer : (b c : Bool) → (b ≡ true → c ≡ true) → (c ≡ true → b ≡ true) → b ≡ c
same_answer true c f g = sym (f refl)
same_answer false true f g = g refl
same_answer false false f g = refl

is_of : (rules behind : List Access) (n : ℕ) (r : Access) → drop n rules ≡ r ∷ behind → IsOf r rules
is_of [] behind zero r e = absurd (let bad = e in cc)
is_of [] behind (suc n) r e = absurd (let bad = e in cc)
is_of (x ∷ rules) behind zero r e = inl (first e)
  where
    first : {x r : Access} {xs ys : List Access} → x ∷ xs ≡ r ∷ ys → r ≡ x
    first e = cc
is_of (x ∷ rules) behind (suc n) r e = inr (is_of rules behind n r e)

-- whether an access rule reaches its own predicate
pub reaches_itself : (rules behind : List Access) (n : ℕ) (r : Access) (seen : List Bool) → drop n rules ≡ r ∷ behind
    → IsReached (all_pooled rules) (row_at (all_rows rules) n) seen → is_set seen (first_of rules r.name) ≡ reaches rules r r.name
reaches_itself rules behind n r seen e given =
    let own = row_at_map (asked_by rules) rules behind n r e in
    let h = subst (λ (row : List ℕ). IsReached (all_pooled rules) row seen) own given in
    let o = is_of rules behind n r e in
    same_answer (is_set seen (first_of rules r.name)) (reaches rules r r.name)
    (λ f. leads_on rules r (h.led (first_of rules r.name) f) r o refl)
    (λ f. all_there rules (asked_by rules r) seen h rules (λ k p. p) r (λ t p g. h.begun (first_of rules t.name) (fits t p) (mentioned rules r t p ∙ g)) r o f)
  where
    fits : (q : Access) → IsOf q rules → first_of rules q.name < length (all_pooled rules)
    fits q p = subst (λ (n : ℕ). first_of rules q.name < n) (sym (length-map rules (λ (x : Access). first_of rules x.name)) ∙ sym (from_length 0 (firsts rules rules) (firsts rules rules) (all_rows rules))) (found rules q p)

-- ---- the first item

same_choice : (v w : Bool) (line : ℕ) (i : Item) (x : Option ℕ) (y : Option Item) → v ≡ w → i.line ≡ line
    → x ≡ option_map (λ (j : Item). j.line) y → (if v then Some line else x) ≡ option_map (λ (j : Item). j.line) (if w || false then Some i else y)
same_choice true true line i x y e l h = ap Some (sym l)
same_choice true false line i x y e l h = cc
same_choice false true line i x y e l h = cc
same_choice false false line i x y e l h = h

says : (before behind : List Access) (r : Access) (rules : List Access) → rules ≡ before ++ r ∷ behind
    → is_looping rules (length before) ≡ loops rules before r
says before behind r rules e =
    let n = length before in
    let there : drop n rules ≡ r ∷ behind = ap (drop n) e ∙ drop_at before (r ∷ behind) n refl in
    ap (λ (bs : List Access). is_here_looping rules bs (drop n rules)) (ap (take n) e ∙ take_at before (r ∷ behind) n refl)
    ∙ ap (λ (rs : List Access). is_here_looping rules before rs) there

numbered_step : (rules before : List Access) (said : Said) (line : ℕ) (is : List Item)
    → ((b : List Access) → rules ≡ b ++ access_rules is → first_numbered rules (length b) is ≡ option_map (λ (i : Item). i.line) (first_looping rules b is))
    → rules ≡ before ++ (access_in said ++ access_rules is)
    → first_numbered rules (length before) (record { line = line; said = said } ∷ is) ≡ option_map (λ (i : Item). i.line) (first_looping rules before (record { line = line; said = said } ∷ is))
numbered_step rules before (tree.topic n) line is others e =
    ap (λ (b : List Access). first_numbered rules (length b) is) (sym (append-nil before))
    ∙ others (before ++ []) (e ∙ ap (λ (b : List Access). b ++ access_rules is) (sym (append-nil before)))
numbered_step rules before (tree.rule ps b) line is others e =
    ap (λ (b : List Access). first_numbered rules (length b) is) (sym (append-nil before))
    ∙ others (before ++ []) (e ∙ ap (λ (b : List Access). b ++ access_rules is) (sym (append-nil before)))
numbered_step rules before (tree.deny ps b) line is others e =
    ap (λ (b : List Access). first_numbered rules (length b) is) (sym (append-nil before))
    ∙ others (before ++ []) (e ∙ ap (λ (b : List Access). b ++ access_rules is) (sym (append-nil before)))
numbered_step rules before (tree.global_variable ps) line is others e =
    ap (λ (b : List Access). first_numbered rules (length b) is) (sym (append-nil before))
    ∙ others (before ++ []) (e ∙ ap (λ (b : List Access). b ++ access_rules is) (sym (append-nil before)))
numbered_step rules before (tree.access ps b) line is others e =
    let r : Access = record { name = name_of ps; head = ps; body = b } in
    let more : length (before ++ r ∷ []) ≡ length before + 1 = length-append before (r ∷ []) in
    same_choice (is_looping rules (length before)) (loops rules before r) line (record { line = line; said = tree.access ps b }) _ _ (says before (access_rules is) r rules e) refl
    (ap (λ (n : ℕ). first_numbered rules n is) (sym more) ∙ others (before ++ r ∷ []) (e ∙ sym (append_assoc before (r ∷ []) (access_rules is))))

pub numbered : (rules before : List Access) (is : List Item) → rules ≡ before ++ access_rules is
    → first_numbered rules (length before) is ≡ option_map (λ (i : Item). i.line) (first_looping rules before is)
numbered rules before [] e = refl
numbered rules before (i ∷ is) e = numbered_step rules before i.said i.line is (λ b h. numbered rules b is h) e

-- ---- an element of a list

taken : (rules : List CodeAccess) (k : ℕ) → take k (map access_view rules) ≡ map access_view (take k rules)
taken [] zero = refl
taken [] (suc k) = refl
taken (r ∷ rules) zero = refl
taken (r ∷ rules) (suc k) = ap (λ (l : List Access). access_view r ∷ l) (taken rules k)

pub numbered_rule : (rules : List CodeAccess) (k : ℕ) (d : CodeAccess) → k < length rules
    → drop k (map access_view rules) ≡ access_view (get_or rules k d) ∷ drop (suc k) (map access_view rules)
numbered_rule [] k d h = absurd (omega arith)
numbered_rule (r ∷ rules) zero d h = refl
numbered_rule (r ∷ rules) (suc k) d h = numbered_rule rules k d (omega arith)

pub looping_here : (rules : List CodeAccess) (k : ℕ) (d : CodeAccess) → k < length rules → d ≡ get_or rules k d
    → is_looping (map access_view rules) k ≡ loops (map access_view rules) (map access_view (take k rules)) (access_view d)
looping_here rules k d h e =
    ap (λ (bs : List Access). is_here_looping (map access_view rules) bs (drop k (map access_view rules))) (taken rules k)
    ∙ ap (λ (rs : List Access). is_here_looping (map access_view rules) (map access_view (take k rules)) rs) (numbered_rule rules k d h)
    ∙ ap (λ (x : CodeAccess). loops (map access_view rules) (map access_view (take k rules)) (access_view x)) (sym e)

pub looping_behind : (rules : List CodeAccess) (k : ℕ) → length rules ≤ k → is_looping (map access_view rules) k ≡ false
looping_behind rules k h =
    ap (λ (rs : List Access). is_here_looping (map access_view rules) (take k (map access_view rules)) rs) (drop_of_length-le (map access_view rules) {i = k} (short (length-map rules access_view)))
  where
    short : length (map access_view rules) ≡ length rules → length (map access_view rules) ≤ k
    short e = omega (arith, e, h)

pub itself_here : (rules : List CodeAccess) (k : ℕ) (d : CodeAccess) (seen : List Bool) → k < length rules → d ≡ get_or rules k d
    → IsReached (all_pooled (map access_view rules)) (row_at (all_rows (map access_view rules)) k) seen
    → is_set seen (first_of (map access_view rules) d.name.now) ≡ reaches (map access_view rules) (access_view d) d.name.now
itself_here rules k d seen h e given =
    reaches_itself (map access_view rules) (drop (suc k) (map access_view rules)) k (access_view d) seen (numbered_rule rules k d h ∙ ap (λ (x : CodeAccess). access_view x ∷ drop (suc k) (map access_view rules)) (sym e)) given
