-- What a program's tree has that comes from a source: few variables in a rule, few branches in a select, few values of what is changed, few places
-- and few closures.
use Rattle.std.proofs.Common.{◌≡◌, ◌≤◌, ◌⊎◌, ◌||◌, ◌+◌, inl, inr, ℕ, zero, suc, List, [], ◌∷◌, ◌++◌, Bool, true, false, Option, Some, None, length, length-append, map, nat_lt, refl, sym, ◌∙◌, ap, subst, arith}
use Rattle.std.specs.Prelude.{if◌then◌else◌}
use Rattle.std.specs.List.{All, Contains, list_all}
use Rattle.std.specs.Option.{is_some}
use Rattle.std.specs.Str.{bytes_eq}
use Rattle.std.specs.Cmp.Lexicographic.{bytes_decides}
use Rattle.std.proofs.lemmas.Bool.{and_parts, or_parts}
use Rattle.std.proofs.lemmas.Bool.Decides.{nat_tests}
use Rattle.std.proofs.lemmas.List.{map-append}
use Rattle.std.proofs.lemmas.List.Elements.{All-nil, All-cons, All-head, All-tail, Contains-append_left, Contains-append_right, Contains-append_cases}
use Rattle.dg_scopes.specs.Few.{HasFewVariables}
use Rattle.dg_base.specs.Heads.{name_of}
use Rattle.dg_base.specs.Mentions.{Thing, query, select, closure, Mentions, nothing, thing, closed, closures, of_rule, of_said, things, things_in, mentioned, names_in, weight_of}
use Rattle.dg_base.specs.Names.{prelude_names, name_among, builtins, builtin_among, builtin_named}
use Rattle.dg_base.specs.Tree as tree
use Rattle.dg_base.specs.Tree.{Parts, Said, Item}
use Rattle.dg_base.specs.declared.mentions.Role.TheVariants as role
use Rattle.dg_base.specs.declared.names.Builtin.{Builtin}
use Rattle.dg_base.specs.declared.names.Builtin.TheVariants as built_in
use Rattle.dg_core.specs.Given.{IsFit, IsFitItem, closures_among}
use Rattle.dg_core.specs.Matches.{IsPlain, ArePlain}
use Rattle.dg_core.specs.Places.{parent_name, declaration_in, declarations, changed_in, place_names, head_values}
use Rattle.dg_items.specs.Expanded as expanded
use Rattle.dg_items.specs.Expanded.{is_kept_builtin, is_closed, is_misplaced}
use Rattle.dg_put.specs.Put.{Access, rule_for}
use Rattle.dg_names.specs.Among.{AreFirsts, HasPred, IsAmong}
use Rattle.dg_names.specs.Counts.{closures_at}
use Rattle.dg_names.specs.Named.{Named, firsts}
use Rattle.dg_compile.proofs.ComeLemmas.{IsSelectFit, IsPlainKnown}
use Rattle.dg_compile.proofs.DeclareLemmas.{IsDeclared, AreDeclared}
use Rattle.dg_compile.proofs.Never.{never}

-- names in order of first appearance are those that are given
abbrev pub FirstsAreNames : Type 0
FirstsAreNames = (names : List (List ℕ)) → AreFirsts names (firsts names)

-- ---- each thing

-- what is changed isn't built in, but for the place of parents, and has at most two values
abbrev pub IsChangeable : Thing → Type 0
IsChangeable (query (role.Changed set) ps) = (is_kept_builtin (builtin_named (name_of ps)) ≡ false) × (length (head_values ps) ≤ 2)
IsChangeable t = Unit {0}

counted : (ps : Parts) → length (head_values ps) ≡ expanded.count_values ps
counted tree.no_parts = refl
counted (tree.part (tree.part_word w) ps) = counted ps
counted (tree.part (tree.part_value v) ps) = omega (arith, counted ps)

at_most_two : (n m : ℕ) → nat_lt 2 m ≡ false → n ≡ m → n ≤ 2
at_most_two n m e k = let low : m ≤ 2 = grind (arith, nat_tests, e) in omega (arith, low, k)

changeable : (rules : List Access) (t : Thing) → is_misplaced rules t ≡ false → IsChangeable t
changeable rules (query (role.Changed set) ps) e =
    let each = or_parts (is_closed rules ps) (nat_lt 2 (expanded.count_values ps)) e in
    let named = or_parts (is_kept_builtin (builtin_named (name_of ps))) (name_among (name_of ps) prelude_names || is_some (rule_for rules ps)) each.0 in
    (named.0, at_most_two (length (head_values ps)) (expanded.count_values ps) each.1 (counted ps))
changeable rules t e = tt

-- what is known of a thing that a program's tree mentions
pub record IsReady (d : Named) (t : Thing) : Type 0 where
  pub among : IsAmong d t
  pub select : IsSelectFit t
  pub plain : IsPlain t
  pub changeable : IsChangeable t

pub all_ready : (d : Named) (rules : List Access) (ts : List Thing) → All (IsPlainKnown d) ts → All (λ (t : Thing). is_misplaced rules t ≡ false) ts → All (IsReady d) ts
all_ready d rules ts h none = λ k e lt.
    let known = h k e lt in
    record { among = known.0; select = known.1; plain = known.2; changeable = changeable rules _ (none k e lt) }

thing_fit : (d : Named) (t : Thing) → IsReady d t → IsFit t
thing_fit d (query (role.Changed set) ps) r = r.changeable.1
thing_fit d (select n) r = r.select
thing_fit d t r = tt

pub things_fit : (d : Named) (ts : List Thing) → All (IsReady d) ts → All IsFit ts
things_fit d ts h = λ k e lt. thing_fit d _ (h k e lt)

-- ---- items

-- each of these things is ready
abbrev pub AreReady : Named → List Thing → Type 0
AreReady d ts = (t : Thing) → Contains ts t → IsReady d t

ready_front : (d : Named) (ts us : List Thing) → AreReady d (ts ++ us) → AreReady d ts
ready_front d ts us r = λ t c. r t (Contains-append_left ts us t c)

ready_behind : (d : Named) (ts us : List Thing) → AreReady d (ts ++ us) → AreReady d us
ready_behind d ts us r = λ t c. r t (Contains-append_right ts us t c)

are_plain : (d : Named) (ms : Mentions) → AreReady d (things ms) → ArePlain ms
are_plain d nothing r = tt
are_plain d (thing t ms) r = ((r t (0, omega arith, refl)).plain, are_plain d ms (ready_behind d (t ∷ []) (things ms) r))
are_plain d (closed inner ms) r =
    let within = ready_behind d (closure ∷ []) (things inner ++ things ms) r in
    (are_plain d inner (ready_front d (things inner) (things ms) within), are_plain d ms (ready_behind d (things inner) (things ms) within))

-- what is declared isn't the place of parents, which is built in
no_parent : (n : List ℕ) → builtin_named n ≡ None → bytes_eq parent_name n ≡ false
no_parent n none = here (bytes_eq parent_name n) refl
  where
    here : (b : Bool) → bytes_eq parent_name n ≡ b → b ≡ false
    here true e = let no : builtin_named parent_name ≡ None = ap builtin_named ((bytes_decides parent_name n).0 e) ∙ none in cc
    here false e = refl

item_fit : (d : Named) (said : Said) → HasFewVariables said → IsDeclared said → AreReady d (things_in said) → IsFitItem said
item_fit d (tree.topic n) few e r = tt
item_fit d (tree.rule ps b) few e r = record { few = few; plain = are_plain d (of_rule role.Rule ps b) r }
item_fit d (tree.deny ps b) few e r = record { few = few; plain = are_plain d (of_rule role.Rule ps b) r }
item_fit d (tree.access ps b) few e r = tt
item_fit d (tree.global_variable ps) few e r = record { one = e.one; value = e.value; other = no_parent (name_of ps) e.other }

pub items_fit : (d : Named) (is : List Item) → All (λ (i : Item). HasFewVariables i.said) is → AreDeclared is → AreReady d (mentioned is) → All (λ (i : Item). IsFitItem i.said) is
items_fit d [] few e r = All-nil (λ (i : Item). IsFitItem i.said)
items_fit d (i ∷ is) few e r =
    All-cons (λ (j : Item). IsFitItem j.said) i is
    (item_fit d i.said (All-head (λ (j : Item). HasFewVariables j.said) i is few) (All-head (λ (j : Item). IsDeclared j.said) i is e) (ready_front d (things_in i.said) (mentioned is) r))
    (items_fit d is (All-tail (λ (j : Item). HasFewVariables j.said) i is few) (All-tail (λ (j : Item). IsDeclared j.said) i is e) (ready_behind d (things_in i.said) (mentioned is) r))

-- ---- closures

weight_append : (f : Thing → ℕ) (a b : List Thing) → weight_of f (a ++ b) ≡ weight_of f a + weight_of f b
weight_append f [] b = omega arith
weight_append f (t ∷ a) b = omega (arith, weight_append f a b)

closures_weigh : (ms : Mentions) → length (closures ms) ≤ weight_of closures_at (things ms)
closures_weigh nothing = omega arith
closures_weigh (thing t ms) = omega (arith, closures_weigh ms)
closures_weigh (closed inner ms) = omega (arith, length-append (closures inner) (closures ms), weight_append closures_at (things inner) (things ms), closures_weigh inner, closures_weigh ms)

pub few_closures : (is : List Item) → closures_among is ≤ weight_of closures_at (mentioned is)
few_closures [] = omega arith
few_closures (i ∷ is) = omega (arith, closures_weigh (of_said i.said), few_closures is, weight_append closures_at (things_in i.said) (mentioned is))

pub closures_append : (a b : List Item) → closures_among (a ++ b) ≡ closures_among a + closures_among b
closures_append [] b = omega arith
closures_append (i ∷ a) b = omega (arith, closures_append a b)

-- ---- places

-- a built-in query has the name of parents where it is that of parents
abbrev is_parent_named : List ℕ → Builtin → Bool
is_parent_named n built_in.HasParent = bytes_eq n parent_name
is_parent_named n b = true

parent_among : (n : List ℕ) (bs : List (List ℕ × Builtin)) → list_all (λ (b : List ℕ × Builtin). is_parent_named b.0 b.1) bs ≡ true → builtin_among n bs ≡ Some built_in.HasParent → n ≡ parent_name
parent_among n [] a e = cc
parent_among n (b ∷ bs) a e =
    let each = and_parts (is_parent_named b.0 b.1) (list_all (λ (k : List ℕ × Builtin). is_parent_named k.0 k.1) bs) a in
    here b.0 b.1 each.0 (bytes_eq b.0 n) refl e (λ k. parent_among n bs each.1 k)
  where
    here : (m : List ℕ) (b : Builtin) → is_parent_named m b ≡ true → (q : Bool) → bytes_eq m n ≡ q → (if q then Some b else builtin_among n bs) ≡ Some built_in.HasParent → (builtin_among n bs ≡ Some built_in.HasParent → n ≡ parent_name) → n ≡ parent_name
    here m b a false q k rest = rest k
    here m b a true q k rest =
        let is : b ≡ built_in.HasParent = cc in
        let named = subst (λ (x : Builtin). is_parent_named m x ≡ true) is a in
        sym ((bytes_decides m n).0 q) ∙ (bytes_decides m parent_name).0 named

parent_alone : (n : List ℕ) (o : Option Builtin) → builtin_named n ≡ o → is_some o ≡ true → is_kept_builtin o ≡ false → n ≡ parent_name
parent_alone n None e s f = never s
parent_alone n (Some built_in.HasParent) e s f = parent_among n builtins refl e
parent_alone n (Some b) e s f = never (sym f)

-- the name of a place is that of parents or among the predicates
abbrev IsPlaced : Named → List ℕ → Type 0
IsPlaced d n = Contains (parent_name ∷ d.preds) n

name_placed : (d : Named) (n : List ℕ) (o : Option Builtin) → builtin_named n ≡ o → HasPred d n o → is_kept_builtin o ≡ false → IsPlaced d n
name_placed d n None e h f = Contains-append_right (parent_name ∷ []) d.preds n h
name_placed d n (Some b) e h f = (0, omega arith, sym (parent_alone n (Some b) e refl f))

either : {X Y Z : Type 0} → X ⊎ Y → (X → Z) → (Y → Z) → Z
either (inl k) f g = f k
either (inr k) f g = g k

nowhere : {A : Type 0} (n : List ℕ) → Contains [] n → A
nowhere n h = absurd (let lt = h.1 in omega arith)

only : (m n : List ℕ) → Contains (m ∷ []) n → m ≡ n
only m n (zero, lt, e) = e
only m n (suc k, lt, e) = absurd (omega arith)

one_changed : (d : Named) (t : Thing) (n : List ℕ) → IsReady d t → Contains (changed_in t) n → IsPlaced d n
one_changed d (query (role.Changed set) ps) n r h = subst (IsPlaced d) (only (name_of ps) n h) (name_placed d (name_of ps) (builtin_named (name_of ps)) refl r.among r.changeable.0)
one_changed d t n r h = nowhere n h

all_changed : (d : Named) (ts : List Thing) (n : List ℕ) → AreReady d ts → Contains (names_in changed_in ts) n → IsPlaced d n
all_changed d [] n r h = nowhere n h
all_changed d (t ∷ ts) n r h =
    either (Contains-append_cases (changed_in t) (names_in changed_in ts) n h) (one_changed d t n (r t (0, omega arith, refl)))
    (all_changed d ts n (ready_behind d (t ∷ []) ts r))

one_declared : (d : Named) (said : Said) (n : List ℕ) → AreReady d (things_in said) → IsDeclared said → Contains (map name_of (declaration_in said)) n → IsPlaced d n
one_declared d (tree.global_variable ps) n r e h =
    subst (IsPlaced d) (only (name_of ps) n h) (name_placed d (name_of ps) (builtin_named (name_of ps)) refl (r (query role.Declared ps) (0, omega arith, refl)).among (ap is_kept_builtin e.other))
one_declared d (tree.topic w) n r e h = nowhere n h
one_declared d (tree.rule ps b) n r e h = nowhere n h
one_declared d (tree.deny ps b) n r e h = nowhere n h
one_declared d (tree.access ps b) n r e h = nowhere n h

all_declared : (d : Named) (is : List Item) (n : List ℕ) → AreReady d (mentioned is) → AreDeclared is → Contains (map name_of (declarations is)) n → IsPlaced d n
all_declared d [] n r e h = nowhere n h
all_declared d (i ∷ is) n r e h =
    either
    (Contains-append_cases (map name_of (declaration_in i.said)) (map name_of (declarations is)) n (subst (λ (l : List (List ℕ)). Contains l n) (map-append name_of (declaration_in i.said) (declarations is)) h))
    (one_declared d i.said n (ready_front d (things_in i.said) (mentioned is) r) (All-head (λ (j : Item). IsDeclared j.said) i is e))
    (all_declared d is n (ready_behind d (things_in i.said) (mentioned is) r) (All-tail (λ (j : Item). IsDeclared j.said) i is e))

-- so places are few where predicates are
pub few_places : FirstsAreNames → (d : Named) (is : List Item) → AreReady d (mentioned is) → AreDeclared is → length d.preds ≤ 65533 → length (place_names is) ≤ 65534
few_places law d is r e few =
    let declared = map name_of (declarations is) in
    let changed = names_in changed_in (mentioned is) in
    let there : (n : List ℕ) → Contains (parent_name ∷ (declared ++ changed)) n → IsPlaced d n = λ n h.
    either (Contains-append_cases (parent_name ∷ []) (declared ++ changed) n h) (Contains-append_left (parent_name ∷ []) d.preds n)
    (λ k. either (Contains-append_cases declared changed n k) (all_declared d is n r e) (all_changed d (mentioned is) n r)) in
    let most = (law (parent_name ∷ (declared ++ changed))).fewest (parent_name ∷ d.preds) there in
    omega (arith, most, few)
