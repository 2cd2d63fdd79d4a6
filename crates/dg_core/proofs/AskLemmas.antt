-- The queries of a core program fit the heads of its rules.
use Rattle.std.proofs.Common.{◌≡◌, ◌<◌, ◌≤◌, ℕ, List, [], ◌∷◌, Bool, true, false, Option, Some, None, length, map, get_or, nat_lt, position, refl, sym, ◌∙◌, ap, subst, arith}
use Rattle.std.specs.Prelude.{if◌then◌else◌, slice_get}
use Rattle.std.specs.List.{All, Contains}
use Rattle.std.specs.Option.{option_map}
use Rattle.std.specs.Str.{bytes_eq}
use Rattle.std.specs.Cmp.Lexicographic.{bytes_decides}
use Rattle.std.proofs.lemmas.Grind.{common_steps}
use Rattle.std.proofs.lemmas.List.Elements.{All-nil, All-cons, All-append, All-head, All-tail, All-weaker, All-contains, All-from_recursion}
use Rattle.std.proofs.lemmas.List.Quantifiers.{position-Some}
use Rattle.std.proofs.lemmas.Option.{slice_get-get_or, slice_get-map}
use Rattle.dg_base.specs.Heads.{name_of}
use Rattle.dg_base.specs.Sound.{FitsHeads, FitsPlace, IsEntry}
use Rattle.dg_base.specs.Tree.{Parts, Body, Said, topic, rule, deny, access, global_variable, Item}
use Rattle.dg_base.specs.declared.program.Goal.{Goal}
use Rattle.dg_base.specs.declared.program.Place.{Place}
use Rattle.dg_base.specs.declared.program.Pred.{Pred}
use Rattle.dg_base.specs.declared.program.Rule.{Rule}
use Rattle.dg_base.specs.declared.program.Term.{Term}
use Rattle.dg_names.specs.Named.{Named}
use Rattle.dg_core.specs.Core.{Before, outer_scope, scope_of, rule_of, failing, rules_of_item, behind_item, none_before, rules_from, pred_of, bare, with_rules, entry_name}
use Rattle.dg_core.specs.Given.{IsGiven}
use Rattle.dg_core.specs.Goals.{Scope, place_number, in_16_bits, number_in, terms_of}
use Rattle.dg_core.specs.Places.{values_named, place_names}
use Rattle.dg_core.proofs.FitLemmas.{kind_wants}
use Rattle.dg_core.proofs.HeadLemmas.{terms_counted}
use Rattle.dg_core.proofs.PredLemmas.{apart_from_none}

-- ---- numbers

pub place_if : (n : List ℕ) (ms : List (List ℕ)) (o : Option ℕ) → position (bytes_eq n) ms ≡ o → Contains ms n → (k : ℕ) × (position (bytes_eq n) ms ≡ Some k)
place_if n ms (Some k) e there = (k, e)
place_if n ms None e there =
    let apart : bytes_eq n n ≡ false = All-contains (λ (m : List ℕ). bytes_eq n m ≡ false) ms n (All-from_recursion (λ (m : List ℕ). bytes_eq n m ≡ false) ms (apart_from_none n ms e)) there in
    absurd (let no : true ≡ false = sym ((bytes_decides n n).1 refl) ∙ apart in cc)

below : (a b : ℕ) → a < b → nat_lt a b ≡ true
below a b h = grind (arith, common_steps, h)

pub small : (k : ℕ) → k < 65536 → in_16_bits k ≡ k
small k h = ap (λ (b : Bool). if b then k else 0) (below k 65536 h)

-- a name among names is the one at its number
pub numbered : (n : List ℕ) (ms : List (List ℕ)) → Contains ms n → length ms ≤ 65535 → slice_get ms (number_in ms n) ≡ Some n
numbered n ms there few =
    let place = place_if n ms (position (bytes_eq n) ms) refl there in
    let found = position-Some (bytes_eq n) ms place.0 n place.1 in
    let number : number_in ms n ≡ place.0 = ap (λ (o : Option ℕ). in_16_bits (place_number o)) place.1 ∙ small place.0 (omega (arith, found.0, few)) in
    ap (slice_get ms) number
    ∙ slice_get-get_or ms place.0 n found.0
    ∙ ap (λ (m : List ℕ). Some m) (sym ((bytes_decides n (get_or ms place.0 n)).0 found.1))

-- ---- rules

-- a rule's head has as many terms as this name has places
abbrev HasValues : List ℕ → Rule → Type 0
HasValues name r = length r.head ≡ values_named name

one_rule : (around : Scope) (n : Before) (name : List ℕ) (ps : Parts) (b : Body) (behind : List Goal) (t : Bool) → bytes_eq (name_of ps) name ≡ t → All (HasValues name) (if t then rule_of around n ps b behind ∷ [] else [])
one_rule around n name ps b behind true e =
    All-cons (HasValues name) (rule_of around n ps b behind) [] (terms_counted (scope_of around n.closures ps b) ps ∙ ap values_named ((bytes_decides (name_of ps) name).0 e)) (All-nil (HasValues name))
one_rule around n name ps b behind false e = All-nil (HasValues name)

item_rules : (around : Scope) (n : Before) (name : List ℕ) (said : Said) → All (HasValues name) (rules_of_item around n name said)
item_rules around n name (rule ps b) = one_rule around n name ps b [] (bytes_eq (name_of ps) name) refl
item_rules around n name (deny ps b) = one_rule around n name ps b failing (bytes_eq (name_of ps) name) refl
item_rules around n name (topic w) = All-nil (HasValues name)
item_rules around n name (access ps b) = All-nil (HasValues name)
item_rules around n name (global_variable ps) = All-nil (HasValues name)

all_rules : (around : Scope) (n : Before) (name : List ℕ) (is : List Item) → All (HasValues name) (rules_from around n name is)
all_rules around n name [] = All-nil (HasValues name)
all_rules around n name (i ∷ is) =
    All-append (HasValues name) (rules_of_item around n name i.said) (rules_from around (behind_item n i.said) name is) (item_rules around n name i.said) (all_rules around (behind_item n i.said) name is)

-- the predicate of a name in the program
abbrev pred_in : Named → List Item → List ℕ → Pred
pred_in names items n = pred_of (outer_scope names items) items n

pred_rules : (names : Named) (items : List Item) (n : List ℕ) → All (HasValues n) (pred_in names items n).rules
pred_rules names items n = all_rules (outer_scope names items) none_before n items

-- the heads of every predicate are few where names have few places
abbrev HeadsFew : ℕ → Pred → Type 0
HeadsFew n q = All (λ (r : Rule). length r.head ≤ n) q.rules

pub heads_few : (names : Named) (items : List Item) (n : ℕ) (ns : List (List ℕ)) → All (λ (m : List ℕ). values_named m ≤ n) ns → All (HeadsFew n) (map (pred_of (outer_scope names items) items) ns)
heads_few names items n [] h = All-nil (HeadsFew n)
heads_few names items n (m ∷ ns) h =
    let few = All-head (λ (k : List ℕ). values_named k ≤ n) m ns h in
    All-cons (HeadsFew n) (pred_in names items m) (map (pred_of (outer_scope names items) items) ns)
    (All-weaker (HasValues m) (λ (r : Rule). length r.head ≤ n) (λ r e. omega (arith, e, few)) (pred_in names items m).rules (pred_rules names items m))
    (heads_few names items n ns (All-tail (λ (k : List ℕ). values_named k ≤ n) m ns h))

pred_at : (names : Named) (items : List Item) (n : List ℕ) → Contains names.preds n → length names.preds ≤ 65535 → slice_get (with_rules names items).preds (number_in names.preds n) ≡ Some (pred_in names items n)
pred_at names items n there few =
    slice_get-map (pred_of (outer_scope names items) items) names.preds (number_in names.preds n) ∙ ap (option_map (pred_of (outer_scope names items) items)) (numbered n names.preds there few)

-- ---- queries and the entry

pub query_fits : (names : Named) (items : List Item) (scope : Scope) (ps : Parts) → Contains names.preds (name_of ps) → length names.preds ≤ 65535 → FitsHeads (length (terms_of scope ps)) (slice_get (with_rules names items).preds (number_in names.preds (name_of ps)))
query_fits names items scope ps there few =
    let args = terms_counted scope ps in
    subst (λ (o : Option Pred). FitsHeads (length (terms_of scope ps)) o) (sym (pred_at names items (name_of ps) there few))
    (All-weaker (HasValues (name_of ps)) (λ (r : Rule). length r.head ≡ length (terms_of scope ps)) (λ r e. e ∙ sym args) (pred_in names items (name_of ps)).rules (pred_rules names items (name_of ps)))

-- a query has as many terms as the name of its predicate has places
abbrev pub HasPlaces : ℕ → Option Pred → Type 0
HasPlaces args None = ⊥
HasPlaces args (Some q) = args ≡ values_named q.name

pub query_named : (names : Named) (items : List Item) (scope : Scope) (ps : Parts) → Contains names.preds (name_of ps) → length names.preds ≤ 65535 → HasPlaces (length (terms_of scope ps)) (slice_get (with_rules names items).preds (number_in names.preds (name_of ps)))
query_named names items scope ps there few =
    subst (λ (o : Option Pred). HasPlaces (length (terms_of scope ps)) o) (sym (pred_at names items (name_of ps) there few)) (terms_counted scope ps)

nothing : (ts : List Term) → length ts ≡ 0 → ts ≡ []
nothing [] e = refl
nothing (t ∷ ts) e = absurd (omega (arith, e))

pub entry_fits : (names : Named) (items : List Item) → Contains names.preds entry_name → length names.preds ≤ 65535 → IsEntry (slice_get (with_rules names items).preds (with_rules names items).entry)
entry_fits names items there few =
    subst (λ (o : Option Pred). IsEntry o) (sym (pred_at names items entry_name there few))
    (All-weaker (HasValues entry_name) (λ (r : Rule). r.head ≡ []) (λ r e. nothing r.head e) (pred_in names items entry_name).rules (pred_rules names items entry_name))

-- ---- places

place_at : (names : Named) (items : List Item) (n : List ℕ) → Contains (place_names items) n → length (place_names items) ≤ 65535 → slice_get (with_rules names items).places (number_in (place_names items) n) ≡ Some (bare items n)
place_at names items n there few =
    slice_get-map (bare items) (place_names items) (number_in (place_names items) n)
    ∙ ap (option_map (bare items)) (numbered n (place_names items) there few)

-- a query or a change of a place has as many terms as its kind wants
pub place_fits : (names : Named) (items : List Item) (scope : Scope) (ps : Parts) → IsGiven names items → Contains (place_names items) (name_of ps) → FitsPlace (length (terms_of scope ps)) (slice_get (with_rules names items).places (number_in (place_names items) (name_of ps)))
place_fits names items scope ps g there =
    subst (λ (o : Option Place). FitsPlace (length (terms_of scope ps)) o) (sym (place_at names items (name_of ps) there (omega (arith, g.few_places))))
    (terms_counted scope ps ∙ kind_wants items names (name_of ps) g there)

pub parents_fit : (names : Named) (items : List Item) → FitsPlace 2 (slice_get (with_rules names items).places 0)
parents_fit names items = refl
