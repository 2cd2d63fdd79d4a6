-- Rules come to the predicates of their heads.
use Rattle.std.proofs.Common.{◌≡◌, ◌<◌, ◌≤◌, ◌+◌, ℕ, zero, suc, List, [], ◌∷◌, ◌++◌, Bool, true, false, not, Some, None, Vec, Global, length, map, get_or, nat_lt, position, refl, sym, ◌∙◌, ap, subst, arith, append_assoc, drop, drop-cons, add-one}
use Rattle.std.specs.Prelude.{if◌then◌else◌}
use Rattle.std.specs.List.{IsDistinct, AllByRecursion, position_or_len}
use Rattle.std.specs.Str.{bytes_eq}
use Rattle.std.specs.Cmp.Lexicographic.{bytes_decides}
use Rattle.std.proofs.Math.ListN.{set}
use Rattle.std.proofs.lemmas.Grind.{common_steps}
use Rattle.std.proofs.lemmas.List.{get_or-map, length-map}
use Rattle.std.proofs.lemmas.List.Quantifiers.{position-Some}
use Rattle.std.proofs.lemmas.Map.Keys.{IsDistinct-head, IsDistinct-tail}
use Rattle.dg_base.specs.Heads.{name_of}
use Rattle.dg_base.specs.Tree.{Said, Item}
use Rattle.dg_base.specs.TreeView.{said_view, head_view, body_view}
use Rattle.dg_base.specs.declared.tree.Body.{Body}
use Rattle.dg_base.specs.declared.tree.Head.{Head}
use Rattle.dg_base.specs.declared.tree.Item.{Item as TreeItem}
use Rattle.dg_base.specs.declared.tree.ItemBody.{ItemBody}
use Rattle.dg_base.specs.declared.tree.ItemBody.TheVariants.{Deny, Topic, Access, Variable}
use Rattle.dg_base.specs.declared.program.Goal.{Goal}
use Rattle.dg_base.specs.declared.program.Pred.{Pred}
use Rattle.dg_base.specs.declared.program.Rule.{Rule}
use Rattle.dg_core.specs.Bodies.{no_closure}
use Rattle.dg_core.specs.Core.{Before, none_before, behind_item, rule_of, failing, rules_of_item, rules_from, rows_in, selects_of, closures_of, numbered, pred_of}
use Rattle.dg_core.specs.Goals.{Scope}
use Rattle.dg_core.specs.inside.View.{with_rule, with_rules_in, with_all, pred_names}

-- ---- one rule

nothing_behind : (rs : List Rule) → rs ++ [] ≡ rs
nothing_behind [] = refl
nothing_behind (r ∷ rs) = ap (λ (l : List Rule). r ∷ l) (nothing_behind rs)

as_it_was : (p : Pred) → record p { rules = p.rules ++ [] } ≡ p
as_it_was p = ap (λ (rs : List Rule). record p { rules = rs }) (nothing_behind p.rules)

named : (n : List ℕ) (r : Rule) (p : Pred) → bytes_eq n p.name ≡ true → with_rule n r p ≡ record p { rules = p.rules ++ r ∷ [] }
named n r p e = ap (λ (b : Bool). record p { rules = p.rules ++ (if b then r ∷ [] else []) }) e

not_named : (n : List ℕ) (r : Rule) (p : Pred) → bytes_eq n p.name ≡ false → with_rule n r p ≡ p
not_named n r p e = ap (λ (b : Bool). record p { rules = p.rules ++ (if b then r ∷ [] else []) }) e ∙ as_it_was p

-- a name is none of these
abbrev pub IsApart : List ℕ → List (List ℕ) → Type 0
IsApart n ms = AllByRecursion (λ m. bytes_eq n m ≡ false) ms

pub untouched : (n : List ℕ) (r : Rule) (ps : List Pred) → IsApart n (pred_names ps) → map (with_rule n r) ps ≡ ps
untouched n r [] apart = refl
untouched n r (p ∷ ps) apart =
    ap (λ (q : Pred). q ∷ map (with_rule n r) ps) (not_named n r p apart.0)
    ∙ ap (λ (l : List Pred). p ∷ l) (untouched n r ps apart.1)

apart_at : (n : List ℕ) (ps : List Pred) (i : ℕ) (d : Pred) → IsApart n (pred_names ps) → i < length ps → bytes_eq n (get_or ps i d).name ≡ false
apart_at n [] i d apart h = absurd (omega arith)
apart_at n (p ∷ ps) zero d apart h = apart.0
apart_at n (p ∷ ps) (suc i) d apart h = apart_at n ps i d apart.1 (omega arith)

other_if : (n m k : List ℕ) (b : Bool) → bytes_eq n k ≡ b → bytes_eq n m ≡ true → bytes_eq k m ≡ false → bytes_eq n k ≡ false
other_if n m k false q same apart = q
other_if n m k true q same apart =
    absurd (let no : true ≡ false = sym same ∙ ap (λ (x : List ℕ). bytes_eq x m) ((bytes_decides n k).0 q) ∙ apart in cc)

pub other : (n m k : List ℕ) → bytes_eq n m ≡ true → bytes_eq k m ≡ false → bytes_eq n k ≡ false
other n m k same apart = other_if n m k (bytes_eq n k) refl same apart

-- the predicate of this name is the one to which the rule comes
set_rule : (n : List ℕ) (r : Rule) (ps : List Pred) (i : ℕ) (d : Pred) → IsDistinct bytes_eq (pred_names ps) → i < length ps → bytes_eq n (get_or ps i d).name ≡ true → set ps i (record (get_or ps i d) { rules = (get_or ps i d).rules ++ r ∷ [] }) ≡ map (with_rule n r) ps
set_rule n r [] i d distinct h e = absurd (omega arith)
set_rule n r (p ∷ ps) zero d distinct h e =
    let apart = subst (λ (x : List ℕ). IsApart x (pred_names ps)) (sym ((bytes_decides n p.name).0 e)) (IsDistinct-head bytes_eq p.name (pred_names ps) distinct) in
    ap (λ (q : Pred). q ∷ ps) (sym (named n r p e))
    ∙ ap (λ (l : List Pred). with_rule n r p ∷ l) (sym (untouched n r ps apart))
set_rule n r (p ∷ ps) (suc i) d distinct h e =
    let apart = other n (get_or ps i d).name p.name e (apart_at p.name ps i d (IsDistinct-head bytes_eq p.name (pred_names ps) distinct) (omega arith)) in
    ap (λ (q : Pred). q ∷ set ps i (record (get_or ps i d) { rules = (get_or ps i d).rules ++ r ∷ [] })) (sym (not_named n r p apart))
    ∙ ap (λ (l : List Pred). with_rule n r p ∷ l) (set_rule n r ps i d (IsDistinct-tail bytes_eq p.name (pred_names ps) distinct) (omega arith) e)

at_place : (n : List ℕ) (ps : List Pred) (i : ℕ) (d : Pred) → position (bytes_eq n) (pred_names ps) ≡ Some i → (i < length ps) × (bytes_eq n (get_or ps i d).name ≡ true)
at_place n ps i d place =
    let found = position-Some (bytes_eq n) (pred_names ps) i d.name place in
    let below = subst (λ (k : ℕ). i < k) (length-map ps (λ (p : Pred). p.name)) found.0 in
    (below, ap (bytes_eq n) (sym (get_or-map (λ (p : Pred). p.name) ps i d d.name below)) ∙ found.1)

-- the element at the place of a name is written back with one rule more
pub added_at : (n : List ℕ) (r : Rule) (ps : List Pred) (i : ℕ) (p : Pred) (rules : List Rule) → IsDistinct bytes_eq (pred_names ps) → position (bytes_eq n) (pred_names ps) ≡ Some i → p ≡ get_or ps i p → rules ≡ p.rules ++ r ∷ [] → set ps i (record { name = p.name; from_source = p.from_source; rules = rules }) ≡ map (with_rule n r) ps
added_at n r ps i p rules distinct place read more =
    let found = at_place n ps i p place in
    ap (λ (rs : List Rule). set ps i (record { name = p.name; from_source = p.from_source; rules = rs })) more
    ∙ ap (λ (q : Pred). set ps i (record q { rules = q.rules ++ r ∷ [] })) read
    ∙ set_rule n r ps i p distinct found.0 found.1

-- ---- a name that isn't there

not_below : (a b : ℕ) → nat_lt a b ≡ false → b ≤ a
not_below a b e = grind (arith, common_steps, e)

none_if : (n m : List ℕ) (ms : List (List ℕ)) (b : Bool) → bytes_eq n m ≡ b → nat_lt (if not b then 1 + position_or_len (bytes_eq n) ms else 0) (suc (length ms)) ≡ false → (nat_lt (position_or_len (bytes_eq n) ms) (length ms) ≡ false → IsApart n ms) → IsApart n (m ∷ ms)
none_if n m ms true q e below = absurd (let no : suc (length ms) ≤ 0 = not_below 0 (suc (length ms)) e in omega arith)
none_if n m ms false q e below = (q, below (grind (arith, common_steps, e)))

none_below : (n : List ℕ) (ms : List (List ℕ)) → nat_lt (position_or_len (bytes_eq n) ms) (length ms) ≡ false → IsApart n ms
none_below n [] e = tt
none_below n (m ∷ ms) e = none_if n m ms (bytes_eq n m) refl e (none_below n ms)

no_place : (b : Bool) (k : ℕ) → (if b then Some k else None) ≡ None → b ≡ false
no_place true k e = absurd (let no : Some k ≡ None = e in cc)
no_place false k e = refl

pub apart_from_none : (n : List ℕ) (ms : List (List ℕ)) → position (bytes_eq n) ms ≡ None → IsApart n ms
apart_from_none n ms e = none_below n ms (no_place (nat_lt (position_or_len (bytes_eq n) ms) (length ms)) (position_or_len (bytes_eq n) ms) e)

-- ---- names in a set

listed_apart : (k : Vec ℕ Global) (ks : List (Vec ℕ Global)) → AllByRecursion (λ (j : Vec ℕ Global). bytes_eq k.items j.items ≡ false) ks → IsApart k.items (map (λ (j : Vec ℕ Global). j.items) ks)
listed_apart k [] all = tt
listed_apart k (j ∷ ks) all = (all.0, listed_apart k ks all.1)

pub listed_distinct : (ks : List (Vec ℕ Global)) → IsDistinct (λ (a : Vec ℕ Global) (b : Vec ℕ Global). bytes_eq a.items b.items) ks → IsDistinct bytes_eq (map (λ (k : Vec ℕ Global). k.items) ks)
unfolding IsDistinct
listed_distinct [] distinct = tt
listed_distinct (k ∷ ks) distinct = (listed_apart k ks distinct.0, listed_distinct ks distinct.1)

-- ---- the rules of items

nothing_added : (around : Scope) (k : Before) (said : Said) (ps : List Pred) → ((name : List ℕ) → rules_of_item around k name said ≡ []) → map (with_rules_in around k said) ps ≡ ps
nothing_added around k said [] none = refl
nothing_added around k said (p ∷ ps) none =
    ap (λ (q : Pred). q ∷ map (with_rules_in around k said) ps) (ap (λ (rs : List Rule). record p { rules = p.rules ++ rs }) (none p.name) ∙ as_it_was p)
    ∙ ap (λ (l : List Pred). p ∷ l) (nothing_added around k said ps none)

pub bare_all : (around : Scope) (is : List Item) (ns : List (List ℕ)) → map (with_all around none_before is) (map (pred_of around []) ns) ≡ map (pred_of around is) ns
bare_all around is [] = refl
bare_all around is (n ∷ ns) = ap (λ (l : List Pred). pred_of around is n ∷ l) (bare_all around is ns)

pub bare_names : (around : Scope) (is : List Item) (ns : List (List ℕ)) → pred_names (map (pred_of around is) ns) ≡ ns
bare_names around is [] = refl
bare_names around is (n ∷ ns) = ap (λ (l : List (List ℕ)). n ∷ l) (bare_names around is ns)

pub names_kept : (around : Scope) (k : Before) (said : Said) (ps : List Pred) → pred_names (map (with_rules_in around k said) ps) ≡ pred_names ps
names_kept around k said [] = refl
names_kept around k said (p ∷ ps) = ap (λ (l : List (List ℕ)). p.name ∷ l) (names_kept around k said ps)

pub all_more : (around : Scope) (k : Before) (i : Item) (is : List Item) (ps : List Pred) → map (with_all around (behind_item k i.said) is) (map (with_rules_in around k i.said) ps) ≡ map (with_all around k (i ∷ is)) ps
all_more around k i is [] = refl
all_more around k i is (p ∷ ps) =
    ap (λ (rs : List Rule). record p { rules = rs } ∷ map (with_all around (behind_item k i.said) is) (map (with_rules_in around k i.said) ps)) (append_assoc p.rules (rules_of_item around k p.name i.said) (rules_from around (behind_item k i.said) p.name is))
    ∙ ap (λ (l : List Pred). with_all around k (i ∷ is) p ∷ l) (all_more around k i is ps)

pub all_done : (around : Scope) (k : Before) (ps : List Pred) → map (with_all around k []) ps ≡ ps
all_done around k [] = refl
all_done around k (p ∷ ps) =
    ap (λ (q : Pred). q ∷ map (with_all around k []) ps) (as_it_was p)
    ∙ ap (λ (l : List Pred). p ∷ l) (all_done around k ps)

pub next_item : (is : List TreeItem) (k : ℕ) (i : TreeItem) → k < length is → i ≡ get_or is k i → drop k is ≡ i ∷ drop (k + 1) is
next_item is k i h e =
    drop-cons is k i h
    ∙ ap (λ (x : TreeItem). x ∷ drop (suc k) is) (sym e)
    ∙ ap (λ (n : ℕ). i ∷ drop n is) (sym (add-one k))

-- ---- items without a rule

pub record HasNoRule (said : Said) : Type 0 where
  pub rules : (around : Scope) (n : Before) (name : List ℕ) → rules_of_item around n name said ≡ []
  pub rows : (around : Scope) (n : Before) → rows_in around n said ≡ []
  pub selects : selects_of said ≡ 0
  pub closures : closures_of said ≡ no_closure
  pub numbered : numbered said ≡ 0

pub topic_has_none : (said : ItemBody) (n : List ℕ) → said ≡ Topic n → HasNoRule (said_view said)
topic_has_none said n e =
    subst (λ (s : ItemBody). HasNoRule (said_view s)) (sym e) (record { rules = λ around k name. refl; rows = λ around k. refl; selects = refl; closures = refl; numbered = refl })

pub access_has_none : (said : ItemBody) (h : Head) (b : Body) → said ≡ Access h b → HasNoRule (said_view said)
access_has_none said h b e =
    subst (λ (s : ItemBody). HasNoRule (said_view s)) (sym e) (record { rules = λ around k name. refl; rows = λ around k. refl; selects = refl; closures = refl; numbered = refl })

pub variable_has_none : (said : ItemBody) (h : Head) → said ≡ Variable h → HasNoRule (said_view said)
variable_has_none said h e =
    subst (λ (s : ItemBody). HasNoRule (said_view s)) (sym e) (record { rules = λ around k name. refl; rows = λ around k. refl; selects = refl; closures = refl; numbered = refl })

pub no_rule_added : (around : Scope) (k : Before) (said : Said) (ps : List Pred) → HasNoRule said → ps ≡ map (with_rules_in around k said) ps
no_rule_added around k said ps none = sym (nothing_added around k said ps (none.rules around k))

pub nothing_before : (k : Before) (said : Said) → HasNoRule said → k ≡ behind_item k said
nothing_before k said none =
    let a : k.selects ≡ k.selects + selects_of said = omega (arith, none.selects) in
    let b : k.closures ≡ k.closures + numbered said = omega (arith, none.numbered) in
    ap (λ (x : ℕ). record { selects = x; closures = k.closures }) a ∙ ap (λ (x : ℕ). record { selects = k.selects + selects_of said; closures = x }) b

-- ---- a negated rule

pub denied_adds : (around : Scope) (k : Before) (said : ItemBody) (h : Head) (b : Body) (behind : List Goal) (old new : List Pred) → said ≡ Deny h b → behind ≡ failing → new ≡ map (with_rule (name_of (head_view h)) (rule_of around k (head_view h) (body_view b) behind)) old → new ≡ map (with_rules_in around k (said_view said)) old
denied_adds around k said h b behind old new is fails added =
    added
    ∙ ap (λ (gs : List Goal). map (with_rule (name_of (head_view h)) (rule_of around k (head_view h) (body_view b) gs)) old) fails
    ∙ ap (λ (s : ItemBody). map (with_rules_in around k (said_view s)) old) (sym is)
