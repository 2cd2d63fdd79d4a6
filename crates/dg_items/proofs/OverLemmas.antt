-- What weighs too much, or has too many heads, is refused as too many.
use Rattle.std.proofs.Common.{◌≡◌, ◌≤◌, ◌<◌, ◌+◌, ◌*◌, ◌||◌, ◌⊎◌, inl, inr, ℕ, List, [], ◌∷◌, ◌++◌, Bool, true, false, length, nat_lt, refl, subst, arith}
use Rattle.std.proofs.lemmas.Bool.{lt-ltb}
use Rattle.std.proofs.lemmas.Bool.Decides.{nat_tests}
use Rattle.dg_base.specs.Tree as tree
use Rattle.dg_base.specs.Tree.{Parts, Body, Changes, Item, changes_of}
use Rattle.dg_base.specs.Mentions.{Thing, things, weight_of, of_parts, of_body, of_changes}
use Rattle.dg_base.proofs.MentionLemmas.{weight_append}
use Rattle.dg_names.specs.Counts.{closures_at, selects_at}
use Rattle.dg_plain.specs.Building.{list_of_changes}
use Rattle.dg_scopes.specs.Counts.{nodes_at, queries_at, thing_rules, counted_of, counted_among, any_has_many, are_large, are_over}
use Rattle.dg_items.specs.Expanded.{signed_rule, head_rules, on_line}
use Rattle.dg_put.specs.inside.Weights.{load, parts_load, body_load, changes_load, HasManyHeads, IsOver}
use Rattle.dg_put.proofs.BuiltLemmas.{changes_again}
use Rattle.dg_put.proofs.WeightLemmas.{join_load}

-- ---- counts

among_weight : (f : Thing → ℕ) (before is : List Item) → weight_of f (counted_among (before ++ is)) ≡ weight_of f (counted_among before) + weight_of f (counted_among is)
among_weight f [] is = omega arith
among_weight f (j ∷ before) is =
    let here = things (counted_of j.said) in
    omega (arith, among_weight f before is, weight_append f here (counted_among (before ++ is)), weight_append f here (counted_among before))

load_split : (ts : List Thing) → weight_of load ts ≡ weight_of nodes_at ts + 50 * weight_of queries_at ts
load_split [] = omega arith
load_split (t ∷ ts) = omega (arith, load_split ts)

either : (a b : Bool) → b ≡ true → (a || b) ≡ true
either true b e = refl
either false b e = e

first : (a b : Bool) → a ≡ true → (a || b) ≡ true
first true b e = refl
first false b e = cc

-- too many queries
over_queries : (is : List Item) → 10000 < weight_of queries_at (counted_among is) → IsOver is
over_queries is h = λ before.
    first (are_large is) (are_over (before ++ is)) (first (nat_lt 10000 (weight_of queries_at (counted_among is))) (any_has_many is) (lt-ltb 10000 (weight_of queries_at (counted_among is)) h))

-- too many rules
pub over_rules : (is : List Item) → 16000 < weight_of thing_rules (counted_among is) → IsOver is
over_rules is h = λ before.
    let ts = counted_among (before ++ is) in
    either (are_large is) (are_over (before ++ is))
    (first (nat_lt 16000 (weight_of thing_rules ts)) (nat_lt 16000 (weight_of closures_at ts) || (nat_lt 500 (weight_of selects_at ts) || nat_lt 2000000 (weight_of nodes_at ts)))
    (lt-ltb 16000 (weight_of thing_rules ts) (omega (arith, h, among_weight thing_rules before is))))

-- too many nodes
over_nodes : (is : List Item) → 2000000 < weight_of nodes_at (counted_among is) → IsOver is
over_nodes is h = λ before.
    let ts = counted_among (before ++ is) in
    either (are_large is) (are_over (before ++ is))
    (either (nat_lt 16000 (weight_of thing_rules ts)) (nat_lt 16000 (weight_of closures_at ts) || (nat_lt 500 (weight_of selects_at ts) || nat_lt 2000000 (weight_of nodes_at ts)))
    (either (nat_lt 16000 (weight_of closures_at ts)) (nat_lt 500 (weight_of selects_at ts) || nat_lt 2000000 (weight_of nodes_at ts))
    (either (nat_lt 500 (weight_of selects_at ts)) (nat_lt 2000000 (weight_of nodes_at ts))
    (lt-ltb 2000000 (weight_of nodes_at ts) (omega (arith, h, among_weight nodes_at before is))))))

one_is_over : (n q : ℕ) → 2500000 < n + 50 * q → (10000 < q) ⊎ (2000000 < n)
one_is_over n q h = here (nat_lt 10000 q) refl
  where
    few : q ≤ 10000 → 2000000 < n
    few le = omega (arith, le, h)

    here : (b : Bool) → nat_lt 10000 q ≡ b → (10000 < q) ⊎ (2000000 < n)
    here true e = inl (grind (arith, nat_tests, e))
    here false e = inr (few (grind (arith, nat_tests, e)))

-- too much weight
pub over_load : (is : List Item) → 2500000 < weight_of load (counted_among is) → IsOver is
over_load is h = here (one_is_over (weight_of nodes_at ts) (weight_of queries_at ts) (omega (arith, h, load_split ts)))
  where
    ts : List Thing
    ts = counted_among is

    here : (10000 < weight_of queries_at ts) ⊎ (2000000 < weight_of nodes_at ts) → IsOver is
    here (inl k) = over_queries is k
    here (inr k) = over_nodes is k

-- ---- rules of several heads

rule_load : (set : Bool) (ps : Parts) (b : Body) → weight_of load (things (counted_of (signed_rule set ps b))) ≡ parts_load ps + body_load b + 1
rule_load true ps b = omega (arith, join_load (of_parts false ps) (of_body false b))
rule_load false ps b = omega (arith, join_load (of_parts false ps) (of_body false b))

rule_counts : (set : Bool) (ps : Parts) (b : Body) → 1 ≤ weight_of thing_rules (things (counted_of (signed_rule set ps b)))
rule_counts true ps b = omega arith
rule_counts false ps b = omega arith

-- they weigh what their heads do, and the body once for each
rules_load : (line : ℕ) (hs : List (Parts × Bool)) (b : Body) → weight_of load (counted_among (on_line line (head_rules (changes_of hs) b))) ≡ changes_load (changes_of hs) + length hs * body_load b
rules_load line [] b = omega arith
rules_load line (h ∷ hs) b =
    let rest = counted_among (on_line line (head_rules (changes_of hs) b)) in
    omega (arith, rules_load line hs b, rule_load h.1 h.0 b, weight_append load (things (counted_of (signed_rule h.1 h.0 b))) rest, join_load (of_parts false h.0) (of_changes false (changes_of hs)))

rules_counted : (line : ℕ) (hs : List (Parts × Bool)) (b : Body) → length hs ≤ weight_of thing_rules (counted_among (on_line line (head_rules (changes_of hs) b)))
rules_counted line [] b = omega arith
rules_counted line (h ∷ hs) b =
    let rest = counted_among (on_line line (head_rules (changes_of hs) b)) in
    omega (arith, rules_counted line hs b, rule_counts h.1 h.0 b, weight_append thing_rules (things (counted_of (signed_rule h.1 h.0 b))) rest)

pub over_heads : (line : ℕ) (hs : List (Parts × Bool)) (b : Body) → 16000 < length hs → IsOver (on_line line (head_rules (changes_of hs) b))
over_heads line hs b h = over_rules (on_line line (head_rules (changes_of hs) b)) (omega (arith, h, rules_counted line hs b))

pub over_bodies : (line : ℕ) (hs : List (Parts × Bool)) (b : Body) → 2500000 < length hs * body_load b → IsOver (on_line line (head_rules (changes_of hs) b))
over_bodies line hs b h = over_load (on_line line (head_rules (changes_of hs) b)) (omega (arith, h, rules_load line hs b))

over_changes : (line : ℕ) (cs : Changes) (b : Body) → 2500000 < changes_load cs → IsOver (on_line line (head_rules cs b))
over_changes line cs b h =
    subst (λ (ds : Changes). 2500000 < changes_load ds → IsOver (on_line line (head_rules ds b))) (changes_again cs)
    (λ k. over_load (on_line line (head_rules (changes_of (list_of_changes cs)) b)) (omega (arith, k, rules_load line (list_of_changes cs) b))) h

pub over_many_heads : (line : ℕ) (cs : Changes) (b : Body) → HasManyHeads cs → IsOver (on_line line (head_rules cs b))
over_many_heads line cs b (inl h) = over_changes line cs b h
over_many_heads line cs b (inr h) = subst (λ (ds : Changes). IsOver (on_line line (head_rules ds b))) (changes_again cs) (over_heads line (list_of_changes cs) b h)

pub over_declared : (line : ℕ) (ps : Parts) → 2500000 < parts_load ps → IsOver (on_line line (tree.global_variable ps ∷ []))
over_declared line ps h = over_load (on_line line (tree.global_variable ps ∷ [])) (omega (arith, h, weight_append load (things (counted_of (tree.global_variable ps))) []))
