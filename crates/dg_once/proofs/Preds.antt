-- The rules of all predicates hold one term at most of each closure that stands directly in a rule.
use Rattle.std.proofs.Common.{◌≡◌, ◌+◌, ◌≤◌, ℕ, List, [], ◌∷◌, ◌++◌, ◌||◌, Bool, true, false, map, length, length-append, refl, sym, ◌∙◌, ap, arith}
use Rattle.std.specs.Prelude.{not, filter, if◌then◌else◌}
use Rattle.std.specs.Str.{bytes_eq}
use Rattle.std.specs.Cmp.Lexicographic.{bytes_decides}
use Rattle.dg_base.specs.Heads.{name_of}
use Rattle.dg_base.specs.Tree as tree
use Rattle.dg_base.specs.Tree.{Said, Item}
use Rattle.dg_base.specs.declared.program.Rule.{Rule}
use Rattle.dg_base.specs.declared.program.Pred.{Pred}
use Rattle.dg_base.specs.declared.program.ClosureBody.{ClosureBody}
use Rattle.dg_names.specs.Named.{firsts}
use Rattle.dg_core.specs.Core.{Before, rule_of, failing, rules_of_item, closures_of, behind_item, rules_from, none_before, pred_of, rows_in, behind_rows, rows_from}
use Rattle.dg_core.specs.Goals.{Scope}
use Rattle.dg_core.specs.Places.{is_among}
use Rattle.dg_core.proofs.BodyLemmas.{many}
use Rattle.dg_lower.specs.Lowered.{without_starts}
use Rattle.dg_fits.specs.Once.{in_rules, in_preds, in_closures}
use Rattle.dg_once.proofs.Rows.{rule_few, rule_rows_few, failing_behind}

-- ## Names

-- how often a name stands among others
abbrev pub times : List ℕ → List (List ℕ) → ℕ
times name [] = 0
times name (m ∷ ms) = (if bytes_eq name m then 1 else 0) + times name ms

fewer : (P : List ℕ → Bool) (name : List ℕ) (ms : List (List ℕ)) → times name (filter P ms) ≤ times name ms
fewer P name [] = omega arith
fewer P name (m ∷ ms) = by_test (P m) (fewer P name ms)
  where
    by_test : (b : Bool) → times name (filter P ms) ≤ times name ms → times name (if b then m ∷ filter P ms else filter P ms) ≤ times name (m ∷ ms)
    by_test true le = omega arith
    by_test false le = omega arith

-- a name that is left out doesn't stand there
left_out : (name n : List ℕ) (ms : List (List ℕ)) → bytes_eq name n ≡ true → times name (filter (λ (m : List ℕ). not (bytes_eq m n)) ms) ≡ 0
left_out name n [] e = refl
left_out name n (m ∷ ms) e = by_test (bytes_eq m n) refl (left_out name n ms e)
  where
    other : (b : Bool) → bytes_eq name m ≡ b → bytes_eq m n ≡ false → ◌≡◌ {A = ℕ} (if b then 1 else 0) 0
    other true q k = absurd (let same : true ≡ false = sym e ∙ ap (λ (x : List ℕ). bytes_eq x n) ((bytes_decides name m).0 q) ∙ k in cc)
    other false q k = refl

    by_test : (b : Bool) → bytes_eq m n ≡ b → times name (filter (λ (k : List ℕ). not (bytes_eq k n)) ms) ≡ 0 →
        times name (if not b then m ∷ filter (λ (k : List ℕ). not (bytes_eq k n)) ms else filter (λ (k : List ℕ). not (bytes_eq k n)) ms) ≡ 0
    by_test true q rest = rest
    by_test false q rest = omega (arith, rest, other (bytes_eq name m) refl q)

pub once : (name : List ℕ) (ns : List (List ℕ)) → times name (firsts ns) ≤ 1
once name [] = omega arith
once name (n ∷ ns) = by_test (bytes_eq name n) refl (once name ns)
  where
    by_test : (b : Bool) → bytes_eq name n ≡ b → times name (firsts ns) ≤ 1 → (if b then 1 else 0) + times name (filter (λ (m : List ℕ). not (bytes_eq m n)) (firsts ns)) ≤ 1
    by_test true q few = omega (arith, left_out name n (firsts ns) q)
    by_test false q few = omega (arith, fewer (λ (m : List ℕ). not (bytes_eq m n)) name (firsts ns), few)

times_none : (name : List ℕ) (ms : List (List ℕ)) → is_among name ms ≡ false → times name ms ≡ 0
times_none name [] e = refl
times_none name (m ∷ ms) e = by_test (bytes_eq name m) e (times_none name ms)
  where
    by_test : (b : Bool) → (b || is_among name ms) ≡ false → (is_among name ms ≡ false → times name ms ≡ 0) → (if b then 1 else 0) + times name ms ≡ 0
    by_test true k rest = cc
    by_test false k rest = omega (arith, rest k)

times_last : (name n : List ℕ) (ms : List (List ℕ)) → times name (ms ++ n ∷ []) ≡ times name ms + (if bytes_eq name n then 1 else 0)
times_last name n [] = omega arith
times_last name n (m ∷ ms) = omega (arith, times_last name n ms)

-- a name that isn't there stands once where it is put behind the others
pub once_more : (name n : List ℕ) (ms : List (List ℕ)) → is_among n ms ≡ false → times name ms ≤ 1 → times name (ms ++ n ∷ []) ≤ 1
once_more name n ms e few = by_test (bytes_eq name n) refl
  where
    by_test : (b : Bool) → bytes_eq name n ≡ b → times name (ms ++ n ∷ []) ≤ 1
    by_test true q =
        let same = (bytes_decides name n).0 q in
        let none = times_none name ms (ap (λ (m : List ℕ). is_among m ms) same ∙ e) in
        let more : times name (ms ++ n ∷ []) ≡ times name ms + 1 = times_last name n ms ∙ ap (λ (b : Bool). times name ms + (if b then 1 else 0)) q in
        omega (arith, none, more)
    by_test false q =
        let more : times name (ms ++ n ∷ []) ≡ times name ms + 0 = times_last name n ms ∙ ap (λ (b : Bool). times name ms + (if b then 1 else 0)) q in
        omega (arith, few, more)

-- ## Rules

rules_append : (xs ys : List Rule) → in_rules (xs ++ ys) ≡ in_rules xs + in_rules ys
rules_append [] ys = omega arith
rules_append (x ∷ xs) ys = omega (arith, rules_append xs ys)

-- what an item gives to all predicates, and what items do
abbrev of_item : Scope → Before → List (List ℕ) → Said → ℕ
of_item around n [] said = 0
of_item around n (m ∷ ms) said = in_rules (rules_of_item around n m said) + of_item around n ms said

abbrev of_items : Scope → Before → List (List ℕ) → List Item → ℕ
of_items around n [] items = 0
of_items around n (m ∷ ms) items = in_rules (rules_from around n m items) + of_items around n ms items

none_given : (around : Scope) (n : Before) (ms : List (List ℕ)) → of_items around n ms [] ≡ 0
none_given around n [] = refl
none_given around n (m ∷ ms) = omega (arith, none_given around n ms)

parted : (around : Scope) (n : Before) (ms : List (List ℕ)) (i : Item) (is : List Item) → of_items around n ms (i ∷ is) ≡ of_item around n ms i.said + of_items around (behind_item n i.said) ms is
parted around n [] i is = refl
parted around n (m ∷ ms) i is = omega (arith, rules_append (rules_of_item around n m i.said) (rules_from around (behind_item n i.said) m is), parted around n ms i is)

nothing_given : (around : Scope) (n : Before) (ms : List (List ℕ)) (said : Said) → ((m : List ℕ) → rules_of_item around n m said ≡ []) → of_item around n ms said ≡ 0
nothing_given around n [] said none = refl
nothing_given around n (m ∷ ms) said none = omega (arith, ap in_rules (none m), nothing_given around n ms said none)

-- where a name stands so often, a rule with it counts so often at most
given_few : (around : Scope) (n : Before) (name : List ℕ) (r : Rule) (said : Said) → ((m : List ℕ) → rules_of_item around n m said ≡ (if bytes_eq name m then r ∷ [] else [])) → (ms : List (List ℕ)) →
    (times name ms ≡ 0 → of_item around n ms said ≡ 0) × (times name ms ≤ 1 → of_item around n ms said ≤ in_rules (r ∷ []))
given_few around n name r said is [] = ((λ e. refl), (λ le. omega arith))
given_few around n name r said is (m ∷ ms) = by_test (bytes_eq name m) refl (given_few around n name r said is ms)
  where
    by_test : (b : Bool) → bytes_eq name m ≡ b → (times name ms ≡ 0 → of_item around n ms said ≡ 0) × (times name ms ≤ 1 → of_item around n ms said ≤ in_rules (r ∷ [])) →
        ((if b then 1 else 0) + times name ms ≡ 0 → of_item around n (m ∷ ms) said ≡ 0) × ((if b then 1 else 0) + times name ms ≤ 1 → of_item around n (m ∷ ms) said ≤ in_rules (r ∷ []))
    by_test true q rest =
        let here = ap in_rules (is m ∙ ap (λ (b : Bool). if b then r ∷ [] else []) q) in
        ((λ e. absurd (omega (arith, e))), (λ le. let none = rest.0 (omega (arith, le)) in omega (arith, here, none)))
    by_test false q rest =
        let here = ap in_rules (is m ∙ ap (λ (b : Bool). if b then r ∷ [] else []) q) in
        ((λ e. let none = rest.0 (omega (arith, e)) in omega (arith, here, none)), (λ le. let few = rest.1 (omega (arith, le)) in omega (arith, here, few)))

item_few : (around : Scope) (n : Before) (ms : List (List ℕ)) (said : Said) → ((name : List ℕ) → times name ms ≤ 1) → of_item around n ms said ≤ many (closures_of said)
item_few around n ms (tree.rule ps b) one =
    let few = (given_few around n (name_of ps) (rule_of around n ps b []) (tree.rule ps b) (λ m. refl) ms).1 (one (name_of ps)) in
    omega (arith, few, rule_few around n ps b [] refl)
item_few around n ms (tree.deny ps b) one =
    let few = (given_few around n (name_of ps) (rule_of around n ps b failing) (tree.deny ps b) (λ m. refl) ms).1 (one (name_of ps)) in
    omega (arith, few, rule_few around n ps b failing failing_behind)
item_few around n ms (tree.topic w) one = omega (arith, nothing_given around n ms (tree.topic w) (λ m. refl))
item_few around n ms (tree.access ps b) one = omega (arith, nothing_given around n ms (tree.access ps b) (λ m. refl))
item_few around n ms (tree.global_variable ps) one = omega (arith, nothing_given around n ms (tree.global_variable ps) (λ m. refl))

-- ## All

-- how many closures stand directly in items
abbrev pub standing : List Item → ℕ
standing [] = 0
standing (i ∷ is) = many (closures_of i.said) + standing is

items_few : (around : Scope) (n : Before) (ms : List (List ℕ)) (items : List Item) → ((name : List ℕ) → times name ms ≤ 1) → of_items around n ms items ≤ standing items
items_few around n ms [] one = omega (arith, none_given around n ms)
items_few around n ms (i ∷ is) one = omega (arith, parted around n ms i is, item_few around n ms i.said one, items_few around (behind_item n i.said) ms is one)

preds_counted : (around : Scope) (items : List Item) (ms : List (List ℕ)) → in_preds (map (pred_of around items) ms) ≡ of_items around none_before ms items
preds_counted around items [] = refl
preds_counted around items (m ∷ ms) = omega (arith, preds_counted around items ms)

without_few : (placed : List (List ℕ)) (ps : List Pred) → in_preds (map (without_starts placed) ps) ≤ in_preds ps
without_few placed [] = omega arith
without_few placed (p ∷ ps) = by_test (is_among p.name placed) (without_few placed ps)
  where
    by_test : (b : Bool) → in_preds (map (without_starts placed) ps) ≤ in_preds ps → in_rules (if b then [] else p.rules) + in_preds (map (without_starts placed) ps) ≤ in_preds (p ∷ ps)
    by_test true le = omega arith
    by_test false le = omega arith

pub preds_few : (around : Scope) (items : List Item) (placed ms : List (List ℕ)) → ((name : List ℕ) → times name ms ≤ 1) → in_preds (map (without_starts placed) (map (pred_of around items) ms)) ≤ standing items
preds_few around items placed ms one =
    omega (
      arith,
      without_few placed (map (pred_of around items) ms),
      preds_counted around items ms,
      items_few around none_before ms items one,
    )

-- ## Closures

closures_append : (xs ys : List ClosureBody) → in_closures (xs ++ ys) ≡ in_closures xs + in_closures ys
closures_append [] ys = omega arith
closures_append (x ∷ xs) ys = omega (arith, closures_append xs ys)

item_rows_few : (around : Scope) (n : Before) (said : Said) → in_closures (rows_in around n said) + many (closures_of said) ≤ length (rows_in around n said)
item_rows_few around n (tree.rule ps b) = rule_rows_few around n.closures n.selects ps b
item_rows_few around n (tree.deny ps b) = rule_rows_few around n.closures n.selects ps b
item_rows_few around n (tree.topic w) = omega arith
item_rows_few around n (tree.access ps b) = omega arith
item_rows_few around n (tree.global_variable ps) = omega arith

pub rows_few : (around : Scope) (n : Before) (items : List Item) → in_closures (rows_from around n items) + standing items ≤ length (rows_from around n items)
rows_few around n [] = omega arith
rows_few around n (i ∷ is) =
    let here = rows_in around n i.said in
    let rest = rows_from around (behind_rows n i.said) is in
    omega (arith, closures_append here rest, length-append here rest, item_rows_few around n i.said, rows_few around (behind_rows n i.said) is)
