-- What is refused item by item, and what holds where nothing is refused.
use Rattle.std.proofs.Common.{◌≡◌, inl, inr, ◌||◌, ◌≤◌, ℕ, List, [], ◌∷◌, ◌++◌, Bool, true, false, Option, Some, None, refl, sym, ◌∙◌, ap, subst, arith, append_assoc, append-nil}
use Rattle.std.specs.Prelude.{Result, Ok, Err, nat_lt, if◌then◌else◌}
use Rattle.std.specs.List.{All, list_any}
use Rattle.std.proofs.lemmas.Bool.{or_parts}
use Rattle.std.proofs.lemmas.Bool.Decides.{nat_tests}
use Rattle.std.proofs.lemmas.List.Elements.{All-nil, All-cons, All-append}
use Rattle.dg_base.specs.Tree as tree
use Rattle.dg_base.specs.Tree.{Parts, Body, Changes, Said, Item}
use Rattle.dg_base.specs.Mentions.{Thing, Mentions, of_said, things, things_in, mentioned, weight_of}
use Rattle.dg_base.specs.declared.refusal.Kind.{Kind}
use Rattle.dg_base.specs.declared.refusal.Kind.TheVariants.{AccessLoop, BadNow, TooMany}
use Rattle.dg_base.specs.declared.refusal.Refusal.{Refusal}
use Rattle.dg_scopes.specs.Counts.{thing_rules, nodes_at, counted_of, counted_among, are_large, are_over}
use Rattle.dg_scopes.specs.Few.{HasFewVariables}
use Rattle.dg_plain.specs.Items.{plain_items}
use Rattle.dg_scopes.proofs.FewLemmas.{small_few}
use Rattle.dg_access.specs.Answer.{cause_of, refused_or, first_refused, IsPut, IsExpanded, IsRewritten}
use Rattle.dg_items.specs.Expanded.{access_rules, is_misplaced, are_bad, signed_rule, head_rules, stay, put_said, on_line, put_item, put_items}
use Rattle.dg_put.specs.Put.{Access}
use Rattle.dg_names.specs.Counts.{closures_at, selects_at}

-- ---- one item more

pub went_on : (rules : List Access) (before new : List Item) (i : Item) (is : List Item) → new ≡ put_item rules i → None ≡ cause_of rules before new → first_refused rules (before ++ new) is ≡ first_refused rules before (i ∷ is)
went_on rules before new i is e none =
    ap (λ (l : List Item). first_refused rules (before ++ l) is) e
    ∙ sym (ap (λ (k : Option Kind). refused_or i.line k (first_refused rules (before ++ put_item rules i) is)) (ap (cause_of rules before) (sym e) ∙ sym none))

pub stopped : (rules : List Access) (before new : List Item) (i : Item) (is : List Item) (kind : Kind) → new ≡ put_item rules i → Some kind ≡ cause_of rules before new → first_refused rules before (i ∷ is) ≡ Some (record { kind = kind; line = i.line })
stopped rules before new i is kind e some =
    ap (λ (k : Option Kind). refused_or i.line k (first_refused rules (before ++ put_item rules i) is)) (ap (cause_of rules before) (sym e) ∙ sym some)

pub put_on : (rules : List Access) (before new : List Item) (i : Item) (is : List Item) → new ≡ put_item rules i → (before ++ new) ++ put_items rules is ≡ before ++ put_items rules (i ∷ is)
put_on rules before new i is e =
    append_assoc before new (put_items rules is) ∙ ap (λ (l : List Item). before ++ (l ++ put_items rules is)) e

pub cause_first : (rules : List Access) (before new : List Item) (over : Bool) → over ≡ (are_large new || are_over (before ++ new)) → over ≡ true → Some TooMany ≡ cause_of rules before new
cause_first rules before new over e f = sym (ap (λ (b : Bool). if b then Some TooMany else if are_bad rules new then Some BadNow else None) (sym e ∙ f))

pub cause_then : (rules : List Access) (before new : List Item) (over bad : Bool) → over ≡ (are_large new || are_over (before ++ new)) → over ≡ false → bad ≡ are_bad rules new → (if bad then Some BadNow else None) ≡ cause_of rules before new
cause_then rules before new over bad e f g =
    ap (λ (b : Bool). if b then Some BadNow else None) g
    ∙ sym (ap (λ (b : Bool). if b then Some TooMany else if are_bad rules new then Some BadNow else None) (sym e ∙ f))

-- ---- where nothing is refused

not_refused : (rules : List Access) (before : List Item) (i : Item) (is : List Item) → first_refused rules before (i ∷ is) ≡ None → (cause_of rules before (put_item rules i) ≡ None) × (first_refused rules (before ++ put_item rules i) is ≡ None)
not_refused rules before i is h = here (cause_of rules before (put_item rules i)) refl h
  where
    here : (k : Option Kind) → cause_of rules before (put_item rules i) ≡ k → refused_or i.line k (first_refused rules (before ++ put_item rules i) is) ≡ None → (cause_of rules before (put_item rules i) ≡ None) × (first_refused rules (before ++ put_item rules i) is ≡ None)
    here (Some kind) e f = cc
    here None e f = (e, f)

no_cause : (rules : List Access) (before new : List Item) → cause_of rules before new ≡ None → (are_large new ≡ false) × (are_bad rules new ≡ false) × (are_over (before ++ new) ≡ false)
no_cause rules before new h =
    let both = tests (are_large new || are_over (before ++ new)) (are_bad rules new) h in
    let counts = or_parts (are_large new) (are_over (before ++ new)) both.0 in
    (counts.0, both.1, counts.1)
  where
    tests : (a b : Bool) → (if a then Some TooMany else if b then Some BadNow else None) ≡ None → (a ≡ false) × (b ≡ false)
    tests true b e = cc
    tests false true e = cc
    tests false false e = (refl, refl)

items_few : (rules : List Access) (before is : List Item) → first_refused rules before is ≡ None → All (λ (i : Item). HasFewVariables i.said) (put_items rules is)
items_few rules before [] h = All-nil (λ (i : Item). HasFewVariables i.said)
items_few rules before (i ∷ is) h =
    let both = not_refused rules before i is h in
    All-append (λ (j : Item). HasFewVariables j.said) (put_item rules i) (put_items rules is)
    (small_few (put_item rules i) (no_cause rules before (put_item rules i) both.0).0) (items_few rules (before ++ put_item rules i) is both.1)

mentioned_append : (is js : List Item) → mentioned (is ++ js) ≡ mentioned is ++ mentioned js
mentioned_append [] js = refl
mentioned_append (i ∷ is) js = ap (λ (l : List Thing). things_in i.said ++ l) (mentioned_append is js) ∙ sym (append_assoc (things_in i.said) (mentioned is) (mentioned js))

-- what holds of all that items mention, and that others do
pub all_mentioned : (P : Thing → Type 0) (is js : List Item) → All P (mentioned is) → All P (mentioned js) → All P (mentioned (is ++ js))
all_mentioned P is js h k = subst (All P) (sym (mentioned_append is js)) (All-append P (mentioned is) (mentioned js) h k)

all_not : (f : Thing → Bool) (ts : List Thing) → list_any f ts ≡ false → All (λ (t : Thing). f t ≡ false) ts
all_not f [] h = All-nil (λ (t : Thing). f t ≡ false)
all_not f (t ∷ ts) h = let both = or_parts (f t) (list_any f ts) h in All-cons (λ (u : Thing). f u ≡ false) t ts both.0 (all_not f ts both.1)

none_bad : (rules : List Access) (is : List Item) → are_bad rules is ≡ false → All (λ (t : Thing). is_misplaced rules t ≡ false) (mentioned is)
none_bad rules [] h = All-nil (λ (t : Thing). is_misplaced rules t ≡ false)
none_bad rules (i ∷ is) h =
    let both = or_parts (list_any (is_misplaced rules) (things_in i.said)) (are_bad rules is) h in
    All-append (λ (t : Thing). is_misplaced rules t ≡ false) (things_in i.said) (mentioned is) (all_not (is_misplaced rules) (things_in i.said) both.0) (none_bad rules is both.1)

items_open : (rules : List Access) (before is : List Item) → first_refused rules before is ≡ None → All (λ (t : Thing). is_misplaced rules t ≡ false) (mentioned (put_items rules is))
items_open rules before [] h = All-nil (λ (t : Thing). is_misplaced rules t ≡ false)
items_open rules before (i ∷ is) h =
    let both = not_refused rules before i is h in
    all_mentioned (λ (t : Thing). is_misplaced rules t ≡ false) (put_item rules i) (put_items rules is)
    (none_bad rules (put_item rules i) (no_cause rules before (put_item rules i) both.0).1) (items_open rules (before ++ put_item rules i) is both.1)

-- no count of what becomes of all items passes its number
items_counted : (rules : List Access) (before is : List Item) → are_over before ≡ false → first_refused rules before is ≡ None → are_over (before ++ put_items rules is) ≡ false
items_counted rules before [] e h = subst (λ (l : List Item). are_over l ≡ false) (sym (append-nil before)) e
items_counted rules before (i ∷ is) e h =
    let both = not_refused rules before i is h in
    subst (λ (l : List Item). are_over l ≡ false) (append_assoc before (put_item rules i) (put_items rules is))
    (items_counted rules (before ++ put_item rules i) is (no_cause rules before (put_item rules i) both.0).2 both.1)

-- nothing of these items is left uncounted: no access rule is among them
abbrev IsCounted : Said → Type 0
IsCounted said = counted_of said ≡ of_said said

signed_counted : (set : Bool) (ps : Parts) (b : Body) → IsCounted (signed_rule set ps b)
signed_counted true ps b = refl
signed_counted false ps b = refl

one_counted : (line : ℕ) (said : Said) (is : List Item) → IsCounted said → counted_among is ≡ mentioned is → counted_among (record { line = line; said = said } ∷ is) ≡ mentioned (record { line = line; said = said } ∷ is)
one_counted line said is e h = ap (λ (ms : Mentions). things ms ++ counted_among is) e ∙ ap (λ (ts : List Thing). things_in said ++ ts) h

rules_counted : (line : ℕ) (heads : Changes) (b : Body) (is : List Item) → counted_among is ≡ mentioned is → counted_among (on_line line (head_rules heads b) ++ is) ≡ mentioned (on_line line (head_rules heads b) ++ is)
rules_counted line tree.no_changes b is h = h
rules_counted line (tree.change ps set heads) b is h = one_counted line (signed_rule set ps b) (on_line line (head_rules heads b) ++ is) (signed_counted set ps b) (rules_counted line heads b is h)

said_counted : (rules : List Access) (line : ℕ) (said : Said) (is : List Item) → counted_among is ≡ mentioned is → counted_among (on_line line (put_said rules said) ++ is) ≡ mentioned (on_line line (put_said rules said) ++ is)
said_counted rules line (tree.topic n) is h = one_counted line (tree.topic n) is refl h
said_counted rules line (tree.rule ps b) is h = rules_counted line _ _ is h
said_counted rules line (tree.deny ps b) is h = rules_counted line _ _ is h
said_counted rules line (tree.access ps b) is h = h
said_counted rules line (tree.global_variable ps) is h = one_counted line (tree.global_variable (stay ps)) is refl h

all_counted : (rules : List Access) (is : List Item) → counted_among (put_items rules is) ≡ mentioned (put_items rules is)
all_counted rules [] = refl
all_counted rules (i ∷ is) = said_counted rules i.line i.said (put_items rules is) (all_counted rules is)

few_closures : (is : List Item) → are_over is ≡ false → weight_of closures_at (counted_among is) ≤ 16000
few_closures is e =
    let ts = counted_among is in
    let behind = or_parts (nat_lt 16000 (weight_of thing_rules ts)) (nat_lt 16000 (weight_of closures_at ts) || (nat_lt 500 (weight_of selects_at ts) || nat_lt 2000000 (weight_of nodes_at ts))) e in
    let few = or_parts (nat_lt 16000 (weight_of closures_at ts)) (nat_lt 500 (weight_of selects_at ts) || nat_lt 2000000 (weight_of nodes_at ts)) behind.1 in
    grind (arith, nat_tests, few.0)

pub rewritten_closed : (is new : List Item) → IsRewritten is (Ok new) → weight_of closures_at (mentioned new) ≤ 16000
rewritten_closed is new h =
    let plain = plain_items None is in
    let rules = access_rules plain in
    subst (λ (l : List Item). weight_of closures_at (mentioned l) ≤ 16000) (sym h.1.1)
    (subst (λ (ts : List Thing). weight_of closures_at ts ≤ 16000) (all_counted rules plain) (few_closures (put_items rules plain) (items_counted rules [] plain refl h.1.0)))

pub rewritten_few : (is new : List Item) → IsRewritten is (Ok new) → All (λ (i : Item). HasFewVariables i.said) new
rewritten_few is new h =
    let plain = plain_items None is in
    subst (λ (l : List Item). All (λ (i : Item). HasFewVariables i.said) l) (sym h.1.1) (items_few (access_rules plain) [] plain h.1.0)

pub rewritten_open : (is new : List Item) → IsRewritten is (Ok new) → All (λ (t : Thing). is_misplaced (access_rules (plain_items None is)) t ≡ false) (mentioned new)
rewritten_open is new h =
    let plain = plain_items None is in
    subst (λ (l : List Item). All (λ (t : Thing). is_misplaced (access_rules plain) t ≡ false) (mentioned l)) (sym h.1.1) (items_open (access_rules plain) [] plain h.1.0)

-- ---- one answer

put_one : (rules : List Access) (is : List Item) (a b : Result (List Item) Refusal) → IsPut rules is a → IsPut rules is b → a ≡ b
put_one rules is (Ok a) (Ok b) h k = ap Ok (h.1 ∙ sym k.1)
put_one rules is (Ok a) (Err s) h k = let no = sym h.0 ∙ k in cc
put_one rules is (Err r) (Ok b) h k = let no = sym k.0 ∙ h in cc
put_one rules is (Err r) (Err s) h k = let same = sym h ∙ k in cc

expanded_one : (is : List Item) (a b : Result (List Item) Refusal) → IsExpanded is a → IsExpanded is b → a ≡ b
expanded_one is (Ok a) (Ok b) h k = put_one (access_rules is) is (Ok a) (Ok b) h.1 k.1
expanded_one is (Ok a) (Err s) h (inl k) = let no = sym h.0 ∙ k.1 in cc
expanded_one is (Ok a) (Err s) h (inr k) = put_one (access_rules is) is (Ok a) (Err s) h.1 k.1
expanded_one is (Err r) (Ok b) (inl h) k = let no = sym k.0 ∙ h.1 in cc
expanded_one is (Err r) (Ok b) (inr h) k = put_one (access_rules is) is (Err r) (Ok b) h.1 k.1
expanded_one is (Err r) (Err s) (inl h) (inl k) =
    let item : h.0 ≡ k.0 = let same = sym h.1 ∙ k.1 in cc in
    ap Err (h.2 ∙ ap (λ (i : Item). record { kind = AccessLoop; line = i.line }) item ∙ sym k.2)
expanded_one is (Err r) (Err s) (inl h) (inr k) = let no = sym k.0 ∙ h.1 in cc
expanded_one is (Err r) (Err s) (inr h) (inl k) = let no = sym h.0 ∙ k.1 in cc
expanded_one is (Err r) (Err s) (inr h) (inr k) = put_one (access_rules is) is (Err r) (Err s) h.1 k.1

pub rewritten_one : (is : List Item) (a b : Result (List Item) Refusal) → IsRewritten is a → IsRewritten is b → a ≡ b
rewritten_one is = expanded_one (plain_items None is)
