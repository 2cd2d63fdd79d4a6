-- What is told of items one by one is what they mention together, and the first item at which a count passes.
use Rattle.std.proofs.Common.{◌≡◌, ◌+◌, ◌≤◌, ◌||◌, ℕ, List, [], ◌∷◌, ◌++◌, Bool, true, false, Option, Some, None, length, nat_lt, refl, sym, ◌∙◌, ap, subst, append_assoc, arith}
use Rattle.std.specs.Prelude.{if◌then◌else◌, Ok, Err}
use Rattle.std.proofs.lemmas.Grind.{common_steps}
use Rattle.dg_base.specs.Faults.{IsFault}
use Rattle.dg_base.specs.Tree.{Item}
use Rattle.dg_base.specs.Mentions.{Thing, things_in, mentioned, names_in, weight_of}
use Rattle.dg_base.specs.Passing.{first_passing, passing}
use Rattle.dg_base.specs.declared.refusal.Kind.TheVariants.{TooMany}
use Rattle.dg_base.specs.declared.refusal.ReadFault.{ReadFault}
use Rattle.dg_base.specs.declared.refusal.ReadFault.TheVariants.{Refused}
use Rattle.dg_base.proofs.MentionLemmas.{names_append, weight_append, mentioned_push}
use Rattle.dg_base.proofs.PassingLemmas as one
use Rattle.dg_names.specs.Named.{Named, predicate_in, object_in, thing_words, names_of}
use Rattle.dg_names.specs.Counts.{is_rule, count_rules, has_excess, closures_at, selects_at, are_many_names, are_many, IsNamed}
use Rattle.dg_names.specs.Scopes.{with_names}
use Rattle.dg_names.specs.State.{Told, told, behind, untold, told_on, told_names, has_many}
use Rattle.dg_names.proofs.FirstLemmas.{firsts_of, with_append}

abbrev make : List (List ℕ) → List (List ℕ) → List (List ℕ) → ℕ → ℕ → ℕ → Told
make p o w c s r = record { preds = p; objects = o; words = w; closures = c; selects = s; rules = r }

same_told : (p p' o o' w w' : List (List ℕ)) (c c' s s' r r' : ℕ) → p ≡ p' → o ≡ o' → w ≡ w' → c ≡ c' → s ≡ s' → r ≡ r' → make p o w c s r ≡ make p' o' w' c' s' r'
same_told p p' o o' w w' c c' s s' r r' pe oe we ce se re =
    ap (λ (x : List (List ℕ)). make x o w c s r) pe
    ∙ ap (λ (x : List (List ℕ)). make p' x w c s r) oe
    ∙ ap (λ (x : List (List ℕ)). make p' o' x c s r) we
    ∙ ap (λ (x : ℕ). make p' o' w' x s r) ce
    ∙ ap (λ (x : ℕ). make p' o' w' c' x r) se
    ∙ ap (λ (x : ℕ). make p' o' w' c' s' x) re

names_on : (f : Thing → List (List ℕ)) (ks : List (List ℕ)) (a b : List Thing) → with_names ks (names_in f (a ++ b)) ≡ with_names (with_names ks (names_in f a)) (names_in f b)
names_on f ks a b = ap (with_names ks) (names_append f a b) ∙ with_append ks (names_in f a) (names_in f b)

weight_on : (f : Thing → ℕ) (k : ℕ) (a b : List Thing) → k + weight_of f (a ++ b) ≡ (k + weight_of f a) + weight_of f b
weight_on f k a b = omega (arith, weight_append f a b)

pub told_append : (a b : List Thing) (t : Told) → told (a ++ b) t ≡ told b (told a t)
told_append a b t = same_told _ _ _ _ _ _ _ _ _ _ _ _
    (names_on predicate_in t.preds a b) (names_on object_in t.objects a b) (names_on thing_words t.words a b)
    (weight_on closures_at t.closures a b) (weight_on selects_at t.selects a b) refl

-- ---- all items at once

swapped : (a b : Bool) (x : ℕ) → (if a then (if b then x + 1 else x) + 1 else (if b then x + 1 else x)) ≡ (if b then (if a then x + 1 else x) + 1 else (if a then x + 1 else x))
swapped true true x = refl
swapped true false x = refl
swapped false true x = refl
swapped false false x = refl

rules_push : (before : List Item) (i : Item) → count_rules (before ++ i ∷ []) ≡ (if is_rule i.said then count_rules before + 1 else count_rules before)
rules_push [] i = refl
rules_push (j ∷ before) i =
    ap (λ (n : ℕ). if is_rule j.said then n + 1 else n) (rules_push before i)
    ∙ swapped (is_rule j.said) (is_rule i.said) (count_rules before)

-- what is told of these items
abbrev counted : List Item → Told
counted is = record (told (mentioned is) untold) { rules = count_rules is }

pub counted_push : (before : List Item) (i : Item) → counted (before ++ i ∷ []) ≡ behind (counted before) i.said
counted_push before i =
    let all = mentioned_push before i in
    same_told _ _ _ _ _ _ _ _ _ _ _ _
    (ap (λ (l : List Thing). with_names [] (names_in predicate_in l)) all ∙ names_on predicate_in [] (mentioned before) (things_in i.said))
    (ap (λ (l : List Thing). with_names [] (names_in object_in l)) all ∙ names_on object_in [] (mentioned before) (things_in i.said))
    (ap (λ (l : List Thing). with_names [] (names_in thing_words l)) all ∙ names_on thing_words [] (mentioned before) (things_in i.said))
    (ap (λ (l : List Thing). 0 + weight_of closures_at l) all ∙ weight_on closures_at 0 (mentioned before) (things_in i.said))
    (ap (λ (l : List Thing). 0 + weight_of selects_at l) all ∙ weight_on selects_at 0 (mentioned before) (things_in i.said))
    (rules_push before i)

pub told_all : (before is : List Item) → told_on (counted before) is ≡ counted (before ++ is)
told_all before [] = ap counted (sym (nil_behind before))
  where
    nil_behind : (xs : List Item) → xs ++ [] ≡ xs
    nil_behind [] = refl
    nil_behind (x ∷ xs) = ap (λ (l : List Item). x ∷ l) (nil_behind xs)
told_all before (i ∷ is) =
    ap (λ (t : Told). told_on t is) (sym (counted_push before i))
    ∙ told_all (before ++ i ∷ []) is
    ∙ ap counted (append_assoc before (i ∷ []) is)

named_all : (is : List Item) → told_names (counted is) ≡ names_of is
named_all is =
    ap (λ (x : List (List ℕ)). named x (counted is).objects (counted is).words) (firsts_of (names_in predicate_in (mentioned is)))
    ∙ ap (λ (x : List (List ℕ)). named (names_of is).preds x (counted is).words) (firsts_of (names_in object_in (mentioned is)))
    ∙ ap (λ (x : List (List ℕ)). named (names_of is).preds (names_of is).objects x) (firsts_of (names_in thing_words (mentioned is)))
  where
    named : List (List ℕ) → List (List ℕ) → List (List ℕ) → Named
    named p o w = record { preds = p; objects = o; words = w }

many_same : (is : List Item) → has_many (counted is) ≡ are_many is
many_same is =
    ap (λ (d : Named). are_many_names d || (nat_lt 16000 (count_rules is) || (nat_lt 16000 (0 + weight_of closures_at (mentioned is)) || nat_lt 500 (0 + weight_of selects_at (mentioned is))))) (named_all is)
    ∙ ap (λ (k : ℕ). are_many_names (names_of is) || (nat_lt 16000 (count_rules is) || (nat_lt 16000 k || nat_lt 500 (0 + weight_of selects_at (mentioned is))))) (omega arith)
    ∙ ap (λ (k : ℕ). are_many_names (names_of is) || (nat_lt 16000 (count_rules is) || (nat_lt 16000 (weight_of closures_at (mentioned is)) || nat_lt 500 k))) (omega arith)

-- the first of these items at which a count passes
abbrev pub passing_in : Told → List Item → Option Item
passing_in = passing has_excess behind has_many

pub passing_is_first : (is : List Item) → passing_in untold is ≡ first_passing has_excess are_many [] is
passing_is_first is = one.passing_is_first has_excess behind has_many counted are_many counted_push many_same [] is

-- ---- one item more

step_at : (x : Bool) (t t' : Told) (i : Item) (rest : List Item) (over : Bool) → over ≡ (x || has_many (behind t i.said)) → (over ≡ false → t' ≡ behind t i.said) → (if x || has_many (behind t i.said) then Some i else passing_in (behind t i.said) rest) ≡ (if over then Some i else passing_in t' rest)
step_at x t t' i rest true is same = ap (λ (b : Bool). if b then Some i else passing_in (behind t i.said) rest) (sym is)
step_at x t t' i rest false is same =
    ap (λ (b : Bool). if b then Some i else passing_in (behind t i.said) rest) (sym is)
    ∙ ap (λ (u : Told). passing_in u rest) (sym (same refl))

pub stepped : (t t' : Told) (i : Item) (rest : List Item) (over : Bool) → over ≡ (has_excess i.said || has_many (behind t i.said)) → (over ≡ false → t' ≡ behind t i.said) → passing_in t (i ∷ rest) ≡ (if over then Some i else passing_in t' rest)
stepped t t' i rest over is same = step_at (has_excess i.said) t t' i rest over is same

right_false : (a b : Bool) → (a || b) ≡ false → b ≡ false
right_false true b e = absurd (let no : true ≡ false = e in cc)
right_false false b e = e

left_false : (a b : Bool) → (a || b) ≡ false → a ≡ false
left_false true b e = e
left_false false b e = refl

few_if : (n : ℕ) → nat_lt 4000 n ≡ false → n ≤ 4000
few_if n e = grind (arith, common_steps, e)

-- few predicates where no count passes
pub few_preds : (x : Bool) (t t' : Told) → (x || has_many t) ≡ false → t' ≡ t → length t'.preds ≤ 4000
few_preds x t t' none is =
    subst (λ (u : Told). length u.preds ≤ 4000) (sym is)
    (few_if (length t.preds)
    (right_false (nat_lt 4000 (length t.words)) (nat_lt 4000 (length t.preds))
    (right_false (nat_lt 1000 (length t.objects)) (nat_lt 4000 (length t.words) || nat_lt 4000 (length t.preds))
    (left_false _ _ (right_false x (has_many t) none)))))

-- ---- answers

pub refused_at : (is : List Item) (i : Item) (f : ReadFault) → f ≡ Refused (record { kind = TooMany; line = i.line }) → passing_in untold is ≡ Some i → IsFault (λ r. IsNamed is (Err r)) f
refused_at is i f e first = subst (IsFault (λ r. IsNamed is (Err r))) (sym e) (i, sym (passing_is_first is) ∙ first, refl)

pub all_named : (is : List Item) (t : Told) → passing_in untold is ≡ None → t ≡ told_on untold is → IsNamed is (Ok (told_names t))
all_named is t none all = (sym (passing_is_first is) ∙ none, ap told_names (all ∙ told_all [] is) ∙ named_all is)
