-- Which rules are left.
use Rattle.std.proofs.Common.{◌≡◌, ℕ, ◌≤◌, ◌-◌, List, [], ◌∷◌, Option, Some, None, refl, sym, ap, ◌∙◌, arith, length, drop, take}
use Rattle.std.specs.Prelude.{if◌then◌else◌}
use Rattle.std.specs.List.{slice_get}
use Rattle.std.proofs.lemmas.Bool.{cond_both}
use Rattle.std.proofs.lemmas.List.{take-append-drop, length-append, length-drop}
use Rattle.std.proofs.Math.Seq.{drop-append_seam}
use Rattle.dg_meaning.specs.Values.{Unknown, Value}
use Rattle.dg_meaning.specs.Substitutions.{walk}
use Rattle.dg_meaning.specs.Selection.{differs_from}
use Rattle.dg_unify.specs.Store.{Store, Shows, told}
use Rattle.dg_unify.specs.declared.bindings.Ref.{Ref}
use Rattle.dg_unify.specs.declared.bindings.View.{View}
use Rattle.dg_unify.specs.declared.bindings.View.TheVariants as view
use Rattle.dg_unify.proofs.StoreLemmas.{told_is}
use Rattle.dg_mid.specs.declared.code.Key.{Key}
use Rattle.dg_mid.specs.declared.code.Key.TheVariants as key
use Rattle.dg_mid.specs.declared.code.RuleCode.{RuleCode}
use Rattle.dg_mid.specs.declared.code.Code.{Code}
use Rattle.dg_mid.specs.Code.{label_of, excluded, selected, rules_at}
use Rattle.dg_mid.specs.State.{Call}
use Rattle.dg_mid.specs.Step.{first_of, walked}
use Rattle.dg_mid.proofs.RulesLeft.{EndsIn, ends_here, ends_later, no_longer}
use Rattle.dg_machine.specs.Layout.{last_rules}
use Rattle.dg_machine.specs.Refs.{RefsAt}
use Rattle.dg_machine.specs.Passing.{has_label, view_differs, view_excludes, codes_from, IsFirst}

-- no key is an unknown word
unknown_differs : (spelling : List ℕ) (k : Key) → has_label (label_of k) ≡ differs_from (Unknown spelling) (label_of k)
unknown_differs spelling key.Any = refl
unknown_differs spelling (key.Num n) = refl
unknown_differs spelling (key.Word n) = refl
unknown_differs spelling (key.Object n) = refl
unknown_differs spelling key.Nil = refl
unknown_differs spelling key.Pair = refl
unknown_differs spelling (key.Closure n) = refl

-- what a view shows excludes what the value that it shows excludes
view_is : (s : Store) (w : Value) (v : View) (k : Key) → Shows s w v → view_differs v k ≡ excluded (Some w) k
view_is s w (view.Unbound r) k h = ap (λ x. excluded (Some x) k) (sym h.is)
view_is s w (view.Simple x) k h = ap (λ y. excluded (Some y) k) (sym h)
view_is s w (view.Pair head tail) k h = ap (λ y. excluded (Some y) k) (sym h.is)
view_is s w (view.Closure p r) k h = ap (λ y. excluded (Some y) k) (sym h.is)
view_is s w (view.Unknown r) k h = unknown_differs h.spelling k ∙ ap (λ y. excluded (Some y) k) (sym h.is)

first_in : (s : Store) (refs : List Ref) (first : Option View) (vs : List Value) → IsFirst s refs first → RefsAt s refs vs → (k : Key) → view_excludes first k ≡ excluded (walked s.state.subst (slice_get vs 0)) k
first_in s [] None [] is at k = refl
first_in s [] None (v ∷ vs) is at k = absurd at
first_in s [] (Some x) vs is at k = absurd is
first_in s (r ∷ rs) None vs is at k = absurd is
first_in s (r ∷ rs) (Some x) [] is at k = absurd at
first_in s (r ∷ rs) (Some x) (v ∷ vs) is at k = view_is s (walk s.state.subst (told s r)) x k is ∙ ap (λ y. excluded (Some (walk s.state.subst y)) k) (told_is s r v at.0)

first_is : (s : Store) (refs : List Ref) (first : Option View) (c : Call) → IsFirst s refs first → RefsAt s refs c.args → (k : Key) → view_excludes first k ≡ excluded (first_of s.state.subst c) k
first_is s refs first c is at k = first_in s refs first c.args is at k

-- the rules that a first argument leaves are those that are selected
pub codes_selected : (s : Store) (refs : List Ref) (first : Option View) (c : Call) → IsFirst s refs first → RefsAt s refs c.args → (rules : List RuleCode) → codes_from first rules ≡ selected (first_of s.state.subst c) rules
codes_selected s refs first c is at [] = refl
codes_selected s refs first c is at (r ∷ rs) =
    ap (λ b. if b then codes_from first rs else r ∷ rs) (first_is s refs first c is at r.key)
    ∙ ap (λ l. if excluded (first_of s.state.subst c) r.key then l else r ∷ rs) (codes_selected s refs first c is at rs)

-- ## The last rules

pub last_end : (code : Code) (pred left : ℕ) → EndsIn (rules_at code pred) (last_rules code pred left)
last_end code pred left =
    let all = rules_at code pred in
    record { front = take (length all - left) all; is = sym (take-append-drop (length all - left) all) }

-- rules at the end are the last so many
pub record AreLast (code : Code) (pred : ℕ) (rules : List RuleCode) : Type 0 where
  pub there : length rules ≤ length (rules_at code pred)
  pub are : rules ≡ last_rules code pred (length rules)

pub are_last : (code : Code) (pred : ℕ) (rules : List RuleCode) → EndsIn (rules_at code pred) rules → AreLast code pred rules
are_last code pred rules h =
    let all = rules_at code pred in
    let len = ap length h.is ∙ length-append h.front rules in
    let front : length all - length rules ≡ length h.front = omega (arith, len) in
    record { there = omega (arith, len); are = sym (ap (λ n. drop n all) front ∙ ap (drop (length h.front)) h.is ∙ drop-append_seam h.front rules) }

pub passed_end : (first : Option View) (rules : List RuleCode) → EndsIn rules (codes_from first rules)
passed_end first [] = ends_here []
passed_end first (r ∷ rs) = cond_both (view_excludes first r.key) (codes_from first rs) (r ∷ rs) (EndsIn (r ∷ rs)) (λ e. ends_later r rs (codes_from first rs) (passed_end first rs)) (λ e. ends_here (r ∷ rs))

pub passed_few : (first : Option View) (rules : List RuleCode) → length (codes_from first rules) ≤ length rules
passed_few first rules = no_longer rules (codes_from first rules) (passed_end first rules)

pub last_count : (code : Code) (pred left : ℕ) → left ≤ length (rules_at code pred) → length (last_rules code pred left) ≡ left
last_count code pred left le = let all = rules_at code pred in omega (arith, le, length-drop (length all - left) all)
