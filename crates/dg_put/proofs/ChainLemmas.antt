-- Access rules are found by the chains of their marks.
use Rattle.std.proofs.Common.{◌≡◌, ◌+◌, ◌<◌, ◌≤◌, ◌⊎◌, ℕ, zero, suc, List, [], ◌∷◌, ◌||◌, Bool, true, false, Some, length, map, take, drop, get_or, set, replicate, nat_eq, nat_lt, refl, sym, ◌∙◌, ap, subst, inl, inr, lt-ltb, ltb-true, arith}
use Rattle.std.specs.Prelude.{if◌then◌else◌, slice_get}
use Rattle.std.specs.Option.{option_map}
use Rattle.std.specs.Str.{bytes_eq}
use Rattle.std.specs.Cmp.Lexicographic.{bytes_decides}
use Rattle.std.proofs.Math.ListN.{drop_of_length-le}
use Rattle.std.proofs.Math.Nat.{eq-or-lt_of_le}
use Rattle.std.proofs.lemmas.Bool.Decides.{eqb_tells}
use Rattle.std.proofs.lemmas.Grind.{get_or-set_at}
use Rattle.std.proofs.lemmas.List.{drop_more, get_or-map, get_or-replicate, get_or-set_other, length-map, length-replicate, length-set}
use Rattle.dg_base.specs.Heads.{name_of}
use Rattle.dg_base.specs.Tree.{Parts}
use Rattle.dg_put.specs.Put.{rule_for}
use Rattle.dg_put.specs.declared.access.Access.{Access as CodeAccess}
use Rattle.dg_put.specs.inside.Chains.{marks_of, IsNext, AreFirst, AreNext}
use Rattle.dg_put.specs.inside.Marks.{mark_of}
use Rattle.dg_put.specs.inside.Putting.{access_view}
use Rattle.dg_put.specs.inside.Firsts.{first_of, is_among}

-- ---- the chains are made

none : (marks : List ℕ) (m n next : ℕ) → n ≡ length marks → next ≡ n → IsNext marks m n next
none marks m n next many e = record {
  behind = omega (arith, e);
  within = omega (arith, many, e);
  has = λ h. absurd (omega (arith, many, e, h));
  passes = λ k a b same. absurd (omega (arith, e, a, b));
}

pub none_first : (marks firsts : List ℕ) (n : ℕ) → n ≡ length marks → firsts ≡ replicate 509 n → AreFirst marks n firsts
none_first marks firsts n many e = record {
  width = ap length e ∙ length-replicate 509 n;
  next = λ m h. none marks m n (get_or firsts m 0) many (ap (λ (l : List ℕ). get_or l m 0) e ∙ get_or-replicate 509 m n 0 h);
}

pub none_next : (marks nexts : List ℕ) (n : ℕ) → n ≡ length marks → nexts ≡ replicate n n → AreNext marks n nexts
none_next marks nexts n many e = record {
  width = ap length e ∙ length-replicate n n ∙ many;
  next = λ k a h. absurd (omega (arith, many, a, h));
}

here : (marks : List ℕ) (m at next : ℕ) → at < length marks → get_or marks at 0 ≡ m → next ≡ at → IsNext marks m at next
here marks m at next h e is = record {
  behind = omega (arith, is);
  within = omega (arith, h, is);
  has = λ l. ap (λ (k : ℕ). get_or marks k 0) is ∙ e;
  passes = λ k a b same. absurd (omega (arith, is, a, b));
}

passed_one : (marks : List ℕ) (m at k next : ℕ) → IsNext marks m (at + 1) next → (get_or marks at 0 ≡ m → ⊥) → k < next
    → (at ≡ k) ⊎ (at < k) → get_or marks k 0 ≡ m → ⊥
passed_one marks m at k next is other b (inl e) same = other (ap (λ (j : ℕ). get_or marks j 0) e ∙ same)
passed_one marks m at k next is other b (inr a) same = is.passes k (omega (arith, a)) b same

elsewhere : (marks : List ℕ) (m at next : ℕ) → (get_or marks at 0 ≡ m → ⊥) → IsNext marks m (at + 1) next → IsNext marks m at next
elsewhere marks m at next other is = record {
  behind = omega (arith, is.behind);
  within = is.within;
  has = is.has;
  passes = λ k a b same. passed_one marks m at k next is other b (eq-or-lt_of_le a) same;
}

one_first : (marks firsts : List ℕ) (at m n : ℕ) → at < length marks → m < 509 → n < 509 → get_or marks at 0 ≡ m
    → AreFirst marks (at + 1) firsts → ((nat_eq n m ≡ true) × (n ≡ m)) ⊎ ((nat_eq n m ≡ false) × (n ≡ m → ⊥)) → IsNext marks n at (get_or (set firsts m at) n 0)
one_first marks firsts at m n within h l e all (inl same) =
    here marks n at (get_or (set firsts m at) n 0) within (e ∙ sym same.1) (get_or-set_at firsts m n at 0 same.1 (omega (arith, h, all.width)))
one_first marks firsts at m n within h l e all (inr other) =
    let is : get_or (set firsts m at) n 0 ≡ get_or firsts n 0 = get_or-set_other firsts m n at 0 other.1 in
    subst (λ (next : ℕ). IsNext marks n at next) (sym is) (elsewhere marks n at (get_or firsts n 0) (λ f. other.1 (sym f ∙ e)) (all.next n l))

more_first : (marks firsts : List ℕ) (at m : ℕ) → at < length marks → m < 509 → get_or marks at 0 ≡ m → AreFirst marks (at + 1) firsts
    → AreFirst marks at (set firsts m at)
more_first marks firsts at m within h e all = record {
  width = length-set firsts m at ∙ all.width;
  next = λ n l. one_first marks firsts at m n within h l e all (eqb_tells n m);
}

one_next : (marks nexts : List ℕ) (at k next : ℕ) → k < length marks → IsNext marks (get_or marks at 0) (at + 1) next → AreNext marks (at + 1) nexts
    → (at ≡ k) ⊎ (at < k) → IsNext marks (get_or marks k 0) (k + 1) (get_or (set nexts at next) k 0)
one_next marks nexts at k next h is all (inl e) =
    let there : get_or (set nexts at next) k 0 ≡ next = get_or-set_at nexts at k next 0 (sym e) (omega (arith, h, e, all.width)) in
    subst (λ (n : ℕ). IsNext marks (get_or marks k 0) (k + 1) n) (sym there) (subst (λ (j : ℕ). IsNext marks (get_or marks j 0) (j + 1) next) e is)
one_next marks nexts at k next h is all (inr a) =
    let other : k ≡ at → ⊥ = λ e. absurd (omega (arith, a, e)) in
    subst (λ (n : ℕ). IsNext marks (get_or marks k 0) (k + 1) n) (sym (get_or-set_other nexts at k next 0 other)) (all.next k (omega (arith, a)) h)

more_next : (marks nexts : List ℕ) (at next : ℕ) → IsNext marks (get_or marks at 0) (at + 1) next → AreNext marks (at + 1) nexts
    → AreNext marks at (set nexts at next)
more_next marks nexts at next is all = record {
  width = length-set nexts at next ∙ all.width;
  next = λ k a h. one_next marks nexts at k next h is all (eq-or-lt_of_le a);
}

-- the chains with one access rule more in front
pub one_more : (marks firsts nexts : List ℕ) (from at mark next : ℕ) → from ≡ at + 1 → at < length marks → mark < 509
    → get_or marks at 0 ≡ mark → next ≡ get_or firsts mark 0 → AreFirst marks from firsts → AreNext marks from nexts
    → AreFirst marks at (set firsts mark at) × AreNext marks at (set nexts at next)
one_more marks firsts nexts from at mark next e within h is same first linked =
    let begun = subst (λ (n : ℕ). AreFirst marks n firsts) e first in
    let there = subst (λ (n : ℕ). IsNext marks mark (at + 1) n) (sym same) (begun.next mark h) in (
      more_first marks firsts at mark within h is begun,
      more_next marks nexts at next (subst (λ (m : ℕ). IsNext marks m (at + 1) next) (sym is) there) (subst (λ (n : ℕ). AreNext marks n nexts) e linked),
    )

pub marked : (rules : List CodeAccess) (k : ℕ) (r : CodeAccess) → k < length rules → r ≡ get_or rules k r
    → get_or (marks_of rules) k 0 ≡ mark_of r.name.now
marked rules k r h e = get_or-map (λ (x : CodeAccess). mark_of x.name.now) rules k r 0 h ∙ ap (λ (x : CodeAccess). mark_of x.name.now) (sym e)

pub many : (rules : List CodeAccess) → length rules ≡ length (marks_of rules)
many rules = sym (length-map rules (λ (x : CodeAccess). mark_of x.name.now))

-- ---- they are followed

unlike : (a b : List ℕ) (c : Bool) → bytes_eq a b ≡ c → (mark_of a ≡ mark_of b → ⊥) → bytes_eq a b ≡ false
unlike a b true e other = absurd (other (ap mark_of ((bytes_decides a b).0 e)))
unlike a b false e other = e

passed : (rules : List CodeAccess) (name : List ℕ) (a b : ℕ) → a ≤ b → b ≤ length rules
    → ((k : ℕ) → a ≤ k → k < b → get_or (marks_of rules) k 0 ≡ mark_of name → ⊥)
    → a + first_of (map access_view (drop a rules)) name ≡ b + first_of (map access_view (drop b rules)) name
passed rules name zero zero h l others = refl
passed [] name a (suc b) h l others = absurd (omega (arith, l))
passed rules name (suc a) zero h l others = absurd (omega (arith, h))
passed (r ∷ rules) name zero (suc b) h l others =
    let rest = passed rules name zero b (omega arith) (omega (arith, l)) (λ k m n. others (suc k) (omega arith) (omega (arith, n))) in
    let miss = unlike r.name.now name (bytes_eq r.name.now name) refl (others 0 (omega arith) (omega arith)) in
    ap (λ (c : Bool). 0 + (if c then 0 else first_of (map access_view rules) name + 1)) miss ∙ omega (arith, rest)
passed (r ∷ rules) name (suc a) (suc b) h l others =
    let rest = passed rules name a b (omega (arith, h)) (omega (arith, l)) (λ k m n. others (suc k) (omega (arith, m)) (omega (arith, n))) in
    omega (arith, rest)

-- Where the search of a name is: from here on, or nowhere, the first of the name is the first of all.
pub record IsAt (rules : List CodeAccess) (name : List ℕ) (at : ℕ) : Type 0 where
  pub within : at ≤ length rules
  pub has : at < length rules → get_or (marks_of rules) at 0 ≡ mark_of name
  pub same : at + first_of (map access_view (drop at rules)) name ≡ first_of (map access_view rules) name

pub begun : (rules : List CodeAccess) (name : List ℕ) (at : ℕ) → IsNext (marks_of rules) (mark_of name) 0 at → IsAt rules name at
begun rules name at is =
    let within : at ≤ length rules = omega (arith, is.within, many rules) in
    record {
      within = within;
      has = λ h. is.has (omega (arith, h, many rules));
      same = sym (passed rules name 0 at (omega arith) within is.passes) ∙ omega arith;
    }

first_here : (rules : List CodeAccess) (name : List ℕ) (k : ℕ) (r : CodeAccess) (b : Bool) → k < length rules → r ≡ get_or rules k r
    → bytes_eq r.name.now name ≡ b
    → first_of (map access_view (drop k rules)) name ≡ (if b then 0 else first_of (map access_view (drop (k + 1) rules)) name + 1)
first_here rules name k r b h e is =
    let rest = first_of (map access_view (drop (k + 1) rules)) name in
    ap (λ (l : List CodeAccess). first_of (map access_view l) name) (drop_more rules k r h)
    ∙ ap (λ (x : CodeAccess). if bytes_eq x.name.now name then 0 else rest + 1) (sym e)
    ∙ ap (λ (c : Bool). if c then 0 else rest + 1) is

pub met : (rules : List CodeAccess) (name : List ℕ) (at : ℕ) (r : CodeAccess) → IsAt rules name at → at < length rules → r ≡ get_or rules at r
    → bytes_eq r.name.now name ≡ true → at ≡ first_of (map access_view rules) name
met rules name at r is h e named =
    let first = first_here rules name at r true h e named in omega (arith, first, is.same)

pub onward : (rules : List CodeAccess) (name : List ℕ) (at next : ℕ) (r : CodeAccess) → IsAt rules name at → at < length rules
    → r ≡ get_or rules at r → bytes_eq r.name.now name ≡ false → IsNext (marks_of rules) (get_or (marks_of rules) at 0) (at + 1) next → IsAt rules name next
onward rules name at next r is h e other on =
    let first = first_here rules name at r false h e other in
    let within : next ≤ length rules = omega (arith, on.within, many rules) in
    let mark = is.has h in
    let skipped = passed rules name (at + 1) next on.behind within (λ k a b f. on.passes k a b (f ∙ sym mark)) in
    record {
      within = within;
      has = λ l. on.has (omega (arith, l, many rules)) ∙ mark;
      same = omega (arith, skipped, first, is.same);
    }

pub ended : (rules : List CodeAccess) (name : List ℕ) (at : ℕ) → IsAt rules name at → length rules ≤ at
    → at ≡ first_of (map access_view rules) name
ended rules name at is h =
    let none = ap (λ (l : List CodeAccess). first_of (map access_view l) name) (drop_of_length-le rules {i = at} h) in omega (arith, none, is.same)

-- ---- the first of a name

after_one : (i : ℕ) → suc i ≡ i + 1
after_one i = omega arith

pub found : (rules : List CodeAccess) (ps : Parts)
    → option_map access_view (slice_get rules (first_of (map access_view rules) (name_of ps))) ≡ rule_for (map access_view rules) ps
found [] ps = refl
found (r ∷ rules) ps =
    let n = first_of (map access_view rules) (name_of ps) in
    elim (bytes_eq r.name.now (name_of ps))
    as (λ (b : Bool). option_map access_view (slice_get (r ∷ rules) (if b then 0 else n + 1))
    ≡ (if b then Some (access_view r) else rule_for (map access_view rules) ps)) [
      | true ↦ refl
      | false ↦ ap (λ (k : ℕ). option_map access_view (slice_get (r ∷ rules) k)) (sym (after_one n)) ∙ found rules ps
    ]

same_test : (a b : Bool) → (a ≡ true → b ≡ true) → (b ≡ true → a ≡ true) → a ≡ b
same_test true true f g = refl
same_test true false f g = sym (f refl)
same_test false true f g = g refl
same_test false false f g = refl

none_before : (n : ℕ) → false ≡ nat_lt n 0
none_before n = same_test false (nat_lt n 0) (λ e. cc) (λ e. absurd (omega (arith, ltb-true n 0 e)))

one_up : (n k : ℕ) → nat_lt n k ≡ nat_lt (n + 1) (suc k)
one_up n k =
    same_test (nat_lt n k) (nat_lt (n + 1) (suc k)) (λ e. lt-ltb (n + 1) (suc k) (omega (arith, ltb-true n k e)))
    (λ e. lt-ltb n k (omega (arith, ltb-true (n + 1) (suc k) e)))

-- one of the first so many has this name where the first of it is one of them
pub among_first : (rules : List CodeAccess) (k : ℕ) (name : List ℕ) → k ≤ length rules
    → is_among (map access_view (take k rules)) name ≡ nat_lt (first_of (map access_view rules) name) k
among_first [] zero name h = refl
among_first [] (suc k) name h = absurd (omega (arith, h))
among_first (r ∷ rules) zero name h = none_before (first_of (map access_view (r ∷ rules)) name)
among_first (r ∷ rules) (suc k) name h =
    let n = first_of (map access_view rules) name in
    elim (bytes_eq r.name.now name) as (λ (b : Bool). (b || is_among (map access_view (take k rules)) name) ≡ nat_lt (if b then 0 else n + 1) (suc k)) [
      | true ↦ sym (lt-ltb 0 (suc k) (omega arith))
      | false ↦ among_first rules k name (omega (arith, h)) ∙ one_up n k
    ]
