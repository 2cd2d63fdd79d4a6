-- The body of a closure is entered in a store.
use Rattle.std.proofs.Common.{◌≡◌, ℕ, zero, suc, ◌+◌, ◌-◌, ◌<◌, ◌≤◌, List, [], ◌∷◌, ◌++◌, Bool, refl, sym, ap, ◌∙◌, subst, arith, length, map, take, drop, append_assoc, add-one, Some, None}
use Rattle.std.specs.Prelude.{Result as Answer, Ok, Err, MatchResult, get_or}
use Rattle.std.specs.List.{All, zip}
use Rattle.std.proofs.lemmas.List.{map-append, take_all}
use Rattle.std.proofs.lemmas.List.Elements.{All-append}
use Rattle.dg_meaning.specs.Values.{Value, Values, NoMore, More, Var}
use Rattle.dg_meaning.specs.Copies.{values_of}
use Rattle.dg_meaning.specs.Unify.{Unified, solve}
use Rattle.dg_meaning.specs.Moves.{new_vars}
use Rattle.dg_unify.specs.Store.{State, Store, count_of, told, Holds, IsTold, IsClosureAt, Kept, Charged, HeapFull, Does, UnifyFull, Follows, part_at, IsPart, trail_of}
use Rattle.dg_unify.proofs.StoreLemmas.{kept_same, kept_on, all_hold, all_told}
use Rattle.dg_unify.specs.declared.bindings.Ref.{Ref}
use Rattle.dg_unify.specs.declared.bindings.Full.{Full}
use Rattle.dg_unify.specs.declared.bindings.Full.TheVariants as full
use Rattle.dg_interp.specs.inside.Bodies.{body_vars, parameters, matched_body, EntersBody, BodyFull}
use Rattle.dg_terms.specs.Terms.{Overflows, Appended, MadeVars}
use Rattle.dg_terms.proofs.TermLemmas.{appended_on}
use Rattle.dg_interp.proofs.Entering.{vars_are_made, vars_hold}

-- ## The parameter

at_seam : (xs : List Value) (v d : Value) (ys : List Value) → get_or (xs ++ v ∷ ys) (length xs) d ≡ v
at_seam [] v d ys = refl
at_seam (x ∷ xs) v d ys = at_seam xs v d ys

-- at most one argument meets the first of some new variables
one_parameter : (captured : List Value) (own next : ℕ) (args : List Value) → length args ≤ 1 → 1 ≤ own → zip args (new_vars own next) ≡ zip args (parameters (length captured) (captured ++ new_vars own next) args)
one_parameter captured own next [] few some = refl
one_parameter captured zero next (a ∷ args) few some = absurd (omega (arith, some))
one_parameter captured (suc own) next (a ∷ []) few some = ap (λ v. (a, v) ∷ []) (sym (at_seam captured (Var next) _ (new_vars own (suc next))))
one_parameter captured (suc own) next (a ∷ b ∷ args) few some = absurd (omega (arith, few))

-- ## The store

module _ (captured : List Value) (own : ℕ) (args refs mid behind vars : List Ref) (s s1 s2 : Store) (few : length args ≤ 1) (some : 1 ≤ own) (hold : All (Holds s) args)
    (charged : Charged 6 s s1) (k1 : Kept s s1) (taken : Appended s1 captured refs mid) (made : MadeVars own s1 s2 mid behind) (k2 : Kept s1 s2) (vars_are : vars ≡ take (length behind - length mid) (drop (length mid) behind)) where
  abbrev all : State
  all = record s.state { vars = s.state.vars + own; heap = s.state.heap + 6 + own }

  state_is : s2.state ≡ all
  state_is = made.state ∙ ap (λ (t : State). record t { vars = t.vars + own; heap = t.heap + own }) charged.state

  kept : Kept s s2
  kept = kept_on s s1 s2 k1 k2

  pub args_held : All (Holds s2) args
  args_held = all_hold s s2 args kept hold

  pub vars_held : All (Holds s2) vars
  vars_held = vars_hold own mid behind vars s1 s2 made vars_are

  next_is : new_vars own s1.state.vars ≡ new_vars own s.state.vars
  next_is = ap (λ (t : State). new_vars own t.vars) charged.state

  vars_told : map (told s2) vars ≡ new_vars own s.state.vars
  vars_told = ap (map (told s2)) (vars_are_made own mid behind vars s1 s2 made vars_are) ∙ made.appended.values ∙ next_is

  meant : solve s2.state.subst (zip (map (told s2) args) (map (told s2) vars)) ≡ matched_body captured own (map (told s) args) s
  meant =
      ap (λ (t : State). solve t.subst (zip (map (told s2) args) (map (told s2) vars))) state_is
      ∙ ap (λ vs. solve s.state.subst (zip vs (map (told s2) vars))) (all_told s s2 args kept hold)
      ∙ ap (λ vs. solve s.state.subst (zip (map (told s) args) vs)) vars_told
      ∙ ap (solve s.state.subst) (one_parameter captured own s.state.vars (map (told s) args) (omega (arith, few, many args)) some)
    where
      many : (rs : List Ref) → length (map (told s) rs) ≡ length rs
      many [] = refl
      many (r ∷ rs) = ap suc (many rs)

  vars_behind : (s3 : Store) → Kept s2 s3 → Appended s3 (body_vars captured own s) refs behind
  vars_behind s3 k3 =
      let k13 = kept_on s1 s2 s3 k2 k3 in
      let first = all_told s1 s3 taken.made k13 taken.hold ∙ taken.values in
      let others = all_told s2 s3 made.appended.made k3 made.appended.hold ∙ made.appended.values ∙ next_is in
      record {
        made = taken.made ++ made.appended.made;
        is = made.appended.is ∙ ap (λ l. l ++ made.appended.made) taken.is ∙ append_assoc refs taken.made made.appended.made;
        hold = All-append (Holds s3) taken.made made.appended.made (all_hold s1 s3 taken.made k13 taken.hold) (all_hold s2 s3 made.appended.made k3 made.appended.hold);
        values = map-append (told s3) taken.made made.appended.made ∙ ap (λ vs. vs ++ map (told s3) made.appended.made) first ∙ ap (λ vs. captured ++ vs) others;
      }

  body_entered : (s3 : Store) (found : Bool) → Kept s2 s3 → Does s2 s3 (solve s2.state.subst (zip (map (told s2) args) (map (told s2) vars))) found → EntersBody captured own (map (told s) args) s s3 refs behind found
  body_entered s3 found k3 does = record {
    appended = vars_behind s3 k3;
    agrees = does.agrees ∙ ap (λ (u : Unified). u.agrees) meant;
    subst = does.subst ∙ ap (λ (u : Unified). u.subst) meant;
    vars = does.binds.vars ∙ ap (λ (t : State). t.vars) state_is;
    since = does.binds.since ∙ ap (λ (t : State). t.since) state_is;
    heap = does.binds.heap ∙ ap (λ (t : State). t.heap) state_is;
    trail =
        ap (λ (t : State). s3.state.trail + trail_of t.since t.subst) (sym state_is)
        ∙ does.binds.trail
        ∙ ap (λ (t : State). t.trail + trail_of t.since s3.state.subst) state_is
        ∙ ap (λ S. s.state.trail + trail_of s.state.since S) (does.subst ∙ ap (λ (u : Unified). u.subst) meant);
  }

  body_broke : (e : Full) → UnifyFull s2 (solve s2.state.subst (zip (map (told s2) args) (map (told s2) vars))) e → BodyFull captured own (map (told s) args) s e
  body_broke full.Heap h = absurd h
  body_broke full.Trail h = subst (λ (u : Unified). s.trail_limit + trail_of s.state.since s.state.subst < s.state.trail + trail_of s.state.since u.subst) meant
      (subst (λ (t : State). s.trail_limit + trail_of t.since t.subst < t.trail + trail_of t.since (solve s2.state.subst (zip (map (told s2) args) (map (told s2) vars))).subst) state_is
      (subst (λ n. n + trail_of s2.state.since s2.state.subst < s2.state.trail + trail_of s2.state.since (solve s2.state.subst (zip (map (told s2) args) (map (told s2) vars))).subst) kept.trail_limit h))
  body_broke full.OutOfMemory h = tt

  pub body_does : (s3 : Store) (r : Answer Bool Full) → Kept s2 s3 → Follows s2 s3 (solve s2.state.subst (zip (map (told s2) args) (map (told s2) vars))) r → MatchResult r (λ found. EntersBody captured own (map (told s) args) s s3 refs behind found) (BodyFull captured own (map (told s) args) s)
  body_does s3 (Ok found) k3 h = body_entered s3 found k3 h
  body_does s3 (Err e) k3 h = body_broke e h.cause

-- it takes more than is left
pub charge_full : (captured : List Value) (own : ℕ) (args : List Value) (s s1 : Store) (e : Full) → HeapFull 6 s s1 e → BodyFull captured own args s e
charge_full captured own args s s1 full.Heap h = omega (arith, h.0)
charge_full captured own args s s1 full.Trail h = absurd h
charge_full captured own args s s1 full.OutOfMemory h = tt

pub own_full : (captured : List Value) (own : ℕ) (args : List Value) (s s1 : Store) (e : Full) → Charged 6 s s1 → Kept s s1 → Overflows own s1 e → BodyFull captured own args s e
own_full captured own args s s1 full.Heap charged k h = omega (arith, h, k.heap_limit, ap (λ (t : State). t.heap) charged.state)
own_full captured own args s s1 full.Trail charged k h = absurd h
own_full captured own args s s1 full.OutOfMemory charged k h = tt

pub no_memory : (captured : List Value) (own : ℕ) (args : List Value) (s : Store) (e : Full) → e ≡ full.OutOfMemory → BodyFull captured own args s e
no_memory captured own args s e is = subst (BodyFull captured own args s) (sym is) tt

-- ## What is captured

-- a captured value, and that those before it and it are one more
pub record IsNext (n : ℕ) (vs : Values) : Type 0 where
  pub v : Value
  pub is : part_at n vs ≡ Some v
  pub below : n < length (values_of vs)
  pub more : take (suc n) (values_of vs) ≡ take n (values_of vs) ++ v ∷ []

pub next_part : (n : ℕ) (vs : Values) → IsTold (part_at n vs) → IsNext n vs
next_part n NoMore h = absurd h
next_part zero (More v vs) h = record { v = v; is = refl; below = omega arith; more = refl }
next_part (suc n) (More v vs) h =
    let next = next_part n vs h in
    record { v = next.v; is = next.is; below = omega (arith, next.below); more = ap (λ l. v ∷ l) next.more }

pub no_part : (n : ℕ) (vs : Values) → part_at n vs ≡ None → length (values_of vs) ≤ n
no_part n NoMore h = omega arith
no_part zero (More v vs) h = absurd (let no : Some v ≡ None = h in cc)
no_part (suc n) (More v vs) h = omega (arith, no_part n vs h)

pub parts_counted : (vs : Values) → length (values_of vs) ≡ count_of vs
parts_counted NoMore = refl
parts_counted (More v vs) = ap suc (parts_counted vs)

pub captured_on : (s : Store) (n : ℕ) (vs : Values) (xs ys zs : List Ref) (r : Ref) → IsPart s (part_at n vs) (Some r) → Appended s (take n (values_of vs)) xs ys → zs ≡ ys ++ r ∷ [] → Appended s (take (n + 1) (values_of vs)) xs zs
captured_on s n vs xs ys zs r part a e =
    let next = next_part n vs part.0 in
    appended_on s s (take n (values_of vs)) (take (n + 1) (values_of vs)) next.v xs ys zs r (kept_same s) a (part.1 ∙ next.is) e (ap (λ k. take k (values_of vs)) (add-one n) ∙ next.more)

pub captured_all : (s : Store) (n : ℕ) (vs : Values) (xs ys : List Ref) → IsPart s (part_at n vs) None → Appended s (take n (values_of vs)) xs ys → Appended s (values_of vs) xs ys
captured_all s n vs xs ys none a = subst (λ l. Appended s l xs ys) (take_all n (values_of vs) (no_part n vs none)) a

pub closure_kept : (s t : Store) (r : Ref) (place : ℕ) (parts : Values) → Kept s t → IsClosureAt s r place parts → IsClosureAt t r place parts
closure_kept s t r place parts k is = record { value = k.values r _ is.value; few = is.few }
