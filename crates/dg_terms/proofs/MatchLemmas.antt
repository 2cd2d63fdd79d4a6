-- How arguments and the head of a rule go on from one pair to the next.
use Rattle.std.proofs.Common.{◌≡◌, ℕ, ◌+◌, ◌<◌, ◌≤◌, List, [], ◌∷◌, ◌++◌, append_assoc, true, false, refl, sym, ap, ◌∙◌, subst, length}
use Rattle.std.specs.Prelude.{map, get_or, drop, Bool, Result, Ok, Err, ◌⊎◌}
use Rattle.std.proofs.Common.{inl, inr}
use Rattle.std.specs.List.{All, zip}
use Rattle.std.proofs.lemmas.List.{drop_more, drop_all}
use Rattle.std.proofs.lemmas.List.Elements.{All-get_or}
use Rattle.std.proofs.lemmas.Bool.{cond-true, cond-false}
use Rattle.dg_meaning.specs.Substitutions.{Substitution}
use Rattle.dg_meaning.specs.inside.Substitutions.{IsSubstitution}
use Rattle.dg_meaning.specs.Unify.{Equations, Unified, agreed, counted, solve}
use Rattle.dg_meaning.specs.inside.Unify.{unify, and_then}
use Rattle.dg_meaning.proofs.Solving.{solve_extends}
use Rattle.dg_meaning.proofs.UnifyLaws.{solve_none, solve_first}
use Rattle.dg_unify.specs.Store.{Store, told, Holds, Kept, OnlyBinds, Does, BrokeOff, Follows}
use Rattle.dg_unify.specs.declared.bindings.Ref.{Ref}
use Rattle.dg_unify.specs.declared.bindings.Full.{Full}
use Rattle.dg_unify.proofs.StoreLemmas.{kept_same, kept_on, kept_told}
use Rattle.dg_unify.proofs.Meets.{more_same}
use Rattle.dg_unify.proofs.Goings.{counted_none, counted_twice, binds_on, broke_later, then_extends}

-- what the pairs from a number on have to become equal to
abbrev pub pairs_from : Store → List Ref → List Ref → ℕ → Equations
pairs_from s args head n = zip (map (told s) (drop n args)) (map (told s) (drop n head))

-- what is left, where the answer of the whole is that of the rest
pub record Matching (old now : Store) (args head : List Ref) (n : ℕ) : Type 0 where
  pub kept : Kept old now
  pub binds : OnlyBinds old.state now.state
  pub made : Substitution
  pub grown : now.state.subst ≡ made ++ old.state.subst
  pub before : ℕ
  pub same : solve old.state.subst (pairs_from old args head 0) ≡ counted before (solve now.state.subst (pairs_from old args head n))

pub matching_starts : (s : Store) (args head : List Ref) → Matching s s args head 0
matching_starts s args head = record { kept = kept_same s; binds = more_same s.state; made = []; grown = refl; before = 0; same = counted_none (solve s.state.subst (pairs_from s args head 0)) }

-- the answer of the rest is that of the whole
matching_ends : (old now new : Store) (args head : List Ref) (n : ℕ) → Matching old now args head n → (r : Result Bool Full) → Follows now new (solve now.state.subst (pairs_from old args head n)) r → Follows old new (solve old.state.subst (pairs_from old args head 0)) r
matching_ends old now new args head n m (Ok d) u = record {
  agrees = u.agrees ∙ sym (ap (λ (x : Unified). x.agrees) m.same);
  subst = u.subst ∙ sym (ap (λ (x : Unified). x.subst) m.same);
  binds = binds_on old.state now.state new.state m.binds u.binds;
}
matching_ends old now new args head n m (Err e) h =
    broke_later old now new m.kept m.binds m.made m.grown (solve now.state.subst (pairs_from old args head n)) (solve old.state.subst (pairs_from old args head 0)) [] (ap (λ (x : Unified). x.subst) m.same) e h

zip_none : {A B : Type 0} (xs : List A) → zip {K = A} {X = B} xs [] ≡ []
zip_none [] = refl
zip_none (x ∷ xs) = refl

-- no pair is left
none_left : (s : Store) (args head : List Ref) (n : ℕ) → (length args ≤ n) ⊎ (length head ≤ n) → pairs_from s args head n ≡ []
none_left s args head n (inl le) = ap (λ (l : List Ref). zip (map (told s) l) (map (told s) (drop n head))) (drop_all n args le)
none_left s args head n (inr le) = ap (λ (l : List Ref). zip (map (told s) (drop n args)) (map (told s) l)) (drop_all n head le) ∙ zip_none (map (told s) (drop n args))

pub matched : (old now : Store) (args head : List Ref) (n : ℕ) → IsSubstitution now.state.subst → Matching old now args head n → (length args ≤ n) ⊎ (length head ≤ n) → Follows old now (solve old.state.subst (pairs_from old args head 0)) (Ok true)
matched old now args head n sound m le =
    let e : solve now.state.subst (pairs_from old args head n) ≡ agreed now.state.subst = ap (solve now.state.subst) (none_left old args head n le) ∙ solve_none now.state.subst sound in
    matching_ends old now now args head n m (Ok true) (rw e (record { agrees = refl; subst = refl; binds = more_same now.state }))

-- the first of the pairs that are left
first_pair : (s : Store) (args head : List Ref) (n : ℕ) (d : Ref) → n < length args → n < length head → pairs_from s args head n ≡ (told s (get_or args n d), told s (get_or head n d)) ∷ pairs_from s args head (n + 1)
first_pair s args head n d la lb =
    ap (λ (l : List Ref). zip (map (told s) l) (map (told s) (drop n head))) (drop_more args n d la)
    ∙ ap (λ (l : List Ref). zip (map (told s) (get_or args n d ∷ drop (n + 1) args)) (map (told s) l)) (drop_more head n d lb)

module _ (old now : Store) (sound : IsSubstitution now.state.subst) (args head : List Ref) (n : ℕ) (d : Ref) (la : n < length args) (lb : n < length head) (ha : All (Holds old) args) (hb : All (Holds old) head) (m : Matching old now args head n) where
  abbrev a : Ref
  a = get_or args n d

  abbrev b : Ref
  b = get_or head n d

  abbrev S : Substitution
  S = now.state.subst

  abbrev one : Unified
  one = unify S (told now a) (told now b)

  abbrev rest : Equations
  rest = pairs_from old args head (n + 1)

  abbrev next : Substitution → Unified
  next S' = solve S' rest

  first_then : solve S (pairs_from old args head n) ≡ and_then one next
  first_then =
      ap (solve S) (first_pair old args head n d la lb)
      ∙ ap (λ v. solve S ((v, told old b) ∷ rest)) (sym (kept_told old now a m.kept (All-get_or (Holds old) args n d la ha)))
      ∙ ap (λ v. solve S ((told now a, v) ∷ rest)) (sym (kept_told old now b m.kept (All-get_or (Holds old) head n d lb hb)))
      ∙ solve_first S (told now a, told now b) rest sound

  pub match_full : (new : Store) (e : Full) → BrokeOff now new one e → Follows old new (solve old.state.subst (pairs_from old args head 0)) (Err e)
  match_full new e h =
      let grew = solve_extends S ((told now a, told now b) ∷ []) sound in
      let w = then_extends one next (λ S' is. solve_extends S' rest (subst IsSubstitution (sym is) grew.sound)) in
      matching_ends old now new args head n m (Err e) (broke_later now now new (kept_same now) (more_same now.state) [] refl one (solve S (pairs_from old args head n)) w.0 (ap (λ (x : Unified). x.subst) first_then ∙ w.1) e h)

  pub match_clash : (new : Store) (answer : Bool) → answer ≡ false → Does now new one answer → Follows old new (solve old.state.subst (pairs_from old args head 0)) (Ok false)
  match_clash new answer is h =
      let e : solve S (pairs_from old args head n) ≡ one = first_then ∙ cond-false one.agrees (counted one.count (next one.subst)) one (sym h.agrees ∙ is) in
      matching_ends old now new args head n m (Ok false) (record {
        agrees = sym is ∙ h.agrees ∙ sym (ap (λ (x : Unified). x.agrees) e);
        subst = h.subst ∙ sym (ap (λ (x : Unified). x.subst) e);
        binds = h.binds;
      })

  pub match_on : (new : Store) (answer : Bool) → answer ≡ true → Kept now new → Does now new one answer → Matching old new args head (n + 1)
  match_on new answer is kept h =
      let same : solve S (pairs_from old args head n) ≡ counted one.count (solve new.state.subst rest) =
      first_then ∙ cond-true one.agrees (counted one.count (next one.subst)) one (sym h.agrees ∙ is) ∙ ap (λ S'. counted one.count (solve S' rest)) (sym h.subst) in
      let grew = solve_extends S ((told now a, told now b) ∷ []) sound in
      record {
        kept = kept_on old now new m.kept kept;
        binds = binds_on old.state now.state new.state m.binds h.binds;
        made = grew.made ++ m.made;
        grown = h.subst ∙ grew.is ∙ ap (λ T. grew.made ++ T) m.grown ∙ sym (append_assoc grew.made m.made old.state.subst);
        before = m.before + one.count;
        same = m.same ∙ ap (counted m.before) same ∙ counted_twice m.before one.count (solve new.state.subst rest);
      }
