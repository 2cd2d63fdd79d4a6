-- What is known to be equal stays equal, what was made equal is, and what steps lead to.
use Rattle.std.proofs.Common.{◌≡◌, ℕ, List, [], ◌∷◌, ◌++◌, true, refl, sym, ap, ◌∙◌, subst, Option, Some, None, nat_eq}
use Rattle.std.specs.List.{All}
use Rattle.std.specs.Prelude.{Ok, Bool, cond}
use Rattle.std.proofs.lemmas.Bool.{eqb-true, cond_both}
use Rattle.std.proofs.lemmas.List.Elements.{All-weaker}
use Rattle.dg_meaning.specs.Values.{Value}
use Rattle.dg_meaning.specs.Substitutions.{Substitution}
use Rattle.dg_meaning.specs.inside.Substitutions.{IsSubstitution}
use Rattle.dg_meaning.specs.inside.Unify.{unify}
use Rattle.dg_meaning.proofs.Solving.{solve_extends}
use Rattle.dg_meaning.proofs.UnifyLaws.{resolved_later}
use Rattle.dg_meaning.proofs.Unifiers.{makes_equal}
use Rattle.dg_meaning.proofs.EqualValues.{equal_values}
use Rattle.dg_unify.specs.Store.{Store, told, Holds, Kept, Does}
use Rattle.dg_unify.specs.inside.Turns.{TurnsInto, AreLeft}
use Rattle.dg_unify.specs.inside.Known.{IsEqual, is_equal_pair, AreEqual}
use Rattle.dg_unify.specs.declared.bindings.Ref.{Ref}
use Rattle.dg_unify.specs.declared.known.Known.{Known}
use Rattle.dg_unify.specs.declared.parts.Parts.{Parts}
use Rattle.dg_unify.specs.declared.unifying.Met.TheVariants as met
use Rattle.dg_unify.proofs.StoreLemmas.{kept_holds, kept_told}
use Rattle.dg_unify.proofs.Meets.{more_same}

module _ (old new : Store) (kept : Kept old new) (made : Substitution) (is : new.state.subst ≡ made ++ old.state.subst) where
  equal_kept : (a b : Ref) → IsEqual old a b → IsEqual new a b
  equal_kept a b h = record {
    a_in = kept_holds old new a kept h.a_in;
    b_in = kept_holds old new b kept h.b_in;
    same = rw (is, kept_told old new a kept h.a_in, kept_told old new b kept h.b_in) (resolved_later made old.state.subst (told old a) (told old b) h.same);
  }

  pair_kept : (p : Option (Ref × Ref)) → is_equal_pair old p → is_equal_pair new p
  pair_kept None h = tt
  pair_kept (Some p) h = equal_kept p.0 p.1 h

  pairs_kept : (ps : List (Option (Ref × Ref))) → All (is_equal_pair old) ps → All (is_equal_pair new) ps
  pairs_kept ps h = All-weaker (is_equal_pair old) (is_equal_pair new) pair_kept ps h

-- behind a unification, whether it agreed or not
pub equal_behind : (old new : Store) → IsSubstitution old.state.subst → (known : Known) (v w : Value) (answer : Bool) → Kept old new → Does old new (unify old.state.subst v w) answer → AreEqual old known → AreEqual new known
equal_behind old new sound known v w answer kept h =
    let grew = solve_extends old.state.subst ((v, w) ∷ []) sound in
    λ were. record {
      pairs = pairs_kept old new kept grew.made (h.subst ∙ grew.is) known.pairs were.pairs;
      nexts = λ n r e. equal_kept old new kept grew.made (h.subst ∙ grew.is) (record { 0 = n }) r (were.nexts n r e);
    }

-- what was made equal
pub equal_made : (old new : Store) → IsSubstitution old.state.subst → (a b : Ref) → Holds old a → Holds old b → (answer : Bool) → answer ≡ true → Kept old new → Does old new (unify old.state.subst (told old a) (told old b)) answer → IsEqual new a b
equal_made old new sound a b ha hb answer holds kept h = record {
  a_in = kept_holds old new a kept ha;
  b_in = kept_holds old new b kept hb;
  same = rw (h.subst, kept_told old new a kept ha, kept_told old new b kept hb) (makes_equal old.state.subst (told old a) (told old b) sound (sym h.agrees ∙ holds));
}

-- two values that are equal already are done with
pub equal_done : (s : Store) → IsSubstitution s.state.subst → (a b : Ref) → IsEqual s a b → Does s s (unify s.state.subst (told s a) (told s b)) true
equal_done s sound a b h =
    let k = equal_values s.state.subst (told s a) (told s b) sound h.same in
    record { agrees = sym k.0; subst = sym k.1; binds = more_same s.state }

pub left_done : (old new : Store) → IsSubstitution old.state.subst → (a b : Ref) (p q : Parts) → AreLeft old new a b p q → IsEqual old a b → TurnsInto old new a b (Ok (met.Done true))
left_done old new sound a b p q left h = subst (λ (s : Store). Does old s (unify old.state.subst (told old a) (told old b)) true) (sym left.same) (equal_done old sound a b h)

-- ## Steps from value to value

same_ref : (a b : Ref) → a.0 ≡ b.0 → a ≡ b
same_ref a b h = ap (λ (k : ℕ). let x : Ref = record { 0 = k } in x) h

pub equal_self : (s : Store) (a b : Ref) → Holds s a → a.0 ≡ b.0 → IsEqual s a b
equal_self s a b h e = subst (λ (r : Ref). IsEqual s a r) (same_ref a b e) (record { a_in = h; b_in = h; same = refl })

pub equal_on : (s : Store) (a b c : Ref) → IsEqual s a b → IsEqual s b c → IsEqual s a c
equal_on s a b c h k = record { a_in = h.a_in; b_in = k.b_in; same = h.same ∙ k.same }

-- one more leads on
pub leads_on : (s : Store) (from to : Ref) (old new : ℕ → Option Ref) → ((n : ℕ) (r : Ref) → old n ≡ Some r → IsEqual s (record { 0 = n }) r) → IsEqual s from to → ((n : ℕ) → new n ≡ cond (nat_eq from.0 n) (Some to) (old n)) → (n : ℕ) (r : Ref) → new n ≡ Some r → IsEqual s (record { 0 = n }) r
leads_on s from to old new were equal is n r e =
    cond_both (nat_eq from.0 n) (Some to) (old n) (λ o. o ≡ Some r → IsEqual s (record { 0 = n }) r)
    (λ here k.
    let same : to ≡ r = cc in
    subst (λ (x : Ref). IsEqual s x r) (same_ref from (record { 0 = n }) (eqb-true from.0 n here)) (subst (IsEqual s from) same equal))
    (λ other k. were n r k) (sym (is n) ∙ e)
