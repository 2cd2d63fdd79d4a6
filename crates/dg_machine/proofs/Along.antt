-- How two values go on from two pairs to what is behind them.
use Rattle.std.proofs.Common.{◌≡◌, ℕ, ◌+◌, [], ◌∷◌, ◌++◌, append_assoc, true, false, Some, refl, sym, ap, ◌∙◌, subst}
use Rattle.std.specs.Prelude.{Bool, Result, Ok, Err}
use Rattle.std.proofs.lemmas.Bool.{cond-true, cond-false}
use Rattle.dg_meaning.specs.Values.{Value, pair}
use Rattle.dg_meaning.specs.Substitutions.{Substitution, walk}
use Rattle.dg_meaning.specs.inside.Substitutions.{IsSubstitution}
use Rattle.dg_meaning.specs.Unify.{Unified, cost, counted}
use Rattle.dg_meaning.specs.inside.Unify.{unify, and_then}
use Rattle.dg_meaning.proofs.Solving.{solve_extends}
use Rattle.dg_meaning.proofs.UnifyLaws.{unify_pair}
use Rattle.dg_unify.specs.Store.{Store, told, ShowsPair, Kept, OnlyBinds, Does, BrokeOff, Follows}
use Rattle.dg_unify.specs.declared.bindings.Ref.{Ref}
use Rattle.dg_unify.specs.declared.bindings.Full.{Full}
use Rattle.dg_unify.proofs.StoreLemmas.{kept_same, told_is}
use Rattle.dg_unify.proofs.Meets.{more_same}
use Rattle.dg_unify.proofs.Goings.{counted_none, counted_twice, binds_on, broke_later, then_extends}

-- two values are left of two others: what comes of these is what comes of those
pub record Along (old now : Store) (v w x y : Value) : Type 0 where
  pub binds : OnlyBinds old.state now.state
  pub made : Substitution
  pub grown : now.state.subst ≡ made ++ old.state.subst
  pub before : ℕ
  pub same : unify old.state.subst v w ≡ counted before (unify now.state.subst x y)

pub along_starts : (s : Store) (v w : Value) → Along s s v w v w
along_starts s v w = record { binds = more_same s.state; made = []; grown = refl; before = 0; same = counted_none (unify s.state.subst v w) }

pub along_ends : (old now new : Store) (v w x y : Value) → Kept old now → Along old now v w x y → (r : Result Bool Full) → Follows now new (unify now.state.subst x y) r → Follows old new (unify old.state.subst v w) r
along_ends old now new v w x y kept m (Ok d) u = record {
  agrees = u.agrees ∙ sym (ap (λ (k : Unified). k.agrees) m.same);
  subst = u.subst ∙ sym (ap (λ (k : Unified). k.subst) m.same);
  binds = binds_on old.state now.state new.state m.binds u.binds;
}
along_ends old now new v w x y kept m (Err e) h =
    broke_later old now new kept m.binds m.made m.grown (unify now.state.subst x y) (unify old.state.subst v w) [] (ap (λ (k : Unified). k.subst) m.same) e h

walks_pair : (s : Store) (w : Value) (h t : Ref) → ShowsPair s w h t → w ≡ pair (told s h) (told s t)
walks_pair s w h t sh = sh.is ∙ ap (λ v. pair v sh.tail) (sym (told_is s h sh.head sh.head_is)) ∙ ap (λ v. pair (told s h) v) (sym (told_is s t sh.tail sh.tail_is))

module _ (old now : Store) (kept : Kept old now) (sound : IsSubstitution now.state.subst) (v w x y : Value) (a b a' b' : Ref) (m : Along old now v w x y) (left : ShowsPair now (walk now.state.subst x) a b) (right : ShowsPair now (walk now.state.subst y) a' b') where
  abbrev S : Substitution
  S = now.state.subst

  abbrev h : Value
  h = told now a

  abbrev h' : Value
  h' = told now a'

  abbrev t : Value
  t = told now b

  abbrev t' : Value
  t' = told now b'

  abbrev one : Unified
  one = unify S h h'

  abbrev next : Substitution → Unified
  next S' = unify S' t t'

  -- the heads, and then the tails
  first_then : unify S x y ≡ counted (cost S x y) (and_then one next)
  first_then = unify_pair S x y h t h' t' sound (walks_pair now (walk S x) a b left) (walks_pair now (walk S y) a' b' right)

  pub along_full : (new : Store) (e : Full) → BrokeOff now new one e → Follows old new (unify old.state.subst v w) (Err e)
  along_full new e b =
      let grew = solve_extends S ((h, h') ∷ []) sound in
      let k = then_extends one next (λ S' is. solve_extends S' ((t, t') ∷ []) (subst IsSubstitution (sym is) grew.sound)) in
      along_ends old now new v w x y kept m (Err e) (broke_later now now new (kept_same now) (more_same now.state) [] refl one (unify S x y) k.0 (ap (λ (u : Unified). u.subst) first_then ∙ k.1) e b)

  pub along_clash : (new : Store) (answer : Bool) → answer ≡ false → Does now new one answer → Follows old new (unify old.state.subst v w) (Ok false)
  along_clash new answer is d =
      let e : unify S x y ≡ counted (cost S x y) one = first_then ∙ ap (counted (cost S x y)) (cond-false one.agrees (counted one.count (next one.subst)) one (sym d.agrees ∙ is)) in
      along_ends old now new v w x y kept m (Ok false) (record {
        agrees = sym is ∙ d.agrees ∙ sym (ap (λ (u : Unified). u.agrees) e);
        subst = d.subst ∙ sym (ap (λ (u : Unified). u.subst) e);
        binds = d.binds;
      })

  tails_left : (new : Store) (answer : Bool) → answer ≡ true → Does now new one answer → Along old new v w t t'
  tails_left new answer is d =
      let rest = unify new.state.subst t t' in
      let both : and_then one next ≡ counted one.count rest =
      cond-true one.agrees (counted one.count (next one.subst)) one (sym d.agrees ∙ is) ∙ ap (λ S'. counted one.count (unify S' t t')) (sym d.subst) in
      let whole : unify S x y ≡ counted (cost S x y + one.count) rest = first_then ∙ ap (counted (cost S x y)) both ∙ counted_twice (cost S x y) one.count rest in
      let grew = solve_extends S ((h, h') ∷ []) sound in
      record {
        binds = binds_on old.state now.state new.state m.binds d.binds;
        made = grew.made ++ m.made;
        grown = d.subst ∙ grew.is ∙ ap (λ T. grew.made ++ T) m.grown ∙ sym (append_assoc grew.made m.made old.state.subst);
        before = m.before + (cost S x y + one.count);
        same = m.same ∙ ap (counted m.before) whole ∙ counted_twice m.before (cost S x y + one.count) rest;
      }

  pub along_on : (new : Store) (answer : Bool) → answer ≡ true → Kept now new → Does now new one answer → Along old new v w (told new b) (told new b')
  along_on new answer is k d =
      let eb : told new b ≡ t = told_is new b t (k.values b t (left.tail_is ∙ ap Some (sym (told_is now b left.tail left.tail_is)))) in
      let eb' : told new b' ≡ t' = told_is new b' t' (k.values b' t' (right.tail_is ∙ ap Some (sym (told_is now b' right.tail right.tail_is)))) in
      rw (eb, eb') (tails_left new answer is d)
