-- One argument and one value of a head, and two values.
use Rattle.std.proofs.Common.{◌≡◌, ℕ, ◌+◌, ◌<◌, List, true, false, sym, ap, ◌∙◌, subst, arith, length, get_or, Some}
use Rattle.std.specs.Prelude.{Bool, Result, Ok, Err, []}
use Rattle.std.specs.List.{zip}
use Rattle.dg_meaning.specs.Values.{Value, Nil, leaf}
use Rattle.dg_meaning.specs.Unify.{solve}
use Rattle.dg_meaning.specs.inside.Unify.{unify}
use Rattle.dg_unify.specs.Store.{State, Store, told, Holds, Does, BrokeOff, OnlyBinds, Follows}
use Rattle.dg_unify.specs.declared.bindings.Ref.{Ref}
use Rattle.dg_unify.specs.declared.bindings.Full.{Full}
use Rattle.dg_unify.proofs.StoreLemmas.{kept_on, kept_same, told_is, holds_some}
use Rattle.dg_unify.proofs.Meets.{more_same}
use Rattle.dg_unify.proofs.Goings.{broke_later}
use Rattle.dg_arena.specs.declared.arena.Arena.{Arena}
use Rattle.dg_arena.specs.Held.{meaning_of}
use Rattle.dg_machine.specs.Refs.{RefsAt, AreRefs, Keeps, Stays}
use Rattle.dg_machine.proofs.Kept.{refs_kept}
use Rattle.dg_machine.proofs.TermLemmas.{refs_get, refs_length}
use Rattle.dg_machine.proofs.Matching.{Matching, match_full, match_clash, match_on}

pub keeps_same : (a : Arena) → Keeps a a
keeps_same a = record { kept = kept_same (meaning_of a); saved = λ ms h. h }

pub keeps_on : (a b d : Arena) → Keeps a b → Keeps b d → Keeps a d
keeps_on a b d k l = record { kept = kept_on (meaning_of a) (meaning_of b) (meaning_of d) k.kept l.kept; saved = λ ms h. l.saved ms (k.saved ms h) }

pub stays_on : (a b d : Arena) → Stays a b → Stays b d → Stays a d
stays_on a b d s t = record { keeps = keeps_on a b d s.keeps t.keeps; state = t.state ∙ s.state }

module _ (old now : Arena) (keeps : Keeps old now) (args heads : List Ref) (n : ℕ) (la : n < length args) (lb : n < length heads) where
  abbrev arg : Ref
  arg = get_or args n (record { 0 = 0 })

  abbrev head : Ref
  head = get_or heads n (record { 0 = 0 })

  abbrev nothing : Value
  nothing = leaf Nil

  arg_value : (us : List Value) → RefsAt (meaning_of old) args us → (meaning_of now).value arg ≡ Some (get_or us n nothing)
  arg_value us h = refs_get (meaning_of now) args us n (record { 0 = 0 }) nothing (refs_kept (meaning_of old) (meaning_of now) args us keeps.kept h) la

  head_value : (ws : List Value) → RefsAt (meaning_of old) heads ws → (meaning_of now).value head ≡ Some (get_or ws n nothing)
  head_value ws h = refs_get (meaning_of now) heads ws n (record { 0 = 0 }) nothing (refs_kept (meaning_of old) (meaning_of now) heads ws keeps.kept h) lb

  pub arg_holds : AreRefs (meaning_of old) args → Holds (meaning_of now) arg
  arg_holds h = holds_some (meaning_of now) arg (get_or h.0 n nothing) (arg_value h.0 h.1)

  pub head_holds : AreRefs (meaning_of old) heads → Holds (meaning_of now) head
  head_holds h = holds_some (meaning_of now) head (get_or h.0 n nothing) (head_value h.0 h.1)

  module _ (us ws : List Value) (ha : RefsAt (meaning_of old) args us) (hb : RefsAt (meaning_of old) heads ws) (m : Matching (meaning_of old).state (meaning_of now).state us ws n) where
    few_us : n < length us
    few_us = omega (arith, la, refs_length (meaning_of old) args us ha)

    few_ws : n < length ws
    few_ws = omega (arith, lb, refs_length (meaning_of old) heads ws hb)

    told_arg : told (meaning_of now) arg ≡ get_or us n nothing
    told_arg = told_is (meaning_of now) arg (get_or us n nothing) (arg_value us ha)

    told_head : told (meaning_of now) head ≡ get_or ws n nothing
    told_head = told_is (meaning_of now) head (get_or ws n nothing) (head_value ws hb)

    pub head_full : (new : Arena) (e : Full) → BrokeOff (meaning_of now) (meaning_of new) (unify (meaning_of now).state.subst (told (meaning_of now) arg) (told (meaning_of now) head)) e → Follows (meaning_of old) (meaning_of new) (solve (meaning_of old).state.subst (zip us ws)) (Err e)
    head_full new e h = match_full (meaning_of old) (meaning_of now) keeps.kept now.sound.fits.sound us ws n nothing few_us few_ws arg (told (meaning_of now) head) told_arg told_head m (meaning_of new) e h

    pub head_clash : (new : Arena) (b : Bool) → b ≡ false → Does (meaning_of now) (meaning_of new) (unify (meaning_of now).state.subst (told (meaning_of now) arg) (told (meaning_of now) head)) b → Follows (meaning_of old) (meaning_of new) (solve (meaning_of old).state.subst (zip us ws)) (Ok false)
    head_clash new b e h = match_clash (meaning_of old) (meaning_of now) keeps.kept now.sound.fits.sound us ws n nothing few_us few_ws arg (told (meaning_of now) head) told_arg told_head m (meaning_of new) b e h

    pub head_on : (new : Arena) (b : Bool) → b ≡ true → Does (meaning_of now) (meaning_of new) (unify (meaning_of now).state.subst (told (meaning_of now) arg) (told (meaning_of now) head)) b → Matching (meaning_of old).state (meaning_of new).state us ws (n + 1)
    head_on new b e h = match_on (meaning_of old) (meaning_of now) keeps.kept now.sound.fits.sound us ws n nothing few_us few_ws arg (told (meaning_of now) head) told_arg told_head m (meaning_of new) b e h

-- ## Two values

follows_same : (old new after : Arena) (v w : Value) (result : Result Bool Full) → Stays old new → Follows (meaning_of new) (meaning_of after) (unify (meaning_of new).state.subst v w) result → Follows (meaning_of old) (meaning_of after) (unify (meaning_of old).state.subst v w) result
follows_same old new after v w (Ok b) s f = record {
  agrees = f.agrees ∙ ap (λ (t : State). (unify t.subst v w).agrees) s.state;
  subst = f.subst ∙ ap (λ (t : State). (unify t.subst v w).subst) s.state;
  binds = subst (λ t. OnlyBinds t (meaning_of after).state) s.state f.binds;
}
follows_same old new after v w (Err e) s f =
    broke_later (meaning_of old) (meaning_of new) (meaning_of after) s.keeps.kept (subst (λ t. OnlyBinds (meaning_of old).state t) (sym s.state) (more_same (meaning_of old).state)) [] (ap (λ (t : State). t.subst) s.state)
    (unify (meaning_of new).state.subst v w) (unify (meaning_of old).state.subst v w) [] (ap (λ (t : State). (unify t.subst v w).subst) (sym s.state)) e f

-- what is followed by two Refs is followed by their values
pub follows_told : (s t : Store) (a b : Ref) (u v : Value) (result : Result Bool Full) → s.value a ≡ Some u → s.value b ≡ Some v → Follows s t (unify s.state.subst (told s a) (told s b)) result → Follows s t (unify s.state.subst u v) result
follows_told s t a b u v result ha hb f = subst (λ x. Follows s t (unify s.state.subst u x) result) (told_is s b v hb) (subst (λ x. Follows s t (unify s.state.subst x (told s b)) result) (told_is s a u ha) f)

-- what a unification follows behind values that were written, it follows before
pub follows_back : (old new after : Arena) (v w : Value) (left right : Ref) (result : Result Bool Full) → Stays old new → (meaning_of new).value left ≡ Some v → (meaning_of new).value right ≡ Some w →
    Follows (meaning_of new) (meaning_of after) (unify (meaning_of new).state.subst (told (meaning_of new) left) (told (meaning_of new) right)) result → Follows (meaning_of old) (meaning_of after) (unify (meaning_of old).state.subst v w) result
follows_back old new after v w left right result s hl hr f =
    follows_same old new after v w result s (follows_told (meaning_of new) (meaning_of after) left right v w result hl hr f)
