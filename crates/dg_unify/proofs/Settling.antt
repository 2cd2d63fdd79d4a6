-- What of two values will be equal when what is left has been done.
use Rattle.std.proofs.Common.{◌≡◌, List, [], ◌∷◌, ◌++◌, sym, ap, ◌∙◌, subst, append_assoc}
use Rattle.dg_meaning.specs.Values.{Value}
use Rattle.dg_meaning.specs.Substitutions.{Substitution, resolved, walk}
use Rattle.dg_meaning.specs.inside.Substitutions.{IsSubstitution}
use Rattle.dg_meaning.specs.Unify.{Equations, turn}
use Rattle.dg_meaning.proofs.Walks.{walked}
use Rattle.dg_meaning.proofs.UnifyLaws.{EqualUnder, Makes, turned_makes, resolved_later}
use Rattle.dg_unify.specs.Store.{Store, told, Kept}
use Rattle.dg_unify.specs.inside.Turns.{AreLeft, IsFirst}
use Rattle.dg_unify.specs.inside.Known.{IsEqual}
use Rattle.dg_unify.specs.Waits.{PutsBy}
use Rattle.dg_unify.specs.Parts.{values_of}
use Rattle.dg_unify.specs.declared.parts.Parts.{Parts}
use Rattle.dg_unify.specs.declared.parts.Wait.{Wait}
use Rattle.dg_unify.specs.declared.unifying.First.{First}
use Rattle.dg_unify.proofs.StoreLemmas.{kept_told}
use Rattle.dg_unify.proofs.FindLemmas.{put_either}
use Rattle.dg_unify.proofs.Goings.{equations, equations_kept, none_left, AllWait, WaitsIn}

-- where these equations hold, now or later, the two are equal
abbrev pub Settles : Substitution → Equations → Value → Value → Type 0
Settles S es a b = (made : Substitution) → EqualUnder (made ++ S) es → resolved (made ++ S) a ≡ resolved (made ++ S) b

-- so it is with the two that wait newest, and where they are equal too, with the next two
abbrev pub Settled : Store → Equations → List Wait → Type 0
Settled s es [] = Unit {0}
Settled s es (w ∷ ws) = Settles s.state.subst es (told s w.a) (told s w.b) × Settled s ((told s w.a, told s w.b) ∷ equations s w.p w.q) ws

-- these hold where those do
abbrev Implies : Substitution → Equations → Equations → Type 0
Implies S es es' = (made : Substitution) → EqualUnder (made ++ S) es → EqualUnder (made ++ S) es'

settled_from : (s : Store) (es es' : Equations) (ws : List Wait) → Implies s.state.subst es' es → Settled s es ws → Settled s es' ws
settled_from s es es' [] i h = tt
settled_from s es es' (w ∷ ws) i h = (λ made k. h.0 made (i made k), h.1)

settles_later : (S made : Substitution) (es : Equations) (a b : Value) → Settles S es a b → Settles (made ++ S) es a b
settles_later S made es a b h = λ more k. let P : Substitution → Type 0 = λ S'. EqualUnder S' es → resolved S' a ≡ resolved S' b in subst P (append_assoc more made S) (h (more ++ made)) k

settled_later : (old new : Store) (made : Substitution) → Kept old new → new.state.subst ≡ made ++ old.state.subst → (es : Equations) (ws : List Wait) → AllWait old ws → Settled old es ws → Settled new es ws
settled_later old new made kept is es [] waits h = tt
settled_later old new made kept is es (w ∷ ws) waits h =
    let a = kept_told old new w.a kept waits.0.a_in in
    let b = kept_told old new w.b kept waits.0.b_in in
    let e = equations_kept old new w.p w.q kept waits.0.p_in waits.0.q_in in
    let first : Settles new.state.subst es (told old w.a) (told old w.b) = subst (λ S. Settles S es (told old w.a) (told old w.b)) (sym is) (settles_later old.state.subst made es (told old w.a) (told old w.b) h.0) in
    let deeper = settled_later old new made kept is ((told old w.a, told old w.b) ∷ equations old w.p w.q) ws waits.1 h.1 in
    (rw (a, b) first, rw (a, b, e) deeper)

-- the newest that waits is taken up: its two are equal
pub settled_equal : (s : Store) (es : Equations) (w : Wait) (ws : List Wait) → es ≡ [] → WaitsIn s w → Settled s es (w ∷ ws) → IsEqual s w.a w.b
settled_equal s es w ws none waits h = record { a_in = waits.a_in; b_in = waits.b_in; same = h.0 [] (subst (EqualUnder s.state.subst) (sym none) tt) }

pub settled_up : (s : Store) (es : Equations) (w : Wait) (ws : List Wait) → es ≡ [] → Settled s es (w ∷ ws) → Settled s (equations s w.p w.q) ws
settled_up s es w ws none h =
    let same = h.0 [] (subst (EqualUnder s.state.subst) (sym none) tt) in
    settled_from s ((told s w.a, told s w.b) ∷ equations s w.p w.q) (equations s w.p w.q) ws (λ made k. (resolved_later made s.state.subst (told s w.a) (told s w.b) same, k)) h.1

module _ (now : Store) (p q : Parts) (ws : List Wait) (waits : AllWait now ws) (h : Settled now (equations now p q) ws) (first : First) (f : IsFirst now p q first) where
  abbrev a : Value
  a = told now first.a

  abbrev b : Value
  b = told now first.b

  both : Settled now ((a, b) ∷ equations now first.p first.q) ws
  both = subst (λ es. Settled now es ws) f.is h

  -- the first two are equal
  pub settled_past : (new : Store) (made : Substitution) → Kept now new → new.state.subst ≡ made ++ now.state.subst → IsEqual new first.a first.b → Settled new (equations new first.p first.q) ws
  settled_past new made kept is equal =
      let later = settled_later now new made kept is ((a, b) ∷ equations now first.p first.q) ws waits both in
      let same : resolved new.state.subst a ≡ resolved new.state.subst b = ap (resolved new.state.subst) (sym (kept_told now new first.a kept f.a_in)) ∙ equal.same ∙ ap (resolved new.state.subst) (kept_told now new first.b kept f.b_in) in
      subst (λ es. Settled new es ws) (sym (equations_kept now new first.p first.q kept f.p_in f.q_in))
      (settled_from new ((a, b) ∷ equations now first.p first.q) (equations now first.p first.q) ws (λ more k. (resolved_later more new.state.subst a b same, k)) later)

  -- their parts are left
  pub settled_into : IsSubstitution now.state.subst → (v w : Parts) → AreLeft now now first.a first.b v w → (new : List Wait) → PutsBy (record { a = first.a; b = first.b; p = first.p; q = first.q }) ws new → Settled now (equations now v w) new
  settled_into sound v w left new put =
      let S = now.state.subst in
      let makes : Makes S a b (turn S a b) = turned_makes S a b (walk S a) (walk S b) (walked S sound a) (walked S sound b) in
      let settles : Settles S (equations now v w) a b = subst (Makes S a b) left.turn makes in
      put_either (λ l. Settled now (equations now v w) l) (record { a = first.a; b = first.b; p = first.p; q = first.q }) ws new put
      (λ e.
      let none : equations now first.p first.q ≡ [] = none_left now first.p first.q (ap (values_of now) e) in
      settled_from now ((a, b) ∷ equations now first.p first.q) (equations now v w) ws (λ made k. (settles made k, subst (EqualUnder (made ++ S)) (sym none) tt)) both)
      (settles, both)
