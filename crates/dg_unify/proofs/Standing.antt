-- A value that stands in another stands there still when more is bound, and has fewer nodes.
use Rattle.std.proofs.Common.{◌≡◌, ℕ, ◌+◌, ◌<◌, ◌≤◌, List, [], ◌∷◌, ◌++◌, refl, sym, ap, ◌∙◌, arith, subst, inl, inr, ◌⊎◌, length}
use Rattle.dg_meaning.specs.Values.{Label, Value, Var, Node, Values, NoMore, More}
use Rattle.dg_meaning.specs.Substitutions.{Substitution, replaced, all_replaced, resolved}
use Rattle.dg_meaning.specs.inside.Substitutions.{all_resolved, IsSubstitution}
use Rattle.dg_meaning.specs.Unify.{size, sizes}
use Rattle.dg_meaning.proofs.Walks.{resolved_node, walked, size_some}
use Rattle.dg_unify.specs.Store.{Store, told, Holds, Kept}
use Rattle.dg_unify.specs.Parts.{values_of, AreIn, IsOpened}
use Rattle.dg_unify.specs.Waits.{size_at, PutsBy, HasRoom}
use Rattle.dg_unify.specs.declared.bindings.Ref.{Ref}
use Rattle.dg_unify.specs.declared.parts.Parts.{Parts}
use Rattle.dg_unify.specs.declared.parts.Wait.{Wait}
use Rattle.dg_unify.proofs.StoreLemmas.{kept_holds, kept_told}
use Rattle.dg_unify.proofs.PartsLemmas.{in_kept, values_kept}
use Rattle.dg_unify.proofs.Rooms.{Placed, newest_in, AreInside, room_inside, room_left, room_smaller, room_for_all}
use Rattle.dg_unify.proofs.FindLemmas.{put_either}

-- a value stands in another, at any depth
abbrev mutual
  pub Stands : Value → Value → Type 0
  Stands u (Var n) = ⊥
  Stands u (Node f vs) = StandsAmong u vs

  pub StandsAmong : Value → Values → Type 0
  StandsAmong u NoMore = ⊥
  StandsAmong u (More v vs) = (u ≡ v) ⊎ Stands u v ⊎ StandsAmong u vs

abbrev pub AllStand : Values → Value → Type 0
AllStand NoMore v = Unit {0}
AllStand (More u us) v = Stands u v × AllStand us v

-- ## Parts, and parts of parts

mutual
  pub stands_trans : (u v w : Value) → Stands u v → Stands v w → Stands u w
  stands_trans u v (Var n) h k = absurd k
  stands_trans u v (Node f ws) h k = among_trans u v ws h k

  among_trans : (u v : Value) (ws : Values) → Stands u v → StandsAmong v ws → StandsAmong u ws
  among_trans u v NoMore h k = absurd k
  among_trans u v (More w ws) h k =
      elim k as (λ z. StandsAmong u (More w ws)) [
        | inl e ↦ inr (inl (subst (Stands u) e h))
        | inr deeper ↦ elim deeper as (λ z. StandsAmong u (More w ws)) [ inl d ↦ inr (inl (stands_trans u v w h d)) | inr d ↦ inr (inr (among_trans u v ws h d)) ]
      ]

pub all_trans : (us : Values) (v w : Value) → AllStand us v → Stands v w → AllStand us w
all_trans NoMore v w h k = tt
all_trans (More u us) v w h k = (stands_trans u v w h.0 k, all_trans us v w h.1 k)

among_more : (us : Values) (f : Label) (v : Value) (vs : Values) → AllStand us (Node f vs) → AllStand us (Node f (More v vs))
among_more NoMore f v vs h = tt
among_more (More u us) f v vs h = (inr (inr h.0), among_more us f v vs h.1)

pub parts_stand : (f : Label) (vs : Values) → AllStand vs (Node f vs)
parts_stand f NoMore = tt
parts_stand f (More v vs) = (inl refl, among_more vs f v vs (parts_stand f vs))

mutual
  pub stands_size : (u v : Value) → Stands u v → size u < size v
  stands_size u (Var n) h = absurd h
  stands_size u (Node f vs) h = omega (arith, among_size u vs h)

  among_size : (u : Value) (vs : Values) → StandsAmong u vs → size u ≤ sizes vs
  among_size u NoMore h = absurd h
  among_size u (More v vs) h =
      elim h as (λ z. size u ≤ size v + sizes vs) [
        | inl e ↦ omega (arith, ap size e)
        | inr deeper ↦ elim deeper as (λ z. size u ≤ size v + sizes vs) [ inl d ↦ omega (arith, stands_size u v d) | inr d ↦ omega (arith, among_size u vs d) ]
      ]

-- ## More is bound

mutual
  stands_replaced : (x : ℕ) (t u v : Value) → Stands u v → Stands (replaced x t u) (replaced x t v)
  stands_replaced x t u (Var n) h = absurd h
  stands_replaced x t u (Node f vs) h = among_replaced x t u vs h

  among_replaced : (x : ℕ) (t u : Value) (vs : Values) → StandsAmong u vs → StandsAmong (replaced x t u) (all_replaced x t vs)
  among_replaced x t u NoMore h = absurd h
  among_replaced x t u (More v vs) h =
      elim h as (λ z. StandsAmong (replaced x t u) (all_replaced x t (More v vs))) [
        | inl e ↦ inl (ap (replaced x t) e)
        | inr deeper ↦ elim deeper as (λ z. StandsAmong (replaced x t u) (all_replaced x t (More v vs))) [ inl d ↦ inr (inl (stands_replaced x t u v d)) | inr d ↦ inr (inr (among_replaced x t u vs d)) ]
      ]

pub stands_later : (made S : Substitution) (u v : Value) → Stands (resolved S u) (resolved S v) → Stands (resolved (made ++ S) u) (resolved (made ++ S) v)
stands_later [] S u v h = h
stands_later (p ∷ made) S u v h = stands_replaced p.0 (resolved (made ++ S) p.1) (resolved (made ++ S) u) (resolved (made ++ S) v) (stands_later made S u v h)

pub all_later : (made S : Substitution) (us : Values) (v : Value) → AllStand (all_resolved S us) (resolved S v) → AllStand (all_resolved (made ++ S) us) (resolved (made ++ S) v)
all_later made S NoMore v h = tt
all_later made S (More u us) v h = (stands_later made S u v h.0, all_later made S us v h.1)

-- ## Values that are gone into

abbrev pub value_at : Store → Ref → Value
value_at s r = resolved s.state.subst (told s r)

-- each stands in the one into which it was gone into, and so do the parts behind it
abbrev pub Chain : Store → (Wait → Ref) → (Wait → Parts) → Ref → List Wait → Type 0
Chain s at of root [] = Unit {0}
Chain s at of root (w ∷ ws) = (Holds s (at w) × AreIn s (of w)) × Stands (value_at s (at w)) (value_at s (newest_in at root ws)) × AllStand (all_resolved s.state.subst (values_of s (of w))) (value_at s (newest_in at root ws)) × Chain s at of root ws

chain_inside : (s : Store) (at : Wait → Ref) (of : Wait → Parts) (root : Ref) (ws : List Wait) → Chain s at of root ws → AreInside s at (λ w. 0) root ws
chain_inside s at of root [] h = tt
chain_inside s at of root (w ∷ ws) h = (h.0.0, stands_size _ _ h.1, size_some _, chain_inside s at of root ws h.3)

-- these parts stand in the newest, and so on
pub record Nesting (s : Store) (at : Wait → Ref) (of : Wait → Parts) (root : Ref) (p : Parts) (ws : List Wait) : Type 0 where
  pub root_in : Holds s root
  pub p_in : AreIn s p
  pub within : AllStand (all_resolved s.state.subst (values_of s p)) (value_at s (newest_in at root ws))
  pub chain : Chain s at of root ws

newest_told : (s : Store) (at : Wait → Ref) (of : Wait → Parts) (root : Ref) (ws : List Wait) → Holds s root → Chain s at of root ws → Holds s (newest_in at root ws)
newest_told s at of root [] h k = h
newest_told s at of root (w ∷ ws) h k = k.0.0

chain_later : (old new : Store) (made : Substitution) → Kept old new → new.state.subst ≡ made ++ old.state.subst → (at : Wait → Ref) (of : Wait → Parts) (root : Ref) (ws : List Wait) → Holds old root → Chain old at of root ws → Chain new at of root ws
chain_later old new made kept is at of root [] hold h = tt
chain_later old new made kept is at of root (w ∷ ws) hold h =
    let up = newest_told old at of root ws hold h.3 in (
      (kept_holds old new (at w) kept h.0.0, in_kept old new (of w) kept h.0.1),
      rw (is, kept_told old new (at w) kept h.0.0, kept_told old new (newest_in at root ws) kept up) (stands_later made old.state.subst (told old (at w)) (told old (newest_in at root ws)) h.1),
      rw (is, values_kept old new (of w) kept h.0.1, kept_told old new (newest_in at root ws) kept up) (all_later made old.state.subst (values_of old (of w)) (told old (newest_in at root ws)) h.2),
      chain_later old new made kept is at of root ws hold h.3,
    )

pub nesting_later : (old new : Store) (made : Substitution) → Kept old new → new.state.subst ≡ made ++ old.state.subst → (at : Wait → Ref) (of : Wait → Parts) (root : Ref) (p : Parts) (ws : List Wait) → Nesting old at of root p ws → Nesting new at of root p ws
nesting_later old new made kept is at of root p ws h = record {
  root_in = kept_holds old new root kept h.root_in;
  p_in = in_kept old new p kept h.p_in;
  within = rw (is, values_kept old new p kept h.p_in, kept_told old new (newest_in at root ws) kept (newest_told old at of root ws h.root_in h.chain)) (all_later made old.state.subst (values_of old p) (told old (newest_in at root ws)) h.within);
  chain = chain_later old new made kept is at of root ws h.root_in h.chain;
}

pub nesting_up : (s : Store) (at : Wait → Ref) (of : Wait → Parts) (root : Ref) (p : Parts) (w : Wait) (ws : List Wait) → Nesting s at of root p (w ∷ ws) → Nesting s at of root (of w) ws
nesting_up s at of root p w ws h = record { root_in = h.root_in; p_in = h.chain.0.1; within = h.chain.2; chain = h.chain.3 }

module _ (s : Store) (sound : IsSubstitution s.state.subst) (placed : Placed s) (at : Wait → Ref) (of : Wait → Parts) (root : Ref) where
  opened_stand : (r : Ref) (inner : Parts) → IsOpened s r inner → AllStand (all_resolved s.state.subst (values_of s inner)) (value_at s r)
  opened_stand r inner h =
      let S = s.state.subst in
      let e : value_at s r ≡ Node h.label (all_resolved S h.parts) = sym (walked S sound (told s r)).same ∙ ap (resolved S) h.is ∙ resolved_node S h.label h.parts in
      subst (λ vs. AllStand (all_resolved S vs) (value_at s r)) (sym h.shows.values) (subst (AllStand (all_resolved S h.parts)) (sym e) (parts_stand h.label (all_resolved S h.parts)))

  pub nesting_starts : (inner : Parts) → Holds s root → IsOpened s root inner → Nesting s at of root inner []
  nesting_starts inner hold h = record { root_in = hold; p_in = h.shows.are_in; within = opened_stand root inner h; chain = tt }

  module _ (p : Parts) (ws : List Wait) (h : Nesting s at of root p ws) (first : Ref) (rest : Parts) (split : values_of s p ≡ More (told s first) (values_of s rest)) (first_in : Holds s first) (rest_in : AreIn s rest) where
    both : AllStand (all_resolved s.state.subst (More (told s first) (values_of s rest))) (value_at s (newest_in at root ws))
    both = subst (λ vs. AllStand (all_resolved s.state.subst vs) (value_at s (newest_in at root ws))) split h.within

    pub nesting_past : Nesting s at of root rest ws
    nesting_past = record { root_in = h.root_in; p_in = rest_in; within = both.1; chain = h.chain }

    pub nesting_room : HasRoom s (length ws) first
    nesting_room =
        let room : HasRoom s (length ws + 0) (newest_in at root ws) = room_inside s placed at (λ w. 0) root 0 ws h.root_in (room_for_all s root) (chain_inside s at of root ws h.chain) in
        let smaller : size_at s first ≤ size_at s (newest_in at root ws) = omega (arith, stands_size _ _ both.0) in
        room_smaller s (length ws) first (newest_in at root ws) smaller (omega (arith, room))

    pub nesting_left : length ws < s.places
    nesting_left = omega (arith, room_left s placed at (λ w. 0) root 0 ws (size_at s first) h.root_in (room_for_all s root) (chain_inside s at of root ws h.chain) (size_some _) (stands_size _ _ both.0))

    pub nesting_into : (inner : Parts) → IsOpened s first inner → (w : Wait) → at w ≡ first → of w ≡ rest → (new : List Wait) → PutsBy w ws new → Nesting s at of root inner new
    nesting_into inner opened w is_first is_rest new put =
        put_either (λ l. Nesting s at of root inner l) w ws new put
        (λ e. record { root_in = h.root_in; p_in = opened.shows.are_in; within = all_trans _ _ _ (opened_stand first inner opened) both.0; chain = h.chain })
        (record {
          root_in = h.root_in;
          p_in = opened.shows.are_in;
          within = subst (λ r. AllStand (all_resolved s.state.subst (values_of s inner)) (value_at s r)) (sym is_first) (opened_stand first inner opened);
          chain = (
            (subst (Holds s) (sym is_first) first_in, subst (AreIn s) (sym is_rest) rest_in),
            subst (λ r. Stands (value_at s r) (value_at s (newest_in at root ws))) (sym is_first) both.0,
            subst (λ r. AllStand (all_resolved s.state.subst (values_of s r)) (value_at s (newest_in at root ws))) (sym is_rest) both.1,
            h.chain,
          );
        })
