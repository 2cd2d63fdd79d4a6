-- What a turn of a unification leaves in a store, and how a unification goes on behind it.
use Rattle.std.proofs.Common.{◌≡◌, ℕ, ◌+◌, ◌<◌, ◌≤◌, [], ◌∷◌, Bool, true, false, refl, sym, ap, ◌∙◌, arith, subst, Some}
use Rattle.std.specs.Prelude.{eqb, nat_lt, Result, Ok, Err}
use Rattle.std.proofs.lemmas.Bool.{lt-ltb, le-ltb, eq-eqb, ne_eqb}
use Rattle.dg_meaning.specs.Values.{Label, Value, Var, Node, Values}
use Rattle.dg_meaning.specs.Substitutions.{Substitution, walk, resolved, contains}
use Rattle.dg_meaning.specs.inside.Substitutions.{is_bound, FitsFront, IsSubstitution}
use Rattle.dg_meaning.specs.Unify.{Goes, Binds, Clashes, binds, ties, turn, cost, Unified, clashed, counted, solve}
use Rattle.dg_meaning.specs.inside.Unify.{solve_turn}
use Rattle.dg_meaning.proofs.Walks.{resolved_unbound, walked}
use Rattle.dg_meaning.proofs.LookUps.{walk_free}
use Rattle.dg_meaning.proofs.UnifyLaws.{solve_none, solve_step}
use Rattle.dg_unify.specs.Store.{State, Store, told, Holds, ShowsVar, MayBind, Bound, TrailFull, trail_for, OnlyBinds, Does, UnifyFull}
use Rattle.dg_unify.specs.inside.Turns.{IsUnbound, FollowsTurn, TurnsInto, met_of, Compares}
use Rattle.dg_unify.specs.declared.bindings.Ref.{Ref}
use Rattle.dg_unify.specs.declared.bindings.Full.{Full}
use Rattle.dg_unify.specs.declared.bindings.Full.TheVariants as full
use Rattle.dg_unify.specs.declared.unifying.Met.{Met}
use Rattle.dg_unify.specs.declared.unifying.Met.TheVariants as met
use Rattle.dg_unify.proofs.StoreLemmas.{told_is, holds_told, Younger, same_place, younger_place, walked_to}

pub more_same : (s : State) → OnlyBinds s s
more_same s = record { vars = refl; since = refl; heap = refl; trail = refl }

-- ## What comes of a turn

done_here : (s : Store) (u : Unified) (b : Bool) → u ≡ record { agrees = b; subst = s.state.subst; count = 0 } → Does s s u b
done_here s u b is = rw is (record { agrees = refl; subst = refl; binds = more_same s.state })

follows_goes : (s : Store) → IsSubstitution s.state.subst → FollowsTurn s s (Goes []) (Ok true)
follows_goes s sound = done_here s (solve s.state.subst []) true (solve_none s.state.subst sound)

follows_clash : (s : Store) → FollowsTurn s s Clashes (Ok false)
follows_clash s = done_here s (clashed s.state.subst) false refl

bound_only : (old new : State) (x : ℕ) (v : Value) → new ≡ record old { subst = (x, v) ∷ old.subst; trail = old.trail + trail_for old.since x } → OnlyBinds old new
bound_only old new x v is = rw is (record { vars = refl; since = refl; heap = refl; trail = omega arith })

-- a variable fits in front with what the value is when it is walked
walked_fits : (S : Substitution) → IsSubstitution S → (x : ℕ) (v : Value) → FitsFront x v S → FitsFront x (walk S v) S
walked_fits S s x v h = record { unbound = h.unbound; absent = rw (walked S s v).same h.absent }

pub follows_bound : (old new : Store) (x : ℕ) (v : Value) → IsSubstitution old.state.subst → FitsFront x v old.state.subst → Bound old new x v → FollowsTurn old new (Binds x (walk old.state.subst v)) (Ok true)
follows_bound old new x v sound fits b =
    let w = walk old.state.subst v in
    let e = solve_none ((x, w) ∷ old.state.subst) (walked_fits old.state.subst sound x v fits, sound) in
    record {
      agrees = sym (ap (λ (u : Unified). u.agrees) e);
      subst = ap (λ (s : State). s.subst) b.state ∙ sym (ap (λ (u : Unified). u.subst) e);
      binds = bound_only old.state new.state x w b.state;
    }

pub follows_full : (old new : Store) (x : ℕ) (v : Value) (e : Full) → IsSubstitution old.state.subst → FitsFront x v old.state.subst → TrailFull old new x e → FollowsTurn old new (Binds x (walk old.state.subst v)) (Err e)
follows_full old new x v full.Heap sound fits h = absurd h
follows_full old new x v full.Trail sound fits h =
    let w = walk old.state.subst v in
    let e = solve_none ((x, w) ∷ old.state.subst) (walked_fits old.state.subst sound x v fits, sound) in
    let k : (solve ((x, w) ∷ old.state.subst) []).subst ≡ (x, w) ∷ old.state.subst = ap (λ (u : Unified). u.subst) e in
    record { cause = rw k (omega (arith, h.0)); state = h.1 }
follows_full old new x v full.OutOfMemory sound fits h = record { cause = h.0; state = h.2 }

some_var : (m n : ℕ) → Some (Var m) ≡ Some (Var n) → m ≡ n
some_var m n e = cc

pub link_fits : (s : Store) (var to : Ref) → MayBind s var to → (n : ℕ) → s.value var ≡ Some (Var n) → FitsFront n (told s to) s.state.subst
link_fits s var to m n hn =
    let en : m.x ≡ n = some_var m.x n (sym m.var_is ∙ hn) in
    let ev : m.v ≡ told s to = sym (told_is s to m.v m.to_is) in
    subst (λ (v : Value). FitsFront n v s.state.subst) ev (subst (λ (x : ℕ). FitsFront x m.v s.state.subst) en m.fits)

-- ## Two variables

tie_same_number : (s : Store) → Younger s → (x y : Ref) (m n : ℕ) → s.value x ≡ Some (Var m) → s.value y ≡ Some (Var n) → x.0 ≡ y.0 → eqb m n ≡ true
tie_same_number s young x y m n hx hy e = sym (same_place s young x y m n hx hy) ∙ eq-eqb x.0 y.0 e

pub tie_differ : (s : Store) → Younger s → (x y : Ref) (m n : ℕ) → s.value x ≡ Some (Var m) → s.value y ≡ Some (Var n) → (x.0 ≡ y.0 → ⊥) → eqb m n ≡ false
tie_differ s young x y m n hx hy ne = sym (same_place s young x y m n hx hy) ∙ ne_eqb x.0 y.0 ne

-- one unbound variable may be bound to another
pub tie_binds : (s : Store) (x y : Ref) → (ux : IsUnbound s x) → (uy : IsUnbound s y) → eqb ux.number uy.number ≡ false → MayBind s y x
tie_binds s x y ux uy ne = record {
  x = uy.number;
  v = Var ux.number;
  var_is = uy.value;
  to_is = ux.value;
  fits = record {
    unbound = uy.free;
    absent = rw (resolved_unbound s.state.subst ux.number ux.free) ne;
  };
}

unbound_walk : (s : Store) (x : Ref) (m : ℕ) → IsUnbound s x → s.value x ≡ Some (Var m) → walk s.state.subst (told s x) ≡ Var m
unbound_walk s x m u hx =
    let e : u.number ≡ m = some_var u.number m (sym u.value ∙ hx) in
    let free : is_bound m s.state.subst ≡ false = subst (λ k. is_bound k s.state.subst ≡ false) e u.free in
    ap (walk s.state.subst) (told_is s x (Var m) hx) ∙ walk_free s.state.subst m free

pub tie_younger : (s new : Store) → Younger s → (x y : Ref) (m n : ℕ) → IsUnbound s x → s.value x ≡ Some (Var m) → s.value y ≡ Some (Var n) → (x.0 ≡ y.0 → ⊥) → x.0 < y.0 → (r : Result Bool Full) → FollowsTurn s new (Binds n (walk s.state.subst (told s x))) r → FollowsTurn s new (ties m n) r
tie_younger s new young x y m n ux hx hy ne lt r h =
    let e = tie_differ s young x y m n hx hy ne in
    let k : nat_lt m n ≡ true = sym (younger_place s young x y m n hx hy) ∙ lt-ltb x.0 y.0 lt in
    let v = unbound_walk s x m ux hx in
    rw (e, k) (rw v at h)

pub tie_older : (s new : Store) → Younger s → (x y : Ref) (m n : ℕ) → IsUnbound s y → s.value x ≡ Some (Var m) → s.value y ≡ Some (Var n) → (x.0 ≡ y.0 → ⊥) → y.0 ≤ x.0 → (r : Result Bool Full) → FollowsTurn s new (Binds m (walk s.state.subst (told s y))) r → FollowsTurn s new (ties m n) r
tie_older s new young x y m n uy hx hy ne le r h =
    let e = tie_differ s young x y m n hx hy ne in
    let k : nat_lt m n ≡ false = sym (younger_place s young x y m n hx hy) ∙ le-ltb x.0 y.0 le in
    let v = unbound_walk s y n uy hy in
    rw (e, k) (rw v at h)

pub tie_same : (s : Store) → IsSubstitution s.state.subst → Younger s → (x y : Ref) (m n : ℕ) → s.value x ≡ Some (Var m) → s.value y ≡ Some (Var n) → x.0 ≡ y.0 → FollowsTurn s s (ties m n) (Ok true)
tie_same s sound young x y m n hx hy e = rw (tie_same_number s young x y m n hx hy e) (follows_goes s sound)

-- ## A variable and a value

-- the test of containment of the walked value
walked_contains : (S : Substitution) → IsSubstitution S → (n : ℕ) (v : Value) (b : Bool) → b ≡ contains n (resolved S v) → contains n (resolved S (walk S v)) ≡ b
walked_contains S s n v b h = ap (contains n) (walked S s v).same ∙ sym h

pub point_clash : (s : Store) → IsSubstitution s.state.subst → (n : ℕ) (v : Value) → true ≡ contains n (resolved s.state.subst v) → FollowsTurn s s (binds s.state.subst n (walk s.state.subst v)) (Ok false)
point_clash s sound n v h = rw (walked_contains s.state.subst sound n v true h) (follows_clash s)

pub point_binds : (s : Store) (x to : Ref) → (ux : IsUnbound s x) → Holds s to → false ≡ contains ux.number (resolved s.state.subst (told s to)) → MayBind s x to
point_binds s x to ux h e = record {
  x = ux.number;
  v = told s to;
  var_is = ux.value;
  to_is = holds_told s to h;
  fits = record { unbound = ux.free; absent = sym e };
}

pub point_follows : (s new : Store) → IsSubstitution s.state.subst → (n : ℕ) (v : Value) → false ≡ contains n (resolved s.state.subst v) → (r : Result Bool Full) → FollowsTurn s new (Binds n (walk s.state.subst v)) r → FollowsTurn s new (binds s.state.subst n (walk s.state.subst v)) r
point_follows s new sound n v e r h = rw (walked_contains s.state.subst sound n v false e) h

-- ## How two values met

counted_full : (old : Store) (c : ℕ) (u : Unified) (e : Full) → UnifyFull old u e → UnifyFull old (counted c u) e
counted_full old c u full.Heap h = h
counted_full old c u full.Trail h = h
counted_full old c u full.OutOfMemory h = h

follows_met : (old new : Store) → IsSubstitution old.state.subst → (a b : Ref) (r : Result Bool Full) → FollowsTurn old new (turn old.state.subst (told old a) (told old b)) r → TurnsInto old new a b (met_of r)
follows_met old new sound a b (Ok d) h =
    rw (solve_step old.state.subst (told old a, told old b) [] sound) (record { agrees = h.agrees; subst = h.subst; binds = h.binds })
follows_met old new sound a b (Err e) h =
    let S = old.state.subst in
    let u = told old a in
    let v = told old b in
    rw (solve_step S (u, v) [] sound) (record { cause = counted_full old (cost S u v) (solve_turn S [] (turn S u v)) e h.cause; state = h.state })

pub unbound_at : (s : Store) → IsSubstitution s.state.subst → (at r : Ref) → ShowsVar s (walked_to s at) r → IsUnbound s r
unbound_at s sound at r shows = record {
  number = shows.number;
  value = shows.value;
  free = (walked s.state.subst sound (told s at)).free shows.number shows.is;
}

pub met_vars : (old new : Store) → IsSubstitution old.state.subst → (a b x y : Ref) (r : Result Bool Full) → (sx : ShowsVar old (walked_to old a) x) → (sy : ShowsVar old (walked_to old b) y) → FollowsTurn old new (ties sx.number sy.number) r → TurnsInto old new a b (met_of r)
met_vars old new sound a b x y r sx sy h = follows_met old new sound a b r (rw (sx.is, sy.is) h)

pub met_left : (old new : Store) → IsSubstitution old.state.subst → (a b x : Ref) (f : Label) (vs : Values) (r : Result Bool Full) → (sx : ShowsVar old (walked_to old a) x) → walked_to old b ≡ Node f vs → FollowsTurn old new (binds old.state.subst sx.number (walked_to old b)) r → TurnsInto old new a b (met_of r)
met_left old new sound a b x f vs r sx sy h =
    let k : FollowsTurn old new (binds old.state.subst sx.number (Node f vs)) r = subst (λ w. FollowsTurn old new (binds old.state.subst sx.number w) r) sy h in
    follows_met old new sound a b r (rw (sx.is, sy) k)

pub met_right : (old new : Store) → IsSubstitution old.state.subst → (a b y : Ref) (f : Label) (vs : Values) (r : Result Bool Full) → walked_to old a ≡ Node f vs → (sy : ShowsVar old (walked_to old b) y) → FollowsTurn old new (binds old.state.subst sy.number (walked_to old a)) r → TurnsInto old new a b (met_of r)
met_right old new sound a b y f vs r sx sy h =
    let k : FollowsTurn old new (binds old.state.subst sy.number (Node f vs)) r = subst (λ w. FollowsTurn old new (binds old.state.subst sy.number w) r) sx h in
    follows_met old new sound a b r (rw (sx, sy.is) k)

pub met_nodes : (s : Store) → IsSubstitution s.state.subst → (a b : Ref) (f g : Label) (vs us : Values) → walked_to s a ≡ Node f vs → walked_to s b ≡ Node g us → (m : Met) → Compares s f g vs us m → TurnsInto s s a b (Ok m)
met_nodes s sound a b f g vs us ea eb (met.Done answer) h =
    let P : Bool → Type 0 = λ y. TurnsInto s s a b (Ok (met.Done y)) in
    let k : P false = follows_met s s sound a b (Ok false) (rw (ea, eb, h.1) (follows_clash s)) in
    subst P (sym h.0) k
met_nodes s sound a b f g vs us ea eb (met.Goes p q) h = record {
  same = refl;
  turn = rw (ea, eb, h.0, h.1.values, h.2.values) refl;
  left = record { label = f; parts = vs; is = ea; shows = h.1 };
  right = record { label = g; parts = us; is = eb; shows = h.2 };
}
