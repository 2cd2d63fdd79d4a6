-- How a unification goes on from one turn to the next, and what it leaves where it ends.
use Rattle.std.proofs.Common.{◌≡◌, ℕ, ◌+◌, ◌*◌, ◌<◌, ◌≤◌, List, [], ◌∷◌, ◌++◌, Bool, true, false, refl, sym, ap, ◌∙◌, arith, subst, append-nil, append_assoc, length}
use Rattle.std.specs.Prelude.{if◌then◌else◌, Result, Ok, Err, IsTrue}
use Rattle.std.proofs.lemmas.Bool.{cond_both, cond-true, cond-false}
use Rattle.dg_meaning.specs.Values.{Value, Values, NoMore, More}
use Rattle.dg_meaning.specs.Substitutions.{Substitution}
use Rattle.dg_meaning.specs.inside.Substitutions.{IsSubstitution, Extends}
use Rattle.dg_meaning.specs.Unify.{Equations, side_by_side, cost, Unified, agreed, counted, solve}
use Rattle.dg_meaning.specs.inside.Unify.{unify, and_then, solve_turn}
use Rattle.dg_meaning.proofs.Solving.{solve_extends}
use Rattle.dg_meaning.proofs.UnifyLaws.{solve_none, solve_step, solve_first}
use Rattle.dg_unify.specs.Store.{State, Store, told, Holds, Kept, trail_of, OnlyBinds, Does, UnifyFull, BrokeOff, Follows}
use Rattle.dg_unify.specs.Parts.{values_of, AreIn, IsSplit}
use Rattle.dg_unify.specs.inside.Turns.{AreLeft, Stays, IsFirst}
use Rattle.dg_unify.specs.Waits.{PutsBy}
use Rattle.dg_unify.specs.declared.bindings.Ref.{Ref}
use Rattle.dg_unify.specs.declared.bindings.Full.{Full}
use Rattle.dg_unify.specs.declared.bindings.Full.TheVariants as full
use Rattle.dg_unify.specs.declared.parts.Parts.{Parts}
use Rattle.dg_unify.specs.declared.parts.Front.{Front}
use Rattle.dg_unify.specs.declared.parts.Wait.{Wait}
use Rattle.dg_unify.specs.declared.unifying.First.{First}
use Rattle.dg_unify.proofs.StoreLemmas.{kept_same, kept_on, kept_holds}
use Rattle.dg_unify.proofs.PartsLemmas.{in_kept, values_kept}
use Rattle.dg_unify.proofs.FindLemmas.{put_either}
use Rattle.dg_unify.proofs.Meets.{more_same}

-- ## Equations of parts

abbrev pub equations : Store → Parts → Parts → Equations
equations s p q = side_by_side (values_of s p) (values_of s q)

pub equations_kept : (old new : Store) (p q : Parts) → Kept old new → AreIn old p → AreIn old q → equations new p q ≡ equations old p q
equations_kept old new p q k hp hq = let a = values_kept old new p k hp in let b = values_kept old new q k hq in rw (a, b) refl

right_none : (vs : Values) → side_by_side vs NoMore ≡ []
right_none NoMore = refl
right_none (More v vs) = refl

pub none_left : (s : Store) (p q : Parts) → values_of s p ≡ NoMore → equations s p q ≡ []
none_left s p q h = ap (λ vs. side_by_side vs (values_of s q)) h

pub none_right : (s : Store) (p q : Parts) → values_of s q ≡ NoMore → equations s p q ≡ []
none_right s p q h = ap (side_by_side (values_of s p)) h ∙ right_none (values_of s p)

pub first_is : (s : Store) (p q : Parts) (x y : Front) → IsSplit s p x → IsSplit s q y → IsFirst s p q (record { a = x.first; b = y.first; p = x.rest; q = y.rest })
first_is s p q x y hx hy = record {
  is = rw (hx.values, hy.values) refl;
  left = hx.values;
  right = hy.values;
  a_in = hx.first_in;
  b_in = hy.first_in;
  p_in = hx.rest_in;
  q_in = hy.rest_in;
}

-- ## Counts, trails and errors

pub counted_none : (u : Unified) → u ≡ counted 0 u
counted_none u = ap (λ n. record { agrees = u.agrees; subst = u.subst; count = n }) (omega arith)

pub counted_twice : (b c : ℕ) (u : Unified) → counted b (counted c u) ≡ counted (b + c) u
counted_twice b c u = ap (λ n. record { agrees = u.agrees; subst = u.subst; count = n }) (omega arith)

pub binds_on : (old mid new : State) → OnlyBinds old mid → OnlyBinds mid new → OnlyBinds old new
binds_on old mid new k l =
    let e : trail_of old.since mid.subst ≡ trail_of mid.since mid.subst = ap (λ s. trail_of s mid.subst) (sym k.since) in
    let f : trail_of old.since new.subst ≡ trail_of mid.since new.subst = ap (λ s. trail_of s new.subst) (sym k.since) in
    record {
      vars = l.vars ∙ k.vars;
      since = l.since ∙ k.since;
      heap = l.heap ∙ k.heap;
      trail = omega (arith, k.trail, l.trail, e, f);
    }

trail_append : (since : ℕ) (xs ys : Substitution) → trail_of since (xs ++ ys) ≡ trail_of since xs + trail_of since ys
trail_append since [] ys = omega arith
trail_append since (x ∷ xs) ys = omega (arith, trail_append since xs ys)

full_later : (old now : Store) → Kept old now → OnlyBinds old.state now.state → (part whole : Unified) → (extra : Substitution) → whole.subst ≡ extra ++ part.subst → (e : Full) → UnifyFull now part e → UnifyFull old whole e
full_later old now k b part whole extra is full.Heap h = h
full_later old now k b part whole extra is full.Trail h =
    let since = old.state.since in
    let e : trail_of since now.state.subst ≡ trail_of now.state.since now.state.subst = ap (λ s. trail_of s now.state.subst) (sym b.since) in
    let f : trail_of since part.subst ≡ trail_of now.state.since part.subst = ap (λ s. trail_of s part.subst) (sym b.since) in
    let w : trail_of since whole.subst ≡ trail_of since extra + trail_of since part.subst = ap (trail_of since) is ∙ trail_append since extra part.subst in
    omega (arith, h, e, f, w, k.trail_limit, b.trail)
full_later old now k b part whole extra is full.OutOfMemory h = subst (λ (x : Bool). IsTrue x) k.grows h

-- more was bound before, and more would have been bound behind it
pub broke_later : (old now new : Store) → Kept old now → OnlyBinds old.state now.state → (made : Substitution) → now.state.subst ≡ made ++ old.state.subst → (part whole : Unified) → (extra : Substitution) → whole.subst ≡ extra ++ part.subst → (e : Full) → BrokeOff now new part e → BrokeOff old new whole e
broke_later old now new k b made grown part whole extra is e h = record {
  cause = full_later old now k b part whole extra is e h.cause;
  binds = binds_on old.state now.state new.state b h.binds;
  made = h.made ++ made;
  further = extra ++ h.further;
  grown = h.grown ∙ ap (λ S. h.made ++ S) grown ∙ sym (append_assoc h.made made old.state.subst);
  within = is ∙ ap (λ S. extra ++ S) h.within ∙ sym (append_assoc extra h.further new.state.subst);
}

-- a turn that has changed nothing
pub stays_broke : (now new : Store) (a b : Value) → IsSubstitution now.state.subst → (e : Full) → Stays now new (unify now.state.subst a b) e → BrokeOff now new (unify now.state.subst a b) e
stays_broke now new a b sound e h =
    let grew = solve_extends now.state.subst ((a, b) ∷ []) sound in
    record {
      cause = h.cause;
      binds = subst (OnlyBinds now.state) (sym h.state) (more_same now.state);
      made = [];
      further = grew.made;
      grown = ap (λ (t : State). t.subst) h.state;
      within = grew.is ∙ ap (λ (t : State). grew.made ++ t.subst) (sym h.state);
    }

-- ## What is left to do

abbrev pub waiting : Store → List Wait → Equations
waiting s [] = []
waiting s (w ∷ ws) = equations s w.p w.q ++ waiting s ws

abbrev pub left : Store → Parts → Parts → List Wait → Equations
left s p q ws = equations s p q ++ waiting s ws

pub record WaitsIn (s : Store) (w : Wait) : Type 0 where
  pub a_in : Holds s w.a
  pub b_in : Holds s w.b
  pub p_in : AreIn s w.p
  pub q_in : AreIn s w.q

abbrev pub AllWait : Store → List Wait → Type 0
AllWait s [] = Unit {0}
AllWait s (w ∷ ws) = WaitsIn s w × AllWait s ws

pub all_kept : (old new : Store) (ws : List Wait) → Kept old new → AllWait old ws → AllWait new ws
all_kept old new [] k h = tt
all_kept old new (w ∷ ws) k h = (
  record { a_in = kept_holds old new w.a k h.0.a_in; b_in = kept_holds old new w.b k h.0.b_in; p_in = in_kept old new w.p k h.0.p_in; q_in = in_kept old new w.q k h.0.q_in },
  all_kept old new ws k h.1,
)

waiting_kept : (old new : Store) (ws : List Wait) → Kept old new → AllWait old ws → waiting new ws ≡ waiting old ws
waiting_kept old new [] k h = refl
waiting_kept old new (w ∷ ws) k h =
    let a = equations_kept old new w.p w.q k h.0.p_in h.0.q_in in
    let b = waiting_kept old new ws k h.1 in
    rw (a, b) refl

-- twice the count that is left, and one for each that waits
abbrev pub need : Store → Parts → Parts → List Wait → ℕ
need s p q ws = 2 * (solve s.state.subst (left s p q ws)).count + length ws

-- what is left, where the answer of the whole is that of the rest
pub record Going (old now : Store) (es : Equations) (p q : Parts) (ws : List Wait) : Type 0 where
  pub kept : Kept old now
  pub p_in : AreIn now p
  pub q_in : AreIn now q
  pub waits_in : AllWait now ws
  pub binds : OnlyBinds old.state now.state
  pub made : Substitution
  pub grown : now.state.subst ≡ made ++ old.state.subst
  pub before : ℕ
  pub same : solve old.state.subst es ≡ counted before (solve now.state.subst (left now p q ws))

pub going_starts : (s : Store) (p q : Parts) → AreIn s p → AreIn s q → Going s s (equations s p q) p q []
going_starts s p q hp hq = record {
  kept = kept_same s;
  p_in = hp;
  q_in = hq;
  waits_in = tt;
  binds = more_same s.state;
  made = [];
  grown = refl;
  before = 0;
  same = counted_none (solve s.state.subst (equations s p q)) ∙ ap (λ es. counted 0 (solve s.state.subst es)) (sym (append-nil (equations s p q)));
}

then_count : (u : Unified) (next : Substitution → Unified) → u.count ≤ (and_then u next).count
then_count u next = elim (u.agrees) as (λ t. u.count ≤ (if t then counted u.count (next u.subst) else u).count) [ true ↦ omega arith | false ↦ omega arith ]

pub then_extends : (u : Unified) (next : Substitution → Unified) → ((S : Substitution) → S ≡ u.subst → Extends S (next S).subst) → (extra : Substitution) × ((and_then u next).subst ≡ extra ++ u.subst)
then_extends u next h =
    cond_both u.agrees (counted u.count (next u.subst)) u (λ (x : Unified). (extra : Substitution) × (x.subst ≡ extra ++ u.subst))
    (λ e. let w = h u.subst refl in (w.made, w.is))
    (λ e. ([], refl))

-- the answer of the rest is that of the whole
pub going_does : (old now new : Store) (es : Equations) (p q : Parts) (ws : List Wait) → Going old now es p q ws → (answer : Bool) → Does now new (solve now.state.subst (left now p q ws)) answer → Does old new (solve old.state.subst es) answer
going_does old now new es p q ws g answer u = record {
  agrees = u.agrees ∙ sym (ap (λ (x : Unified). x.agrees) g.same);
  subst = u.subst ∙ sym (ap (λ (x : Unified). x.subst) g.same);
  binds = binds_on old.state now.state new.state g.binds u.binds;
}

-- nothing is left, and nothing waits
pub going_ends : (old now : Store) (es : Equations) (p q : Parts) (ws : List Wait) → IsSubstitution now.state.subst → Going old now es p q ws → equations now p q ≡ [] → ws ≡ [] → Does old now (solve old.state.subst es) true
going_ends old now es p q ws sound g none last =
    let nothing : left now p q ws ≡ [] = rw (none, last) refl in
    let e : solve now.state.subst (left now p q ws) ≡ agreed now.state.subst = ap (solve now.state.subst) nothing ∙ solve_none now.state.subst sound in
    going_does old now now es p q ws g true (rw e (record { agrees = refl; subst = refl; binds = more_same now.state }))

-- the newest that waits is taken up
up_same : (s : Store) (p q : Parts) (w : Wait) (ws : List Wait) → equations s p q ≡ [] → left s p q (w ∷ ws) ≡ left s w.p w.q ws
up_same s p q w ws none = rw none refl

pub going_up : (old now : Store) (es : Equations) (p q : Parts) (w : Wait) (ws : List Wait) → Going old now es p q (w ∷ ws) → equations now p q ≡ [] → Going old now es w.p w.q ws
going_up old now es p q w ws g none = record {
  kept = g.kept;
  p_in = g.waits_in.0.p_in;
  q_in = g.waits_in.0.q_in;
  waits_in = g.waits_in.1;
  binds = g.binds;
  made = g.made;
  grown = g.grown;
  before = g.before;
  same = g.same ∙ ap (λ l. counted g.before (solve now.state.subst l)) (up_same now p q w ws none);
}

pub up_smaller : (s : Store) (p q : Parts) (w : Wait) (ws : List Wait) → equations s p q ≡ [] → need s w.p w.q ws < need s p q (w ∷ ws)
up_smaller s p q w ws none = omega (arith, ap (λ l. (solve s.state.subst l).count) (up_same s p q w ws none))

module _ (old now : Store) (sound : IsSubstitution now.state.subst) (es : Equations) (p q : Parts) (ws : List Wait) (g : Going old now es p q ws) (first : First) (f : IsFirst now p q first) where
  abbrev S : Substitution
  S = now.state.subst

  abbrev a : Value
  a = told now first.a

  abbrev b : Value
  b = told now first.b

  abbrev rest : Equations
  rest = equations now first.p first.q ++ waiting now ws

  abbrev next : Substitution → Unified
  next S' = solve S' rest

  first_left : left now p q ws ≡ (a, b) ∷ rest
  first_left = ap (λ l. l ++ waiting now ws) f.is

  first_then : solve S (left now p q ws) ≡ and_then (unify S a b) next
  first_then = ap (solve S) first_left ∙ solve_first S (a, b) rest sound

  one_counts : 2 ≤ (unify S a b).count
  one_counts = omega (arith, ap (λ (x : Unified). x.count) (solve_step S (a, b) [] sound))

  -- ## It ends here

  pub first_stops : (new : Store) (e : Full) → Stays now new (unify S a b) e → BrokeOff old new (solve old.state.subst es) e
  first_stops new e h =
      let one = unify S a b in
      let grew = solve_extends S ((a, b) ∷ []) sound in
      let w = then_extends one next (λ S' is. solve_extends S' rest (subst IsSubstitution (sym is) grew.sound)) in
      broke_later old now new g.kept g.binds g.made g.grown one (solve old.state.subst es) w.0
      (ap (λ (x : Unified). x.subst) g.same ∙ ap (λ (x : Unified). x.subst) first_then ∙ w.1) e (stays_broke now new a b sound e h)

  pub first_clashes : (new : Store) (answer : Bool) → answer ≡ false → Does now new (unify S a b) answer → Does old new (solve old.state.subst es) false
  first_clashes new answer is h =
      let one = unify S a b in
      let e : solve S (left now p q ws) ≡ one = first_then ∙ cond-false one.agrees (counted one.count (next one.subst)) one (sym h.agrees ∙ is) in
      going_does old now new es p q ws g false (record {
        agrees = sym is ∙ h.agrees ∙ sym (ap (λ (x : Unified). x.agrees) e);
        subst = h.subst ∙ sym (ap (λ (x : Unified). x.subst) e);
        binds = h.binds;
      })

  -- ## The first two agree

  module _ (new : Store) (answer : Bool) (is : answer ≡ true) (kept : Kept now new) (h : Does now new (unify S a b) answer) where
    past_same : solve S (left now p q ws) ≡ counted (unify S a b).count (solve new.state.subst (left new first.p first.q ws))
    past_same =
        let one = unify S a b in
        let there : left new first.p first.q ws ≡ rest = let k = equations_kept now new first.p first.q kept f.p_in f.q_in in let l = waiting_kept now new ws kept g.waits_in in rw (k, l) refl in
        first_then ∙ cond-true one.agrees (counted one.count (next one.subst)) one (sym h.agrees ∙ is) ∙ ap (λ S'. counted one.count (solve S' rest)) (sym h.subst) ∙ ap (λ l. counted one.count (solve new.state.subst l)) (sym there)

    pub going_past : Going old new es first.p first.q ws
    going_past =
        let grew = solve_extends S ((a, b) ∷ []) sound in
        record {
          kept = kept_on old now new g.kept kept;
          p_in = in_kept now new first.p kept f.p_in;
          q_in = in_kept now new first.q kept f.q_in;
          waits_in = all_kept now new ws kept g.waits_in;
          binds = binds_on old.state now.state new.state g.binds h.binds;
          made = grew.made ++ g.made;
          grown = h.subst ∙ grew.is ∙ ap (λ S'. grew.made ++ S') g.grown ∙ sym (append_assoc grew.made g.made old.state.subst);
          before = g.before + (unify S a b).count;
          same = g.same ∙ ap (counted g.before) past_same ∙ counted_twice g.before (unify S a b).count (solve new.state.subst (left new first.p first.q ws));
        }

    pub past_smaller : need new first.p first.q ws < need now p q ws
    past_smaller = omega (arith, ap (λ (x : Unified). x.count) past_same, one_counts)

  -- ## The parts of the first two are left

  module _ (v w : Parts) (h : AreLeft now now first.a first.b v w) where
    abbrev wait : Wait
    wait = record { a = first.a; b = first.b; p = first.p; q = first.q }

    module _ (new : List Wait) (put : PutsBy wait ws new) where
      into_left : waiting now new ≡ rest
      into_left = put_either (λ l. waiting now l ≡ rest) wait ws new put (λ e. ap (λ l. l ++ waiting now ws) (sym (none_left now first.p first.q (ap (values_of now) e)))) refl

      into_same : solve S (left now p q ws) ≡ counted (cost S a b) (solve S (left now v w new))
      into_same =
          ap (solve S) first_left ∙ solve_step S (a, b) rest sound ∙ ap (λ t. counted (cost S a b) (solve_turn S rest t)) h.turn
          ∙ ap (λ l. counted (cost S a b) (solve S (equations now v w ++ l))) (sym into_left)

      pub going_into : Going old now es v w new
      going_into = record {
        kept = g.kept;
        p_in = h.left.shows.are_in;
        q_in = h.right.shows.are_in;
        waits_in = put_either (AllWait now) wait ws new put (λ e. g.waits_in) (record { a_in = f.a_in; b_in = f.b_in; p_in = f.p_in; q_in = f.q_in }, g.waits_in);
        binds = g.binds;
        made = g.made;
        grown = g.grown;
        before = g.before + cost S a b;
        same = g.same ∙ ap (counted g.before) into_same ∙ counted_twice g.before (cost S a b) (solve S (left now v w new));
      }

      into_length : length new ≤ length ws + 1
      into_length = put_either (λ l. length l ≤ length ws + 1) wait ws new put (λ e. omega arith) (omega arith)

      pub into_smaller : need now v w new < need now p q ws
      into_smaller = omega (arith, ap (λ (x : Unified). x.count) into_same, into_length)

-- ## Two values whose parts are unified

pub parts_unified : (s : Store) → IsSubstitution s.state.subst → (a b : Ref) (p q : Parts) → AreLeft s s a b p q → unify s.state.subst (told s a) (told s b) ≡ counted (cost s.state.subst (told s a) (told s b)) (solve s.state.subst (equations s p q))
parts_unified s sound a b p q h =
    let S = s.state.subst in
    let u = told s a in
    let v = told s b in
    solve_step S (u, v) [] sound ∙ ap (λ t. counted (cost S u v) (solve_turn S [] t)) h.turn ∙ ap (λ es. counted (cost S u v) (solve S es)) (append-nil (equations s p q))

pub unify_goes : (old new : Store) → IsSubstitution old.state.subst → (a b : Ref) (p q : Parts) → AreLeft old old a b p q → (r : Result Bool Full) → Follows old new (solve old.state.subst (equations old p q)) r → Follows old new (unify old.state.subst (told old a) (told old b)) r
unify_goes old new sound a b p q h (Ok answer) u =
    let e = parts_unified old sound a b p q h in
    record { agrees = u.agrees ∙ sym (ap (λ (x : Unified). x.agrees) e); subst = u.subst ∙ sym (ap (λ (x : Unified). x.subst) e); binds = u.binds }
unify_goes old new sound a b p q h (Err e) u =
    broke_later old old new (kept_same old) (more_same old.state) [] refl (solve old.state.subst (equations old p q)) (unify old.state.subst (told old a) (told old b)) []
    (ap (λ (x : Unified). x.subst) (parts_unified old sound a b p q h)) e u

-- two that have no parts
pub none_unified : (s : Store) → IsSubstitution s.state.subst → (a b : Ref) (p q : Parts) → AreLeft s s a b p q → values_of s p ≡ NoMore → Does s s (unify s.state.subst (told s a) (told s b)) true
none_unified s sound a b p q h none =
    let S = s.state.subst in
    let e : unify S (told s a) (told s b) ≡ counted (cost S (told s a) (told s b)) (agreed S) =
    parts_unified s sound a b p q h ∙ ap (λ es. counted (cost S (told s a) (told s b)) (solve S es)) (none_left s p q none) ∙ ap (counted (cost S (told s a) (told s b))) (solve_none S sound) in
    rw e (record { agrees = refl; subst = refl; binds = more_same s.state })
