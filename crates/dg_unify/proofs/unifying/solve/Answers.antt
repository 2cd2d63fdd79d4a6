use Rattle.std.proofs.Common.{◌≡◌, ◌∙◌, ◌<◌, [], ◌∷◌, true, refl, sym, subst, length}
use Rattle.dg_meaning.specs.Unify.{solve}
use Rattle.dg_meaning.specs.inside.Unify.{unify}
use Rattle.dg_meaning.proofs.Solving.{solve_extends}
use Rattle.dg_unify.specs.Store.{told, Does}
use Rattle.dg_unify.specs.inside.Known.{AreEqual}
use Rattle.dg_unify.specs.inside.Turns.{AreLeft}
use Rattle.dg_unify.specs.Waits.{PutsBy}
use Rattle.dg_unify.specs.declared.parts.Wait.{Wait}
use Rattle.dg_unify.proofs.KnownLemmas.{equal_behind, equal_made}
use Rattle.dg_unify.proofs.Goings.{Going, equations, need, going_starts, going_ends, going_up, first_stops, first_clashes, going_past, past_smaller, going_into, into_smaller}
use Rattle.dg_unify.proofs.Standing.{Nesting, nesting_later, nesting_up, nesting_starts, nesting_past, nesting_room, nesting_left, nesting_into}
use Rattle.dg_unify.proofs.Settling.{Settled, settled_equal, settled_up, settled_past, settled_into}
use Rattle.dg_unify.proofs.unifying.solve.Goals as goal

pub turns-init : goal.turns-init
turns-init g c =
    let s = g.B.Bindings.meaning c.args.store.now in
    let sound = g.met.B.Bindings.sound c.args.store.now in
    let placed = g.met.B.Bindings.placed c.args.store.now in
    let none = sym c.requires.none_waits in
    record {
      going = subst (λ ws. Going s s (equations s c.args.p c.args.q) c.args.p c.args.q ws) none (going_starts s c.args.p c.args.q c.requires.left.shows.are_in c.requires.right.shows.are_in);
      saved = λ ms k. k;
      left = subst (λ ws. Nesting s (λ w. w.a) (λ w. w.p) c.args.a c.args.p ws) none (nesting_starts s sound placed (λ w. w.a) (λ w. w.p) c.args.a c.args.p c.requires.a_in c.requires.left);
      right = subst (λ ws. Nesting s (λ w. w.b) (λ w. w.q) c.args.b c.args.q ws) none (nesting_starts s sound placed (λ w. w.b) (λ w. w.q) c.args.b c.args.q c.requires.b_in c.requires.right);
      settled = subst (λ ws. Settled s (equations s c.args.p c.args.q) ws) none tt;
      known = c.new-known.ensures s;
    }

pub turns-preserved-in-Some-take_up : goal.turns-preserved-in-Some-take_up
turns-preserved-in-Some-take_up g c =
    let old = g.B.Bindings.meaning c.args.store.now in
    let now = g.B.Bindings.meaning c.turns.store in
    let new = g.B.Bindings.waits c.take_up.new.self in
    let w = c.in-Some-take_up.wait in
    let i = c.turns.invariant in
    let up : g.B.Bindings.waits c.turns.store ≡ w ∷ new = c.in-Some-take_up.ensures.taken in
    let es = equations old c.args.p c.args.q in
    let going = subst (λ ws. Going old now es c.turns.p c.turns.q ws) up i.going in
    let settled = subst (λ ws. Settled now (equations now c.turns.p c.turns.q) ws) up i.settled in
    let equal = settled_equal now (equations now c.turns.p c.turns.q) w new c.in-None.ensures going.waits_in.0 settled in
    let back = sym c.in-Some-take_up.ensures.same in
    record {
      going = subst (λ s. Going old s es w.p w.q new) back (going_up old now es c.turns.p c.turns.q w new going c.in-None.ensures);
      saved = λ ms k. c.in-Some-take_up.ensures.saved ms (i.saved ms k);
      left = subst (λ s. Nesting s (λ v. v.a) (λ v. v.p) c.args.a w.p new) back (nesting_up now (λ v. v.a) (λ v. v.p) c.args.a c.turns.p w new (subst (λ ws. Nesting now (λ v. v.a) (λ v. v.p) c.args.a c.turns.p ws) up i.left));
      right = subst (λ s. Nesting s (λ v. v.b) (λ v. v.q) c.args.b w.q new) back (nesting_up now (λ v. v.b) (λ v. v.q) c.args.b c.turns.q w new (subst (λ ws. Nesting now (λ v. v.b) (λ v. v.q) c.args.b c.turns.q ws) up i.right));
      settled = subst (λ s. Settled s (equations s w.p w.q) new) back (settled_up now (equations now c.turns.p c.turns.q) w new c.in-None.ensures settled);
      known = subst (λ s. AreEqual s c.note.new.self) back (c.note.ensures now i.known equal);
    }

pub returns-in-None-take_up-clause-follows : goal.returns-in-None-take_up-clause-follows
returns-in-None-take_up-clause-follows g c =
    let old = g.B.Bindings.meaning c.args.store.now in
    let now = g.B.Bindings.meaning c.turns.store in
    let es = equations old c.args.p c.args.q in
    subst (λ s. Does old s (solve old.state.subst es) true) (sym c.in-None-take_up.ensures.same)
    (going_ends old now es c.turns.p c.turns.q (g.B.Bindings.waits c.turns.store) (g.met.B.Bindings.sound c.turns.store) c.turns.invariant.going c.in-None.ensures c.in-None-take_up.ensures.taken.0)

pub turn-requires-clause-a_room : goal.turn-requires-clause-a_room
turn-requires-clause-a_room g c =
    let f = c.in-Some.ensures in
    nesting_room (g.B.Bindings.meaning c.turns.store) (g.met.B.Bindings.sound c.turns.store) (g.met.B.Bindings.placed c.turns.store) (λ w. w.a) (λ w. w.p) c.args.a c.turns.p (g.B.Bindings.waits c.turns.store) c.turns.invariant.left c.in-Some.first.a c.in-Some.first.p f.left f.a_in f.p_in

pub turn-requires-clause-b_room : goal.turn-requires-clause-b_room
turn-requires-clause-b_room g c =
    let f = c.in-Some.ensures in
    nesting_room (g.B.Bindings.meaning c.turns.store) (g.met.B.Bindings.sound c.turns.store) (g.met.B.Bindings.placed c.turns.store) (λ w. w.b) (λ w. w.q) c.args.b c.turns.q (g.B.Bindings.waits c.turns.store) c.turns.invariant.right c.in-Some.first.b c.in-Some.first.q f.right f.b_in f.q_in

pub put_by-requires : goal.put_by-requires
put_by-requires g c =
    let f = c.in-Some.ensures in
    let now = g.B.Bindings.meaning c.turns.store in
    let left_over : AreLeft now (g.B.Bindings.meaning c.turn.new.store) c.in-Some.first.a c.in-Some.first.b c.in-Ok-Goes.v c.in-Ok-Goes.w = rw c.in-Ok-Goes.field-0-is at c.in-Ok-Goes.ensures.met in
    subst (λ s. length (g.B.Bindings.waits c.turn.new.store) < s.places) (sym left_over.same)
    (subst (λ ws. length ws < now.places) (sym c.turn.ensures.waits)
    (nesting_left now (g.met.B.Bindings.sound c.turns.store) (g.met.B.Bindings.placed c.turns.store) (λ w. w.a) (λ w. w.p) c.args.a c.turns.p (g.B.Bindings.waits c.turns.store) c.turns.invariant.left c.in-Some.first.a c.in-Some.first.p f.left f.a_in f.p_in))

pub returns-in-Err-clause-follows : goal.returns-in-Err-clause-follows
returns-in-Err-clause-follows g c =
    let old = g.B.Bindings.meaning c.args.store.now in
    let now = g.B.Bindings.meaning c.turns.store in
    first_stops old now (g.met.B.Bindings.sound c.turns.store) (equations old c.args.p c.args.q) c.turns.p c.turns.q (g.B.Bindings.waits c.turns.store) c.turns.invariant.going c.in-Some.first c.in-Some.ensures (g.B.Bindings.meaning c.turn.new.store) c.in-Err.e c.in-Err.ensures.met

pub returns-in-Ok-Done-false-clause-follows : goal.returns-in-Ok-Done-false-clause-follows
returns-in-Ok-Done-false-clause-follows g c =
    let old = g.B.Bindings.meaning c.args.store.now in
    let now = g.B.Bindings.meaning c.turns.store in
    let new = g.B.Bindings.meaning c.turn.new.store in
    let does : Does now new (unify now.state.subst (told now c.in-Some.first.a) (told now c.in-Some.first.b)) c.in-Ok-Done-false.field-0-0 = rw c.in-Ok-Done-false.field-0-is at c.in-Ok-Done-false.ensures.met in
    first_clashes old now (g.met.B.Bindings.sound c.turns.store) (equations old c.args.p c.args.q) c.turns.p c.turns.q (g.B.Bindings.waits c.turns.store) c.turns.invariant.going c.in-Some.first c.in-Some.ensures new c.in-Ok-Done-false.field-0-0 c.in-Ok-Done-false.field-0-0-test does

pub turns-smaller-in-Ok-Done-true : goal.turns-smaller-in-Ok-Done-true
turns-smaller-in-Ok-Done-true g c =
    let old = g.B.Bindings.meaning c.args.store.now in
    let now = g.B.Bindings.meaning c.turns.store in
    let new = g.B.Bindings.meaning c.turn.new.store in
    let does : Does now new (unify now.state.subst (told now c.in-Some.first.a) (told now c.in-Some.first.b)) c.in-Ok-Done-true.field-0-0 = rw c.in-Ok-Done-true.field-0-is at c.in-Ok-Done-true.ensures.met in
    subst (λ ws. need new c.in-Some.first.p c.in-Some.first.q ws < need now c.turns.p c.turns.q (g.B.Bindings.waits c.turns.store)) (sym c.turn.ensures.waits)
    (past_smaller old now (g.met.B.Bindings.sound c.turns.store) (equations old c.args.p c.args.q) c.turns.p c.turns.q (g.B.Bindings.waits c.turns.store) c.turns.invariant.going c.in-Some.first c.in-Some.ensures new c.in-Ok-Done-true.field-0-0 c.in-Ok-Done-true.field-0-0-test c.turn.ensures.kept does)

pub turns-preserved-in-Ok-Done-true : goal.turns-preserved-in-Ok-Done-true
turns-preserved-in-Ok-Done-true g c =
    let old = g.B.Bindings.meaning c.args.store.now in
    let now = g.B.Bindings.meaning c.turns.store in
    let new = g.B.Bindings.meaning c.turn.new.store in
    let sound = g.met.B.Bindings.sound c.turns.store in
    let placed = g.met.B.Bindings.placed c.turns.store in
    let ws = g.B.Bindings.waits c.turns.store in
    let first = c.in-Some.first in
    let f = c.in-Some.ensures in
    let i = c.turns.invariant in
    let kept = c.turn.ensures.kept in
    let yes = c.in-Ok-Done-true.field-0-0-test in
    let does : Does now new (unify now.state.subst (told now first.a) (told now first.b)) c.in-Ok-Done-true.field-0-0 = rw c.in-Ok-Done-true.field-0-is at c.in-Ok-Done-true.ensures.met in
    let grew = solve_extends now.state.subst ((told now first.a, told now first.b) ∷ []) sound in
    let grown = does.subst ∙ grew.is in
    let equal = equal_made now new sound first.a first.b f.a_in f.b_in c.in-Ok-Done-true.field-0-0 yes kept does in
    let same = sym c.turn.ensures.waits in
    let es = equations old c.args.p c.args.q in
    record {
      going = subst (λ l. Going old new es first.p first.q l) same (going_past old now sound es c.turns.p c.turns.q ws i.going first f new c.in-Ok-Done-true.field-0-0 yes kept does);
      saved = λ ms k. c.turn.ensures.saved ms (i.saved ms k);
      left = subst (λ l. Nesting new (λ w. w.a) (λ w. w.p) c.args.a first.p l) same (nesting_later now new grew.made kept grown (λ w. w.a) (λ w. w.p) c.args.a first.p ws (nesting_past now sound placed (λ w. w.a) (λ w. w.p) c.args.a c.turns.p ws i.left first.a first.p f.left f.a_in f.p_in));
      right = subst (λ l. Nesting new (λ w. w.b) (λ w. w.q) c.args.b first.q l) same (nesting_later now new grew.made kept grown (λ w. w.b) (λ w. w.q) c.args.b first.q ws (nesting_past now sound placed (λ w. w.b) (λ w. w.q) c.args.b c.turns.q ws i.right first.b first.q f.right f.b_in f.q_in));
      settled = subst (λ l. Settled new (equations new first.p first.q) l) same (settled_past now c.turns.p c.turns.q ws i.going.waits_in i.settled first f new grew.made kept grown equal);
      known = equal_behind now new sound c.turns.known (told now first.a) (told now first.b) c.in-Ok-Done-true.field-0-0 kept does i.known;
    }

pub turns-preserved : goal.turns-preserved
turns-preserved g c =
    let old = g.B.Bindings.meaning c.args.store.now in
    let now = g.B.Bindings.meaning c.turns.store in
    let sound = g.met.B.Bindings.sound c.turns.store in
    let placed = g.met.B.Bindings.placed c.turns.store in
    let ws = g.B.Bindings.waits c.turns.store in
    let new = g.B.Bindings.waits c.put_by.new.store in
    let first = c.in-Some.first in
    let f = c.in-Some.ensures in
    let i = c.turns.invariant in
    let v = c.in-Ok-Goes.v in
    let w = c.in-Ok-Goes.w in
    let wait : Wait = record { a = first.a; b = first.b; p = first.p; q = first.q } in
    let met : AreLeft now (g.B.Bindings.meaning c.turn.new.store) first.a first.b v w = rw c.in-Ok-Goes.field-0-is at c.in-Ok-Goes.ensures.met in
    let back = sym (c.put_by.ensures.same ∙ met.same) in
    let here : AreLeft now now first.a first.b v w = subst (λ s. AreLeft now s first.a first.b v w) met.same met in
    let put : PutsBy wait ws new = subst (λ l. PutsBy wait l new) c.turn.ensures.waits c.put_by.ensures.waits in
    let es = equations old c.args.p c.args.q in
    record {
      going = subst (λ s. Going old s es v w new) back (going_into old now sound es c.turns.p c.turns.q ws i.going first f v w here new put);
      saved = λ ms k. c.put_by.ensures.saved ms (c.turn.ensures.saved ms (i.saved ms k));
      left = subst (λ s. Nesting s (λ u. u.a) (λ u. u.p) c.args.a v new) back
          (nesting_into now sound placed (λ u. u.a) (λ u. u.p) c.args.a c.turns.p ws i.left first.a first.p f.left f.a_in f.p_in v here.left wait refl refl new put);
      right = subst (λ s. Nesting s (λ u. u.b) (λ u. u.q) c.args.b w new) back
          (nesting_into now sound placed (λ u. u.b) (λ u. u.q) c.args.b c.turns.q ws i.right first.b first.q f.right f.b_in f.q_in w here.right wait refl refl new put);
      settled = subst (λ s. Settled s (equations s v w) new) back (settled_into now c.turns.p c.turns.q ws i.going.waits_in i.settled first f sound v w here new put);
      known = subst (λ s. AreEqual s c.turns.known) back i.known;
    }

pub turns-smaller : goal.turns-smaller
turns-smaller g c =
    let old = g.B.Bindings.meaning c.args.store.now in
    let now = g.B.Bindings.meaning c.turns.store in
    let sound = g.met.B.Bindings.sound c.turns.store in
    let ws = g.B.Bindings.waits c.turns.store in
    let new = g.B.Bindings.waits c.put_by.new.store in
    let first = c.in-Some.first in
    let v = c.in-Ok-Goes.v in
    let w = c.in-Ok-Goes.w in
    let wait : Wait = record { a = first.a; b = first.b; p = first.p; q = first.q } in
    let met : AreLeft now (g.B.Bindings.meaning c.turn.new.store) first.a first.b v w = rw c.in-Ok-Goes.field-0-is at c.in-Ok-Goes.ensures.met in
    let back = sym (c.put_by.ensures.same ∙ met.same) in
    let here : AreLeft now now first.a first.b v w = subst (λ s. AreLeft now s first.a first.b v w) met.same met in
    let put : PutsBy wait ws new = subst (λ l. PutsBy wait l new) c.turn.ensures.waits c.put_by.ensures.waits in
    subst (λ s. need s v w new < need now c.turns.p c.turns.q ws) back
    (into_smaller old now sound (equations old c.args.p c.args.q) c.turns.p c.turns.q ws c.turns.invariant.going first c.in-Some.ensures v w here new put)
