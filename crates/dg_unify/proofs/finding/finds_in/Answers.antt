use Rattle.std.proofs.Common.{◌≡◌, ◌∙◌, ◌<◌, refl, sym, subst, length}
use Rattle.dg_meaning.specs.Values.{NoMore}
use Rattle.dg_unify.specs.Parts.{values_of, IsSplit, IsOpened}
use Rattle.dg_unify.specs.Finds.{IsSought, finds_at, AreClear}
use Rattle.dg_unify.proofs.FindLemmas.{search_starts, search_up, search_found, search_past, past_smaller, room_for, search_into, into_smaller}
use Rattle.dg_unify.proofs.finding.finds_in.Goals as goal

pub parts-init : goal.parts-init
parts-init g c =
    let s = g.B.Bindings.meaning c.args.store.now in
    record {
      same = refl;
      saved = λ ms h. h;
      search = search_starts s (g.met.B.Bindings.sound c.args.store.now) c.args.x c.args.at (g.B.Bindings.waits c.args.store.now) c.args.inner c.new-seen.result c.requires.opened (λ o k. c.new-seen.ensures (finds_at s o));
    }

pub look_again-requires-clause-seen_in : goal.look_again-requires-clause-seen_in
look_again-requires-clause-seen_in g c =
    subst (λ t. (o : _) → IsSought t c.args.x o → AreClear t o c.parts.seen) (sym c.parts.invariant.same) c.parts.invariant.search.clear

pub parts-preserved-in-Some-newest_above : goal.parts-preserved-in-Some-newest_above
parts-preserved-in-Some-newest_above g c =
    let s = g.B.Bindings.meaning c.args.store.now in
    let h = c.parts.invariant.search in
    let none : values_of s c.parts.parts ≡ NoMore = subst (λ t. values_of t c.parts.parts ≡ NoMore) c.parts.invariant.same c.in-None.ensures in
    let taken = c.in-Some-newest_above.ensures.taken h.above (g.B.Bindings.waits c.args.store.now) h.is (sym c.waiting-base.ensures) in
    record {
      same = c.in-Some-newest_above.ensures.same ∙ c.parts.invariant.same;
      saved = λ ms k. c.in-Some-newest_above.ensures.saved ms (c.parts.invariant.saved ms k);
      search = search_up s (g.met.B.Bindings.sound c.args.store.now) c.args.x c.args.at (g.B.Bindings.waits c.args.store.now) (g.B.Bindings.waits c.parts.store) (g.B.Bindings.waits c.newest_above.new.store) c.parts.parts c.parts.seen c.note.new.self h none c.in-Some-newest_above.wait taken.0 taken.1 taken.2
          (λ o k found. c.note.ensures (finds_at s o) (h.clear o k) found);
    }

pub returns-in-Ends-true-clause-found : goal.returns-in-Ends-true-clause-found
returns-in-Ends-true-clause-found g c = λ o k.
    let s = g.B.Bindings.meaning c.args.store.now in
    let same = c.parts.invariant.same in
    let found = subst (λ t. c.in-Ends-true.field-0 ≡ finds_at t o c.in-Some.front.first) same (c.in-Ends-true.ensures o (subst (λ t. IsSought t c.args.x o) (sym same) k)) in
    search_found s (g.met.B.Bindings.sound c.args.store.now) c.args.x c.args.at (g.B.Bindings.waits c.args.store.now) (g.B.Bindings.waits c.parts.store) c.parts.parts c.parts.seen c.parts.invariant.search c.in-Some.front
    (subst (λ t. IsSplit t c.parts.parts c.in-Some.front) same c.in-Some.ensures) o k (sym c.in-Ends-true.field-0-test ∙ found)

pub parts-preserved-in-Ends-false : goal.parts-preserved-in-Ends-false
parts-preserved-in-Ends-false g c =
    let s = g.B.Bindings.meaning c.args.store.now in
    let same = c.parts.invariant.same in
    record {
      same = same;
      saved = c.parts.invariant.saved;
      search = search_past s (g.met.B.Bindings.sound c.args.store.now) c.args.x c.args.at (g.B.Bindings.waits c.args.store.now) (g.B.Bindings.waits c.parts.store) c.parts.parts c.parts.seen c.parts.invariant.search c.in-Some.front
          (subst (λ t. IsSplit t c.parts.parts c.in-Some.front) same c.in-Some.ensures)
          (λ o k. sym c.in-Ends-false.field-0-test ∙ subst (λ t. c.in-Ends-false.field-0 ≡ finds_at t o c.in-Some.front.first) same (c.in-Ends-false.ensures o (subst (λ t. IsSought t c.args.x o) (sym same) k)));
    }

pub parts-smaller-in-Ends-false : goal.parts-smaller-in-Ends-false
parts-smaller-in-Ends-false g c =
    past_smaller (g.B.Bindings.meaning c.args.store.now) (g.met.B.Bindings.sound c.args.store.now) c.args.x c.args.at (g.B.Bindings.waits c.args.store.now) (g.B.Bindings.waits c.parts.store) c.parts.parts c.parts.seen c.parts.invariant.search c.in-Some.front
    (subst (λ t. IsSplit t c.parts.parts c.in-Some.front) c.parts.invariant.same c.in-Some.ensures)

pub put_by-requires : goal.put_by-requires
put_by-requires g c =
    let s = g.B.Bindings.meaning c.args.store.now in
    let same = c.parts.invariant.same in
    subst (λ t. length (g.B.Bindings.waits c.parts.store) < t.places) (sym same)
    (room_for s (g.met.B.Bindings.sound c.args.store.now) c.args.x c.args.at (g.B.Bindings.waits c.args.store.now) (g.B.Bindings.waits c.parts.store) c.parts.parts c.parts.seen c.parts.invariant.search c.in-Some.front
    (subst (λ t. IsSplit t c.parts.parts c.in-Some.front) same c.in-Some.ensures) (g.met.B.Bindings.placed c.args.store.now) c.requires.at_in c.requires.room)

pub parts-preserved : goal.parts-preserved
parts-preserved g c =
    let s = g.B.Bindings.meaning c.args.store.now in
    let same = c.parts.invariant.same in
    let o = c.requires.x_in.0 in
    let opened = subst (λ t. IsOpened t c.in-Some.front.first c.in-Goes.inner) same (c.in-Goes.ensures o (subst (λ t. IsSought t c.args.x o) (sym same) c.requires.x_in.1)) in
    record {
      same = c.put_by.ensures.same ∙ same;
      saved = λ ms k. c.put_by.ensures.saved ms (c.parts.invariant.saved ms k);
      search = search_into s (g.met.B.Bindings.sound c.args.store.now) c.args.x c.args.at (g.B.Bindings.waits c.args.store.now) (g.B.Bindings.waits c.parts.store) c.parts.parts c.parts.seen c.parts.invariant.search c.in-Some.front
          (subst (λ t. IsSplit t c.parts.parts c.in-Some.front) same c.in-Some.ensures) c.in-Goes.inner opened (g.B.Bindings.waits c.put_by.new.store) c.put_by.ensures.waits;
    }

pub parts-smaller : goal.parts-smaller
parts-smaller g c =
    let s = g.B.Bindings.meaning c.args.store.now in
    let same = c.parts.invariant.same in
    let o = c.requires.x_in.0 in
    let opened = subst (λ t. IsOpened t c.in-Some.front.first c.in-Goes.inner) same (c.in-Goes.ensures o (subst (λ t. IsSought t c.args.x o) (sym same) c.requires.x_in.1)) in
    into_smaller s (g.met.B.Bindings.sound c.args.store.now) c.args.x c.args.at (g.B.Bindings.waits c.args.store.now) (g.B.Bindings.waits c.parts.store) c.parts.parts c.parts.seen c.parts.invariant.search c.in-Some.front
    (subst (λ t. IsSplit t c.parts.parts c.in-Some.front) same c.in-Some.ensures) c.in-Goes.inner opened (g.B.Bindings.waits c.put_by.new.store) c.put_by.ensures.waits
