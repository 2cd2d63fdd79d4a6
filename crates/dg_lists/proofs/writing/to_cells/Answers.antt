use Rattle.std.proofs.Common.{◌≡◌, ◌∙◌, ◌<◌, [], refl, sym, subst, length, append-nil}
use Rattle.dg_unify.specs.Parts.{IsSplit}
use Rattle.dg_lists.specs.Writing.{TopIsPut}
use Rattle.dg_lists.proofs.WriteLemmas.{Writing, writing_starts, writing_room, writing_into}
use Rattle.dg_lists.proofs.writing.to_cells.Goals as goal

pub parts-init : goal.parts-init
parts-init g c =
    let s = g.B.Bindings.meaning c.args.store.now in
    let ws = g.B.Bindings.waits c.args.store.now in
    let none : g.B.Bindings.waits c.forget.new.self ≡ [] = c.forget.ensures.waits ws [] (sym (append-nil ws)) refl in
    let top = subst (λ t. TopIsPut t c.args.value c.args.row.now 0 c.put_top.new.row c.in_ok-filled.filled c.in_ok-filled.parts) c.forget.ensures.same c.in_ok-filled.ensures in
    record {
      same = c.forget.ensures.same;
      saved = c.forget.ensures.saved;
      writing = subst (Writing s c.args.value c.put_top.new.row c.in_ok-filled.filled c.in_ok-filled.parts) (sym none) (writing_starts s c.args.value c.args.row.now c.put_top.new.row c.in_ok-filled.filled c.in_ok-filled.parts top);
    }

pub put_behind-requires : goal.put_behind-requires
put_behind-requires g c =
    let s = g.B.Bindings.meaning c.args.store.now in
    let same = c.parts.invariant.same in
    subst (λ t. length (g.B.Bindings.waits c.parts.store) < t.places) (sym same)
    (writing_room s c.args.value c.parts.row c.parts.filled c.parts.parts (g.B.Bindings.waits c.parts.store) c.parts.invariant.writing c.in-Some.front (subst (λ t. IsSplit t c.parts.parts c.in-Some.front) same c.in-Some.ensures) (g.met.B.Bindings.placed c.args.store.now) c.requires)

pub parts-preserved : goal.parts-preserved
parts-preserved g c =
    let s = g.B.Bindings.meaning c.args.store.now in
    let same = c.parts.invariant.same in
    let top = subst (λ t. TopIsPut t c.in-Some.front.first c.parts.row c.parts.filled c.put_top-in-Some.new.row c.in_ok-more-in-Some.more c.in_ok-more-in-Some.inner) same c.in_ok-more-in-Some.ensures in
    record {
      same = c.put_behind.ensures.same ∙ same;
      saved = λ ms k. c.put_behind.ensures.saved ms (c.parts.invariant.saved ms k);
      writing = writing_into s c.args.value c.parts.row c.parts.filled c.parts.parts (g.B.Bindings.waits c.parts.store) c.parts.invariant.writing c.in-Some.front (subst (λ t. IsSplit t c.parts.parts c.in-Some.front) same c.in-Some.ensures)
          c.put_top-in-Some.new.row c.in_ok-more-in-Some.more c.in_ok-more-in-Some.inner top (g.B.Bindings.waits c.put_behind.new.store) c.put_behind.ensures.waits;
    }
