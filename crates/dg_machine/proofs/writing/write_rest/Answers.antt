use Rattle.std.proofs.Common.{◌∙◌, refl, sym, ap, subst, arith, length}
use Rattle.std.proofs.lemmas.List.Elements.{All-replicate}
use Rattle.dg_unify.specs.Store.{State}
use Rattle.dg_arena.specs.Held.{meaning_of}
use Rattle.dg_meaning.specs.Values.{value_of}
use Rattle.dg_machine.specs.inside.Writing.{reached, cells_left, IsMarkBelow, AreMarks, AreMarksBelow, Writes}
use Rattle.dg_machine.proofs.Kept.{row_kept}
use Rattle.dg_machine.proofs.HeadLemmas.{keeps_same, keeps_on}
use Rattle.dg_machine.proofs.PathLemmas.{marks_stay}
use Rattle.dg_machine.proofs.WriteSteps.{writing_starts, writing_next, writing_ends, writing_cut}
use Rattle.dg_machine.proofs.writing.write_rest.Goals as goal

pub lists-init : goal.lists-init
lists-init c = record {
  keeps = keeps_same c.args.arena.now;
  capacity = refl;
  writing = λ p vs is at gone. writing_starts p vs c.args.whole.now (meaning_of c.args.arena.now) c.args.path.now.items c.args.arena.now.sound.heap_fits gone;
  marks = All-replicate (IsMarkBelow c.args.path.now.items c.args.whole.now) 32 (record { term = c.args.whole; depth = 0 }) (λ _. refl);
  spare = refl;
  spare_room = refl;
}

pub find-start-requires : goal.find-start-requires
find-start-requires c = subst (λ l. AreMarksBelow l c.args.whole.now c.lists.marks) (sym c.as_slice.ensures.value) c.lists.invariant.marks

pub write_list-requires-clause-at : goal.write_list-requires-clause-at
write_list-requires-clause-at c = c.find-start.ensures.found ∙ ap (λ l. reached l c.args.whole.now) c.as_slice.ensures.value

pub write_list-requires-clause-row : goal.write_list-requires-clause-row
write_list-requires-clause-row c =
    let row = c.requires.row in
    let w = c.lists.invariant.writing row.0 row.1 row.2 row.3 row.4 in
    (row.0, row.1, row.2, row_kept (meaning_of c.args.arena.now) (meaning_of c.lists.arena) c.args.row.now row.1 c.lists.invariant.keeps.kept row.3, w.gone)

pub write_list-requires-clause-spare : goal.write_list-requires-clause-spare
write_list-requires-clause-spare c =
    let row = c.requires.row in
    let w = c.lists.invariant.writing row.0 row.1 row.2 row.3 row.4 in
    record {
      fits = omega (arith, c.requires.spare.fits, c.lists.invariant.spare_room, c.lists.invariant.keeps.kept.heap_limit);
      few = omega (arith, c.requires.spare.few, ap length c.lists.invariant.spare, ap (λ (s : State). s.heap) w.charged.state);
    }

pub returns-in-Err-clause-keeps : goal.returns-in-Err-clause-keeps
returns-in-Err-clause-keeps c = keeps_on c.args.arena.now c.lists.arena c.write_list.new.arena c.lists.invariant.keeps c.in-Err.ensures.keeps

pub returns-in-Err-clause-written : goal.returns-in-Err-clause-written
returns-in-Err-clause-written c p vs is at gone =
    let kept = c.lists.invariant.keeps.kept in
    let w = c.lists.invariant.writing p vs is at gone in
    let here = row_kept (meaning_of c.args.arena.now) (meaning_of c.lists.arena) c.args.row.now vs kept at in
    writing_cut p vs c.args.whole.now (cells_left p c.args.path.now.items c.args.whole.now) (meaning_of c.args.arena.now) (meaning_of c.lists.arena) c.lists.path.items kept w (c.in-Err.ensures.written p vs is here w.gone)

pub returns-in-Ok-Some-clause-keeps : goal.returns-in-Ok-Some-clause-keeps
returns-in-Ok-Some-clause-keeps c = keeps_on c.args.arena.now c.lists.arena c.write_list.new.arena c.lists.invariant.keeps c.in-Ok-Some.ensures.keeps

pub returns-in-Ok-Some-clause-written : goal.returns-in-Ok-Some-clause-written
returns-in-Ok-Some-clause-written c p vs is at gone =
    let t = c.args.whole.now in
    let now = meaning_of c.lists.arena in
    let new = meaning_of c.write_list.new.arena in
    let path = c.lists.path.items in
    let kept = c.lists.invariant.keeps.kept in
    let w = c.lists.invariant.writing p vs is at gone in
    let here = row_kept (meaning_of c.args.arena.now) now c.args.row.now vs kept at in
    let made = subst (Writes p vs t now new path c.write_list.new.path.items) c.in-Ok-Some.field-0-is (c.in-Ok-Some.ensures.written p vs is here w.gone) in
    writing_ends p vs t (cells_left p c.args.path.now.items t) (meaning_of c.args.arena.now) now path kept w new c.in-Ok-Some.made (value_of p vs t) made

pub lists-smaller : goal.lists-smaller
lists-smaller c =
    let t = c.args.whole.now in
    let now = meaning_of c.lists.arena in
    let new = meaning_of c.write_list.new.arena in
    let path = c.lists.path.items in
    let row = c.requires.row in
    let p = row.0 in
    let vs = row.1 in
    let w = c.lists.invariant.writing p vs row.2 row.3 row.4 in
    let here = row_kept (meaning_of c.args.arena.now) now c.args.row.now vs c.lists.invariant.keeps.kept row.3 in
    let list = subst (Writes p vs t now new path c.write_list.new.path.items) c.in-Ok-None.field-0-is (c.in-Ok-None.ensures.written p vs row.2 here w.gone) in
    list.fewer

pub lists-preserved : goal.lists-preserved
lists-preserved c =
    let t = c.args.whole.now in
    let old = meaning_of c.args.arena.now in
    let now = meaning_of c.lists.arena in
    let new = meaning_of c.write_list.new.arena in
    let path = c.lists.path.items in
    let behind = c.write_list.new.path.items in
    let kept = c.lists.invariant.keeps.kept in
    let marks : AreMarks path t c.find-start.new.marks = subst (λ l. AreMarks l t c.find-start.new.marks) c.as_slice.ensures.value c.find-start.ensures.marks in
    record {
      keeps = keeps_on c.args.arena.now c.lists.arena c.write_list.new.arena c.lists.invariant.keeps c.in-Ok-None.ensures.keeps;
      capacity = c.in-Ok-None.ensures.capacity ∙ c.lists.invariant.capacity;
      writing = λ p vs is at gone.
          let w = c.lists.invariant.writing p vs is at gone in
          let here = row_kept old now c.args.row.now vs kept at in
          let list = subst (Writes p vs t now new path behind) c.in-Ok-None.field-0-is (c.in-Ok-None.ensures.written p vs is here w.gone) in
          writing_next p vs t (cells_left p c.args.path.now.items t) old now path kept w new behind list;
      marks = marks_stay path behind t c.find-start.new.marks c.in-Ok-None.ensures.fronts marks;
      spare = c.in-Ok-None.ensures.spare ∙ c.lists.invariant.spare;
      spare_room = c.in-Ok-None.ensures.spare_room ∙ c.lists.invariant.spare_room;
    }
