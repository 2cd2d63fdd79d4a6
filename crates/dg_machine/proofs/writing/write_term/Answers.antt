use Rattle.std.proofs.Common.{◌∙◌, refl, sym, ap, subst, arith, length}
use Rattle.std.proofs.lemmas.Result.{MatchResult-weaker}
use Rattle.dg_meaning.specs.Values.{value_of}
use Rattle.dg_unify.specs.Store.{State}
use Rattle.dg_unify.proofs.StoreLemmas.{kept_on}
use Rattle.dg_arena.specs.Held.{meaning_of}
use Rattle.dg_machine.specs.inside.Writing.{reached, cells_of, Writes}
use Rattle.dg_machine.proofs.Kept.{row_kept}
use Rattle.dg_machine.proofs.TableLemmas.{a_program, a_program_is}
use Rattle.dg_machine.proofs.HeadLemmas.{keeps_same, keeps_on}
use Rattle.dg_machine.proofs.WriteSteps.{nothing_gone, nothing_around, writing_starts, writing_next, writing_ends, writing_cut, IsWriting}
use Rattle.dg_machine.proofs.writing.write_term.Goals as goal

pub lists-init : goal.lists-init
lists-init c = record {
  keeps = keeps_same c.args.arena.now;
  capacity = c.clear.ensures.capacity;
  at = sym (ap (λ l. reached l c.args.whole.now) c.clear.ensures.items);
  writing = λ p vs is at.
      let s = meaning_of c.args.arena.now in
      let path = c.clear.new.self.items in
      let t = c.args.whole.now in
      subst (λ n. IsWriting p vs t n s s path) (nothing_around p vs t path c.clear.ensures.items)
      (writing_starts p vs t s path c.args.arena.now.sound.heap_fits (nothing_gone p vs t s path c.clear.ensures.items));
  spare = refl;
  spare_room = refl;
}

pub write_list-requires-clause-row : goal.write_list-requires-clause-row
write_list-requires-clause-row c =
    let p = a_program c.args.tables.now in
    let is = a_program_is c.args.tables.now in
    let row = c.requires.row in
    let w = c.lists.invariant.writing p row.0 is row.1 in
    (p, row.0, is, row_kept (meaning_of c.args.arena.now) (meaning_of c.lists.arena) c.args.row.now row.0 c.lists.invariant.keeps.kept row.1, w.gone)

pub write_list-requires-clause-spare : goal.write_list-requires-clause-spare
write_list-requires-clause-spare c =
    let w = c.lists.invariant.writing (a_program c.args.tables.now) c.requires.row.0 (a_program_is c.args.tables.now) c.requires.row.1 in
    record {
      fits = omega (arith, c.requires.spare.fits, c.lists.invariant.spare_room, c.lists.invariant.keeps.kept.heap_limit);
      few = omega (arith, c.requires.spare.few, ap length c.lists.invariant.spare, ap (λ (s : State). s.heap) w.charged.state);
    }

pub returns-in-Err-clause-keeps : goal.returns-in-Err-clause-keeps
returns-in-Err-clause-keeps c = keeps_on c.args.arena.now c.lists.arena c.write_list.new.arena c.lists.invariant.keeps c.in-Err.ensures.keeps

pub returns-in-Err-clause-written : goal.returns-in-Err-clause-written
returns-in-Err-clause-written c p vs is at =
    let kept = c.lists.invariant.keeps.kept in
    let w = c.lists.invariant.writing p vs is at in
    let here = row_kept (meaning_of c.args.arena.now) (meaning_of c.lists.arena) c.args.row.now vs kept at in
    writing_cut p vs c.args.whole.now (cells_of p c.args.whole.now) (meaning_of c.args.arena.now) (meaning_of c.lists.arena) c.lists.path.items kept w (c.in-Err.ensures.written p vs is here w.gone)

pub returns-in-Ok-Some-clause-keeps : goal.returns-in-Ok-Some-clause-keeps
returns-in-Ok-Some-clause-keeps c = keeps_on c.args.arena.now c.lists.arena c.write_list.new.arena c.lists.invariant.keeps c.in-Ok-Some.ensures.keeps

pub returns-in-Ok-Some-clause-written : goal.returns-in-Ok-Some-clause-written
returns-in-Ok-Some-clause-written c p vs is at =
    let t = c.args.whole.now in
    let now = meaning_of c.lists.arena in
    let new = meaning_of c.write_list.new.arena in
    let path = c.lists.path.items in
    let kept = c.lists.invariant.keeps.kept in
    let w = c.lists.invariant.writing p vs is at in
    let here = row_kept (meaning_of c.args.arena.now) now c.args.row.now vs kept at in
    let made = subst (Writes p vs t now new path c.write_list.new.path.items) c.in-Ok-Some.field-0-is (c.in-Ok-Some.ensures.written p vs is here w.gone) in
    writing_ends p vs t (cells_of p t) (meaning_of c.args.arena.now) now path kept w new c.in-Ok-Some.made (value_of p vs t) made

pub lists-smaller : goal.lists-smaller
lists-smaller c =
    let t = c.args.whole.now in
    let now = meaning_of c.lists.arena in
    let new = meaning_of c.write_list.new.arena in
    let p = a_program c.args.tables.now in
    let is = a_program_is c.args.tables.now in
    let row = c.requires.row in
    let w = c.lists.invariant.writing p row.0 is row.1 in
    let here = row_kept (meaning_of c.args.arena.now) now c.args.row.now row.0 c.lists.invariant.keeps.kept row.1 in
    let list = subst (Writes p row.0 t now new c.lists.path.items c.write_list.new.path.items) c.in-Ok-None.field-0-is (c.in-Ok-None.ensures.written p row.0 is here w.gone) in
    list.fewer

pub lists-preserved : goal.lists-preserved
lists-preserved c =
    let t = c.args.whole.now in
    let old = meaning_of c.args.arena.now in
    let now = meaning_of c.lists.arena in
    let new = meaning_of c.write_list.new.arena in
    let path = c.lists.path.items in
    let behind = c.write_list.new.path.items in
    let kept = c.lists.invariant.keeps.kept in
    record {
      keeps = keeps_on c.args.arena.now c.lists.arena c.write_list.new.arena c.lists.invariant.keeps c.in-Ok-None.ensures.keeps;
      capacity = c.in-Ok-None.ensures.capacity ∙ c.lists.invariant.capacity;
      at = c.reach-start.ensures ∙ ap (λ l. reached l t) c.as_slice.ensures.value;
      writing = λ p vs is at.
          let w = c.lists.invariant.writing p vs is at in
          let here = row_kept old now c.args.row.now vs kept at in
          let list = subst (Writes p vs t now new path behind) c.in-Ok-None.field-0-is (c.in-Ok-None.ensures.written p vs is here w.gone) in
          writing_next p vs t (cells_of p t) old now path kept w new behind list;
      spare = c.in-Ok-None.ensures.spare ∙ c.lists.invariant.spare;
      spare_room = c.in-Ok-None.ensures.spare_room ∙ c.lists.invariant.spare_room;
    }

pub write_rest-requires-clause-row : goal.write_rest-requires-clause-row
write_rest-requires-clause-row c =
    let t = c.args.whole.now in
    let old = meaning_of c.args.arena.now in
    let now = meaning_of c.lists.arena in
    let new = meaning_of c.write_list.new.arena in
    let path = c.lists.path.items in
    let behind = c.write_list.new.path.items in
    let kept = c.lists.invariant.keeps.kept in
    let p = a_program c.args.tables.now in
    let is = a_program_is c.args.tables.now in
    let row = c.requires.row in
    let w = c.lists.invariant.writing p row.0 is row.1 in
    let here = row_kept old now c.args.row.now row.0 kept row.1 in
    let list = subst (Writes p row.0 t now new path behind) c.in-Ok-None.field-0-is (c.in-Ok-None.ensures.written p row.0 is here w.gone) in
    (p, row.0, is, row_kept now new c.args.row.now row.0 c.in-Ok-None.ensures.keeps.kept here, list.gone)

pub write_rest-requires-clause-spare : goal.write_rest-requires-clause-spare
write_rest-requires-clause-spare c =
    let t = c.args.whole.now in
    let old = meaning_of c.args.arena.now in
    let now = meaning_of c.lists.arena in
    let new = meaning_of c.write_list.new.arena in
    let path = c.lists.path.items in
    let behind = c.write_list.new.path.items in
    let kept = c.lists.invariant.keeps.kept in
    let p = a_program c.args.tables.now in
    let is = a_program_is c.args.tables.now in
    let row = c.requires.row in
    let w = c.lists.invariant.writing p row.0 is row.1 in
    let here = row_kept old now c.args.row.now row.0 kept row.1 in
    let list = subst (Writes p row.0 t now new path behind) c.in-Ok-None.field-0-is (c.in-Ok-None.ensures.written p row.0 is here w.gone) in
    record {
      fits = omega (arith, c.requires.spare.fits, c.lists.invariant.spare_room, c.in-Ok-None.ensures.spare_room, kept.heap_limit, c.in-Ok-None.ensures.keeps.kept.heap_limit);
      few = omega (arith, c.requires.spare.few, ap length c.lists.invariant.spare, ap length c.in-Ok-None.ensures.spare, ap (λ (s : State). s.heap) w.charged.state, ap (λ (s : State). s.heap) list.charged.state);
    }

pub returns-then-len-gt-SHORT-clause-written : goal.returns-then-len-gt-SHORT-clause-written
returns-then-len-gt-SHORT-clause-written c p vs is at =
    let t = c.args.whole.now in
    let old = meaning_of c.args.arena.now in
    let now = meaning_of c.lists.arena in
    let mid = meaning_of c.write_list.new.arena in
    let new = meaning_of c.write_rest.new.arena in
    let path = c.lists.path.items in
    let behind = c.write_list.new.path.items in
    let kept = c.lists.invariant.keeps.kept in
    let kept_mid = c.in-Ok-None.ensures.keeps.kept in
    let w = c.lists.invariant.writing p vs is at in
    let here = row_kept old now c.args.row.now vs kept at in
    let list = subst (Writes p vs t now mid path behind) c.in-Ok-None.field-0-is (c.in-Ok-None.ensures.written p vs is here w.gone) in
    let next = writing_next p vs t (cells_of p t) old now path kept w mid behind list in
    let to_mid = kept_on old now mid kept kept_mid in
    MatchResult-weaker c.write_rest.result (c.write_rest.ensures.written p vs is (row_kept now mid c.args.row.now vs kept_mid here) list.gone)
    (λ r m. writing_ends p vs t (cells_of p t) old mid behind to_mid next new r (value_of p vs t) m)
    (λ _ over. writing_cut p vs t (cells_of p t) old mid behind to_mid next over)
