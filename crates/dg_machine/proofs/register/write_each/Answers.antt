use Rattle.std.proofs.Common.{◌+◌, refl, ap, ◌∙◌, map, take, length, arith, vec_capacity}
use Rattle.dg_meaning.specs.Values.{value_of}
use Rattle.dg_arena.specs.Held.{meaning_of}
use Rattle.dg_unify.specs.Store.{State}
use Rattle.dg_machine.proofs.Kept.{row_kept}
use Rattle.dg_machine.proofs.TableLemmas.{a_program, a_program_is}
use Rattle.dg_machine.proofs.HeadLemmas.{keeps_same, keeps_on}
use Rattle.dg_machine.proofs.RegisterLemmas.{spare_on, puts_none, terms_on, terms_full, terms_put}
use Rattle.dg_machine.proofs.register.write_each.Goals as goal

pub terms-init : goal.terms-init
terms-init c = record {
  keeps = keeps_same c.args.arena.now;
  put = λ p vs is at. puts_none (meaning_of c.args.arena.now) c.clear.new.self.items c.args.arena.now.sound.heap_fits c.clear.ensures.items;
  count = ap length c.clear.ensures.items;
  capacity = c.clear.ensures.capacity;
  path = refl;
  spare = refl;
  spare_room = refl;
}

pub write_next-requires-clause-row : goal.write_next-requires-clause-row
write_next-requires-clause-row c = let row = c.requires.row in (row.0, row_kept (meaning_of c.args.arena.now) (meaning_of c.terms.arena) c.args.row.now row.0 c.terms.invariant.keeps.kept row.1)

pub write_next-requires-clause-spare : goal.write_next-requires-clause-spare
write_next-requires-clause-spare c =
    let row = c.requires.row in
    let first = c.terms.invariant.put (a_program c.args.tables.now) row.0 (a_program_is c.args.tables.now) row.1 in
    spare_on (meaning_of c.args.arena.now) (meaning_of c.terms.arena) c.args.spare.now.items c.terms.spare.items (vec_capacity c.args.spare.now) (vec_capacity c.terms.spare) c.terms.invariant.keeps.kept (let heap = ap (λ (s : State). s.heap) first.charged.state in omega (arith, heap)) c.terms.invariant.spare c.terms.invariant.spare_room c.requires.spare

pub terms-preserved : goal.terms-preserved
terms-preserved c =
    let old = c.args.arena.now in
    let now = c.terms.arena in
    let new = c.write_next.new.arena in
    let kept = c.terms.invariant.keeps.kept in
    record {
      keeps = keeps_on old now new c.terms.invariant.keeps c.in-Ok.ensures.keeps;
      put = λ p vs is at.
          let before = c.terms.invariant.put p vs is at in
          terms_on p vs c.args.terms.now c.terms.term-index c.term-item.result c.term-item.is c.terms-test.true (meaning_of old) (meaning_of now) (meaning_of new) kept c.terms.to.items c.write_next.new.to.items before
          (c.in-Ok.ensures.put p (map (value_of p vs) (take c.terms.term-index c.args.terms.now)) vs is before.refs_are (row_kept (meaning_of old) (meaning_of now) c.args.row.now vs kept at));
      count = c.in-Ok.ensures.count ∙ ap (λ n. n + 1) c.terms.invariant.count;
      capacity = c.in-Ok.ensures.capacity ∙ c.terms.invariant.capacity;
      path = c.in-Ok.ensures.path ∙ c.terms.invariant.path;
      spare = c.in-Ok.ensures.spare ∙ c.terms.invariant.spare;
      spare_room = c.in-Ok.ensures.spare_room ∙ c.terms.invariant.spare_room;
    }

pub returns-in-Err-clause-keeps : goal.returns-in-Err-clause-keeps
returns-in-Err-clause-keeps c = keeps_on c.args.arena.now c.terms.arena c.write_next.new.arena c.terms.invariant.keeps c.in-Err.ensures.keeps

pub returns-in-Err-clause-put : goal.returns-in-Err-clause-put
returns-in-Err-clause-put c p vs is at =
    let old = c.args.arena.now in
    let now = c.terms.arena in
    let kept = c.terms.invariant.keeps.kept in
    let before = c.terms.invariant.put p vs is at in
    terms_full p vs c.args.terms.now c.terms.term-index c.term-item.result c.term-item.is c.terms-test.true (meaning_of old) (meaning_of now) (meaning_of c.write_next.new.arena) kept c.terms.to.items c.write_next.new.to.items before
    (c.in-Err.ensures.put p (map (value_of p vs) (take c.terms.term-index c.args.terms.now)) vs is before.refs_are (row_kept (meaning_of old) (meaning_of now) c.args.row.now vs kept at))

pub returns-clause-keeps : goal.returns-clause-keeps
returns-clause-keeps c = c.terms.invariant.keeps

pub returns-clause-put : goal.returns-clause-put
returns-clause-put c p vs is at = terms_put p vs c.args.terms.now c.terms.term-index (meaning_of c.args.arena.now) (meaning_of c.terms.arena) c.terms.to.items (omega (arith, c.terms-test.false)) (c.terms.invariant.put p vs is at)
