use Rattle.std.proofs.Common.{◌≡◌, ◌+◌, [], ◌∷◌, refl, sym, ap, ◌∙◌, subst, arith}
use Rattle.dg_base.specs.declared.program.Term.{out-Term}
use Rattle.dg_base.specs.declared.program.Term.TheVariants.{Pair as Pair-Term}
use Rattle.dg_meaning.specs.Values.{pair, value_of}
use Rattle.dg_meaning.specs.Substitutions.{walk}
use Rattle.dg_meaning.specs.inside.Unify.{unify}
use Rattle.dg_unify.specs.Store.{told, ShowsPair, Follows}
use Rattle.dg_unify.proofs.StoreLemmas.{holds_some}
use Rattle.dg_arena.specs.Held.{meaning_of}
use Rattle.dg_mid.specs.Heads.{IsPlain, Flat}
use Rattle.dg_mid.proofs.FlatLemmas.{cells_pair}
use Rattle.dg_machine.specs.Heads.{at_heap}
use Rattle.dg_machine.specs.inside.Joins.{answer_of}
use Rattle.dg_machine.specs.inside.Writing.{cells_of, nodes_of}
use Rattle.dg_machine.proofs.Kept.{row_kept}
use Rattle.dg_machine.proofs.PathLemmas.{value_pair, nodes_pair}
use Rattle.dg_machine.proofs.HeadLemmas.{keeps_same, keeps_on}
use Rattle.dg_machine.proofs.Matching.{left_starts}
use Rattle.dg_machine.proofs.HeadMatching.{no_program, own_kept, flat_parts, flat_plain, heap_grown, heap_few, left_last, part_full, part_clash, part_on}
use Rattle.dg_machine.proofs.heads.match_flat.Goals as goal

pub pairs-init : goal.pairs-init
pairs-init c = record {
  keeps = keeps_same c.args.arena.now;
  flat = c.requires.flat;
  there = c.requires.arg;
  heap = refl;
  cells = λ p. omega arith;
  left = λ p vs at. left_starts (meaning_of c.args.arena.now).state ((told (meaning_of c.args.arena.now) c.args.arg, value_of p vs c.args.term.now) ∷ []);
}

pub match_plain-requires-clause-plain : goal.match_plain-requires-clause-plain
match_plain-requires-clause-plain c = subst (λ t. IsPlain (out-Term t)) (sym c.get.ensures) (flat_parts c.pairs.rest.now c.in-Pair.head c.in-Pair.tail c.in-Pair.is c.pairs.invariant.flat).head

pub walk-requires : goal.walk-requires
walk-requires c = c.pairs.invariant.there

pub match_plain-requires-clause-row : goal.match_plain-requires-clause-row
match_plain-requires-clause-row c = (c.requires.row.0, row_kept (meaning_of c.args.arena.now) (meaning_of c.pairs.arena) c.args.row.now c.requires.row.0 c.pairs.invariant.keeps.kept c.requires.row.1)

pub match_plain-requires-clause-own : goal.match_plain-requires-clause-own
match_plain-requires-clause-own c = own_kept (meaning_of c.args.arena.now) (meaning_of c.pairs.arena) c.args.row.now c.args.number c.pairs.invariant.keeps.kept c.requires.own

pub match_plain-requires-clause-arg : goal.match_plain-requires-clause-arg
match_plain-requires-clause-arg c =
    let s = meaning_of c.pairs.arena in
    let sh : ShowsPair s (walk s.state.subst (told s c.pairs.at)) c.in-Pair-walk.first c.in-Pair-walk.others = rw c.in-Pair-walk.is at c.walk.ensures in
    holds_some s c.in-Pair-walk.first sh.head sh.head_is

pub returns-in-Err : goal.returns-in-Err
returns-in-Err c =
    let old = c.args.arena.now in
    let now = c.pairs.arena in
    let s = meaning_of now in
    let new = c.match_plain.new.arena in
    let h = c.in-Pair.head in
    let tl = c.in-Pair.tail in
    let sh : ShowsPair s (walk s.state.subst (told s c.pairs.at)) c.in-Pair-walk.first c.in-Pair-walk.others = rw c.in-Pair-walk.is at c.walk.ensures in
    record {
      keeps = keeps_on old now new c.pairs.invariant.keeps c.match_plain.ensures.keeps;
      matched = λ p vs at.
          let here = row_kept (meaning_of old) s c.args.row.now vs c.pairs.invariant.keeps.kept at in
          let is : value_of p vs c.pairs.rest.now ≡ pair (value_of p vs c.get.result.now) (value_of p vs tl) = rw c.get.ensures (value_pair p vs c.pairs.rest.now h tl c.in-Pair.is) in
          rw c.lacking.ensures (part_full old now c.pairs.invariant.keeps ((told (meaning_of old) c.args.arg, value_of p vs c.args.term.now) ∷ []) c.pairs.at (value_of p vs c.pairs.rest.now) (c.pairs.invariant.left p vs at)
          c.in-Pair-walk.first c.in-Pair-walk.others sh (value_of p vs c.get.result.now) (value_of p vs tl) is (meaning_of new) c.in-Err.full (rw (sym c.in-Err.ensures) at (c.match_plain.ensures.matched p vs here)));
      more = rw c.lacking.ensures tt;
      few = rw c.lacking.ensures tt;
    }

pub returns-in-Ok-false : goal.returns-in-Ok-false
returns-in-Ok-false c =
    let old = c.args.arena.now in
    let now = c.pairs.arena in
    let s = meaning_of now in
    let new = c.match_plain.new.arena in
    let h = c.in-Pair.head in
    let tl = c.in-Pair.tail in
    let row = c.requires.row in
    let x = rw (sym c.in-Ok-false.ensures) at (c.match_plain.ensures.matched no_program row.0 (row_kept (meaning_of old) s c.args.row.now row.0 c.pairs.invariant.keeps.kept row.1)) in
    let sh : ShowsPair s (walk s.state.subst (told s c.pairs.at)) c.in-Pair-walk.first c.in-Pair-walk.others = rw c.in-Pair-walk.is at c.walk.ensures in
    record {
      keeps = keeps_on old now new c.pairs.invariant.keeps c.match_plain.ensures.keeps;
      matched = λ p vs at.
          let here = row_kept (meaning_of old) s c.args.row.now vs c.pairs.invariant.keeps.kept at in
          let is : value_of p vs c.pairs.rest.now ≡ pair (value_of p vs c.get.result.now) (value_of p vs tl) = rw c.get.ensures (value_pair p vs c.pairs.rest.now h tl c.in-Pair.is) in
          part_clash old now c.pairs.invariant.keeps ((told (meaning_of old) c.args.arg, value_of p vs c.args.term.now) ∷ []) c.pairs.at (value_of p vs c.pairs.rest.now) (c.pairs.invariant.left p vs at)
          c.in-Pair-walk.first c.in-Pair-walk.others sh (value_of p vs c.get.result.now) (value_of p vs tl) is (meaning_of new) c.in-Ok-false.field-0 c.in-Ok-false.field-0-test (rw (sym c.in-Ok-false.ensures) at (c.match_plain.ensures.matched p vs here));
      more = omega (arith, x.binds.heap, c.pairs.invariant.heap);
      few = λ p. omega (arith, x.binds.heap, c.pairs.invariant.heap);
    }

pub pairs-smaller : goal.pairs-smaller
pairs-smaller c = omega (arith, nodes_pair c.pairs.rest.now c.in-Pair.head c.in-Pair.tail c.in-Pair.is, ap nodes_of c.get-rest.ensures)

pub pairs-preserved : goal.pairs-preserved
pairs-preserved c =
    let old = c.args.arena.now in
    let now = c.pairs.arena in
    let s = meaning_of now in
    let new = c.match_plain.new.arena in
    let h = c.in-Pair.head in
    let tl = c.in-Pair.tail in
    let row = c.requires.row in
    let x = rw (sym c.in-Ok-true.ensures) at (c.match_plain.ensures.matched no_program row.0 (row_kept (meaning_of old) s c.args.row.now row.0 c.pairs.invariant.keeps.kept row.1)) in
    let sh : ShowsPair s (walk s.state.subst (told s c.pairs.at)) c.in-Pair-walk.first c.in-Pair-walk.others = rw c.in-Pair-walk.is at c.walk.ensures in
    record {
      keeps = keeps_on old now new c.pairs.invariant.keeps c.match_plain.ensures.keeps;
      flat = subst Flat (sym c.get-rest.ensures) (flat_parts c.pairs.rest.now h tl c.in-Pair.is c.pairs.invariant.flat).tail;
      there = holds_some (meaning_of new) c.in-Pair-walk.others sh.tail (c.match_plain.ensures.keeps.kept.values c.in-Pair-walk.others sh.tail sh.tail_is);
      heap = x.binds.heap ∙ c.pairs.invariant.heap;
      cells = λ p. omega (arith, c.pairs.invariant.cells p, cells_pair p c.pairs.rest.now h tl c.in-Pair.is, ap (cells_of p) c.get-rest.ensures);
      left = λ p vs at.
          let here = row_kept (meaning_of old) s c.args.row.now vs c.pairs.invariant.keeps.kept at in
          let is : value_of p vs c.pairs.rest.now ≡ pair (value_of p vs c.get.result.now) (value_of p vs c.get-rest.result.now) = rw (c.get.ensures, c.get-rest.ensures) (value_pair p vs c.pairs.rest.now h tl c.in-Pair.is) in
          part_on old now c.pairs.invariant.keeps ((told (meaning_of old) c.args.arg, value_of p vs c.args.term.now) ∷ []) c.pairs.at (value_of p vs c.pairs.rest.now) (c.pairs.invariant.left p vs at)
          c.in-Pair-walk.first c.in-Pair-walk.others sh (value_of p vs c.get.result.now) (value_of p vs c.get-rest.result.now) is new c.match_plain.ensures.keeps c.in-Ok-true.field-0 c.in-Ok-true.field-0-test (rw (sym c.in-Ok-true.ensures) at (c.match_plain.ensures.matched p vs here));
    }

pub match_unbound-requires-clause-head : goal.match_unbound-requires-clause-head
match_unbound-requires-clause-head c = subst (λ t. IsPlain (out-Term t)) (sym c.get-in-Unbound.ensures) (flat_parts c.pairs.rest.now c.in-Pair.head c.in-Pair.tail c.in-Pair.is c.pairs.invariant.flat).head

pub match_unbound-requires-clause-row : goal.match_unbound-requires-clause-row
match_unbound-requires-clause-row c = (c.requires.row.0, row_kept (meaning_of c.args.arena.now) (meaning_of c.pairs.arena) c.args.row.now c.requires.row.0 c.pairs.invariant.keeps.kept c.requires.row.1)

pub match_unbound-requires-clause-room : goal.match_unbound-requires-clause-room
match_unbound-requires-clause-room c =
    omega (arith, c.requires.room no_program, c.pairs.invariant.cells no_program, cells_pair no_program c.pairs.rest.now c.in-Pair.head c.in-Pair.tail c.in-Pair.is, c.pairs.invariant.heap, c.pairs.invariant.keeps.kept.heap_limit)

pub returns-in-Unbound-clause-matched : goal.returns-in-Unbound-clause-matched
returns-in-Unbound-clause-matched c p vs at =
    let old = c.args.arena.now in
    let now = c.pairs.arena in
    let s = meaning_of now in
    let new = meaning_of c.match_unbound.new.arena in
    let here = row_kept (meaning_of old) s c.args.row.now vs c.pairs.invariant.keeps.kept at in
    let k = s.state.heap + 3 in
    let is : Pair-Term c.get-in-Unbound.result.now c.get-in-Unbound-2.result.now ≡ c.pairs.rest.now = rw (c.get-in-Unbound.ensures, c.get-in-Unbound-2.ensures) (sym c.in-Pair.is) in
    left_last old now c.pairs.invariant.keeps ((told (meaning_of old) c.args.arg, value_of p vs c.args.term.now) ∷ []) c.pairs.at (value_of p vs c.pairs.rest.now) (c.pairs.invariant.left p vs at) k new (answer_of c.match_unbound.result)
    (subst (λ t. Follows (at_heap k s) new (unify s.state.subst (told s c.pairs.at) (value_of p vs t)) (answer_of c.match_unbound.result)) is (c.match_unbound.ensures.matched p vs here))

pub returns-in-Unbound-clause-more : goal.returns-in-Unbound-clause-more
returns-in-Unbound-clause-more c =
    let old = meaning_of c.args.arena.now in
    let s = meaning_of c.pairs.arena in
    let vs = c.requires.row.0 in
    let some = row_kept old s c.args.row.now vs c.pairs.invariant.keeps.kept c.requires.row.1 in
    let whole = Pair-Term c.get-in-Unbound.result.now c.get-in-Unbound-2.result.now in
    heap_grown s (meaning_of c.match_unbound.new.arena) (s.state.heap + 3) old.state.heap (unify s.state.subst (told s c.pairs.at) (value_of no_program vs whole)) (answer_of c.match_unbound.result) (c.match_unbound.ensures.matched no_program vs some) (omega (arith, c.pairs.invariant.heap))

pub returns-in-Unbound-clause-few : goal.returns-in-Unbound-clause-few
returns-in-Unbound-clause-few c =
    let old = meaning_of c.args.arena.now in
    let s = meaning_of c.pairs.arena in
    let vs = c.requires.row.0 in
    let some = row_kept old s c.args.row.now vs c.pairs.invariant.keeps.kept c.requires.row.1 in
    let whole = Pair-Term c.get-in-Unbound.result.now c.get-in-Unbound-2.result.now in
    heap_few s (meaning_of c.match_unbound.new.arena) (λ p. s.state.heap + 3) (λ p. old.state.heap + cells_of p c.args.term.now) (λ p. unify s.state.subst (told s c.pairs.at) (value_of p vs whole)) (answer_of c.match_unbound.result) (λ p. c.match_unbound.ensures.matched p vs some)
    (λ p. omega (arith, c.pairs.invariant.heap, c.pairs.invariant.cells p, cells_pair p c.pairs.rest.now c.in-Pair.head c.in-Pair.tail c.in-Pair.is))

pub write_apart-requires : goal.write_apart-requires
write_apart-requires c = record {
  flat = c.pairs.invariant.flat;
  row = (c.requires.row.0, row_kept (meaning_of c.args.arena.now) (meaning_of c.pairs.arena) c.args.row.now c.requires.row.0 c.pairs.invariant.keeps.kept c.requires.row.1);
  arg = c.pairs.invariant.there;
  room = λ p. omega (arith, c.requires.room p, c.pairs.invariant.cells p, c.pairs.invariant.heap, c.pairs.invariant.keeps.kept.heap_limit);
}

pub returns-in_default-walk : goal.returns-in_default-walk
returns-in_default-walk c =
    let old = c.args.arena.now in
    let now = c.pairs.arena in
    let new = c.write_apart.new.arena in
    let vs = c.requires.row.0 in
    let some = row_kept (meaning_of old) (meaning_of now) c.args.row.now vs c.pairs.invariant.keeps.kept c.requires.row.1 in
    record {
      keeps = keeps_on old now new c.pairs.invariant.keeps c.write_apart.ensures.keeps;
      matched = λ p vs at.
          let here = row_kept (meaning_of old) (meaning_of now) c.args.row.now vs c.pairs.invariant.keeps.kept at in
          left_last old now c.pairs.invariant.keeps ((told (meaning_of old) c.args.arg, value_of p vs c.args.term.now) ∷ []) c.pairs.at (value_of p vs c.pairs.rest.now) (c.pairs.invariant.left p vs at)
          ((meaning_of now).state.heap + cells_of p c.pairs.rest.now) (meaning_of new) (answer_of c.write_apart.result) (c.write_apart.ensures.matched p vs here);
      more = heap_grown (meaning_of now) (meaning_of new) ((meaning_of now).state.heap + cells_of no_program c.pairs.rest.now) (meaning_of old).state.heap
          (unify (meaning_of now).state.subst (told (meaning_of now) c.pairs.at) (value_of no_program vs c.pairs.rest.now)) (answer_of c.write_apart.result) (c.write_apart.ensures.matched no_program vs some) (omega (arith, c.pairs.invariant.heap));
      few = heap_few (meaning_of now) (meaning_of new) (λ p. (meaning_of now).state.heap + cells_of p c.pairs.rest.now) (λ p. (meaning_of old).state.heap + cells_of p c.args.term.now)
          (λ p. unify (meaning_of now).state.subst (told (meaning_of now) c.pairs.at) (value_of p vs c.pairs.rest.now)) (answer_of c.write_apart.result) (λ p. c.write_apart.ensures.matched p vs some) (λ p. omega (arith, c.pairs.invariant.heap, c.pairs.invariant.cells p));
    }

pub match_plain-requires-2 : goal.match_plain-requires-2
match_plain-requires-2 c = record {
  plain = flat_plain c.pairs.rest.now c.in_default.not-Pair c.pairs.invariant.flat;
  row = (c.requires.row.0, row_kept (meaning_of c.args.arena.now) (meaning_of c.pairs.arena) c.args.row.now c.requires.row.0 c.pairs.invariant.keeps.kept c.requires.row.1);
  own = own_kept (meaning_of c.args.arena.now) (meaning_of c.pairs.arena) c.args.row.now c.args.number c.pairs.invariant.keeps.kept c.requires.own;
  arg = c.pairs.invariant.there;
}

pub returns : goal.returns
returns c =
    let old = c.args.arena.now in
    let now = c.pairs.arena in
    let new = c.match_plain-2.new.arena in
    let vs = c.requires.row.0 in
    let some = row_kept (meaning_of old) (meaning_of now) c.args.row.now vs c.pairs.invariant.keeps.kept c.requires.row.1 in
    record {
      keeps = keeps_on old now new c.pairs.invariant.keeps c.match_plain-2.ensures.keeps;
      matched = λ p vs at.
          let here = row_kept (meaning_of old) (meaning_of now) c.args.row.now vs c.pairs.invariant.keeps.kept at in
          left_last old now c.pairs.invariant.keeps ((told (meaning_of old) c.args.arg, value_of p vs c.args.term.now) ∷ []) c.pairs.at (value_of p vs c.pairs.rest.now) (c.pairs.invariant.left p vs at)
          (meaning_of now).state.heap (meaning_of new) (answer_of c.match_plain-2.result) (c.match_plain-2.ensures.matched p vs here);
      more = heap_grown (meaning_of now) (meaning_of new) (meaning_of now).state.heap (meaning_of old).state.heap
          (unify (meaning_of now).state.subst (told (meaning_of now) c.pairs.at) (value_of no_program vs c.pairs.rest.now)) (answer_of c.match_plain-2.result) (c.match_plain-2.ensures.matched no_program vs some) (omega (arith, c.pairs.invariant.heap));
      few = heap_few (meaning_of now) (meaning_of new) (λ p. (meaning_of now).state.heap) (λ p. (meaning_of old).state.heap + cells_of p c.args.term.now)
          (λ p. unify (meaning_of now).state.subst (told (meaning_of now) c.pairs.at) (value_of p vs c.pairs.rest.now)) (answer_of c.match_plain-2.result) (λ p. c.match_plain-2.ensures.matched p vs some) (λ p. omega (arith, c.pairs.invariant.heap));
    }
