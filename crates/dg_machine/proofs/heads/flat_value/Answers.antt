use Rattle.std.proofs.Common.{◌≡◌, ◌+◌, ◌*◌, [], ◌∷◌, refl, sym, ap, ◌∙◌, subst, arith, length, take}
use Rattle.std.proofs.lemmas.List.{length-set, length-take-le, take_more_set}
use Rattle.dg_meaning.specs.Values.{pair, value_of}
use Rattle.dg_meaning.specs.Cells.{cells}
use Rattle.dg_unify.proofs.StoreLemmas.{holds_some}
use Rattle.dg_arena.specs.Held.{meaning_of}
use Rattle.dg_mid.proofs.FlatLemmas.{plain_cell, cells_pair}
use Rattle.dg_machine.specs.Heads.{listed}
use Rattle.dg_machine.specs.inside.Writing.{cells_of, nodes_of}
use Rattle.dg_machine.proofs.Kept.{row_kept, refs_kept}
use Rattle.dg_machine.proofs.PathLemmas.{value_pair, nodes_pair}
use Rattle.dg_machine.proofs.HeadLemmas.{keeps_same, keeps_on, stays_on}
use Rattle.dg_machine.proofs.HeadMatching.{no_program, Rest, rest_parts, rest_plain, written_on, written_from}
use Rattle.dg_machine.proofs.heads.flat_value.Goals as goal

pub heads-init : goal.heads-init
heads-init c = record {
  stays = record { keeps = keeps_same c.args.arena.now; state = refl };
  size = refl;
  flat = record { pairs = c.requires.flat.pairs; is = c.requires.flat.is; few = omega (arith, c.requires.flat.few) };
  cells = λ p. omega arith;
  written = λ p vs at. record { us = []; there = tt; is = refl };
}

pub plain_value-requires-clause-plain : goal.plain_value-requires-clause-plain
plain_value-requires-clause-plain c = rw c.get.ensures (rest_parts c.heads.rest.now c.in-Pair.head c.in-Pair.tail c.heads.count c.in-Pair.is c.heads.invariant.flat).head

pub plain_value-requires-clause-row : goal.plain_value-requires-clause-row
plain_value-requires-clause-row c = (c.requires.row.0, row_kept (meaning_of c.args.arena.now) (meaning_of c.heads.arena) c.args.row.now c.requires.row.0 c.heads.invariant.stays.keeps.kept c.requires.row.1)

pub heads-smaller : goal.heads-smaller
heads-smaller c = omega (arith, nodes_pair c.heads.rest.now c.in-Pair.head c.in-Pair.tail c.in-Pair.is, ap nodes_of c.get-rest.ensures)

pub heads-preserved : goal.heads-preserved
heads-preserved c =
    let old = c.args.arena.now in
    let now = c.heads.arena in
    let new = c.plain_value.new.arena in
    let h = c.in-Pair.head in
    let tl = c.in-Pair.tail in
    let parts = rest_parts c.heads.rest.now h tl c.heads.count c.in-Pair.is c.heads.invariant.flat in
    record {
      stays = stays_on old now new c.heads.invariant.stays c.plain_value.ensures.stays;
      size = length-set c.heads.values c.heads.count c.plain_value.result ∙ c.heads.invariant.size;
      flat = subst (λ t. Rest t (c.heads.count + 1)) (sym c.get-rest.ensures) parts.tail;
      cells = λ p. omega (arith, c.heads.invariant.cells p, cells_pair p c.heads.rest.now h tl c.in-Pair.is, plain_cell p h parts.head, ap (cells_of p) c.get-rest.ensures);
      written = λ p vs at.
          let here = row_kept (meaning_of old) (meaning_of now) c.args.row.now vs c.heads.invariant.stays.keeps.kept at in
          let is : value_of p vs c.heads.rest.now ≡ pair (value_of p vs c.get.result.now) (value_of p vs c.get-rest.result.now) = rw (c.get.ensures, c.get-rest.ensures) (value_pair p vs c.heads.rest.now h tl c.in-Pair.is) in
          let pushed = take_more_set c.heads.values c.heads.count c.plain_value.result (omega (arith, c.heads.invariant.size, parts.fits)) in
          written_on (meaning_of now) (meaning_of new) (take c.heads.count c.heads.values) _ c.plain_value.result (value_of p vs c.args.term.now) (value_of p vs c.heads.rest.now) (value_of p vs c.get.result.now) (value_of p vs c.get-rest.result.now) c.plain_value.ensures.stays.keeps.kept
          pushed (c.plain_value.ensures.value p vs here) is (c.heads.invariant.written p vs at);
    }

pub plain_value-end-requires : goal.plain_value-end-requires
plain_value-end-requires c = record {
  plain = rest_plain c.heads.rest.now c.heads.count c.in_default.not-Pair c.heads.invariant.flat;
  row = (c.requires.row.0, row_kept (meaning_of c.args.arena.now) (meaning_of c.heads.arena) c.args.row.now c.requires.row.0 c.heads.invariant.stays.keeps.kept c.requires.row.1);
}

pub make_list-requires : goal.make_list-requires
make_list-requires c =
    let s = meaning_of c.plain_value-end.new.arena in
    let vs = c.requires.row.0 in
    let here = row_kept (meaning_of c.args.arena.now) (meaning_of c.heads.arena) c.args.row.now vs c.heads.invariant.stays.keeps.kept c.requires.row.1 in
    let x = c.heads.invariant.written no_program vs c.requires.row.1 in
    record {
      values = (x.us, refs_kept (meaning_of c.heads.arena) s (take c.heads.count c.heads.values) x.us c.plain_value-end.ensures.stays.keeps.kept x.there);
      end = holds_some s c.plain_value-end.result (value_of no_program vs c.heads.rest.now) (c.plain_value-end.ensures.value no_program vs here);
    }

pub returns : goal.returns
returns c =
    let old = c.args.arena.now in
    let now = c.heads.arena in
    let mid = c.plain_value-end.new.arena in
    let stays = stays_on old now mid c.heads.invariant.stays c.plain_value-end.ensures.stays in
    let refs = take c.heads.count c.heads.values in
    let plain = rest_plain c.heads.rest.now c.heads.count c.in_default.not-Pair c.heads.invariant.flat in
    let count : length refs ≡ c.heads.count = length-take-le c.heads.count c.heads.values (omega (arith, c.heads.invariant.flat.few, c.heads.invariant.size)) in
    record {
      keeps = keeps_on old mid c.make_list.new.arena stays.keeps c.make_list.ensures.keeps;
      made = λ p vs at.
          let here = row_kept (meaning_of old) (meaning_of now) c.args.row.now vs c.heads.invariant.stays.keeps.kept at in
          let x = c.heads.invariant.written p vs at in
          let all : cells p (c.args.term.now ∷ []) ≡ 3 * length refs = omega (arith, c.heads.invariant.cells p, plain_cell p c.heads.rest.now plain, count) in
          written_from (meaning_of old) (meaning_of mid) (meaning_of c.make_list.new.arena) (3 * length refs) (cells p (c.args.term.now ∷ [])) (listed x.us (value_of p vs c.heads.rest.now)) (value_of p vs c.args.term.now) c.make_list.result all old.sound.heap_fits stays.keeps.kept stays.state x.is
          (c.make_list.ensures.made x.us (value_of p vs c.heads.rest.now) (refs_kept (meaning_of now) (meaning_of mid) refs x.us c.plain_value-end.ensures.stays.keeps.kept x.there) (c.plain_value-end.ensures.value p vs here));
    }
