use Rattle.std.proofs.Common.{◌≡◌, ◌∙◌, ◌++◌, ◌∷◌, [], refl, sym, ap, subst, arith, length, append-nil, vec_capacity}
use Rattle.dg_meaning.specs.Values.{value_of}
use Rattle.dg_unify.specs.Store.{State, Made}
use Rattle.dg_arena.specs.Held.{meaning_of}
use Rattle.dg_machine.specs.declared.now.Side.TheVariants.{Head, Tail}
use Rattle.dg_machine.specs.inside.Writing.{reached, cells_of, nodes_of, Descends, Overflows}
use Rattle.dg_machine.proofs.Kept.{row_kept}
use Rattle.dg_machine.proofs.TermLemmas.{no_program}
use Rattle.dg_machine.proofs.TableLemmas.{a_program, a_program_is, no_pair}
use Rattle.dg_machine.proofs.HeadLemmas.{keeps_same, keeps_on}
use Rattle.dg_machine.proofs.PathLemmas.{nodes_pair, goes_on}
use Rattle.dg_machine.proofs.WriteSteps.{descends_starts, descends_head, descends_tail, descends_full, descends_over, reached_head, reached_tail}
use Rattle.dg_machine.proofs.writing.descend.Goals as goal

pub pairs-init : goal.pairs-init
pairs-init c = record {
  keeps = keeps_same c.args.arena.now;
  capacity = refl;
  at = c.requires.at;
  on = ([], sym (append-nil c.args.path.now.items));
  gone = λ p vs is at gone. descends_starts p vs c.args.whole.now (meaning_of c.args.arena.now) c.args.path.now.items c.args.arena.now.sound.heap_fits gone;
  spare = refl;
  spare_room = refl;
  heap = omega arith;
}

pub returns-then-len-capacity-clause-gone : goal.returns-then-len-capacity-clause-gone
returns-then-len-capacity-clause-gone c p vs is at gone =
    let full : length c.pairs.path.items ≡ vec_capacity c.args.path.now = omega (arith, c.if-len-capacity.true, c.len.ensures, c.capacity.ensures, c.pairs.path.ok.0, c.pairs.invariant.capacity) in
    descends_full p vs c.args.whole.now (meaning_of c.args.arena.now) (meaning_of c.pairs.arena) c.args.path.now.items c.pairs.path.items (vec_capacity c.args.path.now) c.pairs.term.now c.in-Pair.head c.in-Pair.tail c.pairs.invariant.keeps.kept c.pairs.invariant.at c.in-Pair.is full c.requires.fits (c.pairs.invariant.gone p vs is at gone)

pub pairs-smaller-in-Pair-head : goal.pairs-smaller-in-Pair-head
pairs-smaller-in-Pair-head c = omega (arith, nodes_pair c.pairs.term.now c.in-Pair.head c.in-Pair.tail c.in-Pair.is, ap nodes_of c.get-head.ensures)

pub pairs-preserved-in-Pair-head : goal.pairs-preserved-in-Pair-head
pairs-preserved-in-Pair-head c =
    let t = c.args.whole.now in
    let path = c.pairs.path.items in
    let pushed : c.push_reserved.new.self.items ≡ path ++ Head ∷ [] = c.push_reserved.ensures.items in
    record {
      keeps = c.pairs.invariant.keeps;
      capacity = c.push_reserved.ensures.capacity ∙ c.pairs.invariant.capacity;
      on = goes_on c.args.path.now.items path c.push_reserved.new.self.items Head pushed c.pairs.invariant.on;
      at = c.get-head.ensures ∙ sym (ap (λ l. reached l t) pushed ∙ reached_head no_program [] t path c.pairs.term.now c.in-Pair.head c.in-Pair.tail c.pairs.invariant.at c.in-Pair.is);
      gone = λ p vs is at gone.
          subst (Descends p vs t (meaning_of c.args.arena.now) (meaning_of c.pairs.arena) c.args.path.now.items) (sym pushed)
          (descends_head p vs t (meaning_of c.args.arena.now) (meaning_of c.pairs.arena) c.args.path.now.items path c.pairs.term.now c.in-Pair.head c.in-Pair.tail c.pairs.invariant.at c.in-Pair.is (c.pairs.invariant.gone p vs is at gone));
      spare = c.pairs.invariant.spare;
      spare_room = c.pairs.invariant.spare_room;
      heap = c.pairs.invariant.heap;
    }

pub leaf_value-requires-clause-leaf : goal.leaf_value-requires-clause-leaf
leaf_value-requires-clause-leaf c = no_pair c.get-head.result.now c.in_default-head.not-Pair

pub leaf_value-requires-clause-row : goal.leaf_value-requires-clause-row
leaf_value-requires-clause-row c = let row = c.requires.row in (row.0, row_kept (meaning_of c.args.arena.now) (meaning_of c.pairs.arena) c.args.row.now row.0 c.pairs.invariant.keeps.kept row.1)

pub leaf_value-requires-clause-spare : goal.leaf_value-requires-clause-spare
leaf_value-requires-clause-spare c = record {
  fits = omega (arith, c.requires.spare.fits, c.pairs.invariant.spare_room, c.pairs.invariant.keeps.kept.heap_limit);
  few = omega (arith, c.requires.spare.few, ap length c.pairs.invariant.spare, c.pairs.invariant.heap);
}

pub returns-in-Err-clause-keeps : goal.returns-in-Err-clause-keeps
returns-in-Err-clause-keeps c = keeps_on c.args.arena.now c.pairs.arena c.leaf_value.new.arena c.pairs.invariant.keeps c.in-Err.ensures.keeps

pub returns-in-Err-clause-gone : goal.returns-in-Err-clause-gone
returns-in-Err-clause-gone c p vs is at gone =
    let here = row_kept (meaning_of c.args.arena.now) (meaning_of c.pairs.arena) c.args.row.now vs c.pairs.invariant.keeps.kept at in
    let over : Overflows (cells_of p c.in-Pair.head) (meaning_of c.pairs.arena) = subst (λ x. Overflows (cells_of p x) (meaning_of c.pairs.arena)) c.get-head.ensures (c.in-Err.ensures.made p vs is here) in
    descends_over p vs c.args.whole.now (meaning_of c.args.arena.now) (meaning_of c.pairs.arena) c.args.path.now.items c.pairs.path.items c.pairs.term.now c.in-Pair.head c.in-Pair.tail c.pairs.invariant.keeps.kept c.pairs.invariant.at c.in-Pair.is over (c.pairs.invariant.gone p vs is at gone)

pub pairs-smaller : goal.pairs-smaller
pairs-smaller c = omega (arith, nodes_pair c.pairs.term.now c.in-Pair.head c.in-Pair.tail c.in-Pair.is, ap nodes_of c.get-term.ensures)

pub pairs-preserved : goal.pairs-preserved
pairs-preserved c =
    let old = c.args.arena.now in
    let now = c.pairs.arena in
    let new = c.leaf_value.new.arena in
    let t = c.args.whole.now in
    let path = c.pairs.path.items in
    let r = c.in-Ok.value in
    let pushed : c.push_reserved-in-Ok.new.self.items ≡ path ++ Tail r ∷ [] = c.push_reserved-in-Ok.ensures.items in
    let row = c.requires.row in
    let some = c.in-Ok.ensures.made (a_program c.args.tables.now) row.0 (a_program_is c.args.tables.now) (row_kept (meaning_of old) (meaning_of now) c.args.row.now row.0 c.pairs.invariant.keeps.kept row.1) in
    record {
      keeps = keeps_on old now new c.pairs.invariant.keeps c.in-Ok.ensures.keeps;
      capacity = c.push_reserved-in-Ok.ensures.capacity ∙ c.pairs.invariant.capacity;
      on = goes_on c.args.path.now.items path c.push_reserved-in-Ok.new.self.items (Tail r) pushed c.pairs.invariant.on;
      at = c.get-term.ensures ∙ sym (ap (λ l. reached l t) pushed ∙ reached_tail no_program [] t path r c.pairs.term.now c.in-Pair.head c.in-Pair.tail c.pairs.invariant.at c.in-Pair.is);
      gone = λ p vs is at gone.
          let here = row_kept (meaning_of old) (meaning_of now) c.args.row.now vs c.pairs.invariant.keeps.kept at in
          let made : Made (cells_of p c.in-Pair.head) (meaning_of now) (meaning_of new) r (value_of p vs c.in-Pair.head) = subst (λ x. Made (cells_of p x) (meaning_of now) (meaning_of new) r (value_of p vs x)) c.get-head.ensures (c.in-Ok.ensures.made p vs is here) in
          subst (Descends p vs t (meaning_of old) (meaning_of new) c.args.path.now.items) (sym pushed)
          (descends_tail p vs t (meaning_of old) (meaning_of now) (meaning_of new) c.args.path.now.items path c.pairs.term.now c.in-Pair.head c.in-Pair.tail r c.pairs.invariant.keeps.kept c.in-Ok.ensures.keeps.kept c.pairs.invariant.at c.in-Pair.is made (c.pairs.invariant.gone p vs is at gone));
      spare = c.in-Ok.ensures.spare ∙ c.pairs.invariant.spare;
      spare_room = c.in-Ok.ensures.capacity ∙ c.pairs.invariant.spare_room;
      heap = omega (arith, c.pairs.invariant.heap, ap (λ (s : State). s.heap) some.charged.state);
    }

pub returns : goal.returns
returns c =
    record {
      keeps = c.pairs.invariant.keeps;
      capacity = c.pairs.invariant.capacity;
      leaf = no_pair c.pairs.term.now c.in_default.not-Pair;
      end = c.pairs.invariant.at;
      on = c.pairs.invariant.on;
      gone = λ p vs is at gone. c.pairs.invariant.gone p vs is at gone;
      spare = c.pairs.invariant.spare;
      spare_room = c.pairs.invariant.spare_room;
      heap = c.pairs.invariant.heap;
    }
