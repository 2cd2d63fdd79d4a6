use Rattle.std.proofs.Common.{◌≡◌, ◌<◌, sym, ap, ◌∙◌, subst, arith, inl, inr, length, map, get_or}
use Rattle.std.proofs.lemmas.List.{get_or-map, length-map}
use Rattle.dg_meaning.specs.Values.{Value, Nil, leaf, value_of}
use Rattle.dg_arena.specs.Held.{meaning_of}
use Rattle.dg_machine.specs.Heads.{at_heap}
use Rattle.dg_mid.specs.Heads.{Flat}
use Rattle.dg_machine.specs.inside.Writing.{cells_of}
use Rattle.dg_machine.proofs.Kept.{row_kept}
use Rattle.dg_machine.proofs.TermLemmas.{refs_length}
use Rattle.dg_machine.proofs.HeadLemmas.{keeps_same, keeps_on}
use Rattle.dg_machine.proofs.Matching.{matching_starts, matched}
use Rattle.dg_machine.proofs.HeadMatching.{kept_from, own_kept, flat_at, cells_at, arg_told, arg_there, each_full, each_clash, each_on}
use Rattle.dg_machine.proofs.heads.match_each.Goals as goal

pub pairs-init : goal.pairs-init
pairs-init c = record { keeps = keeps_same c.args.arena.now; matching = λ p us vs ha hr. matching_starts (meaning_of c.args.arena.now).state us (map (value_of p vs) c.args.head.now); more = omega arith; taken = λ p. omega arith }

pub match_flat-requires-clause-flat : goal.match_flat-requires-clause-flat
match_flat-requires-clause-flat c =
    let x = flat_at c.args.head.now c.pairs.at c.index-head-at.result c.requires.flat c.if-at-head.true in
    subst Flat (sym c.index-head-at.is) x

pub match_flat-requires-clause-room : goal.match_flat-requires-clause-room
match_flat-requires-clause-room c p =
    let first = cells_at p c.args.head.now c.pairs.at c.index-head-at.result c.if-at-head.true in
    let same = ap (cells_of p) c.index-head-at.is in
    let limit = c.pairs.invariant.keeps.kept.heap_limit in
    omega (arith, first, same, limit, c.pairs.invariant.taken p, c.requires.room p)

pub match_flat-requires-clause-row : goal.match_flat-requires-clause-row
match_flat-requires-clause-row c = (c.requires.row.0, row_kept (meaning_of c.args.arena.now) (meaning_of c.pairs.arena) c.args.row.now c.requires.row.0 c.pairs.invariant.keeps.kept c.requires.row.1)

pub match_flat-requires-clause-own : goal.match_flat-requires-clause-own
match_flat-requires-clause-own c = own_kept (meaning_of c.args.arena.now) (meaning_of c.pairs.arena) c.args.row.now c.args.number c.pairs.invariant.keeps.kept c.requires.own

pub match_flat-requires-clause-arg : goal.match_flat-requires-clause-arg
match_flat-requires-clause-arg c = arg_there c.args.arena.now c.pairs.arena c.pairs.invariant.keeps c.args.args.now c.pairs.at c.pairs-test.true c.requires.args

pub returns-in-Err-clause-matched : goal.returns-in-Err-clause-matched
returns-in-Err-clause-matched c p us vs ha hr =
    let old = c.args.arena.now in
    let now = c.pairs.arena in
    let head = c.args.head.now in
    let n = c.pairs.at in
    let term = c.index-head-at.result in
    let d : Value = leaf Nil in
    let la : n < length us = omega (arith, c.pairs-test.true, refs_length (meaning_of old) c.args.args.now us ha) in
    let lb : n < length (map (value_of p vs) head) = omega (arith, c.if-at-head.true, length-map head (value_of p vs)) in
    let ew : value_of p vs term ≡ get_or (map (value_of p vs) head) n d = ap (value_of p vs) c.index-head-at.is ∙ sym (get_or-map (value_of p vs) head n term d c.if-at-head.true) in
    let row = row_kept (meaning_of old) (meaning_of now) c.args.row.now vs c.pairs.invariant.keeps.kept hr in
    each_full old now c.pairs.invariant.keeps us (map (value_of p vs) head) n (meaning_of c.match_flat.new.arena).state.heap d la lb (get_or c.args.args.now n (record { 0 = 0 })) (value_of p vs term) (arg_told old now c.pairs.invariant.keeps c.args.args.now us n c.pairs-test.true ha) ew
    (c.pairs.invariant.matching p us vs ha hr) (meaning_of c.match_flat.new.arena) c.in-Err.full (rw (sym c.in-Err.ensures) at (c.match_flat.ensures.matched p vs row))

pub returns-in-Ok-false-clause-matched : goal.returns-in-Ok-false-clause-matched
returns-in-Ok-false-clause-matched c p us vs ha hr =
    let old = c.args.arena.now in
    let now = c.pairs.arena in
    let head = c.args.head.now in
    let n = c.pairs.at in
    let term = c.index-head-at.result in
    let d : Value = leaf Nil in
    let la : n < length us = omega (arith, c.pairs-test.true, refs_length (meaning_of old) c.args.args.now us ha) in
    let lb : n < length (map (value_of p vs) head) = omega (arith, c.if-at-head.true, length-map head (value_of p vs)) in
    let ew : value_of p vs term ≡ get_or (map (value_of p vs) head) n d = ap (value_of p vs) c.index-head-at.is ∙ sym (get_or-map (value_of p vs) head n term d c.if-at-head.true) in
    let row = row_kept (meaning_of old) (meaning_of now) c.args.row.now vs c.pairs.invariant.keeps.kept hr in
    each_clash old now c.pairs.invariant.keeps us (map (value_of p vs) head) n (meaning_of c.match_flat.new.arena).state.heap d la lb (get_or c.args.args.now n (record { 0 = 0 })) (value_of p vs term) (arg_told old now c.pairs.invariant.keeps c.args.args.now us n c.pairs-test.true ha) ew
    (c.pairs.invariant.matching p us vs ha hr) (meaning_of c.match_flat.new.arena) c.in-Ok-false.field-0 c.in-Ok-false.field-0-test (rw (sym c.in-Ok-false.ensures) at (c.match_flat.ensures.matched p vs row))

pub returns-in-Ok-false-clause-few : goal.returns-in-Ok-false-clause-few
returns-in-Ok-false-clause-few c p =
    let first = cells_at p c.args.head.now c.pairs.at c.index-head-at.result c.if-at-head.true in
    let same = ap (cells_of p) c.index-head-at.is in
    omega (arith, (rw (sym c.in-Ok-false.ensures) at c.match_flat.ensures.few) p, c.pairs.invariant.taken p, first, same)

pub pairs-preserved : goal.pairs-preserved
pairs-preserved c =
    let old = c.args.arena.now in
    let now = c.pairs.arena in
    let head = c.args.head.now in
    let n = c.pairs.at in
    let term = c.index-head-at.result in
    let d : Value = leaf Nil in
    record {
      keeps = keeps_on old now c.match_flat.new.arena c.pairs.invariant.keeps c.match_flat.ensures.keeps;
      matching = λ p us vs ha hr.
          let la : n < length us = omega (arith, c.pairs-test.true, refs_length (meaning_of old) c.args.args.now us ha) in
          let lb : n < length (map (value_of p vs) head) = omega (arith, c.if-at-head.true, length-map head (value_of p vs)) in
          let ew : value_of p vs term ≡ get_or (map (value_of p vs) head) n d = ap (value_of p vs) c.index-head-at.is ∙ sym (get_or-map (value_of p vs) head n term d c.if-at-head.true) in
          let row = row_kept (meaning_of old) (meaning_of now) c.args.row.now vs c.pairs.invariant.keeps.kept hr in
          each_on old now c.pairs.invariant.keeps us (map (value_of p vs) head) n (meaning_of c.match_flat.new.arena).state.heap d la lb (get_or c.args.args.now n (record { 0 = 0 })) (value_of p vs term) (arg_told old now c.pairs.invariant.keeps c.args.args.now us n c.pairs-test.true ha) ew
          (c.pairs.invariant.matching p us vs ha hr) (meaning_of c.match_flat.new.arena) c.in-Ok-true.field-0 c.in-Ok-true.field-0-test (rw (sym c.in-Ok-true.ensures) at (c.match_flat.ensures.matched p vs row));
      more = omega (arith, (rw (sym c.in-Ok-true.ensures) at c.match_flat.ensures.more), c.pairs.invariant.more);
      taken = λ p.
          let first = cells_at p head n term c.if-at-head.true in
          let same = ap (cells_of p) c.index-head-at.is in
          omega (arith, (rw (sym c.in-Ok-true.ensures) at c.match_flat.ensures.few) p, c.pairs.invariant.taken p, first, same);
    }

pub returns-else-at-head-clause-matched : goal.returns-else-at-head-clause-matched
returns-else-at-head-clause-matched c p us vs ha hr =
    let old = meaning_of c.args.arena.now in
    let now = meaning_of c.pairs.arena in
    let head = c.args.head.now in
    matched (at_heap now.state.heap old) now us (map (value_of p vs) head) c.pairs.at (kept_from old now now.state.heap c.pairs.invariant.keeps.kept) c.pairs.arena.sound.fits.sound (c.pairs.invariant.matching p us vs ha hr) (inr (omega (arith, c.if-at-head.false, length-map head (value_of p vs))))

pub returns-after-pairs-clause-matched : goal.returns-after-pairs-clause-matched
returns-after-pairs-clause-matched c p us vs ha hr =
    let old = meaning_of c.args.arena.now in
    let now = meaning_of c.pairs.arena in
    let head = c.args.head.now in
    matched (at_heap now.state.heap old) now us (map (value_of p vs) head) c.pairs.at (kept_from old now now.state.heap c.pairs.invariant.keeps.kept) c.pairs.arena.sound.fits.sound (c.pairs.invariant.matching p us vs ha hr) (inl (omega (arith, c.pairs-test.false, refs_length old c.args.args.now us ha)))

pub returns-after-pairs-clause-more : goal.returns-after-pairs-clause-more
returns-after-pairs-clause-more c = c.pairs.invariant.more
