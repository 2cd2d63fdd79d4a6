use Rattle.dg_unify.specs.Store.{told}
use Rattle.dg_unify.proofs.StoreLemmas.{kept_some}
use Rattle.dg_arena.specs.Held.{meaning_of}
use Rattle.dg_machine.specs.Refs.{Keeps}
use Rattle.dg_machine.proofs.HeadLemmas.{keeps_same, keeps_on}
use Rattle.dg_machine.proofs.Along.{along_starts, along_ends, along_full, along_clash, along_on}
use Rattle.dg_machine.proofs.pairs.unify_pairs.Goals as goal

pub pairs-init : goal.pairs-init
pairs-init c = record {
  keeps = keeps_same c.args.arena.now;
  left_in = c.requires.a_in;
  right_in = c.requires.b_in;
  along = along_starts (meaning_of c.args.arena.now) (told (meaning_of c.args.arena.now) c.args.a) (told (meaning_of c.args.arena.now) c.args.b);
}

pub returns-in-None-clause-unified : goal.returns-in-None-clause-unified
returns-in-None-clause-unified c =
    let old = meaning_of c.args.arena.now in
    let now = meaning_of c.pairs.arena in
    let i = c.pairs.invariant in
    along_ends old now (meaning_of c.join_or_unify.new.arena) (told old c.args.a) (told old c.args.b) (told now c.pairs.left) (told now c.pairs.right) i.keeps.kept i.along c.join_or_unify.result c.join_or_unify.ensures.unified

pub returns-clause-unified : goal.returns-clause-unified
returns-clause-unified c =
    let old = meaning_of c.args.arena.now in
    let now = meaning_of c.pairs.arena in
    let i = c.pairs.invariant in
    along_ends old now (meaning_of c.unify.new.store) (told old c.args.a) (told old c.args.b) (told now c.pairs.left) (told now c.pairs.right) i.keeps.kept i.along c.unify.result c.unify.ensures.unified

pub returns-in-Err-clause-unified : goal.returns-in-Err-clause-unified
returns-in-Err-clause-unified c =
    let old = meaning_of c.args.arena.now in
    let now = meaning_of c.pairs.arena in
    let i = c.pairs.invariant in
    let p = c.in-Some.pairs in
    along_full old now i.keeps.kept c.pairs.arena.sound.fits.sound (told old c.args.a) (told old c.args.b) (told now c.pairs.left) (told now c.pairs.right) p.head p.tail p.other_head p.other_tail i.along c.in-Some.ensures.first c.in-Some.ensures.second
    (meaning_of c.join_or_unify-in-pairs.new.arena) c.in-Err.full c.in-Err.ensures.unified

pub returns-in-Ok-false-clause-unified : goal.returns-in-Ok-false-clause-unified
returns-in-Ok-false-clause-unified c =
    let old = meaning_of c.args.arena.now in
    let now = meaning_of c.pairs.arena in
    let i = c.pairs.invariant in
    let p = c.in-Some.pairs in
    along_clash old now i.keeps.kept c.pairs.arena.sound.fits.sound (told old c.args.a) (told old c.args.b) (told now c.pairs.left) (told now c.pairs.right) p.head p.tail p.other_head p.other_tail i.along c.in-Some.ensures.first c.in-Some.ensures.second
    (meaning_of c.join_or_unify-in-pairs.new.arena) c.in-Ok-false.field-0 c.in-Ok-false.field-0-test c.in-Ok-false.ensures.unified

pub pairs-preserved : goal.pairs-preserved
pairs-preserved c =
    let old = meaning_of c.args.arena.now in
    let now = meaning_of c.pairs.arena in
    let new = c.join_or_unify-in-pairs.new.arena in
    let i = c.pairs.invariant in
    let p = c.in-Some.pairs in
    let left = c.in-Some.ensures.first in
    let right = c.in-Some.ensures.second in
    let further : Keeps c.pairs.arena new = c.in-Ok-true.ensures.keeps in
    record {
      keeps = keeps_on c.args.arena.now c.pairs.arena new i.keeps further;
      left_in = kept_some now (meaning_of new) p.tail left.tail further.kept left.tail_is;
      right_in = kept_some now (meaning_of new) p.other_tail right.tail further.kept right.tail_is;
      along = along_on old now i.keeps.kept c.pairs.arena.sound.fits.sound (told old c.args.a) (told old c.args.b) (told now c.pairs.left) (told now c.pairs.right) p.head p.tail p.other_head p.other_tail i.along left right
          (meaning_of new) c.in-Ok-true.field-0 c.in-Ok-true.field-0-test further.kept c.in-Ok-true.ensures.unified;
    }
