use Rattle.std.proofs.Common.{inl, inr, arith}
use Rattle.dg_arena.specs.Held.{meaning_of}
use Rattle.dg_machine.specs.Refs.{Keeps}
use Rattle.dg_machine.proofs.TermLemmas.{refs_length}
use Rattle.dg_machine.proofs.Matching.{matching_starts, matched}
use Rattle.dg_machine.proofs.HeadLemmas.{keeps_same, keeps_on, arg_holds, head_holds, head_full, head_clash, head_on}
use Rattle.dg_machine.proofs.terms.match_heads.Goals as goal

pub pairs-init : goal.pairs-init
pairs-init c = record { keeps = keeps_same c.args.arena.now; matching = λ us ws ha hb. matching_starts (meaning_of c.args.arena.now).state us ws }

pub join-requires-clause-a_in : goal.join-requires-clause-a_in
join-requires-clause-a_in c = arg_holds c.args.arena.now c.pairs.arena c.pairs.invariant.keeps c.args.args.now c.args.heads.now c.pairs.at c.pairs-test.true c.if-at-heads.true c.requires.args

pub join-requires-clause-b_in : goal.join-requires-clause-b_in
join-requires-clause-b_in c = head_holds c.args.arena.now c.pairs.arena c.pairs.invariant.keeps c.args.args.now c.args.heads.now c.pairs.at c.pairs-test.true c.if-at-heads.true c.requires.heads

pub returns-in-Err-clause-matched : goal.returns-in-Err-clause-matched
returns-in-Err-clause-matched c us ws ha hb = head_full c.args.arena.now c.pairs.arena c.pairs.invariant.keeps c.args.args.now c.args.heads.now c.pairs.at c.pairs-test.true c.if-at-heads.true us ws ha hb (c.pairs.invariant.matching us ws ha hb) c.join.new.arena c.in-Err.full c.in-Err.ensures.unified

pub returns-in-Ok-false-clause-matched : goal.returns-in-Ok-false-clause-matched
returns-in-Ok-false-clause-matched c us ws ha hb = head_clash c.args.arena.now c.pairs.arena c.pairs.invariant.keeps c.args.args.now c.args.heads.now c.pairs.at c.pairs-test.true c.if-at-heads.true us ws ha hb (c.pairs.invariant.matching us ws ha hb) c.join.new.arena c.in-Ok-false.field-0 c.in-Ok-false.field-0-test c.in-Ok-false.ensures.unified

pub pairs-preserved : goal.pairs-preserved
pairs-preserved c =
    let further : Keeps c.pairs.arena c.join.new.arena = c.in-Ok-true.ensures.keeps in
    record {
      keeps = keeps_on c.args.arena.now c.pairs.arena c.join.new.arena c.pairs.invariant.keeps further;
      matching = λ us ws ha hb. head_on c.args.arena.now c.pairs.arena c.pairs.invariant.keeps c.args.args.now c.args.heads.now c.pairs.at c.pairs-test.true c.if-at-heads.true us ws ha hb (c.pairs.invariant.matching us ws ha hb) c.join.new.arena c.in-Ok-true.field-0 c.in-Ok-true.field-0-test c.in-Ok-true.ensures.unified;
    }

pub returns-else-at-heads-clause-matched : goal.returns-else-at-heads-clause-matched
returns-else-at-heads-clause-matched c us ws ha hb =
    matched (meaning_of c.args.arena.now) (meaning_of c.pairs.arena) us ws c.pairs.at c.pairs.invariant.keeps.kept c.pairs.arena.sound.fits.sound (c.pairs.invariant.matching us ws ha hb) (inr (omega (arith, c.if-at-heads.false, refs_length (meaning_of c.args.arena.now) c.args.heads.now ws hb)))

pub returns-after-pairs-clause-matched : goal.returns-after-pairs-clause-matched
returns-after-pairs-clause-matched c us ws ha hb =
    matched (meaning_of c.args.arena.now) (meaning_of c.pairs.arena) us ws c.pairs.at c.pairs.invariant.keeps.kept c.pairs.arena.sound.fits.sound (c.pairs.invariant.matching us ws ha hb) (inl (omega (arith, c.pairs-test.false, refs_length (meaning_of c.args.arena.now) c.args.args.now us ha)))
