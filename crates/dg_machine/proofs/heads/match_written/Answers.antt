use Rattle.std.proofs.Common.{[], ◌∷◌, arith}
use Rattle.dg_meaning.specs.Values.{value_of}
use Rattle.dg_meaning.specs.Cells.{cells}
use Rattle.dg_unify.proofs.StoreLemmas.{holds_some, kept_holds}
use Rattle.dg_arena.specs.Held.{meaning_of}
use Rattle.dg_machine.specs.Refs.{Keeps}
use Rattle.dg_machine.specs.inside.Joins.{answer_of}
use Rattle.dg_machine.proofs.HeadLemmas.{keeps_on}
use Rattle.dg_machine.proofs.HeadMatching.{no_program, written_follows}
use Rattle.dg_machine.proofs.heads.match_written.Goals as goal

pub join-requires : goal.join-requires
join-requires c =
    let vs = c.requires.row.0 in
    record {
      a_in = kept_holds (meaning_of c.args.arena.now) (meaning_of c.flat_value.new.arena) c.args.arg c.in-Ok.ensures.keeps.kept c.requires.arg;
      b_in = holds_some (meaning_of c.flat_value.new.arena) c.in-Ok.whole (value_of no_program vs c.args.term.now) (c.in-Ok.ensures.made no_program vs c.requires.row.1).value;
    }

pub returns-in-Err-clause-matched : goal.returns-in-Err-clause-matched
returns-in-Err-clause-matched c p vs at = let over = c.in-Err.ensures.made p vs at in absurd (omega (arith, over, c.requires.room p))

pub returns-in-Ok : goal.returns-in-Ok
returns-in-Ok c =
    let old = c.args.arena.now in
    let mid = c.flat_value.new.arena in
    let unified : Keeps mid c.join.new.arena = c.join.ensures.keeps in
    record {
      keeps = keeps_on old mid c.join.new.arena c.in-Ok.ensures.keeps unified;
      matched = λ p vs at.
          written_follows (meaning_of old) (meaning_of mid) (meaning_of c.join.new.arena) (cells p (c.args.term.now ∷ [])) c.args.arg c.in-Ok.whole (value_of p vs c.args.term.now) (answer_of c.from_answer.result) c.in-Ok.ensures.keeps.kept (c.in-Ok.ensures.made p vs at) c.requires.arg (rw c.from_answer.ensures c.join.ensures.unified);
    }
