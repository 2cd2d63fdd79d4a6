use Rattle.std.proofs.Common.{[]}
use Rattle.dg_meaning.specs.Values.{value_of}
use Rattle.dg_unify.specs.Store.{told}
use Rattle.dg_unify.proofs.StoreLemmas.{holds_some, holds_told, kept_holds}
use Rattle.dg_arena.specs.Held.{meaning_of}
use Rattle.dg_machine.specs.inside.Joins.{answer_of}
use Rattle.dg_machine.proofs.HeadLemmas.{keeps_on, follows_back}
use Rattle.dg_machine.proofs.HeadMatching.{no_program}
use Rattle.dg_machine.proofs.heads.match_constant.Goals as goal

pub join-requires : goal.join-requires
join-requires c =
    let made = c.constant_value-value in
    record {
      a_in = kept_holds (meaning_of c.args.arena.now) (meaning_of made.new.arena) c.args.arg made.ensures.stays.keeps.kept c.requires.arg;
      b_in = holds_some (meaning_of made.new.arena) made.result (value_of no_program [] c.args.term.now) (made.ensures.value no_program []);
    }

pub returns : goal.returns
returns c =
    let made = c.constant_value-value in
    record {
      keeps = keeps_on c.args.arena.now made.new.arena c.join.new.arena made.ensures.stays.keeps c.join.ensures.keeps;
      matched = λ p vs.
          let old = meaning_of c.args.arena.now in
          let v = told old c.args.arg in
          follows_back c.args.arena.now made.new.arena c.join.new.arena v (value_of p vs c.args.term.now) c.args.arg made.result (answer_of c.from_answer.result) made.ensures.stays
          (made.ensures.stays.keeps.kept.values c.args.arg v (holds_told old c.args.arg c.requires.arg)) (made.ensures.value p vs) (rw c.from_answer.ensures c.join.ensures.unified);
    }
