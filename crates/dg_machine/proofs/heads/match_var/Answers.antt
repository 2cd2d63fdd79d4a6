use Rattle.std.proofs.Common.{◌∙◌, Some, ap, subst}
use Rattle.dg_meaning.specs.Values.{Nil, leaf, value_of_var}
use Rattle.dg_meaning.specs.inside.Unify.{unify}
use Rattle.dg_unify.specs.Store.{told, Follows}
use Rattle.dg_unify.proofs.StoreLemmas.{told_is, holds_some, holds_told, kept_holds}
use Rattle.dg_arena.specs.Held.{meaning_of}
use Rattle.dg_machine.specs.inside.Joins.{answer_of}
use Rattle.dg_machine.proofs.HeadLemmas.{keeps_on, follows_back}
use Rattle.dg_machine.proofs.HeadMatching.{own_var}
use Rattle.dg_machine.proofs.heads.match_var.Goals as goal

pub at-requires : goal.at-requires
at-requires c = (_, c.requires.own.vars)

pub join_var-requires-clause-var_in : goal.join_var-requires-clause-var_in
join_var-requires-clause-var_in c = own_var (meaning_of c.args.arena.now) c.args.row.now c.args.number c.args.var c.requires.own c.in-Some.ensures.within c.in-Some.value c.in-Some.ensures.is

pub returns-in-Some-clause-matched : goal.returns-in-Some-clause-matched
returns-in-Some-clause-matched c vs at =
    let s = meaning_of c.args.arena.now in
    subst (λ w. Follows s (meaning_of c.join_var.new.arena) (unify s.state.subst (told s c.args.arg) w) (answer_of c.join_var.result)) (told_is s c.in-Some.value (value_of_var vs c.args.var) (c.in-Some.ensures.is vs at)) c.join_var.ensures.unified

pub join_apart-requires : goal.join_apart-requires
join_apart-requires c =
    let made = c.simple_value-value in
    record {
      a_in = kept_holds (meaning_of c.args.arena.now) (meaning_of made.new.arena) c.args.arg made.ensures.stays.keeps.kept c.requires.arg;
      b_in = holds_some (meaning_of made.new.arena) made.result (leaf Nil) made.ensures.value;
    }

pub returns-in-None : goal.returns-in-None
returns-in-None c =
    let made = c.simple_value-value in
    record {
      keeps = keeps_on c.args.arena.now made.new.arena c.join_apart.new.arena made.ensures.stays.keeps c.join_apart.ensures.keeps;
      matched = λ vs at.
          let old = meaning_of c.args.arena.now in
          let v = told old c.args.arg in
          follows_back c.args.arena.now made.new.arena c.join_apart.new.arena v (value_of_var vs c.args.var) c.args.arg made.result (answer_of c.join_apart.result) made.ensures.stays
          (made.ensures.stays.keeps.kept.values c.args.arg v (holds_told old c.args.arg c.requires.arg)) (made.ensures.value ∙ ap Some (c.in-None.ensures.is vs at)) c.join_apart.ensures.unified;
    }
