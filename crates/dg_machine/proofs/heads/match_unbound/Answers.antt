use Rattle.std.proofs.Common.{ap, ◌∙◌, arith}
use Rattle.dg_base.specs.declared.program.Term.TheVariants.{Pair as Pair-Term}
use Rattle.dg_meaning.specs.Values.{value_of}
use Rattle.dg_unify.specs.Store.{State, Made}
use Rattle.dg_unify.proofs.StoreLemmas.{holds_some, kept_holds}
use Rattle.dg_arena.specs.Held.{meaning_of}
use Rattle.dg_machine.specs.Refs.{Keeps}
use Rattle.dg_machine.specs.inside.Joins.{answer_of}
use Rattle.dg_machine.proofs.Kept.{row_kept}
use Rattle.dg_machine.proofs.HeadLemmas.{keeps_on, stays_on}
use Rattle.dg_machine.proofs.HeadMatching.{no_program, pair_made, holds_first, whole_there, shows_kept, written_follows}
use Rattle.dg_machine.proofs.heads.match_unbound.Goals as goal

pub plain_value-second-requires-clause-row : goal.plain_value-second-requires-clause-row
plain_value-second-requires-clause-row c = (c.requires.row.0, row_kept (meaning_of c.args.arena.now) (meaning_of c.plain_value-first.new.arena) c.args.row.now c.requires.row.0 c.plain_value-first.ensures.stays.keeps.kept c.requires.row.1)

pub fit_open-whole-requires : goal.fit_open-whole-requires
fit_open-whole-requires c =
    let vs = c.requires.row.0 in
    let v1 = c.plain_value-first.ensures.value no_program vs c.requires.row.1 in
    let stays = c.plain_value-first.ensures.stays in
    let v2 = c.plain_value-second.ensures.value no_program vs (row_kept (meaning_of c.args.arena.now) (meaning_of c.plain_value-first.new.arena) c.args.row.now vs stays.keeps.kept c.requires.row.1) in
    let both = stays_on c.args.arena.now c.plain_value-first.new.arena c.plain_value-second.new.arena stays c.plain_value-second.ensures.stays in
    record {
      head_in = holds_first c.plain_value-first.new.arena c.plain_value-second.new.arena c.plain_value-first.result (value_of no_program vs c.args.head.now) c.plain_value-second.ensures.stays v1;
      tail_in = holds_some (meaning_of c.plain_value-second.new.arena) c.plain_value-second.result (value_of no_program vs c.args.tail.now) v2;
      room = omega (arith, ap (λ (s : State). s.heap) both.state, both.keeps.kept.heap_limit, c.requires.room);
    }

pub join_pair-requires : goal.join_pair-requires
join_pair-requires c =
    let vs = c.requires.row.0 in
    let old = c.args.arena.now in
    let mid = c.plain_value-first.new.arena in
    let now = c.plain_value-second.new.arena in
    let new = c.fit_open-whole.new.self in
    let stays = stays_on old mid now c.plain_value-first.ensures.stays c.plain_value-second.ensures.stays in
    let made : Keeps now new = record { kept = c.fit_open-whole.ensures.kept; saved = c.fit_open-whole.ensures.saved } in
    let all = keeps_on old now new stays.keeps made in
    let v1 = c.plain_value-first.ensures.value no_program vs c.requires.row.1 in
    let v2 = c.plain_value-second.ensures.value no_program vs (row_kept (meaning_of old) (meaning_of mid) c.args.row.now vs c.plain_value-first.ensures.stays.keeps.kept c.requires.row.1) in
    let first = holds_first mid now c.plain_value-first.result (value_of no_program vs c.args.head.now) c.plain_value-second.ensures.stays v1 in
    let second = holds_some (meaning_of now) c.plain_value-second.result (value_of no_program vs c.args.tail.now) v2 in
    let same = ap (λ (s : State). s.subst) c.fit_open-whole.ensures.made.charged.state ∙ ap (λ (s : State). s.subst) stays.state in
    record {
      a_in = kept_holds (meaning_of old) (meaning_of new) c.args.arg all.kept c.requires.arg;
      shows = shows_kept (meaning_of old) (meaning_of new) c.args.arg c.args.var all.kept c.requires.arg same c.requires.shows;
      head_in = kept_holds (meaning_of now) (meaning_of new) c.plain_value-first.result made.kept first;
      tail_in = kept_holds (meaning_of now) (meaning_of new) c.plain_value-second.result made.kept second;
      whole_in = whole_there (meaning_of now) (meaning_of new) c.plain_value-first.result c.plain_value-second.result c.fit_open-whole.result made.kept first second c.fit_open-whole.ensures.made.value;
    }

pub returns : goal.returns
returns c =
    let old = c.args.arena.now in
    let mid = c.plain_value-first.new.arena in
    let now = c.plain_value-second.new.arena in
    let new = c.fit_open-whole.new.self in
    let stays = stays_on old mid now c.plain_value-first.ensures.stays c.plain_value-second.ensures.stays in
    let made : Keeps now new = record { kept = c.fit_open-whole.ensures.kept; saved = c.fit_open-whole.ensures.saved } in
    let all = keeps_on old now new stays.keeps made in
    record {
      keeps = keeps_on old new c.join_pair.new.arena all c.join_pair.ensures.keeps;
      matched = λ p vs at.
          let v1 = c.plain_value-second.ensures.stays.keeps.kept.values c.plain_value-first.result (value_of p vs c.args.head.now) (c.plain_value-first.ensures.value p vs at) in
          let v2 = c.plain_value-second.ensures.value p vs (row_kept (meaning_of old) (meaning_of mid) c.args.row.now vs c.plain_value-first.ensures.stays.keeps.kept at) in
          let there : Made 3 (meaning_of old) (meaning_of new) c.fit_open-whole.result (value_of p vs (Pair-Term c.args.head.now c.args.tail.now)) = pair_made old now new p vs c.args.head.now c.args.tail.now c.plain_value-first.result c.plain_value-second.result c.fit_open-whole.result stays v1 v2 c.fit_open-whole.ensures.made in
          written_follows (meaning_of old) (meaning_of new) (meaning_of c.join_pair.new.arena) 3 c.args.arg c.fit_open-whole.result (value_of p vs (Pair-Term c.args.head.now c.args.tail.now)) (answer_of c.join_pair.result) all.kept there c.requires.arg c.join_pair.ensures.unified;
    }
