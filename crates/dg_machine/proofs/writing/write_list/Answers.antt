use Rattle.std.proofs.Common.{◌∙◌, ap, arith, length}
use Rattle.std.proofs.lemmas.Result.{MatchResult-weaker}
use Rattle.dg_arena.specs.Held.{meaning_of}
use Rattle.dg_machine.proofs.Kept.{row_kept}
use Rattle.dg_machine.proofs.HeadLemmas.{keeps_on}
use Rattle.dg_machine.proofs.PathLemmas.{fronts_on}
use Rattle.dg_machine.proofs.WriteSteps.{ok_holds, at_end, end_over, list_writes, list_full}
use Rattle.dg_machine.proofs.writing.write_list.Goals as goal

pub leaf_value-requires-clause-row : goal.leaf_value-requires-clause-row
leaf_value-requires-clause-row c = let row = c.requires.row in (row.1, row_kept (meaning_of c.args.arena.now) (meaning_of c.descend.new.arena) c.args.row.now row.1 c.in-Ok.ensures.keeps.kept row.3)

pub leaf_value-requires-clause-spare : goal.leaf_value-requires-clause-spare
leaf_value-requires-clause-spare c = record {
  fits = omega (arith, c.requires.spare.fits, c.in-Ok.ensures.spare_room, c.in-Ok.ensures.keeps.kept.heap_limit);
  few = omega (arith, c.requires.spare.few, ap length c.in-Ok.ensures.spare, c.in-Ok.ensures.heap);
}

pub returns-in-Err-clause-written : goal.returns-in-Err-clause-written
returns-in-Err-clause-written c p vs is at gone = c.in-Err.ensures.gone p vs is at gone

pub returns-in-Err-leaf_value-clause-keeps : goal.returns-in-Err-leaf_value-clause-keeps
returns-in-Err-leaf_value-clause-keeps c = keeps_on c.args.arena.now c.descend.new.arena c.leaf_value.new.arena c.in-Ok.ensures.keeps c.in-Err-leaf_value.ensures.keeps

pub returns-in-Err-leaf_value-clause-written : goal.returns-in-Err-leaf_value-clause-written
returns-in-Err-leaf_value-clause-written c p vs is at gone =
    let old = meaning_of c.args.arena.now in
    let mid = meaning_of c.descend.new.arena in
    let kept = c.in-Ok.ensures.keeps.kept in
    let d = c.in-Ok.ensures.gone p vs is at gone in
    let here = row_kept old mid c.args.row.now vs kept at in
    end_over p vs c.args.whole.now old mid (meaning_of c.leaf_value.new.arena) c.args.path.now.items c.descend.new.path.items c.in-Ok.end.now (record { 0 = 0 }) c.in-Ok.ensures.end d kept (c.in-Err-leaf_value.ensures.made p vs is here)

pub close-requires : goal.close-requires
close-requires c =
    let row = c.requires.row in
    let p = row.0 in
    let vs = row.1 in
    let is = row.2 in
    let at = row.3 in
    let gone = row.4 in
    let old = meaning_of c.args.arena.now in
    let mid = meaning_of c.descend.new.arena in
    let last = meaning_of c.leaf_value.new.arena in
    let kept = c.in-Ok.ensures.keeps.kept in
    let d = c.in-Ok.ensures.gone p vs is at gone in
    let made = c.in-Ok-leaf_value.ensures.made p vs is (row_kept old mid c.args.row.now vs kept at) in
    let kept_last = c.in-Ok-leaf_value.ensures.keeps.kept in
    (p, vs, c.args.whole.now, at_end p vs c.args.whole.now old mid last c.args.path.now.items c.descend.new.path.items c.in-Ok.end.now c.in-Ok-leaf_value.value c.in-Ok.ensures.end d kept made kept_last)

pub returns : goal.returns
returns c =
    let old = meaning_of c.args.arena.now in
    let mid = meaning_of c.descend.new.arena in
    let last = meaning_of c.leaf_value.new.arena in
    let t = c.args.whole.now in
    let before = c.args.path.now.items in
    let path = c.descend.new.path.items in
    let end = c.in-Ok.end.now in
    let r = c.in-Ok-leaf_value.value in
    let kept = c.in-Ok.ensures.keeps.kept in
    let kept_last = c.in-Ok-leaf_value.ensures.keeps.kept in
    record {
      keeps = keeps_on c.args.arena.now c.leaf_value.new.arena c.close.new.arena (keeps_on c.args.arena.now c.descend.new.arena c.leaf_value.new.arena c.in-Ok.ensures.keeps c.in-Ok-leaf_value.ensures.keeps) c.close.ensures.keeps;
      capacity = c.close.ensures.capacity ∙ c.in-Ok.ensures.capacity;
      fronts = ok_holds c.close.result (fronts_on before path c.close.new.path.items c.in-Ok.ensures.on c.close.ensures.fronts);
      written = λ p vs is at gone.
          let d = c.in-Ok.ensures.gone p vs is at gone in
          let made = c.in-Ok-leaf_value.ensures.made p vs is (row_kept old mid c.args.row.now vs kept at) in
          MatchResult-weaker c.close.result
          (c.close.ensures.closed p vs t (at_end p vs t old mid last before path end r c.in-Ok.ensures.end d kept made kept_last))
          (λ o h. list_writes p vs t old mid last before path end r c.in-Ok.ensures.end d kept made kept_last (meaning_of c.close.new.arena) c.close.new.path.items o h)
          (λ _ h. list_full p vs t old mid last before path end r c.in-Ok.ensures.end d kept made kept_last h);
      spare = ok_holds c.close.result (c.in-Ok-leaf_value.ensures.spare ∙ c.in-Ok.ensures.spare);
      spare_room = c.in-Ok-leaf_value.ensures.capacity ∙ c.in-Ok.ensures.spare_room;
    }
