use Rattle.std.proofs.Common.{◌≡◌, ◌+◌, ◌∙◌, ◌∷◌, [], refl, ap, arith, length, drop}
use Rattle.std.proofs.Math.Seq.{take-length}
use Rattle.std.proofs.lemmas.List.{length-append}
use Rattle.dg_arena.specs.Held.{meaning_of}
use Rattle.dg_machine.proofs.Kept.{row_kept}
use Rattle.dg_machine.proofs.HeadLemmas.{keeps_same, stays_on}
use Rattle.dg_machine.proofs.TableLemmas.{vars_none, vars_on, vars_before, vars_all}
use Rattle.dg_machine.proofs.closures.push_vars.Goals as goal

pub vars-init : goal.vars-init
vars-init c = record {
  stays = record { keeps = keeps_same c.args.arena.now; state = refl };
  values = λ vs at. vars_none (meaning_of c.args.arena.now) c.args.to.now.items vs c.args.vars.now;
  before = take-length c.args.to.now.items;
  count = omega arith;
  capacity = refl;
}

pub push_reserved-requires : goal.push_reserved-requires
push_reserved-requires c = omega (arith, c.requires.room, c.vars.invariant.count, c.vars.invariant.capacity, c.vars-test.true, c.vars.to.ok.0, c.args.to.now.ok.0)

pub vars-preserved : goal.vars-preserved
vars-preserved c =
    let old = c.args.arena.now in
    let now = c.vars.arena in
    let new = c.var_value-value.new.arena in
    let stays = c.var_value-value.ensures.stays in
    let n = length c.args.to.now.items in
    record {
      stays = stays_on old now new c.vars.invariant.stays stays;
      values = λ vs at. vars_on vs c.args.vars.now c.vars.var-index (meaning_of now) (meaning_of new) n c.vars.to.items c.push_reserved.new.self.items c.var_value-value.result c.vars-test.true (omega (arith, c.vars.invariant.count)) stays.keeps.kept c.push_reserved.ensures.items (c.vars.invariant.values vs at) (c.var_value-value.ensures.value vs (row_kept (meaning_of old) (meaning_of now) c.args.row.now vs c.vars.invariant.stays.keeps.kept at));
      before = vars_before n c.vars.to.items c.push_reserved.new.self.items c.var_value-value.result (omega (arith, c.vars.invariant.count)) c.push_reserved.ensures.items ∙ c.vars.invariant.before;
      count = ap length c.push_reserved.ensures.items ∙ length-append c.vars.to.items (c.var_value-value.result ∷ []) ∙ (let more : length c.vars.to.items + 1 ≡ n + (c.vars.var-index + 1) = omega (arith, c.vars.invariant.count) in more);
      capacity = c.push_reserved.ensures.capacity ∙ c.vars.invariant.capacity;
    }

pub var_value-value-requires : goal.var_value-value-requires
var_value-value-requires c = let row = c.requires.row in (row.0, row_kept (meaning_of c.args.arena.now) (meaning_of c.vars.arena) c.args.row.now row.0 c.vars.invariant.stays.keeps.kept row.1)

pub returns-clause-values : goal.returns-clause-values
returns-clause-values c vs at = vars_all (meaning_of c.vars.arena) vs c.args.vars.now c.vars.var-index (drop (length c.args.to.now.items) c.vars.to.items) (omega (arith, c.vars-test.false)) (c.vars.invariant.values vs at)
