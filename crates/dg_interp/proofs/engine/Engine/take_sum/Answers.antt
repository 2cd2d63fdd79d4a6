use Rattle.std.proofs.Common.{◌-◌, subst, arith, refl, Some, None}
use Rattle.dg_unify.proofs.StoreLemmas.{holds_some, kept_holds}
use Rattle.dg_choices.specs.declared.frames.Whole.TheVariants.{Sum as InSum}
use Rattle.dg_lasting.specs.Lasting.{Closes}
use Rattle.dg_interp.specs.inside.Giving.{UnifiesAt, GivesAt}
use Rattle.dg_interp.specs.inside.Gathering.{TakesOutAt}
use Rattle.dg_interp.specs.inside.Engine.{store_in, FailsAt, Leads}
use Rattle.dg_interp.proofs.Takes.{store_ready}
use Rattle.dg_interp.proofs.Places.{silent, leads_on, limits_on}
use Rattle.dg_interp.proofs.Giving.{kept_limits, none_given, number_given}
use Rattle.dg_interp.proofs.Branches.{tries_made, full_made}
use Rattle.dg_interp.proofs.TakingOut.{none_wrong, some_first, sum_ready, sum_limits, sum_taken}
use Rattle.dg_interp.proofs.engine.Engine.take_sum.Goals as goal

pub returns-in_default-clause-tried : goal.returns-in_default-clause-tried
returns-in_default-clause-tried c = none_wrong InSum c.args.into c.args.self.now c.requires.ready c.in_default.ensures

pub overflow_sub-lasting : goal.overflow_sub-lasting
overflow_sub-lasting c = let some = some_first c.args.self.now.lasting.gathered.rows c.in-Some.cells.now c.in-Some.ensures in omega (arith, some, c.gatherings-lasting.ensures)

pub returns-in-None-clause-tried : goal.returns-in-None-clause-tried
returns-in-None-clause-tried c =
    let old = c.args.self.now in
    let e = record old { lasting = c.close_to.new.self } in
    let closed = subst (λ n. Closes (n - 1) old.lasting c.close_to.new.self) c.gatherings-lasting.ensures c.close_to.ensures in
    let taken = sum_taken c.args.into old c.requires.ready c.in-Some.cells.now c.in-Some.ensures c.close_to.new.self closed c.sum-total.result c.sum-total.ensures in
    record {
      sound = (sum_ready c.args.into old c.requires.ready c.in-Some.cells.now c.in-Some.ensures c.close_to.new.self closed c.sum-total.result c.sum-total.ensures).sound;
      left = refl;
      limits = silent (sum_limits c.args.into old c.requires.ready c.in-Some.cells.now c.in-Some.ensures c.close_to.new.self closed c.sum-total.result c.sum-total.ensures);
      leads = leads_on (TakesOutAt InSum c.args.into old) (GivesAt None c.args.into e) (FailsAt e) (subst (λ n. Leads (TakesOutAt InSum c.args.into old) (GivesAt n c.args.into e)) c.in-None.is taken) (none_given c.args.into e);
    }

pub meet-requires-clause-ready : goal.meet-requires-clause-ready
meet-requires-clause-ready c =
    let old = c.args.self.now in
    let e = record old { lasting = c.close_to.new.self } in
    let closed = subst (λ n. Closes (n - 1) old.lasting c.close_to.new.self) c.gatherings-lasting.ensures c.close_to.ensures in
    store_ready e c.number-made.new.store e.made c.number-made.ensures.kept c.number-made.ensures.saved (sum_ready c.args.into old c.requires.ready c.in-Some.cells.now c.in-Some.ensures c.close_to.new.self closed c.sum-total.result c.sum-total.ensures)

pub meet-requires-clause-hold : goal.meet-requires-clause-hold
meet-requires-clause-hold c = (
  kept_holds (store_in c.args.self.now.store) (store_in c.number-made.new.store) c.args.into c.number-made.ensures.kept c.requires.value,
  holds_some (store_in c.number-made.new.store) c.number-made.result _ c.number-made.ensures.made,
)

pub returns-in-Some-total-clause-tried : goal.returns-in-Some-total-clause-tried
returns-in-Some-total-clause-tried c =
    let old = c.args.self.now in
    let e = record old { lasting = c.close_to.new.self } in
    let f = record e { store = c.number-made.new.store } in
    let closed = subst (λ n. Closes (n - 1) old.lasting c.close_to.new.self) c.gatherings-lasting.ensures c.close_to.ensures in
    let ready = sum_ready c.args.into old c.requires.ready c.in-Some.cells.now c.in-Some.ensures c.close_to.new.self closed c.sum-total.result c.sum-total.ensures in
    let taken = sum_taken c.args.into old c.requires.ready c.in-Some.cells.now c.in-Some.ensures c.close_to.new.self closed c.sum-total.result c.sum-total.ensures in
    tries_made (TakesOutAt InSum c.args.into old) (UnifiesAt c.args.into c.number-made.result f) old f c.meet.new.self refl
    (limits_on old e f (sum_limits c.args.into old c.requires.ready c.in-Some.cells.now c.in-Some.ensures c.close_to.new.self closed c.sum-total.result c.sum-total.ensures) (kept_limits e c.number-made.new.store e.made ready c.number-made.ensures.kept c.number-made.ensures.saved))
    (leads_on (TakesOutAt InSum c.args.into old) (GivesAt (Some c.in-Some-total.n) c.args.into e) (UnifiesAt c.args.into c.number-made.result f) (subst (λ n. Leads (TakesOutAt InSum c.args.into old) (GivesAt n c.args.into e)) c.in-Some-total.is taken)
    (number_given c.in-Some-total.n c.args.into c.number-made.result e c.number-made.new.store ready c.number-made.ensures.kept c.number-made.ensures.saved c.requires.value c.number-made.ensures.same c.number-made.ensures.made)) c.meet.result c.meet.ensures.met

pub returns-in-Some-total-clause-full : goal.returns-in-Some-total-clause-full
returns-in-Some-total-clause-full c =
    let old = c.args.self.now in
    let e = record old { lasting = c.close_to.new.self } in
    let f = record e { store = c.number-made.new.store } in
    let closed = subst (λ n. Closes (n - 1) old.lasting c.close_to.new.self) c.gatherings-lasting.ensures c.close_to.ensures in
    let ready = sum_ready c.args.into old c.requires.ready c.in-Some.cells.now c.in-Some.ensures c.close_to.new.self closed c.sum-total.result c.sum-total.ensures in
    let taken = sum_taken c.args.into old c.requires.ready c.in-Some.cells.now c.in-Some.ensures c.close_to.new.self closed c.sum-total.result c.sum-total.ensures in
    full_made (TakesOutAt InSum c.args.into old) (UnifiesAt c.args.into c.number-made.result f) (store_in old.store) (store_in c.number-made.new.store) c.meet.result c.number-made.ensures.kept.heap_limit c.number-made.ensures.kept.trail_limit
    (leads_on (TakesOutAt InSum c.args.into old) (GivesAt (Some c.in-Some-total.n) c.args.into e) (UnifiesAt c.args.into c.number-made.result f) (subst (λ n. Leads (TakesOutAt InSum c.args.into old) (GivesAt n c.args.into e)) c.in-Some-total.is taken)
    (number_given c.in-Some-total.n c.args.into c.number-made.result e c.number-made.new.store ready c.number-made.ensures.kept c.number-made.ensures.saved c.requires.value c.number-made.ensures.same c.number-made.ensures.made)) c.meet.ensures.full

pub returns-in-Some-total-clause-fewer : goal.returns-in-Some-total-clause-fewer
returns-in-Some-total-clause-fewer c = c.meet.ensures.fewer
