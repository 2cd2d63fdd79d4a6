use Rattle.std.proofs.Common.{refl, subst, sym}
use Rattle.dg_interp.specs.inside.Engine.{store_in, FailsAt, Leads}
use Rattle.dg_interp.specs.inside.Giving.{GivesAt, UnifiesAt}
use Rattle.dg_interp.proofs.Takes.{store_ready}
use Rattle.dg_unify.proofs.StoreLemmas.{kept_holds}
use Rattle.dg_unify.proofs.StoreLemmas.{holds_some}
use Rattle.dg_interp.proofs.Giving.{kept_limits, same_limits, none_given, number_given, branches_made}
use Rattle.dg_interp.proofs.Branches.{full_made, back_made}
use Rattle.dg_interp.proofs.engine.Engine.give_number.Goals as goal

pub returns-in-None-clause-full : goal.returns-in-None-clause-full
returns-in-None-clause-full c =
    let old = c.args.self.now in
    full_made (GivesAt c.args.n c.args.into old) (FailsAt old) (store_in old.store) (store_in old.store) c.back.result refl refl
    (subst (λ n. Leads (GivesAt n c.args.into old) (FailsAt old)) (sym c.in-None.is) (none_given c.args.into old)) c.back.ensures.full

pub returns-in-None-clause-given : goal.returns-in-None-clause-given
returns-in-None-clause-given c =
    let old = c.args.self.now in
    back_made (GivesAt c.args.n c.args.into old) (FailsAt old) old old c.back.new.self refl (same_limits old)
    (subst (λ n. Leads (GivesAt n c.args.into old) (FailsAt old)) (sym c.in-None.is) (none_given c.args.into old)) c.back.result c.back.ensures.back

pub unify_both-requires-clause-ready : goal.unify_both-requires-clause-ready
unify_both-requires-clause-ready c = store_ready c.args.self.now c.number-made.new.store c.args.self.now.made c.number-made.ensures.kept c.number-made.ensures.saved c.requires.ready

pub unify_both-requires-clause-hold : goal.unify_both-requires-clause-hold
unify_both-requires-clause-hold c = (
  kept_holds (store_in c.args.self.now.store) (store_in c.number-made.new.store) c.args.into c.number-made.ensures.kept c.requires.hold,
  holds_some (store_in c.number-made.new.store) c.number-made.result _ c.number-made.ensures.made,
)

pub returns-in-Some-clause-full : goal.returns-in-Some-clause-full
returns-in-Some-clause-full c =
    let old = c.args.self.now in
    let e = record old { store = c.number-made.new.store } in
    full_made (GivesAt c.args.n c.args.into old) (UnifiesAt c.args.into c.number-made.result e) (store_in old.store) (store_in c.number-made.new.store) c.unify_both.result c.number-made.ensures.kept.heap_limit c.number-made.ensures.kept.trail_limit
    (subst (λ n. Leads (GivesAt n c.args.into old) (UnifiesAt c.args.into c.number-made.result e)) (sym c.in-Some.is)
    (number_given c.in-Some.n c.args.into c.number-made.result old c.number-made.new.store c.requires.ready c.number-made.ensures.kept c.number-made.ensures.saved c.requires.hold c.number-made.ensures.same c.number-made.ensures.made)) c.unify_both.ensures.full

pub returns-in-Some-clause-given : goal.returns-in-Some-clause-given
returns-in-Some-clause-given c =
    let old = c.args.self.now in
    let e = record old { store = c.number-made.new.store } in
    branches_made (GivesAt c.args.n c.args.into old) (UnifiesAt c.args.into c.number-made.result e) old e c.unify_both.new.self refl (kept_limits old c.number-made.new.store old.made c.requires.ready c.number-made.ensures.kept c.number-made.ensures.saved)
    (subst (λ n. Leads (GivesAt n c.args.into old) (UnifiesAt c.args.into c.number-made.result e)) (sym c.in-Some.is)
    (number_given c.in-Some.n c.args.into c.number-made.result old c.number-made.new.store c.requires.ready c.number-made.ensures.kept c.number-made.ensures.saved c.requires.hold c.number-made.ensures.same c.number-made.ensures.made)) c.unify_both.result c.unify_both.ensures.unified
