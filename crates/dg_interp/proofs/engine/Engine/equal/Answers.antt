use Rattle.std.proofs.Common.{refl, ap, ◌∙◌}
use Rattle.dg_base.specs.declared.program.Goal.TheVariants.{Equal}
use Rattle.dg_interp.specs.inside.Frames.{stretch}
use Rattle.dg_interp.specs.inside.Engine.{store_in, FailsAt, TakesAt}
use Rattle.dg_interp.proofs.Takes.{store_sound}
use Rattle.dg_unify.proofs.StoreLemmas.{kept_on}
use Rattle.dg_interp.proofs.Values.{grown_limits}
use Rattle.dg_interp.proofs.Stores.{both_among}
use Rattle.dg_interp.proofs.Equals.{equal_full, equal_trail_full, equal_passed, equal_failed}
use Rattle.dg_interp.proofs.Branches.{full_made, back_made}
use Rattle.dg_interp.proofs.engine.Engine.equal.Goals as goal

pub returns-in-Err-clause-full : goal.returns-in-Err-clause-full
returns-in-Err-clause-full c = equal_full c.args.a.now c.args.b.now c.args.self.now c.in-Err.e c.in-Err.ensures.written

pub unify-requires-clause-a_in : goal.unify-requires-clause-a_in
unify-requires-clause-a_in c = (c.in-Ok.ensures.written c.args.self.now.program.now refl).left_in

pub unify-requires-clause-b_in : goal.unify-requires-clause-b_in
unify-requires-clause-b_in c = (c.in-Ok.ensures.written c.args.self.now.program.now refl).right_in

pub returns-in-Err-unify-clause-full : goal.returns-in-Err-unify-clause-full
returns-in-Err-unify-clause-full c =
    let old = c.args.self.now in
    equal_trail_full c.args.a.now c.args.b.now old (store_in c.write_both.new.store) c.in-Ok.left c.in-Ok.right old.store.sound.fits.sound
    (λ program e. both_among program _ _ _ _ _ _ old.refs.items c.stretch-env.result.now old.here.env (c.stretch-env.ensures ∙ ap (λ l. stretch l old.here.env) c.deref.ensures.value) (c.in-Ok.ensures.written program e)) c.in-Err-unify.e c.in-Err-unify.ensures.unified.cause

pub returns-in-Ok-true-clause-equal : goal.returns-in-Ok-true-clause-equal
returns-in-Ok-true-clause-equal c =
    let old = c.args.self.now in
    equal_passed c.args.a.now c.args.b.now old (store_in c.write_both.new.store) c.in-Ok.left c.in-Ok.right c.unify.new.store c.write_both.new.stack c.requires.ready old.store.sound.fits.sound
    (kept_on (store_in old.store) (store_in c.write_both.new.store) (store_in c.unify.new.store) c.write_both.ensures.kept c.unify.ensures.kept) (λ ms h. c.unify.ensures.saved ms (c.write_both.ensures.saved ms h))
    (λ program e. both_among program _ _ _ _ _ _ old.refs.items c.stretch-env.result.now old.here.env (c.stretch-env.ensures ∙ ap (λ l. stretch l old.here.env) c.deref.ensures.value) (c.in-Ok.ensures.written program e)) c.in-Ok-true.field-0 c.in-Ok-true.ensures.unified c.in-Ok-true.field-0-test

pub back-requires : goal.back-requires
back-requires c =
    let old = c.args.self.now in
    record { sound = store_sound old c.unify.new.store c.write_both.new.stack (kept_on (store_in old.store) (store_in c.write_both.new.store) (store_in c.unify.new.store) c.write_both.ensures.kept c.unify.ensures.kept) (λ ms h. c.unify.ensures.saved ms (c.write_both.ensures.saved ms h)) c.requires.ready.sound }

pub returns-in-Ok-false-clause-full : goal.returns-in-Ok-false-clause-full
returns-in-Ok-false-clause-full c =
    let old = c.args.self.now in
    let k = kept_on (store_in old.store) (store_in c.write_both.new.store) (store_in c.unify.new.store) c.write_both.ensures.kept c.unify.ensures.kept in
    let e = record old { store = c.unify.new.store; made = c.write_both.new.stack } in
    full_made (TakesAt (Equal c.args.a.now c.args.b.now) old) (FailsAt e) (store_in old.store) (store_in c.unify.new.store) c.back.result k.heap_limit k.trail_limit
    (equal_failed c.args.a.now c.args.b.now old (store_in c.write_both.new.store) c.in-Ok.left c.in-Ok.right c.unify.new.store c.write_both.new.stack c.requires.ready old.store.sound.fits.sound k (λ ms h. c.unify.ensures.saved ms (c.write_both.ensures.saved ms h))
    (λ program e. both_among program _ _ _ _ _ _ old.refs.items c.stretch-env.result.now old.here.env (c.stretch-env.ensures ∙ ap (λ l. stretch l old.here.env) c.deref.ensures.value) (c.in-Ok.ensures.written program e)) c.in-Ok-false.field-0 c.in-Ok-false.ensures.unified c.in-Ok-false.field-0-test) c.back.ensures.full

pub returns-in-Ok-false-clause-equal : goal.returns-in-Ok-false-clause-equal
returns-in-Ok-false-clause-equal c =
    let old = c.args.self.now in
    let x = Equal c.args.a.now c.args.b.now in
    let k = kept_on (store_in old.store) (store_in c.write_both.new.store) (store_in c.unify.new.store) c.write_both.ensures.kept c.unify.ensures.kept in
    let e = record old { store = c.unify.new.store; made = c.write_both.new.stack } in
    back_made (TakesAt x old) (FailsAt e) old e c.back.new.self refl
    (grown_limits x old c.unify.new.store c.write_both.new.stack c.requires.ready k (λ ms h. c.unify.ensures.saved ms (c.write_both.ensures.saved ms h)))
    (equal_failed c.args.a.now c.args.b.now old (store_in c.write_both.new.store) c.in-Ok.left c.in-Ok.right c.unify.new.store c.write_both.new.stack c.requires.ready old.store.sound.fits.sound k (λ ms h. c.unify.ensures.saved ms (c.write_both.ensures.saved ms h))
    (λ program e. both_among program _ _ _ _ _ _ old.refs.items c.stretch-env.result.now old.here.env (c.stretch-env.ensures ∙ ap (λ l. stretch l old.here.env) c.deref.ensures.value) (c.in-Ok.ensures.written program e)) c.in-Ok-false.field-0 c.in-Ok-false.ensures.unified c.in-Ok-false.field-0-test) c.back.result c.back.ensures.back
