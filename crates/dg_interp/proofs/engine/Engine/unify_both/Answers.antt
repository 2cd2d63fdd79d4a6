use Rattle.std.proofs.Common.{refl}
use Rattle.dg_interp.specs.inside.Engine.{store_in, FailsAt}
use Rattle.dg_interp.specs.inside.Giving.{UnifiesAt}
use Rattle.dg_interp.proofs.Takes.{store_sound}
use Rattle.dg_interp.proofs.Giving.{equation, kept_limits, solved_full, solved_on, solved_fails}
use Rattle.dg_interp.proofs.Branches.{full_made, back_made}
use Rattle.dg_interp.proofs.engine.Engine.unify_both.Goals as goal

pub returns-in-Err-clause-full : goal.returns-in-Err-clause-full
returns-in-Err-clause-full c = solved_full (equation c.args.a c.args.b c.args.self.now) c.args.self.now c.args.self.now.store.sound.fits.sound c.in-Err.e c.in-Err.ensures.unified.cause

pub returns-in-Ok-true-clause-unified : goal.returns-in-Ok-true-clause-unified
returns-in-Ok-true-clause-unified c =
    solved_on (equation c.args.a c.args.b c.args.self.now) c.args.self.now c.unify.new.store c.requires.ready c.args.self.now.store.sound.fits.sound c.unify.ensures.kept c.unify.ensures.saved c.in-Ok-true.field-0 c.in-Ok-true.ensures.unified c.in-Ok-true.field-0-test

pub back-requires : goal.back-requires
back-requires c = record { sound = store_sound c.args.self.now c.unify.new.store c.args.self.now.made c.unify.ensures.kept c.unify.ensures.saved c.requires.ready.sound }

pub returns-in-Ok-false-clause-full : goal.returns-in-Ok-false-clause-full
returns-in-Ok-false-clause-full c =
    let old = c.args.self.now in
    let e = record old { store = c.unify.new.store } in
    full_made (UnifiesAt c.args.a c.args.b old) (FailsAt e) (store_in old.store) (store_in c.unify.new.store) c.back.result c.unify.ensures.kept.heap_limit c.unify.ensures.kept.trail_limit
    (solved_fails (equation c.args.a c.args.b old) old c.unify.new.store c.requires.ready old.store.sound.fits.sound c.unify.ensures.kept c.unify.ensures.saved c.in-Ok-false.field-0 c.in-Ok-false.ensures.unified c.in-Ok-false.field-0-test) c.back.ensures.full

pub returns-in-Ok-false-clause-unified : goal.returns-in-Ok-false-clause-unified
returns-in-Ok-false-clause-unified c =
    let old = c.args.self.now in
    let e = record old { store = c.unify.new.store } in
    back_made (UnifiesAt c.args.a c.args.b old) (FailsAt e) old e c.back.new.self refl (kept_limits old c.unify.new.store old.made c.requires.ready c.unify.ensures.kept c.unify.ensures.saved)
    (solved_fails (equation c.args.a c.args.b old) old c.unify.new.store c.requires.ready old.store.sound.fits.sound c.unify.ensures.kept c.unify.ensures.saved c.in-Ok-false.field-0 c.in-Ok-false.ensures.unified c.in-Ok-false.field-0-test) c.back.result c.back.ensures.back
