use Rattle.std.proofs.Common.{refl, sym, ap, ◌∙◌}
use Rattle.dg_base.specs.declared.program.Goal.TheVariants.{Compare}
use Rattle.dg_interp.specs.inside.Frames.{stretch}
use Rattle.dg_interp.specs.inside.Engine.{store_in, FailsAt, TakesAt}
use Rattle.dg_interp.proofs.Takes.{store_sound}
use Rattle.dg_interp.proofs.Values.{grown_limits}
use Rattle.dg_interp.proofs.Stores.{both_among}
use Rattle.dg_interp.proofs.Compares.{compare_full, compare_passed, compare_failed}
use Rattle.dg_interp.proofs.Branches.{full_made, back_made}
use Rattle.dg_interp.proofs.engine.Engine.compare.Goals as goal

pub returns-in-Err-clause-full : goal.returns-in-Err-clause-full
returns-in-Err-clause-full c = compare_full c.args.op c.args.a.now c.args.b.now c.args.self.now c.in-Err.e c.in-Err.ensures.written

pub in_order-requires : goal.in_order-requires
in_order-requires c = ((c.in-Ok.ensures.written c.args.self.now.program.now refl).left_in, (c.in-Ok.ensures.written c.args.self.now.program.now refl).right_in)

pub returns-then-in_order-clause-compared : goal.returns-then-in_order-clause-compared
returns-then-in_order-clause-compared c =
    let old = c.args.self.now in
    compare_passed c.args.op c.args.a.now c.args.b.now old c.write_both.new.store c.write_both.new.stack c.in-Ok.first c.in-Ok.second c.requires.ready c.write_both.ensures.kept c.write_both.ensures.saved
    (λ program e. both_among program _ _ _ _ _ _ old.refs.items c.stretch-env.result.now old.here.env (c.stretch-env.ensures ∙ ap (λ l. stretch l old.here.env) c.deref.ensures.value) (c.in-Ok.ensures.written program e)) (sym c.if-in_order.true ∙ c.in_order.ensures)

pub back-requires : goal.back-requires
back-requires c = record { sound = store_sound c.args.self.now c.write_both.new.store c.write_both.new.stack c.write_both.ensures.kept c.write_both.ensures.saved c.requires.ready.sound }

pub returns-else-in_order-clause-full : goal.returns-else-in_order-clause-full
returns-else-in_order-clause-full c =
    let old = c.args.self.now in
    let x = Compare c.args.op c.args.a.now c.args.b.now in
    let e = record old { store = c.write_both.new.store; made = c.write_both.new.stack } in
    full_made (TakesAt x old) (FailsAt e) (store_in old.store) (store_in c.write_both.new.store) c.back.result c.write_both.ensures.kept.heap_limit c.write_both.ensures.kept.trail_limit
    (compare_failed c.args.op c.args.a.now c.args.b.now old c.write_both.new.store c.write_both.new.stack c.in-Ok.first c.in-Ok.second c.requires.ready c.write_both.ensures.kept c.write_both.ensures.saved
    (λ program e. both_among program _ _ _ _ _ _ old.refs.items c.stretch-env.result.now old.here.env (c.stretch-env.ensures ∙ ap (λ l. stretch l old.here.env) c.deref.ensures.value) (c.in-Ok.ensures.written program e)) (sym c.if-in_order.false ∙ c.in_order.ensures)) c.back.ensures.full

pub returns-else-in_order-clause-compared : goal.returns-else-in_order-clause-compared
returns-else-in_order-clause-compared c =
    let old = c.args.self.now in
    let x = Compare c.args.op c.args.a.now c.args.b.now in
    let e = record old { store = c.write_both.new.store; made = c.write_both.new.stack } in
    back_made (TakesAt x old) (FailsAt e) old e c.back.new.self refl (grown_limits x old c.write_both.new.store c.write_both.new.stack c.requires.ready c.write_both.ensures.kept c.write_both.ensures.saved)
    (compare_failed c.args.op c.args.a.now c.args.b.now old c.write_both.new.store c.write_both.new.stack c.in-Ok.first c.in-Ok.second c.requires.ready c.write_both.ensures.kept c.write_both.ensures.saved
    (λ program e. both_among program _ _ _ _ _ _ old.refs.items c.stretch-env.result.now old.here.env (c.stretch-env.ensures ∙ ap (λ l. stretch l old.here.env) c.deref.ensures.value) (c.in-Ok.ensures.written program e)) (sym c.if-in_order.false ∙ c.in_order.ensures)) c.back.result c.back.ensures.back
