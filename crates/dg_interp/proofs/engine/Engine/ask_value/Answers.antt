use Rattle.std.proofs.Common.{rules, refl, ap, arith, ◌≡◌, ◌-◌, length, length-append}
use Rattle.dg_interp.specs.inside.Engine.{store_in, FailsAt}
use Rattle.dg_interp.specs.inside.Querying.{QueriesAt}
use Rattle.dg_interp.proofs.Branches.{full_made, back_made}
use Rattle.dg_interp.proofs.Places.{limits_here}
use Rattle.dg_interp.proofs.Queries.{asks_nothing, runnable, body_full, entering_limits, entering_sound, enters_not, begins_body}
use Rattle.dg_interp.proofs.engine.Engine.ask_value.Goals as goal

pub returns-in_default-clause-asked : goal.returns-in_default-clause-asked
returns-in_default-clause-asked c =
    let old = c.args.self.now in
    back_made (QueriesAt c.args.value c.args.many old) (FailsAt old) old old c.back.new.self refl (limits_here old) (asks_nothing c.args.value c.args.many old c.requires.ready c.in_default.ensures) c.back.result c.back.ensures.back

pub returns-in_default-clause-full : goal.returns-in_default-clause-full
returns-in_default-clause-full c =
    let old = c.args.self.now in
    full_made (QueriesAt c.args.value c.args.many old) (FailsAt old) (store_in old.store) (store_in old.store) c.back.result refl refl (asks_nothing c.args.value c.args.many old c.requires.ready c.in_default.ensures) c.back.ensures.full

pub enter_body-requires-clause-own : goal.enter_body-requires-clause-own
enter_body-requires-clause-own c =
    let old = c.args.self.now in
    (runnable c.args.value c.args.many old c.requires.ready c.in-Some.closure c.in-Some.body.now c.in-Some.ensures old.store.sound.fits.sound).parameter

pub overflow_sub-self : goal.overflow_sub-self
overflow_sub-self c =
    let is = c.in-Some.ensures in
    let e = c.in-Ok-true.ensures.entered is.place is.parts is.at in
    omega (arith, c.len-from.ensures, c.len.ensures, ap length e.appended.is, length-append c.args.self.now.refs.items e.appended.made)

pub back-requires-in-Ok-false : goal.back-requires-in-Ok-false
back-requires-in-Ok-false c =
    let old = c.args.self.now in
    let is = c.in-Some.ensures in
    record {
      sound = entering_sound c.args.value c.args.many old c.requires.ready c.in-Some.closure c.in-Some.body.now is old.store.sound.fits.sound c.enter_body.new.store c.enter_body.new.refs c.in-Ok-false.field-0 c.enter_body.ensures.kept c.enter_body.ensures.saved
          (rw c.as_slice.ensures.value at (c.in-Ok-false.ensures.entered is.place is.parts is.at));
    }

pub returns-in-Err-clause-full : goal.returns-in-Err-clause-full
returns-in-Err-clause-full c =
    let old = c.args.self.now in
    let is = c.in-Some.ensures in
    body_full c.args.value c.args.many old c.requires.ready c.in-Some.closure c.in-Some.body.now is old.store.sound.fits.sound c.in-Err.e (rw c.as_slice.ensures.value at (c.in-Err.ensures.entered is.place is.parts is.at))

pub returns-in-Ok-false-clause-asked : goal.returns-in-Ok-false-clause-asked
returns-in-Ok-false-clause-asked c =
    let old = c.args.self.now in
    let is = c.in-Some.ensures in
    let e = record old { store = c.enter_body.new.store; refs = c.enter_body.new.refs } in
    let enters = rw c.as_slice.ensures.value at (c.in-Ok-false.ensures.entered is.place is.parts is.at) in
    back_made (QueriesAt c.args.value c.args.many old) (FailsAt e) old e c.back-in-Ok-false.new.self refl
    (entering_limits c.args.value c.args.many old c.requires.ready c.in-Some.closure c.in-Some.body.now is old.store.sound.fits.sound c.enter_body.new.store c.enter_body.new.refs c.in-Ok-false.field-0 c.enter_body.ensures.kept c.enter_body.ensures.saved enters)
    (enters_not c.args.value c.args.many old c.requires.ready c.in-Some.closure c.in-Some.body.now is old.store.sound.fits.sound c.enter_body.new.store c.enter_body.new.refs c.in-Ok-false.field-0 c.enter_body.ensures.kept c.enter_body.ensures.saved enters c.in-Ok-false.field-0-test) c.back-in-Ok-false.result c.back-in-Ok-false.ensures.back

pub returns-in-Ok-false-clause-full : goal.returns-in-Ok-false-clause-full
returns-in-Ok-false-clause-full c =
    let old = c.args.self.now in
    let is = c.in-Some.ensures in
    let e = record old { store = c.enter_body.new.store; refs = c.enter_body.new.refs } in
    let enters = rw c.as_slice.ensures.value at (c.in-Ok-false.ensures.entered is.place is.parts is.at) in
    full_made (QueriesAt c.args.value c.args.many old) (FailsAt e) (store_in old.store) (store_in c.enter_body.new.store) c.back-in-Ok-false.result c.enter_body.ensures.kept.heap_limit c.enter_body.ensures.kept.trail_limit
    (enters_not c.args.value c.args.many old c.requires.ready c.in-Some.closure c.in-Some.body.now is old.store.sound.fits.sound c.enter_body.new.store c.enter_body.new.refs c.in-Ok-false.field-0 c.enter_body.ensures.kept c.enter_body.ensures.saved enters c.in-Ok-false.field-0-test) c.back-in-Ok-false.ensures.full

pub returns-else-is_err-clause-asked : goal.returns-else-is_err-clause-asked
returns-else-is_err-clause-asked c =
    let old = c.args.self.now in
    let is = c.in-Some.ensures in
    let enters = rw c.as_slice.ensures.value at (c.in-Ok-true.ensures.entered is.place is.parts is.at) in
    let from : c.len-from.result ≡ length old.refs.items = search rules in
    let count : c.len.result ≡ length c.enter_body.new.refs.items = search rules in
    let behind : c.len-in-Ok-true.result ≡ length c.push.new.self.items = search rules in
    rw from
    (rw behind
    (rw c.body_mark.ensures
    (begins_body c.args.value c.args.many old c.requires.ready c.in-Some.closure c.in-Some.body.now is old.store.sound.fits.sound c.enter_body.new.store c.enter_body.new.refs c.in-Ok-true.field-0 c.enter_body.ensures.kept c.enter_body.ensures.saved enters
    c.push.new.self c.as_slice-in-Ok-true.result _ (search rules) c.as_slice-in-Ok-true.ensures (ap (λ n. n - length old.refs.items) count) c.requires.room c.in-Ok-true.field-0-test)))
