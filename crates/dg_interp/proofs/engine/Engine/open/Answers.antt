use Rattle.std.proofs.Common.{refl, ◌+◌}
use Rattle.dg_interp.specs.inside.Engine.{store_in, OpensAt, BeginsAt, FailsAt}
use Rattle.dg_interp.proofs.Branches.{went_on_from, went_wrong_from, full_from, full_made_by, back_by}
use Rattle.dg_interp.proofs.Opens.{opened_place, opened_limits, opened_sound, opens_begins}
use Rattle.dg_interp.proofs.engine.Engine.open.Goals as goal

pub begin-requires-clause-sound : goal.begin-requires-clause-sound
begin-requires-clause-sound c = opened_sound c.args.self.now c.args.left c.mark-place.result c.mark-place.new.self c.requires.ready c.mark-place.ensures.kept c.mark-place.ensures.same c.mark-place.ensures.saved c.requires.room

pub begin-requires-clause-place : goal.begin-requires-clause-place
begin-requires-clause-place c = opened_place c.args.self.now c.args.left c.mark-place.result c.mark-place.new.self c.requires.ready c.mark-place.ensures.kept c.mark-place.ensures.same c.mark-place.ensures.saved

pub returns-in-Err-clause-full : goal.returns-in-Err-clause-full
returns-in-Err-clause-full c =
    let old = c.args.self.now in
    let e = record old { store = c.mark-place.new.self; newest = old.newest + 1 } in
    let k = c.mark-place.ensures.kept in
    full_from (OpensAt c.args.left old) (BeginsAt c.args.left c.mark-place.result e) (store_in old.store) (store_in c.mark-place.new.self) c.in-Err.e k.heap_limit k.trail_limit
    (opens_begins old c.args.left c.mark-place.result c.mark-place.new.self c.requires.ready k c.mark-place.ensures.same c.mark-place.ensures.saved c.requires.ordinary c.requires.left) c.in-Err.ensures.full

pub returns-in-Ok-true-clause-opened : goal.returns-in-Ok-true-clause-opened
returns-in-Ok-true-clause-opened c =
    let old = c.args.self.now in
    let e = record old { store = c.mark-place.new.self; newest = old.newest + 1 } in
    let k = c.mark-place.ensures.kept in
    went_on_from (OpensAt c.args.left old) (BeginsAt c.args.left c.mark-place.result e) old e c.begin.new.self refl (opened_limits old c.args.left c.mark-place.result c.mark-place.new.self c.requires.ready k c.mark-place.ensures.same c.mark-place.ensures.saved)
    (opens_begins old c.args.left c.mark-place.result c.mark-place.new.self c.requires.ready k c.mark-place.ensures.same c.mark-place.ensures.saved c.requires.ordinary c.requires.left) (rw c.in-Ok-true.field-0-test at c.in-Ok-true.ensures.tried)

pub returns-in-Ok-false-clause-full : goal.returns-in-Ok-false-clause-full
returns-in-Ok-false-clause-full c =
    let old = c.args.self.now in
    let e = record old { store = c.mark-place.new.self; newest = old.newest + 1 } in
    let k = c.mark-place.ensures.kept in
    let wrong = went_wrong_from (OpensAt c.args.left old) (BeginsAt c.args.left c.mark-place.result e) old e c.begin.new.self refl (opened_limits old c.args.left c.mark-place.result c.mark-place.new.self c.requires.ready k c.mark-place.ensures.same c.mark-place.ensures.saved)
    (opens_begins old c.args.left c.mark-place.result c.mark-place.new.self c.requires.ready k c.mark-place.ensures.same c.mark-place.ensures.saved c.requires.ordinary c.requires.left) (rw c.in-Ok-false.field-0-test at c.in-Ok-false.ensures.tried) in
    full_made_by wrong.limits.calls (OpensAt c.args.left old) (FailsAt c.begin.new.self) (store_in old.store) (store_in c.begin.new.self.store) c.back.result wrong.limits.heap wrong.limits.trail wrong.leads c.back.ensures.full

pub returns-in-Ok-false-clause-opened : goal.returns-in-Ok-false-clause-opened
returns-in-Ok-false-clause-opened c =
    let old = c.args.self.now in
    let e = record old { store = c.mark-place.new.self; newest = old.newest + 1 } in
    let k = c.mark-place.ensures.kept in
    let wrong = went_wrong_from (OpensAt c.args.left old) (BeginsAt c.args.left c.mark-place.result e) old e c.begin.new.self refl (opened_limits old c.args.left c.mark-place.result c.mark-place.new.self c.requires.ready k c.mark-place.ensures.same c.mark-place.ensures.saved)
    (opens_begins old c.args.left c.mark-place.result c.mark-place.new.self c.requires.ready k c.mark-place.ensures.same c.mark-place.ensures.saved c.requires.ordinary c.requires.left) (rw c.in-Ok-false.field-0-test at c.in-Ok-false.ensures.tried) in
    back_by (OpensAt c.args.left old) (FailsAt c.begin.new.self) old c.begin.new.self c.back.new.self wrong.left wrong.limits wrong.leads c.back.result c.back.ensures.back
