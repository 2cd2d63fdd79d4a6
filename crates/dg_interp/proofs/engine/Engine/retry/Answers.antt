use Rattle.std.proofs.Common.{refl, arith}
use Rattle.dg_interp.specs.inside.Frames.{left_in}
use Rattle.dg_interp.specs.inside.Engine.{FailsAt, BeginsAt, Tells, again, store_in}
use Rattle.dg_interp.proofs.Branches.{none_popped, popped_sound, popped_place, popped_limits, begins_popped, fewer_left, retried_from, full_by, popped_left, popped_stays, may_undo, part_retried}
use Rattle.dg_interp.proofs.engine.Engine.retry.Goals as goal

pub begin-requires-clause-sound : goal.begin-requires-clause-sound
begin-requires-clause-sound c = popped_sound c.args.self.now c.in-Some.choice c.pop.new.self c.requires.sound c.in-Some.ensures.items c.truncate.new.self c.truncate-in-Some.new.self c.close_to.new.self c.undo.new.self c.tell_again.new.told c.truncate.ensures.items c.truncate-in-Some.ensures.items c.close_to.ensures c.undo.ensures.back c.undo.ensures.saved

pub begin-requires-clause-place : goal.begin-requires-clause-place
begin-requires-clause-place c = popped_place c.args.self.now c.in-Some.choice c.pop.new.self c.requires.sound c.in-Some.ensures.items c.truncate.new.self c.truncate-in-Some.new.self c.close_to.new.self c.undo.new.self c.tell_again.new.told c.truncate.ensures.items c.truncate-in-Some.ensures.items c.close_to.ensures c.undo.ensures.back c.undo.ensures.saved

pub returns-in-None-clause-retried : goal.returns-in-None-clause-retried
returns-in-None-clause-retried c = none_popped c.args.self.now c.pop.new.self (omega (arith, c.in-None.ensures.cases.0))

pub returns-in-Ok-clause-retried : goal.returns-in-Ok-clause-retried
returns-in-Ok-clause-retried c =
    let o = c.in-Some.choice in
    let mid = record c.args.self.now { frames = c.truncate.new.self; refs = c.truncate-in-Some.new.self; lasting = c.close_to.new.self; store = c.undo.new.self; choices = c.pop.new.self; newest = o.tag; stoppable = o.stoppable; told = c.tell_again.new.told } in
    let same = popped_limits c.args.self.now o c.pop.new.self c.requires.sound c.in-Some.ensures.items c.truncate.new.self c.truncate-in-Some.new.self c.close_to.new.self c.undo.new.self c.tell_again.new.told c.truncate.ensures.items c.truncate-in-Some.ensures.items c.close_to.ensures c.undo.ensures.back c.undo.ensures.saved in
    let tells : Tells c.args.self.now mid = record { heap = same.heap; trail = same.trail; aux = same.aux; keep = same.keep; calls = again o.left; told = c.in_default-tell_again.ensures } in
    retried_from (FailsAt c.args.self.now) (BeginsAt o.left o.place mid) c.args.self.now mid c.begin.new.self (left_in o.left) refl tells
    (begins_popped c.args.self.now o c.pop.new.self c.requires.sound c.in-Some.ensures.items c.truncate.new.self c.truncate-in-Some.new.self c.close_to.new.self c.undo.new.self c.tell_again.new.told c.truncate.ensures.items c.truncate-in-Some.ensures.items c.close_to.ensures c.undo.ensures.back c.undo.ensures.saved c.in_default.ensures)
    (fewer_left c.args.self.now o c.pop.new.self c.requires.sound c.in-Some.ensures.items) c.in-Ok.begun c.in-Ok.ensures.tried c.in-Ok.ensures.fewer

pub returns-in-Err-begin-clause-full : goal.returns-in-Err-begin-clause-full
returns-in-Err-begin-clause-full c =
    let o = c.in-Some.choice in
    let mid = record c.args.self.now { frames = c.truncate.new.self; refs = c.truncate-in-Some.new.self; lasting = c.close_to.new.self; store = c.undo.new.self; choices = c.pop.new.self; newest = o.tag; stoppable = o.stoppable; told = c.tell_again.new.told } in
    let limits = popped_limits c.args.self.now o c.pop.new.self c.requires.sound c.in-Some.ensures.items c.truncate.new.self c.truncate-in-Some.new.self c.close_to.new.self c.undo.new.self c.tell_again.new.told c.truncate.ensures.items c.truncate-in-Some.ensures.items c.close_to.ensures c.undo.ensures.back c.undo.ensures.saved in
    full_by (again o.left) (FailsAt c.args.self.now) (BeginsAt o.left o.place mid) (store_in c.args.self.now.store) (store_in c.undo.new.self) c.in-Err-begin.e limits.heap limits.trail
    (begins_popped c.args.self.now o c.pop.new.self c.requires.sound c.in-Some.ensures.items c.truncate.new.self c.truncate-in-Some.new.self c.close_to.new.self c.undo.new.self c.tell_again.new.told c.truncate.ensures.items c.truncate-in-Some.ensures.items c.close_to.ensures c.undo.ensures.back c.undo.ensures.saved c.in_default.ensures)
    c.in-Err-begin.ensures.full

pub begin-requires-clause-left : goal.begin-requires-clause-left
begin-requires-clause-left c = popped_left c.args.self.now c.in-Some.choice c.pop.new.self c.requires.sound c.in-Some.ensures.items c.truncate.new.self c.truncate-in-Some.new.self c.close_to.new.self c.undo.new.self c.tell_again.new.told c.truncate.ensures.items c.truncate-in-Some.ensures.items c.close_to.ensures c.undo.ensures.back c.undo.ensures.saved

pub undo-requires : goal.undo-requires
undo-requires c = may_undo c.args.self.now c.in-Some.choice c.pop.new.self c.requires.sound c.in-Some.ensures.items

pub begin-requires-clause-some : goal.begin-requires-clause-some
begin-requires-clause-some c = popped_stays c.args.self.now c.in-Some.choice c.pop.new.self c.requires.sound c.in-Some.ensures.items c.truncate.new.self c.truncate-in-Some.new.self c.close_to.new.self c.undo.new.self c.tell_again.new.told c.truncate.ensures.items c.truncate-in-Some.ensures.items c.close_to.ensures c.undo.ensures.back c.undo.ensures.saved

pub returns-in-Some-waiting-clause-retried : goal.returns-in-Some-waiting-clause-retried
returns-in-Some-waiting-clause-retried c = part_retried c.args.self.now c.in-Some.choice c.pop.new.self c.requires.sound c.in-Some.ensures.items c.in-Some-waiting.tag c.cut.new.choices c.in-Some-waiting.ensures c.cut.ensures
