use Rattle.std.proofs.Common.{◌≡◌, ◌++◌, refl, length, rules}
use Rattle.dg_interp.specs.inside.Finding.{TriesObjectsAt}
use Rattle.dg_interp.specs.inside.Engine.{store_in, FailsAt, OpensAt}
use Rattle.dg_interp.proofs.Places.{limits_here}
use Rattle.dg_interp.proofs.Giving.{branches_made}
use Rattle.dg_interp.proofs.Branches.{full_made, back_made}
use Rattle.dg_interp.proofs.Tryings.{grown_ready, next_limits, next_left, objects_open, no_objects}
use Rattle.dg_interp.proofs.engine.Engine.try_objects.Goals as goal

pub returns-then-end-eq0-clause-tried : goal.returns-then-end-eq0-clause-tried
returns-then-end-eq0-clause-tried c =
    let old = c.args.self.now in
    let none : length old.program.now.objects ≡ 0 = search rules in
    back_made (TriesObjectsAt c.args.place c.args.many old) (FailsAt old) old old c.back.new.self refl (limits_here old) (no_objects c.args.place c.args.many old none) c.back.result c.back.ensures.back

pub returns-then-end-eq0-clause-full : goal.returns-then-end-eq0-clause-full
returns-then-end-eq0-clause-full c =
    let old = c.args.self.now in
    let none : length old.program.now.objects ≡ 0 = search rules in
    full_made (TriesObjectsAt c.args.place c.args.many old) (FailsAt old) (store_in old.store) (store_in old.store) c.back.result refl refl (no_objects c.args.place c.args.many old none) c.back.ensures.full

pub push-requires-clause-ready : goal.push-requires-clause-ready
push-requires-clause-ready c =
    let items : c.extend_from_slice.new.self.items ≡ c.args.self.now.refs.items ++ c.args.self.now.made.items = search rules in
    grown_ready c.args.self.now c.extend_from_slice.new.self c.args.self.now.made.items c.requires.ready items c.requires.args

pub returns-clause-tried : goal.returns-clause-tried
returns-clause-tried c =
    let items : c.extend_from_slice.new.self.items ≡ c.args.self.now.refs.items ++ c.args.self.now.made.items = search rules in
    let from : c.len.result ≡ length c.args.self.now.refs.items = search rules in
    let many : c.len-2.result ≡ length c.args.self.now.made.items = search rules in
    branches_made (TriesObjectsAt c.args.place c.args.many c.args.self.now) (OpensAt _ c.push.new.self) c.args.self.now c.push.new.self c.open.new.self (next_left c.args.self.now c.extend_from_slice.new.self c.args.self.now.made.items c.requires.ready items c.requires.args c.args.place c.args.many c.push.new.self c.objects_of-end.result c.in_ok-push.ensures.pushed c.requires.may c.objects_of-end.ensures refl) (next_limits c.args.self.now c.extend_from_slice.new.self c.args.self.now.made.items c.requires.ready items c.requires.args c.args.place c.args.many c.push.new.self c.objects_of-end.result c.in_ok-push.ensures.pushed c.requires.may c.objects_of-end.ensures refl)
    (objects_open c.args.self.now c.extend_from_slice.new.self c.args.self.now.made.items c.requires.ready items c.requires.args c.args.place c.args.many c.push.new.self c.objects_of-end.result c.in_ok-push.ensures.pushed c.requires.may c.objects_of-end.ensures refl) c.open.result (rw from at (rw many at c.open.ensures.opened))

pub returns-clause-full : goal.returns-clause-full
returns-clause-full c =
    let items : c.extend_from_slice.new.self.items ≡ c.args.self.now.refs.items ++ c.args.self.now.made.items = search rules in
    let from : c.len.result ≡ length c.args.self.now.refs.items = search rules in
    let many : c.len-2.result ≡ length c.args.self.now.made.items = search rules in
    full_made (TriesObjectsAt c.args.place c.args.many c.args.self.now) (OpensAt _ c.push.new.self) (store_in c.args.self.now.store) (store_in c.push.new.self.store) c.open.result (next_limits c.args.self.now c.extend_from_slice.new.self c.args.self.now.made.items c.requires.ready items c.requires.args c.args.place c.args.many c.push.new.self c.objects_of-end.result c.in_ok-push.ensures.pushed c.requires.may c.objects_of-end.ensures refl).heap (next_limits c.args.self.now c.extend_from_slice.new.self c.args.self.now.made.items c.requires.ready items c.requires.args c.args.place c.args.many c.push.new.self c.objects_of-end.result c.in_ok-push.ensures.pushed c.requires.may c.objects_of-end.ensures refl).trail
    (objects_open c.args.self.now c.extend_from_slice.new.self c.args.self.now.made.items c.requires.ready items c.requires.args c.args.place c.args.many c.push.new.self c.objects_of-end.result c.in_ok-push.ensures.pushed c.requires.may c.objects_of-end.ensures refl) (rw from at (rw many at c.open.ensures.full))
