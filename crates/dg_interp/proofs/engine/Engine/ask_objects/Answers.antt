use Rattle.std.proofs.Common.{refl, drop}
use Rattle.dg_meaning.specs.Changes.{found}
use Rattle.dg_unify.proofs.StoreLemmas.{walked_to}
use Rattle.dg_interp.specs.inside.Finding.{made_values, AsksObjectsAt, TriesObjectsAt, ReadsAt}
use Rattle.dg_interp.specs.inside.Engine.{store_in, FailsAt}
use Rattle.dg_interp.proofs.Places.{limits_here}
use Rattle.dg_interp.proofs.Giving.{branches_made}
use Rattle.dg_interp.proofs.Branches.{full_made, back_made}
use Rattle.dg_interp.proofs.Findings.{asks_no_values, asks_open, asks_thing, asks_other}
use Rattle.dg_interp.proofs.engine.Engine.ask_objects.Goals as goal

pub returns-in_default-clause-asked : goal.returns-in_default-clause-asked
returns-in_default-clause-asked c =
    let old = c.args.self.now in
    back_made (AsksObjectsAt c.args.place c.args.many old) (FailsAt old) old old c.back.new.self refl (limits_here old) (asks_no_values c.args.place c.args.many old (rw c.as_slice.ensures.value at c.in_default.ensures)) c.back.result c.back.ensures.back

pub returns-in_default-clause-full : goal.returns-in_default-clause-full
returns-in_default-clause-full c =
    let old = c.args.self.now in
    full_made (AsksObjectsAt c.args.place c.args.many old) (FailsAt old) (store_in old.store) (store_in old.store) c.back.result refl refl (asks_no_values c.args.place c.args.many old (rw c.as_slice.ensures.value at c.in_default.ensures)) c.back.ensures.full

pub returns-in-Open-clause-asked : goal.returns-in-Open-clause-asked
returns-in-Open-clause-asked c =
    let old = c.args.self.now in
    let s = store_in old.store in
    let at = rw c.as_slice.ensures.value at c.in-Some.ensures in
    branches_made (AsksObjectsAt c.args.place c.args.many old) (TriesObjectsAt c.args.place c.args.many old) old old c.try_objects.new.self refl (limits_here old) (asks_open c.args.place c.args.many old c.in-Some.first at (c.in-Open.ensures s (walked_to s c.in-Some.first) c.walk.ensures)) c.try_objects.result c.try_objects.ensures.tried

pub returns-in-Open-clause-full : goal.returns-in-Open-clause-full
returns-in-Open-clause-full c =
    let old = c.args.self.now in
    let s = store_in old.store in
    let at = rw c.as_slice.ensures.value at c.in-Some.ensures in
    full_made (AsksObjectsAt c.args.place c.args.many old) (TriesObjectsAt c.args.place c.args.many old) (store_in old.store) (store_in old.store) c.try_objects.result refl refl (asks_open c.args.place c.args.many old c.in-Some.first at (c.in-Open.ensures s (walked_to s c.in-Some.first) c.walk.ensures)) c.try_objects.ensures.full

pub returns-in-Thing-clause-asked : goal.returns-in-Thing-clause-asked
returns-in-Thing-clause-asked c =
    let old = c.args.self.now in
    let s = store_in old.store in
    let at = rw c.as_slice.ensures.value at c.in-Some.ensures in
    branches_made (AsksObjectsAt c.args.place c.args.many old) (ReadsAt (λ facts. found facts c.args.place c.in-Thing.object) (drop 1 (made_values old)) old) old old c.read_object.new.self refl (limits_here old) (asks_thing c.args.place c.args.many old c.in-Some.first at c.in-Thing.object (c.in-Thing.ensures s (walked_to s c.in-Some.first) c.walk.ensures)) c.read_object.result c.read_object.ensures.read

pub returns-in-Thing-clause-full : goal.returns-in-Thing-clause-full
returns-in-Thing-clause-full c =
    let old = c.args.self.now in
    let s = store_in old.store in
    let at = rw c.as_slice.ensures.value at c.in-Some.ensures in
    full_made (AsksObjectsAt c.args.place c.args.many old) (ReadsAt (λ facts. found facts c.args.place c.in-Thing.object) (drop 1 (made_values old)) old) (store_in old.store) (store_in old.store) c.read_object.result refl refl (asks_thing c.args.place c.args.many old c.in-Some.first at c.in-Thing.object (c.in-Thing.ensures s (walked_to s c.in-Some.first) c.walk.ensures)) c.read_object.ensures.full

pub returns-in-Other-clause-asked : goal.returns-in-Other-clause-asked
returns-in-Other-clause-asked c =
    let old = c.args.self.now in
    let s = store_in old.store in
    let at = rw c.as_slice.ensures.value at c.in-Some.ensures in
    back_made (AsksObjectsAt c.args.place c.args.many old) (FailsAt old) old old c.back-in-Other.new.self refl (limits_here old) (asks_other c.args.place c.args.many old c.in-Some.first at (c.in-Other.ensures s (walked_to s c.in-Some.first) c.walk.ensures)) c.back-in-Other.result c.back-in-Other.ensures.back

pub returns-in-Other-clause-full : goal.returns-in-Other-clause-full
returns-in-Other-clause-full c =
    let old = c.args.self.now in
    let s = store_in old.store in
    let at = rw c.as_slice.ensures.value at c.in-Some.ensures in
    full_made (AsksObjectsAt c.args.place c.args.many old) (FailsAt old) (store_in old.store) (store_in old.store) c.back-in-Other.result refl refl (asks_other c.args.place c.args.many old c.in-Some.first at (c.in-Other.ensures s (walked_to s c.in-Some.first) c.walk.ensures)) c.back-in-Other.ensures.full
