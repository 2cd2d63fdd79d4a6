use Rattle.std.proofs.Common.{List, Option, Some, None, refl, drop}
use Rattle.dg_meaning.specs.Facts.{Fact}
use Rattle.dg_meaning.specs.Values.{Value}
use Rattle.dg_meaning.specs.Changes.{found}
use Rattle.dg_unify.specs.Store.{Holds}
use Rattle.dg_unify.proofs.StoreLemmas.{holds_some, kept_holds}
use Rattle.dg_world.specs.Tables.{simple_value}
use Rattle.dg_interp.specs.inside.Giving.{UnifiesAt}
use Rattle.dg_interp.specs.inside.Finding.{made_values, ReadsAt}
use Rattle.dg_interp.specs.inside.Engine.{store_in, FailsAt}
use Rattle.dg_interp.proofs.Places.{limits_here}
use Rattle.dg_interp.proofs.Giving.{kept_limits, branches_made}
use Rattle.dg_interp.proofs.Branches.{full_made, back_made}
use Rattle.dg_interp.proofs.Findings.{copy_made, reads_none, reads_alone, reads_leads, found_each, holds_at, second_told, no_second}
use Rattle.dg_interp.proofs.engine.Engine.read_object.Goals as goal

pub returns-in_default-clause-read : goal.returns-in_default-clause-read
returns-in_default-clause-read c =
    let old = c.args.self.now in
    let fact : List Fact → Option Value = λ facts. found facts c.args.place c.args.object in
    let args = drop 1 (made_values old) in
    back_made (ReadsAt fact args old) (FailsAt old) old old c.back.new.self refl (limits_here old) (reads_none fact args old (found_each c.args.place c.args.object old None c.in_default.ensures c.requires.may)) c.back.result c.back.ensures.back

pub returns-in_default-clause-full : goal.returns-in_default-clause-full
returns-in_default-clause-full c =
    let old = c.args.self.now in
    let fact : List Fact → Option Value = λ facts. found facts c.args.place c.args.object in
    let args = drop 1 (made_values old) in
    full_made (ReadsAt fact args old) (FailsAt old) (store_in old.store) (store_in old.store) c.back.result refl refl (reads_none fact args old (found_each c.args.place c.args.object old None c.in_default.ensures c.requires.may)) c.back.ensures.full

pub returns-in_default-second_of-clause-read : goal.returns-in_default-second_of-clause-read
returns-in_default-second_of-clause-read c =
    let old = c.args.self.now in
    let fact : List Fact → Option Value = λ facts. found facts c.args.place c.args.object in
    reads_alone fact (drop 1 (made_values old)) old c.requires.ready (no_second (store_in old.store) old.made.items (rw c.as_slice.ensures.value at c.in_default-second_of.ensures))
    (λ g w same world. (simple_value c.in-Some.value, found_each c.args.place c.args.object old (Some (simple_value c.in-Some.value)) c.in-Some.ensures c.requires.may g w same world))

pub unify_both-requires-clause-hold : goal.unify_both-requires-clause-hold
unify_both-requires-clause-hold c =
    let s = store_in c.args.self.now.store in
    let t = store_in c.simple-made.new.store in (
      kept_holds s t c.in-Some-second_of.into c.simple-made.ensures.kept (holds_at (Holds s) c.args.self.now.made.items 1 c.in-Some-second_of.into (rw c.as_slice.ensures.value at c.in-Some-second_of.ensures) c.requires.args),
      holds_some t c.simple-made.result _ c.simple-made.ensures.copied.value,
    )

pub returns-clause-read : goal.returns-clause-read
returns-clause-read c =
    let old = c.args.self.now in
    let s = store_in old.store in
    let t = store_in c.simple-made.new.store in
    let e = record old { store = c.simple-made.new.store } in
    let into = c.in-Some-second_of.into in
    let v = simple_value c.in-Some.value in
    let fact : List Fact → Option Value = λ facts. found facts c.args.place c.args.object in
    let args = drop 1 (made_values old) in
    let k = c.simple-made.ensures.kept in
    let at = rw c.as_slice.ensures.value at c.in-Some-second_of.ensures in
    branches_made (ReadsAt fact args old) (UnifiesAt into c.simple-made.result e) old e c.unify_both.new.self refl (kept_limits old c.simple-made.new.store old.made c.requires.ready k c.simple-made.ensures.saved)
    (reads_leads fact args old into c.simple-made.result (drop 2 (made_values old)) c.simple-made.new.store old.made c.requires.ready k c.simple-made.ensures.saved (second_told s old.made.items into at) (holds_at (Holds s) old.made.items 1 into at c.requires.args)
    (λ g w same world. record { v = v; is = found_each c.args.place c.args.object old (Some v) c.in-Some.ensures c.requires.may g w same world; copy = copy_made s t v c.simple-made.result c.simple-made.ensures.copied }))
    c.unify_both.result c.unify_both.ensures.unified

pub returns-clause-full : goal.returns-clause-full
returns-clause-full c =
    let old = c.args.self.now in
    let s = store_in old.store in
    let t = store_in c.simple-made.new.store in
    let e = record old { store = c.simple-made.new.store } in
    let into = c.in-Some-second_of.into in
    let v = simple_value c.in-Some.value in
    let fact : List Fact → Option Value = λ facts. found facts c.args.place c.args.object in
    let args = drop 1 (made_values old) in
    let k = c.simple-made.ensures.kept in
    let at = rw c.as_slice.ensures.value at c.in-Some-second_of.ensures in
    full_made (ReadsAt fact args old) (UnifiesAt into c.simple-made.result e) s t c.unify_both.result k.heap_limit k.trail_limit
    (reads_leads fact args old into c.simple-made.result (drop 2 (made_values old)) c.simple-made.new.store old.made c.requires.ready k c.simple-made.ensures.saved (second_told s old.made.items into at) (holds_at (Holds s) old.made.items 1 into at c.requires.args)
    (λ g w same world. record { v = v; is = found_each c.args.place c.args.object old (Some v) c.in-Some.ensures c.requires.may g w same world; copy = copy_made s t v c.simple-made.result c.simple-made.ensures.copied }))
    c.unify_both.ensures.full
