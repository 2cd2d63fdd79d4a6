use Rattle.std.proofs.Common.{List, Some, None, refl, ap, ◌∙◌}
use Rattle.dg_base.specs.declared.cells.Simple.TheVariants as simple
use Rattle.dg_unify.specs.Store.{Saved}
use Rattle.dg_unify.specs.declared.bindings.Ref.{Ref}
use Rattle.dg_world.specs.Tables.{simple_value}
use Rattle.dg_interp.specs.inside.Frames.{stretch}
use Rattle.dg_interp.specs.inside.Finding.{FindsAt}
use Rattle.dg_interp.specs.inside.Giving.{SolvesAt}
use Rattle.dg_interp.specs.inside.Engine.{store_in, KeepsPlaces}
use Rattle.dg_unify.proofs.StoreLemmas.{kept_on}
use Rattle.dg_interp.proofs.Giving.{kept_limits}
use Rattle.dg_interp.proofs.Takes.{store_ready}
use Rattle.dg_interp.proofs.TakingOut.{met, met_full}
use Rattle.dg_interp.proofs.Branches.{tries_made, full_made}
use Rattle.dg_interp.proofs.Findings.{found_each, simple_same, simple_told}
use Rattle.dg_interp.proofs.Tryings.{finds_none, pairs, finds_leads}
use Rattle.dg_interp.proofs.engine.Engine.find.Goals as goal

pub returns-in_default-clause-tried : goal.returns-in_default-clause-tried
returns-in_default-clause-tried c =
    let old = c.args.self.now in
    finds_none c.args.place c.args.object c.args.args old c.requires.ready (found_each c.args.place c.args.object old None c.in_default.ensures c.requires.may)

pub returns-clause-tried : goal.returns-clause-tried
returns-clause-tried c =
    let old = c.args.self.now in
    let s = store_in old.store in
    let s1 = store_in c.simple-thing.new.store in
    let s2 = store_in c.simple-value.new.store in
    let e = record old { store = c.simple-value.new.store } in
    let k = kept_on s s1 s2 c.simple-thing.ensures.kept c.simple-value.ensures.kept in
    let saved : (ms : List Saved) → KeepsPlaces old.store ms → KeepsPlaces c.simple-value.new.store ms = λ ms h. c.simple-value.ensures.saved ms (c.simple-thing.ensures.saved ms h) in
    let same = simple_same s1 s2 c.in-Some.value c.simple-value.result c.simple-value.ensures.copied ∙ simple_same s s1 (simple.Object c.args.object) c.simple-thing.result c.simple-thing.ensures.copied in
    let thing = c.simple-value.ensures.kept.values c.simple-thing.result _ (simple_told s s1 (simple.Object c.args.object) c.simple-thing.result c.simple-thing.ensures.copied) in
    let value = simple_told s1 s2 c.in-Some.value c.simple-value.result c.simple-value.ensures.copied in
    let es = pairs c.args.place c.args.object c.args.args old c.requires.ready c.in-Some.value c.simple-thing.result c.simple-value.result c.simple-value.new.store k saved same thing value c.requires.args c.requires.some in
    let ready = store_ready old c.simple-value.new.store old.made k saved c.requires.ready in
    let part = c.stretch.ensures ∙ ap (λ (l : List Ref). stretch l c.args.args) c.deref.ensures.value in
    tries_made (FindsAt c.args.place c.args.object c.args.args old) (SolvesAt es e) old e (record e { store = c.unify_all.new.store }) refl (kept_limits old c.simple-value.new.store old.made c.requires.ready k saved)
    (finds_leads c.args.place c.args.object c.args.args old c.requires.ready c.in-Some.value c.simple-thing.result c.simple-value.result c.simple-value.new.store k saved same thing value c.requires.args c.requires.some (found_each c.args.place c.args.object old (Some (simple_value c.in-Some.value)) c.in-Some.ensures c.requires.may))
    c.unify_all.result (met es e c.unify_all.new.store ready c.unify_all.ensures.kept c.unify_all.ensures.saved c.unify_all.result (rw part at c.unify_all.ensures.unified))

pub returns-clause-full : goal.returns-clause-full
returns-clause-full c =
    let old = c.args.self.now in
    let s = store_in old.store in
    let s1 = store_in c.simple-thing.new.store in
    let s2 = store_in c.simple-value.new.store in
    let e = record old { store = c.simple-value.new.store } in
    let k = kept_on s s1 s2 c.simple-thing.ensures.kept c.simple-value.ensures.kept in
    let saved : (ms : List Saved) → KeepsPlaces old.store ms → KeepsPlaces c.simple-value.new.store ms = λ ms h. c.simple-value.ensures.saved ms (c.simple-thing.ensures.saved ms h) in
    let same = simple_same s1 s2 c.in-Some.value c.simple-value.result c.simple-value.ensures.copied ∙ simple_same s s1 (simple.Object c.args.object) c.simple-thing.result c.simple-thing.ensures.copied in
    let thing = c.simple-value.ensures.kept.values c.simple-thing.result _ (simple_told s s1 (simple.Object c.args.object) c.simple-thing.result c.simple-thing.ensures.copied) in
    let value = simple_told s1 s2 c.in-Some.value c.simple-value.result c.simple-value.ensures.copied in
    let es = pairs c.args.place c.args.object c.args.args old c.requires.ready c.in-Some.value c.simple-thing.result c.simple-value.result c.simple-value.new.store k saved same thing value c.requires.args c.requires.some in
    let ready = store_ready old c.simple-value.new.store old.made k saved c.requires.ready in
    let part = c.stretch.ensures ∙ ap (λ (l : List Ref). stretch l c.args.args) c.deref.ensures.value in
    full_made (FindsAt c.args.place c.args.object c.args.args old) (SolvesAt es e) s s2 c.unify_all.result k.heap_limit k.trail_limit
    (finds_leads c.args.place c.args.object c.args.args old c.requires.ready c.in-Some.value c.simple-thing.result c.simple-value.result c.simple-value.new.store k saved same thing value c.requires.args c.requires.some (found_each c.args.place c.args.object old (Some (simple_value c.in-Some.value)) c.in-Some.ensures c.requires.may))
    (met_full es e c.unify_all.new.store ready c.unify_all.ensures.kept c.unify_all.ensures.saved c.unify_all.result (rw part at c.unify_all.ensures.unified))
