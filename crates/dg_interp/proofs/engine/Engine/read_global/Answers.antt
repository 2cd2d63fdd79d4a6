use Rattle.std.proofs.Common.{List, Option, Some, None, refl, drop}
use Rattle.dg_meaning.specs.Facts.{Fact, value_at}
use Rattle.dg_meaning.specs.Values.{Value}
use Rattle.dg_unify.specs.Store.{Holds, told}
use Rattle.dg_interp.specs.inside.Giving.{UnifiesAt}
use Rattle.dg_interp.specs.inside.Finding.{made_values, ReadsAt}
use Rattle.dg_unify.proofs.StoreLemmas.{kept_holds}
use Rattle.dg_interp.specs.inside.Engine.{store_in, FailsAt}
use Rattle.dg_interp.proofs.Places.{limits_here}
use Rattle.dg_interp.proofs.Giving.{kept_limits, branches_made}
use Rattle.dg_interp.proofs.Branches.{full_made, back_made}
use Rattle.dg_interp.proofs.Findings.{copy_made, reads_none, reads_alone, reads_full, reads_leads, global_none, global_some, holds_at, first_told, none_told}
use Rattle.dg_interp.proofs.engine.Engine.read_global.Goals as goal

pub returns-in_default-clause-read : goal.returns-in_default-clause-read
returns-in_default-clause-read c =
    let old = c.args.self.now in
    let fact : List Fact → Option Value = λ facts. value_at facts c.args.place 0 in
    back_made (ReadsAt fact (made_values old) old) (FailsAt old) old old c.back.new.self refl (limits_here old) (reads_none fact (made_values old) old (global_none c.args.place old None c.in_default.ensures c.requires.kind refl)) c.back.result c.back.ensures.back

pub returns-in_default-clause-full : goal.returns-in_default-clause-full
returns-in_default-clause-full c =
    let old = c.args.self.now in
    let fact : List Fact → Option Value = λ facts. value_at facts c.args.place 0 in
    full_made (ReadsAt fact (made_values old) old) (FailsAt old) (store_in old.store) (store_in old.store) c.back.result refl refl (reads_none fact (made_values old) old (global_none c.args.place old None c.in_default.ensures c.requires.kind refl)) c.back.ensures.full

pub returns-in_default-first_of-clause-read : goal.returns-in_default-first_of-clause-read
returns-in_default-first_of-clause-read c =
    let old = c.args.self.now in
    let fact : List Fact → Option Value = λ facts. value_at facts c.args.place 0 in
    reads_alone fact (made_values old) old c.requires.ready (none_told (store_in old.store) old.made.items (rw c.as_slice.ensures.value at c.in_default-first_of.ensures))
    (λ g w same world. let h = global_some c.args.place old (Some c.in-Some.cells.now) c.in-Some.ensures c.requires.kind c.in-Some.cells.now refl g w same world in (h.v, h.is))

pub unify_both-requires-clause-hold : goal.unify_both-requires-clause-hold
unify_both-requires-clause-hold c =
    let s = store_in c.args.self.now.store in
    (kept_holds s (store_in c.copy.new.store) c.in-Some-first_of.into c.copy.ensures.kept (holds_at (Holds s) c.args.self.now.made.items 0 c.in-Some-first_of.into (rw c.as_slice.ensures.value at c.in-Some-first_of.ensures) c.requires.args), c.in-Ok.ensures.holds)

pub returns-in-Err-clause-full : goal.returns-in-Err-clause-full
returns-in-Err-clause-full c =
    let old = c.args.self.now in
    let s = store_in old.store in
    let fact : List Fact → Option Value = λ facts. value_at facts c.args.place 0 in
    let at = rw c.as_slice.ensures.value at c.in-Some-first_of.ensures in
    reads_full fact (made_values old) old (told s c.in-Some-first_of.into) (drop 1 (made_values old)) (first_told s old.made.items c.in-Some-first_of.into at) c.in-Err.e
    (λ g w same world.
    let h = global_some c.args.place old (Some c.in-Some.cells.now) c.in-Some.ensures c.requires.kind c.in-Some.cells.now refl g w same world in
    record { v = h.v; is = h.is; cause = (c.in-Err.ensures.copied h.v h.cells_are h.formed).cause })

pub returns-in-Ok-clause-read : goal.returns-in-Ok-clause-read
returns-in-Ok-clause-read c =
    let old = c.args.self.now in
    let s = store_in old.store in
    let t = store_in c.copy.new.store in
    let e = record old { store = c.copy.new.store; made = c.copy.new.row } in
    let into = c.in-Some-first_of.into in
    let fact : List Fact → Option Value = λ facts. value_at facts c.args.place 0 in
    let k = c.copy.ensures.kept in
    let at = rw c.as_slice.ensures.value at c.in-Some-first_of.ensures in
    branches_made (ReadsAt fact (made_values old) old) (UnifiesAt into c.in-Ok.made e) old e c.unify_both.new.self refl (kept_limits old c.copy.new.store c.copy.new.row c.requires.ready k c.copy.ensures.saved)
    (reads_leads fact (made_values old) old into c.in-Ok.made (drop 1 (made_values old)) c.copy.new.store c.copy.new.row c.requires.ready k c.copy.ensures.saved (first_told s old.made.items into at) (holds_at (Holds s) old.made.items 0 into at c.requires.args)
    (λ g w same world.
    let h = global_some c.args.place old (Some c.in-Some.cells.now) c.in-Some.ensures c.requires.kind c.in-Some.cells.now refl g w same world in
    record { v = h.v; is = h.is; copy = copy_made s t h.v c.in-Ok.made (c.in-Ok.ensures.copied h.v h.cells_are h.formed) }))
    c.unify_both.result c.unify_both.ensures.unified

pub returns-in-Ok-clause-full : goal.returns-in-Ok-clause-full
returns-in-Ok-clause-full c =
    let old = c.args.self.now in
    let s = store_in old.store in
    let t = store_in c.copy.new.store in
    let e = record old { store = c.copy.new.store; made = c.copy.new.row } in
    let into = c.in-Some-first_of.into in
    let fact : List Fact → Option Value = λ facts. value_at facts c.args.place 0 in
    let k = c.copy.ensures.kept in
    let at = rw c.as_slice.ensures.value at c.in-Some-first_of.ensures in
    full_made (ReadsAt fact (made_values old) old) (UnifiesAt into c.in-Ok.made e) s t c.unify_both.result k.heap_limit k.trail_limit
    (reads_leads fact (made_values old) old into c.in-Ok.made (drop 1 (made_values old)) c.copy.new.store c.copy.new.row c.requires.ready k c.copy.ensures.saved (first_told s old.made.items into at) (holds_at (Holds s) old.made.items 0 into at c.requires.args)
    (λ g w same world.
    let h = global_some c.args.place old (Some c.in-Some.cells.now) c.in-Some.ensures c.requires.kind c.in-Some.cells.now refl g w same world in
    record { v = h.v; is = h.is; copy = copy_made s t h.v c.in-Ok.made (c.in-Ok.ensures.copied h.v h.cells_are h.formed) }))
    c.unify_both.ensures.full
