use Rattle.std.proofs.Common.{◌≡◌, [], Some, true, false, length, map, refl, sym, ap, ◌∙◌, subst, arith}
use Rattle.std.specs.Prelude.{Ok, Err, slice_get}
use Rattle.std.specs.List.{All}
use Rattle.dg_meaning.specs.Changes.{change_of}
use Rattle.dg_meaning.specs.Facts.{kinds_of}
use Rattle.dg_meaning.specs.Moves.{change_place, change_looks}
use Rattle.dg_meaning.specs.Substitutions.{resolved}
use Rattle.dg_base.specs.declared.run.Ending.TheVariants.{KeepLimit}
use Rattle.dg_lasting.specs.Lasting.{outline}
use Rattle.dg_unify.specs.Store.{Store, Kept, Holds as Holds_s}
use Rattle.dg_unify.proofs.StoreLemmas.{kept_same}
use Rattle.dg_arena.specs.Held.{meaning_of}
use Rattle.dg_mid.specs.Actions.{registers_of, world_of}
use Rattle.dg_mid.specs.Step.{setting, done}
use Rattle.dg_machine.specs.declared.now.Now.TheVariants.{Runs, Fails, Ended}
use Rattle.dg_machine.specs.Layout.{Holds}
use Rattle.dg_machine.specs.Standing.{StandsWith}
use Rattle.dg_machine.proofs.Opens.{on_arena, roomy}
use Rattle.dg_machine.proofs.TableLemmas.{all_hold}
use Rattle.dg_machine.proofs.Changes.{became_in, change_on, change_not, change_full}
use Rattle.dg_machine.proofs.memory.Memory.change_place.Goals as goal

pub change-requires : goal.change-requires
change-requires c = let some = c.requires in subst (All (Holds_s (meaning_of c.args.self.now.arena))) (sym c.as_slice-args.ensures.value) (all_hold (meaning_of c.args.self.now.arena) c.args.self.now.args.items some.0 some.1)

pub returns-in-Err-clause-changes : goal.returns-in-Err-clause-changes
returns-in-Err-clause-changes c code g is_of l m vs at h refs w =
    let place = c.args.place in
    let kind = c.in-Some.kind in
    let out = c.args.lasting.now in
    let out2 = c.change.new.self in
    let s = meaning_of c.args.self.now.arena in
    let new = record c.args.self.now { arena = c.change.new.store } in
    let same = c.in-Err.ensures.same in
    let held : Holds code l new m = on_arena code l m m.state c.args.self.now c.change.new.store h (subst (Kept s) (sym same) (kept_same s)) c.in-Err.ensures.saved (ap (λ (t : Store). t.state) same ∙ h.0.state_is) (omega arith) in
    let there : slice_get (kinds_of g.program) place ≡ Some kind = sym (c.in-Some.ensures ∙ ap (λ ks. slice_get ks place) is_of.kinds) in
    let o = outline g.program out.world.area.keep in
    let count : length c.as_slice-objects.result.now ≡ length g.program.objects = ap length (c.as_slice-objects.ensures ∙ is_of.objects) in
    let looks = change_looks kind (registers_of m) vs in
    let a = change_of (length g.program.objects) kind place c.args.sets (map (resolved m.state.subst) vs) in
    let became = became_in g (length c.as_slice-objects.result.now) kind place c.args.sets s c.as_slice-args.result.now c.args.self.now.args.items vs m o m.lasting.facts out.world out2.world (Err c.in-Err.field-0) (Err c.in-Err.field-0) count c.as_slice-args.ensures.value refs h.0.state_is refl (c.in-Err.ensures.became o m.lasting.facts w.0.0.stands there (sym count) w.0.0.room) in
    subst (λ k. StandsWith code g l new (Ended KeepLimit) out2 (done (setting g code l) (change_place g place k vs c.args.sets [] (registers_of m) (world_of [] m)) m)) (sym there)
    (change_full code g l m out out2 c.in-Err.ensures.others c.in-Err.ensures.row c.in-Err.ensures.limit w new kind looks a c.in-Err.field-0 (roomy code l m new held) became)

pub returns-in-Ok-true-clause-changes : goal.returns-in-Ok-true-clause-changes
returns-in-Ok-true-clause-changes c code g is_of l m vs at h refs w =
    let place = c.args.place in
    let kind = c.in-Some.kind in
    let out = c.args.lasting.now in
    let out2 = c.change.new.self in
    let s = meaning_of c.args.self.now.arena in
    let new = record c.args.self.now { arena = c.change.new.store } in
    let same = c.in-Ok-true.ensures.same in
    let held : Holds code l new m = on_arena code l m m.state c.args.self.now c.change.new.store h (subst (Kept s) (sym same) (kept_same s)) c.in-Ok-true.ensures.saved (ap (λ (t : Store). t.state) same ∙ h.0.state_is) (omega arith) in
    let there : slice_get (kinds_of g.program) place ≡ Some kind = sym (c.in-Some.ensures ∙ ap (λ ks. slice_get ks place) is_of.kinds) in
    let o = outline g.program out.world.area.keep in
    let count : length c.as_slice-objects.result.now ≡ length g.program.objects = ap length (c.as_slice-objects.ensures ∙ is_of.objects) in
    let looks = change_looks kind (registers_of m) vs in
    let a = change_of (length g.program.objects) kind place c.args.sets (map (resolved m.state.subst) vs) in
    let became = became_in g (length c.as_slice-objects.result.now) kind place c.args.sets s c.as_slice-args.result.now c.args.self.now.args.items vs m o m.lasting.facts out.world out2.world (Ok c.in-Ok-true.field-0) (Ok true) count c.as_slice-args.ensures.value refs h.0.state_is (ap Ok c.in-Ok-true.field-0-test) (c.in-Ok-true.ensures.became o m.lasting.facts w.0.0.stands there (sym count) w.0.0.room) in
    subst (λ k. StandsWith code g l new (Runs c.args.rest) out2 (done (setting g code l) (change_place g place k vs c.args.sets [] (registers_of m) (world_of [] m)) m)) (sym there)
    (change_on code g l m out out2 c.in-Ok-true.ensures.others c.in-Ok-true.ensures.row c.in-Ok-true.ensures.limit w new c.args.rest kind looks a at held became)

pub returns-in-Ok-false-clause-changes : goal.returns-in-Ok-false-clause-changes
returns-in-Ok-false-clause-changes c code g is_of l m vs at h refs w =
    let place = c.args.place in
    let kind = c.in-Some.kind in
    let out = c.args.lasting.now in
    let out2 = c.change.new.self in
    let s = meaning_of c.args.self.now.arena in
    let new = record c.args.self.now { arena = c.change.new.store } in
    let same = c.in-Ok-false.ensures.same in
    let held : Holds code l new m = on_arena code l m m.state c.args.self.now c.change.new.store h (subst (Kept s) (sym same) (kept_same s)) c.in-Ok-false.ensures.saved (ap (λ (t : Store). t.state) same ∙ h.0.state_is) (omega arith) in
    let there : slice_get (kinds_of g.program) place ≡ Some kind = sym (c.in-Some.ensures ∙ ap (λ ks. slice_get ks place) is_of.kinds) in
    let o = outline g.program out.world.area.keep in
    let count : length c.as_slice-objects.result.now ≡ length g.program.objects = ap length (c.as_slice-objects.ensures ∙ is_of.objects) in
    let looks = change_looks kind (registers_of m) vs in
    let a = change_of (length g.program.objects) kind place c.args.sets (map (resolved m.state.subst) vs) in
    let became = became_in g (length c.as_slice-objects.result.now) kind place c.args.sets s c.as_slice-args.result.now c.args.self.now.args.items vs m o m.lasting.facts out.world out2.world (Ok c.in-Ok-false.field-0) (Ok false) count c.as_slice-args.ensures.value refs h.0.state_is (ap Ok c.in-Ok-false.field-0-test) (c.in-Ok-false.ensures.became o m.lasting.facts w.0.0.stands there (sym count) w.0.0.room) in
    subst (λ k. StandsWith code g l new Fails out2 (done (setting g code l) (change_place g place k vs c.args.sets [] (registers_of m) (world_of [] m)) m)) (sym there)
    (change_not code g l m out out2 c.in-Ok-false.ensures.others c.in-Ok-false.ensures.row c.in-Ok-false.ensures.limit w new kind looks a held became)
