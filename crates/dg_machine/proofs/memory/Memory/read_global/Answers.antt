use Rattle.std.proofs.Common.{[], None, Some, refl, sym, subst, arith, vec_len}
use Rattle.dg_base.specs.declared.run.Ending.TheVariants.{HeapLimit, TrailLimit}
use Rattle.dg_meaning.specs.Copies.{copy_cells, copy_from}
use Rattle.dg_meaning.specs.Facts.{value_at}
use Rattle.dg_meaning.specs.inside.Unify.{unify}
use Rattle.dg_arena.specs.Held.{meaning_of}
use Rattle.dg_mid.specs.Actions.{world_of}
use Rattle.dg_mid.specs.State.{Runs as RunsOf}
use Rattle.dg_mid.specs.Step.{setting, bound, unified}
use Rattle.dg_machine.specs.declared.now.Now.TheVariants.{Runs, Fails, Ended}
use Rattle.dg_machine.specs.Finding.{copied_in}
use Rattle.dg_machine.specs.Refs.{RefsAt}
use Rattle.dg_machine.specs.Standing.{Stands}
use Rattle.dg_machine.proofs.Answered.{read_none, read_alone, read_copy, split_args, global_here, global_kept}
use Rattle.dg_lasting.proofs.Finds.{kept_none}
use Rattle.dg_machine.proofs.Leads.{charged_led, full_stands}
use Rattle.dg_machine.proofs.Trying.{args_none, args_some}
use Rattle.dg_machine.proofs.Unifying.{agreed_stands, clash_stands, unmatched_stands}
use Rattle.dg_machine.proofs.memory.Memory.read_global.Goals as goal

pub returns-in_default : goal.returns-in_default
returns-in_default c code g l m vs kind at h refs w =
    let fact = value_at m.lasting.facts c.args.place 0 in
    let none = kept_none fact (global_here g l m c.args.lasting.now c.args.place None c.in_default.ensures kind w) in
    subst (Stands code l c.args.self.now Fails) (sym (read_none code g l m vs (world_of [] m) refl fact none)) h

pub returns-then-is_empty : goal.returns-then-is_empty
returns-then-is_empty c code g l m vs kind at h refs w =
    let r = c.args.self.now in
    let fact = value_at m.lasting.facts c.args.place 0 in
    let k = global_kept g l m c.args.lasting.now c.args.place c.in-Some.cells.now (global_here g l m c.args.lasting.now c.args.place (Some c.in-Some.cells.now) c.in-Some.ensures kind w) w in
    let none = args_none (meaning_of r.arena) r.args.items vs (vec_len r.args) c.is_empty.result refs (omega (arith, r.args.ok.0)) c.is_empty.ensures c.if-is_empty.true in
    subst (Stands code l r (Runs c.args.rest)) (sym (read_alone code g l m vs (world_of [] m) refl fact k.v k.is none)) (at, h)

pub unify_first-requires-clause-args : goal.unify_first-requires-clause-args
unify_first-requires-clause-args c =
    let r = c.args.self.now in
    let new = c.copy_kept.new.self in
    let vs = c.requires.args.0 in
    let some = split_args vs (args_some (meaning_of r.arena) r.args.items vs (vec_len r.args) c.is_empty.result c.requires.args.1 (omega (arith, r.args.ok.0)) c.is_empty.ensures c.if-is_empty.false) in
    (some.first, some.others, subst (RefsAt (meaning_of new.arena) new.args.items) some.is (c.in-Ok.ensures.args vs c.requires.args.1))

pub returns-in-Err : goal.returns-in-Err
returns-in-Err c code g l m vs kind at h refs w =
    let r = c.args.self.now in
    let new = c.copy_kept.new.self in
    let fact = value_at m.lasting.facts c.args.place 0 in
    let k = global_kept g l m c.args.lasting.now c.args.place c.in-Some.cells.now (global_here g l m c.args.lasting.now c.args.place (Some c.in-Some.cells.now) c.in-Some.ensures kind w) w in
    let some = split_args vs (args_some (meaning_of r.arena) r.args.items vs (vec_len r.args) c.is_empty.result refs (omega (arith, r.args.ok.0)) c.is_empty.ensures c.if-is_empty.false) in
    let x = unify m.state.subst some.first (copy_from m.state.vars k.v) in
    let m' = copied_in k.v m in
    subst (Stands code l new (Ended HeapLimit)) (sym (read_copy code g l m vs (world_of [] m) refl some.first some.others some.is fact k.v k.is))
    (full_stands code g l (copy_cells k.v) m (unified (setting g code l) x m' (RunsOf (bound x m'))) r new h (c.in-Err.ensures.copied code l m k.v h k.cells_are k.formed))

pub returns-in-Err-unify_first : goal.returns-in-Err-unify_first
returns-in-Err-unify_first c code g l m vs kind at h refs w =
    let r = c.args.self.now in
    let mid = c.copy_kept.new.self in
    let new = c.unify_first.new.self in
    let fact = value_at m.lasting.facts c.args.place 0 in
    let k = global_kept g l m c.args.lasting.now c.args.place c.in-Some.cells.now (global_here g l m c.args.lasting.now c.args.place (Some c.in-Some.cells.now) c.in-Some.ensures kind w) w in
    let some = split_args vs (args_some (meaning_of r.arena) r.args.items vs (vec_len r.args) c.is_empty.result refs (omega (arith, r.args.ok.0)) c.is_empty.ensures c.if-is_empty.false) in
    let x = unify m.state.subst some.first (copy_from m.state.vars k.v) in
    let m' = copied_in k.v m in
    let made = c.in-Ok.ensures.copied code l m k.v h k.cells_are k.formed in
    let refs' = subst (RefsAt (meaning_of mid.arena) mid.args.items) some.is (c.in-Ok.ensures.args vs refs) in
    subst (Stands code l new (Ended TrailLimit)) (sym (read_copy code g l m vs (world_of [] m) refl some.first some.others some.is fact k.v k.is))
    (charged_led code g l (copy_cells k.v) m m' (unified (setting g code l) x m' (RunsOf (bound x m'))) mid new (Ended TrailLimit) made.held refl
    (unmatched_stands code g l x m' new (c.in-Err-unify_first.ensures code l m' some.first (copy_from m.state.vars k.v) some.others made.held refs' made.value)))

pub returns-in-Ok-true : goal.returns-in-Ok-true
returns-in-Ok-true c code g l m vs kind at h refs w =
    let r = c.args.self.now in
    let mid = c.copy_kept.new.self in
    let new = c.unify_first.new.self in
    let fact = value_at m.lasting.facts c.args.place 0 in
    let k = global_kept g l m c.args.lasting.now c.args.place c.in-Some.cells.now (global_here g l m c.args.lasting.now c.args.place (Some c.in-Some.cells.now) c.in-Some.ensures kind w) w in
    let some = split_args vs (args_some (meaning_of r.arena) r.args.items vs (vec_len r.args) c.is_empty.result refs (omega (arith, r.args.ok.0)) c.is_empty.ensures c.if-is_empty.false) in
    let x = unify m.state.subst some.first (copy_from m.state.vars k.v) in
    let m' = copied_in k.v m in
    let made = c.in-Ok.ensures.copied code l m k.v h k.cells_are k.formed in
    let refs' = subst (RefsAt (meaning_of mid.arena) mid.args.items) some.is (c.in-Ok.ensures.args vs refs) in
    subst (Stands code l new (Runs c.args.rest)) (sym (read_copy code g l m vs (world_of [] m) refl some.first some.others some.is fact k.v k.is))
    (charged_led code g l (copy_cells k.v) m m' (unified (setting g code l) x m' (RunsOf (bound x m'))) mid new (Runs c.args.rest) made.held refl
    (agreed_stands code g l x m' new c.args.rest c.in-Ok-true.field-0 c.in-Ok-true.field-0-test at (c.in-Ok-true.ensures code l m' some.first (copy_from m.state.vars k.v) some.others made.held refs' made.value)))

pub returns-in-Ok-false : goal.returns-in-Ok-false
returns-in-Ok-false c code g l m vs kind at h refs w =
    let r = c.args.self.now in
    let mid = c.copy_kept.new.self in
    let new = c.unify_first.new.self in
    let fact = value_at m.lasting.facts c.args.place 0 in
    let k = global_kept g l m c.args.lasting.now c.args.place c.in-Some.cells.now (global_here g l m c.args.lasting.now c.args.place (Some c.in-Some.cells.now) c.in-Some.ensures kind w) w in
    let some = split_args vs (args_some (meaning_of r.arena) r.args.items vs (vec_len r.args) c.is_empty.result refs (omega (arith, r.args.ok.0)) c.is_empty.ensures c.if-is_empty.false) in
    let x = unify m.state.subst some.first (copy_from m.state.vars k.v) in
    let m' = copied_in k.v m in
    let made = c.in-Ok.ensures.copied code l m k.v h k.cells_are k.formed in
    let refs' = subst (RefsAt (meaning_of mid.arena) mid.args.items) some.is (c.in-Ok.ensures.args vs refs) in
    subst (Stands code l new Fails) (sym (read_copy code g l m vs (world_of [] m) refl some.first some.others some.is fact k.v k.is))
    (charged_led code g l (copy_cells k.v) m m' (unified (setting g code l) x m' (RunsOf (bound x m'))) mid new Fails made.held refl
    (clash_stands code g l x m' new c.in-Ok-false.field-0 c.in-Ok-false.field-0-test (c.in-Ok-false.ensures code l m' some.first (copy_from m.state.vars k.v) some.others made.held refs' made.value)))
