use Rattle.std.proofs.Common.{◌∷◌, [], None, Some, refl, sym, subst, arith}
use Rattle.dg_base.specs.declared.run.Ending.TheVariants.{TrailLimit}
use Rattle.dg_meaning.specs.Changes.{found}
use Rattle.dg_meaning.specs.inside.Unify.{unify}
use Rattle.dg_meaning.specs.World.{worked}
use Rattle.dg_world.specs.Tables.{simple_value}
use Rattle.dg_arena.specs.Held.{meaning_of}
use Rattle.dg_mid.specs.Actions.{world_of}
use Rattle.dg_machine.specs.declared.now.Now.TheVariants.{Runs, Fails, Ended}
use Rattle.dg_machine.specs.Layout.{Matched, Unmatched}
use Rattle.dg_machine.specs.Standing.{Stands}
use Rattle.dg_machine.proofs.Answered.{read_none, read_alone, read_simple, split_args, no_others, second_is}
use Rattle.dg_machine.proofs.TermLemmas.{refs_length}
use Rattle.dg_machine.proofs.Trying.{found_here}
use Rattle.dg_machine.proofs.Unifying.{agreed_stands, clash_stands, unmatched_stands}
use Rattle.dg_machine.proofs.memory.Memory.read_object.Goals as goal

pub returns-in_default : goal.returns-in_default
returns-in_default c code g l m v us n may at h refs around =
    let none = found_here g l m c.args.lasting.now c.args.place c.args.place c.args.object None c.in_default.ensures refl may around in
    subst (Stands code l c.args.self.now Fails) (sym (read_none code g l m us (worked n (world_of [] m)) refl (found m.lasting.facts c.args.place c.args.object) none)) h

pub returns-then-len-lt2 : goal.returns-then-len-lt2
returns-then-len-lt2 c code g l m v us n may at h refs around =
    let r = c.args.self.now in
    let x = simple_value c.in-Some.value in
    let is = found_here g l m c.args.lasting.now c.args.place c.args.place c.args.object (Some x) c.in-Some.ensures refl may around in
    let same = refs_length (meaning_of r.arena) r.args.items (v ∷ us) refs in
    let none = no_others v us (omega (arith, same, c.len.ensures, r.args.ok.0, c.if-len-lt2.true)) in
    subst (Stands code l r (Runs c.args.rest)) (sym (read_alone code g l m us (worked n (world_of [] m)) refl (found m.lasting.facts c.args.place c.args.object) x is none)) (at, h)

pub unify_simple-requires : goal.unify_simple-requires
unify_simple-requires c =
    let r = c.args.self.now in
    let some = c.requires in
    let same = refs_length (meaning_of r.arena) r.args.items some.0 some.1 in
    (some.0, some.1, omega (arith, same, c.len.ensures, r.args.ok.0, c.if-len-lt2.false))

pub returns-in-Err : goal.returns-in-Err
returns-in-Err c code g l m v us n may at h refs around =
    let r = c.args.self.now in
    let x = c.in-Some.value in
    let w = worked n (world_of [] m) in
    let is = found_here g l m c.args.lasting.now c.args.place c.args.place c.args.object (Some (simple_value x)) c.in-Some.ensures refl may around in
    let same = refs_length (meaning_of r.arena) r.args.items (v ∷ us) refs in
    let some = split_args us (omega (arith, same, c.len.ensures, r.args.ok.0, c.if-len-lt2.false)) in
    let y = subst (λ u. Unmatched l (unify m.state.subst u (simple_value x)) m c.unify_simple.new.self) (second_is v us some) (c.in-Err.ensures code l m (v ∷ us) h refs) in
    subst (Stands code l c.unify_simple.new.self (Ended TrailLimit)) (sym (read_simple code g l m us w refl some.first some.others some.is (found m.lasting.facts c.args.place c.args.object) x is))
    (unmatched_stands code g l (unify m.state.subst some.first (simple_value x)) m c.unify_simple.new.self y)

pub returns-in-Ok-true : goal.returns-in-Ok-true
returns-in-Ok-true c code g l m v us n may at h refs around =
    let r = c.args.self.now in
    let x = c.in-Some.value in
    let w = worked n (world_of [] m) in
    let b = c.in-Ok-true.field-0 in
    let is = found_here g l m c.args.lasting.now c.args.place c.args.place c.args.object (Some (simple_value x)) c.in-Some.ensures refl may around in
    let same = refs_length (meaning_of r.arena) r.args.items (v ∷ us) refs in
    let some = split_args us (omega (arith, same, c.len.ensures, r.args.ok.0, c.if-len-lt2.false)) in
    let y = subst (λ u. Matched code l (unify m.state.subst u (simple_value x)) m c.unify_simple.new.self b) (second_is v us some) (c.in-Ok-true.ensures code l m (v ∷ us) h refs) in
    subst (Stands code l c.unify_simple.new.self (Runs c.args.rest)) (sym (read_simple code g l m us w refl some.first some.others some.is (found m.lasting.facts c.args.place c.args.object) x is))
    (agreed_stands code g l (unify m.state.subst some.first (simple_value x)) m c.unify_simple.new.self c.args.rest b c.in-Ok-true.field-0-test at y)

pub returns-in-Ok-false : goal.returns-in-Ok-false
returns-in-Ok-false c code g l m v us n may at h refs around =
    let r = c.args.self.now in
    let x = c.in-Some.value in
    let w = worked n (world_of [] m) in
    let b = c.in-Ok-false.field-0 in
    let is = found_here g l m c.args.lasting.now c.args.place c.args.place c.args.object (Some (simple_value x)) c.in-Some.ensures refl may around in
    let same = refs_length (meaning_of r.arena) r.args.items (v ∷ us) refs in
    let some = split_args us (omega (arith, same, c.len.ensures, r.args.ok.0, c.if-len-lt2.false)) in
    let y = subst (λ u. Matched code l (unify m.state.subst u (simple_value x)) m c.unify_simple.new.self b) (second_is v us some) (c.in-Ok-false.ensures code l m (v ∷ us) h refs) in
    subst (Stands code l c.unify_simple.new.self Fails) (sym (read_simple code g l m us w refl some.first some.others some.is (found m.lasting.facts c.args.place c.args.object) x is))
    (clash_stands code g l (unify m.state.subst some.first (simple_value x)) m c.unify_simple.new.self b c.in-Ok-false.field-0-test y)
