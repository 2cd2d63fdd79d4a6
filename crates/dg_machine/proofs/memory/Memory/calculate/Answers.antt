use Rattle.std.proofs.Common.{◌+◌, [], refl, sym, subst}
use Rattle.dg_meaning.specs.Values.{Num, leaf}
use Rattle.dg_meaning.specs.inside.Unify.{unify}
use Rattle.dg_meaning.specs.Numbers.{calculated, of_numbers}
use Rattle.dg_meaning.specs.Substitutions.{walk}
use Rattle.dg_meaning.specs.Moves.{looked_up}
use Rattle.dg_meaning.specs.World.{worked}
use Rattle.dg_base.specs.declared.run.Ending.TheVariants.{TrailLimit}
use Rattle.dg_mid.specs.Actions.{registers_of, world_of}
use Rattle.dg_mid.specs.Step.{setting}
use Rattle.dg_machine.specs.declared.now.Now.TheVariants.{Runs, Fails, Ended}
use Rattle.dg_machine.specs.Standing.{Stands}
use Rattle.dg_machine.proofs.Unifying.{agreed_stands, clash_stands, unmatched_stands}
use Rattle.dg_machine.proofs.Compares.{gives_none, gives_some}
use Rattle.dg_machine.proofs.memory.Memory.calculate.Goals as goal

pub returns-in-None : goal.returns-in-None
returns-in-None c code g l m u v w at h refs =
    let world = worked (looked_up (registers_of m) u + looked_up (registers_of m) v) (world_of [] m) in
    let o = of_numbers (calculated c.args.by) (walk m.state.subst u) (walk m.state.subst v) in
    subst (Stands code l c.args.self.now Fails) (sym (gives_none (setting g code l) w m world refl o (c.in-None.ensures code l m u v w h refs))) h

pub returns-in-Err : goal.returns-in-Err
returns-in-Err c code g l m u v w at h refs =
    let world = worked (looked_up (registers_of m) u + looked_up (registers_of m) v) (world_of [] m) in
    let o = of_numbers (calculated c.args.by) (walk m.state.subst u) (walk m.state.subst v) in
    let new = c.unify_number.new.self in
    subst (Stands code l new (Ended TrailLimit)) (sym (gives_some (setting g code l) w m world refl o c.in-Some.n (c.in-Some.ensures code l m u v w h refs)))
    (unmatched_stands code g l (unify m.state.subst w (leaf (Num c.in-Some.n))) m new (c.in-Err.ensures code l m u v w h refs))

pub returns-in-Ok-false : goal.returns-in-Ok-false
returns-in-Ok-false c code g l m u v w at h refs =
    let world = worked (looked_up (registers_of m) u + looked_up (registers_of m) v) (world_of [] m) in
    let o = of_numbers (calculated c.args.by) (walk m.state.subst u) (walk m.state.subst v) in
    let new = c.unify_number.new.self in
    subst (Stands code l new Fails) (sym (gives_some (setting g code l) w m world refl o c.in-Some.n (c.in-Some.ensures code l m u v w h refs)))
    (clash_stands code g l (unify m.state.subst w (leaf (Num c.in-Some.n))) m new c.in-Ok-false.field-0 c.in-Ok-false.field-0-test (c.in-Ok-false.ensures code l m u v w h refs))

pub returns-in-Ok-true : goal.returns-in-Ok-true
returns-in-Ok-true c code g l m u v w at h refs =
    let world = worked (looked_up (registers_of m) u + looked_up (registers_of m) v) (world_of [] m) in
    let o = of_numbers (calculated c.args.by) (walk m.state.subst u) (walk m.state.subst v) in
    let new = c.unify_number.new.self in
    subst (Stands code l new (Runs c.args.rest)) (sym (gives_some (setting g code l) w m world refl o c.in-Some.n (c.in-Some.ensures code l m u v w h refs)))
    (agreed_stands code g l (unify m.state.subst w (leaf (Num c.in-Some.n))) m new c.args.rest c.in-Ok-true.field-0 c.in-Ok-true.field-0-test at (c.in-Ok-true.ensures code l m u v w h refs))
