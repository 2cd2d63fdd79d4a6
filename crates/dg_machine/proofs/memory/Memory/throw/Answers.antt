use Rattle.std.proofs.Common.{◌+◌, [], refl, sym, subst, ap}
use Rattle.dg_meaning.specs.Values.{Num, leaf}
use Rattle.dg_meaning.specs.inside.Unify.{unify}
use Rattle.dg_meaning.specs.Numbers.{thrown, of_numbers}
use Rattle.dg_meaning.specs.Choosing.{die}
use Rattle.dg_meaning.specs.Substitutions.{walk}
use Rattle.dg_meaning.specs.Moves.{looked_up, throws}
use Rattle.dg_meaning.specs.World.{worked}
use Rattle.dg_base.specs.declared.run.Ending.TheVariants.{TrailLimit}
use Rattle.dg_mid.specs.Actions.{registers_of, world_of}
use Rattle.dg_mid.specs.Step.{setting, done}
use Rattle.dg_machine.specs.declared.now.Now.TheVariants.{Runs, Fails, Ended}
use Rattle.dg_machine.specs.Standing.{StandsWith}
use Rattle.dg_machine.proofs.Unifying.{agreed_stands, clash_stands, unmatched_stands}
use Rattle.dg_machine.proofs.Throws.{threw_none, threw_some, with_drawn, drawn_world, threw_stands}
use Rattle.dg_lasting.specs.Resting.{extent_of}
use Rattle.dg_machine.proofs.memory.Memory.throw.Goals as goal

pub returns-in-None-clause-thrown : goal.returns-in-None-clause-thrown
returns-in-None-clause-thrown c code g l m u v w at h refs in_world =
    let world = worked (looked_up (registers_of m) u + looked_up (registers_of m) v) (world_of [] m) in
    let o = of_numbers (thrown (die g.dice m.lasting.dice)) (walk m.state.subst u) (walk m.state.subst v) in
    let out = c.throw_args.new.lasting in
    let none = threw_none o g.dice m.lasting.dice out.dice (c.in-None.ensures.thrown code l m u v w h refs g.dice m.lasting.dice in_world.0.2) in
    subst (λ x. StandsWith code g l c.args.self.now Fails out (done (setting g code l) (throws x w (registers_of m) world) m)) (sym none.is)
    (record { stands = h; lasting = drawn_world c.args.lasting.now out g l m m.lasting.dice c.in-None.ensures.others in_world none.drawn })

pub returns-in-Err-clause-thrown : goal.returns-in-Err-clause-thrown
returns-in-Err-clause-thrown c code g l m u v w at h refs in_world =
    let world = worked (looked_up (registers_of m) u + looked_up (registers_of m) v) (world_of [] m) in
    let o = of_numbers (thrown (die g.dice m.lasting.dice)) (walk m.state.subst u) (walk m.state.subst v) in
    let n = m.lasting.dice + 1 in
    let m1 = with_drawn n m in
    let k = c.in-Some.n in
    let out = c.throw_args.new.lasting in
    let new = c.unify_number.new.self in
    let some = threw_some o g.dice m.lasting.dice k out.dice (c.in-Some.ensures.thrown code l m u v w h refs g.dice m.lasting.dice in_world.0.2) in
    subst (λ x. StandsWith code g l new (Ended TrailLimit) out (done (setting g code l) (throws x w (registers_of m) world) m)) (sym some.is)
    (threw_stands code g l m w k n world refl new (Ended TrailLimit) out (drawn_world c.args.lasting.now out g l m n c.in-Some.ensures.others in_world some.drawn)
    (unmatched_stands code g l (unify m.state.subst w (leaf (Num k))) m1 new (c.in-Err.ensures code l m1 u v w h refs)))

pub returns-in-Ok-false-clause-thrown : goal.returns-in-Ok-false-clause-thrown
returns-in-Ok-false-clause-thrown c code g l m u v w at h refs in_world =
    let world = worked (looked_up (registers_of m) u + looked_up (registers_of m) v) (world_of [] m) in
    let o = of_numbers (thrown (die g.dice m.lasting.dice)) (walk m.state.subst u) (walk m.state.subst v) in
    let n = m.lasting.dice + 1 in
    let m1 = with_drawn n m in
    let k = c.in-Some.n in
    let out = c.throw_args.new.lasting in
    let new = c.unify_number.new.self in
    let some = threw_some o g.dice m.lasting.dice k out.dice (c.in-Some.ensures.thrown code l m u v w h refs g.dice m.lasting.dice in_world.0.2) in
    subst (λ x. StandsWith code g l new Fails out (done (setting g code l) (throws x w (registers_of m) world) m)) (sym some.is)
    (threw_stands code g l m w k n world refl new Fails out (drawn_world c.args.lasting.now out g l m n c.in-Some.ensures.others in_world some.drawn)
    (clash_stands code g l (unify m.state.subst w (leaf (Num k))) m1 new c.in-Ok-false.field-0 c.in-Ok-false.field-0-test (c.in-Ok-false.ensures code l m1 u v w h refs)))

pub returns-in-Ok-true-clause-thrown : goal.returns-in-Ok-true-clause-thrown
returns-in-Ok-true-clause-thrown c code g l m u v w at h refs in_world =
    let world = worked (looked_up (registers_of m) u + looked_up (registers_of m) v) (world_of [] m) in
    let o = of_numbers (thrown (die g.dice m.lasting.dice)) (walk m.state.subst u) (walk m.state.subst v) in
    let n = m.lasting.dice + 1 in
    let m1 = with_drawn n m in
    let k = c.in-Some.n in
    let out = c.throw_args.new.lasting in
    let new = c.unify_number.new.self in
    let some = threw_some o g.dice m.lasting.dice k out.dice (c.in-Some.ensures.thrown code l m u v w h refs g.dice m.lasting.dice in_world.0.2) in
    subst (λ x. StandsWith code g l new (Runs c.args.rest) out (done (setting g code l) (throws x w (registers_of m) world) m)) (sym some.is)
    (threw_stands code g l m w k n world refl new (Runs c.args.rest) out (drawn_world c.args.lasting.now out g l m n c.in-Some.ensures.others in_world some.drawn)
    (agreed_stands code g l (unify m.state.subst w (leaf (Num k))) m1 new c.args.rest c.in-Ok-true.field-0 c.in-Ok-true.field-0-test at (c.in-Ok-true.ensures code l m1 u v w h refs)))

pub returns-in-None-clause-extent : goal.returns-in-None-clause-extent
returns-in-None-clause-extent c = ap extent_of c.throw_args.ensures.others

pub returns-in-Err-clause-extent : goal.returns-in-Err-clause-extent
returns-in-Err-clause-extent c = ap extent_of c.throw_args.ensures.others

pub returns-in-Ok-false-clause-extent : goal.returns-in-Ok-false-clause-extent
returns-in-Ok-false-clause-extent c = ap extent_of c.throw_args.ensures.others

pub returns-in-Ok-true-clause-extent : goal.returns-in-Ok-true-clause-extent
returns-in-Ok-true-clause-extent c = ap extent_of c.throw_args.ensures.others
