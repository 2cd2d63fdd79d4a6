use Rattle.std.proofs.Common.{◌∷◌, [], Some, None, ◌-◌, ap}
use Rattle.dg_base.specs.declared.run.Ending.TheVariants.{TrailLimit}
use Rattle.dg_meaning.specs.inside.Unify.{unify}
use Rattle.dg_meaning.specs.Values.{Num, leaf}
use Rattle.dg_mid.specs.declared.code.Gathered.TheVariants.{Sum}
use Rattle.dg_machine.specs.declared.now.Now.TheVariants.{Runs, Fails, Ended}
use Rattle.dg_machine.specs.Measure.{choices_left}
use Rattle.dg_machine.proofs.Unifying.{agreed_stands, clash_stands, unmatched_stands}
use Rattle.dg_machine.proofs.Takings.{takes_none, left_m, made_held, total_is, sum_none, sum_some}
use Rattle.dg_lasting.specs.Resting.{extent_of}
use Rattle.dg_machine.proofs.memory.Memory.take_sum.Goals as goal

pub returns-in_default-clause-takes : goal.returns-in_default-clause-takes
returns-in_default-clause-takes c code block g l m v into at h refs w = takes_none code g l m Sum into block c.args.self.now c.args.lasting.now c.in_default.ensures h w

pub returns-in-None-clause-takes : goal.returns-in-None-clause-takes
returns-in-None-clause-takes c code block g l m v into at h refs w =
    let cells = c.in-Some.cells.now in
    let height = c.height-height.result.0 - 1 in
    let count = ap (λ n. n - 1) c.height-height.ensures in
    sum_none code g l m c.args.self.now c.args.lasting.now c.close_to.new.self cells height c.in-Some.ensures count c.close_to.ensures h w block into (total_is code g l m c.args.self.now c.args.lasting.now c.close_to.new.self cells height c.in-Some.ensures count c.close_to.ensures h w None c.in-None.ensures)

pub returns-in-Err-clause-takes : goal.returns-in-Err-clause-takes
returns-in-Err-clause-takes c code block g l m v into at h refs w =
    let cells = c.in-Some.cells.now in
    let height = c.height-height.result.0 - 1 in
    let count = ap (λ n. n - 1) c.height-height.ensures in
    let n = c.in-Some-total.n in
    let total = total_is code g l m c.args.self.now c.args.lasting.now c.close_to.new.self cells height c.in-Some.ensures count c.close_to.ensures h w (Some n) c.in-Some-total.ensures in
    let made = c.simple_value-number.ensures in
    let held = made_held code g l m c.args.self.now c.args.lasting.now c.close_to.new.self cells height c.in-Some.ensures count c.close_to.ensures h w c.simple_value-number.new.arena made.stays in
    let left = made.stays.keeps.kept.values c.arg-into.result into (c.arg-into.ensures (v ∷ into ∷ []) refs) in
    let m1 = left_m code g l m c.args.self.now c.args.lasting.now c.close_to.new.self cells height c.in-Some.ensures count c.close_to.ensures h w in
    let u = unify m1.state.subst into (leaf (Num n)) in
    let new = c.meet.new.self in
    sum_some code g l m c.args.self.now c.args.lasting.now c.close_to.new.self cells height c.in-Some.ensures count c.close_to.ensures h w block into n new (Ended TrailLimit) total tt (ap (λ xs. choices_left xs.items) c.in-Err.ensures.choices)
    (unmatched_stands code g l u m1 new (c.in-Err.ensures.met code l m1 into (leaf (Num n)) held left made.value))

pub returns-in-Ok-false-clause-takes : goal.returns-in-Ok-false-clause-takes
returns-in-Ok-false-clause-takes c code block g l m v into at h refs w =
    let cells = c.in-Some.cells.now in
    let height = c.height-height.result.0 - 1 in
    let count = ap (λ n. n - 1) c.height-height.ensures in
    let n = c.in-Some-total.n in
    let total = total_is code g l m c.args.self.now c.args.lasting.now c.close_to.new.self cells height c.in-Some.ensures count c.close_to.ensures h w (Some n) c.in-Some-total.ensures in
    let made = c.simple_value-number.ensures in
    let held = made_held code g l m c.args.self.now c.args.lasting.now c.close_to.new.self cells height c.in-Some.ensures count c.close_to.ensures h w c.simple_value-number.new.arena made.stays in
    let left = made.stays.keeps.kept.values c.arg-into.result into (c.arg-into.ensures (v ∷ into ∷ []) refs) in
    let m1 = left_m code g l m c.args.self.now c.args.lasting.now c.close_to.new.self cells height c.in-Some.ensures count c.close_to.ensures h w in
    let u = unify m1.state.subst into (leaf (Num n)) in
    let new = c.meet.new.self in
    sum_some code g l m c.args.self.now c.args.lasting.now c.close_to.new.self cells height c.in-Some.ensures count c.close_to.ensures h w block into n new Fails total tt (ap (λ xs. choices_left xs.items) c.in-Ok-false.ensures.choices)
    (clash_stands code g l u m1 new c.in-Ok-false.field-0 c.in-Ok-false.field-0-test (c.in-Ok-false.ensures.met code l m1 into (leaf (Num n)) held left made.value))

pub returns-in-Ok-true-clause-takes : goal.returns-in-Ok-true-clause-takes
returns-in-Ok-true-clause-takes c code block g l m v into at h refs w =
    let cells = c.in-Some.cells.now in
    let height = c.height-height.result.0 - 1 in
    let count = ap (λ n. n - 1) c.height-height.ensures in
    let n = c.in-Some-total.n in
    let total = total_is code g l m c.args.self.now c.args.lasting.now c.close_to.new.self cells height c.in-Some.ensures count c.close_to.ensures h w (Some n) c.in-Some-total.ensures in
    let made = c.simple_value-number.ensures in
    let held = made_held code g l m c.args.self.now c.args.lasting.now c.close_to.new.self cells height c.in-Some.ensures count c.close_to.ensures h w c.simple_value-number.new.arena made.stays in
    let left = made.stays.keeps.kept.values c.arg-into.result into (c.arg-into.ensures (v ∷ into ∷ []) refs) in
    let m1 = left_m code g l m c.args.self.now c.args.lasting.now c.close_to.new.self cells height c.in-Some.ensures count c.close_to.ensures h w in
    let u = unify m1.state.subst into (leaf (Num n)) in
    let new = c.meet.new.self in
    sum_some code g l m c.args.self.now c.args.lasting.now c.close_to.new.self cells height c.in-Some.ensures count c.close_to.ensures h w block into n new (Runs c.args.rest) total tt (ap (λ xs. choices_left xs.items) c.in-Ok-true.ensures.choices)
    (agreed_stands code g l u m1 new c.args.rest c.in-Ok-true.field-0 c.in-Ok-true.field-0-test at (c.in-Ok-true.ensures.met code l m1 into (leaf (Num n)) held left made.value))

pub returns-in-None-clause-extent : goal.returns-in-None-clause-extent
returns-in-None-clause-extent c = ap extent_of c.close_to.ensures.is

pub returns-in-Err-clause-extent : goal.returns-in-Err-clause-extent
returns-in-Err-clause-extent c = ap extent_of c.close_to.ensures.is

pub returns-in-Ok-false-clause-extent : goal.returns-in-Ok-false-clause-extent
returns-in-Ok-false-clause-extent c = ap extent_of c.close_to.ensures.is

pub returns-in-Ok-true-clause-extent : goal.returns-in-Ok-true-clause-extent
returns-in-Ok-true-clause-extent c = ap extent_of c.close_to.ensures.is
