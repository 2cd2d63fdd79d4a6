use Rattle.std.proofs.Common.{arith, ◌≤◌, refl}
use Rattle.dg_machine.specs.Measure.{left_of}
use Rattle.dg_machine.proofs.Runs.{settled_nowhere, settled_on, mark_falls}
use Rattle.dg_machine.proofs.Turns.{somewhere_marked}
use Rattle.dg_machine.proofs.steps.answers.Goals as goal

pub answers-init : goal.answers-init
answers-init c = record {
  settles = λ out g is_of l typed steps h w. settled_nowhere c.args.code.now g l typed c.args.memory.now out c.args.now steps h w;
  somewhere = c.requires.some;
  mark = c.requires.mark;
  quick = c.requires.quick;
  falls = let same : left_of c.args.memory.now c.args.now ≤ left_of c.args.memory.now c.args.now = omega arith in same;
}

pub answers-preserved : goal.answers-preserved
answers-preserved c =
    let e = c.answers.invariant.mark in
    let found = c.answers.invariant.somewhere in
    let s = found.1.somewhere in
    let fell = mark_falls c.args.code.now s.game s.limits s.typed c.requires.built c.args.tables.now s.tabled c.answers.memory c.quick_mark-now.new.memory found.0 found.0 c.answers.now c.quick_mark-now.result s.steps e (c.quick_mark-now.ensures found.0) s.stands found.1.lasting in
    record {
      settles = λ out g is_of l typed steps h w. settled_on c.args.code.now g l typed c.requires.built c.args.tables.now is_of c.answers.memory c.quick_mark-now.new.memory out out c.answers.now c.quick_mark-now.result steps e (c.quick_mark-now.ensures out) (c.answers.invariant.settles out g is_of l typed steps h w);
      somewhere = (found.0, somewhere_marked c.args.tables.now c.args.code.now c.requires.built c.answers.memory c.quick_mark-now.new.memory found.0 found.0 c.answers.now c.quick_mark-now.result e (c.quick_mark-now.ensures found.0) found.1);
      mark = c.if-not-returns.ensures.mark refl;
      quick = c.if-not-returns.ensures.quick refl;
      falls = omega (arith, fell, c.answers.invariant.falls);
    }

pub answers-smaller : goal.answers-smaller
answers-smaller c =
    let found = c.answers.invariant.somewhere in
    let s = found.1.somewhere in
    mark_falls c.args.code.now s.game s.limits s.typed c.requires.built c.args.tables.now s.tabled c.answers.memory c.quick_mark-now.new.memory found.0 found.0 c.answers.now c.quick_mark-now.result s.steps c.answers.invariant.mark (c.quick_mark-now.ensures found.0) s.stands found.1.lasting

pub returns-then-not-returns-clause-comes : goal.returns-then-not-returns-clause-comes
returns-then-not-returns-clause-comes c out g is_of l typed steps h w =
    settled_on c.args.code.now g l typed c.requires.built c.args.tables.now is_of c.answers.memory c.quick_mark-now.new.memory out out c.answers.now c.quick_mark-now.result steps c.answers.invariant.mark (c.quick_mark-now.ensures out) (c.answers.invariant.settles out g is_of l typed steps h w)

pub returns-then-not-returns-clause-falls : goal.returns-then-not-returns-clause-falls
returns-then-not-returns-clause-falls c =
    let found = c.answers.invariant.somewhere in
    let s = found.1.somewhere in
    let fell = mark_falls c.args.code.now s.game s.limits s.typed c.requires.built c.args.tables.now s.tabled c.answers.memory c.quick_mark-now.new.memory found.0 found.0 c.answers.now c.quick_mark-now.result s.steps c.answers.invariant.mark (c.quick_mark-now.ensures found.0) s.stands found.1.lasting in
    omega (arith, fell, c.answers.invariant.falls)
