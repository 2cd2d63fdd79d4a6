use Rattle.std.proofs.Common.{refl, sym, ap, subst, arith}
use Rattle.dg_mid.specs.State.{Choice as ChoiceOf}
use Rattle.std.specs.Prelude.{List, Some}
use Rattle.dg_machine.specs.Layout.{WentBack}
use Rattle.dg_machine.specs.declared.memory.Memory.{Memory}
use Rattle.dg_machine.specs.Measure.{choices_left}
use Rattle.dg_machine.proofs.Opens.{left_more, roomy}
use Rattle.dg_machine.proofs.Backs.{dropped_roomy, can_go_back, went_nowhere}
use Rattle.dg_machine.proofs.memory.Memory.back.Goals as goal

pub restore-requires : goal.restore-requires
restore-requires c =
    let some = c.requires.some in
    let r = c.args.self.now in
    let new : Memory = record r { choices = c.pop.new.self } in
    let x = can_go_back some.0 some.1 some.2 r new c.in-Some.choice some.3 refl c.in-Some.ensures.items in
    record { some = (some.0, some.1, x.0, x.1, dropped_roomy some.1 r new (roomy some.0 some.1 some.2 r some.3) c.in-Some.ensures.capacity, x.3) }

pub returns-in-None-clause-back : goal.returns-in-None-clause-back
returns-in-None-clause-back c code l m h = went_nowhere code l m c.args.self.now (record c.args.self.now { choices = c.pop.new.self }) h (omega (arith, c.in-None.ensures.cases.0, c.args.self.now.choices.ok.0))

pub returns-in-Some-clause-back : goal.returns-in-Some-clause-back
returns-in-Some-clause-back c code l m h =
    let r = c.args.self.now in
    let new : Memory = record r { choices = c.pop.new.self } in
    let x = can_go_back code l m r new c.in-Some.choice h refl c.in-Some.ensures.items in
    subst (λ (cs : List ChoiceOf). WentBack code l (Some c.in-Some.choice.way) c.restore.new.self m cs) (sym x.2) (c.restore.ensures.back code l m x.0 x.1 (dropped_roomy l r new (roomy code l m r h) c.in-Some.ensures.capacity) h.1 x.3)

pub returns-in-Some-clause-left : goal.returns-in-Some-clause-left
returns-in-Some-clause-left c =
    let left = left_more c.pop.new.self.items c.in-Some.choice in
    let whole = ap choices_left c.in-Some.ensures.items in
    let same = ap (λ v. choices_left v.items) c.restore.ensures.choices in
    omega (arith, left, whole, same)

pub returns-in-None-clause-roomy : goal.returns-in-None-clause-roomy
returns-in-None-clause-roomy c code l m h = dropped_roomy l c.args.self.now (record c.args.self.now { choices = c.pop.new.self }) (roomy code l m c.args.self.now h) c.in-None.ensures.capacity

pub returns-in-Some-clause-roomy : goal.returns-in-Some-clause-roomy
returns-in-Some-clause-roomy c code l m h = c.restore.ensures.roomy l (dropped_roomy l c.args.self.now (record c.args.self.now { choices = c.pop.new.self }) (roomy code l m c.args.self.now h) c.in-Some.ensures.capacity)
