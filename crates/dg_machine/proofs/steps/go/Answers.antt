use Rattle.std.proofs.Common.{◌≡◌, ◌+◌, ◌-◌, ◌∙◌, refl, subst, arith}
use Rattle.dg_lasting.specs.Lasting.{MayPick, picks_in}
use Rattle.dg_lasting.proofs.Picks.{may_fewer}
use Rattle.dg_machine.specs.inside.Reading.{IsEnd}
use Rattle.dg_machine.specs.inside.Running.{IsSomewhereAt, Takes}
use Rattle.dg_machine.proofs.Selects.{may_on, keeps_sites}
use Rattle.dg_machine.proofs.Turns.{somewhere_first, left_settled, takes_none, takes_on, finishes, limits, breaks}
use Rattle.dg_machine.proofs.steps.go.Goals as goal

pub settle_apart-first-requires-clause-some : goal.settle_apart-first-requires-clause-some
settle_apart-first-requires-clause-some g c = somewhere_first c.args.tables.now c.args.code.now c.args.memory.now c.args.lasting.now c.args.start (g.S.Source.view c.args.source.now) c.requires.some

pub goals-init : goal.goals-init
goals-init g c =
    let i = g.S.Source.view c.args.source.now in
    let k = g.K.Sink.view c.args.sink.now in
    record {
      takes = takes_none c.args.tables.now c.args.code.now c.args.memory.now c.args.lasting.now c.args.start c.args.spacer.now k i (c.args.steps - c.args.steps) c.settle_apart-first.new.memory c.settle_apart-first.new.lasting c.settle_apart-first.result (λ n. omega arith) c.settle_apart-first.ensures.comes;
      somewhere = λ goes rest h. left_settled c.args.tables.now c.args.code.now c.args.memory.now c.settle_apart-first.new.memory c.args.lasting.now c.settle_apart-first.new.lasting c.args.start c.settle_apart-first.result rest c.settle_apart-first.ensures.comes (c.requires.some rest h);
      may = may_on c.args.steps c.args.lasting.now c.settle_apart-first.new.lasting c.settle_apart-first.ensures.sites c.requires.may;
      extent = c.settle_apart-first.ensures.extent;
      rests = c.settle_apart-first.ensures.rests;
      within = omega arith;
    }

pub turn-requires-clause-may : goal.turn-requires-clause-may
turn-requires-clause-may g c = let some = c.goals-test.true in may_fewer 1 c.goals.left (picks_in c.goals.lasting) (omega (arith, some)) c.goals.invariant.may

pub turn-requires-clause-some : goal.turn-requires-clause-some
turn-requires-clause-some g c = subst (λ x. IsSomewhereAt c.args.tables.now c.args.code.now c.goals.memory c.goals.lasting x (g.S.Source.view c.goals.source)) c.in-Runs.is (c.goals.invariant.somewhere (λ end. subst IsEnd c.in-Runs.is end))

pub quiet_goals-rest-requires-clause-some : goal.quiet_goals-rest-requires-clause-some
quiet_goals-rest-requires-clause-some g c = (c.goals.spacer, g.K.Sink.view c.goals.sink, g.S.Source.view c.goals.source, c.goals.invariant.somewhere)

pub goals-preserved-then-begins_quietly : goal.goals-preserved-then-begins_quietly
goals-preserved-then-begins_quietly g c =
    let within = c.goals.invariant.within in
    let fewer = c.quiet_goals-rest.ensures.fewer in
    let rest = c.quiet_goals-rest.result.1 in
    let k = g.K.Sink.view c.goals.sink in
    let i = g.S.Source.view c.goals.source in
    let done = c.quiet_goals-rest.ensures.takes c.goals.spacer k i in
    record {
      takes = takes_on c.args.tables.now c.args.code.now c.args.memory.now c.args.lasting.now c.args.start c.args.spacer.now (g.K.Sink.view c.args.sink.now) (g.S.Source.view c.args.source.now) (c.args.steps - c.goals.left) (c.goals.left - rest) (c.args.steps - rest) c.goals.memory c.quiet_goals-rest.new.memory c.goals.lasting c.quiet_goals-rest.new.lasting c.goals.now c.quiet_goals-rest.result.0 c.in-Runs.ops c.goals.spacer c.goals.spacer
          k k i i c.in-Runs.is (λ x. omega (arith, fewer, within)) c.goals.invariant.takes (subst (λ x. Takes c.args.tables.now c.args.code.now (c.goals.left - rest) c.goals.memory c.goals.lasting x c.goals.spacer k i c.quiet_goals-rest.new.memory c.quiet_goals-rest.new.lasting c.quiet_goals-rest.result.0 c.goals.spacer k i) c.in-Runs.is done.0);
      somewhere = done.1 c.goals.invariant.somewhere;
      may = keeps_sites c.goals.lasting c.quiet_goals-rest.new.lasting c.quiet_goals-rest.ensures.sites rest (may_fewer (rest + 1) c.goals.left (picks_in c.goals.lasting) (omega (arith, fewer)) c.goals.invariant.may);
      extent = c.quiet_goals-rest.ensures.extent ∙ c.goals.invariant.extent;
      rests = c.quiet_goals-rest.ensures.rests;
      within = omega (arith, within, fewer);
    }

pub goals-preserved : goal.goals-preserved
goals-preserved g c =
    let some = c.goals-test.true in
    let within = c.goals.invariant.within in
    let n = c.args.steps - c.goals.left in
    record {
      takes = takes_on c.args.tables.now c.args.code.now c.args.memory.now c.args.lasting.now c.args.start c.args.spacer.now (g.K.Sink.view c.args.sink.now) (g.S.Source.view c.args.source.now) n 1 (c.args.steps - (c.goals.left - 1)) c.goals.memory c.turn.new.memory c.goals.lasting c.turn.new.lasting c.goals.now c.in-Ok.next c.in-Runs.ops c.goals.spacer c.turn.new.spacer
          (g.K.Sink.view c.goals.sink) (g.K.Sink.view c.turn.new.sink) (g.S.Source.view c.goals.source) (g.S.Source.view c.turn.new.source) c.in-Runs.is (λ x. omega (arith, some, within)) c.goals.invariant.takes c.in-Ok.ensures.ok;
      somewhere = c.in-Ok.ensures.some;
      may = c.turn.ensures.once (c.goals.left - 1) (subst (λ n. MayPick n (picks_in c.goals.lasting)) (let same : c.goals.left ≡ c.goals.left - 1 + 1 = omega (arith, some) in same) c.goals.invariant.may);
      extent = c.turn.ensures.extent ∙ c.goals.invariant.extent;
      rests = c.in-Ok.ensures.rests;
      within = omega (arith, within);
    }

pub returns-in-Ended-clause-ok : goal.returns-in-Ended-clause-ok
returns-in-Ended-clause-ok g c =
    finishes c.args.tables.now c.args.code.now c.args.memory.now c.args.lasting.now c.args.start c.args.spacer.now (g.K.Sink.view c.args.sink.now) (g.S.Source.view c.args.source.now) (c.args.steps - c.goals.left) c.goals.memory c.goals.lasting c.goals.now c.goals.spacer (g.K.Sink.view c.goals.sink) (g.S.Source.view c.goals.source) c.goals.invariant.takes c.args.steps c.goals.left c.in-Ended.ending c.in-Ended.is refl c.goals.invariant.within

pub returns-in-Ended-now-clause-ok : goal.returns-in-Ended-now-clause-ok
returns-in-Ended-now-clause-ok g c =
    finishes c.args.tables.now c.args.code.now c.args.memory.now c.args.lasting.now c.args.start c.args.spacer.now (g.K.Sink.view c.args.sink.now) (g.S.Source.view c.args.source.now) (c.args.steps - c.goals.left) c.goals.memory c.goals.lasting c.goals.now c.goals.spacer (g.K.Sink.view c.goals.sink) (g.S.Source.view c.goals.source) c.goals.invariant.takes c.args.steps c.goals.left c.in-Ended-now.ending c.in-Ended-now.is refl c.goals.invariant.within

pub returns-in_default-now : goal.returns-in_default-now
returns-in_default-now g c = record {
  ok = limits c.args.tables.now c.args.code.now c.args.memory.now c.args.lasting.now c.args.start c.args.spacer.now (g.K.Sink.view c.args.sink.now) (g.S.Source.view c.args.source.now) (c.args.steps - c.goals.left) c.goals.memory c.goals.lasting c.goals.now c.goals.spacer (g.K.Sink.view c.goals.sink) (g.S.Source.view c.goals.source) c.goals.invariant.takes c.args.steps c.goals.left c.goals.invariant.rests c.in_default-now.not-Ended (let none = c.goals-test.false in omega (arith, none)) refl c.goals.invariant.within;
  err = tt;
  extent = c.goals.invariant.extent;
}

pub returns-in-Err-clause-err : goal.returns-in-Err-clause-err
returns-in-Err-clause-err g c =
    let some = c.goals-test.true in
    let within = c.goals.invariant.within in
    breaks c.args.tables.now c.args.code.now c.args.memory.now c.args.lasting.now c.args.start c.args.spacer.now (g.K.Sink.view c.args.sink.now) (g.S.Source.view c.args.source.now) (c.args.steps - c.goals.left) c.goals.memory c.goals.lasting c.goals.now c.goals.spacer (g.K.Sink.view c.goals.sink) (g.S.Source.view c.goals.source) c.goals.invariant.takes c.in-Err.fault c.args.steps c.turn.new.memory c.in-Runs.ops c.turn.new.spacer
    (g.K.Sink.view c.turn.new.sink) (g.S.Source.view c.turn.new.source) c.in-Runs.is (omega (arith, some, within)) c.in-Err.ensures.roomy c.in-Err.ensures.err
