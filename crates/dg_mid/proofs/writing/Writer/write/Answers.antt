use Rattle.std.proofs.Common.{rules, ◌≡◌, [], ◌∷◌, ◌++◌, ap, ◌∙◌, arith}
use Rattle.dg_mid.specs.declared.writing.Work.{Work}
use Rattle.dg_mid.specs.declared.writing.Writer.{Writer}
use Rattle.dg_mid.specs.Writing.{with_goal}
use Rattle.dg_mid.specs.Weights.{body_weight, levels_weight}
use Rattle.dg_mid.proofs.Weights.{ops_reverse}
use Rattle.dg_mid.proofs.Opening.{Carries, carries_on, carries_to, carries_first, ends_written}
use Rattle.dg_mid.proofs.writing.Writer.write.Goals as goal
use Rattle.dg_mid.proofs.writing.Writer.write.Goals.{in-Some+in_ok-work-in-Some, in-None+in-Some-pop+in_ok-work-in-Some-pop}

pub loop-turn-init : goal.loop-turn-init
loop-turn-init c = carries_first c.args.self.now.blocks _ c.new.ensures

pub returns-in-None-pop-clause-first : goal.returns-in-None-pop-clause-first
returns-in-None-pop-clause-first c =
    let none : c.loop-turn.work.goals ≡ [] = search rules in
    let no_levels : c.loop-turn.work.levels ≡ [] = search rules in
    record {
      stands = λ rest end s. ends_written c.loop-turn.self.blocks c.loop-turn.work (c.args.goals ++ rest) end none no_levels (c.loop-turn.invariant.1 rest end s);
      neat = λ h. (c.loop-turn.invariant.2 h).neat;
      light = λ w. omega (arith, c.loop-turn.invariant.3 w, ops_reverse w c.loop-turn.work.ops.items, ops_reverse w c.args.ops.items, ap (body_weight w) none, ap (levels_weight w) no_levels);
    }

pub loop-turn-preserved : goal.loop-turn-preserved
loop-turn-preserved c =
    let blocks = c.args.self.now.blocks in
    let ops = c.args.ops.items in
    elim c.match-pop.branch [
      | in-Some+in_ok-work-in-Some w ↦
          let before : Work = record c.loop-turn.work { goals = c.pop.new.self } in
          let is : c.loop-turn.work ≡ with_goal w.in-Some.goal before = ap (λ l. record c.loop-turn.work { goals = l }) w.in-Some.ensures in
          let on : Carries blocks ops c.args.goals w.goal.new.self.blocks w.in_ok-work-in-Some.work =
          carries_on blocks ops c.args.goals c.loop-turn.self.blocks w.goal.new.self.blocks c.loop-turn.work (with_goal w.in-Some.goal before) w.in_ok-work-in-Some.work c.loop-turn.invariant is w.in_ok-work-in-Some.ensures in
          carries_to blocks ops c.args.goals w.goal.new.self.blocks c.match-pop.self.blocks w.in_ok-work-in-Some.work c.match-pop.work on (ap (λ (s : Writer). s.blocks) w.self-is) w.work-is
      | in-None+in-Some-pop+in_ok-work-in-Some-pop w ↦
          let none : c.pop.new.self ≡ [] = search rules in
          let goals : c.loop-turn.work.goals ≡ c.pop.new.self = search rules in
          let before : Work = record c.loop-turn.work { goals = c.pop.new.self; levels = w.pop-in-None.new.self ++ w.in-Some-pop.level ∷ [] } in
          let is : c.loop-turn.work ≡ before =
          ap (λ l. record c.loop-turn.work { goals = l }) goals ∙ ap (λ l. record c.loop-turn.work { goals = c.pop.new.self; levels = l }) w.in-Some-pop.ensures in
          let on : Carries blocks ops c.args.goals w.close.new.self.blocks w.in_ok-work-in-Some-pop.work =
          carries_on blocks ops c.args.goals c.loop-turn.self.blocks w.close.new.self.blocks c.loop-turn.work before w.in_ok-work-in-Some-pop.work c.loop-turn.invariant is (w.in_ok-work-in-Some-pop.ensures none) in
          carries_to blocks ops c.args.goals w.close.new.self.blocks c.match-pop.self.blocks w.in_ok-work-in-Some-pop.work c.match-pop.work on (ap (λ (s : Writer). s.blocks) w.self-is) w.work-is
    ]
