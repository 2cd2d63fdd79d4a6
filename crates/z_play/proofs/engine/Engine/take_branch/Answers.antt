use Rattle.std.proofs.Common.{◌≡◌, subst, sym, Result, arith, refl}
use Rattle.std.specs.Prelude.{pos}
use Rattle.std.proofs.lemmas.Int.{ints}
use lib.IntN.{ℤ}
use mir.Val.{to_z, of_z}
use mir.Syntax.{w16}
use Rattle.z_model.specs.Flow.{jumped}
use Rattle.z_model.specs.Machine.{Machine}
use Rattle.z_model.specs.declared.fault.ZFault.{ZFault}
use Rattle.z_play.specs.View.{layout_in, machine, Sets}
use Rattle.z_play.proofs.Returns.{branch_zero, branch_one, branch_far}
use Rattle.z_play.proofs.engine.Engine.take_branch.Goals as goal

pub returns-then-offset-eq0-clause-branched : goal.returns-then-offset-eq0-clause-branched
returns-then-offset-eq0-clause-branched c = let z : c.args.offset ≡ pos 0 = omega (arith, ints) in subst (λ (r : Result Machine ZFault). Sets c.give_back.result (machine c.give_back.new.self) r) (sym (branch_zero (layout_in c.args.self.now) (machine c.args.self.now) c.args.end c.args.offset z)) c.give_back.ensures.returned

pub returns-then-offset-eq1-clause-branched : goal.returns-then-offset-eq1-clause-branched
returns-then-offset-eq1-clause-branched c = let z : c.args.offset ≡ pos 1 = omega (arith, ints) in subst (λ (r : Result Machine ZFault). Sets c.give_back-then-offset-eq1.result (machine c.give_back-then-offset-eq1.new.self) r) (sym (branch_one (layout_in c.args.self.now) (machine c.args.self.now) c.args.end c.args.offset z)) c.give_back-then-offset-eq1.ensures.returned

pub returns-clause-branched : goal.returns-clause-branched
returns-clause-branched c =
    let same : to_z w16 (of_z w16 c.args.offset) ≡ c.args.offset = omega (arith, ints) in
    let jumped' = subst (λ (z : ℤ). Sets c.jump.result (machine c.jump.new.self) (jumped (machine c.args.self.now) c.args.end z)) same c.jump.ensures.jumped in
    subst (λ (r : Result Machine ZFault). Sets c.jump.result (machine c.jump.new.self) r) (sym (branch_far (layout_in c.args.self.now) (machine c.args.self.now) c.args.end c.args.offset (λ z. c.if-offset-eq0.false (rw z refl)) (λ z. c.if-offset-eq1.false (rw z refl)))) jumped'
