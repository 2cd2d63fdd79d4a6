use Rattle.std.proofs.Common.{refl, sym, ap, ◌∙◌, subst}
use Rattle.dg_base.specs.declared.run.Ending.TheVariants as ending
use Rattle.dg_mid.specs.Step.{setting, more, stops}
use Rattle.dg_lasting.specs.declared.lasting.Lasting.{Lasting}
use Rattle.dg_machine.specs.declared.now.Now.TheVariants.{Ended}
use Rattle.dg_machine.specs.declared.memory.Memory.{Memory}
use Rattle.dg_machine.specs.Standing.{StandsWith}
use Rattle.dg_machine.proofs.Opens.{roomy}
use Rattle.dg_machine.proofs.Parts.{none_is_open, may_stop, cut_roomy, stops_to, stops_else}
use Rattle.dg_lasting.specs.Resting.{extent_of}
use Rattle.dg_machine.proofs.memory.Memory.stop.Goals as goal

pub restore-requires : goal.restore-requires
restore-requires c =
    let some = c.requires.some in
    let x = may_stop c.args.code.now some.0 some.1 c.args.self.now c.cut.new.self c.in-Some.part some.2 (sym c.in-Some.ensures) c.cut.ensures.below c.cut.ensures.same in
    let room = cut_roomy c.args.code.now some.0 some.1 c.args.self.now c.cut.new.self c.in-Some.part some.2 (sym c.in-Some.ensures) c.cut.ensures.below c.cut.ensures.same c.cut.ensures.capacity in
    record { some = (c.args.code.now, some.0, x.0, x.1, room, x.2) }

pub returns-in-None-clause-does : goal.returns-in-None-clause-does
returns-in-None-clause-does c g l m o h w =
    let code = c.args.code.now in
    subst (λ x. StandsWith code g l c.args.self.now (Ended ending.Stopped) c.args.lasting.now (stops (setting g code l) x (more 0 m))) (sym (none_is_open code l m c.args.self.now h (sym c.in-None.ensures)))
    (record { stands = (refl, roomy code l m c.args.self.now h); lasting = tt })

pub returns-in-Goes-clause-does : goal.returns-in-Goes-clause-does
returns-in-Goes-clause-does c g l m o h w =
    let code = c.args.code.now in
    let mid = c.cut.new.self in
    let there = sym c.in-Some.ensures in
    let room = cut_roomy code l m c.args.self.now mid c.in-Some.part h there c.cut.ensures.below c.cut.ensures.same c.cut.ensures.capacity in
    let many = h.1 ∙ sym (ap (λ (r : Memory). r.gathered) c.cut.ensures.same) in
    stops_to code l m c.args.self.now mid c.in-Some.part h there c.cut.ensures.below c.cut.ensures.same g o c.restore.new.self c.args.lasting.now c.close_to.new.self w c.close_to.ensures
    (λ x ds can. c.restore.ensures.back code l (more 0 m) x ds room many can) c.in-Goes.block c.code_at.result c.requires.built c.in-Goes.is c.code_at.ensures

pub returns-in_default-clause-does : goal.returns-in_default-clause-does
returns-in_default-clause-does c g l m o h w =
    let code = c.args.code.now in
    let mid = c.cut.new.self in
    let there = sym c.in-Some.ensures in
    let room = cut_roomy code l m c.args.self.now mid c.in-Some.part h there c.cut.ensures.below c.cut.ensures.same c.cut.ensures.capacity in
    let many = h.1 ∙ sym (ap (λ (r : Memory). r.gathered) c.cut.ensures.same) in
    stops_else code l m c.args.self.now mid c.in-Some.part h there c.cut.ensures.below c.cut.ensures.same g o c.restore.new.self c.args.lasting.now c.close_to.new.self w c.close_to.ensures
    (λ x ds can. c.restore.ensures.back code l (more 0 m) x ds room many can) c.in_default.not-Goes

pub returns-in-Goes-clause-sites : goal.returns-in-Goes-clause-sites
returns-in-Goes-clause-sites c = ap (λ (o : Lasting). o.sites) c.close_to.ensures.is

pub returns-in_default-clause-sites : goal.returns-in_default-clause-sites
returns-in_default-clause-sites c = ap (λ (o : Lasting). o.sites) c.close_to.ensures.is

pub returns-in-Goes-clause-extent : goal.returns-in-Goes-clause-extent
returns-in-Goes-clause-extent c = ap extent_of c.close_to.ensures.is

pub returns-in_default-clause-extent : goal.returns-in_default-clause-extent
returns-in_default-clause-extent c = ap extent_of c.close_to.ensures.is
