use Rattle.std.proofs.Common.{sym, subst}
use Rattle.dg_mid.specs.Step.{setting, goes_on}
use Rattle.dg_machine.specs.declared.now.Now.TheVariants.{Resumes}
use Rattle.dg_machine.specs.declared.now.Way.TheVariants.{Goes, Calls, Tries}
use Rattle.dg_arena.specs.Held.{meaning_of}
use Rattle.dg_machine.specs.Layout.{WayAt}
use Rattle.dg_machine.specs.Measure.{with_way}
use Rattle.dg_machine.specs.Standing.{FallsWith}
use Rattle.dg_machine.proofs.Leaving.{go_calls, go_goes}
use Rattle.dg_machine.proofs.Lasting.{resume_lasting}
use Rattle.dg_machine.proofs.Trying.{go_tries}
use Rattle.dg_machine.proofs.Takings.{goes_takes}
use Rattle.dg_machine.proofs.memory.Memory.go_on.Goals as goal

pub returns-in-Calls-clause-goes_on : goal.returns-in-Calls-clause-goes_on
returns-in-Calls-clause-goes_on c g l m on seeks at h w =
    let code = c.args.code.now in
    let r = c.args.self.now in
    let there = subst (λ x. WayAt code (meaning_of r.arena) r.args.items x on) c.in-Calls.is at in
    subst (λ x. FallsWith code g l (with_way r x) Resumes c.call.new.self c.call.result c.args.lasting.now (goes_on (setting g code l) on m)) (sym c.in-Calls.is) (record {
      done = go_calls code g l m c.in-Calls.call c.in-Calls.pred c.in-Calls.left r c.call.new.self c.call.result on there c.call.ensures h;
      lasting = resume_lasting c.args.lasting.now g l code (meaning_of r.arena) r.args.items (Calls c.in-Calls.call c.in-Calls.pred c.in-Calls.left) on m tt there w;
    })

pub returns-in-Goes-clause-goes_on : goal.returns-in-Goes-clause-goes_on
returns-in-Goes-clause-goes_on c g l m on seeks at h w =
    let code = c.args.code.now in
    let r = c.args.self.now in
    let there = subst (λ x. WayAt code (meaning_of r.arena) r.args.items x on) c.in-Goes.is at in
    subst (λ x. FallsWith code g l (with_way r x) Resumes c.go_on_at.new.self c.go_on_at.result c.args.lasting.now (goes_on (setting g code l) on m)) (sym c.in-Goes.is) (record {
      done = go_goes code g l m c.in-Goes.block r c.go_on_at.new.self c.go_on_at.result on there (c.go_on_at.ensures code c.in-Goes.block g l m c.requires.tidy c.requires.built c.code_at.ensures h);
      lasting = resume_lasting c.args.lasting.now g l code (meaning_of r.arena) r.args.items (Goes c.in-Goes.block) on m tt there w;
    })

pub returns-in-Tries-clause-goes_on : goal.returns-in-Tries-clause-goes_on
returns-in-Tries-clause-goes_on c g l m on seeks at h w =
    let code = c.args.code.now in
    let r = c.args.self.now in
    let x = c.in-Tries in
    let there = subst (λ y. WayAt code (meaning_of r.arena) r.args.items y on) x.is at in
    subst (λ y. FallsWith code g l (with_way r y) Resumes c.try_first.new.self c.try_first.result c.args.lasting.now (goes_on (setting g code l) on m)) (sym x.is) (record {
      done = go_tries code g l m c.args.lasting.now x.search x.from x.end r c.try_first.new.self c.try_first.result on seeks w there c.try_first.ensures h;
      lasting = resume_lasting c.args.lasting.now g l code (meaning_of r.arena) r.args.items (Tries x.search x.from x.end) on m tt there w;
    })

pub returns-in-Takes-clause-goes_on : goal.returns-in-Takes-clause-goes_on
returns-in-Takes-clause-goes_on c g l m on seeks at h w =
    let code = c.args.code.now in
    let r = c.args.self.now in
    let b = c.in-Takes.block in
    let there = subst (λ x. WayAt code (meaning_of r.arena) r.args.items x on) c.in-Takes.is at in
    subst (λ x. FallsWith code g l (with_way r x) Resumes c.take_out.new.self c.take_out.result c.take_out.new.lasting (goes_on (setting g code l) on m)) (sym c.in-Takes.is)
    (goes_takes code g l m b r c.take_out.new.self c.take_out.result c.args.lasting.now c.take_out.new.lasting c.code_at-in-Takes.result.now on there c.requires.built c.code_at-in-Takes.ensures (c.take_out.ensures.takes code b) h w)
