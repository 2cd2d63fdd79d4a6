use Rattle.std.proofs.Common.{ap}
use Rattle.dg_lasting.specs.declared.lasting.Lasting.{Lasting}
use Rattle.dg_machine.proofs.Leaving.{failed_all, failed_to}
use Rattle.dg_machine.proofs.Lasting.{closed_back, ended_back}
use Rattle.dg_lasting.specs.Resting.{extent_of}
use Rattle.dg_machine.proofs.memory.Memory.fail.Goals as goal

pub returns-in-None-clause-fails : goal.returns-in-None-clause-fails
returns-in-None-clause-fails c code g l m h w =
    let back = c.in-None.ensures.back code l m h in
    record {
      done = failed_all code l m c.args.self.now c.back.new.self h m.choices back (c.in-None.ensures.roomy code l m h);
      lasting = ended_back code g l c.back.new.self c.args.lasting.now m m.choices back;
    }

pub returns-in-Some-clause-fails : goal.returns-in-Some-clause-fails
returns-in-Some-clause-fails c code g l m h w =
    let way = c.in-Some.way in
    let back = c.in-Some.ensures.back code l m h in
    record {
      done = failed_to code l m way c.args.self.now c.back.new.self m.choices back c.in-Some.ensures.left;
      lasting = closed_back code g l way c.back.new.self c.args.lasting.now c.close_to.new.self m m.choices back c.close_to.ensures w;
    }

pub returns-in-Some-clause-sites : goal.returns-in-Some-clause-sites
returns-in-Some-clause-sites c = ap (λ (o : Lasting). o.sites) c.close_to.ensures.is

pub returns-in-Some-clause-extent : goal.returns-in-Some-clause-extent
returns-in-Some-clause-extent c = ap extent_of c.close_to.ensures.is
