use Rattle.std.proofs.Common.{refl, arith}
use Rattle.dg_machine.specs.declared.now.Inner.{Inner}
use Rattle.dg_machine.specs.declared.memory.Memory.{Memory}
use Rattle.dg_machine.proofs.Opens.{begun}
use Rattle.dg_machine.proofs.memory.Memory.begin_in.Goals as goal

pub returns : goal.returns
returns c =
    let r = c.args.self.now in
    let inner : Inner = record { height = c.args.height; stop = c.args.stop; kept = c.args.kept; around = r.inner } in
    let new : Memory = record r { inners = c.push_reserved.new.self; inner = c.len-self.result } in
    record { held = λ code l m p h e outer kept. begun code l m p r new inner h e outer kept refl c.requires.few c.push_reserved.ensures.items c.push_reserved.ensures.capacity (omega (arith, c.len-self.ensures, c.push_reserved.new.self.ok.0)) }
