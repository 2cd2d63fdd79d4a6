use Rattle.std.proofs.Common.{refl, arith}
use Rattle.dg_machine.specs.declared.now.Frame.{Frame}
use Rattle.dg_machine.specs.declared.memory.Memory.{Memory}
use Rattle.dg_machine.proofs.Opens.{framed}
use Rattle.dg_machine.proofs.memory.Memory.push_frame.Goals as goal

pub returns-clause-held : goal.returns-clause-held
returns-clause-held c code l m call s refs vs h at row =
    let r = c.args.self.now in
    let k = c.args.call in
    let frame : Frame = record { next = k.next; many = k.many; cut = k.cut; vars = c.args.vars; inner = r.inner; behind = r.frame } in
    let new : Memory = record r { frames = c.push_reserved.new.self; frame = c.len-self.result; inner = 0 } in
    framed code l m call vs r new frame h at.next at.many at.cut row refl refl c.requires.few c.push_reserved.ensures.items c.push_reserved.ensures.capacity (omega (arith, c.len-self.ensures, c.push_reserved.new.self.ok.0)) refl
