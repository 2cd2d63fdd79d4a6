use Rattle.std.proofs.Common.{[]}
use Rattle.dg_arena.specs.Held.{meaning_of}
use Rattle.dg_machine.proofs.RegisterLemmas.{puts_none}
use Rattle.dg_machine.proofs.register.write_one.Goals as goal

pub returns-clause-put : goal.returns-clause-put
returns-clause-put c p vs is at =
    let s = meaning_of c.args.arena.now in
    let none = puts_none s c.clear.new.self.items c.args.arena.now.sound.heap_fits c.clear.ensures.items in
    c.write_next.ensures.put p [] vs is none.refs_are at
