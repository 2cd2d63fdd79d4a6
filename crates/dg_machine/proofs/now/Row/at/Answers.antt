use Rattle.std.proofs.Common.{refl}
use Rattle.dg_arena.specs.Held.{meaning_of}
use Rattle.dg_machine.proofs.TermLemmas.{captured_there, own_there}
use Rattle.dg_machine.proofs.now.Row.at.Goals as goal

pub returns-in-Some-clause-is : goal.returns-in-Some-clause-is
returns-in-Some-clause-is c vs at =
    let row = c.args.self.now in
    captured_there (meaning_of c.args.arena.now) row.closure row.captured row vs c.args.number c.in-Some.closure c.captured.result refl c.in-Some.is c.if-number-self.true at c.captured.ensures

pub returns-then-own-self-clause-is : goal.returns-then-own-self-clause-is
returns-then-own-self-clause-is c vs at = own_there (meaning_of c.args.arena.now) c.args.self.now vs c.args.number c.if-number-self.false c.if-own-self.true at
