use Rattle.std.proofs.Common.{◌∷◌, []}
use Rattle.dg_meaning.specs.Values.{value_of}
use Rattle.dg_meaning.specs.Cells.{cells}
use Rattle.dg_arena.specs.Held.{meaning_of}
use Rattle.dg_machine.proofs.RegisterLemmas.{next_put}
use Rattle.dg_machine.proofs.register.write_other.Goals as goal

pub returns-in-Ok-clause-put : goal.returns-in-Ok-clause-put
returns-in-Ok-clause-put c p us vs is hr at =
    next_put (cells p (c.args.term.now ∷ [])) us (value_of p vs c.args.term.now) (meaning_of c.args.arena.now) (meaning_of c.write_value.new.arena) c.args.to.now.items c.push_reserved.new.self.items c.in-Ok.value c.in-Ok.ensures.keeps.kept hr (c.in-Ok.ensures.written p vs is at) c.push_reserved.ensures.items

pub returns-in-Err-clause-put : goal.returns-in-Err-clause-put
returns-in-Err-clause-put c p us vs is hr at = c.in-Err.ensures.written p vs is at
