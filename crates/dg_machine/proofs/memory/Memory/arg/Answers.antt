use Rattle.std.proofs.Common.{◌≡◌, Some, sym, subst, arith, get_or}
use Rattle.dg_meaning.specs.Values.{Nil, leaf}
use Rattle.dg_arena.specs.Held.{meaning_of}
use Rattle.dg_machine.proofs.TermLemmas.{refs_get, refs_length}
use Rattle.dg_machine.proofs.memory.Memory.arg.Goals as goal

pub index-requires : goal.index-requires
index-requires c =
    let some = c.requires in
    omega (arith, some.2, refs_length (meaning_of c.args.self.now.arena) c.args.self.now.args.items some.0 some.1, c.args.self.now.args.ok.0)

pub returns : goal.returns
returns c vs h =
    let s = meaning_of c.args.self.now.arena in
    let some = c.requires in
    let args = c.args.self.now.args.items in
    let there = refs_get s args vs c.args.at c.index.result.now (leaf Nil) h (omega (arith, some.2, refs_length s args some.0 some.1)) in
    subst (λ r. s.value r ≡ Some (get_or vs c.args.at (leaf Nil))) (sym c.index.ensures) there
