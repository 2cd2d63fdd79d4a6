use Rattle.std.proofs.Common.{arith, refl, false}
use Rattle.dg_unify.proofs.Reading.{within_slots, var_read, var_leads, shows_pair}
use Rattle.dg_unify.proofs.FenceLemmas.{pair_tells}
use Rattle.dg_arena.specs.Held.{fields_of}
use Rattle.dg_arena.proofs.Joining.{clear_to, clear_on}
use Rattle.dg_arena.proofs.arena.Arena.further.Goals as goal

pub index-requires : goal.index-requires
index-requires c = omega (arith, within_slots (fields_of c.args.self.now) c.args.self.now.sound c.args.at c.requires (omega arith))

pub to-requires : goal.to-requires
to-requires c = (var_read (fields_of c.args.self.now) c.args.self.now.sound c.args.at c.requires (omega arith) c.index.result.now c.index.ensures c.in-Var.other c.in-Var.is).1

pub returns-in-Var : goal.returns-in-Var
returns-in-Var c =
    let s = c.args.self.now in
    clear_on (fields_of s) s.sound c.args.at c.args.number c.to.result
    (var_leads (fields_of s) s.sound c.args.at c.requires (omega arith) c.index.result.now c.index.ensures c.in-Var.other c.in-Var.is c.to.result c.to.ensures)

pub head_clear-requires : goal.head_clear-requires
head_clear-requires c =
    (pair_tells (fields_of c.args.self.now) c.args.self.now.sound c.args.at c.requires (omega arith) c.index.result.now c.index.ensures c.in-Pair.head c.in-Pair.tail c.in-Pair.constant c.in-Pair.is).0

pub step_from-requires : goal.step_from-requires
step_from-requires c =
    (pair_tells (fields_of c.args.self.now) c.args.self.now.sound c.args.at c.requires (omega arith) c.index.result.now c.index.ensures c.in-Pair.head c.in-Pair.tail c.in-Pair.constant c.in-Pair.is).1

pub returns-else-not-head_clear : goal.returns-else-not-head_clear
returns-else-not-head_clear c =
    let s = c.args.self.now in
    let f = fields_of s in
    let at = c.args.at in
    let shows = shows_pair f s.sound at c.requires (omega arith) c.index.result.now c.index.ensures c.in-Pair.head c.in-Pair.tail c.in-Pair.constant c.in-Pair.is false in
    let tells = pair_tells f s.sound at c.requires (omega arith) c.index.result.now c.index.ensures c.in-Pair.head c.in-Pair.tail c.in-Pair.constant c.in-Pair.is in
    let behind = clear_to f at c.in-Pair.head c.in-Pair.tail shows tells.1 c.args.number (c.if-not-head_clear.ensures refl) in
    let step = c.step_from.ensures c.args.number in
    record { told = step.told; absent = λ h. behind.absent (step.absent h) }
