use Rattle.std.proofs.Common.{arith, sym, ◌∙◌, reverse}
use Rattle.dg_unify.specs.Linked.{log_of, vars_of}
use Rattle.dg_unify.proofs.Reading.{within_slots, var_read}
use Rattle.dg_unify.proofs.FenceLemmas.{between_absent, constant_absent, constant_read}
use Rattle.dg_arena.specs.Held.{fields_of}
use Rattle.dg_arena.proofs.Joining.{simple_absent, other_absent}
use Rattle.dg_arena.proofs.arena.Arena.end_clear.Goals as goal

pub returns-then-end-ge-FIRST_SIMPLE : goal.returns-then-end-ge-FIRST_SIMPLE
returns-then-end-ge-FIRST_SIMPLE c = λ yes.
    let s = c.args.self.now in
    simple_absent (fields_of s) s.sound c.args.end c.requires.told (omega arith) c.args.number

pub returns-then-stands_between : goal.returns-then-stands_between
returns-then-stands_between c = λ yes.
    let s = c.args.self.now in
    between_absent s.cells.items (reverse (log_of s.links)) (vars_of s.links) s.fence s.fenced c.args.number c.args.end c.requires.told (sym c.if-stands_between.ensures)

pub index-requires : goal.index-requires
index-requires c = omega (arith, within_slots (fields_of c.args.self.now) c.args.self.now.sound c.args.end c.requires.told (omega arith))

pub returns-else-other-number : goal.returns-else-other-number
returns-else-other-number c = λ yes.
    let s = c.args.self.now in
    let f = fields_of s in
    let end = c.args.end in
    let read = var_read f s.sound end c.requires.told (omega arith) c.index.result.now c.index.ensures c.in-Var.other c.in-Var.is in
    other_absent f s.sound end c.in-Var.other c.args.number read.0 c.requires.end c.if-other-number.false

pub returns-in-Pair : goal.returns-in-Pair
returns-in-Pair c = λ yes.
    let s = c.args.self.now in
    let f = fields_of s in
    let end = c.args.end in
    let marked = constant_read f s.sound end c.requires.told (omega arith) c.index.result.now c.index.ensures c.in-Pair.field-0 c.in-Pair.field-1 c.in-Pair.constant c.in-Pair.is in
    constant_absent s.cells.items (reverse (log_of s.links)) (vars_of s.links) s.sound.fits c.args.number end c.requires.told (sym marked ∙ yes)
