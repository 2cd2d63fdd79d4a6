use Rattle.std.proofs.Common.{◌+◌, arith, [], refl, sym, true, append-nil}
use Rattle.dg_unify.specs.Linked.{log_of, vars_of}
use Rattle.dg_unify.specs.Slots.{Fields}
use Rattle.dg_unify.specs.Listed.{fields_of}
use Rattle.dg_unify.proofs.Stores.{grown_slots, stand_grown}
use Rattle.dg_unify.proofs.list.ListBindingsBindings.charge.Goals as goal

pub returns-clause-saved : goal.returns-clause-saved
returns-clause-saved c = λ ms h.
    let f = fields_of c.args.self.now in
    let f' : Fields = record { slots = c.args.self.now.slots.items; log = log_of c.args.self.now.links; vars = vars_of c.args.self.now.links; since = c.args.self.now.since; heap = c.args.self.now.heap + c.args.cells; trail = c.args.self.now.trail; heap_limit = c.args.self.now.heap_limit; trail_limit = c.args.self.now.trail_limit } in
    stand_grown true f f' [] [] ms (grown_slots f f' [] (sym (append-nil f.slots)) refl refl refl) (omega arith) h
