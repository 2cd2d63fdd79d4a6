use Rattle.std.proofs.Common.{rules, ◌≡◌, length, refl, false, arith}
use Rattle.dg_unify.specs.Slots.{Fields}
use Rattle.dg_unify.proofs.Stores.{stand_marked}
use Rattle.dg_arena.specs.Held.{fields_of}
use Rattle.dg_arena.proofs.arena.ArenaBindings.mark.Goals as goal

pub returns-clause-saved : goal.returns-clause-saved
returns-clause-saved c = λ ms h.
    let f = fields_of c.args.self.now in
    let f' : Fields = record f { since = c.vars-self.result } in
    let ev : c.vars-self.result ≡ f.vars = search rules in
    let es : c.len.result ≡ length f.slots = search rules in
    let el : c.len-2.result ≡ length f.log = search rules in (
      stand_marked false f f' (record { slots = c.len.result; links = c.len-2.result; vars = c.vars-self.result; heap = c.args.self.now.heap; trail = c.args.self.now.trail }) ms c.args.self.now.sound (rw ev refl) (rw (es, el, ev) refl) h.0,
      (omega (arith, es, c.args.self.now.roomy.counted), h.1),
    )
