use Rattle.std.proofs.Common.{arith}
use Rattle.dg_arena.specs.Held.{fields_of}
use Rattle.dg_unify.proofs.Reading.{within_slots, var_read, var_leads}
use Rattle.dg_arena.proofs.arena.Arena.free_at.Goals as goal

pub index-requires : goal.index-requires
index-requires c = omega (arith, within_slots (fields_of c.args.self.now) c.args.self.now.sound c.args.at c.requires (omega arith))

pub to-requires : goal.to-requires
to-requires c = (var_read (fields_of c.args.self.now) c.args.self.now.sound c.args.at c.requires (omega arith) c.index.result.now c.index.ensures c.in-Var.number c.in-Var.is).1

pub returns-in-None : goal.returns-in-None
returns-in-None c =
    let f = fields_of c.args.self.now in
    let read = var_read f c.args.self.now.sound c.args.at c.requires (omega arith) c.index.result.now c.index.ensures c.in-Var.number c.in-Var.is in
    record {
      value = read.0;
      end_is = var_leads f c.args.self.now.sound c.args.at c.requires (omega arith) c.index.result.now c.index.ensures c.in-Var.number c.in-Var.is _ c.in-None.ensures;
      within = read.1;
    }
