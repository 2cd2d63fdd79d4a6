use Rattle.std.proofs.Common.{◌≤◌, ap, arith, length, length-take, false}
use Rattle.dg_unify.specs.Linked.{log_of, vars_of}
use Rattle.dg_unify.proofs.Stores.{back_at, back_is, undone_sound, undone_back, undone_stand}
use Rattle.dg_arena.specs.Held.{fields_of}
use Rattle.dg_arena.proofs.Making.{undone_fence}
use Rattle.dg_arena.proofs.arena.ArenaBindings.undo.Goals as goal

pub returns-clause-saved : goal.returns-clause-saved
returns-clause-saved c = λ s ms h.
    let f = fields_of c.args.self.now in
    let f' = back_at f c.args.to c.truncate.new.self.items (log_of c.undo.new.self) (vars_of c.undo.new.self) in
    (undone_stand false f f' c.args.to s ms (back_is f c.args.to c.truncate.new.self.items (log_of c.undo.new.self) (vars_of c.undo.new.self) c.truncate.ensures.items c.undo.ensures.log c.undo.ensures.vars) h.0, h.1)

pub invariant_of-self : goal.invariant_of-self
invariant_of-self c =
    let f = fields_of c.args.self.now in
    let f' = back_at f c.args.to c.truncate.new.self.items (log_of c.undo.new.self) (vars_of c.undo.new.self) in
    let e = back_is f c.args.to c.truncate.new.self.items (log_of c.undo.new.self) (vars_of c.undo.new.self) c.truncate.ensures.items c.undo.ensures.log c.undo.ensures.vars in
    let roomy = c.args.self.now.roomy in
    let counted : c.args.to.slots ≤ c.args.to.heap = c.requires.2.1.0 in
    record {
      sound = undone_sound false f f' c.args.to c.requires.0 c.requires.1 e c.requires.2.0;
      fenced = undone_fence f f' c.args.to c.requires.0 c.requires.1 e c.requires.2.0;
      roomy = record {
        cells_fit = omega (arith, roomy.cells_fit, c.truncate.ensures.capacity);
        vars_fit = omega (arith, roomy.vars_fit, c.undo.ensures.room.vars);
        links_fit = omega (arith, roomy.links_fit, c.undo.ensures.room.links);
        waits_fit = roomy.waits_fit;
        counted = omega (arith, counted, ap length c.truncate.ensures.items, length-take c.args.to.slots f.slots);
        small = roomy.small;
      };
    }

pub returns-clause-back : goal.returns-clause-back
returns-clause-back c = λ s ms h.
    let f = fields_of c.args.self.now in
    let f' = back_at f c.args.to c.truncate.new.self.items (log_of c.undo.new.self) (vars_of c.undo.new.self) in
    undone_back false f f' c.args.to s ms (back_is f c.args.to c.truncate.new.self.items (log_of c.undo.new.self) (vars_of c.undo.new.self) c.truncate.ensures.items c.undo.ensures.log c.undo.ensures.vars) h.0
