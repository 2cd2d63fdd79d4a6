use Rattle.std.proofs.Common.{arith, refl}
use Rattle.dg_unify.specs.Linked.{log_of, vars_of}
use Rattle.dg_arena.proofs.Making.{row_here, moved}
use Rattle.dg_arena.specs.Held.{fields_of}
use Rattle.dg_unify.proofs.FenceLemmas.{end_of}
use Rattle.dg_arena.proofs.arena.Arena.fit_row.Goals as goal

pub invariant_of-self : goal.invariant_of-self
invariant_of-self c =
    let a = c.args.self.now in
    let pushed = c.push_vars.ensures in
    let made = row_here a c.args.count c.push_vars.new.cells.items (log_of c.push_vars.new.links) (vars_of c.push_vars.new.links) (omega arith) pushed.items pushed.log pushed.vars in
    record {
      sound = made.leaves.sound;
      fenced = made.fenced a.fence (end_of (fields_of a)) c.move_fence.new.fence refl (moved a c.len.result c.vars.result c.move_fence.new.fence (omega (arith, c.len.ensures)) c.vars.ensures c.move_fence.ensures) a.fenced;
      roomy = record {
        cells_fit = omega (arith, a.roomy.cells_fit, pushed.capacity);
        vars_fit = omega (arith, a.roomy.vars_fit, pushed.room.vars);
        links_fit = omega (arith, a.roomy.links_fit, pushed.room.links);
        waits_fit = a.roomy.waits_fit;
        counted = made.leaves.counted;
        small = a.roomy.small;
      };
    }

pub returns-clause-kept : goal.returns-clause-kept
returns-clause-kept c =
    let pushed = c.push_vars.ensures in
    (row_here c.args.self.now c.args.count c.push_vars.new.cells.items (log_of c.push_vars.new.links) (vars_of c.push_vars.new.links) (omega arith) pushed.items pushed.log pushed.vars).leaves.kept

pub returns-clause-saved : goal.returns-clause-saved
returns-clause-saved c =
    let pushed = c.push_vars.ensures in
    (row_here c.args.self.now c.args.count c.push_vars.new.cells.items (log_of c.push_vars.new.links) (vars_of c.push_vars.new.links) (omega arith) pushed.items pushed.log pushed.vars).leaves.saved

pub returns-clause-made : goal.returns-clause-made
returns-clause-made c =
    let pushed = c.push_vars.ensures in
    (row_here c.args.self.now c.args.count c.push_vars.new.cells.items (log_of c.push_vars.new.links) (vars_of c.push_vars.new.links) (omega arith) pushed.items pushed.log pushed.vars).made _ (omega arith)
