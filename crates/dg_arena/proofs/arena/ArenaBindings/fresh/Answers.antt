use Rattle.std.proofs.Common.{rules, ◌≡◌, arith, refl, [], ◌∷◌, ◌++◌}
use Rattle.std.proofs.lemmas.Grind.{common_steps}
use Rattle.dg_unify.specs.Linked.{log_of, vars_of}
use Rattle.dg_unify.specs.declared.slots.Slot.TheVariants as slot
use Rattle.dg_arena.specs.Held.{fields_of}
use Rattle.dg_arena.proofs.Making.{makes_var, moved}
use Rattle.dg_unify.proofs.FenceLemmas.{end_of}
use Rattle.dg_arena.proofs.arena.ArenaBindings.fresh.Goals as goal

pub invariant_of-self : goal.invariant_of-self
invariant_of-self c =
    let f = fields_of c.args.self.now in
    let es : c.push_reserved.new.self.items ≡ f.slots ++ slot.Var f.vars ∷ [] = search (rules, common_steps) in
    let made = makes_var f c.push_reserved.new.self.items (log_of c.add_var_reserved.new.self) (vars_of c.add_var_reserved.new.self) (record { sound = c.args.self.now.sound; counted = c.args.self.now.roomy.counted; small = c.args.self.now.roomy.small }) (omega (arith, c.args.self.now.sound.heap_fits)) es c.add_var_reserved.ensures.log c.add_var_reserved.ensures.vars in
    record {
      sound = made.leaves.sound;
      fenced = made.fenced c.args.self.now.fence (end_of f) c.move_fence.new.fence refl (moved c.args.self.now c.len.result c.vars.result c.move_fence.new.fence (omega (arith, c.len.ensures)) c.vars.ensures c.move_fence.ensures) c.args.self.now.fenced;
      roomy = record {
        cells_fit = omega (arith, c.args.self.now.roomy.cells_fit, c.push_reserved.ensures.capacity);
        vars_fit = omega (arith, c.args.self.now.roomy.vars_fit, c.add_var_reserved.ensures.room.vars);
        links_fit = omega (arith, c.args.self.now.roomy.links_fit, c.add_var_reserved.ensures.room.links);
        waits_fit = c.args.self.now.roomy.waits_fit;
        counted = made.leaves.counted;
        small = c.args.self.now.roomy.small;
      };
    }

pub returns-clause-kept : goal.returns-clause-kept
returns-clause-kept c =
    let f = fields_of c.args.self.now in
    let es : c.push_reserved.new.self.items ≡ f.slots ++ slot.Var f.vars ∷ [] = search (rules, common_steps) in
    let made = makes_var f c.push_reserved.new.self.items (log_of c.add_var_reserved.new.self) (vars_of c.add_var_reserved.new.self) (record { sound = c.args.self.now.sound; counted = c.args.self.now.roomy.counted; small = c.args.self.now.roomy.small }) (omega (arith, c.args.self.now.sound.heap_fits)) es c.add_var_reserved.ensures.log c.add_var_reserved.ensures.vars in
    made.leaves.kept

pub returns-clause-saved : goal.returns-clause-saved
returns-clause-saved c =
    let f = fields_of c.args.self.now in
    let es : c.push_reserved.new.self.items ≡ f.slots ++ slot.Var f.vars ∷ [] = search (rules, common_steps) in
    let made = makes_var f c.push_reserved.new.self.items (log_of c.add_var_reserved.new.self) (vars_of c.add_var_reserved.new.self) (record { sound = c.args.self.now.sound; counted = c.args.self.now.roomy.counted; small = c.args.self.now.roomy.small }) (omega (arith, c.args.self.now.sound.heap_fits)) es c.add_var_reserved.ensures.log c.add_var_reserved.ensures.vars in
    made.leaves.saved

pub returns-clause-made : goal.returns-clause-made
returns-clause-made c =
    let f = fields_of c.args.self.now in
    let es : c.push_reserved.new.self.items ≡ f.slots ++ slot.Var f.vars ∷ [] = search (rules, common_steps) in
    let made = makes_var f c.push_reserved.new.self.items (log_of c.add_var_reserved.new.self) (vars_of c.add_var_reserved.new.self) (record { sound = c.args.self.now.sound; counted = c.args.self.now.roomy.counted; small = c.args.self.now.roomy.small }) (omega (arith, c.args.self.now.sound.heap_fits)) es c.add_var_reserved.ensures.log c.add_var_reserved.ensures.vars in
    made.made _ (omega arith)
