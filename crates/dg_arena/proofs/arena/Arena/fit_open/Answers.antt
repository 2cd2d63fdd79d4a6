use Rattle.std.proofs.Common.{◌≡◌, arith, false, [], ◌∷◌, ◌++◌}
use Rattle.dg_unify.specs.declared.slots.Slot.TheVariants as slot
use Rattle.dg_arena.specs.Held.{fields_of}
use Rattle.dg_arena.proofs.Making.{makes_open}
use Rattle.dg_arena.proofs.arena.Arena.fit_open.Goals as goal

pub invariant_of-self : goal.invariant_of-self
invariant_of-self c =
    let f = fields_of c.args.self.now in
    let es : c.push_reserved.new.self.items ≡ f.slots ++ slot.Pair c.args.head c.args.tail false ∷ [] = c.push_reserved.ensures.items in
    let made = makes_open f c.push_reserved.new.self.items c.args.head c.args.tail (record { sound = c.args.self.now.sound; counted = c.args.self.now.roomy.counted; small = c.args.self.now.roomy.small }) (omega (arith, c.args.self.now.sound.heap_fits)) es c.requires.head_in c.requires.tail_in in
    record {
      sound = made.leaves.sound;
      fenced = made.fenced c.args.self.now.fence c.args.self.now.fenced;
      roomy = record {
        cells_fit = omega (arith, c.args.self.now.roomy.cells_fit, c.push_reserved.ensures.capacity);
        vars_fit = c.args.self.now.roomy.vars_fit;
        links_fit = c.args.self.now.roomy.links_fit;
        waits_fit = c.args.self.now.roomy.waits_fit;
        counted = made.leaves.counted;
        small = c.args.self.now.roomy.small;
      };
    }

pub returns-clause-kept : goal.returns-clause-kept
returns-clause-kept c =
    let f = fields_of c.args.self.now in
    let es : c.push_reserved.new.self.items ≡ f.slots ++ slot.Pair c.args.head c.args.tail false ∷ [] = c.push_reserved.ensures.items in
    let made = makes_open f c.push_reserved.new.self.items c.args.head c.args.tail (record { sound = c.args.self.now.sound; counted = c.args.self.now.roomy.counted; small = c.args.self.now.roomy.small }) (omega (arith, c.args.self.now.sound.heap_fits)) es c.requires.head_in c.requires.tail_in in
    made.leaves.kept

pub returns-clause-saved : goal.returns-clause-saved
returns-clause-saved c =
    let f = fields_of c.args.self.now in
    let es : c.push_reserved.new.self.items ≡ f.slots ++ slot.Pair c.args.head c.args.tail false ∷ [] = c.push_reserved.ensures.items in
    let made = makes_open f c.push_reserved.new.self.items c.args.head c.args.tail (record { sound = c.args.self.now.sound; counted = c.args.self.now.roomy.counted; small = c.args.self.now.roomy.small }) (omega (arith, c.args.self.now.sound.heap_fits)) es c.requires.head_in c.requires.tail_in in
    made.leaves.saved

pub returns-clause-made : goal.returns-clause-made
returns-clause-made c =
    let f = fields_of c.args.self.now in
    let es : c.push_reserved.new.self.items ≡ f.slots ++ slot.Pair c.args.head c.args.tail false ∷ [] = c.push_reserved.ensures.items in
    let made = makes_open f c.push_reserved.new.self.items c.args.head c.args.tail (record { sound = c.args.self.now.sound; counted = c.args.self.now.roomy.counted; small = c.args.self.now.roomy.small }) (omega (arith, c.args.self.now.sound.heap_fits)) es c.requires.head_in c.requires.tail_in in
    made.made _ (omega arith)
