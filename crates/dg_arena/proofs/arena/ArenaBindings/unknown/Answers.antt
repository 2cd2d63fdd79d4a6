use Rattle.std.proofs.Common.{rules, ◌≡◌, arith, length, List, [], ◌∷◌, ◌++◌, ap, ◌∙◌, append_assoc}
use Rattle.std.proofs.lemmas.Grind.{common_steps}
use Rattle.dg_unify.specs.Slots.{letter_slots}
use Rattle.dg_unify.specs.declared.slots.Slot.{Slot}
use Rattle.dg_unify.specs.declared.slots.Slot.TheVariants as slot
use Rattle.dg_arena.specs.Held.{fields_of}
use Rattle.dg_arena.proofs.Making.{makes_unknown}
use Rattle.dg_arena.proofs.arena.ArenaBindings.unknown.Goals as goal

pub invariant_of-self : goal.invariant_of-self
invariant_of-self c =
    let f = fields_of c.args.self.now in
    let cs = c.args.spelling.now in
    let first : List Slot = slot.Unknown (length cs) ∷ [] in
    let e : c.push_reserved.new.self.items ≡ f.slots ++ first = search (rules, common_steps) in
    let es : c.push_letters.new.slots.items ≡ f.slots ++ slot.Unknown (length cs) ∷ letter_slots cs = c.push_letters.ensures.items ∙ ap (λ xs. xs ++ letter_slots cs) e ∙ append_assoc f.slots first (letter_slots cs) in
    let made = makes_unknown f c.push_letters.new.slots.items cs (record { sound = c.args.self.now.sound; counted = c.args.self.now.roomy.counted; small = c.args.self.now.roomy.small }) (omega (arith, c.args.self.now.sound.heap_fits)) es c.requires.short in
    record {
      sound = made.leaves.sound;
      fenced = made.fenced c.args.self.now.fence c.args.self.now.fenced;
      roomy = record {
        cells_fit = omega (arith, c.args.self.now.roomy.cells_fit, c.push_reserved.ensures.capacity, c.push_letters.ensures.capacity);
        vars_fit = c.args.self.now.roomy.vars_fit;
        links_fit = c.args.self.now.roomy.links_fit;
        waits_fit = c.args.self.now.roomy.waits_fit;
        counted = made.leaves.counted;
        small = c.args.self.now.roomy.small;
      };
    }

pub returns-clause-kept : goal.returns-clause-kept
returns-clause-kept c =
    let f = fields_of c.args.self.now in
    let cs = c.args.spelling.now in
    let first : List Slot = slot.Unknown (length cs) ∷ [] in
    let e : c.push_reserved.new.self.items ≡ f.slots ++ first = search (rules, common_steps) in
    let es : c.push_letters.new.slots.items ≡ f.slots ++ slot.Unknown (length cs) ∷ letter_slots cs = c.push_letters.ensures.items ∙ ap (λ xs. xs ++ letter_slots cs) e ∙ append_assoc f.slots first (letter_slots cs) in
    let made = makes_unknown f c.push_letters.new.slots.items cs (record { sound = c.args.self.now.sound; counted = c.args.self.now.roomy.counted; small = c.args.self.now.roomy.small }) (omega (arith, c.args.self.now.sound.heap_fits)) es c.requires.short in
    made.leaves.kept

pub returns-clause-saved : goal.returns-clause-saved
returns-clause-saved c =
    let f = fields_of c.args.self.now in
    let cs = c.args.spelling.now in
    let first : List Slot = slot.Unknown (length cs) ∷ [] in
    let e : c.push_reserved.new.self.items ≡ f.slots ++ first = search (rules, common_steps) in
    let es : c.push_letters.new.slots.items ≡ f.slots ++ slot.Unknown (length cs) ∷ letter_slots cs = c.push_letters.ensures.items ∙ ap (λ xs. xs ++ letter_slots cs) e ∙ append_assoc f.slots first (letter_slots cs) in
    let made = makes_unknown f c.push_letters.new.slots.items cs (record { sound = c.args.self.now.sound; counted = c.args.self.now.roomy.counted; small = c.args.self.now.roomy.small }) (omega (arith, c.args.self.now.sound.heap_fits)) es c.requires.short in
    made.leaves.saved

pub returns-clause-made : goal.returns-clause-made
returns-clause-made c =
    let f = fields_of c.args.self.now in
    let cs = c.args.spelling.now in
    let first : List Slot = slot.Unknown (length cs) ∷ [] in
    let e : c.push_reserved.new.self.items ≡ f.slots ++ first = search (rules, common_steps) in
    let es : c.push_letters.new.slots.items ≡ f.slots ++ slot.Unknown (length cs) ∷ letter_slots cs = c.push_letters.ensures.items ∙ ap (λ xs. xs ++ letter_slots cs) e ∙ append_assoc f.slots first (letter_slots cs) in
    let made = makes_unknown f c.push_letters.new.slots.items cs (record { sound = c.args.self.now.sound; counted = c.args.self.now.roomy.counted; small = c.args.self.now.roomy.small }) (omega (arith, c.args.self.now.sound.heap_fits)) es c.requires.short in
    made.made _ (omega arith)
