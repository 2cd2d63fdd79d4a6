use Rattle.std.proofs.Common.{rules, ◌≡◌, arith, length, List, [], ◌∷◌, ◌++◌, ap, ◌∙◌, append_assoc}
use Rattle.std.proofs.lemmas.Grind.{common_steps}
use Rattle.dg_unify.specs.Slots.{captured_slots}
use Rattle.dg_unify.specs.declared.slots.Slot.{Slot}
use Rattle.dg_unify.specs.declared.slots.Slot.TheVariants as slot
use Rattle.dg_arena.specs.Held.{fields_of}
use Rattle.dg_arena.proofs.Making.{makes_closure}
use Rattle.dg_arena.proofs.arena.ArenaBindings.closure.Goals as goal

pub invariant_of-self : goal.invariant_of-self
invariant_of-self c =
    let f = fields_of c.args.self.now in
    let rs = c.args.captured.now in
    let first : List Slot = slot.Closure c.args.place (length rs) ∷ [] in
    let e : c.push_reserved.new.self.items ≡ f.slots ++ first = search (rules, common_steps) in
    let es : c.push_captured.new.slots.items ≡ f.slots ++ slot.Closure c.args.place (length rs) ∷ captured_slots rs = c.push_captured.ensures.items ∙ ap (λ xs. xs ++ captured_slots rs) e ∙ append_assoc f.slots first (captured_slots rs) in
    let made = makes_closure f c.push_captured.new.slots.items c.args.place rs (record { sound = c.args.self.now.sound; counted = c.args.self.now.roomy.counted; small = c.args.self.now.roomy.small }) (omega (arith, c.args.self.now.sound.heap_fits)) es c.requires.few c.requires.captured_in in
    record {
      sound = made.leaves.sound;
      fenced = made.fenced c.args.self.now.fence c.args.self.now.fenced;
      roomy = record {
        cells_fit = omega (arith, c.args.self.now.roomy.cells_fit, c.push_reserved.ensures.capacity, c.push_captured.ensures.capacity);
        vars_fit = c.args.self.now.roomy.vars_fit;
        links_fit = c.args.self.now.roomy.links_fit;
        waits_fit = c.args.self.now.roomy.waits_fit;
        counted = made.leaves.counted;
        small = c.args.self.now.roomy.small;
      };
    }

pub returns-clause-kept : goal.returns-clause-kept
returns-clause-kept c =
    let f = fields_of c.args.self.now in
    let rs = c.args.captured.now in
    let first : List Slot = slot.Closure c.args.place (length rs) ∷ [] in
    let e : c.push_reserved.new.self.items ≡ f.slots ++ first = search (rules, common_steps) in
    let es : c.push_captured.new.slots.items ≡ f.slots ++ slot.Closure c.args.place (length rs) ∷ captured_slots rs = c.push_captured.ensures.items ∙ ap (λ xs. xs ++ captured_slots rs) e ∙ append_assoc f.slots first (captured_slots rs) in
    let made = makes_closure f c.push_captured.new.slots.items c.args.place rs (record { sound = c.args.self.now.sound; counted = c.args.self.now.roomy.counted; small = c.args.self.now.roomy.small }) (omega (arith, c.args.self.now.sound.heap_fits)) es c.requires.few c.requires.captured_in in
    made.leaves.kept

pub returns-clause-saved : goal.returns-clause-saved
returns-clause-saved c =
    let f = fields_of c.args.self.now in
    let rs = c.args.captured.now in
    let first : List Slot = slot.Closure c.args.place (length rs) ∷ [] in
    let e : c.push_reserved.new.self.items ≡ f.slots ++ first = search (rules, common_steps) in
    let es : c.push_captured.new.slots.items ≡ f.slots ++ slot.Closure c.args.place (length rs) ∷ captured_slots rs = c.push_captured.ensures.items ∙ ap (λ xs. xs ++ captured_slots rs) e ∙ append_assoc f.slots first (captured_slots rs) in
    let made = makes_closure f c.push_captured.new.slots.items c.args.place rs (record { sound = c.args.self.now.sound; counted = c.args.self.now.roomy.counted; small = c.args.self.now.roomy.small }) (omega (arith, c.args.self.now.sound.heap_fits)) es c.requires.few c.requires.captured_in in
    made.leaves.saved

pub returns-clause-made : goal.returns-clause-made
returns-clause-made c =
    let f = fields_of c.args.self.now in
    let rs = c.args.captured.now in
    let first : List Slot = slot.Closure c.args.place (length rs) ∷ [] in
    let e : c.push_reserved.new.self.items ≡ f.slots ++ first = search (rules, common_steps) in
    let es : c.push_captured.new.slots.items ≡ f.slots ++ slot.Closure c.args.place (length rs) ∷ captured_slots rs = c.push_captured.ensures.items ∙ ap (λ xs. xs ++ captured_slots rs) e ∙ append_assoc f.slots first (captured_slots rs) in
    let made = makes_closure f c.push_captured.new.slots.items c.args.place rs (record { sound = c.args.self.now.sound; counted = c.args.self.now.roomy.counted; small = c.args.self.now.roomy.small }) (omega (arith, c.args.self.now.sound.heap_fits)) es c.requires.few c.requires.captured_in in
    made.made _ (omega arith)
