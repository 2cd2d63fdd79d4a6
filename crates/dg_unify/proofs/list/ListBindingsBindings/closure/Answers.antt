use Rattle.std.proofs.Common.{rules, ◌≡◌, ◌+◌, arith, length, Some, ◌∙◌, List, [], ◌∷◌, ◌++◌, refl, ap, true, append_assoc, length-append}
use Rattle.std.proofs.lemmas.Grind.{common_steps}
use Rattle.dg_meaning.specs.Values.{Value, Node, Closure}
use Rattle.dg_unify.specs.Store.{told_parts}
use Rattle.dg_unify.specs.Linked.{log_of, vars_of}
use Rattle.dg_unify.specs.Slots.{value_in, Fields, store_of, captured_slots}
use Rattle.dg_unify.specs.Listed.{fields_of}
use Rattle.dg_unify.specs.declared.slots.Slot.{Slot}
use Rattle.dg_unify.specs.declared.slots.Slot.TheVariants as slot
use Rattle.dg_unify.proofs.SlotsLemmas.{plain_captured, inner_captured, no_marks}
use Rattle.dg_unify.proofs.Stores.{grown_slots, kept_grown, stand_grown, value_made, value_sound, closure_at, captured_length}
use Rattle.dg_unify.proofs.FenceLemmas.{fence_kept}
use Rattle.dg_unify.proofs.list.ListBindingsBindings.closure.Goals as goal

pub invariant_of-self-in-Ok : goal.invariant_of-self-in-Ok
invariant_of-self-in-Ok c =
    let f = fields_of c.args.self.now in
    let f' : Fields = record { slots = c.push_captured.new.slots.items; log = log_of c.args.self.now.links; vars = vars_of c.args.self.now.links; since = c.args.self.now.since; heap = c.args.self.now.heap + (3 + length c.args.captured.now); trail = c.args.self.now.trail; heap_limit = c.args.self.now.heap_limit; trail_limit = c.args.self.now.trail_limit } in
    let extra : List Slot = slot.Closure c.args.place (length c.args.captured.now) ∷ captured_slots c.args.captured.now in
    let es : f'.slots ≡ f.slots ++ extra = c.push_captured.ensures.items ∙ (let e : c.push_reserved.new.self.items ≡ f.slots ++ slot.Closure c.args.place (length c.args.captured.now) ∷ [] = search (rules, common_steps) in ap (λ xs. xs ++ captured_slots c.args.captured.now) e ∙ append_assoc f.slots (slot.Closure c.args.place (length c.args.captured.now) ∷ []) (captured_slots c.args.captured.now)) in
    let el : f'.log ≡ f.log = refl in
    let g = grown_slots f f' extra es el refl refl in
    let v : Value = Node (Closure c.args.place) (told_parts (store_of true f) c.args.captured.now) in
    let value : value_in f'.slots (length f.slots) ≡ Some v = closure_at f.slots f'.slots c.args.place (length c.args.captured.now) c.args.captured.now (length f.slots) es refl refl (omega (arith, c.in-Ok.ensures.within)) c.requires.captured_in in
    record {
      sound = value_sound f f' (slot.Closure c.args.place (length c.args.captured.now)) (captured_slots c.args.captured.now) v c.args.self.now.sound g (c.requires.few, plain_captured c.args.captured.now) (inner_captured c.args.captured.now) value (no_marks f.slots (slot.Closure c.args.place (length c.args.captured.now)) refl) refl (omega (arith, c.in-Ok.ensures.within, captured_length c.args.captured.now)) (omega (arith, c.args.self.now.sound.heap_fits)) refl;
      spacious = omega (arith, ap length es, length-append f.slots extra, captured_length c.args.captured.now, c.in-Ok.ensures.spacious);
      fenced = fence_kept f f' extra c.args.self.now.fence c.args.self.now.sound g (omega arith) c.args.self.now.fenced;
    }

pub returns-in-Ok-clause-kept : goal.returns-in-Ok-clause-kept
returns-in-Ok-clause-kept c =
    let f = fields_of c.args.self.now in
    let f' : Fields = record { slots = c.push_captured.new.slots.items; log = log_of c.args.self.now.links; vars = vars_of c.args.self.now.links; since = c.args.self.now.since; heap = c.args.self.now.heap + (3 + length c.args.captured.now); trail = c.args.self.now.trail; heap_limit = c.args.self.now.heap_limit; trail_limit = c.args.self.now.trail_limit } in
    let extra : List Slot = slot.Closure c.args.place (length c.args.captured.now) ∷ captured_slots c.args.captured.now in
    let es : f'.slots ≡ f.slots ++ extra = c.push_captured.ensures.items ∙ (let e : c.push_reserved.new.self.items ≡ f.slots ++ slot.Closure c.args.place (length c.args.captured.now) ∷ [] = search (rules, common_steps) in ap (λ xs. xs ++ captured_slots c.args.captured.now) e ∙ append_assoc f.slots (slot.Closure c.args.place (length c.args.captured.now) ∷ []) (captured_slots c.args.captured.now)) in
    let el : f'.log ≡ f.log = refl in
    let g = grown_slots f f' extra es el refl refl in
    kept_grown true f f' extra [] g

pub returns-in-Ok-clause-saved : goal.returns-in-Ok-clause-saved
returns-in-Ok-clause-saved c = λ ms h.
    let f = fields_of c.args.self.now in
    let f' : Fields = record { slots = c.push_captured.new.slots.items; log = log_of c.args.self.now.links; vars = vars_of c.args.self.now.links; since = c.args.self.now.since; heap = c.args.self.now.heap + (3 + length c.args.captured.now); trail = c.args.self.now.trail; heap_limit = c.args.self.now.heap_limit; trail_limit = c.args.self.now.trail_limit } in
    let extra : List Slot = slot.Closure c.args.place (length c.args.captured.now) ∷ captured_slots c.args.captured.now in
    let es : f'.slots ≡ f.slots ++ extra = c.push_captured.ensures.items ∙ (let e : c.push_reserved.new.self.items ≡ f.slots ++ slot.Closure c.args.place (length c.args.captured.now) ∷ [] = search (rules, common_steps) in ap (λ xs. xs ++ captured_slots c.args.captured.now) e ∙ append_assoc f.slots (slot.Closure c.args.place (length c.args.captured.now) ∷ []) (captured_slots c.args.captured.now)) in
    let el : f'.log ≡ f.log = refl in
    let g = grown_slots f f' extra es el refl refl in
    stand_grown true f f' extra [] ms g (omega arith) h

pub returns-in-Ok-clause-made : goal.returns-in-Ok-clause-made
returns-in-Ok-clause-made c =
    let f = fields_of c.args.self.now in
    let f' : Fields = record { slots = c.push_captured.new.slots.items; log = log_of c.args.self.now.links; vars = vars_of c.args.self.now.links; since = c.args.self.now.since; heap = c.args.self.now.heap + (3 + length c.args.captured.now); trail = c.args.self.now.trail; heap_limit = c.args.self.now.heap_limit; trail_limit = c.args.self.now.trail_limit } in
    let extra : List Slot = slot.Closure c.args.place (length c.args.captured.now) ∷ captured_slots c.args.captured.now in
    let es : f'.slots ≡ f.slots ++ extra = c.push_captured.ensures.items ∙ (let e : c.push_reserved.new.self.items ≡ f.slots ++ slot.Closure c.args.place (length c.args.captured.now) ∷ [] = search (rules, common_steps) in ap (λ xs. xs ++ captured_slots c.args.captured.now) e ∙ append_assoc f.slots (slot.Closure c.args.place (length c.args.captured.now) ∷ []) (captured_slots c.args.captured.now)) in
    let el : f'.log ≡ f.log = refl in
    let g = grown_slots f f' extra es el refl refl in
    value_made true f f' (3 + length c.args.captured.now) extra (record { 0 = c.in-Ok.at }) (Node (Closure c.args.place) (told_parts (store_of true f) c.args.captured.now)) c.args.self.now.sound g refl refl refl refl (omega (arith, c.args.self.now.sound.heap_fits)) (closure_at f.slots f'.slots c.args.place (length c.args.captured.now) c.args.captured.now c.in-Ok.at es refl (omega (arith, c.in-Ok.ensures.place)) (omega (arith, c.in-Ok.ensures.within)) c.requires.captured_in)
