use Rattle.std.proofs.Common.{rules, ◌≡◌, ◌+◌, ◌*◌, arith, length, Some, ◌∙◌, List, [], ◌∷◌, ◌++◌, refl, ap, true, append_assoc, ap, length-append}
use Rattle.std.proofs.lemmas.Grind.{common_steps}
use Rattle.dg_meaning.specs.Values.{Unknown, leaf}
use Rattle.dg_unify.specs.Linked.{log_of, vars_of}
use Rattle.dg_unify.specs.Slots.{value_in, Fields, letter_slots}
use Rattle.dg_unify.specs.Listed.{fields_of}
use Rattle.dg_unify.specs.declared.slots.Slot.{Slot}
use Rattle.dg_unify.specs.declared.slots.Slot.TheVariants as slot
use Rattle.dg_unify.proofs.SlotsLemmas.{plain_letters, inner_letters, no_marks}
use Rattle.dg_unify.proofs.Stores.{grown_slots, kept_grown, stand_grown, value_made, value_sound, word_at, letters_length}
use Rattle.dg_unify.proofs.FenceLemmas.{fence_kept}
use Rattle.dg_unify.proofs.list.ListBindingsBindings.unknown.Goals as goal

pub invariant_of-self-in-Ok : goal.invariant_of-self-in-Ok
invariant_of-self-in-Ok c =
    let f = fields_of c.args.self.now in
    let f' : Fields = record { slots = c.push_letters.new.slots.items; log = log_of c.args.self.now.links; vars = vars_of c.args.self.now.links; since = c.args.self.now.since; heap = c.args.self.now.heap + (3 + 3 * length c.args.spelling.now); trail = c.args.self.now.trail; heap_limit = c.args.self.now.heap_limit; trail_limit = c.args.self.now.trail_limit } in
    let extra : List Slot = slot.Unknown (length c.args.spelling.now) ∷ letter_slots c.args.spelling.now in
    let es : f'.slots ≡ f.slots ++ extra = c.push_letters.ensures.items ∙ (let e : c.push_reserved.new.self.items ≡ f.slots ++ slot.Unknown (length c.args.spelling.now) ∷ [] = search (rules, common_steps) in ap (λ xs. xs ++ letter_slots c.args.spelling.now) e ∙ append_assoc f.slots (slot.Unknown (length c.args.spelling.now) ∷ []) (letter_slots c.args.spelling.now)) in
    let el : f'.log ≡ f.log = refl in
    let g = grown_slots f f' extra es el refl refl in
    let value : value_in f'.slots (length f.slots) ≡ Some (leaf (Unknown c.args.spelling.now)) = word_at f.slots f'.slots (length c.args.spelling.now) c.args.spelling.now (length f.slots) es refl refl (omega (arith, c.in-Ok.ensures.within)) in
    record {
      sound = value_sound f f' (slot.Unknown (length c.args.spelling.now)) (letter_slots c.args.spelling.now) (leaf (Unknown c.args.spelling.now)) c.args.self.now.sound g (c.requires.short, plain_letters c.args.spelling.now) (inner_letters c.args.spelling.now) value (no_marks f.slots (slot.Unknown (length c.args.spelling.now)) refl) refl (omega (arith, c.in-Ok.ensures.within, letters_length c.args.spelling.now)) (omega (arith, c.args.self.now.sound.heap_fits)) refl;
      spacious = omega (arith, ap length es, length-append f.slots extra, letters_length c.args.spelling.now, c.in-Ok.ensures.spacious);
      fenced = fence_kept f f' extra c.args.self.now.fence c.args.self.now.sound g (omega arith) c.args.self.now.fenced;
    }

pub returns-in-Ok-clause-kept : goal.returns-in-Ok-clause-kept
returns-in-Ok-clause-kept c =
    let f = fields_of c.args.self.now in
    let f' : Fields = record { slots = c.push_letters.new.slots.items; log = log_of c.args.self.now.links; vars = vars_of c.args.self.now.links; since = c.args.self.now.since; heap = c.args.self.now.heap + (3 + 3 * length c.args.spelling.now); trail = c.args.self.now.trail; heap_limit = c.args.self.now.heap_limit; trail_limit = c.args.self.now.trail_limit } in
    let extra : List Slot = slot.Unknown (length c.args.spelling.now) ∷ letter_slots c.args.spelling.now in
    let es : f'.slots ≡ f.slots ++ extra = c.push_letters.ensures.items ∙ (let e : c.push_reserved.new.self.items ≡ f.slots ++ slot.Unknown (length c.args.spelling.now) ∷ [] = search (rules, common_steps) in ap (λ xs. xs ++ letter_slots c.args.spelling.now) e ∙ append_assoc f.slots (slot.Unknown (length c.args.spelling.now) ∷ []) (letter_slots c.args.spelling.now)) in
    let el : f'.log ≡ f.log = refl in
    let g = grown_slots f f' extra es el refl refl in
    kept_grown true f f' extra [] g

pub returns-in-Ok-clause-saved : goal.returns-in-Ok-clause-saved
returns-in-Ok-clause-saved c = λ ms h.
    let f = fields_of c.args.self.now in
    let f' : Fields = record { slots = c.push_letters.new.slots.items; log = log_of c.args.self.now.links; vars = vars_of c.args.self.now.links; since = c.args.self.now.since; heap = c.args.self.now.heap + (3 + 3 * length c.args.spelling.now); trail = c.args.self.now.trail; heap_limit = c.args.self.now.heap_limit; trail_limit = c.args.self.now.trail_limit } in
    let extra : List Slot = slot.Unknown (length c.args.spelling.now) ∷ letter_slots c.args.spelling.now in
    let es : f'.slots ≡ f.slots ++ extra = c.push_letters.ensures.items ∙ (let e : c.push_reserved.new.self.items ≡ f.slots ++ slot.Unknown (length c.args.spelling.now) ∷ [] = search (rules, common_steps) in ap (λ xs. xs ++ letter_slots c.args.spelling.now) e ∙ append_assoc f.slots (slot.Unknown (length c.args.spelling.now) ∷ []) (letter_slots c.args.spelling.now)) in
    let el : f'.log ≡ f.log = refl in
    let g = grown_slots f f' extra es el refl refl in
    stand_grown true f f' extra [] ms g (omega arith) h

pub returns-in-Ok-clause-made : goal.returns-in-Ok-clause-made
returns-in-Ok-clause-made c =
    let f = fields_of c.args.self.now in
    let f' : Fields = record { slots = c.push_letters.new.slots.items; log = log_of c.args.self.now.links; vars = vars_of c.args.self.now.links; since = c.args.self.now.since; heap = c.args.self.now.heap + (3 + 3 * length c.args.spelling.now); trail = c.args.self.now.trail; heap_limit = c.args.self.now.heap_limit; trail_limit = c.args.self.now.trail_limit } in
    let extra : List Slot = slot.Unknown (length c.args.spelling.now) ∷ letter_slots c.args.spelling.now in
    let es : f'.slots ≡ f.slots ++ extra = c.push_letters.ensures.items ∙ (let e : c.push_reserved.new.self.items ≡ f.slots ++ slot.Unknown (length c.args.spelling.now) ∷ [] = search (rules, common_steps) in ap (λ xs. xs ++ letter_slots c.args.spelling.now) e ∙ append_assoc f.slots (slot.Unknown (length c.args.spelling.now) ∷ []) (letter_slots c.args.spelling.now)) in
    let el : f'.log ≡ f.log = refl in
    let g = grown_slots f f' extra es el refl refl in
    value_made true f f' (3 + 3 * length c.args.spelling.now) extra (record { 0 = c.in-Ok.at }) (leaf (Unknown c.args.spelling.now)) c.args.self.now.sound g refl refl refl refl (omega (arith, c.args.self.now.sound.heap_fits)) (word_at f.slots f'.slots (length c.args.spelling.now) c.args.spelling.now c.in-Ok.at es refl (omega (arith, c.in-Ok.ensures.place)) (omega (arith, c.in-Ok.ensures.within)))
