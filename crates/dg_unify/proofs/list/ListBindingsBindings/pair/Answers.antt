use Rattle.std.proofs.Common.{rules, ◌≡◌, ◌+◌, arith, length, Some, List, [], ◌∷◌, ◌++◌, refl, true, ap, length, length-append}
use Rattle.std.proofs.lemmas.Grind.{common_steps}
use Rattle.dg_meaning.specs.Values.{pair}
use Rattle.dg_unify.specs.Store.{told}
use Rattle.dg_unify.specs.Linked.{log_of, vars_of}
use Rattle.dg_unify.specs.Slots.{value_in, Fields, store_of}
use Rattle.dg_unify.specs.Listed.{fields_of}
use Rattle.dg_unify.specs.declared.slots.Slot.{Slot}
use Rattle.dg_unify.specs.declared.slots.Slot.TheVariants as slot
use Rattle.dg_unify.proofs.Stores.{grown_slots, kept_grown, stand_grown, value_made, value_sound, pair_at}
use Rattle.dg_unify.proofs.SlotsLemmas.{pair_marks}
use Rattle.dg_unify.proofs.FenceLemmas.{fence_kept}
use Rattle.dg_unify.proofs.list.ListBindingsBindings.pair.Goals as goal

pub invariant_of-self-in-Ok : goal.invariant_of-self-in-Ok
invariant_of-self-in-Ok c =
    let f = fields_of c.args.self.now in
    let f' : Fields = record { slots = c.push_reserved.new.self.items; log = log_of c.args.self.now.links; vars = vars_of c.args.self.now.links; since = c.args.self.now.since; heap = c.args.self.now.heap + 3; trail = c.args.self.now.trail; heap_limit = c.args.self.now.heap_limit; trail_limit = c.args.self.now.trail_limit } in
    let extra : List Slot = slot.Pair c.args.head c.args.tail c.are_constant-constant.result ∷ [] in
    let es : f'.slots ≡ f.slots ++ extra = search (rules, common_steps) in
    let el : f'.log ≡ f.log = refl in
    let g = grown_slots f f' extra es el refl refl in
    let value : value_in f'.slots (length f.slots) ≡ Some (pair (told (store_of true f) c.args.head) (told (store_of true f) c.args.tail)) = pair_at f.slots f'.slots c.args.head c.args.tail c.are_constant-constant.result (length f.slots) es refl (omega (arith, c.in-Ok.ensures.within)) c.requires.head_in c.requires.tail_in in
    record {
      sound = value_sound f f' (slot.Pair c.args.head c.args.tail c.are_constant-constant.result) [] (pair (told (store_of true f) c.args.head) (told (store_of true f) c.args.tail)) c.args.self.now.sound g (tt, tt) tt value (pair_marks f.slots c.args.head c.args.tail c.are_constant-constant.result c.are_constant-constant.ensures) refl (omega (arith, c.in-Ok.ensures.within)) (omega (arith, c.args.self.now.sound.heap_fits)) refl;
      spacious = omega (arith, ap length es, length-append f.slots extra, c.in-Ok.ensures.spacious);
      fenced = fence_kept f f' extra c.args.self.now.fence c.args.self.now.sound g (omega arith) c.args.self.now.fenced;
    }

pub returns-in-Ok-clause-kept : goal.returns-in-Ok-clause-kept
returns-in-Ok-clause-kept c =
    let f = fields_of c.args.self.now in
    let f' : Fields = record { slots = c.push_reserved.new.self.items; log = log_of c.args.self.now.links; vars = vars_of c.args.self.now.links; since = c.args.self.now.since; heap = c.args.self.now.heap + 3; trail = c.args.self.now.trail; heap_limit = c.args.self.now.heap_limit; trail_limit = c.args.self.now.trail_limit } in
    let extra : List Slot = slot.Pair c.args.head c.args.tail c.are_constant-constant.result ∷ [] in
    let es : f'.slots ≡ f.slots ++ extra = search (rules, common_steps) in
    let el : f'.log ≡ f.log = refl in
    let g = grown_slots f f' extra es el refl refl in
    kept_grown true f f' extra [] g

pub returns-in-Ok-clause-saved : goal.returns-in-Ok-clause-saved
returns-in-Ok-clause-saved c = λ ms h.
    let f = fields_of c.args.self.now in
    let f' : Fields = record { slots = c.push_reserved.new.self.items; log = log_of c.args.self.now.links; vars = vars_of c.args.self.now.links; since = c.args.self.now.since; heap = c.args.self.now.heap + 3; trail = c.args.self.now.trail; heap_limit = c.args.self.now.heap_limit; trail_limit = c.args.self.now.trail_limit } in
    let extra : List Slot = slot.Pair c.args.head c.args.tail c.are_constant-constant.result ∷ [] in
    let es : f'.slots ≡ f.slots ++ extra = search (rules, common_steps) in
    let el : f'.log ≡ f.log = refl in
    let g = grown_slots f f' extra es el refl refl in
    stand_grown true f f' extra [] ms g (omega arith) h

pub returns-in-Ok-clause-made : goal.returns-in-Ok-clause-made
returns-in-Ok-clause-made c =
    let f = fields_of c.args.self.now in
    let f' : Fields = record { slots = c.push_reserved.new.self.items; log = log_of c.args.self.now.links; vars = vars_of c.args.self.now.links; since = c.args.self.now.since; heap = c.args.self.now.heap + 3; trail = c.args.self.now.trail; heap_limit = c.args.self.now.heap_limit; trail_limit = c.args.self.now.trail_limit } in
    let extra : List Slot = slot.Pair c.args.head c.args.tail c.are_constant-constant.result ∷ [] in
    let es : f'.slots ≡ f.slots ++ extra = search (rules, common_steps) in
    let el : f'.log ≡ f.log = refl in
    let g = grown_slots f f' extra es el refl refl in
    value_made true f f' 3 extra (record { 0 = c.in-Ok.at }) (pair (told (store_of true f) c.args.head) (told (store_of true f) c.args.tail)) c.args.self.now.sound g refl refl refl refl (omega (arith, c.args.self.now.sound.heap_fits)) (pair_at f.slots f'.slots c.args.head c.args.tail c.are_constant-constant.result c.in-Ok.at es (omega (arith, c.in-Ok.ensures.place)) (omega (arith, c.in-Ok.ensures.within)) c.requires.head_in c.requires.tail_in)
