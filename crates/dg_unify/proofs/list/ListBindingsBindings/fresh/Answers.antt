use Rattle.std.proofs.Common.{rules, ◌≡◌, ◌+◌, ◌≤◌, arith, List, [], ◌∷◌, ◌++◌, refl, true, ap, length, length-append}
use Rattle.std.proofs.lemmas.Grind.{common_steps}
use Rattle.dg_unify.specs.Linked.{log_of, vars_of}
use Rattle.dg_unify.specs.Slots.{Fields}
use Rattle.dg_unify.specs.Listed.{fields_of}
use Rattle.dg_unify.specs.declared.slots.Slot.{Slot}
use Rattle.dg_unify.specs.declared.slots.Slot.TheVariants as slot
use Rattle.dg_unify.proofs.Stores.{grown_slots, kept_grown, stand_grown, fresh_made, fresh_sound, var_at}
use Rattle.dg_unify.proofs.FenceLemmas.{fence_made}
use Rattle.dg_unify.proofs.list.ListBindingsBindings.fresh.Goals as goal

pub invariant_of-self-in-Ok : goal.invariant_of-self-in-Ok
invariant_of-self-in-Ok c =
    let f = fields_of c.args.self.now in
    let f' : Fields = record { slots = c.push_reserved.new.self.items; log = log_of c.add_var.new.self; vars = vars_of c.add_var.new.self; since = c.args.self.now.since; heap = c.args.self.now.heap + 1; trail = c.args.self.now.trail; heap_limit = c.args.self.now.heap_limit; trail_limit = c.args.self.now.trail_limit } in
    let extra : List Slot = slot.Var (vars_of c.args.self.now.links) ∷ [] in
    let es : f'.slots ≡ f.slots ++ extra = search (rules, common_steps) in
    let el : f'.log ≡ f.log = c.add_var.ensures.log in
    let g = grown_slots f f' extra es el refl refl in
    let ev : f'.vars ≡ f.vars + 1 = search rules in
    record {
      sound = fresh_sound f f' c.args.self.now.sound g ev (omega (arith, c.in-Ok.ensures.within)) (omega (arith, c.args.self.now.sound.heap_fits)) refl;
      spacious = omega (arith, ap length es, length-append f.slots extra, c.in-Ok.ensures.spacious);
      fenced = fence_made f f' extra c.args.self.now.fence c.fence_now.result c.for_new-fence.result c.args.self.now.sound g (omega (arith, ev)) c.fence_now.ensures c.for_new-fence.ensures c.args.self.now.fenced;
    }

pub returns-else-is_err-clause-kept : goal.returns-else-is_err-clause-kept
returns-else-is_err-clause-kept c =
    let f = fields_of c.args.self.now in
    let f' : Fields = record { slots = c.push_reserved.new.self.items; log = log_of c.add_var.new.self; vars = vars_of c.add_var.new.self; since = c.args.self.now.since; heap = c.args.self.now.heap + 1; trail = c.args.self.now.trail; heap_limit = c.args.self.now.heap_limit; trail_limit = c.args.self.now.trail_limit } in
    let extra : List Slot = slot.Var (vars_of c.args.self.now.links) ∷ [] in
    let es : f'.slots ≡ f.slots ++ extra = search (rules, common_steps) in
    let el : f'.log ≡ f.log = c.add_var.ensures.log in
    let g = grown_slots f f' extra es el refl refl in
    kept_grown true f f' extra [] g

pub returns-else-is_err-clause-saved : goal.returns-else-is_err-clause-saved
returns-else-is_err-clause-saved c = λ ms h.
    let f = fields_of c.args.self.now in
    let f' : Fields = record { slots = c.push_reserved.new.self.items; log = log_of c.add_var.new.self; vars = vars_of c.add_var.new.self; since = c.args.self.now.since; heap = c.args.self.now.heap + 1; trail = c.args.self.now.trail; heap_limit = c.args.self.now.heap_limit; trail_limit = c.args.self.now.trail_limit } in
    let extra : List Slot = slot.Var (vars_of c.args.self.now.links) ∷ [] in
    let es : f'.slots ≡ f.slots ++ extra = search (rules, common_steps) in
    let el : f'.log ≡ f.log = c.add_var.ensures.log in
    let g = grown_slots f f' extra es el refl refl in
    let ev : f'.vars ≡ f.vars + 1 = search rules in
    stand_grown true f f' extra [] ms g (omega (arith, ev)) h

pub returns-else-is_err-clause-made : goal.returns-else-is_err-clause-made
returns-else-is_err-clause-made c =
    let f = fields_of c.args.self.now in
    let f' : Fields = record { slots = c.push_reserved.new.self.items; log = log_of c.add_var.new.self; vars = vars_of c.add_var.new.self; since = c.args.self.now.since; heap = c.args.self.now.heap + 1; trail = c.args.self.now.trail; heap_limit = c.args.self.now.heap_limit; trail_limit = c.args.self.now.trail_limit } in
    let extra : List Slot = slot.Var (vars_of c.args.self.now.links) ∷ [] in
    let es : f'.slots ≡ f.slots ++ extra = search (rules, common_steps) in
    let el : f'.log ≡ f.log = c.add_var.ensures.log in
    let g = grown_slots f f' extra es el refl refl in
    let ev : f'.vars ≡ f.vars + 1 = search rules in
    fresh_made true f f' (record { 0 = c.in-Ok.at }) c.args.self.now.sound g ev refl refl refl (omega (arith, c.args.self.now.sound.heap_fits)) (var_at f.slots f'.slots f.vars c.in-Ok.at es (omega (arith, c.in-Ok.ensures.place)) (omega (arith, c.in-Ok.ensures.within))) (omega (arith, c.in-Ok.ensures.place))

pub returns-then-is_err-clause-made : goal.returns-then-is_err-clause-made
returns-then-is_err-clause-made c =
    let room : c.args.self.now.heap + 1 ≤ c.args.self.now.heap_limit = omega (arith, c.args.self.now.sound.heap_fits) in
    search rules

pub overflow_add-self : goal.overflow_add-self
overflow_add-self c =
    let room : c.args.self.now.heap + 1 ≤ c.args.self.now.heap_limit = omega (arith, c.args.self.now.sound.heap_fits) in
    search rules

pub returns-in-Err-clause-made : goal.returns-in-Err-clause-made
returns-in-Err-clause-made c =
    let room : c.args.self.now.heap + 1 ≤ c.args.self.now.heap_limit = omega (arith, c.args.self.now.sound.heap_fits) in
    search rules
