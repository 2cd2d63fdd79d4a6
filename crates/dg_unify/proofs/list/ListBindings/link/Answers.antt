use Rattle.std.proofs.Common.{◌≡◌, ◌+◌, arith, [], ◌∷◌, ◌++◌, refl, true}
use Rattle.dg_unify.specs.Linked.{log_of, vars_of}
use Rattle.dg_unify.specs.Slots.{Fields}
use Rattle.dg_unify.specs.Listed.{fields_of}
use Rattle.dg_unify.specs.declared.slots.Link.{Link}
use Rattle.dg_unify.proofs.Stores.{grown_links, kept_grown, stand_grown, link_sound, link_bound, may_unbound}
use Rattle.dg_unify.proofs.FenceLemmas.{fence_linked}
use Rattle.dg_unify.proofs.list.ListBindings.link.Goals as goal

pub bind-requires-clause-unbound : goal.bind-requires-clause-unbound
bind-requires-clause-unbound c = may_unbound (fields_of c.args.self.now) c.args.var c.args.to c.requires

pub invariant_of-self : goal.invariant_of-self
invariant_of-self c =
    let f = fields_of c.args.self.now in
    let f' : Fields = record { slots = c.args.self.now.slots.items; log = log_of c.bind.new.self; vars = vars_of c.bind.new.self; since = c.args.self.now.since; heap = c.args.self.now.heap; trail = c.args.self.now.trail + c.trail_for-more.result; heap_limit = c.args.self.now.heap_limit; trail_limit = c.args.self.now.trail_limit } in
    let l : Link = record { var = c.args.var; to = c.args.to } in
    let el : f'.log ≡ f.log ++ l ∷ [] = c.in-Ok.ensures.ok in
    let g = grown_links f f' (l ∷ []) refl el refl refl in
    let sound = link_sound f f' c.args.var c.args.to c.args.self.now.sound c.requires g c.bind.ensures.vars refl (omega (arith, c.args.self.now.sound.trail_fits)) in
    record { sound = sound; spacious = c.args.self.now.spacious; fenced = fence_linked f f' c.args.self.now.fence c.fence_now.result c.for_link-fence.result l c.top_of.result sound g c.bind.ensures.vars c.top_of.ensures (rw c.bind.ensures.vars c.fence_now.ensures) c.for_link-fence.ensures c.args.self.now.fenced }

pub returns-in-Ok-clause-kept : goal.returns-in-Ok-clause-kept
returns-in-Ok-clause-kept c =
    let f = fields_of c.args.self.now in
    let f' : Fields = record { slots = c.args.self.now.slots.items; log = log_of c.bind.new.self; vars = vars_of c.bind.new.self; since = c.args.self.now.since; heap = c.args.self.now.heap; trail = c.args.self.now.trail + c.trail_for-more.result; heap_limit = c.args.self.now.heap_limit; trail_limit = c.args.self.now.trail_limit } in
    let l : Link = record { var = c.args.var; to = c.args.to } in
    let el : f'.log ≡ f.log ++ l ∷ [] = c.in-Ok.ensures.ok in
    let g = grown_links f f' (l ∷ []) refl el refl refl in
    kept_grown true f f' [] (l ∷ []) g

pub returns-in-Ok-clause-saved : goal.returns-in-Ok-clause-saved
returns-in-Ok-clause-saved c = λ ms h.
    let f = fields_of c.args.self.now in
    let f' : Fields = record { slots = c.args.self.now.slots.items; log = log_of c.bind.new.self; vars = vars_of c.bind.new.self; since = c.args.self.now.since; heap = c.args.self.now.heap; trail = c.args.self.now.trail + c.trail_for-more.result; heap_limit = c.args.self.now.heap_limit; trail_limit = c.args.self.now.trail_limit } in
    let l : Link = record { var = c.args.var; to = c.args.to } in
    let el : f'.log ≡ f.log ++ l ∷ [] = c.in-Ok.ensures.ok in
    let g = grown_links f f' (l ∷ []) refl el refl refl in
    stand_grown true f f' [] (l ∷ []) ms g (omega (arith, c.bind.ensures.vars)) h

pub returns-in-Ok-clause-made : goal.returns-in-Ok-clause-made
returns-in-Ok-clause-made c =
    let f = fields_of c.args.self.now in
    let f' : Fields = record { slots = c.args.self.now.slots.items; log = log_of c.bind.new.self; vars = vars_of c.bind.new.self; since = c.args.self.now.since; heap = c.args.self.now.heap; trail = c.args.self.now.trail + c.trail_for-more.result; heap_limit = c.args.self.now.heap_limit; trail_limit = c.args.self.now.trail_limit } in
    let l : Link = record { var = c.args.var; to = c.args.to } in
    let el : f'.log ≡ f.log ++ l ∷ [] = c.in-Ok.ensures.ok in
    let g = grown_links f f' (l ∷ []) refl el refl refl in
    link_bound true f f' c.args.var c.args.to c.trail_for-more.result c.requires g c.bind.ensures.vars refl refl refl c.trail_for-more.ensures (omega (arith, c.args.self.now.sound.trail_fits))
