use Rattle.std.proofs.Common.{◌≡◌, ℕ, ◌-◌, List, ◌++◌, ap, ◌∙◌, arith, take, drop, length}
use Rattle.std.proofs.lemmas.List.{take-append-drop, take_all, take_at, length-drop}
use Rattle.dg_unify.specs.declared.slots.Link.{Link}
use Rattle.dg_unify.proofs.links.Links.unlink.Goals as goal

-- all bindings: those that are taken back stand behind the others
whole : (k : ℕ) (log : List Link) → take k log ++ take (length log - k) (drop k log) ≡ log
whole k log = ap (λ ls. take k log ++ ls) (take_all (length log - k) (drop k log) (omega (arith, length-drop k log))) ∙ take-append-drop k log

pub unbind-requires : goal.unbind-requires
unbind-requires c = (c.args.self.now.vars, take c.args.links c.deref.result.now, rw (c.as_mut_slice.ensures.value, whole c.args.links c.deref.result.now, c.deref.ensures.value) c.args.self.now.linked)

pub invariant_of-self : goal.invariant_of-self
invariant_of-self c =
    let to = c.unbind.new.to in
    let left = c.unbind.ensures.linked c.args.self.now.vars (take c.args.links c.deref.result.now) (rw (c.as_mut_slice.ensures.value, whole c.args.links c.deref.result.now, c.deref.ensures.value) c.args.self.now.linked) in
    let kept : take c.args.self.now.to.len (to ++ drop (length to) c.args.self.now.to.items) ≡ to = take_at to (drop (length to) c.args.self.now.to.items) c.args.self.now.to.len (omega (arith, c.unbind.ensures.vars, c.as_mut_slice.ensures.len)) in
    record { linked = rw (kept, c.truncate.ensures.items) (rw c.deref.ensures.value at left) }
