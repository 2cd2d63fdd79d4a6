use Rattle.std.proofs.Common.{◌≡◌, ◌+◌, [], ◌∷◌, ◌++◌, None, ap, arith, length, length-append}
use Rattle.dg_unify.proofs.LinksLemmas.{linked_push, linked_more}
use Rattle.dg_unify.proofs.links.Links.add_var_reserved.Goals as goal

pub invariant_of-self : goal.invariant_of-self
invariant_of-self c =
    let s = c.args.self.now in
    record { linked = linked_more s.vars (s.vars + 1) s.to.items s.log.items (omega arith) (omega (arith, c.if-self-len.true, c.len.ensures)) s.linked }

pub invariant_of-self-2 : goal.invariant_of-self-2
invariant_of-self-2 c =
    let s = c.args.self.now in
    let to = c.push_reserved.new.self.items in
    let is : to ≡ s.to.items ++ None ∷ [] = c.push_reserved.ensures.items in
    let placed = linked_push s.vars s.to.items to s.log.items is s.linked in
    record { linked = linked_more s.vars (s.vars + 1) to s.log.items (omega arith) (omega (arith, ap length is, length-append s.to.items (None ∷ []), s.linked.within)) placed }
