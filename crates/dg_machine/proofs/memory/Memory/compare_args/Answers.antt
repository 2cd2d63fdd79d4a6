use Rattle.std.proofs.Common.{◌∷◌, [], ◌∙◌, ap, arith}
use Rattle.dg_meaning.specs.Numbers.{are_in_order}
use Rattle.dg_meaning.specs.Substitutions.{walk}
use Rattle.dg_unify.specs.Store.{State, told}
use Rattle.dg_unify.proofs.StoreLemmas.{holds_some, told_is}
use Rattle.dg_arena.specs.Held.{meaning_of}
use Rattle.dg_machine.proofs.memory.Memory.compare_args.Goals as goal

pub arg-a-requires : goal.arg-a-requires
arg-a-requires c = let some = c.requires in (some.0 ∷ some.1 ∷ [], some.2, omega arith)

pub arg-b-requires : goal.arg-b-requires
arg-b-requires c = let some = c.requires in (some.0 ∷ some.1 ∷ [], some.2, omega arith)

pub in_order-requires : goal.in_order-requires
in_order-requires c = let some = c.requires in (holds_some (meaning_of c.args.self.now.arena) c.arg-a.result some.0 (c.arg-a.ensures (some.0 ∷ some.1 ∷ []) some.2), holds_some (meaning_of c.args.self.now.arena) c.arg-b.result some.1 (c.arg-b.ensures (some.0 ∷ some.1 ∷ []) some.2))

pub returns : goal.returns
returns c code l m u v h refs =
    let s = meaning_of c.args.self.now.arena in
    let b = walk s.state.subst (told s c.arg-b.result) in
    c.in_order.ensures
    ∙ ap (λ x. are_in_order c.args.op (walk s.state.subst x) b) (told_is s c.arg-a.result u (c.arg-a.ensures (u ∷ v ∷ []) refs))
    ∙ ap (λ x. are_in_order c.args.op (walk s.state.subst u) (walk s.state.subst x)) (told_is s c.arg-b.result v (c.arg-b.ensures (u ∷ v ∷ []) refs))
    ∙ ap (λ (t : State). are_in_order c.args.op (walk t.subst u) (walk t.subst v)) h.0.state_is
