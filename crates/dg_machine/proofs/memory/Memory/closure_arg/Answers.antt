use Rattle.std.proofs.Common.{◌≡◌, ◌∷◌, Some, None, ap, ◌∙◌, arith, subst}
use Rattle.dg_meaning.specs.Substitutions.{walk}
use Rattle.dg_unify.specs.Store.{State, told}
use Rattle.dg_unify.proofs.StoreLemmas.{holds_some, told_is}
use Rattle.dg_arena.specs.Held.{meaning_of}
use Rattle.dg_machine.specs.Refs.{IsClosureOf}
use Rattle.dg_machine.proofs.TermLemmas.{closure_shown, closure_not}
use Rattle.dg_machine.proofs.memory.Memory.closure_arg.Goals as goal

pub arg-a-requires : goal.arg-a-requires
arg-a-requires c = let some = c.requires in (some.0 ∷ some.1, some.2, omega arith)

pub walk-requires : goal.walk-requires
walk-requires c = let some = c.requires in holds_some (meaning_of c.args.self.now.arena) c.arg-a.result some.0 (c.arg-a.ensures (some.0 ∷ some.1) some.2)

pub returns-in-Closure : goal.returns-in-Closure
returns-in-Closure c code l m v vs h refs =
    let s = meaning_of c.args.self.now.arena in
    let w = walk s.state.subst (told s c.arg-a.result) in
    let same : w ≡ walk m.state.subst v = ap (walk s.state.subst) (told_is s c.arg-a.result v (c.arg-a.ensures (v ∷ vs) refs)) ∙ ap (λ (t : State). walk t.subst v) h.0.state_is in
    subst (λ x. IsClosureOf s x (Some (c.in-Closure.place, c.in-Closure.closure))) same (closure_shown s w c.walk.result c.in-Closure.place c.in-Closure.closure c.in-Closure.is c.walk.ensures)

pub returns-in_default : goal.returns-in_default
returns-in_default c code l m v vs h refs =
    let s = meaning_of c.args.self.now.arena in
    let w = walk s.state.subst (told s c.arg-a.result) in
    let same : w ≡ walk m.state.subst v = ap (walk s.state.subst) (told_is s c.arg-a.result v (c.arg-a.ensures (v ∷ vs) refs)) ∙ ap (λ (t : State). walk t.subst v) h.0.state_is in
    subst (λ x. IsClosureOf s x None) same (closure_not s w c.walk.result c.in_default.not-Closure c.walk.ensures)
