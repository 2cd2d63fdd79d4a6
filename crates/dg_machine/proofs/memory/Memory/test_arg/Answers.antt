use Rattle.std.proofs.Common.{◌∷◌, [], ◌∙◌, ap, sym, subst, arith}
use Rattle.dg_meaning.specs.TypeTests.{passes}
use Rattle.dg_unify.specs.Store.{State, Store, Kept}
use Rattle.dg_unify.proofs.StoreLemmas.{holds_some, told_is, kept_same}
use Rattle.dg_arena.specs.Held.{meaning_of}
use Rattle.dg_machine.proofs.Opens.{on_arena}
use Rattle.dg_machine.proofs.memory.Memory.test_arg.Goals as goal

pub arg-value-requires : goal.arg-value-requires
arg-value-requires c = let some = c.requires in (some.0 ∷ [], some.1, omega arith)

pub test-requires : goal.test-requires
test-requires c = let some = c.requires in holds_some (meaning_of c.args.self.now.arena) c.arg-value.result some.0 (c.arg-value.ensures (some.0 ∷ []) some.1)

pub returns-clause-held : goal.returns-clause-held
returns-clause-held c code l m h =
    let s = meaning_of c.args.self.now.arena in
    let same = c.test.ensures.same in
    on_arena code l m m.state c.args.self.now c.test.new.store h (subst (Kept s) (sym same) (kept_same s)) c.test.ensures.saved (ap (λ (t : Store). t.state) same ∙ h.0.state_is) (omega arith)

pub returns-clause-passed : goal.returns-clause-passed
returns-clause-passed c code l m v h refs =
    let s = meaning_of c.args.self.now.arena in
    c.test.ensures.passed ∙ ap (passes s.state.subst c.args.kind) (told_is s c.arg-value.result v (c.arg-value.ensures (v ∷ []) refs)) ∙ ap (λ (t : State). passes t.subst c.args.kind v) h.0.state_is
