use Rattle.std.proofs.Common.{◌∷◌, [], ◌∙◌, ap, sym, subst, arith}
use Rattle.dg_meaning.specs.Pieces.{pieces}
use Rattle.dg_meaning.specs.Substitutions.{resolved}
use Rattle.dg_unify.specs.Store.{State, Store, Kept}
use Rattle.dg_unify.proofs.StoreLemmas.{holds_some, told_is, kept_same}
use Rattle.dg_arena.specs.Held.{meaning_of}
use Rattle.dg_texts.proofs.PrintLemmas.{printed_as}
use Rattle.dg_texts.specs.Printing.{value_at}
use Rattle.dg_machine.proofs.Opens.{on_arena}
use Rattle.dg_machine.proofs.memory.Memory.print_arg.Goals as goal

pub arg-value-requires : goal.arg-value-requires
arg-value-requires g c = let some = c.requires in (some.0 ∷ [], some.1, omega arith)

pub print_value-requires : goal.print_value-requires
print_value-requires g c = let some = c.requires in holds_some (meaning_of c.args.self.now.arena) c.arg-value.result some.0 (c.arg-value.ensures (some.0 ∷ []) some.1)

pub returns-clause-held : goal.returns-clause-held
returns-clause-held g c code l m h =
    let s = meaning_of c.args.self.now.arena in
    let same = c.print_value.ensures.same in
    on_arena code l m m.state c.args.self.now c.print_value.new.store h (subst (Kept s) (sym same) (kept_same s)) c.print_value.ensures.saved (ap (λ (t : Store). t.state) same ∙ h.0.state_is) (omega arith)

pub returns-clause-printed : goal.returns-clause-printed
returns-clause-printed g c code l m p v is h refs =
    let s = meaning_of c.args.self.now.arena in
    let value = ap (resolved s.state.subst) (told_is s c.arg-value.result v (c.arg-value.ensures (v ∷ []) refs)) ∙ ap (λ (t : State). resolved t.subst v) h.0.state_is in
    printed_as (pieces p (value_at s c.arg-value.result)) (pieces p (resolved m.state.subst v)) c.args.spacer.now c.print_value.new.spacer (g.K.Sink.view c.args.sink.now) (g.K.Sink.view c.print_value.new.sink) c.print_value.result (sym (ap (pieces p) value))
    (c.print_value.ensures.printed p (sym is.words ∙ sym c.as_slice-words.ensures) (sym is.objects ∙ sym c.as_slice-objects.ensures))
