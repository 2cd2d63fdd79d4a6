use Rattle.std.proofs.Common.{true, refl, sym, ap, subst}
use Rattle.dg_meaning.specs.inside.Unify.{unify}
use Rattle.dg_unify.specs.Store.{told, Does}
use Rattle.dg_unify.specs.Parts.{values_of}
use Rattle.dg_unify.specs.inside.Turns.{AreLeft}
use Rattle.dg_unify.proofs.KnownLemmas.{left_done}
use Rattle.dg_unify.proofs.Goings.{none_unified}
use Rattle.dg_unify.proofs.unifying.turn.Goals as goal

pub returns-in-Ok-Goes-Nothing-default-clause-met : goal.returns-in-Ok-Goes-Nothing-default-clause-met
returns-in-Ok-Goes-Nothing-default-clause-met g c =
    let old = g.B.Bindings.meaning c.args.store.now in
    let p = c.in-Ok-Goes-Nothing-default.field-0-0 in
    let q = c.in-Ok-Goes-Nothing-default.field-0-1 in
    let h : AreLeft old (g.B.Bindings.meaning c.meet.new.store) c.args.a c.args.b p q = rw c.in-Ok-Goes-Nothing-default.field-0-is at c.in-Ok-Goes-Nothing-default.ensures.met in
    let here : AreLeft old old c.args.a c.args.b p q = subst (λ s. AreLeft old s c.args.a c.args.b p q) h.same h in
    subst (λ s. Does old s (unify old.state.subst (told old c.args.a) (told old c.args.b)) true) (sym h.same)
    (none_unified old (g.met.B.Bindings.sound c.args.store.now) c.args.a c.args.b p q here (ap (values_of old) c.in-Ok-Goes-Nothing-default.field-0-0-is))

pub returns-then-has-clause-met : goal.returns-then-has-clause-met
returns-then-has-clause-met g c =
    let old = g.B.Bindings.meaning c.args.store.now in
    let h : AreLeft old (g.B.Bindings.meaning c.meet.new.store) c.args.a c.args.b c.in-Ok-Goes.p c.in-Ok-Goes.q = rw c.in-Ok-Goes.field-0-is at c.in-Ok-Goes.ensures.met in
    left_done old (g.B.Bindings.meaning c.meet.new.store) (g.met.B.Bindings.sound c.args.store.now) c.args.a c.args.b c.in-Ok-Goes.p c.in-Ok-Goes.q h (c.if-has.ensures old c.requires.known_in c.requires.a_in c.requires.b_in refl)
