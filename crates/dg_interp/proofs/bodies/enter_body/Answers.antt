use Rattle.std.proofs.Common.{rules, ◌≡◌, ap, ◌∙◌, ◌-◌, List, length}
use Rattle.std.specs.Prelude.{take, drop}
use Rattle.dg_meaning.specs.Copies.{values_of}
use Rattle.dg_unify.specs.declared.bindings.Ref.{Ref}
use Rattle.dg_interp.proofs.BodyLemmas.{body_does, closure_kept}
use Rattle.dg_interp.proofs.bodies.enter_body.Goals as goal

pub returns-clause-entered : goal.returns-clause-entered
returns-clause-entered g c = λ place parts is.
    let s = g.B.Bindings.meaning c.args.store.now in
    let s1 = g.B.Bindings.meaning c.charge.new.self in
    let behind = c.new_variables.new.to.items in
    let from : c.len-from.result ≡ length c.put_captured.new.to.items = search rules in
    body_does (values_of parts) c.args.own c.args.args.now c.args.refs.now.items c.put_captured.new.to.items c.new_variables.new.to.items _ s s1 (g.B.Bindings.meaning c.new_variables.new.store) c.requires.few c.requires.own c.requires.args
    c.in_ok-charge.ensures.made c.charge.ensures.kept (c.in_ok-put_captured.ensures.appended place parts (closure_kept s s1 c.args.closure place parts c.charge.ensures.kept is)) c.in_ok-new_variables.ensures.made c.new_variables.ensures.kept
    (ap (λ (l : List Ref). take (length l - c.len-from.result) (drop c.len-from.result l)) c.deref.ensures.value ∙ ap (λ k. take (length behind - k) (drop k behind)) from)
    (g.B.Bindings.meaning c.unify_all.new.store) c.unify_all.result c.unify_all.ensures.kept c.unify_all.ensures.unified
