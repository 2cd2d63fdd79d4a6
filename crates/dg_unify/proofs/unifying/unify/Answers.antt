use Rattle.std.proofs.Common.{◌≡◌, ◌∙◌, [], refl, sym, subst, length, append-nil}
use Rattle.dg_meaning.specs.Unify.{solve}
use Rattle.dg_meaning.specs.inside.Unify.{unify}
use Rattle.dg_unify.specs.Store.{told, Follows, BrokeOff}
use Rattle.dg_unify.specs.inside.Turns.{AreLeft}
use Rattle.dg_unify.specs.Parts.{IsOpened}
use Rattle.dg_unify.specs.Waits.{HasRoom}
use Rattle.dg_unify.proofs.Rooms.{room_for_all}
use Rattle.dg_unify.proofs.Goings.{equations, stays_broke, unify_goes}
use Rattle.dg_unify.proofs.unifying.unify.Goals as goal

pub meet-requires-clause-a_room : goal.meet-requires-clause-a_room
meet-requires-clause-a_room g c =
    let now = g.B.Bindings.meaning c.forget.new.self in
    let ws = g.B.Bindings.waits c.args.store.now in
    let none : g.B.Bindings.waits c.forget.new.self ≡ [] = c.forget.ensures.waits ws [] (sym (append-nil ws)) refl in
    subst (λ l. HasRoom now (length l) c.args.a) (sym none) (room_for_all now c.args.a)

pub meet-requires-clause-b_room : goal.meet-requires-clause-b_room
meet-requires-clause-b_room g c =
    let now = g.B.Bindings.meaning c.forget.new.self in
    let ws = g.B.Bindings.waits c.args.store.now in
    let none : g.B.Bindings.waits c.forget.new.self ≡ [] = c.forget.ensures.waits ws [] (sym (append-nil ws)) refl in
    subst (λ l. HasRoom now (length l) c.args.b) (sym none) (room_for_all now c.args.b)

pub solve-requires-clause-none_waits : goal.solve-requires-clause-none_waits
solve-requires-clause-none_waits g c =
    let ws = g.B.Bindings.waits c.args.store.now in
    c.meet.ensures.waits ∙ c.forget.ensures.waits ws [] (sym (append-nil ws)) refl

pub solve-requires-clause-left : goal.solve-requires-clause-left
solve-requires-clause-left g c =
    let now = g.B.Bindings.meaning c.forget.new.self in
    let new = g.B.Bindings.meaning c.meet.new.store in
    let met : AreLeft now new c.args.a c.args.b c.in-Ok-Goes.p c.in-Ok-Goes.q = rw c.in-Ok-Goes.field-0-is at c.in-Ok-Goes.ensures.met in
    subst (λ s. IsOpened s c.args.a c.in-Ok-Goes.p) (sym met.same) met.left

pub solve-requires-clause-right : goal.solve-requires-clause-right
solve-requires-clause-right g c =
    let now = g.B.Bindings.meaning c.forget.new.self in
    let new = g.B.Bindings.meaning c.meet.new.store in
    let met : AreLeft now new c.args.a c.args.b c.in-Ok-Goes.p c.in-Ok-Goes.q = rw c.in-Ok-Goes.field-0-is at c.in-Ok-Goes.ensures.met in
    subst (λ s. IsOpened s c.args.b c.in-Ok-Goes.q) (sym met.same) met.right

pub returns-in-Err-clause-unified : goal.returns-in-Err-clause-unified
returns-in-Err-clause-unified g c =
    let now = g.B.Bindings.meaning c.forget.new.self in
    let new = g.B.Bindings.meaning c.meet.new.store in
    subst (λ s. BrokeOff s new (unify s.state.subst (told s c.args.a) (told s c.args.b)) c.in-Err.e) c.forget.ensures.same
    (stays_broke now new (told now c.args.a) (told now c.args.b) (g.met.B.Bindings.sound c.forget.new.self) c.in-Err.e c.in-Err.ensures.met)

pub returns-in-Ok-Goes-clause-unified : goal.returns-in-Ok-Goes-clause-unified
returns-in-Ok-Goes-clause-unified g c =
    let now = g.B.Bindings.meaning c.forget.new.self in
    let between = g.B.Bindings.meaning c.meet.new.store in
    let new = g.B.Bindings.meaning c.solve.new.store in
    let p = c.in-Ok-Goes.p in
    let q = c.in-Ok-Goes.q in
    let met : AreLeft now between c.args.a c.args.b p q = rw c.in-Ok-Goes.field-0-is at c.in-Ok-Goes.ensures.met in
    let here : AreLeft now now c.args.a c.args.b p q = subst (λ s. AreLeft now s c.args.a c.args.b p q) met.same met in
    let parts = subst (λ s. Follows s new (solve s.state.subst (equations s p q)) c.solve.result) met.same c.solve.ensures.follows in
    subst (λ s. Follows s new (unify s.state.subst (told s c.args.a) (told s c.args.b)) c.solve.result) c.forget.ensures.same
    (unify_goes now new (g.met.B.Bindings.sound c.forget.new.self) c.args.a c.args.b p q here c.solve.result parts)
