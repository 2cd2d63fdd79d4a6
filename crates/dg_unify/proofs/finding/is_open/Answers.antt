use Rattle.std.proofs.Common.{◌≡◌, [], refl, sym, subst, length, append-nil, None}
use Rattle.dg_unify.specs.Waits.{HasRoom}
use Rattle.dg_unify.specs.Finds.{finds_at}
use Rattle.dg_unify.proofs.Rooms.{room_for_all}
use Rattle.dg_unify.proofs.finding.is_open.Goals as goal

pub finds-requires-clause-x_in : goal.finds-requires-clause-x_in
finds-requires-clause-x_in g c = (None, tt)

pub finds-requires-clause-room : goal.finds-requires-clause-room
finds-requires-clause-room g c =
    let now = g.B.Bindings.meaning c.forget.new.self in
    let ws = g.B.Bindings.waits c.args.store.now in
    let none : g.B.Bindings.waits c.forget.new.self ≡ [] = c.forget.ensures.waits ws [] (sym (append-nil ws)) refl in
    subst (λ l. HasRoom now (length l) c.args.at) (sym none) (room_for_all now c.args.at)

pub returns-clause-found : goal.returns-clause-found
returns-clause-found g c = subst (λ s. c.finds.result ≡ finds_at s None c.args.at) c.forget.ensures.same (c.finds.ensures.found None tt)
