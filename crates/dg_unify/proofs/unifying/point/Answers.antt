use Rattle.std.proofs.Common.{◌≡◌, sym, subst, Some, Ok, false}
use Rattle.dg_meaning.specs.Values.{Var}
use Rattle.dg_meaning.specs.Substitutions.{walk}
use Rattle.dg_meaning.specs.Unify.{Binds, binds}
use Rattle.dg_unify.specs.Store.{told, MayBind}
use Rattle.dg_unify.specs.inside.Turns.{FollowsTurn}
use Rattle.dg_unify.proofs.Meets.{point_clash, point_binds, point_follows}
use Rattle.dg_unify.proofs.unifying.point.Goals as goal

pub returns-then-stands_in-clause-follows : goal.returns-then-stands_in-clause-follows
returns-then-stands_in-clause-follows g c = λ n hx.
    let s = g.B.Bindings.meaning c.args.store.now in
    subst (λ t. FollowsTurn s t (binds s.state.subst n (walk s.state.subst (told s c.args.to))) (Ok false)) (sym c.if-stands_in.ensures.same)
    (point_clash s (g.met.B.Bindings.sound c.args.store.now) n (told s c.args.to) (c.if-stands_in.ensures.found n hx))

pub link-requires : goal.link-requires
link-requires g c =
    subst (λ t. MayBind t c.args.x c.args.to) (sym c.if-stands_in.ensures.same)
    (point_binds (g.B.Bindings.meaning c.args.store.now) c.args.x c.args.to c.requires.x_in c.requires.to_in (c.if-stands_in.ensures.found c.requires.x_in.number c.requires.x_in.value))

pub returns-clause-follows : goal.returns-clause-follows
returns-clause-follows g c = λ n hx.
    let s = g.B.Bindings.meaning c.args.store.now in
    let new = g.B.Bindings.meaning c.link.new.store in
    let same = c.if-stands_in.ensures.same in
    let linked = c.link.ensures.follows n (subst (λ t. t.value c.args.x ≡ Some (Var n)) (sym same) hx) in
    point_follows s new (g.met.B.Bindings.sound c.args.store.now) n (told s c.args.to) (c.if-stands_in.ensures.found n hx) c.link.result
    (subst (λ t. FollowsTurn t new (Binds n (walk t.state.subst (told t c.args.to))) c.link.result) same linked)
