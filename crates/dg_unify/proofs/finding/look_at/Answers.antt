use Rattle.std.proofs.Common.{refl, sym, ap, ◌∙◌}
use Rattle.dg_unify.proofs.StoreLemmas.{walked_to}
use Rattle.dg_unify.proofs.PartsLemmas.{shown_var}
use Rattle.dg_unify.proofs.FindLemmas.{sought_var, finds_in, opened_finds, shown_opened}
use Rattle.dg_unify.proofs.finding.look_at.Goals as goal

pub returns-then-is_clear : goal.returns-then-is_clear
returns-then-is_clear g c = λ o hx. sym (c.if-is_clear.ensures o hx refl)

pub returns-in-Some : goal.returns-in-Some
returns-in-Some g c = λ o hx.
    let s = g.B.Bindings.meaning c.args.store.now in
    let shows = shown_var s (walked_to s c.args.at) c.walk-view.result c.in-Some.y c.in-Some.ensures c.walk-view.ensures in
    c.is_sought.ensures ∙ sought_var s (g.met.B.Bindings.sound c.args.store.now) (g.met.B.Bindings.younger c.args.store.now) c.args.x o c.args.at c.in-Some.y hx shows

pub returns-in-Nothing : goal.returns-in-Nothing
returns-in-Nothing g c = λ o hx.
    let s = g.B.Bindings.meaning c.args.store.now in
    let opened = shown_opened s c.args.at c.walk-view.result c.inner.result c.in-None.ensures c.walk-view.ensures c.inner.ensures in
    sym (opened_finds s (g.met.B.Bindings.sound c.args.store.now) c.args.x c.args.at o c.args.at c.inner.result opened ∙ ap (finds_in s o) c.in-Nothing.is)

pub returns-in_default : goal.returns-in_default
returns-in_default g c = λ o hx.
    let s = g.B.Bindings.meaning c.args.store.now in
    shown_opened s c.args.at c.walk-view.result c.inner.result c.in-None.ensures c.walk-view.ensures c.inner.ensures
