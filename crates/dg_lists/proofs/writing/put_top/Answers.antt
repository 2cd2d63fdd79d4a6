use Rattle.std.proofs.Common.{subst, sym}
use Rattle.dg_unify.proofs.StoreLemmas.{walked_to}
use Rattle.dg_lists.specs.Writing.{PutsTop}
use Rattle.dg_lists.proofs.WriteLemmas.{top_fails, top_put}
use Rattle.dg_lists.proofs.writing.put_top.Goals as goal

pub returns-in_err-filled : goal.returns-in_err-filled
returns-in_err-filled g c =
    let s = g.B.Bindings.meaning c.args.store.now in
    subst (PutsTop s c.args.value c.args.row.now c.args.filled c.put_label.new.row) (sym c.from_residual.ensures)
    (top_fails s (g.met.B.Bindings.sound c.args.store.now) c.args.value c.walk-view.result c.args.row.now c.put_label.new.row c.args.filled c.walk-view.ensures (c.in_err-filled.ensures (walked_to s c.args.value) c.walk-view.ensures))

pub returns : goal.returns
returns g c =
    let s = g.B.Bindings.meaning c.args.store.now in
    let w = walked_to s c.args.value in
    top_put s (g.met.B.Bindings.sound c.args.store.now) c.args.value c.walk-view.result c.args.row.now c.put_label.new.row c.args.filled c.in_ok-filled.filled c.inner.result c.walk-view.ensures (c.in_ok-filled.ensures w c.walk-view.ensures) (c.inner.ensures s w c.walk-view.ensures)
