use Rattle.std.proofs.Common.{subst}
use Rattle.dg_quiet.specs.inside.Spread.{rows_of, IsNoted}
use Rattle.dg_quiet.proofs.SortLemmas.{looked_in, looked_out}
use Rattle.dg_quiet.proofs.set.Sieve.sort.Goals as goal

pub returns-then-fits : goal.returns-then-fits
returns-then-fits c = λ preds changing pred at ruled is s.
    let rows = rows_of c.args.askers.now.items in
    let new = rows_of c.note_asks.new.askers.items in
    let noted = subst (λ b. IsNoted c.args.rules.now c.args.changes rows c.args.number b new) c.if-fits.true c.in_ok-fits.ensures in
    looked_in preds changing c.args.number pred c.args.rules.now c.args.changes rows new c.args.self.now.set.items c.args.self.now.left.items at ruled is noted s

pub returns : goal.returns
returns c = λ preds changing pred at ruled is s.
    let rows = rows_of c.args.askers.now.items in
    let new = rows_of c.note_asks.new.askers.items in
    let noted = subst (λ b. IsNoted c.args.rules.now c.args.changes rows c.args.number b new) c.if-fits.false c.in_ok-fits.ensures in
    looked_out preds changing c.args.number pred c.args.rules.now c.args.changes rows new c.args.self.now.set.items c.args.self.now.left.items
    c.take_out.new.self.set.items c.take_out.new.self.left.items at ruled is noted c.in_ok-take_out.ensures s
