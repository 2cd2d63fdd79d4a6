use Rattle.std.proofs.Common.{◌≡◌, ◌+◌, ◌-◌, ◌∙◌, ap, arith, length, drop, length-drop}
use Rattle.dg_lists.specs.Gathered.{Gathered}
use Rattle.dg_lists.proofs.Stacks.{drop_one}
use Rattle.dg_lists.proofs.gather.Gather.drop_to.Goals as goal

pub drop_newest-requires : goal.drop_newest-requires
drop_newest-requires c = omega (arith, c.height.ensures, c.newest-test.true)

pub newest-smaller : goal.newest-smaller
newest-smaller c = omega (arith, c.height.ensures, c.newest-test.true, ap (λ (g : Gathered). length g.rows) c.drop_newest.ensures, length-drop 1 c.newest.self.rows)

pub newest-preserved : goal.newest-preserved
newest-preserved c =
    let rows = c.args.self.now.rows in
    let fewer = ap (λ (g : Gathered). length g.rows) c.drop_newest.ensures ∙ length-drop 1 c.newest.self.rows in
    let one : length rows - length c.newest.self.rows + 1 ≡ length rows - length c.drop_newest.new.self.rows = omega (arith, fewer, c.height.ensures, c.newest-test.true, c.newest.invariant.most) in
    record {
      least = omega (arith, fewer, c.height.ensures, c.newest-test.true);
      most = omega (arith, fewer, c.newest.invariant.most);
      kept = c.drop_newest.ensures ∙ ap (λ (g : Gathered). record g { rows = drop 1 g.rows }) c.newest.invariant.kept ∙ ap (λ l. record c.args.self.now { rows = l }) (drop_one (length rows - length c.newest.self.rows) rows ∙ ap (λ n. drop n rows) one);
    }

pub returns : goal.returns
returns c =
    let same : length c.args.self.now.rows - length c.newest.self.rows ≡ length c.args.self.now.rows - c.args.mark.0 = omega (arith, c.height.ensures, c.newest-test.false, c.newest.invariant.least) in
    c.newest.invariant.kept ∙ ap (λ n. record c.args.self.now { rows = drop n c.args.self.now.rows }) same
