use Rattle.std.proofs.Common.{ℕ, ◌+◌, arith, ap, get_or, length, ◌∙◌}
use Rattle.dg_world.specs.Lists.{Lists}
use Rattle.dg_world.proofs.ListsLemmas.{parts_at}
use Rattle.dg_world.proofs.area.Area.ends.Goals as goal

pub two_at-requires : goal.two_at-requires
two_at-requires c =
    let p = parts_at c.self.inside.starts.items c.self.inside.cells.items c.args.self.now.lists c.args.index c.self.invariant.0 (ap (λ (v : Lists). v.lists) c.self.view_is) c.requires in
    omega (arith, p.count, ap length c.deref.ensures.value, c.requires)

pub returns-clause-from : goal.returns-clause-from
returns-clause-from c =
    let p = parts_at c.self.inside.starts.items c.self.inside.cells.items c.args.self.now.lists c.args.index c.self.invariant.0 (ap (λ (v : Lists). v.lists) c.self.view_is) c.requires in
    ap (λ (x : ℕ × ℕ). x.0) c.two_at.ensures ∙ ap (λ s. get_or s c.args.index 0) c.deref.ensures.value ∙ p.from

pub returns-clause-to : goal.returns-clause-to
returns-clause-to c =
    let p = parts_at c.self.inside.starts.items c.self.inside.cells.items c.args.self.now.lists c.args.index c.self.invariant.0 (ap (λ (v : Lists). v.lists) c.self.view_is) c.requires in
    ap (λ (x : ℕ × ℕ). x.1) c.two_at.ensures ∙ ap (λ s. get_or s (c.args.index + 1) 0) c.deref.ensures.value ∙ p.to
