use Rattle.std.proofs.Common.{◌≡◌, ◌+◌, length, ap, ◌∙◌, arith}
use Rattle.dg_world.specs.Lists.{Lists, starts_from}
use Rattle.dg_world.proofs.ListsLemmas.{length-starts}
use Rattle.dg_world.proofs.area.Area.set_to.Goals as goal

pub copy-requires : goal.copy-requires
copy-requires c =
    let mine : length c.self.inside.starts.items ≡ length c.args.self.now.lists + 1 =
    ap length c.self.invariant.0.begin ∙ ap (λ (v : Lists). length (starts_from 0 v.lists)) c.self.view_is ∙ length-starts 0 c.args.self.now.lists in
    let others : length c.other.inside.starts.items ≡ length c.args.other.now.lists + 1 =
    ap length c.other.invariant.0.begin ∙ ap (λ (v : Lists). length (starts_from 0 v.lists)) c.other.view_is ∙ length-starts 0 c.args.other.now.lists in
    omega (arith, mine, others, ap length c.deref-2.ensures.value, ap length c.deref_mut.ensures.value, c.requires.lists)
