use Rattle.std.proofs.Common.{◌∙◌, ap, sym, length}
use Rattle.dg_lists.specs.Gathered.{Gathered}
use Rattle.dg_lists.proofs.Stacks.{length-rows}
use Rattle.dg_lists.proofs.gather.Gather.height.Goals as goal

pub returns : goal.returns
returns c =
    c.len.ensures ∙ c.self.inside.starts.ok.0 ∙ sym (length-rows c.self.inside.starts.items c.self.inside.cells.items) ∙ ap (λ (g : Gathered). length g.rows) c.self.view_is
