use Rattle.std.proofs.Common.{◌≡◌, ◌-◌, take, length, ◌∙◌, ap, arith, rules}
use Rattle.dg_world.proofs.ListsLemmas.{spliced}
use Rattle.dg_world.proofs.area.splice.Goals as goal

pub returns-clause-items : goal.returns-clause-items
returns-clause-items c =
    let moved = c.move_to_end.new.row.items in
    let left : c.len.result - c.args.gone ≡ length c.args.row.now.items - c.args.gone = omega (arith, c.len.ensures, c.move_to_end.new.row.ok.0, c.move_to_end.ensures.len) in
    spliced c.args.row.now.items moved c.truncate.new.self.items c.extend_from_slice.new.self.items c.move_from_end.new.row.items c.args.cells.now c.args.from c.args.gone c.requires.within
    c.move_to_end.ensures.items (c.truncate.ensures.items ∙ ap (λ n. take n moved) left) (search rules) c.move_from_end.ensures.items
