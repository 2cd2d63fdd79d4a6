use Rattle.std.proofs.Common.{◌≡◌, ◌-◌, [], arith, ap, get_or, length, ◌∙◌}
use Rattle.std.proofs.Math.ListN.{set}
use Rattle.dg_world.specs.Lists.{Lists, joined, starts_from}
use Rattle.dg_world.proofs.ListsLemmas.{parts_at, row_length, may_move, moved_starts, moved_row, is_cut, cut_is, changed_length}
use Rattle.dg_world.proofs.area.Area.replace.Goals as goal

pub splice-requires-clause-within : goal.splice-requires-clause-within
splice-requires-clause-within c =
    let p = parts_at c.self.inside.starts.items c.self.inside.cells.items c.args.self.now.lists c.args.index c.self.invariant.0 (ap (λ (v : Lists). v.lists) c.self.view_is) c.requires.index in
    omega (arith, row_length _ _ _ _ p, c.ends-from.ensures.from, c.ends-from.ensures.to)

pub shift_behind-requires-clause-index : goal.shift_behind-requires-clause-index
shift_behind-requires-clause-index c =
    let p = parts_at c.self.inside.starts.items c.self.inside.cells.items c.args.self.now.lists c.args.index c.self.invariant.0 (ap (λ (v : Lists). v.lists) c.self.view_is) c.requires.index in
    omega (arith, p.count, c.requires.index)

pub shift_behind-requires-clause-fits : goal.shift_behind-requires-clause-fits
shift_behind-requires-clause-fits c =
    let p = parts_at c.self.inside.starts.items c.self.inside.cells.items c.args.self.now.lists c.args.index c.self.invariant.0 (ap (λ (v : Lists). v.lists) c.self.view_is) c.requires.index in
    let gone : c.ends-from.result.1 - c.ends-from.result.0 ≡ length (get_or c.args.self.now.lists c.args.index []) = omega (arith, c.ends-from.ensures.from, c.ends-from.ensures.to) in
    may_move c.self.inside.starts.items c.self.inside.cells.items c.args.self.now.lists c.args.index _ (length c.args.cells.now) _ p gone (omega (arith, gone, ap length (c.self.invariant.0.row ∙ ap joined (ap (λ (v : Lists). v.lists) c.self.view_is)), ap (λ (v : Lists). v.keep) c.self.view_is, c.requires.room))

pub invariant_of-self : goal.invariant_of-self
invariant_of-self c =
    let ls = c.args.self.now.lists in
    let l = c.args.cells.now in
    let p = parts_at c.self.inside.starts.items c.self.inside.cells.items ls c.args.index c.self.invariant.0 (ap (λ (v : Lists). v.lists) c.self.view_is) c.requires.index in
    let gone : c.ends-from.result.1 - c.ends-from.result.0 ≡ length (get_or ls c.args.index []) = omega (arith, c.ends-from.ensures.from, c.ends-from.ensures.to) in
    let starts : c.shift_behind.new.starts.items ≡ starts_from 0 (set ls c.args.index l) = c.shift_behind.ensures ∙ moved_starts _ _ ls c.args.index _ l p gone in
    let cells : c.splice.new.row.items ≡ joined (set ls c.args.index l) = c.splice.ensures.items ∙ moved_row _ _ ls c.args.index _ _ l p c.ends-from.ensures.from gone in (
      is_cut _ _ (set ls c.args.index l) starts cells,
      omega (arith, gone, changed_length ls c.args.index l (p.others l), ap length cells, ap length (c.self.invariant.0.row ∙ ap joined (ap (λ (v : Lists). v.lists) c.self.view_is)), row_length _ _ _ _ p, ap (λ (v : Lists). v.keep) c.self.view_is, c.requires.room),
      omega (arith, c.splice.ensures.room, c.self.invariant.2),
    )

pub returns : goal.returns
returns c =
    let ls = c.args.self.now.lists in
    let l = c.args.cells.now in
    let p = parts_at c.self.inside.starts.items c.self.inside.cells.items ls c.args.index c.self.invariant.0 (ap (λ (v : Lists). v.lists) c.self.view_is) c.requires.index in
    let gone : c.ends-from.result.1 - c.ends-from.result.0 ≡ length (get_or ls c.args.index []) = omega (arith, c.ends-from.ensures.from, c.ends-from.ensures.to) in
    let starts : c.shift_behind.new.starts.items ≡ starts_from 0 (set ls c.args.index l) = c.shift_behind.ensures ∙ moved_starts _ _ ls c.args.index _ l p gone in
    let cells : c.splice.new.row.items ≡ joined (set ls c.args.index l) = c.splice.ensures.items ∙ moved_row _ _ ls c.args.index _ _ l p c.ends-from.ensures.from gone in
    ap (λ x. record { lists = x; keep = c.self.inside.keep }) (cut_is _ _ (set ls c.args.index l) starts cells) ∙ ap (λ k. record { lists = set ls c.args.index l; keep = k }) (ap (λ (v : Lists). v.keep) c.self.view_is)
