use Rattle.std.proofs.Common.{◌≡◌, ◌+◌, ◌-◌, ◌<◌, ◌++◌, [], arith, ap, sym, get_or, length, length-append, take, drop, ◌∙◌}
use Rattle.std.proofs.lemmas.List.{take_at, drop_at}
use Rattle.dg_world.specs.Lists.{Lists, joined}
use Rattle.dg_world.proofs.ListsLemmas.{parts_at}
use Rattle.dg_world.proofs.area.Area.get.Goals as goal

pub part-requires-clause-within : goal.part-requires-clause-within
part-requires-clause-within c =
    let ls = c.args.self.now.lists in
    let i = c.args.place in
    let lt : i < length ls = omega (arith, c.count.ensures) in
    let p = parts_at c.self.inside.starts.items c.self.inside.cells.items ls i c.self.invariant.0 (ap (λ (v : Lists). v.lists) c.self.view_is) lt in
    let front = joined (take i ls) in
    let behind = get_or ls i [] ++ joined (drop (i + 1) ls) in
    omega (arith, ap length p.row, length-append front behind, length-append (get_or ls i []) (joined (drop (i + 1) ls)), ap length c.deref.ensures.value, c.ends-from.ensures.from, c.ends-from.ensures.to)

pub returns : goal.returns
returns c =
    let ls = c.args.self.now.lists in
    let i = c.args.place in
    let lt : i < length ls = omega (arith, c.count.ensures) in
    let p = parts_at c.self.inside.starts.items c.self.inside.cells.items ls i c.self.invariant.0 (ap (λ (v : Lists). v.lists) c.self.view_is) lt in
    let front = joined (take i ls) in
    let item = get_or ls i [] in
    let back = joined (drop (i + 1) ls) in
    let from = c.ends-from.result.0 in
    let long : length item ≡ c.ends-from.result.1 - from = omega (arith, c.ends-from.ensures.from, c.ends-from.ensures.to) in
    let behind : drop from c.deref.result.now ≡ item ++ back = ap (drop from) (c.deref.ensures.value ∙ p.row) ∙ drop_at front (item ++ back) from (sym c.ends-from.ensures.from) in
    c.part.ensures ∙ ap (take (c.ends-from.result.1 - from)) behind ∙ take_at item back (c.ends-from.result.1 - from) long
