use Rattle.std.proofs.Common.{sym, subst}
use Rattle.dg_meaning.specs.Sets.{is_in_set}
use Rattle.dg_quiet.specs.inside.Spread.{rows_of, IsSpread}
use Rattle.dg_quiet.proofs.SpreadLemmas.{spread_whole}
use Rattle.dg_quiet.proofs.SortLemmas.{sorted_none, sorted_all}
use Rattle.dg_quiet.proofs.set.quiet_preds.Goals as goal

pub returns : goal.returns
returns c =
    let preds = c.args.preds.now in
    let changing = is_in_set c.args.changing.now in
    let bare = rows_of c.in_ok-askers.askers.items in
    let all = c.in_ok-sieve.sieve in
    let start = sorted_none preds changing bare all.set.items all.left.items c.in_ok-askers.ensures c.in_ok-sieve.ensures.0 c.in_ok-sieve.ensures.1 in
    let askers = c.sort_all.new.askers.items in
    let set = c.sort_all.new.self.set.items in
    let left = c.sort_all.new.self.left.items in
    let spread = sorted_all preds changing (rows_of askers) set left (c.in_ok-sort_all.ensures start) in
    let lent = subst (λ l. IsSpread preds changing (rows_of l) set left) (sym c.as_slice.ensures.value) spread in
    spread_whole preds changing (rows_of c.as_slice.result.now) c.follow.new.self.set.items (c.in_ok-follow.ensures preds changing lent)
