use Rattle.std.proofs.Common.{◌≡◌, ◌≤◌, ◌-◌, false, length, drop, map}
use Rattle.dg_base.specs.TreeView.{item_view}
use Rattle.dg_lex.specs.Tokens.{seen}
use Rattle.dg_reader.specs.Read.{behind_topic, ReadTo}
use Rattle.dg_reader.proofs.source.read.Given as goal

abbrev pub invariant-loop-at : goal.invariant-loop-at
invariant-loop-at l = record {
  so_far : ReadTo false (map seen l.tokens) (map item_view l.tree.items) (map seen (drop l.at l.tokens));
  topics : l.topic ≡ behind_topic false (map item_view l.tree.items);
  within : l.at ≤ length l.tokens;
}

abbrev pub decreases-loop-at : goal.decreases-loop-at
decreases-loop-at l = length l.tokens - l.at
