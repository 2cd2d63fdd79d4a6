use Rattle.std.proofs.Common.{◌≡◌, ◌≤◌, ◌++◌, length, map}
use Rattle.dg_base.specs.Tree.{changes_of}
use Rattle.dg_base.specs.TreeView.{body_view, change_view, item_view}
use Rattle.dg_items.specs.Expanded as spec
use Rattle.dg_put.specs.Put.{put_body}
use Rattle.dg_put.specs.inside.Putting.{around}
use Rattle.dg_items.proofs.rules.add_rules.Given as goal

abbrev pub invariant-loop-turn : goal.invariant-loop-turn
invariant-loop-turn l = record {
  added : map item_view l.out.items ++ spec.on_line l.line (spec.head_rules (changes_of (map change_view l.heads.items)) (put_body (around l.uses l.at).at (around l.uses l.at).place l.number (body_view l.body)).0)
      ≡ map item_view l.initial.out.items ++ spec.on_line l.line (spec.head_rules (changes_of (map change_view l.initial.heads.items)) (put_body (around l.uses l.at).at (around l.uses l.at).place l.number (body_view l.body)).0);
  few : length l.heads.items ≤ l.count;
}
