-- Rules that are made one by one.
use Rattle.std.proofs.Common.{◌≡◌, ℕ, List, [], ◌∷◌, ◌++◌, Bool, map, sym, ◌∙◌, ap, append_assoc}
use Rattle.std.proofs.lemmas.List.{map-append}
use Rattle.dg_base.specs.Tree as tree
use Rattle.dg_base.specs.Tree.{Parts, changes_of}
use Rattle.dg_base.specs.TreeView.{change_view, head_view, item_view}
use Rattle.dg_base.specs.declared.tree.Item.{Item}
use Rattle.dg_base.specs.declared.tree.NowChange.{NowChange}
use Rattle.dg_base.proofs.Views.{change_seen}
use Rattle.dg_items.specs.Expanded.{signed_rule, head_rules, on_line}

pub one_rule : (out : List Item) (item : Item) (head : NowChange) (heads : List NowChange) (line : ℕ) (b : tree.Body) → item_view item ≡ record { line = line; said = signed_rule head.set (head_view head.head) b } → map item_view (out ++ item ∷ []) ++ on_line line (head_rules (changes_of (map change_view heads)) b) ≡ map item_view out ++ on_line line (head_rules (changes_of (map change_view (head ∷ heads))) b)
one_rule out item head heads line b is =
    let others = on_line line (head_rules (changes_of (map change_view heads)) b) in
    ap (λ (l : List tree.Item). l ++ others) (map-append item_view out (item ∷ []))
    ∙ append_assoc (map item_view out) (item_view item ∷ []) others
    ∙ ap (λ (i : tree.Item). map item_view out ++ (i ∷ others)) is
    ∙ ap (λ (c : Parts × Bool). map item_view out ++ on_line line (head_rules (changes_of (c ∷ map change_view heads)) b)) (sym (change_seen head))
