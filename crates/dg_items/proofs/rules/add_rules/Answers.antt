use Rattle.std.proofs.Common.{◌≡◌, ◌<◌, ◌*◌, List, ◌++◌, length, map, refl, sym, ◌∙◌, ap, append-nil, subst, ℕ, arith}
use Rattle.std.proofs.lemmas.List.{length-map}
use Rattle.dg_base.specs.Tree as tree
use Rattle.dg_base.specs.Tree.{changes_of}
use Rattle.dg_base.specs.TreeView.{body_view, change_view, head_view, item_view}
use Rattle.dg_base.specs.declared.tree.Body.{Body}
use Rattle.dg_base.specs.declared.tree.Item.{Item}
use Rattle.dg_base.specs.declared.tree.NowChange.{NowChange}
use Rattle.dg_items.specs.Expanded.{signed_rule, head_rules, on_line}
use Rattle.dg_put.specs.Put.{put_body}
use Rattle.dg_put.specs.inside.Putting.{around}
use Rattle.dg_put.specs.inside.Weights.{body_load}
use Rattle.dg_items.proofs.OverLemmas.{over_heads, over_bodies}
use Rattle.dg_items.proofs.RuleLemmas.{one_rule}
use Rattle.dg_put.proofs.WeightLemmas.{some_holds, none_holds}
use Rattle.dg_items.proofs.rules.add_rules.Goals as goal

pub returns-in-None-clause-added : goal.returns-in-None-clause-added
returns-in-None-clause-added c =
    let a = around c.args.uses c.args.at.now in
    let b = (put_body a.at a.place c.args.heads.number (body_view c.args.body.now)).0 in
    let out = map item_view c.loop-turn.out.items in
    λ done. sym (append-nil out)
    ∙ ap (λ (hs : List NowChange). out ++ on_line c.args.line (head_rules (changes_of (map change_view hs)) b)) (sym (c.in-None.ensures.none refl))
    ∙ c.loop-turn.invariant.added

pub returns-then-count-gt-RULES-clause-large : goal.returns-then-count-gt-RULES-clause-large
returns-then-count-gt-RULES-clause-large c =
    let a = around c.args.uses c.args.at.now in
    let heads = map change_view c.args.heads.heads.items in
    λ stopped. over_heads c.args.line heads (put_body a.at a.place c.args.heads.number (body_view c.args.body.now)).0
    (omega (arith, c.if-count-gt-RULES.true, c.len-count.ensures, length-map c.args.heads.heads.items change_view))

pub returns-in-None-2-clause-large : goal.returns-in-None-2-clause-large
returns-in-None-2-clause-large c =
    let a = around c.args.uses c.args.at.now in
    let b = (put_body a.at a.place c.args.heads.number (body_view c.args.body.now)).0 in
    let heavy = none_holds (2500000 < c.len-count.result * body_load b) c.in_ok-body-in-Some.field-0 c.in-None-2.is c.in_ok-body-in-Some.ensures.large in
    let heads = map change_view c.args.heads.heads.items in
    let many : c.len-count.result ≡ length heads = omega (arith, c.len-count.ensures, length-map c.args.heads.heads.items change_view) in
    λ stopped. over_bodies c.args.line heads b (subst (λ (k : ℕ). 2500000 < k * body_load b) many heavy)

pub loop-turn-preserved : goal.loop-turn-preserved
loop-turn-preserved c =
    let a = around c.args.uses c.args.at.now in
    let b = (put_body a.at a.place c.args.heads.number (body_view c.args.body.now)).0 in
    let others = on_line c.args.line (head_rules (changes_of (map change_view c.take_first.new.heads.items)) b) in
    let head = c.in-Some.head in
    let body = some_holds (λ (x : Body). body_view x ≡ b) c.in_ok-body-in-Some.field-0 c.in-Some-2.body c.in-Some-2.is c.in_ok-body-in-Some.ensures.body in
    record {
      added =
          ap (λ (l : List Item). map item_view l ++ others) c.in_ok-push-in-Some-2.ensures.items
          ∙ one_rule c.loop-turn.out.items _ head c.take_first.new.heads.items c.args.line b (ap (λ (s : tree.Said). record { line = c.args.line; said = s }) (c.signed.ensures ∙ ap (signed_rule head.set (head_view head.head)) body))
          ∙ ap (λ (hs : List NowChange). map item_view c.loop-turn.out.items ++ on_line c.args.line (head_rules (changes_of (map change_view hs)) b)) (sym c.in-Some.ensures.first)
          ∙ c.loop-turn.invariant.added;
      few = omega (arith, c.loop-turn.invariant.few, ap length c.in-Some.ensures.first);
    }
