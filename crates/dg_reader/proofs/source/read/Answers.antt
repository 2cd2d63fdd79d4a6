use Rattle.std.proofs.Common.{◌+◌, ◌∷◌, ◌||◌, Bool, List, [], false, drop, map, subst, sym, ◌∙◌, ap, arith}
use Rattle.std.proofs.lemmas.List.{map-append, length-take, length-drop}
use Rattle.dg_base.specs.Tree.{Item}
use Rattle.dg_base.specs.TreeView.{item_view}
use Rattle.dg_lex.specs.Tokens.{seen}
use Rattle.dg_reader.specs.Read.{is_topic, behind_topic, ReadTo}
use Rattle.dg_reader.proofs.ItemLemmas.{alone_here, behind_topic-push, read_on, read_stops}
use Rattle.dg_reader.proofs.source.read.Goals as goal

pub item_of-requires-clause-some : goal.item_of-requires-clause-some
item_of-requires-clause-some c = grind (arith, length-take, length-drop)

pub item_of-requires-clause-alone : goal.item_of-requires-clause-alone
item_of-requires-clause-alone c = alone_here c.args.tokens.now c.loop-at.at c.behind-count.result c.behind-count.ensures.alone

pub returns-in-Err-clause-refused : goal.returns-in-Err-clause-refused
returns-in-Err-clause-refused c =
    read_stops c.loop-at.topic c.args.tokens.now (map item_view c.loop-at.tree.items) c.loop-at.at c.behind-count.result c.in-Err.fault c.loop-at.invariant.topics c.loop-at.invariant.so_far c.in-Err.ensures.refused c.behind-count.ensures.alone c.behind-count.ensures.ends

pub loop-at-smaller : goal.loop-at-smaller
loop-at-smaller c = grind (arith, length-drop)

pub loop-at-preserved : goal.loop-at-preserved
loop-at-preserved c =
    let pushed = ap (map item_view) c.in_ok-push-in-Ok.ensures.ok ∙ map-append item_view c.loop-at.tree.items (c.in-Ok.item ∷ []) in
    record {
      so_far = subst (λ (l : List Item). ReadTo false (map seen c.args.tokens.now) l (map seen (drop (c.loop-at.at + (c.behind-count.result + 1)) c.args.tokens.now))) (sym pushed)
          (read_on c.loop-at.topic c.args.tokens.now (map item_view c.loop-at.tree.items) c.loop-at.at c.behind-count.result (item_view c.in-Ok.item) c.loop-at.invariant.topics c.loop-at.invariant.so_far c.in-Ok.ensures.item c.behind-count.ensures.ends);
      topics = ap (λ (b : Bool). c.loop-at.topic || b) c.is_topic-topic.ensures ∙ ap (λ (b : Bool). b || is_topic (item_view c.in-Ok.item).said) c.loop-at.invariant.topics ∙ sym (behind_topic-push false (map item_view c.loop-at.tree.items) (item_view c.in-Ok.item)) ∙ ap (behind_topic false) (sym pushed);
      within = grind (arith, length-drop);
    }
