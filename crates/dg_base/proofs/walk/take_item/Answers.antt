use Rattle.std.proofs.Common.{◌∷◌, [], ℕ, List, sym, ◌∙◌, ap}
use Rattle.dg_base.specs.TreeView.{said_view}
use Rattle.dg_base.specs.Mentions.{topic_line, of_said}
use Rattle.dg_base.specs.Walk.{met, walk}
use Rattle.dg_base.specs.declared.tree.ItemBody.{ItemBody}
use Rattle.dg_base.proofs.WalkLemmas.{put_walk, one}
use Rattle.dg_base.proofs.walk.take_item.Goals as goal

pub returns-in-Topic : goal.returns-in-Topic
returns-in-Topic c = put_walk _ _ (one _) _ c.put_one.ensures (ap (λ (n : List ℕ). met (topic_line n) ∷ []) c.as_slice.ensures ∙ ap (λ (s : ItemBody). walk (of_said (said_view s))) (sym c.in-Topic.is))
