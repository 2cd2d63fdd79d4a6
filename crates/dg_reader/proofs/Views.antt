-- Branches are seen one by one, and keywords wait in order.
use Rattle.std.proofs.Common.{◌≡◌, ℕ, Bool, List, [], ◌∷◌, ◌++◌, map, refl, sym, ◌∙◌, ap}
use Rattle.std.proofs.lemmas.List.{map-append}
use Rattle.dg_reader.specs.inside.Machine as machine
use Rattle.dg_open.specs.inside.Standing as standing
use Rattle.dg_open.specs.inside.Views.{wrapper_view}
use Rattle.dg_open.specs.declared.frames.Wrapper.{Wrapper}
use Rattle.dg_base.specs.Tree as tree
use Rattle.dg_base.specs.TreeView.{part_view, value_view, head_view, part_step, stmt_step, value_step, arm_step, body_step, head_step, change_step}
use Rattle.dg_base.specs.declared.tree.Head.{Head, fold-roll-Head}
use Rattle.dg_base.specs.declared.tree.Part.{fold-roll-Part}
use Rattle.dg_base.specs.declared.tree.Part.TheVariants as code_part
use Rattle.dg_base.specs.declared.tree.Part.TheOpen.{Part-F, Value-F}
use Rattle.dg_base.specs.declared.tree.Value.{Value, fold-roll-Value}
use Rattle.dg_base.specs.declared.tree.Value.TheVariants as code_value

-- The last keyword that waits is put round a statement first.
pub wrapped-last : (ws : List standing.Wrapper) (w : standing.Wrapper) (s : tree.Stmt) → machine.wrapped (ws ++ w ∷ []) s ≡ machine.wrapped ws (machine.wrap w s)
wrapped-last [] w s = refl
wrapped-last (x ∷ ws) w s = ap (machine.wrap x) (wrapped-last ws w s)

pub wrapped_from : (xs ys : List Wrapper) (w : Wrapper) (s : tree.Stmt) → xs ≡ ys ++ w ∷ [] → machine.wrapped (map wrapper_view ys) (machine.wrap (wrapper_view w) s) ≡ machine.wrapped (map wrapper_view xs) s
wrapped_from xs ys w s e =
    sym (wrapped-last (map wrapper_view ys) (wrapper_view w) s)
    ∙ ap (λ (l : List standing.Wrapper). machine.wrapped l s) (sym (map-append wrapper_view ys (w ∷ [])))
    ∙ ap (λ (l : List Wrapper). machine.wrapped (map wrapper_view l) s) (sym e)

-- What the tree has for a word, for a value among parts, for a head, and for the topic.
pub word_seen : (w : List ℕ) → part_view (code_part.Word w) ≡ tree.part_word w
word_seen w = ap part_view (sym (code_part.rolls-Word w)) ∙ fold-roll-Part tree.Part tree.Stmt tree.Value (tree.Body × tree.Body) tree.Body tree.Parts (tree.Parts × Bool) part_step stmt_step value_step arm_step body_step head_step change_step (Part-F.Part::Word w)

pub value_seen : (v : Value) → part_view (code_part.Value v) ≡ tree.part_value (value_view v)
value_seen v = ap part_view (sym (code_part.rolls-Value v)) ∙ fold-roll-Part tree.Part tree.Stmt tree.Value (tree.Body × tree.Body) tree.Body tree.Parts (tree.Parts × Bool) part_step stmt_step value_step arm_step body_step head_step change_step (Part-F.Value v)

pub head_seen : (h : Head) → head_view h ≡ tree.parts_of (map part_view h.parts)
head_seen h = fold-roll-Head tree.Part tree.Stmt tree.Value (tree.Body × tree.Body) tree.Body tree.Parts (tree.Parts × Bool) part_step stmt_step value_step arm_step body_step head_step change_step (record { parts = h.parts })

pub topic_seen : value_view code_value.Topic ≡ tree.current_topic
topic_seen = ap value_view (sym code_value.rolls-Topic) ∙ fold-roll-Value tree.Part tree.Stmt tree.Value (tree.Body × tree.Body) tree.Body tree.Parts (tree.Parts × Bool) part_step stmt_step value_step arm_step body_step head_step change_step Value-F.Topic
