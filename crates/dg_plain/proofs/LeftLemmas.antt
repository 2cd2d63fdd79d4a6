-- Nothing is left of what plain heads replace.
use Rattle.std.proofs.Common.{◌≡◌, ℕ, List, [], ◌∷◌, Bool, true, false, not, Option, Some, None, refl}
use Rattle.std.specs.Option.{is_some}
use Rattle.std.specs.List.{All}
use Rattle.std.proofs.lemmas.List.Elements.{All-nil, All-cons}
use Rattle.dg_base.specs.Tree as tree
use Rattle.dg_base.specs.Tree.{Said, Item}
use Rattle.dg_base.specs.Mentions.{Thing, topic_line, query, number, word, object, current_topic, unnamed, variable, word_choice, text, other, branches, select, closure, Mentions, nothing, thing, closed, of_said}
use Rattle.dg_base.specs.declared.mentions.Role.{Role}
use Rattle.dg_base.specs.declared.mentions.Role.TheVariants as role
use Rattle.dg_plain.specs.Plain.{Setting}
use Rattle.dg_plain.specs.Items.{rule_setting, in_declaration, plain_said, topic_behind, plain_items}
use Rattle.dg_plain.specs.Comes.{is_free}
use Rattle.dg_plain.specs.Left.{is_left, is_nested, is_declaration, IsPlainSaid, ArePlain}
use Rattle.dg_plain.proofs.KeptLemmas.{Hold, to_all, is_same, TopicHolds, Carries, rule_kept, declaration_kept}

-- nothing is asked of an item
abbrev Any : Thing → Type 0
Any t = Unit {0}

abbrev Gone : Setting → Thing → Type 0
Gone c t = is_left c.declares (is_some c.topic) t ≡ false

-- all that is mentioned
anything : (ms : Mentions) → Hold Any ms
anything nothing = tt
anything (thing t ms) = (tt, anything ms)
anything (closed inner ms) = (tt, anything inner, anything ms)

free_gone : (c : Setting) (t : Thing) → is_free t ≡ true → Gone c t
free_gone c (topic_line n) e = refl
free_gone c (query r ps) e = cc
free_gone c (number n) e = refl
free_gone c (word w) e = refl
free_gone c (object n) e = refl
free_gone c current_topic e = cc
free_gone c (unnamed b) e = cc
free_gone c (variable n) e = refl
free_gone c (word_choice ws) e = cc
free_gone c (text w) e = refl
free_gone c (other f) e = refl
free_gone c (branches n) e = refl
free_gone c (select n) e = refl
free_gone c closure e = refl

same_gone : (c : Setting) (t : Thing) → is_same t ≡ true → Any t → Gone c t
same_gone c (topic_line n) e h = refl
same_gone c (query r ps) e h = cc
same_gone c (number n) e h = refl
same_gone c (word w) e h = refl
same_gone c (object n) e h = refl
same_gone c current_topic e h = cc
same_gone c (unnamed b) e h = cc
same_gone c (variable n) e h = refl
same_gone c (word_choice ws) e h = cc
same_gone c (text w) e h = refl
same_gone c (other f) e h = refl
same_gone c (branches n) e h = refl
same_gone c (select n) e h = refl
same_gone c closure e h = refl

topic_gone : (declares : Bool) (t : Option (List ℕ)) → TopicHolds Any (λ (x : Thing). is_left declares (is_some t) x ≡ false) t
topic_gone declares None = λ h. refl
topic_gone declares (Some n) = refl

carries : (c : Setting) → Carries c Any (Gone c)
carries c = record {
  free = free_gone c;
  same = same_gone c;
  topic = topic_gone c.declares c.topic;
  again = λ r ps qs e n h. rw e refl;
  asked = λ ps qs n h. refl;
  nested = λ e ps qs n h. rw e refl;
  left = λ e a b h. rw e refl;
  choice = λ ws h. words_gone c ws;
  equation = λ ps e. refl;
}
  where
    words_gone : (c : Setting) (ws : List (List ℕ)) → All (λ (w : List ℕ). Gone c (word w)) ws
    words_gone c [] = All-nil (λ (w : List ℕ). Gone c (word w))
    words_gone c (w ∷ ws) = All-cons (λ (u : List ℕ). Gone c (word u)) w ws refl (words_gone c ws)

said_plain : (t : Option (List ℕ)) (said : Said) → IsPlainSaid t (plain_said t said)
said_plain t (tree.topic n) = All-cons (Gone (rule_setting t (tree.topic n))) (topic_line n) [] refl (All-nil (Gone (rule_setting t (tree.topic n))))
said_plain t (tree.rule ps b) =
    let said = tree.rule ps b in
    to_all (Gone (rule_setting t said)) (of_said (plain_said t said)) (rule_kept (rule_setting t said) Any (Gone (rule_setting t said)) (carries (rule_setting t said)) role.Rule ps b refl (anything (of_said said)))
said_plain t (tree.deny ps b) =
    let said = tree.deny ps b in
    to_all (Gone (rule_setting t said)) (of_said (plain_said t said)) (rule_kept (rule_setting t said) Any (Gone (rule_setting t said)) (carries (rule_setting t said)) role.Rule ps b refl (anything (of_said said)))
said_plain t (tree.access ps b) =
    let said = tree.access ps b in
    to_all (Gone (rule_setting t said)) (of_said (plain_said t said)) (rule_kept (rule_setting t said) Any (Gone (rule_setting t said)) (carries (rule_setting t said)) role.Access ps b refl (anything (of_said said)))
said_plain t (tree.global_variable ps) =
    let said = tree.global_variable ps in
    to_all (Gone (in_declaration t said)) (of_said (plain_said t said)) (declaration_kept (in_declaration t said) Any (Gone (in_declaration t said)) (carries (in_declaration t said)) role.Declared ps refl (anything (of_said said)))

behind_same : (t : Option (List ℕ)) (said : Said) → topic_behind t (plain_said t said) ≡ topic_behind t said
behind_same t (tree.topic n) = refl
behind_same t (tree.rule ps b) = refl
behind_same t (tree.deny ps b) = refl
behind_same t (tree.access ps b) = refl
behind_same t (tree.global_variable ps) = refl

pub items_plain : (t : Option (List ℕ)) (is : List Item) → ArePlain t (plain_items t is)
items_plain t [] = tt
items_plain t (i ∷ is) = (said_plain t i.said, rw (behind_same t i.said) (items_plain (topic_behind t i.said) is))
