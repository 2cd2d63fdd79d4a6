-- What is mentioned with plain heads comes from what is mentioned.
use Rattle.std.proofs.Common.{◌≡◌, ℕ, List, [], ◌∷◌, ◌++◌, Bool, true, false, Option, Some, None, refl, sym, subst, arith}
use Rattle.std.specs.List.{All, Contains}
use Rattle.std.proofs.lemmas.List.Elements.{All-nil, All-cons, All-head, All-tail, All-append, All-weaker, All-contains_itself}
use Rattle.dg_base.specs.Tree as tree
use Rattle.dg_base.specs.Tree.{Said, Item}
use Rattle.dg_base.specs.Mentions.{Thing, topic_line, query, number, word, object, current_topic, unnamed, variable, word_choice, text, other, branches, select, closure, Mentions, of_said, things_in, mentioned}
use Rattle.dg_base.specs.declared.mentions.Role.TheVariants as role
use Rattle.dg_plain.specs.Plain.{Setting}
use Rattle.dg_plain.specs.Items.{rule_setting, in_declaration, plain_said, topic_behind, plain_items}
use Rattle.dg_plain.specs.Comes as comes
use Rattle.dg_plain.specs.Comes.{ComesFrom}
use Rattle.dg_plain.proofs.KeptLemmas.{from_all, to_all, all_front, all_back, TopicHolds, Carries, rule_kept, declaration_kept}

-- the topic stands in a line
abbrev HasTopic : List Thing → Option (List ℕ) → Type 0
HasTopic ts None = Unit {0}
HasTopic ts (Some n) = Contains ts (topic_line n)

topic_comes : (ts : List Thing) (t : Option (List ℕ)) → HasTopic ts t → TopicHolds (Contains ts) (ComesFrom ts) t
topic_comes ts None h = comes.same current_topic
topic_comes ts (Some n) h = comes.topic n h

carries : (ts : List Thing) (c : Setting) → HasTopic ts c.topic → Carries c (Contains ts) (ComesFrom ts)
carries ts c h = record {
  free = comes.free;
  same = λ t e there. comes.same t there;
  topic = topic_comes ts c.topic h;
  again = λ r ps qs e same there. comes.again r ps qs same there;
  asked = λ ps qs same there. comes.asked ps qs same there;
  nested = λ e ps qs same there. comes.again role.Nested ps qs same there;
  left = λ e a b there. comes.left a b there;
  choice = λ ws there. All-weaker (Contains ws) (λ (w : List ℕ). ComesFrom ts (word w)) (λ w in_words. comes.chosen ws w there in_words) ws (All-contains_itself ws);
  equation = comes.equation;
}

said_comes : (ts : List Thing) (t : Option (List ℕ)) (said : Said) → HasTopic ts t → All (Contains ts) (things_in said) → All (ComesFrom ts) (things_in (plain_said t said))
said_comes ts t (tree.topic n) k h = All-weaker (Contains ts) (ComesFrom ts) comes.same (topic_line n ∷ []) h
said_comes ts t (tree.rule ps b) k h =
    let said = tree.rule ps b in
    to_all (ComesFrom ts) (of_said (plain_said t said)) (rule_kept (rule_setting t said) (Contains ts) (ComesFrom ts) (carries ts (rule_setting t said) k) role.Rule ps b refl (from_all (Contains ts) (of_said said) h))
said_comes ts t (tree.deny ps b) k h =
    let said = tree.deny ps b in
    to_all (ComesFrom ts) (of_said (plain_said t said)) (rule_kept (rule_setting t said) (Contains ts) (ComesFrom ts) (carries ts (rule_setting t said) k) role.Rule ps b refl (from_all (Contains ts) (of_said said) h))
said_comes ts t (tree.access ps b) k h =
    let said = tree.access ps b in
    to_all (ComesFrom ts) (of_said (plain_said t said)) (rule_kept (rule_setting t said) (Contains ts) (ComesFrom ts) (carries ts (rule_setting t said) k) role.Access ps b refl (from_all (Contains ts) (of_said said) h))
said_comes ts t (tree.global_variable ps) k h =
    let said = tree.global_variable ps in
    to_all (ComesFrom ts) (of_said (plain_said t said)) (declaration_kept (in_declaration t said) (Contains ts) (ComesFrom ts) (carries ts (in_declaration t said) k) role.Declared ps refl (from_all (Contains ts) (of_said said) h))

behind_has : (ts : List Thing) (t : Option (List ℕ)) (said : Said) → HasTopic ts t → All (Contains ts) (things_in said) → HasTopic ts (topic_behind t said)
behind_has ts t (tree.topic n) k h = All-head (Contains ts) (topic_line n) [] h
behind_has ts t (tree.rule ps b) k h = k
behind_has ts t (tree.deny ps b) k h = k
behind_has ts t (tree.access ps b) k h = k
behind_has ts t (tree.global_variable ps) k h = k

items_come : (ts : List Thing) (t : Option (List ℕ)) (is : List Item) → HasTopic ts t → All (Contains ts) (mentioned is) → All (ComesFrom ts) (mentioned (plain_items t is))
items_come ts t [] k h = All-nil (ComesFrom ts)
items_come ts t (i ∷ is) k h =
    let here = all_front (Contains ts) (things_in i.said) (mentioned is) h in
    All-append (ComesFrom ts) (things_in (plain_said t i.said)) (mentioned (plain_items (topic_behind t i.said) is)) (said_comes ts t i.said k here)
    (items_come ts (topic_behind t i.said) is (behind_has ts t i.said k here) (all_back (Contains ts) (things_in i.said) (mentioned is) h))

pub mentions_come : (is : List Item) → All (ComesFrom (mentioned is)) (mentioned (plain_items None is))
mentions_come is = items_come (mentioned is) None is tt (All-contains_itself (mentioned is))
