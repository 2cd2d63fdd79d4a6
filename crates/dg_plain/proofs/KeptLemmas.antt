-- What holds of what an item mentions, and of what it mentions with a plain head.
use Rattle.std.proofs.Common.{◌≡◌, ◌+◌, ℕ, List, [], ◌∷◌, ◌++◌, Bool, true, false, Option, Some, None, codes, refl, sym, ◌∙◌, ap, subst}
use Rattle.std.specs.Prelude.{if◌then◌else◌}
use Rattle.std.specs.List.{All}
use Rattle.std.proofs.lemmas.List.Elements.{All-nil, All-cons, All-head, All-tail, All-append}
use Rattle.dg_base.specs.Heads.{part_name, parts_behind, name_of}
use Rattle.dg_base.specs.Tree as tree
use Rattle.dg_base.specs.Tree.{Part, Parts, Value, Values, Stmt, Stmts, Body, Arms, Changes}
use Rattle.dg_base.specs.Mentions.{Thing, topic_line, query, number, word, object, current_topic, unnamed, variable, word_choice, text, other, branches, select, closure, Mentions, nothing, thing, closed, join, branches_in, of_parts, of_nested, of_value, of_values, of_stmt, of_stmts, of_body, of_branches, of_arms, of_changes, of_rule, things}
use Rattle.dg_base.specs.declared.mentions.Role.{Role}
use Rattle.dg_base.specs.declared.mentions.Role.TheVariants as role
use Rattle.dg_base.specs.declared.mentions.Form.TheVariants as form
use Rattle.dg_plain.specs.Plain.{Setting, topic_value, first_value, choice_name, new_in_value, new_in_values, new_in_part, new_in_parts, new_in_stmt, new_in_stmts, new_in_body, new_in_arms, plain_value, plain_values, plain_part, plain_parts, plain_stmt, plain_stmts, plain_body, plain_arms, plain_changes, word_branches, puts_of_value, puts_of_values, puts_of_parts, in_front, whole_body, put_before, rule_body}
use Rattle.dg_plain.specs.Left.{is_nested}
use Rattle.dg_plain.specs.Comes.{is_free}

-- ---- all mentions

-- this holds of each of these mentions, at every depth
abbrev pub Hold : (Thing → Type 0) → Mentions → Type 0
Hold P nothing = Unit {0}
Hold P (thing t ms) = P t × Hold P ms
Hold P (closed inner ms) = P closure × Hold P inner × Hold P ms

pub front : (P : Thing → Type 0) (a b : Mentions) → Hold P (join a b) → Hold P a
front P nothing b h = tt
front P (thing t ms) b h = (h.0, front P ms b h.1)
front P (closed inner ms) b h = (h.0, h.1, front P ms b h.2)

pub back : (P : Thing → Type 0) (a b : Mentions) → Hold P (join a b) → Hold P b
back P nothing b h = h
back P (thing t ms) b h = back P ms b h.1
back P (closed inner ms) b h = back P ms b h.2

pub both : (P : Thing → Type 0) (a b : Mentions) → Hold P a → Hold P b → Hold P (join a b)
both P nothing b h k = k
both P (thing t ms) b h k = (h.0, both P ms b h.1 k)
both P (closed inner ms) b h k = (h.0, h.1, both P ms b h.2 k)

pub three : (P : Thing → Type 0) (a b c : Mentions) → Hold P a → Hold P b → Hold P c → Hold P (join a (join b c))
three P a b c h k l = both P a (join b c) h (both P b c k l)

pub all_front : (P : Thing → Type 0) (xs ys : List Thing) → All P (xs ++ ys) → All P xs
all_front P [] ys h = All-nil P
all_front P (x ∷ xs) ys h = All-cons P x xs (All-head P x (xs ++ ys) h) (all_front P xs ys (All-tail P x (xs ++ ys) h))

pub all_back : (P : Thing → Type 0) (xs ys : List Thing) → All P (xs ++ ys) → All P ys
all_back P [] ys h = h
all_back P (x ∷ xs) ys h = all_back P xs ys (All-tail P x (xs ++ ys) h)

pub from_all : (P : Thing → Type 0) (ms : Mentions) → All P (things ms) → Hold P ms
from_all P nothing h = tt
from_all P (thing t ms) h = (All-head P t (things ms) h, from_all P ms (All-tail P t (things ms) h))
from_all P (closed inner ms) h =
    let rest = All-tail P closure (things inner ++ things ms) h in
    (All-head P closure (things inner ++ things ms) h, from_all P inner (all_front P (things inner) (things ms) rest), from_all P ms (all_back P (things inner) (things ms) rest))

pub to_all : (P : Thing → Type 0) (ms : Mentions) → Hold P ms → All P (things ms)
to_all P nothing h = All-nil P
to_all P (thing t ms) h = All-cons P t (things ms) h.0 (to_all P ms h.1)
to_all P (closed inner ms) h = All-cons P closure (things inner ++ things ms) h.0 (All-append P (things inner) (things ms) (to_all P inner h.1) (to_all P ms h.2))

-- ---- names

part_named : (c : Setting) (n : ℕ) (q : Part) → part_name (plain_part c n q) ≡ part_name q
part_named c n (tree.part_word w) = refl
part_named c n (tree.part_value v) = refl

behind_named : (c : Setting) (n : ℕ) (ps : Parts) → parts_behind (plain_parts c n ps) ≡ parts_behind ps
behind_named c n tree.no_parts = refl
behind_named c n (tree.part q ps) =
    ap (λ (l : List ℕ). 32 ∷ (l ++ parts_behind (plain_parts c (n + new_in_part q) ps))) (part_named c n q)
    ∙ ap (λ (l : List ℕ). 32 ∷ (part_name q ++ l)) (behind_named c (n + new_in_part q) ps)

-- a head keeps its name
pub named : (c : Setting) (n : ℕ) (ps : Parts) → name_of (plain_parts c n ps) ≡ name_of ps
named c n tree.no_parts = refl
named c n (tree.part q ps) =
    ap (λ (l : List ℕ). 40 ∷ (l ++ (parts_behind (plain_parts c (n + new_in_part q) ps) ++ 41 ∷ []))) (part_named c n q)
    ∙ ap (λ (l : List ℕ). 40 ∷ (part_name q ++ (l ++ 41 ∷ []))) (behind_named c (n + new_in_part q) ps)

-- ---- what carries over

-- a thing that stays as it is
abbrev pub is_same : Thing → Bool
is_same (topic_line n) = true
is_same (number n) = true
is_same (word w) = true
is_same (object n) = true
is_same (text w) = true
is_same (other f) = true
is_same (select n) = true
is_same closure = true
is_same t = false

-- what holds of a `*`, of the topic, or of nothing
abbrev pub TopicHolds : (Thing → Type 0) → (Thing → Type 0) → Option (List ℕ) → Type 0
TopicHolds P Q None = P current_topic → Q current_topic
TopicHolds P Q (Some n) = Q (object n)

-- the first holds of what stands in an item, and so the second of what comes to stand there
pub record Carries (c : Setting) (P Q : Thing → Type 0) : Type 0 where
  pub free : (t : Thing) → is_free t ≡ true → Q t
  pub same : (t : Thing) → is_same t ≡ true → P t → Q t
  pub topic : TopicHolds P Q c.topic
  pub again : (r : Role) (ps qs : Parts) → is_nested r ≡ false → name_of ps ≡ name_of qs → P (query r ps) → Q (query r qs)
  pub asked : (ps qs : Parts) → name_of ps ≡ name_of qs → P (query role.Nested ps) → Q (query role.AskedAll qs)
  pub nested : c.declares ≡ true → (ps qs : Parts) → name_of ps ≡ name_of qs → P (query role.Nested ps) → Q (query role.Nested qs)
  pub left : c.declares ≡ true → (a b : Bool) → P (unnamed a) → Q (unnamed b)
  pub choice : (ws : List (List ℕ)) → P (word_choice ws) → All (λ (w : List ℕ). Q (word w)) ws
  pub equation : (ps : Parts) → name_of ps ≡ codes "($ = $)" → Q (query role.Asked ps)

-- ---- values

topic_kept : (P Q : Thing → Type 0) (t : Option (List ℕ)) (b : Bool) → TopicHolds P Q t → P current_topic → Hold Q (of_value b (topic_value t))
topic_kept P Q None b k h = (k h, tt)
topic_kept P Q (Some n) b k h = (k, tt)

anonymous_kept : (Q : Thing → Type 0) (declares b : Bool) (n : List ℕ) → (declares ≡ true → Q (unnamed b)) → Q (variable n) → Hold Q (of_value b (if declares then tree.anonymous else tree.variable n))
anonymous_kept Q true b n k v = (k refl, tt)
anonymous_kept Q false b n k v = (v, tt)

first_kept : (Q : Thing → Type 0) (b : Bool) (ps : Parts) → Q (other form.List) → Hold Q (of_parts b ps) → Hold Q (of_value b (first_value ps))
first_kept Q b tree.no_parts f h = (f, tt)
first_kept Q b (tree.part (tree.part_word w) ps) f h = first_kept Q b ps f h
first_kept Q b (tree.part (tree.part_value v) ps) f h = front Q (of_value b v) (of_parts b ps) h

stands_kept : (Q : Thing → Type 0) (declares b : Bool) (ps : Parts) → (declares ≡ true → Hold Q (of_value b (tree.nested ps))) → Hold Q (of_value b (first_value ps)) → Hold Q (of_value b (if declares then tree.nested ps else first_value ps))
stands_kept Q true b ps k h = k refl
stands_kept Q false b ps k h = h

branches_kept : (c : Setting) (n : ℕ) (b : Body) → branches_in (plain_body c n b) ≡ branches_in b
branches_kept c n tree.no_branches = refl
branches_kept c n (tree.branch ss b) = ap (λ (m : ℕ). m + 1) (branches_kept c (n + new_in_stmts ss) b)

select_kept : (c : Setting) (P Q : Thing → Type 0) (k : Carries c P Q) (n : ℕ) (b : Body) → P (select (branches_in b)) → Q (select (branches_in (plain_body c n b)))
select_kept c P Q k n b h = subst (λ (m : ℕ). Q (select m)) (sym (branches_kept c n b)) (k.same (select (branches_in b)) refl h)

mutual
  pub value_kept : (c : Setting) (P Q : Thing → Type 0) (k : Carries c P Q) (a b : Bool) (n : ℕ) (v : Value) → Hold P (of_value a v) → Hold Q (of_value b (plain_value c n v))
  value_kept c P Q k a b n (tree.num m) h = (k.same (number m) refl h.0, tt)
  value_kept c P Q k a b n (tree.dict_word w) h = (k.same (word w) refl h.0, tt)
  value_kept c P Q k a b n (tree.object_name w) h = (k.same (object w) refl h.0, tt)
  value_kept c P Q k a b n tree.current_topic h = topic_kept P Q c.topic b k.topic h.0
  value_kept c P Q k a b n tree.anonymous h = anonymous_kept Q c.declares b _ (λ e. k.left e a b h.0) (k.free (variable _) refl)
  value_kept c P Q k a b n (tree.variable w) h = (k.free (variable w) refl, tt)
  value_kept c P Q k a b n (tree.plain_list vs) h = (k.free (other form.List) refl, values_kept c P Q k a b n vs h.1)
  value_kept c P Q k a b n (tree.tailed_list vs v) h =
      (k.free (other form.List) refl, both Q (of_values b (plain_values c n vs)) _ (values_kept c P Q k a b n vs (front P (of_values a vs) (of_value a v) h.1)) (value_kept c P Q k a b (n + new_in_values vs) v (back P (of_values a vs) (of_value a v) h.1)))
  value_kept c P Q k a b n (tree.closure s) h = (k.same closure refl h.0, (k.free (branches _) refl, body_kept c P Q k a b n s h.1.1), tt)
  value_kept c P Q k a b n (tree.nested ps) h =
      stands_kept Q c.declares b (plain_parts c n ps) (λ e. (k.nested e ps (plain_parts c n ps) (sym (named c n ps)) h.0, inner_kept c P Q k a b n ps h.1)) (first_kept Q b (plain_parts c n ps) (k.free (other form.List) refl) (nested_kept c P Q k a b n ps h.1))
  value_kept c P Q k a b n (tree.word_choice ws) h = (k.free (variable _) refl, tt)

  values_kept : (c : Setting) (P Q : Thing → Type 0) (k : Carries c P Q) (a b : Bool) (n : ℕ) (vs : Values) → Hold P (of_values a vs) → Hold Q (of_values b (plain_values c n vs))
  values_kept c P Q k a b n tree.no_values h = tt
  values_kept c P Q k a b n (tree.value v vs) h =
      both Q (of_value b (plain_value c n v)) _ (value_kept c P Q k a b n v (front P (of_value a v) (of_values a vs) h)) (values_kept c P Q k a b (n + new_in_value v) vs (back P (of_value a v) (of_values a vs) h))

  pub parts_kept : (c : Setting) (P Q : Thing → Type 0) (k : Carries c P Q) (a b : Bool) (n : ℕ) (ps : Parts) → Hold P (of_parts a ps) → Hold Q (of_parts b (plain_parts c n ps))
  parts_kept c P Q k a b n tree.no_parts h = tt
  parts_kept c P Q k a b n (tree.part (tree.part_word w) ps) h = parts_kept c P Q k a b (n + 0) ps h
  parts_kept c P Q k a b n (tree.part (tree.part_value v) ps) h =
      both Q (of_value b (plain_value c n v)) _ (value_kept c P Q k a b n v (front P (of_value a v) (of_parts a ps) h)) (parts_kept c P Q k a b (n + new_in_value v) ps (back P (of_value a v) (of_parts a ps) h))

  -- the parts of a query that stands as a value, as those of one that is asked
  nested_kept : (c : Setting) (P Q : Thing → Type 0) (k : Carries c P Q) (a b : Bool) (n : ℕ) (ps : Parts) → Hold P (of_nested a ps) → Hold Q (of_parts b (plain_parts c n ps))
  nested_kept c P Q k a b n tree.no_parts h = tt
  nested_kept c P Q k a b n (tree.part (tree.part_word w) ps) h = nested_kept c P Q k a b (n + 0) ps h
  nested_kept c P Q k a b n (tree.part (tree.part_value v) ps) h =
      both Q (of_value b (plain_value c n v)) _ (value_kept c P Q k true b n v (front P (of_value true v) (of_parts a ps) h)) (parts_kept c P Q k a b (n + new_in_value v) ps (back P (of_value true v) (of_parts a ps) h))

  -- and as those of one that goes on standing so
  inner_kept : (c : Setting) (P Q : Thing → Type 0) (k : Carries c P Q) (a b : Bool) (n : ℕ) (ps : Parts) → Hold P (of_nested a ps) → Hold Q (of_nested b (plain_parts c n ps))
  inner_kept c P Q k a b n tree.no_parts h = tt
  inner_kept c P Q k a b n (tree.part (tree.part_word w) ps) h = inner_kept c P Q k a b (n + 0) ps h
  inner_kept c P Q k a b n (tree.part (tree.part_value v) ps) h =
      both Q (of_value true (plain_value c n v)) _ (value_kept c P Q k true true n v (front P (of_value true v) (of_parts a ps) h)) (parts_kept c P Q k a b (n + new_in_value v) ps (back P (of_value true v) (of_parts a ps) h))

  stmt_kept : (c : Setting) (P Q : Thing → Type 0) (k : Carries c P Q) (a b : Bool) (n : ℕ) (s : Stmt) → Hold P (of_stmt a s) → Hold Q (of_stmt b (plain_stmt c n s))
  stmt_kept c P Q k a b n (tree.text w) h = (k.same (text w) refl h.0, tt)
  stmt_kept c P Q k a b n (tree.print v) h = (k.same (other form.Print) refl h.0, value_kept c P Q k a b n v h.1)
  stmt_kept c P Q k a b n (tree.ask ps) h = (k.again role.Asked ps (plain_parts c n ps) refl (sym (named c n ps)) h.0, parts_kept c P Q k a b n ps h.1)
  stmt_kept c P Q k a b n (tree.ask_all ps) h = (k.again role.AskedAll ps (plain_parts c n ps) refl (sym (named c n ps)) h.0, parts_kept c P Q k a b n ps h.1)
  stmt_kept c P Q k a b n (tree.ask_not ps) h = (k.again role.AskedNot ps (plain_parts c n ps) refl (sym (named c n ps)) h.0, parts_kept c P Q k a b n ps h.1)
  stmt_kept c P Q k a b n (tree.group s) h = (k.free (other form.Group) refl, (k.free (branches _) refl, body_kept c P Q k a b n s h.1.1))
  stmt_kept c P Q k a b n (tree.not_group s) h = (k.same (other form.NotGroup) refl h.0, (k.free (branches _) refl, body_kept c P Q k a b n s h.1.1))
  stmt_kept c P Q k a b n (tree.now cs) h = (k.same (other form.Now) refl h.0, changes_kept c P Q k a b n cs h.1)
  stmt_kept c P Q k a b n (tree.choice arms) h = (k.same (other form.If) refl h.0, arms_kept c P Q k a b n arms h.1)
  stmt_kept c P Q k a b n (tree.choice_else arms s) h =
      (k.same (other form.If) refl h.0, both Q (of_arms b (plain_arms c n arms)) _ (arms_kept c P Q k a b n arms (front P (of_arms a arms) (of_body a s) h.1)) (k.free (branches _) refl, body_kept c P Q k a b (n + new_in_arms arms) s (back P (of_arms a arms) (of_body a s) h.1).1))
  stmt_kept c P Q k a b n (tree.exhaust s) h = (k.same (other form.Exhaust) refl h.0, stmt_kept c P Q k a b n s h.1)
  stmt_kept c P Q k a b n (tree.stoppable s) h = (k.same (other form.Stoppable) refl h.0, stmt_kept c P Q k a b n s h.1)
  stmt_kept c P Q k a b n (tree.collect v s into) h =
      let rest = back P (of_value a v) (join (of_body a s) (of_value a into)) h.1 in
      let body = front P (of_body a s) (of_value a into) rest in (
        k.same (other form.Collect) refl h.0,
        three Q (of_value b (plain_value c n v)) (of_body b (plain_body c (n + new_in_value v) s)) (of_value b (plain_value c (n + new_in_value v + new_in_body s) into))
            (value_kept c P Q k a b n v (front P (of_value a v) (join (of_body a s) (of_value a into)) h.1)) (k.free (branches _) refl, body_kept c P Q k a b (n + new_in_value v) s body.1) (value_kept c P Q k a b (n + new_in_value v + new_in_body s) into (back P (of_body a s) (of_value a into) rest)),
      )
  stmt_kept c P Q k a b n (tree.accumulate v s into) h =
      let rest = back P (of_value a v) (join (of_body a s) (of_value a into)) h.1 in
      let body = front P (of_body a s) (of_value a into) rest in (
        k.same (other form.Accumulate) refl h.0,
        three Q (of_value b (plain_value c n v)) (of_body b (plain_body c (n + new_in_value v) s)) (of_value b (plain_value c (n + new_in_value v + new_in_body s) into))
            (value_kept c P Q k a b n v (front P (of_value a v) (join (of_body a s) (of_value a into)) h.1)) (k.free (branches _) refl, body_kept c P Q k a b (n + new_in_value v) s body.1) (value_kept c P Q k a b (n + new_in_value v + new_in_body s) into (back P (of_body a s) (of_value a into) rest)),
      )
  stmt_kept c P Q k a b n (tree.select mode s) h = (select_kept c P Q k n s h.0, body_kept c P Q k a b n s h.1)
  stmt_kept c P Q k a b n (tree.first_answer s) h = (k.same (other form.First) refl h.0, (k.free (branches _) refl, body_kept c P Q k a b n s h.1.1))

  stmts_kept : (c : Setting) (P Q : Thing → Type 0) (k : Carries c P Q) (a b : Bool) (n : ℕ) (ss : Stmts) → Hold P (of_stmts a ss) → Hold Q (of_stmts b (plain_stmts c n ss))
  stmts_kept c P Q k a b n tree.no_stmts h = tt
  stmts_kept c P Q k a b n (tree.stmt s ss) h =
      both Q (of_stmt b (plain_stmt c n s)) _ (stmt_kept c P Q k a b n s (front P (of_stmt a s) (of_stmts a ss) h)) (stmts_kept c P Q k a b (n + new_in_stmt s) ss (back P (of_stmt a s) (of_stmts a ss) h))

  pub body_kept : (c : Setting) (P Q : Thing → Type 0) (k : Carries c P Q) (a b : Bool) (n : ℕ) (s : Body) → Hold P (of_branches a s) → Hold Q (of_branches b (plain_body c n s))
  body_kept c P Q k a b n tree.no_branches h = tt
  body_kept c P Q k a b n (tree.branch ss s) h =
      both Q (of_stmts b (plain_stmts c n ss)) _ (stmts_kept c P Q k a b n ss (front P (of_stmts a ss) (of_branches a s) h)) (body_kept c P Q k a b (n + new_in_stmts ss) s (back P (of_stmts a ss) (of_branches a s) h))

  arms_kept : (c : Setting) (P Q : Thing → Type 0) (k : Carries c P Q) (a b : Bool) (n : ℕ) (arms : Arms) → Hold P (of_arms a arms) → Hold Q (of_arms b (plain_arms c n arms))
  arms_kept c P Q k a b n tree.no_arms h = tt
  arms_kept c P Q k a b n (tree.arm s u arms) h =
      let rest = back P (of_body a s) (join (of_body a u) (of_arms a arms)) h in
      let body = front P (of_body a u) (of_arms a arms) rest in
      three Q (of_body b (plain_body c n s)) (of_body b (plain_body c (n + new_in_body s) u)) (of_arms b (plain_arms c (n + new_in_body s + new_in_body u) arms))
      (k.free (branches _) refl, body_kept c P Q k a b n s (front P (of_body a s) (join (of_body a u) (of_arms a arms)) h).1) (k.free (branches _) refl, body_kept c P Q k a b (n + new_in_body s) u body.1) (arms_kept c P Q k a b (n + new_in_body s + new_in_body u) arms (back P (of_body a u) (of_arms a arms) rest))

  changes_kept : (c : Setting) (P Q : Thing → Type 0) (k : Carries c P Q) (a b : Bool) (n : ℕ) (cs : Changes) → Hold P (of_changes a cs) → Hold Q (of_changes b (plain_changes c n cs))
  changes_kept c P Q k a b n tree.no_changes h = tt
  changes_kept c P Q k a b n (tree.change ps set cs) h =
      (k.again (role.Changed set) ps (plain_parts c n ps) refl (sym (named c n ps)) h.0, both Q (of_parts b (plain_parts c n ps)) _ (parts_kept c P Q k a b n ps (front P (of_parts a ps) (of_changes a cs) h.1)) (changes_kept c P Q k a b (n + new_in_parts ps) cs (back P (of_parts a ps) (of_changes a cs) h.1)))

-- ---- what is put before a body

-- this holds of all that these statements mention
abbrev AllHold : (Thing → Type 0) → List Stmt → Type 0
AllHold P [] = Unit {0}
AllHold P (s ∷ ss) = Hold P (of_stmt false s) × AllHold P ss

joined : (P : Thing → Type 0) (ss ts : List Stmt) → AllHold P ss → AllHold P ts → AllHold P (ss ++ ts)
joined P [] ts h k = k
joined P (s ∷ ss) ts h k = (h.0, joined P ss ts h.1 k)

words_kept : (c : Setting) (P Q : Thing → Type 0) (k : Carries c P Q) (name : List ℕ) (ws : List (List ℕ)) → All (λ (w : List ℕ). Q (word w)) ws → Hold Q (of_branches false (word_branches name ws))
words_kept c P Q k name [] h = tt
words_kept c P Q k name (w ∷ ws) h =
    (k.equation _ refl, (k.free (variable name) refl, (All-head (λ (u : List ℕ). Q (word u)) w ws h, words_kept c P Q k name ws (All-tail (λ (u : List ℕ). Q (word u)) w ws h))))

mutual
  puts_kept : (c : Setting) (P Q : Thing → Type 0) (k : Carries c P Q) (a : Bool) (n : ℕ) (v : Value) → Hold P (of_value a v) → AllHold Q (puts_of_value c n v)
  puts_kept c P Q k a n (tree.num m) h = tt
  puts_kept c P Q k a n (tree.dict_word w) h = tt
  puts_kept c P Q k a n (tree.object_name w) h = tt
  puts_kept c P Q k a n tree.current_topic h = tt
  puts_kept c P Q k a n tree.anonymous h = tt
  puts_kept c P Q k a n (tree.variable w) h = tt
  puts_kept c P Q k a n (tree.plain_list vs) h = all_puts_kept c P Q k a n vs h.1
  puts_kept c P Q k a n (tree.tailed_list vs v) h =
      joined Q (puts_of_values c n vs) _ (all_puts_kept c P Q k a n vs (front P (of_values a vs) (of_value a v) h.1)) (puts_kept c P Q k a (n + new_in_values vs) v (back P (of_values a vs) (of_value a v) h.1))
  puts_kept c P Q k a n (tree.closure b) h = tt
  puts_kept c P Q k a n (tree.nested ps) h =
      joined Q (puts_of_parts c n ps) _ (nested_puts_kept c P Q k a n ps h.1) ((k.asked ps (plain_parts c n ps) (sym (named c n ps)) h.0, nested_kept c P Q k a false n ps h.1), tt)
  puts_kept c P Q k a n (tree.word_choice ws) h = ((k.free (other form.Group) refl, (k.free (branches _) refl, words_kept c P Q k (choice_name c.number n) ws (k.choice ws h.0))), tt)

  all_puts_kept : (c : Setting) (P Q : Thing → Type 0) (k : Carries c P Q) (a : Bool) (n : ℕ) (vs : Values) → Hold P (of_values a vs) → AllHold Q (puts_of_values c n vs)
  all_puts_kept c P Q k a n tree.no_values h = tt
  all_puts_kept c P Q k a n (tree.value v vs) h =
      joined Q (puts_of_value c n v) _ (puts_kept c P Q k a n v (front P (of_value a v) (of_values a vs) h)) (all_puts_kept c P Q k a (n + new_in_value v) vs (back P (of_value a v) (of_values a vs) h))

  part_puts_kept : (c : Setting) (P Q : Thing → Type 0) (k : Carries c P Q) (a : Bool) (n : ℕ) (ps : Parts) → Hold P (of_parts a ps) → AllHold Q (puts_of_parts c n ps)
  part_puts_kept c P Q k a n tree.no_parts h = tt
  part_puts_kept c P Q k a n (tree.part (tree.part_word w) ps) h = part_puts_kept c P Q k a (n + 0) ps h
  part_puts_kept c P Q k a n (tree.part (tree.part_value v) ps) h =
      joined Q (puts_of_value c n v) _ (puts_kept c P Q k a n v (front P (of_value a v) (of_parts a ps) h)) (part_puts_kept c P Q k a (n + new_in_value v) ps (back P (of_value a v) (of_parts a ps) h))

  nested_puts_kept : (c : Setting) (P Q : Thing → Type 0) (k : Carries c P Q) (a : Bool) (n : ℕ) (ps : Parts) → Hold P (of_nested a ps) → AllHold Q (puts_of_parts c n ps)
  nested_puts_kept c P Q k a n tree.no_parts h = tt
  nested_puts_kept c P Q k a n (tree.part (tree.part_word w) ps) h = nested_puts_kept c P Q k a (n + 0) ps h
  nested_puts_kept c P Q k a n (tree.part (tree.part_value v) ps) h =
      joined Q (puts_of_value c n v) _ (puts_kept c P Q k true n v (front P (of_value true v) (of_parts a ps) h)) (part_puts_kept c P Q k a (n + new_in_value v) ps (back P (of_value true v) (of_parts a ps) h))

front_kept : (P : Thing → Type 0) (puts : List Stmt) (ss : Stmts) → AllHold P puts → Hold P (of_stmts false ss) → Hold P (of_stmts false (in_front puts ss))
front_kept P [] ss h k = k
front_kept P (s ∷ puts) ss h k = both P (of_stmt false s) (of_stmts false (in_front puts ss)) h.0 (front_kept P puts ss h.1 k)

stmts_of_kept : (c : Setting) (P Q : Thing → Type 0) (k : Carries c P Q) (b : Body) → Hold Q (of_branches false b) → Hold Q (of_stmts false (whole_body b))
stmts_of_kept c P Q k tree.no_branches h = (k.free (other form.Group) refl, (k.free (branches 0) refl, tt))
stmts_of_kept c P Q k (tree.branch ss tree.no_branches) h = front Q (of_stmts false ss) nothing h
stmts_of_kept c P Q k (tree.branch ss (tree.branch ts b)) h = (k.free (other form.Group) refl, (k.free (branches _) refl, both Q (of_branches false (tree.branch ss (tree.branch ts b))) nothing h tt))

put_kept : (c : Setting) (P Q : Thing → Type 0) (k : Carries c P Q) (puts : List Stmt) (b : Body) → AllHold Q puts → Hold Q (of_branches false b) → Hold Q (of_branches false (put_before puts b))
put_kept c P Q k [] b h g = g
put_kept c P Q k (s ∷ puts) b h g = both Q (of_stmts false (in_front (s ∷ puts) (whole_body b))) nothing (front_kept Q (s ∷ puts) (whole_body b) h (stmts_of_kept c P Q k b g)) tt

-- what a rule mentions
pub rule_kept : (c : Setting) (P Q : Thing → Type 0) (k : Carries c P Q) (r : Role) (ps : Parts) (b : Body) → is_nested r ≡ false → Hold P (of_rule r ps b) → Hold Q (of_rule r (plain_parts c 0 ps) (rule_body c ps b))
rule_kept c P Q k r ps b e h =
    let head = front P (of_parts false ps) (of_body false b) h.1 in
    let rest = back P (of_parts false ps) (of_body false b) h.1 in
    (k.again r ps (plain_parts c 0 ps) e (sym (named c 0 ps)) h.0, both Q (of_parts false (plain_parts c 0 ps)) (of_body false (rule_body c ps b)) (parts_kept c P Q k false false 0 ps head) (k.free (branches _) refl, put_kept c P Q k (puts_of_parts c 0 ps) (plain_body c (new_in_parts ps) b) (part_puts_kept c P Q k false 0 ps head) (body_kept c P Q k false false (new_in_parts ps) b rest.1)))

-- what a declaration mentions
pub declaration_kept : (c : Setting) (P Q : Thing → Type 0) (k : Carries c P Q) (r : Role) (ps : Parts) → is_nested r ≡ false → Hold P (thing (query r ps) (of_parts false ps)) → Hold Q (thing (query r (plain_parts c 0 ps)) (of_parts false (plain_parts c 0 ps)))
declaration_kept c P Q k r ps e h = (k.again r ps (plain_parts c 0 ps) e (sym (named c 0 ps)) h.0, parts_kept c P Q k false false 0 ps h.1)
