-- What is left of an item that is read for what it mentions. The proofs alone rest on it.
use Rattle.std.specs.Prelude.{◌≡◌, ◌<◌, ℕ, ◌+◌, List, [], ◌∷◌, ◌++◌, Bool, true, false, map}
use Rattle.dg_base.specs.Tree as tree
use Rattle.dg_base.specs.Tree.{parts_of, values_of, stmts_of, arms_of, changes_of}
use Rattle.dg_base.specs.TreeView.{part_view, value_view, stmt_view, arm_view, body_view, head_view, change_view, branches_view}
use Rattle.dg_base.specs.Mentions as spec
use Rattle.dg_base.specs.Mentions.{Thing, Mentions, nothing, thing, closed, of_parts, of_nested, of_value, of_values, of_stmt, of_stmts, of_body, of_branches, of_arms, of_changes}
use Rattle.dg_base.specs.declared.mentions.Mention.{Mention}
use Rattle.dg_base.specs.declared.mentions.Mention.TheVariants as mention
use Rattle.dg_base.specs.declared.mentions.Work.{Work}
use Rattle.dg_base.specs.declared.mentions.Work.TheVariants as work

-- A thing, or the beginning or the end of a closure.
pub data Met : Type 0 where
  met : Thing → Met
  opens : Met
  closes : Met

-- What is met one after the other where this is mentioned.
abbrev pub walk : Mentions → List Met
walk nothing = []
walk (thing t ms) = met t ∷ walk ms
walk (closed inner ms) = opens ∷ (walk inner ++ closes ∷ walk ms)

-- What is mentioned at one step.
abbrev pub thing_at : Met → List Thing
thing_at (met t) = t ∷ []
thing_at opens = spec.closure ∷ []
thing_at closes = []

-- What is mentioned at these steps.
abbrev pub things_at : List Met → List Thing
things_at [] = []
things_at (m ∷ ms) = thing_at m ++ things_at ms

abbrev pub mention_view : Mention → Met
mention_view (mention.TopicLine n) = met (spec.topic_line n.now)
mention_view (mention.Query role h) = met (spec.query role (head_view h.now))
mention_view (mention.Number n) = met (spec.number n)
mention_view (mention.Word w) = met (spec.word w.now)
mention_view (mention.Object n) = met (spec.object n.now)
mention_view mention.Topic = met spec.current_topic
mention_view (mention.Unnamed twice) = met (spec.unnamed twice)
mention_view (mention.Variable n) = met (spec.variable n.now)
mention_view (mention.Choice ws) = met (spec.word_choice ws.now)
mention_view (mention.Text w) = met (spec.text w.now)
mention_view (mention.Other form) = met (spec.other form)
mention_view (mention.Branches n) = met (spec.branches n)
mention_view (mention.Select n) = met (spec.select n)
mention_view mention.Opened = opens
mention_view mention.Closed = closes

-- What these mentions stand for.
abbrev pub seen : List Mention → List Met
seen ms = map mention_view ms

-- What is mentioned in what is left to be looked at.
abbrev pub walk_of : Work → List Met
walk_of (work.Met m) = mention_view m ∷ []
walk_of (work.Parts twice ps) = walk (of_parts twice (parts_of (map part_view ps.now)))
walk_of (work.Nested twice ps) = walk (of_nested twice (parts_of (map part_view ps.now)))
walk_of (work.Value twice v) = walk (of_value twice (value_view v.now))
walk_of (work.Values twice vs) = walk (of_values twice (values_of (map value_view vs.now)))
walk_of (work.Stmt twice s) = walk (of_stmt twice (stmt_view s.now))
walk_of (work.Stmts twice ss) = walk (of_stmts twice (stmts_of (map stmt_view ss.now)))
walk_of (work.Body twice b) = walk (of_body twice (body_view b.now))
walk_of (work.Branches twice bs) = walk (of_branches twice (branches_view (map (map stmt_view) bs.now)))
walk_of (work.Arms twice arms) = walk (of_arms twice (arms_of (map arm_view arms.now)))
walk_of (work.Changes twice cs) = walk (of_changes twice (changes_of (map change_view cs.now)))

-- All that is left, the last of it being looked at first.
abbrev pub left_of : List Work → List Met
left_of [] = []
left_of (w ∷ ws) = left_of ws ++ walk_of w

-- ---- how much is left

abbrev mutual
  pub parts_size : tree.Parts → ℕ
  parts_size tree.no_parts = 1
  parts_size (tree.part (tree.part_word w) ps) = 1 + parts_size ps
  parts_size (tree.part (tree.part_value v) ps) = 1 + (value_size v + parts_size ps)

  pub value_size : tree.Value → ℕ
  value_size (tree.num n) = 2
  value_size (tree.dict_word w) = 2
  value_size (tree.object_name n) = 2
  value_size tree.current_topic = 2
  value_size tree.anonymous = 2
  value_size (tree.variable n) = 2
  value_size (tree.plain_list vs) = 2 + values_size vs
  value_size (tree.tailed_list vs v) = 2 + (values_size vs + value_size v)
  value_size (tree.closure b) = 5 + branches_size b
  value_size (tree.nested ps) = 2 + parts_size ps
  value_size (tree.word_choice ws) = 2

  pub values_size : tree.Values → ℕ
  values_size tree.no_values = 1
  values_size (tree.value v vs) = 1 + (value_size v + values_size vs)

  pub stmt_size : tree.Stmt → ℕ
  stmt_size (tree.text w) = 2
  stmt_size (tree.print v) = 2 + value_size v
  stmt_size (tree.ask ps) = 2 + parts_size ps
  stmt_size (tree.ask_all ps) = 2 + parts_size ps
  stmt_size (tree.ask_not ps) = 2 + parts_size ps
  stmt_size (tree.group b) = 4 + branches_size b
  stmt_size (tree.not_group b) = 4 + branches_size b
  stmt_size (tree.now cs) = 2 + changes_size cs
  stmt_size (tree.choice arms) = 2 + arms_size arms
  stmt_size (tree.choice_else arms b) = 4 + (arms_size arms + branches_size b)
  stmt_size (tree.exhaust s) = 2 + stmt_size s
  stmt_size (tree.stoppable s) = 2 + stmt_size s
  stmt_size (tree.collect v b into) = 4 + (value_size v + (branches_size b + value_size into))
  stmt_size (tree.accumulate v b into) = 4 + (value_size v + (branches_size b + value_size into))
  stmt_size (tree.select mode b) = 2 + branches_size b
  stmt_size (tree.first_answer b) = 4 + branches_size b

  pub stmts_size : tree.Stmts → ℕ
  stmts_size tree.no_stmts = 1
  stmts_size (tree.stmt s ss) = 1 + (stmt_size s + stmts_size ss)

  pub branches_size : tree.Body → ℕ
  branches_size tree.no_branches = 1
  branches_size (tree.branch ss b) = 1 + (stmts_size ss + branches_size b)

  pub arms_size : tree.Arms → ℕ
  arms_size tree.no_arms = 1
  arms_size (tree.arm c b arms) = 5 + (branches_size c + (branches_size b + arms_size arms))

  pub changes_size : tree.Changes → ℕ
  changes_size tree.no_changes = 1
  changes_size (tree.change ps set cs) = 2 + (parts_size ps + changes_size cs)

abbrev pub size_of : Work → ℕ
size_of (work.Met e) = 1
size_of (work.Parts twice ps) = parts_size (parts_of (map part_view ps.now))
size_of (work.Nested twice ps) = parts_size (parts_of (map part_view ps.now))
size_of (work.Value twice v) = value_size (value_view v.now)
size_of (work.Values twice vs) = values_size (values_of (map value_view vs.now))
size_of (work.Stmt twice s) = stmt_size (stmt_view s.now)
size_of (work.Stmts twice ss) = stmts_size (stmts_of (map stmt_view ss.now))
size_of (work.Body twice b) = 2 + branches_size (body_view b.now)
size_of (work.Branches twice bs) = branches_size (branches_view (map (map stmt_view) bs.now))
size_of (work.Arms twice arms) = arms_size (arms_of (map arm_view arms.now))
size_of (work.Changes twice cs) = changes_size (changes_of (map change_view cs.now))

abbrev pub total : List Work → ℕ
total [] = 0
total (w ∷ ws) = size_of w + total ws

-- There is nothing to look at in what is met.
abbrev pub is_met : Work → Bool
is_met (work.Met m) = true
is_met w = false

-- What meets this and is so large was taken apart, and put on what was left.
pub record IsPut (meets : List Met) (much : ℕ) (old new : List Work) : Type 0 where
  pub walk : left_of new ≡ meets ++ left_of old
  pub size : total new < much + total old

-- This was looked at, and put on what was left: what it comes to is smaller unless it is met.
pub record IsLook (work : Work) (old new : List Work) : Type 0 where
  pub walk : left_of new ≡ walk_of work ++ left_of old
  pub size : is_met work ≡ false → total new < size_of work + total old
