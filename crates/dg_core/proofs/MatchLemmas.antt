-- The closures that stand in a rule are those that it mentions, where no query stands as a value.
use Rattle.std.proofs.Common.{false, refl}
use Rattle.dg_base.specs.Mentions as mentions
use Rattle.dg_base.specs.Mentions.{Mentions, nothing, thing, closed, of_parts, of_value, of_values, of_stmt, of_stmts, of_branches, of_body, of_arms, of_changes, of_rule}
use Rattle.dg_base.specs.Tree as tree
use Rattle.dg_base.specs.Tree.{Parts, Value, Values, Stmt, Stmts, Body, Arms, Changes}
use Rattle.dg_base.specs.declared.mentions.Role.TheVariants as role
use Rattle.dg_core.specs.Bodies.{Closed, no_closure, a_closure, joined_closures, in_value, in_values, in_parts, in_stmt, in_stmts, in_branches, in_arms, in_changes}
use Rattle.dg_core.specs.Matches.{ArePlain, Matches}

plain_front : (a b : Mentions) → ArePlain (mentions.join a b) → ArePlain a
plain_front nothing b h = tt
plain_front (thing t ms) b h = (h.0, plain_front ms b h.1)
plain_front (closed inner ms) b h = (h.0, plain_front ms b h.1)

plain_back : (a b : Mentions) → ArePlain (mentions.join a b) → ArePlain b
plain_back nothing b h = h
plain_back (thing t ms) b h = plain_back ms b h.1
plain_back (closed inner ms) b h = plain_back ms b h.1

-- some closures and then others
joined : (a b : Mentions) (cs ds : Closed) → Matches a cs → Matches b ds → Matches (mentions.join a b) (joined_closures cs ds)
joined nothing b no_closure ds h k = k
joined nothing b (a_closure x inner cs) ds h k = absurd h
joined (thing t ms) b cs ds h k = joined ms b cs ds h k
joined (closed within ms) b no_closure ds h k = absurd h
joined (closed within ms) b (a_closure x inner cs) ds h k = (h.0, h.1, h.2, joined ms b cs ds h.3 k)

mutual
  pub value_matches : (v : Value) → ArePlain (of_value false v) → Matches (of_value false v) (in_value v)
  value_matches (tree.num n) h = tt
  value_matches (tree.dict_word w) h = tt
  value_matches (tree.object_name n) h = tt
  value_matches tree.current_topic h = tt
  value_matches tree.anonymous h = tt
  value_matches (tree.variable n) h = tt
  value_matches (tree.plain_list vs) h = values_match vs h.1
  value_matches (tree.tailed_list vs v) h =
      joined (of_values false vs) (of_value false v) (in_values vs) (in_value v) (values_match vs (plain_front (of_values false vs) (of_value false v) h.1)) (value_matches v (plain_back (of_values false vs) (of_value false v) h.1))
  value_matches (tree.closure b) h = (refl, refl, branches_match b h.0.1, tt)
  value_matches (tree.nested ps) h = absurd h.0
  value_matches (tree.word_choice ws) h = tt

  values_match : (vs : Values) → ArePlain (of_values false vs) → Matches (of_values false vs) (in_values vs)
  values_match tree.no_values h = tt
  values_match (tree.value v vs) h = joined (of_value false v) (of_values false vs) (in_value v) (in_values vs) (value_matches v (plain_front (of_value false v) (of_values false vs) h)) (values_match vs (plain_back (of_value false v) (of_values false vs) h))

  pub parts_match : (ps : Parts) → ArePlain (of_parts false ps) → Matches (of_parts false ps) (in_parts ps)
  parts_match tree.no_parts h = tt
  parts_match (tree.part (tree.part_word w) ps) h = parts_match ps h
  parts_match (tree.part (tree.part_value v) ps) h = joined (of_value false v) (of_parts false ps) (in_value v) (in_parts ps) (value_matches v (plain_front (of_value false v) (of_parts false ps) h)) (parts_match ps (plain_back (of_value false v) (of_parts false ps) h))

  stmt_matches : (s : Stmt) → ArePlain (of_stmt false s) → Matches (of_stmt false s) (in_stmt s)
  stmt_matches (tree.text w) h = tt
  stmt_matches (tree.print v) h = value_matches v h.1
  stmt_matches (tree.ask ps) h = parts_match ps h.1
  stmt_matches (tree.ask_all ps) h = parts_match ps h.1
  stmt_matches (tree.ask_not ps) h = parts_match ps h.1
  stmt_matches (tree.group b) h = branches_match b h.1.1
  stmt_matches (tree.not_group b) h = branches_match b h.1.1
  stmt_matches (tree.now cs) h = changes_match cs h.1
  stmt_matches (tree.choice arms) h = arms_match arms h.1
  stmt_matches (tree.choice_else arms b) h =
      joined (of_arms false arms) (of_body false b) (in_arms arms) (in_branches b) (arms_match arms (plain_front (of_arms false arms) (of_body false b) h.1)) (branches_match b (plain_back (of_arms false arms) (of_body false b) h.1).1)
  stmt_matches (tree.exhaust s) h = stmt_matches s h.1
  stmt_matches (tree.stoppable s) h = stmt_matches s h.1
  stmt_matches (tree.collect v b into) h =
      let rest = plain_back (of_value false v) (mentions.join (of_body false b) (of_value false into)) h.1 in
      joined (of_value false v) (mentions.join (of_body false b) (of_value false into)) (in_value v) (joined_closures (in_branches b) (in_value into)) (value_matches v (plain_front (of_value false v) (mentions.join (of_body false b) (of_value false into)) h.1))
      (joined (of_body false b) (of_value false into) (in_branches b) (in_value into) (branches_match b (plain_front (of_body false b) (of_value false into) rest).1) (value_matches into (plain_back (of_body false b) (of_value false into) rest)))
  stmt_matches (tree.accumulate v b into) h =
      let rest = plain_back (of_value false v) (mentions.join (of_body false b) (of_value false into)) h.1 in
      joined (of_value false v) (mentions.join (of_body false b) (of_value false into)) (in_value v) (joined_closures (in_branches b) (in_value into)) (value_matches v (plain_front (of_value false v) (mentions.join (of_body false b) (of_value false into)) h.1))
      (joined (of_body false b) (of_value false into) (in_branches b) (in_value into) (branches_match b (plain_front (of_body false b) (of_value false into) rest).1) (value_matches into (plain_back (of_body false b) (of_value false into) rest)))
  stmt_matches (tree.select mode b) h = branches_match b h.1
  stmt_matches (tree.first_answer b) h = branches_match b h.1.1

  stmts_match : (ss : Stmts) → ArePlain (of_stmts false ss) → Matches (of_stmts false ss) (in_stmts ss)
  stmts_match tree.no_stmts h = tt
  stmts_match (tree.stmt s ss) h = joined (of_stmt false s) (of_stmts false ss) (in_stmt s) (in_stmts ss) (stmt_matches s (plain_front (of_stmt false s) (of_stmts false ss) h)) (stmts_match ss (plain_back (of_stmt false s) (of_stmts false ss) h))

  pub branches_match : (b : Body) → ArePlain (of_branches false b) → Matches (of_branches false b) (in_branches b)
  branches_match tree.no_branches h = tt
  branches_match (tree.branch ss b) h = joined (of_stmts false ss) (of_branches false b) (in_stmts ss) (in_branches b) (stmts_match ss (plain_front (of_stmts false ss) (of_branches false b) h)) (branches_match b (plain_back (of_stmts false ss) (of_branches false b) h))

  arms_match : (arms : Arms) → ArePlain (of_arms false arms) → Matches (of_arms false arms) (in_arms arms)
  arms_match tree.no_arms h = tt
  arms_match (tree.arm c b arms) h =
      let rest = plain_back (of_body false c) (mentions.join (of_body false b) (of_arms false arms)) h in
      joined (of_body false c) (mentions.join (of_body false b) (of_arms false arms)) (in_branches c) (joined_closures (in_branches b) (in_arms arms)) (branches_match c (plain_front (of_body false c) (mentions.join (of_body false b) (of_arms false arms)) h).1)
      (joined (of_body false b) (of_arms false arms) (in_branches b) (in_arms arms) (branches_match b (plain_front (of_body false b) (of_arms false arms) rest).1) (arms_match arms (plain_back (of_body false b) (of_arms false arms) rest)))

  changes_match : (cs : Changes) → ArePlain (of_changes false cs) → Matches (of_changes false cs) (in_changes cs)
  changes_match tree.no_changes h = tt
  changes_match (tree.change ps set cs) h = joined (of_parts false ps) (of_changes false cs) (in_parts ps) (in_changes cs) (parts_match ps (plain_front (of_parts false ps) (of_changes false cs) h.1)) (changes_match cs (plain_back (of_parts false ps) (of_changes false cs) h.1))

pub rule_matches : (ps : Parts) (b : Body) → ArePlain (of_rule role.Rule ps b) → Matches (of_rule role.Rule ps b) (joined_closures (in_parts ps) (in_branches b))
rule_matches ps b h = joined (of_parts false ps) (of_body false b) (in_parts ps) (in_branches b) (parts_match ps (plain_front (of_parts false ps) (of_body false b) h.1)) (branches_match b (plain_back (of_parts false ps) (of_body false b) h.1).1)
