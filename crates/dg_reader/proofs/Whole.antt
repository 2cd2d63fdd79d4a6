-- Each form that is spelled is read: by recursion on the tree.
use Rattle.std.proofs.Common.{◌≡◌, ◌⊎◌, inl, inr, ℕ, List, [], ◌∷◌, ◌++◌, Bool, true, false, Option, Some, refl, ◌∙◌, ap, subst}
use Rattle.std.specs.Prelude.{codes}
use Rattle.dg_base.specs.Tree.{Part, part_word, part_value, Parts, no_parts, part, Value, num, dict_word, object_name, current_topic, anonymous, variable, plain_list, tailed_list, closure, nested, word_choice, Values, no_values, value, Stmt, text, print, ask, ask_all, ask_not, group, not_group, now, choice, choice_else, exhaust, stoppable, collect, accumulate, select, first_answer, Stmts, no_stmts, stmt, Body, no_branches, branch, Arms, no_arms, arm, Changes, no_changes, change, stmts_of, arms_of}
use Rattle.dg_reader.specs.Tokens.{Tok, word, object, var, anon, open_round, close_round, open_square, close_square, open_brace, close_brace, bar, star, tilde}
use Rattle.dg_reader.specs.Grammar.{now_word, if_word, then_word, elseif_word, else_word, endif_word, or_word, exhaust_word, stoppable_word, select_word, end_word, Keyword, collect_word, accumulate_word, into_word, keyword_with, is_query, IsQuery, Follow, TokenAt, Where, KeywordAt, Parenthesis, Place, of_query, has_choices, TakesQuery, SpellsNumber, SpellsWord, SpellsChoice, HasArm, IsOneChange, ChangeSignAt, PartAt, PartsAt, ValueAt, ElementsAt, StmtAt, StmtsAt, BodyAt, BranchesAt, ArmsAt, ChangesAt}
use Rattle.dg_open.specs.inside.Standing.{Asking, for_one, for_all, for_none, Owner, of_group, of_not_group, of_closure, of_condition, of_then, of_else, of_select, of_collect, of_accumulate, Wrapper, exhausting, stopping, Frame, in_head, in_nested, in_query, in_change, in_list, in_tail, behind_now, in_changes, behind_clear, in_body, Stack, body_of}
use Rattle.dg_reader.specs.inside.Machine.{asked, wrap, wrapped, new_body, put_stmt, put_value, put_printed, put_change, body_keyword, query_closes, step, Outcome}
use Rattle.dg_reader.proofs.Sound.{TakesChange, IsBody, place_in}
use Rattle.dg_reader.proofs.Complete.{parts_onto, parts_of-onto, elements_onto, values_of-onto, stmts_onto, stmts_of-onto, branches_after, branches_after-push, branches_after-last, arms_after, arms_after-push, arms_after-none, changes_onto, changes_of-onto, out, outs, by, one_read, token_read, Round, nested_round, query_round, change_round, round_frame, round_place, word_step, keyword_read, Shows, number_step, dict_step, choice_step, object_step, star_step, list_opens, closure_opens, closure_put, bar_step, no_query, query_end, nested_end, change_end, if_not}

number_there : (n : ℕ) (t : Tok) (st : Stack) → Shows st (num n) → SpellsNumber n t → (r : List Tok) (X : Outcome) → outs r (put_printed (num n) st) ≡ X → outs r (step t st) ≡ X
number_there n (word w) st s p r X h = by r _ _ X (number_step w n st s p.0 p.1) h
number_there n t st s p r X h = absurd p

part_shown : (k : Round) (qs : List Part) (below : Stack) (v : Value) → Shows (round_frame k qs ∷ below) v
part_shown (nested_round c) qs below v = tt
part_shown (query_round a) qs below v = tt
part_shown (change_round set) qs below v = tt

part_put : (k : Round) (qs : List Part) (below : Stack) (v : Value) → put_printed v (round_frame k qs ∷ below) ≡ Some (round_frame k (qs ++ part_value v ∷ []) ∷ below)
part_put (nested_round c) qs below v = refl
part_put (query_round a) qs below v = refl
part_put (change_round set) qs below v = refl

part_place : (k : Round) (qs : List Part) (below : Stack) → round_place k ≡ place_in (round_frame k qs ∷ below)
part_place (nested_round c) qs below = refl
part_place (query_round a) qs below = refl
part_place (change_round set) qs below = refl

-- a nested query is put only into a head
nested_put : (ps : Parts) (st : Stack) → Shows st (nested ps) → put_value (nested ps) st ≡ put_printed (nested ps) st
nested_put ps (in_head sign qs ∷ below) s = refl
nested_put ps (in_nested c qs ∷ below) s = refl
nested_put ps (in_query a qs ∷ below) s = refl
nested_put ps (in_change set qs ∷ below) s = refl
nested_put ps (in_list c vs ∷ below) s = refl
nested_put ps (in_tail c vs ∷ below) s = refl
nested_put ps st s = absurd s

nested_opens : (ps : Parts) (st : Stack) → Shows st (nested ps) → TakesQuery (place_in st) → step open_round st ≡ Some (in_nested (has_choices (place_in st)) [] ∷ st)
nested_opens ps (in_head sign qs ∷ below) s q = refl
nested_opens ps (in_nested c qs ∷ below) s q = absurd q
nested_opens ps (in_query a qs ∷ below) s q = absurd q
nested_opens ps (in_change set qs ∷ below) s q = absurd q
nested_opens ps (in_list c vs ∷ below) s q = absurd q
nested_opens ps (in_tail c vs ∷ below) s q = absurd q
nested_opens ps st s q = absurd s

-- the sign of a change, and its parenthesis
change_opens : (set : Bool) (g : Frame) (below : Stack) (K : Follow) (ts : List Tok) (X : Outcome) → TakesChange (g ∷ below) → ChangeSignAt set (TokenAt open_round K) ts → ((r : List Tok) → K r → out r (in_change set [] ∷ g ∷ below) ≡ X) → out ts (g ∷ below) ≡ X
change_opens true behind_now below K ts X t a h = token_read open_round K ts (behind_now ∷ below) X a h
change_opens true (in_changes cs) below K ts X t a h = token_read open_round K ts (in_changes cs ∷ below) X a h
change_opens false behind_now below K ts X t a h = token_read tilde (TokenAt open_round K) ts (behind_now ∷ below) X a (λ r b. token_read open_round K r (behind_clear ∷ behind_now ∷ below) X b h)
change_opens false (in_changes cs) below K ts X t a h = token_read tilde (TokenAt open_round K) ts (in_changes cs ∷ below) X a (λ r b. token_read open_round K r (behind_clear ∷ in_changes cs ∷ below) X b h)
change_opens set g below K ts X t a h = absurd t

change_sign_where : (set : Bool) (C : Type 0) (K : Follow) (ts : List Tok) → ChangeSignAt set (Where C K) ts → C × ChangeSignAt set K ts
change_sign_where true C K ts a = a
change_sign_where false C K [] a = absurd a
change_sign_where false C K (t ∷ ts) a = (a.1.0, (a.0, a.1.1))

wrapped-push : (ws : List Wrapper) (w : Wrapper) (s : Stmt) → wrapped (ws ++ w ∷ []) s ≡ wrapped ws (wrap w s)
wrapped-push [] w s = refl
wrapped-push (x ∷ ws) w s = ap (wrap x) (wrapped-push ws w s)

-- What a statement behind waiting keywords becomes.
put_wrapped : (w : Wrapper) (s : Stmt) (o : Owner) (bs : List Stmts) (ss : List Stmt) (ws : List Wrapper) (below : Stack) → put_stmt s (in_body o bs ss (ws ++ w ∷ []) ∷ below) ≡ put_stmt (wrap w s) (in_body o bs ss ws ∷ below)
put_wrapped w s o bs ss ws below = ap (λ (x : Stmt). Some (in_body o bs (ss ++ x ∷ []) [] ∷ below)) (wrapped-push ws w s)

-- A query's parenthesis closes.
query_closed : (a : Asking) (ps : Parts) → IsQuery ps → (st : Stack) (K : Follow) (X : Outcome) → ((r : List Tok) → K r → outs r (put_stmt (asked a ps) st) ≡ X) → (r : List Tok) → TokenAt close_round K r → out r (in_query a (parts_onto [] ps) ∷ st) ≡ X
query_closed a ps q st K X h r c = token_read close_round K r _ X c (λ p d. by p _ _ X (query_end a _ ps st (parts_of-onto [] ps) q) (h p d))

-- A keyword's parenthesis with a value closes.
valued_closed : (v : Value) (w : List ℕ) (k : Keyword) (st : Stack) (K : Follow) (X : Outcome) → keyword_with w v ≡ Some k → ((r : List Tok) → K r → outs r (body_keyword k st) ≡ X) → (r : List Tok) → TokenAt close_round K r → out r (in_query for_one (part_word w ∷ part_value v ∷ []) ∷ st) ≡ X
valued_closed v w k st K X e h r b = token_read close_round K r _ X b (λ p c. by p _ _ X (ap (λ (o : Option Keyword). query_closes o for_one (part (part_word w) (part (part_value v) no_parts)) st) e) (h p c))

-- One change, of which the inside of the parenthesis is read so.
change_read : (ps : Parts) (set : Bool) (g : Frame) (st : Stack) → TakesChange (g ∷ st) → (K : Follow) (ts : List Tok) (X : Outcome) → ChangeSignAt set (Parenthesis ps (λ F. PartsAt of_query ps F) K) ts → ((r : List Tok) → K r → outs r (put_change ps set (g ∷ st)) ≡ X) → ((r : List Tok) → PartsAt of_query ps (TokenAt close_round K) r → ((q : List Tok) → TokenAt close_round K q → out q (in_change set (parts_onto [] ps) ∷ g ∷ st) ≡ X) → out r (in_change set [] ∷ g ∷ st) ≡ X) → out ts (g ∷ st) ≡ X
change_read ps set g st t K ts X a h inside =
    let q = change_sign_where set (IsQuery ps) (TokenAt open_round (PartsAt of_query ps (TokenAt close_round K))) ts a in
    change_opens set g st _ ts X t q.1
    (λ r b. inside r b (λ n c. token_read close_round K n _ X c (λ p d. by p _ _ X (change_end set _ ps (g ∷ st) (parts_of-onto [] ps) q.0) (h p d))))

either_way : {A B C : Type 0} → A ⊎ B → (A → C) → (B → C) → C
either_way (inl a) f g = f a
either_way (inr b) f g = g b

-- ---- the tree

mutual
  pub part_read : (p : Part) (k : Round) (qs : List Part) (below : Stack) (K : Follow) (ts : List Tok) (X : Outcome) → PartAt (round_place k) p K ts → ((r : List Tok) → K r → out r (round_frame k (qs ++ p ∷ []) ∷ below) ≡ X) → out ts (round_frame k qs ∷ below) ≡ X
  part_read (part_word w) k qs below K ts X a h = token_read (word w) K ts (round_frame k qs ∷ below) X a.1 (λ r b. by r _ _ X (word_step k qs below w a.0) (h r b))
  part_read (part_value v) k qs below K ts X a h =
      value_read v (round_frame k qs ∷ below) K ts X (part_shown k qs below v) (subst (λ (p : Place). ValueAt p v K ts) (part_place k qs below) a)
      (λ r b. by r _ _ X (part_put k qs below v) (h r b))

  pub parts_read : (ps : Parts) (k : Round) (qs : List Part) (below : Stack) (K : Follow) (ts : List Tok) (X : Outcome) → PartsAt (round_place k) ps K ts → ((r : List Tok) → K r → out r (round_frame k (parts_onto qs ps) ∷ below) ≡ X) → out ts (round_frame k qs ∷ below) ≡ X
  parts_read no_parts k qs below K ts X a h = h ts a
  parts_read (part p ps) k qs below K ts X a h =
      part_read p k qs below (PartsAt (round_place k) ps K) ts X a (λ r b. parts_read ps k (qs ++ p ∷ []) below K r X b h)

  pub value_read : (v : Value) (st : Stack) (K : Follow) (ts : List Tok) (X : Outcome) → Shows st v → ValueAt (place_in st) v K ts → ((r : List Tok) → K r → outs r (put_printed v st) ≡ X) → out ts st ≡ X
  value_read (num n) st K ts X s a h = one_read (SpellsNumber n) K ts st X a (λ t p r b. number_there n t st s p r X (h r b))
  value_read (dict_word w) st K ts X s a h = one_read (SpellsWord (place_in st) w) K ts st X a (λ t p r b. by r _ _ X (dict_step w t st p s) (h r b))
  value_read (object_name w) st K ts X s a h = token_read (object w) K ts st X a (λ r b. by r _ _ X (object_step w st s) (h r b))
  value_read current_topic st K ts X s a h = token_read star K ts st X a (λ r b. by r _ _ X (star_step st s) (h r b))
  value_read anonymous st K ts X s a h = token_read anon K ts st X a h
  value_read (variable w) st K ts X s a h = token_read (var w) K ts st X a h
  value_read (plain_list vs) st K ts X s a h =
      let c = has_choices (place_in st) in
      token_read open_square _ ts st X a
      (λ r b. by r _ _ X (list_opens (plain_list vs) st s)
      (elements_read vs c [] st (TokenAt close_square K) r X b
      (λ q d. token_read close_square K q _ X d (λ p e. by p _ _ X (ap (λ (us : Values). put_printed (plain_list us) st) (values_of-onto [] vs)) (h p e)))))
  value_read (tailed_list vs v) st K ts X s a h =
      let c = has_choices (place_in st) in
      token_read open_square _ ts st X a.1
      (λ r b. by r _ _ X (list_opens (tailed_list vs v) st s)
      (elements_read vs c [] st _ r X b
      (λ q d. token_read bar _ q _ X d (λ p e. by p _ _ X (bar_step c (elements_onto [] vs) vs st a.0 (values_of-onto [] vs))
      (value_read v (in_tail c (elements_onto [] vs) ∷ st) (TokenAt close_square K) p X tt e
      (λ o f. token_read close_square K o _ X f (λ n g. by n _ _ X (ap (λ (us : Values). put_printed (tailed_list us v) st) (values_of-onto [] vs)) (h n g))))))))
  value_read (closure b) st K ts X s a h =
      token_read open_brace _ ts st X a
      (λ r c. by r _ _ X (closure_opens b st s)
      (body_read b of_closure st (TokenAt close_brace K) r X c
      (λ q bs ss is d. token_read close_brace K q _ X d (λ p e. by p _ _ X (ap (λ (x : Body). put_value (closure x) st) is ∙ closure_put b st s) (h p e)))))
  value_read (nested ps) st K ts X s a h =
      let c = has_choices (place_in st) in
      token_read open_round _ ts st X a.1.1
      (λ r b. by r _ _ X (nested_opens ps st s a.0)
      (parts_read ps (nested_round c) [] st (TokenAt close_round K) r X b
      (λ q d. token_read close_round K q _ X d (λ p e. by p _ _ X (nested_end _ ps st (parts_of-onto [] ps) a.1.0 ∙ nested_put ps st s) (h p e)))))
  value_read (word_choice ws) st K ts X s a h = one_read (SpellsChoice (place_in st) ws) K ts st X a (λ t p r b. by r _ _ X (choice_step ws t st p) (h r b))

  pub elements_read : (vs : Values) (c : Bool) (us : List Value) (below : Stack) (K : Follow) (ts : List Tok) (X : Outcome) → ElementsAt c vs K ts → ((r : List Tok) → K r → out r (in_list c (elements_onto us vs) ∷ below) ≡ X) → out ts (in_list c us ∷ below) ≡ X
  elements_read no_values c us below K ts X a h = h ts a
  elements_read (value v vs) c us below K ts X a h =
      value_read v (in_list c us ∷ below) (ElementsAt c vs K) ts X tt a (λ r b. elements_read vs c (us ++ v ∷ []) below K r X b h)

  pub stmt_read : (s : Stmt) (o : Owner) (bs : List Stmts) (ss : List Stmt) (ws : List Wrapper) (below : Stack) (K : Follow) (ts : List Tok) (X : Outcome) → StmtAt s K ts → ((r : List Tok) → K r → outs r (put_stmt s (in_body o bs ss ws ∷ below)) ≡ X) → out ts (in_body o bs ss ws ∷ below) ≡ X
  stmt_read (text w) o bs ss ws below K ts X a h = token_read (word w) K ts _ X a h
  stmt_read (print v) o bs ss ws below K ts X a h = value_read v (in_body o bs ss ws ∷ below) K ts X a.0 a.1 h
  stmt_read (ask ps) o bs ss ws below K ts X a h = token_read open_round _ ts _ X a.1 (λ r b. parts_read ps (query_round for_one) [] (in_body o bs ss ws ∷ below) (TokenAt close_round K) r X b (query_closed for_one ps a.0 (in_body o bs ss ws ∷ below) K X h))
  stmt_read (ask_all ps) o bs ss ws below K ts X a h =
      token_read star _ ts _ X a (λ r b. token_read open_round _ r _ X b.1 (λ q c. parts_read ps (query_round for_all) [] (in_body o bs ss ws ∷ below) (TokenAt close_round K) q X c (query_closed for_all ps b.0 (in_body o bs ss ws ∷ below) K X h)))
  stmt_read (ask_not ps) o bs ss ws below K ts X a h =
      token_read tilde _ ts _ X a (λ r b. token_read open_round _ r _ X b.1 (λ q c. parts_read ps (query_round for_none) [] (in_body o bs ss ws ∷ below) (TokenAt close_round K) q X c (query_closed for_none ps b.0 (in_body o bs ss ws ∷ below) K X h)))
  stmt_read (group b) o bs ss ws below K ts X a h =
      token_read open_brace _ ts _ X a
      (λ r c. body_read b of_group (in_body o bs ss ws ∷ below) (TokenAt close_brace K) r X c
      (λ q cs us is d. token_read close_brace K q _ X d (λ p e. by p _ _ X (ap (λ (x : Body). put_stmt (group x) (in_body o bs ss ws ∷ below)) is) (h p e))))
  stmt_read (not_group b) o bs ss ws below K ts X a h =
      token_read tilde _ ts _ X a
      (λ n m. token_read open_brace _ n _ X m
      (λ r c. body_read b of_not_group (in_body o bs ss ws ∷ below) (TokenAt close_brace K) r X c
      (λ q cs us is d. token_read close_brace K q _ X d (λ p e. by p _ _ X (ap (λ (x : Body). put_stmt (not_group x) (in_body o bs ss ws ∷ below)) is) (h p e)))))
  stmt_read (now cs) o bs ss ws below K ts X a h =
      keyword_read now_word o bs ss ws below _ ts X a (λ r b. either_way b
      (λ x. one_change_read cs (in_body o bs ss ws ∷ below) K r X x.0 x.1 h)
      (λ x. token_read open_brace _ r (behind_now ∷ in_body o bs ss ws ∷ below) X x
      (λ q c. changes_read cs [] (in_body o bs ss ws ∷ below) (TokenAt close_brace K) q X c
      (λ n d. token_read close_brace K n _ X d (λ p e. by p _ _ X (ap (λ (y : Changes). put_stmt (now y) (in_body o bs ss ws ∷ below)) (changes_of-onto [] cs)) (h p e))))))
  stmt_read (choice as') o bs ss ws below K ts X a h =
      arms_read as' (in_body o bs ss ws ∷ below) (KeywordAt endif_word K) ts X a.0 (tt, a.1)
      (λ r xs c cs us is b. keyword_read endif_word (of_then xs c) cs us [] (in_body o bs ss ws ∷ below) K r X b
      (λ q d. by q _ _ X (ap (λ (x : Arms). put_stmt (choice x) (in_body o bs ss ws ∷ below)) is) (h q d)))
  stmt_read (choice_else as' e) o bs ss ws below K ts X a h =
      let st = in_body o bs ss ws ∷ below in
      arms_read as' st (KeywordAt else_word (BodyAt e (KeywordAt endif_word K))) ts X a.0 (tt, a.1)
      (λ r xs c cs us is b. keyword_read else_word (of_then xs c) cs us [] st _ r X b
      (λ q d. body_read e (of_else (xs ++ (c, body_of cs us) ∷ [])) st (KeywordAt endif_word K) q X d
      (λ p ds vs it f. keyword_read endif_word (of_else (xs ++ (c, body_of cs us) ∷ [])) ds vs [] st K p X f
      (λ n g. by n _ _ X (ap (λ (x : Arms). put_stmt (choice_else x (body_of ds vs)) st) is ∙ ap (λ (x : Body). put_stmt (choice_else as' x) st) it) (h n g)))))
  stmt_read (exhaust s) o bs ss ws below K ts X a h =
      keyword_read exhaust_word o bs ss ws below (StmtAt s K) ts X a
      (λ r b. stmt_read s o bs ss (ws ++ exhausting ∷ []) below K r X b (λ q c. by q _ _ X (put_wrapped exhausting s o bs ss ws below) (h q c)))
  stmt_read (stoppable s) o bs ss ws below K ts X a h =
      keyword_read stoppable_word o bs ss ws below (StmtAt s K) ts X a
      (λ r b. stmt_read s o bs ss (ws ++ stopping ∷ []) below K r X b (λ q c. by q _ _ X (put_wrapped stopping s o bs ss ws below) (h q c)))
  stmt_read (collect v b into) o bs ss ws below K ts X a h =
      let st = in_body o bs ss ws ∷ below in
      token_read open_round _ ts st X a (λ n m. token_read (word (codes "collect")) _ n _ X m
      (λ r c. value_read v (in_query for_one (part_word (codes "collect") ∷ []) ∷ st) _ r X tt c
      (valued_closed v (codes "collect") (collect_word v) st _ X (if_not (is_query v) _ _ (no_query v _ r c)) (λ q d. body_read b (of_collect v) st _ q X d
      (λ p cs us is e. token_read open_round _ p _ X e (λ l k. token_read (word (codes "into")) _ l _ X k
      (λ i f. value_read into (in_query for_one (part_word (codes "into") ∷ []) ∷ in_body (of_collect v) cs us [] ∷ st) _ i X tt f
      (valued_closed into (codes "into") (into_word into) (in_body (of_collect v) cs us [] ∷ st) K X (if_not (is_query into) _ _ (no_query into _ i f)) (λ j g. by j _ _ X (ap (λ (x : Body). put_stmt (collect v x into) st) is) (h j g))))))))))
  stmt_read (accumulate v b into) o bs ss ws below K ts X a h =
      let st = in_body o bs ss ws ∷ below in
      token_read open_round _ ts st X a (λ n m. token_read (word (codes "accumulate")) _ n _ X m
      (λ r c. value_read v (in_query for_one (part_word (codes "accumulate") ∷ []) ∷ st) _ r X tt c
      (valued_closed v (codes "accumulate") (accumulate_word v) st _ X (if_not (is_query v) _ _ (no_query v _ r c)) (λ q d. body_read b (of_accumulate v) st _ q X d
      (λ p cs us is e. token_read open_round _ p _ X e (λ l k. token_read (word (codes "into")) _ l _ X k
      (λ i f. value_read into (in_query for_one (part_word (codes "into") ∷ []) ∷ in_body (of_accumulate v) cs us [] ∷ st) _ i X tt f
      (valued_closed into (codes "into") (into_word into) (in_body (of_accumulate v) cs us [] ∷ st) K X (if_not (is_query into) _ _ (no_query into _ i f)) (λ j g. by j _ _ X (ap (λ (x : Body). put_stmt (accumulate v x into) st) is) (h j g))))))))))
  stmt_read (select mode b) o bs ss ws below K ts X a h =
      let st = in_body o bs ss ws ∷ below in
      keyword_read select_word o bs ss ws below _ ts X a
      (λ r c. body_read b of_select st (KeywordAt (end_word mode) K) r X c
      (λ q cs us is d. keyword_read (end_word mode) of_select cs us [] st K q X d (λ p e. by p _ _ X (ap (λ (x : Body). put_stmt (select mode x) st) is) (h p e))))
  stmt_read (first_answer b) o bs ss ws below K ts X a h = absurd a

  pub stmts_read : (us : Stmts) (o : Owner) (bs : List Stmts) (ss : List Stmt) (below : Stack) (K : Follow) (ts : List Tok) (X : Outcome) → StmtsAt us K ts → ((r : List Tok) → K r → out r (in_body o bs (stmts_onto ss us) [] ∷ below) ≡ X) → out ts (in_body o bs ss [] ∷ below) ≡ X
  stmts_read no_stmts o bs ss below K ts X a h = h ts a
  stmts_read (stmt s us) o bs ss below K ts X a h = stmt_read s o bs ss [] below (StmtsAt us K) ts X a (λ r b. stmts_read us o bs (ss ++ s ∷ []) below K r X b h)

  pub body_read : (b : Body) (o : Owner) (below : Stack) (K : Follow) (ts : List Tok) (X : Outcome) → BodyAt b K ts → ((r : List Tok) (bs : List Stmts) (ss : List Stmt) → body_of bs ss ≡ b → K r → out r (in_body o bs ss [] ∷ below) ≡ X) → out ts (new_body o ∷ below) ≡ X
  body_read no_branches o below K ts X a h = absurd a
  body_read (branch us b) o below K ts X a h =
      stmts_read us o [] [] below (BranchesAt b K) ts X a
      (λ r c. branches_read b o [] (stmts_onto [] us) below K r X c
      (λ q bs ss is d. h q bs ss (is ∙ ap (λ (x : Stmts). branch x b) (stmts_of-onto [] us)) d))

  pub branches_read : (b : Body) (o : Owner) (bs : List Stmts) (ss : List Stmt) (below : Stack) (K : Follow) (ts : List Tok) (X : Outcome) → BranchesAt b K ts → ((r : List Tok) (cs : List Stmts) (us : List Stmt) → body_of cs us ≡ branches_after bs (branch (stmts_of ss) b) → K r → out r (in_body o cs us [] ∷ below) ≡ X) → out ts (in_body o bs ss [] ∷ below) ≡ X
  branches_read no_branches o bs ss below K ts X a h = h ts bs ss (branches_after-last bs (stmts_of ss)) a
  branches_read (branch vs b) o bs ss below K ts X a h =
      keyword_read or_word o bs ss [] below _ ts X a
      (λ r c. stmts_read vs o (bs ++ stmts_of ss ∷ []) [] below (BranchesAt b K) r X c
      (λ q d. branches_read b o (bs ++ stmts_of ss ∷ []) (stmts_onto [] vs) below K q X d
      (λ p cs us is e. h p cs us (is ∙ branches_after-push bs (stmts_of ss) (branch (stmts_of (stmts_onto [] vs)) b) ∙ ap (λ (x : Stmts). branches_after bs (branch (stmts_of ss) (branch x b))) (stmts_of-onto [] vs)) e)))

  -- the first condition, and those behind it
  pub arms_read : (as' : Arms) (st : Stack) (K : Follow) (ts : List Tok) (X : Outcome) → HasArm as' → IsBody st × ArmsAt if_word as' K ts → ((r : List Tok) (xs : List (Body × Body)) (c : Body) (bs : List Stmts) (ss : List Stmt) → arms_of (xs ++ (c, body_of bs ss) ∷ []) ≡ as' → K r → out r (in_body (of_then xs c) bs ss [] ∷ st) ≡ X) → out ts st ≡ X
  arms_read no_arms st K ts X i a h = absurd i
  arms_read (arm c b as') (in_body o bs ss ws ∷ below) K ts X i a h =
      let st = in_body o bs ss ws ∷ below in
      keyword_read if_word o bs ss ws below _ ts X a.1
      (λ r d. body_read c (of_condition []) st _ r X d
      (λ q cs us is e. keyword_read then_word (of_condition []) cs us [] st _ q X e
      (λ p f. body_read b (of_then [] (body_of cs us)) st _ p X f
      (λ n ds vs it g. later_arms_read as' [] (body_of cs us) ds vs st K n X g
      (λ m xs x ys zs so k. h m xs x ys zs (so ∙ ap (λ (y : Body). arm (body_of cs us) y as') it ∙ ap (λ (y : Body). arm y b as') is) k)))))
  arms_read (arm c b as') st K ts X i a h = absurd a.0

  pub later_arms_read : (as' : Arms) (before : List (Body × Body)) (c : Body) (bs : List Stmts) (ss : List Stmt) (st : Stack) (K : Follow) (ts : List Tok) (X : Outcome) → ArmsAt elseif_word as' K ts → ((r : List Tok) (xs : List (Body × Body)) (d : Body) (cs : List Stmts) (us : List Stmt) → arms_of (xs ++ (d, body_of cs us) ∷ []) ≡ arms_after before (arm c (body_of bs ss) as') → K r → out r (in_body (of_then xs d) cs us [] ∷ st) ≡ X) → out ts (in_body (of_then before c) bs ss [] ∷ st) ≡ X
  later_arms_read no_arms before c bs ss st K ts X a h = h ts before c bs ss (arms_after-none (before ++ (c, body_of bs ss) ∷ []) ∙ arms_after-push before c (body_of bs ss) no_arms) a
  later_arms_read (arm d b as') before c bs ss st K ts X a h =
      let more = before ++ (c, body_of bs ss) ∷ [] in
      keyword_read elseif_word (of_then before c) bs ss [] st _ ts X a
      (λ r e. body_read d (of_condition more) st _ r X e
      (λ q cs us is f. keyword_read then_word (of_condition more) cs us [] st _ q X f
      (λ p g. body_read b (of_then more (body_of cs us)) st _ p X g
      (λ n ds vs it k. later_arms_read as' more (body_of cs us) ds vs st K n X k
      (λ m xs x ys zs so j. h m xs x ys zs (so ∙ ap (λ (y : Body). arms_after more (arm (body_of cs us) y as')) it ∙ ap (λ (y : Body). arms_after more (arm y b as')) is ∙ arms_after-push before c (body_of bs ss) (arm d b as')) j)))))

  pub changes_read : (cs : Changes) (before : List (Parts × Bool)) (st : Stack) (K : Follow) (ts : List Tok) (X : Outcome) → ChangesAt cs K ts → ((r : List Tok) → K r → out r (in_changes (changes_onto before cs) ∷ st) ≡ X) → out ts (in_changes before ∷ st) ≡ X
  changes_read no_changes before st K ts X a h = h ts a
  changes_read (change ps set cs) before st K ts X a h =
      change_read ps set (in_changes before) st tt (ChangesAt cs K) ts X a (λ r b. changes_read cs (before ++ (ps, set) ∷ []) st K r X b h)
      (λ r b k. parts_read ps (change_round set) [] (in_changes before ∷ st) _ r X b k)

  -- one change without braces
  pub one_change_read : (cs : Changes) (st : Stack) (K : Follow) (ts : List Tok) (X : Outcome) → IsOneChange cs → ChangesAt cs K ts → ((r : List Tok) → K r → outs r (put_stmt (now cs) st) ≡ X) → out ts (behind_now ∷ st) ≡ X
  one_change_read no_changes st K ts X i a h = absurd i
  one_change_read (change ps set no_changes) st K ts X i a h = change_read ps set behind_now st tt K ts X a h (λ r b k. parts_read ps (change_round set) [] (behind_now ∷ st) _ r X b k)
  one_change_read (change ps set (change qs also cs)) st K ts X i a h = absurd i
