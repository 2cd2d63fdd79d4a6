-- What follows a form may be replaced by what it leads to.
use Rattle.std.proofs.Common.{◌≡◌, ◌⊎◌, inl, inr, ℕ, List, [], ◌∷◌, Bool, true, false}
use Rattle.dg_base.specs.Tree.{Part, part_word, part_value, Parts, no_parts, part, Value, num, dict_word, object_name, current_topic, anonymous, variable, plain_list, tailed_list, closure, nested, word_choice, Values, no_values, value, Stmt, text, print, ask, ask_all, ask_not, group, not_group, now, choice, choice_else, exhaust, stoppable, collect, accumulate, select, first_answer, Stmts, no_stmts, stmt, Body, no_branches, branch, Arms, no_arms, arm, Changes, no_changes, change}
use Rattle.dg_reader.specs.Tokens.{Tok, word, object, var, anon, at, open_round, close_round, open_square, close_square, open_brace, close_brace, bar, star, tilde, are_digits}
use Rattle.dg_reader.specs.Grammar.{Bare, now_word, if_word, then_word, elseif_word, else_word, endif_word, or_word, exhaust_word, stoppable_word, select_word, end_word, keyword_words, IsQuery, Follow, OneAt, TokenAt, Where, WordsAt, KeywordAt, Parenthesis, WordAndValue, Place, of_nested, of_query, of_list, behind_bar, printed, has_choices, TakesQuery, SpellsNumber, SpellsWord, SpellsChoice, IsPrinted, HasElement, HasArm, IsOneChange, ChangeSignAt, PartAt, PartsAt, ValueAt, ElementsAt, StmtAt, StmtsAt, BodyAt, BranchesAt, ArmsAt, ChangesAt, SignAt}
use Rattle.dg_open.specs.Shapes.{Sign, plain_rule, negated, access_rule}

-- Of each rest the one leads to the other.
abbrev pub Leads : Follow → Follow → Type 0
Leads K L = (ts : List Tok) → K ts → L ts

pub one_more : (P : Tok → Type 0) (K L : Follow) → Leads K L → Leads (OneAt P K) (OneAt P L)
one_more P K L h [] a = absurd a
one_more P K L h (t ∷ ts) a = (a.0, h ts a.1)

pub token_more : (t : Tok) (K L : Follow) → Leads K L → Leads (TokenAt t K) (TokenAt t L)
token_more t K L h = one_more (λ u. u ≡ t) K L h

pub where_more : (C : Type 0) (K L : Follow) → Leads K L → Leads (Where C K) (Where C L)
where_more C K L h ts a = (a.0, h ts a.1)

pub words_more : (ws : List (List ℕ)) (K L : Follow) → Leads K L → Leads (WordsAt ws K) (WordsAt ws L)
words_more [] K L h = h
words_more (w ∷ ws) K L h = token_more (word w) (WordsAt ws K) (WordsAt ws L) (words_more ws K L h)

pub keyword_more : (k : Bare) (K L : Follow) → Leads K L → Leads (KeywordAt k K) (KeywordAt k L)
keyword_more k K L h =
    token_more open_round (WordsAt (keyword_words k) (TokenAt close_round K)) (WordsAt (keyword_words k) (TokenAt close_round L))
    (words_more (keyword_words k) (TokenAt close_round K) (TokenAt close_round L) (token_more close_round K L h))

-- A form that hands on what follows.
abbrev pub HandsOn : (Follow → Follow) → Type 1
HandsOn F = (K L : Follow) → Leads K L → Leads (F K) (F L)

pub parenthesis_more : (ps : Parts) (F : Follow → Follow) → HandsOn F → HandsOn (Parenthesis ps F)
parenthesis_more ps F m K L h =
    where_more (IsQuery ps) (TokenAt open_round (F (TokenAt close_round K))) (TokenAt open_round (F (TokenAt close_round L)))
    (token_more open_round (F (TokenAt close_round K)) (F (TokenAt close_round L)) (m (TokenAt close_round K) (TokenAt close_round L) (token_more close_round K L h)))

pub word_and_value_more : (w : List ℕ) (F : Follow → Follow) → HandsOn F → HandsOn (WordAndValue w F)
word_and_value_more w F m K L h =
    token_more open_round (TokenAt (word w) (F (TokenAt close_round K))) (TokenAt (word w) (F (TokenAt close_round L)))
    (token_more (word w) (F (TokenAt close_round K)) (F (TokenAt close_round L)) (m (TokenAt close_round K) (TokenAt close_round L) (token_more close_round K L h)))

pub change_sign_more : (set : Bool) → HandsOn (ChangeSignAt set)
change_sign_more true K L h = h
change_sign_more false K L h = token_more tilde K L h

pub sign_more : (sign : Sign) → HandsOn (SignAt sign)
sign_more plain_rule K L h = h
sign_more negated K L h = token_more tilde K L h
sign_more access_rule K L h = token_more at K L h

either_more : (A B C D : Type 0) → (A → C) → (B → D) → A ⊎ B → C ⊎ D
either_more A B C D f g (inl a) = inl (f a)
either_more A B C D f g (inr b) = inr (g b)

mutual
  pub part_more : (p : Place) (q : Part) → HandsOn (PartAt p q)
  part_more p (part_word w) K L h = where_more (are_digits w ≡ false) (TokenAt (word w) K) (TokenAt (word w) L) (token_more (word w) K L h)
  part_more p (part_value v) K L h = value_more p v K L h

  pub parts_more : (p : Place) (ps : Parts) → HandsOn (PartsAt p ps)
  parts_more p no_parts K L h = h
  parts_more p (part q ps) K L h = part_more p q (PartsAt p ps K) (PartsAt p ps L) (parts_more p ps K L h)

  pub value_more : (p : Place) (v : Value) → HandsOn (ValueAt p v)
  value_more p (num n) K L h = one_more (SpellsNumber n) K L h
  value_more p (dict_word w) K L h = one_more (SpellsWord p w) K L h
  value_more p (object_name w) K L h = token_more (object w) K L h
  value_more p current_topic K L h = token_more star K L h
  value_more p anonymous K L h = token_more anon K L h
  value_more p (variable w) K L h = token_more (var w) K L h
  value_more p (plain_list vs) K L h = token_more open_square _ _ (elements_more (has_choices p) vs (TokenAt close_square K) (TokenAt close_square L) (token_more close_square K L h))
  value_more p (tailed_list vs v) K L h = where_more (HasElement vs) _ _ (token_more open_square _ _ (elements_more (has_choices p) vs _ _ (token_more bar _ _ (value_more (behind_bar (has_choices p)) v _ _ (token_more close_square K L h)))))
  value_more p (closure b) K L h = token_more open_brace _ _ (body_more b _ _ (token_more close_brace K L h))
  value_more p (nested ps) K L h = where_more (TakesQuery p) _ _ (parenthesis_more ps (λ F. PartsAt (of_nested (has_choices p)) ps F) (parts_more (of_nested (has_choices p)) ps) K L h)
  value_more p (word_choice ws) K L h = one_more (SpellsChoice p ws) K L h

  pub elements_more : (c : Bool) (vs : Values) → HandsOn (ElementsAt c vs)
  elements_more c no_values K L h = h
  elements_more c (value v vs) K L h = value_more (of_list c) v (ElementsAt c vs K) (ElementsAt c vs L) (elements_more c vs K L h)

  pub stmt_more : (s : Stmt) → HandsOn (StmtAt s)
  stmt_more (text w) K L h = token_more (word w) K L h
  stmt_more (print v) K L h = where_more (IsPrinted v) _ _ (value_more printed v K L h)
  stmt_more (ask ps) K L h = parenthesis_more ps (λ F. PartsAt of_query ps F) (parts_more of_query ps) K L h
  stmt_more (ask_all ps) K L h = token_more star _ _ (parenthesis_more ps (λ F. PartsAt of_query ps F) (parts_more of_query ps) K L h)
  stmt_more (ask_not ps) K L h = token_more tilde _ _ (parenthesis_more ps (λ F. PartsAt of_query ps F) (parts_more of_query ps) K L h)
  stmt_more (group b) K L h = token_more open_brace _ _ (body_more b _ _ (token_more close_brace K L h))
  stmt_more (not_group b) K L h = token_more tilde _ _ (token_more open_brace _ _ (body_more b _ _ (token_more close_brace K L h)))
  stmt_more (now cs) K L h =
      keyword_more now_word _ _
      (λ ts. either_more _ _ _ _ (where_more (IsOneChange cs) _ _ (changes_more cs K L h) ts)
      (token_more open_brace _ _ (changes_more cs _ _ (token_more close_brace K L h)) ts))
  stmt_more (choice as') K L h = where_more (HasArm as') _ _ (arms_more if_word as' _ _ (keyword_more endif_word K L h))
  stmt_more (choice_else as' b) K L h = where_more (HasArm as') _ _ (arms_more if_word as' _ _ (keyword_more else_word _ _ (body_more b _ _ (keyword_more endif_word K L h))))
  stmt_more (exhaust s) K L h = keyword_more exhaust_word _ _ (stmt_more s K L h)
  stmt_more (stoppable s) K L h = keyword_more stoppable_word _ _ (stmt_more s K L h)
  stmt_more (collect v b into) K L h = word_and_value_more _ (λ F. ValueAt of_query v F) (value_more of_query v) _ _ (body_more b _ _ (word_and_value_more _ (λ F. ValueAt of_query into F) (value_more of_query into) K L h))
  stmt_more (accumulate v b into) K L h = word_and_value_more _ (λ F. ValueAt of_query v F) (value_more of_query v) _ _ (body_more b _ _ (word_and_value_more _ (λ F. ValueAt of_query into F) (value_more of_query into) K L h))
  stmt_more (select mode b) K L h = keyword_more select_word _ _ (body_more b _ _ (keyword_more (end_word mode) K L h))
  stmt_more (first_answer b) K L h = λ ts a. absurd a

  pub stmts_more : (ss : Stmts) → HandsOn (StmtsAt ss)
  stmts_more no_stmts K L h = h
  stmts_more (stmt s ss) K L h = stmt_more s (StmtsAt ss K) (StmtsAt ss L) (stmts_more ss K L h)

  pub body_more : (b : Body) → HandsOn (BodyAt b)
  body_more no_branches K L h = λ ts a. absurd a
  body_more (branch ss b) K L h = stmts_more ss (BranchesAt b K) (BranchesAt b L) (branches_more b K L h)

  pub branches_more : (b : Body) → HandsOn (BranchesAt b)
  branches_more no_branches K L h = h
  branches_more (branch ss b) K L h = keyword_more or_word _ _ (stmts_more ss (BranchesAt b K) (BranchesAt b L) (branches_more b K L h))

  pub arms_more : (k : Bare) (as' : Arms) → HandsOn (ArmsAt k as')
  arms_more k no_arms K L h = h
  arms_more k (arm c b as') K L h = keyword_more k _ _ (body_more c _ _ (keyword_more then_word _ _ (body_more b _ _ (arms_more elseif_word as' K L h))))

  pub changes_more : (cs : Changes) → HandsOn (ChangesAt cs)
  changes_more no_changes K L h = h
  changes_more (change ps set cs) K L h = change_sign_more set _ _ (parenthesis_more ps (λ F. PartsAt of_query ps F) (parts_more of_query ps) _ _ (changes_more cs K L h))
