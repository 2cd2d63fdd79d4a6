-- What is read of tokens whose texts are spelled can be printed, and its numbers are in their range.
use Rattle.std.proofs.Common.{◌≡◌, ◌≤◌, ◌⊎◌, inl, inr, ℕ, List, [], ◌∷◌, ◌++◌, Bool, true, false, Some, None, codes, refl, sym, subst, arith}
use Rattle.std.specs.Prelude.{if◌then◌else◌, nat_le}
use Rattle.std.specs.List.{All}
use Rattle.std.proofs.lemmas.Bool.Decides.{nat_tests}
use Rattle.std.proofs.lemmas.List.Elements.{All-nil, All-cons, All-append, All-head, All-tail}
use Rattle.dg_base.specs.Heads.{name_of}
use Rattle.dg_base.specs.Mentions.{Mentions, nothing, thing, closed, join, of_parts, of_value, of_values, of_stmt, of_stmts, of_branches, of_body, of_arms, of_changes, of_said, things, things_in, mentioned}
use Rattle.dg_base.specs.Mentions as mentions
use Rattle.dg_base.specs.Sound.{IsName}
use Rattle.dg_base.specs.Tree as tree
use Rattle.dg_base.specs.Tree.{Parts, Value, Values, Stmt, Stmts, Body, Arms, Changes, Item}
use Rattle.dg_lex.specs.Spelled.{IsSpelled, SpellsText, IsSpelledToken}
use Rattle.dg_lex.specs.Tokens.{Seen}
use Rattle.dg_lex.specs.declared.token.TokenKind.{TokenKind}
use Rattle.dg_lex.specs.declared.token.TokenKind.TheVariants.{Word, Dict, Object}
use Rattle.dg_lex.proofs.TextLemmas.{name_from}
use Rattle.dg_reader.specs.Grammar.{Bare, now_word, if_word, then_word, elseif_word, else_word, endif_word, or_word, exhaust_word, stoppable_word, select_word, end_word, keyword_words, IsQuery, Follow, OneAt, TokenAt, Where, WordsAt, KeywordAt, Place, of_nested, of_query, of_list, behind_bar, printed, has_choices, TakesQuery, SpellsNumber, SpellsElement, SpellsWord, SpellsChoice, IsPrinted, HasElement, HasArm, IsOneChange, ChangeSignAt, PartsAt, ValueAt, ElementsAt, StmtAt, StmtsAt, BodyAt, BranchesAt, ArmsAt, ChangesAt, is_declaration, head_place, SignAt, ShapeAt, IsEnd}
use Rattle.dg_open.specs.Shapes.{Sign, plain_rule, negated, access_rule, Shape, topic_line, clause}
use Rattle.dg_reader.specs.Read.{toks, declared, said_of, IsItemAt, ReadTo}
use Rattle.dg_base.specs.Readable.{IsReadable}
use Rattle.dg_reader.specs.TokenView.{kind_view}
use Rattle.dg_reader.specs.Tokens.{Tok, word, dict, object, var, anon, at, open_round, close_round, open_square, close_square, open_brace, close_brace, bar, star, tilde, are_digits, digits_value, digits_number}
use Rattle.dg_reader.proofs.PartLemmas.{WordsSpelled, head_named, choice_named}

-- ---- mentions

-- each of these mentions is readable, at every depth
abbrev Hold : Mentions → Type 0
Hold nothing = Unit {0}
Hold (thing t ms) = IsReadable t × Hold ms
Hold (closed inner ms) = Hold inner × Hold ms

both : (a b : Mentions) → Hold a → Hold b → Hold (join a b)
both nothing b h k = k
both (thing t ms) b h k = (h.0, both ms b h.1 k)
both (closed inner ms) b h k = (h.0, both ms b h.1 k)

to_all : (ms : Mentions) → Hold ms → All IsReadable (things ms)
to_all nothing h = All-nil IsReadable
to_all (thing t ms) h = All-cons IsReadable t (things ms) h.0 (to_all ms h.1)
to_all (closed inner ms) h = All-cons IsReadable mentions.closure (things inner ++ things ms) tt (All-append IsReadable (things inner) (things ms) (to_all inner h.0) (to_all ms h.1))

-- ---- tokens

-- the text of a token is spelled, but for that of a variable
abbrev IsSpelledTok : Tok → Type 0
IsSpelledTok (word w) = IsSpelled w
IsSpelledTok (dict w) = IsSpelled w
IsSpelledTok (object w) = IsSpelled w
IsSpelledTok t = Unit {0}

abbrev AreSpelled : List Tok → Type 0
AreSpelled [] = Unit {0}
AreSpelled (t ∷ ts) = IsSpelledTok t × AreSpelled ts

kind_spelled : (kind : TokenKind) (text : List ℕ) → SpellsText kind text → IsSpelledTok (kind_view kind text)
kind_spelled Word text h = h
kind_spelled Dict text h = h
kind_spelled Object text h = h
kind_spelled kind text h = tt

all_spelled : (ts : List Seen) → All IsSpelledToken ts → AreSpelled (toks ts)
all_spelled [] h = tt
all_spelled (t ∷ ts) h = (kind_spelled t.kind t.text (All-head IsSpelledToken t ts h), all_spelled ts (All-tail IsSpelledToken t ts h))

-- ---- reading

-- this holds of some spelled tokens
abbrev Later : Follow → Type 0
Later K = (rest : List Tok) × (AreSpelled rest × K rest)

-- where the first holds of spelled tokens, this is known, and the second holds of those that follow
record Reads (H : Type 0) (F K : Follow) : Type 0 where
  from : (ts : List Tok) → AreSpelled ts → F ts → H × Later K

mapped : {A B : Type 0} {F K : Follow} → (A → B) → Reads A F K → Reads B F K
mapped f r = record { from = λ ts s h. let x = r.from ts s h in (f x.0, x.1) }

done : (K : Follow) → Reads (Unit {0}) K K
done K = record { from = λ ts s h. (tt, (ts, (s, h))) }

seq : {A B : Type 0} {F G K : Follow} → Reads A F G → Reads B G K → Reads (A × B) F K
seq r q = record { from = λ ts s h. let x = r.from ts s h in let y = q.from x.1.0 x.1.1.0 x.1.1.1 in ((x.0, y.0), y.1) }

after : {A B : Type 0} {F G K : Follow} → Reads A F G → Reads B G K → Reads A F K
after r q = mapped (λ h. h.0) (seq r q)

joined : (a b : Mentions) {F G K : Follow} → Reads (Hold a) F G → Reads (Hold b) G K → Reads (Hold (join a b)) F K
joined a b r q = mapped (λ h. both a b h.0 h.1) (seq r q)

given : (C : Type 0) {H : Type 0} {F K : Follow} → Reads H F K → Reads H (Where C F) K
given C r = record { from = λ ts s h. r.from ts s h.1 }

either : {H : Type 0} {F G K : Follow} → Reads H F K → Reads H G K → Reads H (λ ts. F ts ⊎ G ts) K
either r q = record { from = λ ts s h. elim h [ inl x ↦ r.from ts s x | inr y ↦ q.from ts s y ] }

one_at : (P : Tok → Type 0) (H : Type 0) (K : Follow) → ((t : Tok) → IsSpelledTok t → P t → H) → (ts : List Tok) → AreSpelled ts → OneAt P K ts → H × Later K
one_at P H K f [] s h = absurd h
one_at P H K f (t ∷ ts) s h = (f t s.0 h.0, (ts, (s.1, h.1)))

one : (P : Tok → Type 0) (H : Type 0) (K : Follow) → ((t : Tok) → IsSpelledTok t → P t → H) → Reads H (OneAt P K) K
one P H K f = record { from = one_at P H K f }

behind : {H : Type 0} {F K : Follow} (u : Tok) → Reads H F K → Reads H (TokenAt u F) K
behind {F = F} u r = mapped (λ h. h.1) (seq (one (λ t. t ≡ u) (Unit {0}) F (λ t s e. tt)) r)

ended : {H : Type 0} {F : Follow} (u : Tok) (K : Follow) → Reads H F (TokenAt u K) → Reads H F K
ended u K r = after r (behind u (done K))

words : {H : Type 0} {F K : Follow} (ws : List (List ℕ)) → Reads H F K → Reads H (WordsAt ws F) K
words [] r = r
words (w ∷ ws) r = behind (word w) (words ws r)

keyword : {H : Type 0} {F K : Follow} (k : Bare) → Reads H F K → Reads H (KeywordAt k F) K
keyword k r = behind open_round (words (keyword_words k) (behind close_round r))

finished : {H : Type 0} {F : Follow} (k : Bare) (K : Follow) → Reads H F (KeywordAt k K) → Reads H F K
finished k K r = after r (keyword k (done K))

braced : {H : Type 0} {F : Follow} (K : Follow) → Reads H F (TokenAt close_brace K) → Reads H (TokenAt open_brace F) K
braced K r = behind open_brace (ended close_brace K r)

squared : {H : Type 0} {F : Follow} (K : Follow) → Reads H F (TokenAt close_square K) → Reads H (TokenAt open_square F) K
squared K r = behind open_square (ended close_square K r)

word_and : {H : Type 0} {F : Follow} (w : List ℕ) (K : Follow) → Reads H F (TokenAt close_round K) → Reads H (TokenAt open_round (TokenAt (word w) F)) K
word_and w K r = behind open_round (behind (word w) (ended close_round K r))

paren : {H : Type 0} {F : Follow} (ps : Parts) (K : Follow) → Reads (H × WordsSpelled ps) F (TokenAt close_round K) → Reads (IsName (name_of ps) × H) (Where (IsQuery ps) (TokenAt open_round F)) K
paren ps K r = given (IsQuery ps) (mapped (λ h. (head_named ps h.1, h.0)) (behind open_round (ended close_round K r)))

change_sign : {H : Type 0} {F K : Follow} (set : Bool) → Reads H F K → Reads H (ChangeSignAt set F) K
change_sign true r = r
change_sign false r = behind tilde r

item_sign : {H : Type 0} {F K : Follow} (sign : Sign) → Reads H F K → Reads H (SignAt sign F) K
item_sign plain_rule r = r
item_sign negated r = behind tilde r
item_sign access_rule r = behind at r

-- ---- one token

named : (w : List ℕ) (t u : Tok) → IsSpelledTok u ≡ IsSpelled w → IsSpelledTok t → t ≡ u → IsName w
named w t u same s e = name_from w (subst (λ (A : Type 0). A) same (subst IsSpelledTok e s))

in_range : (w : List ℕ) (n : ℕ) → digits_number w ≡ Some n → n ≤ 16383
in_range w n h = here (nat_le (digits_value 0 w) 16383) refl h
  where
    here : (b : Bool) → nat_le (digits_value 0 w) 16383 ≡ b → (if b then Some (digits_value 0 w) else None) ≡ Some n → n ≤ 16383
    here true q e = let same : digits_value 0 w ≡ n = cc in let low : digits_value 0 w ≤ 16383 = grind (arith, nat_tests, q) in omega (arith, same, low)
    here false q e = cc

number_in_range : (n : ℕ) (t : Tok) → SpellsNumber n t → n ≤ 16383
number_in_range n (word w) h = in_range w n h.1
number_in_range n t h = absurd h

element_named : (choices : Bool) (w : List ℕ) (t : Tok) → IsSpelledTok t → SpellsElement choices w t → IsName w
element_named choices w (word u) s h = subst IsName h.0 (name_from u s)
element_named choices w (dict u) s h = subst IsName h (name_from u s)
element_named choices w t s h = absurd h

word_named : (p : Place) (w : List ℕ) (t : Tok) → IsSpelledTok t → SpellsWord p w t → IsName w
word_named (of_list choices) w t s h = element_named choices w t s h
word_named p w t s h = named w t (dict w) refl s h

list_choice : (ws : List (List ℕ)) (t : Tok) → IsSpelledTok t → SpellsChoice (of_list true) ws t → All IsName ws
list_choice ws (word u) s h = subst (All IsName) h.2 (choice_named u s)
list_choice ws t s h = absurd h

choice_read : (p : Place) (ws : List (List ℕ)) (t : Tok) → IsSpelledTok t → SpellsChoice p ws t → All IsName ws
choice_read (of_list true) ws t s h = list_choice ws t s h
choice_read p ws t s h = absurd h

-- ---- forms

mutual
  value_read : (t : Bool) (p : Place) (v : Value) (K : Follow) → Reads (Hold (of_value t v)) (ValueAt p v K) K
  value_read t p (tree.num n) K = one (SpellsNumber n) _ K (λ u s e. (number_in_range n u e, tt))
  value_read t p (tree.dict_word w) K = one (SpellsWord p w) _ K (λ u s e. (word_named p w u s e, tt))
  value_read t p (tree.object_name w) K = one (λ u. u ≡ object w) _ K (λ u s e. (named w u (object w) refl s e, tt))
  value_read t p tree.current_topic K = one (λ u. u ≡ star) _ K (λ u s e. (tt, tt))
  value_read t p tree.anonymous K = one (λ u. u ≡ anon) _ K (λ u s e. (tt, tt))
  value_read t p (tree.variable w) K = one (λ u. u ≡ var w) _ K (λ u s e. (tt, tt))
  value_read t p (tree.plain_list vs) K = mapped (λ h. (tt, h)) (squared K (values_read t (has_choices p) vs (TokenAt close_square K)))
  value_read t p (tree.tailed_list vs v) K =
      given (HasElement vs) (mapped (λ h. (tt, h)) (squared K
      (joined (of_values t vs) (of_value t v)
      (values_read t (has_choices p) vs (TokenAt bar (ValueAt (behind_bar (has_choices p)) v (TokenAt close_square K))))
      (behind bar (value_read t (behind_bar (has_choices p)) v (TokenAt close_square K))))))
  value_read t p (tree.closure b) K = mapped (λ h. (h, tt)) (braced K (body_read t b (TokenAt close_brace K)))
  value_read t p (tree.nested ps) K = given (TakesQuery p) (paren ps K (nested_read t (of_nested (has_choices p)) ps (TokenAt close_round K)))
  value_read t p (tree.word_choice ws) K = one (SpellsChoice p ws) _ K (λ u s e. (choice_read p ws u s e, tt))

  values_read : (t choices : Bool) (vs : Values) (K : Follow) → Reads (Hold (of_values t vs)) (ElementsAt choices vs K) K
  values_read t choices tree.no_values K = done K
  values_read t choices (tree.value v vs) K = joined (of_value t v) (of_values t vs) (value_read t (of_list choices) v (ElementsAt choices vs K)) (values_read t choices vs K)

  parts_read : (t : Bool) (p : Place) (ps : Parts) (K : Follow) → Reads (Hold (of_parts t ps) × WordsSpelled ps) (PartsAt p ps K) K
  parts_read t p tree.no_parts K = mapped (λ h. (tt, tt)) (done K)
  parts_read t p (tree.part (tree.part_word w) ps) K =
      given (are_digits w ≡ false) (mapped (λ h. (h.1.0, (h.0, h.1.1)))
      (seq (one (λ u. u ≡ word w) (IsSpelled w) (PartsAt p ps K) (λ u s e. subst IsSpelledTok e s)) (parts_read t p ps K)))
  parts_read t p (tree.part (tree.part_value v) ps) K =
      mapped (λ h. (both (of_value t v) (of_parts t ps) h.0 h.1.0, h.1.1)) (seq (value_read t p v (PartsAt p ps K)) (parts_read t p ps K))

  nested_read : (t : Bool) (p : Place) (ps : Parts) (K : Follow) → Reads (Hold (mentions.of_nested t ps) × WordsSpelled ps) (PartsAt p ps K) K
  nested_read t p tree.no_parts K = mapped (λ h. (tt, tt)) (done K)
  nested_read t p (tree.part (tree.part_word w) ps) K =
      given (are_digits w ≡ false) (mapped (λ h. (h.1.0, (h.0, h.1.1)))
      (seq (one (λ u. u ≡ word w) (IsSpelled w) (PartsAt p ps K) (λ u s e. subst IsSpelledTok e s)) (nested_read t p ps K)))
  nested_read t p (tree.part (tree.part_value v) ps) K =
      mapped (λ h. (both (of_value true v) (of_parts t ps) h.0 h.1.0, h.1.1)) (seq (value_read true p v (PartsAt p ps K)) (parts_read t p ps K))

  stmt_read : (t : Bool) (x : Stmt) (K : Follow) → Reads (Hold (of_stmt t x)) (StmtAt x K) K
  stmt_read t (tree.text w) K = one (λ u. u ≡ word w) _ K (λ u s e. (named w u (word w) refl s e, tt))
  stmt_read t (tree.print v) K = given (IsPrinted v) (mapped (λ h. (tt, h)) (value_read t printed v K))
  stmt_read t (tree.ask ps) K = paren ps K (parts_read t of_query ps (TokenAt close_round K))
  stmt_read t (tree.ask_all ps) K = behind star (paren ps K (parts_read t of_query ps (TokenAt close_round K)))
  stmt_read t (tree.ask_not ps) K = behind tilde (paren ps K (parts_read t of_query ps (TokenAt close_round K)))
  stmt_read t (tree.group b) K = mapped (λ h. (tt, h)) (braced K (body_read t b (TokenAt close_brace K)))
  stmt_read t (tree.not_group b) K = mapped (λ h. (tt, h)) (behind tilde (braced K (body_read t b (TokenAt close_brace K))))
  stmt_read t (tree.now cs) K =
      mapped (λ h. (tt, h)) (keyword now_word (either (given (IsOneChange cs) (changes_read t cs K)) (braced K (changes_read t cs (TokenAt close_brace K)))))
  stmt_read t (tree.choice arms) K = given (HasArm arms) (mapped (λ h. (tt, h)) (finished endif_word K (arms_read t if_word arms (KeywordAt endif_word K))))
  stmt_read t (tree.choice_else arms b) K =
      given (HasArm arms) (mapped (λ h. (tt, h))
      (joined (of_arms t arms) (of_body t b)
      (arms_read t if_word arms (KeywordAt else_word (BodyAt b (KeywordAt endif_word K))))
      (keyword else_word (finished endif_word K (body_read t b (KeywordAt endif_word K))))))
  stmt_read t (tree.exhaust x) K = mapped (λ h. (tt, h)) (keyword exhaust_word (stmt_read t x K))
  stmt_read t (tree.stoppable x) K = mapped (λ h. (tt, h)) (keyword stoppable_word (stmt_read t x K))
  stmt_read t (tree.collect v b into) K =
      let last : Follow = TokenAt open_round (TokenAt (word (codes "into")) (ValueAt of_query into (TokenAt close_round K))) in
      mapped (λ h. (tt, h)) (joined (of_value t v) (join (of_body t b) (of_value t into))
      (word_and (codes "collect") (BodyAt b last) (value_read t of_query v (TokenAt close_round (BodyAt b last))))
      (joined (of_body t b) (of_value t into) (body_read t b last) (word_and (codes "into") K (value_read t of_query into (TokenAt close_round K)))))
  stmt_read t (tree.accumulate v b into) K =
      let last : Follow = TokenAt open_round (TokenAt (word (codes "into")) (ValueAt of_query into (TokenAt close_round K))) in
      mapped (λ h. (tt, h)) (joined (of_value t v) (join (of_body t b) (of_value t into))
      (word_and (codes "accumulate") (BodyAt b last) (value_read t of_query v (TokenAt close_round (BodyAt b last))))
      (joined (of_body t b) (of_value t into) (body_read t b last) (word_and (codes "into") K (value_read t of_query into (TokenAt close_round K)))))
  stmt_read t (tree.select mode tree.no_branches) K = keyword select_word (finished (end_word mode) K (record { from = λ ts s h. absurd h }))
  stmt_read t (tree.select mode (tree.branch xs b)) K = keyword select_word (finished (end_word mode) K (mapped (λ h. (omega arith, h.1)) (body_read t (tree.branch xs b) (KeywordAt (end_word mode) K))))
  stmt_read t (tree.first_answer b) K = record { from = λ ts s h. absurd h }

  stmts_read : (t : Bool) (xs : Stmts) (K : Follow) → Reads (Hold (of_stmts t xs)) (StmtsAt xs K) K
  stmts_read t tree.no_stmts K = done K
  stmts_read t (tree.stmt x xs) K = joined (of_stmt t x) (of_stmts t xs) (stmt_read t x (StmtsAt xs K)) (stmts_read t xs K)

  body_read : (t : Bool) (b : Body) (K : Follow) → Reads (Hold (of_body t b)) (BodyAt b K) K
  body_read t tree.no_branches K = record { from = λ ts s h. absurd h }
  body_read t (tree.branch xs b) K = mapped (λ h. (tt, h)) (joined (of_stmts t xs) (of_branches t b) (stmts_read t xs (BranchesAt b K)) (branches_read t b K))

  branches_read : (t : Bool) (b : Body) (K : Follow) → Reads (Hold (of_branches t b)) (BranchesAt b K) K
  branches_read t tree.no_branches K = done K
  branches_read t (tree.branch xs b) K = keyword or_word (joined (of_stmts t xs) (of_branches t b) (stmts_read t xs (BranchesAt b K)) (branches_read t b K))

  arms_read : (t : Bool) (k : Bare) (arms : Arms) (K : Follow) → Reads (Hold (of_arms t arms)) (ArmsAt k arms K) K
  arms_read t k tree.no_arms K = done K
  arms_read t k (tree.arm c b arms) K =
      keyword k (joined (of_body t c) (join (of_body t b) (of_arms t arms))
      (body_read t c (KeywordAt then_word (BodyAt b (ArmsAt elseif_word arms K))))
      (keyword then_word (joined (of_body t b) (of_arms t arms) (body_read t b (ArmsAt elseif_word arms K)) (arms_read t elseif_word arms K))))

  changes_read : (t : Bool) (cs : Changes) (K : Follow) → Reads (Hold (of_changes t cs)) (ChangesAt cs K) K
  changes_read t tree.no_changes K = done K
  changes_read t (tree.change ps set cs) K =
      change_sign set (mapped (λ h. (h.0.0, both (of_parts t ps) (of_changes t cs) h.0.1 h.1))
      (seq (paren ps (ChangesAt cs K) (parts_read t of_query ps (TokenAt close_round (ChangesAt cs K)))) (changes_read t cs K)))

-- ---- items

clause_read : (sign : Sign) (ps : Parts) (b : Body) → Reads (IsName (name_of ps) × Hold (join (of_parts false ps) (of_body false b))) (ShapeAt (clause sign ps b) IsEnd) IsEnd
clause_read sign ps b =
    item_sign sign (mapped (λ h. (h.0.0, both (of_parts false ps) (of_body false b) h.0.1 h.1))
    (seq (paren ps (BodyAt b IsEnd) (parts_read false (head_place ps) ps (TokenAt close_round (BodyAt b IsEnd)))) (body_read false b IsEnd)))

-- the head of a declaration that declares no query
whole_read : (p : Place) (ps : Parts) (K : Follow) → Reads (IsName (name_of ps) × Hold (of_parts false ps)) (PartsAt p ps K) K
whole_read p ps K = mapped (λ h. (head_named ps h.1, h.0)) (parts_read false p ps K)

declared_read : (p : Place) (ps : Parts) (K : Follow) → Reads (Hold (of_said (declared ps))) (PartsAt p ps K) K
declared_read p (tree.part a (tree.part b (tree.part r (tree.part c cs)))) K = whole_read p (tree.part a (tree.part b (tree.part r (tree.part c cs)))) K
declared_read p (tree.part a (tree.part b (tree.part (tree.part_value (tree.nested qs)) tree.no_parts))) K =
    mapped (λ h. h.1.1)
    (seq (parts_read false p (tree.part a tree.no_parts) (PartsAt p (tree.part b (tree.part (tree.part_value (tree.nested qs)) tree.no_parts)) K))
    (seq (parts_read false p (tree.part b tree.no_parts) (ValueAt p (tree.nested qs) K))
    (given (TakesQuery p) (paren qs K (parts_read false (of_nested (has_choices p)) qs (TokenAt close_round K))))))
declared_read p ps K = whole_read p ps K

declaration_read : (ps : Parts) (b : Body) → Reads (Hold (of_said (declared ps))) (ShapeAt (clause plain_rule ps b) IsEnd) IsEnd
declaration_read ps b =
    after
    (given (IsQuery ps) (behind open_round (ended close_round (BodyAt b IsEnd) (declared_read (head_place ps) ps (TokenAt close_round (BodyAt b IsEnd))))))
    (body_read false b IsEnd)

shape_read : (shape : Shape) → Reads (Hold (of_said (said_of shape))) (ShapeAt shape IsEnd) IsEnd
shape_read (topic_line n) = one (λ u. u ≡ object n) _ IsEnd (λ u s e. (named n u (object n) refl s e, tt))
shape_read (clause negated ps b) = clause_read negated ps b
shape_read (clause access_rule ps b) = clause_read access_rule ps b
shape_read (clause plain_rule ps b) = here (is_declaration ps)
  where
    here : (d : Bool) → Reads (Hold (of_said (if d then declared ps else tree.rule ps b))) (ShapeAt (clause plain_rule ps b) IsEnd) IsEnd
    here true = declaration_read ps b
    here false = clause_read plain_rule ps b

split_spelled : (xs ys : List Seen) → AreSpelled (toks (xs ++ ys)) → AreSpelled (toks xs) × AreSpelled (toks ys)
split_spelled [] ys s = (tt, s)
split_spelled (x ∷ xs) ys s = let others = split_spelled xs ys s.1 in ((s.0, others.0), others.1)

item_read : (before : Bool) (ts : List Seen) (item : Item) (rest : List Seen) → IsItemAt before ts item rest → AreSpelled (toks ts) → Hold (of_said item.said) × AreSpelled (toks rest)
item_read before ts item rest h s =
    let all = subst (λ (l : List Seen). AreSpelled (toks l)) h.front.split s in
    let each = split_spelled (h.first ∷ h.others) rest all in
    (subst (λ (i : Item). Hold (of_said i.said)) (sym h.is) ((shape_read h.shape).from (toks (h.first ∷ h.others)) each.0 h.shaped.whole).0, each.1)

items_read : (before : Bool) (ts : List Seen) (items : List Item) (rest : List Seen) → ReadTo before ts items rest → AreSpelled (toks ts) → All IsReadable (mentioned items)
items_read before ts [] rest h s = All-nil IsReadable
items_read before ts (i ∷ is) rest h s =
    let first = item_read before ts i h.0 h.1 s in
    All-append IsReadable (things_in i.said) (mentioned is) (to_all (of_said i.said) first.0) (items_read _ h.0 is rest h.2 first.1)

pub readable_items : (ts : List Seen) (items : List Item) → All IsSpelledToken ts → ReadTo false ts items [] → All IsReadable (mentioned items)
readable_items ts items s h = items_read false ts items [] h (all_spelled ts s)
