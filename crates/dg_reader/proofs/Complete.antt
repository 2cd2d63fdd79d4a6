-- What is spelled is read, whatever stands open below.
use Rattle.std.proofs.Common.{◌≡◌, ℕ, List, [], ◌∷◌, ◌++◌, Bool, true, false, Option, Some, refl, sym, ◌∙◌, ap, subst}
use Rattle.std.specs.Prelude.{if◌then◌else◌, option_and_then}
use Rattle.dg_base.specs.declared.program.Mode.TheVariants.{Stopping, Cycling, PurelyAtRandom, AtRandom, ThenAtRandom, ThenPurelyAtRandom}
use Rattle.dg_base.specs.Tree.{Part, part_word, part_value, Parts, no_parts, part, Value, num, dict_word, object_name, current_topic, anonymous, variable, plain_list, tailed_list, closure, nested, word_choice, Values, no_values, value, Stmt, Stmts, no_stmts, stmt, Body, no_branches, branch, Arms, no_arms, arm, Changes, no_changes, change, parts_of, values_of, stmts_of, branches_of, arms_of, changes_of}
use Rattle.dg_reader.specs.Tokens.{Tok, word, dict, object, open_round, close_round, open_square, open_brace, star, are_digits, digits_number, word_parts, are_several}
use Rattle.dg_reader.specs.Grammar.{Bare, now_word, if_word, then_word, elseif_word, else_word, endif_word, or_word, exhaust_word, stoppable_word, select_word, end_word, Keyword, bare, keyword_words, keyword_of, is_query, IsQuery, Follow, OneAt, TokenAt, WordsAt, KeywordAt, Place, of_nested, of_query, has_choices, IsWhole, SpellsWord, SpellsChoice, IsPrinted, HasElement, ValueAt, head_place}
use Rattle.dg_open.specs.Shapes.{Sign}
use Rattle.dg_open.specs.inside.Standing.{Asking, for_one, Owner, of_item, of_closure, Wrapper, Frame, in_head, in_nested, in_query, in_change, in_list, in_tail, in_body, Stack}
use Rattle.dg_reader.specs.inside.Machine.{asked, new_body, put_stmt, put_element, put_value, put_printed, put_number, element_of, put_change, keyword_step, head_closes, nested_closes, query_closes, change_closes, put_bar, step, run, Outcome, outcome_from}
use Rattle.dg_reader.proofs.Sound.{TakesValue, place_in}

-- ---- lists in reading order

abbrev pub parts_onto : List Part → Parts → List Part
parts_onto qs no_parts = qs
parts_onto qs (part p ps) = parts_onto (qs ++ p ∷ []) ps

abbrev pub parts_after : List Part → Parts → Parts
parts_after [] ps = ps
parts_after (q ∷ qs) ps = part q (parts_after qs ps)

pub parts_after-push : (qs : List Part) (p : Part) (ps : Parts) → parts_after (qs ++ p ∷ []) ps ≡ parts_after qs (part p ps)
parts_after-push [] p ps = refl
parts_after-push (q ∷ qs) p ps = ap (part q) (parts_after-push qs p ps)

parts_after-none : (qs : List Part) → parts_of qs ≡ parts_after qs no_parts
parts_after-none [] = refl
parts_after-none (q ∷ qs) = ap (part q) (parts_after-none qs)

pub parts_of-onto : (qs : List Part) (ps : Parts) → parts_of (parts_onto qs ps) ≡ parts_after qs ps
parts_of-onto qs no_parts = parts_after-none qs
parts_of-onto qs (part p ps) = parts_of-onto (qs ++ p ∷ []) ps ∙ parts_after-push qs p ps

abbrev pub elements_onto : List Value → Values → List Value
elements_onto us no_values = us
elements_onto us (value v vs) = elements_onto (us ++ v ∷ []) vs

abbrev pub elements_after : List Value → Values → Values
elements_after [] vs = vs
elements_after (u ∷ us) vs = value u (elements_after us vs)

elements_after-push : (us : List Value) (v : Value) (vs : Values) → elements_after (us ++ v ∷ []) vs ≡ elements_after us (value v vs)
elements_after-push [] v vs = refl
elements_after-push (u ∷ us) v vs = ap (value u) (elements_after-push us v vs)

elements_after-none : (us : List Value) → values_of us ≡ elements_after us no_values
elements_after-none [] = refl
elements_after-none (u ∷ us) = ap (value u) (elements_after-none us)

pub values_of-onto : (us : List Value) (vs : Values) → values_of (elements_onto us vs) ≡ elements_after us vs
values_of-onto us no_values = elements_after-none us
values_of-onto us (value v vs) = values_of-onto (us ++ v ∷ []) vs ∙ elements_after-push us v vs

abbrev pub stmts_onto : List Stmt → Stmts → List Stmt
stmts_onto ts no_stmts = ts
stmts_onto ts (stmt s ss) = stmts_onto (ts ++ s ∷ []) ss

abbrev pub stmts_after : List Stmt → Stmts → Stmts
stmts_after [] ss = ss
stmts_after (t ∷ ts) ss = stmt t (stmts_after ts ss)

stmts_after-push : (ts : List Stmt) (s : Stmt) (ss : Stmts) → stmts_after (ts ++ s ∷ []) ss ≡ stmts_after ts (stmt s ss)
stmts_after-push [] s ss = refl
stmts_after-push (t ∷ ts) s ss = ap (stmt t) (stmts_after-push ts s ss)

stmts_after-none : (ts : List Stmt) → stmts_of ts ≡ stmts_after ts no_stmts
stmts_after-none [] = refl
stmts_after-none (t ∷ ts) = ap (stmt t) (stmts_after-none ts)

pub stmts_of-onto : (ts : List Stmt) (ss : Stmts) → stmts_of (stmts_onto ts ss) ≡ stmts_after ts ss
stmts_of-onto ts no_stmts = stmts_after-none ts
stmts_of-onto ts (stmt s ss) = stmts_of-onto (ts ++ s ∷ []) ss ∙ stmts_after-push ts s ss

abbrev pub branches_after : List Stmts → Body → Body
branches_after [] b = b
branches_after (x ∷ xs) b = branch x (branches_after xs b)

pub branches_after-push : (xs : List Stmts) (x : Stmts) (b : Body) → branches_after (xs ++ x ∷ []) b ≡ branches_after xs (branch x b)
branches_after-push [] x b = refl
branches_after-push (y ∷ xs) x b = ap (branch y) (branches_after-push xs x b)

pub branches_after-last : (xs : List Stmts) (x : Stmts) → branches_of (xs ++ x ∷ []) ≡ branches_after xs (branch x no_branches)
branches_after-last [] x = refl
branches_after-last (y ∷ xs) x = ap (branch y) (branches_after-last xs x)

abbrev pub arms_after : List (Body × Body) → Arms → Arms
arms_after [] as' = as'
arms_after (x ∷ xs) as' = arm x.0 x.1 (arms_after xs as')

pub arms_after-push : (xs : List (Body × Body)) (c b : Body) (as' : Arms) → arms_after (xs ++ (c, b) ∷ []) as' ≡ arms_after xs (arm c b as')
arms_after-push [] c b as' = refl
arms_after-push (x ∷ xs) c b as' = ap (arm x.0 x.1) (arms_after-push xs c b as')

pub arms_after-none : (xs : List (Body × Body)) → arms_of xs ≡ arms_after xs no_arms
arms_after-none [] = refl
arms_after-none (x ∷ xs) = ap (arm x.0 x.1) (arms_after-none xs)

abbrev pub changes_onto : List (Parts × Bool) → Changes → List (Parts × Bool)
changes_onto ds no_changes = ds
changes_onto ds (change ps set cs) = changes_onto (ds ++ (ps, set) ∷ []) cs

abbrev pub changes_after : List (Parts × Bool) → Changes → Changes
changes_after [] cs = cs
changes_after (d ∷ ds) cs = change d.0 d.1 (changes_after ds cs)

changes_after-push : (ds : List (Parts × Bool)) (ps : Parts) (set : Bool) (cs : Changes) → changes_after (ds ++ (ps, set) ∷ []) cs ≡ changes_after ds (change ps set cs)
changes_after-push [] ps set cs = refl
changes_after-push (d ∷ ds) ps set cs = ap (change d.0 d.1) (changes_after-push ds ps set cs)

changes_after-none : (ds : List (Parts × Bool)) → changes_of ds ≡ changes_after ds no_changes
changes_after-none [] = refl
changes_after-none (d ∷ ds) = ap (change d.0 d.1) (changes_after-none ds)

pub changes_of-onto : (ds : List (Parts × Bool)) (cs : Changes) → changes_of (changes_onto ds cs) ≡ changes_after ds cs
changes_of-onto ds no_changes = changes_after-none ds
changes_of-onto ds (change ps set cs) = changes_of-onto (ds ++ (ps, set) ∷ []) cs ∙ changes_after-push ds ps set cs

-- ---- how the rest ends

abbrev pub out : List Tok → Stack → Outcome
out ts st = outcome_from (run ts st)

abbrev pub outs : List Tok → Option Stack → Outcome
outs ts o = outcome_from (option_and_then (run ts) o)

-- the next state is this one
pub by : (ts : List Tok) (o p : Option Stack) (X : Outcome) → o ≡ p → outs ts p ≡ X → outs ts o ≡ X
by ts o p X e h = ap (outs ts) e ∙ h

pub one_read : (P : Tok → Type 0) (K : Follow) (ts : List Tok) (st : Stack) (X : Outcome) → OneAt P K ts → ((t : Tok) → P t → (r : List Tok) → K r → outs r (step t st) ≡ X) → out ts st ≡ X
one_read P K [] st X a h = absurd a
one_read P K (t ∷ ts) st X a h = h t a.0 ts a.1

pub token_read : (t : Tok) (K : Follow) (ts : List Tok) (st : Stack) (X : Outcome) → TokenAt t K ts → ((r : List Tok) → K r → outs r (step t st) ≡ X) → out ts st ≡ X
token_read t K ts st X a h = one_read (λ u. u ≡ t) K ts st X a (λ u e r k. by r (step u st) (step t st) X (ap (λ (x : Tok). step x st) e) (h r k))

-- ---- parentheses

-- A parenthesis that isn't an item's.
pub data Round : Type 0 where
  nested_round : Bool → Round
  query_round : Asking → Round
  change_round : Bool → Round

abbrev pub round_frame : Round → List Part → Frame
round_frame (nested_round c) ps = in_nested c ps
round_frame (query_round a) ps = in_query a ps
round_frame (change_round set) ps = in_change set ps

abbrev pub round_place : Round → Place
round_place (nested_round c) = of_nested c
round_place (query_round a) = of_query
round_place (change_round set) = of_query

pub if_not : {A : Type 0} (b : Bool) (x y : A) → b ≡ false → (if b then x else y) ≡ y
if_not b x y e = ap (λ (c : Bool). if c then x else y) e

pub if_so : {A : Type 0} (b : Bool) (x y : A) → b ≡ true → (if b then x else y) ≡ x
if_so b x y e = ap (λ (c : Bool). if c then x else y) e

pub word_step : (k : Round) (qs : List Part) (below : Stack) (w : List ℕ) → are_digits w ≡ false → step (word w) (round_frame k qs ∷ below) ≡ Some (round_frame k (qs ++ part_word w ∷ []) ∷ below)
word_step (nested_round c) qs below w e = if_not (are_digits w) _ _ e
word_step (query_round a) qs below w e = if_not (are_digits w) _ _ e
word_step (change_round set) qs below w e = if_not (are_digits w) _ _ e

abbrev pub NoDigits : List (List ℕ) → Type 0
NoDigits [] = Unit {0}
NoDigits (w ∷ ws) = (are_digits w ≡ false) × NoDigits ws

abbrev pub words_onto : List Part → List (List ℕ) → List Part
words_onto qs [] = qs
words_onto qs (w ∷ ws) = words_onto (qs ++ part_word w ∷ []) ws

words_read : (ws : List (List ℕ)) → NoDigits ws → (k : Round) (qs : List Part) (below : Stack) (K : Follow) (ts : List Tok) (X : Outcome) → WordsAt ws K ts → ((r : List Tok) → K r → out r (round_frame k (words_onto qs ws) ∷ below) ≡ X) → out ts (round_frame k qs ∷ below) ≡ X
words_read [] d k qs below K ts X a h = h ts a
words_read (w ∷ ws) d k qs below K ts X a h =
    token_read (word w) (WordsAt ws K) ts (round_frame k qs ∷ below) X a
    (λ r b. by r _ _ X (word_step k qs below w d.0) (words_read ws d.1 k (qs ++ part_word w ∷ []) below K r X b h))

-- ---- keywords

keyword_no_digits : (k : Bare) → NoDigits (keyword_words k)
keyword_no_digits now_word = (refl, tt)
keyword_no_digits if_word = (refl, tt)
keyword_no_digits then_word = (refl, tt)
keyword_no_digits elseif_word = (refl, tt)
keyword_no_digits else_word = (refl, tt)
keyword_no_digits endif_word = (refl, tt)
keyword_no_digits or_word = (refl, tt)
keyword_no_digits exhaust_word = (refl, tt)
keyword_no_digits stoppable_word = (refl, tt)
keyword_no_digits select_word = (refl, tt)
keyword_no_digits (end_word Stopping) = (refl, tt)
keyword_no_digits (end_word Cycling) = (refl, tt)
keyword_no_digits (end_word AtRandom) = (refl, (refl, tt))
keyword_no_digits (end_word PurelyAtRandom) = (refl, (refl, (refl, tt)))
keyword_no_digits (end_word ThenAtRandom) = (refl, (refl, (refl, tt)))
keyword_no_digits (end_word ThenPurelyAtRandom) = (refl, (refl, (refl, (refl, tt))))

keyword_closed : (k : Bare) → keyword_of (parts_of (words_onto [] (keyword_words k))) ≡ Some (bare k)
keyword_closed now_word = refl
keyword_closed if_word = refl
keyword_closed then_word = refl
keyword_closed elseif_word = refl
keyword_closed else_word = refl
keyword_closed endif_word = refl
keyword_closed or_word = refl
keyword_closed exhaust_word = refl
keyword_closed stoppable_word = refl
keyword_closed select_word = refl
keyword_closed (end_word Stopping) = refl
keyword_closed (end_word Cycling) = refl
keyword_closed (end_word AtRandom) = refl
keyword_closed (end_word PurelyAtRandom) = refl
keyword_closed (end_word ThenAtRandom) = refl
keyword_closed (end_word ThenPurelyAtRandom) = refl

-- A keyword without a value in a body.
pub keyword_read : (k : Bare) (o : Owner) (bs : List Stmts) (ss : List Stmt) (ws : List Wrapper) (below : Stack) (K : Follow) (ts : List Tok) (X : Outcome) → KeywordAt k K ts → ((r : List Tok) → K r → outs r (keyword_step (bare k) o bs ss ws below) ≡ X) → out ts (in_body o bs ss ws ∷ below) ≡ X
keyword_read k o bs ss ws below K ts X a h =
    let st = in_body o bs ss ws ∷ below in
    token_read open_round (WordsAt (keyword_words k) (TokenAt close_round K)) ts st X a
    (λ r b. words_read (keyword_words k) (keyword_no_digits k) (query_round for_one) [] st (TokenAt close_round K) r X b
    (λ q c. token_read close_round K q (in_query for_one (words_onto [] (keyword_words k)) ∷ st) X c
    (λ p d. by p _ _ X (ap (λ (x : Option Keyword). query_closes x for_one (parts_of (words_onto [] (keyword_words k))) st) (keyword_closed k)) (h p d))))

-- ---- values of one token

-- The value may stand there: in a body only where it is printed.
abbrev pub Shows : Stack → Value → Type 0
Shows (in_body o bs ss ws ∷ below) v = IsPrinted v
Shows st v = TakesValue st

pub number_step : (w : List ℕ) (n : ℕ) (st : Stack) → Shows st (num n) → are_digits w ≡ true → digits_number w ≡ Some n → step (word w) st ≡ put_printed (num n) st
number_step w n (in_head sign ps ∷ below) s d e = if_so (are_digits w) _ _ d ∙ ap (λ (o : Option ℕ). put_number o (in_head sign ps ∷ below)) e
number_step w n (in_nested c ps ∷ below) s d e = if_so (are_digits w) _ _ d ∙ ap (λ (o : Option ℕ). put_number o (in_nested c ps ∷ below)) e
number_step w n (in_query a ps ∷ below) s d e = if_so (are_digits w) _ _ d ∙ ap (λ (o : Option ℕ). put_number o (in_query a ps ∷ below)) e
number_step w n (in_change set ps ∷ below) s d e = if_so (are_digits w) _ _ d ∙ ap (λ (o : Option ℕ). put_number o (in_change set ps ∷ below)) e
number_step w n (in_list c vs ∷ below) s d e = if_so (are_digits w) _ _ d ∙ ap (λ (o : Option ℕ). put_number o (in_list c vs ∷ below)) e
number_step w n (in_tail c vs ∷ below) s d e = if_so (are_digits w) _ _ d ∙ ap (λ (o : Option ℕ). put_number o (in_tail c vs ∷ below)) e
number_step w n st s d e = absurd s

pub whole_element : (c : Bool) (w : List ℕ) → IsWhole c w → element_of c w ≡ dict_word w
whole_element false w i = refl
whole_element true w i = if_not (are_several (word_parts w)) _ _ i

pub element_step : (c : Bool) (u w : List ℕ) (vs : List Value) (below : Stack) → u ≡ w → are_digits u ≡ false → IsWhole c u → step (word u) (in_list c vs ∷ below) ≡ put_printed (dict_word w) (in_list c vs ∷ below)
element_step c u w vs below e d i = if_not (are_digits u) _ _ d ∙ ap (λ (v : Value). put_element v (in_list c vs ∷ below)) (whole_element c u i ∙ ap dict_word e)

pub dict_step : (w : List ℕ) (t : Tok) (st : Stack) → SpellsWord (place_in st) w t → Shows st (dict_word w) → step t st ≡ put_printed (dict_word w) st
dict_step w (word u) (in_list c vs ∷ below) p s = element_step c u w vs below p.0 p.1 p.2
dict_step w (dict u) (in_list c vs ∷ below) p s = ap (λ (x : List ℕ). put_printed (dict_word x) (in_list c vs ∷ below)) p
dict_step w t (in_list c vs ∷ below) p s = absurd p
dict_step w t (in_head sign ps ∷ below) p s = ap (λ (x : Tok). step x (in_head sign ps ∷ below)) p
dict_step w t (in_nested c ps ∷ below) p s = ap (λ (x : Tok). step x (in_nested c ps ∷ below)) p
dict_step w t (in_query a ps ∷ below) p s = ap (λ (x : Tok). step x (in_query a ps ∷ below)) p
dict_step w t (in_change set ps ∷ below) p s = ap (λ (x : Tok). step x (in_change set ps ∷ below)) p
dict_step w t (in_tail c vs ∷ below) p s = ap (λ (x : Tok). step x (in_tail c vs ∷ below)) p
dict_step w t (in_body o bs ss ws ∷ below) p s = ap (λ (x : Tok). step x (in_body o bs ss ws ∷ below)) p
dict_step w t st p s = absurd s

pub choice_step : (ws : List (List ℕ)) (t : Tok) (st : Stack) → SpellsChoice (place_in st) ws t → step t st ≡ put_printed (word_choice ws) st
choice_step ws (word u) (in_list true vs ∷ below) p =
    if_not (are_digits u) _ _ p.0
    ∙ ap (λ (v : Value). put_element v (in_list true vs ∷ below)) (if_so (are_several (word_parts u)) (word_choice (word_parts u)) (dict_word u) p.1 ∙ ap word_choice p.2)
choice_step ws t (in_list true vs ∷ below) p = absurd p
choice_step ws t (in_list false vs ∷ below) p = absurd p
choice_step ws t (in_head sign ps ∷ below) p = absurd p
choice_step ws t (in_nested c ps ∷ below) p = absurd p
choice_step ws t (in_query a ps ∷ below) p = absurd p
choice_step ws t (in_change set ps ∷ below) p = absurd p
choice_step ws t (in_tail c vs ∷ below) p = absurd p
choice_step ws t st p = absurd p

pub object_step : (n : List ℕ) (st : Stack) → Shows st (object_name n) → step (object n) st ≡ put_printed (object_name n) st
object_step n (in_head sign ps ∷ below) s = refl
object_step n (in_nested c ps ∷ below) s = refl
object_step n (in_query a ps ∷ below) s = refl
object_step n (in_change set ps ∷ below) s = refl
object_step n (in_list c vs ∷ below) s = refl
object_step n (in_tail c vs ∷ below) s = refl
object_step n (in_body o bs ss ws ∷ below) s = refl
object_step n st s = absurd s

pub star_step : (st : Stack) → Shows st current_topic → step star st ≡ put_printed current_topic st
star_step (in_head sign ps ∷ below) s = refl
star_step (in_nested c ps ∷ below) s = refl
star_step (in_query a ps ∷ below) s = refl
star_step (in_change set ps ∷ below) s = refl
star_step (in_list c vs ∷ below) s = refl
star_step (in_tail c vs ∷ below) s = refl
star_step st s = absurd s

pub list_opens : (v : Value) (st : Stack) → Shows st v → step open_square st ≡ Some (in_list (has_choices (place_in st)) [] ∷ st)
list_opens v (in_head sign ps ∷ below) s = refl
list_opens v (in_nested c ps ∷ below) s = refl
list_opens v (in_query a ps ∷ below) s = refl
list_opens v (in_change set ps ∷ below) s = refl
list_opens v (in_list c vs ∷ below) s = refl
list_opens v (in_tail c vs ∷ below) s = refl
list_opens v (in_body o bs ss ws ∷ below) s = refl
list_opens v st s = absurd s

pub closure_opens : (b : Body) (st : Stack) → Shows st (closure b) → step open_brace st ≡ Some (new_body of_closure ∷ st)
closure_opens b (in_head sign ps ∷ below) s = refl
closure_opens b (in_nested c ps ∷ below) s = refl
closure_opens b (in_query a ps ∷ below) s = refl
closure_opens b (in_change set ps ∷ below) s = refl
closure_opens b (in_list c vs ∷ below) s = refl
closure_opens b (in_tail c vs ∷ below) s = refl
closure_opens b st s = absurd s

pub closure_put : (b : Body) (st : Stack) → Shows st (closure b) → put_value (closure b) st ≡ put_printed (closure b) st
closure_put b (in_head sign ps ∷ below) s = refl
closure_put b (in_nested c ps ∷ below) s = refl
closure_put b (in_query a ps ∷ below) s = refl
closure_put b (in_change set ps ∷ below) s = refl
closure_put b (in_list c vs ∷ below) s = refl
closure_put b (in_tail c vs ∷ below) s = refl
closure_put b st s = absurd s

pub bar_step : (c : Bool) (vs : List Value) (us : Values) (below : Stack) → HasElement us → values_of vs ≡ us → put_bar (in_list c vs ∷ below) ≡ Some (in_tail c vs ∷ below)
bar_step c [] us below h e = absurd (subst HasElement (sym e) h)
bar_step c (v ∷ vs) us below h e = refl

-- ---- what parentheses are

pub no_query : (v : Value) (K : Follow) (ts : List Tok) → ValueAt of_query v K ts → is_query v ≡ false
no_query (nested ps) K ts a = absurd a.0
no_query (num n) K ts a = refl
no_query (dict_word w) K ts a = refl
no_query (object_name w) K ts a = refl
no_query current_topic K ts a = refl
no_query anonymous K ts a = refl
no_query (variable w) K ts a = refl
no_query (plain_list vs) K ts a = refl
no_query (tailed_list vs v) K ts a = refl
no_query (closure b) K ts a = refl
no_query (word_choice ws) K ts a = refl

pub query_end : (a : Asking) (qs ps : Parts) (below : Stack) → qs ≡ ps → IsQuery ps → query_closes (keyword_of qs) a qs below ≡ put_stmt (asked a ps) below
query_end a qs no_parts below e q = absurd q
query_end a qs (part p ps) below e q = ap (λ (x : Parts). query_closes (keyword_of x) a x below) e ∙ ap (λ (o : Option Keyword). query_closes o a (part p ps) below) q

pub nested_end : (qs ps : Parts) (below : Stack) → qs ≡ ps → IsQuery ps → nested_closes (keyword_of qs) qs below ≡ put_value (nested ps) below
nested_end qs no_parts below e q = absurd q
nested_end qs (part p ps) below e q = ap (λ (x : Parts). nested_closes (keyword_of x) x below) e ∙ ap (λ (o : Option Keyword). nested_closes o (part p ps) below) q

pub change_end : (set : Bool) (qs ps : Parts) (below : Stack) → qs ≡ ps → IsQuery ps → change_closes (keyword_of qs) set qs below ≡ put_change ps set below
change_end set qs no_parts below e q = absurd q
change_end set qs (part p ps) below e q = ap (λ (x : Parts). change_closes (keyword_of x) set x below) e ∙ ap (λ (o : Option Keyword). change_closes o set (part p ps) below) q

pub head_end : (sign : Sign) (qs ps : Parts) (below : Stack) → qs ≡ ps → IsQuery ps → head_closes (keyword_of qs) sign qs below ≡ Some (new_body (of_item sign ps) ∷ below)
head_end sign qs no_parts below e q = absurd q
head_end sign qs (part p ps) below e q = ap (λ (x : Parts). head_closes (keyword_of x) sign x below) e ∙ ap (λ (o : Option Keyword). head_closes o sign (part p ps) below) q

-- The values of a head stand in one place, whatever comes behind them.
pub head_place_of : (qs : List Part) (v : Value) (ps : Parts) → head_place (parts_of qs) ≡ head_place (parts_after qs (part (part_value v) ps))
head_place_of [] v ps = refl
head_place_of (part_word w ∷ []) v ps = refl
head_place_of (part_value u ∷ []) v ps = refl
head_place_of (part_word w ∷ part_word x ∷ qs) v ps = refl
head_place_of (part_word w ∷ part_value x ∷ qs) v ps = refl
head_place_of (part_value u ∷ x ∷ qs) v ps = refl
