-- Reading token by token, with no token looked at ahead: what stands open, the innermost first. The proofs alone rest on it.
use Rattle.std.specs.Prelude.{◌&&◌, ℕ, List, [], ◌∷◌, ◌++◌, Bool, true, false, not, Option, Some, None, option_and_then, if◌then◌else◌}
use Rattle.dg_base.specs.Tree.{Part, part_word, part_value, Parts, no_parts, part, Value, num, dict_word, object_name, current_topic, anonymous, variable, plain_list, tailed_list, closure, nested, word_choice, Stmt, text, print, ask, ask_all, ask_not, group, not_group, now, choice, choice_else, exhaust, stoppable, collect, accumulate, select, Stmts, Body, parts_of, values_of, stmts_of, arms_of, changes_of}
use Rattle.dg_reader.specs.Tokens.{Tok, word, dict, object, var, anon, at, hash, open_round, close_round, open_square, close_square, open_brace, close_brace, bar, star, tilde, are_digits, digits_number, word_parts, are_several}
use Rattle.dg_reader.specs.Grammar.{now_word, if_word, then_word, elseif_word, else_word, endif_word, or_word, exhaust_word, stoppable_word, select_word, end_word, Keyword, bare, collect_word, accumulate_word, into_word, keyword_of, is_declaration}
use Rattle.dg_open.specs.Shapes.{Sign, plain_rule, negated, access_rule, Shape}
use Rattle.dg_open.specs.inside.Standing.{Asking, for_one, for_all, for_none, Owner, of_item, of_group, of_not_group, of_closure, of_condition, of_then, of_else, of_select, of_collect, of_accumulate, Wrapper, exhausting, stopping, Frame, start, start_of, whole_topic, in_head, in_nested, in_query, in_change, in_list, in_tail, in_list_end, behind_star, behind_tilde, behind_now, in_changes, behind_clear, in_body, Stack, body_of, finished}

-- The query of these parts.
abbrev pub asked : Asking → Parts → Stmt
asked for_one ps = ask ps
asked for_all ps = ask_all ps
asked for_none ps = ask_not ps

-- A statement behind one keyword.
abbrev pub wrap : Wrapper → Stmt → Stmt
wrap exhausting s = exhaust s
wrap stopping s = stoppable s

-- A statement behind these keywords.
abbrev pub wrapped : List Wrapper → Stmt → Stmt
wrapped [] s = s
wrapped (w ∷ ws) s = wrap w (wrapped ws s)

-- A body that begins.
abbrev pub new_body : Owner → Frame
new_body o = in_body o [] [] []

-- One more statement.
abbrev pub put_stmt : Stmt → Stack → Option Stack
put_stmt s (in_body o bs ss ws ∷ below) = Some (in_body o bs (ss ++ wrapped ws s ∷ []) [] ∷ below)
put_stmt s below = None

-- One more part.
abbrev pub put_part : Part → Stack → Option Stack
put_part p (in_head sign ps ∷ below) = Some (in_head sign (ps ++ p ∷ []) ∷ below)
put_part p (in_nested c ps ∷ below) = Some (in_nested c (ps ++ p ∷ []) ∷ below)
put_part p (in_query a ps ∷ below) = Some (in_query a (ps ++ p ∷ []) ∷ below)
put_part p (in_change set ps ∷ below) = Some (in_change set (ps ++ p ∷ []) ∷ below)
put_part p below = None

-- One more value in a list.
abbrev pub put_element : Value → Stack → Option Stack
put_element v (in_list c vs ∷ below) = Some (in_list c (vs ++ v ∷ []) ∷ below)
put_element v (in_tail c vs ∷ below) = Some (in_list_end c vs v ∷ below)
put_element v below = None

-- One more value, where a value may stand and isn't printed.
abbrev pub put_value : Value → Stack → Option Stack
put_value v (in_list c vs ∷ below) = put_element v (in_list c vs ∷ below)
put_value v (in_tail c vs ∷ below) = put_element v (in_tail c vs ∷ below)
put_value v below = put_part (part_value v) below

-- One more value, where a value may stand or be printed.
abbrev pub put_printed : Value → Stack → Option Stack
put_printed v (in_body o bs ss ws ∷ below) = put_stmt (print v) (in_body o bs ss ws ∷ below)
put_printed v below = put_value v below

-- The number that a word of digits is.
abbrev pub put_number : Option ℕ → Stack → Option Stack
put_number None below = None
put_number (Some n) below = put_value (num n) below

-- A word among parts.
abbrev pub word_part : List ℕ → Stack → Option Stack
word_part w below = if are_digits w then put_number (digits_number w) below else put_part (part_word w) below

-- A word of a list is itself, or where choices may stand and it is one, a choice.
abbrev pub element_of : Bool → List ℕ → Value
element_of choices w = if choices && are_several (word_parts w) then word_choice (word_parts w) else dict_word w

-- A word among the elements of a list.
abbrev pub word_element : Bool → List ℕ → Stack → Option Stack
word_element choices w below = if are_digits w then put_number (digits_number w) below else put_element (element_of choices w) below

-- A word where only a value may stand.
abbrev pub word_value : List ℕ → Stack → Option Stack
word_value w below = if are_digits w then put_number (digits_number w) below else None

-- A word, by where it stands.
abbrev pub put_word : List ℕ → Stack → Option Stack
put_word w (in_list c vs ∷ below) = word_element c w (in_list c vs ∷ below)
put_word w (in_tail c vs ∷ below) = word_value w (in_tail c vs ∷ below)
put_word w (in_body o bs ss ws ∷ below) = put_stmt (text w) (in_body o bs ss ws ∷ below)
put_word w st = word_part w st

-- One more change.
abbrev pub put_change : Parts → Bool → Stack → Option Stack
put_change ps set (behind_now ∷ below) = put_stmt (now (changes_of ((ps, set) ∷ []))) below
put_change ps set (in_changes cs ∷ below) = Some (in_changes (cs ++ (ps, set) ∷ []) ∷ below)
put_change ps set below = None

-- ---- what opens

-- Whether choices of words may stand in the lists of what stands innermost.
abbrev pub choices_in : Frame → Bool
choices_in (in_head sign ps) = not (is_declaration (parts_of ps))
choices_in (in_nested c ps) = c
choices_in (in_list c vs) = c
choices_in (in_tail c vs) = c
choices_in f = false

-- Whether a value may stand there and isn't printed.
abbrev pub takes_value : Frame → Bool
takes_value (in_head sign ps) = true
takes_value (in_nested c ps) = true
takes_value (in_query a ps) = true
takes_value (in_change set ps) = true
takes_value (in_list c vs) = true
takes_value (in_tail c vs) = true
takes_value f = false

-- Whether it is a body.
abbrev pub is_body : Frame → Bool
is_body (in_body o bs ss ws) = true
is_body f = false

-- A list begins.
abbrev pub open_list : Stack → Option Stack
open_list [] = None
open_list (in_body o bs ss ws ∷ below) = Some (in_list false [] ∷ in_body o bs ss ws ∷ below)
open_list (f ∷ below) = if takes_value f then Some (in_list (choices_in f) [] ∷ f ∷ below) else None

-- Braces begin inside this: a group or a closure.
abbrev pub body_inside : Frame → Stack → Option Stack
body_inside (in_body o bs ss ws) below = Some (new_body of_group ∷ in_body o bs ss ws ∷ below)
body_inside f below = if takes_value f then Some (new_body of_closure ∷ f ∷ below) else None

-- Braces begin: of a negated group, of changes, or inside what goes on behind them.
abbrev pub open_body : Stack → Option Stack
open_body [] = None
open_body (behind_tilde ∷ below) = Some (new_body of_not_group ∷ below)
open_body (behind_now ∷ below) = Some (in_changes [] ∷ below)
open_body (f ∷ below) = body_inside f below

-- A parenthesis begins inside this.
abbrev pub open_inside : Frame → Stack → Option Stack
open_inside (in_head sign ps) below = Some (in_nested (choices_in (in_head sign ps)) [] ∷ in_head sign ps ∷ below)
open_inside behind_now below = Some (in_change true [] ∷ behind_now ∷ below)
open_inside (in_changes cs) below = Some (in_change true [] ∷ in_changes cs ∷ below)
open_inside (in_body o bs ss ws) below = Some (in_query for_one [] ∷ in_body o bs ss ws ∷ below)
open_inside f below = None

-- A parenthesis begins.
abbrev pub open_paren : Stack → Option Stack
open_paren [] = None
open_paren (start ∷ below) = Some (in_head plain_rule [] ∷ below)
open_paren (start_of sign ∷ below) = Some (in_head sign [] ∷ below)
open_paren (behind_star ∷ below) = Some (in_query for_all [] ∷ below)
open_paren (behind_tilde ∷ below) = Some (in_query for_none [] ∷ below)
open_paren (behind_clear ∷ below) = Some (in_change false [] ∷ below)
open_paren (f ∷ below) = open_inside f below

-- ---- keywords

-- A keyword that ends a branch, a part or the whole of what a body is the body of.
abbrev pub end_of : Keyword → Owner → List Stmts → List Stmt → Stack → Option Stack
end_of (bare or_word) o bs ss below = Some (in_body o (bs ++ stmts_of ss ∷ []) [] [] ∷ below)
end_of (bare then_word) (of_condition as') bs ss below = Some (new_body (of_then as' (body_of bs ss)) ∷ below)
end_of (bare elseif_word) (of_then as' c) bs ss below = Some (new_body (of_condition (as' ++ (c, body_of bs ss) ∷ [])) ∷ below)
end_of (bare else_word) (of_then as' c) bs ss below = Some (new_body (of_else (as' ++ (c, body_of bs ss) ∷ [])) ∷ below)
end_of (bare endif_word) (of_then as' c) bs ss below = put_stmt (choice (arms_of (as' ++ (c, body_of bs ss) ∷ []))) below
end_of (bare endif_word) (of_else as') bs ss below = put_stmt (choice_else (arms_of as') (body_of bs ss)) below
end_of (bare (end_word mode)) of_select bs ss below = put_stmt (select mode (body_of bs ss)) below
end_of (into_word into) (of_collect v) bs ss below = put_stmt (collect v (body_of bs ss) into) below
end_of (into_word into) (of_accumulate v) bs ss below = put_stmt (accumulate v (body_of bs ss) into) below
end_of k o bs ss below = None

-- Such a keyword may not stand where a statement is waited for.
abbrev pub end_unless_waiting : Keyword → Owner → List Stmts → List Stmt → List Wrapper → Stack → Option Stack
end_unless_waiting k o bs ss [] below = end_of k o bs ss below
end_unless_waiting k o bs ss (w ∷ ws) below = None

-- What a keyword does in a body: it begins a construct, waits for a statement, or ends something.
pub data Opening : Type 0 where
  begins : Frame → Opening
  waits : Wrapper → Opening
  ends : Keyword → Opening

abbrev pub opening : Keyword → Opening
opening (bare now_word) = begins behind_now
opening (bare if_word) = begins (new_body (of_condition []))
opening (bare select_word) = begins (new_body of_select)
opening (collect_word v) = begins (new_body (of_collect v))
opening (accumulate_word v) = begins (new_body (of_accumulate v))
opening (bare exhaust_word) = waits exhausting
opening (bare stoppable_word) = waits stopping
opening k = ends k

abbrev pub opened_by : Opening → Owner → List Stmts → List Stmt → List Wrapper → Stack → Option Stack
opened_by (begins f) o bs ss ws below = Some (f ∷ in_body o bs ss ws ∷ below)
opened_by (waits w) o bs ss ws below = Some (in_body o bs ss (ws ++ w ∷ []) ∷ below)
opened_by (ends k) o bs ss ws below = end_unless_waiting k o bs ss ws below

-- A keyword in a body.
abbrev pub keyword_step : Keyword → Owner → List Stmts → List Stmt → List Wrapper → Stack → Option Stack
keyword_step k o bs ss ws below = opened_by (opening k) o bs ss ws below

abbrev pub put_opening : Opening → Stack → Option Stack
put_opening p (in_body o bs ss ws ∷ below) = opened_by p o bs ss ws below
put_opening p below = None

abbrev pub body_keyword : Keyword → Stack → Option Stack
body_keyword k st = put_opening (opening k) st

-- ---- what closes

-- The parenthesis of an item closes.
abbrev pub head_closes : Option Keyword → Sign → Parts → Stack → Option Stack
head_closes (Some k) sign ps below = None
head_closes None sign no_parts below = None
head_closes None sign (part p ps) below = Some (new_body (of_item sign (part p ps)) ∷ below)

-- The parenthesis of a query in a head closes.
abbrev pub nested_closes : Option Keyword → Parts → Stack → Option Stack
nested_closes (Some k) ps below = None
nested_closes None no_parts below = None
nested_closes None (part p ps) below = put_value (nested (part p ps)) below

-- A parenthesis that is a keyword stands where a query may.
abbrev pub keyword_asked : Asking → Keyword → Stack → Option Stack
keyword_asked for_one k below = body_keyword k below
keyword_asked a k below = None

-- The parenthesis of a query in a body closes: it may be a keyword.
abbrev pub query_closes : Option Keyword → Asking → Parts → Stack → Option Stack
query_closes (Some k) a ps below = keyword_asked a k below
query_closes None a no_parts below = None
query_closes None a (part p ps) below = put_stmt (asked a (part p ps)) below

-- The parenthesis of a change closes.
abbrev pub change_closes : Option Keyword → Bool → Parts → Stack → Option Stack
change_closes (Some k) set ps below = None
change_closes None set no_parts below = None
change_closes None set (part p ps) below = put_change (part p ps) set below

abbrev pub close_paren : Stack → Option Stack
close_paren (in_head sign ps ∷ below) = head_closes (keyword_of (parts_of ps)) sign (parts_of ps) below
close_paren (in_nested c ps ∷ below) = nested_closes (keyword_of (parts_of ps)) (parts_of ps) below
close_paren (in_query a ps ∷ below) = query_closes (keyword_of (parts_of ps)) a (parts_of ps) below
close_paren (in_change set ps ∷ below) = change_closes (keyword_of (parts_of ps)) set (parts_of ps) below
close_paren st = None

-- The bracket of a list closes.
abbrev pub close_list : Stack → Option Stack
close_list (in_list c vs ∷ below) = put_printed (plain_list (values_of vs)) below
close_list (in_list_end c vs v ∷ below) = put_printed (tailed_list (values_of vs) v) below
close_list st = None

-- The brace of a body closes.
abbrev pub body_closes : Owner → Body → Stack → Option Stack
body_closes of_group b below = put_stmt (group b) below
body_closes of_not_group b below = put_stmt (not_group b) below
body_closes of_closure b below = put_value (closure b) below
body_closes o b below = None

abbrev pub close_body : Stack → Option Stack
close_body (in_body o bs ss [] ∷ below) = body_closes o (body_of bs ss) below
close_body (in_changes cs ∷ below) = put_stmt (now (changes_of cs)) below
close_body st = None

-- ---- the other tokens

abbrev pub list_bar : Bool → List Value → Stack → Option Stack
list_bar c [] below = None
list_bar c (v ∷ vs) below = Some (in_tail c (v ∷ vs) ∷ below)

abbrev pub put_bar : Stack → Option Stack
put_bar (in_list c vs ∷ below) = list_bar c vs below
put_bar st = None

abbrev pub put_star : Stack → Option Stack
put_star (in_body o bs ss ws ∷ below) = Some (behind_star ∷ in_body o bs ss ws ∷ below)
put_star st = put_value current_topic st

abbrev pub tilde_inside : Frame → Stack → Option Stack
tilde_inside behind_now below = Some (behind_clear ∷ behind_now ∷ below)
tilde_inside (in_changes cs) below = Some (behind_clear ∷ in_changes cs ∷ below)
tilde_inside (in_body o bs ss ws) below = Some (behind_tilde ∷ in_body o bs ss ws ∷ below)
tilde_inside f below = None

abbrev pub put_tilde : Stack → Option Stack
put_tilde [] = None
put_tilde (start ∷ below) = Some (start_of negated ∷ below)
put_tilde (f ∷ below) = tilde_inside f below

abbrev pub put_at : Stack → Option Stack
put_at (start ∷ below) = Some (start_of access_rule ∷ below)
put_at st = None

abbrev pub put_object : List ℕ → Stack → Option Stack
put_object n (start ∷ below) = Some (whole_topic n ∷ below)
put_object n st = put_printed (object_name n) st

-- ---- the whole

-- What stands open behind one token more, where the token may stand there.
abbrev pub step : Tok → Stack → Option Stack
step (word w) st = put_word w st
step (dict w) st = put_printed (dict_word w) st
step (object n) st = put_object n st
step (var w) st = put_printed (variable w) st
step anon st = put_printed anonymous st
step at st = put_at st
step hash st = None
step open_round st = open_paren st
step close_round st = close_paren st
step open_square st = open_list st
step close_square st = close_list st
step open_brace st = open_body st
step close_brace st = close_body st
step bar st = put_bar st
step star st = put_star st
step tilde st = put_tilde st

-- What stands open behind these tokens, where each of them was taken.
abbrev pub run : List Tok → Stack → Option Stack
run [] st = Some st
run (t ∷ ts) st = option_and_then (run ts) (step t st)

-- How a whole list of tokens ends: as an item, before one, or at a token that can't stand there.
pub data Outcome : Type 0 where
  done : Shape → Outcome
  unclosed : Outcome
  unexpected : Outcome

abbrev pub at_end : Option Shape → Outcome
at_end None = unclosed
at_end (Some shape) = done shape

abbrev pub outcome_from : Option Stack → Outcome
outcome_from None = unexpected
outcome_from (Some st) = at_end (finished st)

abbrev pub outcome : List Tok → Outcome
outcome ts = outcome_from (run ts (start ∷ []))

-- The outcome, where the first token must stand in the first column.
abbrev pub outcome_in : Bool → List Tok → Outcome
outcome_in true ts = outcome ts
outcome_in false ts = unexpected
