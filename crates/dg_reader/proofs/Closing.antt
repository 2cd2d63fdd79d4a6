-- Whatever stands open can be closed.
use Rattle.std.proofs.Common.{◌≡◌, ℕ, List, [], ◌∷◌, ◌++◌, Bool, true, false, Option, Some, None, refl, ◌∙◌, ap, subst}
use Rattle.std.specs.Prelude.{codes, ◌&&◌, option_and_then}
use Rattle.std.specs.Str.{bytes_eq}
use Rattle.dg_base.specs.declared.program.Mode.TheVariants.{Stopping}
use Rattle.dg_base.specs.Tree.{Part, part_word, part_value, Parts, no_parts, part, Value, anonymous, plain_list, tailed_list, closure, nested, Stmt, text, print, ask_all, ask_not, group, not_group, now, choice, choice_else, collect, accumulate, select, Stmts, no_changes, change, parts_of, values_of, arms_of, changes_of}
use Rattle.dg_reader.specs.Tokens.{Tok, word, anon, open_round, close_round, close_square, close_brace}
use Rattle.dg_reader.specs.Grammar.{Bare, Keyword, keyword_words, keyword_of, IsQuery, Follow, TokenAt, are_words, keyword_among, bare_keywords}
use Rattle.dg_open.specs.Shapes.{Sign, plain_rule, Shape, topic_line, clause}
use Rattle.dg_open.specs.inside.Standing.{Asking, Owner, of_item, of_group, of_not_group, of_closure, of_condition, of_then, of_else, of_select, of_collect, of_accumulate, Wrapper, Frame, start, start_of, whole_topic, in_head, in_nested, in_query, in_change, in_list, in_tail, in_list_end, behind_star, behind_tilde, behind_now, in_changes, behind_clear, in_body, Stack, body_of, finished}
use Rattle.dg_reader.specs.inside.Machine.{asked, wrapped, new_body, put_stmt, put_value, put_printed, put_change, head_closes, nested_closes, query_closes, change_closes, step, run}
use Rattle.dg_reader.proofs.Sound.{FitsStack, IsBody, TakesValue, TakesPrinted, TakesChange, Reads, Each, each_map}
use Rattle.dg_reader.proofs.Steps.{step_reads}
use Rattle.dg_reader.proofs.Complete.{if_not}

-- ---- running on

pub run-append : (xs ys : List Tok) (st : Stack) → run (xs ++ ys) st ≡ option_and_then (run ys) (run xs st)
run-append [] ys st = refl
run-append (x ∷ xs) ys st = here (step x st) (run-append xs ys)
  where
    here : (o : Option Stack) → ((new : Stack) → run (xs ++ ys) new ≡ option_and_then (run ys) (run xs new)) → option_and_then (run (xs ++ ys)) o ≡ option_and_then (run ys) (option_and_then (run xs) o)
    here None later = refl
    here (Some new) later = later new

-- these tokens stand there
abbrev pub AllAt : List Tok → Follow → Follow
AllAt [] K = K
AllAt (t ∷ ts) K = TokenAt t (AllAt ts K)

pub run_reads : (ts : List Tok) (st : Stack) → FitsStack st → Each (run ts st) (Reads st (AllAt ts))
run_reads [] st fits = record { fits = fits; leads = λ K ts a. a }
run_reads (t ∷ ts) st fits = here (step t st) (step_reads t st fits) (run_reads ts)
  where
    here : (o : Option Stack) → Each o (Reads st (TokenAt t)) → ((mid : Stack) → FitsStack mid → Each (run ts mid) (Reads mid (AllAt ts))) → Each (option_and_then (run ts) o) (Reads st (AllAt (t ∷ ts)))
    here None a later = tt
    here (Some mid) a later =
        each_map (run ts mid) (Reads mid (AllAt ts)) (Reads st (AllAt (t ∷ ts)))
        (λ new r. record { fits = r.fits; leads = λ K us x. r.leads K us (a.leads (AllAt ts K) us x) }) (later mid a.fits)

pub run_fits : (ts : List Tok) (st new : Stack) → FitsStack st → run ts st ≡ Some new → FitsStack new
run_fits ts st new fits e = (subst (λ (o : Option Stack). Each o (Reads st (AllAt ts))) e (run_reads ts st fits)).fits

-- ---- a word that is in no keyword

abbrev x : Part
x = part_word (codes "x")

abbrev HasNoX : List (List ℕ) → Type 0
HasNoX [] = Unit {0}
HasNoX (w ∷ ws) = (bytes_eq (codes "x") w ≡ false) × HasNoX ws

and_false : (a b : Bool) → b ≡ false → a && b ≡ false
and_false true b e = e
and_false false b e = refl

no_words : (ps : List Part) (ws : List (List ℕ)) → HasNoX ws → are_words (parts_of (ps ++ x ∷ [])) ws ≡ false
no_words [] [] h = refl
no_words [] (w ∷ ws) h = and_false (are_words no_parts ws) (bytes_eq (codes "x") w) h.0
no_words (part_word u ∷ ps) [] h = refl
no_words (part_word u ∷ ps) (w ∷ ws) h = ap (λ (b : Bool). b && bytes_eq u w) (no_words ps ws h.1)
no_words (part_value v ∷ ps) [] h = refl
no_words (part_value v ∷ ps) (w ∷ ws) h = refl

abbrev HaveNoX : List Bare → Type 0
HaveNoX [] = Unit {0}
HaveNoX (k ∷ ks) = HasNoX (keyword_words k) × HaveNoX ks

none_among : (ps : List Part) (ks : List Bare) → HaveNoX ks → keyword_among (parts_of (ps ++ x ∷ [])) ks ≡ None
none_among ps [] h = refl
none_among ps (k ∷ ks) h = if_not (are_words (parts_of (ps ++ x ∷ [])) (keyword_words k)) _ _ (no_words ps (keyword_words k) h.0) ∙ none_among ps ks h.1

no_x : HaveNoX bare_keywords
no_x = ((refl, tt), ((refl, tt), ((refl, tt), ((refl, tt), ((refl, tt), ((refl, tt), ((refl, tt), ((refl, tt), ((refl, tt), ((refl, tt), ((refl, tt), ((refl, tt), ((refl, (refl, tt)), ((refl, (refl, (refl, tt))), ((refl, (refl, (refl, tt))), ((refl, (refl, (refl, (refl, tt)))), tt))))))))))))))))

query_x : (ps : List Part) → IsQuery (parts_of (ps ++ x ∷ []))
query_x [] = none_among [] bare_keywords no_x
query_x (part_value v ∷ ps) = none_among (part_value v ∷ ps) bare_keywords no_x
query_x (part_word w ∷ []) = none_among (part_word w ∷ []) bare_keywords no_x
query_x (part_word w ∷ part_word u ∷ ps) = none_among (part_word w ∷ part_word u ∷ ps) bare_keywords no_x
query_x (part_word w ∷ part_value v ∷ []) = none_among (part_word w ∷ part_value v ∷ []) bare_keywords no_x
query_x (part_word w ∷ part_value v ∷ p ∷ ps) = none_among (part_word w ∷ part_value v ∷ p ∷ ps) bare_keywords no_x

-- ---- closing

-- Some tokens lead from here to an item's end.
pub record Finishes (st : Stack) : Type 0 where
  pub rest : List Tok
  pub shape : Shape
  pub new : Stack
  pub runs : run rest st ≡ Some new
  pub ends : finished new ≡ Some shape

first_then : (ts : List Tok) (st mid : Stack) → run ts st ≡ Some mid → Finishes mid → Finishes st
first_then ts st mid e h = record { rest = ts ++ h.rest; shape = h.shape; new = h.new; runs = run-append ts h.rest st ∙ ap (option_and_then (run h.rest)) e ∙ h.runs; ends = h.ends }

-- What stands open over this, with any innermost construct, can be closed.
abbrev CanEnd : Stack → Type 0
CanEnd below = (f : Frame) → FitsStack (f ∷ below) → Finishes (f ∷ below)

-- That holds of each of these.
abbrev AllCanEnd : Stack → Type 0
AllCanEnd [] = CanEnd []
AllCanEnd (g ∷ below) = CanEnd (g ∷ below) × AllCanEnd below

now_can : (below : Stack) → AllCanEnd below → CanEnd below
now_can [] h = h
now_can (g ∷ below) h = h.0

-- These tokens lead to this, which can be closed.
leads_to : (ts : List Tok) (st : Stack) (f : Frame) (below : Stack) → FitsStack st → run ts st ≡ Some (f ∷ below) → CanEnd below → Finishes st
leads_to ts st f below fits e h = first_then ts st (f ∷ below) e (h f (run_fits ts st (f ∷ below) fits e))

and_some : (o : Option Stack) → option_and_then (run []) o ≡ o
and_some None = refl
and_some (Some st) = refl

query_closes_x : (a : Asking) (ps : List Part) (below : Stack) → query_closes (keyword_of (parts_of (ps ++ x ∷ []))) a (parts_of (ps ++ x ∷ [])) below ≡ put_stmt (asked a (parts_of (ps ++ x ∷ []))) below
query_closes_x a ps below = here (parts_of (ps ++ x ∷ [])) (query_x ps)
  where
    here : (qs : Parts) → IsQuery qs → query_closes (keyword_of qs) a qs below ≡ put_stmt (asked a qs) below
    here no_parts q = absurd q
    here (part p qs) q = ap (λ (o : Option Keyword). query_closes o a (part p qs) below) q

nested_closes_x : (ps : List Part) (below : Stack) → nested_closes (keyword_of (parts_of (ps ++ x ∷ []))) (parts_of (ps ++ x ∷ [])) below ≡ put_value (nested (parts_of (ps ++ x ∷ []))) below
nested_closes_x ps below = here (parts_of (ps ++ x ∷ [])) (query_x ps)
  where
    here : (qs : Parts) → IsQuery qs → nested_closes (keyword_of qs) qs below ≡ put_value (nested qs) below
    here no_parts q = absurd q
    here (part p qs) q = ap (λ (o : Option Keyword). nested_closes o (part p qs) below) q

change_closes_x : (set : Bool) (ps : List Part) (below : Stack) → change_closes (keyword_of (parts_of (ps ++ x ∷ []))) set (parts_of (ps ++ x ∷ [])) below ≡ put_change (parts_of (ps ++ x ∷ [])) set below
change_closes_x set ps below = here (parts_of (ps ++ x ∷ [])) (query_x ps)
  where
    here : (qs : Parts) → IsQuery qs → change_closes (keyword_of qs) set qs below ≡ put_change qs set below
    here no_parts q = absurd q
    here (part p qs) q = ap (λ (o : Option Keyword). change_closes o set (part p qs) below) q

head_closes_x : (sign : Sign) (ps : List Part) (below : Stack) → head_closes (keyword_of (parts_of (ps ++ x ∷ []))) sign (parts_of (ps ++ x ∷ [])) below ≡ Some (new_body (of_item sign (parts_of (ps ++ x ∷ []))) ∷ below)
head_closes_x sign ps below = here (parts_of (ps ++ x ∷ [])) (query_x ps)
  where
    here : (qs : Parts) → IsQuery qs → head_closes (keyword_of qs) sign qs below ≡ Some (new_body (of_item sign qs) ∷ below)
    here no_parts q = absurd q
    here (part p qs) q = ap (λ (o : Option Keyword). head_closes o sign (part p qs) below) q

abbrev x_close : List Tok
x_close = word (codes "x") ∷ close_round ∷ []

abbrev x_query : List Tok
x_query = open_round ∷ x_close

-- A value that ends what stands open leads to one construct less.
value_ends : (t : Tok) (v : Value) (f g : Frame) (below : Stack) → FitsStack (f ∷ g ∷ below) → TakesPrinted (g ∷ below) → step t (f ∷ g ∷ below) ≡ put_printed v (g ∷ below) → CanEnd below → Finishes (f ∷ g ∷ below)
value_ends t v f (in_head sign ps) below fits p e h = leads_to (t ∷ []) _ (in_head sign (ps ++ part_value v ∷ [])) below fits (ap (option_and_then (run [])) e) h
value_ends t v f (in_nested c ps) below fits p e h = leads_to (t ∷ []) _ (in_nested c (ps ++ part_value v ∷ [])) below fits (ap (option_and_then (run [])) e) h
value_ends t v f (in_query a ps) below fits p e h = leads_to (t ∷ []) _ (in_query a (ps ++ part_value v ∷ [])) below fits (ap (option_and_then (run [])) e) h
value_ends t v f (in_change set ps) below fits p e h = leads_to (t ∷ []) _ (in_change set (ps ++ part_value v ∷ [])) below fits (ap (option_and_then (run [])) e) h
value_ends t v f (in_list c vs) below fits p e h = leads_to (t ∷ []) _ (in_list c (vs ++ v ∷ [])) below fits (ap (option_and_then (run [])) e) h
value_ends t v f (in_tail c vs) below fits p e h = leads_to (t ∷ []) _ (in_list_end c vs v) below fits (ap (option_and_then (run [])) e) h
value_ends t v f (in_body o bs ss ws) below fits p e h = leads_to (t ∷ []) _ (in_body o bs (ss ++ wrapped ws (print v) ∷ []) []) below fits (ap (option_and_then (run [])) e) h
value_ends t v f g below fits p e h = absurd p

closure_ends : (bs : List Stmts) (ss : List Stmt) (g : Frame) (below : Stack) → FitsStack (in_body of_closure bs ss [] ∷ g ∷ below) → TakesValue (g ∷ below) → CanEnd below → Finishes (in_body of_closure bs ss [] ∷ g ∷ below)
closure_ends bs ss (in_head sign ps) below fits p h = value_ends close_brace (closure (body_of bs ss)) _ (in_head sign ps) below fits tt refl h
closure_ends bs ss (in_nested c ps) below fits p h = value_ends close_brace (closure (body_of bs ss)) _ (in_nested c ps) below fits tt refl h
closure_ends bs ss (in_query a ps) below fits p h = value_ends close_brace (closure (body_of bs ss)) _ (in_query a ps) below fits tt refl h
closure_ends bs ss (in_change set ps) below fits p h = value_ends close_brace (closure (body_of bs ss)) _ (in_change set ps) below fits tt refl h
closure_ends bs ss (in_list c vs) below fits p h = value_ends close_brace (closure (body_of bs ss)) _ (in_list c vs) below fits tt refl h
closure_ends bs ss (in_tail c vs) below fits p h = value_ends close_brace (closure (body_of bs ss)) _ (in_tail c vs) below fits tt refl h
closure_ends bs ss g below fits p h = absurd p

-- A statement that ends what stands open leads to one construct less.
stmt_ends : (ts : List Tok) (s : Stmt) (f g : Frame) (below : Stack) → FitsStack (f ∷ g ∷ below) → IsBody (g ∷ below) → run ts (f ∷ g ∷ below) ≡ put_stmt s (g ∷ below) → CanEnd below → Finishes (f ∷ g ∷ below)
stmt_ends ts s f (in_body o bs ss ws) below fits p e h = leads_to ts _ (in_body o bs (ss ++ wrapped ws s ∷ []) []) below fits e h
stmt_ends ts s f g below fits p e h = absurd p

no_below : (g : Frame) (below : Stack) → g ∷ below ≡ [] → ⊥
no_below g below e = cc

-- Behind a (now) comes one construct more to be left.
change_ends : (ts : List Tok) (ps : Parts) (set : Bool) (f g : Frame) (below : Stack) → FitsStack (f ∷ g ∷ below) → TakesChange (g ∷ below) → FitsStack (g ∷ below) → run ts (f ∷ g ∷ below) ≡ put_change ps set (g ∷ below) → AllCanEnd below → Finishes (f ∷ g ∷ below)
change_ends ts ps set f behind_now [] fits t gits e h = absurd gits.0
change_ends ts ps set f behind_now (in_body o bs ss ws ∷ below) fits t gits e h = leads_to ts _ (in_body o bs (ss ++ wrapped ws (now (change ps set no_changes)) ∷ []) []) below fits e (now_can below h.1)
change_ends ts ps set f behind_now (g ∷ below) fits t gits e h = absurd gits.0
change_ends ts ps set f (in_changes cs) below fits t gits e h = leads_to ts _ (in_changes (cs ++ (ps, set) ∷ [])) below fits e (now_can below h)
change_ends ts ps set f g below fits t gits e h = absurd t

body_ends : (o : Owner) (bs : List Stmts) (ss : List Stmt) (g : Frame) (below : Stack) → FitsStack (in_body o bs ss [] ∷ g ∷ below) → CanEnd below → Finishes (in_body o bs ss [] ∷ g ∷ below)
body_ends (of_item sign ps) bs ss g below fits h = absurd (no_below g below fits.0)
body_ends of_group bs ss g below fits h = stmt_ends (close_brace ∷ []) (group (body_of bs ss)) _ g below fits fits.0 (and_some (put_stmt (group (body_of bs ss)) (g ∷ below))) h
body_ends of_not_group bs ss g below fits h = stmt_ends (close_brace ∷ []) (not_group (body_of bs ss)) _ g below fits fits.0 (and_some (put_stmt (not_group (body_of bs ss)) (g ∷ below))) h
body_ends of_closure bs ss g below fits h = closure_ends bs ss g below fits fits.0 h
body_ends (of_condition as') bs ss g below fits h =
    let s = choice (arms_of (as' ++ (body_of bs ss, body_of [] []) ∷ [])) in
    stmt_ends (open_round ∷ word (codes "then") ∷ close_round ∷ open_round ∷ word (codes "endif") ∷ close_round ∷ []) s _ g below fits fits.0 (and_some (put_stmt s (g ∷ below))) h
body_ends (of_then as' c) bs ss g below fits h =
    let s = choice (arms_of (as' ++ (c, body_of bs ss) ∷ [])) in
    stmt_ends (open_round ∷ word (codes "endif") ∷ close_round ∷ []) s _ g below fits fits.0 (and_some (put_stmt s (g ∷ below))) h
body_ends (of_else as') bs ss g below fits h =
    let s = choice_else (arms_of as') (body_of bs ss) in
    stmt_ends (open_round ∷ word (codes "endif") ∷ close_round ∷ []) s _ g below fits fits.0 (and_some (put_stmt s (g ∷ below))) h
body_ends of_select bs ss g below fits h =
    let s = select Stopping (body_of bs ss) in
    stmt_ends (open_round ∷ word (codes "stopping") ∷ close_round ∷ []) s _ g below fits fits.0 (and_some (put_stmt s (g ∷ below))) h
body_ends (of_collect v) bs ss g below fits h =
    let s = collect v (body_of bs ss) anonymous in
    stmt_ends (open_round ∷ word (codes "into") ∷ anon ∷ close_round ∷ []) s _ g below fits fits.0 (and_some (put_stmt s (g ∷ below))) h
body_ends (of_accumulate v) bs ss g below fits h =
    let s = accumulate v (body_of bs ss) anonymous in
    stmt_ends (open_round ∷ word (codes "into") ∷ anon ∷ close_round ∷ []) s _ g below fits fits.0 (and_some (put_stmt s (g ∷ below))) h

some_body_ends : (o : Owner) (bs : List Stmts) (ss : List Stmt) (ws : List Wrapper) (g : Frame) (below : Stack) → FitsStack (in_body o bs ss ws ∷ g ∷ below) → CanEnd below → Finishes (in_body o bs ss ws ∷ g ∷ below)
some_body_ends o bs ss ws g below fits h =
    let us = ss ++ wrapped ws (text (codes "x")) ∷ [] in
    first_then (word (codes "x") ∷ []) _ (in_body o bs us [] ∷ g ∷ below) refl (body_ends o bs us g below fits h)

over : (f g : Frame) (below : Stack) → AllCanEnd below → FitsStack (f ∷ g ∷ below) → Finishes (f ∷ g ∷ below)
over start g below h fits = absurd (no_below g below fits)
over (start_of sign) g below h fits = absurd (no_below g below fits)
over (whole_topic n) g below h fits = absurd (no_below g below fits)
over (in_head sign ps) g below h fits = absurd (no_below g below fits)
over (in_nested c ps) (in_head sign qs) below h fits =
    leads_to x_close _ (in_head sign (qs ++ part_value (nested (parts_of (ps ++ x ∷ []))) ∷ [])) below fits
    (and_some (nested_closes (keyword_of (parts_of (ps ++ x ∷ []))) (parts_of (ps ++ x ∷ [])) (in_head sign qs ∷ below)) ∙ nested_closes_x ps (in_head sign qs ∷ below)) (now_can below h)
over (in_nested c ps) g below h fits = absurd fits.0
over (in_query a ps) g below h fits =
    stmt_ends x_close (asked a (parts_of (ps ++ x ∷ []))) _ g below fits fits.0
    (and_some (query_closes (keyword_of (parts_of (ps ++ x ∷ []))) a (parts_of (ps ++ x ∷ [])) (g ∷ below)) ∙ query_closes_x a ps (g ∷ below)) (now_can below h)
over (in_change set ps) g below h fits =
    change_ends x_close (parts_of (ps ++ x ∷ [])) set _ g below fits fits.0 fits.1
    (and_some (change_closes (keyword_of (parts_of (ps ++ x ∷ []))) set (parts_of (ps ++ x ∷ [])) (g ∷ below)) ∙ change_closes_x set ps (g ∷ below)) h
over (in_list c vs) g below h fits = value_ends close_square (plain_list (values_of vs)) _ g below fits fits.0 refl (now_can below h)
over (in_tail c vs) g below h fits =
    first_then (anon ∷ []) _ (in_list_end c vs anonymous ∷ g ∷ below) refl
    (value_ends close_square (tailed_list (values_of vs) anonymous) _ g below fits fits.0 refl (now_can below h))
over (in_list_end c vs v) g below h fits = value_ends close_square (tailed_list (values_of vs) v) _ g below fits fits.0 refl (now_can below h)
over behind_star g below h fits = stmt_ends x_query (ask_all (part x no_parts)) _ g below fits fits.0 (and_some (put_stmt (ask_all (part x no_parts)) (g ∷ below))) (now_can below h)
over behind_tilde g below h fits = stmt_ends x_query (ask_not (part x no_parts)) _ g below fits fits.0 (and_some (put_stmt (ask_not (part x no_parts)) (g ∷ below))) (now_can below h)
over behind_now g below h fits = stmt_ends x_query (now (change (part x no_parts) true no_changes)) _ g below fits fits.0 (and_some (put_stmt (now (change (part x no_parts) true no_changes)) (g ∷ below))) (now_can below h)
over (in_changes cs) g below h fits = stmt_ends (close_brace ∷ []) (now (changes_of cs)) _ g below fits fits.0 (and_some (put_stmt (now (changes_of cs)) (g ∷ below))) (now_can below h)
over behind_clear g below h fits = change_ends x_query (part x no_parts) false _ g below fits fits.0 fits.1 (and_some (put_change (part x no_parts) false (g ∷ below))) h
over (in_body o bs ss ws) g below h fits = some_body_ends o bs ss ws g below fits (now_can below h)

-- ---- the outermost construct

alone : (f : Frame) → FitsStack (f ∷ []) → Finishes (f ∷ [])
alone start fits = record { rest = x_query; shape = clause plain_rule (part x no_parts) (body_of [] []); new = new_body (of_item plain_rule (part x no_parts)) ∷ []; runs = refl; ends = refl }
alone (start_of sign) fits = record { rest = x_query; shape = clause sign (part x no_parts) (body_of [] []); new = new_body (of_item sign (part x no_parts)) ∷ []; runs = refl; ends = refl }
alone (whole_topic n) fits = record { rest = []; shape = topic_line n; new = whole_topic n ∷ []; runs = refl; ends = refl }
alone (in_head sign ps) fits = record {
  rest = x_close;
  shape = clause sign (parts_of (ps ++ x ∷ [])) (body_of [] []);
  new = new_body (of_item sign (parts_of (ps ++ x ∷ []))) ∷ [];
  runs = and_some (head_closes (keyword_of (parts_of (ps ++ x ∷ []))) sign (parts_of (ps ++ x ∷ [])) []) ∙ head_closes_x sign ps [];
  ends = refl;
}
alone (in_body (of_item sign ps) bs ss ws) fits = record {
  rest = word (codes "x") ∷ [];
  shape = clause sign ps (body_of bs (ss ++ wrapped ws (text (codes "x")) ∷ []));
  new = in_body (of_item sign ps) bs (ss ++ wrapped ws (text (codes "x")) ∷ []) [] ∷ [];
  runs = refl;
  ends = refl;
}
alone f fits = absurd fits.0

all_can_end : (below : Stack) → AllCanEnd below
all_can_end [] = alone
all_can_end (g ∷ below) = (λ f fits. over f g below (all_can_end below) fits, all_can_end below)

pub finishes : (f : Frame) (below : Stack) → FitsStack (f ∷ below) → Finishes (f ∷ below)
finishes f below fits = now_can below (all_can_end below) f fits
