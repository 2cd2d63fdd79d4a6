-- What opens, closes and ends is spelled by what stands open.
use Rattle.std.proofs.Common.{◌≡◌, inl, inr, ℕ, List, [], ◌∷◌, ◌++◌, Bool, true, false, Option, Some, None, refl, sym, ◌∙◌, ap, subst}
use Rattle.std.specs.Prelude.{codes, ◌&&◌, if◌then◌else◌}
use Rattle.std.specs.Str.{bytes_eq}
use Rattle.std.proofs.lemmas.Slice.Eq.{bytes_eq-Decides}
use Rattle.dg_base.specs.Tree.{Part, part_word, part_value, Parts, no_parts, part, Value, anonymous, variable, plain_list, tailed_list, closure, nested, Stmt, group, not_group, now, choice, choice_else, collect, accumulate, select, Stmts, Body, no_changes, change, parts_of, values_of, stmts_of, arms_of, changes_of}
use Rattle.dg_reader.specs.Tokens.{Tok, word, dict, object, var, anon, at, hash, open_round, close_round, open_square, close_square, open_brace, close_brace, bar, star, tilde}
use Rattle.dg_reader.specs.Grammar.{Bare, now_word, if_word, then_word, elseif_word, else_word, endif_word, or_word, exhaust_word, stoppable_word, select_word, end_word, Keyword, bare, collect_word, accumulate_word, into_word, keyword_words, keyword_of, keyword_with, is_query, IsQuery, Follow, TokenAt, WordsAt, KeywordAt, WordAndValue, Place, of_nested, of_query, behind_bar, has_choices, IsPrinted, ChangeSignAt, PartsAt, ValueAt, ElementsAt, StmtAt, StmtsAt, BodyAt, ArmsAt, head_place, are_words, keyword_among, bare_keywords}
use Rattle.dg_open.specs.Shapes.{Sign, plain_rule, negated, access_rule}
use Rattle.dg_open.specs.inside.Standing.{Asking, for_one, for_all, for_none, Owner, of_item, of_group, of_not_group, of_closure, of_condition, of_then, of_else, of_select, of_collect, of_accumulate, Wrapper, exhausting, stopping, start, start_of, in_head, in_nested, in_query, in_change, in_list, in_tail, in_list_end, behind_star, behind_tilde, behind_now, in_changes, behind_clear, in_body, Stack, body_of}
use Rattle.dg_reader.specs.inside.Machine.{asked, new_body, put_stmt, put_value, put_printed, put_change, choices_in, open_list, open_body, open_paren, end_of, end_unless_waiting, keyword_step, body_keyword, head_closes, nested_closes, query_closes, change_closes, close_paren, close_list, body_closes, close_body, put_bar, put_tilde, put_at, step}
use Rattle.dg_reader.proofs.More.{Leads, token_more, keyword_more, change_sign_more, sign_more, changes_more}
use Rattle.dg_reader.proofs.Spelled.{next_arm, OwnerAt, EarlierAt, AskingAt, changes-push, earlier-push, arms-push, next_arm-push, HasArms-push, HasArm-of, body-spelled, waiting-push}
use Rattle.dg_reader.proofs.Sound.{word_reads, dict_reads, object_reads, star_reads, FitsStack, IsHead, place_in, Reads, Each, each_map, same, instead, closed, opened, replaced, itself, put_stmt_reads, put_value_reads, put_printed_reads}

pub and_true : (a b : Bool) → a && b ≡ true → (a ≡ true) × (b ≡ true)
and_true true b e = (refl, e)
and_true false b e = cc

-- ---- keywords

words_spelled : (p : Place) (ps : Parts) (ws : List (List ℕ)) → are_words ps ws ≡ true → (K : Follow) → Leads (PartsAt p ps K) (WordsAt ws K)
words_spelled p no_parts [] e K = itself K
words_spelled p no_parts (w ∷ ws) e K = absurd (cc)
words_spelled p (part q ps) [] e K = absurd (cc)
words_spelled p (part (part_word u) ps) (w ∷ ws) e K =
    let both = and_true (are_words ps ws) (bytes_eq u w) e in
    let is = (bytes_eq-Decides u w).0 both.1 in
    λ ts a. token_more (word w) _ _ (words_spelled p ps ws both.0 K) ts (subst (λ (x : List ℕ). TokenAt (word x) (PartsAt p ps K) ts) is a.1)
words_spelled p (part (part_value v) ps) (w ∷ ws) e K = absurd (cc)

-- what a keyword is spelled like
abbrev pub KeyAt : Keyword → Follow → Follow
KeyAt (bare k) K = KeywordAt k K
KeyAt (collect_word v) K = WordAndValue (codes "collect") (λ F. ValueAt of_query v F) K
KeyAt (accumulate_word v) K = WordAndValue (codes "accumulate") (λ F. ValueAt of_query v F) K
KeyAt (into_word v) K = WordAndValue (codes "into") (λ F. ValueAt of_query v F) K

-- a parenthesis of these parts
abbrev Round : Parts → Follow → Follow
Round ps K = TokenAt open_round (PartsAt of_query ps (TokenAt close_round K))

abbrev Spelled : Parts → Keyword → Type 1
Spelled ps k = (K : Follow) → Leads (Round ps K) (KeyAt k K)

same_keyword : (ps : Parts) (k l : Keyword) → Some k ≡ Some l → Spelled ps k → Spelled ps l
same_keyword ps k l e s = subst (λ (x : Keyword). Spelled ps x) (given e) s
  where
    given : Some k ≡ Some l → k ≡ l
    given e = cc

among_spelled : (ps : Parts) (ks : List Bare) (k : Keyword) → keyword_among ps ks ≡ Some k → Spelled ps k
among_spelled ps [] k e = absurd (cc)
among_spelled ps (b ∷ ks) k e = here (are_words ps (keyword_words b)) refl (among_spelled ps ks k) e
  where
    here : (x : Bool) → are_words ps (keyword_words b) ≡ x → (keyword_among ps ks ≡ Some k → Spelled ps k) → (if x then Some (bare b) else keyword_among ps ks) ≡ Some k → Spelled ps k
    here true is later e = same_keyword ps (bare b) k e (λ K. token_more open_round _ _ (words_spelled of_query ps (keyword_words b) is (TokenAt close_round K)))
    here false is later e = later e

with_value : (w u : List ℕ) (v : Value) → w ≡ u → (K : Follow) → Leads (Round (part (part_word w) (part (part_value v) no_parts)) K) (WordAndValue u (λ F. ValueAt of_query v F) K)
with_value w u v e K = token_more open_round _ _ (λ ts a. subst (λ (x : List ℕ). TokenAt (word x) (ValueAt of_query v (TokenAt close_round K)) ts) e a.1)

with_spelled : (w : List ℕ) (v : Value) (k : Keyword) → keyword_with w v ≡ Some k → Spelled (part (part_word w) (part (part_value v) no_parts)) k
with_spelled w v k e = here (is_query v) (bytes_eq w (codes "collect")) (bytes_eq w (codes "accumulate")) (bytes_eq w (codes "into")) refl refl refl e
  where
    ps : Parts
    ps = part (part_word w) (part (part_value v) no_parts)

    here : (q a b c : Bool) → bytes_eq w (codes "collect") ≡ a → bytes_eq w (codes "accumulate") ≡ b → bytes_eq w (codes "into") ≡ c → (if q then None else if a then Some (collect_word v) else if b then Some (accumulate_word v) else if c then Some (into_word v) else None) ≡ Some k → Spelled (part (part_word w) (part (part_value v) no_parts)) k
    here true a b c ia ib ic e = absurd (cc)
    here false true b c ia ib ic e = same_keyword (part (part_word w) (part (part_value v) no_parts)) (collect_word v) k e (with_value w (codes "collect") v ((bytes_eq-Decides w (codes "collect")).0 ia))
    here false false true c ia ib ic e = same_keyword (part (part_word w) (part (part_value v) no_parts)) (accumulate_word v) k e (with_value w (codes "accumulate") v ((bytes_eq-Decides w (codes "accumulate")).0 ib))
    here false false false true ia ib ic e = same_keyword (part (part_word w) (part (part_value v) no_parts)) (into_word v) k e (with_value w (codes "into") v ((bytes_eq-Decides w (codes "into")).0 ic))
    here false false false false ia ib ic e = absurd (cc)

pub key_spelled : (ps : Parts) (k : Keyword) → keyword_of ps ≡ Some k → Spelled ps k
key_spelled (part (part_word w) (part (part_value v) no_parts)) k e = with_spelled w v k e
key_spelled no_parts k e = among_spelled no_parts bare_keywords k e
key_spelled (part (part_value v) ps) k e = among_spelled (part (part_value v) ps) bare_keywords k e
key_spelled (part (part_word w) no_parts) k e = among_spelled (part (part_word w) no_parts) bare_keywords k e
key_spelled (part (part_word w) (part (part_word u) ps)) k e = among_spelled (part (part_word w) (part (part_word u) ps)) bare_keywords k e
key_spelled (part (part_word w) (part (part_value v) (part q ps))) k e = among_spelled (part (part_word w) (part (part_value v) (part q ps))) bare_keywords k e

-- ---- what ends a body

arms_end : (as' : List (Body × Body)) (c : Body) (bs : List Stmts) (ss : List Stmt) (K : Follow) → OwnerAt (of_then as' c) (EarlierAt bs (StmtsAt (stmts_of ss) K)) ≡ ArmsAt if_word (arms_of (as' ++ (c, body_of bs ss) ∷ [])) K
arms_end as' c bs ss K =
    ap (λ (F : Follow). ArmsAt if_word (arms_of as') (KeywordAt (next_arm as') (BodyAt c (KeywordAt then_word F)))) (sym (body-spelled bs ss K))
    ∙ sym (arms-push as' c (body_of bs ss) K)

end_reads : (k : Keyword) (o : Owner) (bs : List Stmts) (ss : List Stmt) (below : Stack) → FitsStack (in_body o bs ss [] ∷ below) → Each (end_of k o bs ss below) (Reads (in_body o bs ss [] ∷ below) (KeyAt k))
end_reads (bare or_word) o bs ss below fits =
    replaced (in_body o bs ss []) (in_body o (bs ++ stmts_of ss ∷ []) [] []) below (KeywordAt or_word) fits
    (λ K. same _ _ (ap (λ (F : Follow). OwnerAt o F) (sym (earlier-push bs (stmts_of ss) K))))
end_reads (bare then_word) (of_condition as') bs ss below fits =
    replaced (in_body (of_condition as') bs ss []) (new_body (of_then as' (body_of bs ss))) below (KeywordAt then_word) fits
    (λ K. same _ _ (ap (λ (F : Follow). ArmsAt if_word (arms_of as') (KeywordAt (next_arm as') F)) (sym (body-spelled bs ss (KeywordAt then_word K)))))
end_reads (bare elseif_word) (of_then as' c) bs ss below fits =
    replaced (in_body (of_then as' c) bs ss []) (new_body (of_condition (as' ++ (c, body_of bs ss) ∷ []))) below (KeywordAt elseif_word) fits
    (λ K. same _ _ (arms_end as' c bs ss (KeywordAt elseif_word K) ∙ ap (λ (b : Bare). ArmsAt if_word (arms_of (as' ++ (c, body_of bs ss) ∷ [])) (KeywordAt b K)) (sym (next_arm-push as' (c, body_of bs ss)))))
end_reads (bare else_word) (of_then as' c) bs ss below fits =
    replaced (in_body (of_then as' c) bs ss []) (new_body (of_else (as' ++ (c, body_of bs ss) ∷ []))) below (KeywordAt else_word) fits
    (λ K ts a. (HasArms-push as' (c, body_of bs ss), same _ _ (arms_end as' c bs ss (KeywordAt else_word K)) ts a))
end_reads (bare endif_word) (of_then as' c) bs ss below fits =
    let arms = as' ++ (c, body_of bs ss) ∷ [] in
    each_map (put_stmt (choice (arms_of arms)) below) _ _
    (λ new r. closed (in_body (of_then as' c) bs ss []) below new (StmtAt (choice (arms_of arms))) (KeywordAt endif_word)
    (λ K ts a. (HasArm-of arms (HasArms-push as' (c, body_of bs ss)), same _ _ (arms_end as' c bs ss (KeywordAt endif_word K)) ts a)) r)
    (put_stmt_reads (choice (arms_of arms)) below fits.1)
end_reads (bare endif_word) (of_else as') bs ss below fits =
    each_map (put_stmt (choice_else (arms_of as') (body_of bs ss)) below) _ _
    (λ new r. closed (in_body (of_else as') bs ss []) below new (StmtAt (choice_else (arms_of as') (body_of bs ss))) (KeywordAt endif_word)
    (λ K ts a. (HasArm-of as' a.0, same _ _ (ap (λ (F : Follow). ArmsAt if_word (arms_of as') (KeywordAt else_word F)) (sym (body-spelled bs ss (KeywordAt endif_word K)))) ts a.1)) r)
    (put_stmt_reads (choice_else (arms_of as') (body_of bs ss)) below fits.1)
end_reads (bare (end_word mode)) of_select bs ss below fits =
    each_map (put_stmt (select mode (body_of bs ss)) below) _ _
    (λ new r. closed (in_body of_select bs ss []) below new (StmtAt (select mode (body_of bs ss))) (KeywordAt (end_word mode))
    (λ K. same _ _ (ap (λ (F : Follow). KeywordAt select_word F) (sym (body-spelled bs ss (KeywordAt (end_word mode) K))))) r)
    (put_stmt_reads (select mode (body_of bs ss)) below fits.1)
end_reads (into_word into) (of_collect v) bs ss below fits =
    each_map (put_stmt (collect v (body_of bs ss) into) below) _ _
    (λ new r. closed (in_body (of_collect v) bs ss []) below new (StmtAt (collect v (body_of bs ss) into)) (KeyAt (into_word into))
    (λ K. same _ _ (ap (λ (F : Follow). WordAndValue (codes "collect") (λ G. ValueAt of_query v G) F) (sym (body-spelled bs ss (KeyAt (into_word into) K))))) r)
    (put_stmt_reads (collect v (body_of bs ss) into) below fits.1)
end_reads (into_word into) (of_accumulate v) bs ss below fits =
    each_map (put_stmt (accumulate v (body_of bs ss) into) below) _ _
    (λ new r. closed (in_body (of_accumulate v) bs ss []) below new (StmtAt (accumulate v (body_of bs ss) into)) (KeyAt (into_word into))
    (λ K. same _ _ (ap (λ (F : Follow). WordAndValue (codes "accumulate") (λ G. ValueAt of_query v G) F) (sym (body-spelled bs ss (KeyAt (into_word into) K))))) r)
    (put_stmt_reads (accumulate v (body_of bs ss) into) below fits.1)
end_reads k o bs ss below fits = tt

ends_reads : (k : Keyword) (o : Owner) (bs : List Stmts) (ss : List Stmt) (ws : List Wrapper) (below : Stack) → FitsStack (in_body o bs ss ws ∷ below) → Each (end_unless_waiting k o bs ss ws below) (Reads (in_body o bs ss ws ∷ below) (KeyAt k))
ends_reads k o bs ss [] below fits = end_reads k o bs ss below fits
ends_reads k o bs ss (w ∷ ws) below fits = tt

keyword_reads : (k : Keyword) (o : Owner) (bs : List Stmts) (ss : List Stmt) (ws : List Wrapper) (below : Stack) → FitsStack (in_body o bs ss ws ∷ below) → Each (keyword_step k o bs ss ws below) (Reads (in_body o bs ss ws ∷ below) (KeyAt k))
keyword_reads (bare now_word) o bs ss ws below fits = opened behind_now _ (KeywordAt now_word) (tt, fits) (λ K. itself _)
keyword_reads (bare if_word) o bs ss ws below fits = opened (new_body (of_condition [])) _ (KeywordAt if_word) (tt, fits) (λ K. itself _)
keyword_reads (bare select_word) o bs ss ws below fits = opened (new_body of_select) _ (KeywordAt select_word) (tt, fits) (λ K. itself _)
keyword_reads (bare exhaust_word) o bs ss ws below fits =
    replaced (in_body o bs ss ws) (in_body o bs ss (ws ++ exhausting ∷ [])) below (KeywordAt exhaust_word) fits
    (λ K. same _ _ (ap (λ (F : Follow). OwnerAt o (EarlierAt bs (StmtsAt (stmts_of ss) F))) (sym (waiting-push ws exhausting K))))
keyword_reads (bare stoppable_word) o bs ss ws below fits =
    replaced (in_body o bs ss ws) (in_body o bs ss (ws ++ stopping ∷ [])) below (KeywordAt stoppable_word) fits
    (λ K. same _ _ (ap (λ (F : Follow). OwnerAt o (EarlierAt bs (StmtsAt (stmts_of ss) F))) (sym (waiting-push ws stopping K))))
keyword_reads (collect_word v) o bs ss ws below fits = opened (new_body (of_collect v)) _ (KeyAt (collect_word v)) (tt, fits) (λ K. itself _)
keyword_reads (accumulate_word v) o bs ss ws below fits = opened (new_body (of_accumulate v)) _ (KeyAt (accumulate_word v)) (tt, fits) (λ K. itself _)
keyword_reads (bare then_word) o bs ss ws below fits = ends_reads (bare then_word) o bs ss ws below fits
keyword_reads (bare elseif_word) o bs ss ws below fits = ends_reads (bare elseif_word) o bs ss ws below fits
keyword_reads (bare else_word) o bs ss ws below fits = ends_reads (bare else_word) o bs ss ws below fits
keyword_reads (bare endif_word) o bs ss ws below fits = ends_reads (bare endif_word) o bs ss ws below fits
keyword_reads (bare or_word) o bs ss ws below fits = ends_reads (bare or_word) o bs ss ws below fits
keyword_reads (bare (end_word mode)) o bs ss ws below fits = ends_reads (bare (end_word mode)) o bs ss ws below fits
keyword_reads (into_word v) o bs ss ws below fits = ends_reads (into_word v) o bs ss ws below fits

body_keyword_reads : (k : Keyword) (st : Stack) → FitsStack st → Each (body_keyword k st) (Reads st (KeyAt k))
body_keyword_reads k (in_body o bs ss ws ∷ below) fits = keyword_reads k o bs ss ws below fits
body_keyword_reads k st fits = tt

-- ---- what closes

head_closes_reads : (sign : Sign) (ps : List Part) (below : Stack) (o : Option Keyword) (qs : Parts) → parts_of ps ≡ qs → keyword_of qs ≡ o → below ≡ [] → Each (head_closes o sign qs below) (Reads (in_head sign ps ∷ below) (TokenAt close_round))
head_closes_reads sign ps below (Some k) qs q is fits = tt
head_closes_reads sign ps below None no_parts q is fits = tt
head_closes_reads sign ps below None (part p rest) q is fits =
    replaced (in_head sign ps) (new_body (of_item sign (part p rest))) below (TokenAt close_round) (fits, subst FitsStack (sym fits) tt)
    (λ K. sign_more sign _ _ (λ ts a. (is, subst (λ (x : Parts). TokenAt open_round (PartsAt (head_place x) x (TokenAt close_round K)) ts) q a)))

nested_there : (c : Bool) (ps : Parts) (below : Stack) → IsHead below → c ≡ has_choices (place_in below) → IsQuery ps → (K : Follow) → Leads (TokenAt open_round (PartsAt (of_nested c) ps (TokenAt close_round K))) (ValueAt (place_in below) (nested ps) K)
nested_there c ps (in_head sign qs ∷ below) h e q K ts a = (tt, (q, subst (λ (x : Bool). TokenAt open_round (PartsAt (of_nested x) ps (TokenAt close_round K)) ts) e a))
nested_there c ps st h e q K ts a = absurd h

nested_closes_reads : (c : Bool) (ps : List Part) (below : Stack) (o : Option Keyword) (qs : Parts) → parts_of ps ≡ qs → keyword_of qs ≡ o → FitsStack (in_nested c ps ∷ below) → Each (nested_closes o qs below) (Reads (in_nested c ps ∷ below) (TokenAt close_round))
nested_closes_reads c ps below (Some k) qs q is fits = tt
nested_closes_reads c ps below None no_parts q is fits = tt
nested_closes_reads c ps below None (part p rest) q is fits =
    each_map (put_value (nested (part p rest)) below) _ _
    (λ new r. closed (in_nested c ps) below new (ValueAt (place_in below) (nested (part p rest))) (TokenAt close_round)
    (λ K ts a. nested_there c (part p rest) below fits.0 fits.1 is K ts (subst (λ (x : Parts). TokenAt open_round (PartsAt (of_nested c) x (TokenAt close_round K)) ts) q a)) r)
    (put_value_reads (nested (part p rest)) below fits.2)

asked_there : (a : Asking) (ps : Parts) → IsQuery ps → (K : Follow) → Leads (AskingAt a (Round ps K)) (StmtAt (asked a ps) K)
asked_there for_one ps q K = λ ts x. (q, x)
asked_there for_all ps q K = token_more star _ _ (λ ts x. (q, x))
asked_there for_none ps q K = token_more tilde _ _ (λ ts x. (q, x))

query_closes_reads : (a : Asking) (ps : List Part) (below : Stack) (o : Option Keyword) (qs : Parts) → parts_of ps ≡ qs → keyword_of qs ≡ o → FitsStack (in_query a ps ∷ below) → Each (query_closes o a qs below) (Reads (in_query a ps ∷ below) (TokenAt close_round))
query_closes_reads for_one ps below (Some k) qs q is fits =
    each_map (body_keyword k below) _ _
    (λ new r. closed (in_query for_one ps) below new (KeyAt k) (TokenAt close_round) (λ K ts a. key_spelled qs k is K ts (subst (λ (x : Parts). Round x K ts) q a)) r)
    (body_keyword_reads k below fits.1)
query_closes_reads for_all ps below (Some k) qs q is fits = tt
query_closes_reads for_none ps below (Some k) qs q is fits = tt
query_closes_reads a ps below None no_parts q is fits = tt
query_closes_reads a ps below None (part p rest) q is fits =
    each_map (put_stmt (asked a (part p rest)) below) _ _
    (λ new r. closed (in_query a ps) below new (StmtAt (asked a (part p rest))) (TokenAt close_round)
    (λ K ts x. asked_there a (part p rest) is K ts (subst (λ (y : Parts). AskingAt a (Round y K) ts) q x)) r)
    (put_stmt_reads (asked a (part p rest)) below fits.1)

-- A change: alone, or among others in braces.
put_change_reads : (ps : Parts) (set : Bool) (st : Stack) → FitsStack st → IsQuery ps → Each (put_change ps set st) (Reads st (λ K. ChangeSignAt set (Round ps K)))
put_change_reads ps set (behind_now ∷ below) fits q =
    each_map (put_stmt (now (change ps set no_changes)) below) _ _
    (λ new r. closed behind_now below new (StmtAt (now (change ps set no_changes))) (λ K. ChangeSignAt set (Round ps K))
    (λ K. keyword_more now_word _ _ (λ ts a. inl (tt, change_sign_more set _ _ (λ us x. (q, x)) ts a))) r)
    (put_stmt_reads (now (change ps set no_changes)) below fits.1)
put_change_reads ps set (in_changes cs ∷ below) fits q =
    replaced (in_changes cs) (in_changes (cs ++ (ps, set) ∷ [])) below (λ K. ChangeSignAt set (Round ps K)) fits
    (λ K. keyword_more now_word _ _ (token_more open_brace _ _ (λ ts a. same _ _ (sym (changes-push cs ps set K)) ts (changes_more (changes_of cs) _ _ (change_sign_more set _ _ (λ us x. (q, x))) ts a))))
put_change_reads ps set st fits q = tt

change_closes_reads : (set : Bool) (ps : List Part) (below : Stack) (o : Option Keyword) (qs : Parts) → parts_of ps ≡ qs → keyword_of qs ≡ o → FitsStack (in_change set ps ∷ below) → Each (change_closes o set qs below) (Reads (in_change set ps ∷ below) (TokenAt close_round))
change_closes_reads set ps below (Some k) qs q is fits = tt
change_closes_reads set ps below None no_parts q is fits = tt
change_closes_reads set ps below None (part p rest) q is fits =
    each_map (put_change (part p rest) set below) _ _
    (λ new r. closed (in_change set ps) below new (λ K. ChangeSignAt set (Round (part p rest) K)) (TokenAt close_round)
    (λ K ts x. subst (λ (y : Parts). ChangeSignAt set (Round y K) ts) q x) r)
    (put_change_reads (part p rest) set below fits.1 is)

close_paren_reads : (st : Stack) → FitsStack st → Each (close_paren st) (Reads st (TokenAt close_round))
close_paren_reads (in_head sign ps ∷ below) fits = head_closes_reads sign ps below (keyword_of (parts_of ps)) (parts_of ps) refl refl fits
close_paren_reads (in_nested c ps ∷ below) fits = nested_closes_reads c ps below (keyword_of (parts_of ps)) (parts_of ps) refl refl fits
close_paren_reads (in_query a ps ∷ below) fits = query_closes_reads a ps below (keyword_of (parts_of ps)) (parts_of ps) refl refl fits
close_paren_reads (in_change set ps ∷ below) fits = change_closes_reads set ps below (keyword_of (parts_of ps)) (parts_of ps) refl refl fits
close_paren_reads st fits = tt

close_list_reads : (st : Stack) → FitsStack st → Each (close_list st) (Reads st (TokenAt close_square))
close_list_reads (in_list c vs ∷ below) fits =
    each_map (put_printed (plain_list (values_of vs)) below) _ _
    (λ new r. closed (in_list c vs) below new (ValueAt (place_in below) (plain_list (values_of vs))) (TokenAt close_square)
    (λ K ts a. subst (λ (x : Bool). TokenAt open_square (ElementsAt x (values_of vs) (TokenAt close_square K)) ts) fits.1 a) r)
    (put_printed_reads (plain_list (values_of vs)) below fits.2 tt)
close_list_reads (in_list_end c vs v ∷ below) fits =
    each_map (put_printed (tailed_list (values_of vs) v) below) _ _
    (λ new r. closed (in_list_end c vs v) below new (ValueAt (place_in below) (tailed_list (values_of vs) v)) (TokenAt close_square)
    (λ K ts a. (a.0, subst (λ (x : Bool). TokenAt open_square (ElementsAt x (values_of vs) (TokenAt bar (ValueAt (behind_bar x) v (TokenAt close_square K)))) ts) fits.1 a.1)) r)
    (put_printed_reads (tailed_list (values_of vs) v) below fits.2 tt)
close_list_reads st fits = tt

body_closes_reads : (o : Owner) (bs : List Stmts) (ss : List Stmt) (below : Stack) → FitsStack (in_body o bs ss [] ∷ below) → Each (body_closes o (body_of bs ss) below) (Reads (in_body o bs ss [] ∷ below) (TokenAt close_brace))
body_closes_reads of_group bs ss below fits =
    each_map (put_stmt (group (body_of bs ss)) below) _ _
    (λ new r. closed (in_body of_group bs ss []) below new (StmtAt (group (body_of bs ss))) (TokenAt close_brace)
    (λ K. same _ _ (ap (λ (F : Follow). TokenAt open_brace F) (sym (body-spelled bs ss (TokenAt close_brace K))))) r)
    (put_stmt_reads (group (body_of bs ss)) below fits.1)
body_closes_reads of_not_group bs ss below fits =
    each_map (put_stmt (not_group (body_of bs ss)) below) _ _
    (λ new r. closed (in_body of_not_group bs ss []) below new (StmtAt (not_group (body_of bs ss))) (TokenAt close_brace)
    (λ K. same _ _ (ap (λ (F : Follow). TokenAt tilde (TokenAt open_brace F)) (sym (body-spelled bs ss (TokenAt close_brace K))))) r)
    (put_stmt_reads (not_group (body_of bs ss)) below fits.1)
body_closes_reads of_closure bs ss below fits =
    each_map (put_value (closure (body_of bs ss)) below) _ _
    (λ new r. closed (in_body of_closure bs ss []) below new (ValueAt (place_in below) (closure (body_of bs ss))) (TokenAt close_brace)
    (λ K. same _ _ (ap (λ (F : Follow). TokenAt open_brace F) (sym (body-spelled bs ss (TokenAt close_brace K))))) r)
    (put_value_reads (closure (body_of bs ss)) below fits.1)
body_closes_reads o bs ss below fits = tt

close_body_reads : (st : Stack) → FitsStack st → Each (close_body st) (Reads st (TokenAt close_brace))
close_body_reads (in_body o bs ss [] ∷ below) fits = body_closes_reads o bs ss below fits
close_body_reads (in_changes cs ∷ below) fits =
    each_map (put_stmt (now (changes_of cs)) below) _ _
    (λ new r. closed (in_changes cs) below new (StmtAt (now (changes_of cs))) (TokenAt close_brace) (λ K. keyword_more now_word _ _ (λ ts a. inr a)) r)
    (put_stmt_reads (now (changes_of cs)) below fits.1)
close_body_reads st fits = tt

-- ---- what opens

open_list_reads : (st : Stack) → FitsStack st → Each (open_list st) (Reads st (TokenAt open_square))
open_list_reads (in_body o bs ss ws ∷ below) fits = opened (in_list false []) _ (TokenAt open_square) (tt, refl, fits) (λ K. itself _)
open_list_reads (in_head sign ps ∷ below) fits = opened (in_list (choices_in (in_head sign ps)) []) _ (TokenAt open_square) (tt, refl, fits) (λ K. itself _)
open_list_reads (in_nested c ps ∷ below) fits = opened (in_list c []) _ (TokenAt open_square) (tt, refl, fits) (λ K. itself _)
open_list_reads (in_query a ps ∷ below) fits = opened (in_list false []) _ (TokenAt open_square) (tt, refl, fits) (λ K. itself _)
open_list_reads (in_change set ps ∷ below) fits = opened (in_list false []) _ (TokenAt open_square) (tt, refl, fits) (λ K. itself _)
open_list_reads (in_list c vs ∷ below) fits = opened (in_list c []) _ (TokenAt open_square) (tt, refl, fits) (λ K. itself _)
open_list_reads (in_tail c vs ∷ below) fits = opened (in_list c []) _ (TokenAt open_square) (tt, refl, fits) (λ K. itself _)
open_list_reads st fits = tt

open_body_reads : (st : Stack) → FitsStack st → Each (open_body st) (Reads st (TokenAt open_brace))
open_body_reads (in_body o bs ss ws ∷ below) fits = opened (new_body of_group) _ (TokenAt open_brace) (tt, fits) (λ K. itself _)
open_body_reads (behind_tilde ∷ below) fits = replaced behind_tilde (new_body of_not_group) below (TokenAt open_brace) fits (λ K. itself _)
open_body_reads (behind_now ∷ below) fits = replaced behind_now (in_changes []) below (TokenAt open_brace) fits (λ K. itself _)
open_body_reads (in_head sign ps ∷ below) fits = opened (new_body of_closure) _ (TokenAt open_brace) (tt, fits) (λ K. itself _)
open_body_reads (in_nested c ps ∷ below) fits = opened (new_body of_closure) _ (TokenAt open_brace) (tt, fits) (λ K. itself _)
open_body_reads (in_query a ps ∷ below) fits = opened (new_body of_closure) _ (TokenAt open_brace) (tt, fits) (λ K. itself _)
open_body_reads (in_change set ps ∷ below) fits = opened (new_body of_closure) _ (TokenAt open_brace) (tt, fits) (λ K. itself _)
open_body_reads (in_list c vs ∷ below) fits = opened (new_body of_closure) _ (TokenAt open_brace) (tt, fits) (λ K. itself _)
open_body_reads (in_tail c vs ∷ below) fits = opened (new_body of_closure) _ (TokenAt open_brace) (tt, fits) (λ K. itself _)
open_body_reads st fits = tt

open_paren_reads : (st : Stack) → FitsStack st → Each (open_paren st) (Reads st (TokenAt open_round))
open_paren_reads (start ∷ below) fits = replaced start (in_head plain_rule []) below (TokenAt open_round) fits (λ K. itself _)
open_paren_reads (start_of sign ∷ below) fits = replaced (start_of sign) (in_head sign []) below (TokenAt open_round) fits (λ K. itself _)
open_paren_reads (in_head sign ps ∷ below) fits = opened (in_nested (choices_in (in_head sign ps)) []) _ (TokenAt open_round) (tt, refl, fits) (λ K. itself _)
open_paren_reads (behind_star ∷ below) fits = replaced behind_star (in_query for_all []) below (TokenAt open_round) fits (λ K. itself _)
open_paren_reads (behind_tilde ∷ below) fits = replaced behind_tilde (in_query for_none []) below (TokenAt open_round) fits (λ K. itself _)
open_paren_reads (behind_now ∷ below) fits = opened (in_change true []) _ (TokenAt open_round) (tt, fits) (λ K. itself _)
open_paren_reads (in_changes cs ∷ below) fits = opened (in_change true []) _ (TokenAt open_round) (tt, fits) (λ K. itself _)
open_paren_reads (behind_clear ∷ below) fits = replaced behind_clear (in_change false []) below (TokenAt open_round) fits (λ K. itself _)
open_paren_reads (in_body o bs ss ws ∷ below) fits = opened (in_query for_one []) _ (TokenAt open_round) (tt, fits) (λ K. itself _)
open_paren_reads st fits = tt

bar_reads : (st : Stack) → FitsStack st → Each (put_bar st) (Reads st (TokenAt bar))
bar_reads (in_list c [] ∷ below) fits = tt
bar_reads (in_list c (v ∷ vs) ∷ below) fits = replaced (in_list c (v ∷ vs)) (in_tail c (v ∷ vs)) below (TokenAt bar) fits (λ K ts a. (tt, a))
bar_reads st fits = tt

tilde_reads : (st : Stack) → FitsStack st → Each (put_tilde st) (Reads st (TokenAt tilde))
tilde_reads (start ∷ below) fits = replaced start (start_of negated) below (TokenAt tilde) fits (λ K. itself _)
tilde_reads (in_body o bs ss ws ∷ below) fits = opened behind_tilde _ (TokenAt tilde) (tt, fits) (λ K. itself _)
tilde_reads (behind_now ∷ below) fits = opened behind_clear _ (TokenAt tilde) (tt, fits) (λ K. itself _)
tilde_reads (in_changes cs ∷ below) fits = opened behind_clear _ (TokenAt tilde) (tt, fits) (λ K. itself _)
tilde_reads st fits = tt

at_reads : (st : Stack) → FitsStack st → Each (put_at st) (Reads st (TokenAt at))
at_reads (start ∷ below) fits = replaced start (start_of access_rule) below (TokenAt at) fits (λ K. itself _)
at_reads st fits = tt

printed_token : (v : Value) (t : Tok) (st : Stack) → FitsStack st → IsPrinted v → ((p : Place) (K : Follow) → Leads (TokenAt t K) (ValueAt p v K)) → Each (put_printed v st) (Reads st (TokenAt t))
printed_token v t st fits p h = each_map (put_printed v st) _ _ (λ new r. instead st new (ValueAt (place_in st) v) (TokenAt t) (h (place_in st)) r) (put_printed_reads v st fits p)

-- Each token that is taken.
pub step_reads : (t : Tok) (st : Stack) → FitsStack st → Each (step t st) (Reads st (TokenAt t))
step_reads (word w) st fits = word_reads w st fits
step_reads (dict w) st fits = dict_reads w st fits
step_reads (object n) st fits = object_reads n st fits
step_reads (var w) st fits = printed_token (variable w) (var w) st fits tt (λ p K. itself _)
step_reads anon st fits = printed_token anonymous anon st fits tt (λ p K. itself _)
step_reads at st fits = at_reads st fits
step_reads hash st fits = tt
step_reads open_round st fits = open_paren_reads st fits
step_reads close_round st fits = close_paren_reads st fits
step_reads open_square st fits = open_list_reads st fits
step_reads close_square st fits = close_list_reads st fits
step_reads open_brace st fits = open_body_reads st fits
step_reads close_brace st fits = close_body_reads st fits
step_reads bar st fits = bar_reads st fits
step_reads star st fits = star_reads st fits
step_reads tilde st fits = tilde_reads st fits
