-- What was read so far by what stands open.
use Rattle.std.proofs.Common.{◌≡◌, ℕ, List, [], ◌∷◌, ◌++◌, Bool, refl, ◌∙◌, ap}
use Rattle.std.specs.Prelude.{codes}
use Rattle.dg_base.specs.Tree.{Part, part_word, part_value, Parts, Value, Stmt, Stmts, Body, parts_of, values_of, stmts_of, branches_of, arms_of, changes_of}
use Rattle.dg_reader.specs.Tokens.{object, open_round, open_square, open_brace, bar, star, tilde}
use Rattle.dg_reader.specs.Grammar.{Bare, now_word, if_word, then_word, elseif_word, else_word, or_word, exhaust_word, stoppable_word, select_word, Follow, TokenAt, Where, KeywordAt, Parenthesis, WordAndValue, Place, of_nested, of_query, of_list, behind_bar, HasElement, HasArm, ChangeSignAt, PartAt, PartsAt, ValueAt, ElementsAt, StmtAt, StmtsAt, BodyAt, BranchesAt, ArmsAt, ChangesAt, head_place, SignAt}
use Rattle.dg_open.specs.inside.Standing.{Asking, for_one, for_all, for_none, Owner, of_item, of_group, of_not_group, of_closure, of_condition, of_then, of_else, of_select, of_collect, of_accumulate, Wrapper, exhausting, stopping, Frame, start, start_of, whole_topic, in_head, in_nested, in_query, in_change, in_list, in_tail, in_list_end, behind_star, behind_tilde, behind_now, in_changes, behind_clear, in_body, Stack, body_of}
use Rattle.dg_reader.specs.inside.Machine.{wrap, wrapped}
use Rattle.dg_reader.proofs.More.{HandsOn, token_more, where_more, keyword_more, change_sign_more, sign_more, word_and_value_more, parts_more, value_more, elements_more, stmts_more, body_more, arms_more, changes_more, parenthesis_more}

-- the arms behind these begin with this keyword
abbrev pub next_arm : List (Body × Body) → Bare
next_arm [] = if_word
next_arm (a ∷ as') = elseif_word

abbrev pub HasArms : List (Body × Body) → Type 0
HasArms [] = ⊥
HasArms (a ∷ as') = Unit {0}

abbrev pub OwnerAt : Owner → Follow → Follow
OwnerAt (of_item sign ps) K = SignAt sign (Parenthesis ps (λ F. PartsAt (head_place ps) ps F) K)
OwnerAt of_group K = TokenAt open_brace K
OwnerAt of_not_group K = TokenAt tilde (TokenAt open_brace K)
OwnerAt of_closure K = TokenAt open_brace K
OwnerAt (of_condition as') K = ArmsAt if_word (arms_of as') (KeywordAt (next_arm as') K)
OwnerAt (of_then as' c) K = ArmsAt if_word (arms_of as') (KeywordAt (next_arm as') (BodyAt c (KeywordAt then_word K)))
OwnerAt (of_else as') K = Where (HasArms as') (ArmsAt if_word (arms_of as') (KeywordAt else_word K))
OwnerAt of_select K = KeywordAt select_word K
OwnerAt (of_collect v) K = WordAndValue (codes "collect") (λ F. ValueAt of_query v F) K
OwnerAt (of_accumulate v) K = WordAndValue (codes "accumulate") (λ F. ValueAt of_query v F) K

abbrev pub EarlierAt : List Stmts → Follow → Follow
EarlierAt [] K = K
EarlierAt (b ∷ bs) K = StmtsAt b (KeywordAt or_word (EarlierAt bs K))

abbrev pub wrapper_word : Wrapper → Bare
wrapper_word exhausting = exhaust_word
wrapper_word stopping = stoppable_word

abbrev pub WaitingAt : List Wrapper → Follow → Follow
WaitingAt [] K = K
WaitingAt (w ∷ ws) K = KeywordAt (wrapper_word w) (WaitingAt ws K)

abbrev pub AskingAt : Asking → Follow → Follow
AskingAt for_one K = K
AskingAt for_all K = TokenAt star K
AskingAt for_none K = TokenAt tilde K

abbrev pub HasOne : List Value → Type 0
HasOne [] = ⊥
HasOne (v ∷ vs) = Unit {0}

abbrev pub FrameAt : Frame → Follow → Follow
FrameAt start K = K
FrameAt (start_of sign) K = SignAt sign K
FrameAt (whole_topic n) K = TokenAt (object n) K
FrameAt (in_head sign ps) K = SignAt sign (TokenAt open_round (PartsAt (head_place (parts_of ps)) (parts_of ps) K))
FrameAt (in_nested c ps) K = TokenAt open_round (PartsAt (of_nested c) (parts_of ps) K)
FrameAt (in_query a ps) K = AskingAt a (TokenAt open_round (PartsAt of_query (parts_of ps) K))
FrameAt (in_change set ps) K = ChangeSignAt set (TokenAt open_round (PartsAt of_query (parts_of ps) K))
FrameAt (in_list c vs) K = TokenAt open_square (ElementsAt c (values_of vs) K)
FrameAt (in_tail c vs) K = Where (HasElement (values_of vs)) (TokenAt open_square (ElementsAt c (values_of vs) (TokenAt bar K)))
FrameAt (in_list_end c vs v) K = Where (HasElement (values_of vs)) (TokenAt open_square (ElementsAt c (values_of vs) (TokenAt bar (ValueAt (behind_bar c) v K))))
FrameAt behind_star K = TokenAt star K
FrameAt behind_tilde K = TokenAt tilde K
FrameAt behind_now K = KeywordAt now_word K
FrameAt (in_changes cs) K = KeywordAt now_word (TokenAt open_brace (ChangesAt (changes_of cs) K))
FrameAt behind_clear K = TokenAt tilde K
FrameAt (in_body o bs ss ws) K = OwnerAt o (EarlierAt bs (StmtsAt (stmts_of ss) (WaitingAt ws K)))

abbrev pub StackAt : Stack → Follow → Follow
StackAt [] K = K
StackAt (f ∷ below) K = StackAt below (FrameAt f K)

-- ---- what follows may be replaced

owner_more : (o : Owner) → HandsOn (OwnerAt o)
owner_more (of_item sign ps) K L h = sign_more sign _ _ (parenthesis_more ps (λ F. PartsAt (head_place ps) ps F) (parts_more (head_place ps) ps) K L h)
owner_more of_group K L h = token_more open_brace K L h
owner_more of_not_group K L h = token_more tilde _ _ (token_more open_brace K L h)
owner_more of_closure K L h = token_more open_brace K L h
owner_more (of_condition as') K L h = arms_more if_word (arms_of as') _ _ (keyword_more (next_arm as') K L h)
owner_more (of_then as' c) K L h = arms_more if_word (arms_of as') _ _ (keyword_more (next_arm as') _ _ (body_more c _ _ (keyword_more then_word K L h)))
owner_more (of_else as') K L h = where_more (HasArms as') _ _ (arms_more if_word (arms_of as') _ _ (keyword_more else_word K L h))
owner_more of_select K L h = keyword_more select_word K L h
owner_more (of_collect v) K L h = word_and_value_more _ (λ F. ValueAt of_query v F) (value_more of_query v) K L h
owner_more (of_accumulate v) K L h = word_and_value_more _ (λ F. ValueAt of_query v F) (value_more of_query v) K L h

pub earlier_more : (bs : List Stmts) → HandsOn (EarlierAt bs)
earlier_more [] K L h = h
earlier_more (b ∷ bs) K L h = stmts_more b _ _ (keyword_more or_word _ _ (earlier_more bs K L h))

waiting_more : (ws : List Wrapper) → HandsOn (WaitingAt ws)
waiting_more [] K L h = h
waiting_more (w ∷ ws) K L h = keyword_more (wrapper_word w) _ _ (waiting_more ws K L h)

pub asking_more : (a : Asking) → HandsOn (AskingAt a)
asking_more for_one K L h = h
asking_more for_all K L h = token_more star K L h
asking_more for_none K L h = token_more tilde K L h

pub body_frame_more : (o : Owner) (bs : List Stmts) (ss : List Stmt) → HandsOn (λ K. OwnerAt o (EarlierAt bs (StmtsAt (stmts_of ss) K)))
body_frame_more o bs ss K L h = owner_more o _ _ (earlier_more bs _ _ (stmts_more (stmts_of ss) K L h))

pub frame_more : (f : Frame) → HandsOn (FrameAt f)
frame_more start K L h = h
frame_more (start_of sign) K L h = sign_more sign K L h
frame_more (whole_topic n) K L h = token_more (object n) K L h
frame_more (in_head sign ps) K L h = sign_more sign _ _ (token_more open_round _ _ (parts_more (head_place (parts_of ps)) (parts_of ps) K L h))
frame_more (in_nested c ps) K L h = token_more open_round _ _ (parts_more (of_nested c) (parts_of ps) K L h)
frame_more (in_query a ps) K L h = asking_more a _ _ (token_more open_round _ _ (parts_more of_query (parts_of ps) K L h))
frame_more (in_change set ps) K L h = change_sign_more set _ _ (token_more open_round _ _ (parts_more of_query (parts_of ps) K L h))
frame_more (in_list c vs) K L h = token_more open_square _ _ (elements_more c (values_of vs) K L h)
frame_more (in_tail c vs) K L h = where_more (HasElement (values_of vs)) _ _ (token_more open_square _ _ (elements_more c (values_of vs) _ _ (token_more bar K L h)))
frame_more (in_list_end c vs v) K L h = where_more (HasElement (values_of vs)) _ _ (token_more open_square _ _ (elements_more c (values_of vs) _ _ (token_more bar _ _ (value_more (behind_bar c) v K L h))))
frame_more behind_star K L h = token_more star K L h
frame_more behind_tilde K L h = token_more tilde K L h
frame_more behind_now K L h = keyword_more now_word K L h
frame_more (in_changes cs) K L h = keyword_more now_word _ _ (token_more open_brace _ _ (changes_more (changes_of cs) K L h))
frame_more behind_clear K L h = token_more tilde K L h
frame_more (in_body o bs ss ws) K L h = body_frame_more o bs ss _ _ (waiting_more ws K L h)

pub stack_more : (st : Stack) → HandsOn (StackAt st)
stack_more [] K L h = h
stack_more (f ∷ below) K L h = stack_more below (FrameAt f K) (FrameAt f L) (frame_more f K L h)

-- ---- one more at the end

pub parts-push : (p : Place) (ps : List Part) (q : Part) (K : Follow) → PartsAt p (parts_of (ps ++ q ∷ [])) K ≡ PartsAt p (parts_of ps) (PartAt p q K)
parts-push p [] q K = refl
parts-push p (x ∷ ps) q K = ap (λ (F : Follow). PartAt p x F) (parts-push p ps q K)

pub elements-push : (c : Bool) (vs : List Value) (v : Value) (K : Follow) → ElementsAt c (values_of (vs ++ v ∷ [])) K ≡ ElementsAt c (values_of vs) (ValueAt (of_list c) v K)
elements-push c [] v K = refl
elements-push c (x ∷ vs) v K = ap (λ (F : Follow). ValueAt (of_list c) x F) (elements-push c vs v K)

pub stmts-push : (ss : List Stmt) (s : Stmt) (K : Follow) → StmtsAt (stmts_of (ss ++ s ∷ [])) K ≡ StmtsAt (stmts_of ss) (StmtAt s K)
stmts-push [] s K = refl
stmts-push (x ∷ ss) s K = ap (λ (F : Follow). StmtAt x F) (stmts-push ss s K)

pub changes-push : (cs : List (Parts × Bool)) (ps : Parts) (set : Bool) (K : Follow) → ChangesAt (changes_of (cs ++ (ps, set) ∷ [])) K ≡ ChangesAt (changes_of cs) (ChangeSignAt set (Parenthesis ps (λ F. PartsAt of_query ps F) K))
changes-push [] ps set K = refl
changes-push (c ∷ cs) ps set K = ap (λ (F : Follow). ChangeSignAt c.1 (Parenthesis c.0 (λ G. PartsAt of_query c.0 G) F)) (changes-push cs ps set K)

pub earlier-push : (bs : List Stmts) (b : Stmts) (K : Follow) → EarlierAt (bs ++ b ∷ []) K ≡ EarlierAt bs (StmtsAt b (KeywordAt or_word K))
earlier-push [] b K = refl
earlier-push (x ∷ bs) b K = ap (λ (F : Follow). StmtsAt x (KeywordAt or_word F)) (earlier-push bs b K)

later-arms-push : (as' : List (Body × Body)) (c b : Body) (K : Follow) → ArmsAt elseif_word (arms_of (as' ++ (c, b) ∷ [])) K ≡ ArmsAt elseif_word (arms_of as') (KeywordAt elseif_word (BodyAt c (KeywordAt then_word (BodyAt b K))))
later-arms-push [] c b K = refl
later-arms-push (a ∷ as') c b K = ap (λ (F : Follow). KeywordAt elseif_word (BodyAt a.0 (KeywordAt then_word (BodyAt a.1 F)))) (later-arms-push as' c b K)

pub arms-push : (as' : List (Body × Body)) (c b : Body) (K : Follow) → ArmsAt if_word (arms_of (as' ++ (c, b) ∷ [])) K ≡ ArmsAt if_word (arms_of as') (KeywordAt (next_arm as') (BodyAt c (KeywordAt then_word (BodyAt b K))))
arms-push [] c b K = refl
arms-push (a ∷ as') c b K = ap (λ (F : Follow). KeywordAt if_word (BodyAt a.0 (KeywordAt then_word (BodyAt a.1 F)))) (later-arms-push as' c b K)

pub next_arm-push : (as' : List (Body × Body)) (a : Body × Body) → next_arm (as' ++ a ∷ []) ≡ elseif_word
next_arm-push [] a = refl
next_arm-push (x ∷ as') a = refl

pub HasArms-push : (as' : List (Body × Body)) (a : Body × Body) → HasArms (as' ++ a ∷ [])
HasArms-push [] a = tt
HasArms-push (x ∷ as') a = tt

pub HasArm-of : (as' : List (Body × Body)) → HasArms as' → HasArm (arms_of as')
HasArm-of [] h = absurd h
HasArm-of (a ∷ as') h = tt

-- The branches so far and the last one are the body.
later_branches : (bs : List Stmts) (b : Stmts) (K : Follow) → BranchesAt (branches_of (bs ++ b ∷ [])) K ≡ KeywordAt or_word (EarlierAt bs (StmtsAt b K))
later_branches [] b K = refl
later_branches (x ∷ bs) b K = ap (λ (F : Follow). KeywordAt or_word (StmtsAt x F)) (later_branches bs b K)

pub body-spelled : (bs : List Stmts) (ss : List Stmt) (K : Follow) → BodyAt (body_of bs ss) K ≡ EarlierAt bs (StmtsAt (stmts_of ss) K)
body-spelled [] ss K = refl
body-spelled (x ∷ bs) ss K = ap (λ (F : Follow). StmtsAt x F) (later_branches bs (stmts_of ss) K)

-- Keywords that wait stand before their statement.
pub waiting-push : (ws : List Wrapper) (w : Wrapper) (K : Follow) → WaitingAt (ws ++ w ∷ []) K ≡ WaitingAt ws (KeywordAt (wrapper_word w) K)
waiting-push [] w K = refl
waiting-push (x ∷ ws) w K = ap (λ (F : Follow). KeywordAt (wrapper_word x) F) (waiting-push ws w K)

wrap-spelled : (w : Wrapper) (s : Stmt) (K : Follow) → StmtAt (wrap w s) K ≡ KeywordAt (wrapper_word w) (StmtAt s K)
wrap-spelled exhausting s K = refl
wrap-spelled stopping s K = refl

pub wrapped-spelled : (ws : List Wrapper) (s : Stmt) (K : Follow) → StmtAt (wrapped ws s) K ≡ WaitingAt ws (StmtAt s K)
wrapped-spelled [] s K = refl
wrapped-spelled (w ∷ ws) s K = wrap-spelled w (wrapped ws s) K ∙ ap (λ (F : Follow). KeywordAt (wrapper_word w) F) (wrapped-spelled ws s K)

-- ---- the places of a head

-- Words are spelled alike in each place.
words_anywhere : (p q : Place) (w : List ℕ) (K : Follow) → PartAt p (part_word w) K ≡ PartAt q (part_word w) K
words_anywhere p q w K = refl

-- A word changes no place of the parts before it.
pub word_in_head : (ps : List Part) (w : List ℕ) (K : Follow) → PartsAt (head_place (parts_of (ps ++ part_word w ∷ []))) (parts_of (ps ++ part_word w ∷ [])) K ≡ PartsAt (head_place (parts_of ps)) (parts_of ps) (PartAt (head_place (parts_of ps)) (part_word w) K)
word_in_head [] w K = refl
word_in_head (part_word u ∷ []) w K = refl
word_in_head (part_value v ∷ []) w K = refl
word_in_head (part_word u ∷ part_word x ∷ ps) w K = parts-push (head_place (parts_of (part_word u ∷ part_word x ∷ ps))) (part_word u ∷ part_word x ∷ ps) (part_word w) K
word_in_head (part_word u ∷ part_value v ∷ ps) w K = parts-push (head_place (parts_of (part_word u ∷ part_value v ∷ ps))) (part_word u ∷ part_value v ∷ ps) (part_word w) K
word_in_head (part_value v ∷ x ∷ ps) w K = parts-push (head_place (parts_of (part_value v ∷ x ∷ ps))) (part_value v ∷ x ∷ ps) (part_word w) K

-- Nor does a value.
pub value_in_head : (ps : List Part) (v : Value) (K : Follow) → PartsAt (head_place (parts_of (ps ++ part_value v ∷ []))) (parts_of (ps ++ part_value v ∷ [])) K ≡ PartsAt (head_place (parts_of ps)) (parts_of ps) (PartAt (head_place (parts_of ps)) (part_value v) K)
value_in_head [] v K = refl
value_in_head (part_word u ∷ []) v K = refl
value_in_head (part_value x ∷ []) v K = refl
value_in_head (part_word u ∷ part_word x ∷ ps) v K = parts-push (head_place (parts_of (part_word u ∷ part_word x ∷ ps))) (part_word u ∷ part_word x ∷ ps) (part_value v) K
value_in_head (part_word u ∷ part_value x ∷ ps) v K = parts-push (head_place (parts_of (part_word u ∷ part_value x ∷ ps))) (part_word u ∷ part_value x ∷ ps) (part_value v) K
value_in_head (part_value y ∷ x ∷ ps) v K = parts-push (head_place (parts_of (part_value y ∷ x ∷ ps))) (part_value y ∷ x ∷ ps) (part_value v) K
