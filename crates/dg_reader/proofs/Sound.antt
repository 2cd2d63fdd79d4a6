-- What is taken token by token is spelled by what stands open.
use Rattle.std.proofs.Common.{◌≡◌, ℕ, List, [], ◌∷◌, ◌++◌, Bool, true, false, Option, Some, None, refl, sym, ◌∙◌, ap, subst}
use Rattle.std.specs.Prelude.{if◌then◌else◌}
use Rattle.dg_base.specs.Tree.{Part, part_word, part_value, Value, num, dict_word, object_name, current_topic, word_choice, Stmt, text, print, parts_of, stmts_of}
use Rattle.dg_reader.specs.Tokens.{Tok, word, dict, object, open_round, open_square, star, are_digits, digits_number, word_parts, are_several}
use Rattle.dg_reader.specs.Grammar.{Follow, OneAt, TokenAt, Place, of_head, of_nested, of_query, of_list, behind_bar, printed, has_choices, SpellsNumber, SpellsElement, SpellsWord, SpellsChoice, IsPrinted, ChangeSignAt, PartAt, PartsAt, ValueAt, StmtAt, StmtsAt, head_place, SignAt}
use Rattle.dg_open.specs.inside.Standing.{Owner, of_item, of_closure, Frame, start, start_of, whole_topic, in_head, in_nested, in_query, in_change, in_list, in_tail, in_list_end, behind_star, behind_tilde, behind_now, in_changes, behind_clear, in_body, Stack}
use Rattle.dg_reader.specs.inside.Machine.{wrapped, put_stmt, put_part, put_element, put_value, put_printed, put_number, word_part, element_of, word_element, word_value, put_word, put_star, put_object}
use Rattle.dg_reader.proofs.More.{Leads}
use Rattle.dg_reader.proofs.Spelled.{OwnerAt, EarlierAt, AskingAt, FrameAt, StackAt, stack_more, parts-push, elements-push, stmts-push, wrapped-spelled, word_in_head, value_in_head}

-- ---- which construct stands over which

abbrev pub IsBody : Stack → Type 0
IsBody (in_body o bs ss ws ∷ below) = Unit {0}
IsBody st = ⊥

abbrev pub IsHead : Stack → Type 0
IsHead (in_head sign ps ∷ below) = Unit {0}
IsHead st = ⊥

abbrev pub TakesChange : Stack → Type 0
TakesChange (behind_now ∷ below) = Unit {0}
TakesChange (in_changes cs ∷ below) = Unit {0}
TakesChange st = ⊥

abbrev pub TakesValue : Stack → Type 0
TakesValue (in_head sign ps ∷ below) = Unit {0}
TakesValue (in_nested c ps ∷ below) = Unit {0}
TakesValue (in_query a ps ∷ below) = Unit {0}
TakesValue (in_change set ps ∷ below) = Unit {0}
TakesValue (in_list c vs ∷ below) = Unit {0}
TakesValue (in_tail c vs ∷ below) = Unit {0}
TakesValue st = ⊥

abbrev pub TakesPrinted : Stack → Type 0
TakesPrinted (in_body o bs ss ws ∷ below) = Unit {0}
TakesPrinted (in_head sign ps ∷ below) = Unit {0}
TakesPrinted (in_nested c ps ∷ below) = Unit {0}
TakesPrinted (in_query a ps ∷ below) = Unit {0}
TakesPrinted (in_change set ps ∷ below) = Unit {0}
TakesPrinted (in_list c vs ∷ below) = Unit {0}
TakesPrinted (in_tail c vs ∷ below) = Unit {0}
TakesPrinted st = ⊥

-- where a value would stand
abbrev pub place_in : Stack → Place
place_in (in_head sign ps ∷ below) = head_place (parts_of ps)
place_in (in_nested c ps ∷ below) = of_nested c
place_in (in_query a ps ∷ below) = of_query
place_in (in_change set ps ∷ below) = of_query
place_in (in_list c vs ∷ below) = of_list c
place_in (in_tail c vs ∷ below) = behind_bar c
place_in st = printed

abbrev pub FitsOwner : Owner → Stack → Type 0
FitsOwner (of_item sign ps) below = below ≡ []
FitsOwner of_closure below = TakesValue below
FitsOwner o below = IsBody below

abbrev pub FitsStack : Stack → Type 0
FitsStack [] = Unit {0}
FitsStack (start ∷ below) = below ≡ []
FitsStack (start_of sign ∷ below) = below ≡ []
FitsStack (whole_topic n ∷ below) = below ≡ []
FitsStack (in_head sign ps ∷ below) = below ≡ []
FitsStack (in_nested c ps ∷ below) = IsHead below × (c ≡ has_choices (place_in below)) × FitsStack below
FitsStack (in_query a ps ∷ below) = IsBody below × FitsStack below
FitsStack (in_change set ps ∷ below) = TakesChange below × FitsStack below
FitsStack (in_list c vs ∷ below) = TakesPrinted below × (c ≡ has_choices (place_in below)) × FitsStack below
FitsStack (in_tail c vs ∷ below) = TakesPrinted below × (c ≡ has_choices (place_in below)) × FitsStack below
FitsStack (in_list_end c vs v ∷ below) = TakesPrinted below × (c ≡ has_choices (place_in below)) × FitsStack below
FitsStack (behind_star ∷ below) = IsBody below × FitsStack below
FitsStack (behind_tilde ∷ below) = IsBody below × FitsStack below
FitsStack (behind_now ∷ below) = IsBody below × FitsStack below
FitsStack (in_changes cs ∷ below) = IsBody below × FitsStack below
FitsStack (behind_clear ∷ below) = TakesChange below × FitsStack below
FitsStack (in_body o bs ss ws ∷ below) = FitsOwner o below × FitsStack below

-- ---- what one step shows

-- From the one state to the other a form was read.
pub record Reads (old : Stack) (F : Follow → Follow) (new : Stack) : Type 1 where
  pub fits : FitsStack new
  pub leads : (K : Follow) → Leads (StackAt old (F K)) (StackAt new K)

abbrev pub Each : Option Stack → (Stack → Type 1) → Type 1
Each None P = Unit {1}
Each (Some st) P = P st

pub each_map : (o : Option Stack) (P Q : Stack → Type 1) → ((st : Stack) → P st → Q st) → Each o P → Each o Q
each_map None P Q h a = tt
each_map (Some st) P Q h a = h st a

pub same : (F G : Follow) → F ≡ G → Leads F G
same F G e ts x = subst (λ (H : Follow). H ts) e x

pub each_if : (b : Bool) (x y : Option Stack) (P : Stack → Type 1) → (b ≡ true → Each x P) → (b ≡ false → Each y P) → Each (if b then x else y) P
each_if true x y P f g = f refl
each_if false x y P f g = g refl

-- Another form leads to the one that was read.
pub instead : (st new : Stack) (F G : Follow → Follow) → ((K : Follow) → Leads (G K) (F K)) → Reads st F new → Reads st G new
instead st new F G h r = record { fits = r.fits; leads = λ K ts a. r.leads K ts (stack_more st (G K) (F K) (h K) ts a) }

-- The innermost construct ends, and is one form of the next.
pub closed : (f : Frame) (below new : Stack) (F G : Follow → Follow) → ((K : Follow) → Leads (FrameAt f (G K)) (F K)) → Reads below F new → Reads (f ∷ below) G new
closed f below new F G h r = record { fits = r.fits; leads = λ K ts a. r.leads K ts (stack_more below (FrameAt f (G K)) (F K) (h K) ts a) }

-- A construct opens.
pub opened : (f : Frame) (st : Stack) (F : Follow → Follow) → FitsStack (f ∷ st) → ((K : Follow) → Leads (F K) (FrameAt f K)) → Reads st F (f ∷ st)
opened f st F fits h = record { fits = fits; leads = λ K ts a. stack_more st (F K) (FrameAt f K) (h K) ts a }

-- The innermost construct goes on.
pub replaced : (f g : Frame) (below : Stack) (F : Follow → Follow) → FitsStack (g ∷ below) → ((K : Follow) → Leads (FrameAt f (F K)) (FrameAt g K)) → Reads (f ∷ below) F (g ∷ below)
replaced f g below F fits h = record { fits = fits; leads = λ K ts a. stack_more below (FrameAt f (F K)) (FrameAt g K) (h K) ts a }

pub itself : (K : Follow) → Leads K K
itself K ts a = a

-- ---- statements, parts and values

pub put_stmt_reads : (s : Stmt) (st : Stack) → FitsStack st → Each (put_stmt s st) (Reads st (StmtAt s))
put_stmt_reads s (in_body o bs ss ws ∷ below) fits =
    replaced (in_body o bs ss ws) (in_body o bs (ss ++ wrapped ws s ∷ []) []) below (StmtAt s) fits
    (λ K. same _ _ (ap (λ (F : Follow). OwnerAt o (EarlierAt bs F)) (ap (λ (F : Follow). StmtsAt (stmts_of ss) F) (sym (wrapped-spelled ws s K)) ∙ sym (stmts-push ss (wrapped ws s) K))))
put_stmt_reads s st fits = tt

head_part : (p : Part) (ps : List Part) (K : Follow) → PartsAt (head_place (parts_of (ps ++ p ∷ []))) (parts_of (ps ++ p ∷ [])) K ≡ PartsAt (head_place (parts_of ps)) (parts_of ps) (PartAt (head_place (parts_of ps)) p K)
head_part (part_word w) ps K = word_in_head ps w K
head_part (part_value v) ps K = value_in_head ps v K

pub put_part_reads : (p : Part) (st : Stack) → FitsStack st → Each (put_part p st) (Reads st (PartAt (place_in st) p))
put_part_reads p (in_head sign ps ∷ below) fits =
    replaced (in_head sign ps) (in_head sign (ps ++ p ∷ [])) below (PartAt (head_place (parts_of ps)) p) fits
    (λ K. same _ _ (ap (λ (F : Follow). SignAt sign (TokenAt open_round F)) (sym (head_part p ps K))))
put_part_reads p (in_nested c ps ∷ below) fits =
    replaced (in_nested c ps) (in_nested c (ps ++ p ∷ [])) below (PartAt (of_nested c) p) fits
    (λ K. same _ _ (ap (λ (F : Follow). TokenAt open_round F) (sym (parts-push (of_nested c) ps p K))))
put_part_reads p (in_query a ps ∷ below) fits =
    replaced (in_query a ps) (in_query a (ps ++ p ∷ [])) below (PartAt of_query p) fits
    (λ K. same _ _ (ap (λ (F : Follow). AskingAt a (TokenAt open_round F)) (sym (parts-push of_query ps p K))))
put_part_reads p (in_change set ps ∷ below) fits =
    replaced (in_change set ps) (in_change set (ps ++ p ∷ [])) below (PartAt of_query p) fits
    (λ K. same _ _ (ap (λ (F : Follow). ChangeSignAt set (TokenAt open_round F)) (sym (parts-push of_query ps p K))))
put_part_reads p st fits = tt

pub put_element_reads : (v : Value) (st : Stack) → FitsStack st → Each (put_element v st) (Reads st (ValueAt (place_in st) v))
put_element_reads v (in_list c vs ∷ below) fits =
    replaced (in_list c vs) (in_list c (vs ++ v ∷ [])) below (ValueAt (of_list c) v) fits
    (λ K. same _ _ (ap (λ (F : Follow). TokenAt open_square F) (sym (elements-push c vs v K))))
put_element_reads v (in_tail c vs ∷ below) fits = replaced (in_tail c vs) (in_list_end c vs v) below (ValueAt (behind_bar c) v) fits (λ K. itself _)
put_element_reads v st fits = tt

pub put_value_reads : (v : Value) (st : Stack) → FitsStack st → Each (put_value v st) (Reads st (ValueAt (place_in st) v))
put_value_reads v (in_list c vs ∷ below) fits = put_element_reads v (in_list c vs ∷ below) fits
put_value_reads v (in_tail c vs ∷ below) fits = put_element_reads v (in_tail c vs ∷ below) fits
put_value_reads v (in_head sign ps ∷ below) fits = put_part_reads (part_value v) (in_head sign ps ∷ below) fits
put_value_reads v (in_nested c ps ∷ below) fits = put_part_reads (part_value v) (in_nested c ps ∷ below) fits
put_value_reads v (in_query a ps ∷ below) fits = put_part_reads (part_value v) (in_query a ps ∷ below) fits
put_value_reads v (in_change set ps ∷ below) fits = put_part_reads (part_value v) (in_change set ps ∷ below) fits
put_value_reads v st fits = tt

pub put_printed_reads : (v : Value) (st : Stack) → FitsStack st → IsPrinted v → Each (put_printed v st) (Reads st (ValueAt (place_in st) v))
put_printed_reads v (in_body o bs ss ws ∷ below) fits p =
    instead (in_body o bs ss ws ∷ below) _ (StmtAt (print v)) (ValueAt printed v) (λ K ts a. (p, a)) (put_stmt_reads (print v) (in_body o bs ss ws ∷ below) fits)
put_printed_reads v [] fits p = put_value_reads v [] fits
put_printed_reads v (in_head sign ps ∷ below) fits p = put_value_reads v (in_head sign ps ∷ below) fits
put_printed_reads v (in_nested c ps ∷ below) fits p = put_value_reads v (in_nested c ps ∷ below) fits
put_printed_reads v (in_query a ps ∷ below) fits p = put_value_reads v (in_query a ps ∷ below) fits
put_printed_reads v (in_change set ps ∷ below) fits p = put_value_reads v (in_change set ps ∷ below) fits
put_printed_reads v (in_list c vs ∷ below) fits p = put_value_reads v (in_list c vs ∷ below) fits
put_printed_reads v (in_tail c vs ∷ below) fits p = put_value_reads v (in_tail c vs ∷ below) fits
put_printed_reads v st fits p = tt

-- ---- tokens that are values

spelled_so : (P Q : Tok → Type 0) (K : Follow) → ((t : Tok) → P t → Q t) → Leads (OneAt P K) (OneAt Q K)
spelled_so P Q K h [] a = absurd a
spelled_so P Q K h (t ∷ ts) a = (h t a.0, a.1)

-- What holds of one token holds of what is that token.
of_token : (Q : Tok → Type 0) (u : Tok) (K : Follow) → Q u → Leads (TokenAt u K) (OneAt Q K)
of_token Q u K q = spelled_so (λ t. t ≡ u) Q K (λ t e. subst (λ (x : Tok). Q x) (sym e) q)

dict_spells : (p : Place) (w : List ℕ) → SpellsWord p w (dict w)
dict_spells (of_list c) w = refl
dict_spells (of_head c) w = refl
dict_spells (of_nested c) w = refl
dict_spells of_query w = refl
dict_spells (behind_bar c) w = refl
dict_spells printed w = refl

pub dict_reads : (w : List ℕ) (st : Stack) → FitsStack st → Each (put_printed (dict_word w) st) (Reads st (TokenAt (dict w)))
dict_reads w st fits =
    each_map (put_printed (dict_word w) st) _ _
    (λ new r. instead st new (ValueAt (place_in st) (dict_word w)) (TokenAt (dict w)) (λ K. of_token (SpellsWord (place_in st) w) (dict w) K (dict_spells (place_in st) w)) r)
    (put_printed_reads (dict_word w) st fits tt)

pub number_reads : (w : List ℕ) (st : Stack) → FitsStack st → are_digits w ≡ true → Each (put_number (digits_number w) st) (Reads st (TokenAt (word w)))
number_reads w st fits digits = here (digits_number w) refl
  where
    here : (o : Option ℕ) → digits_number w ≡ o → Each (put_number o st) (Reads st (TokenAt (word w)))
    here None is = tt
    here (Some n) is =
        each_map (put_value (num n) st) _ _
        (λ new r. instead st new (ValueAt (place_in st) (num n)) (TokenAt (word w)) (λ K. of_token (SpellsNumber n) (word w) K (digits, is)) r)
        (put_value_reads (num n) st fits)

word_part_reads : (w : List ℕ) (st : Stack) → FitsStack st → Each (word_part w st) (Reads st (TokenAt (word w)))
word_part_reads w st fits =
    each_if (are_digits w) (put_number (digits_number w) st) (put_part (part_word w) st) (Reads st (TokenAt (word w)))
    (λ e. number_reads w st fits e)
    (λ e. each_map (put_part (part_word w) st) _ _ (λ new r. instead st new (PartAt (place_in st) (part_word w)) (TokenAt (word w)) (λ K ts a. (e, a)) r) (put_part_reads (part_word w) st fits))

-- A word of a list, as a choice or as itself.
element_spelled : (c : Bool) (w : List ℕ) (K : Follow) → are_digits w ≡ false → Leads (TokenAt (word w) K) (ValueAt (of_list c) (element_of c w) K)
element_spelled false w K e = of_token (SpellsElement false w) (word w) K (refl, e, tt)
element_spelled true w K e = here (are_several (word_parts w)) refl
  where
    here : (b : Bool) → are_several (word_parts w) ≡ b → Leads (TokenAt (word w) K) (ValueAt (of_list true) (if b then word_choice (word_parts w) else dict_word w) K)
    here true is = of_token (SpellsChoice (of_list true) (word_parts w)) (word w) K (e, is, refl)
    here false is = of_token (SpellsElement true w) (word w) K (refl, e, is)

word_element_reads : (c : Bool) (w : List ℕ) (vs : List Value) (below : Stack) → FitsStack (in_list c vs ∷ below) → Each (word_element c w (in_list c vs ∷ below)) (Reads (in_list c vs ∷ below) (TokenAt (word w)))
word_element_reads c w vs below fits =
    let st = in_list c vs ∷ below in
    each_if (are_digits w) (put_number (digits_number w) st) (put_element (element_of c w) st) (Reads st (TokenAt (word w)))
    (λ e. number_reads w st fits e)
    (λ e. each_map (put_element (element_of c w) st) _ _ (λ new r. instead st new (ValueAt (of_list c) (element_of c w)) (TokenAt (word w)) (λ K. element_spelled c w K e) r) (put_element_reads (element_of c w) st fits))

word_value_reads : (w : List ℕ) (st : Stack) → FitsStack st → Each (word_value w st) (Reads st (TokenAt (word w)))
word_value_reads w st fits = each_if (are_digits w) (put_number (digits_number w) st) None (Reads st (TokenAt (word w))) (λ e. number_reads w st fits e) (λ e. tt)

pub word_reads : (w : List ℕ) (st : Stack) → FitsStack st → Each (put_word w st) (Reads st (TokenAt (word w)))
word_reads w (in_list c vs ∷ below) fits = word_element_reads c w vs below fits
word_reads w (in_tail c vs ∷ below) fits = word_value_reads w (in_tail c vs ∷ below) fits
word_reads w (in_body o bs ss ws ∷ below) fits = put_stmt_reads (text w) (in_body o bs ss ws ∷ below) fits
word_reads w [] fits = word_part_reads w [] fits
word_reads w (start ∷ below) fits = word_part_reads w (start ∷ below) fits
word_reads w (start_of sign ∷ below) fits = word_part_reads w (start_of sign ∷ below) fits
word_reads w (whole_topic n ∷ below) fits = word_part_reads w (whole_topic n ∷ below) fits
word_reads w (in_head sign ps ∷ below) fits = word_part_reads w (in_head sign ps ∷ below) fits
word_reads w (in_nested c ps ∷ below) fits = word_part_reads w (in_nested c ps ∷ below) fits
word_reads w (in_query a ps ∷ below) fits = word_part_reads w (in_query a ps ∷ below) fits
word_reads w (in_change set ps ∷ below) fits = word_part_reads w (in_change set ps ∷ below) fits
word_reads w (in_list_end c vs v ∷ below) fits = word_part_reads w (in_list_end c vs v ∷ below) fits
word_reads w (behind_star ∷ below) fits = word_part_reads w (behind_star ∷ below) fits
word_reads w (behind_tilde ∷ below) fits = word_part_reads w (behind_tilde ∷ below) fits
word_reads w (behind_now ∷ below) fits = word_part_reads w (behind_now ∷ below) fits
word_reads w (in_changes cs ∷ below) fits = word_part_reads w (in_changes cs ∷ below) fits
word_reads w (behind_clear ∷ below) fits = word_part_reads w (behind_clear ∷ below) fits

pub object_reads : (n : List ℕ) (st : Stack) → FitsStack st → Each (put_object n st) (Reads st (TokenAt (object n)))
object_reads n (start ∷ below) fits = replaced start (whole_topic n) below (TokenAt (object n)) fits (λ K. itself _)
object_reads n [] fits = tt
object_reads n (in_head sign ps ∷ below) fits = put_printed_reads (object_name n) (in_head sign ps ∷ below) fits tt
object_reads n (in_nested c ps ∷ below) fits = put_printed_reads (object_name n) (in_nested c ps ∷ below) fits tt
object_reads n (in_query a ps ∷ below) fits = put_printed_reads (object_name n) (in_query a ps ∷ below) fits tt
object_reads n (in_change set ps ∷ below) fits = put_printed_reads (object_name n) (in_change set ps ∷ below) fits tt
object_reads n (in_list c vs ∷ below) fits = put_printed_reads (object_name n) (in_list c vs ∷ below) fits tt
object_reads n (in_tail c vs ∷ below) fits = put_printed_reads (object_name n) (in_tail c vs ∷ below) fits tt
object_reads n (in_body o bs ss ws ∷ below) fits = put_printed_reads (object_name n) (in_body o bs ss ws ∷ below) fits tt
object_reads n st fits = tt

pub star_reads : (st : Stack) → FitsStack st → Each (put_star st) (Reads st (TokenAt star))
star_reads (in_body o bs ss ws ∷ below) fits = opened behind_star (in_body o bs ss ws ∷ below) (TokenAt star) (tt, fits) (λ K. itself _)
star_reads (in_head sign ps ∷ below) fits = put_value_reads current_topic (in_head sign ps ∷ below) fits
star_reads (in_nested c ps ∷ below) fits = put_value_reads current_topic (in_nested c ps ∷ below) fits
star_reads (in_query a ps ∷ below) fits = put_value_reads current_topic (in_query a ps ∷ below) fits
star_reads (in_change set ps ∷ below) fits = put_value_reads current_topic (in_change set ps ∷ below) fits
star_reads (in_list c vs ∷ below) fits = put_value_reads current_topic (in_list c vs ∷ below) fits
star_reads (in_tail c vs ∷ below) fits = put_value_reads current_topic (in_tail c vs ∷ below) fits
star_reads st fits = tt
