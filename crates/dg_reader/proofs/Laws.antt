-- Each list of tokens is an item, begins one, or does neither, and the outcome says which.
use Rattle.std.proofs.Common.{◌≡◌, ◌⊎◌, inl, inr, ◌+◌, ◌<◌, ℕ, List, [], ◌∷◌, ◌++◌, length, take, Bool, true, false, Option, Some, None, refl, sym, ◌∙◌, ap, subst}
use Rattle.std.specs.Prelude.{option_and_then, map, get_or}
use Rattle.dg_base.specs.Tree.{Part, part_word, part_value, Parts, no_parts, part, Body}
use Rattle.dg_reader.specs.Tokens.{Tok, word, object, at, open_round, close_round, tilde, are_digits}
use Rattle.dg_reader.specs.Grammar.{IsQuery, Follow, TokenAt, Where, Parenthesis, Place, PartsAt, ValueAt, BodyAt, head_place, SignAt, ShapeAt, IsEnd, InItem, HasShape, IsUnclosed, IsUnexpected, IsDecided}
use Rattle.dg_open.specs.Shapes.{Sign, plain_rule, negated, access_rule, Shape, topic_line, clause}
use Rattle.dg_open.specs.inside.Standing.{of_item, start, start_of, whole_topic, in_head, in_body, Stack, body_of, finished}
use Rattle.dg_reader.specs.inside.Machine.{step, run, Outcome, done, unclosed, unexpected, at_end, outcome_from, outcome, outcome_in}
use Rattle.std.proofs.lemmas.List.{map_more}
use Rattle.dg_reader.specs.TokenView.{token_view}
use Rattle.dg_lex.specs.declared.token.Token.{Token}
use Rattle.dg_reader.proofs.More.{Leads}
use Rattle.dg_reader.proofs.Spelled.{StackAt, body-spelled}
use Rattle.dg_reader.proofs.Sound.{FitsStack, Reads, Each, same}
use Rattle.dg_reader.proofs.Complete.{parts_onto, parts_after, parts_after-push, parts_of-onto, out, by, token_read, head_place_of, head_end, if_not}
use Rattle.dg_reader.proofs.Whole.{value_read, body_read}
use Rattle.dg_reader.proofs.Closing.{run-append, AllAt, run_reads, run_fits, Finishes, finishes}

-- ---- an item is read

-- The parts of a head, read behind these, of which all stand where the whole head's do.
head_parts : (ps : Parts) (sign : Sign) (qs : List Part) (below : Stack) (K : Follow) (ts : List Tok) (X : Outcome) → PartsAt (head_place (parts_after qs ps)) ps K ts → ((r : List Tok) → K r → out r (in_head sign (parts_onto qs ps) ∷ below) ≡ X) → out ts (in_head sign qs ∷ below) ≡ X
head_parts no_parts sign qs below K ts X a h = h ts a
head_parts (part (part_word w) ps) sign qs below K ts X a h =
    token_read (word w) _ ts _ X a.1
    (λ r b. by r _ _ X (if_not (are_digits w) _ _ a.0)
    (head_parts ps sign (qs ++ part_word w ∷ []) below K r X (subst (λ (x : Parts). PartsAt (head_place x) ps K r) (sym (parts_after-push qs (part_word w) ps)) b) h))
head_parts (part (part_value v) ps) sign qs below K ts X a h =
    value_read v (in_head sign qs ∷ below) _ ts X tt (subst (λ (p : Place). ValueAt p v (PartsAt (head_place (parts_after qs (part (part_value v) ps))) ps K) ts) (sym (head_place_of qs v ps)) a)
    (λ r b. head_parts ps sign (qs ++ part_value v ∷ []) below K r X (subst (λ (x : Parts). PartsAt (head_place x) ps K r) (sym (parts_after-push qs (part_value v) ps)) b) h)

sign_opens : (sign : Sign) (K : Follow) (ts : List Tok) (X : Outcome) → SignAt sign (TokenAt open_round K) ts → ((r : List Tok) → K r → out r (in_head sign [] ∷ []) ≡ X) → out ts (start ∷ []) ≡ X
sign_opens plain_rule K ts X a h = token_read open_round K ts (start ∷ []) X a h
sign_opens negated K ts X a h = token_read tilde _ ts (start ∷ []) X a (λ r b. token_read open_round K r (start_of negated ∷ []) X b h)
sign_opens access_rule K ts X a h = token_read at _ ts (start ∷ []) X a (λ r b. token_read open_round K r (start_of access_rule ∷ []) X b h)

sign_where : (sign : Sign) (C : Type 0) (K : Follow) (ts : List Tok) → SignAt sign (Where C K) ts → C × SignAt sign K ts
sign_where plain_rule C K ts a = a
sign_where negated C K [] a = absurd a
sign_where negated C K (t ∷ ts) a = (a.1.0, (a.0, a.1.1))
sign_where access_rule C K [] a = absurd a
sign_where access_rule C K (t ∷ ts) a = (a.1.0, (a.0, a.1.1))

pub shape_outcome : (shape : Shape) (ts : List Tok) → ShapeAt shape IsEnd ts → outcome ts ≡ done shape
shape_outcome (topic_line n) ts a = token_read (object n) IsEnd ts (start ∷ []) (done (topic_line n)) a (λ r e. ap (λ (x : List Tok). out x (whole_topic n ∷ [])) e)
shape_outcome (clause sign ps b) ts a =
    let X = done (clause sign ps b) in
    let q = sign_where sign (IsQuery ps) (TokenAt open_round (PartsAt (head_place ps) ps (TokenAt close_round (BodyAt b IsEnd)))) ts a in
    sign_opens sign _ ts X q.1
    (λ r c. head_parts ps sign [] [] (TokenAt close_round (BodyAt b IsEnd)) r X c
    (λ p d. token_read close_round (BodyAt b IsEnd) p _ X d
    (λ o e. by o _ _ X (head_end sign _ ps [] (parts_of-onto [] ps) q.0)
    (body_read b (of_item sign ps) [] IsEnd o X e
    (λ n bs ss is f. ap (λ (x : List Tok). out x (in_body (of_item sign ps) bs ss [] ∷ [])) f ∙ ap (λ (x : Body). done (clause sign ps x)) is)))))

-- ---- the outcome says what the tokens are

-- What an outcome says of the tokens.
abbrev pub Says : Bool → List Tok → Outcome → Type 0
Says c ts (done shape) = InItem c ts shape
Says c ts unclosed = IsUnclosed c ts
Says c ts unexpected = IsUnexpected c ts

all_there : (ts : List Tok) → AllAt ts IsEnd ts
all_there [] = refl
all_there (t ∷ ts) = (refl, all_there ts)

run_leads : (ts : List Tok) (new : Stack) → run ts (start ∷ []) ≡ Some new → StackAt new IsEnd ts
run_leads ts new e = (subst (λ (o : Option Stack). Each o (Reads (start ∷ []) (AllAt ts))) e (run_reads ts (start ∷ []) refl)).leads IsEnd ts (all_there ts)

start_fits : (ts : List Tok) (new : Stack) → run ts (start ∷ []) ≡ Some new → FitsStack new
start_fits ts new e = run_fits ts (start ∷ []) new refl e

finished_at : (st : Stack) (shape : Shape) → finished st ≡ Some shape → Leads (StackAt st IsEnd) (ShapeAt shape IsEnd)
finished_at (whole_topic n ∷ []) shape e = λ ts a. subst (λ (s : Shape). ShapeAt s IsEnd ts) (given e) a
  where
    given : Some (topic_line n) ≡ Some shape → topic_line n ≡ shape
    given e = cc
finished_at (in_body (of_item sign ps) bs ss [] ∷ []) shape e =
    λ ts a. subst (λ (s : Shape). ShapeAt s IsEnd ts) (given e) (same _ _ (ap (λ (F : Follow). SignAt sign (Parenthesis ps (λ G. PartsAt (head_place ps) ps G) F)) (sym (body-spelled bs ss IsEnd))) ts a)
  where
    given : Some (clause sign ps (body_of bs ss)) ≡ Some shape → clause sign ps (body_of bs ss) ≡ shape
    given e = cc
finished_at [] shape e = absurd (cc)
finished_at (f ∷ g ∷ below) shape e = absurd (cc)
finished_at (f ∷ []) shape e = absurd (cc)

-- What ends as an item is one.
item_there : (ts : List Tok) (new : Stack) (shape : Shape) → run ts (start ∷ []) ≡ Some new → finished new ≡ Some shape → InItem true ts shape
item_there ts new shape e f = record { column = refl; whole = finished_at new shape f ts (run_leads ts new e) }

-- Nothing stands open but something.
not_empty : (ts : List Tok) (new : Stack) → run ts (start ∷ []) ≡ Some new → Finishes new
not_empty ts [] e = absurd (no_stack ts e)
  where
    no_stack : (ts : List Tok) → run ts (start ∷ []) ≡ Some [] → ⊥
    no_stack ts e = never ts (run_leads ts [] e) e
      where
        never : (ts : List Tok) → ts ≡ [] → run ts (start ∷ []) ≡ Some [] → ⊥
        never ts is e = absurd (let f = sym (ap (λ (x : List Tok). run x (start ∷ [])) is) ∙ e in cc)
not_empty ts (f ∷ below) e = finishes f below (start_fits ts (f ∷ below) e)

unclosed_there : (ts : List Tok) (new : Stack) → run ts (start ∷ []) ≡ Some new → finished new ≡ None → IsUnclosed true ts
unclosed_there ts new e f =
    let h = not_empty ts new e in
    let whole = run-append ts h.rest (start ∷ []) ∙ ap (option_and_then (run h.rest)) e ∙ h.runs in
    record {
      rest = h.rest;
      later = record { shape = h.shape; item = item_there (ts ++ h.rest) h.new h.shape whole h.ends };
      none_yet = λ s. absurd (let o : outcome ts ≡ unclosed = ap outcome_from e ∙ ap at_end f in let p = sym o ∙ shape_outcome s.shape ts s.item.whole in cc);
    }

no_outcome : (ts : List Tok) (shape : Shape) → run ts (start ∷ []) ≡ None → outcome ts ≡ done shape → ⊥
no_outcome ts shape e o = absurd (let p = sym (ap outcome_from e) ∙ o in cc)

pub unexpected_there : (ts : List Tok) → run ts (start ∷ []) ≡ None → IsUnexpected true ts
unexpected_there ts e rest s = no_outcome (ts ++ rest) s.shape (run-append ts rest (start ∷ []) ∙ ap (option_and_then (run rest)) e) (shape_outcome s.shape (ts ++ rest) s.item.whole)

stack_says : (ts : List Tok) (new : Stack) → run ts (start ∷ []) ≡ Some new → Says true ts (at_end (finished new))
stack_says ts new e = here (finished new) refl
  where
    here : (o : Option Shape) → finished new ≡ o → Says true ts (at_end o)
    here None f = unclosed_there ts new e f
    here (Some shape) f = item_there ts new shape e f

outcome_says_true : (ts : List Tok) → Says true ts (outcome ts)
outcome_says_true ts = here (run ts (start ∷ [])) refl
  where
    here : (o : Option Stack) → run ts (start ∷ []) ≡ o → Says true ts (outcome_from o)
    here None e = unexpected_there ts e
    here (Some new) e = stack_says ts new e

out_of_column : (ts : List Tok) → IsUnexpected false ts
out_of_column ts rest s = absurd (let e = s.item.column in cc)

pub outcome_says : (c : Bool) (ts : List Tok) → Says c ts (outcome_in c ts)
outcome_says true ts = outcome_says_true ts
outcome_says false ts = out_of_column ts

pub item_outcome : (c : Bool) (ts : List Tok) (shape : Shape) → InItem c ts shape → outcome_in c ts ≡ done shape
item_outcome true ts shape i = shape_outcome shape ts i.whole
item_outcome false ts shape i = absurd (let e = i.column in cc)

said_which : (c : Bool) (ts : List Tok) (o : Outcome) → Says c ts o → HasShape c ts ⊎ (IsUnclosed c ts ⊎ IsUnexpected c ts)
said_which c ts (done shape) s = inl (record { shape = shape; item = s })
said_which c ts unclosed s = inr (inl s)
said_which c ts unexpected s = inr (inr s)

done_one : (a b : Shape) → done a ≡ done b → a ≡ b
done_one a b e = cc

pub shape_decided : (c : Bool) (ts : List Tok) → IsDecided c ts
shape_decided c ts = record {
  which = said_which c ts (outcome_in c ts) (outcome_says c ts);
  one = λ a b i j. done_one a b (sym (item_outcome c ts a i) ∙ item_outcome c ts b j);
}

-- ---- the first token at which no item goes on

-- What can stand open goes on to an item.
pub goes_on : (ts : List Tok) (new : Stack) → run ts (start ∷ []) ≡ Some new → IsUnexpected true ts → ⊥
goes_on ts new e u =
    let h = not_empty ts new e in
    let whole = run-append ts h.rest (start ∷ []) ∙ ap (option_and_then (run h.rest)) e ∙ h.runs in
    u h.rest (record { shape = h.shape; item = item_there (ts ++ h.rest) h.new h.shape whole h.ends })

-- ---- reading on

pub run_more : (ts : List Token) (index : ℕ) (d : Token) (st : Stack) → index < length ts → run (map token_view (take index ts)) (start ∷ []) ≡ Some st → run (map token_view (take (index + 1) ts)) (start ∷ []) ≡ step (token_view (get_or ts index d)) st
run_more ts index d st lt r =
    ap (λ (l : List Tok). run l (start ∷ [])) (map_more token_view ts index d lt)
    ∙ run-append (map token_view (take index ts)) (token_view (get_or ts index d) ∷ []) (start ∷ [])
    ∙ ap (option_and_then (run (token_view (get_or ts index d) ∷ []))) r
    ∙ last (step (token_view (get_or ts index d)) st)
  where
    last : (o : Option Stack) → option_and_then (run []) o ≡ o
    last None = refl
    last (Some st) = refl
