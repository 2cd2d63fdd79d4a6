-- One item, from the answer for its tokens, and items one after another.
use Rattle.std.proofs.Common.{◌≡◌, ◌&&◌, ◌||◌, ◌<◌, ◌+◌, ◌-◌, ℕ, zero, suc, List, [], ◌∷◌, ◌++◌, length, take, drop, map, get_or, Bool, true, false, not, None, Err, refl, sym, ◌∙◌, ap, subst, arith, add-one, length-drop}
use Rattle.std.proofs.lemmas.List.{append-nil, map-append, take-append-drop, take_all, take_more, drop-drop}
use Rattle.dg_base.specs.Tree.{Item}
use Rattle.dg_base.specs.declared.refusal.ReadFault.{ReadFault}
use Rattle.dg_base.specs.declared.refusal.Refusal.{Refusal}
use Rattle.dg_base.specs.declared.refusal.Kind.TheVariants.{Unclosed, Unexpected}
use Rattle.dg_lex.specs.Tokens.{Seen, seen}
use Rattle.dg_lex.specs.declared.token.Token.{Token}
use Rattle.dg_reader.specs.Tokens.{Tok}
use Rattle.dg_reader.specs.TokenView.{token_view}
use Rattle.dg_open.specs.Shapes.{Shape}
use Rattle.dg_reader.specs.Grammar.{InItem, IsUnclosed, IsUnexpectedAt}
use Rattle.dg_reader.specs.inside.Machine.{Outcome, done, unclosed, at_end, outcome_from, outcome}
use Rattle.dg_reader.specs.inside.Items.{IsOpen, EndsAs}
use Rattle.dg_reader.proofs.Laws.{Says, outcome_says}
use Rattle.dg_reader.specs.Read.{toks, all_behind, begins_item, IsFront, is_topic, behind_topic, said_of, IsItemAt, ReadTo, IsFaultOf, line_at, IsRefusedAt, not_closed, not_expected, not_allowed, IsRefusedIn, IsRead, item_fault}
use Rattle.dg_base.specs.Faults.{IsFault}
use Rattle.dg_reader.proofs.FaultLemmas.{fault_map}

toks_seen : (ts : List Token) → map token_view ts ≡ toks (map seen ts)
toks_seen [] = refl
toks_seen (t ∷ ts) = ap (λ (l : List Tok). token_view t ∷ l) (toks_seen ts)

-- ## What the answers say

says : (ts : List Tok) (o : Outcome) → outcome ts ≡ o → Says true ts o
says ts o e = subst (λ (p : Outcome). Says true ts p) e (outcome_says true ts)

ends_item : (ts : List Tok) (shape : Shape) → EndsAs ts shape → InItem true ts shape
ends_item ts shape h = says ts (done shape) (ap outcome_from h.taken ∙ ap at_end h.ends)

open_unclosed : (ts : List Tok) → IsOpen ts → IsUnclosed true ts
open_unclosed ts h = says ts unclosed (ap outcome_from h.taken ∙ ap at_end h.goes_on)

-- ## One item

front_all : (t : Seen) (ts : List Seen) → all_behind ts ≡ true → IsFront (t ∷ ts) t ts []
front_all t ts h = record { split = ap (λ (l : List Seen). t ∷ l) (sym (append-nil ts)); alone = h; ends = refl }

in_column : (t : Seen) (ts : List Tok) (shape : Shape) → t.first ≡ true → InItem true ts shape → InItem t.first ts shape
in_column t ts shape e h = subst (λ (b : Bool). InItem b ts shape) (sym e) h

pub whole_item : (before : Bool) (ts : List Token) (d : Token) (shape : Shape) (item : Item) → 0 < length ts → all_behind (map seen (drop 1 ts)) ≡ true → (get_or ts 0 d).first ≡ true → EndsAs (map token_view ts) shape → item_fault before shape ≡ None → item ≡ record { line = (get_or ts 0 d).line; said = said_of shape } → IsItemAt before (map seen ts) item []
whole_item before [] d shape item some alone column h none is = absurd (omega arith)
whole_item before (t ∷ ts) d shape item some alone column h none is = record {
  first = seen t;
  others = map seen ts;
  front = front_all (seen t) (map seen ts) alone;
  shape = shape;
  shaped = in_column (seen t) (toks (map seen (t ∷ ts))) shape column (subst (λ (l : List Tok). InItem true l shape) (toks_seen (t ∷ ts)) (ends_item (map token_view (t ∷ ts)) shape h));
  allowed = none;
  is = is;
}

pub faulty_item : (before : Bool) (ts : List Token) (d : Token) (shape : Shape) (r : Refusal) → 0 < length ts → all_behind (map seen (drop 1 ts)) ≡ true → (get_or ts 0 d).first ≡ true → EndsAs (map token_view ts) shape → IsFaultOf before (get_or ts 0 d).line shape r → IsRefusedAt before (map seen ts) r
faulty_item before [] d shape r some alone column h fault = absurd (omega arith)
faulty_item before (t ∷ ts) d shape r some alone column h fault =
    not_allowed (seen t) (map seen ts) [] (front_all (seen t) (map seen ts) alone) shape
    (in_column (seen t) (toks (map seen (t ∷ ts))) shape column (subst (λ (l : List Tok). InItem true l shape) (toks_seen (t ∷ ts)) (ends_item (map token_view (t ∷ ts)) shape h)))
    fault

pub open_item : (before : Bool) (ts : List Token) (d : Token) → 0 < length ts → all_behind (map seen (drop 1 ts)) ≡ true → (get_or ts 0 d).first ≡ true → IsOpen (map token_view ts) → IsRefusedAt before (map seen ts) (record { kind = Unclosed; line = (get_or ts 0 d).line })
open_item before [] d some alone column h = absurd (omega arith)
open_item before (t ∷ ts) d some alone column h =
    not_closed (seen t) (map seen ts) [] (front_all (seen t) (map seen ts) alone)
    (subst (λ (b : Bool). IsUnclosed b (toks (map seen (t ∷ ts)))) (sym column) (subst (λ (l : List Tok). IsUnclosed true l) (toks_seen (t ∷ ts)) (open_unclosed (map token_view (t ∷ ts)) h))) refl

-- the line of a token that is read
line_seen : (t : Token) (ts : List Token) (index : ℕ) (d : Token) → index < length (t ∷ ts) → (get_or (t ∷ ts) index d).line ≡ line_at (seen t) (map seen ts) index
line_seen t ts zero d lt = refl
line_seen t [] (suc index) d lt = absurd (omega arith)
line_seen t (u ∷ ts) (suc index) d lt = line_seen u ts index d (omega arith)

pub stopped_item : (before : Bool) (ts : List Token) (d e : Token) (index : ℕ) → 0 < length ts → all_behind (map seen (drop 1 ts)) ≡ true → (get_or ts 0 d).first ≡ true → index < length ts
    → IsUnexpectedAt true (map token_view ts) index → IsRefusedAt before (map seen ts) (record { kind = Unexpected; line = (get_or ts index e).line })
stopped_item before [] d e index some alone column within h = absurd (omega arith)
stopped_item before (t ∷ ts) d e index some alone column within h =
    not_expected (seen t) (map seen ts) [] (front_all (seen t) (map seen ts) alone) index
    (subst (λ (b : Bool). IsUnexpectedAt b (toks (map seen (t ∷ ts))) index) (sym column) (subst (λ (l : List Tok). IsUnexpectedAt true l index) (toks_seen (t ∷ ts)) h))
    (ap (λ (l : ℕ). record { kind = Unexpected; line = l }) (line_seen t ts index e within))

pub indented_item : (before : Bool) (ts : List Token) (d : Token) → 0 < length ts → all_behind (map seen (drop 1 ts)) ≡ true → (get_or ts 0 d).first ≡ false → IsRefusedAt before (map seen ts) (record { kind = Unexpected; line = (get_or ts 0 d).line })
indented_item before [] d some alone column = absurd (omega arith)
indented_item before (t ∷ ts) d some alone column =
    not_expected (seen t) (map seen ts) [] (front_all (seen t) (map seen ts) alone) 0
    (subst (λ (b : Bool). IsUnexpectedAt b (toks (map seen (t ∷ ts))) 0) (sym column)
    (record { within = omega arith; here = outcome_says false (take 1 (toks (map seen (t ∷ ts)))); first = λ before less. absurd (omega arith) })) refl

-- ## Items one after another

front_on : (ts rest : List Seen) (first : Seen) (others : List Seen) → IsFront ts first others [] → begins_item rest ≡ true → IsFront (ts ++ rest) first others rest
front_on ts rest first others h ends = record {
  split = ap (λ (l : List Seen). l ++ rest) h.split ∙ ap (λ (l : List Seen). first ∷ (l ++ rest)) (append-nil others);
  alone = h.alone;
  ends = ends;
}

-- nothing stands behind a front whose tokens are all there are
all_front : (ts : List Seen) (first : Seen) (others rest : List Seen) → IsFront ts first others rest → all_behind (drop 1 ts) ≡ true → rest ≡ []
all_front ts first others rest h alone = none others rest (subst (λ (l : List Seen). all_behind (drop 1 l) ≡ true) h.split alone) h.ends
  where
    both : (b c : Bool) → not b && c ≡ true → b ≡ true → ⊥
    both true c h k = cc
    both false c h k = cc

    tail : (b c : Bool) → not b && c ≡ true → c ≡ true
    tail true c h = absurd (cc)
    tail false c h = h

    none : (os rest : List Seen) → all_behind (os ++ rest) ≡ true → begins_item rest ≡ true → rest ≡ []
    none [] [] a b = refl
    none [] (t ∷ ts) a b = absurd (both t.first (all_behind ts) a b)
    none (o ∷ os) rest a b = none os rest (tail o.first (all_behind (os ++ rest)) a) b

item_on : (before : Bool) (ts rest : List Seen) (item : Item) → IsItemAt before ts item [] → begins_item rest ≡ true → IsItemAt before (ts ++ rest) item rest
item_on before ts rest item h ends = record { first = h.first; others = h.others; front = front_on ts rest h.first h.others h.front ends; shape = h.shape; shaped = h.shaped; allowed = h.allowed; is = h.is }

front_there : (ts rest : List Seen) (f : Seen) (o q : List Seen) → IsFront ts f o q → all_behind (drop 1 ts) ≡ true → begins_item rest ≡ true → IsFront (ts ++ rest) f o rest
front_there ts rest f o q front alone ends = front_on ts rest f o (subst (λ (l : List Seen). IsFront ts f o l) (all_front ts f o q front alone) front) ends

refused_on : (before : Bool) (ts rest : List Seen) (r : Refusal) → IsRefusedAt before ts r → all_behind (drop 1 ts) ≡ true → begins_item rest ≡ true → IsRefusedAt before (ts ++ rest) r
refused_on before ts rest r (not_closed f o q front u e) alone ends = not_closed f o rest (front_there ts rest f o q front alone ends) u e
refused_on before ts rest r (not_expected f o q front n u e) alone ends = not_expected f o rest (front_there ts rest f o q front alone ends) n u e
refused_on before ts rest r (not_allowed f o q front shape s e) alone ends = not_allowed f o rest (front_there ts rest f o q front alone ends) shape s e

read_push : (before : Bool) (ts : List Seen) (items : List Item) (mid rest : List Seen) (item : Item) → ReadTo before ts items mid → IsItemAt (behind_topic before items) mid item rest → ReadTo before ts (items ++ item ∷ []) rest
read_push before ts [] mid rest item so at = (rest, subst (λ (l : List Seen). IsItemAt before l item rest) so at, refl)
read_push before ts (i ∷ items) mid rest item so at = (so.0, so.1, read_push (before || is_topic i.said) so.0 items mid rest item so.2 at)

pub behind_topic-push : (before : Bool) (items : List Item) (item : Item) → behind_topic before (items ++ item ∷ []) ≡ (behind_topic before items || is_topic item.said)
behind_topic-push before [] item = refl
behind_topic-push before (i ∷ items) item = behind_topic-push (before || is_topic i.said) items item

split_seen : (ts : List Token) (at count : ℕ) → map seen (drop at ts) ≡ map seen (take count (drop at ts)) ++ map seen (drop count (drop at ts))
split_seen ts at count = ap (map seen) (sym (take-append-drop count (drop at ts))) ∙ map-append seen (take count (drop at ts)) (drop count (drop at ts))

pub one_more : (ts : List Token) (items : List Item) (at count : ℕ) (item : Item) → ReadTo false (map seen ts) items (map seen (drop at ts)) → IsItemAt (behind_topic false items) (map seen (take count (drop at ts))) item [] → begins_item (map seen (drop count (drop at ts))) ≡ true → ReadTo false (map seen ts) (items ++ item ∷ []) (map seen (drop count (drop at ts)))
one_more ts items at count item so here ends =
    read_push false (map seen ts) items (map seen (drop at ts)) (map seen (drop count (drop at ts))) item so
    (subst (λ (l : List Seen). IsItemAt (behind_topic false items) l item (map seen (drop count (drop at ts)))) (sym (split_seen ts at count))
    (item_on (behind_topic false items) (map seen (take count (drop at ts))) (map seen (drop count (drop at ts))) item here ends))

pub refused_here : (ts : List Token) (items : List Item) (at count : ℕ) (r : Refusal) → ReadTo false (map seen ts) items (map seen (drop at ts)) → IsRefusedAt (behind_topic false items) (map seen (take count (drop at ts))) r → all_behind (drop 1 (map seen (take count (drop at ts)))) ≡ true → begins_item (map seen (drop count (drop at ts))) ≡ true → IsRefusedIn (map seen ts) r
refused_here ts items at count r so here alone ends = record {
  items = items;
  rest = map seen (drop at ts);
  before = so;
  here = subst (λ (l : List Seen). IsRefusedAt (behind_topic false items) l r) (sym (split_seen ts at count)) (refused_on (behind_topic false items) (map seen (take count (drop at ts))) (map seen (drop count (drop at ts))) r here alone ends);
}

-- ## Places in the tokens

rest_all : (ts : List Token) (n : ℕ) → take (length ts - n) (drop n ts) ≡ drop n ts
rest_all ts n = take_all _ _ (omega (arith, length-drop n ts))

drop_take : (ts : List Token) (n : ℕ) → drop 1 (take (n + 1) ts) ≡ take n (drop 1 ts)
drop_take [] zero = refl
drop_take [] (suc n) = rw add-one refl
drop_take (t ∷ ts) n = rw add-one refl

drop_seen : (ts : List Token) → drop 1 (map seen ts) ≡ map seen (drop 1 ts)
drop_seen [] = refl
drop_seen (t ∷ ts) = refl

pub alone_here : (ts : List Token) (at n : ℕ) → all_behind (map seen (take n (take (length ts - (at + 1)) (drop (at + 1) ts)))) ≡ true → all_behind (map seen (drop 1 (take (at + (n + 1) - at) (drop at ts)))) ≡ true
alone_here ts at n h =
    let count : at + (n + 1) - at ≡ n + 1 = omega arith in
    let same : drop 1 (take (at + (n + 1) - at) (drop at ts)) ≡ take n (take (length ts - (at + 1)) (drop (at + 1) ts)) =
    ap (λ (c : ℕ). drop 1 (take c (drop at ts))) count
    ∙ drop_take (drop at ts) n
    ∙ ap (take n) (drop-drop 1 at ts ∙ sym (rest_all ts (at + 1))) in
    ap (λ (l : List Token). all_behind (map seen l)) same ∙ h

behind_here : (ts : List Token) (at n : ℕ) → drop (n + 1) (drop at ts) ≡ drop n (take (length ts - (at + 1)) (drop (at + 1) ts))
behind_here ts at n =
    let sum : at + (n + 1) ≡ (at + 1) + n = omega arith in
    drop-drop (n + 1) at ts ∙ ap (λ (k : ℕ). drop k ts) sum ∙ sym (drop-drop n (at + 1) ts) ∙ ap (drop n) (sym (rest_all ts (at + 1)))

pub read_on : (topic : Bool) (ts : List Token) (items : List Item) (at n : ℕ) (item : Item) → topic ≡ behind_topic false items → ReadTo false (map seen ts) items (map seen (drop at ts)) → IsItemAt topic (map seen (take (at + (n + 1) - at) (drop at ts))) item [] → begins_item (map seen (drop n (take (length ts - (at + 1)) (drop (at + 1) ts)))) ≡ true → ReadTo false (map seen ts) (items ++ item ∷ []) (map seen (drop (at + (n + 1)) ts))
read_on topic ts items at n item same so here ends =
    let count : at + (n + 1) - at ≡ n + 1 = omega arith in
    subst (λ (l : List Token). ReadTo false (map seen ts) (items ++ item ∷ []) (map seen l)) (drop-drop (n + 1) at ts)
    (one_more ts items at (n + 1) item so (subst (λ (b : Bool). IsItemAt b (map seen (take (n + 1) (drop at ts))) item []) same (subst (λ (k : ℕ). IsItemAt topic (map seen (take k (drop at ts))) item []) count here)) (ap (λ (l : List Token). begins_item (map seen l)) (behind_here ts at n) ∙ ends))

pub read_stops : (topic : Bool) (ts : List Token) (items : List Item) (at n : ℕ) (fault : ReadFault) → topic ≡ behind_topic false items → ReadTo false (map seen ts) items (map seen (drop at ts)) → IsFault (IsRefusedAt topic (map seen (take (at + (n + 1) - at) (drop at ts)))) fault → all_behind (map seen (take n (take (length ts - (at + 1)) (drop (at + 1) ts)))) ≡ true → begins_item (map seen (drop n (take (length ts - (at + 1)) (drop (at + 1) ts)))) ≡ true → IsFault (λ r. IsRead (map seen ts) (Err r)) fault
read_stops topic ts items at n fault same so here alone ends =
    let count : at + (n + 1) - at ≡ n + 1 = omega arith in
    fault_map _ _ (λ r h. refused_here ts items at (n + 1) r so
    (subst (λ (b : Bool). IsRefusedAt b (map seen (take (n + 1) (drop at ts))) r) same (subst (λ (k : ℕ). IsRefusedAt topic (map seen (take k (drop at ts))) r) count h))
    (ap all_behind (drop_seen (take (n + 1) (drop at ts))) ∙ ap (λ (k : ℕ). all_behind (map seen (drop 1 (take k (drop at ts))))) (sym count) ∙ alone_here ts at n alone)
    (ap (λ (l : List Token). begins_item (map seen l)) (behind_here ts at n) ∙ ends)) fault here

all_behind-push : (ts : List Seen) (t : Seen) → all_behind ts ≡ true → t.first ≡ false → all_behind (ts ++ t ∷ []) ≡ true
all_behind-push [] t h k = ap (λ (b : Bool). not b && true) k
all_behind-push (u ∷ ts) t h k = here u.first h (λ g. all_behind-push ts t g k)
  where
    here : (b : Bool) → (not b && all_behind ts) ≡ true → (all_behind ts ≡ true → all_behind (ts ++ t ∷ []) ≡ true) → (not b && all_behind (ts ++ t ∷ [])) ≡ true
    here true h later = h
    here false h later = later h

pub all_behind_more : (ts : List Token) (i : ℕ) (d : Token) → i < length ts → all_behind (map seen (take i ts)) ≡ true → (get_or ts i d).first ≡ false → all_behind (map seen (take (i + 1) ts)) ≡ true
all_behind_more ts i d lt h k =
    ap (λ (l : List Token). all_behind (map seen l)) (take_more ts i d lt)
    ∙ ap all_behind (map-append seen (take i ts) (get_or ts i d ∷ []))
    ∙ all_behind-push (map seen (take i ts)) (seen (get_or ts i d)) h k
