-- How the pieces of a value are printed, one after another.
use Rattle.std.proofs.Common.{◌≡◌, ℕ, ◌+◌, ◌<◌, ◌≤◌, List, [], ◌∷◌, ◌++◌, true, false, refl, sym, ap, ◌∙◌, arith, subst, append_assoc, append-nil, length, Some, None, inl, inr}
use Rattle.std.specs.Prelude.{◌*◌, codes, map, take, get_or, slice_get, encode_utf8, encode_utf8_all, Result, Ok, Err}
use Rattle.std.proofs.lemmas.List.{map-append, take_more, take_all}
use Rattle.std.proofs.lemmas.Str.{encodes-append}
use Rattle.std.proofs.lemmas.Option.{slice_get_within, get_or_from_slice_get, slice_get_cases}
use Rattle.dg_base.specs.declared.program.CoreProgram.{CoreProgram}
use Rattle.dg_base.specs.Written.{SinkView, Wrote, BrokeOff}
use Rattle.dg_base.proofs.WrittenLemmas.{wrote_nothing, wrote_on, broke_first, broke_later}
use Rattle.dg_meaning.specs.Values.{Label, Num, Word, Unknown, Object, Closure, Nil, Pair, Value, Var, Node, Values, NoMore, More, pair}
use Rattle.dg_meaning.specs.World.{Print, Piece}
use Rattle.dg_meaning.specs.Render.{Met, nothing_met, met_from, met_behind, written, render_from, growth}
use Rattle.dg_meaning.specs.Pieces.{shown_letter, word_text, pieces, first_piece, list_pieces, tail_pieces}
use Rattle.dg_meaning.specs.Substitutions.{resolved}
use Rattle.dg_meaning.specs.inside.Substitutions.{all_resolved, IsSubstitution}
use Rattle.dg_meaning.specs.Unify.{size}
use Rattle.dg_meaning.proofs.Walks.{resolved_node, resolved_unbound, walked, size_some}
use Rattle.dg_unify.specs.Store.{Store, told, Holds, ShowsPair, Shows, label_of}
use Rattle.dg_unify.specs.declared.bindings.Ref.{Ref}
use Rattle.dg_unify.specs.declared.bindings.View.{View}
use Rattle.dg_unify.specs.declared.bindings.View.TheVariants as view
use Rattle.dg_base.specs.declared.cells.Simple.{Simple}
use Rattle.dg_base.specs.declared.cells.Simple.TheVariants as simple
use Rattle.dg_unify.proofs.StoreLemmas.{told_is, holds_some, walked_to}
use Rattle.dg_unify.proofs.Rooms.{Placed, newest_in, AreInside, room_for_all, room_left as wait_left}
use Rattle.dg_unify.specs.Waits.{size_at}
use Rattle.dg_unify.specs.declared.parts.Parts.TheVariants as form
use Rattle.dg_unify.specs.declared.parts.Wait.{Wait}
use Rattle.dg_texts.specs.declared.printing.Next.{Next}
use Rattle.dg_texts.specs.declared.printing.Next.TheVariants as next
use Rattle.dg_spacing.specs.declared.spacer.Spacer.{Spacer}
use Rattle.dg_base.specs.declared.writing.WriteFault.{WriteFault}
use Rattle.dg_spacing.specs.Spacer.{StandsFor}
use Rattle.dg_texts.specs.Printing.{Added, HasText, shows_nil, single_pieces, end_pieces, as_prints, growth_of, AllAdded, AddsAll, Printed, value_at, ref_of, next_pieces, opening, IsPairOf}

-- ## Pieces behind pieces

met_on : (m : Met) (es fs : List Print) → met_from m (es ++ fs) ≡ met_from (met_from m es) fs
met_on m [] fs = refl
met_on m (e ∷ es) fs = met_on (met_behind m e) es fs

pub render_from_append : (m : Met) (es fs : List Print) → render_from m (es ++ fs) ≡ render_from m es ++ render_from (met_from m es) fs
render_from_append m [] fs = refl
render_from_append m (e ∷ es) fs =
    ap (λ l. written m e ++ l) (render_from_append (met_behind m e) es fs)
    ∙ sym (append_assoc (written m e) (render_from (met_behind m e) es) (render_from (met_from (met_behind m e) es) fs))

growth_append : (es : List Print) (ps qs : List (List ℕ)) → growth_of es (ps ++ qs) ≡ growth_of es ps ++ growth_of (es ++ as_prints ps) qs
growth_append es ps qs =
    let m = met_from nothing_met es in
    ap (render_from m) (map-append Piece ps qs)
    ∙ render_from_append m (as_prints ps) (as_prints qs)
    ∙ ap (λ x. render_from m (as_prints ps) ++ render_from x (as_prints qs)) (sym (met_on nothing_met es (as_prints ps)))

pub adds_none : (s : Spacer) (a : SinkView) → AddsAll [] s s a a
adds_none s a es st = record { stands = subst (StandsFor s) (sym (append-nil es)) st; wrote = wrote_nothing a }

pub adds_on : (ps qs : List (List ℕ)) (s t u : Spacer) (a b c : SinkView) → AddsAll ps s t a b → AddsAll qs t u b c → AddsAll (ps ++ qs) s u a c
adds_on ps qs s t u a b c h k es st =
    let x = h es st in
    let y = k (es ++ as_prints ps) x.stands in
    record {
      stands = subst (StandsFor u) (append_assoc es (as_prints ps) (as_prints qs) ∙ ap (λ l. es ++ l) (sym (map-append Piece ps qs))) y.stands;
      wrote = subst (Wrote a c) (sym (growth_append es ps qs)) (wrote_on a b c (growth_of es ps) (growth_of (es ++ as_prints ps) qs) x.wrote y.wrote);
    }

pub one_added : (p : List ℕ) (s : Spacer) (a b : SinkView) (es : List Print) → Added (Piece p) es a b s → AllAdded (p ∷ []) es a b s
one_added p s a b es h = record { stands = h.stands; wrote = subst (Wrote a b) (sym (append-nil (growth es (Piece p)))) h.wrote }

pub one_broke : (p : List ℕ) (a b : SinkView) (es : List Print) → BrokeOff a b (growth es (Piece p)) → BrokeOff a b (growth_of es (p ∷ []))
one_broke p a b es h = subst (BrokeOff a b) (sym (append-nil (growth es (Piece p)))) h

-- ## What printing came to

pub printed_then : (ps qs : List (List ℕ)) (s t u : Spacer) (a b c : SinkView) (r : Result (Unit {0}) WriteFault) → AddsAll ps s t a b → Printed qs t u b c r → Printed (ps ++ qs) s u a c r
printed_then ps qs s t u a b c (Ok d) h k = adds_on ps qs s t u a b c h k
printed_then ps qs s t u a b c (Err e) h k = λ es st.
    let x = h es st in
    subst (BrokeOff a c) (sym (growth_append es ps qs)) (broke_later a b c (growth_of es ps) (growth_of (es ++ as_prints ps) qs) x.wrote (k (es ++ as_prints ps) x.stands))

pub printed_stop : (ps qs : List (List ℕ)) (s u : Spacer) (a c : SinkView) (e : WriteFault) → Printed ps s u a c (Err e) → Printed (ps ++ qs) s u a c (Err e)
printed_stop ps qs s u a c e h = λ es st. subst (BrokeOff a c) (sym (growth_append es ps qs)) (broke_first a c (growth_of es ps) (growth_of (es ++ as_prints ps) qs) (h es st))

pub printed_as : (ps qs : List (List ℕ)) (s u : Spacer) (a c : SinkView) (r : Result (Unit {0}) WriteFault) → qs ≡ ps → Printed ps s u a c r → Printed qs s u a c r
printed_as ps qs s u a c r e h = subst (λ l. Printed l s u a c r) (sym e) h

-- ## Letters

-- so many bytes in front of a buffer are the text of the letters before a number
pub record TextTo (spelling bytes : List ℕ) (n len : ℕ) : Type 0 where
  pub within : n ≤ length spelling
  pub same : take len bytes ≡ word_text (take n spelling)
  pub few : len ≤ 4 * n

pub text_begins : (spelling bytes : List ℕ) → TextTo spelling bytes 0 0
text_begins spelling bytes = record { within = omega arith; same = refl; few = omega arith }

text_more : (spelling : List ℕ) (n x : ℕ) → n < length spelling → get_or spelling n 0 ≡ x → word_text (take n spelling) ++ encode_utf8 (shown_letter x) ≡ word_text (take (n + 1) spelling)
text_more spelling n x lt is =
    ap (λ l. word_text (take n spelling) ++ l) (sym (append-nil (encode_utf8 (shown_letter x))))
    ∙ sym (encodes-append (map shown_letter (take n spelling)) (shown_letter x ∷ []))
    ∙ ap encode_utf8_all (sym (map-append shown_letter (take n spelling) (x ∷ [])))
    ∙ ap (λ y. word_text (take n spelling ++ y ∷ [])) (sym is)
    ∙ ap word_text (sym (take_more spelling n 0 lt))

pub letter_more : (spelling bytes bytes' text : List ℕ) (n len x : ℕ) → TextTo spelling bytes n len → slice_get spelling n ≡ Some x → text ≡ encode_utf8 (shown_letter x) → length text ≤ 4 → take (len + length text) bytes' ≡ take len bytes ++ text → TextTo spelling bytes' (n + 1) (len + length text)
letter_more spelling bytes bytes' text n len x t h is short now =
    let inside : n < length spelling = slice_get_within spelling n x h in
    record {
      within = omega (arith, inside);
      same = now ∙ ap (λ l. l ++ text) t.same ∙ ap (λ l. word_text (take n spelling) ++ l) is ∙ text_more spelling n x inside (get_or_from_slice_get spelling n x 0 h);
      few = omega (arith, t.few, short);
    }

pub room_left : (spelling bytes : List ℕ) (n len x k : ℕ) → TextTo spelling bytes n len → slice_get spelling n ≡ Some x → length spelling ≤ 200 → length bytes ≡ 800 → k ≤ 4 → len + k ≤ length bytes
room_left spelling bytes n len x k t h short size few =
    let inside : n < length spelling = slice_get_within spelling n x h in
    omega (arith, inside, t.few, short, size, few)

pub letters_end : (spelling bytes : List ℕ) (n len : ℕ) → TextTo spelling bytes n len → slice_get spelling n ≡ None → length spelling ≤ 200 → length bytes ≡ 800 → HasText spelling bytes len
letters_end spelling bytes n len t h short size =
    let le : length spelling ≤ n = elim (slice_get_cases spelling n).1 as (λ z. length spelling ≤ n) [ inl p ↦ absurd (cc (h, p.2)) | inr p ↦ p.0 ] in
    (omega (arith, t.within, t.few, short, size), t.same ∙ ap word_text (take_all n spelling le))

-- ## Values

-- the parts of a list, resolved
abbrev pub parts_at : Store → Ref → Ref → Values
parts_at s h t = More (value_at s h) (More (value_at s t) NoMore)

-- the nodes of these
abbrev pub room : Store → Ref → Ref → ℕ
room s h t = size (value_at s h) + size (value_at s t)

node_at : (s : Store) → IsSubstitution s.state.subst → (r : Ref) (f : Label) (vs : Values) → walked_to s r ≡ Node f vs → value_at s r ≡ Node f (all_resolved s.state.subst vs)
node_at s sound r f vs is = let S = s.state.subst in sym (walked S sound (told s r)).same ∙ ap (resolved S) is ∙ resolved_node S f vs

pub pair_at : (s : Store) → IsSubstitution s.state.subst → (r h t : Ref) → ShowsPair s (walked_to s r) h t → value_at s r ≡ Node Pair (parts_at s h t)
pair_at s sound r h t p =
    let S = s.state.subst in
    node_at s sound r Pair (More p.head (More p.tail NoMore)) p.is
    ∙ ap (λ v. Node Pair (More (resolved S v) (More (resolved S p.tail) NoMore))) (sym (told_is s h p.head p.head_is))
    ∙ ap (λ v. Node Pair (More (value_at s h) (More (resolved S v) NoMore))) (sym (told_is s t p.tail p.tail_is))

pub pair_size : (s : Store) → IsSubstitution s.state.subst → (r h t : Ref) → ShowsPair s (walked_to s r) h t → size (value_at s r) ≡ room s h t + 1
pair_size s sound r h t p = omega (arith, ap size (pair_at s sound r h t p))

-- ## A value that is no pair

pub record IsSingle (program : CoreProgram) (w v : Value) : Type 0 where
  pub pieces_are : pieces program v ≡ single_pieces program w
  pub tail_are : tail_pieces program v ≡ end_pieces program w

single_node : (program : CoreProgram) (f : Label) (vs us : Values) → (f ≡ Pair → ⊥) → IsSingle program (Node f vs) (Node f us)
single_node program (Num n) vs us k = record { pieces_are = refl; tail_are = refl }
single_node program (Word n) vs us k = record { pieces_are = refl; tail_are = refl }
single_node program (Unknown n) vs us k = record { pieces_are = refl; tail_are = refl }
single_node program (Object n) vs us k = record { pieces_are = refl; tail_are = refl }
single_node program (Closure n) vs us k = record { pieces_are = refl; tail_are = refl }
single_node program Nil vs us k = record { pieces_are = refl; tail_are = refl }
single_node program Pair vs us k = absurd (k refl)

node_single : (s : Store) → IsSubstitution s.state.subst → (program : CoreProgram) (r : Ref) (f : Label) (vs : Values) → walked_to s r ≡ Node f vs → (f ≡ Pair → ⊥) → IsSingle program (walked_to s r) (value_at s r)
node_single s sound program r f vs is k =
    subst (λ v. IsSingle program (walked_to s r) v) (sym (node_at s sound r f vs is)) (subst (λ w. IsSingle program w (Node f (all_resolved s.state.subst vs))) (sym is) (single_node program f vs (all_resolved s.state.subst vs) k))

var_single : (s : Store) → IsSubstitution s.state.subst → (program : CoreProgram) (r : Ref) (n : ℕ) → walked_to s r ≡ Var n → IsSingle program (walked_to s r) (value_at s r)
var_single s sound program r n is =
    let S = s.state.subst in
    let e : value_at s r ≡ Var n = sym (walked S sound (told s r)).same ∙ ap (resolved S) is ∙ resolved_unbound S n ((walked S sound (told s r)).free n is) in
    subst (λ v. IsSingle program (walked_to s r) v) (sym e) (subst (λ w. IsSingle program w (Var n)) (sym is) (record { pieces_are = refl; tail_are = refl }))

no_pair_label : (x : Simple) → label_of x ≡ Pair → ⊥
no_pair_label (simple.Num n) e = cc e
no_pair_label (simple.Word n) e = cc e
no_pair_label (simple.Object n) e = cc e
no_pair_label simple.Nil e = cc e

pub single_at : (s : Store) → IsSubstitution s.state.subst → (program : CoreProgram) (r : Ref) (v : View) → ((h t : Ref) → v ≡ view.Pair h t → ⊥) → Shows s (walked_to s r) v → IsSingle program (walked_to s r) (value_at s r)
single_at s sound program r (view.Unbound x) k shows = var_single s sound program r shows.number shows.is
single_at s sound program r (view.Pair h t) k shows = absurd (k h t refl)
single_at s sound program r (view.Closure p c) k shows = node_single s sound program r (Closure p) shows.parts shows.is (λ e. cc e)
single_at s sound program r (view.Unknown x) k shows = node_single s sound program r (Unknown shows.spelling) NoMore shows.is (λ e. cc e)
single_at s sound program r (view.Simple x) k shows = node_single s sound program r (label_of x) NoMore shows (no_pair_label x)

-- what is shown is the empty list
pub nil_shown : (s : Store) (w : Value) (v : View) → shows_nil v ≡ true → Shows s w v → w ≡ Node Nil NoMore
nil_shown s w (view.Unbound x) e shows = absurd (cc e)
nil_shown s w (view.Pair h t) e shows = absurd (cc e)
nil_shown s w (view.Closure p c) e shows = absurd (cc e)
nil_shown s w (view.Unknown x) e shows = absurd (cc e)
nil_shown s w (view.Simple (simple.Num n)) e shows = absurd (cc e)
nil_shown s w (view.Simple (simple.Word n)) e shows = absurd (cc e)
nil_shown s w (view.Simple (simple.Object n)) e shows = absurd (cc e)
nil_shown s w (view.Simple simple.Nil) e shows = shows

-- what is shown is something else
pub record IsOther (program : CoreProgram) (w : Value) : Type 0 where
  pub single : single_pieces program w ≡ first_piece program w ∷ []
  pub end : end_pieces program w ≡ codes "|" ∷ first_piece program w ∷ codes "]" ∷ []

other_is : (program : CoreProgram) (w u : Value) → w ≡ u → IsOther program u → IsOther program w
other_is program w u e h = subst (IsOther program) (sym e) h

pub other_shown : (s : Store) (program : CoreProgram) (w : Value) (v : View) → shows_nil v ≡ false → Shows s w v → IsOther program w
other_shown s program w (view.Unbound x) e shows = other_is program w (Var shows.number) shows.is (record { single = refl; end = refl })
other_shown s program w (view.Pair h t) e shows = other_is program w (pair shows.head shows.tail) shows.is (record { single = refl; end = refl })
other_shown s program w (view.Closure p c) e shows = other_is program w (Node (Closure p) shows.parts) shows.is (record { single = refl; end = refl })
other_shown s program w (view.Unknown x) e shows = other_is program w (Node (Unknown shows.spelling) NoMore) shows.is (record { single = refl; end = refl })
other_shown s program w (view.Simple (simple.Num n)) e shows = other_is program w (Node (Num n) NoMore) shows (record { single = refl; end = refl })
other_shown s program w (view.Simple (simple.Word n)) e shows = other_is program w (Node (Word n) NoMore) shows (record { single = refl; end = refl })
other_shown s program w (view.Simple (simple.Object n)) e shows = other_is program w (Node (Object n) NoMore) shows (record { single = refl; end = refl })
other_shown s program w (view.Simple simple.Nil) e shows = absurd (cc e)

-- ## A whole value

-- the sink failed at the first bracket
pub list_stops : (s : Store) → IsSubstitution s.state.subst → (program : CoreProgram) (r h t : Ref) (sp sp' : Spacer) (a b : SinkView) (e : WriteFault) → ShowsPair s (walked_to s r) h t → Printed (codes "[" ∷ []) sp sp' a b (Err e) → Printed (pieces program (value_at s r)) sp sp' a b (Err e)
list_stops s sound program r h t sp sp' a b e shows p =
    let rest = list_pieces program (parts_at s h t) in
    printed_as (codes "[" ∷ rest) (pieces program (value_at s r)) sp sp' a b (Err e) (ap (pieces program) (pair_at s sound r h t shows)) (printed_stop (codes "[" ∷ []) rest sp sp' a b e p)

pub single_printed : (s : Store) (program : CoreProgram) (r : Ref) (sp sp' : Spacer) (a b : SinkView) (result : Result (Unit {0}) WriteFault) → IsSingle program (walked_to s r) (value_at s r) → Printed (single_pieces program (walked_to s r)) sp sp' a b result → Printed (pieces program (value_at s r)) sp sp' a b result
single_printed s program r sp sp' a b result is p = printed_as (single_pieces program (walked_to s r)) (pieces program (value_at s r)) sp sp' a b result is.pieces_are p

-- ## What is next

pub pair_of : (s : Store) → IsSubstitution s.state.subst → (r h t : Ref) → ShowsPair s (walked_to s r) h t → IsPairOf s r h t
pair_of s sound r h t shows = record { head_in = holds_some s h shows.head shows.head_is; tail_in = holds_some s t shows.tail shows.tail_is; is = pair_at s sound r h t shows }

pub tail_printed : (s : Store) (program : CoreProgram) (r : Ref) (sp sp' : Spacer) (a b : SinkView) (result : Result (Unit {0}) WriteFault) → IsSingle program (walked_to s r) (value_at s r) → Printed (end_pieces program (walked_to s r)) sp sp' a b result → Printed (tail_pieces program (value_at s r)) sp sp' a b result
tail_printed s program r sp sp' a b result is p = printed_as (end_pieces program (walked_to s r)) (tail_pieces program (value_at s r)) sp sp' a b result is.tail_are p

-- the tails that wait
abbrev pub rest_pieces : Store → CoreProgram → List Wait → List (List ℕ)
rest_pieces s program [] = []
rest_pieces s program (w ∷ ws) = tail_pieces program (value_at s w.b) ++ rest_pieces s program ws

abbrev pub TailsWait : Store → List Wait → Type 0
TailsWait s [] = Unit {0}
TailsWait s (w ∷ ws) = Holds s w.b × TailsWait s ws

abbrev pub newest : Ref → List Wait → Ref
newest root ws = newest_in (λ w. w.a) root ws

-- what is left of a value behind what was printed of it
pub record Printing (s : Store) (program : CoreProgram) (root : Ref) (n : Next) (ws : List Wait) (sp0 sp : Spacer) (a b : SinkView) : Type 0 where
  pub next_in : Holds s (ref_of n)
  pub tails_in : TailsWait s ws
  pub inside : AreInside s (λ w. w.a) (λ w. size_at s w.b) root ws
  pub within : size_at s (ref_of n) ≤ size_at s (newest root ws)
  pub front : List (List ℕ)
  pub adds : AddsAll front sp0 sp a b
  pub is : pieces program (value_at s root) ≡ front ++ (next_pieces s program n ++ rest_pieces s program ws)

pub printing_starts : (s : Store) (program : CoreProgram) (root : Ref) (sp : Spacer) (a : SinkView) → Holds s root → Printing s program root (next.Value root) [] sp sp a a
printing_starts s program root sp a h = record { next_in = h; tails_in = tt; inside = tt; within = omega arith; front = []; adds = adds_none sp a; is = sym (append-nil (pieces program (value_at s root))) }

-- how much is left
abbrev pub tails : Store → List Wait → ℕ
tails s [] = 0
tails s (w ∷ ws) = 2 * size_at s w.b + 1 + tails s ws

abbrev pub to_print : Store → Next → List Wait → ℕ
to_print s n ws = 2 * size_at s (ref_of n) + tails s ws

opened_pieces : (s : Store) (program : CoreProgram) (n : Next) (h t : Ref) → IsPairOf s (ref_of n) h t → next_pieces s program n ≡ opening n ++ (pieces program (value_at s h) ++ tail_pieces program (value_at s t))
opened_pieces s program (next.Value r) h t p = ap (pieces program) p.is
opened_pieces s program (next.Tail r) h t p = ap (tail_pieces program) p.is

module _ (s : Store) (placed : Placed s) (program : CoreProgram) (root : Ref) (n : Next) (ws : List Wait) (sp0 sp sp' : Spacer) (a b c : SinkView) (l : Printing s program root n ws sp0 sp a b) where
  abbrev rest : List (List ℕ)
  rest = rest_pieces s program ws

  pub printing_stops : (e : WriteFault) → Printed (next_pieces s program n) sp sp' b c (Err e) → Printed (pieces program (value_at s root)) sp0 sp' a c (Err e)
  printing_stops e p =
      printed_as (l.front ++ (next_pieces s program n ++ rest)) (pieces program (value_at s root)) sp0 sp' a c (Err e) l.is
      (printed_then l.front (next_pieces s program n ++ rest) sp0 sp sp' a b c (Err e) l.adds (printed_stop (next_pieces s program n) rest sp sp' b c e p))

  -- it was printed, and nothing waits
  pub printing_ends : ws ≡ [] → AddsAll (next_pieces s program n) sp sp' b c → AddsAll (pieces program (value_at s root)) sp0 sp' a c
  printing_ends last p =
      let none : next_pieces s program n ++ rest ≡ next_pieces s program n = ap (λ v. next_pieces s program n ++ rest_pieces s program v) last ∙ append-nil (next_pieces s program n) in
      subst (λ ps. AddsAll ps sp0 sp' a c) (sym (l.is ∙ ap (λ ps. l.front ++ ps) none)) (adds_on l.front (next_pieces s program n) sp0 sp sp' a b c l.adds p)

  -- it was printed, and the newest tail is taken up
  pub printing_up : (w : Wait) (others : List Wait) → ws ≡ w ∷ others → AddsAll (next_pieces s program n) sp sp' b c → Printing s program root (next.Tail w.b) others sp0 sp' a c
  printing_up w others is p =
      let tails_in : TailsWait s (w ∷ others) = subst (TailsWait s) is l.tails_in in
      let inside : AreInside s (λ v. v.a) (λ v. size_at s v.b) root (w ∷ others) = subst (AreInside s (λ v. v.a) (λ v. size_at s v.b) root) is l.inside in
      record {
        next_in = tails_in.0;
        tails_in = tails_in.1;
        inside = inside.3;
        within = omega (arith, inside.2);
        front = l.front ++ next_pieces s program n;
        adds = adds_on l.front (next_pieces s program n) sp0 sp sp' a b c l.adds p;
        is = l.is ∙ ap (λ v. l.front ++ (next_pieces s program n ++ rest_pieces s program v)) is ∙ sym (append_assoc l.front (next_pieces s program n) (rest_pieces s program (w ∷ others)));
      }

  pub up_smaller : (w : Wait) (others : List Wait) → ws ≡ w ∷ others → to_print s (next.Tail w.b) others < to_print s n ws
  up_smaller w others is = omega (arith, ap (tails s) is)

  -- it is a pair, whose tail waits
  module _ (h t : Ref) (p : IsPairOf s (ref_of n) h t) where
    abbrev wait : Wait
    wait = record { a = h; b = t; p = form.Nothing; q = form.Nothing }

    pair_sizes : size_at s (ref_of n) ≡ size_at s h + size_at s t + 1
    pair_sizes = omega (arith, ap size p.is)

    pub printing_room : Holds s root → length ws < s.places
    printing_room hold = omega (arith, wait_left s placed (λ w. w.a) (λ w. size_at s w.b) root 0 ws (size_at s h) hold (room_for_all s root) l.inside (size_some (value_at s h)) (omega (arith, l.within, pair_sizes)))

    pub printing_into : AddsAll (opening n) sp sp' b c → Printing s program root (next.Value h) (wait ∷ ws) sp0 sp' a c
    printing_into added =
        let A = pieces program (value_at s h) in
        let B = tail_pieces program (value_at s t) in
        record {
          next_in = p.head_in;
          tails_in = (p.tail_in, l.tails_in);
          inside = (p.head_in, omega (arith, l.within, pair_sizes, size_some (value_at s t)), omega (arith, l.within, pair_sizes, size_some (value_at s h)), l.inside);
          within = omega arith;
          front = l.front ++ opening n;
          adds = adds_on l.front (opening n) sp0 sp sp' a b c l.adds added;
          is =
              l.is
              ∙ ap (λ ps. l.front ++ (ps ++ rest)) (opened_pieces s program n h t p)
              ∙ ap (λ ps. l.front ++ ps) (append_assoc (opening n) (A ++ B) rest ∙ ap (λ ps. opening n ++ ps) (append_assoc A B rest))
              ∙ sym (append_assoc l.front (opening n) (A ++ (B ++ rest)));
        }

    pub into_smaller : to_print s (next.Value h) (wait ∷ ws) < to_print s n ws
    into_smaller = omega (arith, pair_sizes)
