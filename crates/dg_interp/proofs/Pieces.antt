-- How the pieces of a value are taken and told, one after another.
use Rattle.std.proofs.Common.{◌≡◌, ℕ, ◌+◌, ◌<◌, ◌≤◌, length, List, [], ◌∷◌, ◌++◌, Bool, true, false, Some, None, refl, sym, ap, ◌∙◌, subst, arith, append_assoc, append-nil}
use Rattle.std.specs.Prelude.{codes, Result, Ok, Err, IfOk, OnOk}
use Rattle.std.specs.List.{All}
use Rattle.std.proofs.lemmas.List.{map-append}
use Rattle.std.proofs.lemmas.List.Elements.{All-nil, All-cons, All-append, All-pop}
use Rattle.dg_base.specs.declared.program.CoreProgram.{CoreProgram}
use Rattle.dg_base.specs.declared.run.RunFault.{RunFault}
use Rattle.dg_meaning.specs.Pieces.{pieces, first_piece, tail_pieces}
use Rattle.dg_meaning.specs.World.{Prints, Piece}
use Rattle.dg_meaning.specs.Unify.{size}
use Rattle.dg_meaning.specs.inside.Substitutions.{IsSubstitution}
use Rattle.dg_meaning.proofs.Walks.{size_some}
use Rattle.dg_spacing.specs.declared.spacer.Spacer.{Spacer}
use Rattle.dg_texts.specs.Printing.{growth_of, AllAdded, value_at, shows_nil, IsPairOf, single_pieces, end_pieces}
use Rattle.dg_texts.proofs.PrintLemmas.{IsSingle, single_at, other_shown, nil_shown}
use Rattle.dg_unify.specs.Store.{Store, Holds, Shows}
use Rattle.dg_unify.specs.Waits.{size_at}
use Rattle.dg_unify.specs.declared.bindings.Ref.{Ref}
use Rattle.dg_unify.specs.declared.bindings.View.{View}
use Rattle.dg_unify.specs.declared.bindings.View.TheVariants as view
use Rattle.dg_unify.proofs.StoreLemmas.{walked_to}
use Rattle.dg_watch.specs.Watching.{Watching}
use Rattle.dg_interp.specs.declared.printing.Part.{Part}
use Rattle.dg_interp.specs.declared.printing.Part.TheVariants as part
use Rattle.dg_interp.specs.inside.Showing.{ShowsAll, BreaksSo, as_events, part_pieces, parts_left, HoldsPart, parts_size, part_size, front_if, TakesPart}
use Rattle.dg_interp.proofs.Runs.{shows_nothing, shows_on, shown_first, shown_later}

-- ## One piece

-- the bytes by which a text grows from nothing
one_grown : (p : List ℕ) → growth_of [] (p ∷ []) ≡ p
one_grown [] = refl
one_grown (b ∷ bs) = append-nil (b ∷ bs)

pub single_filled : (ps : List (List ℕ)) (piece before now : List ℕ) (f g : ℕ) (s : Spacer) → before ≡ [] → AllAdded ps [] (record { taken = Some before; room = None; faults = f }) (record { taken = Some now; room = None; faults = g }) s → ps ≡ piece ∷ [] → now ≡ piece
single_filled ps piece before now f g s none added is =
    added.wrote.taken ∙ ap (λ l. l ++ growth_of [] ps) none ∙ ap (growth_of []) is ∙ one_grown piece

-- ## What is taken of a part

take_as : (s : Store) (program : CoreProgram) (p : Part) (old new : List Part) (some some' : Bool) (piece piece' : List ℕ) → some ≡ some' → piece ≡ piece' → TakesPart s program p old new some' piece' → TakesPart s program p old new some piece
take_as s program p old new some some' piece piece' e f h = subst (λ b. TakesPart s program p old new b piece) (sym e) (subst (TakesPart s program p old new some') (sym f) h)

both_held : (s : Store) (p q : Part) → HoldsPart s p → HoldsPart s q → All (HoldsPart s) (p ∷ q ∷ [])
both_held s p q h k = All-cons (HoldsPart s) p (q ∷ []) h (All-cons (HoldsPart s) q [] k (All-nil (HoldsPart s)))

-- two parts are put behind others
both_put : (old mid new : List Part) (p q : Part) → mid ≡ old ++ p ∷ [] → new ≡ mid ++ q ∷ [] → new ≡ old ++ p ∷ q ∷ []
both_put old mid new p q e f = f ∙ ap (λ l. l ++ q ∷ []) e ∙ append_assoc old (p ∷ []) (q ∷ [])

module _ (s : Store) (program : CoreProgram) (r : Ref) (old new : List Part) where
  module _ (h t : Ref) (p : IsPairOf s r h t) (mid : List Part) (first : mid ≡ old ++ part.Tail t ∷ []) (then : new ≡ mid ++ part.Value h ∷ []) where
    pair_sizes : size_at s r ≡ size_at s h + size_at s t + 1
    pair_sizes = omega (arith, ap size p.is)

    pub takes_list : (some : Bool) (piece : List ℕ) → some ≡ true → piece ≡ codes "[" → TakesPart s program (part.Value r) old new some piece
    takes_list some piece e f =
        take_as s program (part.Value r) old new some true piece (codes "[") e f
        (record {
          more = part.Tail t ∷ part.Value h ∷ [];
          parts = both_put old mid new (part.Tail t) (part.Value h) first then;
          have = both_held s (part.Tail t) (part.Value h) p.tail_in p.head_in;
          is = ap (pieces program) p.is;
          smaller = omega (arith, pair_sizes);
        })

    pub takes_more : (piece : List ℕ) → TakesPart s program (part.Tail r) old new false piece
    takes_more piece = record {
      more = part.Tail t ∷ part.Value h ∷ [];
      parts = both_put old mid new (part.Tail t) (part.Value h) first then;
      have = both_held s (part.Tail t) (part.Value h) p.tail_in p.head_in;
      is = ap (tail_pieces program) p.is;
      smaller = omega (arith, pair_sizes);
    }

  module _ (sound : IsSubstitution s.state.subst) (hold : Holds s r) (v : View) (no_pair : (h t : Ref) → v ≡ view.Pair h t → ⊥) (shows : Shows s (walked_to s r) v) where
    single : IsSingle program (walked_to s r) (value_at s r)
    single = single_at s sound program r v no_pair shows

    pub takes_nil : shows_nil v ≡ true → new ≡ old ++ part.End ∷ [] → (some : Bool) (piece : List ℕ) → some ≡ true → piece ≡ codes "[" → TakesPart s program (part.Value r) old new some piece
    takes_nil nil is some piece e f =
        take_as s program (part.Value r) old new some true piece (codes "[") e f
        (record {
          more = part.End ∷ [];
          parts = is;
          have = All-cons (HoldsPart s) part.End [] tt (All-nil (HoldsPart s));
          is = single.pieces_are ∙ ap (single_pieces program) (nil_shown s (walked_to s r) v nil shows);
          smaller = omega (arith, size_some (value_at s r));
        })

    pub one_piece : shows_nil v ≡ false → pieces program (value_at s r) ≡ first_piece program (walked_to s r) ∷ []
    one_piece other = single.pieces_are ∙ (other_shown s program (walked_to s r) v other shows).single

    pub takes_single : shows_nil v ≡ false → new ≡ old → (some : Bool) (piece : List ℕ) → some ≡ true → ((p : List ℕ) → pieces program (value_at s r) ≡ p ∷ [] → piece ≡ p) → TakesPart s program (part.Value r) old new some piece
    takes_single other same some piece e f =
        take_as s program (part.Value r) old new some true piece (first_piece program (walked_to s r)) e (f (first_piece program (walked_to s r)) (one_piece other))
        (record {
          more = [];
          parts = same ∙ sym (append-nil old);
          have = All-nil (HoldsPart s);
          is = one_piece other;
          smaller = omega (arith, size_some (value_at s r));
        })

    pub takes_end : shows_nil v ≡ true → new ≡ old → (some : Bool) (piece : List ℕ) → some ≡ true → piece ≡ codes "]" → TakesPart s program (part.Tail r) old new some piece
    takes_end nil same some piece e f =
        take_as s program (part.Tail r) old new some true piece (codes "]") e f
        (record {
          more = [];
          parts = same ∙ sym (append-nil old);
          have = All-nil (HoldsPart s);
          is = single.tail_are ∙ ap (end_pieces program) (nil_shown s (walked_to s r) v nil shows);
          smaller = omega arith;
        })

    pub takes_tail : shows_nil v ≡ false → (mid : List Part) → mid ≡ old ++ part.End ∷ [] → new ≡ mid ++ part.Value r ∷ [] → (some : Bool) (piece : List ℕ) → some ≡ true → piece ≡ codes "|" → TakesPart s program (part.Tail r) old new some piece
    takes_tail other mid first then some piece e f =
        take_as s program (part.Tail r) old new some true piece (codes "|") e f
        (record {
          more = part.End ∷ part.Value r ∷ [];
          parts = both_put old mid new part.End (part.Value r) first then;
          have = both_held s part.End (part.Value r) tt hold;
          is = single.tail_are ∙ (other_shown s program (walked_to s r) v other shows).end ∙ ap (λ l. codes "|" ∷ (l ++ codes "]" ∷ [])) (sym (one_piece other));
          smaller = omega arith;
        })

pub takes_bracket : (s : Store) (program : CoreProgram) (old new : List Part) → new ≡ old → (some : Bool) (piece : List ℕ) → some ≡ true → piece ≡ codes "]" → TakesPart s program part.End old new some piece
takes_bracket s program old new same some piece e f =
    take_as s program part.End old new some true piece (codes "]") e f (record { more = []; parts = same ∙ sym (append-nil old); have = All-nil (HoldsPart s); is = refl; smaller = omega arith })

-- what was filled, and with what
pub filled_as : {A E X : Type 0} (r : Result A E) (Q R : A → Type 0) → IfOk r Q → OnOk r X → ((x : A) → Q x → X → R x) → IfOk r R
filled_as (Ok x) Q R q h f = f x q h
filled_as (Err e) Q R q h f = q

-- ## What is left

left_on : (s : Store) (program : CoreProgram) (xs ys : List Part) → parts_left s program (xs ++ ys) ≡ parts_left s program ys ++ parts_left s program xs
left_on s program [] ys = sym (append-nil (parts_left s program ys))
left_on s program (x ∷ xs) ys =
    ap (λ l. l ++ part_pieces s program x) (left_on s program xs ys)
    ∙ append_assoc (parts_left s program ys) (parts_left s program xs) (part_pieces s program x)

sizes_on : (s : Store) (xs ys : List Part) → parts_size s (xs ++ ys) ≡ parts_size s xs + parts_size s ys
sizes_on s [] ys = omega arith
sizes_on s (x ∷ xs) ys = let h = sizes_on s xs ys in omega (arith, h)

events_on : (ps qs : List (List ℕ)) → as_events (ps ++ qs) ≡ as_events ps ++ as_events qs
events_on ps qs = map-append (λ piece. Prints (Piece piece)) ps qs

-- what is left of a value behind what was told of it
pub record Telling {P : Type 0} (v : Watching P) (s : Store) (program : CoreProgram) (root : Ref) (n : Part) (left : List Part) (s0 sp : Spacer) (a b : P) : Type 0 where
  pub next_in : HoldsPart s n
  pub left_in : All (HoldsPart s) left
  pub front : List (List ℕ)
  pub shown : ShowsAll v (as_events front) s0 sp a b
  pub is : pieces program (value_at s root) ≡ front ++ (part_pieces s program n ++ parts_left s program left)

pub telling_starts : {P : Type 0} (v : Watching P) (s : Store) (program : CoreProgram) (root : Ref) (left : List Part) (sp : Spacer) (a : P) → Holds s root → left ≡ [] → Telling v s program root (part.Value root) left sp sp a a
telling_starts v s program root left sp a hold none =
    subst (λ l. Telling v s program root (part.Value root) l sp sp a a) (sym none)
    (record { next_in = hold; left_in = All-nil (HoldsPart s); front = []; shown = shows_nothing v sp a; is = sym (append-nil (pieces program (value_at s root))) })

module _ {P : Type 0} (v : Watching P) (s : Store) (program : CoreProgram) (root : Ref) (n : Part) (left new : List Part) (s0 sp sp' : Spacer) (a b c : P) (some : Bool) (piece : List ℕ) (l : Telling v s program root n left s0 sp a b) (t : TakesPart s program n left new some piece) where
  abbrev front : List (List ℕ)
  front = l.front ++ front_if some piece

  rest_is : pieces program (value_at s root) ≡ front ++ parts_left s program new
  rest_is =
      l.is
      ∙ ap (λ ps. l.front ++ (ps ++ parts_left s program left)) t.is
      ∙ ap (λ ps. l.front ++ ps) (append_assoc (front_if some piece) (parts_left s program t.more) (parts_left s program left))
      ∙ sym (append_assoc l.front (front_if some piece) (parts_left s program t.more ++ parts_left s program left))
      ∙ ap (λ ps. front ++ ps) (sym (left_on s program left t.more) ∙ ap (parts_left s program) (sym t.parts))

  module _ (shown : ShowsAll v (as_events (front_if some piece)) sp sp' b c) where
    shown_front : ShowsAll v (as_events front) s0 sp' a c
    shown_front = subst (λ es. ShowsAll v es s0 sp' a c) (sym (events_on l.front (front_if some piece))) (shows_on v (as_events l.front) (as_events (front_if some piece)) s0 sp sp' a b c l.shown shown)

    pub telling_ends : new ≡ [] → ShowsAll v (as_events (pieces program (value_at s root))) s0 sp' a c
    telling_ends none =
        subst (λ ps. ShowsAll v (as_events ps) s0 sp' a c) (sym (rest_is ∙ ap (λ ps. front ++ parts_left s program ps) none ∙ append-nil front)) shown_front

    pub telling_on : (other : List Part) (m : Part) → new ≡ other ++ m ∷ [] → Telling v s program root m other s0 sp' a c
    telling_on other m is =
        let all : All (HoldsPart s) new = subst (All (HoldsPart s)) (sym t.parts) (All-append (HoldsPart s) left t.more l.left_in t.have) in
        let popped = All-pop (HoldsPart s) new other (Some m) is all in
        record {
          next_in = popped.1;
          left_in = popped.0;
          front = front;
          shown = shown_front;
          is = rest_is ∙ ap (λ ps. front ++ ps) (ap (parts_left s program) is ∙ left_on s program other (m ∷ []));
        }

  pub telling_smaller : (other : List Part) (m : Part) → new ≡ other ++ m ∷ [] → part_size s m + parts_size s other < part_size s n + parts_size s left
  telling_smaller other m is =
      omega (arith, t.smaller, ap (parts_size s) is, sizes_on s other (m ∷ []), ap (parts_size s) t.parts, sizes_on s left t.more)

pub none_left : {A : Type 0} (xs : List A) → length xs ≤ 0 → xs ≡ []
none_left [] h = refl
none_left (x ∷ xs) h = absurd (omega (arith, h))

-- ## Where it breaks off

pub part_breaks : {P : Type 0} (v : Watching P) (s : Store) (program : CoreProgram) (n : Part) (left new : List Part) (piece : List ℕ) (sp sp' : Spacer) (b c : P) (fault : RunFault) → TakesPart s program n left new true piece → BreaksSo v fault (as_events (piece ∷ [])) sp sp' b c → BreaksSo v fault (as_events (part_pieces s program n)) sp sp' b c
part_breaks v s program n left new piece sp sp' b c fault t h =
    subst (λ ps. BreaksSo v fault (as_events ps) sp sp' b c) (sym t.is)
    (shown_first v (as_events (piece ∷ [])) (as_events (parts_left s program t.more)) sp sp' b c fault h)

pub telling_breaks : {P : Type 0} (v : Watching P) (s : Store) (program : CoreProgram) (root : Ref) (n : Part) (left : List Part) (s0 sp sp' : Spacer) (a b c : P) → Telling v s program root n left s0 sp a b → (fault : RunFault) → BreaksSo v fault (as_events (part_pieces s program n)) sp sp' b c → BreaksSo v fault (as_events (pieces program (value_at s root))) s0 sp' a c
telling_breaks v s program root n left s0 sp sp' a b c l fault h =
    let part = part_pieces s program n in
    let rest = parts_left s program left in
    subst (λ es. BreaksSo v fault es s0 sp' a c)
    (sym (ap as_events l.is ∙ events_on l.front (part ++ rest) ∙ ap (λ es. as_events l.front ++ es) (events_on part rest)))
    (shown_later v (as_events l.front) (as_events part ++ as_events rest) s0 sp sp' a b c fault l.shown (shown_first v (as_events part) (as_events rest) sp sp' b c fault h))
