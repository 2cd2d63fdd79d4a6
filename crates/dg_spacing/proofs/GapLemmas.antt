-- What a gap comes to with one thing more, and what is written for it.
use Rattle.std.proofs.Common.{◌≡◌, ℕ, zero, suc, ◌+◌, ◌-◌, ◌<◌, ◌≤◌, length, get_or, List, [], ◌∷◌, ◌++◌, Bool, true, false, Option, Some, None, refl, sym, ap, ◌∙◌, subst, arith, min, replicate}
use Rattle.std.specs.Prelude.{nat_lt, ◌||◌, if◌then◌else◌}
use Rattle.std.specs.List.{list_any}
use Rattle.std.proofs.lemmas.List.{replicate_more, replicate-append-replicate}
use Rattle.dg_base.specs.declared.program.GapKind.TheVariants as gap
use Rattle.dg_base.specs.Written.{SinkView, Wrote, BrokeOff}
use Rattle.dg_base.proofs.WrittenLemmas.{wrote_nothing, wrote_on, broke_first, broke_later}
use Rattle.dg_meaning.specs.World.{Print, Piece, GapOf, SpacesOf}
use Rattle.dg_meaning.specs.Render.{is_line, is_par, is_upper, spaces_from, last_asked, space_for, separator, capital, upper, first_of, last_of, Met, nothing_met, met_from, met_behind, written, growth}
use Rattle.dg_meaning.specs.Transcript.{newline_behind, ending_line}
use Rattle.std.specs.Borrow.{Bor}
use Rattle.dg_spacing.specs.declared.gap.Event.{Event}
use Rattle.dg_spacing.specs.declared.gap.Event.TheVariants as event
use Rattle.dg_spacing.specs.Gaps.{IsGapEvent, print_of, break_by, break_of, IsGap, text_by, gap_text, piece_text}
use Rattle.dg_spacing.specs.Spacer.{StandsFor}
use Rattle.dg_spacing.specs.declared.gap.Break.{Break}
use Rattle.dg_spacing.specs.declared.gap.Break.TheVariants.{Nothing, Line, Par}
use Rattle.dg_spacing.specs.declared.gap.Gap.{Gap}
use Rattle.dg_spacing.specs.declared.spacer.Spacer.{Spacer}

-- ## One thing more

or_nothing : (b : Bool) → (b || false) ≡ b
or_nothing true = refl
or_nothing false = refl

or_assoc : (a b c : Bool) → (a || (b || c)) ≡ ((a || b) || c)
or_assoc true b c = refl
or_assoc false b c = refl

or_true : (b : Bool) → (b || true) ≡ true
or_true true = refl
or_true false = refl

any_on : (p : Print → Bool) (es : List Print) (e : Print) → list_any p (es ++ e ∷ []) ≡ (list_any p es || p e)
any_on p [] e = or_nothing (p e)
any_on p (x ∷ es) e = ap (λ b. p x || b) (any_on p es e) ∙ or_assoc (p x) (list_any p es) (p e)

spaces_on : (n : ℕ) (es : List Print) (e : Print) → spaces_from n (es ++ e ∷ []) ≡ spaces_from (spaces_from n es) (e ∷ [])
spaces_on n [] e = refl
spaces_on n (Piece b ∷ es) e = spaces_on n es e
spaces_on n (SpacesOf k ∷ es) e = spaces_on (min (n + k) 16383) es e
spaces_on n (GapOf gap.NoSpace ∷ es) e = spaces_on n es e
spaces_on n (GapOf gap.Space ∷ es) e = spaces_on n es e
spaces_on n (GapOf gap.Line ∷ es) e = spaces_on 0 es e
spaces_on n (GapOf gap.Par ∷ es) e = spaces_on 0 es e
spaces_on n (GapOf gap.Upper ∷ es) e = spaces_on n es e

asked_on : (a : Option Bool) (es : List Print) (e : Print) → last_asked a (es ++ e ∷ []) ≡ last_asked (last_asked a es) (e ∷ [])
asked_on a [] e = refl
asked_on a (Piece b ∷ es) e = asked_on a es e
asked_on a (SpacesOf k ∷ es) e = asked_on a es e
asked_on a (GapOf gap.NoSpace ∷ es) e = asked_on (Some false) es e
asked_on a (GapOf gap.Space ∷ es) e = asked_on (Some true) es e
asked_on a (GapOf gap.Line ∷ es) e = asked_on a es e
asked_on a (GapOf gap.Par ∷ es) e = asked_on a es e
asked_on a (GapOf gap.Upper ∷ es) e = asked_on a es e

break_on : (es : List Print) (e : Print) → break_of (es ++ e ∷ []) ≡ break_by (list_any is_par es || is_par e) (list_any is_line es || is_line e)
break_on es e = ap (λ a. break_by a (list_any is_line (es ++ e ∷ []))) (any_on is_par es e) ∙ ap (break_by (list_any is_par es || is_par e)) (any_on is_line es e)

-- a gap with one thing more, by what changes
pub gap_on : (g g' : Gap) (es : List Print) (e : Print) → IsGap g es → g'.broken ≡ break_by (list_any is_par es || is_par e) (list_any is_line es || is_line e) → g'.spaces ≡ spaces_from g.spaces (e ∷ []) → g'.asked ≡ last_asked g.asked (e ∷ []) → g'.upper ≡ (g.upper || is_upper e)
    → IsGap g' (es ++ e ∷ [])
gap_on g g' es e h broken spaces asked up = record {
  break_is = broken ∙ sym (break_on es e);
  spaces = spaces ∙ ap (λ n. spaces_from n (e ∷ [])) h.spaces ∙ sym (spaces_on 0 es e);
  asked = asked ∙ ap (λ a. last_asked a (e ∷ [])) h.asked ∙ sym (asked_on None es e);
  upper = up ∙ ap (λ b. b || is_upper e) h.upper ∙ sym (any_on is_upper es e);
}

-- nothing breaks that didn't before
pub unbroken : (g : Gap) (es : List Print) → IsGap g es → g.broken ≡ break_by (list_any is_par es || false) (list_any is_line es || false)
unbroken g es h = h.break_is ∙ ap (λ a. break_by a (list_any is_line es)) (sym (or_nothing (list_any is_par es))) ∙ ap (break_by (list_any is_par es || false)) (sym (or_nothing (list_any is_line es)))

pub as_before : (b : Bool) → b ≡ (b || false)
as_before b = sym (or_nothing b)

pub made_true : (b : Bool) → true ≡ (b || true)
made_true b = sym (or_true b)

-- a line is broken, but for a paragraph
pub line_by : (a b : Bool) → break_by a b ≡ Par → Par ≡ break_by (a || false) (b || true)
line_by true b e = refl
line_by false true e = absurd (cc)
line_by false false e = absurd (cc)

pub line_new : (a b : Bool) → (break_by a b ≡ Par → ⊥) → Line ≡ break_by (a || false) (b || true)
line_new true b h = absurd (h refl)
line_new false true h = refl
line_new false false h = refl

pub par_by : (a b : Bool) → Par ≡ break_by (a || true) (b || false)
par_by true b = refl
par_by false b = refl

-- ## What is written for a gap and a piece

by_break : (a b : Bool) (n : ℕ) (asked : Option Bool) (before after : ℕ) → (if a then 10 ∷ 10 ∷ replicate n 32 else (if b then 10 ∷ replicate n 32 else (if nat_lt 0 n then replicate n 32 else space_for asked before after))) ≡ text_by (break_by a b) n asked before after
by_break true b n asked before after = refl
by_break false true n asked before after = refl
by_break false false n asked before after = refl

pub separator_is : (g : Gap) (es : List Print) (last : Option ℕ) (after : ℕ) → IsGap g es → separator es last after ≡ gap_text g last after
separator_is g es None after h = ap (λ n. replicate n 32) (sym h.spaces)
separator_is g es (Some before) after h =
    by_break (list_any is_par es) (list_any is_line es) (spaces_from 0 es) (last_asked None es) before after
    ∙ ap (λ b. text_by b (spaces_from 0 es) (last_asked None es) before after) (sym h.break_is)
    ∙ ap (λ n. text_by g.broken n (last_asked None es) before after) (sym h.spaces)
    ∙ ap (λ a. text_by g.broken g.spaces a before after) (sym h.asked)

pub capital_is : (g : Gap) (es : List Print) (bytes : List ℕ) → IsGap g es → capital es bytes ≡ piece_text g.upper bytes
capital_is g es [] h = refl
capital_is g es (b ∷ bs) h = ap (λ u. (if u then upper b else b) ∷ bs) (sym h.upper)

-- ## A piece more

met_append : (m : Met) (es : List Print) (e : Print) → met_from m (es ++ e ∷ []) ≡ met_behind (met_from m es) e
met_append m [] e = refl
met_append m (x ∷ es) e = met_append (met_behind m x) es e

-- what a piece adds, by what the spacer keeps
pub growth_is : (s : Spacer) (es : List Print) (bytes : List ℕ) → StandsFor s es → growth es (Piece bytes) ≡ gap_text s.gap s.last (first_of bytes) ++ piece_text s.gap.upper bytes
growth_is s es bytes h =
    let m = met_from nothing_met es in
    ap (λ x. x ++ capital m.gap bytes) (separator_is s.gap m.gap m.last (first_of bytes) h.gap ∙ ap (λ l. gap_text s.gap l (first_of bytes)) (sym h.last)) ∙ ap (λ x. gap_text s.gap s.last (first_of bytes) ++ x) (capital_is s.gap m.gap bytes h.gap)

pub stands_behind : (s s' : Spacer) (es : List Print) (bytes : List ℕ) → s'.last ≡ last_of s.last (piece_text s.gap.upper bytes) → IsGap s'.gap [] → StandsFor s es → StandsFor s' (es ++ Piece bytes ∷ [])
stands_behind s s' es bytes e g h =
    let m = met_from nothing_met es in
    let is = met_append nothing_met es (Piece bytes) in
    record {
      last = e ∙ ap (λ l. last_of l (piece_text s.gap.upper bytes)) h.last ∙ ap (last_of m.last) (sym (capital_is s.gap m.gap bytes h.gap)) ∙ ap (λ (x : Met). x.last) (sym is);
      gap = subst (λ (x : Met). IsGap s'.gap x.gap) (sym is) g;
    }

-- a gap event more
pub stands_on : (s s' : Spacer) (es : List Print) (e : Print) → IsGapEvent e → s'.last ≡ s.last → ((ds : List Print) → IsGap s.gap ds → IsGap s'.gap (ds ++ e ∷ [])) → StandsFor s es → StandsFor s' (es ++ e ∷ [])
stands_on s s' es (Piece bytes) is last g h = absurd is
stands_on s s' es (GapOf k) is last g h =
    let same = met_append nothing_met es (GapOf k) in
    record { last = last ∙ h.last ∙ ap (λ (x : Met). x.last) (sym same); gap = subst (λ (x : Met). IsGap s'.gap x.gap) (sym same) (g (met_from nothing_met es).gap h.gap) }
stands_on s s' es (SpacesOf n) is last g h =
    let same = met_append nothing_met es (SpacesOf n) in
    record { last = last ∙ h.last ∙ ap (λ (x : Met). x.last) (sym same); gap = subst (λ (x : Met). IsGap s'.gap x.gap) (sym same) (g (met_from nothing_met es).gap h.gap) }

pub nothing_grows : (es : List Print) (e : Print) → IsGapEvent e → growth es e ≡ []
nothing_grows es (Piece bytes) is = absurd is
nothing_grows es (GapOf k) is = refl
nothing_grows es (SpacesOf n) is = refl

pub nothing_written : (es : List Print) (e : Print) (v : SinkView) → IsGapEvent e → Wrote v v (growth es e)
nothing_written es e v is = subst (Wrote v v) (sym (nothing_grows es e is)) (wrote_nothing v)

-- ## Texts in parts

all_is : (s : Spacer) (front : List ℕ) (n : ℕ) (bytes : List ℕ) (es : List Print) → front ++ replicate n 32 ≡ gap_text s.gap s.last (first_of bytes) → StandsFor s es → (front ++ replicate n 32) ++ piece_text s.gap.upper bytes ≡ growth es (Piece bytes)
all_is s front n bytes es e h = ap (λ x. x ++ piece_text s.gap.upper bytes) e ∙ sym (growth_is s es bytes h)

pub piece_written : (s : Spacer) (a b c d : SinkView) (front : List ℕ) (n : ℕ) (bytes : List ℕ) → front ++ replicate n 32 ≡ gap_text s.gap s.last (first_of bytes) → Wrote a b front → Wrote b c (replicate n 32) → Wrote c d (piece_text s.gap.upper bytes)
    → (es : List Print) → StandsFor s es → Wrote a d (growth es (Piece bytes))
piece_written s a b c d front n bytes e w₁ w₂ w₃ es h =
    subst (Wrote a d) (all_is s front n bytes es e h) (wrote_on a c d (front ++ replicate n 32) (piece_text s.gap.upper bytes) (wrote_on a b c front (replicate n 32) w₁ w₂) w₃)

pub front_broke : (s : Spacer) (a b : SinkView) (front : List ℕ) (n : ℕ) (bytes : List ℕ) → front ++ replicate n 32 ≡ gap_text s.gap s.last (first_of bytes) → BrokeOff a b front → (es : List Print) → StandsFor s es → BrokeOff a b (growth es (Piece bytes))
front_broke s a b front n bytes e w es h = subst (BrokeOff a b) (all_is s front n bytes es e h) (broke_first a b (front ++ replicate n 32) (piece_text s.gap.upper bytes) (broke_first a b front (replicate n 32) w))

pub spaces_broke : (s : Spacer) (a b c : SinkView) (front : List ℕ) (n : ℕ) (bytes : List ℕ) → front ++ replicate n 32 ≡ gap_text s.gap s.last (first_of bytes) → Wrote a b front → BrokeOff b c (replicate n 32) → (es : List Print) → StandsFor s es → BrokeOff a c (growth es (Piece bytes))
spaces_broke s a b c front n bytes e w₁ w₂ es h = subst (BrokeOff a c) (all_is s front n bytes es e h) (broke_first a c (front ++ replicate n 32) (piece_text s.gap.upper bytes) (broke_later a b c front (replicate n 32) w₁ w₂))

pub text_broke : (s : Spacer) (a b c d : SinkView) (front : List ℕ) (n : ℕ) (bytes : List ℕ) → front ++ replicate n 32 ≡ gap_text s.gap s.last (first_of bytes) → Wrote a b front → Wrote b c (replicate n 32) → BrokeOff c d (piece_text s.gap.upper bytes)
    → (es : List Print) → StandsFor s es → BrokeOff a d (growth es (Piece bytes))
text_broke s a b c d front n bytes e w₁ w₂ w₃ es h =
    subst (BrokeOff a d) (all_is s front n bytes es e h) (broke_later a c d (front ++ replicate n 32) (piece_text s.gap.upper bytes) (wrote_on a b c front (replicate n 32) w₁ w₂) w₃)

-- ## The name of an object

-- its first character is no letter
pub same_mark : (up : Bool) (name : List ℕ) → piece_text up (35 ∷ name) ≡ 35 ∷ name
same_mark true name = refl
same_mark false name = refl

plain_text : (bytes : List ℕ) → piece_text false bytes ≡ bytes
plain_text [] = refl
plain_text (b ∷ bs) = refl

pub object_last : (before last : Option ℕ) (up : Bool) (name : List ℕ) → last ≡ last_of (Some 35) (piece_text false name) → last ≡ last_of before (piece_text up (35 ∷ name))
object_last before last up name e = e ∙ ap (last_of (Some 35)) (plain_text name) ∙ sym (ap (last_of before) (same_mark up name))

-- ## Spaces one by one

pub one_more : (a b c : SinkView) (n : ℕ) → Wrote a b (replicate n 32) → Wrote b c (32 ∷ []) → Wrote a c (replicate (n + 1) 32)
one_more a b c n h k = subst (Wrote a c) (replicate_more n 32) (wrote_on a b c (replicate n 32) (32 ∷ []) h k)

pub one_broke : (a b c : SinkView) (n count : ℕ) → n < count → Wrote a b (replicate n 32) → BrokeOff b c (32 ∷ []) → BrokeOff a c (replicate count 32)
one_broke a b c n count lt h k =
    let more = count - (n + 1) in
    let whole : n + 1 + more ≡ count = omega arith in
    let is : (replicate n 32 ++ 32 ∷ []) ++ replicate more 32 ≡ replicate count 32 = ap (λ x. x ++ replicate more 32) (replicate_more n 32) ∙ replicate-append-replicate (n + 1) more 32 ∙ ap (λ k. replicate k 32) whole in
    subst (BrokeOff a c) is (broke_first a c (replicate n 32 ++ 32 ∷ []) (replicate more 32) (broke_later a b c (replicate n 32) (32 ∷ []) h k))

-- ## The last character

last_at : (before : Option ℕ) (b : ℕ) (bs : List ℕ) (n : ℕ) → n ≡ length bs → Some (get_or (b ∷ bs) n 0) ≡ last_of before (b ∷ bs)
last_at before b [] zero e = refl
last_at before b [] (suc n) e = absurd (omega arith)
last_at before b (c ∷ cs) zero e = absurd (omega arith)
last_at before b (c ∷ cs) (suc n) e = last_at (Some b) c cs n (omega arith)

pub last_long : (before : Option ℕ) (up : Bool) (bytes : List ℕ) → 2 ≤ length bytes → Some (get_or bytes (length bytes - 1) 0) ≡ last_of before (piece_text up bytes)
last_long before up [] h = absurd (omega arith)
last_long before up (b ∷ []) h = absurd (omega arith)
last_long before up (b ∷ c ∷ cs) h =
    let n : length (b ∷ c ∷ cs) - 1 ≡ suc (length cs) = omega arith in
    ap (λ k. Some (get_or (b ∷ c ∷ cs) k 0)) n ∙ last_at (Some (if up then upper b else b)) c cs (length cs) refl

-- ## The closing

pub closing_is : (s : Spacer) (es : List Print) (line : List ℕ) → StandsFor s es → newline_behind s.last ++ line ≡ ending_line es line
closing_is s es line h = ap (λ l. newline_behind l ++ line) h.last

-- ## Events

pub no_piece : (e : Event) → ((bytes : Bor (List ℕ)) → e ≡ event.Piece bytes → ⊥) → IsGapEvent (print_of e)
no_piece (event.Piece bytes) h = absurd (h bytes refl)
no_piece event.NoSpace h = tt
no_piece event.Space h = tt
no_piece (event.Spaces n) h = tt
no_piece event.Line h = tt
no_piece event.Par h = tt
no_piece event.Upper h = tt
