-- Lines that are read one after another, from the first on.
use Rattle.std.proofs.Common.{◌≡◌, ℕ, ◌+◌, ◌-◌, ◌*◌, ◌<◌, ◌≤◌, List, [], ◌∷◌, ◌++◌, length, Option, Some, None, refl, sym, ap, subst, ◌∙◌, arith}
use Rattle.std.specs.Prelude.{◌↔◌, ◌==◌, Bool, true, false, IsTrue}
use Rattle.std.proofs.lemmas.List.{append-nil, length-append}
use Rattle.std.proofs.lemmas.List.Elements.{All-nil}
use Rattle.z_list.specs.declared.place.Place.{Place}
use Rattle.z_list.specs.declared.place.Place.TheVariants as places
use Rattle.z_list.specs.Listing.{Line, Data, Rule, Locals, Does, End}
use Rattle.z_list.specs.Texts.{line_text, texts, story_line, listed}
use Rattle.z_list.specs.Reads.{IsMark, IsListing, first_lines, Begin, IsBadAt}
use Rattle.z_list.specs.inside.Lines.{Where, Outside, Named, Inside, Behind, Goes, Comes, IsOutside}
use Rattle.z_list.specs.inside.Held.{bytes_of, AreFit}
use Rattle.z_list.specs.inside.Read.{first_clamped, Stands}
use Rattle.z_list.specs.inside.Turned.{where_of, HasRoom, slack, IsTurn, NoTurn, NoFirst, Reads}
use Rattle.z_list.proofs.Instructions.{small_nil, asked}
use Rattle.z_list.proofs.Held.{bytes_append}
use Rattle.z_list.proofs.OneLine.{no_line}
use Rattle.z_list.proofs.OneStory.{lined}
use Rattle.z_list.proofs.Clear.{story_is_line, first_one, lines_same_text}
use Rattle.z_list.proofs.Bad.{stuck_is_bad, whole_is_listing}
use Rattle.z_list.proofs.More.{comes_many, fit_many, texts_many}

-- ---- no first line

empty_listing : IsListing (listed [] []) []
empty_listing = record { marks = []; fit = omega arith; small = All-nil IsMark; short = omega arith; bytes = small_nil; is = refl }

pub bad_first : (text : List ℕ) → NoFirst text → IsBadAt text 1
bad_first text none = record {
  some = omega arith;
  before = record { behind = listed [] []; story = []; is = empty_listing };
  bad = by_line (first_lines 1 text) refl;
  none = λ story h. none (length story) (texts (lined text story h).all) h.short (lined text story h).is;
}
  where
    by_line : (o : Option (List ℕ)) → first_lines 1 text ≡ o → Begin o → ⊥
    by_line None e b = b
    by_line (Some front) e b =
        let l = lined (front ++ b.behind) b.story b.is in
        let h = first_one text front e in
        let same : front ≡ story_line (length b.story) = lines_same_text front (story_line (length b.story)) b.behind (texts l.all) h.is_line (story_is_line (length b.story) l.short) l.is in
        none (length b.story) h.rest l.short (h.is ∙ ap (λ (t : List ℕ). t ++ h.rest) same)

-- ---- the lines behind it

some_text : (l : Line) → 0 < length (line_text l)
some_text l = by_text (line_text l) refl
  where
    by_text : (t : List ℕ) → line_text l ≡ t → 0 < length t
    by_text [] none = absurd (no_line l [] (sym (append-nil (line_text l) ∙ none)))
    by_text (x ∷ xs) some = omega arith

pub turn_shorter : (w : Where) (old text : List ℕ) (count line : ℕ) (next : Place) (new rest : List ℕ) (line' : ℕ) → IsTurn w old text count line next new rest line' → length rest < length text
turn_shorter w old text count line next new rest line' t = by_lines t.lines t.some t.is
  where
    by_lines : (ls : List Line) → 0 < length ls → text ≡ texts ls ++ rest → length rest < length text
    by_lines [] some is = absurd (omega (arith, some))
    by_lines (l ∷ ls) some is = omega (arith, ap length is, length-append (texts (l ∷ ls)) rest, length-append (line_text l) (texts ls), some_text l)

-- a line adds one, and three for each of its bytes may have been
few_more : (w : Where) (at left : ℕ) (l : Line) (v : Where) (a' n' k : ℕ) → Goes first_clamped w at left l v a' n' → k ≤ 3 * at + slack w → k + 1 ≤ 3 * a' + slack v
few_more (Outside full) at left (Data a bs) v a' n' k g few = omega (arith, few, g.1.some, g.1.next, ap slack g.2)
few_more (Outside full) at left (Rule a p q) v a' n' k g few = omega (arith, few, g.0.1, ap slack g.2)
few_more (Outside full) at left (Locals a b) v a' n' k g few = absurd g
few_more (Outside full) at left (Does a bs) v a' n' k g few = absurd g
few_more (Outside full) at left (End a) v a' n' k g few = absurd g
few_more Named at left (Data a bs) v a' n' k g few = absurd g
few_more Named at left (Rule a p q) v a' n' k g few = absurd g
few_more Named at left (Locals a b) v a' n' k g few = omega (arith, few, g.1, ap slack g.3)
few_more Named at left (Does a bs) v a' n' k g few = absurd g
few_more Named at left (End a) v a' n' k g few = absurd g
few_more Inside at left (Data a bs) v a' n' k g few = omega (arith, few, g.0.some, g.0.next, ap slack g.2)
few_more Inside at left (Rule a p q) v a' n' k g few = absurd g
few_more Inside at left (Locals a b) v a' n' k g few = absurd g
few_more Inside at left (Does a bs) v a' n' k g few = omega (arith, few, g.1, (asked.some bs (length bs) g.3).0, ap slack g.4)
few_more Inside at left (End a) v a' n' k g few = omega (arith, few, g.0.1, ap slack g.1)
few_more (Behind full since) at left (Data a bs) v a' n' k g few = omega (arith, few, g.1.some, g.1.next, ap slack g.3)
few_more (Behind full since) at left (Rule a p q) v a' n' k g few = absurd g
few_more (Behind full since) at left (Locals a b) v a' n' k g few = absurd g
few_more (Behind full since) at left (Does a bs) v a' n' k g few = absurd g
few_more (Behind full since) at left (End a) v a' n' k g few = omega (arith, few, g.0.1, ap slack g.1)

few_many : (w : Where) (at left : ℕ) (ls : List Line) (v : Where) (a' n' k : ℕ) → Comes first_clamped w at left ls v a' n' → k ≤ 3 * at + slack w → k + length ls ≤ 3 * a' + slack v
few_many w at left [] v a' n' k c few = omega (arith, few, c.1, ap slack c.0)
few_many w at left (l ∷ ls) v a' n' k (u, i, j, g, c) few = omega (arith, few_many u i j ls v a' n' (k + 1) c (few_more w at left l u i j k g few))

stands_many : (count : ℕ) (text : List ℕ) (ls : List Line) (w : Where) (at left : ℕ) (rest : List ℕ) (ks : List Line) (v : Where) (a n : ℕ) (behind : List ℕ) → Stands count text ls w at left rest →
    Comes first_clamped w at left ks v a n → AreFit ks → rest ≡ texts ks ++ behind → Stands count text (ls ++ ks) v a n behind
stands_many count text ls w at left rest ks v a n behind s c f is = record {
  few = s.few;
  comes = comes_many (Outside true) 0 count ls w at left ks v a n s.comes c;
  fit = fit_many ls ks s.fit f;
  is = s.is ∙ ap (λ (x : List ℕ). story_line count ++ x) (texts_many ls ks (texts ls ++ rest) rest behind refl is);
}

module _ (count : ℕ) (text : List ℕ) (place : Place) (story rest : List ℕ) (line : ℕ) (r : Reads count text place story rest line) where
  pub reads_more : (next : Place) (new behind : List ℕ) (line' : ℕ) → IsTurn (where_of place) story rest count line next new behind line' → Reads count text next new behind line'
  reads_more next new behind line' t = record {
    lines = r.lines ++ t.lines;
    stands = stands_many count text r.lines (where_of place) (length story) (count - length story) rest t.lines (where_of next) (length new) (count - length new) behind r.stands t.comes t.fit t.is;
    bytes = bytes_append r.lines t.lines ∙ (ap (λ (b : List ℕ). b ++ bytes_of t.lines) r.bytes ∙ sym t.bytes);
    room = t.room;
    line_is = omega (arith, r.line_is, t.many, length-append r.lines t.lines);
    few = omega (arith, length-append r.lines t.lines, few_many (where_of place) (length story) (count - length story) t.lines (where_of next) (length new) (count - length new) (length r.lines) t.comes r.few);
  }

  pub reads_bad : (line' : ℕ) → 0 < length rest → NoTurn (where_of place) (length story) (count - length story) rest line line' → IsBadAt text line'
  reads_bad line' some t =
      let number : length (r.lines ++ t.lines) + 2 ≡ line' = omega (arith, r.line_is, t.many, length-append r.lines t.lines) in
      subst (IsBadAt text) number (stuck_is_bad count text (r.lines ++ t.lines) t.state t.place t.bytes_left t.rest
      (stands_many count text r.lines (where_of place) (length story) (count - length story) rest t.lines t.state t.place t.bytes_left t.rest r.stands t.comes t.fit t.is) t.stuck
      (λ none out _. omega (arith, some, ap length none, ap length (t.outside out).1)))

  module _ (none : rest ≡ []) (whole : Bool) (n : ℕ) (all : n ≡ length story) (ends : IsTrue whole ↔ (IsOutside first_clamped (where_of place) × (n ≡ count))) where
    pub reads_short : whole ≡ false → IsBadAt text line
    reads_short not_so =
        let number : length r.lines + 2 ≡ line = sym r.line_is in
        subst (IsBadAt text) number (stuck_is_bad count text r.lines (where_of place) (length story) (count - length story) rest r.stands
        (λ l next behind e. no_line l behind (sym none ∙ e)) (λ _ out left. differ whole (ends.1 (out, omega (arith, left, all, within_count place r.room))) not_so))
      where
        within_count : (p : Place) → HasRoom p (length story) count → length story ≤ count
        within_count (places.Outside full) h = h
        within_count places.Named h = omega (arith, h)
        within_count places.Inside h = h

        differ : (b : Bool) → b ≡ true → b ≡ false → ⊥
        differ b p q = cc

    pub reads_whole : whole ≡ true → IsListing text story
    reads_whole so =
        let e = ends.0 so in
        let left : count - length story ≡ 0 = omega (arith, e.1, all) in
        subst (IsListing text) r.bytes (whole_is_listing count text r.lines (where_of place) (length story)
        (subst (λ (x : List ℕ). Stands count text r.lines (where_of place) (length story) 0 x) none
        (subst (λ (n : ℕ). Stands count text r.lines (where_of place) (length story) n rest) left r.stands)) e.0)

-- whether text is left, by a test
pub none_left : (rest : List ℕ) (b : Bool) → b ≡ (length rest == 0) → b ≡ true → rest ≡ []
none_left rest b is e = let test : (length rest == 0) ≡ true = sym is ∙ e in no_items rest (grind (arith, test))
  where
    no_items : (l : List ℕ) → length l ≡ 0 → l ≡ []
    no_items [] h = refl
    no_items (x ∷ l) h = absurd (omega (arith, h))

pub some_left : (rest : List ℕ) (b : Bool) → b ≡ (length rest == 0) → b ≡ false → 0 < length rest
some_left rest b is e = let test : (length rest == 0) ≡ false = sym is ∙ e in grind (arith, test)
