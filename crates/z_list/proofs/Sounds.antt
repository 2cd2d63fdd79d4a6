-- What is read is listed: line by line.
use Rattle.std.proofs.Common.{◌≡◌, ℕ, zero, suc, ◌+◌, ◌-◌, ◌<◌, ◌≤◌, List, [], ◌∷◌, ◌++◌, length, take, drop, Option, Some, None, refl, sym, ap, subst, ◌∙◌, arith, append_assoc}
use Rattle.std.specs.Prelude.{Bool, true, false}
use Rattle.std.proofs.lemmas.List.{append-nil, length-append, take_at, drop_at}
use Rattle.z_list.specs.Listing.{Line, Data, Rule, Locals, Does, End, AreMarks, rows, by_first, instructions, marked, lines}
use Rattle.z_list.specs.declared.mark.Mark.{Mark}
use Rattle.z_list.specs.inside.Lines.{Where, Outside, Named, Inside, Behind, is_full, IsRow, Accepts, AreInstructions}
use Rattle.z_list.proofs.Rows.{full_row, short_row}
use Rattle.z_list.proofs.Sound.{AreMarksFrom, last_one, is_row, is_short, bool, full_front, short_front, Stretch, Mine, Left, Begun, Claim, Fine}

marks_back : (a b e e' : ℕ) (ms : List Mark) → b ≤ a → e ≡ e' → AreMarks a e ms → AreMarks b e' ms
marks_back a b e e' [] h k are = omega (arith, h, k, are)
marks_back a b e e' (m ∷ ms) h k are = (omega (arith, h, are.0), are.1, subst (λ n. AreMarks m.to n ms) k are.2)

from_are : (a e : ℕ) (ms : List Mark) → AreMarks a e ms → AreMarksFrom a ms
from_are a e [] h = tt
from_are a e (m ∷ ms) h = (h.0, h.1)

pub row_first : (at : ℕ) (bs bytes : List ℕ) → 0 < length bs → length bs ≤ 16 → (is_full bs ≡ false → bytes ≡ []) → rows at [] (bs ++ bytes) ≡ Data at bs ∷ rows (at + length bs) [] bytes
row_first at bs bytes some few empty = bool (is_full bs) _
    (λ e. full_row at [] bs bytes (omega (arith, is_row bs few e)) some ∙ ap (λ k. Data at bs ∷ rows (at + k) [] bytes) (sym (is_row bs few e)))
    (λ e. ap (λ l. rows at [] (bs ++ l)) (empty e) ∙ (ap (rows at []) (append-nil bs) ∙ (short_row at [] bs (omega (arith, is_short bs e)) ∙ (last_one at bs some
    ∙ ap (λ l. Data at bs ∷ rows (at + length bs) [] l) (sym (empty e))))))

module _ (first : List ℕ → Option ℕ) (asked : AreInstructions first) where
  out_row : (full : Bool) (at left a : ℕ) (bs : List ℕ) (ls : List Line) (at' left' : ℕ) → full ≡ true → IsRow at left a bs at' left' →
      Stretch first asked (is_full bs) (at + length bs) left' ls → Stretch first asked full at left (Data a bs ∷ ls)
  out_row full at left a bs ls at' left' so r c = record {
    bytes = bs ++ c.bytes;
    marks = c.marks;
    count = length-append bs c.bytes ∙ (ap (λ n. length bs + n) c.count ∙ r.rest);
    are = marks_back (at + length bs) at ((at + length bs) + left') (at + left) c.marks (omega arith) (omega (arith, r.rest)) c.are;
    is = ap (λ k. Data k bs ∷ ls) r.here ∙ (ap (λ l. Data at bs ∷ l) c.is ∙ bool (is_full bs) _
        (λ e. ap (λ k. Data at bs ∷ lines first (at + k) c.bytes c.marks) (is_row bs r.few e) ∙ full_front first asked at ((at + length bs) + left') bs c.bytes c.marks (is_row bs r.few e)
        (subst (λ k. AreMarks (at + k) ((at + length bs) + left') c.marks) (is_row bs r.few e) c.are))
        (λ e. short_front first asked at bs c.bytes c.marks (is_short bs e) r.some (c.empty e) (from_are (at + length bs) ((at + length bs) + left') c.marks c.are)));
    empty = λ not_so. absurd (differ full so not_so);
  }
    where
      differ : (b : Bool) → b ≡ true → b ≡ false → ⊥
      differ true so not_so = cc
      differ false so not_so = cc

  with_mark : (at b p r : ℕ) (bs more : List ℕ) (ms : List Mark) →
      lines first at (b ∷ (bs ++ more)) (record { from = at; to = at + 1 + length bs; pred = p; rule = r } ∷ ms)
      ≡ Rule at p r ∷ Locals at b ∷ (instructions first (length bs) (at + 1) bs ++ lines first (at + 1 + length bs) more ms)
  with_mark at b p r bs more ms =
      ap (λ k. rows at [] (take k B) ++ (marked first m (take (m.to - at) (drop k B)) ++ lines first m.to (drop (m.to - at) B) ms)) none
      ∙ (ap (λ k. marked first m (take k B) ++ lines first m.to (drop k B) ms) one_more
      ∙ (ap (λ T. Rule at p r ∷ Locals at b ∷ (instructions first (length T) (at + 1) T ++ lines first m.to (drop (length bs) (bs ++ more)) ms)) (take_at bs more (length bs) refl)
      ∙ ap (λ l. Rule at p r ∷ Locals at b ∷ (instructions first (length bs) (at + 1) bs ++ lines first m.to l ms)) (drop_at bs more (length bs) refl)))
    where
      B : List ℕ
      B = b ∷ (bs ++ more)

      m : Mark
      m = record { from = at; to = at + 1 + length bs; pred = p; rule = r }

      none : at - at ≡ zero
      none = omega arith

      one_more : at + 1 + length bs - at ≡ suc (length bs)
      one_more = omega arith

  begins : (full : Bool) (at left a p r : ℕ) (ls : List Line) → a ≡ at → Begun first asked at left ls → Stretch first asked full at left (Rule a p r ∷ ls)
  begins full at left a p r ls here c = record {
    bytes = c.byte ∷ (c.bytes ++ c.more);
    marks = record { from = at; to = at + 1 + length c.bytes; pred = p; rule = r } ∷ c.marks;
    count = omega (arith, length-append c.bytes c.more, c.count);
    are = (omega arith, omega arith, c.are);
    is = ap (λ k. Rule k p r ∷ ls) here ∙ (ap (λ l. Rule at p r ∷ l) c.is ∙ sym (with_mark at c.byte p r c.bytes c.more c.marks));
    empty = λ not_so. refl;
  }

  enters : (at left a b left' : ℕ) (ls : List Line) → a ≡ at → 1 + left' ≡ left → Mine first asked (at + 1) left' ls → Begun first asked at left (Locals a b ∷ ls)
  enters at left a b left' ls here rest c = record {
    byte = b;
    bytes = c.bytes;
    more = c.more;
    marks = c.marks;
    count = omega (arith, rest, c.count);
    are = marks_back (at + 1 + length c.bytes) (at + 1 + length c.bytes) ((at + 1) + left') (at + left) c.marks (omega arith) (omega (arith, rest)) c.are;
    is = ap (λ k. Locals k b ∷ ls) here ∙ ap (λ l. Locals at b ∷ l) (c.is (length c.bytes) (omega arith));
  }

  does : (at left a left' : ℕ) (bs : List ℕ) (ls : List Line) → a ≡ at → length bs + left' ≡ left → first bs ≡ Some (length bs) → Mine first asked (at + length bs) left' ls →
      Mine first asked at left (Does a bs ∷ ls)
  does at left a left' bs ls here rest one c = record {
    bytes = bs ++ c.bytes;
    more = c.more;
    marks = c.marks;
    count = omega (arith, length-append bs c.bytes, c.count, rest);
    are = marks_back ((at + length bs) + length c.bytes) (at + length (bs ++ c.bytes)) ((at + length bs) + left') (at + left) c.marks (omega (arith, length-append bs c.bytes)) (omega (arith, rest)) c.are;
    is = is;
  }
    where
      behind : (at + length bs) + length c.bytes ≡ at + length (bs ++ c.bytes)
      behind = omega (arith, length-append bs c.bytes)

      is : (n : ℕ) → length (bs ++ c.bytes) ≤ n → Does a bs ∷ ls ≡ instructions first n at (bs ++ c.bytes) ++ lines first (at + length (bs ++ c.bytes)) c.more c.marks
      is zero le = absurd (omega (arith, le, length-append bs c.bytes, (asked.some bs (length bs) one).0))
      is (suc n) le =
          ap (λ k. Does k bs ∷ ls) here
          ∙ (ap (λ l. Does at bs ∷ l) (c.is n (omega (arith, le, length-append bs c.bytes, (asked.some bs (length bs) one).0)))
          ∙ (ap (λ k. Does at bs ∷ (instructions first n (at + length bs) c.bytes ++ lines first k c.more c.marks)) behind
          ∙ ap (λ l. l ++ lines first (at + length (bs ++ c.bytes)) c.more c.marks) (sym made)))
        where
          made : instructions first (suc n) at (bs ++ c.bytes) ≡ Does at bs ∷ instructions first n (at + length bs) c.bytes
          made = ap (λ o. by_first at (bs ++ c.bytes) o (λ k. instructions first n (at + k) (drop k (bs ++ c.bytes)))) (asked.alone bs c.bytes one)
              ∙ (ap (λ l. Does at l ∷ instructions first n (at + length bs) (drop (length bs) (bs ++ c.bytes))) (take_at bs c.bytes (length bs) refl)
              ∙ ap (λ l. Does at bs ∷ instructions first n (at + length bs) l) (drop_at bs c.bytes (length bs) refl))

  -- rows in a mark
  behind_row : (at left a at' left' : ℕ) (full : Bool) (since bs : List ℕ) (ls : List Line) → full ≡ true → IsRow at left a bs at' left' →
      Left first asked (is_full bs) (since ++ bs) (at + length bs) left' ls → Left first asked full since at left (Data a bs ∷ ls)
  behind_row at left a at' left' full since bs ls so r c = record {
    bytes = bs ++ c.bytes;
    more = c.more;
    marks = c.marks;
    count = omega (arith, length-append bs c.bytes, c.count, r.rest);
    are = marks_back ((at + length bs) + length c.bytes) (at + length (bs ++ c.bytes)) ((at + length bs) + left') (at + left) c.marks (omega (arith, length-append bs c.bytes)) (omega (arith, r.rest)) c.are;
    none = ap first (sym (append_assoc since bs c.bytes)) ∙ c.none;
    is = ap (λ k. Data k bs ∷ ls) r.here ∙ (ap (λ l. Data at bs ∷ l) c.is
        ∙ (ap (λ k. Data at bs ∷ (rows (at + length bs) [] c.bytes ++ (End k ∷ lines first k c.more c.marks))) behind
        ∙ ap (λ l. l ++ (End (at + length (bs ++ c.bytes)) ∷ lines first (at + length (bs ++ c.bytes)) c.more c.marks)) (sym (row_first at bs c.bytes r.some r.few c.empty))));
    empty = λ not_so. absurd (differ full so not_so);
  }
    where
      behind : (at + length bs) + length c.bytes ≡ at + length (bs ++ c.bytes)
      behind = omega (arith, length-append bs c.bytes)

      differ : (b : Bool) → b ≡ true → b ≡ false → ⊥
      differ true so not_so = cc
      differ false so not_so = cc

  -- what is left of a mark that begins with not_so instruction
  none_more : (at left : ℕ) (ls : List Line) → Left first asked true [] at left ls → Mine first asked at left ls
  none_more at left ls c = record { bytes = c.bytes; more = c.more; marks = c.marks; count = c.count; are = c.are; is = is }
    where
      L : List Line
      L = lines first (at + length c.bytes) c.more c.marks

      is : (n : ℕ) → length c.bytes ≤ n → ls ≡ instructions first n at c.bytes ++ L
      is zero le = c.is ∙ ap (λ (l : List ℕ). rows at [] l ++ (End (at + length c.bytes) ∷ L)) (nil c.bytes le) ∙ ap (λ k. End k ∷ L) (omega (arith, le))
        where
          nil : (l : List ℕ) → length l ≤ 0 → l ≡ []
          nil [] h = refl
          nil (x ∷ l) h = absurd (omega (arith, h))
      is (suc n) le = c.is ∙ (sym (append_assoc (rows at [] c.bytes) (End (at + length c.bytes) ∷ []) L)
          ∙ ap (λ o. by_first at c.bytes o (λ k. instructions first n (at + k) (drop k c.bytes)) ++ L) (sym c.none))

  ends : (at left a : ℕ) (full : Bool) (since : List ℕ) (ls : List Line) → a ≡ at → first since ≡ None → Stretch first asked true at left ls → Left first asked full since at left (End a ∷ ls)
  ends at left a full since ls here none c = record {
    bytes = [];
    more = c.bytes;
    marks = c.marks;
    count = omega (arith, c.count);
    are = marks_back at (at + length {A = ℕ} []) (at + left) (at + left) c.marks (omega arith) refl c.are;
    none = ap first (append-nil since) ∙ none;
    is = ap (λ k. End k ∷ ls) here ∙ (ap (λ l. End at ∷ l) c.is ∙ ap (λ k. End k ∷ lines first k c.bytes c.marks) (omega arith));
    empty = λ not_so. refl;
  }

  pub sound : (w : Where) (at left : ℕ) (ls : List Line) → Fine first asked w → Accepts first w at left ls → Claim first asked w at left ls
  sound (Outside full) at left [] fine a = record { bytes = []; marks = []; count = sym a.1; are = omega arith; is = refl; empty = λ not_so. refl }
  sound (Outside full) at left (Data p bs ∷ ls) fine (w, at', left', g, a) =
      out_row full at left p bs ls at' left' g.0 g.1 (subst (λ k. Stretch first asked (is_full bs) k left' ls) g.1.next
      (sound (Outside (is_full bs)) at' left' ls tt (subst (λ v. Accepts first v at' left' ls) g.2 a)))
  sound (Outside full) at left (Rule p q r ∷ ls) fine (w, at', left', g, a) =
      begins full at left p q r ls g.0.0 (subst (λ k. Begun first asked k left ls) g.0.1 (subst (λ n. Begun first asked at' n ls) g.0.2
      (sound Named at' left' ls tt (subst (λ v. Accepts first v at' left' ls) g.2 a))))
  sound (Outside full) at left (Locals p b ∷ ls) fine (w, at', left', g, a) = absurd g
  sound (Outside full) at left (Does p bs ∷ ls) fine (w, at', left', g, a) = absurd g
  sound (Outside full) at left (End p ∷ ls) fine (w, at', left', g, a) = absurd g
  sound Named at left [] fine a = absurd a.0
  sound Named at left (Locals p b ∷ ls) fine (w, at', left', g, a) =
      enters at left p b left' ls g.0 g.2 (subst (λ k. Mine first asked k left' ls) g.1 (sound Inside at' left' ls tt (subst (λ v. Accepts first v at' left' ls) g.3 a)))
  sound Named at left (Data p bs ∷ ls) fine (w, at', left', g, a) = absurd g
  sound Named at left (Rule p q r ∷ ls) fine (w, at', left', g, a) = absurd g
  sound Named at left (Does p bs ∷ ls) fine (w, at', left', g, a) = absurd g
  sound Named at left (End p ∷ ls) fine (w, at', left', g, a) = absurd g
  sound Inside at left [] fine a = absurd a.0
  sound Inside at left (Does p bs ∷ ls) fine (w, at', left', g, a) =
      does at left p left' bs ls g.0 g.2 g.3 (subst (λ k. Mine first asked k left' ls) g.1 (sound Inside at' left' ls tt (subst (λ v. Accepts first v at' left' ls) g.4 a)))
  sound Inside at left (Data p bs ∷ ls) fine (w, at', left', g, a) =
      none_more at left (Data p bs ∷ ls) (behind_row at left p at' left' true [] bs ls refl g.0 (subst (λ k. Left first asked (is_full bs) bs k left' ls) g.0.next
      (sound (Behind (is_full bs) bs) at' left' ls g.1 (subst (λ v. Accepts first v at' left' ls) g.2 a))))
  sound Inside at left (End p ∷ ls) fine (w, at', left', g, a) =
      none_more at left (End p ∷ ls) (ends at left p true [] ls g.0.0 asked.empty (subst (λ k. Stretch first asked true k left ls) g.0.1 (subst (λ n. Stretch first asked true at' n ls) g.0.2
      (sound (Outside true) at' left' ls tt (subst (λ v. Accepts first v at' left' ls) g.1 a)))))
  sound Inside at left (Rule p q r ∷ ls) fine (w, at', left', g, a) = absurd g
  sound Inside at left (Locals p b ∷ ls) fine (w, at', left', g, a) = absurd g
  sound (Behind full since) at left [] fine a = absurd a.0
  sound (Behind full since) at left (Data p bs ∷ ls) fine (w, at', left', g, a) =
      behind_row at left p at' left' full since bs ls g.0 g.1 (subst (λ k. Left first asked (is_full bs) (since ++ bs) k left' ls) g.1.next
      (sound (Behind (is_full bs) (since ++ bs)) at' left' ls g.2 (subst (λ v. Accepts first v at' left' ls) g.3 a)))
  sound (Behind full since) at left (End p ∷ ls) fine (w, at', left', g, a) =
      ends at left p full since ls g.0.0 fine (subst (λ k. Stretch first asked true k left ls) g.0.1 (subst (λ n. Stretch first asked true at' n ls) g.0.2
      (sound (Outside true) at' left' ls tt (subst (λ v. Accepts first v at' left' ls) g.1 a))))
  sound (Behind full since) at left (Rule p q r ∷ ls) fine (w, at', left', g, a) = absurd g
  sound (Behind full since) at left (Locals p b ∷ ls) fine (w, at', left', g, a) = absurd g
  sound (Behind full since) at left (Does p bs ∷ ls) fine (w, at', left', g, a) = absurd g
