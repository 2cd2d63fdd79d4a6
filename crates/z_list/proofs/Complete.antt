-- What is listed is read, and what was read goes on.
use Rattle.std.proofs.Common.{◌≡◌, ℕ, zero, suc, ◌+◌, ◌-◌, ◌<◌, ◌≤◌, List, [], ◌∷◌, ◌++◌, length, take, drop, Option, Some, None, refl, sym, ap, subst, ◌∙◌, arith, append_assoc}
use Rattle.std.specs.Prelude.{nat_lt, Bool, true, false, if◌then◌else◌}
use Rattle.std.proofs.lemmas.List.{append-nil, length_push, length-take-le, length-drop, take-append-drop}
use Rattle.z_list.specs.Listing.{Line, Data, Rule, Locals, Does, End, AreMarks, rows, by_first, instructions, marked, lines}
use Rattle.z_list.specs.declared.mark.Mark.{Mark}
use Rattle.z_list.specs.inside.Lines.{Where, Outside, Named, Inside, Behind, is_full, Goes, Accepts, Comes, AreInstructions}
use Rattle.z_list.proofs.Sound.{bool}

-- a mark that has begun has a byte left
abbrev pub Holds : Where → ℕ → Type 0
Holds Named left = 0 < left
Holds w left = Unit {0}

-- so many zeros
abbrev pub zeros : ℕ → List ℕ
zeros zero = []
zeros (suc n) = zero ∷ zeros n

pub zeros_len : (n : ℕ) → length (zeros n) ≡ n
zeros_len zero = refl
zeros_len (suc n) = omega (arith, zeros_len n)

module _ (first : List ℕ → Option ℕ) (asked : AreInstructions first) where
  -- a stretch is read, whatever row stands before what comes after
  pub stretch_read : (at : ℕ) (row bs : List ℕ) (left : ℕ) (ls : List Line) → length row < 16 →
      ((full : Bool) → Accepts first (Outside full) (at + (length row + length bs)) left ls) →
      Accepts first (Outside true) at ((length row + length bs) + left) (rows at row bs ++ ls)
  stretch_read at [] [] left ls few after = subst (λ k. Accepts first (Outside true) k (0 + left) ls) (omega arith) (subst (λ n. Accepts first (Outside true) (at + 0) n ls) (omega arith) (after true))
  stretch_read at (b ∷ row) [] left ls few after = (
    Outside (is_full (b ∷ row)),
    at + length (b ∷ row),
    left,
    (refl, record { here = refl; some = omega arith; few = omega (arith, few); next = refl; rest = omega arith }, refl),
    subst (λ k. Accepts first (Outside (is_full (b ∷ row))) k left ls) (omega arith) (after (is_full (b ∷ row))),
  )
  stretch_read at row (b ∷ bs) left ls few after = bool (nat_lt (length row) 15) _ (goes (stretch_read at (row ++ b ∷ []) bs left ls)) (stops (stretch_read (at + 16) [] bs left ls))
    where
      len : length (row ++ b ∷ []) ≡ length row + 1
      len = length_push row b

      goes : (length (row ++ b ∷ []) < 16 → ((full : Bool) → Accepts first (Outside full) (at + (length (row ++ b ∷ []) + length bs)) left ls) → Accepts first (Outside true) at ((length (row ++ b ∷ []) + length bs) + left) (rows at (row ++ b ∷ []) bs ++ ls)) → nat_lt (length row) 15 ≡ true → Accepts first (Outside true) at ((length row + length (b ∷ bs)) + left) (rows at row (b ∷ bs) ++ ls)
      goes again e = subst (λ l. Accepts first (Outside true) at ((length row + length (b ∷ bs)) + left) (l ++ ls)) (sym (on e)) (subst (λ n. Accepts first (Outside true) at n (rows at (row ++ b ∷ []) bs ++ ls)) (omega (arith, len))
          (again (grind (arith, len, e)) (λ full. subst (λ k. Accepts first (Outside full) k left ls) (omega (arith, len)) (after full))))
        where
          on : nat_lt (length row) 15 ≡ true → rows at row (b ∷ bs) ≡ rows at (row ++ b ∷ []) bs
          on e = ap (λ c. if c then rows at (row ++ b ∷ []) bs else Data at (row ++ b ∷ []) ∷ rows (at + 16) [] bs) e

      stops : (length {A = ℕ} [] < 16 → ((full : Bool) → Accepts first (Outside full) ((at + 16) + (length {A = ℕ} [] + length bs)) left ls) → Accepts first (Outside true) (at + 16) ((length {A = ℕ} [] + length bs) + left) (rows (at + 16) [] bs ++ ls)) → nat_lt (length row) 15 ≡ false → Accepts first (Outside true) at ((length row + length (b ∷ bs)) + left) (rows at row (b ∷ bs) ++ ls)
      stops again e = subst (λ l. Accepts first (Outside true) at ((length row + length (b ∷ bs)) + left) (l ++ ls)) (sym (off e)) (
        Outside true,
        at + 16,
        (length {A = ℕ} [] + length bs) + left,
        (refl, record { here = refl; some = omega (arith, len); few = omega (arith, len, few); next = omega (arith, long e); rest = omega (arith, long e, few_row e) }, ap Outside (sym (whole e))),
        again (omega arith) (λ full. subst (λ k. Accepts first (Outside full) k left ls) (omega (arith, few_row e)) (after full)),
      )
        where
          few_row : nat_lt (length row) 15 ≡ false → length row ≡ 15
          few_row e = grind (arith, few, e)

          long : nat_lt (length row) 15 ≡ false → length (row ++ b ∷ []) ≡ 16
          long e = omega (arith, len, few_row e)

          whole : nat_lt (length row) 15 ≡ false → is_full (row ++ b ∷ []) ≡ true
          whole e = grind (arith, long e)

          off : nat_lt (length row) 15 ≡ false → rows at row (b ∷ bs) ≡ Data at (row ++ b ∷ []) ∷ rows (at + 16) [] bs
          off e = ap (λ c. if c then rows at (row ++ b ∷ []) bs else Data at (row ++ b ∷ []) ∷ rows (at + 16) [] bs) e

  -- rows in a mark
  pub behind_read : (at : ℕ) (row bs since : List ℕ) (left : ℕ) (ls : List Line) → length row < 16 → first (since ++ (row ++ bs)) ≡ None →
      ((full : Bool) (bytes : List ℕ) → Accepts first (Behind full bytes) (at + (length row + length bs)) left ls) →
      Accepts first (Behind true since) at ((length row + length bs) + left) (rows at row bs ++ ls)
  behind_read at [] [] since left ls few none after = subst (λ k. Accepts first (Behind true since) k (0 + left) ls) (omega arith) (subst (λ n. Accepts first (Behind true since) (at + 0) n ls) (omega arith) (after true since))
  behind_read at (b ∷ row) [] since left ls few none after = (
    Behind (is_full (b ∷ row)) (since ++ (b ∷ row)),
    at + length (b ∷ row),
    left,
    (refl, record { here = refl; some = omega arith; few = omega (arith, few); next = refl; rest = omega arith }, ap (λ l. first (since ++ l)) (sym (append-nil (b ∷ row))) ∙ none, refl),
    subst (λ k. Accepts first (Behind (is_full (b ∷ row)) (since ++ (b ∷ row))) k left ls) (omega arith) (after (is_full (b ∷ row)) (since ++ (b ∷ row))),
  )
  behind_read at row (b ∷ bs) since left ls few none after = bool (nat_lt (length row) 15) _ (goes (behind_read at (row ++ b ∷ []) bs since left ls)) (stops (behind_read (at + 16) [] bs (since ++ (row ++ b ∷ [])) left ls))
    where
      len : length (row ++ b ∷ []) ≡ length row + 1
      len = length_push row b

      goes : (length (row ++ b ∷ []) < 16 → first (since ++ ((row ++ b ∷ []) ++ bs)) ≡ None → ((full : Bool) (bytes : List ℕ) → Accepts first (Behind full bytes) (at + (length (row ++ b ∷ []) + length bs)) left ls) → Accepts first (Behind true since) at ((length (row ++ b ∷ []) + length bs) + left) (rows at (row ++ b ∷ []) bs ++ ls)) → nat_lt (length row) 15 ≡ true → Accepts first (Behind true since) at ((length row + length (b ∷ bs)) + left) (rows at row (b ∷ bs) ++ ls)
      goes again e = subst (λ l. Accepts first (Behind true since) at ((length row + length (b ∷ bs)) + left) (l ++ ls)) (sym (ap (λ c. if c then rows at (row ++ b ∷ []) bs else Data at (row ++ b ∷ []) ∷ rows (at + 16) [] bs) e))
          (subst (λ n. Accepts first (Behind true since) at n (rows at (row ++ b ∷ []) bs ++ ls)) (omega (arith, len))
          (again (grind (arith, len, e)) (ap (λ l. first (since ++ l)) (append_assoc row (b ∷ []) bs) ∙ none)
          (λ full bytes. subst (λ k. Accepts first (Behind full bytes) k left ls) (omega (arith, len)) (after full bytes))))

      stops : (length {A = ℕ} [] < 16 → first ((since ++ (row ++ b ∷ [])) ++ ([] ++ bs)) ≡ None → ((full : Bool) (bytes : List ℕ) → Accepts first (Behind full bytes) ((at + 16) + (length {A = ℕ} [] + length bs)) left ls) → Accepts first (Behind true (since ++ (row ++ b ∷ []))) (at + 16) ((length {A = ℕ} [] + length bs) + left) (rows (at + 16) [] bs ++ ls)) → nat_lt (length row) 15 ≡ false → Accepts first (Behind true since) at ((length row + length (b ∷ bs)) + left) (rows at row (b ∷ bs) ++ ls)
      stops again e = subst (λ l. Accepts first (Behind true since) at ((length row + length (b ∷ bs)) + left) (l ++ ls)) (sym (ap (λ c. if c then rows at (row ++ b ∷ []) bs else Data at (row ++ b ∷ []) ∷ rows (at + 16) [] bs) e)) (
        Behind true (since ++ (row ++ b ∷ [])),
        at + 16,
        (length {A = ℕ} [] + length bs) + left,
        (
          refl,
          record { here = refl; some = omega (arith, len); few = omega (arith, len, few); next = omega (arith, long); rest = omega (arith, long, few_row) },
          asked.none (since ++ (row ++ b ∷ [])) bs (ap first (append_assoc since (row ++ b ∷ []) bs ∙ ap (λ l. since ++ l) (append_assoc row (b ∷ []) bs)) ∙ none),
          ap (λ f. Behind f (since ++ (row ++ b ∷ []))) (sym whole),
        ),
        again (omega arith)
            (ap first (append_assoc since (row ++ b ∷ []) bs ∙ ap (λ l. since ++ l) (append_assoc row (b ∷ []) bs)) ∙ none)
            (λ full bytes. subst (λ k. Accepts first (Behind full bytes) k left ls) (omega (arith, few_row)) (after full bytes)),
      )
        where
          few_row : length row ≡ 15
          few_row = grind (arith, few, e)

          long : length (row ++ b ∷ []) ≡ 16
          long = omega (arith, len, few_row)

          whole : is_full (row ++ b ∷ []) ≡ true
          whole = grind (arith, long)

  inside_read : (at left : ℕ) (ls : List Line) → Accepts first (Behind true []) at left ls → Accepts first Inside at left ls
  inside_read at left [] a = absurd a.0
  inside_read at left (Data p bs ∷ ls) (w, at', left', g, a) = (w, at', left', (g.1, g.2, g.3), a)
  inside_read at left (End p ∷ ls) (w, at', left', g, a) = (w, at', left', g, a)
  inside_read at left (Rule p q r ∷ ls) (w, at', left', g, a) = absurd g
  inside_read at left (Locals p b ∷ ls) (w, at', left', g, a) = absurd g
  inside_read at left (Does p bs ∷ ls) (w, at', left', g, a) = absurd g

  pub instructions_read : (n at : ℕ) (bs : List ℕ) (left : ℕ) (ls : List Line) → length bs ≤ n → Accepts first (Outside true) (at + length bs) left ls →
      Accepts first Inside at (length bs + left) (instructions first n at bs ++ ls)
  instructions_read zero at bs left ls le a = (
    Outside true,
    at,
    length bs + left,
    ((refl, refl, refl), refl),
    subst (λ k. Accepts first (Outside true) k (length bs + left) ls) (omega (arith, le)) (subst (λ m. Accepts first (Outside true) (at + length bs) m ls) (omega (arith, le)) a),
  )
  instructions_read (suc n) at bs left ls le a = by_read (λ k. instructions_read n (at + k) (drop k bs) left ls) (first bs) refl
    where
      by_read : ((k : ℕ) → length (drop k bs) ≤ n → Accepts first (Outside true) ((at + k) + length (drop k bs)) left ls → Accepts first Inside (at + k) (length (drop k bs) + left) (instructions first n (at + k) (drop k bs) ++ ls)) →
          (o : Option ℕ) → first bs ≡ o → Accepts first Inside at (length bs + left) (by_first at bs o (λ k. instructions first n (at + k) (drop k bs)) ++ ls)
      by_read again None e = inside_read at (length bs + left) _ (subst (λ l. Accepts first (Behind true []) at (length bs + left) l) (sym (append_assoc (rows at [] bs) (End (at + length bs) ∷ []) ls))
          (subst (λ m. Accepts first (Behind true []) at m (rows at [] bs ++ (End (at + length bs) ∷ ls))) (omega arith)
          (behind_read at [] bs [] left (End (at + length bs) ∷ ls) (omega arith) e (λ full bytes. (Outside true, at + length bs, left, ((omega arith, omega arith, refl), refl), a)))))
      by_read again (Some k) e = (
        Inside,
        at + k,
        length (drop k bs) + left,
        (refl, omega (arith, len), omega (arith, len, length-drop k bs, fits.1), asked.whole (take k bs) (drop k bs) k (ap first (take-append-drop k bs) ∙ e) (sym len) ∙ ap Some (sym len), refl),
        again k (omega (arith, le, length-drop k bs, fits.0, fits.1)) (subst (λ p. Accepts first (Outside true) p left ls) (omega (arith, length-drop k bs, fits.1)) a),
      )
        where
          fits : (0 < k) × (k ≤ length bs)
          fits = asked.some bs k e

          len : length (take k bs) ≡ k
          len = length-take-le k bs fits.1

  mark_read : (full : Bool) (m : Mark) (mb : List ℕ) (left : ℕ) (ls : List Line) → m.from < m.to → length mb ≡ m.to - m.from → Accepts first (Outside true) m.to left ls →
      Accepts first (Outside full) m.from (length mb + left) (marked first m mb ++ ls)
  mark_read full m [] left ls some len a = absurd (omega (arith, some, len))
  mark_read full m (b ∷ bs) left ls some len a = (
    Named,
    m.from,
    length (b ∷ bs) + left,
    ((refl, refl, refl), omega arith, refl),
    (
      Inside,
      m.from + 1,
      length bs + left,
      (refl, refl, omega arith, refl),
      instructions_read (length bs) (m.from + 1) bs left ls (omega arith) (subst (λ k. Accepts first (Outside true) k left ls) (omega (arith, some, len)) a),
    ),
  )

  pub listed_read : (at : ℕ) (bytes : List ℕ) (marks : List Mark) → AreMarks at (at + length bytes) marks → Accepts first (Outside true) at (length bytes) (lines first at bytes marks)
  listed_read at bytes [] are = subst (λ l. Accepts first (Outside true) at (length bytes) l) (append-nil (rows at [] bytes))
      (subst (λ n. Accepts first (Outside true) at n (rows at [] bytes ++ [])) (omega arith) (stretch_read at [] bytes 0 [] (omega arith) (λ full. (tt, refl))))
  listed_read at bytes (m ∷ ms) are = subst (λ n. Accepts first (Outside true) at n (lines first at bytes (m ∷ ms))) whole
      (stretch_read at [] front (length mine + length others) (marked first m mine ++ lines first m.to others ms) (omega arith)
      (λ full. subst (λ k. Accepts first (Outside full) k (length mine + length others) (marked first m mine ++ lines first m.to others ms)) there
      (mark_read full m mine (length others) (lines first m.to others ms) are.1 mine_len
      (listed_read m.to others ms (subst (λ e. AreMarks m.to e ms) end are.2)))))
    where
      front : List ℕ
      front = take (m.from - at) bytes

      mine : List ℕ
      mine = take (m.to - m.from) (drop (m.from - at) bytes)

      others : List ℕ
      others = drop (m.to - at) bytes

      last : (a e : ℕ) (marks : List Mark) → AreMarks a e marks → a ≤ e
      last a e [] h = h
      last a e (x ∷ xs) h = omega (arith, h.0, h.1, last x.to e xs h.2)

      within : m.to ≤ at + length bytes
      within = last m.to (at + length bytes) ms are.2

      front_len : length front ≡ m.from - at
      front_len = length-take-le (m.from - at) bytes (omega (arith, are.0, are.1, within))

      mine_len : length mine ≡ m.to - m.from
      mine_len = length-take-le (m.to - m.from) (drop (m.from - at) bytes) (omega (arith, length-drop (m.from - at) bytes, are.0, are.1, within))

      others_len : length others ≡ length bytes - (m.to - at)
      others_len = length-drop (m.to - at) bytes

      there : m.from ≡ at + (length {A = ℕ} [] + length front)
      there = omega (arith, front_len, are.0)

      end : at + length bytes ≡ m.to + length others
      end = omega (arith, others_len, within, are.0, are.1)

      whole : (length {A = ℕ} [] + length front) + (length mine + length others) ≡ length bytes
      whole = omega (arith, front_len, mine_len, others_len, within, are.0, are.1)

  -- ## What was read goes on

  pub joins : (w : Where) (at left : ℕ) (ls more : List Line) (w' : Where) (at' left' : ℕ) → Comes first w at left ls w' at' left' → Accepts first w' at' left' more → Accepts first w at left (ls ++ more)
  joins w at left [] more w' at' left' c a = subst (λ v. Accepts first v at left more) (sym c.0) (subst (λ k. Accepts first w' k left more) (sym c.1) (subst (λ n. Accepts first w' at' n more) (sym c.2) a))
  joins w at left (l ∷ ls) more w' at' left' (v, k, n, g, c) a = (v, k, n, g, joins v k n ls more w' at' left' c a)

  out_of : (w w' : Where) (left : ℕ) → w ≡ w' → Holds w' left → Holds w left
  out_of w w' left e h = subst (λ v. Holds v left) (sym e) h

  goes_holds : (w : Where) (at left : ℕ) (l : Line) (w' : Where) (at' left' : ℕ) → Goes first w at left l w' at' left' → Holds w' left'
  goes_holds (Outside full) at left (Data p bs) w' at' left' g = out_of w' (Outside (is_full bs)) left' g.2 tt
  goes_holds (Outside full) at left (Rule p q r) w' at' left' g = out_of w' Named left' g.2 (omega (arith, g.0.2, g.1))
  goes_holds (Outside full) at left (Locals p b) w' at' left' g = absurd g
  goes_holds (Outside full) at left (Does p bs) w' at' left' g = absurd g
  goes_holds (Outside full) at left (End p) w' at' left' g = absurd g
  goes_holds Named at left (Locals p b) w' at' left' g = out_of w' Inside left' g.3 tt
  goes_holds Named at left (Data p bs) w' at' left' g = absurd g
  goes_holds Named at left (Rule p q r) w' at' left' g = absurd g
  goes_holds Named at left (Does p bs) w' at' left' g = absurd g
  goes_holds Named at left (End p) w' at' left' g = absurd g
  goes_holds Inside at left (Does p bs) w' at' left' g = out_of w' Inside left' g.4 tt
  goes_holds Inside at left (Data p bs) w' at' left' g = out_of w' (Behind (is_full bs) bs) left' g.2 tt
  goes_holds Inside at left (End p) w' at' left' g = out_of w' (Outside true) left' g.1 tt
  goes_holds Inside at left (Rule p q r) w' at' left' g = absurd g
  goes_holds Inside at left (Locals p b) w' at' left' g = absurd g
  goes_holds (Behind full since) at left (Data p bs) w' at' left' g = out_of w' (Behind (is_full bs) (since ++ bs)) left' g.3 tt
  goes_holds (Behind full since) at left (End p) w' at' left' g = out_of w' (Outside true) left' g.1 tt
  goes_holds (Behind full since) at left (Rule p q r) w' at' left' g = absurd g
  goes_holds (Behind full since) at left (Locals p b) w' at' left' g = absurd g
  goes_holds (Behind full since) at left (Does p bs) w' at' left' g = absurd g

  pub comes_holds : (w : Where) (at left : ℕ) (ls : List Line) (w' : Where) (at' left' : ℕ) → Holds w left → Comes first w at left ls w' at' left' → Holds w' left'
  comes_holds w at left [] w' at' left' h c = subst (λ v. Holds v left') c.0 (subst (λ n. Holds w n) c.2 h)
  comes_holds w at left (l ∷ ls) w' at' left' h (v, k, n, g, c) = comes_holds v k n ls w' at' left' (goes_holds w at left l v k n g) c

  outside_on : (at left : ℕ) → (more : List Line) × Accepts first (Outside true) at left more
  outside_on at left = (lines first at (zeros left) [], subst (λ n. Accepts first (Outside true) at n (lines first at (zeros left) [])) (zeros_len left) (listed_read at (zeros left) [] (omega arith)))

  inside_on : (at left : ℕ) → (more : List Line) × Accepts first Inside at left more
  inside_on at left = (
    instructions first (length (zeros left)) at (zeros left) ++ [],
    subst (λ n. Accepts first Inside at n (instructions first (length (zeros left)) at (zeros left) ++ [])) (omega (arith, zeros_len left))
        (instructions_read (length (zeros left)) at (zeros left) 0 [] (omega arith) (tt, refl)),
  )

  named_on : (at n : ℕ) → (more : List Line) × Accepts first Named at (suc n) more
  named_on at n = (Locals at 0 ∷ (inside_on (at + 1) n).0, (Inside, at + 1, n, (refl, refl, omega arith, refl), (inside_on (at + 1) n).1))

  pub go_on : (w : Where) (at left : ℕ) → Holds w left → (more : List Line) × Accepts first w at left more
  go_on (Outside true) at left h = outside_on at left
  go_on (Outside false) at zero h = ([], (tt, refl))
  go_on (Outside false) at (suc n) h = (Rule at 0 0 ∷ (named_on at n).0, (Named, at, suc n, ((refl, refl, refl), omega arith, refl), (named_on at n).1))
  go_on Named at zero h = absurd (omega (arith, h))
  go_on Named at (suc n) h = named_on at n
  go_on Inside at left h = inside_on at left
  go_on (Behind full since) at left h = (End at ∷ (outside_on at left).0, (Outside true, at, left, ((refl, refl, refl), refl), (outside_on at left).1))

  pub viable : (n : ℕ) (ls : List Line) (w : Where) (at left : ℕ) → Comes first (Outside true) 0 n ls w at left →
      (more : List Line) × Accepts first (Outside true) 0 n (ls ++ more)
  viable n ls w at left c = let m = go_on w at left (comes_holds (Outside true) 0 n ls w at left tt c) in
      (m.0, joins (Outside true) 0 n ls m.0 w at left c m.1)
