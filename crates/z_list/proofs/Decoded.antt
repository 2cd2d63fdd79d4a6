-- Rows behind the instructions of a mark, which are decoded once.
use Rattle.std.proofs.Common.{◌≡◌, ℕ, suc, ◌+◌, ◌-◌, ◌/◌, ◌%◌, ◌<◌, ◌≤◌, List, [], ◌∷◌, ◌++◌, length, take, drop, Option, Some, None, min, refl, sym, ap, subst, ◌∙◌, arith, append_assoc}
use Rattle.std.specs.Prelude.{Bool, true, false, nat_lt, nat_eq}
use Rattle.std.proofs.lemmas.List.{append-nil, length-append, length-take-le, take-append-drop}
use Rattle.z_list.specs.declared.place.Place.TheVariants as places
use Rattle.z_list.specs.Listing.{Line, Data, Rule, Locals, Does, End}
use Rattle.z_list.specs.Texts.{line_text, texts, first_length}
use Rattle.z_list.specs.inside.Lines.{Where, Outside, Inside, Behind, is_full, IsRow, Goes, Comes, IsOutside}
use Rattle.z_list.specs.inside.Held.{bytes_in, bytes_of, IsFit, AreFit}
use Rattle.z_list.specs.inside.Read.{first_clamped, IsStuck, IsNext}
use Rattle.z_list.specs.inside.Forms.{IsRead, IsData, IsOp, IsEnd}
use Rattle.z_list.specs.inside.Turned.{IsTurn, NoTurn, AreRows, ReadRows, NoRow}
use Rattle.z_list.proofs.Instructions.{small_nil, first_same, asked}
use Rattle.z_list.proofs.Held.{bytes_append}
use Rattle.z_list.proofs.Bad.{fit_small}
use Rattle.z_list.proofs.More.{comes_many, fit_many, texts_many}
use Rattle.z_list.proofs.Sound.{is_row, bool}
use Rattle.z_list.proofs.Steps.{row_full, no_turn, inside_goes, stuck_inside, stuck_behind, stuck_row}

-- ---- what bytes and their fronts begin with

module _ (xs ys : List ℕ) (k : ℕ) (within : k ≤ length xs) where
  size : length (take k xs) ≡ k
  size = length-take-le k xs within

  whole : take k xs ++ drop k xs ≡ xs
  whole = take-append-drop k xs

  parted : take k xs ++ (drop k xs ++ ys) ≡ xs ++ ys
  parted = sym (append_assoc (take k xs) (drop k xs) ys) ∙ ap (λ (l : List ℕ). l ++ ys) whole

  alone : first_clamped (take k xs) ≡ Some k → first_clamped (take k xs) ≡ Some (length (take k xs))
  alone e = e ∙ ap Some (sym size)

  front_some : first_clamped (xs ++ ys) ≡ Some k → first_clamped xs ≡ Some k
  front_some e =
      let front = asked.whole (take k xs) (drop k xs ++ ys) k (ap first_clamped parted ∙ e) (sym size) in
      ap first_clamped (sym whole) ∙ (asked.alone (take k xs) (drop k xs) (alone front) ∙ ap Some size)

  more_some : first_clamped xs ≡ Some k → first_clamped (xs ++ ys) ≡ Some k
  more_some e =
      let front = asked.whole (take k xs) (drop k xs) k (ap first_clamped whole ∙ e) (sym size) in
      ap first_clamped (sym parted) ∙ (asked.alone (take k xs) (drop k xs ++ ys) (alone front) ∙ ap Some size)

front_none : (xs ys : List ℕ) (k : ℕ) → length xs < k → first_clamped (xs ++ ys) ≡ Some k → first_clamped xs ≡ None
front_none xs ys k behind e = by_first (first_clamped xs) refl
  where
    same : (o : Option ℕ) (i j : ℕ) → o ≡ Some i → o ≡ Some j → i ≡ j
    same o i j p q = cc

    by_first : (o : Option ℕ) → first_clamped xs ≡ o → o ≡ None
    by_first None f = refl
    by_first (Some j) f =
        let within : j ≤ length xs = (asked.some xs j f).1 in
        absurd (omega (arith, within, behind, same (first_clamped (xs ++ ys)) j k (more_some xs ys j within f) e))

-- ---- rows

no_rows : (at left : ℕ) (ls : List Line) (full : Bool) (at' left' : ℕ) → AreRows false at left ls full at' left' → ls ≡ []
no_rows at left [] full at' left' r = refl
no_rows at left (Data a bs ∷ ls) full at' left' (f, k, n, row, fit, more) = absurd cc
no_rows at left (Rule a p q ∷ ls) full at' left' r = absurd r
no_rows at left (Locals a b ∷ ls) full at' left' r = absurd r
no_rows at left (Does a bs ∷ ls) full at' left' r = absurd r
no_rows at left (End a ∷ ls) full at' left' r = absurd r

pub rows_more : (full : Bool) (at left : ℕ) (ls : List Line) (at' left' a : ℕ) (bs : List ℕ) (k n : ℕ) → AreRows full at left ls true at' left' → IsRow at' left' a bs k n → IsFit (Data a bs) →
    AreRows full at left (ls ++ Data a bs ∷ []) (is_full bs) k n
rows_more full at left [] at' left' a bs k n (f, p, q) row fit =
    (f, k, n, subst (λ (i : ℕ). IsRow i left a bs k n) (sym p) (subst (λ (i : ℕ). IsRow at' i a bs k n) (sym q) row), fit, (refl, refl, refl))
rows_more full at left (Data c cs ∷ ls) at' left' a bs k n (f, i, j, first, fits, more) row fit = (f, i, j, first, fits, rows_more (is_full cs) i j ls at' left' a bs k n more row fit)
rows_more full at left (Rule c p q ∷ ls) at' left' a bs k n r row fit = absurd r
rows_more full at left (Locals c b ∷ ls) at' left' a bs k n r row fit = absurd r
rows_more full at left (Does c cs ∷ ls) at' left' a bs k n r row fit = absurd r
rows_more full at left (End c ∷ ls) at' left' a bs k n r row fit = absurd r

rows_fit : (full : Bool) (at left : ℕ) (ls : List Line) (full' : Bool) (at' left' : ℕ) → AreRows full at left ls full' at' left' → AreFit ls
rows_fit full at left [] full' at' left' r = tt
rows_fit full at left (Data a bs ∷ ls) full' at' left' (f, k, n, row, fit, more) = (fit, rows_fit (is_full bs) k n ls full' at' left' more)
rows_fit full at left (Rule a p q ∷ ls) full' at' left' r = absurd r
rows_fit full at left (Locals a b ∷ ls) full' at' left' r = absurd r
rows_fit full at left (Does a bs ∷ ls) full' at' left' r = absurd r
rows_fit full at left (End a ∷ ls) full' at' left' r = absurd r

-- as many rows as the bytes are sixteens, the last one begun
rows_many : (full : Bool) (at left : ℕ) (ls : List Line) (full' : Bool) (at' left' : ℕ) → AreRows full at left ls full' at' left' →
    length ls ≡ length (bytes_of ls) / 16 + min 1 (length (bytes_of ls) % 16)
rows_many full at left [] full' at' left' r = omega arith
rows_many full at left (Data a bs ∷ ls) full' at' left' (f, k, n, row, fit, more) =
    bool (is_full bs) _
    (λ e. omega (arith, length-append bs (bytes_of ls), is_row bs row.few e, rows_many (is_full bs) k n ls full' at' left' more))
    (λ e. alone (no_rows k n ls full' at' left' (subst (λ (b : Bool). AreRows b k n ls full' at' left') e more)))
  where
    alone : ls ≡ [] → suc (length ls) ≡ length (bs ++ bytes_of ls) / 16 + min 1 (length (bs ++ bytes_of ls) % 16)
    alone e = omega (arith, length-append bs (bytes_of ls), ap length e, ap (λ (l : List Line). length (bytes_of l)) e, row.some, row.few)
rows_many full at left (Rule a p q ∷ ls) full' at' left' r = absurd r
rows_many full at left (Locals a b ∷ ls) full' at' left' r = absurd r
rows_many full at left (Does a bs ∷ ls) full' at' left' r = absurd r
rows_many full at left (End a ∷ ls) full' at' left' r = absurd r

-- rows whose bytes begin with no instruction go on
rows_come : (full : Bool) (since : List ℕ) (at left : ℕ) (ls : List Line) (full' : Bool) (at' left' : ℕ) → AreRows full at left ls full' at' left' → first_clamped (since ++ bytes_of ls) ≡ None →
    Comes first_clamped (Behind full since) at left ls (Behind full' (since ++ bytes_of ls)) at' left'
rows_come full since at left [] full' at' left' (f, p, q) none = (ap (λ (b : Bool). Behind b since) f ∙ ap (λ (l : List ℕ). Behind full' l) (sym (append-nil since)), p, q)
rows_come full since at left (Data a bs ∷ ls) full' at' left' (f, k, n, row, fit, more) none =
    let later : first_clamped ((since ++ bs) ++ bytes_of ls) ≡ None = ap first_clamped (append_assoc since bs (bytes_of ls)) ∙ none in (
      Behind (is_full bs) (since ++ bs),
      k,
      n,
      (f, row, asked.none (since ++ bs) (bytes_of ls) later, refl),
      subst (λ (l : List ℕ). Comes first_clamped (Behind (is_full bs) (since ++ bs)) k n ls (Behind full' l) at' left') (append_assoc since bs (bytes_of ls))
          (rows_come (is_full bs) (since ++ bs) k n ls full' at' left' more later),
    )
rows_come full since at left (Rule a p q ∷ ls) full' at' left' r none = absurd r
rows_come full since at left (Locals a b ∷ ls) full' at' left' r none = absurd r
rows_come full since at left (Does a bs ∷ ls) full' at' left' r none = absurd r
rows_come full since at left (End a ∷ ls) full' at' left' r none = absurd r

-- a line is read before those behind which none goes on
line_before : (w v : Where) (at left a n : ℕ) (text rest : List ℕ) (l : Line) (line line' : ℕ) → Goes first_clamped w at left l v a n → IsFit l → text ≡ line_text l ++ rest → (IsOutside first_clamped v → ⊥) →
    NoTurn v a n rest (line + 1) line' → NoTurn w at left text line line'
line_before w v at left a n text rest l line line' g f is within t = record {
  lines = l ∷ t.lines;
  state = t.state;
  place = t.place;
  bytes_left = t.bytes_left;
  rest = t.rest;
  comes = (v, a, n, g, t.comes);
  fit = (f, t.fit);
  is = is ∙ (ap (λ (x : List ℕ). line_text l ++ x) t.is ∙ sym (append_assoc (line_text l) (texts t.lines) t.rest));
  many = omega (arith, t.many);
  stuck = t.stuck;
  outside = λ o. absurd (within (t.outside o).0);
}

-- where the bytes begin with an instruction, the row is bad in which it ends
rows_bad : (full : Bool) (since : List ℕ) (at left : ℕ) (ls : List Line) (full' : Bool) (at' left' : ℕ) (text rest : List ℕ) (line k : ℕ) → AreRows full at left ls full' at' left' →
    first_clamped (since ++ bytes_of ls) ≡ Some k → length since < k → text ≡ texts ls ++ rest → NoTurn (Behind full since) at left text line (line + (k - suc (length since)) / 16)
rows_bad full since at left [] full' at' left' text rest line k r op behind is =
    absurd (omega (arith, behind, (asked.some (since ++ []) k op).1, length-append {A = ℕ} since []))
rows_bad full since at left (Data a bs ∷ ls) full' at' left' text rest line k (f, i, n, row, fit, more) op behind is =
    bool (nat_lt (length (since ++ bs)) k) _
    (λ e. goes (grind (arith, e)) (rows_bad (is_full bs) (since ++ bs) i n ls full' at' left' (texts ls ++ rest) rest (line + 1) k more later (grind (arith, e)) refl))
    (λ e. stops (grind (arith, e)))
  where
    later : first_clamped ((since ++ bs) ++ bytes_of ls) ≡ Some k
    later = ap first_clamped (append_assoc since bs (bytes_of ls)) ∙ op

    front : text ≡ line_text (Data a bs) ++ (texts ls ++ rest)
    front = is ∙ append_assoc (line_text (Data a bs)) (texts ls) rest

    long : length (since ++ bs) ≡ length since + length bs
    long = length-append since bs

    stops : k ≤ length (since ++ bs) → NoTurn (Behind full since) at left text line (line + (k - suc (length since)) / 16)
    stops within =
        let here : line ≡ line + (k - suc (length since)) / 16 = omega (arith, within, long, row.few, behind) in
        subst (λ (m : ℕ). NoTurn (Behind full since) at left text line m) here
        (no_turn (Behind full since) at left text line (stuck_row full since at left k text (texts ls ++ rest) a bs row.here fit (front_some (since ++ bs) (bytes_of ls) k within later) front))

    sixteen : length (since ++ bs) < k → length bs ≡ 16
    sixteen past = bool (is_full bs) _ (λ e. is_row bs row.few e)
        (λ e. absurd (short (no_rows i n ls full' at' left' (subst (λ (b : Bool). AreRows b i n ls full' at' left') e more))))
      where
        short : ls ≡ [] → ⊥
        short e = omega (arith, past, (asked.some ((since ++ bs) ++ bytes_of ls) k later).1, length-append (since ++ bs) (bytes_of ls), ap (λ (l : List Line). length (bytes_of l)) e)

    goes : length (since ++ bs) < k → NoTurn (Behind (is_full bs) (since ++ bs)) i n (texts ls ++ rest) (line + 1) (line + 1 + (k - suc (length (since ++ bs))) / 16) →
        NoTurn (Behind full since) at left text line (line + (k - suc (length since)) / 16)
    goes past t =
        let here : line + 1 + (k - suc (length (since ++ bs))) / 16 ≡ line + (k - suc (length since)) / 16 = omega (arith, past, long, sixteen past) in
        subst (λ (m : ℕ). NoTurn (Behind full since) at left text line m) here
        (line_before (Behind full since) (Behind (is_full bs) (since ++ bs)) at left i n text (texts ls ++ rest) (Data a bs) line (line + 1 + (k - suc (length (since ++ bs))) / 16)
        (f, row, front_none (since ++ bs) (bytes_of ls) k past later, refl) fit front (λ o. o) t)
rows_bad full since at left (Rule a p q ∷ ls) full' at' left' text rest line k r op behind is = absurd r
rows_bad full since at left (Locals a b ∷ ls) full' at' left' text rest line k r op behind is = absurd r
rows_bad full since at left (Does a bs ∷ ls) full' at' left' text rest line k r op behind is = absurd r
rows_bad full since at left (End a ∷ ls) full' at' left' text rest line k r op behind is = absurd r

-- ---- from among the instructions

inside_comes : (at left : ℕ) (ls : List Line) (v : Where) (a n : ℕ) → 0 < length ls → Comes first_clamped (Behind true []) at left ls v a n → Comes first_clamped Inside at left ls v a n
inside_comes at left [] v a n some c = absurd (omega (arith, some))
inside_comes at left (l ∷ ls) v a n some (w, i, j, g, c) = (w, i, j, inside_goes at left l w i j g, c)

no_turn_inside : (at left : ℕ) (text : List ℕ) (line line' : ℕ) → IsStuck (IsOp at left) text → NoTurn (Behind true []) at left text line line' → NoTurn Inside at left text line line'
no_turn_inside at left text line line' no_op t = by_lines t.lines refl
  where
    by_lines : (ls : List Line) → t.lines ≡ ls → NoTurn Inside at left text line line'
    by_lines [] e =
        let c : Comes first_clamped (Behind true []) at left [] t.state t.place t.bytes_left = subst (λ (ls : List Line). Comes first_clamped (Behind true []) at left ls t.state t.place t.bytes_left) e t.comes in
        let is : t.rest ≡ text = sym (t.is ∙ ap (λ (ls : List Line). texts ls ++ t.rest) e) in
        let one : IsStuck (IsNext (Behind true []) t.place t.bytes_left) t.rest = subst (λ (w : Where). IsStuck (IsNext w t.place t.bytes_left) t.rest) (sym c.0) t.stuck in
        let two : IsStuck (IsNext (Behind true []) at t.bytes_left) t.rest = subst (λ (i : ℕ). IsStuck (IsNext (Behind true []) i t.bytes_left) t.rest) (sym c.1) one in
        let three : IsStuck (IsNext (Behind true []) at left) t.rest = subst (λ (i : ℕ). IsStuck (IsNext (Behind true []) at i) t.rest) (sym c.2) two in
        let here : line ≡ line' = omega (arith, t.many, ap length e) in
        subst (λ (m : ℕ). NoTurn Inside at left text line m) here
        (no_turn Inside at left text line (stuck_inside at left text no_op (subst (λ (x : List ℕ). IsStuck (IsNext (Behind true []) at left) x) is three)))
    by_lines (l ∷ ls) e = record {
      lines = t.lines;
      state = t.state;
      place = t.place;
      bytes_left = t.bytes_left;
      rest = t.rest;
      comes = inside_comes at left t.lines t.state t.place t.bytes_left (omega (arith, ap length e)) t.comes;
      fit = t.fit;
      is = t.is;
      many = t.many;
      stuck = t.stuck;
      outside = λ o. absurd (t.outside o).0;
    }

-- ---- what was read of a mark behind its instructions

module _ (old text : List ℕ) (count : ℕ) (full : Bool) (new rest since : List ℕ) (r : ReadRows old text count full new rest) (is_since : since ≡ bytes_of r.lines) where
  fit : AreFit r.lines
  fit = rows_fit true (length old) (count - length old) r.lines full (length new) (count - length new) r.rows

  since_same : first_clamped (bytes_of r.lines) ≡ first_length since
  since_same = first_same (bytes_of r.lines) (fit_small r.lines fit) ∙ ap first_length (sym is_since)

  many : length r.lines ≡ length since / 16 + min 1 (length since % 16)
  many = rows_many true (length old) (count - length old) r.lines full (length new) (count - length new) r.rows ∙ ap (λ (l : List ℕ). length l / 16 + min 1 (length l % 16)) (sym is_since)

  pub rest_bad : (line k : ℕ) → IsStuck (IsOp (length old) (count - length old)) text → first_length since ≡ Some k → 0 < k → NoTurn Inside (length old) (count - length old) text line (line + (k - 1) / 16)
  rest_bad line k no_op op some = no_turn_inside (length old) (count - length old) text line (line + (k - 1) / 16) no_op
      (rows_bad true [] (length old) (count - length old) r.lines full (length new) (count - length new) text rest line k r.rows (since_same ∙ op) some r.is)

  module _ (none : first_length since ≡ None) (long rows : ℕ) (all : long ≡ length new) (rows_are : rows ≡ length since / 16 + min 1 (length since % 16)) where
    comes : Comes first_clamped (Behind true []) (length old) (count - length old) r.lines (Behind full (bytes_of r.lines)) (length new) (count - length new)
    comes = rows_come true [] (length old) (count - length old) r.lines full (length new) (count - length new) r.rows (since_same ∙ none)

    pub rest_no_end : (line : ℕ) → IsStuck (IsOp (length old) (count - length old)) text → NoRow full new count rest → IsStuck (IsEnd long) rest → NoTurn Inside (length old) (count - length old) text line (line + rows)
    rest_no_end line no_op no_row no_end = no_turn_inside (length old) (count - length old) text line (line + rows) no_op (record {
      lines = r.lines;
      state = Behind full (bytes_of r.lines);
      place = length new;
      bytes_left = count - length new;
      rest = rest;
      comes = comes;
      fit = fit;
      is = r.is;
      many = ap (λ (n : ℕ). line + n) (rows_are ∙ sym many);
      stuck = stuck_behind full (bytes_of r.lines) (length new) (count - length new) rest no_row (subst (λ (k : ℕ). IsStuck (IsEnd k) rest) all no_end);
      outside = λ o. absurd o;
    })

    pub rest_end : (line : ℕ) (behind : List ℕ) → count ≤ 524288 → IsRead (IsEnd long) rest behind [] [] → IsTurn Inside old text count line (places.Outside true) new behind (line + rows + 1)
    rest_end line behind few e = by_line e.line e.fits e.is
      where
        by_line : (l : Line) → IsEnd long l → rest ≡ line_text l ++ behind → IsTurn Inside old text count line (places.Outside true) new behind (line + rows + 1)
        by_line (End a) at is =
            let last : List Line = End a ∷ [] in
            record {
              lines = r.lines ++ last;
              comes = inside_comes (length old) (count - length old) (r.lines ++ last) (Outside true) (length new) (count - length new) (omega (arith, length-append r.lines last))
                  (comes_many (Behind true []) (length old) (count - length old) r.lines (Behind full (bytes_of r.lines)) (length new) (count - length new) last (Outside true) (length new) (count - length new) comes
                  (Outside true, length new, count - length new, ((at ∙ all, refl, refl), refl), (refl, refl, refl)));
              fit = fit_many r.lines last fit (record { place = omega (arith, at, all, r.within, few); bytes = small_nil; numbers = tt }, tt);
              is = texts_many r.lines last text rest behind r.is (is ∙ ap (λ (x : List ℕ). x ++ behind) (sym (append-nil (line_text (End a)))));
              some = omega (arith, length-append r.lines last);
              many = omega (arith, rows_are, many, length-append r.lines last);
              bytes = r.bytes ∙ ap (λ (x : List ℕ). old ++ x) (sym (bytes_append r.lines last ∙ append-nil (bytes_of r.lines)));
              room = r.within;
            }
        by_line l at is = absurd at

-- one more row is read
pub rows_on : (old text : List ℕ) (count at long : ℕ) (full : Bool) (new rest new' rest' : List ℕ) → count ≤ 524288 → at ≡ length new → long ≡ length new' → full ≡ true → ReadRows old text count full new rest →
    IsRead (IsData (length new) (count - at)) rest rest' new new' → ReadRows old text count (nat_eq (long - at) 16) new' rest'
rows_on old text count at long full new rest new' rest' few here all so before d = by_line d.line d.fits d.is d.bytes
  where
    r : ReadRows old text count true new rest
    r = subst (λ (b : Bool). ReadRows old text count b new rest) so before

    by_line : (l : Line) → IsData (length new) (count - at) l → rest ≡ line_text l ++ rest' → new' ≡ new ++ bytes_in l → ReadRows old text count (nat_eq (long - at) 16) new' rest'
    by_line (Data a bs) f is put =
        let sum : length new' ≡ length new + length bs = ap length put ∙ length-append new bs in
        let last : List Line = Data a bs ∷ [] in
        record {
          lines = r.lines ++ last;
          rows = subst (λ (b : Bool). AreRows true (length old) (count - length old) (r.lines ++ last) b (length new') (count - length new')) (row_full bs (long - at) (omega (arith, sum, here, all)) f.2)
              (rows_more true (length old) (count - length old) r.lines (length new) (count - length new) a bs (length new') (count - length new') r.rows
              (record { here = f.0; some = f.1; few = f.2; next = sum; rest = omega (arith, sum, f.3, here, r.within) })
              (record { place = omega (arith, f.0, r.within, few); bytes = f.4; numbers = tt }));
          is = texts_many r.lines last text rest rest' r.is (is ∙ ap (λ (x : List ℕ). x ++ rest') (sym (append-nil (line_text (Data a bs)))));
          bytes = put ∙ (ap (λ (x : List ℕ). x ++ bs) r.bytes ∙ (append_assoc old (bytes_of r.lines) bs ∙ ap (λ (x : List ℕ). old ++ x) (sym (bytes_append r.lines last ∙ ap (λ (x : List ℕ). bytes_of r.lines ++ x) (append-nil bs)))));
          within = omega (arith, sum, f.3, here, r.within);
        }
    by_line l f is put = absurd f
