-- A line that was read, or none, from each state.
use Rattle.std.proofs.Common.{◌≡◌, ℕ, ◌+◌, ◌-◌, ◌<◌, ◌≤◌, List, [], ◌∷◌, ◌++◌, length, Option, Some, None, refl, sym, ap, subst, ◌∙◌, arith}
use Rattle.std.specs.Prelude.{Bool, true, false, nat_lt, nat_eq}
use Rattle.std.proofs.lemmas.List.{append-nil, length-append}
use Rattle.z_list.specs.declared.place.Place.{Place}
use Rattle.z_list.specs.declared.place.Place.TheVariants as places
use Rattle.z_list.specs.Listing.{Line, Data, Rule, Locals, Does, End}
use Rattle.z_list.specs.Texts.{line_text}
use Rattle.z_list.specs.inside.Lines.{Where, Outside, Named, Inside, Behind, is_full, IsRow, Goes}
use Rattle.z_list.specs.inside.Held.{bytes_in, IsFit}
use Rattle.z_list.specs.inside.Read.{first_clamped, IsStuck, IsNext}
use Rattle.z_list.specs.inside.Forms.{IsRead, IsData, IsRule, IsLocals, IsOp, IsEnd}
use Rattle.z_list.specs.inside.Turned.{where_of, HasRoom, IsTurn, NoTurn}
use Rattle.z_list.proofs.Instructions.{Small, small_nil, small_cons, small_head, first_same}
use Rattle.z_list.proofs.OneLine.{one_line, letters}

full_same : (n : ℕ) → n ≤ 16 → nat_lt 15 n ≡ nat_eq n 16
full_same n few = by_case (nat_lt 15 n) (nat_eq n 16) refl refl
  where
    by_case : (b c : Bool) → nat_lt 15 n ≡ b → nat_eq n 16 ≡ c → b ≡ c
    by_case true true p q = refl
    by_case false false p q = refl
    by_case true false p q = absurd (grind (arith, p, q, few))
    by_case false true p q = absurd (grind (arith, p, q, few))

-- whether a row is full, by the number of its bytes
pub row_full : (bs : List ℕ) (n : ℕ) → n ≡ length bs → length bs ≤ 16 → is_full bs ≡ nat_eq n 16
row_full bs n long few = full_same (length bs) few ∙ ap (λ (k : ℕ). nat_eq k 16) (sym long)

-- ---- one line, and none

pub one_turn : (w : Where) (old text : List ℕ) (count line : ℕ) (next : Place) (new rest : List ℕ) (l : Line) →
    Goes first_clamped w (length old) (count - length old) l (where_of next) (length new) (count - length new) → IsFit l → text ≡ line_text l ++ rest → new ≡ old ++ bytes_in l → HasRoom next (length new) count →
    IsTurn w old text count line next new rest (line + 1)
one_turn w old text count line next new rest l g f is put room = record {
  lines = l ∷ [];
  comes = (where_of next, length new, count - length new, g, (refl, refl, refl));
  fit = (f, tt);
  is = is ∙ ap (λ (x : List ℕ). x ++ rest) (sym (append-nil (line_text l)));
  some = omega arith;
  many = omega arith;
  bytes = put ∙ ap (λ (x : List ℕ). old ++ x) (sym (append-nil (bytes_in l)));
  room = room;
}

pub no_turn : (w : Where) (at left : ℕ) (text : List ℕ) (line : ℕ) → IsStuck (IsNext w at left) text → NoTurn w at left text line line
no_turn w at left text line stuck = record {
  lines = [];
  state = w;
  place = at;
  bytes_left = left;
  rest = text;
  comes = (refl, refl, refl);
  fit = tt;
  is = refl;
  many = omega arith;
  stuck = stuck;
  outside = λ o. (o, refl);
}

-- ---- outside marks

pub row_outside : (full : Bool) (text rest old new : List ℕ) (count line at long : ℕ) → full ≡ true → at ≡ length old → long ≡ length new → length old ≤ count → count ≤ 524288 →
    IsRead (IsData (length old) (count - at)) text rest old new → IsTurn (Outside full) old text count line (places.Outside (nat_eq (long - at) 16)) new rest (line + 1)
row_outside full text rest old new count line at long so here all within few r = by_line r.line r.fits r.is r.bytes
  where
    by_line : (l : Line) → IsData (length old) (count - at) l → text ≡ line_text l ++ rest → new ≡ old ++ bytes_in l → IsTurn (Outside full) old text count line (places.Outside (nat_eq (long - at) 16)) new rest (line + 1)
    by_line (Data a bs) f is put =
        let sum : length new ≡ length old + length bs = ap length put ∙ length-append old bs in
        one_turn (Outside full) old text count line (places.Outside (nat_eq (long - at) 16)) new rest (Data a bs)
        (so, record { here = f.0; some = f.1; few = f.2; next = sum; rest = omega (arith, sum, f.3, here, within) }, ap (λ (b : Bool). Outside b) (sym (row_full bs (long - at) (omega (arith, sum, here, all)) f.2)))
        (record { place = omega (arith, f.0, within, few); bytes = f.4; numbers = tt }) is put (omega (arith, sum, f.3, here, within))
    by_line l f is put = absurd f

pub rule_outside : (full : Bool) (text rest old new : List ℕ) (count line line' at : ℕ) (next : Place) → next ≡ places.Named → at ≡ length old → at < count → count ≤ 524288 → new ≡ old → line' ≡ line + 1 →
    IsRead (IsRule at) text rest [] [] → IsTurn (Outside full) old text count line next new rest line'
rule_outside full text rest old new count line line' at next named here within few same one r =
    subst (λ (p : Place). IsTurn (Outside full) old text count line p new rest line') (sym named) (subst (λ (k : ℕ). IsTurn (Outside full) old text count line places.Named new rest k) (sym one) (by_line r.line r.fits r.is))
  where
    by_line : (l : Line) → IsRule at l → text ≡ line_text l ++ rest → IsTurn (Outside full) old text count line places.Named new rest (line + 1)
    by_line (Rule a p q) f is =
        let sum : length new ≡ length old = ap length same in
        one_turn (Outside full) old text count line places.Named new rest (Rule a p q)
        ((f.0 ∙ here, sum, ap (λ (n : ℕ). count - n) sum), omega (arith, within, here), refl)
        (record { place = omega (arith, f.0, within, few); bytes = small_nil; numbers = (f.1, f.2) }) is (same ∙ sym (append-nil old)) (omega (arith, sum, within, here))
    by_line l f is = absurd f

row_form : (at left a : ℕ) (bs : List ℕ) (at' left' : ℕ) → IsRow at left a bs at' left' → Small bs → IsData at left (Data a bs)
row_form at left a bs at' left' row small = (row.here, row.some, row.few, omega (arith, row.rest), small)

pub stuck_outside : (full : Bool) (at left : ℕ) (text : List ℕ) → (full ≡ true → IsStuck (IsData at left) text) → (0 < left → IsStuck (IsRule at) text) → IsStuck (IsNext (Outside full) at left) text
stuck_outside full at left text no_row no_rule l next behind e = by_line l next.state next.place next.bytes_left next.goes next.fit e
  where
    by_line : (l : Line) (v : Where) (a' n' : ℕ) → Goes first_clamped (Outside full) at left l v a' n' → IsFit l → text ≡ line_text l ++ behind → ⊥
    by_line (Data a bs) v a' n' g f e = no_row g.0 (Data a bs) (row_form at left a bs a' n' g.1 f.bytes) behind e
    by_line (Rule a p q) v a' n' g f e = no_rule g.1 (Rule a p q) (g.0.0, f.numbers.0, f.numbers.1) behind e
    by_line (Locals a b) v a' n' g f e = absurd g
    by_line (Does a bs) v a' n' g f e = absurd g
    by_line (End a) v a' n' g f e = absurd g

pub none_outside : (full : Bool) (text old : List ℕ) (count line line' at : ℕ) → at ≡ length old → line' ≡ line → (full ≡ true → IsStuck (IsData (length old) (count - at)) text) → (at < count → IsStuck (IsRule at) text) →
    NoTurn (Outside full) (length old) (count - length old) text line line'
none_outside full text old count line line' at here same no_row no_rule =
    subst (λ (k : ℕ). NoTurn (Outside full) (length old) (count - length old) text line k) (sym same)
    (no_turn (Outside full) (length old) (count - length old) text line (stuck_outside full (length old) (count - length old) text
    (λ so. subst (λ (k : ℕ). IsStuck (IsData (length old) (count - k)) text) here (no_row so))
    (λ left. subst (λ (k : ℕ). IsStuck (IsRule k) text) here (no_rule (omega (arith, left, here))))))

-- ---- behind a mark's beginning

pub byte_named : (text rest old new : List ℕ) (b count line at : ℕ) → at ≡ length old → length old < count → count ≤ 524288 → b < 256 → new ≡ old ++ b ∷ [] → text ≡ line_text (Locals at b) ++ rest →
    IsTurn Named old text count line places.Inside new rest (line + 1)
byte_named text rest old new b count line at here within few small put is =
    let sum : length new ≡ length old + 1 = ap length put ∙ length-append old (b ∷ []) in
    one_turn Named old text count line places.Inside new rest (Locals at b) (here, sum, omega (arith, sum, within), refl)
    (record { place = omega (arith, here, within, few); bytes = small_cons b [] small small_nil; numbers = tt }) is put (omega (arith, sum, within))

pub stuck_named : (at left : ℕ) (text : List ℕ) → IsStuck (IsLocals at) text → IsStuck (IsNext Named at left) text
stuck_named at left text none l next behind e = by_line l next.state next.place next.bytes_left next.goes next.fit e
  where
    by_line : (l : Line) (v : Where) (a' n' : ℕ) → Goes first_clamped Named at left l v a' n' → IsFit l → text ≡ line_text l ++ behind → ⊥
    by_line (Locals a b) v a' n' g f e = none (Locals a b) (g.0, small_head b [] f.bytes) behind e
    by_line (Data a bs) v a' n' g f e = absurd g
    by_line (Rule a p q) v a' n' g f e = absurd g
    by_line (Does a bs) v a' n' g f e = absurd g
    by_line (End a) v a' n' g f e = absurd g

-- ---- among the instructions of a mark

pub op_inside : (text rest old new : List ℕ) (count line at : ℕ) → at ≡ length old → length old ≤ count → count ≤ 524288 → IsRead (IsOp (length old) (count - at)) text rest old new →
    IsTurn Inside old text count line places.Inside new rest (line + 1)
op_inside text rest old new count line at here within few r = by_line r.line r.fits r.is r.bytes
  where
    by_line : (l : Line) → IsOp (length old) (count - at) l → text ≡ line_text l ++ rest → new ≡ old ++ bytes_in l → IsTurn Inside old text count line places.Inside new rest (line + 1)
    by_line (Does a bs) f is put =
        let long : length new ≡ length old + length bs = ap length put ∙ length-append old bs in
        one_turn Inside old text count line places.Inside new rest (Does a bs) (f.0, long, omega (arith, long, f.1, here, within), first_same bs f.3 ∙ f.2, refl)
        (record { place = omega (arith, f.0, within, few); bytes = f.3; numbers = tt }) is put (omega (arith, long, f.1, here, within))
    by_line l f is put = absurd f

-- rows and a mark's end go on there as behind a full row with no bytes since
pub inside_goes : (at left : ℕ) (l : Line) (v : Where) (a' n' : ℕ) → Goes first_clamped (Behind true []) at left l v a' n' → Goes first_clamped Inside at left l v a' n'
inside_goes at left (Data a bs) v a' n' g = (g.1, g.2, g.3)
inside_goes at left (End a) v a' n' g = g
inside_goes at left (Rule a p q) v a' n' g = absurd g
inside_goes at left (Locals a b) v a' n' g = absurd g
inside_goes at left (Does a bs) v a' n' g = absurd g

pub stuck_inside : (at left : ℕ) (text : List ℕ) → IsStuck (IsOp at left) text → IsStuck (IsNext (Behind true []) at left) text → IsStuck (IsNext Inside at left) text
stuck_inside at left text no_op none l next behind e = by_line l next.state next.place next.bytes_left next.goes next.fit e
  where
    by_line : (l : Line) (v : Where) (a' n' : ℕ) → Goes first_clamped Inside at left l v a' n' → IsFit l → text ≡ line_text l ++ behind → ⊥
    by_line (Does a bs) v a' n' g f e = no_op (Does a bs) (g.0, omega (arith, g.2), sym (first_same bs f.bytes) ∙ g.3, f.bytes) behind e
    by_line (Data a bs) v a' n' g f e = none (Data a bs) (record { state = v; place = a'; bytes_left = n'; goes = (refl, g.0, g.1, g.2); fit = f }) behind e
    by_line (End a) v a' n' g f e = none (End a) (record { state = v; place = a'; bytes_left = n'; goes = g; fit = f }) behind e
    by_line (Rule a p q) v a' n' g f e = absurd g
    by_line (Locals a b) v a' n' g f e = absurd g

-- ---- behind the instructions of a mark

pub stuck_behind : (full : Bool) (since : List ℕ) (at left : ℕ) (text : List ℕ) → (full ≡ true → IsStuck (IsData at left) text) → IsStuck (IsEnd at) text → IsStuck (IsNext (Behind full since) at left) text
stuck_behind full since at left text no_row no_end l next behind e = by_line l next.state next.place next.bytes_left next.goes next.fit e
  where
    by_line : (l : Line) (v : Where) (a' n' : ℕ) → Goes first_clamped (Behind full since) at left l v a' n' → IsFit l → text ≡ line_text l ++ behind → ⊥
    by_line (Data a bs) v a' n' g f e = no_row g.0 (Data a bs) (row_form at left a bs a' n' g.1 f.bytes) behind e
    by_line (End a) v a' n' g f e = no_end (End a) g.0.0 behind e
    by_line (Rule a p q) v a' n' g f e = absurd g
    by_line (Locals a b) v a' n' g f e = absurd g
    by_line (Does a bs) v a' n' g f e = absurd g

-- a row stands in front in which an instruction ends
pub stuck_row : (full : Bool) (since : List ℕ) (at left k : ℕ) (text rest : List ℕ) (a : ℕ) (bs : List ℕ) → a ≡ at → IsFit (Data a bs) → first_clamped (since ++ bs) ≡ Some k → text ≡ line_text (Data a bs) ++ rest →
    IsStuck (IsNext (Behind full since) at left) text
stuck_row full since at left k text rest a bs here fit op is l next behind e = by_line l next.state next.place next.bytes_left next.goes next.fit e
  where
    both : (o : Option ℕ) → o ≡ None → o ≡ Some k → ⊥
    both o p q = cc

    by_line : (l : Line) (v : Where) (a' n' : ℕ) → Goes first_clamped (Behind full since) at left l v a' n' → IsFit l → text ≡ line_text l ++ behind → ⊥
    by_line (Data c cs) v a' n' g f e =
        let same : Data c cs ≡ Data a bs = one_line (Data c cs) (Data a bs) behind rest (g.1.here ∙ sym here) f fit (sym e ∙ is) in
        both (first_clamped (since ++ cs)) g.2 (ap (λ (x : Line). first_clamped (since ++ bytes_in x)) same ∙ op)
    by_line (End c) v a' n' g f e = absurd (omega (arith, letters (Data a bs) (End c) rest behind (sym is ∙ e)))
    by_line (Rule c p q) v a' n' g f e = absurd g
    by_line (Locals c b) v a' n' g f e = absurd g
    by_line (Does c cs) v a' n' g f e = absurd g
