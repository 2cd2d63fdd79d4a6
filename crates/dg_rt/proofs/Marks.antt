-- The routines that print a piece of a value do so.
use Rattle.std.proofs.Common.{◌≡◌, ◌≢◌, ℕ, zero, suc, ◌+◌, ◌/◌, ◌%◌, ◌<◌, ◌≤◌, Bool, true, false, List, [], ◌∷◌, ◌++◌, drop, Option, Some, None, refl, sym, ap, ◌∙◌, arith, append_assoc}
use Rattle.std.specs.Prelude.{◌==◌, ◌||◌, eqb, nat_lt, if◌then◌else◌}
use Rattle.std.specs.Fmt.{decimal, digits, digits_onto, digit_glyph}
use Rattle.std.specs.List.{list_any}
use Rattle.std.proofs.lemmas.Bool.{ne_eqb, lt-ltb, cond-true, cond-false}
use Rattle.dg_meaning.specs.World.{Print, Piece}
use Rattle.dg_meaning.specs.Render.{is_line, is_par, is_upper, spaces_of, last_asked, space_for, opens, closes, upper, capital, separator, first_of, last_of, Met, met_behind, written, spaces_from}
use Rattle.z_lang.specs.declared.act.Atom.TheVariants as atoms
use Rattle.z_lang.specs.declared.act.Print.TheVariants as prints
use Rattle.z_lang.specs.State.{State, Program}
use Rattle.z_lang.specs.Acts.{print_output}
use Rattle.z_lang.specs.Runs.{Returns, at_label, taken, passed, done, returns, behind_label}
use Rattle.dg_rt.specs.declared.pieces.TheConstants.{PRINT_MARK_ACTS, PRINT_NUMBER_ACTS}
use Rattle.dg_rt.specs.Cells.{with_cell, replaced, Holds}
use Rattle.dg_rt.specs.Areas.{state}
use Rattle.dg_rt.specs.RunTime.{HasRunTime}
use Rattle.dg_rt.specs.Gaps.{last_word, Meets, Separates}
use Rattle.dg_rt.specs.Pieces.{PrintsPiece, MarkWorks, NumberWorks}
use Rattle.dg_rt.proofs.Cells.{some_list, other_cell, same_cell}
use Rattle.dg_rt.proofs.Closing.{letter_printed}
use Rattle.dg_rt.proofs.First.{as_it_is, same_capital, upper_low}
use Rattle.dg_rt.proofs.Following.{copies, says, puts, local_1}
use Rattle.dg_rt.proofs.Locals.{positive}
use Rattle.dg_rt.proofs.Separating.{among, or_three, or_nothing, closes_by, separate_works, calls_separate}

-- ## What a piece leaves

pub opens_by : (c : ℕ) → opens c ≡ among c 40 91 123
opens_by c = or_three (eqb c 40) (eqb c 91) (eqb c 123) false ∙ or_nothing (among c 40 91 123)

pub unchanged : (gap : List Print) (b : ℕ) (bs : List ℕ) → upper b ≡ b → capital gap (b ∷ bs) ≡ b ∷ bs
unchanged gap b bs same = by_test (list_any is_upper gap) refl
  where
    by_test : (t : Bool) → list_any is_upper gap ≡ t → capital gap (b ∷ bs) ≡ b ∷ bs
    by_test true e = same_capital gap b bs e same
    by_test false e = as_it_is gap (b ∷ bs) e

meets_behind : (cells : ℕ → ℕ) (m : Met) (bytes : List ℕ) (b : ℕ) → capital m.gap bytes ≡ bytes → last_of m.last bytes ≡ Some b → cells 28 ≡ last_word (Some b) → cells 30 ≡ 0 → cells 31 ≡ 0 → cells 32 ≡ 0 → cells 33 ≡ 0 → Meets cells (met_behind m (Piece bytes))
meets_behind cells m bytes b same last is lines spaces asked up = record {
  last = is ∙ sym (ap last_word (ap (last_of m.last) same ∙ last));
  lines = lines;
  spaces = spaces;
  asked = asked;
  upper = up;
}

written_is : (output : List ℕ) (m : Met) (first : ℕ) (bytes : List ℕ) → capital m.gap bytes ≡ bytes → separator m.gap m.last first ≡ separator m.gap m.last (first_of bytes) → (output ++ separator m.gap m.last first) ++ bytes ≡ output ++ written m (Piece bytes)
written_is output m first bytes same e = append_assoc output (separator m.gap m.last first) bytes ∙ ap (λ (x : List ℕ). output ++ x) (ap (λ (x : List ℕ). x ++ bytes) e ∙ ap (λ (x : List ℕ). separator m.gap m.last (first_of bytes) ++ x) (sym same))

-- ## Marks

module _ (p : Program) (has : HasRunTime p) (f w : ℕ) (some : 1 ≤ f) (enough : 1 ≤ w) (memory typed output : List ℕ) (drawn c : ℕ) (cells : ℕ → ℕ) (h : Holds p.world.layout memory cells) (m : Met) (meets : Meets cells m) where
  abbrev st : List ℕ → List ℕ → State
  st mem out = state mem (c ∷ []) typed drawn out

  module _ (low : 31 < c) (high : c < 127) (same : upper c ≡ c) where
    text : capital m.gap (c ∷ []) ≡ c ∷ []
    text = unchanged m.gap c [] same

    abbrev out1 : List ℕ
    out1 = output ++ separator m.gap m.last c

    abbrev out2 : List ℕ
    out2 = out1 ++ c ∷ []

    final : out2 ≡ output ++ written m (Piece (c ∷ []))
    final = written_is output m c (c ∷ []) text refl

    prints_mark : (r : Separates p 0 0 memory typed output drawn c cells m) → (t : Bool) → among c 40 91 123 ≡ t → PrintsPiece p f w PRINT_MARK_ACTS memory (c ∷ []) typed output drawn cells m (c ∷ []) 21
    unfolding behind_label
    prints_mark r true e =
        let room = has.mapped.room in
        let few = r.few in
        let m1 = with_cell r.memory' 33 0 in
        let c1 = replaced r.cells' 33 0 in
        let put = puts p (st r.memory' out1) r.cells' 49 0 r.holds (omega arith) (omega arith) (omega arith) (omega arith) in
        let m2 = with_cell m1 28 1 in
        let c2 = replaced c1 28 1 in
        let put' = puts p (st m1 out2) c1 44 1 put.holds (omega arith) (omega arith) (omega arith) (omega arith) in
        let far : (k : ℕ) → k ≢ 28 → k ≢ 33 → c2 k ≡ r.cells' k = λ k no28 no33. other_cell c1 28 1 k no28 ∙ other_cell r.cells' 33 0 k no33 in
        let last : 1 ≡ last_word (Some c) = sym (cond-true (opens c) 1 2 (opens_by c ∙ e)) in
        record {
          memory' = m2;
          cells' = c2;
          locals' = c ∷ [];
          holds = put'.holds;
          meets = meets_behind c2 m (c ∷ []) c text refl (same_cell c1 28 1 ∙ last) (far 30 (λ z. (omega arith)) (λ z. (omega arith)) ∙ r.lines) (far 31 (λ z. (omega arith)) (λ z. (omega arith)) ∙ r.spaces) (far 32 (λ z. (omega arith)) (λ z. (omega arith)) ∙ r.asked) (other_cell c1 28 1 33 (λ z. (omega arith)) ∙ same_cell r.cells' 33 0);
          others = λ k no28 no30 no31 no32 no33. far k no28 no33 ∙ r.others k no30 no31 no32;
          count = suc r.count + 5;
          few = omega arith;
          runs = rw (sym final) (calls_separate p has f w some enough PRINT_MARK_ACTS (drop 1 PRINT_MARK_ACTS) (atoms.Var 1) memory (c ∷ []) typed output drawn c cells m r (local_1 p memory c [] typed drawn output) (Returns 0) (st m2 out2) 5
              (done (copies p (st r.memory' out1) (st m1 out1) 49 (atoms.Num 0) 0 refl put.put_is)
              (done (says p (st m1 out1) prints.Code (atoms.Var 1) c (c ∷ []) (local_1 p m1 c [] typed drawn out1) (letter_printed m1 c low high))
              (done (copies p (st m1 out2) (st m2 out2) 44 (atoms.Num 1) 1 refl put'.put_is)
              (taken (rw (local_1 p m2 c [] typed drawn out2) (ap (λ (b : Bool). Some b) e)) refl (returns refl))))));
        }
    prints_mark r false e =
        let room = has.mapped.room in
        let few = r.few in
        let m1 = with_cell r.memory' 33 0 in
        let c1 = replaced r.cells' 33 0 in
        let put = puts p (st r.memory' out1) r.cells' 49 0 r.holds (omega arith) (omega arith) (omega arith) (omega arith) in
        let m2 = with_cell m1 28 1 in
        let c2 = replaced c1 28 1 in
        let put' = puts p (st m1 out2) c1 44 1 put.holds (omega arith) (omega arith) (omega arith) (omega arith) in
        let m3 = with_cell m2 28 2 in
        let c3 = replaced c2 28 2 in
        let put'' = puts p (st m2 out2) c2 44 2 put'.holds (omega arith) (omega arith) (omega arith) (omega arith) in
        let far : (k : ℕ) → k ≢ 28 → k ≢ 33 → c3 k ≡ r.cells' k = λ k no28 no33. other_cell c2 28 2 k no28 ∙ (other_cell c1 28 1 k no28 ∙ other_cell r.cells' 33 0 k no33) in
        let last : 2 ≡ last_word (Some c) = sym (cond-false (opens c) 1 2 (opens_by c ∙ e)) in
        record {
          memory' = m3;
          cells' = c3;
          locals' = c ∷ [];
          holds = put''.holds;
          meets = meets_behind c3 m (c ∷ []) c text refl (same_cell c2 28 2 ∙ last) (far 30 (λ z. (omega arith)) (λ z. (omega arith)) ∙ r.lines) (far 31 (λ z. (omega arith)) (λ z. (omega arith)) ∙ r.spaces) (far 32 (λ z. (omega arith)) (λ z. (omega arith)) ∙ r.asked) (other_cell c2 28 2 33 (λ z. (omega arith)) ∙ (other_cell c1 28 1 33 (λ z. (omega arith)) ∙ same_cell r.cells' 33 0));
          others = λ k no28 no30 no31 no32 no33. far k no28 no33 ∙ r.others k no30 no31 no32;
          count = suc r.count + 6;
          few = omega arith;
          runs = rw (sym final) (calls_separate p has f w some enough PRINT_MARK_ACTS (drop 1 PRINT_MARK_ACTS) (atoms.Var 1) memory (c ∷ []) typed output drawn c cells m r (local_1 p memory c [] typed drawn output) (Returns 0) (st m3 out2) 6
              (done (copies p (st r.memory' out1) (st m1 out1) 49 (atoms.Num 0) 0 refl put.put_is)
              (done (says p (st m1 out1) prints.Code (atoms.Var 1) c (c ∷ []) (local_1 p m1 c [] typed drawn out1) (letter_printed m1 c low high))
              (done (copies p (st m1 out2) (st m2 out2) 44 (atoms.Num 1) 1 refl put'.put_is)
              (passed (rw (local_1 p m2 c [] typed drawn out2) (ap (λ (b : Bool). Some b) e))
              (done (copies p (st m2 out2) (st m3 out2) 44 (atoms.Num 2) 2 refl put''.put_is)
              (at_label (returns refl))))))));
        }

pub mark_works : MarkWorks
mark_works p has f w some enough memory typed output drawn c cells h low high same m meets =
    prints_mark p has f w some enough memory typed output drawn c cells h m meets low high same (separate_works p has 0 0 memory typed output drawn c cells h m meets) (among c 40 91 123) refl

-- ## Numbers

abbrev AreDigits : List ℕ → Type 0
AreDigits [] = Unit {0}
AreDigits (d ∷ ds) = ((48 ≤ d) × (d ≤ 57)) × AreDigits ds

record Digits (text : List ℕ) : Type 0 where
  d : ℕ
  ds : List ℕ
  is : text ≡ d ∷ ds
  are : AreDigits (d ∷ ds)

glyph_is : (n : ℕ) → digit_glyph false (n % 10) ≡ 48 + n % 10
glyph_is n = rw (lt-ltb (n % 10) 10 (omega arith)) refl

is_digit : (n : ℕ) → (48 ≤ digit_glyph false (n % 10)) × (digit_glyph false (n % 10) ≤ 57)
is_digit n = let e = glyph_is n in (omega arith, omega arith)

more_digits : (k n d : ℕ) (ds : List ℕ) → AreDigits (d ∷ ds) → Digits (digits_onto k 10 false n (d ∷ ds))
more_digits zero n d ds are = record { d = d; ds = ds; is = refl; are = are }
more_digits (suc k) n d ds are = by_test (more_digits k (n / 10) (digit_glyph false (n % 10)) (d ∷ ds) (is_digit n, are)) (n / 10 == 0) refl
  where
    by_test : Digits (digits_onto k 10 false (n / 10) (digit_glyph false (n % 10) ∷ (d ∷ ds))) → (t : Bool) → (n / 10 == 0) ≡ t → Digits (digits_onto (suc k) 10 false n (d ∷ ds))
    by_test r true e = record { d = digit_glyph false (n % 10); ds = d ∷ ds; is = rw e refl; are = (is_digit n, are) }
    by_test r false e = record { d = r.d; ds = r.ds; is = rw e r.is; are = r.are }

first_digits : (k n : ℕ) → Digits (digits_onto (suc k) 10 false n [])
first_digits k n = by_test (n / 10 == 0) refl
  where
    by_test : (t : Bool) → (n / 10 == 0) ≡ t → Digits (digits_onto (suc k) 10 false n [])
    by_test true e = record { d = digit_glyph false (n % 10); ds = []; is = rw e refl; are = (is_digit n, tt) }
    by_test false e = let r = more_digits k (n / 10) (digit_glyph false (n % 10)) [] (is_digit n, tt) in record { d = r.d; ds = r.ds; is = rw e r.is; are = r.are }

decimal_digits : (n : ℕ) → Digits (decimal n)
unfolding digits
decimal_digits n = first_digits 63 n

record LastDigit (before : Option ℕ) (text : List ℕ) : Type 0 where
  x : ℕ
  is : last_of before text ≡ Some x
  low : 48 ≤ x
  high : x ≤ 57

last_digit : (before : Option ℕ) (d : ℕ) (ds : List ℕ) → AreDigits (d ∷ ds) → LastDigit before (d ∷ ds)
last_digit before d [] are = record { x = d; is = refl; low = are.0.0; high = are.0.1 }
last_digit before d (e ∷ es) are = let r = last_digit (Some d) e es are.1 in record { x = r.x; is = r.is; low = r.low; high = r.high }

opens_not : (x : ℕ) → 48 ≤ x → x ≤ 57 → opens x ≡ false
opens_not x low high = opens_by x ∙ rw (ne_eqb x 40 (λ (e : x ≡ 40). (omega arith)), ne_eqb x 91 (λ (e : x ≡ 91). (omega arith)), ne_eqb x 123 (λ (e : x ≡ 123). (omega arith))) refl

closes_not : (x : ℕ) → 48 ≤ x → x ≤ 57 → closes x ≡ false
closes_not x low high =
    closes_by x
    ∙ rw (
      ne_eqb x 46 (λ (e : x ≡ 46). (omega arith)),
      ne_eqb x 44 (λ (e : x ≡ 44). (omega arith)),
      ne_eqb x 59 (λ (e : x ≡ 59). (omega arith)),
      ne_eqb x 58 (λ (e : x ≡ 58). (omega arith)),
      ne_eqb x 33 (λ (e : x ≡ 33). (omega arith)),
      ne_eqb x 63 (λ (e : x ≡ 63). (omega arith)),
      ne_eqb x 41 (λ (e : x ≡ 41). (omega arith)),
      ne_eqb x 93 (λ (e : x ≡ 93). (omega arith)),
      ne_eqb x 125 (λ (e : x ≡ 125). (omega arith)),
    ) refl

-- what separates pieces looks at whether a character closes alone
space_same : (asked : Option Bool) (before x y : ℕ) → closes x ≡ closes y → space_for asked before x ≡ space_for asked before y
space_same (Some true) before x y e = refl
space_same (Some false) before x y e = refl
space_same None before x y e = ap (λ (t : Bool). if opens before || t then [] else 32 ∷ []) e

pub separator_same : (gap : List Print) (last : Option ℕ) (x y : ℕ) → closes x ≡ closes y → separator gap last x ≡ separator gap last y
separator_same gap None x y e = refl
separator_same gap (Some before) x y e =
    ap (λ (s : List ℕ). if list_any is_par gap then 10 ∷ 10 ∷ spaces_of gap else (if list_any is_line gap then 10 ∷ spaces_of gap else (if nat_lt 0 (spaces_from 0 gap) then spaces_of gap else s)))
    (space_same (last_asked None gap) before x y e)

module _ (p : Program) (has : HasRunTime p) (f w : ℕ) (some : 1 ≤ f) (enough : 1 ≤ w) (memory typed output : List ℕ) (drawn n : ℕ) (cells : ℕ → ℕ) (h : Holds p.world.layout memory cells) (small : n < 16384) (m : Met) (meets : Meets cells m) where
  abbrev at : List ℕ → List ℕ → State
  at mem out = state mem (n ∷ []) typed drawn out

  number_printed : (mem : List ℕ) → print_output mem prints.Number n ≡ some_list (decimal n)
  unfolding print_output
  number_printed mem = rw (positive n (omega arith)) refl

  prints_number : (r : Separates p 0 0 memory typed output drawn 48 cells m) (ds : Digits (decimal n)) → PrintsPiece p f w PRINT_NUMBER_ACTS memory (n ∷ []) typed output drawn cells m (decimal n) 19
  prints_number r ds =
      let room = has.mapped.room in
      let few = r.few in
      let low = ds.are.0.0 in
      let high = ds.are.0.1 in
      let last = last_digit m.last ds.d ds.ds ds.are in
      let low' = last.low in
      let high' = last.high in
      let text : capital m.gap (decimal n) ≡ decimal n = ap (capital m.gap) ds.is ∙ unchanged m.gap ds.d ds.ds (upper_low ds.d (omega arith)) ∙ sym ds.is in
      let last_is : last_of m.last (decimal n) ≡ Some last.x = ap (last_of m.last) ds.is ∙ last.is in
      let first_is : first_of (decimal n) ≡ ds.d = ap first_of ds.is in
      let same : separator m.gap m.last 48 ≡ separator m.gap m.last (first_of (decimal n)) = separator_same m.gap m.last 48 ds.d (sym (closes_not ds.d low high)) ∙ ap (separator m.gap m.last) (sym first_is) in
      let out1 = output ++ separator m.gap m.last 48 in
      let out2 = out1 ++ decimal n in
      let final : out2 ≡ output ++ written m (Piece (decimal n)) = written_is output m 48 (decimal n) text same in
      let m1 = with_cell r.memory' 33 0 in
      let c1 = replaced r.cells' 33 0 in
      let put = puts p (at r.memory' out1) r.cells' 49 0 r.holds (omega arith) (omega arith) (omega arith) (omega arith) in
      let m2 = with_cell m1 28 2 in
      let c2 = replaced c1 28 2 in
      let put' = puts p (at m1 out2) c1 44 2 put.holds (omega arith) (omega arith) (omega arith) (omega arith) in
      let far : (k : ℕ) → k ≢ 28 → k ≢ 33 → c2 k ≡ r.cells' k = λ k no28 no33. other_cell c1 28 2 k no28 ∙ other_cell r.cells' 33 0 k no33 in
      let is_other : 2 ≡ last_word (Some last.x) = sym (cond-false (opens last.x) 1 2 (opens_not last.x low' high')) in
      record {
        memory' = m2;
        cells' = c2;
        locals' = n ∷ [];
        holds = put'.holds;
        meets = meets_behind c2 m (decimal n) last.x text last_is (same_cell c1 28 2 ∙ is_other) (far 30 (λ z. (omega arith)) (λ z. (omega arith)) ∙ r.lines) (far 31 (λ z. (omega arith)) (λ z. (omega arith)) ∙ r.spaces) (far 32 (λ z. (omega arith)) (λ z. (omega arith)) ∙ r.asked) (other_cell c1 28 2 33 (λ z. (omega arith)) ∙ same_cell r.cells' 33 0);
        others = λ k no28 no30 no31 no32 no33. far k no28 no33 ∙ r.others k no30 no31 no32;
        count = suc r.count + 4;
        few = omega arith;
        runs = rw (sym final) (calls_separate p has f w some enough PRINT_NUMBER_ACTS (drop 1 PRINT_NUMBER_ACTS) (atoms.Num 48) memory (n ∷ []) typed output drawn 48 cells m r refl (Returns 0) (at m2 out2) 4
            (done (copies p (at r.memory' out1) (at m1 out1) 49 (atoms.Num 0) 0 refl put.put_is)
            (done (says p (at m1 out1) prints.Number (atoms.Var 1) n (decimal n) (local_1 p m1 n [] typed drawn out1) (number_printed m1))
            (done (copies p (at m1 out2) (at m2 out2) 44 (atoms.Num 2) 2 refl put'.put_is)
            (returns refl)))));
      }

pub number_works : NumberWorks
number_works p has f w some enough memory typed output drawn n cells h small m meets =
    prints_number p has f w some enough memory typed output drawn n cells h small m meets (separate_works p has 0 0 memory typed output drawn 48 cells h m meets) (decimal_digits n)
