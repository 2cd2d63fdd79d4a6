-- The number that letters write.
use Rattle.std.proofs.Common.{◌≡◌, ◌≢◌, ℕ, suc, ◌+◌, ◌-◌, ◌*◌, ◌<◌, ◌≤◌, inl, inr, true, false, List, [], ◌∷◌, drop, length, refl, ap, ◌∙◌, subst, arith}
use Rattle.std.specs.Prelude.{◌&&◌, nat_le, if◌then◌else◌}
use Rattle.std.specs.List.{list_all}
use Rattle.std.proofs.lemmas.Bool.{eq-eqb, ne_eqb, cases_lt, and_left, and_right, le-leb, lt-leb}
use Rattle.dg_meaning.specs.Words.{is_digit, number_behind}
use Rattle.z_lang.specs.declared.act.Atom.TheVariants as atoms
use Rattle.z_lang.specs.declared.act.Comparison.TheVariants as comparisons
use Rattle.z_lang.specs.declared.act.Function.TheVariants as functions
use Rattle.z_lang.specs.State.{State, Program}
use Rattle.z_lang.specs.Runs.{ActsRun as Runs, Returns, at_label, taken, passed, done, returns, behind_label}
use Rattle.dg_rt.specs.declared.typing.TheConstants.{SPELLED_NUMBER_ACTS}
use Rattle.dg_rt.specs.Cells.{compared, at_cell, Holds}
use Rattle.dg_rt.specs.Areas.{state}
use Rattle.dg_rt.specs.Copies.{Row}
use Rattle.dg_rt.specs.Typing.{TellsNumber}
use Rattle.dg_rt.proofs.Cells.{reads_cell}
use Rattle.dg_rt.proofs.WordLetters.{multiplied}
use Rattle.dg_rt.proofs.Following.{word, tested, computes}
use Rattle.dg_rt.proofs.Locals.{added, subtracts, less_by, not_less_by, high_is_less, get_1, get_2, get_3, get_4, set_1, set_3, set_4}

-- What is answered where n was written before.
abbrev counted : ℕ → List ℕ → ℕ
counted n ls = if list_all is_digit ls && nat_le (number_behind n ls) 16383 then number_behind n ls else 65535

number_grows : (n : ℕ) (ls : List ℕ) → n ≤ number_behind n ls
number_grows n [] = omega arith
number_grows n (c ∷ cs) = let e = number_grows (10 * n + (c - 48)) cs in omega arith

no_digit : (n c : ℕ) (cs : List ℕ) → is_digit c ≡ false → counted n (c ∷ cs) ≡ 65535
no_digit n c cs e = rw e refl

too_great : (n : ℕ) (ls : List ℕ) → 16383 < number_behind n ls → counted n ls ≡ 65535
too_great n ls lt = rw (and_right (list_all is_digit ls) (nat_le (number_behind n ls) 16383) (lt-leb (number_behind n ls) 16383 lt)) refl

digit : (c : ℕ) → 48 ≤ c → c < 58 → is_digit c ≡ true
digit c le lt = rw (le-leb 48 c le, le-leb c 57 (omega arith)) refl

digit_on : (n c : ℕ) (cs : List ℕ) → 48 ≤ c → c < 58 → counted n (c ∷ cs) ≡ counted (10 * n + (c - 48)) cs
digit_on n c cs le lt = rw (digit c le lt) refl

low_no_digit : (c : ℕ) → c < 48 → is_digit c ≡ false
low_no_digit c lt = and_left (nat_le 48 c) (nat_le c 57) (lt-leb 48 c lt)

high_no_digit : (c : ℕ) → 58 ≤ c → is_digit c ≡ false
high_no_digit c le = and_right (nat_le 48 c) (nat_le c 57) (lt-leb c 57 (omega arith))

written : (n : ℕ) → n < 16384 → counted n [] ≡ n
written n lt = rw (le-leb n 16383 (omega arith)) refl

module _ (p : Program) (f w : ℕ) (memory typed output : List ℕ) (drawn : ℕ) (cells : ℕ → ℕ) (h : Holds p.world.layout memory cells) where
  abbrev now : ℕ → ℕ → ℕ → ℕ → State
  now a b n d = state memory (a ∷ b ∷ n ∷ d ∷ []) typed drawn output

  record Counts (k end n d : ℕ) (ls : List ℕ) : Type 0 where
    locals' : List ℕ
    count : ℕ
    few : count ≤ 11 * length ls + 1
    runs : Runs p f w SPELLED_NUMBER_ACTS (drop 2 SPELLED_NUMBER_ACTS) (now (at_cell k) end n d) (Returns (counted n ls)) (state memory locals' typed drawn output) count

  module _ (k end n d c : ℕ) (cs : List ℕ) (within : at_cell k + 1 < p.world.layout.base) (small : at_cell k < 65536) (is : cells k ≡ c) where
    abbrev a : ℕ
    a = at_cell k

    to_letter : (v i : ℕ) (s' : State) → Runs p f w SPELLED_NUMBER_ACTS (drop 3 SPELLED_NUMBER_ACTS) (now a end n c) (Returns v) s' i → Runs p f w SPELLED_NUMBER_ACTS (drop 2 SPELLED_NUMBER_ACTS) (now a end n d) (Returns v) s' (suc i)
    to_letter v i s' rest =
        done (computes p (now a end n d) (now a end n c) 4 functions.Word (atoms.Var 1) (atoms.Num 0) a 0 c (get_1 p memory a end n d typed drawn output) refl (reads_cell p.world.layout memory cells a 0 k h (omega arith) within ∙ ap word is) (set_4 p memory a end n d c typed drawn output)) rest

    to_upper : (v i : ℕ) (s' : State) → 48 ≤ c → c < 32768 → Runs p f w SPELLED_NUMBER_ACTS (drop 4 SPELLED_NUMBER_ACTS) (now a end n c) (Returns v) s' i → Runs p f w SPELLED_NUMBER_ACTS (drop 2 SPELLED_NUMBER_ACTS) (now a end n d) (Returns v) s' (suc (suc i))
    to_upper v i s' le low rest =
        to_letter v (suc i) s'
        (passed (tested p (now a end n c) comparisons.Less (atoms.Var 4) (atoms.Num 48) true c 48 false (get_4 p memory a end n c typed drawn output) refl (not_less_by c 48 low (omega arith) le)) rest)

    -- no digit
    below : compared comparisons.Less c 48 ≡ true → is_digit c ≡ false → Counts k end n d (c ∷ cs)
    unfolding behind_label
    below e none = record {
      locals' = a ∷ end ∷ n ∷ c ∷ [];
      count = 3;
      few = omega arith;
      runs = rw (no_digit n c cs none) (to_letter 65535 2 (now a end n c)
          (taken (tested p (now a end n c) comparisons.Less (atoms.Var 4) (atoms.Num 48) true c 48 true (get_4 p memory a end n c typed drawn output) refl e) refl
          (returns refl)));
    }

    above : 58 ≤ c → c < 32768 → Counts k end n d (c ∷ cs)
    unfolding behind_label
    above le low = record {
      locals' = a ∷ end ∷ n ∷ c ∷ [];
      count = 4;
      few = omega arith;
      runs = rw (no_digit n c cs (high_no_digit c le)) (to_upper 65535 2 (now a end n c) (omega arith) low
          (taken (tested p (now a end n c) comparisons.Less (atoms.Var 4) (atoms.Num 58) false c 58 false (get_4 p memory a end n c typed drawn output) refl (not_less_by c 58 low (omega arith) le)) refl
          (returns refl)));
    }

    -- a digit
    module _ (le : 48 ≤ c) (lt : c < 58) (fits : n < 16384) where
      abbrev e : ℕ
      e = c - 48

      abbrev x : ℕ
      x = 10 * n + (c - 48)

      too_many : 1639 ≤ n → Counts k end n d (c ∷ cs)
      unfolding behind_label
      too_many many =
          let grows = number_grows (10 * n + (c - 48)) cs in
          record {
            locals' = a ∷ end ∷ n ∷ c ∷ [];
            count = 5;
            few = omega arith;
            runs = rw (too_great n (c ∷ cs) (omega arith)) (to_upper 65535 3 (now a end n c) le (omega arith)
                (passed (tested p (now a end n c) comparisons.Less (atoms.Var 4) (atoms.Num 58) false c 58 true (get_4 p memory a end n c typed drawn output) refl (less_by c 58 (omega arith) (omega arith) lt))
                (taken (tested p (now a end n c) comparisons.Less (atoms.Var 3) (atoms.Num 1639) false n 1639 false (get_3 p memory a end n c typed drawn output) refl (not_less_by n 1639 (omega arith) (omega arith) many)) refl
                (returns refl))));
          }

      -- up to the sum
      to_sum : (v i : ℕ) (s' : State) → n < 1639 → Runs p f w SPELLED_NUMBER_ACTS (drop 9 SPELLED_NUMBER_ACTS) (now a end x e) (Returns v) s' i → Runs p f w SPELLED_NUMBER_ACTS (drop 2 SPELLED_NUMBER_ACTS) (now a end n d) (Returns v) s' (suc (suc (suc (suc (suc (suc (suc i)))))))
      to_sum v i s' few rest =
          let y = n * 10 in
          to_upper v (suc (suc (suc (suc (suc i))))) s' le (omega arith)
          (passed (tested p (now a end n c) comparisons.Less (atoms.Var 4) (atoms.Num 58) false c 58 true (get_4 p memory a end n c typed drawn output) refl (less_by c 58 (omega arith) (omega arith) lt))
          (passed (tested p (now a end n c) comparisons.Less (atoms.Var 3) (atoms.Num 1639) false n 1639 true (get_3 p memory a end n c typed drawn output) refl (less_by n 1639 (omega arith) (omega arith) few))
          (done (computes p (now a end n c) (now a end y c) 3 functions.Mul (atoms.Var 3) (atoms.Num 10) n 10 y (get_3 p memory a end n c typed drawn output) refl (multiplied p memory n 10 y (omega arith)) (set_3 p memory a end n c y typed drawn output))
          (done (computes p (now a end y c) (now a end y e) 4 functions.Sub (atoms.Var 4) (atoms.Num 48) c 48 e (get_4 p memory a end y c typed drawn output) refl (subtracts p memory c 48 e (omega arith) (omega arith)) (set_4 p memory a end y c e typed drawn output))
          (done (computes p (now a end y e) (now a end x e) 3 functions.Add (atoms.Var 3) (atoms.Var 4) y e x (get_3 p memory a end y e typed drawn output) (get_4 p memory a end y e typed drawn output) (added p memory y e x (omega arith)) (set_3 p memory a end y e x typed drawn output))
          rest)))))

      sum_too_great : n < 1639 → 16384 ≤ x → Counts k end n d (c ∷ cs)
      unfolding behind_label
      sum_too_great few many =
          let grows = number_grows (10 * n + (c - 48)) cs in
          record {
            locals' = a ∷ end ∷ x ∷ e ∷ [];
            count = 9;
            few = omega arith;
            runs = rw (too_great n (c ∷ cs) (omega arith)) (to_sum 65535 2 (now a end x e) few
                (taken (tested p (now a end x e) comparisons.Less (atoms.Var 3) (atoms.Num 16384) false x 16384 false (get_3 p memory a end x e typed drawn output) refl (not_less_by x 16384 (omega arith) (omega arith) many)) refl
                (returns refl)));
          }

      -- up to the test of the end
      to_end : (v i : ℕ) (s' : State) → n < 1639 → x < 16384 → at_cell (suc k) < 65536 → Runs p f w SPELLED_NUMBER_ACTS (drop 11 SPELLED_NUMBER_ACTS) (now (at_cell (suc k)) end x e) (Returns v) s' i → Runs p f w SPELLED_NUMBER_ACTS (drop 2 SPELLED_NUMBER_ACTS) (now a end n d) (Returns v) s' (suc (suc (suc (suc (suc (suc (suc (suc (suc i)))))))))
      to_end v i s' few less next rest =
          let a' = at_cell (suc k) in
          to_sum v (suc (suc i)) s' few
          (passed (tested p (now a end x e) comparisons.Less (atoms.Var 3) (atoms.Num 16384) false x 16384 true (get_3 p memory a end x e typed drawn output) refl (less_by x 16384 (omega arith) (omega arith) less))
          (done (computes p (now a end x e) (now a' end x e) 1 functions.Add (atoms.Var 1) (atoms.Num 2) a 2 a' (get_1 p memory a end x e typed drawn output) refl (added p memory a 2 a' (omega arith)) (set_1 p memory a end x e a' typed drawn output))
          rest))

      last : n < 1639 → x < 16384 → cs ≡ [] → at_cell (suc k) ≡ end → end < 65536 → Counts k end n d (c ∷ cs)
      last few less none is_end low =
          let a' = at_cell (suc k) in
          let all : counted n (c ∷ cs) ≡ x = digit_on n c cs le lt ∙ ap (counted x) none ∙ written x less in
          record {
            locals' = a' ∷ end ∷ x ∷ e ∷ [];
            count = 11;
            few = omega arith;
            runs = rw all (to_end x 2 (now a' end x e) few less (omega arith)
                (passed (tested p (now a' end x e) comparisons.Equal (atoms.Var 1) (atoms.Var 2) false a' end true (get_1 p memory a' end x e typed drawn output) (get_2 p memory a' end x e typed drawn output) (eq-eqb a' end is_end))
                (returns (get_3 p memory a' end x e typed drawn output))));
          }

      on : n < 1639 → x < 16384 → at_cell (suc k) ≢ end → at_cell (suc k) < 65536 → Counts (suc k) end x e cs → Counts k end n d (c ∷ cs)
      unfolding behind_label
      on few less ne low rest =
          let a' = at_cell (suc k) in
          let few' = rest.few in
          record {
            locals' = rest.locals';
            count = suc (suc (suc (suc (suc (suc (suc (suc (suc (suc rest.count)))))))));
            few = omega arith;
            runs = rw (digit_on n c cs le lt) (to_end (counted x cs) (suc rest.count) (state memory rest.locals' typed drawn output) few less low
                (taken (tested p (now a' end x e) comparisons.Equal (atoms.Var 1) (atoms.Var 2) false a' end false (get_1 p memory a' end x e typed drawn output) (get_2 p memory a' end x e typed drawn output) (ne_eqb a' end ne)) refl
                rest.runs));
          }

  counts : (ls : List ℕ) (k end n d : ℕ) → 0 < length ls → n < 16384 → end ≡ at_cell (k + length ls) → end ≤ p.world.layout.base → end < 65536 → Row cells k ls → Counts k end n d ls
  counts [] k end n d some fits is_end within small row = absurd (omega arith)
  counts (c ∷ []) k end n d some fits is_end within small row =
      let high = h.words k in
      elim (cases_lt c 48) [
        | inl low ↦ below k end n d c [] (omega arith) (omega arith) row.0 (less_by c 48 (omega arith) (omega arith) low) (low_no_digit c low)
        | inr le ↦ elim (cases_lt c 58) [
          | inl lt ↦ elim (cases_lt n 1639) [
            | inr many ↦ too_many k end n d c [] (omega arith) (omega arith) row.0 le lt fits many
            | inl few ↦ elim (cases_lt (10 * n + (c - 48)) 16384) [
              | inr many ↦ sum_too_great k end n d c [] (omega arith) (omega arith) row.0 le lt fits few many
              | inl less ↦ last k end n d c [] (omega arith) (omega arith) row.0 le lt fits few less refl (omega arith) small
            ]
          ]
          | inr le' ↦ elim (cases_lt c 32768) [
            | inl pos ↦ above k end n d c [] (omega arith) (omega arith) row.0 le' pos
            | inr big ↦ below k end n d c [] (omega arith) (omega arith) row.0 (high_is_less c 48 big (subst (λ (y : ℕ). y < 65536) row.0 high) (omega arith)) (high_no_digit c le')
          ]
        ]
      ]
  counts (c ∷ c2 ∷ cs) k end n d some fits is_end within small row =
      let high = h.words k in
      elim (cases_lt c 48) [
        | inl low ↦ below k end n d c (c2 ∷ cs) (omega arith) (omega arith) row.0 (less_by c 48 (omega arith) (omega arith) low) (low_no_digit c low)
        | inr le ↦ elim (cases_lt c 58) [
          | inl lt ↦ elim (cases_lt n 1639) [
            | inr many ↦ too_many k end n d c (c2 ∷ cs) (omega arith) (omega arith) row.0 le lt fits many
            | inl few ↦ elim (cases_lt (10 * n + (c - 48)) 16384) [
              | inr many ↦ sum_too_great k end n d c (c2 ∷ cs) (omega arith) (omega arith) row.0 le lt fits few many
              | inl less ↦ on k end n d c (c2 ∷ cs) (omega arith) (omega arith) row.0 le lt fits few less (λ (q : at_cell (suc k) ≡ end). (omega arith)) (omega arith) (counts (c2 ∷ cs) (suc k) end (10 * n + (c - 48)) (c - 48) (omega arith) less (omega arith) within small row.1)
            ]
          ]
          | inr le' ↦ elim (cases_lt c 32768) [
            | inl pos ↦ above k end n d c (c2 ∷ cs) (omega arith) (omega arith) row.0 le' pos
            | inr big ↦ below k end n d c (c2 ∷ cs) (omega arith) (omega arith) row.0 (high_is_less c 48 big (subst (λ (y : ℕ). y < 65536) row.0 high) (omega arith)) (high_no_digit c le')
          ]
        ]
      ]

  pub tells_number : (k : ℕ) (letters : List ℕ) → at_cell (k + length letters) ≤ p.world.layout.base → at_cell (k + length letters) < 65536 → Row cells k letters → TellsNumber p f w memory typed output drawn k letters
  unfolding behind_label
  tells_number k [] within small row =
      let e : at_cell k ≡ at_cell (k + 0) = omega arith in
      record {
        locals' = at_cell k ∷ at_cell (k + 0) ∷ 0 ∷ 0 ∷ [];
        count = 2;
        few = omega arith;
        runs = taken (tested p (now (at_cell k) (at_cell (k + 0)) 0 0) comparisons.Equal (atoms.Var 1) (atoms.Var 2) true (at_cell k) (at_cell (k + 0)) true (get_1 p memory (at_cell k) (at_cell (k + 0)) 0 0 typed drawn output) (get_2 p memory (at_cell k) (at_cell (k + 0)) 0 0 typed drawn output) (eq-eqb (at_cell k) (at_cell (k + 0)) e)) refl (returns refl);
      }
  tells_number k (c ∷ cs) within small row =
      let end = at_cell (k + length (c ∷ cs)) in
      let r = counts (c ∷ cs) k end 0 0 (omega arith) (omega arith) refl within small row in
      let few = r.few in
      record {
        locals' = r.locals';
        count = suc r.count;
        few = omega arith;
        runs = passed (tested p (now (at_cell k) end 0 0) comparisons.Equal (atoms.Var 1) (atoms.Var 2) true (at_cell k) end false (get_1 p memory (at_cell k) end 0 0 typed drawn output) (get_2 p memory (at_cell k) end 0 0 typed drawn output) (ne_eqb (at_cell k) end (λ (q : at_cell k ≡ end). (omega arith)))) (at_label r.runs);
      }
