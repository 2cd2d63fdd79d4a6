-- The routine that prints the first character of a piece does so.
use Rattle.std.proofs.Common.{◌≡◌, ℕ, suc, ◌+◌, ◌-◌, ◌/◌, ◌<◌, ◌≤◌, inl, inr, Bool, true, false, List, [], ◌∷◌, ◌++◌, drop, Some, None, refl, sym, ap, ◌∙◌, arith}
use Rattle.std.specs.List.{list_any}
use Rattle.std.proofs.lemmas.Bool.{ne_eqb, lt-ltb, le-ltb, lt-leb, le-leb, cases_lt}
use Rattle.std.proofs.Math.Utf8.{encode}
use Rattle.dg_meaning.specs.World.{Print}
use Rattle.dg_meaning.specs.Render.{is_upper, upper, capital}
use Rattle.z_model.specs.Zscii.{is_character}
use Rattle.z_lang.specs.declared.act.Act.{Act}
use Rattle.z_lang.specs.declared.act.Act.TheVariants as acts
use Rattle.z_lang.specs.declared.act.Args.TheVariants as args
use Rattle.z_lang.specs.declared.act.Atom.{Atom}
use Rattle.z_lang.specs.declared.act.Atom.TheVariants as atoms
use Rattle.z_lang.specs.declared.act.Comparison.TheVariants as comparisons
use Rattle.z_lang.specs.declared.act.Function.TheVariants as functions
use Rattle.z_lang.specs.declared.act.Print.TheVariants as prints
use Rattle.z_lang.specs.State.{State, Program, value}
use Rattle.z_lang.specs.Acts.{answer_of, print_output}
use Rattle.z_lang.specs.Runs.{ActsRun as Runs, ActsOutcome as Outcome, Returns, at_label, taken, passed, done, calls, returns, behind_label}
use Rattle.dg_rt.specs.declared.numbers.TheConstants.{FIRST}
use Rattle.dg_rt.specs.declared.gaps.TheConstants.{FIRST_ACTS}
use Rattle.dg_rt.specs.Cells.{compared, with_cell, replaced, Holds, bit}
use Rattle.dg_rt.specs.Areas.{state}
use Rattle.dg_rt.specs.RunTime.{HasRunTime}
use Rattle.dg_rt.specs.Gaps.{PrintsFirst, FirstWorks}
use Rattle.dg_rt.proofs.Cells.{some_list, other_cell, same_cell}
use Rattle.dg_rt.proofs.Closing.{itself}
use Rattle.dg_rt.proofs.Following.{word, tested, computes, copies, says, register, puts, local_1, put_1}
use Rattle.dg_rt.proofs.Locals.{subtracts, less_by, not_less_by, more_by, not_more_by, high_is_less}
use Rattle.dg_rt.proofs.Standing.{first_at}

-- ## Capitals

pub upper_low : (b : ℕ) → b < 97 → upper b ≡ b
upper_low b lt = rw (lt-leb 97 b lt) refl

pub upper_high : (b : ℕ) → 122 < b → upper b ≡ b
upper_high b lt = rw (le-leb 97 b (omega arith), lt-leb b 122 lt) refl

pub upper_letter : (b : ℕ) → 97 ≤ b → b ≤ 122 → upper b ≡ b - 32
upper_letter b le le' = rw (le-leb 97 b le, le-leb b 122 le') refl

-- what isn't asked to be a capital
pub as_it_is : (gap : List Print) (bs : List ℕ) → list_any is_upper gap ≡ false → capital gap bs ≡ bs
as_it_is gap [] e = refl
as_it_is gap (b ∷ bs) e = rw e refl

pub capital_of : (gap : List Print) (b : ℕ) (bs : List ℕ) → list_any is_upper gap ≡ true → capital gap (b ∷ bs) ≡ upper b ∷ bs
capital_of gap b bs e = rw e refl

pub same_capital : (gap : List Print) (b : ℕ) (bs : List ℕ) → list_any is_upper gap ≡ true → upper b ≡ b → capital gap (b ∷ bs) ≡ b ∷ bs
same_capital gap b bs e same = capital_of gap b bs e ∙ ap (λ (x : ℕ). x ∷ bs) same

-- a character that is no letter of ASCII
capital_long : (gap : List Print) (c : ℕ) → list_any is_upper gap ≡ true → 128 ≤ c → c < 65536 → capital gap (encode c) ≡ encode c
unfolding encode
capital_long gap c e le lt =
    elim (cases_lt c 2048) [
      | inl short ↦ rw (le-ltb c 128 le, lt-ltb c 2048 short) (same_capital gap (192 + c / 64) _ e (upper_high (192 + c / 64) (omega arith)))
      | inr long ↦ rw (le-ltb c 128 le, le-ltb c 2048 long, lt-ltb c 65536 lt) (same_capital gap (224 + c / 4096) _ e (upper_high (224 + c / 4096) (omega arith)))
    ]

capital_short : (gap : List Print) (c : ℕ) → list_any is_upper gap ≡ true → c < 128 → upper c ≡ c → capital gap (encode c) ≡ encode c
capital_short gap c e lt same = ap (capital gap) (itself c lt) ∙ same_capital gap c [] e same ∙ sym (itself c lt)

capital_low : (gap : List Print) (c : ℕ) → list_any is_upper gap ≡ true → c < 97 → capital gap (encode c) ≡ encode c
capital_low gap c e lt = capital_short gap c e (omega arith) (upper_low c lt)

capital_high : (gap : List Print) (c : ℕ) → list_any is_upper gap ≡ true → 122 < c → c < 65536 → capital gap (encode c) ≡ encode c
capital_high gap c e le lt =
    elim (cases_lt c 128) [
      | inl short ↦ capital_short gap c e short (upper_high c le)
      | inr long ↦ capital_long gap c e long lt
    ]

capital_letter : (gap : List Print) (c d : ℕ) → list_any is_upper gap ≡ true → 97 ≤ c → c ≤ 122 → d ≡ c - 32 → capital gap (encode c) ≡ encode d
capital_letter gap c d e le le' is =
    ap (capital gap) (itself c (omega arith)) ∙ capital_of gap c [] e ∙ ap (λ (x : ℕ). x ∷ []) (upper_letter c le le' ∙ sym is) ∙ sym (itself d (omega arith))

letter_is_one : (d : ℕ) → 31 < d → d < 127 → is_character d ≡ true
letter_is_one d low high = rw (lt-ltb 31 d low, ne_eqb d 127 (λ (e : d ≡ 127). (omega arith)), le-ltb 55295 d (omega arith)) refl

pub printed : (memory : List ℕ) (c : ℕ) → is_character c ≡ true → print_output memory prints.Unicode c ≡ some_list (encode c)
unfolding print_output
printed memory c e = rw e refl

-- ## The routine

module _ (p : Program) (has : HasRunTime p) (f w : ℕ) (memory typed output : List ℕ) (drawn c : ℕ) (cells : ℕ → ℕ) (h : Holds p.world.layout memory cells) (small : c < 65536) (is_one : is_character c ≡ true) (gap : List Print) where
  abbrev st : List ℕ → ℕ → List ℕ → State
  st m x out = state m (x ∷ []) typed drawn out

  prints_it : (m : List ℕ) (x : ℕ) → is_character x ≡ true → Runs p f w FIRST_ACTS (drop 6 FIRST_ACTS) (st m x output) (Returns 0) (st m x (output ++ encode x)) 2
  prints_it m x e = done (says p (st m x output) prints.Unicode (atoms.Var 1) x (encode x) (local_1 p m x [] typed drawn output) (printed m x e)) (returns refl)

  plain : list_any is_upper gap ≡ false → cells 33 ≡ 0 → PrintsFirst p f w memory typed output drawn c cells gap
  unfolding behind_label
  plain off none =
      let room = has.mapped.room in
      let text = as_it_is gap (encode c) off in
      record {
        memory' = memory;
        cells' = cells;
        locals' = c ∷ [];
        holds = h;
        upper = none;
        others = λ k ne. refl;
        count = 3;
        few = omega arith;
        runs = taken (tested p (st memory c output) comparisons.Equal (atoms.Var 49) (atoms.Num 0) true 0 0 true (register p (st memory c output) cells 49 h (omega arith) (omega arith) (omega arith) ∙ ap word none) refl refl) refl (rw text (prints_it memory c is_one));
      }

  module _ (on : list_any is_upper gap ≡ true) (one : cells 33 ≡ 1) where
    abbrev m1 : List ℕ
    m1 = with_cell memory 33 0

    -- the rest, where the letter is told
    capitals : (x n : ℕ) → n ≤ 5 → Runs p f w FIRST_ACTS (drop 2 FIRST_ACTS) (st m1 c output) (Returns 0) (st m1 x (output ++ capital gap (encode c))) n → PrintsFirst p f w memory typed output drawn c cells gap
    capitals x n few rest =
        let room = has.mapped.room in
        let put = puts p (st memory c output) cells 49 0 h (omega arith) (omega arith) (omega arith) (omega arith) in
        record {
          memory' = m1;
          cells' = replaced cells 33 0;
          locals' = x ∷ [];
          holds = put.holds;
          upper = same_cell cells 33 0;
          others = λ k ne. other_cell cells 33 0 k ne;
          count = suc (suc n);
          few = omega arith;
          runs = passed (tested p (st memory c output) comparisons.Equal (atoms.Var 49) (atoms.Num 0) true 1 0 false (register p (st memory c output) cells 49 h (omega arith) (omega arith) (omega arith) ∙ ap word one) refl refl)
              (done (copies p (st memory c output) (st m1 c output) 49 (atoms.Num 0) 0 refl put.put_is) rest);
        }

    less : (t : Bool) → compared comparisons.Less c 97 ≡ t → answer_of p (st m1 c output) (record { comparison = comparisons.Less; first = atoms.Var 1; second = atoms.Num 97; answer = true }) ≡ Some t
    less t e = tested p (st m1 c output) comparisons.Less (atoms.Var 1) (atoms.Num 97) true c 97 t (local_1 p m1 c [] typed drawn output) refl e

    more : (t : Bool) → compared comparisons.Greater c 122 ≡ t → answer_of p (st m1 c output) (record { comparison = comparisons.Greater; first = atoms.Var 1; second = atoms.Num 122; answer = true }) ≡ Some t
    more t e = tested p (st m1 c output) comparisons.Greater (atoms.Var 1) (atoms.Num 122) true c 122 t (local_1 p m1 c [] typed drawn output) refl e

    no_letter : compared comparisons.Less c 97 ≡ true → capital gap (encode c) ≡ encode c → PrintsFirst p f w memory typed output drawn c cells gap
    unfolding behind_label
    no_letter t text = capitals c 3 (omega arith) (rw text (taken (less true t) refl (prints_it m1 c is_one)))

    behind_z : 122 < c → c < 32768 → PrintsFirst p f w memory typed output drawn c cells gap
    unfolding behind_label
    behind_z le lt =
        let text = capital_high gap c on le small in
        capitals c 4 (omega arith) (rw text (passed (less false (not_less_by c 97 lt (omega arith) (omega arith))) (taken (more true (more_by c 122 lt (omega arith) le)) refl (prints_it m1 c is_one))))

    letter : 97 ≤ c → c ≤ 122 → PrintsFirst p f w memory typed output drawn c cells gap
    letter le le' =
        let d = c - 32 in
        let text = capital_letter gap c d on le le' refl in
        capitals d 5 (omega arith) (rw text (passed (less false (not_less_by c 97 (omega arith) (omega arith) le)) (passed (more false (not_more_by c 122 (omega arith) (omega arith) le'))
        (done (computes p (st m1 c output) (st m1 d output) 1 functions.Sub (atoms.Var 1) (atoms.Num 32) c 32 d (local_1 p m1 c [] typed drawn output) refl (subtracts p m1 c 32 d (omega arith) small) (put_1 p m1 c d [] typed drawn output))
        (at_label (prints_it m1 d (letter_is_one d (omega arith) (omega arith))))))))

    by_letter : PrintsFirst p f w memory typed output drawn c cells gap
    by_letter =
        elim (cases_lt c 97) [
          | inl low ↦ no_letter (less_by c 97 (omega arith) (omega arith) low) (capital_low gap c on low)
          | inr le ↦ elim (cases_lt 122 c) [
            | inr le' ↦ letter le le'
            | inl high ↦ elim (cases_lt c 32768) [
              | inl lt ↦ behind_z high lt
              | inr far ↦ no_letter (high_is_less c 97 far small (omega arith)) (capital_high gap c on high small)
            ]
          ]
        ]

  by_upper : (t : Bool) → list_any is_upper gap ≡ t → cells 33 ≡ bit t → PrintsFirst p f w memory typed output drawn c cells gap
  by_upper true on one = by_letter on one
  by_upper false off none = plain off none

pub first_works : FirstWorks
first_works p has f w memory typed output drawn first cells h small is_one gap e = by_upper p has f w memory typed output drawn first cells h small is_one gap (list_any is_upper gap) refl e

-- It is called with a character.
pub calls_first : (p : Program) (has : HasRunTime p) (f w : ℕ) → 1 ≤ f → 1 ≤ w → (body rest : List Act) (a : Atom) (memory locals typed output : List ℕ) (drawn first : ℕ) (cells : ℕ → ℕ) (gap : List Print) (r : PrintsFirst p 0 0 memory typed output drawn first cells gap) → value p (state memory locals typed drawn output) a ≡ word first →
    (o : Outcome) (s' : State) (n : ℕ) → Runs p f w body rest (state r.memory' locals typed drawn (output ++ capital gap (encode first))) o s' n → Runs p f w body (acts.Call None (atoms.Routine FIRST) (args.One a) ∷ rest) (state memory locals typed drawn output) o s' (suc r.count + n)
calls_first p has f w some enough body rest a memory locals typed output drawn first cells gap r e o s' n q =
    calls {f' = 0} {w' = 0} {n = r.count} {n' = n} {xs = (first, 0, 0)} {s1 = state r.memory' r.locals' typed drawn (output ++ capital gap (encode first))} {s2 = state r.memory' locals typed drawn (output ++ capital gap (encode first))} refl (rw e refl) (first_at p has) some enough r.runs refl q
