-- The routine that prints an unknown word does so.
use Rattle.std.proofs.Common.{◌≡◌, ◌≢◌, ℕ, suc, ◌+◌, ◌*◌, ◌<◌, ◌≤◌, inl, inr, Bool, true, false, List, [], ◌∷◌, ◌++◌, drop, length, map, Some, refl, sym, ap, ◌∙◌, subst, arith, append_assoc}
use Rattle.std.specs.Prelude.{◌==◌, if◌then◌else◌, encode_utf8_all}
use Rattle.std.proofs.lemmas.Bool.{eq-eqb, ne_eqb, lt-ltb, le-ltb, cases_lt, cond-true, cond-false}
use Rattle.std.proofs.lemmas.List.{append-nil}
use Rattle.std.proofs.Math.Utf8.{encode}
use Rattle.dg_meaning.specs.Substitutions.{Substitution}
use Rattle.dg_meaning.specs.World.{Piece}
use Rattle.dg_meaning.specs.Pieces.{shown_letter, word_text}
use Rattle.dg_meaning.specs.Render.{opens, capital, separator, first_of, last_of, Met, written}
use Rattle.z_lang.specs.declared.act.Act.{Act}
use Rattle.z_lang.specs.declared.act.Act.TheVariants as acts
use Rattle.z_lang.specs.declared.act.Args.TheVariants as args
use Rattle.z_lang.specs.declared.act.Atom.TheVariants as atoms
use Rattle.z_lang.specs.declared.act.Comparison.TheVariants as comparisons
use Rattle.z_lang.specs.declared.act.Function.TheVariants as functions
use Rattle.z_lang.specs.declared.act.Print.TheVariants as prints
use Rattle.z_lang.specs.State.{State, Program}
use Rattle.z_lang.specs.Acts.{answer_of}
use Rattle.z_lang.specs.Runs.{ActsRun as Runs, ActsOutcome as Outcome, Returns, at_label, taken, passed, done, goes, calls, returns, behind_label}
use Rattle.dg_rt.specs.declared.numbers.TheConstants.{LETTER}
use Rattle.dg_rt.specs.declared.pieces.TheConstants.{LETTER_ACTS, PRINT_LETTERS_ACTS}
use Rattle.dg_rt.specs.Cells.{compared, with_cell, replaced, Holds}
use Rattle.dg_rt.specs.Areas.{heap_at, state, IsMapped}
use Rattle.dg_rt.specs.RunTime.{HasRunTime}
use Rattle.dg_rt.specs.Shapes.{Shape, IsShape, Letters, ArePrinted, boxed, word_in, Stands}
use Rattle.dg_rt.specs.Gaps.{last_word, Meets, Separates, PrintsFirst}
use Rattle.dg_rt.specs.Pieces.{PrintsPiece, LettersWork}
use Rattle.dg_rt.proofs.Cells.{reads_cell, other_cell, same_cell}
use Rattle.dg_rt.proofs.Encoding.{encoded, last_in, AllSmall, text_ends, capital_on}
use Rattle.dg_rt.proofs.First.{printed, first_works, calls_first}
use Rattle.dg_rt.proofs.Following.{word, tested, computes, copies, says, puts, local_1, local_2, local_3, put_1, put_2, put_3}
use Rattle.dg_rt.proofs.Locals.{added, high_less, high_not_less, low_not_less}
use Rattle.dg_rt.proofs.Marks.{opens_by, separator_same}
use Rattle.dg_rt.proofs.Separating.{among, separate_works, calls_separate}
use Rattle.dg_rt.proofs.Showing.{letters_low}
use Rattle.dg_rt.proofs.Standing.{letter_at}

-- ## One letter

shown_low : (c : ℕ) → c < 55296 → shown_letter c ≡ c
shown_low c lt = rw (lt-ltb c 55296 lt) refl

shown_high : (c : ℕ) → 57344 ≤ c → shown_letter c ≡ c
shown_high c le = rw (le-ltb c 55296 (omega arith), le-ltb c 57344 le) refl

shown_mark : (c : ℕ) → 55296 ≤ c → c < 57344 → shown_letter c ≡ 63
shown_mark c le lt = rw (le-ltb c 55296 le, lt-ltb c 57344 lt) refl

shown_small : (c : ℕ) → c < 65536 → shown_letter c < 65536
shown_small c lt =
    elim (cases_lt c 55296) [
      | inl low ↦ (let e = shown_low c low in omega arith)
      | inr le ↦ elim (cases_lt c 57344) [
        | inl mid ↦ (let e = shown_mark c le mid in omega arith)
        | inr high ↦ (let e = shown_high c high in omega arith)
      ]
    ]

record Told (p : Program) (memory typed output : List ℕ) (drawn j c : ℕ) : Type 0 where
  locals' : List ℕ
  count : ℕ
  few : count ≤ 4
  runs : Runs p 0 0 LETTER_ACTS LETTER_ACTS (state memory ((49152 + j) ∷ []) typed drawn output) (Returns (shown_letter c)) (state memory locals' typed drawn output) count

module _ (p : Program) (map' : IsMapped p) (memory typed output : List ℕ) (drawn j c : ℕ) (cells : ℕ → ℕ) (h : Holds p.world.layout memory cells) (is : cells (heap_at + (j + 3)) ≡ c) (low : j + 3 < 10000) (small : c < 65536) where
  abbrev one : ℕ → State
  one x = state memory (x ∷ []) typed drawn output

  -- up to the tests
  reads : (x n : ℕ) (s' : State) → Runs p 0 0 LETTER_ACTS (drop 1 LETTER_ACTS) (one c) (Returns x) s' n → Runs p 0 0 LETTER_ACTS LETTER_ACTS (one (49152 + j)) (Returns x) s' (suc n)
  reads x n s' rest =
      let room = map'.room in
      done (computes p (one (49152 + j)) (one c) 1 functions.Word (atoms.Num 33444) (atoms.Var 1) 33444 (49152 + j) c refl (local_1 p memory (49152 + j) [] typed drawn output) (reads_cell p.world.layout memory cells 33444 (49152 + j) (heap_at + (j + 3)) h (omega arith) (omega arith) ∙ ap word is) (put_1 p memory (49152 + j) c [] typed drawn output)) rest

  below : (k : ℕ) (answer t : Bool) → compared comparisons.Less c k ≡ t → answer_of p (one c) (record { comparison = comparisons.Less; first = atoms.Var 1; second = atoms.Num k; answer = answer }) ≡ Some t
  below k answer t e = tested p (one c) comparisons.Less (atoms.Var 1) (atoms.Num k) answer c k t (local_1 p memory c [] typed drawn output) refl e

  itself_at_once : compared comparisons.Less c 57344 ≡ false → shown_letter c ≡ c → Told p memory typed output drawn j c
  unfolding behind_label
  itself_at_once e same = record {
    locals' = c ∷ [];
    count = 3;
    few = omega arith;
    runs = rw same (reads c 2 (one c) (taken (below 57344 false false e) refl (returns (local_1 p memory c [] typed drawn output))));
  }

  itself_then : compared comparisons.Less c 57344 ≡ true → compared comparisons.Less c 55296 ≡ true → shown_letter c ≡ c → Told p memory typed output drawn j c
  unfolding behind_label
  itself_then e e' same = record {
    locals' = c ∷ [];
    count = 4;
    few = omega arith;
    runs = rw same (reads c 3 (one c) (passed (below 57344 false true e) (taken (below 55296 true true e') refl (returns (local_1 p memory c [] typed drawn output)))));
  }

  question : compared comparisons.Less c 57344 ≡ true → compared comparisons.Less c 55296 ≡ false → shown_letter c ≡ 63 → Told p memory typed output drawn j c
  question e e' same = record {
    locals' = c ∷ [];
    count = 4;
    few = omega arith;
    runs = rw same (reads 63 3 (one c) (passed (below 57344 false true e) (passed (below 55296 true false e') (returns refl))));
  }

  tells_letter : Told p memory typed output drawn j c
  tells_letter =
      elim (cases_lt c 32768) [
        | inl pos ↦ itself_at_once (low_not_less c 57344 pos (omega arith) (omega arith)) (shown_low c (omega arith))
        | inr le ↦ elim (cases_lt c 55296) [
          | inl lt ↦ itself_then (high_less c 57344 le (omega arith) (omega arith)) (high_less c 55296 le lt (omega arith)) (shown_low c lt)
          | inr le' ↦ elim (cases_lt c 57344) [
            | inl lt' ↦ question (high_less c 57344 le lt' (omega arith)) (high_not_less c 55296 (omega arith) le' small) (shown_mark c le' lt')
            | inr high ↦ itself_at_once (high_not_less c 57344 (omega arith) high small) (shown_high c high)
          ]
        ]
      ]

-- ## Where letters lie

-- Letters lie in the words of a box from a place on.
abbrev pub LieAt : (ℕ → ℕ) → ℕ → List ℕ → Type 0
LieAt cells j [] = Unit {0}
LieAt cells j (x ∷ xs) = ((cells (heap_at + (j + 3)) ≡ x) × (j + 3 < 10000)) × LieAt cells (suc j) xs

pub lie_at : (sh : Shape) → IsShape sh → (cells : ℕ → ℕ) (S : Substitution) → Stands sh cells S → (i j : ℕ) (xs : List ℕ) → i ≡ j + 3 → Letters sh i xs → LieAt cells j xs
lie_at sh is cells S st i j [] e l = tt
lie_at sh is cells S st i j (x ∷ xs) e l =
    let top = is.room in
    let low = l.0.fixed.0 in
    let here : cells (heap_at + (j + 3)) ≡ x = ap (λ (k : ℕ). cells (heap_at + k)) (sym e) ∙ st.fixed i (omega arith) l.0.fixed ∙ l.0.is in
    ((here, omega arith), lie_at sh is cells S st (suc i) (suc j) xs (omega arith) l.1)

pub lie_still : (cells cells' : ℕ → ℕ) → ((k : ℕ) → 303 ≤ k → cells' k ≡ cells k) → (j : ℕ) (xs : List ℕ) → LieAt cells j xs → LieAt cells' j xs
lie_still cells cells' same j [] l = tt
lie_still cells cells' same j (x ∷ xs) l = ((same (heap_at + (j + 3)) (omega arith) ∙ l.0.0, l.0.1), lie_still cells cells' same (suc j) xs l.1)

pub shown_all_small : (cs : List ℕ) → ArePrinted cs → AllSmall (map shown_letter cs)
shown_all_small [] h = tt
shown_all_small (c ∷ cs) h = (shown_small c h.0.0, shown_all_small cs h.1)

-- ## The routine

module _ (p : Program) (has : HasRunTime p) (f w : ℕ) (some : 1 ≤ f) (enough : 1 ≤ w) (typed : List ℕ) (drawn : ℕ) where
  abbrev st : List ℕ → ℕ → ℕ → ℕ → List ℕ → State
  st m a b d out = state m (a ∷ b ∷ d ∷ []) typed drawn out

  abbrev call_letter : Act
  call_letter = acts.Call (Some 3) (atoms.Routine LETTER) (args.One (atoms.Var 1))

  -- a letter is looked at
  fetches : (memory : List ℕ) (cells : ℕ → ℕ) → Holds p.world.layout memory cells → (j c b d : ℕ) (out : List ℕ) → cells (heap_at + (j + 3)) ≡ c → j + 3 < 10000 → (t : Told p memory typed out drawn j c) → (rest : List Act) (o : Outcome) (s' : State) (n : ℕ) → Runs p f w PRINT_LETTERS_ACTS rest (st memory (49152 + j) b (shown_letter c) out) o s' n → Runs p f w PRINT_LETTERS_ACTS (call_letter ∷ rest) (st memory (49152 + j) b d out) o s' (suc t.count + n)
  fetches memory cells h j c b d out is low t rest o s' n q =
      calls {f' = 0} {w' = 0} {n = t.count} {n' = n} {xs = (49152 + j, 0, 0)} {s1 = state memory t.locals' typed drawn out} {s2 = st memory (49152 + j) b (shown_letter c) out} refl (rw (local_1 p memory (49152 + j) (b ∷ d ∷ []) typed drawn out) refl) (letter_at p has) some enough t.runs (put_3 p memory (49152 + j) b d (shown_letter c) [] typed drawn out) q

  record Looped (memory : List ℕ) (cells : ℕ → ℕ) (j d : ℕ) (xs out : List ℕ) : Type 0 where
    memory' : List ℕ
    cells' : ℕ → ℕ
    locals' : List ℕ
    holds : Holds p.world.layout memory' cells'
    last : cells' 28 ≡ (if opens (last_in d (map shown_letter xs)) then 1 else 2)
    others : (k : ℕ) → k ≢ 28 → cells' k ≡ cells k
    count : ℕ
    few : count ≤ 8 * length xs + 6
    runs : Runs p f w PRINT_LETTERS_ACTS (drop 16 PRINT_LETTERS_ACTS) (st memory (49152 + j) (49152 + (suc j + length xs)) d out) (Returns 0) (state memory' locals' typed drawn (out ++ encode_utf8_all (map shown_letter xs))) count

  is_mark : (m : List ℕ) (a b d : ℕ) (out : List ℕ) (t : Bool) → among d 40 91 123 ≡ t → answer_of p (st m a b d out) (record { comparison = comparisons.Any (atoms.Num 91) (atoms.Num 123); first = atoms.Var 3; second = atoms.Num 40; answer = true }) ≡ Some t
  is_mark m a b d out t e = rw (local_3 p m a b d [] typed drawn out) (ap (λ (q : Bool). Some q) e)

  -- behind the last letter
  ended : (memory : List ℕ) (cells : ℕ → ℕ) → Holds p.world.layout memory cells → (j d : ℕ) (out : List ℕ) → j < 10000 → (t : Bool) → among d 40 91 123 ≡ t → Looped memory cells j d [] out
  unfolding behind_label
  ended memory cells h j d out lt true e =
      let room = has.mapped.room in
      let a = 49152 + j in
      let a' = 49152 + suc j in
      let b = 49152 + (suc j + 0) in
      let put = puts p (st memory a' b d out) cells 44 1 h (omega arith) (omega arith) (omega arith) (omega arith) in
      let m1 = with_cell memory 28 1 in
      record {
        memory' = m1;
        cells' = replaced cells 28 1;
        locals' = a' ∷ b ∷ d ∷ [];
        holds = put.holds;
        last = same_cell cells 28 1 ∙ sym (cond-true (opens d) 1 2 (opens_by d ∙ e));
        others = λ k ne. other_cell cells 28 1 k ne;
        count = 5;
        few = omega arith;
        runs = rw (append-nil out) (done (computes p (st memory a b d out) (st memory a' b d out) 1 functions.Add (atoms.Var 1) (atoms.Num 1) a 1 a' (local_1 p memory a (b ∷ d ∷ []) typed drawn out) refl (added p memory a 1 a' (omega arith)) (put_1 p memory a a' (b ∷ d ∷ []) typed drawn out))
            (passed (tested p (st memory a' b d out) comparisons.Equal (atoms.Var 1) (atoms.Var 2) false a' b true (local_1 p memory a' (b ∷ d ∷ []) typed drawn out) (local_2 p memory a' b (d ∷ []) typed drawn out) (eq-eqb a' b (omega arith)))
            (done (copies p (st memory a' b d out) (st m1 a' b d out) 44 (atoms.Num 1) 1 refl put.put_is)
            (taken (is_mark m1 a' b d out true e) refl (returns refl)))));
      }
  ended memory cells h j d out lt false e =
      let room = has.mapped.room in
      let a = 49152 + j in
      let a' = 49152 + suc j in
      let b = 49152 + (suc j + 0) in
      let put = puts p (st memory a' b d out) cells 44 1 h (omega arith) (omega arith) (omega arith) (omega arith) in
      let m1 = with_cell memory 28 1 in
      let c1 = replaced cells 28 1 in
      let put' = puts p (st m1 a' b d out) c1 44 2 put.holds (omega arith) (omega arith) (omega arith) (omega arith) in
      let m2 = with_cell m1 28 2 in
      record {
        memory' = m2;
        cells' = replaced c1 28 2;
        locals' = a' ∷ b ∷ d ∷ [];
        holds = put'.holds;
        last = same_cell c1 28 2 ∙ sym (cond-false (opens d) 1 2 (opens_by d ∙ e));
        others = λ k ne. other_cell c1 28 2 k ne ∙ other_cell cells 28 1 k ne;
        count = 6;
        few = omega arith;
        runs = rw (append-nil out) (done (computes p (st memory a b d out) (st memory a' b d out) 1 functions.Add (atoms.Var 1) (atoms.Num 1) a 1 a' (local_1 p memory a (b ∷ d ∷ []) typed drawn out) refl (added p memory a 1 a' (omega arith)) (put_1 p memory a a' (b ∷ d ∷ []) typed drawn out))
            (passed (tested p (st memory a' b d out) comparisons.Equal (atoms.Var 1) (atoms.Var 2) false a' b true (local_1 p memory a' (b ∷ d ∷ []) typed drawn out) (local_2 p memory a' b (d ∷ []) typed drawn out) (eq-eqb a' b (omega arith)))
            (done (copies p (st memory a' b d out) (st m1 a' b d out) 44 (atoms.Num 1) 1 refl put.put_is)
            (passed (is_mark m1 a' b d out false e)
            (done (copies p (st m1 a' b d out) (st m2 a' b d out) 44 (atoms.Num 2) 2 refl put'.put_is)
            (at_label (returns refl)))))));
      }

  loop : (xs : List ℕ) (memory : List ℕ) (cells : ℕ → ℕ) → Holds p.world.layout memory cells → (j d : ℕ) (out : List ℕ) → j < 10000 → LieAt cells (suc j) xs → ArePrinted xs → Looped memory cells j d xs out
  unfolding behind_label
  loop [] memory cells h j d out lt lie fine = ended memory cells h j d out lt (among d 40 91 123) refl
  loop (c ∷ cs) memory cells h j d out lt lie fine =
      let a = 49152 + j in
      let a' = 49152 + suc j in
      let b = 49152 + (suc j + length (c ∷ cs)) in
      let b' = 49152 + (suc (suc j) + length cs) in
      let same : b' ≡ b = omega arith in
      let low = lie.0.1 in
      let d' = shown_letter c in
      let out' = out ++ encode d' in
      let t = tells_letter p has.mapped memory typed out drawn (suc j) c cells h lie.0.0 low fine.0.0 in
      let r = loop cs memory cells h (suc j) d' out' (omega arith) lie.1 fine.1 in
      let few = r.few in
      let few' = t.few in
      let final : out' ++ encode_utf8_all (map shown_letter cs) ≡ out ++ encode_utf8_all (map shown_letter (c ∷ cs)) = append_assoc out (encode d') (encode_utf8_all (map shown_letter cs)) in
      let runs' : Runs p f w PRINT_LETTERS_ACTS (drop 16 PRINT_LETTERS_ACTS) (st memory a' b d' out') (Returns 0) (state r.memory' r.locals' typed drawn (out' ++ encode_utf8_all (map shown_letter cs))) r.count = subst (λ (z : ℕ). Runs p f w PRINT_LETTERS_ACTS (drop 16 PRINT_LETTERS_ACTS) (st memory a' z d' out') (Returns 0) (state r.memory' r.locals' typed drawn (out' ++ encode_utf8_all (map shown_letter cs))) r.count) same r.runs in
      record {
        memory' = r.memory';
        cells' = r.cells';
        locals' = r.locals';
        holds = r.holds;
        last = r.last;
        others = r.others;
        count = suc (suc (suc t.count + suc r.count));
        few = omega arith;
        runs = rw (sym final) (done (computes p (st memory a b d out) (st memory a' b d out) 1 functions.Add (atoms.Var 1) (atoms.Num 1) a 1 a' (local_1 p memory a (b ∷ d ∷ []) typed drawn out) refl (added p memory a 1 a' (omega arith)) (put_1 p memory a a' (b ∷ d ∷ []) typed drawn out))
            (taken (tested p (st memory a' b d out) comparisons.Equal (atoms.Var 1) (atoms.Var 2) false a' b false (local_1 p memory a' (b ∷ d ∷ []) typed drawn out) (local_2 p memory a' b (d ∷ []) typed drawn out) (ne_eqb a' b (λ (e : a' ≡ b). (omega arith)))) refl
            (fetches memory cells h (suc j) c b d out lie.0.0 low t (drop 14 PRINT_LETTERS_ACTS) (Returns 0) (state r.memory' r.locals' typed drawn (out' ++ encode_utf8_all (map shown_letter cs))) (suc r.count)
            (done (says p (st memory a' b d' out) prints.Unicode (atoms.Var 3) d' (encode d') (local_3 p memory a' b d' [] typed drawn out) (printed memory d' fine.0.1))
            (at_label runs')))));
      }

  module _ (memory output : List ℕ) (cells : ℕ → ℕ) (h : Holds p.world.layout memory cells) (m : Met) (meets : Meets cells m) (k n : ℕ) (header : cells (heap_at + k) ≡ 32768 + n) (low : k + 3 + n ≤ 10000) where
    abbrev box : ℕ
    box = 49152 + k

    abbrev end : ℕ
    end = 49152 + (k + n)

    -- up to the test of the end
    to_end : (s' : State) (i : ℕ) → Runs p f w PRINT_LETTERS_ACTS (drop 3 PRINT_LETTERS_ACTS) (st memory box end 0 output) (Returns 0) s' i → Runs p f w PRINT_LETTERS_ACTS PRINT_LETTERS_ACTS (st memory box 0 0 output) (Returns 0) s' (suc (suc (suc i)))
    to_end s' i rest =
        let room = has.mapped.room in
        let top = 32768 + n in
        done (computes p (st memory box 0 0 output) (st memory box top 0 output) 2 functions.Word (atoms.Num 33438) (atoms.Var 1) 33438 box top refl (local_1 p memory box (0 ∷ 0 ∷ []) typed drawn output) (reads_cell p.world.layout memory cells 33438 box (heap_at + k) h (omega arith) (omega arith) ∙ ap word header) (put_2 p memory box 0 top (0 ∷ []) typed drawn output))
        (done (computes p (st memory box top 0 output) (st memory box n 0 output) 2 functions.Add (atoms.Var 2) (atoms.Num 32768) top 32768 n (local_2 p memory box top (0 ∷ []) typed drawn output) refl (added p memory top 32768 n (omega arith)) (put_2 p memory box top n (0 ∷ []) typed drawn output))
        (done (computes p (st memory box n 0 output) (st memory box end 0 output) 2 functions.Add (atoms.Var 1) (atoms.Var 2) box n end (local_1 p memory box (n ∷ 0 ∷ []) typed drawn output) (local_2 p memory box n (0 ∷ []) typed drawn output) (added p memory box n end (omega arith)) (put_2 p memory box n end (0 ∷ []) typed drawn output))
        rest))

    at_end : (t : Bool) → (box == end) ≡ t → answer_of p (st memory box end 0 output) (record { comparison = comparisons.Equal; first = atoms.Var 1; second = atoms.Var 2; answer = false }) ≡ Some t
    at_end t e = tested p (st memory box end 0 output) comparisons.Equal (atoms.Var 1) (atoms.Var 2) false box end t (local_1 p memory box (end ∷ 0 ∷ []) typed drawn output) (local_2 p memory box end (0 ∷ []) typed drawn output) e

    -- no letters
    no_letters : n ≡ 0 → (s : Separates p 0 0 memory typed output drawn 0 cells m) → PrintsPiece p f w PRINT_LETTERS_ACTS memory (box ∷ 0 ∷ 0 ∷ []) typed output drawn cells m (word_text []) 31
    no_letters none s =
        let room = has.mapped.room in
        let few = s.few in
        let out1 = output ++ separator m.gap m.last 0 in
        let put = puts p (st s.memory' box end 0 out1) s.cells' 49 0 s.holds (omega arith) (omega arith) (omega arith) (omega arith) in
        let m1 = with_cell s.memory' 33 0 in
        let c1 = replaced s.cells' 33 0 in
        let far : (i : ℕ) → i ≢ 33 → c1 i ≡ s.cells' i = λ i ne. other_cell s.cells' 33 0 i ne in
        let final : out1 ≡ output ++ written m (Piece (word_text [])) = ap (λ (x : List ℕ). output ++ x) (sym (append-nil (separator m.gap m.last 0))) in
        record {
          memory' = m1;
          cells' = c1;
          locals' = box ∷ end ∷ 0 ∷ [];
          holds = put.holds;
          meets = record {
            last = far 28 (λ z. (omega arith)) ∙ s.others 28 (λ z. (omega arith)) (λ z. (omega arith)) (λ z. (omega arith)) ∙ meets.last;
            lines = far 30 (λ z. (omega arith)) ∙ s.lines;
            spaces = far 31 (λ z. (omega arith)) ∙ s.spaces;
            asked = far 32 (λ z. (omega arith)) ∙ s.asked;
            upper = same_cell s.cells' 33 0;
          };
          others = λ i no28 no30 no31 no32 no33. far i no33 ∙ s.others i no30 no31 no32;
          count = suc (suc (suc (suc (suc s.count + 2))));
          few = omega arith;
          runs = rw (sym final) (to_end (st m1 box end 0 out1) (suc (suc s.count + 2)) (passed (at_end true (eq-eqb box end (omega arith)))
              (calls_separate p has f w some enough PRINT_LETTERS_ACTS (drop 5 PRINT_LETTERS_ACTS) (atoms.Num 0) memory (box ∷ end ∷ 0 ∷ []) typed output drawn 0 cells m s refl (Returns 0) (st m1 box end 0 out1) 2
              (done (copies p (st s.memory' box end 0 out1) (st m1 box end 0 out1) 49 (atoms.Num 0) 0 refl put.put_is) (returns refl)))));
        }

    module _ (c : ℕ) (cs : List ℕ) (many : n ≡ suc (length cs)) (lie : LieAt cells k (c ∷ cs)) (fine : ArePrinted (c ∷ cs)) where
      abbrev d : ℕ
      d = shown_letter c

      abbrev ds : List ℕ
      ds = map shown_letter cs

      abbrev out1 : List ℕ
      out1 = output ++ separator m.gap m.last d

      abbrev out2 : List ℕ
      out2 = out1 ++ capital m.gap (encode d)

      final : out2 ++ encode_utf8_all ds ≡ output ++ written m (Piece (word_text (c ∷ cs)))
      final =
          let small = shown_small c fine.0.0 in
          let enc = encoded d small in
          let sep = separator m.gap m.last d in
          let cap = capital m.gap (encode d) in
          let rest = encode_utf8_all ds in
          let first_is : first_of (encode d ++ rest) ≡ enc.b = ap (λ (l : List ℕ). first_of (l ++ rest)) enc.is in
          let same : sep ≡ separator m.gap m.last (first_of (encode d ++ rest)) = separator_same m.gap m.last d enc.b enc.closing ∙ ap (separator m.gap m.last) (sym first_is) in
          append_assoc out1 cap rest ∙ append_assoc output sep (cap ++ rest) ∙ ap (λ (l : List ℕ). output ++ l) (ap (λ (l : List ℕ). l ++ (cap ++ rest)) same ∙ ap (λ (l : List ℕ). separator m.gap m.last (first_of (encode d ++ rest)) ++ l) (sym (capital_on m.gap d rest small)))

      some_letters : (t : Told p memory typed output drawn k c) (s : Separates p 0 0 memory typed output drawn d cells m) (r : PrintsFirst p 0 0 s.memory' typed out1 drawn d s.cells' m.gap) (l : Looped r.memory' r.cells' k d cs out2) → PrintsPiece p f w PRINT_LETTERS_ACTS memory (box ∷ 0 ∷ 0 ∷ []) typed output drawn cells m (word_text (c ∷ cs)) (8 * length (c ∷ cs) + 31)
      unfolding behind_label
      some_letters t s r l =
          let few1 = t.few in
          let few2 = s.few in
          let few3 = r.few in
          let few4 = l.few in
          let small = shown_small c fine.0.0 in
          let end' = 49152 + (suc k + length cs) in
          let same : end' ≡ end = omega arith in
          let te = text_ends m.gap m.last d ds small (shown_all_small cs fine.1) in
          let last_is : last_of m.last (capital m.gap (encode d ++ encode_utf8_all ds)) ≡ Some te.x = ap (last_of m.last) (capital_on m.gap d (encode_utf8_all ds) small) ∙ te.is in
          let loops : Runs p f w PRINT_LETTERS_ACTS (drop 16 PRINT_LETTERS_ACTS) (st r.memory' box end d out2) (Returns 0) (state l.memory' l.locals' typed drawn (out2 ++ encode_utf8_all ds)) l.count = subst (λ (z : ℕ). Runs p f w PRINT_LETTERS_ACTS (drop 16 PRINT_LETTERS_ACTS) (st r.memory' box z d out2) (Returns 0) (state l.memory' l.locals' typed drawn (out2 ++ encode_utf8_all ds)) l.count) same l.runs in
          let last_state : State = state l.memory' l.locals' typed drawn (out2 ++ encode_utf8_all ds) in
          record {
            memory' = l.memory';
            cells' = l.cells';
            locals' = l.locals';
            holds = l.holds;
            meets = record {
              last = l.last ∙ ap (λ (q : Bool). if q then 1 else 2) (sym te.opening) ∙ sym (ap last_word last_is);
              lines = l.others 30 (λ z. (omega arith)) ∙ r.others 30 (λ z. (omega arith)) ∙ s.lines;
              spaces = l.others 31 (λ z. (omega arith)) ∙ r.others 31 (λ z. (omega arith)) ∙ s.spaces;
              asked = l.others 32 (λ z. (omega arith)) ∙ r.others 32 (λ z. (omega arith)) ∙ s.asked;
              upper = l.others 33 (λ z. (omega arith)) ∙ r.upper;
            };
            others = λ i no28 no30 no31 no32 no33. l.others i no28 ∙ r.others i no33 ∙ s.others i no30 no31 no32;
            count = suc (suc (suc (suc (suc t.count + (suc s.count + (suc r.count + suc l.count))))));
            few = omega arith;
            runs = rw (sym final) (to_end last_state (suc (suc t.count + (suc s.count + (suc r.count + suc l.count)))) (taken (at_end false (ne_eqb box end (λ (z : box ≡ end). (omega arith)))) refl
                (fetches memory cells h k c end 0 output lie.0.0 lie.0.1 t (drop 9 PRINT_LETTERS_ACTS) (Returns 0) last_state (suc s.count + (suc r.count + suc l.count))
                (calls_separate p has f w some enough PRINT_LETTERS_ACTS (drop 10 PRINT_LETTERS_ACTS) (atoms.Var 3) memory (box ∷ end ∷ d ∷ []) typed output drawn d cells m s (local_3 p memory box end d [] typed drawn output) (Returns 0) last_state (suc r.count + suc l.count)
                (calls_first p has f w some enough PRINT_LETTERS_ACTS (drop 11 PRINT_LETTERS_ACTS) (atoms.Var 3) s.memory' (box ∷ end ∷ d ∷ []) typed out1 drawn d s.cells' m.gap r (local_3 p s.memory' box end d [] typed drawn out1) (Returns 0) last_state (suc l.count)
                (goes refl loops))))));
          }

      prints_some : PrintsPiece p f w PRINT_LETTERS_ACTS memory (box ∷ 0 ∷ 0 ∷ []) typed output drawn cells m (word_text (c ∷ cs)) (8 * length (c ∷ cs) + 31)
      prints_some =
          let s = separate_works p has 0 0 memory typed output drawn d cells h m meets in
          let r = first_works p has 0 0 s.memory' typed out1 drawn d s.cells' s.holds (shown_small c fine.0.0) fine.0.1 m.gap (s.others 33 (λ z. (omega arith)) (λ z. (omega arith)) (λ z. (omega arith)) ∙ meets.upper) in
          let same : (i : ℕ) → 303 ≤ i → r.cells' i ≡ cells i = λ i le. r.others i (λ z. (omega arith)) ∙ s.others i (λ z. (omega arith)) (λ z. (omega arith)) (λ z. (omega arith)) in
          some_letters (tells_letter p has.mapped memory typed output drawn k c cells h lie.0.0 lie.0.1 fine.0.0) s r (loop cs r.memory' r.cells' r.holds k d out2 (omega arith) (lie_still cells r.cells' same (suc k) cs lie.1) fine.1)

    prints_word : (letters : List ℕ) → n ≡ length letters → LieAt cells k letters → ArePrinted letters → PrintsPiece p f w PRINT_LETTERS_ACTS memory (box ∷ 0 ∷ 0 ∷ []) typed output drawn cells m (word_text letters) (8 * length letters + 31)
    prints_word [] e lie fine = no_letters e (separate_works p has 0 0 memory typed output drawn 0 cells h m meets)
    prints_word (c ∷ cs) e lie fine = prints_some c cs e lie fine

pub letters_work : LettersWork
letters_work p has f w some enough memory typed output drawn sh is cells h S st x letters (boxed k header lt box cell (word_in _ fine all)) m meets =
    let top = is.room in
    let low = letters_low is (k + 3) letters (omega arith) all in
    prints_word p has f w some enough typed drawn memory output cells h m meets k (length letters) (st.fixed k (omega arith) cell.fixed ∙ cell.is) low letters refl (lie_at sh is cells S st (k + 3) k letters refl all) fine
