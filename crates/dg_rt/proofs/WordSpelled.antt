-- The routine that prints a word of the program does so.
use Rattle.std.proofs.Common.{◌≡◌, ◌≢◌, ℕ, zero, suc, ◌+◌, ◌*◌, ◌/◌, ◌%◌, ◌<◌, ◌≤◌, inl, inr, Bool, true, false, List, [], ◌∷◌, ◌++◌, drop, length, Some, refl, sym, ap, ◌∙◌, subst, arith, append_assoc}
use Rattle.std.specs.Prelude.{◌==◌, if◌then◌else◌, All, get_or, slice_get, encode_utf8_all}
use Rattle.std.proofs.lemmas.Bool.{ne_eqb, lt-ltb, le-ltb, cases_lt, cond-true, cond-false}
use Rattle.std.proofs.lemmas.List.{append-nil}
use Rattle.std.proofs.lemmas.List.Elements.{All-head, All-tail, All-get_or}
use Rattle.std.proofs.lemmas.Option.{slice_get-get_or}
use Rattle.std.proofs.Math.Utf8.{encode, scalar_cases}
use Rattle.dg_base.specs.Sound.{IsPrintable, IsName}
use Rattle.dg_meaning.specs.World.{Piece}
use Rattle.dg_meaning.specs.Render.{opens, capital, separator, first_of, last_of, Met, written, characters}
use Rattle.z_model.specs.Zscii.{is_character}
use Rattle.z_lang.specs.declared.act.Act.{Act}
use Rattle.z_lang.specs.declared.act.Act.TheVariants as acts
use Rattle.z_lang.specs.declared.act.Args.TheVariants as args
use Rattle.z_lang.specs.declared.act.Atom.TheVariants as atoms
use Rattle.z_lang.specs.declared.act.Comparison.TheVariants as comparisons
use Rattle.z_lang.specs.declared.act.Function.TheVariants as functions
use Rattle.z_lang.specs.declared.act.Print.TheVariants as prints
use Rattle.z_lang.specs.State.{State, Program}
use Rattle.z_lang.specs.Acts.{answer_of, computed}
use Rattle.z_lang.specs.Runs.{ActsRun as Runs, ActsOutcome as Outcome, Returns, at_label, taken, passed, done, goes, calls, returns, behind_label}
use Rattle.z_lang.specs.Standing.{IsKept}
use Rattle.dg_rt.specs.declared.numbers.TheConstants.{CHARACTER}
use Rattle.dg_rt.specs.declared.spelling.TheConstants.{SPELL_ACTS}
use Rattle.dg_rt.specs.Cells.{compared, with_cell, replaced, Holds}
use Rattle.dg_rt.specs.Areas.{state}
use Rattle.dg_rt.specs.RunTime.{HasRunTime}
use Rattle.dg_rt.specs.Gaps.{last_word, Meets, Separates, PrintsFirst}
use Rattle.dg_rt.specs.Pieces.{PrintsPiece}
use Rattle.dg_rt.specs.Words.{two_bytes, word_starts, spellings, BytesFrom, HasWords, SpellWorks}
use Rattle.dg_rt.proofs.Cells.{other_cell, same_cell}
use Rattle.dg_rt.proofs.Counted.{text_counted}
use Rattle.dg_rt.proofs.Encoding.{encoded, last_in, AllSmall, text_ends, capital_on}
use Rattle.dg_rt.proofs.First.{printed, first_works, calls_first}
use Rattle.dg_rt.proofs.Following.{word, tested, computes, copies, says, puts, local_1, local_2, local_3, put_1, put_2}
use Rattle.dg_rt.proofs.Locals.{adds, less_by, not_less_by}
use Rattle.dg_rt.proofs.Marks.{opens_by, separator_same}
use Rattle.dg_rt.proofs.Separating.{among, separate_works, calls_separate}
use Rattle.dg_rt.proofs.Standing.{character_at, spell_at}
use Rattle.dg_rt.proofs.Static.{runs_keep}
use Rattle.dg_rt.proofs.WordTable.{begins, Found, find}
use Rattle.dg_rt.proofs.Characters.{bytes_front, bytes_back, reads_word, Reads, reads_one, Advanced, Handled, handled}

-- ## Names

pub behind_words : (words : List (List ℕ)) (n : ℕ) → length words ≤ n → get_or words n [] ≡ []
behind_words [] n le = refl
behind_words (w ∷ ws) zero le = absurd (omega (arith, le))
behind_words (w ∷ ws) (suc n) le = behind_words ws n (omega arith)

pub character : (c : ℕ) → IsPrintable c → is_character c ≡ true
character c is =
    elim (scalar_cases c is.scalar) [
      | inl l ↦ (let from = is.from in rw (lt-ltb 31 c (omega arith), ne_eqb c 127 is.no_delete, le-ltb 55295 c (omega arith)) refl)
      | inr h ↦ (let from = is.from in let a = h.0 in rw (lt-ltb 31 c (omega arith), ne_eqb c 127 is.no_delete, lt-ltb 55295 c (omega arith), le-ltb c 57344 a) refl)
    ]

all_small : (cs : List ℕ) → All IsPrintable cs → AllSmall cs
all_small [] all = tt
all_small (c ∷ cs) all = let is = (All-head IsPrintable c cs all).to in (is, all_small cs (All-tail IsPrintable c cs all))

-- ## The routine

-- The bytes of some characters, and a zero.
abbrev bytes_of : List ℕ → List ℕ
bytes_of cs = encode_utf8_all cs ++ 0 ∷ []

module _ (p : Program) (has : HasRunTime p) (typed : List ℕ) (drawn : ℕ) where
  abbrev F : ℕ
  F = 20

  abbrev W : ℕ
  W = 80

  abbrev sp : List ℕ → ℕ → ℕ → ℕ → List ℕ → State
  sp m a b d out = state m (a ∷ b ∷ d ∷ []) typed drawn out

  abbrev call_character : Act
  call_character = acts.Call (Some 2) (atoms.Routine CHARACTER) (args.One (atoms.Var 1))

  -- a character is fetched
  fetches : (m : List ℕ) (a b d c k : ℕ) (out : List ℕ) → Reads p m typed out drawn a c k → (rest : List Act) (o : Outcome) (s' : State) (n : ℕ) → Runs p F W SPELL_ACTS rest (sp m a c d out) o s' n → Runs p F W SPELL_ACTS (call_character ∷ rest) (sp m a b d out) o s' (suc k + n)
  fetches m a b d c k out t rest o s' n q =
      calls {f' = 0} {w' = 0} {n = k} {n' = n} {xs = (a, 0, 0)} {s1 = state m t.0 typed drawn out} {s2 = sp m a c d out} refl (rw (local_1 p m a (b ∷ d ∷ []) typed drawn out) refl) (character_at p has) (omega arith) (omega arith) (t.1 0 0) (put_2 p m a b c (d ∷ []) typed drawn out) q

  record Looped (m : List ℕ) (cells : ℕ → ℕ) (a b d : ℕ) (cs out : List ℕ) : Type 0 where
    memory' : List ℕ
    cells' : ℕ → ℕ
    locals' : List ℕ
    holds : Holds p.world.layout memory' cells'
    last : cells' 28 ≡ (if opens (last_in d cs) then 1 else 2)
    others : (k : ℕ) → k ≢ 28 → cells' k ≡ cells k
    count : ℕ
    few : count ≤ 20 * length cs + 9
    runs : Runs p F W SPELL_ACTS (drop 27 SPELL_ACTS) (sp m a b d out) (Returns 0) (state memory' locals' typed drawn (out ++ encode_utf8_all cs)) count

  is_mark : (m : List ℕ) (a b d : ℕ) (out : List ℕ) (t : Bool) → among d 40 91 123 ≡ t → answer_of p (sp m a b d out) (record { comparison = comparisons.Any (atoms.Num 91) (atoms.Num 123); first = atoms.Var 3; second = atoms.Num 40; answer = true }) ≡ Some t
  is_mark m a b d out t e = rw (local_3 p m a b d [] typed drawn out) (ap (λ (q : Bool). Some q) e)

  is_end : (m : List ℕ) (a c d : ℕ) (out : List ℕ) (t : Bool) → (c == 0) ≡ t → answer_of p (sp m a c d out) (record { comparison = comparisons.Equal; first = atoms.Var 2; second = atoms.Num 0; answer = false }) ≡ Some t
  is_end m a c d out t e = tested p (sp m a c d out) comparisons.Equal (atoms.Var 2) (atoms.Num 0) false c 0 t (local_2 p m a c (d ∷ []) typed drawn out) refl e

  -- behind the last character
  ended : (m : List ℕ) (cells : ℕ → ℕ) → Holds p.world.layout m cells → (a b d : ℕ) (out : List ℕ) → BytesFrom p m a (0 ∷ []) → (t : Bool) → among d 40 91 123 ≡ t → Looped m cells a b d [] out
  unfolding behind_label
  ended m cells h a b d out bytes true e =
      let room = has.mapped.room in
      let put = puts p (sp m a 0 d out) cells 44 1 h (omega arith) (omega arith) (omega arith) (omega arith) in
      let m1 = with_cell m 28 1 in
      record {
        memory' = m1;
        cells' = replaced cells 28 1;
        locals' = a ∷ 0 ∷ d ∷ [];
        holds = put.holds;
        last = same_cell cells 28 1 ∙ sym (cond-true (opens d) 1 2 (opens_by d ∙ e));
        others = λ k ne. other_cell cells 28 1 k ne;
        count = 8;
        few = omega arith;
        runs = rw (append-nil out) (fetches m a b d 0 3 out (reads_one p m typed drawn a 0 out (omega arith) bytes) (drop 28 SPELL_ACTS) (Returns 0) (sp m1 a 0 d out) 4
            (passed (is_end m a 0 d out true refl)
            (done (copies p (sp m a 0 d out) (sp m1 a 0 d out) 44 (atoms.Num 1) 1 refl put.put_is)
            (taken (is_mark m1 a 0 d out true e) refl (returns refl)))));
      }
  ended m cells h a b d out bytes false e =
      let room = has.mapped.room in
      let put = puts p (sp m a 0 d out) cells 44 1 h (omega arith) (omega arith) (omega arith) (omega arith) in
      let m1 = with_cell m 28 1 in
      let c1 = replaced cells 28 1 in
      let put' = puts p (sp m1 a 0 d out) c1 44 2 put.holds (omega arith) (omega arith) (omega arith) (omega arith) in
      let m2 = with_cell m1 28 2 in
      record {
        memory' = m2;
        cells' = replaced c1 28 2;
        locals' = a ∷ 0 ∷ d ∷ [];
        holds = put'.holds;
        last = same_cell c1 28 2 ∙ sym (cond-false (opens d) 1 2 (opens_by d ∙ e));
        others = λ k ne. other_cell c1 28 2 k ne ∙ other_cell cells 28 1 k ne;
        count = 9;
        few = omega arith;
        runs = rw (append-nil out) (fetches m a b d 0 3 out (reads_one p m typed drawn a 0 out (omega arith) bytes) (drop 28 SPELL_ACTS) (Returns 0) (sp m2 a 0 d out) 5
            (passed (is_end m a 0 d out true refl)
            (done (copies p (sp m a 0 d out) (sp m1 a 0 d out) 44 (atoms.Num 1) 1 refl put.put_is)
            (passed (is_mark m1 a 0 d out false e)
            (done (copies p (sp m1 a 0 d out) (sp m2 a 0 d out) 44 (atoms.Num 2) 2 refl put'.put_is)
            (at_label (returns refl)))))));
      }

  -- the address behind a character whose bytes stand in front of others
  behind_low : (m : List ℕ) (a b : ℕ) (xs : List ℕ) → BytesFrom p m a (xs ++ b ∷ []) → a + length xs < 65536
  behind_low m a b xs h = (bytes_back p m a (a + length xs) xs (b ∷ []) refl h).0.0

  tail_low : (m : List ℕ) (a : ℕ) (cs : List ℕ) → BytesFrom p m a (bytes_of cs) → a < 65536
  tail_low m a cs h = let lt = behind_low m a 0 (encode_utf8_all cs) h in omega arith

  module _ (m : List ℕ) (a c : ℕ) (cs : List ℕ) (h : BytesFrom p m a (bytes_of (c ∷ cs))) where
    abbrev all_bytes : BytesFrom p m a (encode c ++ bytes_of cs)
    all_bytes = subst (BytesFrom p m a) (append_assoc (encode c) (encode_utf8_all cs) (0 ∷ [])) h

    first_bytes : BytesFrom p m a (encode c)
    first_bytes = bytes_front p m a (encode c) (bytes_of cs) all_bytes

    rest_bytes : BytesFrom p m (a + length (encode c)) (bytes_of cs)
    rest_bytes = bytes_back p m a (a + length (encode c)) (encode c) (bytes_of cs) refl all_bytes

    rest_low : a + length (encode c) < 65536
    rest_low = tail_low m (a + length (encode c)) cs rest_bytes

  loop : (cs : List ℕ) (m : List ℕ) (cells : ℕ → ℕ) → Holds p.world.layout m cells → (a b d : ℕ) (out : List ℕ) → BytesFrom p m a (bytes_of cs) → All IsPrintable cs → Looped m cells a b d cs out
  unfolding behind_label
  loop [] m cells h a b d out bytes fine = ended m cells h a b d out bytes (among d 40 91 123) refl
  loop (c ∷ cs) m cells h a b d out bytes fine =
      let is = All-head IsPrintable c cs fine in
      let from = is.from in
      let r = handled p F W m typed drawn a c is.to (first_bytes m a c cs bytes) in
      let next = r.next (rest_low m a c cs bytes) in
      let out' = out ++ encode c in
      let l = loop cs m cells h (a + length (encode c)) c c out' (rest_bytes m a c cs bytes) (All-tail IsPrintable c cs fine) in
      let few = r.few in
      let few' = l.few in
      let more = next.bound l.count in
      let final : out' ++ encode_utf8_all cs ≡ out ++ encode_utf8_all (c ∷ cs) = append_assoc out (encode c) (encode_utf8_all cs) in
      let last_state : State = state l.memory' l.locals' typed drawn (out' ++ encode_utf8_all cs) in
      record {
        memory' = l.memory';
        cells' = l.cells';
        locals' = l.locals';
        holds = l.holds;
        last = l.last;
        others = l.others;
        count = suc r.k + suc (suc (next.total l.count));
        few = omega arith;
        runs = rw (sym final) (fetches m a b d c r.k out (r.reads out) (drop 28 SPELL_ACTS) (Returns 0) last_state (suc (suc (next.total l.count)))
            (taken (is_end m a c d out false (ne_eqb c 0 (λ (e : c ≡ 0). (omega arith)))) refl
            (done (says p (sp m a c d out) prints.Unicode (atoms.Var 2) c (encode c) (local_2 p m a c (d ∷ []) typed drawn out) (printed m c (character c is)))
            (at_label (next.leads d out' (Returns 0) last_state l.count l.runs)))));
      }

  module _ (story : List ℕ) (words : List (List ℕ)) (hw : HasWords p story words) where
    abbrev t : ℕ
    t = p.names.table 1

    abbrev many : ℕ
    many = length words

    starts_long : (at : ℕ) (ws : List (List ℕ)) → length (word_starts at ws) ≡ 2 * length ws
    starts_long at [] = refl
    starts_long at (w ∷ ws) = let e = starts_long (at + length w + 1) ws in omega arith

    -- how many there are
    count_read : (m : List ℕ) → IsKept p.world.layout.base story m → computed p.world.layout m functions.Word t 0 ≡ word many
    count_read m kept =
        let all = hw.told m kept in
        let is : 256 * (many / 256) + many % 256 ≡ many = omega arith in
        reads_word p m t 0 t (many / 256) (many % 256) (omega arith) (bytes_front p m t (two_bytes many) (word_starts (2 + 2 * many) words ++ spellings words) all) ∙ ap word is

    abbrev o : ℕ → ℕ
    o n = begins (2 + 2 * many) words n

    found : (m : List ℕ) → IsKept p.world.layout.base story m → (n : ℕ) (text : List ℕ) → slice_get words n ≡ Some text → Found p m t (suc (suc t)) n (o n) text
    found m kept n text e =
        let all = hw.told m kept in
        let behind = all.1.1 in
        find p words n text m t (suc (suc t)) (2 + 2 * many) e (bytes_front p m (suc (suc t)) (word_starts (2 + 2 * many) words) (spellings words) behind)
        (bytes_back p m (suc (suc t)) (t + (2 + 2 * many)) (word_starts (2 + 2 * many) words) (spellings words) (omega (arith, starts_long (2 + 2 * many) words)) behind)

    -- ---- one word

    module _ (m output : List ℕ) (cells : ℕ → ℕ) (h : Holds p.world.layout m cells) (kept : IsKept p.world.layout.base story m) (met : Met) (meets : Meets cells met) (n : ℕ) (small : n < 8192) (few_words : many < 32768) where
      is_less : (b : ℕ) (out : List ℕ) (r : Bool) → compared comparisons.Less n b ≡ r → answer_of p (sp m n b 0 out) (record { comparison = comparisons.Less; first = atoms.Var 1; second = atoms.Var 2; answer = true }) ≡ Some r
      is_less b out r e = tested p (sp m n b 0 out) comparisons.Less (atoms.Var 1) (atoms.Var 2) true n b r (local_1 p m n (b ∷ 0 ∷ []) typed drawn out) (local_2 p m n b (0 ∷ []) typed drawn out) e

      counted : (e : Outcome) (s' : State) (k : ℕ) → Runs p F W SPELL_ACTS (drop 1 SPELL_ACTS) (sp m n many 0 output) e s' k → Runs p F W SPELL_ACTS SPELL_ACTS (sp m n 0 0 output) e s' (suc k)
      counted e s' k rest = done (computes p (sp m n 0 0 output) (sp m n many 0 output) 2 functions.Word (atoms.Table 1) (atoms.Num 0) t 0 many refl refl (count_read m kept) (put_2 p m n 0 many (0 ∷ []) typed drawn output)) rest

      -- none
      no_word : many ≤ n → (s : Separates p 0 0 m typed output drawn 0 cells met) → PrintsPiece p F W SPELL_ACTS m (n ∷ 0 ∷ 0 ∷ []) typed output drawn cells met [] 100
      no_word none s =
          let room = has.mapped.room in
          let few = s.few in
          let out1 = output ++ separator met.gap met.last 0 in
          let put = puts p (sp s.memory' n many 0 out1) s.cells' 49 0 s.holds (omega arith) (omega arith) (omega arith) (omega arith) in
          let m1 = with_cell s.memory' 33 0 in
          let c1 = replaced s.cells' 33 0 in
          let far : (i : ℕ) → i ≢ 33 → c1 i ≡ s.cells' i = λ i ne. other_cell s.cells' 33 0 i ne in
          let final : out1 ≡ output ++ written met (Piece []) = ap (λ (x : List ℕ). output ++ x) (sym (append-nil (separator met.gap met.last 0))) in
          record {
            memory' = m1;
            cells' = c1;
            locals' = n ∷ many ∷ 0 ∷ [];
            holds = put.holds;
            meets = record {
              last = far 28 (λ z. (omega arith)) ∙ s.others 28 (λ z. (omega arith)) (λ z. (omega arith)) (λ z. (omega arith)) ∙ meets.last;
              lines = far 30 (λ z. (omega arith)) ∙ s.lines;
              spaces = far 31 (λ z. (omega arith)) ∙ s.spaces;
              asked = far 32 (λ z. (omega arith)) ∙ s.asked;
              upper = same_cell s.cells' 33 0;
            };
            others = λ i no28 no30 no31 no32 no33. far i no33 ∙ s.others i no30 no31 no32;
            count = suc (suc (suc s.count + 2));
            few = omega arith;
            runs = rw (sym final) (counted (Returns 0) (sp m1 n many 0 out1) (suc (suc s.count + 2)) (passed (is_less many output false (not_less_by n many (omega arith) few_words none))
                (calls_separate p has F W (omega arith) (omega arith) SPELL_ACTS (drop 3 SPELL_ACTS) (atoms.Num 0) m (n ∷ many ∷ 0 ∷ []) typed output drawn 0 cells met s refl (Returns 0) (sp m1 n many 0 out1) 2
                (done (copies p (sp s.memory' n many 0 out1) (sp m1 n many 0 out1) 49 (atoms.Num 0) 0 refl put.put_is) (returns refl)))));
          }

      module _ (text : List ℕ) (is_text : slice_get words n ≡ Some text) (lt : n < many) where
        abbrev here : ℕ
        here = t + o n

        -- up to its first character
        to_first : (e : Outcome) (s' : State) (k : ℕ) → Runs p F W SPELL_ACTS (drop 9 SPELL_ACTS) (sp m here many 0 output) e s' k → Runs p F W SPELL_ACTS SPELL_ACTS (sp m n 0 0 output) e s' (suc (suc (suc (suc (suc k)))))
        unfolding behind_label
        to_first e s' k rest =
            let r = found m kept n text is_text in
            let low = behind_low m here 0 text r.spelled in
            let is : 256 * (o n / 256) + o n % 256 ≡ o n = omega arith in
            counted e s' (suc (suc (suc (suc k)))) (taken (is_less many output true (less_by n many (omega arith) few_words lt)) refl
            (done (computes p (sp m n many 0 output) (sp m (n + 1) many 0 output) 1 functions.Add (atoms.Var 1) (atoms.Num 1) n 1 (n + 1) (local_1 p m n (many ∷ 0 ∷ []) typed drawn output) refl (adds p m n 1 (n + 1) refl (omega arith)) (put_1 p m n (n + 1) (many ∷ 0 ∷ []) typed drawn output))
            (done (computes p (sp m (n + 1) many 0 output) (sp m (o n) many 0 output) 1 functions.Word (atoms.Table 1) (atoms.Var 1) t (n + 1) (o n) refl (local_1 p m (n + 1) (many ∷ 0 ∷ []) typed drawn output) (reads_word p m t (n + 1) (suc (suc t) + 2 * n) (o n / 256) (o n % 256) (omega arith) r.start ∙ ap word is) (put_1 p m (n + 1) (o n) (many ∷ 0 ∷ []) typed drawn output))
            (done (computes p (sp m (o n) many 0 output) (sp m here many 0 output) 1 functions.Add (atoms.Var 1) (atoms.Table 1) (o n) t here (local_1 p m (o n) (many ∷ 0 ∷ []) typed drawn output) refl (adds p m (o n) t here (omega arith) (omega arith)) (put_1 p m (o n) here (many ∷ 0 ∷ []) typed drawn output))
            rest))))

      module _ (c : ℕ) (cs : List ℕ) (fine : All IsPrintable (c ∷ cs)) (is_text : slice_get words n ≡ Some (encode_utf8_all (c ∷ cs))) (lt : n < many) where
        abbrev a : ℕ
        a = t + o n

        abbrev a' : ℕ
        a' = a + length (encode c)

        abbrev out1 : List ℕ
        out1 = output ++ separator met.gap met.last c

        abbrev out2 : List ℕ
        out2 = out1 ++ capital met.gap (encode c)

        is : IsPrintable c
        is = All-head IsPrintable c cs fine

        smalls : AllSmall cs
        smalls = all_small cs (All-tail IsPrintable c cs fine)

        final : out2 ++ encode_utf8_all cs ≡ output ++ written met (Piece (encode_utf8_all (c ∷ cs)))
        final =
            let enc = encoded c is.to in
            let sep = separator met.gap met.last c in
            let cap = capital met.gap (encode c) in
            let rest = encode_utf8_all cs in
            let first_is : first_of (encode c ++ rest) ≡ enc.b = ap (λ (l : List ℕ). first_of (l ++ rest)) enc.is in
            let same : sep ≡ separator met.gap met.last (first_of (encode c ++ rest)) = separator_same met.gap met.last c enc.b enc.closing ∙ ap (separator met.gap met.last) (sym first_is) in
            append_assoc out1 cap rest ∙ append_assoc output sep (cap ++ rest) ∙ ap (λ (l : List ℕ). output ++ l) (ap (λ (l : List ℕ). l ++ (cap ++ rest)) same ∙ ap (λ (l : List ℕ). separator met.gap met.last (first_of (encode c ++ rest)) ++ l) (sym (capital_on met.gap c rest is.to)))

        spells_by : (d : Handled p F W m typed drawn a c) (s : Separates p 0 0 m typed output drawn c cells met) (q : PrintsFirst p 0 0 s.memory' typed out1 drawn c s.cells' met.gap)
            (k : ℕ) → k ≤ 15 → (v : Advanced p F W q.memory' typed drawn a a' c k) (l : Looped q.memory' q.cells' a' c c cs out2) → PrintsPiece p F W SPELL_ACTS m (n ∷ 0 ∷ 0 ∷ []) typed output drawn cells met (encode_utf8_all (c ∷ cs)) (20 * characters (encode_utf8_all (c ∷ cs)) + 100)
        unfolding behind_label
        spells_by d s q k le v l =
            let few1 = d.short in
            let few2 = s.few in
            let few3 = q.few in
            let few4 = l.few in
            let few5 = v.bound l.count in
            let long = text_counted (c ∷ cs) (is.to, smalls) in
            let te = text_ends met.gap met.last c cs is.to smalls in
            let last_is : last_of met.last (capital met.gap (encode c ++ encode_utf8_all cs)) ≡ Some te.x = ap (last_of met.last) (capital_on met.gap c (encode_utf8_all cs) is.to) ∙ te.is in
            let last_state : State = state l.memory' l.locals' typed drawn (out2 ++ encode_utf8_all cs) in
            let end = v.total l.count in
            record {
              memory' = l.memory';
              cells' = l.cells';
              locals' = l.locals';
              holds = l.holds;
              meets = record {
                last = l.last ∙ ap (λ (b : Bool). if b then 1 else 2) (sym te.opening) ∙ sym (ap last_word last_is);
                lines = l.others 30 (λ z. (omega arith)) ∙ q.others 30 (λ z. (omega arith)) ∙ s.lines;
                spaces = l.others 31 (λ z. (omega arith)) ∙ q.others 31 (λ z. (omega arith)) ∙ s.spaces;
                asked = l.others 32 (λ z. (omega arith)) ∙ q.others 32 (λ z. (omega arith)) ∙ s.asked;
                upper = l.others 33 (λ z. (omega arith)) ∙ q.upper;
              };
              others = λ i no28 no30 no31 no32 no33. l.others i no28 ∙ q.others i no33 ∙ s.others i no30 no31 no32;
              count = suc (suc (suc (suc (suc (suc d.k + (suc s.count + (suc q.count + suc end)))))));
              few = omega arith;
              runs = rw (sym final) (to_first (encode_utf8_all (c ∷ cs)) is_text lt (Returns 0) last_state (suc d.k + (suc s.count + (suc q.count + suc end)))
                  (fetches m a many 0 c d.k output (d.reads output) (drop 10 SPELL_ACTS) (Returns 0) last_state (suc s.count + (suc q.count + suc end))
                  (calls_separate p has F W (omega arith) (omega arith) SPELL_ACTS (drop 11 SPELL_ACTS) (atoms.Var 2) m (a ∷ c ∷ 0 ∷ []) typed output drawn c cells met s (local_2 p m a c (0 ∷ []) typed drawn output) (Returns 0) last_state (suc q.count + suc end)
                  (calls_first p has F W (omega arith) (omega arith) SPELL_ACTS (drop 12 SPELL_ACTS) (atoms.Var 2) s.memory' (a ∷ c ∷ 0 ∷ []) typed out1 drawn c s.cells' met.gap q (local_2 p s.memory' a c (0 ∷ []) typed drawn out1) (Returns 0) last_state (suc end)
                  (goes refl (v.leads 0 out2 (Returns 0) last_state l.count l.runs))))));
            }

        spells_text : PrintsPiece p F W SPELL_ACTS m (n ∷ 0 ∷ 0 ∷ []) typed output drawn cells met (encode_utf8_all (c ∷ cs)) (20 * characters (encode_utf8_all (c ∷ cs)) + 100)
        spells_text =
            let room = has.mapped.room in
            let s = separate_works p has 0 0 m typed output drawn c cells h met meets in
            let q = first_works p has 0 0 s.memory' typed out1 drawn c s.cells' s.holds is.to (character c is) met.gap (s.others 33 (λ z. (omega arith)) (λ z. (omega arith)) (λ z. (omega arith)) ∙ meets.upper) in
            let kept1 = runs_keep p story h.globals (omega arith) s.runs kept in
            let kept2 = runs_keep p story h.globals (omega arith) q.runs kept1 in
            let text = encode_utf8_all (c ∷ cs) in
            let r = found m kept n text is_text in
            let r' = found q.memory' kept2 n text is_text in
            let d = handled p F W m typed drawn a c is.to (first_bytes m a c cs r.spelled) in
            let d' = handled p F W q.memory' typed drawn a c is.to (first_bytes q.memory' a c cs r'.spelled) in
            let few = d'.few in
            spells_by d s q d'.n (omega arith) (d'.next (rest_low q.memory' a c cs r'.spelled)) (loop cs q.memory' q.cells' q.holds a' c c out2 (rest_bytes q.memory' a c cs r'.spelled) (All-tail IsPrintable c cs fine))

      spells_name : (text cs : List ℕ) → text ≡ encode_utf8_all cs → cs ≢ [] → All IsPrintable cs → slice_get words n ≡ Some text → n < many → PrintsPiece p F W SPELL_ACTS m (n ∷ 0 ∷ 0 ∷ []) typed output drawn cells met text (20 * characters text + 100)
      spells_name text [] e some fine there lt = absurd (some refl)
      spells_name text (c ∷ cs) e some fine there lt =
          subst (λ (x : List ℕ). PrintsPiece p F W SPELL_ACTS m (n ∷ 0 ∷ 0 ∷ []) typed output drawn cells met x (20 * characters x + 100)) (sym e) (spells_text c cs fine (there ∙ ap (λ (x : List ℕ). Some x) e) lt)

      nothing : many ≤ n → PrintsPiece p F W SPELL_ACTS m (n ∷ 0 ∷ 0 ∷ []) typed output drawn cells met (get_or words n []) (20 * characters (get_or words n []) + 100)
      nothing none =
          subst (λ (x : List ℕ). PrintsPiece p F W SPELL_ACTS m (n ∷ 0 ∷ 0 ∷ []) typed output drawn cells met x (20 * characters x + 100)) (sym (behind_words words n none)) (no_word none (separate_works p has 0 0 m typed output drawn 0 cells h met meets))

      spells : PrintsPiece p F W SPELL_ACTS m (n ∷ 0 ∷ 0 ∷ []) typed output drawn cells met (get_or words n []) (20 * characters (get_or words n []) + 100)
      spells =
          elim (cases_lt n many) [
            | inl lt ↦ (let name = All-get_or IsName words n [] lt hw.names in spells_name (get_or words n []) name.characters name.encoded name.some name.printable (slice_get-get_or words n [] lt) lt)
            | inr le ↦ nothing le
          ]

    few_words : (m : List ℕ) → IsKept p.world.layout.base story m → many < 32768
    unfolding begins
    few_words m kept = by_words words refl
      where
        by_words : (ws : List (List ℕ)) → words ≡ ws → many < 32768
        by_words [] e = let none = ap length e in omega arith
        by_words (w ∷ ws) e =
            let first : slice_get words 0 ≡ Some w = ap (λ (l : List (List ℕ)). slice_get l 0) e in
            let at_first : o 0 ≡ 2 + 2 * many = ap (λ (l : List (List ℕ)). begins (2 + 2 * many) l 0) e in
            let low = behind_low m (t + o 0) 0 w (found m kept 0 w first).spelled in
            omega arith

pub spell_works : SpellWorks
spell_works p has story words hw = record {
  body = SPELL_ACTS;
  more = 2;
  few = omega arith;
  there = spell_at p has;
  prints = λ memory typed output drawn n cells h kept lt m meets. spells p has typed drawn story words hw memory output cells h kept m meets n lt (few_words p has typed drawn story words hw memory kept);
}
