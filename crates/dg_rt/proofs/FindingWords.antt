-- The first word of a spelling is found.
use Rattle.std.proofs.Common.{◌≡◌, ◌≢◌, ℕ, zero, suc, ◌+◌, ◌*◌, ◌<◌, ◌≤◌, inl, inr, Bool, true, false, List, [], ◌∷◌, ◌++◌, drop, take, length, get_or, Some, refl, sym, ap, ◌∙◌, subst, arith, length-append, append_assoc}
use Rattle.std.specs.Prelude.{All, ◌==◌, encode_utf8_all}
use Rattle.std.specs.List.{sum_by}
use Rattle.std.proofs.lemmas.Bool.{eq-eqb, ne_eqb, cases_eq}
use Rattle.std.proofs.lemmas.List.Elements.{All-head, All-tail}
use Rattle.std.proofs.lemmas.List.Sums.{sum_by-cons}
use Rattle.std.proofs.Math.Utf8.{encode}
use Rattle.dg_base.specs.Sound.{IsPrintable, IsName}
use Rattle.dg_meaning.specs.Unify.{same_spelling}
use Rattle.dg_meaning.specs.Words.{word_from}
use Rattle.z_lang.specs.declared.act.Act.TheVariants as acts
use Rattle.z_lang.specs.declared.act.Atom.TheVariants as atoms
use Rattle.z_lang.specs.declared.act.Comparison.TheVariants as comparisons
use Rattle.z_lang.specs.declared.act.Function.TheVariants as functions
use Rattle.z_lang.specs.State.{State, Program, variable, value, put, with_local}
use Rattle.z_lang.specs.Acts.{computed, answer_of, does}
use Rattle.z_lang.specs.Runs.{ActsRun as Runs, Returns, at_label, goes, taken, passed, done, calls, returns, behind_label}
use Rattle.z_lang.specs.Standing.{IsKept}
use Rattle.dg_rt.specs.declared.numbers.TheConstants.{WORD_LETTER, NEXT_LETTER, SAME_WORD}
use Rattle.dg_rt.specs.declared.dictionary.TheConstants.{WORD_LETTER_ACTS, NEXT_LETTER_ACTS, SAME_WORD_ACTS, FIND_WORD_ACTS}
use Rattle.dg_rt.specs.Cells.{at_cell, bit, Holds}
use Rattle.dg_rt.specs.Areas.{state}
use Rattle.dg_rt.specs.Copies.{Row}
use Rattle.dg_rt.specs.Dictionary.{spelling_at, BytesStand, HasSpellings, dict_word, FindWorks}
use Rattle.dg_rt.specs.RunTime.{routine_of, HasRunTime}
use Rattle.dg_rt.proofs.Cells.{reads_cell}
use Rattle.dg_rt.proofs.WordLetters.{Encoded, one, two, three, encoded, Read, Passed, reads_character, passes_character}
use Rattle.dg_rt.proofs.Following.{word, some_state, tested, computes, local_1, local_2, local_3, put_1, put_2}
use Rattle.dg_rt.proofs.Locals.{added, get_1, get_2, get_3, get_4, set_3, set_4}
use Rattle.dg_rt.proofs.Spellings.{same_on, apart, some_behind, none_behind}

-- ## Where the routines stand

module _ (p : Program) (has : HasRunTime p) where
  pub character_at : p.routine_at (p.names.routine WORD_LETTER) ≡ Some (routine_of 3 WORD_LETTER_ACTS)
  character_at = has.each 110 (routine_of 3 WORD_LETTER_ACTS) refl

  pub step_at : p.routine_at (p.names.routine NEXT_LETTER) ≡ Some (routine_of 2 NEXT_LETTER_ACTS)
  step_at = has.each 111 (routine_of 2 NEXT_LETTER_ACTS) refl

  pub same_word_at : p.routine_at (p.names.routine SAME_WORD) ≡ Some (routine_of 6 SAME_WORD_ACTS)
  same_word_at = has.each 112 (routine_of 6 SAME_WORD_ACTS) refl

-- ## Locals

fourth : (p : Program) (m : List ℕ) (a b c d : ℕ) (xs t : List ℕ) (n : ℕ) (o : List ℕ) → value p (state m (a ∷ b ∷ c ∷ d ∷ xs) t n o) (atoms.Var 4) ≡ word d
unfolding variable
fourth p m a b c d xs t n o = refl

fifth : (p : Program) (m : List ℕ) (a b c d e : ℕ) (xs t : List ℕ) (n : ℕ) (o : List ℕ) → value p (state m (a ∷ b ∷ c ∷ d ∷ e ∷ xs) t n o) (atoms.Var 5) ≡ word e
unfolding variable
fifth p m a b c d e xs t n o = refl

sixth : (p : Program) (m : List ℕ) (a b c d e u : ℕ) (t : List ℕ) (n : ℕ) (o : List ℕ) → value p (state m (a ∷ b ∷ c ∷ d ∷ e ∷ u ∷ []) t n o) (atoms.Var 6) ≡ word u
unfolding variable
sixth p m a b c d e u t n o = refl

put_four : (p : Program) (m : List ℕ) (a b c d e u x : ℕ) (t : List ℕ) (n : ℕ) (o : List ℕ) → put p 4 x (state m (a ∷ b ∷ c ∷ d ∷ e ∷ u ∷ []) t n o) ≡ some_state (state m (a ∷ b ∷ c ∷ x ∷ e ∷ u ∷ []) t n o)
unfolding put with_local
put_four p m a b c d e u x t n o = refl

put_five : (p : Program) (m : List ℕ) (a b c d e u x : ℕ) (t : List ℕ) (n : ℕ) (o : List ℕ) → put p 5 x (state m (a ∷ b ∷ c ∷ d ∷ e ∷ u ∷ []) t n o) ≡ some_state (state m (a ∷ b ∷ c ∷ d ∷ x ∷ u ∷ []) t n o)
unfolding put with_local
put_five p m a b c d e u x t n o = refl

put_six : (p : Program) (m : List ℕ) (a b c d e u x : ℕ) (t : List ℕ) (n : ℕ) (o : List ℕ) → put p 6 x (state m (a ∷ b ∷ c ∷ d ∷ e ∷ u ∷ []) t n o) ≡ some_state (state m (a ∷ b ∷ c ∷ d ∷ e ∷ x ∷ []) t n o)
unfolding put with_local
put_six p m a b c d e u x t n o = refl

-- ## Bytes in a row

pub stand_behind : (p : Program) (story : List ℕ) (x y : ℕ) (bs cs : List ℕ) → y ≡ x + length bs → BytesStand p story x (bs ++ cs) → BytesStand p story y cs
stand_behind p story x y [] cs e h = let same : x ≡ y = omega arith in subst (λ (z : ℕ). BytesStand p story z cs) same h
stand_behind p story x y (b ∷ bs) cs e h = stand_behind p story (suc x) y bs cs (omega arith) h.1

-- each of some characters has at most three bytes, the first of which isn't 0
abbrev pub AreSmall : List ℕ → Type 0
AreSmall [] = Unit {0}
AreSmall (c ∷ cs) = ((c < 65536) × (0 < c)) × AreSmall cs

small_characters : (cs : List ℕ) → All IsPrintable cs → AreSmall cs
small_characters [] h = tt
small_characters (c ∷ cs) h = let to = (All-head IsPrintable c cs h).to in let from = (All-head IsPrintable c cs h).from in ((omega arith, omega arith), small_characters cs (All-tail IsPrintable c cs h))

pub name_small : (bytes : List ℕ) (name : IsName bytes) → AreSmall name.characters
name_small bytes name = small_characters name.characters name.printable

-- ## One word

module _ (p : Program) (has : HasRunTime p) (story : List ℕ) (f w : ℕ) (some : 1 ≤ f) (enough : 3 ≤ w) (memory typed output : List ℕ) (drawn : ℕ) (cells : ℕ → ℕ) (h : Holds p.world.layout memory cells) (kept : IsKept p.world.layout.base story memory) where
  abbrev six : ℕ → ℕ → ℕ → ℕ → ℕ → ℕ → State
  six a b c d e u = state memory (a ∷ b ∷ c ∷ d ∷ e ∷ u ∷ []) typed drawn output

  abbrev same : List ℕ → List ℕ → Bool
  same cs ls = same_spelling (encode_utf8_all cs) (encode_utf8_all ls)

  -- The letters that are left are compared with the characters that are left.
  pub record Compares (acts : List _) (start : State) (cs ls : List ℕ) (most : ℕ) : Type 0 where
    pub locals' : List ℕ
    pub count : ℕ
    pub few : count ≤ most
    pub runs : Runs p f w SAME_WORD_ACTS acts start (Returns (bit (same cs ls))) (state memory locals' typed drawn output) count

  reads_byte : (x a end d u v b : ℕ) → computed p.world.layout memory functions.Byte (p.names.table 1) x ≡ Some b → does p (acts.Compute 4 functions.Byte (atoms.Table 1) (atoms.Var 1)) (six x a end d u v) ≡ some_state (six x a end b u v)
  reads_byte x a end d u v b e = computes p (six x a end d u v) (six x a end b u v) 4 functions.Byte (atoms.Table 1) (atoms.Var 1) (p.names.table 1) x b refl (local_1 p memory x (a ∷ end ∷ d ∷ u ∷ v ∷ []) typed drawn output) e (put_four p memory x a end d u v b typed drawn output)

  byte_zero : (x a end d u v : ℕ) (t : Bool) → (d == 0) ≡ t → answer_of p (six x a end d u v) (record { comparison = comparisons.Equal; first = atoms.Var 4; second = atoms.Num 0; answer = true }) ≡ Some t
  byte_zero x a end d u v t e = tested p (six x a end d u v) comparisons.Equal (atoms.Var 4) (atoms.Num 0) true d 0 t (fourth p memory x a end d (u ∷ v ∷ []) typed drawn output) refl e

  -- what stands behind the last character
  no_characters : (x k end d u v : ℕ) (ls : List ℕ) (t : Bool) → computed p.world.layout memory functions.Byte (p.names.table 1) x ≡ Some 0 → (at_cell k == end) ≡ t → same [] ls ≡ t → Compares (drop 3 SAME_WORD_ACTS) (six x (at_cell k) end d u v) [] ls 5
  unfolding behind_label
  no_characters x k end d u v ls true zero_is e is = record {
    locals' = x ∷ at_cell k ∷ end ∷ 0 ∷ u ∷ v ∷ [];
    count = 4;
    few = omega arith;
    runs = rw is (done (reads_byte x (at_cell k) end d u v 0 zero_is)
        (taken (byte_zero x (at_cell k) end 0 u v true refl) refl
        (passed (tested p (six x (at_cell k) end 0 u v) comparisons.Equal (atoms.Var 2) (atoms.Var 3) false (at_cell k) end true (local_2 p memory x (at_cell k) (end ∷ 0 ∷ u ∷ v ∷ []) typed drawn output) (local_3 p memory x (at_cell k) end (0 ∷ u ∷ v ∷ []) typed drawn output) e)
        (returns refl))));
  }
  no_characters x k end d u v ls false zero_is e is = record {
    locals' = x ∷ at_cell k ∷ end ∷ 0 ∷ u ∷ v ∷ [];
    count = 4;
    few = omega arith;
    runs = rw is (done (reads_byte x (at_cell k) end d u v 0 zero_is)
        (taken (byte_zero x (at_cell k) end 0 u v true refl) refl
        (taken (tested p (six x (at_cell k) end 0 u v) comparisons.Equal (atoms.Var 2) (atoms.Var 3) false (at_cell k) end false (local_2 p memory x (at_cell k) (end ∷ 0 ∷ u ∷ v ∷ []) typed drawn output) (local_3 p memory x (at_cell k) end (0 ∷ u ∷ v ∷ []) typed drawn output) e) refl
        (returns refl))));
  }

  no_letters : (x k d u v c b : ℕ) (cs : List ℕ) → computed p.world.layout memory functions.Byte (p.names.table 1) x ≡ Some b → b ≢ 0 → c < 65536 → Compares (drop 3 SAME_WORD_ACTS) (six x (at_cell k) (at_cell k) d u v) (c ∷ cs) [] 5
  unfolding behind_label
  no_letters x k d u v c b cs byte_is ne small = record {
    locals' = x ∷ at_cell k ∷ at_cell k ∷ b ∷ u ∷ v ∷ [];
    count = 4;
    few = omega arith;
    runs = rw (none_behind c (encode_utf8_all cs) small) (done (reads_byte x (at_cell k) (at_cell k) d u v b byte_is)
        (passed (byte_zero x (at_cell k) (at_cell k) b u v false (ne_eqb b 0 ne))
        (taken (tested p (six x (at_cell k) (at_cell k) b u v) comparisons.Equal (atoms.Var 2) (atoms.Var 3) true (at_cell k) (at_cell k) true (local_2 p memory x (at_cell k) (at_cell k ∷ b ∷ u ∷ v ∷ []) typed drawn output) (local_3 p memory x (at_cell k) (at_cell k) (b ∷ u ∷ v ∷ []) typed drawn output) (eq-eqb (at_cell k) (at_cell k) refl)) refl
        (returns refl))));
  }

  -- up to the comparison of a character and a letter
  to_comparison : (x k end d u v c l b y n : ℕ) (s' : State) → computed p.world.layout memory functions.Byte (p.names.table 1) x ≡ Some b → b ≢ 0 → at_cell k ≢ end → at_cell k + 1 < p.world.layout.base → at_cell k < 65536 → cells k ≡ l → (r : Read p 0 0 memory typed output drawn x c) → Runs p f w SAME_WORD_ACTS (drop 8 SAME_WORD_ACTS) (six x (at_cell k) end b c l) (Returns y) s' n → Runs p f w SAME_WORD_ACTS (drop 3 SAME_WORD_ACTS) (six x (at_cell k) end d u v) (Returns y) s' (suc (suc (suc (suc r.count + suc n))))
  to_comparison x k end d u v c l b y n s' byte_is some_byte ne' within small is r rest =
      let a = at_cell k in
      done (reads_byte x a end d u v b byte_is)
      (passed (byte_zero x a end b u v false (ne_eqb b 0 some_byte))
      (passed (tested p (six x a end b u v) comparisons.Equal (atoms.Var 2) (atoms.Var 3) true a end false (local_2 p memory x a (end ∷ b ∷ u ∷ v ∷ []) typed drawn output) (local_3 p memory x a end (b ∷ u ∷ v ∷ []) typed drawn output) (ne_eqb a end ne'))
      (calls {f' = 0} {w' = 0} {n = r.count} {n' = suc n} {xs = (x, 0, 0)} {s2 = six x a end b c v} refl (rw (local_1 p memory x (a ∷ end ∷ b ∷ u ∷ v ∷ []) typed drawn output) refl) (character_at p has) (omega arith) (omega arith) r.runs (put_five p memory x a end b u v c typed drawn output)
      (done (computes p (six x a end b c v) (six x a end b c l) 6 functions.Word (atoms.Var 2) (atoms.Num 0) a 0 l (local_2 p memory x a (end ∷ b ∷ c ∷ v ∷ []) typed drawn output) refl (reads_cell p.world.layout memory cells a 0 k h (omega arith) within ∙ ap word is) (put_six p memory x a end b c v l typed drawn output))
      rest))))

  differs : (x k end d u v c l b : ℕ) (cs ls : List ℕ) → computed p.world.layout memory functions.Byte (p.names.table 1) x ≡ Some b → b ≢ 0 → at_cell k ≢ end → at_cell k + 1 < p.world.layout.base → at_cell k < 65536 → cells k ≡ l → c < 65536 → l < 65536 → c ≢ l → Read p 0 0 memory typed output drawn x c → Compares (drop 3 SAME_WORD_ACTS) (six x (at_cell k) end d u v) (c ∷ cs) (l ∷ ls) 31
  unfolding behind_label
  differs x k end d u v c l b cs ls byte_is some_byte ne' within small is small_c small_l apart' r =
      let a = at_cell k in
      let few = r.few in
      record {
        locals' = x ∷ a ∷ end ∷ b ∷ c ∷ l ∷ [];
        count = suc (suc (suc (suc r.count + suc 2)));
        few = omega arith;
        runs = rw (apart c l (encode_utf8_all cs) (encode_utf8_all ls) small_c small_l apart')
            (to_comparison x k end d u v c l b 0 2 (six x a end b c l) byte_is some_byte ne' within small is r
            (taken (tested p (six x a end b c l) comparisons.Equal (atoms.Var 5) (atoms.Var 6) false c l false (fifth p memory x a end b c (l ∷ []) typed drawn output) (sixth p memory x a end b c l typed drawn output) (ne_eqb c l apart')) refl
            (returns refl)));
      }

  goes_on : (x k end d u v c l b : ℕ) (cs ls : List ℕ) (most : ℕ) → computed p.world.layout memory functions.Byte (p.names.table 1) x ≡ Some b → b ≢ 0 → at_cell k ≢ end → at_cell k + 1 < p.world.layout.base → at_cell k + 2 < 65536 → cells k ≡ l → c < 65536 → c ≡ l → Read p 0 0 memory typed output drawn x c → Passed p 0 0 memory typed output drawn x c → Compares (drop 3 SAME_WORD_ACTS) (six (x + length (encode c)) (at_cell (suc k)) end b c l) cs ls most → Compares (drop 3 SAME_WORD_ACTS) (six x (at_cell k) end d u v) (c ∷ cs) (l ∷ ls) (31 + most)
  unfolding behind_label
  goes_on x k end d u v c l b cs ls most byte_is some_byte ne' within small is small_c equal r q rest =
      let a = at_cell k in
      let a' = at_cell (suc k) in
      let x' = x + length (encode c) in
      let few1 = r.few in
      let few2 = q.few in
      let few3 = rest.few in
      let spelled : same (c ∷ cs) (l ∷ ls) ≡ same cs ls = subst (λ (y : ℕ). same_spelling (encode c ++ encode_utf8_all cs) (encode y ++ encode_utf8_all ls) ≡ same cs ls) equal (same_on (encode c) (encode_utf8_all cs) (encode_utf8_all ls)) in
      record {
        locals' = rest.locals';
        count = suc (suc (suc (suc r.count + suc (suc (suc q.count + suc (suc rest.count))))));
        few = omega arith;
        runs = rw spelled
            (to_comparison x k end d u v c l b (bit (same cs ls)) (suc (suc q.count + suc (suc rest.count))) (state memory rest.locals' typed drawn output) byte_is some_byte ne' within (omega arith) is r
            (passed (tested p (six x a end b c l) comparisons.Equal (atoms.Var 5) (atoms.Var 6) false c l true (fifth p memory x a end b c (l ∷ []) typed drawn output) (sixth p memory x a end b c l typed drawn output) (eq-eqb c l equal))
            (calls {f' = 0} {w' = 0} {n = q.count} {n' = suc (suc rest.count)} {xs = (x, 0, 0)} {s2 = six x' a end b c l} refl (rw (local_1 p memory x (a ∷ end ∷ b ∷ c ∷ l ∷ []) typed drawn output) refl) (step_at p has) (omega arith) (omega arith) q.runs (put_1 p memory x x' (a ∷ end ∷ b ∷ c ∷ l ∷ []) typed drawn output)
            (done (computes p (six x' a end b c l) (six x' a' end b c l) 2 functions.Add (atoms.Var 2) (atoms.Num 2) a 2 a' (local_2 p memory x' a (end ∷ b ∷ c ∷ l ∷ []) typed drawn output) refl (added p memory a 2 a' (omega arith)) (put_2 p memory x' a a' (end ∷ b ∷ c ∷ l ∷ []) typed drawn output))
            (goes refl rest.runs)))));
      }

  -- the first byte of a character
  record FirstByte (x : ℕ) : Type 0 where
    b : ℕ
    is : computed p.world.layout memory functions.Byte (p.names.table 1) x ≡ Some b
    some_byte : b ≢ 0

  first_byte : (x c : ℕ) (rest : List ℕ) → c < 65536 → 0 < c → BytesStand p story x (encode c ++ rest) → FirstByte x
  first_byte x c rest small above stand = by_form (encoded c small) stand
    where
      by_form : Encoded c → BytesStand p story x (encode c ++ rest) → FirstByte x
      by_form (one lt is) s = let s' = subst (λ (l : List ℕ). BytesStand p story x (l ++ rest)) is s in record { b = c; is = s'.0 memory kept; some_byte = λ e. (omega arith) }
      by_form (two a b' la ha lb hb same' is) s = let s' = subst (λ (l : List ℕ). BytesStand p story x (l ++ rest)) is s in record { b = a; is = s'.0 memory kept; some_byte = λ e. (omega arith) }
      by_form (three a b' d' la ha lb hb ld hd same' is) s = let s' = subst (λ (l : List ℕ). BytesStand p story x (l ++ rest)) is s in record { b = a; is = s'.0 memory kept; some_byte = λ e. (omega arith) }

  compares : (cs ls : List ℕ) (x k end d u v : ℕ) → AreSmall cs → end ≡ at_cell (k + length ls) → x + length (encode_utf8_all cs) < 32768 → end ≤ p.world.layout.base → end < 65536 → Row cells k ls → BytesStand p story x (encode_utf8_all cs ++ 0 ∷ []) → Compares (drop 3 SAME_WORD_ACTS) (six x (at_cell k) end d u v) cs ls (31 * length ls + 5)
  compares [] [] x k end d u v small is_end low within fits row stand = no_characters x k end d u v [] true (stand.0 memory kept) (eq-eqb (at_cell k) end (omega arith)) refl
  compares [] (l ∷ ls) x k end d u v small is_end low within fits row stand =
      let small_l : l < 65536 = subst (λ (y : ℕ). y < 65536) row.0 (h.words k) in
      let r = no_characters x k end d u v (l ∷ ls) false (stand.0 memory kept) (ne_eqb (at_cell k) end (λ (q : at_cell k ≡ end). (omega arith))) (some_behind l (encode_utf8_all ls) small_l) in
      let few = r.few in
      record { locals' = r.locals'; count = r.count; few = omega arith; runs = r.runs }
  compares (c ∷ cs) [] x k end d u v small is_end low within fits row stand =
      let stand' = subst (BytesStand p story x) (append_assoc (encode c) (encode_utf8_all cs) (0 ∷ [])) stand in
      let b = first_byte x c (encode_utf8_all cs ++ 0 ∷ []) small.0.0 small.0.1 stand' in
      let same_end : at_cell k ≡ end = omega arith in
      subst (λ (y : ℕ). Compares (drop 3 SAME_WORD_ACTS) (six x (at_cell k) y d u v) (c ∷ cs) [] 5) same_end (no_letters x k d u v c b.b cs b.is b.some_byte small.0.0)
  compares (c ∷ cs) (l ∷ ls) x k end d u v small is_end low within fits row stand =
      let total = length-append (encode c) (encode_utf8_all cs) in
      let small_l : l < 65536 = subst (λ (y : ℕ). y < 65536) row.0 (h.words k) in
      let stand' = subst (BytesStand p story x) (append_assoc (encode c) (encode_utf8_all cs) (0 ∷ [])) stand in
      let b = first_byte x c (encode_utf8_all cs ++ 0 ∷ []) small.0.0 small.0.1 stand' in
      let r = reads_character p story 0 0 memory typed output drawn x c kept (omega arith) (encode_utf8_all cs ++ 0 ∷ []) small.0.0 stand' in
      let x' = x + length (encode c) in
      elim (cases_eq c l) [
        | inl equal ↦ (let rest = compares cs ls x' (suc k) end b.b c l small.1 (omega arith) (omega arith) within fits row.1 (stand_behind p story x x' (encode c) (encode_utf8_all cs ++ 0 ∷ []) refl stand') in
            let q = passes_character p story 0 0 memory typed output drawn x c kept (omega arith) (encode_utf8_all cs ++ 0 ∷ []) small.0.0 stand' in
            let g = goes_on x k end d u v c l b.b cs ls (31 * length ls + 5) b.is b.some_byte (λ (z : at_cell k ≡ end). (omega arith)) (omega arith) (omega arith) row.0 small.0.0 equal r q rest in
            let few = g.few in
            record { locals' = g.locals'; count = g.count; few = omega arith; runs = g.runs })
        | inr apart' ↦ (let g = differs x k end d u v c l b.b cs ls b.is b.some_byte (λ (z : at_cell k ≡ end). (omega arith)) (omega arith) (omega arith) row.0 small.0.0 small_l apart' r in
            let few = g.few in
            record { locals' = g.locals'; count = g.count; few = omega arith; runs = g.runs })
      ]

-- ## All words

pub sum_taken : (words : List (List ℕ)) (n : ℕ) → n < length words → sum_by length (take (suc n) words) ≡ sum_by length (take n words) + length (get_or words n [])
sum_taken [] n lt = absurd (omega arith)
sum_taken (x ∷ words) zero lt = let a = sum_by-cons length x [] in omega arith
sum_taken (x ∷ words) (suc n) lt =
    let e = sum_taken words n (omega arith) in
    let a = sum_by-cons length x (take (suc n) words) in
    let b = sum_by-cons length x (take n words) in
    omega arith

pub next_at : (words : List (List ℕ)) (n : ℕ) → n < length words → spelling_at words (suc n) ≡ suc (spelling_at words n + length (get_or words n []))
next_at words n lt = let e = sum_taken words n lt in omega arith

pub sum_most : (words : List (List ℕ)) (n : ℕ) → sum_by length (take n words) ≤ sum_by length (take (length words) words)
sum_most [] zero = omega arith
sum_most [] (suc n) = omega arith
sum_most (x ∷ words) zero = omega arith
sum_most (x ∷ words) (suc n) =
    let e = sum_most words n in
    let a = sum_by-cons length x (take n words) in
    let b = sum_by-cons length x (take (length words) words) in
    omega arith

pub low_at : (words : List (List ℕ)) (n : ℕ) → n ≤ length words → spelling_at words n ≤ spelling_at words (length words)
low_at words n le = let e = sum_most words n in omega arith

module _ (p : Program) (has : HasRunTime p) (story : List ℕ) (words : List (List ℕ)) (dict : HasSpellings p story words) (f w : ℕ) (some : 2 ≤ f) (enough : 9 ≤ w) (memory typed output : List ℕ) (drawn : ℕ) (cells : ℕ → ℕ) (h : Holds p.world.layout memory cells) (kept : IsKept p.world.layout.base story memory) (k : ℕ) (letters : List ℕ) (within : at_cell (k + length letters) ≤ p.world.layout.base) (small : at_cell (k + length letters) < 65536) (row : Row cells k letters) where
  abbrev from : ℕ
  from = at_cell k

  abbrev to : ℕ
  to = at_cell (k + length letters)

  abbrev t : ℕ
  t = p.names.table 1

  abbrev start : ℕ → List ℕ → State
  start n rest = state memory (n ∷ from ∷ to ∷ rest) typed drawn output

  -- One word of the program is compared.
  record SameWord (n : ℕ) : Type 0 where
    locals' : List ℕ
    count : ℕ
    few : count ≤ 31 * length letters + 7
    runs : Runs p 1 3 SAME_WORD_ACTS SAME_WORD_ACTS (start n (0 ∷ 0 ∷ 0 ∷ [])) (Returns (bit (same_spelling (get_or words n []) (encode_utf8_all letters)))) (state memory locals' typed drawn output) count

  same_word : (n : ℕ) → n < length words → SameWord n
  same_word n lt =
      let name = dict.names n lt in
      let x = spelling_at words n in
      let cs = name.characters in
      let size : length (get_or words n []) ≡ length (encode_utf8_all cs) = ap (λ (l : List ℕ). length l) name.encoded in
      let next = next_at words n lt in
      let top = low_at words (suc n) (omega arith) in
      let high = dict.small in
      let many = dict.few in
      let n1 = suc n in
      let r = compares p has story 1 3 (omega arith) (omega arith) memory typed output drawn cells h kept cs letters x k to 0 0 0 (name_small (get_or words n []) name) refl (omega arith) within small row (subst (λ (l : List ℕ). BytesStand p story x (l ++ 0 ∷ [])) name.encoded (dict.bytes n lt)) in
      let few = r.few in
      record {
        locals' = r.locals';
        count = suc (suc r.count);
        few = omega arith;
        runs = subst (λ (l : List ℕ). Runs p 1 3 SAME_WORD_ACTS SAME_WORD_ACTS (start n (0 ∷ 0 ∷ 0 ∷ [])) (Returns (bit (same_spelling l (encode_utf8_all letters)))) (state memory r.locals' typed drawn output) (suc (suc r.count))) (sym name.encoded)
            (done (computes p (start n (0 ∷ 0 ∷ 0 ∷ [])) (start n1 (0 ∷ 0 ∷ 0 ∷ [])) 1 functions.Add (atoms.Var 1) (atoms.Num 1) n 1 n1 (local_1 p memory n (from ∷ to ∷ 0 ∷ 0 ∷ 0 ∷ []) typed drawn output) refl (added p memory n 1 n1 (omega arith)) (put_1 p memory n n1 (from ∷ to ∷ 0 ∷ 0 ∷ 0 ∷ []) typed drawn output))
            (done (computes p (start n1 (0 ∷ 0 ∷ 0 ∷ [])) (start x (0 ∷ 0 ∷ 0 ∷ [])) 1 functions.Word (atoms.Table 1) (atoms.Var 1) t n1 x refl (local_1 p memory n1 (from ∷ to ∷ 0 ∷ 0 ∷ 0 ∷ []) typed drawn output) (dict.begins n lt memory kept) (put_1 p memory n1 x (from ∷ to ∷ 0 ∷ 0 ∷ 0 ∷ []) typed drawn output))
            (at_label r.runs)));
      }

  abbrev now : ℕ → ℕ → State
  now n d = state memory (from ∷ to ∷ n ∷ d ∷ []) typed drawn output

  record Finds (n d : ℕ) (rest : List (List ℕ)) : Type 0 where
    locals' : List ℕ
    count : ℕ
    few : count ≤ length rest * (31 * length letters + 16) + (31 * length letters + 15)
    runs : Runs p f w FIND_WORD_ACTS (drop 1 FIND_WORD_ACTS) (now n d) (Returns (dict_word (word_from n rest letters))) (state memory locals' typed drawn output) count

  -- up to the test of the last one
  to_test : (n d v i : ℕ) (s' : State) → Runs p f w FIND_WORD_ACTS (drop 2 FIND_WORD_ACTS) (now n (length words)) (Returns v) s' i → Runs p f w FIND_WORD_ACTS (drop 1 FIND_WORD_ACTS) (now n d) (Returns v) s' (suc i)
  to_test n d v i s' rest =
      let z = length words in
      done (computes p (now n d) (now n z) 4 functions.Word (atoms.Table 1) (atoms.Num 0) t 0 z refl refl (dict.many memory kept) (set_4 p memory from to n d z typed drawn output)) rest

  none_left : (n d : ℕ) → n ≡ length words → Finds n d []
  unfolding behind_label
  none_left n d e = record {
    locals' = from ∷ to ∷ n ∷ length words ∷ [];
    count = 3;
    few = omega arith;
    runs = to_test n d 65535 2 (now n (length words))
        (taken (tested p (now n (length words)) comparisons.Equal (atoms.Var 3) (atoms.Var 4) true n (length words) true (get_3 p memory from to n (length words) typed drawn output) (get_4 p memory from to n (length words) typed drawn output) (eq-eqb n (length words) e)) refl
        (returns refl));
  }

  -- one word is tried
  module _ (n d : ℕ) (x : List ℕ) (xs : List (List ℕ)) (lt : n < length words) (is : get_or words n [] ≡ x) where
    abbrev yes : ℕ
    yes = bit (same_spelling (get_or words n []) (encode_utf8_all letters))

    to_answer : (s : SameWord n) (v i : ℕ) (s' : State) → Runs p f w FIND_WORD_ACTS (drop 4 FIND_WORD_ACTS) (now n yes) (Returns v) s' i → Runs p f w FIND_WORD_ACTS (drop 1 FIND_WORD_ACTS) (now n d) (Returns v) s' (suc (suc (suc s.count + i)))
    to_answer s v i s' rest =
        to_test n d v (suc (suc s.count + i)) s'
        (passed (tested p (now n (length words)) comparisons.Equal (atoms.Var 3) (atoms.Var 4) true n (length words) false (get_3 p memory from to n (length words) typed drawn output) (get_4 p memory from to n (length words) typed drawn output) (ne_eqb n (length words) (λ (e : n ≡ length words). (omega arith))))
        (calls {f' = 1} {w' = 3} {n = s.count} {n' = i} {xs = (n, from, to)} {s2 = now n yes} refl (rw (get_3 p memory from to n (length words) typed drawn output, get_1 p memory from to n (length words) typed drawn output, get_2 p memory from to n (length words) typed drawn output) refl) (same_word_at p has) (omega arith) (omega arith) s.runs (set_4 p memory from to n (length words) yes typed drawn output)
        rest))

    by_answer : (b : Bool) → same_spelling (get_or words n []) (encode_utf8_all letters) ≡ b → SameWord n → Finds (suc n) 0 xs → Finds n d (x ∷ xs)
    unfolding behind_label
    by_answer true e s rest =
        let few = s.few in
        let found : dict_word (word_from n (x ∷ xs) letters) ≡ n = rw (sym (ap (λ (l : List ℕ). same_spelling l (encode_utf8_all letters)) is) ∙ e) refl in
        record {
          locals' = from ∷ to ∷ n ∷ 1 ∷ [];
          count = suc (suc (suc s.count + 2));
          few = omega arith;
          runs = rw found (to_answer s n 2 (now n 1)
              (rw (ap bit e) (taken (tested p (now n 1) comparisons.Equal (atoms.Var 4) (atoms.Num 0) false 1 0 false (get_4 p memory from to n 1 typed drawn output) refl refl) refl
              (returns (get_3 p memory from to n 1 typed drawn output)))));
        }
    by_answer false e s rest =
        let few = s.few in
        let few2 = rest.few in
        let many = dict.few in
        let n1 = suc n in
        let later : word_from n (x ∷ xs) letters ≡ word_from n1 xs letters = rw (sym (ap (λ (l : List ℕ). same_spelling l (encode_utf8_all letters)) is) ∙ e) refl in
        record {
          locals' = rest.locals';
          count = suc (suc (suc s.count + suc (suc (suc rest.count))));
          few = omega arith;
          runs = rw later (to_answer s (dict_word (word_from n1 xs letters)) (suc (suc (suc rest.count))) (state memory rest.locals' typed drawn output)
              (rw (ap bit e) (passed (tested p (now n 0) comparisons.Equal (atoms.Var 4) (atoms.Num 0) false 0 0 true (get_4 p memory from to n 0 typed drawn output) refl refl)
              (done (computes p (now n 0) (now n1 0) 3 functions.Add (atoms.Var 3) (atoms.Num 1) n 1 n1 (get_3 p memory from to n 0 typed drawn output) refl (added p memory n 1 n1 (omega arith)) (set_3 p memory from to n 0 n1 typed drawn output))
              (goes refl rest.runs)))));
        }

  finds : (rest : List (List ℕ)) (n d : ℕ) → ((i : ℕ) → get_or rest i [] ≡ get_or words (n + i) []) → n + length rest ≡ length words → Finds n d rest
  finds [] n d same total = none_left n d (omega arith)
  finds (x ∷ xs) n d same total =
      let lt : n < length words = omega arith in
      let is : get_or words n [] ≡ x = ap (λ (i : ℕ). get_or words i []) (omega arith) ∙ sym (same 0) in
      let rest = finds xs (suc n) 0 (λ i. same (suc i) ∙ ap (λ (j : ℕ). get_or words j []) (omega arith)) (omega arith) in
      by_answer n d x xs lt is (same_spelling (get_or words n []) (encode_utf8_all letters)) refl (same_word n lt) rest

pub find_works : FindWorks
find_works p has story words dict f w some enough memory typed output drawn cells h kept k letters within small row =
    let r = finds p has story words dict f w some enough memory typed output drawn cells h kept k letters within small row words 0 0 (λ i. ap (λ (j : ℕ). get_or words j []) (omega arith)) (omega arith) in
    let few = r.few in
    record { locals' = r.locals'; count = r.count; few = omega arith; runs = at_label r.runs }
