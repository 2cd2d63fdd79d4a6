-- The routine that reads a character does so, and the next one is found.
use Rattle.std.proofs.Common.{◌≡◌, ℕ, suc, ◌+◌, ◌-◌, ◌*◌, ◌/◌, ◌%◌, ◌<◌, ◌≤◌, inl, inr, Bool, true, false, List, [], ◌∷◌, ◌++◌, drop, length, Some, refl, sym, ap, ◌∙◌, subst, arith}
use Rattle.std.proofs.lemmas.Bool.{lt-ltb, le-ltb, cases_lt}
use Rattle.std.proofs.Math.Utf8.{encode}
use Rattle.z_model.specs.Memory.{guarded, byte_in, memory_word}
use Rattle.z_lang.specs.declared.act.Act.{Act}
use Rattle.z_lang.specs.declared.act.Act.TheVariants as acts
use Rattle.z_lang.specs.declared.act.Atom.TheVariants as atoms
use Rattle.z_lang.specs.declared.act.Comparison.TheVariants as comparisons
use Rattle.z_lang.specs.declared.act.Function.TheVariants as functions
use Rattle.z_lang.specs.State.{State, Program, unless_fault}
use Rattle.z_lang.specs.Acts.{answer_of, computed}
use Rattle.z_lang.specs.Runs.{ActsRun as Runs, ActsOutcome as Outcome, Returns, at_label, taken, passed, done, goes, returns, behind_label}
use Rattle.z_lang.proofs.Effects.{no_fault}
use Rattle.dg_rt.specs.declared.spelling.TheConstants.{CHARACTER_ACTS, SPELL_ACTS}
use Rattle.dg_rt.specs.Cells.{compared}
use Rattle.dg_rt.specs.Areas.{state}
use Rattle.dg_rt.specs.Words.{ByteAt, BytesFrom, CharacterWorks}
use Rattle.dg_rt.proofs.Closing.{itself}
use Rattle.dg_rt.proofs.Following.{word, tested, computes, copies, local_1, local_2, local_3, put_1, put_2, put_3}
use Rattle.dg_rt.proofs.Locals.{added, adds, subtracts, less_by, not_less_by, high_is_negative, simple_is_positive}

-- ## What is read

pub bytes_front : (p : Program) (m : List ℕ) (a : ℕ) (xs ys : List ℕ) → BytesFrom p m a (xs ++ ys) → BytesFrom p m a xs
bytes_front p m a [] ys h = tt
bytes_front p m a (x ∷ xs) ys h = (h.0, bytes_front p m (suc a) xs ys h.1)

pub bytes_back : (p : Program) (m : List ℕ) (a b : ℕ) (xs ys : List ℕ) → b ≡ a + length xs → BytesFrom p m a (xs ++ ys) → BytesFrom p m b ys
bytes_back p m a b [] ys e h = let same : a ≡ b = omega arith in subst (λ (i : ℕ). BytesFrom p m i ys) same h
bytes_back p m a b (x ∷ xs) ys e h = bytes_back p m (suc a) b xs ys (omega arith) h.1

pub reads_byte : (p : Program) (m : List ℕ) (x y a b : ℕ) → x + y ≡ a → ByteAt p m a b → computed p.world.layout m functions.Byte x y ≡ word b
unfolding computed
reads_byte p m x y a b e h =
    let low = h.0 in
    let same : (x + y) % 65536 ≡ a = omega arith in
    ap (λ (i : ℕ). unless_fault (byte_in (guarded p.world.layout m) i)) same ∙ h.1

pub reads_word : (p : Program) (m : List ℕ) (x y a b c : ℕ) → x + 2 * y ≡ a → BytesFrom p m a (b ∷ c ∷ []) → computed p.world.layout m functions.Word x y ≡ word (256 * b + c)
unfolding computed memory_word
reads_word p m x y a b c e h =
    let low = h.0.0 in
    let low' = h.1.0.0 in
    let first : (x + 2 * y) % 65536 ≡ a = omega arith in
    let second : (a + 1) % 65536 ≡ suc a = omega arith in
    rw (first, no_fault (byte_in (guarded p.world.layout m) a) b h.0.1, second, no_fault (byte_in (guarded p.world.layout m) (suc a)) c h.1.0.1) refl

-- ## One character

-- It takes so many instructions to read.
abbrev pub Reads : Program → List ℕ → List ℕ → List ℕ → ℕ → ℕ → ℕ → ℕ → Type 0
Reads p m typed out drawn a c k = (l : List ℕ) × ((f w : ℕ) → Runs p f w CHARACTER_ACTS CHARACTER_ACTS (state m (a ∷ 0 ∷ 0 ∷ []) typed drawn out) (Returns c) (state m l typed drawn out) k)

module _ (p : Program) (m typed : List ℕ) (drawn a c : ℕ) (out : List ℕ) where
  abbrev at : ℕ → ℕ → State
  at b d = state m (a ∷ b ∷ d ∷ []) typed drawn out

  less : (b d k : ℕ) (t : Bool) → compared comparisons.Less b k ≡ t → answer_of p (at b d) (record { comparison = comparisons.Less; first = atoms.Var 2; second = atoms.Num k; answer = true }) ≡ Some t
  less b d k t e = tested p (at b d) comparisons.Less (atoms.Var 2) (atoms.Num k) true b k t (local_2 p m a b (d ∷ []) typed drawn out) refl e

  pub reads_one : c < 128 → BytesFrom p m a (c ∷ []) → Reads p m typed out drawn a c 3
  unfolding behind_label
  reads_one lt h = (
    a ∷ c ∷ 0 ∷ [],
    λ f w. done (computes p (at 0 0) (at c 0) 2 functions.Byte (atoms.Var 1) (atoms.Num 0) a 0 c (local_1 p m a (0 ∷ 0 ∷ []) typed drawn out) refl (reads_byte p m a 0 a c (omega arith) h.0) (put_2 p m a 0 c (0 ∷ []) typed drawn out))
        (taken (less c 0 128 true (less_by c 128 (omega arith) (omega arith) lt)) refl (returns (local_2 p m a c (0 ∷ []) typed drawn out))),
  )

  -- two bytes are read
  two_read : (f w b0 b1 x1 x2 : ℕ) → 128 ≤ b0 → b0 < 256 → ByteAt p m a b0 → ByteAt p m (suc a) b1 → (b0 * 64) % 65536 ≡ x1 → (x1 + b1) % 65536 ≡ x2 → (o : Outcome) (s' : State) (n : ℕ) → Runs p f w CHARACTER_ACTS (drop 5 CHARACTER_ACTS) (at x2 b1) o s' n → Runs p f w CHARACTER_ACTS CHARACTER_ACTS (at 0 0) o s' (suc (suc (suc (suc (suc n)))))
  unfolding computed
  two_read f w b0 b1 x1 x2 le lt h h' e e' o s' n rest =
      done (computes p (at 0 0) (at b0 0) 2 functions.Byte (atoms.Var 1) (atoms.Num 0) a 0 b0 (local_1 p m a (0 ∷ 0 ∷ []) typed drawn out) refl (reads_byte p m a 0 a b0 (omega arith) h) (put_2 p m a 0 b0 (0 ∷ []) typed drawn out))
      (passed (less b0 0 128 false (not_less_by b0 128 (omega arith) (omega arith) le))
      (done (computes p (at b0 0) (at b0 b1) 3 functions.Byte (atoms.Var 1) (atoms.Num 1) a 1 b1 (local_1 p m a (b0 ∷ 0 ∷ []) typed drawn out) refl (reads_byte p m a 1 (suc a) b1 (omega arith) h') (put_3 p m a b0 0 b1 [] typed drawn out))
      (done (computes p (at b0 b1) (at x1 b1) 2 functions.Mul (atoms.Var 2) (atoms.Num 64) b0 64 x1 (local_2 p m a b0 (b1 ∷ []) typed drawn out) refl (ap word e) (put_2 p m a b0 x1 (b1 ∷ []) typed drawn out))
      (done (computes p (at x1 b1) (at x2 b1) 2 functions.Add (atoms.Var 2) (atoms.Var 3) x1 b1 x2 (local_2 p m a x1 (b1 ∷ []) typed drawn out) (local_3 p m a x1 b1 [] typed drawn out) (added p m x1 b1 x2 e') (put_2 p m a x1 x2 (b1 ∷ []) typed drawn out))
      rest))))

  reads_two : 128 ≤ c → c < 2048 → BytesFrom p m a ((192 + c / 64) ∷ (128 + c % 64) ∷ []) → Reads p m typed out drawn a c 8
  unfolding behind_label
  reads_two le lt h =
      let b0 = 192 + c / 64 in
      let b1 = 128 + c % 64 in
      let x2 = 12416 + c in (
        a ∷ c ∷ b1 ∷ [],
        λ f w. two_read f w b0 b1 (b0 * 64) x2 (omega arith) (omega arith) h.0 h.1.0 (omega arith) (omega arith) (Returns c) (at c b1) 3
            (taken (less x2 b1 14464 true (less_by x2 14464 (omega arith) (omega arith) (omega arith))) refl
            (done (computes p (at x2 b1) (at c b1) 2 functions.Sub (atoms.Var 2) (atoms.Num 12416) x2 12416 c (local_2 p m a x2 (b1 ∷ []) typed drawn out) refl (subtracts p m x2 12416 c refl (omega arith)) (put_2 p m a x2 c (b1 ∷ []) typed drawn out))
            (at_label (returns (local_2 p m a c (b1 ∷ []) typed drawn out))))),
      )

  reads_three : 2048 ≤ c → c < 65536 → BytesFrom p m a ((224 + c / 4096) ∷ (128 + c / 64 % 64) ∷ (128 + c % 64) ∷ []) → Reads p m typed out drawn a c 11
  unfolding behind_label computed
  reads_three le lt h =
      let b0 = 224 + c / 4096 in
      let b1 = 128 + c / 64 % 64 in
      let b2 = 128 + c % 64 in
      let q = c / 64 in
      let x2 = 14464 + q in
      let x3 = (x2 * 64) % 65536 in
      let x4 = (x3 + b2) % 65536 in
      let last : (x4 + (65536 - 8320)) % 65536 ≡ c = omega arith in (
        a ∷ c ∷ b2 ∷ [],
        λ f w. two_read f w b0 b1 (b0 * 64) x2 (omega arith) (omega arith) h.0 h.1.0 (omega arith) (omega arith) (Returns c) (at c b2) 6
            (passed (less x2 b1 14464 false (not_less_by x2 14464 (omega arith) (omega arith) (omega arith)))
            (done (computes p (at x2 b1) (at x2 b2) 3 functions.Byte (atoms.Var 1) (atoms.Num 2) a 2 b2 (local_1 p m a (x2 ∷ b1 ∷ []) typed drawn out) refl (reads_byte p m a 2 (suc (suc a)) b2 (omega arith) h.1.1.0) (put_3 p m a x2 b1 b2 [] typed drawn out))
            (done (computes p (at x2 b2) (at x3 b2) 2 functions.Mul (atoms.Var 2) (atoms.Num 64) x2 64 x3 (local_2 p m a x2 (b2 ∷ []) typed drawn out) refl refl (put_2 p m a x2 x3 (b2 ∷ []) typed drawn out))
            (done (computes p (at x3 b2) (at x4 b2) 2 functions.Add (atoms.Var 2) (atoms.Var 3) x3 b2 x4 (local_2 p m a x3 (b2 ∷ []) typed drawn out) (local_3 p m a x3 b2 [] typed drawn out) (added p m x3 b2 x4 refl) (put_2 p m a x3 x4 (b2 ∷ []) typed drawn out))
            (done (computes p (at x4 b2) (at c b2) 2 functions.Sub (atoms.Var 2) (atoms.Num 8320) x4 8320 c (local_2 p m a x4 (b2 ∷ []) typed drawn out) refl (ap word last) (put_2 p m a x4 c (b2 ∷ []) typed drawn out))
            (returns (local_2 p m a c (b2 ∷ []) typed drawn out))))))),
      )

-- ## The next character

module _ (p : Program) (f w : ℕ) (m typed : List ℕ) (drawn : ℕ) where
  abbrev st : ℕ → ℕ → ℕ → List ℕ → State
  st a b d out = state m (a ∷ b ∷ d ∷ []) typed drawn out

  -- The address is that of the next character, in so many instructions.
  pub record Advanced (a a' c : ℕ) (k : ℕ) : Type 0 where
    pub total : ℕ → ℕ
    pub bound : (n : ℕ) → total n ≤ k + n
    pub leads : (d : ℕ) (out : List ℕ) (o : Outcome) (s' : State) (n : ℕ) → Runs p f w SPELL_ACTS (drop 27 SPELL_ACTS) (st a' c c out) o s' n → Runs p f w SPELL_ACTS (drop 16 SPELL_ACTS) (st a c d out) o s' (total n)

  compares : (a c d k : ℕ) (out : List ℕ) (answer t : Bool) → compared comparisons.Less c k ≡ t → answer_of p (st a c d out) (record { comparison = comparisons.Less; first = atoms.Var 2; second = atoms.Num k; answer = answer }) ≡ Some t
  compares a c d k out answer t e = tested p (st a c d out) comparisons.Less (atoms.Var 2) (atoms.Num k) answer c k t (local_2 p m a c (d ∷ []) typed drawn out) refl e

  module _ (a c : ℕ) where
    keeps_it : (d : ℕ) (out : List ℕ) (o : Outcome) (s' : State) (n : ℕ) → Runs p f w SPELL_ACTS (drop 17 SPELL_ACTS) (st a c c out) o s' n → Runs p f w SPELL_ACTS (drop 16 SPELL_ACTS) (st a c d out) o s' (suc n)
    keeps_it d out o s' n rest = done (copies p (st a c d out) (st a c c out) 3 (atoms.Var 2) c (local_2 p m a c (d ∷ []) typed drawn out) (put_3 p m a c d c [] typed drawn out)) rest

    moves : (x k x' : ℕ) (out : List ℕ) → x + k ≡ x' → x' < 65536 → (more : List Act) (o : Outcome) (s' : State) (n : ℕ) → Runs p f w SPELL_ACTS more (st x' c c out) o s' n → Runs p f w SPELL_ACTS (acts.Compute 1 functions.Add (atoms.Var 1) (atoms.Num k) ∷ more) (st x c c out) o s' (suc n)
    moves x k x' out e lt more o s' n rest = done (computes p (st x c c out) (st x' c c out) 1 functions.Add (atoms.Var 1) (atoms.Num k) x k x' (local_1 p m x (c ∷ c ∷ []) typed drawn out) refl (adds p m x k x' e lt) (put_1 p m x x' (c ∷ c ∷ []) typed drawn out)) rest

    one_on : c < 128 → a + 1 < 65536 → Advanced a (a + 1) c 6
    unfolding behind_label
    one_on lt low = record {
      total = λ n. suc (suc (suc (suc (suc (suc n)))));
      bound = λ n. omega arith;
      leads = λ d out o s' n rest. keeps_it d out o s' (suc (suc (suc (suc (suc n))))) (passed (compares a c c 0 out true false (simple_is_positive c (omega arith)))
          (passed (compares a c c 2048 out false true (less_by c 2048 (omega arith) (omega arith) (omega arith)))
          (taken (compares a c c 128 out true true (less_by c 128 (omega arith) (omega arith) lt)) refl
          (moves a 1 (a + 1) out refl low (drop 23 SPELL_ACTS) o s' (suc n) (goes refl rest)))));
    }

    two_on : 128 ≤ c → c < 2048 → a + 2 < 65536 → Advanced a (a + 2) c 7
    unfolding behind_label
    two_on le lt low = record {
      total = λ n. suc (suc (suc (suc (suc (suc (suc n))))));
      bound = λ n. omega arith;
      leads = λ d out o s' n rest. keeps_it d out o s' (suc (suc (suc (suc (suc (suc n)))))) (passed (compares a c c 0 out true false (simple_is_positive c (omega arith)))
          (passed (compares a c c 2048 out false true (less_by c 2048 (omega arith) (omega arith) lt))
          (passed (compares a c c 128 out true false (not_less_by c 128 (omega arith) (omega arith) le))
          (moves a 1 (a + 1) out refl (omega arith) (drop 21 SPELL_ACTS) o s' (suc (suc n)) (at_label (moves (a + 1) 1 (a + 2) out (omega arith) low (drop 23 SPELL_ACTS) o s' (suc n) (goes refl rest)))))));
    }

    three_on : 2048 ≤ c → c < 65536 → a + 3 < 65536 → Advanced a (a + 3) c 4
    unfolding behind_label
    three_on le lt low =
        elim (cases_lt c 32768) [
          | inl pos ↦ record {
            total = λ n. suc (suc (suc (suc n)));
            bound = λ n. omega arith;
            leads = λ d out o s' n rest. keeps_it d out o s' (suc (suc (suc n))) (passed (compares a c c 0 out true false (simple_is_positive c pos))
                (taken (compares a c c 2048 out false false (not_less_by c 2048 pos (omega arith) le)) refl
                (moves a 3 (a + 3) out refl low (drop 26 SPELL_ACTS) o s' n (at_label rest))));
          }
          | inr high ↦ (let is : 32768 + (c - 32768) ≡ c = omega arith in
              let negative : compared comparisons.Less c 0 ≡ true = subst (λ (x : ℕ). compared comparisons.Less x 0 ≡ true) is (high_is_negative (c - 32768) (omega arith)) in
              record {
                total = λ n. suc (suc (suc n));
                bound = λ n. omega arith;
                leads = λ d out o s' n rest. keeps_it d out o s' (suc (suc n)) (taken (compares a c c 0 out true true negative) refl (moves a 3 (a + 3) out refl low (drop 26 SPELL_ACTS) o s' n (at_label rest)));
              })
        ]

  -- A character is read, and the next one comes behind its bytes: both in at most 15 instructions.
  pub record Handled (a c : ℕ) : Type 0 where
    pub k : ℕ
    pub n : ℕ
    pub few : k + n ≤ 15
    pub short : k ≤ 11
    pub reads : (out : List ℕ) → Reads p m typed out drawn a c k
    pub next : a + length (encode c) < 65536 → Advanced a (a + length (encode c)) c n

  pub handled : (a c : ℕ) → c < 65536 → BytesFrom p m a (encode c) → Handled a c
  unfolding encode
  handled a c small h =
      elim (cases_lt c 128) [
        | inl one ↦ (let is : encode c ≡ c ∷ [] = itself c one in
            record {
              k = 3;
              n = 6;
              few = omega arith;
              short = omega arith;
              reads = λ out. reads_one p m typed drawn a c out one (subst (BytesFrom p m a) is h);
              next = λ lt. subst (λ (bs : List ℕ). a + length bs < 65536 → Advanced a (a + length bs) c 6) (sym is) (one_on a c one) lt;
            })
        | inr le ↦ elim (cases_lt c 2048) [
          | inl two ↦ (let is : encode c ≡ (192 + c / 64) ∷ (128 + c % 64) ∷ [] = rw (le-ltb c 128 le, lt-ltb c 2048 two) refl in
              record {
                k = 8;
                n = 7;
                few = omega arith;
                short = omega arith;
                reads = λ out. reads_two p m typed drawn a c out le two (subst (BytesFrom p m a) is h);
                next = λ lt. subst (λ (bs : List ℕ). a + length bs < 65536 → Advanced a (a + length bs) c 7) (sym is) (two_on a c le two) lt;
              })
          | inr le' ↦ (let is : encode c ≡ (224 + c / 4096) ∷ (128 + c / 64 % 64) ∷ (128 + c % 64) ∷ [] = rw (le-ltb c 128 le, le-ltb c 2048 le', lt-ltb c 65536 small) refl in
              record {
                k = 11;
                n = 4;
                few = omega arith;
                short = omega arith;
                reads = λ out. reads_three p m typed drawn a c out le' small (subst (BytesFrom p m a) is h);
                next = λ lt. subst (λ (bs : List ℕ). a + length bs < 65536 → Advanced a (a + length bs) c 4) (sym is) (three_on a c le' small) lt;
              })
        ]
      ]

pub character_works : CharacterWorks
character_works p f w memory typed output drawn a c small h =
    let r = handled p f w memory typed drawn a c small h in
    let t = r.reads output in
    record { locals' = t.0; count = r.k; few = r.short; runs = t.1 f w }
