-- The letter of a code is answered, and that of a typed unit is its letter.
use Rattle.std.proofs.Common.{◌≡◌, ℕ, suc, ◌+◌, ◌<◌, ◌≤◌, Bool, true, false, cond, List, [], ◌∷◌, Option, Some, None, length, refl, sym, ap, ◌∙◌, subst, arith}
use Rattle.std.specs.Prelude.{◌==◌, ◌&&◌, ◌||◌, nat_lt, is_some, unwrap_or, if◌then◌else◌}
use Rattle.std.specs.List.{list_all}
use Rattle.std.proofs.lemmas.Bool.{eq-eqb, ne_eqb, lt-ltb, le-ltb, and_parts, and_from, ltb-true, eqb-true}
use Rattle.dg_base.specs.Typed.{extra, place_from, place_of, is_capital, lowered, is_kept, typed}
use Rattle.dg_meaning.specs.Pieces.{shown_letter}
use Rattle.dg_meaning.specs.Words.{or_question, letter_of}
use Rattle.z_model.specs.Typed.{code_or_question, typed_code}
use Rattle.z_model.specs.Zscii.{is_character, zscii_of}
use Rattle.z_lang.specs.declared.act.Act.{Act}
use Rattle.z_lang.specs.declared.act.Act.TheVariants as acts
use Rattle.z_lang.specs.declared.act.Atom.TheVariants as atoms
use Rattle.z_lang.specs.declared.act.Comparison.TheVariants as comparisons
use Rattle.z_lang.specs.State.{State, Program}
use Rattle.z_lang.specs.Runs.{ActsRun as Runs, Returns, taken, passed, returns, behind_label}
use Rattle.dg_rt.specs.declared.typing.TheConstants.{UNICODE_ACTS}
use Rattle.dg_rt.specs.Areas.{state}
use Rattle.dg_rt.proofs.Following.{tested, local_1}

-- ## The routine

-- Letters by their codes, which begin with this one.
abbrev chain : ℕ → List ℕ → List Act
chain k [] = acts.Return (atoms.Var 1) ∷ []
chain k (u ∷ us) =
    acts.When (record { comparison = comparisons.Equal; first = atoms.Var 1; second = atoms.Num k; answer = false }) k
    ∷ acts.Return (atoms.Num u) ∷ acts.Label k ∷ chain (suc k) us

-- What is answered.
abbrev pub found : ℕ → List ℕ → ℕ → ℕ
found k [] c = c
found k (u ∷ us) c = if c == k then u else found (suc k) us c

is_chain : UNICODE_ACTS ≡ chain 155 extra
is_chain = refl

abbrev some_list : List Act → Option (List Act)
some_list xs = Some xs

-- Labels lead into what is left.
abbrev Leads : List Act → ℕ → List ℕ → Type 0
Leads body k us = (j : ℕ) → k ≤ j → behind_label j body ≡ behind_label j (chain k us)

own_label : (k : ℕ) (u : ℕ) (us : List ℕ) → behind_label k (chain k (u ∷ us)) ≡ some_list (chain (suc k) us)
unfolding behind_label
own_label k u us = rw (eq-eqb k k refl) refl

next_label : (k j : ℕ) (u : ℕ) (us : List ℕ) → suc k ≤ j → behind_label j (chain k (u ∷ us)) ≡ behind_label j (chain (suc k) us)
unfolding behind_label
next_label k j u us le = rw (ne_eqb k j (λ (e : k ≡ j). (omega arith))) refl

pub record Letter (p : Program) (f w : ℕ) (memory typed output : List ℕ) (drawn c : ℕ) (body acts : List Act) (answer : ℕ) (most : ℕ) : Type 0 where
  pub count : ℕ
  pub few : count ≤ most
  pub runs : Runs p f w body acts (state memory (c ∷ []) typed drawn output) (Returns answer) (state memory (c ∷ []) typed drawn output) count

module _ (p : Program) (f w : ℕ) (memory typed output : List ℕ) (drawn c : ℕ) (body : List Act) where
  abbrev st : State
  st = state memory (c ∷ []) typed drawn output

  on_chain : (us : List ℕ) (k : ℕ) → Leads body k us → Letter p f w memory typed output drawn c body (chain k us) (found k us c) (length us + 2)
  on_chain [] k leads = record { count = 1; few = omega arith; runs = returns (local_1 p memory c [] typed drawn output) }
  on_chain (u ∷ us) k leads = by_test (c == k) refl (on_chain us (suc k) (λ j le. leads j (omega arith) ∙ next_label k j u us le))
    where
      by_test : (t : Bool) → (c == k) ≡ t → Letter p f w memory typed output drawn c body (chain (suc k) us) (found (suc k) us c) (length us + 2) → Letter p f w memory typed output drawn c body (chain k (u ∷ us)) (found k (u ∷ us) c) (length (u ∷ us) + 2)
      by_test true e rest = record {
        count = 2;
        few = omega arith;
        runs = rw e (passed (tested p st comparisons.Equal (atoms.Var 1) (atoms.Num k) false c k true (local_1 p memory c [] typed drawn output) refl e) (returns refl));
      }
      by_test false e rest =
          let few = rest.few in
          record {
            count = suc rest.count;
            few = omega arith;
            runs = rw e (taken (tested p st comparisons.Equal (atoms.Var 1) (atoms.Num k) false c k false (local_1 p memory c [] typed drawn output) refl e) (leads k (omega arith) ∙ own_label k u us) rest.runs);
          }

pub tells_letter : (p : Program) (f w : ℕ) (memory typed output : List ℕ) (drawn c : ℕ) → Letter p f w memory typed output drawn c UNICODE_ACTS UNICODE_ACTS (found 155 extra c) 71
tells_letter p f w memory typed output drawn c =
    let r = on_chain p f w memory typed output drawn c (chain 155 extra) extra 155 (λ j le. refl) in
    subst (λ (l : List Act). Letter p f w memory typed output drawn c l l (found 155 extra c) 71) (sym is_chain) r

-- ## Letters of typed units

-- A letter has a code that is a byte and whose letter it is, and is printed as it is.
abbrev good : ℕ → Bool
good d = (found 155 extra (unwrap_or (zscii_of d) 63) == d) && (nat_lt (unwrap_or (zscii_of d) 63) 256 && (nat_lt d 55296 && is_character d))

found_low : (k : ℕ) (us : List ℕ) (c : ℕ) → c < k → found k us c ≡ c
found_low k [] c lt = refl
found_low k (u ∷ us) c lt = rw (ne_eqb c k (λ (e : c ≡ k). (omega arith))) (found_low (suc k) us c (omega arith))

good_ascii : (d : ℕ) → 31 < d → d < 127 → good d ≡ true
good_ascii d above below =
    let code : unwrap_or (zscii_of d) 63 ≡ d = rw (lt-ltb 31 d above, lt-ltb d 127 below) refl in
    and_from (found 155 extra (unwrap_or (zscii_of d) 63) == d) (nat_lt (unwrap_or (zscii_of d) 63) 256 && (nat_lt d 55296 && is_character d))
    (eq-eqb (found 155 extra (unwrap_or (zscii_of d) 63)) d (ap (found 155 extra) code ∙ found_low 155 extra d (omega arith)))
    (and_from (nat_lt (unwrap_or (zscii_of d) 63) 256) (nat_lt d 55296 && is_character d) (ap (λ (x : ℕ). nat_lt x 256) code ∙ lt-ltb d 256 (omega arith))
    (and_from (nat_lt d 55296) (is_character d) (lt-ltb d 55296 (omega arith)) (rw (lt-ltb 31 d above, ne_eqb d 127 (λ (e : d ≡ 127). (omega arith)), le-ltb 55295 d (omega arith)) refl)))

all_good : list_all (λ c. good (lowered c)) extra ≡ true
unfolding place_from
all_good = refl

found_in : (test : ℕ → Bool) (v here : ℕ) (table : List ℕ) → list_all test table ≡ true → is_some (place_from v here table) ≡ true → test v ≡ true
unfolding place_from
found_in test v here [] all is = absurd (cc is)
found_in test v here (entry ∷ table) all is =
    let parts = and_parts (test entry) (list_all test table) all in
    by_test (entry == v) refl parts.0 (λ h. found_in test v (here + 1) table parts.1 h) is
  where
    by_test : (t : Bool) → t ≡ (entry == v) → test entry ≡ true → (is_some (place_from v (here + 1) table) ≡ true → test v ≡ true) → is_some (cond t (Some here) (place_from v (here + 1) table)) ≡ true → test v ≡ true
    by_test true e one rest h = subst (λ (x : ℕ). test x ≡ true) (eqb-true entry v (sym e)) one
    by_test false e one rest h = rest h

lowered_ascii : (c : ℕ) → 31 < c → c < 127 → good (lowered c) ≡ true
lowered_ascii c above below = by_test (is_capital c) (c == 0x152) refl refl
  where
    capital_low : is_capital c ≡ true → c < 91
    capital_low e = by_range (nat_lt 64 c && nat_lt c 91) (nat_lt 191 c && nat_lt c 223) (λ q. (let p = and_parts (nat_lt 64 c) (nat_lt c 91) q in ltb-true c 91 p.1)) (λ q. (let p = and_parts (nat_lt 191 c) (nat_lt c 223) q in let x = ltb-true 191 c p.0 in absurd (omega arith))) e
      where
        by_range : (a b : Bool) → (a ≡ true → c < 91) → (b ≡ true → c < 91) → (a || b) ≡ true → c < 91
        by_range true b f g h = f refl
        by_range false b f g h = g h

    by_test : (a b : Bool) → is_capital c ≡ a → (c == 0x152) ≡ b → good (cond a (c + 32) (cond b 0x153 c)) ≡ true
    by_test true b e e' = let low = capital_low e in good_ascii (c + 32) (omega arith) (omega arith)
    by_test false true e e' = let same = eqb-true c 0x152 e' in absurd (omega arith)
    by_test false false e e' = good_ascii c above below

kept_good : (c : ℕ) → is_kept c ≡ true → good (lowered c) ≡ true
kept_good c e = by_range (nat_lt 31 c && nat_lt c 127) (is_some (place_of c extra)) (λ q. (let p = and_parts (nat_lt 31 c) (nat_lt c 127) q in lowered_ascii c (ltb-true 31 c p.0) (ltb-true c 127 p.1))) (λ q. found_in (λ x. good (lowered x)) c 0 extra all_good q) e
  where
    by_range : (a b : Bool) → (a ≡ true → good (lowered c) ≡ true) → (b ≡ true → good (lowered c) ≡ true) → (a || b) ≡ true → good (lowered c) ≡ true
    by_range true b f g h = f refl
    by_range false b f g h = g h

-- A typed unit's code is a byte, and its letter is the unit's, which is printed as it is.
pub record UnitIs (code letter : ℕ) : Type 0 where
  pub small : code < 256
  pub letter_is : found 155 extra code ≡ letter
  pub low : letter < 65536
  pub printed : is_character (shown_letter letter) ≡ true

of_good : (d : ℕ) → good d ≡ true → UnitIs (unwrap_or (zscii_of d) 63) d
of_good d e =
    let a = and_parts (found 155 extra (unwrap_or (zscii_of d) 63) == d) (nat_lt (unwrap_or (zscii_of d) 63) 256 && (nat_lt d 55296 && is_character d)) e in
    let b = and_parts (nat_lt (unwrap_or (zscii_of d) 63) 256) (nat_lt d 55296 && is_character d) a.1 in
    let g = and_parts (nat_lt d 55296) (is_character d) b.1 in
    let lt = ltb-true d 55296 g.0 in
    record {
      small = ltb-true (unwrap_or (zscii_of d) 63) 256 b.0;
      letter_is = eqb-true (found 155 extra (unwrap_or (zscii_of d) 63)) d a.0;
      low = omega arith;
      printed = subst (λ (x : ℕ). is_character x ≡ true) (sym (shown_low lt)) g.1;
    }
  where
    shown_low : d < 55296 → shown_letter d ≡ d
    shown_low lt = rw (lt-ltb d 55296 lt) refl

a_question : UnitIs 63 63
a_question = record { small = omega arith; letter_is = refl; low = omega arith; printed = refl }

typed_is : (c : ℕ) → UnitIs (code_or_question (typed c)) (or_question (typed c))
typed_is c = by_test (c == 9) (is_kept c) refl
  where
    by_test : (a b : Bool) → is_kept c ≡ b → UnitIs (code_or_question (cond a (Some 32) (cond b (Some (lowered c)) None))) (or_question (cond a (Some 32) (cond b (Some (lowered c)) None)))
    by_test true b e = of_good 32 refl
    by_test false true e = of_good (lowered c) (kept_good c e)
    by_test false false e = a_question

pub unit_is : (u : Option ℕ) → UnitIs (typed_code u) (letter_of u)
unit_is None = a_question
unit_is (Some c) = typed_is c
