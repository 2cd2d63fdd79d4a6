-- The routines that set and clear flags of objects do so.
use Rattle.std.proofs.Common.{◌≡◌, ◌≢◌, ℕ, suc, ◌+◌, ◌*◌, ◌/◌, ◌<◌, ◌≤◌, Bool, true, false, List, [], ◌∷◌, drop, Option, Some, None, refl, sym, ap, ◌∙◌, subst, arith}
use Rattle.std.specs.Prelude.{is_some}
use Rattle.dg_base.specs.declared.program.PlaceKind.{PlaceKind}
use Rattle.dg_base.specs.declared.program.PlaceKind.TheVariants.{ObjectFlag}
use Rattle.dg_meaning.specs.Values.{Value}
use Rattle.dg_meaning.specs.Substitutions.{Substitution, links, resolved}
use Rattle.dg_meaning.specs.Facts.{Fact, value_at, set, Alteration, Sets, Clears, ClearsAll, altered}
use Rattle.dg_meaning.specs.Changes.{object_change}
use Rattle.z_lang.specs.declared.act.Act.{Act}
use Rattle.z_lang.specs.declared.act.Act.TheVariants as acts
use Rattle.z_lang.specs.declared.act.Args.TheVariants as args
use Rattle.z_lang.specs.declared.act.Atom.TheVariants as atoms
use Rattle.z_lang.specs.State.{State, Program}
use Rattle.z_lang.specs.Runs.{calls, returns, behind_label}
use Rattle.dg_rt.specs.declared.numbers.TheConstants.{SET_FLAG, CLEAR_FLAGS}
use Rattle.dg_rt.specs.declared.world.TheConstants.{SET_FLAG_ACTS, CLEAR_FLAGS_ACTS}
use Rattle.dg_rt.specs.declared.changes.TheConstants.{RAISE_FLAG_ACTS, LOWER_FLAG_ACTS}
use Rattle.dg_rt.specs.Cells.{Holds, bit}
use Rattle.dg_rt.specs.Areas.{state}
use Rattle.dg_rt.specs.Shapes.{Shape}
use Rattle.dg_rt.specs.RunTime.{routine_of, HasRunTime}
use Rattle.dg_rt.specs.Tables.{byte_at, AreBytes, AreFlags, WritesByte}
use Rattle.dg_rt.specs.Changes.{FlagsIn, facts_behind, cleared, AltersFlags, Argued, RaisesFlag, LowersFlag}
use Rattle.dg_rt.proofs.Altered.{set_there, set_elsewhere, cleared_there, cleared_elsewhere, all_cleared, flags_with, flags_all}
use Rattle.dg_rt.proofs.Flags.{set_flag_works, clear_flags_works}
use Rattle.dg_rt.proofs.Locals.{get_1, get_2, get_3, get_4}
use Rattle.dg_rt.proofs.Outcomes.{Ends, setting, clearing}
use Rattle.dg_rt.proofs.Standing.{set_flag_at}

clear_flags_at : (p : Program) → HasRunTime p → p.routine_at (p.names.routine CLEAR_FLAGS) ≡ Some (routine_of 3 CLEAR_FLAGS_ACTS)
clear_flags_at p has = has.each 44 (routine_of 3 CLEAR_FLAGS_ACTS) refl

bit_few : (b : Bool) → bit b ≤ 1
bit_few true = omega arith
bit_few false = omega arith

-- Each byte of flags is 1 or 0.
pub are_flags : {cells : ℕ → ℕ} {b n : ℕ} {facts : List Fact} {place : ℕ} → FlagsIn cells b n facts place → AreFlags cells b n
are_flags {facts = facts} {place = place} lies o lt = let e = lies.each o lt in let few = bit_few (is_some (value_at facts place o)) in omega arith

module _ (p : Program) (has : HasRunTime p) (f w : ℕ) (some : 3 ≤ f) (enough : 16 ≤ w) (memory typed output : List ℕ) (drawn next b n place : ℕ) (cells : ℕ → ℕ) (facts : List Fact) (h : Holds p.world.layout memory cells) (table : AreBytes p b n) (small : n ≤ 4096) (lies : FlagsIn cells b n facts place) where
  -- What flags are behind a change.
  record Good (memory' : List ℕ) (cells' : ℕ → ℕ) (change : Option Alteration) : Type 0 where
    holds : Holds p.world.layout memory' cells'
    stands : FlagsIn cells' b n (facts_behind change facts) place
    bytes : (j : ℕ) → (b ≤ j → b + n ≤ j) → byte_at cells' j ≡ byte_at cells j
    others : (k : ℕ) → (b ≤ 2 * k + 1 → b + n ≤ 2 * k) → cells' k ≡ cells k

  same : Good memory cells None
  same = record { holds = h; stands = lies; bytes = λ j far. refl; others = λ k far. refl }

  abbrev a : ℕ
  a = 64 + b

  abbrev now : ℕ → ℕ → State
  now c d = state memory (a ∷ c ∷ next ∷ d ∷ []) typed drawn output

  abbrev Result : List Act → List Act → State → Option Alteration → ℕ → Type 0
  Result = Ends p has f w some enough memory typed output drawn next a n cells Good

  -- a flag is written
  abbrev Written : ℕ → ℕ → Type 0
  Written o x = WritesByte p 1 4 SET_FLAG_ACTS memory (a ∷ o ∷ x ∷ 0 ∷ []) typed output drawn (b + o) x cells 18

  written : (o x : ℕ) → o < n → x ≤ 1 → Written o x
  written o x lt le = set_flag_works p has 1 4 (omega arith) (omega arith) memory typed output drawn b n o x cells h table (are_flags lies) lt le

  behind : (o x : ℕ) (r : Written o x) (facts' : List Fact) → o < n → x ≡ bit (is_some (value_at facts' place o)) → ((i : ℕ) → i ≢ o → value_at facts' place i ≡ value_at facts place i) → (change : Option Alteration) → facts_behind change facts ≡ facts' → Good r.memory' r.cells' change
  behind o x r facts' lt is elsewhere change e = record {
    holds = r.holds;
    stands = subst (λ (fs : List Fact). FlagsIn r.cells' b n fs place) (sym e) (flags_with cells r.cells' b n place o facts facts' lt (r.is ∙ is) elsewhere r.bytes lies);
    bytes = λ j far. r.bytes j (λ (q : j ≡ b + o). (let z : b + n ≤ j = far (omega arith) in omega arith));
    others = λ k far. r.others k (λ (q : k ≡ (b + o) / 2). (let z : b + n ≤ 2 * k = far (omega arith) in omega arith));
  }

  raises : (body more : List Act) (o : ℕ) → o < n → Result body (acts.Call None (atoms.Routine SET_FLAG) (args.Three (atoms.Var 1) (atoms.Var 2) (atoms.Num 1)) ∷ acts.Return (atoms.Var 3) ∷ more) (now o 0) (Some (Sets place o set)) 20
  raises body more o lt =
      let r = written o 1 lt (omega arith) in
      let few = r.few in
      let facts' = altered (Sets place o set) facts in
      record {
        memory' = r.memory';
        cells' = r.cells';
        good = behind o 1 r facts' lt (ap (λ (x : Option Value). bit (is_some x)) (sym (set_there place o set facts))) (λ i ne. set_elsewhere place o set facts place i (λ e. ne)) (Some (Sets place o set)) refl;
        locals' = a ∷ o ∷ next ∷ 0 ∷ [];
        count = suc r.count + 1;
        few = omega arith;
        runs = calls {f' = 1} {w' = 4} {n = r.count} {n' = 1} {xs = (a, o, 1)} {s1 = state r.memory' r.locals' typed drawn output} {s2 = state r.memory' (a ∷ o ∷ next ∷ 0 ∷ []) typed drawn output} refl (rw (get_1 p memory a o next 0 typed drawn output, get_2 p memory a o next 0 typed drawn output) refl) (set_flag_at p has) (omega arith) (omega arith) r.runs refl (returns (get_3 p r.memory' a o next 0 typed drawn output));
      }

  lowers : (body more : List Act) (o : ℕ) → o < n → Result body (acts.Call None (atoms.Routine SET_FLAG) (args.Two (atoms.Var 1) (atoms.Var 4)) ∷ acts.Return (atoms.Var 3) ∷ more) (now n o) (Some (Clears place o)) 20
  lowers body more o lt =
      let r = written o 0 lt (omega arith) in
      let few = r.few in
      let facts' = altered (Clears place o) facts in
      record {
        memory' = r.memory';
        cells' = r.cells';
        good = behind o 0 r facts' lt (ap (λ (x : Option Value). bit (is_some x)) (sym (cleared_there place o facts))) (λ i ne. cleared_elsewhere place o facts place i (λ e. ne)) (Some (Clears place o)) refl;
        locals' = a ∷ n ∷ next ∷ o ∷ [];
        count = suc r.count + 1;
        few = omega arith;
        runs = calls {f' = 1} {w' = 4} {n = r.count} {n' = 1} {xs = (a, o, 0)} {s1 = state r.memory' r.locals' typed drawn output} {s2 = state r.memory' (a ∷ n ∷ next ∷ o ∷ []) typed drawn output} refl (rw (get_1 p memory a n next o typed drawn output, get_4 p memory a n next o typed drawn output) refl) (set_flag_at p has) (omega arith) (omega arith) r.runs refl (returns (get_3 p r.memory' a n next o typed drawn output));
      }

  lowers_all : (body more : List Act) (d : ℕ) → Result body (acts.Call None (atoms.Routine CLEAR_FLAGS) (args.Two (atoms.Var 1) (atoms.Var 2)) ∷ acts.Return (atoms.Var 3) ∷ more) (now n d) (Some (ClearsAll place)) (20 + 22 * n)
  lowers_all body more d =
      let r = clear_flags_works p has 2 6 (omega arith) (omega arith) memory typed output drawn b n cells h table (are_flags lies) in
      let few = r.few in
      record {
        memory' = r.memory';
        cells' = r.cells';
        good = record {
          holds = r.holds;
          stands = flags_all r.cells' b n place (altered (ClearsAll place) facts) r.are (λ i. all_cleared place i facts);
          bytes = r.bytes;
          others = r.others;
        };
        locals' = a ∷ n ∷ next ∷ d ∷ [];
        count = suc r.count + 1;
        few = omega arith;
        runs = calls {f' = 2} {w' = 6} {n = r.count} {n' = 1} {xs = (a, n, 0)} {s1 = state r.memory' r.locals' typed drawn output} {s2 = state r.memory' (a ∷ n ∷ next ∷ d ∷ []) typed drawn output} refl (rw (get_1 p memory a n next d typed drawn output, get_2 p memory a n next d typed drawn output) refl) (clear_flags_at p has) (omega arith) (omega arith) r.runs refl (returns (get_3 p r.memory' a n next d typed drawn output));
      }

  altered_by : {acts : List Act} {change : Option Alteration} (most all : ℕ) → most ≤ all → Result acts acts (now n 0) change most → AltersFlags p f w acts memory typed output drawn b n cells facts place next change all
  altered_by most all le r = let few = r.few in record { memory' = r.memory'; cells' = r.cells'; holds = r.good.holds; flags = r.good.stands; bytes = r.good.bytes; others = r.good.others; locals' = r.locals'; count = r.count; few = omega arith; runs = r.runs }

  module _ (sh : Shape) (S : Substitution) (v : Value) (arg : Argued p memory sh cells S v) (values : List Value) where
    raises_flag : AltersFlags p f w RAISE_FLAG_ACTS memory typed output drawn b n cells facts place next (object_change n ObjectFlag place true (resolved S v ∷ values)) (5 * links S v + 50)
    unfolding behind_label
    raises_flag = altered_by (5 * links S v + 16 + 20) (5 * links S v + 50) (omega arith) (setting p has f w some enough memory typed output drawn next a n cells Good small sh S v arg.shape arg.holds arg.stands arg.first same ObjectFlag place values RAISE_FLAG_ACTS (drop 2 RAISE_FLAG_ACTS) refl 20 (λ o lt. raises RAISE_FLAG_ACTS (drop 4 RAISE_FLAG_ACTS) o lt))

    lowers_flag : (kind : PlaceKind) → AltersFlags p f w LOWER_FLAG_ACTS memory typed output drawn b n cells facts place next (object_change n kind place false (resolved S v ∷ values)) (10 * links S v + 22 * cleared n (object_change n kind place false (resolved S v ∷ values)) + 60)
    unfolding behind_label
    lowers_flag kind = altered_by (10 * links S v + 24 + 20 + 22 * cleared n (object_change n kind place false (resolved S v ∷ values))) (10 * links S v + 22 * cleared n (object_change n kind place false (resolved S v ∷ values)) + 60) (omega arith) (clearing p has f w some enough memory typed output drawn next a n cells Good small sh S v arg.shape arg.holds arg.stands arg.first same kind place values LOWER_FLAG_ACTS (drop 4 LOWER_FLAG_ACTS) (drop 7 LOWER_FLAG_ACTS) refl refl 20 22 (λ o lt. lowers LOWER_FLAG_ACTS (drop 9 LOWER_FLAG_ACTS) o lt) (λ d. lowers_all LOWER_FLAG_ACTS (drop 6 LOWER_FLAG_ACTS) d))

pub raise_works : RaisesFlag
raise_works p has f w some enough memory typed output drawn sh cells S v arg b n place next facts others table small lies = raises_flag p has f w some enough memory typed output drawn next b n place cells facts arg.holds table small lies sh S v arg others

pub lower_works : LowersFlag
lower_works p has f w some enough memory typed output drawn sh cells S v arg b n place next facts kind others table small lies = lowers_flag p has f w some enough memory typed output drawn next b n place cells facts arg.holds table small lies sh S v arg others kind
