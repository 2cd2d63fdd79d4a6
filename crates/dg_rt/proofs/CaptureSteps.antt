-- Capturing values: acts, labels and locals.
use Rattle.std.proofs.Common.{◌≡◌, ℕ, suc, ◌+◌, ◌*◌, ◌/◌, ◌%◌, ◌<◌, ◌≤◌, true, false, List, [], ◌∷◌, Some, refl, ap, arith}
use Rattle.std.proofs.lemmas.Bool.{lt-ltb, ne_eqb}
use Rattle.z_model.specs.Numbers.{quotient, remainder}
use Rattle.z_lang.specs.declared.act.Act.{Act}
use Rattle.z_lang.specs.declared.act.Act.TheVariants as acts
use Rattle.z_lang.specs.declared.act.Atom.TheVariants as atoms
use Rattle.z_lang.specs.declared.act.Function.{Function}
use Rattle.z_lang.specs.declared.act.Function.TheVariants as functions
use Rattle.z_lang.specs.declared.act.Comparison.TheVariants as comparisons
use Rattle.z_lang.specs.declared.act.Width.TheVariants as widths
use Rattle.z_lang.specs.State.{State, Program, variable, value, put, with_local}
use Rattle.z_lang.specs.Acts.{computed}
use Rattle.z_lang.specs.Runs.{behind_label}
use Rattle.dg_meaning.specs.Values.{Value, Nil, leaf}
use Rattle.dg_rt.specs.declared.frames.TheConstants.{CAPTURE_ACTS}
use Rattle.dg_rt.specs.Areas.{state}
use Rattle.dg_rt.specs.Shapes.{Shape, Cell, Shows}
use Rattle.dg_rt.proofs.Following.{word, some_state}

-- ## Words

pub divides : (p : Program) (memory : List ℕ) (x d : ℕ) → x < 32768 → 0 < d → d < 32768 → computed p.world.layout memory functions.Div x d ≡ word (x / d)
unfolding computed quotient
divides p memory x d lt some small = rw (ne_eqb d 0 (λ (e : d ≡ 0). (omega arith)), lt-ltb x 32768 lt, lt-ltb d 32768 small) (ap word (omega arith))

pub leaves : (p : Program) (memory : List ℕ) (x d : ℕ) → x < 32768 → 0 < d → d < 32768 → computed p.world.layout memory functions.Mod x d ≡ word (x % d)
unfolding computed remainder
leaves p memory x d lt some small = rw (ne_eqb d 0 (λ (e : d ≡ 0). (omega arith)), lt-ltb x 32768 lt, lt-ltb d 32768 small) (ap word (omega arith))

-- ## Where a value comes from

-- The variable of a number has this value: it is captured by the closure in a box, with so many others; it is one of so many of the frame's own, which
-- begin at a reference; or it is none of them.
pub data Source (sh : Shape) (c l o b n : ℕ) (v : Value) : Type 0 where
  captured : (d u : ℕ) → c ≡ 49152 + d → n < l → l < 16384 → d + n + 3 < 10000 → Cell sh (d + n + 3) u → Shows sh u v → Source sh c l o b n v
  own : (j : ℕ) → n ≡ l + j → j < o → o < 16384 → j + b < 65536 → Shows sh (j + b) v → Source sh c l o b n v
  nowhere : (j : ℕ) → n ≡ l + j → o ≤ j → o < 16384 → v ≡ leaf Nil → Source sh c l o b n v

-- ## Acts

abbrev pub if_captured : ℕ → Act
if_captured label = acts.When (record { comparison = comparisons.Less; first = atoms.Var 8; second = atoms.Var 5; answer = true }) label

abbrev pub if_none : ℕ → Act
if_none label = acts.When (record { comparison = comparisons.Less; first = atoms.Var 8; second = atoms.Var 6; answer = false }) label

abbrev pub put_value : ℕ → Act
put_value i = acts.Write widths.Word (atoms.Num (33444 + 2 * i)) (atoms.Var 52) (atoms.Var 8)

-- what stands behind the three labels of a value
abbrev pub behind_found : ℕ → List Act → List Act
behind_found i rest = put_value i ∷ rest

abbrev pub behind_none : ℕ → List Act → List Act
behind_none i rest = acts.Copy 8 (atoms.Num 28672) ∷ acts.Label (3 + 3 * i) ∷ behind_found i rest

abbrev pub behind_captured : ℕ → List Act → List Act
behind_captured i rest =
    acts.Compute 8 functions.Add (atoms.Var 8) (atoms.Var 4) ∷ acts.Compute 8 functions.Word (atoms.Num 33444) (atoms.Var 8) ∷ acts.Goto (3 + 3 * i)
    ∷ acts.Label (2 + 3 * i) ∷ behind_none i rest

abbrev value_acts : ℕ → Function → ℕ → List Act → List Act
value_acts q part i rest =
    acts.Compute 8 part (atoms.Var q) (atoms.Num 256) ∷ if_captured (1 + 3 * i) ∷ acts.Compute 8 functions.Sub (atoms.Var 8) (atoms.Var 5)
    ∷ if_none (2 + 3 * i) ∷ acts.Compute 8 functions.Add (atoms.Var 8) (atoms.Var 7) ∷ acts.Goto (3 + 3 * i) ∷ acts.Label (1 + 3 * i)
    ∷ behind_captured i rest

-- all of some values, each a part of a local
abbrev pub values_acts : List (ℕ × Function) → ℕ → List Act → List Act
values_acts [] i rest = rest
values_acts (q ∷ qs) i rest = value_acts q.0 q.1 i (values_acts qs (suc i) rest)

-- the labels of each lead there
abbrev pub Labelled : List (ℕ × Function) → ℕ → List Act → Type 0
Labelled [] i rest = Unit {0}
Labelled (q ∷ qs) i rest =
    let more = values_acts qs (suc i) rest in
    (behind_label (1 + 3 * i) CAPTURE_ACTS ≡ Some (behind_captured i more)) × (behind_label (2 + 3 * i) CAPTURE_ACTS ≡ Some (behind_none i more))
    × (behind_label (3 + 3 * i) CAPTURE_ACTS ≡ Some (behind_found i more)) × Labelled qs (suc i) rest

abbrev pub all_parts : List (ℕ × Function)
all_parts = (1, functions.Div) ∷ (1, functions.Mod) ∷ (2, functions.Div) ∷ (2, functions.Mod) ∷ (3, functions.Div) ∷ (3, functions.Mod) ∷ []

abbrev pub last_acts : List Act
last_acts = acts.Compute 52 functions.Add (atoms.Var 52) (atoms.Num 6) ∷ acts.Return (atoms.Num 0) ∷ []

pub labels_lead : Labelled all_parts 0 last_acts
unfolding behind_label
labels_lead = (refl, refl, refl, (refl, refl, refl, (refl, refl, refl, (refl, refl, refl, (refl, refl, refl, (refl, refl, refl, tt))))))

-- ## Locals

module _ (p : Program) (m : List ℕ) (x y z c l o b v : ℕ) (t : List ℕ) (d : ℕ) (out : List ℕ) where
  abbrev eight : State
  eight = state m (x ∷ y ∷ z ∷ c ∷ l ∷ o ∷ b ∷ v ∷ []) t d out

  pub get_x : value p eight (atoms.Var 1) ≡ word x
  unfolding variable
  get_x = refl

  pub get_y : value p eight (atoms.Var 2) ≡ word y
  unfolding variable
  get_y = refl

  pub get_z : value p eight (atoms.Var 3) ≡ word z
  unfolding variable
  get_z = refl

  pub get_c : value p eight (atoms.Var 4) ≡ word c
  unfolding variable
  get_c = refl

  pub get_l : value p eight (atoms.Var 5) ≡ word l
  unfolding variable
  get_l = refl

  pub get_o : value p eight (atoms.Var 6) ≡ word o
  unfolding variable
  get_o = refl

  pub get_b : value p eight (atoms.Var 7) ≡ word b
  unfolding variable
  get_b = refl

  pub get_v : value p eight (atoms.Var 8) ≡ word v
  unfolding variable
  get_v = refl

  pub put_c : (u : ℕ) → put p 4 u eight ≡ some_state (state m (x ∷ y ∷ z ∷ u ∷ l ∷ o ∷ b ∷ v ∷ []) t d out)
  unfolding put with_local
  put_c u = refl

  pub put_l : (u : ℕ) → put p 5 u eight ≡ some_state (state m (x ∷ y ∷ z ∷ c ∷ u ∷ o ∷ b ∷ v ∷ []) t d out)
  unfolding put with_local
  put_l u = refl

  pub put_o : (u : ℕ) → put p 6 u eight ≡ some_state (state m (x ∷ y ∷ z ∷ c ∷ l ∷ u ∷ b ∷ v ∷ []) t d out)
  unfolding put with_local
  put_o u = refl

  pub put_b : (u : ℕ) → put p 7 u eight ≡ some_state (state m (x ∷ y ∷ z ∷ c ∷ l ∷ o ∷ u ∷ v ∷ []) t d out)
  unfolding put with_local
  put_b u = refl

  pub put_v : (u : ℕ) → put p 8 u eight ≡ some_state (state m (x ∷ y ∷ z ∷ c ∷ l ∷ o ∷ b ∷ u ∷ []) t d out)
  unfolding put with_local
  put_v u = refl
