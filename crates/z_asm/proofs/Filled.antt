-- An op with its names filled in is one of the table again, of the same length.
use Rattle.std.proofs.Common.{◌≡◌, ℕ, suc, ◌+◌, ◌-◌, ◌<◌, ◌≤◌, ⊎_elim, Bool, true, false, List, ◌++◌, length, Option, Some, None, refl, sym, ap, ◌∙◌, subst, arith, length-append}
use Rattle.std.specs.Prelude.{pos, nat_lt}
use lib.IntN.{ℤ, negsuc}
use Rattle.std.proofs.lemmas.Int.{ints}
use Rattle.z_model.specs.declared.op.Form.{Form}
use Rattle.z_model.specs.declared.op.Form.TheVariants as forms
use Rattle.z_model.specs.declared.op.Operand.{Operand}
use Rattle.z_model.specs.declared.op.Operand.TheVariants as operands
use Rattle.z_model.specs.declared.op.OperandType.{OperandType}
use Rattle.z_model.specs.declared.op.OperandType.TheVariants.{Large, Small, Variable, Omitted}
use Rattle.z_model.specs.declared.op.OperandTypes.{OperandTypes}
use Rattle.z_model.specs.declared.op.Branch.{Branch}
use Rattle.z_model.specs.declared.op.Op.{Op}
use Rattle.z_model.specs.declared.table.Row.{Row}
use Rattle.z_model.specs.Decode.{count_in_row}
use Rattle.z_model.specs.Table.{player_rows}
use Rattle.z_model.specs.Numbers.{wrapped_word}
use Rattle.z_model.specs.Spelling.{type_of_operand, type_if, types_in, head_bytes, operand_bytes, store_bytes, branch_bytes, offset_bytes, bit, unsigned_14, spelling, row_of, FitsForm, FitsType, FitsOffset, FitsBranch, IsOp}
use Rattle.z_code.specs.declared.target.Target.{Target}
use Rattle.z_code.specs.declared.target.Target.TheVariants as targets
use Rattle.z_code.specs.declared.target.LOp.{LOp}
use Rattle.z_code.specs.Targets.{Names, offset_to, target_address, fill, nth, fill_branch, filled, IsNear, NearLabel}
use Rattle.z_code.specs.Open.{Counts, OpenIf, OpenBranch, IsOpen}
use Rattle.z_asm.specs.inside.Filled.{AreWords}

-- what is left of being open when labels and numbers are put aside
abbrev IsGiven : Option Target → Operand → Type 0
IsGiven None x = Unit {0}
IsGiven (Some t) x = x ≡ operands.Large 0

abbrev IsLong : Option ℕ → Option Branch → Type 0
IsLong None b = Unit {0}
IsLong (Some l) None = ⊥
IsLong (Some l) (Some b) = b.short ≡ false

given : (counts : Counts) (all : List LOp) (t : Option Target) (x : Operand) → OpenIf counts all t x → IsGiven t x
given counts all None x o = tt
given counts all (Some t) x o = o.0

long_is : (all : List LOp) (l : Option ℕ) (b : Option Branch) → OpenBranch all l b → IsLong l b
long_is all None b o = tt
long_is all (Some l) None o = absurd o
long_is all (Some l) (Some b) o = o.0

-- ---- operands

word_below : (z : ℤ) → wrapped_word z < 65536
word_below (pos n) = omega arith
word_below (negsuc n) = omega arith

address_below : (names : Names) (labels : ℕ → ℕ) (end : ℕ) (t : Target) → AreWords names → target_address names labels end t < 65536
address_below names labels end (targets.Label l) w = word_below (offset_to end (labels l))
address_below names labels end (targets.Routine r) w = w.routine r
address_below names labels end (targets.Table t) w = w.table t
address_below names labels end (targets.Text t) w = w.text t

fill_type : (names : Names) (labels : ℕ → ℕ) (end : ℕ) (t : Option Target) (x : Operand) → IsGiven t x → type_of_operand (fill names labels end t x) ≡ type_of_operand x
fill_type names labels end None x o = refl
fill_type names labels end (Some t) x o = ap type_of_operand (sym o)

type_if_same : (b : Bool) (x y : Operand) → type_of_operand x ≡ type_of_operand y → type_if b x ≡ type_if b y
type_if_same true x y e = e
type_if_same false x y e = refl

fits_large : (b : Bool) (n : ℕ) → n < 65536 → FitsType (type_if b (operands.Large 0)) (operands.Large 0) → FitsType (type_if b (operands.Large n)) (operands.Large n)
fits_large true n lt h = lt
fits_large false n lt h = h

fill_fits : (names : Names) (labels : ℕ → ℕ) (end : ℕ) (t : Option Target) (x : Operand) (b : Bool) → AreWords names → IsGiven t x → FitsType (type_if b x) x → FitsType (type_if b (fill names labels end t x)) (fill names labels end t x)
fill_fits names labels end None x b w o h = h
fill_fits names labels end (Some t) x b w o h = fits_large b (target_address names labels end t) (address_below names labels end t w) (subst (λ (y : Operand). FitsType (type_if b y) y) o h)

large_size : (ty : OperandType) (n : ℕ) → length (operand_bytes ty (operands.Large n)) ≡ length (operand_bytes ty (operands.Large 0))
large_size Large n = refl
large_size Small n = refl
large_size Variable n = refl
large_size Omitted n = refl

fill_size : (names : Names) (labels : ℕ → ℕ) (end : ℕ) (t : Option Target) (x : Operand) (ty : OperandType) → IsGiven t x → length (operand_bytes ty (fill names labels end t x)) ≡ length (operand_bytes ty x)
fill_size names labels end None x ty o = refl
fill_size names labels end (Some t) x ty o = large_size ty (target_address names labels end t) ∙ ap (λ (y : Operand). length (operand_bytes ty y)) (sym o)

-- ---- branches

long_size : (when : ℕ) (short : Bool) (z y : ℤ) → short ≡ false → length (offset_bytes short when (unsigned_14 z)) ≡ length (offset_bytes short when (unsigned_14 y))
long_size when short z y e = rw e refl

branch_size : (labels : ℕ → ℕ) (end : ℕ) (l : Option ℕ) (b : Option Branch) → IsLong l b → length (branch_bytes (fill_branch labels end l b)) ≡ length (branch_bytes b)
branch_size labels end None b o = refl
branch_size labels end (Some l) None o = absurd o
branch_size labels end (Some l) (Some b) o = long_size (bit b.when) b.short (offset_to end (labels l)) b.offset o

back_fits : (end to : ℕ) → to + 3 ≤ end → end < to + 8192 → FitsOffset false (offset_to end to)
back_fits end to le lt =
    let e : offset_to end to ≡ negsuc (end - to - 3) = omega (arith, ints) in
    subst (λ (z : ℤ). FitsOffset false z) (sym e) (small (end - to - 3) (omega arith))
  where
    small : (n : ℕ) → n < 8192 → FitsOffset false (negsuc n)
    small n h = h

ahead_fits : (end to : ℕ) → end ≤ to → to < end + 8190 → FitsOffset false (offset_to end to)
ahead_fits end to le lt =
    let e : offset_to end to ≡ pos (suc (suc (to - end))) = omega (arith, ints) in
    subst (λ (z : ℤ). FitsOffset false z) (sym e) (small (suc (suc (to - end))) (omega arith))
  where
    small : (n : ℕ) → n < 8192 → FitsOffset false (pos n)
    small n h = h

near_fits : (end to : ℕ) → IsNear end to → FitsOffset false (offset_to end to)
near_fits end to near = ⊎_elim (λ le. back_fits end to le near.back) (λ le. ahead_fits end to le near.ahead) near.apart

branch_fits : (labels : ℕ → ℕ) (end : ℕ) (l : Option ℕ) (b : Option Branch) (wanted : Bool) → NearLabel labels end l → IsLong l b → FitsBranch wanted b → FitsBranch wanted (fill_branch labels end l b)
branch_fits labels end None b wanted near o h = h
branch_fits labels end (Some l) None wanted near o h = absurd o
branch_fits labels end (Some l) (Some b) true near o h = subst (λ (s : Bool). FitsOffset s (offset_to end (labels l))) (sym o) (near_fits end (labels l) near)
branch_fits labels end (Some l) (Some b) false near o h = h

-- ---- the whole op

module _ (names : Names) (labels : ℕ → ℕ) (end : ℕ) (op : Op) (ts : List (Option Target)) (branch : Option ℕ) where
  abbrev now : Op
  now = filled names labels end op ts branch

  pub types_same : IsGiven (nth ts 0) op.operands.first → IsGiven (nth ts 1) op.operands.second → IsGiven (nth ts 2) op.operands.third → IsGiven (nth ts 3) op.operands.fourth → types_in now.operands ≡ types_in op.operands
  types_same a b c d = λ i. record {
    first = type_if_same (nat_lt 0 op.operands.count) _ _ (fill_type names labels end (nth ts 0) op.operands.first a) i;
    second = type_if_same (nat_lt 1 op.operands.count) _ _ (fill_type names labels end (nth ts 1) op.operands.second b) i;
    third = type_if_same (nat_lt 2 op.operands.count) _ _ (fill_type names labels end (nth ts 2) op.operands.third c) i;
    fourth = type_if_same (nat_lt 3 op.operands.count) _ _ (fill_type names labels end (nth ts 3) op.operands.fourth d) i;
  }

  pub still_op : (counts : Counts) (all : List LOp) (row : Row) → AreWords names → IsOpen counts all op ts branch → NearLabel labels end branch → IsOp player_rows row op → IsOp player_rows row now
  still_op counts all row w o near is =
      let a = given counts all (nth ts 0) op.operands.first o.first in
      let b = given counts all (nth ts 1) op.operands.second o.second in
      let c = given counts all (nth ts 2) op.operands.third o.third in
      let d = given counts all (nth ts 3) op.operands.fourth o.fourth in
      let same = types_same a b c d in
      record {
        known = ap (λ (s : OperandTypes). row_of player_rows op.form op.number s) same ∙ is.known;
        form = subst (λ (s : OperandTypes). FitsForm op.form op.number s) (sym same) is.form;
        count = ap (count_in_row row) same ∙ is.count;
        first = fill_fits names labels end (nth ts 0) op.operands.first (nat_lt 0 op.operands.count) w a is.first;
        second = fill_fits names labels end (nth ts 1) op.operands.second (nat_lt 1 op.operands.count) w b is.second;
        third = fill_fits names labels end (nth ts 2) op.operands.third (nat_lt 2 op.operands.count) w c is.third;
        fourth = fill_fits names labels end (nth ts 3) op.operands.fourth (nat_lt 3 op.operands.count) w d is.fourth;
        store = is.store;
        branch = branch_fits labels end branch op.branch row.branch near (long_is all branch op.branch o.branch_open) is.branch;
      }

-- the length of what is spelled
spelled : (form : Form) (number : ℕ) (s : OperandTypes) (a b c d e f : List ℕ) → length (head_bytes form number s ++ (a ++ (b ++ (c ++ (d ++ (e ++ f)))))) ≡ length (head_bytes form number s) + (length a + (length b + (length c + (length d + (length e + length f)))))
spelled form number s a b c d e f = simp length-append

pub still_long : (names : Names) (labels : ℕ → ℕ) (end : ℕ) (counts : Counts) (all : List LOp) (op : Op) (ts : List (Option Target)) (branch : Option ℕ) → IsOpen counts all op ts branch → length (spelling (filled names labels end op ts branch)) ≡ length (spelling op)
still_long names labels end counts all op ts branch o =
    let s = types_in op.operands in
    let now = filled names labels end op ts branch in
    let x = given counts all (nth ts 0) op.operands.first o.first in
    let y = given counts all (nth ts 1) op.operands.second o.second in
    let z = given counts all (nth ts 2) op.operands.third o.third in
    let u = given counts all (nth ts 3) op.operands.fourth o.fourth in
    let same = types_same names labels end op ts branch x y z u in
    let a = fill_size names labels end (nth ts 0) op.operands.first s.first x in
    let b = fill_size names labels end (nth ts 1) op.operands.second s.second y in
    let c = fill_size names labels end (nth ts 2) op.operands.third s.third z in
    let d = fill_size names labels end (nth ts 3) op.operands.fourth s.fourth u in
    let g = branch_size labels end branch op.branch (long_is all branch op.branch o.branch_open) in
    by_types s same (spelled op.form op.number s (operand_bytes s.first now.operands.first) (operand_bytes s.second now.operands.second) (operand_bytes s.third now.operands.third) (operand_bytes s.fourth now.operands.fourth) (store_bytes op.store) (branch_bytes now.branch))
    ∙ sums (length (head_bytes op.form op.number s)) _ _ _ _ (length (store_bytes op.store)) _ _ _ _ _ _ a b c d g
    ∙ sym (spelled op.form op.number s (operand_bytes s.first op.operands.first) (operand_bytes s.second op.operands.second) (operand_bytes s.third op.operands.third) (operand_bytes s.fourth op.operands.fourth) (store_bytes op.store) (branch_bytes op.branch))
  where
    sums : (h a b c d e f a' b' c' d' f' : ℕ) → a ≡ a' → b ≡ b' → c ≡ c' → d ≡ d' → f ≡ f' → h + (a + (b + (c + (d + (e + f))))) ≡ h + (a' + (b' + (c' + (d' + (e + f')))))
    sums h a b c d e f a' b' c' d' f' p q r t u = omega arith

    by_types : (s : OperandTypes) → types_in (filled names labels end op ts branch).operands ≡ s → {k : ℕ} → length (head_bytes op.form op.number s ++ (operand_bytes s.first (filled names labels end op ts branch).operands.first ++ (operand_bytes s.second (filled names labels end op ts branch).operands.second ++ (operand_bytes s.third (filled names labels end op ts branch).operands.third ++ (operand_bytes s.fourth (filled names labels end op ts branch).operands.fourth ++ (store_bytes op.store ++ branch_bytes (filled names labels end op ts branch).branch)))))) ≡ k → length (spelling (filled names labels end op ts branch)) ≡ k
    by_types s e {k} h = subst (λ (t : OperandTypes). length (head_bytes op.form op.number t ++ (operand_bytes t.first (filled names labels end op ts branch).operands.first ++ (operand_bytes t.second (filled names labels end op ts branch).operands.second ++ (operand_bytes t.third (filled names labels end op ts branch).operands.third ++ (operand_bytes t.fourth (filled names labels end op ts branch).operands.fourth ++ (store_bytes op.store ++ branch_bytes (filled names labels end op ts branch).branch)))))) ≡ k) (sym e) h

-- ---- instructions with labels have at least three bytes

head_some : (form : Form) (number : ℕ) (s : OperandTypes) → 1 ≤ length (head_bytes form number s)
head_some forms.Long number s = omega arith
head_some forms.Short number s = omega arith
head_some forms.Variable number s = omega arith
head_some forms.Extended number s = omega arith

branch_two : (all : List LOp) (l : ℕ) (b : Option Branch) → OpenBranch all (Some l) b → length (branch_bytes b) ≡ 2
branch_two all l None o = absurd o
branch_two all l (Some b) o = long_two (bit b.when) b.short (unsigned_14 b.offset) o.0
  where
    long_two : (when : ℕ) (short : Bool) (n : ℕ) → short ≡ false → length (offset_bytes short when n) ≡ 2
    long_two when short n e = rw e refl

pub branch_long : (counts : Counts) (all : List LOp) (op : Op) (ts : List (Option Target)) (l : ℕ) → IsOpen counts all op ts (Some l) → 3 ≤ length (spelling op)
branch_long counts all op ts l o =
    let s = types_in op.operands in
    let two = branch_two all l op.branch o.branch_open in
    let one = head_some op.form op.number s in
    let sum = spelled op.form op.number s (operand_bytes s.first op.operands.first) (operand_bytes s.second op.operands.second) (operand_bytes s.third op.operands.third) (operand_bytes s.fourth op.operands.fourth) (store_bytes op.store) (branch_bytes op.branch) in
    omega arith

first_two : (b : Bool) (x : Operand) → x ≡ operands.Large 0 → FitsType (type_if b x) x → length (operand_bytes (type_if b x) x) ≡ 2
first_two b x e fits = subst (λ (y : Operand). FitsType (type_if b y) y → length (operand_bytes (type_if b y) y) ≡ 2) (sym e) (by_case b) fits
  where
    by_case : (b : Bool) → FitsType (type_if b (operands.Large 0)) (operands.Large 0) → length (operand_bytes (type_if b (operands.Large 0)) (operands.Large 0)) ≡ 2
    by_case true h = refl
    by_case false h = absurd h

pub target_long : (counts : Counts) (all : List LOp) (op : Op) (ts : List (Option Target)) (branch : Option ℕ) → op.operands.first ≡ operands.Large 0 → IsOpen counts all op ts branch → 3 ≤ length (spelling op)
target_long counts all op ts branch e o =
    let s = types_in op.operands in
    let two = first_two (nat_lt 0 op.operands.count) op.operands.first e o.table.is.first in
    let one = head_some op.form op.number s in
    let sum = spelled op.form op.number s (operand_bytes s.first op.operands.first) (operand_bytes s.second op.operands.second) (operand_bytes s.third op.operands.third) (operand_bytes s.fourth op.operands.fourth) (store_bytes op.store) (branch_bytes op.branch) in
    omega arith
