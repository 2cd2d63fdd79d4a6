-- What is decoded is spelled so: each byte of it.
use Rattle.std.proofs.Common.{◌≡◌, ℕ, zero, suc, ◌+◌, ◌-◌, ◌*◌, ◌/◌, ◌%◌, ◌<◌, ◌≤◌, Bool, true, false, cond, ltb, eqb, List, [], ◌∷◌, ◌++◌, length, Option, Some, None, Result, Ok, Err, refl, sym, subst, ◌∙◌, arith, add-zero, length-append, inl, inr, ◌⊎◌}
use Rattle.std.specs.Prelude.{slice_get, pos}
use lib.IntN.{ℤ, negsuc}
use Rattle.std.proofs.lemmas.Bool.{le-ltb, lt-ltb, ltb-false, eqb-true, eqb-false, cases_lt}
use Rattle.std.proofs.lemmas.Int.{ints}
use Rattle.z_model.specs.declared.fault.ZFault.{ZFault}
use Rattle.z_model.specs.declared.fault.ZFault.TheVariants.{BadOpcode, OffEnd}
use Rattle.z_model.specs.declared.op.Form.{Form}
use Rattle.z_model.specs.declared.op.Operand.{Operand}
use Rattle.z_model.specs.declared.op.Operand.TheVariants as operands
use Rattle.z_model.specs.declared.op.Branch.{Branch}
use Rattle.z_model.specs.declared.op.Op.{Op}
use Rattle.z_model.specs.declared.op.Found.{Found}
use Rattle.z_model.specs.declared.table.Row.{Row}
use Rattle.z_model.specs.declared.op.OperandType.{OperandType}
use Rattle.z_model.specs.declared.op.OperandType.TheVariants.{Large, Small, Variable, Omitted}
use Rattle.z_model.specs.declared.op.OperandTypes.{OperandTypes}
use Rattle.z_model.specs.Decode.{◌>>=◌, or_fault, byte_at, present, operand_count, count_in_row, text_at, operand_at, store_at, branch_at, body_at, op_found, short_branch, long_branch, on_true, signed_14}
use Rattle.z_model.specs.Spelling.{type_if, type_of_operand, types_in, operand_bytes, store_bytes, branch_bytes, FitsType, FitsStore, FitsBranch, FitsOffset, unsigned_14, bit, BytesAt, AreBytes}

pub bind_ok : {A B : Type 0} (r : Result A ZFault) (f : A → Result B ZFault) (y : B) → (r >>= f) ≡ Ok y → (x : A) × (r ≡ Ok x) × (f x ≡ Ok y)
bind_ok (Ok x) f y e = (x, refl, e)
bind_ok (Err d) f y e = absurd cc

pub or_ok : {A : Type 0} (fault : ZFault) (o : Option A) (x : A) → or_fault fault o ≡ Ok x → o ≡ Some x
or_ok fault (Some y) x e = cc
or_ok fault None x e = absurd cc

abbrev done : {A : Type 0} → A → Result A ZFault
done x = Ok x

ok_is : {A : Type 0} (x y : A) → done x ≡ done y → x ≡ y
ok_is x y e = cc

-- an operand that was read, and where it ends
pub record Read (bytes : List ℕ) (at : ℕ) (s : OperandType) (x : Operand × ℕ) : Type 0 where
  pub fits : FitsType s x.0
  pub kind : (s ≡ Omitted → ⊥) → type_of_operand x.0 ≡ s
  pub stands : BytesAt bytes at (operand_bytes s x.0)
  pub ends : x.1 ≡ at + length (operand_bytes s x.0)

operand_found : (bytes : List ℕ) (at : ℕ) (s : OperandType) (x : Operand × ℕ) → AreBytes bytes → operand_at bytes s at ≡ Ok x → Read bytes at s x
unfolding operand_at
operand_found bytes at Large x fits e =
    let a = bind_ok (byte_at bytes at) _ x e in
    let b = bind_ok (byte_at bytes (at + 1)) _ x a.2 in
    let high = or_ok OffEnd (slice_get bytes at) a.0 a.1 in
    let low = or_ok OffEnd (slice_get bytes (at + 1)) b.0 b.1 in
    let h : a.0 < 256 = fits at a.0 high in
    let l : b.0 < 256 = fits (at + 1) b.0 low in
    let top : (256 * a.0 + b.0) / 256 ≡ a.0 = omega arith in
    let rest : (256 * a.0 + b.0) % 256 ≡ b.0 = omega arith in
    subst (λ (y : Operand × ℕ). Read bytes at Large y) (ok_is (operands.Large (256 * a.0 + b.0), at + 2) x b.2) (record { fits = omega arith; kind = λ _. refl; stands = (rw top high, (rw rest low, tt)); ends = refl })
operand_found bytes at Small x fits e =
    let a = bind_ok (byte_at bytes at) _ x e in
    let byte = or_ok OffEnd (slice_get bytes at) a.0 a.1 in
    subst (λ (y : Operand × ℕ). Read bytes at Small y) (ok_is (operands.Small a.0, at + 1) x a.2) (record { fits = fits at a.0 byte; kind = λ _. refl; stands = (byte, tt); ends = refl })
operand_found bytes at Variable x fits e =
    let a = bind_ok (byte_at bytes at) _ x e in
    let byte = or_ok OffEnd (slice_get bytes at) a.0 a.1 in
    subst (λ (y : Operand × ℕ). Read bytes at Variable y) (ok_is (operands.Variable a.0, at + 1) x a.2) (record { fits = fits at a.0 byte; kind = λ _. refl; stands = (byte, tt); ends = refl })
operand_found bytes at Omitted x fits e =
    subst (λ (y : Operand × ℕ). Read bytes at Omitted y) (ok_is (operands.Small 0, at) x e) (record { fits = refl; kind = λ n. absurd (n refl); stands = tt; ends = sym (add-zero at) })

-- ---- how many operands there are

guard_ok : {A : Type 0} (b : Bool) (r : Result A ZFault) (y : A) → cond b (Err BadOpcode) r ≡ Ok y → (b ≡ false) × (r ≡ Ok y)
guard_ok true r y e = absurd cc
guard_ok false r y e = (refl, e)

present_most : (s : OperandType) → present s ≤ 1
present_most Large = omega arith
present_most Small = omega arith
present_most Variable = omega arith
present_most Omitted = omega arith

pub record InOrder (s : OperandTypes) (count : ℕ) : Type 0 where
  pub first : present s.second ≤ present s.first
  pub second : present s.third ≤ present s.second
  pub third : present s.fourth ≤ present s.third
  pub sum : present s.first + present s.second + present s.third + present s.fourth ≡ count

in_order : (s : OperandTypes) (count : ℕ) → operand_count s ≡ Ok count → InOrder s count
unfolding operand_count
in_order s count e =
    let a = guard_ok (ltb (present s.first) (present s.second)) _ count e in
    let b = guard_ok (ltb (present s.second) (present s.third)) _ count a.1 in
    let c = guard_ok (ltb (present s.third) (present s.fourth)) _ count b.1 in
    record { first = ltb-false _ _ a.0; second = ltb-false _ _ b.0; third = ltb-false _ _ c.0; sum = ok_is _ _ c.1 }

counted_is : (row : Row) (s : OperandTypes) (count : ℕ) → count_in_row row s ≡ Ok count → operand_count s ≡ Ok count
unfolding count_in_row
counted_is row s count e =
    let a = bind_ok (operand_count s) _ count e in
    let b = guard_ok (ltb a.0 row.fewest) _ count a.2 in
    let c = guard_ok (ltb row.most a.0) _ count b.1 in
    a.1 ∙ c.1

-- the type is the one that the count and the operand say
type_back : (s : OperandType) (x : Operand) (k count : ℕ) → (present s ≡ 1 → k < count) → (present s ≡ 0 → count ≤ k) → ((s ≡ Omitted → ⊥) → type_of_operand x ≡ s) → type_if (ltb k count) x ≡ s
type_back Omitted x k count there none kind = rw (le-ltb k count (none refl)) refl
type_back Large x k count there none kind = rw (lt-ltb k count (there refl)) (kind (λ e. cc))
type_back Small x k count there none kind = rw (lt-ltb k count (there refl)) (kind (λ e. cc))
type_back Variable x k count there none kind = rw (lt-ltb k count (there refl)) (kind (λ e. cc))

-- ---- the store and the branch

pub record ReadStore (bytes : List ℕ) (at : ℕ) (wanted : Bool) (x : Option ℕ × ℕ) : Type 0 where
  pub fits : FitsStore wanted x.0
  pub stands : BytesAt bytes at (store_bytes x.0)
  pub ends : x.1 ≡ at + length (store_bytes x.0)

store_found : (bytes : List ℕ) (at : ℕ) (wanted : Bool) (x : Option ℕ × ℕ) → AreBytes bytes → store_at bytes wanted at ≡ Ok x → ReadStore bytes at wanted x
unfolding store_at
store_found bytes at false x fits e =
    subst (λ (y : Option ℕ × ℕ). ReadStore bytes at false y) (ok_is (None, at) x e) (record { fits = tt; stands = tt; ends = sym (add-zero at) })
store_found bytes at true x fits e =
    let a = bind_ok (byte_at bytes at) _ x e in
    let byte = or_ok OffEnd (slice_get bytes at) a.0 a.1 in
    subst (λ (y : Option ℕ × ℕ). ReadStore bytes at true y) (ok_is (Some a.0, at + 1) x a.2) (record { fits = fits at a.0 byte; stands = (byte, tt); ends = refl })

pub chosen : {A : Type 0} (b : Bool) (x y : Result A ZFault) (z : A) → cond b x y ≡ Ok z → ((b ≡ true) × (x ≡ Ok z)) ⊎ ((b ≡ false) × (y ≡ Ok z))
chosen true x y z e = inl (refl, e)
chosen false x y z e = inr (refl, e)

bit_back : (n : ℕ) → n < 2 → bit (eqb n 1) ≡ n
bit_back zero lt = refl
bit_back (suc zero) lt = refl
bit_back (suc (suc n)) lt = absurd (omega arith)

pub record SignedBack (n : ℕ) (z : ℤ) : Type 0 where
  pub back : unsigned_14 z ≡ n
  pub fits : FitsOffset false z

signed_back : (n : ℕ) → n < 16384 → SignedBack n (signed_14 n)
signed_back n lt =
    elim (cases_lt n 8192) [
      | inl low ↦ subst (λ (z : ℤ). SignedBack n z) (sym (small low)) (record { back = refl; fits = low })
      | inr high ↦ subst (λ (z : ℤ). SignedBack n z) (sym (large high)) (record { back = omega arith; fits = omega arith })
    ]
  where
    small : n < 8192 → signed_14 n ≡ pos n
    small low = rw (lt-ltb n 8192 low) refl

    large : 8192 ≤ n → signed_14 n ≡ negsuc (16383 - n)
    large high = rw (le-ltb n 8192 high) (omega (arith, ints))

zero_of : (n : ℕ) → n < 2 → (n ≡ 1 → ⊥) → n ≡ 0
zero_of zero lt h = refl
zero_of (suc zero) lt h = absurd (h refl)
zero_of (suc (suc n)) lt h = absurd (omega arith)

pub record ReadBranch (bytes : List ℕ) (at : ℕ) (wanted : Bool) (x : Option Branch × ℕ) : Type 0 where
  pub fits : FitsBranch wanted x.0
  pub stands : BytesAt bytes at (branch_bytes x.0)
  pub ends : x.1 ≡ at + length (branch_bytes x.0)

branch_found : (bytes : List ℕ) (at : ℕ) (wanted : Bool) (x : Option Branch × ℕ) → AreBytes bytes → branch_at bytes wanted at ≡ Ok x → ReadBranch bytes at wanted x
unfolding branch_at
branch_found bytes at false x fits e =
    subst (λ (y : Option Branch × ℕ). ReadBranch bytes at false y) (ok_is (None, at) x e) (record { fits = tt; stands = tt; ends = sym (add-zero at) })
branch_found bytes at true x fits e =
    let a = bind_ok (byte_at bytes at) _ x e in
    let byte = or_ok OffEnd (slice_get bytes at) a.0 a.1 in
    let lt : a.0 < 256 = fits at a.0 byte in
    let on : bit (on_true a.0) ≡ a.0 / 128 = bit_back (a.0 / 128) (omega arith) in
    elim (chosen (eqb (a.0 / 64 % 2) 1) (short_branch a.0 at) (long_branch bytes a.0 at) x a.2) [
      | inl p ↦ one_byte a.0 byte lt on (eqb-true _ _ p.0) p.1
      | inr p ↦ two_bytes a.0 byte lt on (eqb-false _ _ p.0) p.1
    ]
  where
    one_byte : (b : ℕ) → slice_get bytes at ≡ Some b → b < 256 → bit (on_true b) ≡ b / 128 → b / 64 % 2 ≡ 1 → short_branch b at ≡ Ok x → ReadBranch bytes at true x
    one_byte b byte lt on is e =
        let whole : 128 * bit (on_true b) + 64 + b % 64 ≡ b = omega arith in
        subst (λ (y : Option Branch × ℕ). ReadBranch bytes at true y) (ok_is (Some (record { when = on_true b; offset = pos (b % 64); short = true }), at + 1) x e) (record { fits = omega arith; stands = (rw whole byte, tt); ends = refl })

    two_bytes : (b : ℕ) → slice_get bytes at ≡ Some b → b < 256 → bit (on_true b) ≡ b / 128 → (b / 64 % 2 ≡ 1 → ⊥) → long_branch bytes b at ≡ Ok x → ReadBranch bytes at true x
    two_bytes b byte lt on isnt e =
        let c = bind_ok (byte_at bytes (at + 1)) _ x e in
        let low = or_ok OffEnd (slice_get bytes (at + 1)) c.0 c.1 in
        let l : c.0 < 256 = fits (at + 1) c.0 low in
        let n : ℕ = 256 * (b % 64) + c.0 in
        let s = signed_back (256 * (b % 64) + c.0) (omega arith) in
        let even : b / 64 % 2 ≡ 0 = zero_of (b / 64 % 2) (omega arith) isnt in
        let top : 128 * bit (on_true b) + (256 * (b % 64) + c.0) / 256 ≡ b = omega arith in
        let rest : (256 * (b % 64) + c.0) % 256 ≡ c.0 = omega arith in
        subst (λ (y : Option Branch × ℕ). ReadBranch bytes at true y) (ok_is (Some (record { when = on_true b; offset = signed_14 (256 * (b % 64) + c.0); short = false }), at + 2) x c.2) (record { fits = s.fits; stands = (rw (s.back, top) byte, (rw (s.back, rest) low, tt)); ends = refl })

-- ---- what stands behind the types

abbrev pub tail_of : OperandTypes → Op → List ℕ
tail_of s op = operand_bytes s.first op.operands.first ++ (operand_bytes s.second op.operands.second ++ (operand_bytes s.third op.operands.third ++ (operand_bytes s.fourth op.operands.fourth ++ (store_bytes op.store ++ branch_bytes op.branch))))

pub stands_both : (bytes : List ℕ) (at at' : ℕ) (xs ys : List ℕ) → at' ≡ at + length xs → BytesAt bytes at xs → BytesAt bytes at' ys → BytesAt bytes at (xs ++ ys)
stands_both bytes at at' [] ys e h k = let same : at' ≡ at = e ∙ add-zero at in subst (λ (p : ℕ). BytesAt bytes p ys) same k
stands_both bytes at at' (x ∷ xs) ys e h k = (h.0, stands_both bytes (at + 1) at' xs ys (omega arith) h.1 k)

six_long : (k1 k2 k3 k4 k5 k6 : List ℕ) (at a b c d f g : ℕ) → a ≡ at + length k1 → b ≡ a + length k2 → c ≡ b + length k3 → d ≡ c + length k4 → f ≡ d + length k5 → g ≡ f + length k6 → g ≡ at + length (k1 ++ (k2 ++ (k3 ++ (k4 ++ (k5 ++ k6)))))
six_long k1 k2 k3 k4 k5 k6 at a b c d f g p q r t u v = simp length-append (omega arith)

pub record BodyFound (bytes : List ℕ) (at : ℕ) (f : Form) (n : ℕ) (row : Row) (s : OperandTypes) (x : Found) : Type 0 where
  pub row_is : x.row ≡ row
  pub form : x.op.form ≡ f
  pub number : x.op.number ≡ n
  pub types : types_in x.op.operands ≡ s
  pub count : count_in_row row s ≡ Ok x.op.operands.count
  pub first : FitsType s.first x.op.operands.first
  pub second : FitsType s.second x.op.operands.second
  pub third : FitsType s.third x.op.operands.third
  pub fourth : FitsType s.fourth x.op.operands.fourth
  pub store : FitsStore row.store x.op.store
  pub branch : FitsBranch row.branch x.op.branch
  pub stands : BytesAt bytes at (tail_of s x.op)
  pub text : text_at bytes row.text (at + length (tail_of s x.op)) ≡ Ok (x.op.text, x.end)

four_same : (s t : OperandTypes) → s.first ≡ t.first → s.second ≡ t.second → s.third ≡ t.third → s.fourth ≡ t.fourth → s ≡ t
four_same s t p q r u = rebuilt t s.first s.second s.third s.fourth p q r u
  where
    rebuilt : (t : OperandTypes) (a b c d : OperandType) → a ≡ t.first → b ≡ t.second → c ≡ t.third → d ≡ t.fourth → record { first = a; second = b; third = c; fourth = d } ≡ t
    rebuilt t a b c d p q r u = rw (p, q, r, u) refl

pub body_found : (bytes : List ℕ) (at : ℕ) (form : Form) (number : ℕ) (row : Row) (s : OperandTypes) (x : Found) → AreBytes bytes → body_at bytes form number row s at ≡ Ok x → BodyFound bytes at form number row s x
unfolding body_at
body_found bytes at form number row s x fits e =
    let n = bind_ok (count_in_row row s) _ x e in
    let a = bind_ok (operand_at bytes s.first at) _ x n.2 in
    let b = bind_ok (operand_at bytes s.second a.0.1) _ x a.2 in
    let c = bind_ok (operand_at bytes s.third b.0.1) _ x b.2 in
    let d = bind_ok (operand_at bytes s.fourth c.0.1) _ x c.2 in
    let f = bind_ok (store_at bytes row.store d.0.1) _ x d.2 in
    let g = bind_ok (branch_at bytes row.branch f.0.1) _ x f.2 in
    let h = bind_ok (text_at bytes row.text g.0.1) _ x g.2 in
    let ra = operand_found bytes at s.first a.0 fits a.1 in
    let rb = operand_found bytes a.0.1 s.second b.0 fits b.1 in
    let rc = operand_found bytes b.0.1 s.third c.0 fits c.1 in
    let rd = operand_found bytes c.0.1 s.fourth d.0 fits d.1 in
    let rf = store_found bytes d.0.1 row.store f.0 fits f.1 in
    let rg = branch_found bytes f.0.1 row.branch g.0 fits g.1 in
    let o = in_order s n.0 (counted_is row s n.0 n.1) in
    let m1 = present_most s.first in
    let m2 = present_most s.second in
    let m3 = present_most s.third in
    let m4 = present_most s.fourth in
    let s1 : type_if (ltb 0 n.0) a.0.0 ≡ s.first = type_back s.first a.0.0 0 n.0 (λ p. omega arith) (λ p. omega arith) ra.kind in
    let s2 : type_if (ltb 1 n.0) b.0.0 ≡ s.second = type_back s.second b.0.0 1 n.0 (λ p. omega arith) (λ p. omega arith) rb.kind in
    let s3 : type_if (ltb 2 n.0) c.0.0 ≡ s.third = type_back s.third c.0.0 2 n.0 (λ p. omega arith) (λ p. omega arith) rc.kind in
    let s4 : type_if (ltb 3 n.0) d.0.0 ≡ s.fourth = type_back s.fourth d.0.0 3 n.0 (λ p. omega arith) (λ p. omega arith) rd.kind in
    let op : Op = record { form = form; number = number; operands = record { count = n.0; first = a.0.0; second = b.0.0; third = c.0.0; fourth = d.0.0 }; store = f.0.0; branch = g.0.0; text = h.0.0 } in
    let made : Found = op_found row op h.0.1 in
    let k6 : List ℕ = branch_bytes g.0.0 in
    let k5 : List ℕ = store_bytes f.0.0 in
    let k4 : List ℕ = operand_bytes s.fourth d.0.0 in
    let k3 : List ℕ = operand_bytes s.third c.0.0 in
    let k2 : List ℕ = operand_bytes s.second b.0.0 in
    let k1 : List ℕ = operand_bytes s.first a.0.0 in
    let st5 = stands_both bytes d.0.1 f.0.1 k5 k6 rf.ends rf.stands rg.stands in
    let st4 = stands_both bytes c.0.1 d.0.1 k4 (k5 ++ k6) rd.ends rd.stands st5 in
    let st3 = stands_both bytes b.0.1 c.0.1 k3 (k4 ++ (k5 ++ k6)) rc.ends rc.stands st4 in
    let st2 = stands_both bytes a.0.1 b.0.1 k2 (k3 ++ (k4 ++ (k5 ++ k6))) rb.ends rb.stands st3 in
    let st1 = stands_both bytes at a.0.1 k1 (k2 ++ (k3 ++ (k4 ++ (k5 ++ k6)))) ra.ends ra.stands st2 in
    let long : g.0.1 ≡ at + length (k1 ++ (k2 ++ (k3 ++ (k4 ++ (k5 ++ k6))))) = six_long k1 k2 k3 k4 k5 k6 at a.0.1 b.0.1 c.0.1 d.0.1 f.0.1 g.0.1 ra.ends rb.ends rc.ends rd.ends rf.ends rg.ends in
    let text : text_at bytes row.text (at + length (k1 ++ (k2 ++ (k3 ++ (k4 ++ (k5 ++ k6)))))) ≡ Ok (h.0.0, h.0.1) = subst (λ (p : ℕ). text_at bytes row.text p ≡ Ok (h.0.0, h.0.1)) long h.1 in
    subst (λ (y : Found). BodyFound bytes at form number row s y) (ok_is made x h.2) (record {
      row_is = refl;
      form = refl;
      number = refl;
      types = four_same (types_in op.operands) s s1 s2 s3 s4;
      count = n.1;
      first = ra.fits;
      second = rb.fits;
      third = rc.fits;
      fourth = rd.fits;
      store = rf.fits;
      branch = rg.fits;
      stands = st1;
      text = text;
    })
