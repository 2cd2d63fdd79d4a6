-- Where the bytes end within an instruction, some bytes behind them complete it: by its form.
use Rattle.std.proofs.Common.{◌≡◌, ℕ, zero, suc, ◌+◌, ◌/◌, ◌%◌, ◌-◌, ◌<◌, ◌≤◌, Bool, true, false, cond, ltb, eqb, ◌&&◌, List, [], ◌∷◌, ◌++◌, length, Option, Some, None, Result, Ok, Err, refl, sym, ap, subst, ◌∙◌, arith, append_assoc, length-append, inl, inr, ◌⊎◌}
use Rattle.std.specs.Prelude.{slice_get, is_ok}
use Rattle.std.specs.List.{list_all}
use Rattle.std.specs.Prelude.{replicate}
use Rattle.z_model.specs.declared.fault.ZFault.{ZFault}
use Rattle.z_model.specs.declared.fault.ZFault.TheVariants.{BadOpcode, OffEnd}
use Rattle.z_model.specs.declared.op.Form.{Form}
use Rattle.z_model.specs.declared.op.Form.TheVariants as forms
use Rattle.z_model.specs.declared.op.Found.{Found}
use Rattle.z_model.specs.declared.table.Kind.{Kind}
use Rattle.z_model.specs.declared.table.Kind.TheVariants as kinds
use Rattle.z_model.specs.declared.table.Row.{Row}
use Rattle.z_model.specs.declared.op.OperandTypes.{OperandTypes}
use Rattle.z_model.specs.Table.{player_rows, entry, row_at}
use Rattle.z_model.specs.Decode.{◌>>=◌, or_fault, byte_at, known, present, operand_count, count_in_row, operand_at, store_at, branch_at, text_at, body_at, long_at, short_at, short_kind, variable_row, variable_at, extended_at, op_at, type_of, types_of, one_type, long_types}
use Rattle.z_model.specs.Spelling.{AreBytes}
use Rattle.z_model.proofs.Sought.{or_ok}
use Rattle.z_model.proofs.Completed.{marked, ample, Gives, AnyNumber, Done, body_whole}

-- ---- faults

bind_off : {A B : Type 0} (r : Result A ZFault) (f : A → Result B ZFault) → (r >>= f) ≡ Err OffEnd → (r ≡ Err OffEnd) ⊎ ((x : A) × (r ≡ Ok x) × (f x ≡ Err OffEnd))
bind_off (Ok x) f e = inr (x, refl, e)
bind_off (Err fault) f e = inl cc

known_off : (kind : Kind) (number : ℕ) → known player_rows kind number ≡ Err OffEnd → ⊥
known_off kind number e = by_entry (row_at player_rows kind number) e
  where
    by_entry : (o : Option Row) → or_fault BadOpcode o ≡ Err OffEnd → ⊥
    by_entry (Some row) e = cc
    by_entry None e = cc

variable_row_off : (number : ℕ) → variable_row player_rows number ≡ Err OffEnd → ⊥
variable_row_off number e = by_test (ltb number 32) e
  where
    by_test : (t : Bool) → cond t (known player_rows kinds.Two number) (known player_rows kinds.Several (number - 32)) ≡ Err OffEnd → ⊥
    by_test true e = known_off kinds.Two number e
    by_test false e = known_off kinds.Several (number - 32) e

guard_off : (b : Bool) (r : Result ℕ ZFault) → cond b (Err BadOpcode) r ≡ Err OffEnd → r ≡ Err OffEnd
guard_off true r e = absurd cc
guard_off false r e = e

abbrev number_ok : ℕ → Result ℕ ZFault
number_ok n = Ok n

ok_off : (n : ℕ) → number_ok n ≡ Err OffEnd → ⊥
ok_off n e = cc

count_of_off : (s : OperandTypes) → operand_count s ≡ Err OffEnd → ⊥
unfolding operand_count
count_of_off s e =
    let a = guard_off (ltb (present s.first) (present s.second)) _ e in
    let b = guard_off (ltb (present s.second) (present s.third)) _ a in
    let c = guard_off (ltb (present s.third) (present s.fourth)) _ b in
    ok_off (present s.first + present s.second + present s.third + present s.fourth) c

counted_off : (row : Row) (s : OperandTypes) → count_in_row row s ≡ Err OffEnd → ⊥
unfolding count_in_row
counted_off row s e = by_case (bind_off (operand_count s) _ e)
  where
    by_case : (operand_count s ≡ Err OffEnd) ⊎ ((n : ℕ) × (operand_count s ≡ Ok n) × (cond (ltb n row.fewest) (Err BadOpcode) (cond (ltb row.most n) (Err BadOpcode) (Ok n)) ≡ Err OffEnd)) → ⊥
    by_case (inl off) = count_of_off s off
    by_case (inr p) =
        let few = guard_off (ltb p.0 row.fewest) _ p.2 in
        ok_off p.0 (guard_off (ltb row.most p.0) (Ok p.0) few)

front_true : (a b : Bool) → (a && b) ≡ true → a ≡ true
front_true true b e = refl
front_true false b e = absurd cc

rest_true : (a b : Bool) → (a && b) ≡ true → b ≡ true
rest_true true b e = e
rest_true false b e = absurd cc

-- ---- where bytes stand

pub off_byte : (bytes : List ℕ) (at : ℕ) → byte_at bytes at ≡ Err OffEnd → length bytes ≤ at
off_byte [] at e = omega arith
off_byte (b ∷ bytes) zero e = absurd cc
off_byte (b ∷ bytes) (suc at) e = let more = off_byte bytes at e in omega arith

pub ok_byte : (bytes : List ℕ) (at b : ℕ) → byte_at bytes at ≡ Ok b → at < length bytes
ok_byte [] at b e = absurd cc
ok_byte (c ∷ bytes) zero b e = omega arith
ok_byte (c ∷ bytes) (suc at) b e = let more = ok_byte bytes at b e in omega arith

byte_kept : (bytes more : List ℕ) (at b : ℕ) → byte_at bytes at ≡ Ok b → byte_at (bytes ++ more) at ≡ Ok b
byte_kept [] more at b e = absurd cc
byte_kept (c ∷ bytes) more zero b e = e
byte_kept (c ∷ bytes) more (suc at) b e = byte_kept bytes more at b e

byte_behind : (front more : List ℕ) (k : ℕ) → byte_at (front ++ more) (k + length front) ≡ byte_at more k
byte_behind [] more k = rw zero_more refl
  where
    zero_more : k + 0 ≡ k
    zero_more = omega arith
byte_behind (c ∷ front) more k = rw one_more (byte_behind front more k)
  where
    one_more : k + suc (length front) ≡ suc (k + length front)
    one_more = omega arith

byte_next : (front more : List ℕ) (k at : ℕ) → at ≡ k + length front → byte_at (front ++ more) at ≡ byte_at more k
byte_next front more k at e = rw e (byte_behind front more k)

-- the bytes that are missing before a place
abbrev gap : List ℕ → ℕ → List ℕ
gap [] zero = []
gap [] (suc at) = 0 ∷ gap [] at
gap (b ∷ bytes) zero = []
gap (b ∷ bytes) (suc at) = gap bytes at

gap_reaches : (bytes : List ℕ) (at : ℕ) → length bytes ≤ at → length (bytes ++ gap bytes at) ≡ at
gap_reaches [] zero le = refl
gap_reaches [] (suc at) le = ap suc (gap_reaches [] at (omega arith))
gap_reaches (b ∷ bytes) zero le = absurd (omega arith)
gap_reaches (b ∷ bytes) (suc at) le = ap suc (gap_reaches bytes at (omega arith))

-- ---- types that a row allows

-- a type byte for so many operands
abbrev types_for : ℕ → ℕ
types_for zero = 255
types_for (suc zero) = 127
types_for (suc (suc zero)) = 95
types_for (suc (suc (suc zero))) = 87
types_for (suc (suc (suc (suc n)))) = 85

abbrev takes : Option Row → Bool
takes None = true
takes (Some row) = is_ok (count_in_row row (types_of (types_for row.fewest)))

all_take : (kind : Kind) → list_all takes (player_rows kind) ≡ true
unfolding count_in_row operand_count
all_take kinds.Two = refl
all_take kinds.One = refl
all_take kinds.Zero = refl
all_take kinds.Several = refl
all_take kinds.Extended = refl

takes_at : (rows : List (Option Row)) (number : ℕ) (row : Row) → list_all takes rows ≡ true → entry (slice_get rows number) ≡ Some row → takes (Some row) ≡ true
takes_at [] number row all is = absurd cc
takes_at (one ∷ rows) zero row all is = ap takes (sym is) ∙ front_true (takes one) (list_all takes rows) all
takes_at (one ∷ rows) (suc number) row all is = takes_at rows number row (rest_true (takes one) (list_all takes rows) all) is

types_taken : (kind : Kind) (number : ℕ) (row : Row) → known player_rows kind number ≡ Ok row → Gives (count_in_row row (types_of (types_for row.fewest))) AnyNumber
types_taken kind number row is = given (count_in_row row (types_of (types_for row.fewest))) (takes_at (player_rows kind) number row (all_take kind) (or_ok BadOpcode (row_at player_rows kind number) row is))
  where
    given : (r : Result ℕ ZFault) → is_ok r ≡ true → Gives r AnyNumber
    given (Ok n) e = tt
    given (Err fault) e = absurd cc

variable_types_taken : (number : ℕ) (row : Row) → variable_row player_rows number ≡ Ok row → Gives (count_in_row row (types_of (types_for row.fewest))) AnyNumber
variable_types_taken number row is = by_test (ltb number 32) is
  where
    by_test : (t : Bool) → cond t (known player_rows kinds.Two number) (known player_rows kinds.Several (number - 32)) ≡ Ok row → Gives (count_in_row row (types_of (types_for row.fewest))) AnyNumber
    by_test true is = types_taken kinds.Two number row is
    by_test false is = types_taken kinds.Several (number - 32) row is

-- ---- what stands behind the types

abbrev pub Decoded : Result Found ZFault → Type 0
Decoded r = Gives r (Done Found)

gives_ok : {A : Type 0} (r : Result A ZFault) (x : A) (f : A → Result Found ZFault) → r ≡ Ok x → Decoded (f x) → Decoded (r >>= f)
gives_ok {A} r x f e h = subst (λ (z : Result A ZFault). Decoded (z >>= f)) (sym e) h

-- the body is whole behind this front, once enough has come
body_behind : (front : List ℕ) (form : Form) (number : ℕ) (row : Row) (s : OperandTypes) (at : ℕ) → at ≤ length front → Gives (count_in_row row s) AnyNumber → Decoded (body_at (front ++ (ample ++ marked)) form number row s at)
body_behind front form number row s at room count =
    let group : (front ++ ample) ++ marked ≡ front ++ (ample ++ marked) = append_assoc front ample marked in
    let long : length (front ++ ample) ≡ length front + length ample = length-append front ample in
    subst (λ (w : List ℕ). Decoded (body_at w form number row s at)) group (body_whole (front ++ ample) form number row s at (omega arith) count)

body_counted : (bytes : List ℕ) (form : Form) (number : ℕ) (row : Row) (s : OperandTypes) (at : ℕ) → body_at bytes form number row s at ≡ Err OffEnd → Gives (count_in_row row s) AnyNumber
unfolding body_at
body_counted bytes form number row s at e = by_case (count_in_row row s) (counted_off row s) (bind_off (count_in_row row s) _ e)
  where
    by_case : {P : ℕ → Type 0} (r : Result ℕ ZFault) → (r ≡ Err OffEnd → ⊥) → (r ≡ Err OffEnd) ⊎ ((n : ℕ) × (r ≡ Ok n) × P n) → Gives r AnyNumber
    by_case r not (inl off) = absurd (not off)
    by_case (Ok n) not (inr p) = tt
    by_case (Err fault) not (inr p) = absurd cc

body_completed : (bytes : List ℕ) (form : Form) (number : ℕ) (row : Row) (s : OperandTypes) (at : ℕ) → at ≤ length bytes → body_at bytes form number row s at ≡ Err OffEnd → Decoded (body_at (bytes ++ (ample ++ marked)) form number row s at)
body_completed bytes form number row s at room e = body_behind bytes form number row s at room (body_counted bytes form number row s at e)

-- ---- the forms

-- the rest of what stands behind the bytes
abbrev pub rest : List ℕ
rest = ample ++ marked

one_more : (b : ℕ) (bytes : List ℕ) → b < 256 → AreBytes bytes → AreBytes (b ∷ bytes)
one_more b bytes lt are zero c e = let same : b ≡ c = cc in omega arith
one_more b bytes lt are (suc i) c e = are i c e

pub no_bytes : AreBytes []
no_bytes i c e = absurd cc

copies_bytes : (b : ℕ) (n : ℕ) → b < 256 → AreBytes (replicate n b)
copies_bytes b zero lt = no_bytes
copies_bytes b (suc n) lt = one_more b (replicate n b) lt (copies_bytes b n lt)

rest_bytes : AreBytes rest
rest_bytes = copies_bytes 128 14 (omega arith)

types_below : (n : ℕ) → types_for n < 256
types_below zero = omega arith
types_below (suc zero) = omega arith
types_below (suc (suc zero)) = omega arith
types_below (suc (suc (suc zero))) = omega arith
types_below (suc (suc (suc (suc n)))) = omega arith

row_there : (r : Result Row ZFault) → is_ok r ≡ true → (row : Row) × (r ≡ Ok row)
row_there (Ok row) e = (row, refl)
row_there (Err fault) e = absurd cc

an_extended : (row : Row) × (known player_rows kinds.Extended 11 ≡ Ok row)
an_extended = row_there (known player_rows kinds.Extended 11) refl

-- with some bytes behind these it is an instruction
abbrev pub CompletedBy : List ℕ → (List ℕ → Result Found ZFault) → Type 0
CompletedBy bytes decode = (more : List ℕ) × AreBytes more × Decoded (decode (bytes ++ more))

module _ (bytes : List ℕ) (at : ℕ) where
  long_completed : (b : ℕ) → at < length bytes → long_at player_rows bytes at b ≡ Err OffEnd → Decoded (long_at player_rows (bytes ++ rest) at b)
  unfolding long_at
  long_completed b there e = by_row (bind_off (known player_rows kinds.Two (b % 32)) _ e)
    where
      by_row : (known player_rows kinds.Two (b % 32) ≡ Err OffEnd) ⊎ ((row : Row) × (known player_rows kinds.Two (b % 32) ≡ Ok row) × (body_at bytes forms.Long (b % 32) row (long_types b) (at + 1) ≡ Err OffEnd)) → Decoded (known player_rows kinds.Two (b % 32) >>= (λ row. body_at (bytes ++ rest) forms.Long (b % 32) row (long_types b) (at + 1)))
      by_row (inl off) = absurd (known_off kinds.Two (b % 32) off)
      by_row (inr p) = gives_ok (known player_rows kinds.Two (b % 32)) p.0 _ p.1 (body_completed bytes forms.Long (b % 32) p.0 (long_types b) (at + 1) (omega arith) p.2)

  short_completed : (b : ℕ) → at < length bytes → short_at player_rows bytes at b ≡ Err OffEnd → Decoded (short_at player_rows (bytes ++ rest) at b)
  unfolding short_at
  short_completed b there e = by_row (short_kind (type_of (b / 16 % 4))) (one_type (type_of (b / 16 % 4))) (bind_off (known player_rows (short_kind (type_of (b / 16 % 4))) (b % 16)) _ e)
    where
      by_row : (kind : Kind) (s : OperandTypes) → (known player_rows kind (b % 16) ≡ Err OffEnd) ⊎ ((row : Row) × (known player_rows kind (b % 16) ≡ Ok row) × (body_at bytes forms.Short (b % 16) row s (at + 1) ≡ Err OffEnd)) → Decoded (known player_rows kind (b % 16) >>= (λ row. body_at (bytes ++ rest) forms.Short (b % 16) row s (at + 1)))
      by_row kind s (inl off) = absurd (known_off kind (b % 16) off)
      by_row kind s (inr p) = gives_ok (known player_rows kind (b % 16)) p.0 _ p.1 (body_completed bytes forms.Short (b % 16) p.0 s (at + 1) (omega arith) p.2)

  variable_missing : (b : ℕ) (row : Row) → length bytes ≡ at + 1 → variable_row player_rows (b % 64) ≡ Ok row → Decoded (variable_at player_rows (bytes ++ (types_for row.fewest ∷ rest)) at b)
  unfolding variable_at
  variable_missing b row long is =
      let t : ℕ = types_for row.fewest in
      let w : List ℕ = bytes ++ (types_for row.fewest ∷ rest) in
      let types : byte_at w (at + 1) ≡ Ok t = byte_next bytes (types_for row.fewest ∷ rest) 0 (at + 1) (omega arith) in
      let group : (bytes ++ (t ∷ [])) ++ rest ≡ w = append_assoc bytes (t ∷ []) rest in
      let more : length (bytes ++ (t ∷ [])) ≡ length bytes + 1 = length-append bytes (t ∷ []) in
      let body : Decoded (body_at w forms.Variable (b % 64) row (types_of t) (at + 2)) = subst (λ (v : List ℕ). Decoded (body_at v forms.Variable (b % 64) row (types_of t) (at + 2))) group (body_behind (bytes ++ (t ∷ [])) forms.Variable (b % 64) row (types_of t) (at + 2) (omega arith) (variable_types_taken (b % 64) row is)) in
      gives_ok (variable_row player_rows (b % 64)) row _ is (gives_ok (byte_at w (at + 1)) t _ types body)

  variable_there : (b t : ℕ) (row : Row) → byte_at bytes (at + 1) ≡ Ok t → variable_row player_rows (b % 64) ≡ Ok row → body_at bytes forms.Variable (b % 64) row (types_of t) (at + 2) ≡ Err OffEnd → Decoded (variable_at player_rows (bytes ++ rest) at b)
  unfolding variable_at
  variable_there b t row there is off =
      let within : at + 1 < length bytes = ok_byte bytes (at + 1) t there in
      let types : byte_at (bytes ++ rest) (at + 1) ≡ Ok t = byte_kept bytes rest (at + 1) t there in
      gives_ok (variable_row player_rows (b % 64)) row _ is (gives_ok (byte_at (bytes ++ rest) (at + 1)) t _ types (body_completed bytes forms.Variable (b % 64) row (types_of t) (at + 2) (omega arith) off))

  variable_completed : (b : ℕ) → at < length bytes → variable_at player_rows bytes at b ≡ Err OffEnd → CompletedBy bytes (λ w. variable_at player_rows w at b)
  unfolding variable_at
  variable_completed b there e = by_row (bind_off (variable_row player_rows (b % 64)) _ e)
    where
      by_types : (row : Row) → variable_row player_rows (b % 64) ≡ Ok row → (byte_at bytes (at + 1) ≡ Err OffEnd) ⊎ ((t : ℕ) × (byte_at bytes (at + 1) ≡ Ok t) × (body_at bytes forms.Variable (b % 64) row (types_of t) (at + 2) ≡ Err OffEnd)) → CompletedBy bytes (λ w. variable_at player_rows w at b)
      by_types row is (inl off) =
          let short : length bytes ≤ at + 1 = off_byte bytes (at + 1) off in
          (types_for row.fewest ∷ rest, one_more (types_for row.fewest) rest (types_below row.fewest) rest_bytes, variable_missing b row (omega arith) is)
      by_types row is (inr p) = (rest, rest_bytes, variable_there b p.0 row p.1 is p.2)

      by_row : (variable_row player_rows (b % 64) ≡ Err OffEnd) ⊎ ((row : Row) × (variable_row player_rows (b % 64) ≡ Ok row) × ((byte_at bytes (at + 1) >>= (λ t. body_at bytes forms.Variable (b % 64) row (types_of t) (at + 2))) ≡ Err OffEnd)) → CompletedBy bytes (λ w. variable_at player_rows w at b)
      by_row (inl off) = absurd (variable_row_off (b % 64) off)
      by_row (inr p) = by_types p.0 p.1 (bind_off (byte_at bytes (at + 1)) _ p.2)

  extended_numbered : (number : ℕ) (row : Row) → length bytes ≡ at + 1 → known player_rows kinds.Extended number ≡ Ok row → Decoded (extended_at player_rows (bytes ++ (number ∷ types_for row.fewest ∷ rest)) at)
  unfolding extended_at
  extended_numbered number row long is =
      let t : ℕ = types_for row.fewest in
      let w : List ℕ = bytes ++ (number ∷ types_for row.fewest ∷ rest) in
      let number_there : byte_at w (at + 1) ≡ Ok number = byte_next bytes (number ∷ types_for row.fewest ∷ rest) 0 (at + 1) (omega arith) in
      let types : byte_at w (at + 2) ≡ Ok t = byte_next bytes (number ∷ types_for row.fewest ∷ rest) 1 (at + 2) (omega arith) in
      let group : (bytes ++ (number ∷ t ∷ [])) ++ rest ≡ w = append_assoc bytes (number ∷ t ∷ []) rest in
      let more : length (bytes ++ (number ∷ t ∷ [])) ≡ length bytes + 2 = length-append bytes (number ∷ t ∷ []) in
      let body : Decoded (body_at w forms.Extended number row (types_of t) (at + 3)) = subst (λ (v : List ℕ). Decoded (body_at v forms.Extended number row (types_of t) (at + 3))) group (body_behind (bytes ++ (number ∷ t ∷ [])) forms.Extended number row (types_of t) (at + 3) (omega arith) (types_taken kinds.Extended number row is)) in
      gives_ok (byte_at w (at + 1)) number _ number_there (gives_ok (known player_rows kinds.Extended number) row _ is (gives_ok (byte_at w (at + 2)) t _ types body))

  extended_typed : (number : ℕ) (row : Row) → length bytes ≡ at + 2 → byte_at bytes (at + 1) ≡ Ok number → known player_rows kinds.Extended number ≡ Ok row → Decoded (extended_at player_rows (bytes ++ (types_for row.fewest ∷ rest)) at)
  unfolding extended_at
  extended_typed number row long there is =
      let t : ℕ = types_for row.fewest in
      let w : List ℕ = bytes ++ (types_for row.fewest ∷ rest) in
      let number_there : byte_at w (at + 1) ≡ Ok number = byte_kept bytes (types_for row.fewest ∷ rest) (at + 1) number there in
      let types : byte_at w (at + 2) ≡ Ok t = byte_next bytes (types_for row.fewest ∷ rest) 0 (at + 2) (omega arith) in
      let group : (bytes ++ (t ∷ [])) ++ rest ≡ w = append_assoc bytes (t ∷ []) rest in
      let more : length (bytes ++ (t ∷ [])) ≡ length bytes + 1 = length-append bytes (t ∷ []) in
      let body : Decoded (body_at w forms.Extended number row (types_of t) (at + 3)) = subst (λ (v : List ℕ). Decoded (body_at v forms.Extended number row (types_of t) (at + 3))) group (body_behind (bytes ++ (t ∷ [])) forms.Extended number row (types_of t) (at + 3) (omega arith) (types_taken kinds.Extended number row is)) in
      gives_ok (byte_at w (at + 1)) number _ number_there (gives_ok (known player_rows kinds.Extended number) row _ is (gives_ok (byte_at w (at + 2)) t _ types body))

  extended_there : (number t : ℕ) (row : Row) → byte_at bytes (at + 1) ≡ Ok number → known player_rows kinds.Extended number ≡ Ok row → byte_at bytes (at + 2) ≡ Ok t → body_at bytes forms.Extended number row (types_of t) (at + 3) ≡ Err OffEnd → Decoded (extended_at player_rows (bytes ++ rest) at)
  unfolding extended_at
  extended_there number t row there is types_there off =
      let within : at + 2 < length bytes = ok_byte bytes (at + 2) t types_there in
      let number_there : byte_at (bytes ++ rest) (at + 1) ≡ Ok number = byte_kept bytes rest (at + 1) number there in
      let types : byte_at (bytes ++ rest) (at + 2) ≡ Ok t = byte_kept bytes rest (at + 2) t types_there in
      let body = body_completed bytes forms.Extended number row (types_of t) (at + 3) (omega arith) off in
      gives_ok (byte_at (bytes ++ rest) (at + 1)) number _ number_there (gives_ok (known player_rows kinds.Extended number) row _ is (gives_ok (byte_at (bytes ++ rest) (at + 2)) t _ types body))

  extended_completed : at < length bytes → extended_at player_rows bytes at ≡ Err OffEnd → CompletedBy bytes (λ w. extended_at player_rows w at)
  unfolding extended_at
  extended_completed there e = by_number (bind_off (byte_at bytes (at + 1)) _ e)
    where
      by_types : (number : ℕ) (row : Row) → byte_at bytes (at + 1) ≡ Ok number → known player_rows kinds.Extended number ≡ Ok row → (byte_at bytes (at + 2) ≡ Err OffEnd) ⊎ ((t : ℕ) × (byte_at bytes (at + 2) ≡ Ok t) × (body_at bytes forms.Extended number row (types_of t) (at + 3) ≡ Err OffEnd)) → CompletedBy bytes (λ w. extended_at player_rows w at)
      by_types number row n is (inl off) =
          let short : length bytes ≤ at + 2 = off_byte bytes (at + 2) off in
          let longer : at + 1 < length bytes = ok_byte bytes (at + 1) number n in
          (types_for row.fewest ∷ rest, one_more (types_for row.fewest) rest (types_below row.fewest) rest_bytes, extended_typed number row (omega arith) n is)
      by_types number row n is (inr p) = (rest, rest_bytes, extended_there number p.0 row n is p.1 p.2)

      by_row : (number : ℕ) → byte_at bytes (at + 1) ≡ Ok number → (known player_rows kinds.Extended number ≡ Err OffEnd) ⊎ ((row : Row) × (known player_rows kinds.Extended number ≡ Ok row) × ((byte_at bytes (at + 2) >>= (λ t. body_at bytes forms.Extended number row (types_of t) (at + 3))) ≡ Err OffEnd)) → CompletedBy bytes (λ w. extended_at player_rows w at)
      by_row number n (inl off) = absurd (known_off kinds.Extended number off)
      by_row number n (inr p) = by_types number p.0 n p.1 (bind_off (byte_at bytes (at + 2)) _ p.2)

      by_number : (byte_at bytes (at + 1) ≡ Err OffEnd) ⊎ ((number : ℕ) × (byte_at bytes (at + 1) ≡ Ok number) × ((known player_rows kinds.Extended number >>= (λ row. byte_at bytes (at + 2) >>= (λ t. body_at bytes forms.Extended number row (types_of t) (at + 3)))) ≡ Err OffEnd)) → CompletedBy bytes (λ w. extended_at player_rows w at)
      by_number (inl off) =
          let short : length bytes ≤ at + 1 = off_byte bytes (at + 1) off in
          let t : ℕ = types_for an_extended.0.fewest in
          (11 ∷ t ∷ rest, one_more 11 (t ∷ rest) (omega arith) (one_more t rest (types_below an_extended.0.fewest) rest_bytes), extended_numbered 11 an_extended.0 (omega arith) an_extended.1)
      by_number (inr p) = by_row p.0 p.1 (bind_off (known player_rows kinds.Extended p.0) _ p.2)

-- ---- the instruction

chosen_off : (b : Bool) (x y : Result Found ZFault) → cond b x y ≡ Err OffEnd → ((b ≡ true) × (x ≡ Err OffEnd)) ⊎ ((b ≡ false) × (y ≡ Err OffEnd))
chosen_off true x y e = inl (refl, e)
chosen_off false x y e = inr (refl, e)

pub both_bytes : (front more : List ℕ) → AreBytes front → AreBytes more → AreBytes (front ++ more)
both_bytes [] more a b = b
both_bytes (c ∷ front) more a b = one_more c (front ++ more) (a 0 c refl) (both_bytes front more (λ i d e. a (suc i) d e) b)

gap_bytes : (bytes : List ℕ) (at : ℕ) → AreBytes (gap bytes at)
gap_bytes [] zero = no_bytes
gap_bytes [] (suc at) = one_more 0 (gap [] at) (omega arith) (gap_bytes [] at)
gap_bytes (b ∷ bytes) zero = no_bytes
gap_bytes (b ∷ bytes) (suc at) = gap_bytes bytes at

module _ (bytes : List ℕ) (at : ℕ) where
  op_as : (w : List ℕ) (b : ℕ) → byte_at w at ≡ Ok b → Decoded (cond (ltb b 128) (long_at player_rows w at b) (cond (eqb b 190) (extended_at player_rows w at) (cond (ltb b 192) (short_at player_rows w at b) (variable_at player_rows w at b)))) → Decoded (op_at player_rows w at)
  unfolding op_at
  op_as w b there h = gives_ok (byte_at w at) b _ there h

  -- rtrue, the instruction that is one byte
  op_alone : (w : List ℕ) → byte_at w at ≡ Ok 176 → Decoded (op_at player_rows w at)
  unfolding short_at body_at count_in_row operand_count operand_at store_at branch_at text_at
  op_alone w there = op_as w 176 there tt

  first_completed : byte_at bytes at ≡ Err OffEnd → CompletedBy bytes (λ w. op_at player_rows w at)
  first_completed off =
      let short : length bytes ≤ at = off_byte bytes at off in
      let reached : length (bytes ++ gap bytes at) ≡ at = gap_reaches bytes at short in
      let there : byte_at ((bytes ++ gap bytes at) ++ (176 ∷ [])) at ≡ Ok 176 = byte_next (bytes ++ gap bytes at) (176 ∷ []) 0 at (omega arith) in
      let group : (bytes ++ gap bytes at) ++ (176 ∷ []) ≡ bytes ++ (gap bytes at ++ (176 ∷ [])) = append_assoc bytes (gap bytes at) (176 ∷ []) in
      (gap bytes at ++ (176 ∷ []), both_bytes (gap bytes at) (176 ∷ []) (gap_bytes bytes at) (one_more 176 [] (omega arith) no_bytes), op_alone (bytes ++ (gap bytes at ++ (176 ∷ []))) (subst (λ (w : List ℕ). byte_at w at ≡ Ok 176) group there))

  form_completed : (b : ℕ) → byte_at bytes at ≡ Ok b → cond (ltb b 128) (long_at player_rows bytes at b) (cond (eqb b 190) (extended_at player_rows bytes at) (cond (ltb b 192) (short_at player_rows bytes at b) (variable_at player_rows bytes at b))) ≡ Err OffEnd → CompletedBy bytes (λ w. op_at player_rows w at)
  form_completed b there e =
      elim (chosen_off (ltb b 128) _ _ e) [
        | inl p ↦ (rest, rest_bytes, op_as (bytes ++ rest) b (byte_kept bytes rest at b there) (rw p.0 (long_completed bytes at b within p.1)))
        | inr p ↦ elim (chosen_off (eqb b 190) _ _ p.1) [
          | inl q ↦ let c = extended_completed bytes at within q.1 in (c.0, c.1, op_as (bytes ++ c.0) b (byte_kept bytes c.0 at b there) (rw (p.0, q.0) c.2))
          | inr q ↦ elim (chosen_off (ltb b 192) _ _ q.1) [
            | inl r ↦ (rest, rest_bytes, op_as (bytes ++ rest) b (byte_kept bytes rest at b there) (rw (p.0, q.0, r.0) (short_completed bytes at b within r.1)))
            | inr r ↦ let c = variable_completed bytes at b within r.1 in (c.0, c.1, op_as (bytes ++ c.0) b (byte_kept bytes c.0 at b there) (rw (p.0, q.0, r.0) c.2))
          ]
        ]
      ]
    where
      within : at < length bytes
      within = ok_byte bytes at b there

  -- where the bytes end within an instruction, some bytes behind them complete it
  pub op_completed : op_at player_rows bytes at ≡ Err OffEnd → CompletedBy bytes (λ w. op_at player_rows w at)
  unfolding op_at
  op_completed e =
      elim (bind_off (byte_at bytes at) _ e) [
        | inl off ↦ first_completed off
        | inr p ↦ form_completed p.0 p.1 p.2
      ]
