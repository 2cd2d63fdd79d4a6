-- The values of plain terms, and what they take.
use Rattle.std.proofs.Common.{◌≡◌, ℕ, zero, suc, ◌+◌, ◌-◌, ◌<◌, ◌≤◌, List, [], ◌∷◌, ◌++◌, Option, Some, None, refl, sym, ap, ◌∙◌, subst, arith, length, get_or}
use Rattle.dg_base.specs.declared.program.Term.{Term, out-Term, roll-Term, roll-out-Term}
use Rattle.dg_base.specs.declared.program.Term.TheOpen as term
use Rattle.dg_base.specs.declared.program.Term.TheVariants.{Num as Num-Term, Word as Word-Term, Object as Object-Term, Nil as Nil-Term, Var as Var-Term, rolls-Num, rolls-Word, rolls-Object, rolls-Nil, rolls-Var, outs-Var}
use Rattle.dg_base.specs.declared.program.CoreProgram.{CoreProgram}
use Rattle.dg_meaning.specs.Values.{Value, Values, NoMore, More, Num, Word, Object, Nil, Closure, Node, leaf, value_of, value_of_var}
use Rattle.dg_meaning.specs.Copies.{values_of}
use Rattle.dg_unify.specs.Store.{Store, Shows, IsTold, IsClosureAt, IsPart, part_at, count_of}
use Rattle.dg_base.specs.declared.cells.Simple.TheVariants as simple
use Rattle.dg_unify.specs.declared.bindings.View.{View}
use Rattle.dg_unify.specs.declared.bindings.View.TheVariants as view
use Rattle.dg_unify.specs.declared.bindings.Ref.{Ref}
use Rattle.dg_machine.specs.declared.now.Row.{Row}
use Rattle.dg_mid.specs.Heads.{IsPlain}
use Rattle.dg_machine.specs.Refs.{ValuesAt, Captures, RowAt, IsVarAt, RefsAt, IsClosureOf}

-- ## One term

pub num_value : (p : CoreProgram) (vs : List Value) (t : Term) (n : ℕ) → t ≡ Num-Term n → value_of p vs t ≡ leaf (Num n)
unfolding out-Term denote.Hole.Carrier.out
num_value p vs t n e = ap (value_of p vs) e

pub word_value : (p : CoreProgram) (vs : List Value) (t : Term) (n : ℕ) → t ≡ Word-Term n → value_of p vs t ≡ leaf (Word n)
unfolding out-Term denote.Hole.Carrier.out
word_value p vs t n e = ap (value_of p vs) e

pub object_value : (p : CoreProgram) (vs : List Value) (t : Term) (n : ℕ) → t ≡ Object-Term n → value_of p vs t ≡ leaf (Object n)
unfolding out-Term denote.Hole.Carrier.out
object_value p vs t n e = ap (value_of p vs) e

pub nil_value : (p : CoreProgram) (vs : List Value) (t : Term) → t ≡ Nil-Term → value_of p vs t ≡ leaf Nil
unfolding out-Term denote.Hole.Carrier.out
nil_value p vs t e = ap (value_of p vs) e

pub var_value : (p : CoreProgram) (vs : List Value) (t : Term) (n : ℕ) → t ≡ Var-Term n → value_of p vs t ≡ value_of_var vs n
unfolding out-Term denote.Hole.Carrier.out
var_value p vs t n e = ap (value_of p vs) e

pub var_plain : (x : Term) (n : ℕ) → x ≡ Var-Term n → IsPlain (out-Term x)
var_plain x n e = subst IsPlain (sym (ap out-Term e ∙ outs-Var n)) tt

nil_top : (x : Term) (o : term.Term-F Term) → out-Term x ≡ o → IsPlain o → ((n : ℕ) → x ≡ Num-Term n → ⊥) → ((n : ℕ) → x ≡ Word-Term n → ⊥) → ((n : ℕ) → x ≡ Object-Term n → ⊥) → ((n : ℕ) → x ≡ Var-Term n → ⊥) → x ≡ Nil-Term
nil_top x (term.Num n) e plain a b d v = absurd (a n (sym (roll-out-Term x) ∙ ap roll-Term e ∙ rolls-Num n))
nil_top x (term.Word n) e plain a b d v = absurd (b n (sym (roll-out-Term x) ∙ ap roll-Term e ∙ rolls-Word n))
nil_top x (term.Object n) e plain a b d v = absurd (d n (sym (roll-out-Term x) ∙ ap roll-Term e ∙ rolls-Object n))
nil_top x (term.Var n) e plain a b d v = absurd (v n (sym (roll-out-Term x) ∙ ap roll-Term e ∙ rolls-Var n))
nil_top x term.Nil e plain a b d v = sym (roll-out-Term x) ∙ ap roll-Term e ∙ rolls-Nil
nil_top x (term.Pair h tl) e plain a b d v = absurd plain
nil_top x (term.Closure c) e plain a b d v = absurd plain

-- a plain term that is nothing else is the empty list
pub nil_left : (x : Term) → IsPlain (out-Term x) → ((n : ℕ) → x ≡ Num-Term n → ⊥) → ((n : ℕ) → x ≡ Word-Term n → ⊥) → ((n : ℕ) → x ≡ Object-Term n → ⊥) → ((n : ℕ) → x ≡ Var-Term n → ⊥) → x ≡ Nil-Term
nil_left x plain a b d v = nil_top x (out-Term x) refl plain a b d v

-- ## Variables in a row

values_get : (s : Store) (at n : ℕ) (vs : List Value) (d : Value) → ValuesAt s at vs → n < length vs → s.value (record { 0 = at + n }) ≡ Some (get_or vs n d)
values_get s at n [] d h lt = absurd (omega (arith, lt))
values_get s at zero (v ∷ vs) d h lt = let none : at ≡ at + 0 = omega arith in subst (λ k. s.value (record { 0 = k }) ≡ Some v) none h.0
values_get s at (suc n) (v ∷ vs) d h lt =
    let next : suc at + n ≡ at + suc n = omega arith in
    subst (λ k. s.value (record { 0 = k }) ≡ Some (get_or vs n d)) next (values_get s (suc at) n vs d h.1 (omega (arith, lt)))

get_beyond : (n : ℕ) (vs : List Value) (d : Value) → length vs ≤ n → get_or vs n d ≡ d
get_beyond n [] d le = refl
get_beyond zero (v ∷ vs) d le = absurd (omega (arith, le))
get_beyond (suc n) (v ∷ vs) d le = get_beyond n vs d (omega (arith, le))

get_front : (xs ys : List Value) (n : ℕ) (d : Value) → n < length xs → get_or (xs ++ ys) n d ≡ get_or xs n d
get_front [] ys n d lt = absurd (omega (arith, lt))
get_front (x ∷ xs) ys zero d lt = refl
get_front (x ∷ xs) ys (suc n) d lt = get_front xs ys n d (omega (arith, lt))

get_behind : (xs ys : List Value) (n : ℕ) (d : Value) → get_or (xs ++ ys) (length xs + n) d ≡ get_or ys n d
get_behind [] ys n d = let none : 0 + n ≡ n = omega arith in ap (λ k. get_or ys k d) none
get_behind (x ∷ xs) ys n d = let next : suc (length xs) + n ≡ suc (length xs + n) = omega arith in ap (λ k. get_or (x ∷ (xs ++ ys)) k d) next ∙ get_behind xs ys n d

part_get : (s : Store) (r : Ref) (n : ℕ) (parts : Values) → IsPart s (part_at n parts) (Some r) → s.value r ≡ Some (get_or (values_of parts) n (leaf Nil))
part_get s r n NoMore h = absurd h.0
part_get s r zero (More v vs) h = h.1
part_get s r (suc n) (More v vs) h = part_get s r n vs h

pub part_more : (n : ℕ) (parts : Values) → IsTold (part_at n parts) → n < length (values_of parts)
part_more n NoMore h = absurd h
part_more zero (More v vs) h = omega arith
part_more (suc n) (More v vs) h = let lt = part_more n vs h in omega (arith, lt)

pub few_parts : (parts : Values) → count_of parts ≡ length (values_of parts)
few_parts NoMore = refl
few_parts (More v vs) = ap suc (few_parts vs)

pub part_past : (n : ℕ) (parts : Values) → part_at n parts ≡ None → length (values_of parts) ≤ n
part_past n NoMore e = omega arith
part_past zero (More v vs) e = absurd (cc)
part_past (suc n) (More v vs) e = let le = part_past n vs e in omega (arith, le)

in_closure : (s : Store) (r : Ref) (k : ℕ) (captured own vs : List Value) (n : ℕ) (result : Option Ref) → n < k → vs ≡ captured ++ own → Captures s (Some r) k captured → ((place : ℕ) → (parts : Values) → IsClosureAt s r place parts → IsPart s (part_at n parts) result) → IsVarAt s vs n result
in_closure s r k captured own vs n None lt is h part =
    let le = part_past n h.1 (part h.0 h.1 h.2) in
    absurd (omega (arith, le, lt, h.4, ap length h.3))
in_closure s r k captured own vs n (Some q) lt is h part =
    part_get s q n h.1 (part h.0 h.1 h.2) ∙ ap (λ l. Some (get_or l n (leaf Nil))) (sym h.3) ∙ ap Some (sym (ap (λ l. get_or l n (leaf Nil)) is ∙ get_front captured own n (leaf Nil) (omega (arith, lt, h.4))))

-- a variable that the closure of a row has captured
pub captured_there : (s : Store) (o : Option Ref) (k : ℕ) (row : Row) (vs : List Value) (n : ℕ) (r : Ref) (result : Option Ref) → o ≡ row.closure → o ≡ Some r → n < row.captured → RowAt s row vs → ((place : ℕ) → (parts : Values) → IsClosureAt s r place parts → IsPart s (part_at n parts) result) → IsVarAt s vs n result
captured_there s o k row vs n r result same is lt h part = in_closure s r row.captured h.captured h.own vs n result lt h.is (subst (λ x. Captures s x row.captured h.captured) (sym same ∙ is) h.closure) part

-- no variable is captured where there is no closure
pub none_captured : (s : Store) (row : Row) (vs : List Value) (n : ℕ) → None ≡ row.closure → n < row.captured → RowAt s row vs → ⊥
none_captured s row vs n is lt h = let none : Captures s None row.captured h.captured = subst (λ x. Captures s x row.captured h.captured) (sym is) h.closure in omega (arith, none.0, lt)

pub captured_length : (s : Store) (o : Option Ref) (n : ℕ) (vs : List Value) → Captures s o n vs → n ≡ length vs
captured_length s None n vs h = h.0 ∙ sym (ap length h.1)
captured_length s (Some r) n vs h = h.4

-- a variable of a row's own
pub own_there : (s : Store) (row : Row) (vs : List Value) (n : ℕ) → row.captured ≤ n → n - row.captured < row.count → RowAt s row vs → s.value (record { 0 = row.first + (n - row.captured) }) ≡ Some (value_of_var vs n)
own_there s row vs n le lt h =
    let count = captured_length s row.closure row.captured h.captured h.closure in
    let place : n ≡ length h.captured + (n - row.captured) = omega (arith, count, le) in
    let value : value_of_var vs n ≡ get_or h.own (n - row.captured) (leaf Nil) = ap (λ l. get_or l n (leaf Nil)) h.is ∙ ap (λ k. get_or (h.captured ++ h.own) k (leaf Nil)) place ∙ get_behind h.captured h.own (n - row.captured) (leaf Nil) in
    values_get s row.first (n - row.captured) h.own (leaf Nil) h.values (omega (arith, lt, h.count)) ∙ ap Some (sym value)

-- and a variable that isn't in it is the empty list
pub own_none : (s : Store) (row : Row) (vs : List Value) (n : ℕ) → row.captured ≤ n → row.count ≤ n - row.captured → RowAt s row vs → leaf Nil ≡ value_of_var vs n
own_none s row vs n le ge h =
    let count = captured_length s row.closure row.captured h.captured h.closure in
    let place : n ≡ length h.captured + (n - row.captured) = omega (arith, count, le) in
    sym (ap (λ l. get_or l n (leaf Nil)) h.is ∙ ap (λ k. get_or (h.captured ++ h.own) k (leaf Nil)) place ∙ get_behind h.captured h.own (n - row.captured) (leaf Nil) ∙ get_beyond (n - row.captured) h.own (leaf Nil) (omega (arith, ge, h.count)))

-- a row behind what a closure has captured
pub row_of_body : (s : Store) (own row : Row) (r : Ref) (place : ℕ) (parts : Values) (vs : List Value) → IsClosureAt s r place parts → own.closure ≡ None → row.captured ≡ length (values_of parts) → row.closure ≡ Some r → row.first ≡ own.first → row.count ≡ own.count → RowAt s own vs → RowAt s row (values_of parts ++ vs)
row_of_body s own row r place parts vs is none count closure first many h =
    let nothing : Captures s None own.captured h.captured = subst (λ o. Captures s o own.captured h.captured) none h.closure in
    let all : vs ≡ h.own = h.is ∙ ap (λ l. l ++ h.own) nothing.1 in
    record {
      captured = values_of parts;
      own = h.own;
      is = ap (λ l. values_of parts ++ l) all;
      closure = subst (λ o. Captures s o row.captured (values_of parts)) (sym closure) (place, parts, is, refl, count);
      values = subst (λ k. ValuesAt s k h.own) (sym first) h.values;
      count = h.count ∙ sym many;
    }

-- a row without a closure
pub plain_row : (s : Store) (row : Row) (vs : List Value) → row.closure ≡ None → row.captured ≡ 0 → ValuesAt s row.first vs → length vs ≡ row.count → RowAt s row vs
plain_row s row vs none zero_captured values count = record { captured = []; own = vs; is = refl; closure = subst (λ o. Captures s o row.captured []) (sym none) (zero_captured, refl); values = values; count = count }

-- ## Closures that are shown

pub closure_shown : (s : Store) (w : Value) (v : View) (place : ℕ) (r : Ref) → v ≡ view.Closure place r → Shows s w v → IsClosureOf s w (Some (place, r))
closure_shown s w v place r is h = let x : Shows s w (view.Closure place r) = subst (Shows s w) is h in (x.parts, x.is, x.at)

not_closure : (s : Store) (w : Value) (v : View) (place : ℕ) (parts : Values) → ((q : ℕ) (r : Ref) → v ≡ view.Closure q r → ⊥) → Shows s w v → w ≡ Node (Closure place) parts → ⊥
not_closure s w (view.Closure q r) place parts other h e = other q r refl
not_closure s w (view.Unbound r) place parts other h e = let is = h.is in cc
not_closure s w (view.Simple (simple.Num n)) place parts other h e = cc
not_closure s w (view.Simple (simple.Word n)) place parts other h e = cc
not_closure s w (view.Simple (simple.Object n)) place parts other h e = cc
not_closure s w (view.Simple simple.Nil) place parts other h e = cc
not_closure s w (view.Pair a b) place parts other h e = let is = h.is in cc
not_closure s w (view.Unknown r) place parts other h e = let is = h.is in cc

pub closure_not : (s : Store) (w : Value) (v : View) → ((q : ℕ) (r : Ref) → v ≡ view.Closure q r → ⊥) → Shows s w v → IsClosureOf s w None
closure_not s w v other h place parts e = not_closure s w v place parts other h e

-- ## Refs

pub refs_end : (s : Store) (rs : List Ref) (vs : List Value) (r : Ref) (v : Value) → RefsAt s rs vs → s.value r ≡ Some v → RefsAt s (rs ++ r ∷ []) (vs ++ v ∷ [])
refs_end s [] [] r v h e = (e, tt)
refs_end s (q ∷ rs) (w ∷ vs) r v h e = (h.0, refs_end s rs vs r v h.1 e)
refs_end s [] (w ∷ vs) r v h e = absurd h
refs_end s (q ∷ rs) [] r v h e = absurd h

pub refs_length : (s : Store) (rs : List Ref) (vs : List Value) → RefsAt s rs vs → length rs ≡ length vs
refs_length s [] [] h = refl
refs_length s (r ∷ rs) (v ∷ vs) h = ap suc (refs_length s rs vs h.1)
refs_length s [] (v ∷ vs) h = absurd h
refs_length s (r ∷ rs) [] h = absurd h

pub refs_get : (s : Store) (rs : List Ref) (vs : List Value) (n : ℕ) (d : Ref) (e : Value) → RefsAt s rs vs → n < length rs → s.value (get_or rs n d) ≡ Some (get_or vs n e)
refs_get s [] vs n d e h lt = absurd (omega (arith, lt))
refs_get s (r ∷ rs) [] n d e h lt = absurd h
refs_get s (r ∷ rs) (v ∷ vs) zero d e h lt = h.0
refs_get s (r ∷ rs) (v ∷ vs) (suc n) d e h lt = refs_get s rs vs n d e h.1 (omega (arith, lt))

-- ## Cells

-- a program of nothing
pub no_program : CoreProgram
no_program = record { preds = []; closures = []; places = []; objects = []; words = []; sites = 0; entry = 0 }
