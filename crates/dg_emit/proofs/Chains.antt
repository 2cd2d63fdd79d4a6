-- Leaves in parts of 32.
use Rattle.std.proofs.Common.{◌≡◌, ℕ, zero, suc, ◌+◌, ◌*◌, ◌-◌, ◌<◌, ◌≤◌, List, [], ◌∷◌, ◌++◌, length, take, drop, refl, sym, ap, ◌∙◌, arith, length-drop, append_assoc}
use Rattle.z_lang.specs.declared.act.Act.{Act}
use Rattle.z_lang.specs.declared.act.Routine.{Routine}
use Rattle.std.specs.Prelude.{Bool, true, false, if◌then◌else◌}
use Rattle.std.specs.Str.{chars}
use Rattle.dg_rt.specs.RunTime.{routine_of}
use Rattle.dg_turn.specs.Names.{is_long, name_acts, behind_name, name_leaves, long_routines, calling_acts, chain_routine, chain_routines, chains_of, calling_leaves, object_routine, objects_routines}

-- so many that are enough are as good as any
fuel_same : (v next a b end : ℕ) (leaves : List (List Act)) → length leaves ≤ a → length leaves ≤ b → chain_routines v next a end leaves ≡ chain_routines v next b end leaves
fuel_same v next zero zero end leaves le le' = refl
fuel_same v next zero (suc b) end [] le le' = refl
fuel_same v next zero (suc b) end (leaf ∷ leaves) le le' = absurd (omega (arith, le))
fuel_same v next (suc a) zero end [] le le' = refl
fuel_same v next (suc a) zero end (leaf ∷ leaves) le le' = absurd (omega (arith, le'))
fuel_same v next (suc a) (suc b) end [] le le' = refl
fuel_same v next (suc a) (suc b) end (leaf ∷ leaves) le le' =
    let long = length-drop 32 (leaf ∷ leaves) in
    ap (λ (rs : List Routine). chain_routine v 1 end (take 32 (leaf ∷ leaves)) ∷ rs) (fuel_same v next a b (end + next) (drop 32 (leaf ∷ leaves)) (omega arith) (omega arith))

-- the first routine, and the others
pub chains_next : (v next end : ℕ) (leaves : List (List Act)) → 1 ≤ length leaves → chain_routines v next (length leaves) end leaves ≡ chain_routine v 1 end (take 32 leaves) ∷ chain_routines v next (length (drop 32 leaves)) (end + next) (drop 32 leaves)
chains_next v next end [] some = absurd (omega (arith, some))
chains_next v next end (leaf ∷ leaves) some =
    let long = length-drop 32 (leaf ∷ leaves) in
    ap (λ (rs : List Routine). chain_routine v 1 end (take 32 (leaf ∷ leaves)) ∷ rs) (fuel_same v next (length leaves) (length (drop 32 (leaf ∷ leaves))) (end + next) (drop 32 (leaf ∷ leaves)) (omega arith) (omega arith))

-- one more call
pub calls_next : (before leaves : List (List Act)) (number n i : ℕ) → i < n → leaves ≡ before ++ calling_acts (number + i) ∷ [] → leaves ++ calling_leaves (number + (i + 1)) (n - (i + 1)) ≡ before ++ calling_leaves (number + i) (n - i)
calls_next before leaves number n i lt e =
    let k = n - (i + 1) in
    let more : n - i ≡ suc k = omega arith in
    let at : number + (i + 1) ≡ suc (number + i) = omega arith in
    ap (λ (l : List (List Act)). l ++ calling_leaves (number + (i + 1)) k) e
    ∙ append_assoc before (calling_acts (number + i) ∷ []) (calling_leaves (number + (i + 1)) k)
    ∙ ap (λ (j : ℕ). before ++ calling_acts (number + i) ∷ calling_leaves j k) at
    ∙ ap (λ (j : ℕ). before ++ calling_leaves (number + i) j) (sym more)

pub take_all : {A : Type 0} (k : ℕ) (xs : List A) → length xs ≤ k → xs ≡ take k xs
take_all zero [] le = refl
take_all zero (x ∷ xs) le = absurd (omega (arith, le))
take_all (suc k) [] le = refl
take_all {A} (suc k) (x ∷ xs) le = ap (λ (l : List A). x ∷ l) (take_all k xs (omega arith))

pub drop_all : {A : Type 0} (k : ℕ) (xs : List A) → length xs ≤ k → [] ≡ drop k xs
drop_all zero [] le = refl
drop_all zero (x ∷ xs) le = absurd (omega (arith, le))
drop_all (suc k) [] le = refl
drop_all (suc k) (x ∷ xs) le = drop_all k xs (omega arith)

pub taken_few : (k : ℕ) (leaves : List (List Act)) → length (take k leaves) ≤ k
taken_few zero leaves = omega arith
taken_few (suc k) [] = omega arith
taken_few (suc k) (leaf ∷ leaves) = let e = taken_few k leaves in omega arith

-- the routine of the first part is written
pub next_part : (all all' : List Routine) (v next end : ℕ) (left part others : List (List Act)) (r : Routine) → 1 ≤ length left → part ≡ take 32 left → others ≡ drop 32 left → r ≡ chain_routine v 1 end part → all' ≡ all ++ r ∷ [] →
    all' ++ chain_routines v next (length others) (end + next) others ≡ all ++ chain_routines v next (length left) end left
next_part all all' v next end left part others r some e1 e2 e3 e4 =
    let rest : List (List Act) → List Routine = λ (xs : List (List Act)). chain_routines v next (length xs) (end + next) xs in
    ap (λ (l : List Routine). l ++ rest others) e4
    ∙ append_assoc all (r ∷ []) (rest others)
    ∙ ap (λ (q : Routine). all ++ q ∷ rest others) e3
    ∙ ap (λ (xs : List (List Act)). all ++ chain_routine v 1 end xs ∷ rest others) e1
    ∙ ap (λ (xs : List (List Act)). all ++ chain_routine v 1 end (take 32 left) ∷ rest xs) e2
    ∙ ap (λ (l : List Routine). all ++ l) (sym (chains_next v next end left some))

-- the routines of long names begin with that of the first, if it is long
pub long_step : (name : List ℕ) (names : List (List ℕ)) → long_routines (name ∷ names) ≡ (if is_long (chars name) then routine_of 3 (name_acts (chars name)) ∷ [] else []) ++ long_routines names
long_step name names = by_long (is_long (chars name))
  where
    by_long : (t : Bool) → (if t then routine_of 3 (name_acts (chars name)) ∷ long_routines names else long_routines names) ≡ (if t then routine_of 3 (name_acts (chars name)) ∷ [] else []) ++ long_routines names
    by_long true = refl
    by_long false = refl

-- ## All of them

leaves_long : (number : ℕ) (names : List (List ℕ)) → length (name_leaves number names) ≡ length names
leaves_long number [] = refl
leaves_long number (name ∷ names) = ap suc (leaves_long (behind_name number (chars name)) names)

calls_long : (number n : ℕ) → length (calling_leaves number n) ≡ n
calls_long number zero = refl
calls_long number (suc n) = ap suc (calls_long (suc number) n)

pub parts_room : (xs : List (List Act)) (k upper chains n : ℕ) → xs ≡ calling_leaves k upper → upper ≡ chains_of chains → chains ≡ chains_of n → n ≤ 4096 → 32 + 32 * length xs ≤ 65535
parts_room xs k upper chains n e1 e2 e3 few = omega (arith, ap (λ (l : List (List Act)). length l) e1, calls_long k upper, e2, e3, few)

pub groups_few : (xs : List (List Act)) (k chains n : ℕ) → xs ≡ calling_leaves k chains → chains ≡ chains_of n → n ≤ 4096 → length xs ≤ 128
groups_few xs k chains n e1 e2 few = omega (arith, ap (λ (l : List (List Act)). length l) e1, calls_long k chains, e2, few)

-- what is written of so many chains
abbrev whole : ℕ → List (List ℕ) → (chains upper : ℕ) → List Routine
whole number names chains upper =
    object_routine (number + 1) ∷ chain_routine 1 32 32 (calling_leaves (number + 2 + chains) upper)
    ∷ (chain_routines 2 0 (length names) 1 (name_leaves (number + 2 + chains + upper) names) ++ (chain_routines 1 32 chains 1 (calling_leaves (number + 2) chains) ++ long_routines names))

abbrev written : (all more : List Routine) (r0 r1 : Routine) → (leaves groups : List (List Act)) → List Routine
written all more r0 r1 leaves groups = all ++ r0 ∷ r1 ∷ (chain_routines 2 0 (length leaves) 1 leaves ++ (chain_routines 1 32 (length groups) 1 groups ++ more))

in_a_row : (all a0 a1 a2 a3 more : List Routine) (leaves groups : List (List Act)) (r0 r1 : Routine) → a0 ≡ all ++ r0 ∷ [] → a1 ≡ a0 ++ r1 ∷ [] → a2 ≡ a1 ++ chain_routines 2 0 (length leaves) 1 leaves → a3 ≡ a2 ++ chain_routines 1 32 (length groups) 1 groups →
    a3 ++ more ≡ written all more r0 r1 leaves groups
in_a_row all a0 a1 a2 a3 more leaves groups r0 r1 e0 e1 e2 e3 =
    let ns = chain_routines 2 0 (length leaves) 1 leaves in
    let gs = chain_routines 1 32 (length groups) 1 groups in
    let x = (all ++ r0 ∷ []) ++ r1 ∷ [] in
    let f1 : a1 ≡ x = e1 ∙ ap (λ (l : List Routine). l ++ r1 ∷ []) e0 in
    let f2 : a2 ≡ x ++ ns = e2 ∙ ap (λ (l : List Routine). l ++ ns) f1 in
    let f3 : a3 ≡ (x ++ ns) ++ gs = e3 ∙ ap (λ (l : List Routine). l ++ gs) f2 in
    ap (λ (l : List Routine). l ++ more) f3
    ∙ append_assoc (x ++ ns) gs more
    ∙ append_assoc x ns (gs ++ more)
    ∙ append_assoc (all ++ r0 ∷ []) (r1 ∷ []) (ns ++ (gs ++ more))
    ∙ append_assoc all (r0 ∷ []) (r1 ∷ (ns ++ (gs ++ more)))

pub all_written : (all a0 a1 a2 a3 : List Routine) (number chains upper : ℕ) (names : List (List ℕ)) (leaves groups parts : List (List Act)) (r0 r1 : Routine) → chains ≡ chains_of (length names) → upper ≡ chains_of chains →
    leaves ≡ name_leaves (number + 2 + chains + upper) names → groups ≡ calling_leaves (number + 2) chains → parts ≡ calling_leaves (number + 2 + chains) upper → r0 ≡ object_routine (number + 1) → r1 ≡ chain_routine 1 32 32 parts →
    a0 ≡ all ++ r0 ∷ [] → a1 ≡ a0 ++ r1 ∷ [] → a2 ≡ a1 ++ chain_routines 2 0 (length leaves) 1 leaves → a3 ≡ a2 ++ chain_routines 1 32 (length groups) 1 groups →
    a3 ++ long_routines names ≡ all ++ objects_routines number names
all_written all a0 a1 a2 a3 number chains upper names leaves groups parts r0 r1 e1 e2 e3 e4 e5 e6 e7 e8 e9 e10 e11 =
    let more = long_routines names in
    let key = number + 2 + chains + upper in
    let ls = name_leaves key names in
    let gs = calling_leaves (number + 2) chains in
    let find = chain_routine 1 32 32 (calling_leaves (number + 2 + chains) upper) in
    let print = object_routine (number + 1) in
    let e7' : r1 ≡ find = e7 ∙ ap (λ (xs : List (List Act)). chain_routine 1 32 32 xs) e5 in
    in_a_row all a0 a1 a2 a3 more leaves groups r0 r1 e8 e9 e10 e11
    ∙ ap (λ (r : Routine). written all more r r1 leaves groups) e6
    ∙ ap (λ (r : Routine). written all more print r leaves groups) e7'
    ∙ ap (λ (xs : List (List Act)). written all more print find xs groups) e3
    ∙ ap (λ (xs : List (List Act)). written all more print find ls xs) e4
    ∙ ap (λ (k : ℕ). all ++ print ∷ find ∷ (chain_routines 2 0 k 1 ls ++ (chain_routines 1 32 (length gs) 1 gs ++ more))) (leaves_long key names)
    ∙ ap (λ (k : ℕ). all ++ print ∷ find ∷ (chain_routines 2 0 (length names) 1 ls ++ (chain_routines 1 32 k 1 gs ++ more))) (calls_long (number + 2) chains)
    ∙ ap (λ (u : ℕ). all ++ whole number names chains u) e2
    ∙ ap (λ (c : ℕ). all ++ whole number names c (chains_of c)) e1
