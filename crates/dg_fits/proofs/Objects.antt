-- The routines of the names of objects: how much room they take, and that they can be assembled.
use Rattle.std.specs.Prelude.{nat_lt, take, map, All, if◌then◌else◌}
use Rattle.std.specs.Str.{chars}
use Rattle.std.proofs.Common.{◌≡◌, ◌≢◌, ℕ, zero, suc, ◌+◌, ◌*◌, ◌<◌, ◌≤◌, List, [], ◌∷◌, ◌++◌, length, drop, Option, Some, None, Bool, true, false, refl, ap, arith, length-drop, length-append}
use Rattle.std.proofs.lemmas.Bool.{lt-ltb, ltb-true}
use Rattle.std.proofs.lemmas.List.Elements.{All-head, All-tail}
use Rattle.dg_base.specs.Sound.{IsName}
use Rattle.dg_meaning.specs.Render.{opens, last_of}
use Rattle.z_lang.specs.declared.act.Act.{Act}
use Rattle.z_lang.specs.declared.act.Act.TheVariants as acts
use Rattle.z_lang.specs.declared.act.Atom.TheVariants as atoms
use Rattle.z_lang.specs.declared.act.Routine.{Routine}
use Rattle.z_lang.specs.Sizes.{body_bytes}
use Rattle.dg_rt.specs.Gaps.{last_word}
use Rattle.dg_rt.specs.RunTime.{routine_of}
use Rattle.dg_turn.specs.Texts.{say}
use Rattle.dg_turn.specs.Names.{name_end, name_acts, calling_acts, is_long, behind_name, name_leaves, long_routines, chain_acts, chain_routines, chains_of, calling_leaves, objects_routines}
use Rattle.dg_emit.proofs.Names.{name_chars}
use Rattle.dg_fits.specs.Sizes.{names_size}
use Rattle.dg_fits.specs.inside.Bytes.{room, rooms}
use Rattle.dg_fits.proofs.Names.{chars_few}
use Rattle.dg_fits.proofs.Rooms.{rooms_append}
use Rattle.dg_fits.proofs.Terms.{bytes_append, num_bytes}

-- ## Bytes

abbrev pub leaves_bytes : List (List Act) → ℕ
leaves_bytes [] = 0
leaves_bytes (leaf ∷ leaves) = body_bytes leaf + leaves_bytes leaves

leaves_parted : (k : ℕ) (leaves : List (List Act)) → leaves_bytes (take k leaves) + leaves_bytes (drop k leaves) ≡ leaves_bytes leaves
leaves_parted zero leaves = omega arith
leaves_parted (suc k) [] = refl
leaves_parted (suc k) (leaf ∷ leaves) = let e = leaves_parted k leaves in omega arith

long_parted : (k : ℕ) (leaves : List (List Act)) → length (take k leaves) + length (drop k leaves) ≡ length leaves
long_parted zero leaves = omega arith
long_parted (suc k) [] = refl
long_parted (suc k) (leaf ∷ leaves) = let e = long_parted k leaves in omega arith

taken_few : (k : ℕ) (leaves : List (List Act)) → length (take k leaves) ≤ k
taken_few zero leaves = omega arith
taken_few (suc k) [] = omega arith
taken_few (suc k) (leaf ∷ leaves) = let e = taken_few k leaves in omega arith

says_few : (cs : List ℕ) → body_bytes (map say cs) ≤ 5 * length cs
says_few [] = omega arith
says_few (c ∷ cs) = omega (arith, num_bytes (nat_lt c 256), says_few cs)

pub end_small : (last : Option ℕ) → last_word last < 256
end_small None = omega arith
end_small (Some c) = by_opening (opens c)
  where
    by_opening : (b : Bool) → (if b then 1 else 2) < 256
    by_opening true = omega arith
    by_opening false = omega arith

pub name_bytes : (cs : List ℕ) → body_bytes (name_acts cs) ≤ 5 * length cs + 2
name_bytes cs =
    let one : body_bytes (acts.Return (atoms.Num (name_end cs)) ∷ []) ≡ 2 = rw (lt-ltb (name_end cs) 256 (end_small (last_of (Some 35) cs))) refl in
    omega (arith, bytes_append (map say cs) (acts.Return (atoms.Num (name_end cs)) ∷ []), says_few cs, one)

-- ## Chains

-- a chain of leaves that end in front of small numbers, and one of any
small_chain : (v end label : ℕ) (leaves : List (List Act)) → end + length leaves ≤ 256 → body_bytes (chain_acts v 1 end label leaves) ≤ 6 * length leaves + leaves_bytes leaves + 2
small_chain v end label [] low = omega arith
small_chain v end label (leaf ∷ leaves) low =
    let tail = acts.Label label ∷ chain_acts v 1 (end + 1) (suc label) leaves in
    let one : ◌≡◌ {A = ℕ} (if nat_lt end 256 then 1 else 2) 1 = rw (lt-ltb end 256 (omega arith)) refl in
    omega (arith, bytes_append leaf tail, one, small_chain v (end + 1) (suc label) leaves (omega arith))

pub any_chain : (v step end label : ℕ) (leaves : List (List Act)) → body_bytes (chain_acts v step end label leaves) ≤ 7 * length leaves + leaves_bytes leaves + 2
any_chain v step end label [] = omega arith
any_chain v step end label (leaf ∷ leaves) =
    let tail = acts.Label label ∷ chain_acts v step (end + step) (suc label) leaves in
    omega (arith, bytes_append leaf tail, num_bytes (nat_lt end 256), any_chain v step (end + step) (suc label) leaves)

pub one_chain : (leaf : List Act) (leaves : List (List Act)) → chains_of (length (leaf ∷ leaves)) ≡ suc (chains_of (length (drop 32 (leaf ∷ leaves))))
one_chain leaf leaves = let e = length-drop 32 (leaf ∷ leaves) in omega arith

names_room : (most : ℕ) (leaves : List (List Act)) → rooms (chain_routines 2 0 most 1 leaves) ≤ 6 * length leaves + leaves_bytes leaves + 10 * chains_of (length leaves)
names_room zero leaves = omega arith
names_room (suc most) [] = omega arith
names_room (suc most) (leaf ∷ leaves) =
    let here = leaf ∷ leaves in
    let part = take 32 here in
    let few = taken_few 32 here in
    omega (arith, small_chain 2 1 0 part (omega arith), names_room most (drop 32 here), leaves_parted 32 here, long_parted 32 here, one_chain leaf leaves)

groups_room : (most end : ℕ) (leaves : List (List Act)) → rooms (chain_routines 1 32 most end leaves) ≤ 7 * length leaves + leaves_bytes leaves + 10 * chains_of (length leaves)
groups_room zero end leaves = omega arith
groups_room (suc most) end [] = omega arith
groups_room (suc most) end (leaf ∷ leaves) =
    let here = leaf ∷ leaves in
    omega (arith, any_chain 1 1 end 0 (take 32 here), groups_room most (end + 32) (drop 32 here), leaves_parted 32 here, long_parted 32 here, one_chain leaf leaves)

pub calls_bytes : (number n : ℕ) → leaves_bytes (calling_leaves number n) ≡ 9 * n
calls_bytes number zero = omega arith
calls_bytes number (suc n) = let e = calls_bytes (suc number) n in omega arith

pub calls_long : (number n : ℕ) → length (calling_leaves number n) ≡ n
calls_long number zero = refl
calls_long number (suc n) = ap suc (calls_long (suc number) n)

pub leaves_long : (number : ℕ) (names : List (List ℕ)) → length (name_leaves number names) ≡ length names
leaves_long number [] = refl
leaves_long number (name ∷ names) = ap suc (leaves_long (behind_name number (chars name)) names)

-- ## Names

some_chars : (name : List ℕ) (h : IsName name) → 1 ≤ length (chars name)
some_chars name h = let same = ap length (name_chars name h) in omega (arith, some h.characters h.some)
  where
    some : (cs : List ℕ) → cs ≢ [] → 1 ≤ length cs
    some [] ne = absurd (ne refl)
    some (c ∷ cs) ne = omega arith

-- what a name takes, with its own routine if it is long
own_room : List ℕ → Bool → ℕ
own_room cs true = room (routine_of 3 (name_acts cs))
own_room cs false = 0

name_room : (number : ℕ) (cs : List ℕ) (t : Bool) → is_long cs ≡ t → 1 ≤ length cs → 25 * (6 + body_bytes (if t then calling_acts number else name_acts cs) + own_room cs t) ≤ 138 * length cs + 187
unfolding own_room
name_room number cs true e some = let long = ltb-true 40 (length cs) e in omega (arith, name_bytes cs)
name_room number cs false e some = omega (arith, name_bytes cs)

long_rooms : (cs : List ℕ) (t : Bool) (rest : List Routine) → rooms (if t then routine_of 3 (name_acts cs) ∷ rest else rest) ≡ own_room cs t + rooms rest
unfolding own_room
long_rooms cs true rest = refl
long_rooms cs false rest = omega arith

all_names : (number : ℕ) (names : List (List ℕ)) → All IsName names → 25 * (6 * length names + leaves_bytes (name_leaves number names) + rooms (long_routines names)) ≤ 23 * names_size names + 187 * length names
all_names number [] all = omega arith
all_names number (name ∷ names) all =
    let cs = chars name in
    let h = All-head IsName name names all in
    omega (
      arith,
      name_room number cs (is_long cs) refl (some_chars name h),
      chars_few name h,
      long_rooms cs (is_long cs) (long_routines names),
      all_names (behind_name number cs) names (All-tail IsName name names all),
    )

-- The routines of names take 5.52 bytes a character, 7.48 an object, and 26 for 32 of them.
pub objects_room : (number : ℕ) (objects : List (List ℕ)) → All IsName objects → length objects ≤ 4096 →
    25 * rooms (objects_routines number objects) ≤ 23 * names_size objects + 187 * length objects + 650 * chains_of (length objects) + 10000
objects_room number objects all few =
    let n = length objects in
    let chains = chains_of n in
    let upper = chains_of chains in
    let first = number + 2 in
    let leaves = name_leaves (first + chains + upper) objects in
    let groups = calling_leaves first chains in
    let parts = calling_leaves (first + chains) upper in
    let lower = chain_routines 2 0 n 1 leaves in
    let middle = chain_routines 1 32 chains 1 groups in
    omega (
      arith,
      rooms_append lower (middle ++ long_routines objects),
      rooms_append middle (long_routines objects),
      names_room n leaves,
      leaves_long (first + chains + upper) objects,
      groups_room chains 1 groups,
      calls_bytes first chains,
      calls_long first chains,
      any_chain 1 32 32 0 parts,
      calls_bytes (first + chains) upper,
      calls_long (first + chains) upper,
      all_names (first + chains + upper) objects all,
    )

-- ## How many there are

chains_long : (v next most end : ℕ) (leaves : List (List Act)) → length leaves ≤ most → length (chain_routines v next most end leaves) ≡ chains_of (length leaves)
chains_long v next zero end [] le = refl
chains_long v next zero end (leaf ∷ leaves) le = absurd (omega (arith, le))
chains_long v next (suc most) end [] le = refl
chains_long v next (suc most) end (leaf ∷ leaves) le =
    let drops = length-drop 32 (leaf ∷ leaves) in
    let e = chains_long v next most (end + next) (drop 32 (leaf ∷ leaves)) (omega arith) in
    omega (arith, one_chain leaf leaves)

long_many : (number : ℕ) (names : List (List ℕ)) → length (long_routines names) ≤ length names
long_many number [] = omega arith
long_many number (name ∷ names) = by_long (is_long (chars name)) (long_many number names)
  where
    by_long : (t : Bool) → length (long_routines names) ≤ length names → length (if t then routine_of 3 (name_acts (chars name)) ∷ long_routines names else long_routines names) ≤ suc (length names)
    by_long true le = omega arith
    by_long false le = omega arith

pub objects_count : (number : ℕ) (objects : List (List ℕ)) →
    length (objects_routines number objects) ≡ 2 + chains_of (length objects) + chains_of (chains_of (length objects)) + length (long_routines objects)
objects_count number objects =
    let n = length objects in
    let chains = chains_of n in
    let upper = chains_of chains in
    let first = number + 2 in
    let leaves = name_leaves (first + chains + upper) objects in
    let groups = calling_leaves first chains in
    let l = leaves_long (first + chains + upper) objects in
    let g = calls_long first chains in
    let lower = chain_routines 2 0 n 1 leaves in
    let middle = chain_routines 1 32 chains 1 groups in
    let a = chains_long 2 0 n 1 leaves (omega arith) in
    let b = chains_long 1 32 chains 1 groups (omega arith) in
    omega (arith, length-append lower (middle ++ long_routines objects), length-append middle (long_routines objects), ap chains_of l, ap chains_of g)

pub objects_many : (number : ℕ) (objects : List (List ℕ)) → length objects ≤ 4096 → length (objects_routines number objects) ≤ 4230
objects_many number objects few = omega (arith, objects_count number objects, long_many number objects)
