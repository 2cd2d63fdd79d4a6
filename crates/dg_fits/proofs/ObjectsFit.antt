-- The routines of the names of objects can be assembled.
use Rattle.std.specs.Prelude.{take, map, All, if◌then◌else◌}
use Rattle.std.specs.Str.{chars}
use Rattle.std.proofs.Common.{◌≡◌, ℕ, zero, suc, ◌+◌, ◌*◌, ◌<◌, ◌≤◌, inl, inr, List, [], ◌∷◌, ◌++◌, length, drop, Some, Bool, true, false, refl, sym, subst, arith, length-drop}
use Rattle.std.proofs.lemmas.Bool.{ltb-false}
use Rattle.std.proofs.lemmas.List.Elements.{All-head, All-tail}
use Rattle.dg_base.specs.Sound.{IsName, IsPrintable}
use Rattle.dg_meaning.specs.Render.{last_of}
use Rattle.z_code.specs.declared.target.LOp.{LOp}
use Rattle.z_code.specs.Open.{Counts, HasLabel}
use Rattle.z_lang.specs.declared.act.Act.{Act}
use Rattle.z_lang.specs.declared.act.Act.TheVariants as acts
use Rattle.z_lang.specs.declared.act.Atom.TheVariants as atoms
use Rattle.z_lang.specs.Bodies.{FitsAct, AreFit}
use Rattle.z_lang.specs.Code.{ops_of_acts}
use Rattle.z_lang.specs.Sizes.{body_bytes}
use Rattle.dg_rt.specs.Fits.{IsFit, AllFit}
use Rattle.dg_rt.specs.RunTime.{runtime, routine_of}
use Rattle.dg_rt.proofs.Straight.{FitsStraight, AreStraight, straight_append, straight_fits}
use Rattle.dg_turn.specs.Texts.{say}
use Rattle.dg_turn.specs.Names.{name_end, name_acts, calling_acts, is_long, behind_name, name_leaves, long_routines, chain_acts, chain_routine, chain_routines, chains_of, calling_leaves, object_routine, objects_routines}
use Rattle.dg_emit.proofs.Names.{name_chars}
use Rattle.dg_fits.proofs.Fits.{fits_append}
use Rattle.dg_fits.proofs.Objects.{leaves_bytes, any_chain, name_bytes, end_small, leaves_long, calls_long, calls_bytes, objects_count}

module _ (c : Counts) where
  -- acts that fit wherever they stand
  fits_anywhere : (all behind : List LOp) (act : Act) → FitsStraight c act → FitsAct c all behind act
  fits_anywhere all behind (acts.Label l) f = absurd f
  fits_anywhere all behind (acts.Goto l) f = absurd f
  fits_anywhere all behind (acts.When t l) f = absurd (f.1)
  fits_anywhere all behind act f = f

  -- they have no labels
  labels_behind : (leaf more : List Act) (l : ℕ) → AreStraight c leaf → HasLabel l (ops_of_acts more) → HasLabel l (ops_of_acts (leaf ++ more))
  labels_behind [] more l s h = h
  labels_behind (acts.Label k ∷ leaf) more l s h = absurd s.0
  labels_behind (act ∷ leaf) more l s h = labels_behind leaf more l s.1 h

  labels_of : (leaf more : List Act) (l : ℕ) → AreStraight c leaf → HasLabel l (ops_of_acts (leaf ++ more)) → HasLabel l (ops_of_acts more)
  labels_of [] more l s h = h
  labels_of (acts.Label k ∷ leaf) more l s h = absurd s.0
  labels_of (act ∷ leaf) more l s h = labels_of leaf more l s.1 h

  leaf_then : (all : List LOp) (leaf more : List Act) → AreStraight c leaf → AreFit c all more → AreFit c all (leaf ++ more)
  leaf_then all [] more s f = f
  leaf_then all (act ∷ leaf) more s f = (fits_anywhere all (ops_of_acts (leaf ++ more)) act s.0, leaf_then all leaf more s.1 f)

  AllStraight : List (List Act) → Type 0
  AllStraight [] = Unit {0}
  AllStraight (leaf ∷ leaves) = AreStraight c leaf × AllStraight leaves

  straight_take : (k : ℕ) (leaves : List (List Act)) → AllStraight leaves → AllStraight (take k leaves)
  unfolding AllStraight
  straight_take zero leaves s = tt
  straight_take (suc k) [] s = tt
  straight_take (suc k) (leaf ∷ leaves) s = (s.0, straight_take k leaves s.1)

  straight_drop : (k : ℕ) (leaves : List (List Act)) → AllStraight leaves → AllStraight (drop k leaves)
  unfolding AllStraight
  straight_drop zero leaves s = s
  straight_drop (suc k) [] s = s
  straight_drop (suc k) (leaf ∷ leaves) s = straight_drop k leaves s.1

  -- labels of a chain are from one on
  above : (v step end label : ℕ) (leaves : List (List Act)) (l : ℕ) → AllStraight leaves → HasLabel l (ops_of_acts (chain_acts v step end label leaves)) → label ≤ l
  unfolding AllStraight
  above v step end label [] l s h = absurd h
  above v step end label (leaf ∷ leaves) l s h =
      elim (labels_of leaf (acts.Label label ∷ chain_acts v step (end + step) (suc label) leaves) l s.0 h) [
        | inl e ↦ omega (arith, e)
        | inr k ↦ (let le = above v step (end + step) (suc label) leaves l s.1 k in omega arith)
      ]

  chain_fit : (v step end label : ℕ) (leaves : List (List Act)) (all : List LOp) → v < 256 → step ≤ 32 → end + 32 * length leaves < 65536 → AllStraight leaves →
      ((l : ℕ) → HasLabel l (ops_of_acts (chain_acts v step end label leaves)) → HasLabel l all) → AreFit c all (chain_acts v step end label leaves)
  unfolding AllStraight
  chain_fit v step end label [] all lt few low s labels = (omega arith, tt)
  chain_fit v step end label (leaf ∷ leaves) all lt few low s labels =
      let tail = chain_acts v step (end + step) (suc label) leaves in
      let rest = acts.Label label ∷ tail in (
        ((lt, omega arith, tt), labels label (labels_behind leaf rest label s.0 (inl refl))),
        leaf_then all leaf rest s.0 (
          (λ h. (let le = above v step (end + step) (suc label) leaves label s.1 h in omega arith)),
          chain_fit v step (end + step) (suc label) leaves all lt few (omega arith) s.1 (λ l h. labels l (labels_behind leaf rest l s.0 (inr h))),
        ),
      )

  chain_fits : (v step end : ℕ) (leaves : List (List Act)) → v < 256 → step ≤ 32 → end + 32 * length leaves < 65536 → AllStraight leaves → 7 * length leaves + leaves_bytes leaves < 7990 → IsFit c (chain_routine v step end leaves)
  chain_fits v step end leaves lt few low s short = record {
    few = omega arith;
    short = λ l h. let b = any_chain v step end 0 leaves in omega arith;
    fit = chain_fit v step end 0 leaves (ops_of_acts (chain_acts v step end 0 leaves)) lt few low s (λ l h. h);
  }

  -- ## Leaves

  calls_straight : (number : ℕ) → number < c.routines → AreStraight c (calling_acts number)
  calls_straight number lt = ((omega arith, lt, (omega arith, omega arith)), (omega arith, tt))

  says_straight : (cs : List ℕ) → All IsPrintable cs → AreStraight c (map say cs)
  says_straight [] all = tt
  says_straight (x ∷ xs) all = let to = (All-head IsPrintable x xs all).to in (omega (arith, to), says_straight xs (All-tail IsPrintable x xs all))

  name_straight : (cs : List ℕ) → All IsPrintable cs → AreStraight c (name_acts cs)
  name_straight cs all = let lt = end_small (last_of (Some 35) cs) in straight_append c (map say cs) (acts.Return (atoms.Num (name_end cs)) ∷ []) (says_straight cs all) (omega arith, tt)

  printable : (name : List ℕ) → IsName name → All IsPrintable (chars name)
  printable name h = subst (All IsPrintable) (sym (name_chars name h)) h.printable

  -- leaves of few bytes each
  AllShort : List (List Act) → Type 0
  AllShort [] = Unit {0}
  AllShort (leaf ∷ leaves) = (body_bytes leaf ≤ 202) × AllShort leaves

  short_drop : (k : ℕ) (leaves : List (List Act)) → AllShort leaves → AllShort (drop k leaves)
  unfolding AllShort
  short_drop zero leaves s = s
  short_drop (suc k) [] s = s
  short_drop (suc k) (leaf ∷ leaves) s = short_drop k leaves s.1

  part_short : (k : ℕ) (leaves : List (List Act)) → AllShort leaves → 7 * length (take k leaves) + leaves_bytes (take k leaves) ≤ 209 * k
  unfolding AllShort
  part_short zero leaves s = omega arith
  part_short (suc k) [] s = omega arith
  part_short (suc k) (leaf ∷ leaves) s = let le = part_short k leaves s.1 in let here = s.0 in omega arith

  taken_few : (k : ℕ) (leaves : List (List Act)) → length (take k leaves) ≤ k
  taken_few zero leaves = omega arith
  taken_few (suc k) [] = omega arith
  taken_few (suc k) (leaf ∷ leaves) = let e = taken_few k leaves in omega arith

  chains_fit : (v next most end : ℕ) (leaves : List (List Act)) → v < 256 → next ≤ 32 → length leaves ≤ most → (next ≡ 0) × (end ≤ 4097) → AllStraight leaves → AllShort leaves → AllFit c (chain_routines v next most end leaves)
  chains_fit v next zero end leaves lt few le low s short = tt
  chains_fit v next (suc most) end [] lt few le low s short = tt
  chains_fit v next (suc most) end (leaf ∷ leaves) lt few le low s short =
      let here = leaf ∷ leaves in
      let bytes = part_short 32 here short in
      let taken = taken_few 32 here in
      let drops = length-drop 32 here in
      let z = low.0 in
      let e = low.1 in (
        chain_fits v 1 end (take 32 here) lt (omega arith) (omega arith) (straight_take 32 here s) (omega arith),
        chains_fit v next most (end + next) (drop 32 here) lt few (omega arith) (z, omega arith) (straight_drop 32 here s) (short_drop 32 here short),
      )

  groups_fit : (most end : ℕ) (leaves : List (List Act)) → length leaves ≤ most → end + 32 * length leaves ≤ 4097 → AllStraight leaves → AllShort leaves → AllFit c (chain_routines 1 32 most end leaves)
  groups_fit zero end leaves le low s short = tt
  groups_fit (suc most) end [] le low s short = tt
  groups_fit (suc most) end (leaf ∷ leaves) le low s short =
      let here = leaf ∷ leaves in
      let bytes = part_short 32 here short in
      let taken = taken_few 32 here in
      let drops = length-drop 32 here in (
        chain_fits 1 1 end (take 32 here) (omega arith) (omega arith) (omega arith) (straight_take 32 here s) (omega arith),
        groups_fit most (end + 32) (drop 32 here) (omega arith) (omega arith) (straight_drop 32 here s) (short_drop 32 here short),
      )

  all_calls : (number n : ℕ) → number + n ≤ c.routines → AllStraight (calling_leaves number n)
  unfolding AllStraight
  all_calls number zero le = tt
  all_calls number (suc n) le = (calls_straight number (omega arith), all_calls (suc number) n (omega arith))

  short_calls : (number n : ℕ) → AllShort (calling_leaves number n)
  unfolding AllShort
  short_calls number zero = tt
  short_calls number (suc n) = (omega arith, short_calls (suc number) n)

  -- ## Names

  leaf_short : (number : ℕ) (cs : List ℕ) (t : Bool) → is_long cs ≡ t → body_bytes (if t then calling_acts number else name_acts cs) ≤ 202
  leaf_short number cs true e = omega arith
  leaf_short number cs false e = let few = ltb-false 40 (length cs) e in let b = name_bytes cs in omega arith

  all_names : (number : ℕ) (names : List (List ℕ)) → number + length (long_routines names) ≤ c.routines → All IsName names → AllStraight (name_leaves number names)
  unfolding AllStraight
  all_names number [] le all = tt
  all_names number (name ∷ names) le all =
      by_long (is_long (chars name)) le (λ m h. all_names m names h (All-tail IsName name names all))
    where
      by_long : (t : Bool) → number + length (if t then routine_of 3 (name_acts (chars name)) ∷ long_routines names else long_routines names) ≤ c.routines →
          ((m : ℕ) → m + length (long_routines names) ≤ c.routines → AllStraight (name_leaves m names)) →
          AreStraight c (if t then calling_acts number else name_acts (chars name)) × AllStraight (name_leaves (if t then suc number else number) names)
      by_long true h rest = (calls_straight number (omega arith), rest (suc number) (omega arith))
      by_long false h rest = (name_straight (chars name) (printable name (All-head IsName name names all)), rest number h)

  short_names : (number : ℕ) (names : List (List ℕ)) → AllShort (name_leaves number names)
  unfolding AllShort
  short_names number [] = tt
  short_names number (name ∷ names) = let cs = chars name in (leaf_short number cs (is_long cs) refl, short_names (behind_name number cs) names)

  long_fit : (names : List (List ℕ)) → All IsName names → AllFit c (long_routines names)
  long_fit [] all = tt
  long_fit (name ∷ names) all = by_long (is_long (chars name)) (long_fit names (All-tail IsName name names all))
    where
      by_long : (t : Bool) → AllFit c (long_routines names) → AllFit c (if t then routine_of 3 (name_acts (chars name)) ∷ long_routines names else long_routines names)
      by_long true f = (straight_fits c (routine_of 3 (name_acts (chars name))) (omega arith) (name_straight (chars name) (printable name (All-head IsName name names all))), f)
      by_long false f = f

  object_fits : (find : ℕ) → 1 + length runtime ≤ c.routines → find < c.routines → IsFit c (object_routine find)
  object_fits find many lt = straight_fits c (object_routine find) (omega arith) (
    (tt, omega arith, omega arith),
    ((tt, omega arith, omega arith), ((omega arith, omega arith), ((omega arith, omega arith, omega arith), ((omega arith, omega arith, omega arith), ((omega arith, lt, (omega arith, omega arith)), ((omega arith, omega arith), (omega arith, tt))))))),
  )

  -- All of them can.
  pub objects_fit : (number : ℕ) (objects : List (List ℕ)) → 1 + length runtime ≤ c.routines → number + length (objects_routines number objects) ≤ c.routines → All IsName objects → length objects ≤ 4096 → AllFit c (objects_routines number objects)
  objects_fit number objects many le all few =
      let n = length objects in
      let chains = chains_of n in
      let upper = chains_of chains in
      let first = number + 2 in
      let long = first + chains + upper in
      let leaves = name_leaves long objects in
      let groups = calling_leaves first chains in
      let parts = calling_leaves (first + chains) upper in
      let l = leaves_long long objects in
      let g = calls_long first chains in
      let p = calls_long (first + chains) upper in
      let many_are = objects_count number objects in (
        object_fits (number + 1) many (omega arith),
        (
          chain_fits 1 32 32 parts (omega arith) (omega arith) (omega arith) (all_calls (first + chains) upper (omega arith)) (let b = calls_bytes (first + chains) upper in omega arith),
          fits_append c (chain_routines 2 0 n 1 leaves) (chain_routines 1 32 chains 1 groups ++ long_routines objects)
              (chains_fit 2 0 n 1 leaves (omega arith) (omega arith) (omega arith) (refl, omega arith) (all_names long objects (omega arith) all) (short_names long objects))
              (fits_append c (chain_routines 1 32 chains 1 groups) (long_routines objects) (groups_fit chains 1 groups (omega arith) (omega arith) (all_calls first chains (omega arith)) (short_calls first chains)) (long_fit objects all)),
        ),
      )
