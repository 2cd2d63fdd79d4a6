-- How many bytes the acts take that write terms.
use Rattle.std.specs.Prelude.{nat_lt, if◌then◌else◌}
use Rattle.std.proofs.Common.{◌≡◌, ℕ, zero, suc, ◌+◌, ◌*◌, ◌≤◌, List, [], ◌∷◌, ◌++◌, length, drop, Option, Some, None, Bool, true, false, refl, ap, arith, length-append}
use Rattle.std.specs.List.{slice_get}
use Rattle.dg_base.specs.declared.program.ClosureBody.{ClosureBody}
use Rattle.dg_base.specs.declared.program.CoreProgram.{CoreProgram}
use Rattle.dg_base.specs.declared.program.Term.{Term, out-Term}
use Rattle.dg_base.specs.declared.program.Term.TheOpen as term
use Rattle.dg_base.specs.Terms.{nodes}
use Rattle.dg_meaning.specs.Cells.{nodes_of, node_cells, cells, captured_count}
use Rattle.z_lang.specs.declared.act.Act.{Act}
use Rattle.z_lang.specs.declared.act.Atom.{Atom}
use Rattle.z_lang.specs.Sizes.{atom_bytes, act_bytes, body_bytes}
use Rattle.dg_turn.specs.Terms.{header_at, word_act, words_acts, cell_act, two_numbers, captured_of, capture_acts, captures_for, closure_acts, node_acts, nodes_acts, capped, charge_acts, laying_acts, terms_acts}
use Rattle.dg_emit.proofs.Left.{nodes_next}
use Rattle.dg_mid.specs.Weights.{nodes_weight, terms_weight}
use Rattle.dg_fits.specs.Once.{in_node, in_nodes, in_terms}
use Rattle.dg_fits.specs.Sizes.{terms_size}
use Rattle.dg_fits.specs.inside.Bytes.{node_bytes, bytes}

pub bytes_append : (xs ys : List Act) → body_bytes (xs ++ ys) ≡ body_bytes xs + body_bytes ys
bytes_append [] ys = omega arith
bytes_append (x ∷ xs) ys = omega (arith, bytes_append xs ys)

pub num_bytes : (b : Bool) → (if b then 1 else 2) ≤ 2
num_bytes true = omega arith
num_bytes false = omega arith

-- ## Words

word_few : (v o : ℕ) (x : term.Term-F Term) → act_bytes (word_act v o x) ≤ 7
word_few v o (term.Num n) = omega (arith, num_bytes (nat_lt n 256))
word_few v o (term.Word n) = omega (arith, num_bytes (nat_lt (16384 + n) 256))
word_few v o (term.Object n) = omega (arith, num_bytes (nat_lt (24576 + n) 256))
word_few v o term.Nil = omega arith
word_few v o (term.Var n) = omega (arith, num_bytes (nat_lt n 256))
word_few v o (term.Pair head tail) = omega (arith, num_bytes (nat_lt o 256))
word_few v o (term.Closure c) = omega (arith, num_bytes (nat_lt o 256))

words_few : (p : CoreProgram) (v o : ℕ) (ts : List Term) → body_bytes (words_acts p v o ts) ≤ 7 * length ts
words_few p v o [] = omega arith
words_few p v o (t ∷ ts) = omega (arith, word_few v o (out-Term t), words_few p (suc v) (o + cells p (t ∷ [])) ts)

-- ## Nodes

cell_few : (o : ℕ) (x : Atom) → act_bytes (cell_act o x) ≤ 5 + atom_bytes x
cell_few o x = omega (arith, num_bytes (nat_lt (header_at + 2 * o) 256))

captures_few : (n : ℕ) (vs : List ℕ) → body_bytes (capture_acts n vs) ≤ 10 * n
captures_few zero vs = omega arith
captures_few (suc n) vs =
    omega (
      arith,
      num_bytes (nat_lt (two_numbers vs 0) 256),
      num_bytes (nat_lt (two_numbers vs 2) 256),
      num_bytes (nat_lt (two_numbers vs 4) 256),
      captures_few n (drop 6 vs),
    )

-- what the acts of some nodes take
abbrev pub all_bytes : CoreProgram → List Term → ℕ
all_bytes p [] = 0
all_bytes p (x ∷ xs) = node_bytes p (out-Term x) + all_bytes p xs

closure_few : (o c : ℕ) (vs : List ℕ) → body_bytes (closure_acts o c vs) ≤ 10 + 10 * captures_for (length vs)
closure_few o c vs =
    omega (arith, num_bytes (nat_lt o 256), num_bytes (nat_lt (1 + c) 256), num_bytes (nat_lt (length vs) 256), captures_few (captures_for (length vs)) vs)

-- what a variable has to spare, and terms that begin with one
abbrev pub spare_at : term.Term-F Term → ℕ
spare_at (term.Var n) = 25
spare_at x = 0

abbrev pub first_spare : List Term → ℕ
first_spare [] = 0
first_spare (x ∷ xs) = spare_at (out-Term x)

node_few : (p : CoreProgram) (o : ℕ) (x : term.Term-F Term) → body_bytes (node_acts p o x) + spare_at x ≤ node_bytes p x
node_few p o (term.Pair head tail) =
    omega (
      arith,
      num_bytes (nat_lt (header_at + 2 * o) 256),
      num_bytes (nat_lt (header_at + 2 * (o + 1)) 256),
      num_bytes (nat_lt (header_at + 2 * (o + 2)) 256),
      word_few 52 (o + 3) (out-Term head),
      word_few 52 (o + 3 + cells p (head ∷ [])) (out-Term tail),
    )
node_few p o (term.Closure c) = omega (arith, closure_few o c (captured_of (slice_get p.closures c)))
node_few p o (term.Num n) = omega arith
node_few p o (term.Word n) = omega arith
node_few p o (term.Object n) = omega arith
node_few p o term.Nil = omega arith
node_few p o (term.Var n) = omega arith

nodes_few : (p : CoreProgram) (o : ℕ) (xs : List Term) → body_bytes (nodes_acts p o xs) + first_spare xs ≤ all_bytes p xs
nodes_few p o [] = omega arith
nodes_few p o (x ∷ xs) =
    let behind = o + node_cells p (out-Term x) in
    omega (arith, bytes_append (node_acts p o (out-Term x)) (nodes_acts p behind xs), node_few p o (out-Term x), nodes_few p behind xs)

-- ## Terms

charge_few : (n : ℕ) → body_bytes (charge_acts n) ≤ 6
charge_few zero = omega arith
charge_few (suc n) = omega (arith, num_bytes (nat_lt (suc n) 256))

laying_few : (p : CoreProgram) (v : ℕ) (ts : List Term) → body_bytes (laying_acts p v ts) + first_spare (nodes_of ts) ≤ all_bytes p (nodes_of ts) + 7 * length ts
laying_few p v ts = by_room (nat_lt 10000 (cells p ts))
  where
    by_room : (b : Bool) → body_bytes (if b then [] else nodes_acts p 0 (nodes_of ts) ++ words_acts p v 0 ts) + first_spare (nodes_of ts) ≤ all_bytes p (nodes_of ts) + 7 * length ts
    by_room true = omega (arith, nodes_few p 0 (nodes_of ts))
    by_room false =
        omega (arith, bytes_append (nodes_acts p 0 (nodes_of ts)) (words_acts p v 0 ts), nodes_few p 0 (nodes_of ts), words_few p v 0 ts)

terms_few : (p : CoreProgram) (v : ℕ) (ts : List Term) → body_bytes (terms_acts p v ts) + first_spare (nodes_of ts) ≤ 6 + all_bytes p (nodes_of ts) + 7 * length ts
terms_few p v ts =
    omega (arith, bytes_append (charge_acts (capped (cells p ts))) (laying_acts p v ts), charge_few (capped (cells p ts)), laying_few p v ts)

-- ## How many there are

pub some_node : (t : Term) (ts : List Term) → 1 + length (nodes_of ts) ≤ length (nodes_of (t ∷ ts))
some_node t ts =
    let one = ap length (nodes_next t []) in
    omega (arith, one, length-append (nodes t) (nodes_of ts), length-append (nodes t) [])

nodes_many : (ts : List Term) → length ts ≤ length (nodes_of ts)
nodes_many [] = omega arith
nodes_many (t ∷ ts) = omega (arith, some_node t ts, nodes_many ts)

pub captured_are : (o : Option ClosureBody) → length (captured_of o) ≡ captured_count o
captured_are None = refl
captured_are (Some closure) = refl

-- what terms weigh, node by node
nodes_alike : (p : CoreProgram) (xs : List Term) → nodes_weight (bytes p) xs ≡ 13 * length xs + all_bytes p xs
nodes_alike p [] = refl
nodes_alike p (x ∷ xs) = omega (arith, nodes_alike p xs)

nodes_append : (p : CoreProgram) (xs ys : List Term) → nodes_weight (bytes p) (xs ++ ys) ≡ nodes_weight (bytes p) xs + nodes_weight (bytes p) ys
nodes_append p [] ys = omega arith
nodes_append p (x ∷ xs) ys = omega (arith, nodes_append p xs ys)

terms_alike : (p : CoreProgram) (ts : List Term) → nodes_weight (bytes p) (nodes_of ts) ≡ terms_weight (bytes p) ts
terms_alike p [] = refl
terms_alike p (t ∷ ts) = omega (arith, nodes_append p (nodes t) (nodes_of ts), terms_alike p ts)

-- terms are written in no more bytes than they weigh, with 6 to spare for each, and what a variable has that is the first
pub terms_room : (p : CoreProgram) (v : ℕ) (ts : List Term) → body_bytes (terms_acts p v ts) + 6 * length ts + first_spare (nodes_of ts) ≤ 6 + terms_weight (bytes p) ts
terms_room p v ts = omega (arith, terms_few p v ts, nodes_many ts, nodes_alike p (nodes_of ts), terms_alike p ts)

-- ## What they count

module _ (p : CoreProgram) (captured : (c : ℕ) → captured_count (slice_get p.closures c) ≤ 64) where
  node_counts : (x : term.Term-F Term) → 25 * (13 + node_bytes p x) ≤ 2300 + 1025 * in_node x
  node_counts (term.Pair head tail) = omega arith
  node_counts (term.Closure c) = omega (arith, captured c, captured_are (slice_get p.closures c))
  node_counts (term.Num n) = omega arith
  node_counts (term.Word n) = omega arith
  node_counts (term.Object n) = omega arith
  node_counts term.Nil = omega arith
  node_counts (term.Var n) = omega arith

  nodes_count : (xs : List Term) → 25 * nodes_weight (bytes p) xs ≤ 2300 * length xs + 1025 * in_nodes xs
  nodes_count [] = omega arith
  nodes_count (x ∷ xs) = omega (arith, node_counts (out-Term x), nodes_count xs)

  -- a closure takes more, for which what it counts itself is left
  pub terms_count : (ts : List Term) → 25 * terms_weight (bytes p) ts ≤ 23 * terms_size ts + 1025 * in_terms ts
  terms_count [] = omega arith
  terms_count (t ∷ ts) = omega (arith, nodes_count (nodes t), terms_count ts)
