-- Routines of forks and bodies that lie one behind the other find the bodies of all closures.
use Rattle.std.proofs.Common.{◌≡◌, ℕ, zero, suc, ◌+◌, ◌*◌, ◌-◌, ◌<◌, ◌≤◌, List, [], ◌∷◌, length, take, drop, Some, refl, sym, ap, ◌∙◌, subst, arith, length-append, length-drop}
use Rattle.std.specs.Prelude.{◌/◌}
use Rattle.std.proofs.lemmas.List.{take-append-drop, length-take-le}
use Rattle.dg_mid.specs.declared.code.BodyCode.{BodyCode}
use Rattle.z_lang.specs.declared.act.Routine.{Routine}
use Rattle.dg_turn.specs.Told.{Telling}
use Rattle.dg_turn.specs.Bodies.{fork_routine, BodyAt, FindsBodies, no_body, one_body, two_parts}
use Rattle.dg_emit.specs.declared.numbers.Numbers.{Numbers}
use Rattle.dg_emit.specs.Numbers.{bodies_size, bodies_start, block_number}
use Rattle.dg_emit.specs.Bodies.{bodies_routines, entering_routine}
use Rattle.dg_laid.specs.Laid.{BodiesAreFew}
use Rattle.dg_laid.proofs.Lying.{LieAt, lie_front, lie_behind}

-- ## Halves

abbrev half : List BodyCode → ℕ
half cs = length cs / 2

half_is : (c d : BodyCode) (cs : List BodyCode) → length (take (half (c ∷ d ∷ cs)) (c ∷ d ∷ cs)) ≡ half (c ∷ d ∷ cs)
half_is c d cs = length-take-le (half (c ∷ d ∷ cs)) (c ∷ d ∷ cs) (omega arith)

other_is : (c d : BodyCode) (cs : List BodyCode) → length (drop (half (c ∷ d ∷ cs)) (c ∷ d ∷ cs)) ≡ length (c ∷ d ∷ cs) - half (c ∷ d ∷ cs)
other_is c d cs = length-drop (half (c ∷ d ∷ cs)) (c ∷ d ∷ cs)

-- what two numbers of bodies are, of which there are so many
size_is : (cs : List BodyCode) → 1 ≤ length cs → bodies_size cs ≡ 2 * length cs - 1
size_is [] le = absurd (omega arith)
size_is (c ∷ cs) le = omega arith

-- how many routines they are
pub bodies_length : (numbers : Numbers) (halvings n place : ℕ) (cs : List BodyCode) → length cs ≤ halvings →
    length (bodies_routines numbers halvings n place cs) ≡ bodies_size cs
bodies_length numbers halvings n place [] le = refl
bodies_length numbers halvings n place (c ∷ []) le = refl
bodies_length numbers zero n place (c ∷ d ∷ cs) le = absurd (omega arith)
bodies_length numbers (suc halvings) n place (c ∷ d ∷ cs) le =
    let all : List BodyCode = c ∷ d ∷ cs in
    let h : ℕ = half all in
    let a = half_is c d cs in
    let b = other_is c d cs in
    let x = bodies_length numbers halvings (n + 1) place (take h all) (omega arith) in
    let y = bodies_length numbers halvings (n + 2 * h) (place + h) (drop h all) (omega arith) in
    omega (
      arith,
      length-append (bodies_routines numbers halvings (n + 1) place (take h all)) (bodies_routines numbers halvings (n + 2 * h) (place + h) (drop h all)),
      size_is (take h all) (omega arith),
      size_is (drop h all) (omega arith),
      size_is all (omega arith),
    )

-- so many bodies are found in so many steps
abbrev doubled : ℕ → ℕ
doubled zero = 1
doubled (suc depth) = 2 * doubled depth

few_take : (n : ℕ) (cs : List BodyCode) → BodiesAreFew cs → BodiesAreFew (take n cs)
few_take zero cs h = tt
few_take (suc n) [] h = tt
few_take (suc n) (c ∷ cs) h = (h.0, few_take n cs h.1)

few_drop : (n : ℕ) (cs : List BodyCode) → BodiesAreFew cs → BodiesAreFew (drop n cs)
few_drop zero cs h = h
few_drop (suc n) [] h = tt
few_drop (suc n) (c ∷ cs) h = few_drop n cs h.1

module _ (t : Telling) (numbers : Numbers) (to_block : (b : ℕ) → t.p.names.routine (block_number numbers b) ≡ t.at_block b) where
  body_stands : (n place : ℕ) (c : BodyCode) → t.p.routine_at (t.p.names.routine n) ≡ Some (entering_routine numbers place c) → place < 16384 → c.own ≤ 300 → BodyAt t n place c
  body_stands n place c is lt few = record { block = block_number numbers c.block; is = is; block_is = to_block c.block; small = lt; few = few }

  some_found : (depth halvings n place : ℕ) (cs : List BodyCode) → 1 ≤ length cs → length cs ≤ doubled depth → length cs ≤ halvings → place + length cs ≤ 16384 → BodiesAreFew cs →
      LieAt t.p n (bodies_routines numbers halvings n place cs) → FindsBodies t n place cs depth
  some_found depth halvings n place [] some deep le small few lie = absurd (omega arith)
  some_found depth halvings n place (c ∷ []) some deep le small few lie = one_body n place depth c (body_stands n place c lie.0 (omega arith) few.0)
  some_found zero halvings n place (c ∷ d ∷ cs) some deep le small few lie = absurd (omega arith)
  some_found (suc depth) zero n place (c ∷ d ∷ cs) some deep le small few lie = absurd (omega arith)
  some_found (suc depth) (suc halvings) n place (c ∷ d ∷ cs) some deep le small few lie =
      let all : List BodyCode = c ∷ d ∷ cs in
      let h : ℕ = half all in
      let a : length (take h all) ≡ h = half_is c d cs in
      let b = other_is c d cs in
      let first : List Routine = bodies_routines numbers halvings (n + 1) place (take h all) in
      let others : List Routine = bodies_routines numbers halvings (n + 2 * h) (place + h) (drop h all) in
      let long : length first ≡ 2 * h - 1 = omega (arith, bodies_length numbers halvings (n + 1) place (take h all) (omega arith), size_is (take h all) (omega arith)) in
      let at : n + 1 + (2 * h - 1) ≡ n + 2 * h = omega arith in
      let behind : LieAt t.p (n + 2 * h) others = subst (λ (j : ℕ). LieAt t.p j others) at (lie_behind t.p (n + 1) (2 * h - 1) first others long lie.1) in
      let left : FindsBodies t (n + 1) place (take h all) depth =
      some_found depth halvings (n + 1) place (take h all) (omega arith) (omega arith) (omega arith) (omega arith) (few_take h all few) (lie_front t.p (n + 1) first others lie.1) in
      let right : FindsBodies t (n + 2 * h) (place + h) (drop h all) depth =
      some_found depth halvings (n + 2 * h) (place + h) (drop h all) (omega arith) (omega arith) (omega arith) (omega arith) (few_drop h all few) behind in
      subst (λ (l : List BodyCode). FindsBodies t n place l (suc depth)) (take-append-drop h all)
      (two_parts n (n + 1) (n + 2 * h) place depth (take h all) (drop h all)
      (lie.0 ∙ ap (λ (k : ℕ). Some (fork_routine (place + k) (n + 1) (n + 2 * h))) (sym a)) (omega arith)
      left (subst (λ (k : ℕ). FindsBodies t (n + 2 * h) (place + k) (drop h all) depth) (sym a) right))

  pub bodies_found : (n : ℕ) (cs : List BodyCode) → length cs ≤ 16384 → BodiesAreFew cs → LieAt t.p n (bodies_routines numbers (length cs) n 0 cs) →
      FindsBodies t (bodies_start n cs) 0 cs 14
  bodies_found n [] le few lie = no_body 0 14
  bodies_found n (c ∷ cs) le few lie = some_found 14 (length (c ∷ cs)) n 0 (c ∷ cs) (omega arith) le (omega arith) (omega arith) few lie
