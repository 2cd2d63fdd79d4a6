-- The routines that find and enter the bodies of closures. Hold it against `FindsBodies` of dg_turn/specs/Bodies.antt.
use Rattle.std.specs.Prelude.{ℕ, zero, suc, ◌+◌, ◌*◌, ◌/◌, ◌≤◌, List, [], ◌∷◌, ◌++◌, length, take, drop}
use Rattle.dg_mid.specs.declared.code.BodyCode.{BodyCode}
use Rattle.dg_mid.specs.declared.code.Code.{Code}
use Rattle.z_lang.specs.declared.act.Routine.{Routine}
use Rattle.dg_turn.specs.Bodies.{fork_routine, body_routine}
use Rattle.dg_emit.specs.declared.numbers.Numbers.{Numbers}
use Rattle.dg_emit.specs.Numbers.{block_number}

-- The routine that enters the body of the closure of a place.
abbrev pub entering_routine : Numbers → ℕ → BodyCode → Routine
entering_routine numbers place body = body_routine place body.own (block_number numbers body.block)

-- The routines of some bodies, of which the first has a number, and the first closure a place: of one body that which enters it; of more a fork, those of
-- the first half, and those of the others. So many halvings suffice.
abbrev pub bodies_routines : Numbers → (halvings number place : ℕ) → List BodyCode → List Routine
bodies_routines numbers halvings number place [] = []
bodies_routines numbers halvings number place (body ∷ []) = entering_routine numbers place body ∷ []
bodies_routines numbers zero number place bodies = []
bodies_routines numbers (suc halvings) number place bodies =
    let half = length bodies / 2 in
    fork_routine (place + half) (number + 1) (number + 2 * half)
    ∷ (bodies_routines numbers halvings (number + 1) place (take half bodies)
    ++ bodies_routines numbers halvings (number + 2 * half) (place + half) (drop half bodies))

-- Closures that a story can tell apart.
abbrev pub ClosuresFit : Code → Type 0
ClosuresFit code = length code.closures ≤ 16384
