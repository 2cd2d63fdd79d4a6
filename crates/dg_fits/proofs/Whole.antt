-- The parts of a story can be assembled.
use Rattle.std.proofs.Common.{◌≡◌, ℕ, zero, suc, ◌+◌, ◌<◌, ◌≤◌, inl, List, [], ◌∷◌, ◌++◌, length, Some, Bool, true, false, refl, subst, arith, length-append}
use Rattle.std.specs.Prelude.{nat_lt}
use Rattle.std.specs.List.{All, slice_get}
use Rattle.std.proofs.lemmas.Bool.{ltb-true, and_parts}
use Rattle.std.proofs.lemmas.List.Elements.{All-head, All-tail}
use Rattle.dg_base.specs.declared.program.ClosureBody.{ClosureBody}
use Rattle.dg_base.specs.declared.program.CoreProgram.{CoreProgram}
use Rattle.dg_base.specs.Sound.{IsClosureOf}
use Rattle.dg_mid.specs.declared.code.BodyCode.{BodyCode}
use Rattle.dg_mid.specs.declared.code.Block.{Block}
use Rattle.dg_mid.specs.declared.code.Code.{Code}
use Rattle.dg_mid.specs.declared.code.Op.{Op}
use Rattle.dg_mid.specs.declared.code.Op.TheVariants as op
use Rattle.dg_mid.specs.Code.{ops_of}
use Rattle.dg_mid.specs.Codes.{BodyStands}
use Rattle.dg_mid.specs.Passing.{OpPasses, OpsPass}
use Rattle.z_code.specs.Open.{Counts}
use Rattle.z_lang.specs.declared.act.Routine.{Routine}
use Rattle.z_story.specs.Parts.{AreRoutines, parts_counts}
use Rattle.dg_rt.specs.Fits.{IsFit, AllFit}
use Rattle.dg_rt.specs.RunTime.{runtime, routine_of}
use Rattle.dg_rt.specs.declared.closings.TheConstants.{KEEP_LIMIT_ACTS}
use Rattle.dg_rt.proofs.Fitting.{runtime_fits}
use Rattle.dg_turn.specs.Names.{objects_routines}
use Rattle.dg_emit.specs.Numbers.{rules_count, behind_blocks, number_behind, numbers_from, block_number}
use Rattle.dg_emit.specs.Bodies.{bodies_routines}
use Rattle.dg_emit.specs.Code.{preds_routines, blocks_routines, code_routines}
use Rattle.dg_rt.specs.Start.{start_acts}
use Rattle.dg_emit.specs.Story.{first_number, story_routines}
use Rattle.dg_fits.specs.Laws.{IsSized, parts_with, RoutinesFit}
use Rattle.dg_fits.proofs.Suits.{tests, terms_ok, passes_all, objects_few, suits}
use Rattle.dg_fits.proofs.Objects.{objects_count}
use Rattle.dg_fits.proofs.ObjectsFit.{objects_fit}
use Rattle.dg_fits.proofs.Below.{numbers_below, size_is, code_many}
use Rattle.dg_fits.proofs.Fits.{EntersFew, AllEnterFew, BlocksEnterFew, OwnFew, fits_append, blocks_fit, preds_fit, bodies_fit}

-- ## What passes

enters_few : (p : CoreProgram) (x : Op) → OpPasses (tests p) x → EntersFew x
enters_few p (op.Enter vars head) e = let lt = ltb-true vars 66 (and_parts (nat_lt vars 66) (terms_ok p head) e).0 in omega arith
enters_few p x e = tt

all_few : (p : CoreProgram) (ops : List Op) → OpsPass (tests p) ops → AllEnterFew ops
all_few p [] e = tt
all_few p (x ∷ ops) e = (enters_few p x e.0, all_few p ops e.1)

blocks_few : (p : CoreProgram) (blocks : List Block) → ((b : ℕ) → OpsPass (tests p) (ops_of (slice_get blocks b))) → BlocksEnterFew blocks
blocks_few p [] h = tt
blocks_few p (block ∷ blocks) h = (all_few p block.ops (h 0), blocks_few p blocks (λ b. h (suc b)))

own_few : (p : CoreProgram) (code : Code) (cs : List BodyCode) (bs : List ClosureBody) → ((n : ℕ) → BodyStands code (slice_get cs n) (slice_get bs n)) → All (IsClosureOf p) bs → OwnFew cs
own_few p code [] bs h all = tt
own_few p code (c ∷ cs) [] h all = absurd (h 0)
own_few p code (c ∷ cs) (b ∷ bs) h all =
    let few = (All-head (IsClosureOf p) b bs all).few in
    let same = (h 0).0 in
    (omega arith, own_few p code cs bs (λ n. h (suc n)) (All-tail (IsClosureOf p) b bs all))

-- ## Routines

nth_fits : (c : Counts) (rs : List Routine) (k : ℕ) (r : Routine) → AllFit c rs → slice_get rs k ≡ Some r → IsFit c r
nth_fits c [] k r fit e = absurd (cc e)
nth_fits c (x ∷ rs) zero r fit e = subst (IsFit c) (let same : x ≡ r = cc e in same) fit.0
nth_fits c (x ∷ rs) (suc k) r fit e = nth_fits c rs k r fit.1 e

start_fits : (c : Counts) → 1 + length runtime ≤ c.routines → AllFit c runtime → (keeps : Bool) (entry : ℕ) → entry < c.routines → IsFit c (routine_of 0 (start_acts keeps entry))
start_fits c many fit false entry lt = nth_fits c runtime 14 (routine_of 0 KEEP_LIMIT_ACTS) fit refl
start_fits c many fit true entry lt = record {
  few = omega arith;
  short = λ l has. omega arith;
  fit = ((omega arith, omega arith), ((omega arith, lt), ((λ h. h), ((omega arith, omega arith, tt), (inl refl, tt)))));
}

are_routines : (c : Counts) (rs : List Routine) → AllFit c rs → AreRoutines c rs
are_routines c [] fit = tt
are_routines c (r ∷ rs) fit = (record { few = (fit.0).few; short = (fit.0).short; fit = (fit.0).fit }, are_routines c rs fit.1)

module _ (p : CoreProgram) (code : Code) (sized : IsSized p code) (c : Counts) (routines : number_behind first_number code + length (objects_routines (number_behind first_number code) p.objects) ≤ c.routines) (tables : 2 ≤ c.tables) where
  many : 1 + length runtime ≤ c.routines
  many = omega arith

  code_fits : AllFit c (code_routines p first_number code)
  code_fits =
      let numbers = numbers_from first_number code in
      let objects = objects_routines (number_behind first_number code) p.objects in
      let count = objects_count (number_behind first_number code) p.objects in
      let below = numbers_below c.routines many first_number code (omega arith) in
      let suit = suits p code sized in
      let passes = passes_all p code sized in
      let rules = preds_routines code numbers first_number code.preds in
      let blocks = blocks_routines p numbers (first_number + rules_count code.preds) code.blocks in
      let bodies = bodies_routines numbers (length code.closures) (behind_blocks first_number code) 0 code.closures in
      let size = size_is code.closures in
      let few = suit.fits.2 in
      fits_append c rules (blocks ++ (bodies ++ objects)) (preds_fit c many code numbers first_number code.preds below (omega arith) suit.fits.1)
      (fits_append c blocks (bodies ++ objects)
      (blocks_fit c many p numbers (first_number + rules_count code.preds) code.blocks below (omega arith) suit.fits.0 (blocks_few p code.blocks passes))
      (fits_append c bodies objects
      (bodies_fit c many numbers (length code.closures) (behind_blocks first_number code) 0 code.closures below (omega arith) (omega arith)
      (own_few p code code.closures p.closures sized.codes.bodies sized.sound.closures))
      (objects_fit c (number_behind first_number code) p.objects many routines sized.sound.objects (objects_few p code sized))))

  all_fit : (keeps : Bool) → AllFit c (story_routines p code keeps)
  all_fit keeps =
      let fit = runtime_fits c many tables in
      let count = objects_count (number_behind first_number code) p.objects in
      let below = numbers_below c.routines many first_number code (omega arith) in
      (start_fits c many fit keeps (block_number (numbers_from first_number code) 1) (below.block 1), fits_append c runtime (code_routines p first_number code) fit code_fits)

pub routines_fit : RoutinesFit
routines_fit program code sized keeps tables some =
    let n = code_many program first_number code in
    let l = length-append runtime (code_routines program first_number code) in
    let parts = parts_with tables program code keeps in
    record {
      some = omega arith;
      routines = are_routines (parts_counts parts) (story_routines program code keeps) (all_fit program code sized (parts_counts parts) (omega arith) (omega arith) keeps);
      texts = tt;
    }
