-- What a machine is made of.
use Rattle.std.proofs.Common.{◌≡◌, ◌≤◌, ◌∙◌, ℕ, List, Option, length, map, ap, sym, subst, arith}
use Rattle.std.specs.List.{All}
use Rattle.std.proofs.lemmas.List.Elements.{All-map}
use Rattle.dg_base.specs.Sound.{IsSound}
use Rattle.dg_base.specs.declared.program.ClosureBody.{ClosureBody}
use Rattle.dg_base.specs.declared.program.CoreProgram.{CoreProgram}
use Rattle.dg_base.specs.declared.program.Place.{Place}
use Rattle.dg_base.specs.declared.run.Limits.{Limits}
use Rattle.dg_lasting.specs.Resting.{Rests}
use Rattle.dg_lasting.specs.declared.resting.Resting.{Resting}
use Rattle.dg_mid.specs.Programs.{IsMidOf}
use Rattle.dg_mid.specs.declared.code.MidProgram.{MidProgram}
use Rattle.dg_machine.specs.Built.{IsBuilt}
use Rattle.dg_machine.specs.Program.{IsReady}
use Rattle.dg_machine.specs.Tables.{IsOf}
use Rattle.dg_machine.specs.declared.tables.Tables.{Tables}

-- ## What a sound program captures

module _ (p : CoreProgram) (mid : MidProgram) (sound : IsSound p) (h : IsMidOf p mid) where
  few_in : All (λ (closure : ClosureBody). length closure.captured ≤ 65535) p.closures
  few_in = λ k d lt. let few = (sound.closures k d lt).few in omega arith

  pub captured_few : All (λ (vars : List ℕ). length vars ≤ 65535) mid.captured
  captured_few = subst (All (λ (vars : List ℕ). length vars ≤ 65535)) (sym h.captured) (All-map (λ (vars : List ℕ). length vars ≤ 65535) (λ (closure : ClosureBody). closure.captured) p.closures few_in)

-- ## A machine that was made

module _ (p : CoreProgram) (mid : MidProgram) (h : IsMidOf p mid) where
  pub tables_so : (t : Tables) → t.kinds.items ≡ map (λ (place : Place). place.kind) mid.places → t.words ≡ mid.words → t.objects ≡ mid.objects → t.captured ≡ mid.captured → IsOf p t
  tables_so t kinds words objects captured = record {
    kinds = kinds ∙ ap (map (λ (place : Place). place.kind)) h.places;
    words = words ∙ h.words;
    objects = objects ∙ h.objects;
    captured = captured ∙ h.captured;
  }

  pub ready_made : (l : Limits) (t : Tables) (r : Option Resting) → IsBuilt mid.code → IsOf p t → Rests p l r → IsReady p l mid.code t r
  ready_made l t r built is_of rests = record { built = built; tidy = h.tidy; codes = h.codes; tabled = is_of; rests = rests }
