-- What a run shows of which more starts kept than may be.
use Rattle.std.proofs.Common.{◌≡◌, ℕ, ◌<◌, inl, inr, List, [], Option, refl, ap, ◌∙◌, subst, arith}
use Rattle.std.proofs.lemmas.Bool.{cases_lt}
use Rattle.dg_base.specs.declared.run.Ending.{Ending}
use Rattle.dg_base.specs.declared.run.Ending.TheVariants.{KeepLimit}
use Rattle.dg_base.specs.declared.run.Limits.{Limits}
use Rattle.dg_base.specs.declared.run.Outcome.{Outcome}
use Rattle.dg_meaning.specs.Peaks.{Area, Heap, Trail, Aux, Keep, limit_of, limit_ending, peak}
use Rattle.dg_meaning.specs.Render.{render}
use Rattle.dg_meaning.specs.Shows.{MayBegin, Shows}
use Rattle.dg_meaning.specs.Transcript.{run, closed, line_of}
use Rattle.dg_meaning.specs.World.{Game, World}
use Rattle.dg_meaning.specs.inside.Starts.{ShowsStart}
use Rattle.dg_meaning.proofs.Engines.{nothing_taken}

-- only what is kept counts before the first goal
only_kept : (area : Area) (g : Game) (typed : List ℕ) (limits : Limits) → limit_of area limits < peak area g typed 0 → area ≡ Keep
only_kept Heap g typed limits passed = absurd (let less : limits.heap < (run g typed 0).world.meters.heap = passed in let none : (run g typed 0).world.meters.heap ≡ 0 = ap (λ (w : World). w.meters.heap) (nothing_taken g typed) in omega (arith, less, none))
only_kept Trail g typed limits passed = absurd (let less : limits.trail < (run g typed 0).world.meters.trail = passed in let none : (run g typed 0).world.meters.trail ≡ 0 = ap (λ (w : World). w.meters.trail) (nothing_taken g typed) in omega (arith, less, none))
only_kept Aux g typed limits passed = absurd (let less : limits.aux < (run g typed 0).world.meters.aux = passed in let none : (run g typed 0).world.meters.aux ≡ 0 = ap (λ (w : World). w.meters.aux) (nothing_taken g typed) in omega (arith, less, none))
only_kept Keep g typed limits passed = refl

-- a line alone
closed_nothing : (line : List ℕ) → closed [] line ≡ line
unfolding render
closed_nothing line = refl

-- an outcome by its parts
abbrev outcome_of : Ending → ℕ → Outcome
outcome_of e n = record { ending = e; goals = n }

outcome_so : (o : Outcome) (e : Ending) (n : ℕ) → o.ending ≡ e → o.goals ≡ n → o ≡ outcome_of e n
outcome_so o e n is goals = let here : o ≡ outcome_of o.ending o.goals = refl in here ∙ (ap (λ x. outcome_of x o.goals) is ∙ ap (outcome_of e) goals)

pub start_over : (g : Game) (typed : List ℕ) (limits : Limits) (bytes : List ℕ) (outcome : Outcome) (left : Option (List ℕ)) → (MayBegin g limits → ⊥) → Shows g typed limits bytes outcome left → ShowsStart bytes outcome
start_over g typed limits bytes outcome left over (inl h) = absurd (over h.begins)
start_over g typed limits bytes outcome left over (inr h) =
    let none : outcome.goals ≡ 0 = elim (cases_lt 0 outcome.goals) [ inl some ↦ absurd (over (h.begins some)) | inr zero ↦ omega (arith, zero) ] in
    let area = only_kept h.area g typed limits (subst (λ n. limit_of h.area limits < peak h.area g typed n) none h.passed) in
    let ending : outcome.ending ≡ KeepLimit = h.ending ∙ ap limit_ending area in
    record {
      text = h.text ∙ ap (λ p. closed p (line_of outcome.ending)) (h.none_before_the_first none) ∙ closed_nothing (line_of outcome.ending) ∙ ap line_of ending;
      outcome_is = outcome_so outcome KeepLimit 0 ending none;
    }
