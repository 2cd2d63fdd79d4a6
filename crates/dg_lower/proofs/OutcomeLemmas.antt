-- What comes of a search by facts is what comes of it by tests.
use Rattle.std.proofs.Common.{◌≡◌, ◌<◌, ◌⊎◌, inl, inr, ℕ, ◌||◌, Bool, true, false, Option, Some, None, nat_lt, refl, sym, ◌∙◌, ap, subst, arith}
use Rattle.std.specs.Prelude.{if◌then◌else◌}
use Rattle.std.proofs.lemmas.Grind.{common_steps}
use Rattle.dg_base.specs.declared.program.CoreProgram.{CoreProgram as Core}
use Rattle.dg_base.specs.declared.run.Ending.{Ending}
use Rattle.dg_base.specs.declared.run.Ending.TheVariants.{Done as Done-Ending, Quit, Failed, Stopped, InputEnded, StepLimit, HeapLimit, TrailLimit, AuxLimit, KeepLimit}
use Rattle.dg_meaning.specs.Values.{Value}
use Rattle.dg_meaning.specs.Transcript.{Run}
use Rattle.dg_meaning.specs.Initial.{Question, first_run, value_put, IsTooLong, IsInitial, Initial, TooLong, Unset, IsSet, HasValue, Other}
use Rattle.dg_lower.specs.Outcome.{is_at_budget, is_done, is_too_long, value_or_other, answered, outcome_by, outcome_of}

more : (a b : ℕ) → a < b → nat_lt a b ≡ true
more a b h = grind (arith, common_steps, h)

more_is : (a b : ℕ) → nat_lt a b ≡ true → a < b
more_is a b e = grind (arith, common_steps, e)

budget_is : (e : Ending) → is_at_budget e ≡ true → e ≡ StepLimit
budget_is StepLimit h = refl
budget_is Done-Ending h = cc
budget_is Quit h = cc
budget_is Failed h = cc
budget_is Stopped h = cc
budget_is InputEnded h = cc
budget_is HeapLimit h = cc
budget_is TrailLimit h = cc
budget_is AuxLimit h = cc
budget_is KeepLimit h = cc

done_is : (e : Ending) → is_done e ≡ true → e ≡ Done-Ending
done_is Done-Ending h = refl
done_is StepLimit h = cc
done_is Quit h = cc
done_is Failed h = cc
done_is Stopped h = cc
done_is InputEnded h = cc
done_is HeapLimit h = cc
done_is TrailLimit h = cc
done_is AuxLimit h = cc
done_is KeepLimit h = cc

either : (a b : Bool) → b ≡ true → (a || b) ≡ true
either true b e = refl
either false b e = e

too_long : (r : Run) → IsTooLong r → is_too_long r ≡ true
too_long r (inl e) = ap (λ (b : Bool). b || nat_lt 1000000 r.world.meters.heap) (ap is_at_budget e)
too_long r (inr h) = either (is_at_budget r.ending) (nat_lt 1000000 r.world.meters.heap) (more 1000000 r.world.meters.heap h)

-- a test that is no where it can't be yes
no : (b : Bool) → (b ≡ true → ⊥) → b ≡ false
no true h = absurd (h refl)
no false h = refl

in_time : (r : Run) → (IsTooLong r → ⊥) → is_too_long r ≡ false
in_time r h =
    ap (λ (b : Bool). b || nat_lt 1000000 r.world.meters.heap) (no (is_at_budget r.ending) (λ e. h (inl (budget_is r.ending e))))
    ∙ no (nat_lt 1000000 r.world.meters.heap) (λ e. h (inr (more_is 1000000 r.world.meters.heap e)))

-- what comes of a run that is in time
by_end : (p : Core) (q : Question) (r : Run) → (IsTooLong r → ⊥) → outcome_by p q r ≡ (if is_done r.ending then answered p q else Unset)
by_end p q r h = ap (λ (b : Bool). if b then TooLong else (if is_done r.ending then answered p q else Unset)) (in_time r h)

has_ended : (p : Core) (q : Question) (r : Run) → (IsTooLong r → ⊥) → (r.ending ≡ Done-Ending → ⊥) → outcome_by p q r ≡ Unset
has_ended p q r h none = by_end p q r h ∙ ap (λ (b : Bool). if b then answered p q else Unset) (no (is_done r.ending) (λ e. none (done_is r.ending e)))

has_answered : (p : Core) (q : Question) (r : Run) → (IsTooLong r → ⊥) → r.ending ≡ Done-Ending → outcome_by p q r ≡ answered p q
has_answered p q r h done = by_end p q r h ∙ ap (λ (b : Bool). if b then answered p q else Unset) (ap is_done done)

pub outcome_told : (p : Core) (q : Question) (s : Initial) → IsInitial p q s → outcome_of p q ≡ s
unfolding outcome_of
outcome_told p q TooLong h = ap (λ (b : Bool). if b then TooLong else (if is_done (first_run p q).ending then answered p q else Unset)) (too_long (first_run p q) h)
outcome_told p q Unset h = has_ended p q (first_run p q) h.0 h.1
outcome_told p q IsSet h =
    has_answered p q (first_run p q) h.0 h.1.0
    ∙ ap (λ (b : Bool). if b then value_or_other (value_put p q q.object) else IsSet) h.1.1
outcome_told p q (HasValue v) h =
    has_answered p q (first_run p q) h.0 h.1.0
    ∙ ap (λ (b : Bool). if b then value_or_other (value_put p q q.object) else IsSet) h.1.1
    ∙ ap value_or_other h.1.2
outcome_told p q Other h =
    has_answered p q (first_run p q) h.0 h.1.0
    ∙ ap (λ (b : Bool). if b then value_or_other (value_put p q q.object) else IsSet) h.1.1
    ∙ ap value_or_other h.1.2

-- ---- what a question may have come to

-- a flag is set, and a variable has a value
abbrev pub Suits : Bool → Initial → Type 0
Suits value TooLong = Unit {0}
Suits value Unset = Unit {0}
Suits value IsSet = value ≡ false
Suits value (HasValue v) = value ≡ true
Suits value Other = value ≡ true

suits_value : (o : Option Value) → Suits true (value_or_other o)
suits_value None = refl
suits_value (Some v) = refl

suits_answer : (p : Core) (q : Question) (b : Bool) → q.value ≡ b → Suits q.value (if b then value_or_other (value_put p q q.object) else IsSet)
suits_answer p q true e = subst (λ (b : Bool). Suits b (value_or_other (value_put p q q.object))) (sym e) (suits_value (value_put p q q.object))
suits_answer p q false e = e

suits_tests : (p : Core) (q : Question) (long done : Bool) → Suits q.value (if long then TooLong else (if done then answered p q else Unset))
suits_tests p q true done = tt
suits_tests p q false true = suits_answer p q q.value refl
suits_tests p q false false = tt

pub outcome_suits : (p : Core) (q : Question) → Suits q.value (outcome_of p q)
unfolding outcome_of
outcome_suits p q = suits_tests p q (is_too_long (first_run p q)) (is_done (first_run p q).ending)
