-- Choices and stoppable parts whose trails are ordered as their tags, and calls that cut to where they go on.
use Rattle.std.proofs.Common.{◌≡◌, ℕ, ◌+◌, ◌≤◌, List, [], ◌∷◌, arith}
use Rattle.std.specs.Prelude.{nat_lt}
use Rattle.std.proofs.lemmas.Bool.{cond_both, ltb-true}
use Rattle.dg_base.specs.declared.run.Ending.TheVariants as ending
use Rattle.dg_meaning.specs.Unify.{Unified}
use Rattle.dg_mid.specs.Calls.{WayCuts, ChoicesCut}
use Rattle.dg_mid.specs.State.{Place, Way, Goes, Stop, Choice, Mid, Status, Runs, Enters, Resumes, Fails, Ended, cut_choices}
use Rattle.dg_mid.specs.Step.{bound, passed, new_choice, inside, shielded, trail_more}
use Rattle.dg_mid.specs.Trails.{TrailsAgreeAll, StopsTrailed, ChoicesTrailed, MidTrailed}

-- ## Choices and stoppable parts

-- so many more choices opened, and so much more is on the trail
pub stops_raise : (t r t' r' : ℕ) (cs : List Choice) (ss : List Stop) → t ≤ t' → r ≤ r' → StopsTrailed t r cs ss → StopsTrailed t' r' cs ss
stops_raise t r t' r' cs [] a b h = tt
stops_raise t r t' r' cs (s ∷ ss) a b h = (omega (arith, h.0, a), omega (arith, h.1, b), h.2, h.3)

pub choices_raise : (t r t' r' : ℕ) (cs : List Choice) → t ≤ t' → r ≤ r' → ChoicesTrailed t r cs → ChoicesTrailed t' r' cs
choices_raise t r t' r' [] a b h = tt
choices_raise t r t' r' (c ∷ cs) a b h = (omega (arith, h.0, a), omega (arith, h.1, b), h.2, h.3)

-- a choice opens
stops_push : (t r : ℕ) (c : Choice) (cs : List Choice) (ss : List Stop) → t ≤ c.place.tag → r ≤ c.state.trail → StopsTrailed t r cs ss → StopsTrailed t r (c ∷ cs) ss
stops_push t r c cs [] a b h = tt
stops_push t r c cs (s ∷ ss) a b h =
    let x = h.0 in let y = h.1 in (
      x,
      y,
      (record { older = λ lt. absurd (omega (arith, lt, x, a)); newer = λ le. omega (arith, y, b) }, h.2),
      stops_push s.place.tag s.state.trail c cs ss (omega (arith, x, a)) (omega (arith, y, b)) h.3,
    )

-- choices are cut
agree_cut : (p : Place) (tag trail : ℕ) (cs : List Choice) → TrailsAgreeAll cs tag trail → TrailsAgreeAll (cut_choices p cs) tag trail
agree_cut p tag trail [] h = tt
agree_cut p tag trail (c ∷ cs) h = cond_both (nat_lt c.place.tag p.tag) (c ∷ cs) (cut_choices p cs) (λ l. TrailsAgreeAll l tag trail) (λ e. h) (λ e. agree_cut p tag trail cs h.1)

pub stops_cut : (t r : ℕ) (p : Place) (cs : List Choice) (ss : List Stop) → StopsTrailed t r cs ss → StopsTrailed t r (cut_choices p cs) ss
stops_cut t r p cs [] h = tt
stops_cut t r p cs (s ∷ ss) h = (h.0, h.1, agree_cut p s.place.tag s.state.trail cs h.2, stops_cut s.place.tag s.state.trail p cs ss h.3)

choices_cut : (t r : ℕ) (p : Place) (cs : List Choice) → ChoicesTrailed t r cs → ChoicesTrailed t r (cut_choices p cs)
choices_cut t r p [] h = tt
choices_cut t r p (c ∷ cs) h =
    let x = h.0 in let y = h.1 in
    cond_both (nat_lt c.place.tag p.tag) (c ∷ cs) (cut_choices p cs) (ChoicesTrailed t r) (λ e. h) (λ e. choices_cut t r p cs (choices_raise c.place.tag c.state.trail t r cs (omega (arith, x)) y h.3))

pub ways_cut : (p : Place) (cs : List Choice) → ChoicesCut cs → ChoicesCut (cut_choices p cs)
ways_cut p [] h = tt
ways_cut p (c ∷ cs) h = cond_both (nat_lt c.place.tag p.tag) (c ∷ cs) (cut_choices p cs) ChoicesCut (λ e. h) (λ e. ways_cut p cs h.1)

-- what is older than a stoppable part is within it
pub choices_under : (t r trail : ℕ) (p : Place) (cs : List Choice) → TrailsAgreeAll cs p.tag trail → ChoicesTrailed t r cs → ChoicesTrailed p.tag trail (cut_choices p cs)
choices_under t r trail p [] a h = tt
choices_under t r trail p (c ∷ cs) a h = cond_both (nat_lt c.place.tag p.tag) (c ∷ cs) (cut_choices p cs) (ChoicesTrailed p.tag trail)
    (λ e. let lt = ltb-true c.place.tag p.tag e in (lt, a.0.older lt, h.2, h.3))
    (λ e. choices_under c.place.tag c.state.trail trail p cs a.1 h.3)

-- where a part opens now, what is open is older
agree_now : (t r t' r' : ℕ) (cs : List Choice) → t ≤ t' → r ≤ r' → ChoicesTrailed t r cs → TrailsAgreeAll cs t' r'
agree_now t r t' r' [] a b h = tt
agree_now t r t' r' (c ∷ cs) a b h =
    let x = h.0 in let y = h.1 in
    (record { older = λ lt. omega (arith, y, b); newer = λ le. absurd (omega (arith, le, x, a)) }, agree_now c.place.tag c.state.trail t' r' cs (omega (arith, x, a)) (omega (arith, y, b)) h.3)

-- ## A machine

-- what is open is ordered, and the calls that are left cut to where they stand
abbrev pub F : Mid → Type 0
F m = MidTrailed m × ChoicesCut m.choices

-- so it is in a status, and it has met no step limit
abbrev pub S : Status → Type 0
S (Runs m) = F m
S (Enters call m) = F m
S (Resumes way m) = F m × WayCuts m.state.heap way
S (Fails m) = F m
S (Ended e) = e ≡ ending.StepLimit → ⊥

-- the same with more opened and more on the trail
raised : (m : Mid) (t r : ℕ) → m.next_tag ≤ t → m.state.trail ≤ r → F m → (StopsTrailed t r m.choices m.stops × ChoicesTrailed t r m.choices) × ChoicesCut m.choices
raised m t r a b f = ((stops_raise m.next_tag m.state.trail t r m.choices m.stops a b f.0.0, choices_raise m.next_tag m.state.trail t r m.choices a b f.0.1), f.1)

-- what follows is inside a choice
pub inside_is : (way : Way) (arguments : ℕ) (m : Mid) → F m → WayCuts m.state.heap way → F (inside way arguments m)
inside_is way arguments m f w =
    let up = raised m (m.next_tag + 1) m.state.trail (omega arith) (omega arith) f in
    let c = new_choice way m in (
      (
        stops_raise m.next_tag m.state.trail (m.next_tag + 1) m.state.trail (c ∷ m.choices) m.stops (omega arith) (omega arith) (stops_push m.next_tag m.state.trail c m.choices m.stops (omega arith) (omega arith) f.0.0),
        (omega arith, omega arith, f.0.0, f.0.1),
      ),
      (w, f.1),
    )

-- and inside a stoppable part
pub shielded_is : (alt : ℕ) (m : Mid) → F m → F (shielded alt m)
shielded_is alt m f =
    let c = new_choice (Goes alt) m in
    let h = inside_is (Goes alt) 0 m f tt in (
      (
        (
          omega arith,
          omega arith,
          (record { older = λ lt. absurd (omega (arith, lt)); newer = λ le. omega arith }, agree_now m.next_tag m.state.trail m.next_tag m.state.trail m.choices (omega arith) (omega arith) f.0.1),
          stops_push m.next_tag m.state.trail c m.choices m.stops (omega arith) (omega arith) f.0.0,
        ),
        h.0.1,
      ),
      h.1,
    )

pub passed_is : (m : Mid) → F m → F (passed m)
passed_is m f = raised m (m.next_tag + 1) m.state.trail (omega arith) (omega arith) f

pub cut_is : (p : Place) (m : Mid) → F m → (StopsTrailed m.next_tag m.state.trail (cut_choices p m.choices) m.stops × ChoicesTrailed m.next_tag m.state.trail (cut_choices p m.choices)) × ChoicesCut (cut_choices p m.choices)
cut_is p m f = ((stops_cut m.next_tag m.state.trail p m.choices m.stops f.0.0, choices_cut m.next_tag m.state.trail p m.choices f.0.1), ways_cut p m.choices f.1)

-- a variable that is bound adds to the trail
pub bound_is : (u : Unified) (m : Mid) → F m → F (bound u m)
bound_is u m f = raised m m.next_tag (trail_more m.state u) (omega arith) (omega arith) f
