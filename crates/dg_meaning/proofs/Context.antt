-- Failing and stopping in a context.
use Rattle.std.proofs.Common.{◌≡◌, ℕ, zero, suc, ◌<◌, ◌≤◌, inl, inr, List, [], ◌∷◌, Option, Some, None, refl, sym, ap, ◌∙◌, subst, arith, length, drop, ◌++◌, ◌⊎◌}
use Rattle.std.specs.Prelude.{min, eqb, nat_lt, if◌then◌else◌}
use Rattle.std.proofs.lemmas.Bool.{cond_both, cond-true, cond-false, lt-ltb, le-ltb, cases_lt, cases_eq, eq-eqb, ne_eqb}
use Rattle.dg_meaning.specs.Values.{Value}
use Rattle.dg_meaning.specs.World.{World, Gathering, gathered_with, gathered_without}
use Rattle.dg_meaning.specs.Path.{Result, Failing, CutFail, StopTo, End, Answer, Branch, ChoiceKind, Plain, Rules, Shield, Gathers}
use Rattle.dg_meaning.specs.Moves.{exhausted}
use Rattle.dg_meaning.specs.Search.{Search, answer, later, retried, leave, after_branch, begin, branches_cut, choose}
use Rattle.dg_meaning.specs.Transcript.{run_of}
use Rattle.dg_meaning.specs.inside.Context.{Around, InBranch, InCut, unwind, gathers, tags_of, Opens, Live, cut_to, stays, live, Holds, Older, TakesOut, Sound, Shielded, pushed, Way, ways, way_to, Drops}
use Rattle.dg_meaning.proofs.Dropping.{drops_nothing, drops_on}

-- ## Cuts of choices

cut_min : (t u : ℕ) (cs : List Live) → cut_to t (cut_to u cs) ≡ cut_to (min t u) cs
cut_min t u [] = refl
cut_min t u (c ∷ cs) =
    elim (cases_lt c.tag u) [
      | inl lt ↦ ap (cut_to t) (cond-true (nat_lt c.tag u) (c ∷ cs) (cut_to u cs) (lt-ltb c.tag u lt)) ∙
          elim (cases_lt c.tag t) [
            | inl lt' ↦ cond-true (nat_lt c.tag t) (c ∷ cs) (cut_to t cs) (lt-ltb c.tag t lt') ∙ sym (cond-true (nat_lt c.tag (min t u)) (c ∷ cs) (cut_to (min t u) cs) (lt-ltb c.tag (min t u) (omega arith)))
            | inr ge' ↦ let m : min t u ≡ t = omega arith in ap (λ x. cut_to x (c ∷ cs)) (sym m)
          ]
      | inr ge ↦ ap (cut_to t) (cond-false (nat_lt c.tag u) (c ∷ cs) (cut_to u cs) (le-ltb c.tag u ge)) ∙ cut_min t u cs ∙ sym (cond-false (nat_lt c.tag (min t u)) (c ∷ cs) (cut_to (min t u) cs) (le-ltb c.tag (min t u) (omega arith)))
    ]

abbrev AllBelow : ℕ → List Live → Type 0
AllBelow t [] = Unit {0}
AllBelow t (c ∷ cs) = (c.tag < t) × AllBelow t cs

cut_below : (t u : ℕ) (cs : List Live) → AllBelow t cs → AllBelow t (cut_to u cs)
cut_below t u [] h = tt
cut_below t u (c ∷ cs) h = cond_both (nat_lt c.tag u) (c ∷ cs) (cut_to u cs) (AllBelow t) (λ e. h) (λ e. cut_below t u cs h.1)

-- what is kept of a choice around
abbrev pub live_of : ChoiceKind → ℕ → List Branch → List Around → Live
live_of k t bs ctx = record { kind = later k; tag = t; others = bs; height = length (gathers ctx); ways_on = ways ctx }

live_below : (t : ℕ) (ctx : List Around) → Older t ctx → AllBelow t (live ctx)
live_below t [] h = tt
live_below t (InBranch k u others ∷ ctx) h =
    cond_both (stays (later k) others) (live_of k u others ctx ∷ live ctx) (live ctx) (AllBelow t) (λ e. (h.0, live_below t ctx h.1)) (λ e. live_below t ctx h.1)
live_below t (InCut u ∷ ctx) h = cut_below t u (live ctx) (live_below t ctx h)

cut_none : (t : ℕ) (cs : List Live) → AllBelow t cs → cut_to t cs ≡ cs
cut_none t [] h = refl
cut_none t (c ∷ cs) h = cond-true (nat_lt c.tag t) (c ∷ cs) (cut_to t cs) (lt-ltb c.tag t h.0)

-- a choice that isn't older is cut
cut_pushed : (t : ℕ) (c : Live) (cs : List Live) → t ≤ c.tag → cut_to t (pushed c cs) ≡ cut_to t cs
cut_pushed t c cs le =
    cond_both (stays c.kind c.others) (c ∷ cs) cs (λ l. cut_to t l ≡ cut_to t cs) (λ e. cond-false (nat_lt c.tag t) (c ∷ cs) (cut_to t cs) (le-ltb c.tag t le)) (λ e. refl)

pub holds_older : (t u : ℕ) (ctx : List Around) → Older u ctx → Holds ctx t → t < u
holds_older t u [] o h = absurd h
holds_older t u (InBranch k v others ∷ ctx) o (inl e) = omega (arith, o.0)
holds_older t u (InBranch k v others ∷ ctx) o (inr h) = holds_older t u ctx o.1 h
holds_older t u (InCut v ∷ ctx) o h = holds_older t u ctx o h

min_holds : (t u : ℕ) (ctx : List Around) → Holds ctx t → Holds ctx u → Holds ctx (min t u)
min_holds t u ctx h k =
    elim (cases_lt t u) [
      | inl lt ↦ let m : t ≡ min t u = omega arith in subst (Holds ctx) m h
      | inr ge ↦ let m : u ≡ min t u = omega arith in subst (Holds ctx) m k
    ]

-- ## Leaving a first branch

pub without_head : (t : ℕ) (gs : List Gathering) (ts : List ℕ) → tags_of gs ≡ t ∷ ts → (gathered_without t gs ≡ drop 1 gs) × (tags_of (gathered_without t gs) ≡ ts)
without_head t [] ts e = absurd (cc)
without_head t (g ∷ gs) ts e =
    let head : g.tag ≡ t = cc in
    let tail : tags_of gs ≡ ts = cc in
    let is = cond-true (eqb g.tag t) gs (g ∷ gathered_without t gs) (eq-eqb g.tag t head) in
    (is, ap tags_of is ∙ tail)

-- a value more in a gathering opens and closes none
pub tags_kept : (t : ℕ) (x : Value) (gs : List Gathering) → tags_of (gathered_with t x gs) ≡ tags_of gs
tags_kept t x [] = refl
tags_kept t x (g ∷ gs) =
    cond_both (eqb g.tag t) (record g { values = g.values ++ x ∷ [] } ∷ gs) (g ∷ gathered_with t x gs) (λ l. tags_of l ≡ g.tag ∷ tags_of gs) (λ e. refl) (λ e. ap (λ l. g.tag ∷ l) (tags_kept t x gs))

pub length_tags : (gs : List Gathering) → length (tags_of gs) ≡ length gs
length_tags [] = refl
length_tags (g ∷ gs) = ap suc (length_tags gs)

pub record Left (k : ChoiceKind) (t : ℕ) (w : World) (ctx : List Around) : Type 0 where
  pub drops : Drops w (leave k t w)
  pub opens : Opens (leave k t w) ctx

pub leaving : (k : ChoiceKind) (t : ℕ) (others : List Branch) (w : World) (ctx : List Around) → Opens w (InBranch k t others ∷ ctx) → Left k t w ctx
leaving Plain t others w ctx o = record { drops = drops_nothing w; opens = o }
leaving (Rules q) t others w ctx o = record { drops = drops_nothing w; opens = o }
leaving Shield t others w ctx o = record { drops = drops_nothing w; opens = o }
leaving Gathers t others w ctx o =
    let h = without_head t w.gathered (gathers ctx) o in
    record {
      drops = record { count = 1; is = ap (λ (l : List Gathering). record w { gathered = l }) h.0 };
      opens = h.1;
    }

-- ## Failing behind a cut

-- the result leads to a failure in a part of the context, whose choices are these
pub record FailsIn (s : Search) (ctx : List Around) (n : ℕ) (w : World) (r : Result) (choices : List Live) : Type 0 where
  pub at : List Around
  pub world : World
  pub same : unwind s ctx n w r ≡ unwind s at n world Failing
  pub choices_are : live at ≡ choices
  pub sound : Sound at
  pub opens : Opens world at
  pub shorter : length at ≤ length ctx
  pub drops : Drops w world

pub cut_fails : (s : Search) (ctx : List Around) (n : ℕ) (w : World) (t : ℕ) → Sound ctx → Opens w ctx → Holds ctx t → FailsIn s ctx n w (CutFail t) (cut_to t (live ctx))
cut_fails s [] n w t sound o h = absurd h
cut_fails s (InCut u ∷ ctx) n w t sound o h =
    let inner = cut_fails s ctx n w (min t u) sound.1 o (min_holds t u ctx h sound.0) in
    record { at = inner.at; world = inner.world; same = inner.same; choices_are = inner.choices_are ∙ sym (cut_min t u (live ctx)); sound = inner.sound; opens = inner.opens; shorter = omega (arith, inner.shorter); drops = inner.drops }
cut_fails s (InBranch k u others ∷ ctx) n w t sound o h =
    let v = leave k u w in
    let left = leaving k u others w ctx o in
    elim (cases_eq t u) [
      | inl e ↦ record {
        at = ctx;
        world = v;
        same = ap (unwind s ctx n v) (cond-true (eqb t u) Failing (CutFail t) (eq-eqb t u e));
        choices_are =
            sym (cut_none t (live ctx) (live_below t ctx (subst (λ x. Older x ctx) (sym e) sound.0)))
            ∙ sym (cut_pushed t (live_of k u others ctx) (live ctx) (omega arith));
        sound = sound.1;
        opens = left.opens;
        shorter = omega arith;
        drops = left.drops;
      }
      | inr ne ↦
          let inside : Holds ctx t = elim h [ inl e ↦ absurd (ne e) | inr x ↦ x ] in
          let inner = cut_fails s ctx n v t sound.1 left.opens inside in
          let lt = holds_older t u ctx sound.0 inside in
          record {
            at = inner.at;
            world = inner.world;
            same = ap (unwind s ctx n v) (cond-false (eqb t u) Failing (CutFail t) (ne_eqb t u ne)) ∙ inner.same;
            choices_are = inner.choices_are ∙ sym (cut_pushed t (live_of k u others ctx) (live ctx) (omega arith));
            sound = inner.sound;
            opens = inner.opens;
            shorter = omega (arith, inner.shorter);
            drops = drops_on w v inner.world left.drops inner.drops;
          }
    ]

-- ## Failing

-- the branches behind the first do not see a stop
later_branch : (k : ChoiceKind) (t n : ℕ) (w : World) (r : Result) (next : ℕ → World → Answer) (stopped stopped' : Option ℕ → ℕ → World → Answer) → after_branch (later k) t n w r next stopped ≡ after_branch (later k) t n w r next stopped'
later_branch k t n w Failing next stopped stopped' = refl
later_branch k t n w (CutFail u) next stopped stopped' = refl
later_branch Plain t n w (StopTo x c) next stopped stopped' = refl
later_branch (Rules q) t n w (StopTo x c) next stopped stopped' = refl
later_branch Shield t n w (StopTo x c) next stopped stopped' = refl
later_branch Gathers t n w (StopTo x c) next stopped stopped' = refl
later_branch k t n w (End e) next stopped stopped' = refl

pub later_twice : (k : ChoiceKind) → later (later k) ≡ later k
later_twice Plain = refl
later_twice (Rules q) = refl
later_twice Shield = refl
later_twice Gathers = refl

-- another branch of a choice begins
pub others_begin : (s : Search) (ctx : List Around) (k : ChoiceKind) (t : ℕ) (b : Branch) (bs : List Branch) (n : ℕ) (w : World) → (let a = choose s (later k) t (b ∷ bs) n w in unwind s ctx a.left a.world a.result) ≡ (let a = begin s b n (retried (later k) w) in unwind s (InBranch (later k) t bs ∷ ctx) a.left a.world a.result)
others_begin s ctx k t b bs n w =
    let a = begin s b n (retried (later k) w) in
    ap (λ (x : Answer). unwind s ctx x.left x.world x.result) (later_branch k t a.left a.world a.result (choose s (later k) t bs) (λ c. choose s (later k) t bs) (λ c. choose s (later k) t (branches_cut t c bs)))
    ∙ ap (λ j. let x = after_branch (later k) t a.left a.world a.result (choose s j t bs) (λ c. choose s j t (branches_cut t c bs)) in unwind s ctx x.left x.world x.result) (sym (later_twice k))

-- a failure goes to the newest choice that is kept, or is the run's
pub data Fails (s : Search) (ctx : List Around) (n : ℕ) (w : World) : List Live → Type 0 where
  run_fails : (v : World) → Drops w v → unwind s ctx n w Failing ≡ run_of (answer n v Failing) → Fails s ctx n w []
  resumes : (k : ChoiceKind) → (t : ℕ) → (others : List Branch) → (at : List Around) → (v : World) → Drops w v →
      unwind s ctx n w Failing ≡ (let a = choose s (later k) t others n v in unwind s at a.left a.world a.result) → Sound (InBranch k t others ∷ at) → Opens v (InBranch k t others ∷ at) → Fails s ctx n w (live_of k t others at ∷ live at)

fails_in : (s : Search) (ctx at : List Around) (n : ℕ) (w v : World) → Drops w v → unwind s ctx n w Failing ≡ unwind s at n v Failing → (cs : List Live) → Fails s at n v cs → Fails s ctx n w cs
fails_in s ctx at n w v e same cs (run_fails u f g) = run_fails u (drops_on w v u e f) (same ∙ g)
fails_in s ctx at n w v e same cs (resumes k t others a u f g sound o) = resumes k t others a u (drops_on w v u e f) (same ∙ g) sound o

-- no first branch that gathers is without a branch behind it
pub opens_outside : (k : ChoiceKind) (t : ℕ) (ctx : List Around) (w : World) → TakesOut k t [] → Opens w (InBranch k t [] ∷ ctx) → Opens w ctx
opens_outside Plain t ctx w h o = o
opens_outside (Rules q) t ctx w h o = o
opens_outside Shield t ctx w h o = o
opens_outside Gathers t ctx w h o = absurd h

pub opens_exhausted : (k : ChoiceKind) (ctx : List Around) (w : World) → Opens w ctx → Opens (exhausted k w) ctx
opens_exhausted Plain ctx w o = o
opens_exhausted (Rules q) ctx w o = o
opens_exhausted Shield ctx w o = o
opens_exhausted Gathers ctx w o = o

fails_within : (s : Search) (m : ℕ) (ctx : List Around) (n : ℕ) (w : World) → length ctx ≤ m → Sound ctx → Opens w ctx → Fails s ctx n w (live ctx)
fails_within s m [] n w le sound o = run_fails w (drops_nothing w) refl
fails_within s m (InBranch (Rules q) t others ∷ ctx) n w le sound o = resumes (Rules q) t others ctx w (drops_nothing w) refl sound o
fails_within s m (InBranch Plain t (b ∷ bs) ∷ ctx) n w le sound o = resumes Plain t (b ∷ bs) ctx w (drops_nothing w) refl sound o
fails_within s m (InBranch Shield t (b ∷ bs) ∷ ctx) n w le sound o = resumes Shield t (b ∷ bs) ctx w (drops_nothing w) refl sound o
fails_within s m (InBranch Gathers t (b ∷ bs) ∷ ctx) n w le sound o = resumes Gathers t (b ∷ bs) ctx w (drops_nothing w) refl sound o
fails_within s zero (InBranch k t [] ∷ ctx) n w le sound o = absurd (omega arith)
fails_within s zero (InCut t ∷ ctx) n w le sound o = absurd (omega arith)
fails_within s (suc m) (InBranch Plain t [] ∷ ctx) n w le sound o = fails_in s (InBranch Plain t [] ∷ ctx) ctx n w w (drops_nothing w) refl (live ctx) (fails_within s m ctx n w (omega arith) sound.1 o)
fails_within s (suc m) (InBranch Shield t [] ∷ ctx) n w le sound o = fails_in s (InBranch Shield t [] ∷ ctx) ctx n w w (drops_nothing w) refl (live ctx) (fails_within s m ctx n w (omega arith) sound.1 o)
fails_within s (suc m) (InBranch Gathers t [] ∷ ctx) n w le sound o = absurd sound.3
fails_within s (suc m) (InCut t ∷ ctx) n w le sound o =
    let f = cut_fails s ctx n w t sound.1 o sound.0 in
    fails_in s (InCut t ∷ ctx) f.at n w f.world f.drops f.same (cut_to t (live ctx))
    (subst (Fails s f.at n f.world) f.choices_are (fails_within s m f.at n f.world (omega (arith, f.shorter)) f.sound f.opens))

pub fails : (s : Search) (ctx : List Around) (n : ℕ) (w : World) → Sound ctx → Opens w ctx → Fails s ctx n w (live ctx)
fails s ctx n w sound o = fails_within s (length ctx) ctx n w (omega arith) sound o

-- ## Stopping

pub shield_older : (t u : ℕ) (ctx : List Around) → Older u ctx → Shielded ctx t → t < u
shield_older t u [] o h = absurd h
shield_older t u (InBranch Shield v others ∷ ctx) o (inl e) = omega (arith, o.0)
shield_older t u (InBranch Shield v others ∷ ctx) o (inr h) = shield_older t u ctx o.1 h
shield_older t u (InBranch Plain v others ∷ ctx) o h = shield_older t u ctx o.1 h
shield_older t u (InBranch (Rules q) v others ∷ ctx) o h = shield_older t u ctx o.1 h
shield_older t u (InBranch Gathers v others ∷ ctx) o h = shield_older t u ctx o.1 h
shield_older t u (InCut v ∷ ctx) o h = shield_older t u ctx o h

-- the choices that were cut before a stop
abbrev pub cut_opt : Option ℕ → List Live → List Live
cut_opt None cs = cs
cut_opt (Some c) cs = cut_to c cs

-- the choices that are left behind a cut before the way on of t
abbrev pub resumed_at : ℕ → Option ℕ → List Live → List Live
resumed_at t None cs = cs
resumed_at t (Some c) cs = if nat_lt c t then cut_to c cs else cs

-- what was cut before a stop to t is newer than it, or around
abbrev pub Held : List Around → ℕ → Option ℕ → Type 0
Held ctx t None = Unit {0}
Held ctx t (Some c) = (t < c) ⊎ Holds ctx c

pub held_min : (ctx : List Around) (t c u : ℕ) → Holds ctx u → (t < c) ⊎ Holds ctx c → (t < min c u) ⊎ Holds ctx (min c u)
held_min ctx t c u h held =
    elim (cases_lt c u) [
      | inl lt ↦ let m : c ≡ min c u = omega arith in subst (λ x. (t < x) ⊎ Holds ctx x) m held
      | inr ge ↦ let m : u ≡ min c u = omega arith in inr (subst (Holds ctx) m h)
    ]

pub held_outside : (k : ChoiceKind) (u : ℕ) (others : List Branch) (ctx : List Around) (t : ℕ) (c : Option ℕ) → t < u → Held (InBranch k u others ∷ ctx) t c → Held ctx t c
held_outside k u others ctx t None lt h = tt
held_outside k u others ctx t (Some c) lt (inl h) = inl h
held_outside k u others ctx t (Some c) lt (inr (inl e)) = inl (omega arith)
held_outside k u others ctx t (Some c) lt (inr (inr h)) = inr h

pub held_plain : (u : ℕ) (others : List Branch) (ctx : List Around) (t : ℕ) (c : Option ℕ) → Held (InBranch Shield u others ∷ ctx) t c → Held (InBranch Plain u [] ∷ ctx) t c
held_plain u others ctx t None h = tt
held_plain u others ctx t (Some c) h = h

-- a stop goes to the stoppable part t, whose way on begins behind a cut
pub record Stops (s : Search) (ctx : List Around) (n : ℕ) (w : World) (t : ℕ) (c : Option ℕ) : Type 0 where
  pub others : List Branch
  pub at : List Around
  pub world : World
  pub cut : Option ℕ
  pub same : unwind s ctx n w (StopTo t c) ≡ (let a = choose s Plain t (branches_cut t cut others) n world in unwind s at a.left a.world a.result)
  pub sound : Sound (InBranch Shield t others ∷ at)
  pub opens : Opens world at
  pub held : Held (InBranch Plain t [] ∷ at) t cut
  pub drops : Drops w world
  pub way : way_to t (ways ctx) ≡ Some (record { tag = t; others = others; height = length (gathers at) }, ways at)
  pub choices : cut_to t (cut_opt c (live ctx)) ≡ resumed_at t cut (live at)

-- a choice that isn't older is cut by a stop
passes : (t : ℕ) (c : Option ℕ) (x : Live) (cs : List Live) → t ≤ x.tag → cut_to t (cut_opt c (pushed x cs)) ≡ cut_to t (cut_opt c cs)
passes t None x cs le = cut_pushed t x cs le
passes t (Some c) x cs le = cut_min t c (pushed x cs) ∙ cut_pushed (min t c) x cs (omega arith) ∙ sym (cut_min t c cs)

itself : (t : ℕ) (c : Option ℕ) (at : List Around) → Older t at → cut_to t (cut_opt c (live at)) ≡ resumed_at t c (live at)
itself t None at older = cut_none t (live at) (live_below t at older)
itself t (Some c) at older =
    cut_min t c (live at) ∙
    elim (cases_lt c t) [
      | inl h ↦ let m : min t c ≡ c = omega arith in ap (λ x. cut_to x (live at)) m ∙ sym (cond-true (nat_lt c t) (cut_to c (live at)) (live at) (lt-ltb c t h))
      | inr h ↦ let m : min t c ≡ t = omega arith in ap (λ x. cut_to x (live at)) m ∙ cut_none t (live at) (live_below t at older) ∙ sym (cond-false (nat_lt c t) (cut_to c (live at)) (live at) (le-ltb c t h))
    ]

caught : (s : Search) (u : ℕ) (others : List Branch) (ctx : List Around) (n : ℕ) (w : World) (t : ℕ) (c : Option ℕ) → t ≡ u → unwind s (InBranch Shield u others ∷ ctx) n w (StopTo t c) ≡ (let a = choose s Plain t (branches_cut t c others) n w in unwind s ctx a.left a.world a.result)
caught s u others ctx n w t c e =
    ap (λ (a : Answer). unwind s ctx a.left a.world a.result) (cond-true (eqb t u) (choose s Plain u (branches_cut u c others) n w) (answer n w (StopTo t c)) (eq-eqb t u e))
    ∙ ap (λ x. let a = choose s Plain x (branches_cut x c others) n w in unwind s ctx a.left a.world a.result) (sym e)

not_caught : (s : Search) (u : ℕ) (others : List Branch) (ctx : List Around) (n : ℕ) (w : World) (t : ℕ) (c : Option ℕ) → (t ≡ u → ⊥) → unwind s (InBranch Shield u others ∷ ctx) n w (StopTo t c) ≡ unwind s ctx n w (StopTo t c)
not_caught s u others ctx n w t c ne =
    ap (λ (a : Answer). unwind s ctx a.left a.world a.result) (cond-false (eqb t u) (choose s Plain u (branches_cut u c others) n w) (answer n w (StopTo t c)) (ne_eqb t u ne))

way_passes : (t u : ℕ) (others : List Branch) (ctx : List Around) → t < u → way_to t (ways (InBranch Shield u others ∷ ctx)) ≡ way_to t (ways ctx)
way_passes t u others ctx lt =
    let x : Way = record { tag = u; others = others; height = length (gathers ctx) } in
    cond-false (eqb u t) (Some (x, ways ctx)) (way_to t (ways ctx)) (ne_eqb u t (λ e. omega arith))

-- the stop passes a branch that isn't the part's
stops_past : (s : Search) (k : ChoiceKind) (u : ℕ) (others : List Branch) (ctx : List Around) (n : ℕ) (w v : World) (t : ℕ) (c : Option ℕ) → Older u ctx → Shielded ctx t → Drops w v → unwind s (InBranch k u others ∷ ctx) n w (StopTo t c) ≡ unwind s ctx n v (StopTo t c) → way_to t (ways (InBranch k u others ∷ ctx)) ≡ way_to t (ways ctx) → Stops s ctx n v t c → Stops s (InBranch k u others ∷ ctx) n w t c
stops_past s k u others ctx n w v t c older h drops same way i =
    let lt = shield_older t u ctx older h in
    record {
      others = i.others;
      at = i.at;
      world = i.world;
      cut = i.cut;
      same = same ∙ i.same;
      sound = i.sound;
      opens = i.opens;
      held = i.held;
      drops = drops_on w v i.world drops i.drops;
      way = way ∙ i.way;
      choices = passes t c (live_of k u others ctx) (live ctx) (omega arith) ∙ i.choices;
    }

-- and a mark
stops_marked : (s : Search) (u : ℕ) (ctx : List Around) (n : ℕ) (w : World) (t : ℕ) (c d : Option ℕ) → unwind s (InCut u ∷ ctx) n w (StopTo t c) ≡ unwind s ctx n w (StopTo t d) → cut_opt c (cut_to u (live ctx)) ≡ cut_opt d (live ctx) → Stops s ctx n w t d → Stops s (InCut u ∷ ctx) n w t c
stops_marked s u ctx n w t c d same cuts i = record {
  others = i.others;
  at = i.at;
  world = i.world;
  cut = i.cut;
  same = same ∙ i.same;
  sound = i.sound;
  opens = i.opens;
  held = i.held;
  drops = i.drops;
  way = i.way;
  choices = ap (cut_to t) cuts ∙ i.choices;
}

pub stops : (s : Search) (ctx : List Around) (n : ℕ) (w : World) (t : ℕ) (c : Option ℕ) → Sound ctx → Opens w ctx → Shielded ctx t → Held ctx t c → Stops s ctx n w t c
stops s [] n w t c sound o h held = absurd h
stops s (InCut u ∷ ctx) n w t None sound o h held = stops_marked s u ctx n w t None (Some u) refl refl (stops s ctx n w t (Some u) sound.1 o h (inr sound.0))
stops s (InCut u ∷ ctx) n w t (Some c) sound o h held = stops_marked s u ctx n w t (Some c) (Some (min c u)) refl (cut_min c u (live ctx)) (stops s ctx n w t (Some (min c u)) sound.1 o h (held_min ctx t c u sound.0 held))
stops s (InBranch Plain u others ∷ ctx) n w t c sound o h held =
    stops_past s Plain u others ctx n w w t c sound.0 h (drops_nothing w) refl refl (stops s ctx n w t c sound.1 o h (held_outside Plain u others ctx t c (shield_older t u ctx sound.0 h) held))
stops s (InBranch (Rules q) u others ∷ ctx) n w t c sound o h held =
    stops_past s (Rules q) u others ctx n w w t c sound.0 h (drops_nothing w) refl refl (stops s ctx n w t c sound.1 o h (held_outside (Rules q) u others ctx t c (shield_older t u ctx sound.0 h) held))
stops s (InBranch Gathers u others ∷ ctx) n w t c sound o h held =
    let left = leaving Gathers u others w ctx o in
    stops_past s Gathers u others ctx n w (leave Gathers u w) t c sound.0 h left.drops refl refl (stops s ctx n (leave Gathers u w) t c sound.1 left.opens h (held_outside Gathers u others ctx t c (shield_older t u ctx sound.0 h) held))
stops s (InBranch Shield u others ∷ ctx) n w t c sound o (inl e) held =
    let back = sym e in
    let older = subst (λ v. Older v ctx) back sound.0 in
    subst (λ v. Stops s (InBranch Shield v others ∷ ctx) n w t c) e (record {
      others = others;
      at = ctx;
      world = w;
      cut = c;
      same = caught s t others ctx n w t c refl;
      sound = subst (λ v. Sound (InBranch Shield v others ∷ ctx)) back sound;
      opens = o;
      held = subst (λ v. Held (InBranch Plain v [] ∷ ctx) t c) back (held_plain u others ctx t c held);
      drops = drops_nothing w;
      way = let x : Way = record { tag = t; others = others; height = length (gathers ctx) } in cond-true (eqb t t) (Some (x, ways ctx)) (way_to t (ways ctx)) (eq-eqb t t refl);
      choices = passes t c (live_of Shield t others ctx) (live ctx) (omega arith) ∙ itself t c ctx older;
    })
stops s (InBranch Shield u others ∷ ctx) n w t c sound o (inr h) held =
    let lt = shield_older t u ctx sound.0 h in
    stops_past s Shield u others ctx n w w t c sound.0 h (drops_nothing w) (not_caught s u others ctx n w t c (λ e. omega arith)) (way_passes t u others ctx lt) (stops s ctx n w t c sound.1 o h (held_outside Shield u others ctx t c lt held))
