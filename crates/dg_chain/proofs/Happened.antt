-- What a machine has printed was printed in each run that comes from there.
use Rattle.std.proofs.Common.{◌≡◌, ℕ, ◌<◌, ◌≤◌, List, [], ◌∷◌, ◌++◌, length, ⊎_elim, refl, ap, ◌∙◌, subst, arith, length-append}
use Rattle.std.proofs.lemmas.Bool.{cases_lt}
use Rattle.std.proofs.lemmas.List.{append-nil}
use Rattle.dg_meaning.specs.World.{Game, World, Event, Print, prints}
use Rattle.dg_meaning.specs.Path.{ChoiceKind, Branch, Moves, FailsAt}
use Rattle.dg_meaning.specs.Moves.{begins, exhausted}
use Rattle.dg_meaning.specs.Render.{nothing_met, met_from, render, render_from}
use Rattle.dg_meaning.specs.Transcript.{Run, text_of}
use Rattle.dg_meaning.specs.inside.OneRun.{Grows}
use Rattle.dg_base.specs.Begins.{Begins}
use Rattle.dg_meaning.specs.inside.Context.{Live, Way as WayOn, pushed}
use Rattle.dg_meaning.specs.inside.Keeps.{Tried}
use Rattle.dg_meaning.proofs.OneRun.{begins_same, grows_on, exhausted_grows}
use Rattle.dg_meaning.proofs.Search.{beginning_grows}
use Rattle.dg_meaning.proofs.Keeps.{stands_happened, has_happened}
use Rattle.dg_meaning.proofs.Dropping.{prints_append}
use Rattle.dg_rt.proofs.Counted.{render_on}
use Rattle.dg_mid.specs.State.{Status, Runs, Enters, Resumes, Fails, Ended}
use Rattle.dg_mid.specs.Step.{Setting}
use Rattle.dg_mid.specs.Potential.{IsOver}
use Rattle.dg_mid.specs.Reads.{At}

-- ## Texts

-- more events have a longer text
pub text_grows : (xs ys : List Event) → Begins xs ys → Begins (text_of xs) (text_of ys)
unfolding render
text_grows xs ys h = record {
  behind = render_from (met_from nothing_met (prints xs)) (prints h.behind);
  is = ap text_of h.is ∙ ap render (prints_append xs h.behind) ∙ render_on nothing_met (prints xs) (prints h.behind);
}

-- ## Runs

tried_happened : (g : Game) (k : ChoiceKind) (t height : ℕ) (ws : List WayOn) (cs : List Live) (bs : List Branch) (n : ℕ) (w : World) (run : Run) → Tried g k t height ws cs bs n w run → Grows w run.world
tried_happened g k t height ws cs [] n w run h = grows_on w (exhausted k w) run.world (exhausted_grows k w) (has_happened g cs ws n (Moves (FailsAt (exhausted k w))) run h)
tried_happened g k t height ws cs (b ∷ bs) n w run h =
    grows_on w _ run.world (beginning_grows b w) (has_happened g (pushed (record { kind = k; tag = t; others = bs; height = height; ways_on = ws }) cs) ws n (Moves (begins b w)) run h)

-- what was printed in a world of a run
pub record WasPrinted (ps : List Print) (run : Run) : Type 0 where
  pub world : World
  pub printed : prints world.events ≡ ps
  pub grows : Grows world run.world

pub at_happened : (s : Setting) (g : Game) (now : Status) (ps : List Print) (n : ℕ) (w : World) (run : Run) → At s now ps g n w run → (IsOver now → ⊥) → WasPrinted ps run
at_happened s g (Runs m) ps n w run h on = record { world = w; printed = h.mirrors.printed_is; grows = stands_happened g h.lives h.ways _ n w run h.stands }
at_happened s g (Enters call m) ps n w run h on =
    record { world = w; printed = h.mirrors.printed_is; grows = grows_on w _ run.world (beginning_grows _ w) (has_happened g h.lives h.ways n (Moves (begins _ w)) run h.began) }
at_happened s g (Resumes way m) ps n w run h on = record { world = w; printed = h.mirrors.printed_is; grows = tried_happened g h.live.kind h.live.tag h.live.height h.live.ways_on h.lives h.live.others n w run h.tried }
at_happened s g (Fails m) ps n w run h on = record { world = w; printed = h.printed; grows = has_happened g h.lives [] n (Moves (FailsAt w)) run h.failed }
at_happened s g (Ended e) ps n w run h on = absurd (on tt)

-- their text begins that of the run
pub printed_begins : (ps : List Print) (run : Run) → WasPrinted ps run → Begins (render ps) (text_of run.world.events)
printed_begins ps run h = subst (λ (l : List Print). Begins (render l) (text_of run.world.events)) h.printed (text_grows h.world.events run.world.events h.grows.events)

-- ## Of two parts of a list the longer

shorter_begins : {A : Type 0} (q p w : List A) → Begins q w → Begins p w → length q ≤ length p → Begins q p
shorter_begins [] p w h k le = record { behind = p; is = refl }
shorter_begins (x ∷ q) [] w h k le = absurd (omega arith)
shorter_begins (x ∷ q) (y ∷ p) [] h k le = let e : [] ≡ x ∷ (q ++ h.behind) = h.is in absurd (cc)
shorter_begins {A = A} (x ∷ q) (y ∷ p) (z ∷ w) h k le =
    let e : z ∷ w ≡ x ∷ (q ++ h.behind) = h.is in
    let f : z ∷ w ≡ y ∷ (p ++ k.behind) = k.is in
    let inner = shorter_begins q p w (record { behind = h.behind; is = cc }) (record { behind = k.behind; is = cc }) (omega arith) in
    let same : y ≡ x = cc in
    record { behind = inner.behind; is = ap (λ (a : A). a ∷ p) same ∙ ap (λ (l : List A). x ∷ l) inner.is }

nothing_more : {A : Type 0} (xs b c : List A) → xs ≡ (xs ++ b) ++ c → b ≡ []
nothing_more xs [] c e = refl
nothing_more xs (x ∷ b) c e = absurd (omega (arith, ap length e, length-append (xs ++ x ∷ b) c, length-append xs (x ∷ b)))

-- A part of a run's events that prints this, behind one part and up to another.
pub record IsPart (printed : List Print) (before after : List Event) : Type 0 where
  pub part : List Event
  pub prints_are : prints part ≡ printed
  pub until : Begins part after
  pub since : Begins before part

pub part_of : (p q w : List Event) → Begins p w → Begins q w → Begins (prints q) (prints p) → IsPart (prints p) q w
part_of p q w h k b = ⊎_elim shorter longer (cases_lt (length p) (length q))
  where
    shorter : length p < length q → IsPart (prints p) q w
    shorter lt =
        let more = shorter_begins p q w h k (omega arith) in
        let split : prints q ≡ prints p ++ prints more.behind = ap prints more.is ∙ prints_append p more.behind in
        let none : prints more.behind ≡ [] = nothing_more (prints p) (prints more.behind) b.behind (b.is ∙ ap (λ (l : List Print). l ++ b.behind) split) in
        record { part = q; prints_are = split ∙ ap (λ (l : List Print). prints p ++ l) none ∙ append-nil (prints p); until = k; since = begins_same q }

    longer : length q ≤ length p → IsPart (prints p) q w
    longer le = record { part = p; prints_are = refl; until = h; since = shorter_begins q p w k h le }
