-- What the taking of a goal comes to, and limits that are met.
use Rattle.std.proofs.Common.{◌≡◌, ℕ, zero, suc, ◌+◌, ◌<◌, ◌≤◌, List, [], ◌∷◌, ◌++◌, refl, sym, ap, ◌∙◌, subst, arith, length, length-append}
use Rattle.std.specs.Prelude.{nat_lt, if◌then◌else◌, ◌-◌, take}
use Rattle.std.proofs.lemmas.Bool.{cond_both, ltb-true, lt-ltb}
use Rattle.dg_base.specs.declared.program.Goal.{Goal, Goal-F, out-Goal}
use Rattle.dg_base.specs.declared.run.Ending.{Ending}
use Rattle.dg_base.specs.declared.run.Ending.TheVariants as ending
use Rattle.dg_base.specs.Goals.{terms_held}
use Rattle.dg_meaning.specs.Substitutions.{Substitution}
use Rattle.dg_meaning.specs.Unify.{Unified}
use Rattle.dg_meaning.specs.World.{Game, World, Gathering, Print, gathered_size, prints, worked}
use Rattle.dg_meaning.specs.Cells.{writing}
use Rattle.dg_meaning.specs.Path.{Step, Do, Registers, Branch, ChoiceKind, Move, FailsAt as MoveFails, Moves}
use Rattle.dg_meaning.specs.Moves.{path_of, exhausted, begun, begins, behind_terms, outcome, made_since, older_bound}
use Rattle.dg_meaning.specs.Transcript.{Run}
use Rattle.dg_meaning.specs.inside.OneRun.{Grows}
use Rattle.dg_meaning.specs.inside.Context.{Way as WayOn, Live}
use Rattle.dg_meaning.specs.inside.Keeps.{Went, Tried, Began, After, world_at}
use Rattle.dg_meaning.proofs.Keeps.{has_happened, stands_happened}
use Rattle.dg_meaning.proofs.Search.{beginning_grows, outcome_grows}
use Rattle.dg_meaning.proofs.OneRun.{grows_on, grows_same, exhausted_grows}
use Rattle.dg_unify.specs.Store.{trail_for, trail_of}
use Rattle.dg_mid.specs.declared.code.Code.{Code}
use Rattle.dg_mid.specs.State.{Mid, Status, Runs, Enters, Resumes, Fails, Ended, vars_of, cut_of}
use Rattle.dg_mid.specs.Step.{Setting, gathers, keeps_within, charged, unified, bound, trail_more, if_agreed, said_to, followed}
use Rattle.dg_mid.specs.Reads.{silents, EndedAt, Comes, At}
use Rattle.dg_mid.proofs.Here.{Here, after as comes_of}

-- ## What has happened

pub went_grows : (g : Game) (lives : List Live) (ways : List WayOn) (n : ℕ) (m : Move) (run : Run) → Went g lives ways n m run → Grows (world_at m) run.world
went_grows g lives ways n m run h = has_happened g lives ways n (Moves m) run h

pub began_grows : (g : Game) (lives : List Live) (ways : List WayOn) (b : Branch) (n : ℕ) (w : World) (run : Run) → Began g lives ways b n w run → Grows w run.world
began_grows g lives ways b n w run h = grows_on w (world_at (begins b w)) run.world (beginning_grows b w) (went_grows g lives ways n (begins b w) run h)

-- ## A goal

module _ (code : Code) (m : Mid) (ps : List Print) (steps : List Step) (g : Game) (n : ℕ) (w : World) (run : Run) (x : Goal) (f : Goal-F Goal) (is : out-Goal x ≡ f) (h : Here code m ps (Do x (vars_of m.frames) (cut_of m.frames).tag ∷ steps) g (suc n) w run) where
  -- the registers behind its terms
  abbrev pub behind : Registers
  behind = behind_terms g f h.registers

  -- the world in which it is taken
  abbrev pub taken_in : World
  taken_in = begun behind (writing (terms_held f)) (worked 1 w)

  -- what comes of it
  pub comes : After g h.lives h.ways n (outcome g f (vars_of m.frames) (cut_of m.frames).tag steps behind taken_in) run
  comes = comes_of code m ps steps g n w run x f is h

  pub taken_grows : Grows taken_in run.world
  taken_grows = grows_on taken_in _ run.world (outcome_grows g f (vars_of m.frames) (cut_of m.frames).tag steps behind taken_in) (has_happened g h.lives h.ways n (outcome g f (vars_of m.frames) (cut_of m.frames).tag steps behind taken_in) run comes)

-- ## Limits

-- a limit is met in some world of the run
pub record Met (set : Setting) (e : Ending) (ps : List Print) (g : Game) (n : ℕ) (run : Run) : Type 0 where
  pub world : World
  pub at : At set (Ended e) ps g n world run
  pub grows : Grows world run.world

-- the heap is full where these registers were reached
pub heap_full : (set : Setting) (m : Mid) (ps : List Print) (k : ℕ) (w : World) (g : Game) (n : ℕ) (run : Run) → prints w.events ≡ ps → m.state.heap + k ≤ w.meters.heap → Grows w run.world → set.limits.heap < m.state.heap + k → Met set ending.HeapLimit ps g n run
heap_full set m ps k w g n run printed reached grows full = record { world = w; at = record { passes = omega (arith, grows.meters.heap); printed = printed; happened = grows }; grows = grows }

-- the trail is full where these registers were reached
pub trail_full : (set : Setting) (ps : List Print) (k : ℕ) (w : World) (g : Game) (n : ℕ) (run : Run) → prints w.events ≡ ps → k ≤ w.meters.trail → Grows w run.world → set.limits.trail < k → Met set ending.TrailLimit ps g n run
trail_full set ps k w g n run printed reached grows full = record { world = w; at = record { passes = omega (arith, grows.meters.trail); printed = printed; happened = grows }; grows = grows }

-- too much is gathered in this world
pub aux_full : (set : Setting) (ps : List Print) (k : ℕ) (w : World) (g : Game) (n : ℕ) (run : Run) → prints w.events ≡ ps → k ≤ w.meters.aux → Grows w run.world → set.limits.aux < k → Met set ending.AuxLimit ps g n run
aux_full set ps k w g n run printed reached grows full = record { world = w; at = record { passes = omega (arith, grows.meters.aux); printed = printed; happened = grows }; grows = grows }

-- too much is kept in this world
pub keep_full : (set : Setting) (ps : List Print) (k : ℕ) (w : World) (g : Game) (n : ℕ) (run : Run) → prints w.events ≡ ps → k ≤ w.meters.keep → Grows w run.world → set.limits.keep < k → Met set ending.KeepLimit ps g n run
keep_full set ps k w g n run printed reached grows full = record { world = w; at = record { passes = omega (arith, grows.meters.keep); printed = printed; happened = grows }; grows = grows }

-- ## Trails

take_front : {A : Type 0} (made S : List A) → take (length made) (made ++ S) ≡ made
take_front [] S = refl
take_front (x ∷ made) S = ap (λ l. x ∷ l) (take_front made S)

pub made_is : (made S S' : Substitution) → S' ≡ made ++ S → made_since S S' ≡ made
made_is made S S' e = let n : length S' - length S ≡ length made = omega (arith, ap length e ∙ length-append made S) in ap (λ k. take k S') n ∙ ap (take (length made)) e ∙ take_front made S

one_less : (since n x : ℕ) → since ≤ n → trail_for since x ≤ (if nat_lt x n then 1 else 0)
one_less since n x le =
    cond_both (nat_lt x since) 1 0 (λ k. k ≤ (if nat_lt x n then 1 else 0))
    (λ e. let less : x < n = omega (arith, ltb-true x since e) in subst (λ b. 1 ≤ (if b then 1 else 0)) (sym (lt-ltb x n less)) (omega arith)) (λ e. omega arith)

pub trail_older : (since n : ℕ) (made : Substitution) → since ≤ n → trail_of since made ≤ older_bound n made
trail_older since n [] le = omega arith
trail_older since n (p ∷ made) le = let here = one_less since n p.0 le in let rest = trail_older since n made le in omega (arith, here, rest)

one_at_most : (since x : ℕ) → trail_for since x ≤ 1
one_at_most since x = cond_both (nat_lt x since) 1 0 (λ k. k ≤ 1) (λ e. omega arith) (λ e. omega arith)

pub trail_within : (since : ℕ) (made : Substitution) → trail_of since made ≤ length made
trail_within since [] = omega arith
trail_within since (p ∷ made) = let here = one_at_most since p.0 in let rest = trail_within since made in omega (arith, here, rest)

-- ## Work in the run

-- what has happened where a choice goes on
tried_grows : (g : Game) (k : ChoiceKind) (t height : ℕ) (ways : List WayOn) (cs : List Live) (bs : List Branch) (n : ℕ) (w : World) (run : Run) → Tried g k t height ways cs bs n w run → Grows w run.world
tried_grows g k t height ways cs [] n w run h = grows_on w (exhausted k w) run.world (exhausted_grows k w) (went_grows g cs ways n (MoveFails (exhausted k w)) run h)
tried_grows g k t height ways cs (b ∷ bs) n w run h = began_grows g _ ways b n w run h

ended_grows : (set : Setting) (e : Ending) (ps : List Print) (n : ℕ) (w : World) (run : Run) → EndedAt set e ps n w run → Grows w run.world
ended_grows set ending.HeapLimit ps n w run h = h.happened
ended_grows set ending.TrailLimit ps n w run h = h.happened
ended_grows set ending.AuxLimit ps n w run h = h.happened
ended_grows set ending.KeepLimit ps n w run h = h.happened
ended_grows set e ps n w run h = subst (Grows w) (sym (ap (λ (r : Run). r.world) h.is)) (grows_same w)

-- what has happened where a machine is has happened in the run
pub at_grows : (set : Setting) (now : Status) (ps : List Print) (g : Game) (n : ℕ) (w : World) (run : Run) → At set now ps g n w run → Grows w run.world
at_grows set (Runs m) ps g n w run at = stands_happened g at.lives at.ways (path_of (silents at.answered at.steps) at.registers) n w run at.stands
at_grows set (Enters call m) ps g n w run at = began_grows g at.lives at.ways _ n w run at.began
at_grows set (Resumes way m) ps g n w run at = tried_grows g at.live.kind at.live.tag at.live.height at.live.ways_on at.lives at.live.others n w run at.tried
at_grows set (Fails m) ps g n w run at = went_grows g at.lives [] n (MoveFails w) run at.failed
at_grows set (Ended e) ps g n w run at = ended_grows set e ps n w run at

-- what is done where a machine is, is done in the run
pub least_in : (least : ℕ) (set : Setting) (now : Status) (ps : List Print) (g : Game) (n : ℕ) (run : Run) → Comes least ps set now g n run → least ≤ run.world.meters.work
least_in least set (Runs m) ps g n run c = let x = (at_grows set (Runs m) ps g n c.world run c.at).meters.work in omega (arith, c.worked, x)
least_in least set (Enters call m) ps g n run c = let x = (at_grows set (Enters call m) ps g n c.world run c.at).meters.work in omega (arith, c.worked, x)
least_in least set (Resumes way m) ps g n run c = let x = (at_grows set (Resumes way m) ps g n c.world run c.at).meters.work in omega (arith, c.worked, x)
least_in least set (Fails m) ps g n run c = let x = (at_grows set (Fails m) ps g n c.world run c.at).meters.work in omega (arith, c.worked, x)
least_in least set (Ended e) ps g n run c = c.worked

met_comes : (least : ℕ) (set : Setting) (e : Ending) (ps : List Print) (g : Game) (n : ℕ) (run : Run) → Met set e ps g n run → least ≤ run.world.meters.work → Comes least ps set (Ended e) g n run
met_comes least set e ps g n run f le = record { world = f.world; at = f.at; worked = le }

nothing_said : (qs : List Print) (e : Ending) (ps : List Print) → followed ps (said_to qs (Ended e)) ≡ ps
nothing_said [] e ps = refl
nothing_said (q ∷ qs) e ps = refl

-- it goes on, or the heap is full
pub charge : {least : ℕ} → {ps : List Print} → (set : Setting) (qs : List Print) (k : ℕ) (m : Mid) (next : Status) (g : Game) (n : ℕ) (run : Run) → (set.limits.heap < m.state.heap + k → Met set ending.HeapLimit ps g n run) →
    Comes least (followed ps (said_to qs next)) set next g n run → Comes least (followed ps (said_to qs (charged set k m next))) set (charged set k m next) g n run
charge {least = least} {ps = ps} set qs zero m next g n run full on = on
charge {least = least} {ps = ps} set qs (suc k) m next g n run full on =
    cond_both (nat_lt set.limits.heap (m.state.heap + suc k)) (Ended ending.HeapLimit) next (λ s. Comes least (followed ps (said_to qs s)) set s g n run)
    (λ e. subst (λ l. Comes least l set (Ended ending.HeapLimit) g n run) (sym (nothing_said qs ending.HeapLimit ps))
    (met_comes least set ending.HeapLimit ps g n run (full (ltb-true set.limits.heap (m.state.heap + suc k) e)) (least_in least set next (followed ps (said_to qs next)) g n run on)))
    (λ e. on)

-- it goes on, or the trail is full
pub unify_on : {least : ℕ} → {ps : List Print} → (set : Setting) (qs : List Print) (u : Unified) (m : Mid) (next : Status) (g : Game) (n : ℕ) (run : Run) → (set.limits.trail < trail_more m.state u → Met set ending.TrailLimit ps g n run) →
    Comes least (followed ps (said_to qs (if_agreed u.agrees (bound u m) next))) set (if_agreed u.agrees (bound u m) next) g n run → Comes least (followed ps (said_to qs (unified set u m next))) set (unified set u m next) g n run
unify_on {least = least} {ps = ps} set qs u m next g n run full on =
    cond_both (nat_lt set.limits.trail (trail_more m.state u)) (Ended ending.TrailLimit) (if_agreed u.agrees (bound u m) next) (λ s. Comes least (followed ps (said_to qs s)) set s g n run)
    (λ e. subst (λ l. Comes least l set (Ended ending.TrailLimit) g n run) (sym (nothing_said qs ending.TrailLimit ps))
    (met_comes least set ending.TrailLimit ps g n run (full (ltb-true set.limits.trail (trail_more m.state u) e)) (least_in least set (if_agreed u.agrees (bound u m) next) _ g n run on)))
    (λ e. on)

-- it goes on, or too much is gathered
pub gather_on : {least : ℕ} → (set : Setting) (ps : List Print) (gs : List Gathering) (next : Status) (w : World) (g : Game) (n : ℕ) (run : Run) → prints w.events ≡ ps → gathered_size gs ≤ w.meters.aux → Grows w run.world →
    Comes least ps set next g n run → Comes least ps set (gathers set gs next) g n run
gather_on {least = least} set ps gs next w g n run printed reached grows on =
    cond_both (nat_lt set.limits.aux (gathered_size gs)) (Ended ending.AuxLimit) next (λ s. Comes least ps set s g n run)
    (λ e. met_comes least set ending.AuxLimit ps g n run (aux_full set ps (gathered_size gs) w g n run printed reached grows (ltb-true set.limits.aux (gathered_size gs) e)) (least_in least set next ps g n run on))
    (λ e. on)

-- it goes on, or too much is kept
pub keep_on : {least : ℕ} → {ps : List Print} → (set : Setting) (qs : List Print) (size : ℕ) (next : Status) (g : Game) (n : ℕ) (run : Run) → (set.limits.keep < size → Met set ending.KeepLimit ps g n run) →
    Comes least (followed ps (said_to qs next)) set next g n run → Comes least (followed ps (said_to qs (keeps_within set size next))) set (keeps_within set size next) g n run
keep_on {least = least} {ps = ps} set qs size next g n run full on =
    cond_both (nat_lt set.limits.keep size) (Ended ending.KeepLimit) next (λ s. Comes least (followed ps (said_to qs s)) set s g n run)
    (λ e. subst (λ l. Comes least l set (Ended ending.KeepLimit) g n run) (sym (nothing_said qs ending.KeepLimit ps))
    (met_comes least set ending.KeepLimit ps g n run (full (ltb-true set.limits.keep size e)) (least_in least set next (followed ps (said_to qs next)) g n run on)))
    (λ e. on)
