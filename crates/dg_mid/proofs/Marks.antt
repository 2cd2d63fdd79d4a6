-- Cuts, ends of inner constructs, and answers.
use Rattle.std.specs.Prelude.{nat_lt, if◌then◌else◌}
use Rattle.std.proofs.Common.{◌≡◌, ℕ, ◌+◌, ◌<◌, ◌≤◌, List, [], ◌∷◌, ◌++◌, Bool, true, false, refl, sym, ap, ◌∙◌, subst, arith, Option, Some, None}
use Rattle.std.proofs.lemmas.Bool.{cond_both, cond-true, ltb-true, lt-ltb}
use Rattle.dg_base.specs.declared.program.Goal.{Goal}
use Rattle.dg_base.specs.declared.program.Term.{Term}
use Rattle.dg_base.specs.declared.run.Limits.{Limits}
use Rattle.dg_base.specs.declared.run.Ending.{Ending}
use Rattle.dg_base.specs.declared.run.Ending.TheVariants as ending
use Rattle.dg_meaning.specs.Values.{value_of, Value}
use Rattle.dg_meaning.specs.Substitutions.{resolved}
use Rattle.dg_meaning.specs.Unify.{looks}
use Rattle.dg_meaning.specs.Letters.{copied}
use Rattle.dg_meaning.specs.World.{Game, World, Print, prints, kept as gathered_more, gathered_size, worked}
use Rattle.dg_meaning.specs.Path.{Step, Cut, Back, Result, FailsAt as MoveFails, End as EndsSo, Keep}
use Rattle.dg_meaning.specs.Moves.{goals_at, first_alone, keeping}
use Rattle.dg_meaning.specs.Transcript.{Run, ending_of}
use Rattle.dg_meaning.specs.inside.Keeps.{Finished}
use Rattle.dg_meaning.specs.inside.Context.{Live, cut_to as cut_lives}
use Rattle.dg_meaning.proofs.Keeps.{passes_cut, passes_refuse, passes_back, passes_keep, passes_leave, done, keeps_in_newest}
use Rattle.dg_mid.specs.declared.code.Op.{Op}
use Rattle.dg_mid.specs.declared.code.Code.{Code}
use Rattle.dg_mid.specs.Code.{block_at}
use Rattle.dg_mid.specs.State.{Place, Frame, Choice, Mid, Runs, Fails, Ended, vars_of, cut_of, cut_choices}
use Rattle.dg_mid.specs.Step.{Setting, setting, cut_to, returned, returns, commits, refuses, leaves, keeps, keeps_value, newest_with}
use Rattle.dg_mid.specs.Units.{gathering_work, keeping_work}
use Rattle.dg_mid.specs.Codes.{End, Commits, Refuses, Leaves, Keeps, Stands}
use Rattle.dg_mid.specs.Reads.{silents, end_steps, Behind, Layer, AreChoices, none, dead, kept, AreBelow, HasEnded, EndedAt, Comes, GathersAt}
use Rattle.dg_mid.proofs.Newest.{with_newest}
use Rattle.dg_mid.proofs.Here.{Here, answers, prints_dropped, work_dropped}
use Rattle.dg_mid.proofs.Taking.{went_grows, gather_on}

-- ## Cuts

pub below_more : (t u : ℕ) (ms : List Choice) → AreBelow t ms → t ≤ u → AreBelow u ms
below_more t u [] h le = tt
below_more t u (m ∷ ms) h le = omega (arith, h)

pub below_next : (t : ℕ) (ms : List Choice) → AreBelow t ms → AreBelow (t + 1) ms
below_next t [] h = tt
below_next t (m ∷ ms) h = omega (arith, h)

-- choices that are older than t stay
all_stay : (p : Place) (u : ℕ) (ms : List Choice) → AreBelow u ms → u < p.tag → cut_choices p ms ≡ ms
all_stay p u [] h lt = refl
all_stay p u (m ∷ ms) h lt = cond-true (nat_lt m.place.tag p.tag) (m ∷ ms) (cut_choices p ms) (lt-ltb m.place.tag p.tag (omega (arith, h)))

both_cut : (g : Game) (code : Code) (b : Bool) (ms ms' : List Choice) (cs cs' : List Live) → AreChoices g code ms cs → AreChoices g code ms' cs' → AreChoices g code (if b then ms else ms') (if b then cs else cs')
both_cut g code true ms ms' cs cs' h k = h
both_cut g code false ms ms' cs cs' h k = k

-- a cut leaves the same choices here and there
pub cut_both : (g : Game) (code : Code) (ms : List Choice) (cs : List Live) (p : Place) → AreChoices g code ms cs → AreChoices g code (cut_choices p ms) (cut_lives p.tag cs)
cut_both g code ms cs p none = none
cut_both g code ms cs p (dead ms' c cs' clash below rest) =
    cond_both (nat_lt c.tag p.tag) (c ∷ cs') (cut_lives p.tag cs') (AreChoices g code (cut_choices p ms'))
    (λ e. subst (λ l. AreChoices g code l (c ∷ cs')) (sym (all_stay p c.tag ms' below (ltb-true c.tag p.tag e))) (dead ms' c cs' clash below rest))
    (λ e. cut_both g code ms' cs' p rest)
cut_both g code ms cs p (kept m ms' c cs' is below rest) =
    subst (λ t. AreChoices g code (cut_choices p (m ∷ ms')) (if nat_lt t p.tag then c ∷ cs' else cut_lives p.tag cs')) (sym is.tag)
    (both_cut g code (nat_lt m.place.tag p.tag) (m ∷ ms') (cut_choices p ms') (c ∷ cs') (cut_lives p.tag cs') (kept m ms' c cs' is below rest) (cut_both g code ms' cs' p rest))

-- a cut leaves older choices
pub cut_below : (g : Game) (code : Code) (ms : List Choice) (cs : List Live) (p : Place) (u : ℕ) → AreChoices g code ms cs → AreBelow u ms → AreBelow u (cut_choices p ms)
cut_below g code ms cs p u none h = tt
cut_below g code ms cs p u (dead ms' c cs' clash below rest) h = cut_below g code ms' cs' p u rest h
cut_below g code ms cs p u (kept m ms' c cs' is below rest) h =
    cond_both (nat_lt m.place.tag p.tag) (m ∷ ms') (cut_choices p ms') (AreBelow u)
    (λ e. h)
    (λ e. cut_below g code ms' cs' p u rest (below_more m.place.tag u ms' below (omega (arith, h))))

-- a mark that cuts to a place
pub cuts : (code : Code) (m : Mid) (ps : List Print) (p : Place) (steps : List Step) (g : Game) (n : ℕ) (w : World) (run : Run) → Here code m ps (Cut p.tag ∷ steps) g n w run → Here code (cut_to p m) ps steps g n w run
cuts code m ps p steps g n w run h =
    let i = h.mirrors in
    record {
      lives = cut_lives p.tag h.lives;
      ways = h.ways;
      registers = h.registers;
      mirrors = record {
        agrees = i.agrees;
        tag = i.tag;
        choices_are = cut_both g code m.choices h.lives p i.choices_are;
        below = cut_below g code m.choices h.lives p m.next_tag i.choices_are i.below;
        stops_are = i.stops_are;
        stop_is = i.stop_is;
        gathered_is = i.gathered_is;
        lasting_is = i.lasting_is;
        printed_is = i.printed_is;
      };
      stands = passes_cut g h.lives h.ways p.tag steps h.registers n w run h.stands;
    }

-- ## Instructions

-- the machine goes on in front of code that stands for the steps
pub goes_on : {least : ℕ} → {ps : List Print} → (set : Setting) (m : Mid) (steps : List Step) (answered : List ℕ) (g : Game) (n : ℕ) (w : World) (run : Run) →
    Layer (Behind g set.code m.frames) g set.code m.ops (vars_of m.frames) (cut_of m.frames).tag m.inner steps → Here set.code m ps (silents answered steps) g n w run → least ≤ w.meters.work → Comes least ps set (Runs m) g n run
goes_on {least = least} {ps = ps} set m steps answered g n w run layer h le = record {
  world = w;
  at = record { lives = h.lives; ways = h.ways; registers = h.registers; mirrors = h.mirrors; answered = answered; steps = steps; reads = layer; stands = h.stands };
  worked = le;
}

-- the machine has failed
pub fails_back : {least : ℕ} → {ps : List Print} → (set : Setting) (m : Mid) (steps : List Step) (g : Game) (n : ℕ) (w : World) (run : Run) → Here set.code m ps (Back ∷ steps) g n w run → least ≤ w.meters.work → Comes least ps set (Fails m) g n run
fails_back {least = least} {ps = ps} set m steps g n w run h le = record {
  world = w;
  at = record { lives = h.lives; choices = h.mirrors.choices_are; gathered = h.mirrors.gathered_is; lasting = h.mirrors.lasting_is; printed = h.mirrors.printed_is; failed = passes_back g h.lives h.ways steps h.registers n w run h.stands };
  worked = le;
}

-- the run has ended
pub ends_here : {least : ℕ} → {ps : List Print} → (set : Setting) (e : Ending) (result : Result) (g : Game) (n : ℕ) (w : World) (run : Run) → ending_of result ≡ e → ((v : World) → HasEnded e ps n v run → EndedAt set e ps n v run) →
    prints w.events ≡ ps → Finished n w result run → least ≤ w.meters.work → Comes least ps set (Ended e) g n run
ends_here {least = least} {ps = ps} set e result g n w run is at printed f le = record {
  world = f.world;
  at = at f.world (record { result = result; ending_is = is; printed = prints_dropped w f.world f.drops ∙ printed; is = f.is });
  worked = let a = ap (λ (r : Run). r.world.meters.work) f.is in let b = work_dropped w f.world f.drops in omega (arith, le, a, b);
}

pub commit : {least : ℕ} → {ps : List Print} → (set : Setting) (m : Mid) (ops : List Op) (goals : List Goal) (end : End) (rest : List Step) (inner : List Place) (g : Game) (n : ℕ) (w : World) (run : Run) →
    Stands set.code ops goals end → Behind g set.code m.frames rest → GathersAt g (Commits goals end) (vars_of m.frames) inner →
    Here set.code m ps (end_steps (Commits goals end) (vars_of m.frames) (cut_of m.frames).tag inner rest) g n w run → least ≤ w.meters.work → Comes least ps set (commits inner (record m { ops = ops })) g n run
commit {least = least} {ps = ps} set m ops goals end rest [] g n w run s below valued h le = fails_back set (record m { ops = ops }) [] g n w run h le
commit {least = least} {ps = ps} set m ops goals end rest (p ∷ inner) g n w run s below valued h le =
    let m' = cut_to p (record m { ops = ops; inner = inner }) in
    goes_on set m' (goals_at (vars_of m.frames) (cut_of m.frames).tag goals ++ end_steps end (vars_of m.frames) (cut_of m.frames).tag inner rest) [] g n w run
    (record { goals = goals; end = end; rest = rest; stands = s; below = below; gathers = valued; is = refl })
    (cuts set.code m ps p _ g n w run h) le

pub refuse : {least : ℕ} → {ps : List Print} → (set : Setting) (m : Mid) (ops : List Op) (rest : List Step) (inner : List Place) (g : Game) (n : ℕ) (w : World) (run : Run) →
    Here set.code m ps (end_steps Refuses (vars_of m.frames) (cut_of m.frames).tag inner rest) g n w run → least ≤ w.meters.work → Comes least ps set (refuses inner (record m { ops = ops })) g n run
refuse {least = least} {ps = ps} set m ops rest [] g n w run h le = fails_back set (record m { ops = ops }) [] g n w run h le
refuse {least = least} {ps = ps} set m ops rest (p ∷ inner) g n w run h le = record {
  world = w;
  at = record {
    lives = cut_lives p.tag h.lives;
    choices = cut_both g set.code m.choices h.lives p h.mirrors.choices_are;
    gathered = h.mirrors.gathered_is;
    lasting = h.mirrors.lasting_is;
    printed = h.mirrors.printed_is;
    failed = passes_refuse g h.lives h.ways p.tag [] h.registers n w run h.stands;
  };
  worked = le;
}

pub leave : {least : ℕ} → {ps : List Print} → (set : Setting) (m : Mid) (ops : List Op) (goals : List Goal) (end : End) (rest : List Step) (inner : List Place) (g : Game) (n : ℕ) (w : World) (run : Run) →
    Stands set.code ops goals end → Behind g set.code m.frames rest → GathersAt g (Leaves goals end) (vars_of m.frames) inner →
    Here set.code m ps (end_steps (Leaves goals end) (vars_of m.frames) (cut_of m.frames).tag inner rest) g n w run → least ≤ w.meters.work → Comes least ps set (leaves inner (record m { ops = ops })) g n run
leave {least = least} {ps = ps} set m ops goals end rest [] g n w run s below valued h le = fails_back set (record m { ops = ops }) [] g n w run h le
leave {least = least} {ps = ps} set m ops goals end rest (p ∷ inner) g n w run s below valued h le =
    let i = h.mirrors in
    goes_on set (cut_to p (record m { ops = ops; inner = inner; stop = p.outer })) (goals_at (vars_of m.frames) (cut_of m.frames).tag goals ++ end_steps end (vars_of m.frames) (cut_of m.frames).tag inner rest) [] g n w run
    (record { goals = goals; end = end; rest = rest; stands = s; below = below; gathers = valued; is = refl })
    (record {
      lives = cut_lives p.tag h.lives;
      ways = h.ways;
      registers = record h.registers { stoppable = p.outer };
      mirrors = record {
        agrees = record { bound = i.agrees.bound; vars = i.agrees.vars; heap = i.agrees.heap; trail = i.agrees.trail; since = i.agrees.since };
        tag = i.tag;
        choices_are = cut_both g set.code m.choices h.lives p i.choices_are;
        below = cut_below g set.code m.choices h.lives p m.next_tag i.choices_are i.below;
        stops_are = i.stops_are;
        stop_is = refl;
        gathered_is = i.gathered_is;
        lasting_is = i.lasting_is;
        printed_is = i.printed_is;
      };
      stands = passes_leave g h.lives h.ways p.tag p.outer _ h.registers n w run h.stands;
    }) le

-- the value of a gathering is gathered
keep_value : {least : ℕ} → {ps : List Print} → (code : Code) (limits : Limits) (m : Mid) (term : Term) (t : ℕ) (o : Option Value) (g : Game) (n : ℕ) (w : World) (run : Run) → o ≡ Some (value_of g.program (vars_of m.frames) term) →
    Here code m ps (Keep t term (vars_of m.frames) ∷ []) g n w run → least ≤ w.meters.work + keeping_work o m.state → (ops : List Op) (inner : List Place) → Comes least ps (setting g code limits) (keeps_value (setting g code limits) o (record m { ops = ops; inner = inner })) g n run
keep_value {least = least} {ps = ps} code limits m term t None g n w run same h le ops inner = absurd (cc (same))
keep_value {least = least} {ps = ps} code limits m term t (Some x) g n w run same h le ops inner =
    let i = h.mirrors in
    let v = value_of g.program (vars_of m.frames) term in
    let is : x ≡ v = cc in
    let work : keeping h.registers v ≡ looks m.state.subst m.state.vars x + copied (resolved m.state.subst x) = ap (λ S. looks S h.registers.next_var v + copied (resolved S v)) i.agrees.bound ∙ ap (λ k. looks m.state.subst k v + copied (resolved m.state.subst v)) i.agrees.vars ∙ ap (λ y. looks m.state.subst m.state.vars y + copied (resolved m.state.subst y)) (sym is) in
    let u = gathered_more t (resolved h.registers.bound v) (worked (keeping h.registers v) w) in
    let newest = keeps_in_newest g h.lives h.ways t term (vars_of m.frames) [] h.registers n w run h.stands in
    let new : u.gathered ≡ newest_with (resolved m.state.subst x) m.gathered = with_newest t (resolved h.registers.bound v) w.gathered newest ∙ ap (newest_with (resolved h.registers.bound v)) i.gathered_is ∙ ap (λ S. newest_with (resolved S v) m.gathered) i.agrees.bound ∙ ap (λ y. newest_with (resolved m.state.subst y) m.gathered) (sym is) in
    let failed = passes_keep g h.lives h.ways t term (vars_of m.frames) [] h.registers n w run h.stands in
    gather_on (setting g code limits) ps (newest_with (resolved m.state.subst x) m.gathered) _ u g n run i.printed_is (let a = ap gathered_size new in omega (arith, a)) (went_grows g h.lives [] n (MoveFails u) run failed)
    (record {
      world = u;
      at = record { lives = h.lives; choices = i.choices_are; gathered = new; lasting = i.lasting_is; printed = i.printed_is; failed = failed };
      worked = omega (arith, le, work);
    })

pub keep : {least : ℕ} → {ps : List Print} → (code : Code) (limits : Limits) (m : Mid) (ops : List Op) (term : Term) (rest : List Step) (inner : List Place) (g : Game) (n : ℕ) (w : World) (run : Run) → GathersAt g (Keeps term) (vars_of m.frames) inner →
    Here code m ps (end_steps (Keeps term) (vars_of m.frames) (cut_of m.frames).tag inner rest) g n w run → least ≤ w.meters.work + gathering_work inner m.state → Comes least ps (setting g code limits) (keeps (setting g code limits) inner (record m { ops = ops })) g n run
keep {least = least} {ps = ps} code limits m ops term rest [] g n w run is h le = fails_back (setting g code limits) (record m { ops = ops }) [] g n w run h (omega (arith, le))
keep {least = least} {ps = ps} code limits m ops term rest (p ∷ inner) g n w run is h le = keep_value code limits m term p.tag p.gathers g n w run is h le ops inner

return_on : {least : ℕ} → {ps : List Print} → (set : Setting) (m : Mid) (ops : List Op) (many : Bool) (f : Frame) (fs : List Frame) (answered : List ℕ) (after : List Step) (g : Game) (n : ℕ) (w : World) (run : Run) →
    Layer (Behind g set.code fs) g set.code (block_at set.code f.next) (vars_of fs) (cut_of fs).tag f.inner after →
    Here set.code m ps (first_alone many f.cut.tag (silents answered after)) g n w run → least ≤ w.meters.work → Comes least ps set (Runs (returned set many f fs (record m { ops = ops }))) g n run
return_on {least = least} {ps = ps} set m ops true f fs answered after g n w run layer h le = goes_on set (record m { ops = block_at set.code f.next; frames = fs; inner = f.inner }) after answered g n w run layer h le
return_on {least = least} {ps = ps} set m ops false f fs answered after g n w run layer h le =
    goes_on set (cut_to f.cut (record m { ops = block_at set.code f.next; frames = fs; inner = f.inner })) after answered g n w run layer (cuts set.code m ps f.cut (silents answered after) g n w run h) le

pub return : {least : ℕ} → {ps : List Print} → (set : Setting) (m : Mid) (ops : List Op) (frames : List Frame) (rest : List Step) (g : Game) (n : ℕ) (w : World) (run : Run) →
    Behind g set.code frames rest → Here set.code m ps rest g n w run → least ≤ w.meters.work → Comes least ps set (returns set frames (record m { ops = ops })) g n run
return {least = least} {ps = ps} set m ops [] rest g n w run below h le = fails_back set (record m { ops = ops }) [] g n w run (subst (λ l. Here set.code m ps l g n w run) below h) le
return {least = least} {ps = ps} set m ops (f ∷ fs) rest g n w run below h le =
    let a = answers set.code m ps below.noted (first_alone f.many f.cut.tag (silents below.answered below.after)) g n w run (subst (λ l. Here set.code m ps l g n w run) below.is h) in
    return_on set m ops f.many f fs below.answered below.after g n a.world run below.layer a.here (let x = a.work in omega (arith, le, x))

pub finish : {least : ℕ} → {ps : List Print} → (set : Setting) (m : Mid) (g : Game) (n : ℕ) (w : World) (run : Run) → Here set.code m ps [] g n w run → least ≤ w.meters.work → Comes least ps set (Ended ending.Done) g n run
finish {least = least} {ps = ps} set m g n w run h le =
    ends_here set ending.Done (EndsSo ending.Done) g n w run refl (λ v x. x) h.mirrors.printed_is (done g h.lives h.ways h.registers n w run h.stands) le
