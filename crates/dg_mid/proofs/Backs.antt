-- Failures, and blocks with which a choice goes on.
use Rattle.std.specs.Prelude.{◌-◌}
use Rattle.std.proofs.Common.{◌≡◌, ℕ, ◌+◌, ◌≤◌, List, [], ◌∷◌, refl, sym, ap, ◌∙◌, subst, arith, length, drop}
use Rattle.std.proofs.lemmas.Bool.{cond_both}
use Rattle.dg_base.specs.declared.program.Goal.{Goal}
use Rattle.dg_base.specs.declared.run.Limits.{Limits}
use Rattle.dg_base.specs.declared.run.Ending.TheVariants as ending
use Rattle.dg_meaning.specs.World.{Game, World, Print, Retried, HasFailed, prints}
use Rattle.dg_meaning.specs.Path.{Registers, Path, Failing, Branch, Enter, Clash, TakeOut, Finds, ChoiceKind, Plain, Rules, Shield, Gathers}
use Rattle.dg_meaning.specs.Moves.{begun, exhausted}
use Rattle.dg_meaning.specs.Search.{retried}
use Rattle.dg_meaning.specs.Transcript.{Run}
use Rattle.dg_meaning.specs.inside.Context.{Live, Way as WayOn, stays}
use Rattle.dg_meaning.specs.inside.Keeps.{Failed, Resumed, Tried, open_at, tried_in}
use Rattle.dg_meaning.proofs.Keeps.{failed, tries, takes_newest, stands_happened}
use Rattle.dg_mid.specs.declared.code.Op.{Op}
use Rattle.dg_mid.specs.declared.code.Code.{Code}
use Rattle.dg_mid.specs.Code.{block_at}
use Rattle.dg_mid.specs.State.{Choice, Goes, Mid, Runs}
use Rattle.dg_mid.specs.Step.{Setting, setting, passed, inside as inside_choice, resumed, goes_back}
use Rattle.dg_mid.specs.Units.{resuming}
use Rattle.dg_mid.specs.Codes.{End, Stands, jumps, returns, commits, refuses, backs, leaves, keeps, finishes, acts, ask, last_ask, query, last_query, holds, objects, only, either, selects, once, negates, branch, exhausts, shields, collects, accumulates, forever}
use Rattle.dg_mid.specs.Reads.{AreChoices, none, dead, kept, AreClashes, WayIs, RetryIs, GoesAt, lasting_of, Mirrors, Comes, TakesNewest}
use Rattle.dg_mid.proofs.Here.{nothing_more, prints_dropped, work_dropped}
use Rattle.dg_mid.proofs.Marks.{goes_on, ends_here}
use Rattle.dg_mid.proofs.Taking.{charge, heap_full}
use Rattle.dg_mid.proofs.Drops.{drop_twice, drop_to}
use Rattle.dg_mid.proofs.Choices.{choice_mirrors, passed_mirrors, inside_is, goes_open}

-- ## Failures

-- telling that a choice is tried again or has no branch left changes nothing else
pub record Tells (w v : World) : Type 0 where
  pub printed : prints v.events ≡ prints w.events
  pub gathered : v.gathered ≡ w.gathered
  pub lasting : lasting_of v ≡ lasting_of w
  pub work : v.meters.work ≡ w.meters.work

retried_tells : (k : ChoiceKind) (w : World) → Tells w (retried k w)
retried_tells (Rules q) w = record { printed = nothing_more (Retried q) w (prints w.events) refl refl; gathered = refl; lasting = refl; work = refl }
retried_tells Plain w = record { printed = refl; gathered = refl; lasting = refl; work = refl }
retried_tells Shield w = record { printed = refl; gathered = refl; lasting = refl; work = refl }
retried_tells Gathers w = record { printed = refl; gathered = refl; lasting = refl; work = refl }

tried_tells : (k : ChoiceKind) (bs : List Branch) (w : World) → Tells w (tried_in k bs w)
tried_tells k [] w = record { printed = refl; gathered = refl; lasting = refl; work = refl }
tried_tells k (b ∷ bs) w = retried_tells k w

pub exhausted_tells : (k : ChoiceKind) (w : World) → Tells w (exhausted k w)
exhausted_tells (Rules q) w = record { printed = nothing_more (HasFailed q) w (prints w.events) refl refl; gathered = refl; lasting = refl; work = refl }
exhausted_tells Plain w = record { printed = refl; gathered = refl; lasting = refl; work = refl }
exhausted_tells Shield w = record { printed = refl; gathered = refl; lasting = refl; work = refl }
exhausted_tells Gathers w = record { printed = refl; gathered = refl; lasting = refl; work = refl }

-- the search goes on with the branches that a choice has left
pub record Turns (g : Game) (c : Live) (cs : List Live) (n : ℕ) (w : World) (run : Run) : Type 0 where
  pub world : World
  pub printed : prints world.events ≡ prints w.events
  pub count : ℕ
  pub dropped : world.gathered ≡ drop count w.gathered
  pub lasting : lasting_of world ≡ lasting_of w
  pub work : world.meters.work ≡ w.meters.work
  pub height : length world.gathered ≡ open_at c.others c.height
  pub newest : TakesNewest c.others world.gathered
  pub tried : Tried g c.kind c.tag c.height c.ways_on cs c.others n world run

resumes_newest : (g : Game) (c : Live) (cs : List Live) (n : ℕ) (w : World) (run : Run) → Resumed g c cs n w run → (bs : List Branch) → c.others ≡ bs → TakesNewest bs w.gathered
resumes_newest g c cs n w run s [] e = tt
resumes_newest g c cs n w run s (Enter path work ∷ bs) e = tt
resumes_newest g c cs n w run s (Clash r work ∷ bs) e = tt
resumes_newest g c cs n w run s (TakeOut t whole into path ∷ bs) e = takes_newest g c cs t whole into path bs n w run s e
resumes_newest g c cs n w run s (Finds place o args path ∷ bs) e = tt

pub turns_back : (g : Game) (c : Live) (cs : List Live) (n : ℕ) (w : World) (run : Run) → Failed g (c ∷ cs) n w run → Turns g c cs n w run
turns_back g c cs n w run f =
    let back = failed g (c ∷ cs) n w run f in
    let t = tried_tells c.kind c.others back.world in
    record {
      world = tried_in c.kind c.others back.world;
      printed = t.printed ∙ prints_dropped w back.world back.drops;
      count = back.drops.count;
      dropped = t.gathered ∙ ap (λ (u : World). u.gathered) back.drops.is;
      lasting = t.lasting ∙ ap lasting_of back.drops.is;
      work = t.work ∙ work_dropped w back.world back.drops;
      height = ap length t.gathered ∙ back.gatherings;
      newest = subst (TakesNewest c.others) (sym t.gathered) (resumes_newest g c cs n back.world run back.resumed c.others refl);
      tried = tries g c cs n back.world run back.resumed;
    }

-- a failure, behind some gatherings that were dropped
pub record FailsOn (g : Game) (cs : List Live) (n : ℕ) (w : World) (run : Run) : Type 0 where
  pub world : World
  pub printed : prints world.events ≡ prints w.events
  pub count : ℕ
  pub dropped : world.gathered ≡ drop count w.gathered
  pub lasting : lasting_of world ≡ lasting_of w
  pub work : w.meters.work ≤ world.meters.work
  pub failed : Failed g cs n world run

-- the branches that a choice has left all fail where they begin
pub clashes_fail : (g : Game) (k : ChoiceKind) (t height : ℕ) (ways : List WayOn) (cs : List Live) (bs : List Branch) (n : ℕ) (w : World) (run : Run) → AreClashes bs → Tried g k t height ways cs bs n w run → FailsOn g cs n w run
clashes_fail g k t height ways cs [] n w run clash tried =
    let told = exhausted_tells k w in
    record { world = exhausted k w; printed = told.printed; count = 0; dropped = told.gathered; lasting = told.lasting; work = omega (arith, told.work); failed = tried }
clashes_fail g k t height ways cs (Clash r work ∷ bs) n w run clash tried =
    let c : Live = record { kind = k; tag = t; others = bs; height = height; ways_on = ways } in
    cond_both (stays k bs) (c ∷ cs) cs (λ l. Failed g l n (begun r work w) run → FailsOn g cs n w run)
    (λ e f.
    let on = turns_back g c cs n (begun r work w) run f in
    let later = clashes_fail g k t height ways cs bs n on.world run clash on.tried in
    record { world = later.world; printed = later.printed ∙ on.printed; count = on.count + later.count; dropped = later.dropped ∙ ap (drop later.count) on.dropped ∙ drop_twice later.count on.count w.gathered; lasting = later.lasting ∙ on.lasting; work = let a = later.work in let b = on.work in omega (arith, a, b); failed = later.failed })
    (λ e f. record { world = begun r work w; printed = refl; count = 0; dropped = refl; lasting = refl; work = omega arith; failed = f })
    tried
clashes_fail g k t height ways cs (Enter path work ∷ bs) n w run clash tried = absurd clash
clashes_fail g k t height ways cs (Finds place o args path ∷ bs) n w run clash tried = absurd clash
clashes_fail g k t height ways cs (TakeOut u whole into path ∷ bs) n w run clash tried = absurd clash

-- a machine that has failed goes back
pub back : {least : ℕ} → {ps : List Print} → (set : Setting) (m : Mid) (g : Game) (ms : List Choice) (lives : List Live) (n : ℕ) (w : World) (run : Run) (k : ℕ) → AreChoices g set.code ms lives → w.gathered ≡ drop k m.gathered → lasting_of w ≡ m.lasting → prints w.events ≡ ps → Failed g lives n w run → least ≤ w.meters.work → Comes least ps set (goes_back ms m) g n run
back {least = least} {ps = ps} set m g ms lives n w run k none gathered out printed f le = ends_here set ending.Failed Failing g n w run refl (λ v x. x) printed (failed g [] n w run f) le
back {least = least} {ps = ps} set m g ms lives n w run k (dead ms' c cs clash below rest) gathered out printed f le =
    let t = turns_back g c cs n w run f in
    let on = clashes_fail g c.kind c.tag c.height c.ways_on cs c.others n t.world run clash t.tried in
    back set m g ms' cs n on.world run (k + (t.count + on.count)) rest (on.dropped ∙ ap (drop on.count) t.dropped ∙ drop_twice on.count t.count w.gathered ∙ ap (drop (t.count + on.count)) gathered ∙ drop_twice (t.count + on.count) k m.gathered) (on.lasting ∙ t.lasting ∙ out) (on.printed ∙ t.printed ∙ printed) on.failed (let a = on.work in let b = t.work in omega (arith, le, a, b))
back {least = least} {ps = ps} set m g ms lives n w run k (kept o ms' c cs is below rest) gathered out printed f le =
    let t = turns_back g c cs n w run f in
    let left : t.world.gathered ≡ drop (k + t.count) m.gathered = t.dropped ∙ ap (drop t.count) gathered ∙ drop_twice t.count k m.gathered in
    let there : t.world.gathered ≡ drop (length m.gathered - o.height) m.gathered = left ∙ drop_to (k + t.count) o.height m.gathered (ap length (sym left) ∙ t.height ∙ is.height) in
    record {
      world = t.world;
      at = record {
        live = c;
        lives = cs;
        registers = is.registers;
        mirrors = record { agrees = is.agrees; tag = is.tag_at; choices_are = rest; below = below; stops_are = is.stops; stop_is = is.stop_at; gathered_is = there; lasting_is = t.lasting ∙ out; printed_is = t.printed ∙ printed };
        way_is = is.way;
        tag = is.tag;
        height = sym t.height ∙ ap length there;
        newest = subst (TakesNewest c.others) there t.newest;
        tried = t.tried;
      };
      worked = let b = t.work in omega (arith, le, b);
    }

-- ## A block with which a choice goes on

-- code that stands for goals neither keeps a choice nor takes a gathering out
pub goes_plainly : (set : Setting) (ops : List Op) (goals : List Goal) (end : End) (m : Mid) → Stands set.code ops goals end → (resumed set ops m ≡ Runs (passed (record m { ops = ops }))) × (resuming ops ≡ 0)
goes_plainly set ops goals end m (jumps b rest goals' end' s) = (refl, refl)
goes_plainly set ops goals end m (returns rest) = (refl, refl)
goes_plainly set ops goals end m (commits rest goals' end' s) = (refl, refl)
goes_plainly set ops goals end m (refuses rest) = (refl, refl)
goes_plainly set ops goals end m (backs rest) = (refl, refl)
goes_plainly set ops goals end m (leaves rest goals' end' s) = (refl, refl)
goes_plainly set ops goals end m (keeps term rest) = (refl, refl)
goes_plainly set ops goals end m (finishes rest) = (refl, refl)
goes_plainly set ops goals end m (acts a rest goals' end' s) = (refl, refl)
goes_plainly set ops goals end m (ask pred terms many next rest goals' end' s) = (refl, refl)
goes_plainly set ops goals end m (last_ask pred terms many rest) = (refl, refl)
goes_plainly set ops goals end m (query a b many next rest goals' end' s) = (refl, refl)
goes_plainly set ops goals end m (last_query a b many rest) = (refl, refl)
goes_plainly set ops goals end m (holds place terms many next rest goals' end' s o) = (refl, refl)
goes_plainly set ops goals end m (objects term many next rest goals' end' s o) = (refl, refl)
goes_plainly set ops goals end m (only list rest goals' end' s) = (refl, refl)
goes_plainly set ops goals end m (either alt list second lists rest goals' end' s o) = (refl, refl)
goes_plainly set ops goals end m (selects site mode blocks lists behind rest goals' end' bs s) = (refl, refl)
goes_plainly set ops goals end m (once inner rest goals' end' s) = (refl, refl)
goes_plainly set ops goals end m (negates alt inner rest goals' end' s o) = (refl, refl)
goes_plainly set ops goals end m (branch alt tested first other rest goals' end' s o) = (refl, refl)
goes_plainly set ops goals end m (exhausts alt inner rest goals' end' s o) = (refl, refl)
goes_plainly set ops goals end m (shields alt inner rest goals' end' s o) = (refl, refl)
goes_plainly set ops goals end m (collects term into alt inner rest others goals' end' s e o) = (refl, refl)
goes_plainly set ops goals end m (accumulates term into alt inner rest others goals' end' s e o) = (refl, refl)
goes_plainly set ops goals end m (forever b rest goals' end' e s) = (refl, refl)

-- the branches of a choice between goals
pub tried_plainly : (g : Game) (c : Live) (cs : List Live) (bs : List Branch) (n : ℕ) (w : World) (run : Run) → c.kind ≡ Plain → c.others ≡ bs → Tried g c.kind c.tag c.height c.ways_on cs c.others n w run → Tried g Plain c.tag c.height c.ways_on cs bs n w run
tried_plainly g c cs bs n w run k e t = subst (λ l. Tried g Plain c.tag c.height c.ways_on cs l n w run) e (subst (λ x. Tried g x c.tag c.height c.ways_on cs c.others n w run) k t)

module _ (code : Code) (limits : Limits) (b : ℕ) (m : Mid) (ps : List Print) (c : Live) (lives : List Live) (q : Registers) (g : Game) (n : ℕ) (w : World) (run : Run)
    (i : Mirrors g code m ps q lives c.ways_on w) (tag : c.tag ≡ m.next_tag) (kind : c.kind ≡ Plain) (height : open_at c.others c.height ≡ length m.gathered) (tried : Tried g c.kind c.tag c.height c.ways_on lives c.others n w run) where
  abbrev set : Setting
  set = setting g code limits

  abbrev here : Mid
  here = record m { ops = block_at code b }

  -- its last branch begins
  last_begins : {least : ℕ} → (path : Path) (work : ℕ) → c.others ≡ Enter path work ∷ [] → WayIs g code (block_at code b) m.frames m.inner q 0 path → least ≤ w.meters.work + resuming (block_at code b) → Comes least ps set (resumed set (block_at code b) m) g n run
  last_begins {least = least} path work e way le =
      let plain = goes_plainly set (block_at code b) way.reads.goals way.reads.end m way.reads.stands in
      let v = begun path.registers work w in
      let on = passed_mirrors g code here ps q path.registers lives c.ways_on w v 0 i refl refl i.printed_is (inside_is q path.registers 0 way.registers) (ap (λ (x : Registers). x.stoppable) way.registers ∙ i.stop_is) in
      subst (λ s. Comes least ps set s g n run) (sym plain.0)
      (goes_on set (passed here) path.steps [] g n v run way.reads
      (record {
        lives = lives;
        ways = c.ways_on;
        registers = path.registers;
        mirrors = record { agrees = record { bound = on.agrees.bound; vars = on.agrees.vars; heap = omega (arith, on.agrees.heap); trail = on.agrees.trail; since = on.agrees.since }; tag = on.tag; choices_are = on.choices_are; below = on.below; stops_are = on.stops_are; stop_is = on.stop_is; gathered_is = on.gathered_is; lasting_is = on.lasting_is; printed_is = on.printed_is };
        stands = tried_plainly g c lives (Enter path work ∷ []) n w run kind e tried;
      }) (let z = plain.1 in omega (arith, le, z)))

  -- another branch begins, and more are left
  retry_begins : {least : ℕ} → (path : Path) (work : ℕ) (o : Branch) (os : List Branch) → c.others ≡ Enter path work ∷ o ∷ os → RetryIs (λ alt. GoesAt g code alt m.frames m.inner q (o ∷ os)) g code b m.frames m.inner q path work → least ≤ w.meters.work + resuming (block_at code b) → Comes least ps set (resumed set (block_at code b) m) g n run
  retry_begins {least = least} path work o os e r le =
      let m' : Mid = record m { ops = r.ops } in
      let c' : Live = record c { kind = Plain; others = o ∷ os } in
      let v = begun path.registers work w in
      let st = tried_plainly g c lives (Enter path work ∷ o ∷ os) n w run kind e tried in
      let heap = ap (λ (x : Registers). x.heap) r.way.registers in
      subst (λ ops. Comes least ps set (resumed set ops m) g n run) (sym r.block)
      (charge set [] 10 m (Runs (inside_choice (Goes r.alt) 0 m')) g n run
      (heap_full set m ps 10 v g n run i.printed_is (omega (arith, i.agrees.heap, heap)) (stands_happened g (c' ∷ lives) c.ways_on path n v run st))
      (goes_on set (inside_choice (Goes r.alt) 0 m') path.steps [] g n v run r.way.reads
      (record {
        lives = c' ∷ lives;
        ways = c.ways_on;
        registers = path.registers;
        mirrors = choice_mirrors g code m' ps q path.registers lives c.ways_on c.ways_on w v (Goes r.alt) 0 c' m.stops m.stop i refl refl i.printed_is (inside_is q path.registers 10 r.way.registers) i.stops_are (ap (λ (x : Registers). x.stoppable) r.way.registers ∙ i.stop_is) i.stops_are
            (goes_open g code r.alt m.frames m.inner q (o ∷ os) c.height r.others ∙ ap (λ l. open_at l c.height) (sym e) ∙ height) (tag ∙ sym i.tag) (refl, r.others);
        stands = st;
      }) (let z = r.some in let y = ap resuming r.block in omega (arith, le, z, y))))

  pub resumes : {least : ℕ} → (others : List Branch) → c.others ≡ others → GoesAt g code b m.frames m.inner q others → least ≤ w.meters.work + resuming (block_at code b) → Comes least ps set (resumed set (block_at code b) m) g n run
  resumes {least = least} [] e goes le = absurd goes
  resumes {least = least} (Enter path work ∷ []) e goes le = last_begins path work e goes le
  resumes {least = least} (Enter path work ∷ o ∷ os) e goes le = retry_begins path work o os e goes le
  resumes {least = least} (Clash r work ∷ os) e goes le = absurd goes
  resumes {least = least} (TakeOut t whole into path ∷ os) e goes le = absurd goes
  resumes {least = least} (Finds place o args path ∷ os) e goes le = absurd goes
