-- Queries, and the rules that they enter.
use Rattle.std.proofs.Common.{◌≡◌, ℕ, ◌+◌, ◌≤◌, List, [], ◌∷◌, ◌++◌, Bool, true, false, Option, refl, sym, ap, ◌∙◌, subst, arith, map, length, drop}
use Rattle.std.specs.Prelude.{◌-◌}
use Rattle.std.specs.List.{zip}
use Rattle.std.proofs.lemmas.Bool.{cond_both}
use Rattle.dg_base.specs.declared.program.Rule.{Rule}
use Rattle.dg_base.specs.declared.run.Limits.{Limits}
use Rattle.dg_meaning.specs.Values.{Value, value_of}
use Rattle.dg_meaning.specs.inside.Substitutions.{IsSubstitution}
use Rattle.dg_meaning.specs.Unify.{Unified, solve}
use Rattle.dg_meaning.specs.World.{Game, World, Print, prints}
use Rattle.dg_meaning.specs.Cells.{cells, writing}
use Rattle.dg_meaning.specs.Path.{Step, Answers, Registers, Path, Branch, Clash, Rules}
use Rattle.dg_meaning.specs.Moves.{begun, exhausted, path_of, goals_at, first_alone, inside, enter_if, rule_steps, new_vars, vars_of as rule_vars, entered as entered_at, match, matched, unless_excluded, is_excluded, call_cells, entering as entering_in, unifying, rule_branch, rule_branches, made_since, older_bound}
use Rattle.dg_meaning.specs.Transcript.{Run}
use Rattle.dg_meaning.specs.inside.Context.{Way as WayOn, Live}
use Rattle.dg_meaning.specs.inside.Keeps.{Failed, Began, open_at}
use Rattle.dg_meaning.specs.Path.{Moves, FailsAt as MoveFails}
use Rattle.dg_meaning.proofs.Keeps.{has_happened, stands_happened}
use Rattle.dg_mid.specs.declared.code.RuleCode.{RuleCode}
use Rattle.dg_mid.specs.declared.code.Code.{Code}
use Rattle.dg_mid.specs.Code.{block_at, selected, excluded}
use Rattle.dg_mid.specs.State.{Frame, Call, Calls, Mid, Runs, Enters}
use Rattle.dg_mid.specs.Step.{Setting, setting, unified, if_agreed, bound, passed, new_choice, inside as inside_choice, first_of, at_rule, enters, begins, entered, new_frame}
use Rattle.dg_mid.specs.Units.{entering}
use Rattle.dg_mid.specs.Codes.{Returns, RuleStands, RulesStand}
use Rattle.dg_mid.specs.Reads.{silents, Behind, Layer, Reads, dead, kept, AreBelow, AreClashes, EntersAt, lasting_of, Mirrors, Comes}
use Rattle.dg_mid.proofs.Here.{mirrors_on}
use Rattle.dg_mid.proofs.Marks.{goes_on, below_next}
use Rattle.dg_mid.proofs.Taking.{charge, unify_on, began_grows, trail_older}
use Rattle.dg_mid.proofs.Drops.{drop_to}
use Rattle.dg_mid.proofs.Backs.{turns_back, exhausted_tells}
use Rattle.dg_mid.proofs.Excluded.{excluded_is, cells_left}

-- a list that was cut and is as long is the same
same_length : {A : Type 0} (k : ℕ) (xs ys : List A) → ys ≡ drop k xs → length ys ≡ length xs → ys ≡ xs
same_length k xs ys e same =
    let n : length xs - length xs ≡ 0 = omega arith in
    e ∙ drop_to k (length xs) xs (ap length (sym e) ∙ same) ∙ ap (λ i. drop i xs) n

-- a rule's branch takes no gathering out
open_if : (x b : Bool) (r : Registers) (path : Path) (work : ℕ) (bs : List Branch) (height : ℕ) → open_at (unless_excluded x r work (enter_if b path work) ∷ bs) height ≡ height
open_if true b r path work bs height = refl
open_if false true r path work bs height = refl
open_if false false r path work bs height = refl

pub rule_open : (g : Game) (pred : ℕ) (args : List Value) (many : Bool) (steps : List Step) (r : Registers) (heap : ℕ) (rule : Rule) (bs : List Branch) (height : ℕ) → open_at (rule_branch g pred args many steps r heap rule ∷ bs) height ≡ height
rule_open g pred args many steps r heap rule bs height = open_if (is_excluded args r rule) (match g args rule r).agrees r _ _ bs height

-- the branch of a rule that is excluded, and of one that isn't
clash_is : (g : Game) (pred : ℕ) (args : List Value) (many : Bool) (steps : List Step) (r : Registers) (heap : ℕ) (rule : Rule) → is_excluded args r rule ≡ true → rule_branch g pred args many steps r heap rule ≡ Clash (inside 0 r) (entering_in g args rule r)
clash_is g pred args many steps r heap rule e =
    ap (λ x. unless_excluded x r (entering_in g args rule r) (enter_if (match g args rule r).agrees (path_of (rule_steps pred many (rule_vars rule r) r.next_tag rule steps) (matched (match g args rule r) r (entered_at g heap rule r))) (entering_in g args rule r))) e

pub entry_is : (g : Game) (pred : ℕ) (args : List Value) (many : Bool) (steps : List Step) (r : Registers) (heap : ℕ) (rule : Rule) → is_excluded args r rule ≡ false →
    rule_branch g pred args many steps r heap rule ≡ enter_if (match g args rule r).agrees (path_of (rule_steps pred many (rule_vars rule r) r.next_tag rule steps) (matched (match g args rule r) r (entered_at g heap rule r))) (entering_in g args rule r)
entry_is g pred args many steps r heap rule e =
    ap (λ x. unless_excluded x r (entering_in g args rule r) (enter_if (match g args rule r).agrees (path_of (rule_steps pred many (rule_vars rule r) r.next_tag rule steps) (matched (match g args rule r) r (entered_at g heap rule r))) (entering_in g args rule r))) e

-- where a branch begins its counts are reached
pub began_peaks : (g : Game) (lives : List Live) (ways : List WayOn) (b : Bool) (path : Path) (work n : ℕ) (w : World) (run : Run) → Began g lives ways (enter_if b path work) n w run →
    (path.registers.heap ≤ run.world.meters.heap) × (path.registers.trail ≤ run.world.meters.trail)
began_peaks g lives ways true path work n w run h =
    let later = (stands_happened g lives ways path n (begun path.registers work w) run h).meters in (omega (arith, later.heap), omega (arith, later.trail))
began_peaks g lives ways false path work n w run h =
    let later = (has_happened g lives ways n (Moves (MoveFails (begun path.registers work w))) run h).meters in (omega (arith, later.heap), omega (arith, later.trail))

module _ (g : Game) (code : Code) (limits : Limits) (call : Call) (pred : ℕ) (answered : List ℕ) (after : List Step) (q : Registers) (sub : IsSubstitution q.bound) (m : Mid) (ps : List Print) (lives : List Live) (ways : List WayOn) (n : ℕ) (run : Run) (height : ℕ)
    (reads : Reads g code (block_at code call.next) m.frames m.inner after) (cut : call.cut.tag ≡ q.next_tag) (height_is : height ≡ length m.gathered) where
  abbrev set : Setting
  set = setting g code limits

  abbrev first : Option Value
  first = first_of q.bound call

  abbrev pub left : List Rule → List Branch
  left rules = rule_branches g pred call.args call.many (silents answered after) q rules

  abbrev one : List Rule → Rule → Branch
  one rules rule = rule_branch g pred call.args call.many (silents answered after) q (call_cells call.args q rules) rule

  abbrev live : List Rule → Live
  live rules = record { kind = Rules pred; tag = q.next_tag; others = left rules; height = height; ways_on = ways }

  -- rules that are all excluded fail where they begin
  all_clash : (codes : List RuleCode) (rules : List Rule) → RulesStand code codes rules → selected first codes ≡ [] → AreClashes (left rules)
  all_clash [] [] stand none = tt
  all_clash [] (rule ∷ rules) stand none = absurd stand
  all_clash (c ∷ cs) [] stand none = absurd stand
  all_clash (c ∷ cs) (rule ∷ rules) stand none = cond_both (excluded first c.key) (selected first cs) (c ∷ cs) (λ l. l ≡ [] → AreClashes (left (rule ∷ rules)))
      (λ e h. subst (λ b. AreClashes (b ∷ left rules)) (sym (clash_is g pred call.args call.many (silents answered after) q (call_cells call.args q rules) rule (sym (excluded_is q.bound call c.key rule.head stand.0.key_is) ∙ e))) (all_clash cs rules stand.1 h))
      (λ e h. absurd (cc (h)))
      none

  -- the last rule that isn't excluded
  enters_last : {least : ℕ} → (c : RuleCode) (rule : Rule) (cs : List RuleCode) (rules : List Rule) (w : World) → Mirrors g code m ps q lives ways w → RuleStands code c rule → RulesStand code cs rules → is_excluded call.args q rule ≡ false → selected first cs ≡ [] →
      Began g (live rules ∷ lives) ways (one rules rule) n w run → least ≤ w.meters.work → Comes least ps set (Enters call (passed (at_rule set c m))) g n run
  enters_last {least = least} c rule cs rules w i stands stand admitted none began le = record {
    world = w;
    at = record {
      lives = live rules ∷ lives;
      ways = ways;
      registers = q;
      cells = call_cells call.args q rules;
      mirrors = record {
        agrees = record { bound = i.agrees.bound; vars = i.agrees.vars; heap = omega (arith, i.agrees.heap); trail = i.agrees.trail; since = i.agrees.since };
        tag = ap (λ t. t + 1) i.tag;
        choices_are = dead m.choices (live rules) lives (all_clash cs rules stand none) (subst (λ t. AreBelow t m.choices) (sym i.tag) i.below) i.choices_are;
        below = below_next m.next_tag m.choices i.below;
        stops_are = i.stops_are;
        stop_is = i.stop_is;
        gathered_is = i.gathered_is;
        lasting_is = i.lasting_is;
        printed_is = i.printed_is;
      };
      pred = pred;
      rule = rule;
      ops = stands.ops;
      block = stands.block;
      body = stands.body;
      answered = answered;
      after = after;
      reads = reads;
      cut = cut;
      admitted = admitted;
      began = began;
    };
    worked = le;
  }

  -- a rule with others behind it that aren't excluded
  enters_more : {least : ℕ} → (c : RuleCode) (rule : Rule) (cs : List RuleCode) (r : Rule) (rules : List Rule) (later : RuleCode) (laters : List RuleCode) (w : World) → Mirrors g code m ps q lives ways w → RuleStands code c rule → RulesStand code cs (r ∷ rules) → is_excluded call.args q rule ≡ false → later ∷ laters ≡ selected first cs →
      Began g (live (r ∷ rules) ∷ lives) ways (one (r ∷ rules) rule) n w run → least ≤ w.meters.work → Comes least ps set (enters set call c (later ∷ laters) m) g n run
  enters_more {least = least} c rule cs r rules later laters w i stands stand admitted some began le =
      let m' = inside_choice (Calls call (later ∷ laters)) (length call.args) (at_rule set c m) in
      let k = cells_left q.bound code call cs (r ∷ rules) later laters stand some in
      let u = match g call.args rule q in
      let steps = silents answered after in
      let cells_are = call_cells call.args q (r ∷ rules) in
      let entry = subst (λ b. Began g (live (r ∷ rules) ∷ lives) ways b n w run) (entry_is g pred call.args call.many steps q cells_are rule admitted) began in
      let peaks = began_peaks g (live (r ∷ rules) ∷ lives) ways u.agrees _ _ n w run entry in
      charge set [] (10 + length call.args) m (Enters call m') g n run
      (λ full. record { world = w; at = record { passes = omega (arith, full, i.agrees.heap, peaks.0, k); printed = i.printed_is; happened = began_grows g _ ways _ n w run began }; grows = began_grows g _ ways _ n w run began })
      (record {
        world = w;
        at = record {
          lives = live (r ∷ rules) ∷ lives;
          ways = ways;
          registers = q;
          cells = cells_are;
          mirrors = record {
            agrees = record { bound = i.agrees.bound; vars = i.agrees.vars; heap = omega (arith, i.agrees.heap, k); trail = i.agrees.trail; since = omega arith };
            tag = ap (λ t. t + 1) i.tag;
            choices_are = kept (new_choice (Calls call (later ∷ laters)) (at_rule set c m)) m.choices (live (r ∷ rules)) lives
                (record {
                  registers = q;
                  agrees = record { bound = i.agrees.bound; vars = i.agrees.vars; heap = i.agrees.heap; trail = i.agrees.trail; since = omega arith };
                  tag_at = i.tag;
                  tag = i.tag;
                  way = record { pred = pred; rule = r; left = rules; codes = cs; stand = stand; rules_are = some ∙ ap (λ S. selected (first_of S call) cs) i.agrees.bound; kind_is = refl; answered = answered; after = after; reads = reads; others_are = refl; cut = cut; sound = sub };
                  stops = i.stops_are;
                  stop_at = i.stop_is;
                  height = rule_open g pred call.args call.many steps q (call_cells call.args q rules) r (left rules) height ∙ height_is;
                })
                i.below i.choices_are;
            below = omega arith;
            stops_are = i.stops_are;
            stop_is = i.stop_is;
            gathered_is = i.gathered_is;
            lasting_is = i.lasting_is;
            printed_is = i.printed_is;
          };
          pred = pred;
          rule = rule;
          ops = stands.ops;
          block = stands.block;
          body = stands.body;
          answered = answered;
          after = after;
          reads = reads;
          cut = cut;
          admitted = admitted;
          began = began;
        };
        worked = le;
      })

  enters_rule : {least : ℕ} → (c : RuleCode) (rule : Rule) (cs : List RuleCode) (rules : List Rule) (later : List RuleCode) (w : World) → Mirrors g code m ps q lives ways w → RuleStands code c rule → RulesStand code cs rules → is_excluded call.args q rule ≡ false → later ≡ selected first cs →
      Began g (live rules ∷ lives) ways (one rules rule) n w run → least ≤ w.meters.work → Comes least ps set (enters set call c later m) g n run
  enters_rule {least = least} c rule cs rules [] w i stands stand admitted e began le = enters_last c rule cs rules w i stands stand admitted (sym e) began le
  enters_rule {least = least} c rule [] [] (y ∷ ys) w i stands stand admitted e began le = absurd (cc (e))
  enters_rule {least = least} c rule (x ∷ xs) [] (y ∷ ys) w i stands stand admitted e began le = absurd stand
  enters_rule {least = least} c rule cs (r ∷ rules) (y ∷ ys) w i stands stand admitted e began le = enters_more c rule cs r rules y ys w i stands stand admitted e began le

  -- where the first rule has failed, the others are tried
  abbrev OthersBegin : ℕ → List RuleCode → Type 0
  OthersBegin least cs = (rules : List Rule) (w : World) (r : Registers) (work : ℕ) → RulesStand code cs rules → Mirrors g code m ps q lives ways w →
      Failed g (live rules ∷ lives) n (begun r work w) run → least ≤ w.meters.work → Comes least ps set (begins set call (selected first cs) m) g n run

  first_begins : {least : ℕ} → (c : RuleCode) (cs : List RuleCode) → OthersBegin least cs → (rule : Rule) (rules : List Rule) (w : World) → RuleStands code c rule × RulesStand code cs rules → Mirrors g code m ps q lives ways w →
      Began g (live rules ∷ lives) ways (one rules rule) n w run → least ≤ w.meters.work → Comes least ps set (begins set call (selected first (c ∷ cs)) m) g n run
  first_begins {least = least} c cs others rule rules w stand i began le =
      let same = excluded_is q.bound call c.key rule.head stand.0.key_is in
      cond_both (excluded first c.key) (selected first cs) (c ∷ cs) (λ l. Comes least ps set (begins set call l m) g n run)
      (λ e.
      let clash = clash_is g pred call.args call.many (silents answered after) q (call_cells call.args q rules) rule (sym same ∙ e) in
      others rules w (inside 0 q) (entering_in g call.args rule q) stand.1 i (subst (λ b. Began g (live rules ∷ lives) ways b n w run) clash began) le)
      (λ e. enters_rule c rule cs rules (selected (first_of m.state.subst call) cs) w i stand.0 stand.1 (sym same ∙ e) (ap (λ S. selected (first_of S call) cs) (sym i.agrees.bound)) began le)

  -- gatherings that were dropped on the way back were none
  mirrors_back : (count : ℕ) (w v : World) → Mirrors g code m ps q lives ways w → v.gathered ≡ drop count w.gathered → length v.gathered ≡ height → lasting_of v ≡ lasting_of w → prints v.events ≡ prints w.events → Mirrors g code m ps q lives ways v
  mirrors_back count w v i dropped long out printed = mirrors_on g code m.state m.next_tag m.choices m.stops m.stop m.gathered m.lasting ps ps q lives ways w v (same_length count w.gathered v.gathered dropped (long ∙ height_is ∙ ap length (sym i.gathered_is))) out (printed ∙ i.printed_is) i

  others_begin : {least : ℕ} → (cs : List RuleCode) → OthersBegin least cs
  others_begin {least = least} [] [] w r work stand i f le =
      let t = turns_back g (live []) lives n (begun r work w) run f in
      let told = exhausted_tells (Rules pred) t.world in
      let on = mirrors_back t.count w t.world i t.dropped t.height t.lasting t.printed in
      record { world = exhausted (Rules pred) t.world; at = record { lives = lives; choices = i.choices_are; gathered = told.gathered ∙ on.gathered_is; lasting = told.lasting ∙ on.lasting_is; printed = told.printed ∙ on.printed_is; failed = t.tried }; worked = let z = t.work in omega (arith, le, z) }
  others_begin {least = least} [] (rule ∷ rules) w r work stand i f le = absurd stand
  others_begin {least = least} (c ∷ cs) [] w r work stand i f le = absurd stand
  others_begin {least = least} (c ∷ cs) (rule ∷ rules) w r work stand i f le =
      let t = turns_back g (live (rule ∷ rules)) lives n (begun r work w) run f in
      let on = mirrors_back t.count w t.world i t.dropped (t.height ∙ rule_open g pred call.args call.many (silents answered after) q (call_cells call.args q rules) rule (left rules) height) t.lasting t.printed in
      first_begins c cs (others_begin cs) rule rules t.world stand on t.tried (let z = t.work in omega (arith, le, z))

  -- the rules that a choice has left
  pub rules_begin : {least : ℕ} → (codes : List RuleCode) (rule : Rule) (rules : List Rule) (w : World) → RulesStand code codes (rule ∷ rules) → Mirrors g code m ps q lives ways w → Began g (live rules ∷ lives) ways (one rules rule) n w run → least ≤ w.meters.work →
      Comes least ps set (begins set call (selected first codes) m) g n run
  rules_begin {least = least} [] rule rules w stand i began le = absurd stand
  rules_begin {least = least} (c ∷ cs) rule rules w stand i began le = first_begins c cs (others_begin cs) rule rules w stand i began le

-- ## A rule is entered

-- what its match comes to
pub match_on : {least : ℕ} → {ps : List Print} → (g : Game) (code : Code) (limits : Limits) (b : Bool) (m : Mid) (f : Frame) (path : Path) (work : ℕ) (lives : List Live) (ways : List WayOn) (n : ℕ) (w : World) (run : Run) →
    Mirrors g code m ps path.registers lives ways w → Layer (Behind g code (f ∷ m.frames)) g code m.ops f.vars f.cut.tag [] path.steps → Began g lives ways (enter_if b path work) n w run →
    least ≤ w.meters.work + work → Comes least ps (setting g code limits) (if_agreed b m (Runs (record m { frames = f ∷ m.frames; inner = [] }))) g n run
match_on {least = least} {ps = ps} g code limits true m f path work lives ways n w run i layer began le =
    let v = begun path.registers work w in
    goes_on (setting g code limits) (record m { frames = f ∷ m.frames; inner = [] }) path.steps [] g n v run layer
    (record { lives = lives; ways = ways; registers = path.registers; mirrors = mirrors_on g code m.state m.next_tag m.choices m.stops m.stop m.gathered m.lasting ps ps path.registers lives ways w v refl refl i.printed_is i; stands = began }) le
match_on {least = least} {ps = ps} g code limits false m f path work lives ways n w run i layer began le =
    record { world = begun path.registers work w; at = record { lives = lives; choices = i.choices_are; gathered = i.gathered_is; lasting = i.lasting_is; printed = i.printed_is; failed = began }; worked = le }

pub enters_at : {least : ℕ} → {ps : List Print} → (g : Game) (code : Code) (limits : Limits) (call : Call) (m : Mid) (n : ℕ) (w : World) (run : Run) → EntersAt code call m ps g n w run → least ≤ w.meters.work + entering (setting g code limits) call m.ops m →
    Comes least ps (setting g code limits) (entered (setting g code limits) call m.ops m) g n run
enters_at {least = least} {ps = ps} g code limits call m n w run h le =
    let set = setting g code limits in
    let i = h.mirrors in
    let q = h.registers in
    let rule = h.rule in
    let steps = silents h.answered h.after in
    let m1 : Mid = record m { ops = h.ops } in
    let k = 6 + rule.vars + cells g.program rule.head in
    let f = new_frame call rule.vars m1 in
    let m2 : Mid = record m1 { state = record m.state { vars = m.state.vars + rule.vars; heap = m.state.heap + k } } in
    let u = solve m.state.subst (zip call.args (map (value_of g.program f.vars) rule.head)) in
    let u' = match g call.args rule q in
    let same : u' ≡ u = ap (λ S. solve S (zip call.args (map (value_of g.program (new_vars rule.vars q.next_var)) rule.head))) i.agrees.bound ∙ ap (λ v. solve m.state.subst (zip call.args (map (value_of g.program (new_vars rule.vars v)) rule.head))) i.agrees.vars in
    let path : Path = path_of (rule_steps h.pred call.many (rule_vars rule q) q.next_tag rule steps) (matched u' q (entered_at g h.cells rule q)) in
    let work = entering_in g call.args rule q in
    let began = subst (λ b. Began g h.lives h.ways b n w run) (entry_is g h.pred call.args call.many steps q h.cells rule h.admitted) h.began in
    let peaks = began_peaks g h.lives h.ways u'.agrees path work n w run began in
    let grows = began_grows g h.lives h.ways _ n w run began in
    let made : made_since q.bound u'.subst ≡ made_since m.state.subst u.subst = ap (λ S. made_since S u'.subst) i.agrees.bound ∙ ap (λ (x : Unified). made_since m.state.subst x.subst) same in
    let few = trail_older m.state.since q.next_var (made_since m.state.subst u.subst) (omega (arith, i.agrees.since, i.agrees.vars)) in
    let older : older_bound q.next_var (made_since q.bound u'.subst) ≡ older_bound q.next_var (made_since m.state.subst u.subst) = ap (older_bound q.next_var) made in
    let as_here : work ≡ 1 + writing rule.head + unifying m.state.subst (zip call.args (map (value_of g.program f.vars) rule.head)) =
    ap (λ S. 1 + writing rule.head + unifying S (zip call.args (map (value_of g.program (new_vars rule.vars q.next_var)) rule.head))) i.agrees.bound
    ∙ ap (λ v. 1 + writing rule.head + unifying m.state.subst (zip call.args (map (value_of g.program (new_vars rule.vars v)) rule.head))) i.agrees.vars in
    subst (λ ops. Comes least ps set (entered set call ops m) g n run) (sym h.block)
    (charge set [] k m1 (unified set u m2 (Runs (record (bound u m2) { frames = f ∷ m.frames; inner = [] }))) g n run
    (λ full. record { world = w; at = record { passes = omega (arith, full, i.agrees.heap, peaks.0); printed = i.printed_is; happened = grows }; grows = grows })
    (unify_on set [] u m2 (Runs (record (bound u m2) { frames = f ∷ m.frames; inner = [] })) g n run
    (λ full. record { world = w; at = record { passes = omega (arith, full, i.agrees.trail, peaks.1, few, older); printed = i.printed_is; happened = grows }; grows = grows })
    (match_on g code limits u.agrees (bound u m2) f path work h.lives h.ways n w run
    (record {
      agrees = record {
        bound = ap (λ (x : Unified). x.subst) same;
        vars = ap (λ v. v + rule.vars) i.agrees.vars;
        heap = omega (arith, i.agrees.heap);
        trail = omega (arith, i.agrees.trail, few, older);
        since = omega (arith, i.agrees.since);
      };
      tag = i.tag;
      choices_are = i.choices_are;
      below = i.below;
      stops_are = i.stops_are;
      stop_is = i.stop_is;
      gathered_is = i.gathered_is;
      lasting_is = i.lasting_is;
      printed_is = i.printed_is;
    })
    (record {
      goals = rule.body;
      end = Returns;
      rest = Answers h.pred ∷ first_alone call.many call.cut.tag steps;
      stands = h.body;
      below = record { noted = h.pred ∷ []; answered = h.answered; after = h.after; layer = h.reads; is = refl };
      gathers = tt;
      is = ap (λ v. goals_at (new_vars rule.vars v) q.next_tag rule.body ++ Answers h.pred ∷ first_alone call.many q.next_tag steps) i.agrees.vars
          ∙ ap (λ t. goals_at (new_vars rule.vars m.state.vars) t rule.body ++ Answers h.pred ∷ first_alone call.many t steps) (sym h.cut);
    })
    (subst (λ (x : Unified). Began g h.lives h.ways (enter_if x.agrees path work) n w run) same began) (let x = ap (λ l. entering set call l m) h.block in omega (arith, le, x, as_here)))))
