-- Heights order places as tags do.
use Rattle.std.proofs.Common.{◌≡◌, ℕ, zero, suc, ◌+◌, ◌≤◌, List, [], ◌∷◌, Bool, true, false, Option, Some, None, refl, sym, subst, arith, length, map}
use Rattle.std.specs.Prelude.{nat_lt, eqb, ◌-◌}
use Rattle.std.specs.List.{zip}
use Rattle.std.proofs.lemmas.Bool.{cond_both, ltb-true}
use Rattle.dg_base.specs.declared.program.Term.{Term}
use Rattle.dg_base.specs.Goals.{option_terms}
use Rattle.dg_base.specs.declared.run.Ending.TheVariants as ending
use Rattle.dg_meaning.specs.Values.{Value, value_of}
use Rattle.dg_meaning.specs.Cells.{cells}
use Rattle.dg_meaning.specs.Unify.{Unified, solve}
use Rattle.dg_meaning.specs.Substitutions.{resolved}
use Rattle.dg_meaning.specs.World.{Gathering, gathered_size}
use Rattle.dg_meaning.specs.Path.{Act, Goes as GoesNow, Tests, Unifies, Ends, Fails as FailsNow, Stops, Effect, Acts, Offers}
use Rattle.dg_mid.specs.declared.code.Op.{Op}
use Rattle.dg_mid.specs.declared.code.Op.TheVariants as op
use Rattle.dg_mid.specs.declared.code.Gathered.{Gathered}
use Rattle.dg_mid.specs.declared.code.RuleCode.{RuleCode}
use Rattle.dg_mid.specs.declared.code.BodyCode.{BodyCode}
use Rattle.dg_mid.specs.Code.{block_at, rules_at, selected}
use Rattle.dg_mid.specs.State.{Place, Frame, Call, Target, ToPred, ToBody, Find, Way, Goes, Calls, Tries, Stop, Choice, Mid, Status, Runs, Enters, Resumes, Fails, Ended, cut_of, place_of, inner_for, cut_choices, stop_to, Takes, vars_of}
use Rattle.dg_mid.specs.Step.{Setting, parameter, body_frame, body_equations, enters_body, calls, queries, queries_last, asked_by, seeks, trying, trying_cells, tries, gathering, done, made_in, keeps_within, gathers, taken_out, charged, unified, bound, trail_more, if_agreed, if_passed, enters, begins, asks, asks_last, last, returned, returns, commits, refuses, leaves, keeps, stops, stops_at, new_frame, does, runs, entered, enter, resumed, goes_on, goes_back, step, first_of, call_of, values, more, inside, passed, within, shielded, cut_to, at_rule, keeps_value, takes, with_gathering, newest_with, takes_newest}
use Rattle.dg_mid.specs.Runs.{after}
use Rattle.dg_mid.specs.Actions.{terms_of, act_at, asked_at, found_at, lasting_in}
use Rattle.dg_mid.specs.Heights.{AgreeAll, IsNamed, PlacesNamed, FramesNamed, StopsNamed, WayNamed, AreNamed, ChoicesNamed, IsOrdered, MidOrdered, StatusOrdered}

-- ## Names among other choices

-- from one list of choices and bounds to another
abbrev Up : ℕ → ℕ → List Choice → ℕ → ℕ → List Choice → Type 0
Up t h cs t' h' cs' = (p : Place) → IsNamed t h cs p → IsNamed t' h' cs' p

places_up : (t h : ℕ) (cs : List Choice) (t' h' : ℕ) (cs' : List Choice) (ps : List Place) → Up t h cs t' h' cs' → PlacesNamed t h cs ps → PlacesNamed t' h' cs' ps
places_up t h cs t' h' cs' [] up n = tt
places_up t h cs t' h' cs' (p ∷ ps) up n = (up p n.0, places_up t h cs t' h' cs' ps up n.1)

frames_up : (t h : ℕ) (cs : List Choice) (t' h' : ℕ) (cs' : List Choice) (fs : List Frame) → Up t h cs t' h' cs' → FramesNamed t h cs fs → FramesNamed t' h' cs' fs
frames_up t h cs t' h' cs' [] up n = tt
frames_up t h cs t' h' cs' (f ∷ fs) up n = (up f.cut n.0, places_up t h cs t' h' cs' f.inner up n.1, frames_up t h cs t' h' cs' fs up n.2)

-- with the same bounds, for each bound up to these
abbrev Within : ℕ → ℕ → List Choice → List Choice → Type 0
Within t h cs cs' = (u k : ℕ) → u ≤ t → k ≤ h → Up u k cs u k cs'

stops_within : (t h : ℕ) (cs cs' : List Choice) (ss : List Stop) → Within t h cs cs' → StopsNamed t h cs ss → StopsNamed t h cs' ss
stops_within t h cs cs' [] up n = tt
stops_within t h cs cs' (s ∷ ss) up n =
    let a = n.0.tag in let b = n.0.height in
    let here = up s.place.tag s.place.height a b in (
      up t h (omega arith) (omega arith) s.place n.0,
      n.1,
      n.2,
      places_up _ _ cs _ _ cs' s.inner here n.3,
      frames_up _ _ cs _ _ cs' s.frames here n.4,
      stops_within s.place.tag s.place.height cs cs' ss (λ u k le le'. up u k (omega (arith, le, a)) (omega (arith, le', b))) n.5,
    )

stops_raise : (t h t' h' : ℕ) (cs : List Choice) (ss : List Stop) → t ≤ t' → h ≤ h' → StopsNamed t h cs ss → StopsNamed t' h' cs ss
stops_raise t h t' h' cs [] a b n = tt
stops_raise t h t' h' cs (s ∷ ss) a b n = (record { tag = omega (arith, n.0.tag, a); height = omega (arith, n.0.height, b); agrees = n.0.agrees }, omega (arith, n.1, a), n.2, n.3, n.4, n.5)

choices_raise : (t h t' h' : ℕ) (cs : List Choice) → t ≤ t' → h ≤ h' → ChoicesNamed t h cs → ChoicesNamed t' h' cs
choices_raise t h t' h' [] a b n = tt
choices_raise t h t' h' (c ∷ cs) a b n = (omega (arith, n.0, a), omega (arith, n.1, b), n.2, n.3, n.4, n.5)

-- bounds rise
pub named_raise : (t h t' h' : ℕ) (cs : List Choice) (frames : List Frame) (inner : List Place) (ss : List Stop) → t ≤ t' → h ≤ h' → AreNamed t h cs frames inner ss → AreNamed t' h' cs frames inner ss
named_raise t h t' h' cs frames inner ss a b n =
    let up : Up t h cs t' h' cs = λ p q. record { tag = omega (arith, q.tag, a); height = omega (arith, q.height, b); agrees = q.agrees } in
    record { frames_are = frames_up t h cs t' h' cs frames up n.frames_are; inner_are = places_up t h cs t' h' cs inner up n.inner_are; stops_are = stops_raise t h t' h' cs ss a b n.stops_are }

pub ordered_raise : (t h t' h' : ℕ) (cs : List Choice) (frames : List Frame) (inner : List Place) (ss : List Stop) → t ≤ t' → h ≤ h' → IsOrdered t h cs frames inner ss → IsOrdered t' h' cs frames inner ss
ordered_raise t h t' h' cs frames inner ss a b o = record { named = named_raise t h t' h' cs frames inner ss a b o.named; choices = choices_raise t h t' h' cs a b o.choices }

-- a choice opens at the bounds
pub named_push : (t h : ℕ) (c : Choice) (cs : List Choice) (frames : List Frame) (inner : List Place) (ss : List Stop) → c.place.tag ≡ t → c.place.height ≡ h → AreNamed t h cs frames inner ss → AreNamed t h (c ∷ cs) frames inner ss
named_push t h c cs frames inner ss a b n =
    let up : Within t h cs (c ∷ cs) = λ u k le le' p q. record { tag = q.tag; height = q.height; agrees = (record { older = λ lt. absurd (omega (arith, lt, a, le, q.tag)); newer = λ x. omega (arith, b, le', q.height) }, q.agrees) } in
    let here = up t h (omega arith) (omega arith) in
    record { frames_are = frames_up t h cs t h (c ∷ cs) frames here n.frames_are; inner_are = places_up t h cs t h (c ∷ cs) inner here n.inner_are; stops_are = stops_within t h cs (c ∷ cs) ss up n.stops_are }

-- choices are cut
agree_cut : (p : Place) (cs : List Choice) (q : Place) → AgreeAll cs q → AgreeAll (cut_choices p cs) q
agree_cut p [] q a = tt
agree_cut p (c ∷ cs) q a = cond_both (nat_lt c.place.tag p.tag) (c ∷ cs) (cut_choices p cs) (λ l. AgreeAll l q) (λ e. a) (λ e. agree_cut p cs q a.1)

choices_cut : (t h : ℕ) (p : Place) (cs : List Choice) → ChoicesNamed t h cs → ChoicesNamed t h (cut_choices p cs)
choices_cut t h p [] n = tt
choices_cut t h p (c ∷ cs) n = cond_both (nat_lt c.place.tag p.tag) (c ∷ cs) (cut_choices p cs) (ChoicesNamed t h) (λ e. n) (λ e. choices_cut t h p cs (choices_raise c.place.tag c.place.height t h cs (omega (arith, n.0)) (omega (arith, n.1)) n.5))

pub named_cut : (t h : ℕ) (p : Place) (cs : List Choice) (frames : List Frame) (inner : List Place) (ss : List Stop) → AreNamed t h cs frames inner ss → AreNamed t h (cut_choices p cs) frames inner ss
named_cut t h p cs frames inner ss n =
    let up : Within t h cs (cut_choices p cs) = λ u k le le' q x. record { tag = x.tag; height = x.height; agrees = agree_cut p cs q x.agrees } in
    let here = up t h (omega arith) (omega arith) in
    record { frames_are = frames_up t h cs t h _ frames here n.frames_are; inner_are = places_up t h cs t h _ inner here n.inner_are; stops_are = stops_within t h cs _ ss up n.stops_are }

pub ordered_cut : (t h : ℕ) (p : Place) (cs : List Choice) (frames : List Frame) (inner : List Place) (ss : List Stop) → IsOrdered t h cs frames inner ss → IsOrdered t h (cut_choices p cs) frames inner ss
ordered_cut t h p cs frames inner ss o = record { named = named_cut t h p cs frames inner ss o.named; choices = choices_cut t h p cs o.choices }

-- a place that is named now
agree_now : (t h : ℕ) (p : Place) (cs : List Choice) → p.tag ≡ t → p.height ≡ h → ChoicesNamed t h cs → AgreeAll cs p
agree_now t h p [] a b n = tt
agree_now t h p (c ∷ cs) a b n = (record { older = λ lt. omega (arith, b, n.1); newer = λ le. absurd (omega (arith, le, a, n.0)) }, agree_now t h p cs a b (choices_raise c.place.tag c.place.height t h cs (omega (arith, n.0)) (omega (arith, n.1)) n.5))

pub named_now : (m : Mid) → MidOrdered m → IsNamed m.next_tag m.state.heap m.choices (place_of m)
named_now m o = record { tag = omega arith; height = omega arith; agrees = agree_now m.next_tag m.state.heap (place_of m) m.choices refl refl o.choices }

-- ## Parts of a step

raised : (m : Mid) (t h : ℕ) → m.next_tag ≤ t → m.state.heap ≤ h → MidOrdered m → IsOrdered t h m.choices m.frames m.inner m.stops
raised m t h a b o = ordered_raise m.next_tag m.state.heap t h m.choices m.frames m.inner m.stops a b o

one_push : (t h : ℕ) (c : Choice) (cs : List Choice) (p : Place) → c.place.tag ≡ t → c.place.height ≡ h → IsNamed t h cs p → IsNamed t h (c ∷ cs) p
one_push t h c cs p a b n = record { tag = n.tag; height = n.height; agrees = (record { older = λ lt. absurd (omega (arith, lt, a, n.tag)); newer = λ x. omega (arith, b, n.height) }, n.agrees) }

one_raise : (t h t' h' : ℕ) (cs : List Choice) (p : Place) → t ≤ t' → h ≤ h' → IsNamed t h cs p → IsNamed t' h' cs p
one_raise t h t' h' cs p a b n = record { tag = omega (arith, n.tag, a); height = omega (arith, n.height, b); agrees = n.agrees }

more_ordered : (k : ℕ) (m : Mid) → MidOrdered m → MidOrdered (more k m)
more_ordered k m o = raised m m.next_tag (m.state.heap + k) (omega arith) (omega arith) o

passed_ordered : (m : Mid) → MidOrdered m → MidOrdered (passed m)
passed_ordered m o = raised m (m.next_tag + 1) m.state.heap (omega arith) (omega arith) o

inside_ordered : (way : Way) (arguments : ℕ) (m : Mid) → MidOrdered m → WayNamed m.next_tag m.state.heap m.choices way → MidOrdered (inside way arguments m)
inside_ordered way arguments m o w =
    let c : Choice = record { place = place_of m; way = way; frames = m.frames; inner = m.inner; stops = m.stops; stop = m.stop; height = length m.gathered; state = record m.state { since = m.state.vars } } in
    record {
      named = named_raise m.next_tag m.state.heap (m.next_tag + 1) (m.state.heap + (10 + arguments)) (c ∷ m.choices) m.frames m.inner m.stops (omega arith) (omega arith) (named_push m.next_tag m.state.heap c m.choices m.frames m.inner m.stops refl refl o.named);
      choices = (omega arith, omega arith, refl, w, o.named, o.choices);
    }

-- the place where a choice opened is named inside it
inside_named : (way : Way) (arguments : ℕ) (m : Mid) (p : Place) → IsNamed m.next_tag m.state.heap m.choices p → IsNamed (inside way arguments m).next_tag (inside way arguments m).state.heap (inside way arguments m).choices p
inside_named way arguments m p n =
    let c : Choice = record { place = place_of m; way = way; frames = m.frames; inner = m.inner; stops = m.stops; stop = m.stop; height = length m.gathered; state = record m.state { since = m.state.vars } } in
    one_raise m.next_tag m.state.heap (m.next_tag + 1) (m.state.heap + (10 + arguments)) (c ∷ m.choices) p (omega arith) (omega arith) (one_push m.next_tag m.state.heap c m.choices p refl refl n)

within_ordered : (p : Place) (m : Mid) → MidOrdered m → IsNamed m.next_tag m.state.heap m.choices p → MidOrdered (within p m)
within_ordered p m o n = record { named = record { frames_are = o.named.frames_are; inner_are = (n, o.named.inner_are); stops_are = o.named.stops_are }; choices = o.choices }

charged_ordered : (g : Setting) (n : ℕ) (m : Mid) (next : Status) → StatusOrdered next → StatusOrdered (charged g n m next)
charged_ordered g zero m next o = o
charged_ordered g (suc n) m next o = cond_both (nat_lt g.limits.heap (m.state.heap + suc n)) (Ended ending.HeapLimit) next StatusOrdered (λ e. tt) (λ e. o)

agreed_ordered : (b : Bool) (m : Mid) (next : Status) → MidOrdered m → StatusOrdered next → StatusOrdered (if_agreed b m next)
agreed_ordered true m next o h = h
agreed_ordered false m next o h = o.choices

unified_ordered : (g : Setting) (u : Unified) (m : Mid) (next : Status) → MidOrdered m → StatusOrdered next → StatusOrdered (unified g u m next)
unified_ordered g u m next o h = cond_both (nat_lt g.limits.trail (trail_more m.state u)) (Ended ending.TrailLimit) (if_agreed u.agrees (bound u m) next) StatusOrdered (λ e. tt) (λ e. agreed_ordered u.agrees (bound u m) next o h)

enters_ordered : (g : Setting) (call : Call) (r : RuleCode) (rs : List RuleCode) (m : Mid) → MidOrdered m → IsNamed m.next_tag m.state.heap m.choices call.cut → StatusOrdered (enters g call r rs m)
enters_ordered g call r [] m o n = (passed_ordered (at_rule g r m) o, one_raise m.next_tag m.state.heap (m.next_tag + 1) m.state.heap m.choices call.cut (omega arith) (omega arith) n)
enters_ordered g call r (q ∷ qs) m o n =
    charged_ordered g (10 + length call.args) m (Enters call (inside (Calls call (q ∷ qs)) (length call.args) (at_rule g r m))) (inside_ordered (Calls call (q ∷ qs)) (length call.args) (at_rule g r m) o n, inside_named (Calls call (q ∷ qs)) (length call.args) (at_rule g r m) call.cut n)

begins_ordered : (g : Setting) (call : Call) (rs : List RuleCode) (m : Mid) → MidOrdered m → IsNamed m.next_tag m.state.heap m.choices call.cut → StatusOrdered (begins g call rs m)
begins_ordered g call [] m o n = o.choices
begins_ordered g call (r ∷ rs) m o n = enters_ordered g call r (selected (first_of m.state.subst call) rs) m o n

asks_ordered : (g : Setting) (pred : ℕ) (call : Call) (m : Mid) → MidOrdered m → IsNamed m.next_tag m.state.heap m.choices call.cut → StatusOrdered (asks g pred call m)
asks_ordered g pred call m o n = begins_ordered g call (selected (first_of m.state.subst call) (rules_at g.code pred)) m o n

opens_ordered : (g : Setting) (c : BodyCode) (captured : List Value) (call : Call) (m : Mid) → MidOrdered m → IsNamed m.next_tag m.state.heap m.choices call.cut → StatusOrdered (enters_body g c captured call m)
opens_ordered g c captured call m o n =
    let k = 6 + c.own + cells g.game.program (parameter captured call.args) in
    let f = body_frame captured c.own call m in
    let m' : Mid = record (passed m) { ops = block_at g.code c.block; state = record m.state { vars = m.state.vars + c.own; heap = m.state.heap + k } } in
    let u = solve m.state.subst (body_equations g captured c.own call.args m.state.vars) in
    let o' : MidOrdered m' = more_ordered k (passed m) (passed_ordered m o) in
    charged_ordered g k m _ (unified_ordered g u m' (Runs (record (bound u m') { frames = f ∷ m.frames; inner = [] })) o'
    (record {
      named = record {
        frames_are = (one_raise m.next_tag m.state.heap (m.next_tag + 1) (m.state.heap + k) m.choices call.cut (omega arith) (omega arith) n, o'.named.inner_are, o'.named.frames_are);
        inner_are = tt;
        stops_are = o'.named.stops_are;
      };
      choices = o'.choices;
    }))

calls_ordered : (g : Setting) (t : Target) (call : Call) (m : Mid) → MidOrdered m → IsNamed m.next_tag m.state.heap m.choices call.cut → StatusOrdered (calls g t call m)
calls_ordered g (ToPred pred) call m o n = asks_ordered g pred call m o n
calls_ordered g (ToBody c captured) call m o n = opens_ordered g c captured call m o n

asks_last_ordered : (g : Setting) (pred : Target) (args : List Value) (many b : Bool) (f : Frame) (fs : List Frame) (m : Mid) → MidOrdered m → FramesNamed m.next_tag m.state.heap m.choices (f ∷ fs) → StatusOrdered (asks_last g pred args many b f fs m)
asks_last_ordered g pred args many true f fs m o n = calls_ordered g pred (call_of args many f.next m) (record m { frames = fs; inner = f.inner }) (record { named = record { frames_are = n.2; inner_are = n.1; stops_are = o.named.stops_are }; choices = o.choices }) (named_now m o)
asks_last_ordered g pred args many false f fs m o n = calls_ordered g pred (call_of args many 0 m) (record m { inner = [] }) (record { named = record { frames_are = o.named.frames_are; inner_are = tt; stops_are = o.named.stops_are }; choices = o.choices }) (named_now m o)

last_ordered : (g : Setting) (pred : Target) (args : List Value) (many : Bool) (frames : List Frame) (m : Mid) → MidOrdered m → FramesNamed m.next_tag m.state.heap m.choices frames → StatusOrdered (last g pred args many frames m)
last_ordered g pred args many [] m o n = calls_ordered g pred (call_of args many 0 m) (record m { inner = [] }) (record { named = record { frames_are = o.named.frames_are; inner_are = tt; stops_are = o.named.stops_are }; choices = o.choices }) (named_now m o)
last_ordered g pred args many (f ∷ fs) m o n = asks_last_ordered g pred args many f.many f fs m o n

cut_ordered : (p : Place) (m : Mid) → MidOrdered m → MidOrdered (cut_to p m)
cut_ordered p m o = ordered_cut m.next_tag m.state.heap p m.choices m.frames m.inner m.stops o

returned_ordered : (g : Setting) (b : Bool) (f : Frame) (fs : List Frame) (m : Mid) → MidOrdered m → FramesNamed m.next_tag m.state.heap m.choices (f ∷ fs) → MidOrdered (returned g b f fs m)
returned_ordered g true f fs m o n = record { named = record { frames_are = n.2; inner_are = n.1; stops_are = o.named.stops_are }; choices = o.choices }
returned_ordered g false f fs m o n = cut_ordered f.cut (record m { ops = block_at g.code f.next; frames = fs; inner = f.inner }) (record { named = record { frames_are = n.2; inner_are = n.1; stops_are = o.named.stops_are }; choices = o.choices })

returns_ordered : (g : Setting) (frames : List Frame) (m : Mid) → MidOrdered m → FramesNamed m.next_tag m.state.heap m.choices frames → StatusOrdered (returns g frames m)
returns_ordered g [] m o n = o.choices
returns_ordered g (f ∷ fs) m o n = returned_ordered g f.many f fs m o n

popped : (ps : List Place) (m : Mid) → MidOrdered m → PlacesNamed m.next_tag m.state.heap m.choices ps → MidOrdered (record m { inner = ps })
popped ps m o n = record { named = record { frames_are = o.named.frames_are; inner_are = n; stops_are = o.named.stops_are }; choices = o.choices }

commits_ordered : (ps : List Place) (m : Mid) → MidOrdered m → PlacesNamed m.next_tag m.state.heap m.choices ps → StatusOrdered (commits ps m)
commits_ordered [] m o n = o.choices
commits_ordered (p ∷ ps) m o n = cut_ordered p (record m { inner = ps }) (popped ps m o n.1)

leaves_ordered : (ps : List Place) (m : Mid) → MidOrdered m → PlacesNamed m.next_tag m.state.heap m.choices ps → StatusOrdered (leaves ps m)
leaves_ordered [] m o n = o.choices
leaves_ordered (p ∷ ps) m o n = cut_ordered p (record m { inner = ps }) (popped ps m o n.1)

refuses_ordered : (ps : List Place) (m : Mid) → MidOrdered m → StatusOrdered (refuses ps m)
refuses_ordered [] m o = o.choices
refuses_ordered (p ∷ ps) m o = choices_cut m.next_tag m.state.heap p m.choices o.choices

gathers_ordered : (g : Setting) (gs : List Gathering) (next : Status) → StatusOrdered next → StatusOrdered (gathers g gs next)
gathers_ordered g gs next o = cond_both (nat_lt g.limits.aux (gathered_size gs)) (Ended ending.AuxLimit) next StatusOrdered (λ e. tt) (λ e. o)

keeps_within_ordered : (g : Setting) (size : ℕ) (next : Status) → StatusOrdered next → StatusOrdered (keeps_within g size next)
keeps_within_ordered g size next o = cond_both (nat_lt g.limits.keep size) (Ended ending.KeepLimit) next StatusOrdered (λ e. tt) (λ e. o)

value_ordered : (g : Setting) (v : Option Value) (m : Mid) → StatusOrdered (Fails m) → StatusOrdered (keeps_value g v m)
value_ordered g None m o = o
value_ordered g (Some v) m o =
    let gs = newest_with (resolved m.state.subst v) m.gathered in
    gathers_ordered g gs (Fails (record m { gathered = gs })) o

keeps_ordered : (g : Setting) (ps : List Place) (m : Mid) → MidOrdered m → StatusOrdered (keeps g ps m)
keeps_ordered g [] m o = o.choices
keeps_ordered g (p ∷ ps) m o = value_ordered g p.gathers (record m { inner = ps }) o.choices

if_passed_ordered : (b : Bool) (m : Mid) → MidOrdered m → StatusOrdered (if_passed b m)
if_passed_ordered true m o = o
if_passed_ordered false m o = o.choices

-- what is older than a named place is below it
choices_under : (t h : ℕ) (p : Place) (cs : List Choice) → AgreeAll cs p → ChoicesNamed t h cs → ChoicesNamed p.tag p.height (cut_choices p cs)
choices_under t h p [] a n = tt
choices_under t h p (c ∷ cs) a n = cond_both (nat_lt c.place.tag p.tag) (c ∷ cs) (cut_choices p cs) (ChoicesNamed p.tag p.height)
    (λ e. let lt = ltb-true c.place.tag p.tag e in (lt, a.0.older lt, n.2, n.3, n.4, n.5))
    (λ e. choices_under c.place.tag c.place.height p cs a.1 n.5)

stop_found : (g : Setting) (u : ℕ) (t h : ℕ) (ss : List Stop) (m : Mid) → ChoicesNamed m.next_tag m.state.heap m.choices → StopsNamed t h m.choices ss → StatusOrdered (stops_at g (stop_to u ss) m)
stop_found g u t h [] m o n = o
stop_found g u t h (s ∷ ss) m o n = cond_both (eqb s.place.tag u) (Some (s, ss)) (stop_to u ss) (λ x. StatusOrdered (stops_at g x m))
    (λ e. let cs = cut_choices s.place m.choices in
    let named = named_cut s.place.tag s.place.height s.place m.choices s.frames s.inner ss (record { frames_are = n.4; inner_are = n.3; stops_are = n.5 }) in
    subst (λ k. IsOrdered (s.place.tag + 1) k cs s.frames s.inner ss) (sym n.2)
    (ordered_raise s.place.tag s.place.height (s.place.tag + 1) s.place.height cs s.frames s.inner ss (omega arith) (omega arith) (record { named = named; choices = choices_under m.next_tag m.state.heap s.place m.choices n.0.agrees o })))
    (λ e. stop_found g u s.place.tag s.place.height ss m o n.5)

stops_ordered : (g : Setting) (t : Option ℕ) (m : Mid) → MidOrdered m → StatusOrdered (stops g t m)
stops_ordered g None m o = tt
stops_ordered g (Some u) m o = stop_found g u m.next_tag m.state.heap m.stops m o.choices o.named.stops_are

-- what a place gathers makes no difference
agree_so : (cs : List Choice) (p : Place) (v : Option Value) → AgreeAll cs p → AgreeAll cs (record p { gathers = v })
agree_so [] p v a = tt
agree_so (c ∷ cs) p v a = (record { older = a.0.older; newer = a.0.newer }, agree_so cs p v a.1)

named_so : (t h : ℕ) (cs : List Choice) (p : Place) (v : Option Value) → IsNamed t h cs p → IsNamed t h cs (record p { gathers = v })
named_so t h cs p v n = record { tag = n.tag; height = n.height; agrees = agree_so cs p v n.agrees }

inner_ordered : (way : Way) (v : Option Value) (m : Mid) → MidOrdered m → WayNamed m.next_tag m.state.heap m.choices way → MidOrdered (within (record (place_of m) { gathers = v }) (inside way 0 m))
inner_ordered way v m o n =
    within_ordered (record (place_of m) { gathers = v }) (inside way 0 m) (inside_ordered way 0 m o n) (inside_named way 0 m (record (place_of m) { gathers = v }) (named_so m.next_tag m.state.heap m.choices (place_of m) v (named_now m o)))

try_ordered : (alt : ℕ) (m : Mid) → MidOrdered m → MidOrdered (within (place_of m) (inside (Goes alt) 0 m))
try_ordered alt m o = inner_ordered (Goes alt) None m o tt

shielded_ordered : (alt : ℕ) (m : Mid) → MidOrdered m → MidOrdered (shielded alt m)
shielded_ordered alt m o =
    let t = try_ordered alt m o in
    let c : Choice = record { place = place_of m; way = Goes alt; frames = m.frames; inner = m.inner; stops = m.stops; stop = m.stop; height = length m.gathered; state = record m.state { since = m.state.vars } } in
    let old = named_push m.next_tag m.state.heap c m.choices m.frames m.inner m.stops refl refl o.named in
    record {
      named = record { frames_are = t.named.frames_are; inner_are = t.named.inner_are; stops_are = (inside_named (Goes alt) 0 m (place_of m) (named_now m o), omega arith, refl, old.inner_are, old.frames_are, old.stops_are) };
      choices = t.choices;
    }

-- ## A step

done_ordered : (g : Setting) (act : Act) (m : Mid) → MidOrdered m → StatusOrdered (done g act m)
done_ordered g (GoesNow [] w) m o = keeps_within_ordered g w.meters.keep (Runs (lasting_in w m)) o
done_ordered g (GoesNow (s ∷ steps) w) m o = cut_ordered (cut_of m.frames) m o
done_ordered g (Tests b w) m o = if_passed_ordered b (lasting_in w m) o
done_ordered g (Unifies made es w) m o =
    let k = made.heap - m.state.heap in
    let m' = made_in made (lasting_in w m) in
    let u = solve made.bound es in
    charged_ordered g k m _ (unified_ordered g u m' (Runs (bound u m')) (more_ordered k m o) (more_ordered k m o))
done_ordered g (Ends e w) m o = tt
done_ordered g (FailsNow w) m o = o.choices
done_ordered g (Stops w) m o = stops_ordered g m.stop (lasting_in w m) o

seeks_ordered : (g : Setting) (f : Find) (e : Effect) (m : Mid) → MidOrdered m → StatusOrdered (seeks g f e m)
seeks_ordered g f (Acts act) m o = done_ordered g act m o
seeks_ordered g f (Offers k bs w) m o = (o, tt)

queries_ordered : (g : Setting) (t : Option Target) (args : List Value) (many : Bool) (next : ℕ) (m : Mid) → MidOrdered m → StatusOrdered (queries g t args many next m)
queries_ordered g None args many next m o = o.choices
queries_ordered g (Some t) args many next m o = calls_ordered g t (call_of args many next m) m o (named_now m o)

queries_last_ordered : (g : Setting) (t : Option Target) (args : List Value) (many : Bool) (m : Mid) → MidOrdered m → StatusOrdered (queries_last g t args many m)
queries_last_ordered g None args many m o = o.choices
queries_last_ordered g (Some t) args many m o = last_ordered g t args many m.frames m o o.named.frames_are

does_ordered : (g : Setting) (x : Op) (m : Mid) → MidOrdered m → StatusOrdered (does g x m)
does_ordered g (op.Do a) m o = let k = cells g.game.program (terms_of a) in charged_ordered g k m _ (done_ordered g (act_at g.game [] a (more k m)) (more k m) (more_ordered k m o))
does_ordered g (op.Ask pred terms many next) m o =
    let m' = more (cells g.game.program terms) m in let o' = more_ordered (cells g.game.program terms) m o in
    charged_ordered g _ m _ (asks_ordered g pred (call_of (values g m terms) many next m') m' o' (named_now m' o'))
does_ordered g (op.LastAsk pred terms many) m o =
    let m' = more (cells g.game.program terms) m in let o' = more_ordered (cells g.game.program terms) m o in
    charged_ordered g _ m _ (last_ordered g (ToPred pred) (values g m terms) many m.frames m' o' o'.named.frames_are)
does_ordered g (op.Query a b many next) m o =
    let k = cells g.game.program (a ∷ option_terms b) in charged_ordered g k m _ (queries_ordered g (asked_by g a m) (values g m (option_terms b)) many next (more k m) (more_ordered k m o))
does_ordered g (op.LastQuery a b many) m o =
    let k = cells g.game.program (a ∷ option_terms b) in charged_ordered g k m _ (queries_last_ordered g (asked_by g a m) (values g m (option_terms b)) many (more k m) (more_ordered k m o))
does_ordered g (op.Find place terms many next) m o =
    let k = cells g.game.program terms in
    let m' = more k m in
    let f : Find = record { place = place; args = values g m terms; many = many; next = next } in
    charged_ordered g k m _ (seeks_ordered g f (asked_at g.game [] place f.args m') m' (more_ordered k m o))
does_ordered g op.Take m o = passed_ordered m o
does_ordered g (op.Branch alt) m o = charged_ordered g 10 m _ (inside_ordered (Goes alt) 0 m o tt)
does_ordered g (op.Select site mode blocks behind) m o = o
does_ordered g op.Once m o =
    let n = named_now m o in
    charged_ordered g 10 m _ (within_ordered (place_of m) (more 10 (passed m)) (more_ordered 10 (passed m) (passed_ordered m o)) (one_raise m.next_tag m.state.heap (m.next_tag + 1) (m.state.heap + 10) m.choices (place_of m) (omega arith) (omega arith) n))
does_ordered g (op.Try alt) m o = charged_ordered g 10 m _ (try_ordered alt m o)
does_ordered g (op.Shield alt) m o = charged_ordered g 10 m _ (shielded_ordered alt m o)
does_ordered g (op.Collect term into alt) m o =
    let k = cells g.game.program (term ∷ into ∷ []) in
    let v = value_of g.game.program (vars_of m.frames) in
    let m' = with_gathering (more k m) in
    charged_ordered g k m _ (charged_ordered g 10 (more k m) _ (gathers_ordered g m'.gathered (Runs (gathering (v term) (v into) alt (more k m))) (inner_ordered (Takes alt (v into)) (Some (v term)) m' (more_ordered k m o) tt)))
does_ordered g op.Leave m o = leaves_ordered m.inner m o o.named.inner_are
does_ordered g (op.Keep term) m o = keeps_ordered g m.inner m o
does_ordered g (op.TakeOut whole into) m o = o.choices
does_ordered g op.Commit m o = commits_ordered m.inner m o o.named.inner_are
does_ordered g op.Refuse m o = refuses_ordered m.inner m o
does_ordered g op.Back m o = o.choices
does_ordered g op.Return m o = returns_ordered g m.frames m o o.named.frames_are
does_ordered g op.Done m o = tt
does_ordered g (op.Goto b) m o = o
does_ordered g (op.Retry alt) m o = o.choices
does_ordered g (op.Enter vars head) m o = o.choices

runs_ordered : (g : Setting) (ops : List Op) (m : Mid) → MidOrdered m → StatusOrdered (runs g ops m)
runs_ordered g [] m o = o.choices
runs_ordered g (x ∷ ops) m o = does_ordered g x (record m { ops = ops }) o

enter_ordered : (g : Setting) (call : Call) (vars : ℕ) (head : List Term) (m : Mid) → MidOrdered m → IsNamed m.next_tag m.state.heap m.choices call.cut → StatusOrdered (enter g call vars head m)
enter_ordered g call vars head m o n =
    let k = 6 + vars + cells g.game.program head in
    let f = new_frame call vars m in
    let m' : Mid = record m { state = record m.state { vars = m.state.vars + vars; heap = m.state.heap + k } } in
    let u = solve m.state.subst (zip call.args (map (value_of g.game.program f.vars) head)) in
    let o' : MidOrdered m' = more_ordered k m o in
    charged_ordered g k m _ (unified_ordered g u m' (Runs (record (bound u m') { frames = f ∷ m.frames; inner = [] })) o'
    (record { named = record { frames_are = (one_raise m.next_tag m.state.heap m.next_tag (m.state.heap + k) m.choices call.cut (omega arith) (omega arith) n, o'.named.inner_are, o'.named.frames_are); inner_are = tt; stops_are = o'.named.stops_are }; choices = o'.choices }))

entered_ordered : (g : Setting) (call : Call) (ops : List Op) (m : Mid) → MidOrdered m → IsNamed m.next_tag m.state.heap m.choices call.cut → StatusOrdered (entered g call ops m)
entered_ordered g call (op.Enter vars head ∷ ops) m o n = enter_ordered g call vars head (record m { ops = ops }) o n
entered_ordered g call ops m o n = o.choices

resumed_ordered : (g : Setting) (ops : List Op) (m : Mid) → MidOrdered m → StatusOrdered (resumed g ops m)
resumed_ordered g (op.Retry alt ∷ ops) m o = charged_ordered g 10 m _ (inside_ordered (Goes alt) 0 (record m { ops = ops }) o tt)
resumed_ordered g ops m o = passed_ordered m o

newest_ordered : (g : Setting) (whole : Gathered) (into : Value) (gs : List Gathering) (m : Mid) → MidOrdered m → StatusOrdered (takes_newest g whole into gs m)
newest_ordered g whole into [] m o = o.choices
newest_ordered g whole into (x ∷ xs) m o = let m' = passed (record m { gathered = xs }) in done_ordered g (taken_out [] whole into x.values m') m' (passed_ordered m o)

takes_ordered : (g : Setting) (into : Value) (ops : List Op) (m : Mid) → MidOrdered m → StatusOrdered (takes g into ops m)
takes_ordered g into (op.TakeOut whole t ∷ ops) m o = newest_ordered g whole into m.gathered (record m { ops = ops }) o
takes_ordered g into ops m o = o.choices

-- where an object is tried there may be one more inner construct
wanted_ordered : (many : Bool) (p : Place) (m : Mid) (inner : List Place) → m.inner ≡ inner → MidOrdered m → IsNamed m.next_tag m.state.heap m.choices p → MidOrdered (record m { inner = inner_for many p inner })
wanted_ordered true p m inner e o n = record { named = record { frames_are = o.named.frames_are; inner_are = subst (PlacesNamed m.next_tag m.state.heap m.choices) e o.named.inner_are; stops_are = o.named.stops_are }; choices = o.choices }
wanted_ordered false p m inner e o n = record { named = record { frames_are = o.named.frames_are; inner_are = (n, subst (PlacesNamed m.next_tag m.state.heap m.choices) e o.named.inner_are); stops_are = o.named.stops_are }; choices = o.choices }

trying_ordered : (g : Setting) (f : Find) (os : List ℕ) (m : Mid) → MidOrdered m → MidOrdered (trying g f os m)
trying_ordered g f [] m o = wanted_ordered f.many (place_of m) (record (passed m) { ops = block_at g.code f.next }) m.inner refl (passed_ordered m o) (one_raise m.next_tag m.state.heap (m.next_tag + 1) m.state.heap m.choices (place_of m) (omega arith) (omega arith) (named_now m o))
trying_ordered g f (p ∷ os) m o =
    wanted_ordered f.many (place_of m) (record (inside (Tries f (p ∷ os)) (length f.args) m) { ops = block_at g.code f.next }) m.inner refl (inside_ordered (Tries f (p ∷ os)) (length f.args) m o tt) (inside_named (Tries f (p ∷ os)) (length f.args) m (place_of m) (named_now m o))

tries_ordered : (g : Setting) (f : Find) (os : List ℕ) (m : Mid) → MidOrdered m → StatusOrdered (tries g f os m)
tries_ordered g f [] m o = o.choices
tries_ordered g f (i ∷ os) m o = charged_ordered g (trying_cells f os) m _ (done_ordered g (found_at [] f i (trying g f os m)) (trying g f os m) (trying_ordered g f os m o))

goes_on_ordered : (g : Setting) (way : Way) (m : Mid) → MidOrdered m → WayNamed m.next_tag m.state.heap m.choices way → StatusOrdered (goes_on g way m)
goes_on_ordered g (Goes b) m o n = resumed_ordered g (block_at g.code b) m o
goes_on_ordered g (Takes b into) m o n = takes_ordered g into (block_at g.code b) m o
goes_on_ordered g (Calls call rules) m o n = begins_ordered g call rules m o n
goes_on_ordered g (Tries f os) m o n = tries_ordered g f os m o

goes_back_ordered : (cs : List Choice) (m : Mid) → ChoicesNamed m.next_tag m.state.heap cs → StatusOrdered (goes_back cs m)
goes_back_ordered [] m n = tt
goes_back_ordered (c ∷ cs) m n =
    subst (λ h. IsOrdered c.place.tag h cs c.frames c.inner c.stops × WayNamed c.place.tag h cs c.way) (sym n.2) (record { named = n.4; choices = n.5 }, n.3)

pub step_ordered : (g : Setting) (now : Status) → StatusOrdered now → StatusOrdered (step g now)
step_ordered g (Runs m) o = runs_ordered g m.ops m o
step_ordered g (Enters call m) o = entered_ordered g call m.ops m o.0 o.1
step_ordered g (Resumes way m) o = goes_on_ordered g way m o.0 o.1
step_ordered g (Fails m) o = goes_back_ordered m.choices m o
step_ordered g (Ended e) o = tt

pub all_ordered : (set : Setting) (typed : List ℕ) (k : ℕ) → StatusOrdered (after set typed k).now
all_ordered set typed zero = record { named = record { frames_are = tt; inner_are = tt; stops_are = tt }; choices = tt }
all_ordered set typed (suc k) = step_ordered set (after set typed k).now (all_ordered set typed k)
