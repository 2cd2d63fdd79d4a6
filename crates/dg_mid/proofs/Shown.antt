-- What runs of register code show.
use Rattle.std.proofs.Common.{◌≡◌, ℕ, ◌+◌, ◌<◌, ◌≤◌, List, [], ◌∷◌, ◌++◌, Some, ◌⊎◌, inl, inr, refl, sym, ap, ◌∙◌, subst, arith, length, length-append}
use Rattle.std.specs.Prelude.{◌-◌, if◌then◌else◌}
use Rattle.std.proofs.lemmas.Bool.{cases_lt}
use Rattle.std.proofs.lemmas.List.{append-nil}
use Rattle.dg_base.specs.declared.run.Limits.{Limits}
use Rattle.dg_base.specs.declared.run.Ending.{Ending}
use Rattle.dg_base.specs.declared.run.Ending.TheVariants as ending
use Rattle.dg_meaning.specs.World.{Game, World, Event, Print, prints}
use Rattle.dg_meaning.specs.Transcript.{Run, run_of, run, start_world, start_path, closed, line_of, input_fault_line, closed_text}
use Rattle.dg_meaning.specs.inside.OneRun.{Grows}
use Rattle.dg_base.specs.Begins.{Begins, EndsWith}
use Rattle.dg_meaning.specs.Search.{answer}
use Rattle.dg_meaning.specs.Peaks.{Area, Heap, Trail, Aux, Keep, greatest, peak, limit_of, limit_ending}
use Rattle.dg_meaning.specs.Shows.{MayBegin, Shows, taken_by}
use Rattle.dg_meaning.specs.Words.{behind_first}
use Rattle.dg_meaning.proofs.Keeps.{starts as stands_at_start, limited}
use Rattle.dg_meaning.proofs.Dropping.{prints_append}
use Rattle.dg_meaning.proofs.OneRun.{begins_same}
use Rattle.dg_meaning.proofs.Limits.{later_run, limit_covers}
use Rattle.dg_mid.specs.declared.code.Code.{Code}
use Rattle.dg_mid.specs.State.{Lasting, Status, Runs, Enters, Resumes, Fails, Ended}
use Rattle.dg_mid.specs.Step.{Setting, setting}
use Rattle.dg_mid.specs.Codes.{Codes}
use Rattle.dg_mid.specs.Reads.{At, Comes, HasEnded, MeetsLimit}
use Rattle.dg_mid.specs.Runs.{Point, after, left_after, IsAt, ShowsAll, ShowsFaults}
use Rattle.dg_mid.proofs.Taking.{at_grows}
use Rattle.dg_mid.proofs.Whole.{AtLimit, is_at}
use Rattle.dg_mid.proofs.Lasting.{Leads}
use Rattle.dg_mid.proofs.Typed.{EndLeft, left_at, stops_there, Reading, reading_at, reads_goal, left_within, line_shorter}

-- ## Of two parts of a list the longer

begins_shorter : {A : Type 0} (q p w : List A) → Begins q w → Begins p w → length q ≤ length p → Begins q p
begins_shorter [] p w h k le = record { behind = p; is = refl }
begins_shorter (x ∷ q) [] w h k le = absurd (omega arith)
begins_shorter (x ∷ q) (y ∷ p) [] h k le = let e : [] ≡ x ∷ (q ++ h.behind) = h.is in absurd (cc)
begins_shorter (x ∷ q) (y ∷ p) (z ∷ w) h k le =
    let e : z ∷ w ≡ x ∷ (q ++ h.behind) = h.is in
    let f : z ∷ w ≡ y ∷ (p ++ k.behind) = k.is in
    let inner = begins_shorter q p w (record { behind = h.behind; is = cc }) (record { behind = k.behind; is = cc }) (omega arith) in
    let same : y ≡ x = cc in
    record { behind = inner.behind; is = ap (λ a. a ∷ p) same ∙ ap (λ l. x ∷ l) inner.is }

nothing_more : {A : Type 0} (xs b c : List A) → xs ≡ (xs ++ b) ++ c → b ≡ []
nothing_more xs [] c e = refl
nothing_more xs (x ∷ b) c e = absurd (omega (arith, ap length e, length-append (xs ++ x ∷ b) c, length-append xs (x ∷ b)))

begins_nothing : {A : Type 0} (xs : List A) → Begins xs [] → xs ≡ []
begins_nothing [] h = refl
begins_nothing (x ∷ xs) h = let e : [] ≡ x ∷ (xs ++ h.behind) = h.is in absurd (cc)

-- a part of a run, with what it prints, behind one part and up to another
pub record IsPart (printed : List Print) (before after : List Event) : Type 0 where
  pub part : List Event
  pub prints_are : prints part ≡ printed
  pub until : Begins part after
  pub since : Begins before part

the_part : (p q w : List Event) → Begins p w → Begins q w → Begins (prints q) (prints p) → IsPart (prints p) q w
the_part p q w h k b =
    elim (cases_lt (length p) (length q)) [
      | inl lt ↦
          let longer = begins_shorter p q w h k (omega arith) in
          let split : prints q ≡ prints p ++ prints longer.behind = ap prints longer.is ∙ prints_append p longer.behind in
          let none : prints longer.behind ≡ [] = nothing_more (prints p) (prints longer.behind) b.behind (b.is ∙ ap (λ l. l ++ b.behind) split) in
          record { part = q; prints_are = split ∙ ap (λ l. prints p ++ l) none ∙ append-nil (prints p); until = k; since = begins_same q }
      | inr ge ↦ record { part = p; prints_are = refl; until = h; since = begins_shorter q p w k h ge }
    ]

module _ (g : Game) (code : Code) (limits : Limits) (codes : Codes g.program code) (typed : List ℕ) where
  abbrev set : Setting
  set = setting g code limits

  -- nothing has happened before the first goal
  nothing_first : (run g typed 0).world.events ≡ []
  nothing_first =
      let f = limited g [] [] _ _ _ _ (start_path g).registers (start_world g typed) (run g typed 0) (stands_at_start g typed 0) in
      ap (λ (x : Run). x.world.events) f.is ∙ ap (λ (w : World). w.events) f.drops.is

  -- a run that has ended
  ended_shows : MayBegin g limits → (goals : ℕ) (e : Ending) (ps : List Print) (w : World) (left : List ℕ) → goals ≤ limits.steps → ((n : ℕ) → (run g typed (goals + n)).world.typed ≡ left) → HasEnded e ps (limits.steps - goals) w (run g typed (goals + (limits.steps - goals))) →
      Shows g typed limits (closed_text ps (line_of e)) (record { ending = e; goals = goals }) (Some left)
  ended_shows begins goals e ps w left le rest h =
      let all : goals + (limits.steps - goals) ≡ limits.steps = omega arith in
      let is : run g typed limits.steps ≡ run_of (answer (limits.steps - goals) w h.result) = ap (run g typed) (sym all) ∙ h.is in
      inl (record {
        begins = begins;
        text = ap (λ l. closed_text l (line_of e)) (sym h.printed) ∙ ap (λ x. closed w.events (line_of x)) (sym h.ending_is) ∙ sym (ap (λ (x : Run). closed x.world.events (line_of x.ending)) is);
        ending = sym h.ending_is ∙ sym (ap (λ (x : Run). x.ending) is);
        goals = ap (λ (x : Run). goals + x.left) is ∙ all;
        left_is = sym (subst (λ k. (run g typed k).world.typed ≡ left) all (rest (limits.steps - goals)));
      })

  -- a limit
  limit_shows : MayBegin g limits → (area : Area) (goals : ℕ) (ps : List Print) (w : World) (left : List ℕ) → goals ≤ limits.steps → EndsWith (run g typed (goals - 1)).world.typed left → EndsWith left (run g typed goals).world.typed →
      limit_of area limits < peak area g typed goals → prints w.events ≡ ps → Grows w (run g typed goals).world → Begins (prints (run g typed (goals - 1)).world.events) ps →
      Shows g typed limits (closed_text ps (line_of (limit_ending area))) (record { ending = limit_ending area; goals = goals }) (Some left)
  limit_shows begins area goals ps w left le from to passed printed grows since =
      let part = the_part w.events (run g typed (goals - 1)).world.events (run g typed goals).world.events grows.events (later_run g typed (goals - 1) goals (omega arith)).events (subst (Begins (prints (run g typed (goals - 1)).world.events)) (sym printed) since) in
      inr (record {
        begins = λ some. begins;
        area = area;
        ending = refl;
        goals = le;
        passed = passed;
        part = part.part;
        text = ap (λ l. closed_text l (line_of (limit_ending area))) (sym (part.prints_are ∙ printed));
        until = part.until;
        since = part.since;
        input = record { rest = left; left_is = refl; since = from; until = to };
        none_before_the_first = λ e. begins_nothing part.part (subst (Begins part.part) (ap (λ k. (run g typed k).world.events) e ∙ nothing_first) part.until);
        covers = λ k le' within. limit_covers g typed limits area goals part.part passed part.since k within;
      })

  -- a limit that is met where the run is
  meets_so : MayBegin g limits → (area : Area) (p : Point) (w : World) (left : List ℕ) → p.goals ≤ limits.steps → EndsWith (run g typed (p.goals - 1)).world.typed left → EndsWith left (run g typed p.goals).world.typed → IsAt set g typed p →
      MeetsLimit (limit_of area limits) (greatest area (run g typed (p.goals + 0)).world.meters) p.prints w (run g typed (p.goals + 0)) →
      Shows g typed limits (closed_text p.prints (line_of (limit_ending area))) (record { ending = limit_ending area; goals = p.goals }) (Some left)
  meets_so begins area p w left le from to h at =
      let all : p.goals + 0 ≡ p.goals = omega arith in
      limit_shows begins area p.goals p.prints w left le from to (subst (λ k. limit_of area limits < greatest area (run g typed k).world.meters) all at.passes) at.printed (subst (λ k. Grows w (run g typed k).world) all at.happened) h.since

  ends_so : MayBegin g limits → (p : Point) (e : Ending) (left : List ℕ) → IsAt set g typed p → EndsWith (run g typed (p.goals - 1)).world.typed left → EndLeft g code limits codes typed p.goals left e → p.now ≡ Ended e → p.goals ≤ limits.steps →
      Shows g typed limits (closed_text p.prints (line_of e)) (record { ending = e; goals = p.goals }) (Some left)
  ends_so begins p ending.HeapLimit left h from to is le = let c = h.comes 0 in meets_so begins Heap p c.world left le from to h (subst (λ now. At set now p.prints g 0 c.world (run g typed (p.goals + 0))) is c.at)
  ends_so begins p ending.TrailLimit left h from to is le = let c = h.comes 0 in meets_so begins Trail p c.world left le from to h (subst (λ now. At set now p.prints g 0 c.world (run g typed (p.goals + 0))) is c.at)
  ends_so begins p ending.AuxLimit left h from to is le = let c = h.comes 0 in meets_so begins Aux p c.world left le from to h (subst (λ now. At set now p.prints g 0 c.world (run g typed (p.goals + 0))) is c.at)
  ends_so begins p ending.KeepLimit left h from to is le = let c = h.comes 0 in meets_so begins Keep p c.world left le from to h (subst (λ now. At set now p.prints g 0 c.world (run g typed (p.goals + 0))) is c.at)
  ends_so begins p e left h from to is le =
      let c = h.comes (limits.steps - p.goals) in
      ended_shows begins p.goals e p.prints c.world left le to (subst (λ now. At set now p.prints g (limits.steps - p.goals) c.world (run g typed (p.goals + (limits.steps - p.goals)))) is c.at)

  limited_so : MayBegin g limits → (p : Point) (left : List ℕ) → IsAt set g typed p → p.goals ≡ limits.steps → AtLimit g code limits codes typed p.prints left (run g typed p.goals) → Shows g typed limits (closed_text p.prints (line_of ending.StepLimit)) (record { ending = ending.StepLimit; goals = limits.steps }) (Some left)
  limited_so begins p left h full l =
      let is : run g typed limits.steps ≡ record { left = 0; world = l.world; ending = ending.StepLimit } = ap (run g typed) (sym full) ∙ l.is in
      inl (record {
        begins = begins;
        text = ap (λ ps. closed_text ps (line_of ending.StepLimit)) (sym l.printed_is) ∙ sym (ap (λ (x : Run). closed x.world.events (line_of x.ending)) is);
        ending = sym (ap (λ (x : Run). x.ending) is);
        goals = let left = ap (λ (x : Run). x.left) is in omega (arith, left);
        left_is = sym (ap (λ (x : Run). x.world.typed) is ∙ l.typed_is);
      })

  pub shows_all : MayBegin g limits → ShowsAll set g typed
  shows_all begins = record {
    ends = λ k e is le.
        let p = after set typed k in
        let l = left_at g code limits codes typed k in
        ends_so begins p e (left_after set typed k) (is_at g code limits codes typed k) l.since (subst (Leads (λ o. o.typed ≡ left_after set typed k) (EndLeft g code limits codes typed p.goals (left_after set typed k))) is l.left) is le;
    limited = λ k full e.
        let p = after set typed k in
        let h = is_at g code limits codes typed k in
        limited_so begins p (left_after set typed k) h full (stops_there g code limits codes typed p (left_after set typed k) e h (left_at g code limits codes typed k).left);
  }

  -- ## The input fails

  lengths : (xs ys : List ℕ) → EndsWith xs ys → length ys ≤ length xs
  lengths xs ys h = omega (arith, ap length h.is, length-append h.taken ys)

  -- the goal that reads takes what was given, or finds no byte
  reads_so : (goals : ℕ) (left rest : List ℕ) (given : ℕ) → given + length rest ≡ length typed → (run g typed goals).world.typed ≡ left → length left ≤ length typed → Reading g code limits codes typed (1 + goals) left → length (behind_first left) ≤ length rest →
      ((run g typed (goals + 1)).ending ≡ ending.InputEnded) ⊎ ((given ≤ taken_by g typed (goals + 1)) × (taken_by g typed goals < taken_by g typed (goals + 1)))
  reads_so goals [] rest given total here within h le = let same : 1 + goals ≡ goals + 1 = omega arith in inl (subst (λ k. (run g typed k).ending ≡ ending.InputEnded) same (h.none refl))
  reads_so goals (b ∷ bytes) rest given total here within h le =
      let same : 1 + goals ≡ goals + 1 = omega arith in
      let further = lengths _ _ (subst (λ k. EndsWith (behind_first (b ∷ bytes)) (run g typed k).world.typed) same h.on) in
      let less = line_shorter 65535 b bytes in
      let count = ap length here in
      inr (omega (arith, total, further, le), omega (arith, count, further, less, within))

  pub shows_faults : ShowsFaults set g typed
  shows_faults k rest e below from le =
      let p = after set typed k in
      let left = left_after set typed k in
      let h = is_at g code limits codes typed k in
      let l = left_at g code limits codes typed k in
      let at = stops_there g code limits codes typed p left (reads_goal set p.now e) h l.left in
      let first = lengths typed left (left_within g code limits codes typed k) in
      let more = lengths left rest from in
      let here : (run g typed p.goals).world.typed ≡ left = ap (λ (x : Run). x.world.typed) at.is ∙ at.typed_is in
      let count = ap length here in
      let taken : length (behind_first left) ≤ length rest = subst (λ b. length (if b then behind_first left else left) ≤ length rest) e le in
      record {
        goals = p.goals;
        below = below;
        text = ap (λ ps. closed_text ps input_fault_line) (sym at.printed_is) ∙ sym (ap (λ (x : Run). closed x.world.events input_fault_line) at.is);
        given = length typed - length rest;
        is_given = omega (arith, first, more);
        goes_on = ap (λ (x : Run). x.ending) at.is;
        no_more = omega (arith, count, more);
        reads = reads_so p.goals left rest (length typed - length rest) (omega (arith, first, more)) here first (reading_at g code limits codes typed p left e h l.left) taken;
      }

  -- ## The output fails

  -- where a run of code is, no less is left than the run with a budget of the goals taken leaves
  pub until_left : (k : ℕ) → EndsWith (left_after set typed k) (run g typed (after set typed k).goals).world.typed
  until_left k =
      let p = after set typed k in
      let same : p.goals + 0 ≡ p.goals = omega arith in
      subst (λ n. EndsWith (left_after set typed k) (run g typed n).world.typed) same
      (by_now p.now (left_after set typed k) p.goals p.paid p.prints (left_at g code limits codes typed k).left ((is_at g code limits codes typed k).comes 0))
    where
      all : (goals : ℕ) (rest : List ℕ) → EndsWith rest (run g typed goals).world.typed → EndsWith rest (run g typed (goals + 0)).world.typed
      all goals rest h = let same : goals ≡ goals + 0 = omega arith in subst (λ n. EndsWith rest (run g typed n).world.typed) same h

      by_end : (e : Ending) (rest : List ℕ) (goals : ℕ) → EndLeft g code limits codes typed goals rest e → EndsWith rest (run g typed (goals + 0)).world.typed
      by_end ending.HeapLimit rest goals h = all goals rest h
      by_end ending.TrailLimit rest goals h = all goals rest h
      by_end ending.AuxLimit rest goals h = all goals rest h
      by_end ending.KeepLimit rest goals h = all goals rest h
      by_end e rest goals h = record { taken = []; is = sym (h 0) }

      grown : (now : Status) (rest : List ℕ) (goals paid : ℕ) (ps : List Print) (c : Comes paid ps set now g 0 (run g typed (goals + 0))) → c.world.typed ≡ rest → EndsWith rest (run g typed (goals + 0)).world.typed
      grown now rest goals paid ps c is = subst (λ l. EndsWith l (run g typed (goals + 0)).world.typed) is (at_grows set now ps g 0 c.world (run g typed (goals + 0)) c.at).typed

      by_now : (now : Status) (rest : List ℕ) (goals paid : ℕ) (ps : List Print) → Leads (λ o. o.typed ≡ rest) (EndLeft g code limits codes typed goals rest) now → Comes paid ps set now g 0 (run g typed (goals + 0)) → EndsWith rest (run g typed (goals + 0)).world.typed
      by_now (Runs m) rest goals paid ps is c = grown (Runs m) rest goals paid ps c (ap (λ (o : Lasting). o.typed) c.at.mirrors.lasting_is ∙ is)
      by_now (Enters call m) rest goals paid ps is c = grown (Enters call m) rest goals paid ps c (ap (λ (o : Lasting). o.typed) c.at.mirrors.lasting_is ∙ is)
      by_now (Resumes way m) rest goals paid ps is c = grown (Resumes way m) rest goals paid ps c (ap (λ (o : Lasting). o.typed) c.at.mirrors.lasting_is ∙ is)
      by_now (Fails m) rest goals paid ps is c = grown (Fails m) rest goals paid ps c (ap (λ (o : Lasting). o.typed) c.at.lasting ∙ is)
      by_now (Ended e) rest goals paid ps h c = by_end e rest goals h
