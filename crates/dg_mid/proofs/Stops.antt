-- A stop to the innermost stoppable part that is open.
use Rattle.std.specs.Prelude.{nat_lt, eqb, if◌then◌else◌}
use Rattle.std.proofs.Common.{◌≡◌, ℕ, ◌+◌, ◌≤◌, List, [], ◌∷◌, Bool, true, false, Option, Some, None, refl, sym, ap, ◌∙◌, subst, arith, length, drop}
use Rattle.std.proofs.lemmas.Bool.{cond_both, ltb-true, eqb-true}
use Rattle.dg_base.specs.declared.run.Ending.TheVariants as ending
use Rattle.dg_meaning.specs.World.{Game, World, Print}
use Rattle.dg_meaning.specs.Path.{Registers, End as EndsSo}
use Rattle.dg_meaning.specs.Moves.{begun, inside, stop}
use Rattle.dg_meaning.specs.Transcript.{Run}
use Rattle.dg_meaning.specs.inside.Context.{Way as WayOn, Live, way_to, cut_to as cut_lives}
use Rattle.dg_meaning.specs.inside.Keeps.{Went, WentOn}
use Rattle.dg_meaning.proofs.Keeps.{stops_on}
use Rattle.dg_unify.specs.Store.{State}
use Rattle.dg_mid.specs.declared.code.Code.{Code}
use Rattle.dg_mid.specs.State.{Place, Stop, Choice, Mid, cut_choices, stop_to}
use Rattle.dg_mid.specs.Step.{Setting, gathered_to, stopped, stops, stops_at}
use Rattle.dg_mid.specs.Reads.{Agrees, AreChoices, AreBelow, IsStop, AreStops, lasting_of, Mirrors, Comes}
use Rattle.dg_mid.proofs.Here.{prints_dropped, work_dropped}
use Rattle.dg_mid.proofs.Marks.{goes_on, cut_both, ends_here, below_next}
use Rattle.dg_mid.proofs.Drops.{drop_to}

-- ## A stop

-- choices that a cut leaves are older
cut_under : (p : Place) (ms : List Choice) → AreBelow p.tag (cut_choices p ms)
cut_under p [] = tt
cut_under p (m ∷ ms) = cond_both (nat_lt m.place.tag p.tag) (m ∷ ms) (cut_choices p ms) (AreBelow p.tag) (λ e. ltb-true m.place.tag p.tag e) (λ e. cut_under p ms)

-- the stoppable part of a tag here is the one of the search
pub record Finds (g : Game) (code : Code) (t : ℕ) (ss : List Stop) (way : WayOn) (outer : List WayOn) : Type 0 where
  pub found : Stop
  pub others : List Stop
  pub is : stop_to t ss ≡ Some (found, others)
  pub stop_is : IsStop g code found way
  pub others_are : AreStops g code others outer
  pub tag : found.place.tag ≡ t

some_same : {A : Type 0} (x y : A) → Some x ≡ Some y → x ≡ y
some_same x y e = cc

found_here : (g : Game) (code : Code) (t : ℕ) (s : Stop) (ss : List Stop) (x way : WayOn) (ws outer : List WayOn) (b : Bool) → eqb x.tag t ≡ b → IsStop g code s x → AreStops g code ss ws → (if b then Some (x, ws) else way_to t ws) ≡ Some (way, outer) → (way_to t ws ≡ Some (way, outer) → Finds g code t ss way outer) → Finds g code t (s ∷ ss) way outer
found_here g code t s ss x way ws outer true e is are found deeper =
    let both = some_same {A = WayOn × List WayOn} (x, ws) (way, outer) found in
    let same : x ≡ way = ap (λ (p : WayOn × List WayOn). p.0) both in
    let rest : ws ≡ outer = ap (λ (p : WayOn × List WayOn). p.1) both in
    let tags : eqb s.place.tag t ≡ true = ap (λ k. eqb k t) (sym is.tag) ∙ e in
    record { found = s; others = ss; is = ap (λ b. if b then Some (s, ss) else stop_to t ss) tags; stop_is = subst (IsStop g code s) same is; others_are = subst (AreStops g code ss) rest are; tag = eqb-true s.place.tag t tags }
found_here g code t s ss x way ws outer false e is are found deeper =
    let d = deeper found in
    let tags : eqb s.place.tag t ≡ false = ap (λ k. eqb k t) (sym is.tag) ∙ e in
    record { found = d.found; others = d.others; is = ap (λ b. if b then Some (s, ss) else stop_to t ss) tags ∙ d.is; stop_is = d.stop_is; others_are = d.others_are; tag = d.tag }

finds : (g : Game) (code : Code) (t : ℕ) (ss : List Stop) (ws : List WayOn) (way : WayOn) (outer : List WayOn) → AreStops g code ss ws → way_to t ws ≡ Some (way, outer) → Finds g code t ss way outer
finds g code t [] [] way outer are e = absurd (cc (e))
finds g code t [] (x ∷ ws) way outer are e = absurd are
finds g code t (s ∷ ss) [] way outer are e = absurd are
finds g code t (s ∷ ss) (x ∷ ws) way outer are e = found_here g code t s ss x way ws outer (eqb x.tag t) refl are.0 are.1 e (finds g code t ss ws way outer are.1)

-- a way's registers agree with a state that the choice's agree with
pub way_agrees : (s : State) (q r : Registers) (cells : ℕ) → r ≡ inside cells q → Agrees s q → Agrees s r
way_agrees s q r cells is a = subst (Agrees s) (sym is) (record { bound = a.bound; vars = a.vars; heap = omega (arith, a.heap); trail = a.trail; since = a.since })

module _ (set : Setting) (m : Mid) (ps : List Print) (g : Game) (n : ℕ) (v : World) (run : Run) (q : Registers) (lives : List Live) (ways : List WayOn) (i : Mirrors g set.code m ps q lives ways v) where
  stops_found : {least : ℕ} → (t : ℕ) → WentOn g lives ways t n v run → least ≤ v.meters.work → Comes least ps set (stops_at set (stop_to t m.stops) m) g n run
  stops_found {least = least} t on le =
      let f = finds g set.code t m.stops ways on.way on.outer i.stops_are on.is in
      let s = f.stop_is in
      let r = s.way_is.registers in
      let tag : s.path.registers.next_tag ≡ f.found.place.tag + 1 = ap (λ (x : Registers). x.next_tag) r ∙ ap (λ k. k + 1) s.tag_at in
      let left : on.world.gathered ≡ drop on.drops.count m.gathered = ap (λ (u : World). u.gathered) on.drops.is ∙ ap (drop on.drops.count) i.gathered_is in
      let there : on.world.gathered ≡ gathered_to f.found.height m.gathered = left ∙ drop_to on.drops.count f.found.height m.gathered (ap length (sym left) ∙ on.gatherings ∙ s.height) in
      subst (λ x. Comes least ps set (stops_at set x m) g n run) (sym f.is)
      (goes_on set (stopped set f.found f.others m) s.path.steps [] g n (begun s.path.registers s.work on.world) run s.way_is.reads
      (record {
        lives = cut_lives t lives;
        ways = on.outer;
        registers = s.path.registers;
        mirrors = record {
          agrees = way_agrees f.found.state s.registers s.path.registers 0 r s.agrees;
          tag = tag;
          choices_are = subst (λ k. AreChoices g set.code (cut_choices f.found.place m.choices) (cut_lives k lives)) f.tag (cut_both g set.code m.choices lives f.found.place i.choices_are);
          below = below_next f.found.place.tag (cut_choices f.found.place m.choices) (cut_under f.found.place m.choices);
          stops_are = f.others_are;
          stop_is = ap (λ (x : Registers). x.stoppable) r ∙ s.stop_at;
          gathered_is = there;
          lasting_is = ap lasting_of on.drops.is ∙ i.lasting_is;
          printed_is = prints_dropped v on.world on.drops ∙ i.printed_is;
        };
        stands = on.stands s.path s.work s.others;
      }) (let z = work_dropped v on.world on.drops in omega (arith, le, z)))

  pub stops_with : {least : ℕ} → (t : Option ℕ) → Went g lives ways n (stop t v) run → least ≤ v.meters.work → Comes least ps set (stops set t m) g n run
  stops_with {least = least} None e le = ends_here set ending.Stopped (EndsSo ending.Stopped) g n v run refl (λ w x. x) i.printed_is e le
  stops_with {least = least} (Some t) st le = stops_found t (stops_on g lives ways t n v run st) le
