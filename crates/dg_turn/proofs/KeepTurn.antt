-- A value is gathered: one turn of the story.
use Rattle.std.proofs.Common.{◌≡◌, ℕ, false, ◌+◌, ◌<◌, ◌≤◌, List, [], ◌∷◌, length, None, Some, refl, sym, ap, ◌∙◌, subst, arith}
use Rattle.dg_base.specs.declared.run.Ending.TheVariants.{AuxLimit}
use Rattle.dg_meaning.specs.Substitutions.{Substitution, resolved, contains}
use Rattle.dg_meaning.specs.Values.{Value}
use Rattle.dg_meaning.specs.World.{Gathering, gathered_size}
use Rattle.dg_mid.specs.State.{Place, Mid}
use Rattle.dg_mid.specs.Step.{newest_with}
use Rattle.z_model.specs.Run.{ZState}
use Rattle.z_lang.specs.State.{Program}
use Rattle.dg_rt.specs.declared.numbers.TheConstants.{KEEP_VALUE, FAIL}
use Rattle.dg_rt.specs.declared.gathering.TheConstants.{KEEP_VALUE_ACTS}
use Rattle.dg_rt.specs.Areas.{heap_at}
use Rattle.dg_rt.specs.Closings.{closing_most}
use Rattle.dg_rt.specs.Copies.{words_of}
use Rattle.dg_rt.specs.Gatherings.{rows_of, GatheredAt, GathersNow, NothingGathers, none_open, none_around, no_value_there, keep_most}
use Rattle.dg_rt.specs.Laying.{Formed}
use Rattle.dg_rt.specs.RunTime.{routine_of, HasRunTime}
use Rattle.dg_rt.specs.Shapes.{Cell, Shows}
use Rattle.dg_rt.proofs.Absent.{next_absent}
use Rattle.dg_rt.proofs.Forming.{resolved_shows_formed}
use Rattle.dg_rt.proofs.ValueGathered.{keep_works}
use Rattle.dg_turn.specs.Told.{Telling, told_count}
use Rattle.dg_turn.specs.Rest.{aux_at, gather_words, newest, RestIn}
use Rattle.dg_turn.specs.Lies.{GathersIn, InnersIn}
use Rattle.dg_turn.specs.Plays.{Playing, Outside, Represented, Comes, Closes}
use Rattle.dg_turn.specs.Gatherings.{gathered_by, KeepTurns}
use Rattle.dg_turn.proofs.Gathered.{formed_told, ChoicesReopened, StopsReopened, choices_same, stops_same, mid_gathered, size_more, size_with, gathered_at, rest_kept_on}
use Rattle.dg_turn.proofs.Moving.{moves, closes}
use Rattle.dg_turn.proofs.Staying.{mid_same}

keep_value_at : (p : Program) → HasRunTime p → p.routine_at (p.names.routine KEEP_VALUE) ≡ Some (routine_of 2 KEEP_VALUE_ACTS)
keep_value_at p has = has.each 100 (routine_of 2 KEEP_VALUE_ACTS) refl

-- the same names
same_words : (v : Value) (gs : List Gathering) → gather_words (newest_with v gs) ≡ gather_words gs
same_words v [] = refl
same_words v (x ∷ xs) = refl

module _ (t : Telling) (plays : Playing t) (out : Outside) (m : Mid) (z : ZState) (r : Represented t out (t.p.names.routine KEEP_VALUE) m z) where
  abbrev S : Substitution
  S = m.state.subst

  cell_word : (k y : ℕ) → Cell r.sh k y → r.cells (heap_at + k) ≡ y
  cell_word k y cell = let low = cell.fixed.0 in let top = r.mid.state.heap in let fits = r.mid.state.few in r.mid.state.stands.fixed k (omega arith) cell.fixed ∙ cell.is

  -- the value of the newest inner construct
  now_of : (ps : List Place) (v : Value) → InnersIn r.sh m.stops (r.cells 6) ps → gathered_by ps ≡ Some v → GathersNow r.sh r.cells v
  now_of [] v h e = absurd (cc e)
  now_of (p ∷ ps) v h e =
      let below = h.below in
      let top = r.mid.state.heap in
      let fits = r.mid.state.few in
      let shows : Shows r.sh h.value v = subst (GathersIn r.sh h.value) e h.gathers_is in
      record {
        at = p.height;
        below = omega arith;
        inner = h.word_is;
        shows = subst (λ (w : ℕ). Shows r.sh w v) (sym (cell_word (p.height + 8) h.value h.value_is)) shows;
      }

  nothing_of : (ps : List Place) → InnersIn r.sh m.stops (r.cells 6) ps → gathered_by ps ≡ None → NothingGathers r.cells
  nothing_of [] h e = none_around h
  nothing_of (p ∷ ps) h e =
      let below = h.below in
      let top = r.mid.state.heap in
      let fits = r.mid.state.few in
      let none : h.value ≡ 65535 = subst (GathersIn r.sh h.value) e h.gathers_is in
      no_value_there p.height (omega arith) h.word_is (cell_word (p.height + 8) h.value h.value_is ∙ none)

  -- nothing is gathered
  fails : NothingGathers r.cells → Comes t out (t.p.names.routine FAIL) m 10 z
  fails none =
      let q = keep_works.nothing t.p plays.has out.typed out.output out.drawn r.memory r.cells r.holds none in
      let k = q.0 in
      let few = k.few in
      moves t plays out (t.p.names.routine KEEP_VALUE) m z r (routine_of 2 KEEP_VALUE_ACTS) (keep_value_at t.p plays.has) (omega arith) (t.p.names.routine FAIL) k.count 10 k.memory' k.locals' k.cells' r.sh r.trail m k.runs k.holds (plays.words FAIL)
      (mid_same t r.sh r.cells k.cells' r.trail m (λ i ne far. q.1 i) r.mid) (omega arith)

  -- ## A value

  module _ (v : Value) (x : Gathering) (xs : List Gathering) (i : gathered_by m.inner ≡ Some v) (e : m.gathered ≡ x ∷ xs) where
    abbrev rv : Value
    rv = resolved m.state.subst v

    now : GathersNow r.sh r.cells v
    now = now_of m.inner v r.mid.inner i

    rest : RestIn t out.words r.cells (x ∷ xs)
    rest = subst (RestIn t out.words r.cells) e r.mid.rest

    at : GatheredAt r.cells (aux_at + gathered_size xs) (newest (gather_words xs)) x.values
    at = gathered_at t r.cells x xs rest

    absent : contains m.state.vars (resolved S v) ≡ false
    absent = subst (λ (j : ℕ). contains j (resolved S v) ≡ false) r.mid.state.vars (next_absent r.cells S r.mid.state.stands r.mid.state.known now.shows)

    formed : Formed (told_count t.program) rv
    formed = formed_told r.sh.captures (told_count t.program) r.mid.state.told rv (resolved_shows_formed r.cells S r.mid.state.stands r.mid.state.known now.shows)

    size_is : gathered_size (newest_with rv m.gathered) ≡ gathered_size xs + 2 + length (rows_of x.values) + length (words_of rv)
    size_is = ap (λ (gs : List Gathering). gathered_size (newest_with rv gs)) e ∙ size_with rv x xs ∙ (let one = size_more x xs in omega arith)

    abbrev most : ℕ
    most = keep_most m.state.subst m.state.vars v

    kept : gathered_size (newest_with rv m.gathered) ≤ 2000 → Comes t out (t.p.names.routine FAIL) (record m { gathered = newest_with rv m.gathered }) (most + 2) z
    kept fits =
        let size = size_is in
        let k = keep_works.keeps t.p plays.has r.sh r.mid.state.shape out.typed out.output out.drawn S r.memory r.cells r.holds r.mid.state.stands v m.state.vars absent (aux_at + gathered_size xs) (newest (gather_words xs)) x.values at now (omega arith) in
        let few = k.keeps.few in
        let fits' : gathered_size (newest_with rv (x ∷ xs)) ≤ 2000 = subst (λ (gs : List Gathering). gathered_size (newest_with rv gs) ≤ 2000) e fits in
        let one = rest_kept_on t r.cells k.keeps.cells' x xs rv fits' formed k.end k.row (λ j ne far. k.others j ne far) rest in
        let rest' : RestIn t out.words k.keeps.cells' (newest_with rv m.gathered) = subst (λ (gs : List Gathering). RestIn t out.words k.keeps.cells' (newest_with rv gs)) (sym e) one in
        let names = same_words rv m.gathered in
        let choices : ChoicesReopened (gather_words m.gathered) (gather_words (newest_with rv m.gathered)) m.choices = subst (λ (l : List ℕ). ChoicesReopened (gather_words m.gathered) l m.choices) (sym names) (choices_same t r.sh r.cells r.trail (gather_words m.gathered) (r.cells 5) m.choices r.mid.choices) in
        let stops : StopsReopened (gather_words m.gathered) (gather_words (newest_with rv m.gathered)) m.stops = subst (λ (l : List ℕ). StopsReopened (gather_words m.gathered) l m.stops) (sym names) (stops_same t r.sh r.cells r.trail (gather_words m.gathered) m.stops r.mid.stops) in
        let mid = mid_gathered t r.sh r.cells k.keeps.cells' r.trail m (newest_with rv m.gathered) (λ j n0 n29 far lt. k.others j (λ q. (omega arith)) (λ q. (omega arith))) choices stops rest' r.mid in
        moves t plays out (t.p.names.routine KEEP_VALUE) m z r (routine_of 2 KEEP_VALUE_ACTS) (keep_value_at t.p plays.has) (omega arith) (t.p.names.routine FAIL) k.keeps.count (most + 2) k.keeps.memory' k.keeps.locals' k.keeps.cells' r.sh r.trail (record m { gathered = newest_with rv m.gathered }) k.keeps.runs k.keeps.holds (plays.words FAIL) mid (omega arith)

    full : 2000 < gathered_size (newest_with rv m.gathered) → Closes t out AuxLimit (most + closing_most + 2) z
    full over =
        let size = size_is in
        let q = keep_works.meets t.p plays.has r.sh r.mid.state.shape out.typed out.output out.drawn S r.memory r.cells r.holds r.mid.state.stands v m.state.vars absent (aux_at + gathered_size xs) (newest (gather_words xs)) x.values at now (omega arith) in
        let few = q.few in
        closes t plays out (t.p.names.routine KEEP_VALUE) m z r (routine_of 2 KEEP_VALUE_ACTS) (keep_value_at t.p plays.has) (omega arith) q.count (most + closing_most + 2) AuxLimit q.memory' [] q.runs (omega arith)

pub keep_turns : KeepTurns
keep_turns = record {
  keeps = λ t plays out m v x xs z i e r fits. kept t plays out m z r v x xs i e fits;
  meets = λ t plays out m v x xs z i e r over. full t plays out m z r v x xs i e over;
  unopened = λ t plays out m z e r. fails t plays out m z r (none_open (r.mid.rest.gather ∙ ap (λ (gs : List Gathering). newest (gather_words gs)) e));
  nothing = λ t plays out m z e r. fails t plays out m z r (nothing_of t plays out m z r m.inner r.mid.inner e);
}
