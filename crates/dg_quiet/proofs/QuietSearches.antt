-- What searches for quiet goals leave of the world, and what the change behind a question's query does.
use Rattle.std.proofs.Common.{◌≡◌, ℕ, inl, inr, List, [], ◌∷◌, Some, None, Bool, true, refl, sym, ◌∙◌, ◌⊎◌, subst, arith}
use Rattle.std.specs.Prelude.{◌||◌}
use Rattle.std.proofs.lemmas.Bool.{or_right}
use Rattle.dg_base.specs.declared.program.CoreProgram.{CoreProgram}
use Rattle.dg_base.specs.declared.program.Goal.{Goal, out-Goal}
use Rattle.dg_meaning.specs.Facts.{Clears, altered, value_at, start_facts, kinds_of}
use Rattle.dg_meaning.specs.World.{Game, World}
use Rattle.dg_meaning.specs.Moves.{goals_at, new_vars, effect}
use Rattle.dg_meaning.specs.Search.{search}
use Rattle.dg_meaning.specs.Transcript.{start_world, asking_path}
use Rattle.dg_meaning.specs.Quiet.{are_quiet, IsQuietBy}
use Rattle.dg_meaning.specs.Initial.{Question, new_in, asked, put, asking_game, run_on}
use Rattle.dg_quiet.specs.inside.Unchanged.{has_quiet_rules, is_quiet_query, ask_quietly, SameFacts, SameFactsBut, cleared, last_place, EndsWithVariable}
use Rattle.dg_quiet.proofs.AsksLemmas.{and_true}
use Rattle.dg_quiet.proofs.Still.{AreStill, EffectStill, GoalsStill, search_still}
use Rattle.dg_quiet.proofs.QuietGoals.{MayAsk, set_has_quiet_rules, asked_still, all_start}
use Rattle.dg_quiet.proofs.Senses.{facts_stay, StayBut, facts_stay_but, bare_cleared}
use Rattle.dg_quiet.proofs.Putting.{put_still}
use denote.Hole.Carrier.{out}

-- ## Nothing is changed

pub nothing_changes : (g : Game) (changing : ℕ → Bool) (set : List Bool) → IsQuietBy g.program.preds changing set → (goals : List Goal) → ask_quietly g.program set goals ≡ true → (own n : ℕ) (w : World) → SameFacts w (search g n (asking_path goals own) w).world
nothing_changes g changing set closed goals q own n w =
    let rules = set_has_quiet_rules g changing set closed in
    let still : GoalsStill SameFacts (MayAsk g set) g = λ x may env t steps r v h. asked_still g set rules SameFacts facts_stay (MayAsk g set) (λ y quiet. inl quiet) env t steps r h x v may in
    search_still SameFacts (MayAsk g set) facts_stay g still n (asking_path goals own) w (all_start g set (MayAsk g set) (λ x may. may) (new_vars own 0) 0 goals q)

-- the query of a question
asks : (program : CoreProgram) (set : List Bool) (q : Question) → has_quiet_rules program set q.pred ≡ true → is_quiet_query program set (out-Goal (asked q)) ≡ true
unfolding out-Goal out
asks program set q h = h

asks_quietly : (program : CoreProgram) (set : List Bool) (q : Question) → has_quiet_rules program set q.pred ≡ true → ask_quietly program set (asked q ∷ []) ≡ true
asks_quietly program set q h =
    let query = is_quiet_query program set (out-Goal (asked q)) in
    let first = are_quiet set (asked q ∷ []) in
    and_true (first || query) ∙ or_right first query (asks program set q h)

pub question_changes_nothing : (program : CoreProgram) (changing : ℕ → Bool) (set : List Bool) → IsQuietBy program.preds changing set → (q : Question) → has_quiet_rules program set q.pred ≡ true → (n : ℕ) → SameFacts (start_world (asking_game program) []) (run_on program q (asked q ∷ []) n).world
question_changes_nothing program changing set closed q h n =
    nothing_changes (asking_game program) changing set closed (asked q ∷ []) (asks_quietly program set q h) (new_in q) n (start_world (asking_game program) [])

-- ## One fact is

-- a goal that may be asked, or the change
abbrev MayPut : Game → List Bool → Question → Goal → Type 0
MayPut g set q x = MayAsk g set x ⊎ (x ≡ put g.program q)

goals_put : (g : Game) (changing : ℕ → Bool) (set : List Bool) → IsQuietBy g.program.preds changing set → (q : Question) (variable : EndsWithVariable g.program) → GoalsStill (StayBut (kinds_of g.program) (last_place g.program) q.object) (MayPut g set q) g
goals_put g changing set closed q variable x (inl may) env t steps r w h =
    let place = last_place g.program in
    let kinds = kinds_of g.program in
    asked_still g set (set_has_quiet_rules g changing set closed) (StayBut kinds place q.object) (facts_stay_but kinds place q.object) (MayPut g set q) (λ y quiet. inl (inl quiet)) env t steps r h x w may
goals_put g changing set closed q variable x (inr e) env t steps r w h =
    subst (λ y. EffectStill (StayBut (kinds_of g.program) (last_place g.program) q.object) (MayPut g set q) w (effect g (out-Goal y) env t steps r w)) (sym e) (put_still g q (MayPut g set q) variable env t steps r w h)

starts_put : (g : Game) (set : List Bool) (q : Question) → has_quiet_rules g.program set q.pred ≡ true → AreStill (MayPut g set q) (goals_at (new_vars (new_in q) 0) 0 (asked q ∷ put g.program q ∷ []))
starts_put g set q h = (inl (inr (asks g.program set q h)), (inr refl, tt))

pub one_fact_changes : (program : CoreProgram) (changing : ℕ → Bool) (set : List Bool) → IsQuietBy program.preds changing set → (q : Question) → has_quiet_rules program set q.pred ≡ true → EndsWithVariable program → (n : ℕ) →
    SameFactsBut (last_place program) q.object (start_world (asking_game program) []) (run_on program q (asked q ∷ put program q ∷ []) n).world
one_fact_changes program changing set closed q h variable n =
    let g = asking_game program in
    let kinds = kinds_of program in
    let place = last_place program in
    let w = start_world g [] in
    let path = asking_path (asked q ∷ put program q ∷ []) (new_in q) in
    let stays = search_still (StayBut kinds place q.object) (MayPut g set q) (facts_stay_but kinds place q.object) g (goals_put g changing set closed q variable) n path w (starts_put g set q h) in
    record { facts = stays.facts; others = stays.others (omega arith) }

pub fact_goes_back : (program : CoreProgram) (changing : ℕ → Bool) (set : List Bool) → IsQuietBy program.preds changing set → (q : Question) → has_quiet_rules program set q.pred ≡ true → EndsWithVariable program → (o : ℕ) → q.object ≡ Some o →
    value_at (start_facts program.places) (last_place program) o ≡ None → (n : ℕ) →
    altered (Clears (last_place program) o) (run_on program q (asked q ∷ put program q ∷ []) n).world.facts ≡ start_facts program.places
fact_goes_back program changing set closed q h variable o is bare n =
    let place = last_place program in
    let after = (run_on program q (asked q ∷ put program q ∷ []) n).world.facts in
    let same = (one_fact_changes program changing set closed q h variable n).facts in
    let there = subst (λ object. cleared place object after ≡ cleared place object (start_facts program.places)) is same in
    there ∙ bare_cleared place o (start_facts program.places) bare
