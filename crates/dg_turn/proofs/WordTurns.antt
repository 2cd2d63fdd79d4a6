-- Splitting a word is a turn, and so is joining words: what makes a value of letters is.
use Rattle.std.proofs.Common.{◌≡◌, ℕ, ◌+◌, ◌*◌, ◌-◌, ◌<◌, ◌≤◌, false, List, [], ◌∷◌, Option, Some, None, refl, sym, subst, arith}
use Rattle.dg_base.specs.declared.program.Term.{Term}
use Rattle.dg_meaning.specs.Copies.{copy_cells}
use Rattle.dg_meaning.specs.Substitutions.{Substitution, walk, links, resolved, contains}
use Rattle.dg_meaning.specs.Unify.{looks}
use Rattle.dg_meaning.specs.Values.{Value}
use Rattle.dg_meaning.specs.Words.{letters_in_word, joined_letters, each_alone, spelled_value, spelled_list}
use Rattle.dg_mid.specs.State.{Mid}
use Rattle.z_model.specs.Run.{ZState}
use Rattle.z_lang.specs.declared.act.Act.{Act}
use Rattle.z_lang.specs.State.{Program}
use Rattle.dg_rt.specs.declared.numbers.TheConstants.{SPLIT, JOIN}
use Rattle.dg_rt.specs.declared.splitting.TheConstants.{SPLIT_ACTS}
use Rattle.dg_rt.specs.declared.joining.TheConstants.{JOIN_ACTS}
use Rattle.dg_rt.specs.Joins.{JoinWorks}
use Rattle.dg_rt.specs.Making.{IsGiven, LaysOn, MadeWorks, MakesOfLetters}
use Rattle.dg_rt.specs.RunTime.{routine_of, HasRunTime}
use Rattle.dg_rt.specs.Splits.{SplitWorks}
use Rattle.dg_rt.proofs.Absent.{next_absent}
use Rattle.dg_rt.proofs.Made.{made_works}
use Rattle.dg_rt.proofs.SplitWords.{split_works}
use Rattle.dg_rt.proofs.Joined.{join_works}
use Rattle.dg_turn.specs.Told.{Telling}
use Rattle.dg_turn.specs.Plays.{Playing, Outside}
use Rattle.dg_turn.specs.Operating.{term_value, InFront}
use Rattle.dg_turn.specs.Typing.{HasTables}
use Rattle.dg_turn.specs.Wording.{word_routine, spelled_by, making, Wording, SplitTurns, JoinTurns}
use Rattle.dg_turn.proofs.WordTurn.{Written, MadeOf, is_given, word_turn}

split_at : (p : Program) → HasRunTime p → p.routine_at (p.names.routine SPLIT) ≡ Some (routine_of 2 SPLIT_ACTS)
split_at p has = has.each (SPLIT - 1) (routine_of 2 SPLIT_ACTS) refl

join_at : (p : Program) → HasRunTime p → p.routine_at (p.names.routine JOIN) ≡ Some (routine_of 2 JOIN_ACTS)
join_at p has = has.each (JOIN - 1) (routine_of 2 JOIN_ACTS) refl

-- ## A value of letters

module _ (made_works : MadeWorks) (t : Telling) (plays : Playing t) (tables : HasTables t) (out : Outside) (a b : Term) (behind : ℕ) (m : Mid) (z : ZState) (maker : ℕ) (acts : List Act) (frames room : ℕ) (Fits : Substitution → Value → Type 0) (letters_of : List (List ℕ) → Substitution → Value → Option (List ℕ)) (spells : List (List ℕ) → List ℕ → Value) (looking : Substitution → Value → ℕ) (law : MakesOfLetters acts (0 ∷ []) frames room Fits letters_of spells looking) (few_frames : frames ≤ 3400) (few_words : room ≤ 15000) (e : InFront t out (word_routine t.program maker a b behind) (a ∷ b ∷ []) m z) where
  abbrev words : List (List ℕ)
  words = t.program.words

  abbrev va : Value
  va = term_value t.program m a

  abbrev made : Option (List ℕ) → Option Value
  made letters = spelled_by (spells words) letters

  abbrev most : Option (List ℕ) → ℕ
  most letters = making words (spells words) (looking m.state.subst va) letters

  abbrev pub WrittenHere : Option (List ℕ) → Type 0
  WrittenHere letters = Written made_works t plays out maker 2 acts a b behind (made letters) (most letters) m z e

  abbrev MakesHere : (letters : Option (List ℕ)) → WrittenHere letters → Type 0
  MakesHere letters w1 = MadeOf made_works t plays out maker 2 acts a b behind (made letters) (most letters) m z e w1

  here : (letters : Option (List ℕ)) → (w1 : WrittenHere letters) → IsGiven t.p t.story words w1.memory' w1.cells' w1.sh' m.state.subst (w1.cells' 16) va
  here letters w1 = is_given made_works t plays out maker 2 acts a b behind (made letters) (most letters) m z e tables w1

  -- by the letters, if there are any
  makes_by : (letters : Option (List ℕ)) → letters_of words m.state.subst va ≡ letters → (w1 : WrittenHere letters) → Fits m.state.subst va → MakesHere letters w1
  makes_by None is w1 fits = record {
    nothing = λ q. law.none t.p t.story words 3400 15000 few_frames few_words w1.memory' out.typed out.output out.drawn w1.cells' w1.sh' m.state.subst (w1.cells' 16) va (here None w1) fits is;
    lays = λ v q. (cc);
    meets = λ v q. (cc);
  }
  makes_by (Some letters) is w1 fits =
      let v = spells words letters in
      record {
        nothing = λ q. (cc);
        lays = λ u q room_left.
            let same : v ≡ u = (cc) in
            subst (λ (i : Value). LaysOn t.p 3400 15000 acts w1.memory' (w1.cells' 16 ∷ 0 ∷ []) out.typed out.output out.drawn w1.cells' w1.sh' m.state.subst i (most (Some letters))) same
            (law.lays t.p t.story words 3400 15000 few_frames few_words w1.memory' out.typed out.output out.drawn w1.cells' w1.sh' m.state.subst (w1.cells' 16) va (here (Some letters) w1) fits letters is (subst (λ (i : Value). w1.sh'.top + copy_cells i ≤ 10000) (sym same) room_left));
        meets = λ u q over.
            let same : v ≡ u = (cc) in
            law.meets t.p t.story words 3400 15000 few_frames few_words w1.memory' out.typed out.output out.drawn w1.cells' w1.sh' m.state.subst (w1.cells' 16) va (here (Some letters) w1) fits letters is (subst (λ (i : Value). 10000 < w1.sh'.top + copy_cells i) (sym same) over);
      }

  letters_turn : t.p.routine_at (t.p.names.routine maker) ≡ Some (routine_of 2 acts) → ((w1 : WrittenHere (letters_of words m.state.subst va)) → Fits m.state.subst va) → Wording t out a b behind (made (letters_of words m.state.subst va)) (most (letters_of words m.state.subst va)) m z
  letters_turn stands fits =
      let letters = letters_of words m.state.subst va in
      word_turn made_works t plays out maker 2 acts a b behind (made letters) (most letters) m z e stands (omega arith) (λ w1. makes_by letters refl w1 (fits w1))

-- ## Both goals

split_by : MadeWorks → SplitWorks → SplitTurns
split_by made_works split_works t plays tables out a b behind m z e =
    letters_turn made_works t plays tables out a b behind m z SPLIT SPLIT_ACTS 5 22 (λ S v. Unit {0}) (λ words S v. letters_in_word words (walk S v)) (λ words letters. spelled_list words (each_alone letters)) (λ S v. 5 * links S v + 40) split_works (omega arith) (omega arith) e (split_at t.p plays.has) (λ w1. tt)

join_by : MadeWorks → JoinWorks → JoinTurns
join_by made_works join_works t plays tables out a b behind m z e =
    letters_turn made_works t plays tables out a b behind m z JOIN JOIN_ACTS 10 40 (λ S v. contains m.state.vars (resolved S v) ≡ false) (λ words S v. joined_letters words (resolved S v)) spelled_value (λ S v. 800 * looks S m.state.vars v + 900) (join_works m.state.vars) (omega arith) (omega arith) e (join_at t.p plays.has)
    (λ w1. (let s = w1.mid.state in subst (λ (i : ℕ). contains i (resolved m.state.subst (term_value t.program m a)) ≡ false) s.vars (next_absent w1.cells' m.state.subst s.stands s.known w1.words.0)))

pub split_turns : SplitTurns
split_turns = split_by made_works split_works

pub join_turns : JoinTurns
join_turns = join_by made_works join_works
