-- Rules that are looked at by what a first argument is, as turns. Hold it against dg_mid/specs/Code.antt, "Selection", and `begins` of
-- dg_mid/specs/Step.antt.
use Rattle.std.specs.Prelude.{◌≡◌, ◌≢◌, ℕ, ◌+◌, ◌*◌, ◌<◌, ◌≤◌, List, [], ◌∷◌, length, Option, Some, None, false, if◌then◌else◌}
use Rattle.dg_base.specs.declared.run.Ending.TheVariants.{HeapLimit}
use Rattle.dg_meaning.specs.Values.{Label, Value}
use Rattle.dg_mid.specs.declared.code.RuleCode.{RuleCode}
use Rattle.dg_mid.specs.Code.{label_of, excluded, selected}
use Rattle.dg_mid.specs.State.{Call, Calls, Mid}
use Rattle.dg_mid.specs.Step.{inside, first_of}
use Rattle.z_model.specs.Run.{ZState}
use Rattle.z_lang.specs.Leads.{Leads}
use Rattle.dg_rt.specs.declared.numbers.TheConstants.{FAIL, NONE}
use Rattle.dg_rt.specs.Areas.{key_reg, begin_reg}
use Rattle.dg_rt.specs.Closings.{closing_most}
use Rattle.dg_turn.specs.Told.{Telling, FirstIs, RulesAt}
use Rattle.dg_turn.specs.Plays.{Playing, Outside, Represented, CallAt, Comes, Closes}

-- ## Looking

-- The player is in front of the routine of a number, of a rule or of what was found: a call and the key of its first argument are in registers, and the
-- routine of the rule that was found first, or 0.
pub record LooksAt (t : Telling) (out : Outside) (number : ℕ) (call : Call) (key found : ℕ) (m : Mid) (z : ZState) : Type 0 where
  pub rep : Represented t out (t.p.names.routine number) m z
  pub call_is : CallAt t rep.sh rep.cells call
  pub key_is : rep.cells key_reg ≡ key
  pub found_is : rep.cells begin_reg ≡ found

-- In so many instructions at most it comes to where these rules are looked at.
pub record Selects (t : Telling) (out : Outside) (rules : List RuleCode) (call : Call) (key found : ℕ) (m : Mid) (most : ℕ)
    (z : ZState) : Type 0 where
  pub number : ℕ
  pub rules_are : RulesAt t (length call.args) number rules
  pub there : ZState
  pub count : ℕ
  pub few : count ≤ most
  pub leads : Leads t.p.world count z there
  pub looks : LooksAt t out number call key found m there

-- How many of some rules have a key: no others are ever excluded.
abbrev pub one_if_key : Option Label → ℕ
one_if_key None = 0
one_if_key (Some f) = 1

abbrev pub keyed : List RuleCode → ℕ
keyed [] = 0
keyed (r ∷ rs) = one_if_key (label_of r.key) + keyed rs

-- How many rules are excluded before the first that isn't.
abbrev pub passed_over : Option Value → List RuleCode → ℕ
passed_over first [] = 0
passed_over first (r ∷ rs) = if excluded first r.key then 1 + passed_over first rs else 0

-- Rules that are excluded are passed over in 4 instructions each: `selected` of dg_mid/specs/Code.antt.
abbrev pub SelectTurns : Type 0
SelectTurns = (t : Telling) → Playing t → (out : Outside) (rules : List RuleCode) (number : ℕ) (call : Call) (first : Option Value)
    (key found : ℕ) (m : Mid) (z : ZState) → RulesAt t (length call.args) number rules → FirstIs first key →
    (l : LooksAt t out number call key found m z) →
    Selects t out (selected first rules) call key found m (4 * passed_over first rules) z

-- ## Finding

-- In so many instructions at most the player comes to the first routine of a rule, with a call in registers.
pub record EntersAt (t : Telling) (out : Outside) (next : ℕ) (call : Call) (m : Mid) (most : ℕ) (z : ZState) : Type 0 where
  pub there : ZState
  pub count : ℕ
  pub some : 1 ≤ count
  pub few : count ≤ most
  pub leads : Leads t.p.world count z there
  pub rep : Represented t out next m there
  pub call_is : CallAt t rep.sh rep.cells call

-- Behind the last rule what was found comes next, or without a rule it fails.
pub record NoneTurns : Type 0 where
  pub begins : (t : Telling) → Playing t → (out : Outside) (call : Call) (key found : ℕ) (m : Mid) (z : ZState) → found ≢ 0 →
      LooksAt t out NONE call key found m z → EntersAt t out found call m 4 z
  pub fails : (t : Telling) → Playing t → (out : Outside) (call : Call) (key : ℕ) (m : Mid) (z : ZState) →
      LooksAt t out NONE call key 0 m z → Comes t out (t.p.names.routine FAIL) m 4 z

-- A rule that isn't excluded: the first that is found is kept, and the next rule is looked at. Where one was found before, a choice is opened that goes
-- on with this rule, and what was found comes next, or the heap's limit is met: `enters` of dg_mid/specs/Step.antt. The call cuts to where
-- it is then.
pub record FoundTurns : Type 0 where
  pub keeps : (t : Telling) → Playing t → (out : Outside) (r : RuleCode) (rs : List RuleCode) (number : ℕ) (call : Call) (first : Option Value)
      (key : ℕ) (m : Mid) (z : ZState) → RulesAt t (length call.args) number (r ∷ rs) → FirstIs first key → excluded first r.key ≡ false →
      (l : LooksAt t out number call key 0 m z) →
      Selects t out rs call key (t.at_block r.block) m 10 z
  pub opens : (t : Telling) → Playing t → (out : Outside) (r : RuleCode) (rs : List RuleCode) (number : ℕ) (call : Call) (key found : ℕ)
      (m : Mid) (z : ZState) → RulesAt t (length call.args) number (r ∷ rs) → FirstIs (first_of m.state.subst call) key →
      excluded (first_of m.state.subst call) r.key ≡ false → found ≢ 0 → call.cut.height ≡ m.state.heap →
      m.state.heap + (10 + length call.args) ≤ 10000 → LooksAt t out number call key found m z →
      EntersAt t out found call (inside (Calls call (r ∷ rs)) (length call.args) m) 50 z
  pub meets : (t : Telling) → Playing t → (out : Outside) (r : RuleCode) (rs : List RuleCode) (number : ℕ) (call : Call) (first : Option Value)
      (key found : ℕ) (m : Mid) (z : ZState) → RulesAt t (length call.args) number (r ∷ rs) → FirstIs first key →
      excluded first r.key ≡ false → found ≢ 0 → 10000 < m.state.heap + (10 + length call.args) →
      (l : LooksAt t out number call key found m z) → Closes t out HeapLimit (15 + closing_most) z

-- ## All together

-- A choice is opened where there is room for it, and the rule that was found is entered; else the heap's limit is met.
pub record OpensTo (t : Telling) (out : Outside) (next : ℕ) (call : Call) (rules : List RuleCode) (m : Mid) (most : ℕ)
    (z : ZState) : Type 0 where
  pub opens : m.state.heap + (10 + length call.args) ≤ 10000 →
      EntersAt t out next call (inside (Calls call rules) (length call.args) m) most z
  pub meets : 10000 < m.state.heap + (10 + length call.args) → Closes t out HeapLimit (most + closing_most) z

-- What comes of rules of which these aren't excluded, the first and those behind it: it fails, the only one is entered, or a choice of the others is
-- opened and the first is entered.
abbrev pub BegunTo : Telling → (out : Outside) → Call → List RuleCode → List RuleCode → Mid → (most : ℕ) → ZState →
    Type 0
BegunTo t out call [] others m most z = Comes t out (t.p.names.routine FAIL) m most z
BegunTo t out call (r ∷ rs) [] m most z = EntersAt t out (t.at_block r.block) call m most z
BegunTo t out call (r ∷ rs) (q ∷ qs) m most z = OpensTo t out (t.at_block r.block) call (q ∷ qs) m most z

-- The rules from the second on that isn't excluded.
abbrev pub behind_first : Option Value → List RuleCode → List RuleCode
behind_first first [] = []
behind_first first (r ∷ rs) = selected first rs

-- So it is where rules are looked at and none was found before, in 4 instructions a rule that has a key and 70: `begins` of dg_mid/specs/Step.antt.
abbrev pub BeginTurns : Type 0
BeginTurns = (t : Telling) → Playing t → ((b : ℕ) → t.at_block b ≢ 0) → (out : Outside) (rules : List RuleCode) (number : ℕ) (call : Call)
    (key : ℕ) (m : Mid) (z : ZState) → RulesAt t (length call.args) number rules → FirstIs (first_of m.state.subst call) key →
    call.cut.height ≡ m.state.heap → (l : LooksAt t out number call key 0 m z) →
    let first = first_of m.state.subst call in
    let found = selected first rules in
    BegunTo t out call found (behind_first first found) m (4 * keyed rules + 70) z
