-- What the registers say of the text is written anew.
use Rattle.std.proofs.Common.{◌≡◌, ◌≢◌, ℕ, ◌<◌, ◌≤◌, inl, inr, List, None, refl, sym, ◌∙◌, subst, arith}
use Rattle.std.specs.List.{list_any}
use Rattle.std.proofs.lemmas.Bool.{cases_eq}
use Rattle.dg_meaning.specs.Render.{is_upper, spaces_from, last_asked, Met}
use Rattle.dg_mid.specs.State.{Mid}
use Rattle.dg_rt.specs.Cells.{replaced, bit}
use Rattle.dg_rt.specs.Shapes.{Shape}
use Rattle.dg_rt.specs.Gaps.{last_word, break_word, asked_word, Meets}
use Rattle.dg_rt.proofs.Cells.{other_cell}
use Rattle.dg_turn.specs.Told.{Telling}
use Rattle.dg_turn.specs.Rest.{OuterAre, RestIn}
use Rattle.dg_turn.specs.Lies.{StopNamed, FramesIn, InnersIn, MidIn}
use Rattle.dg_turn.specs.Texts.{met_words}
use Rattle.dg_turn.proofs.Resting.{gatherings_stay}
use Rattle.dg_turn.proofs.Staying.{IsKept, low_kept, high_kept, rest_kept, mid_outside}

-- Words in which the registers say what is met do so, and nothing else has changed.
pub met_meets : (m : Met) (words : ℕ → ℕ) → Meets (met_words m words) m
met_meets m words = record { last = refl; lines = refl; spaces = refl; asked = refl; upper = refl }

pub met_others : (m : Met) (words : ℕ → ℕ) (k : ℕ) → k ≢ 28 → k ≢ 30 → k ≢ 31 → k ≢ 32 → k ≢ 33 → met_words m words k ≡ words k
met_others m words k n28 n30 n31 n32 n33 =
    let c1 = replaced words 28 (last_word m.last) in
    let c2 = replaced c1 30 (break_word m.gap) in
    let c3 = replaced c2 31 (spaces_from 0 m.gap) in
    let c4 = replaced c3 32 (asked_word (last_asked None m.gap)) in
    other_cell c4 33 (bit (list_any is_upper m.gap)) k n33 ∙ other_cell c3 32 (asked_word (last_asked None m.gap)) k n32 ∙ other_cell c2 31 (spaces_from 0 m.gap) k n31
    ∙ other_cell c1 30 (break_word m.gap) k n30 ∙ other_cell words 28 (last_word m.last) k n28

-- What is said outside is said here.
pub meets_here : (outer cells : ℕ → ℕ) (m : Met) → OuterAre outer cells → Meets outer m → Meets cells m
meets_here outer cells m o h = record {
  last = o.registers 28 (omega arith) (omega arith) (λ e. (omega arith)) ∙ h.last;
  lines = o.registers 30 (omega arith) (omega arith) (λ e. (omega arith)) ∙ h.lines;
  spaces = o.registers 31 (omega arith) (omega arith) (λ e. (omega arith)) ∙ h.spaces;
  asked = o.registers 32 (omega arith) (omega arith) (λ e. (omega arith)) ∙ h.asked;
  upper = o.registers 33 (omega arith) (omega arith) (λ e. (omega arith)) ∙ h.upper;
}

-- Words that differ in registers that may be written, and in those that say what is met, at most.
abbrev pub SameButText : (ℕ → ℕ) → (ℕ → ℕ) → Type 0
SameButText cells cells' = (k : ℕ) → k ≢ 0 → k ≢ 28 → k ≢ 30 → k ≢ 31 → k ≢ 32 → k ≢ 33 → IsKept k → cells' k ≡ cells k

module _ (outer cells cells' : ℕ → ℕ) (m : Met) (same : SameButText cells cells') (o : OuterAre outer cells) (h : Meets cells' m) where
  -- the registers that stay outside, one by one
  register_is : (k : ℕ) → 27 < k → k < 36 → k ≢ 29 → cells' k ≡ met_words m outer k
  register_is k low lt n29 = elim (cases_eq k 28) [
    | inl e ↦ subst (λ (i : ℕ). cells' i ≡ met_words m outer i) (sym e) h.last
    | inr n28 ↦ elim (cases_eq k 30) [
      | inl e ↦ subst (λ (i : ℕ). cells' i ≡ met_words m outer i) (sym e) h.lines
      | inr n30 ↦ elim (cases_eq k 31) [
        | inl e ↦ subst (λ (i : ℕ). cells' i ≡ met_words m outer i) (sym e) h.spaces
        | inr n31 ↦ elim (cases_eq k 32) [
          | inl e ↦ subst (λ (i : ℕ). cells' i ≡ met_words m outer i) (sym e) h.asked
          | inr n32 ↦ elim (cases_eq k 33) [
            | inl e ↦ subst (λ (i : ℕ). cells' i ≡ met_words m outer i) (sym e) h.upper
            | inr n33 ↦ same k (λ e. (omega arith)) n28 n30 n31 n32 n33 (rest_kept k low (λ q. (omega arith))) ∙ o.registers k low lt n29 ∙ sym (met_others m outer k n28 n30 n31 n32 n33)
          ]
        ]
      ]
    ]
  ]

  pub outer_met : OuterAre (met_words m outer) cells'
  outer_met = record {
    registers = register_is;
    areas = λ k le. same k (λ e. (omega arith)) (λ e. (omega arith)) (λ e. (omega arith)) (λ e. (omega arith)) (λ e. (omega arith)) (λ e. (omega arith)) (high_kept k (omega arith)) ∙ o.areas k le
        ∙ sym (met_others m outer k (λ e. (omega arith)) (λ e. (omega arith)) (λ e. (omega arith)) (λ e. (omega arith)) (λ e. (omega arith)));
  }

-- Memory stands for the same machine, with what is met now outside.
pub mid_met : (t : Telling) {outer : ℕ → ℕ} (sh : Shape) (cells cells' : ℕ → ℕ) (trail : List ℕ) (m : Mid) (met : Met) → SameButText cells cells' → Meets cells' met → MidIn t outer sh cells trail m → MidIn t (met_words met outer) sh cells' trail m
mid_met t {outer} sh cells cells' trail m met same h mid =
    let low : (k : ℕ) → k ≢ 0 → k ≤ 7 → cells' k ≡ cells k = λ k ne le. same k ne (λ e. (omega arith)) (λ e. (omega arith)) (λ e. (omega arith)) (λ e. (omega arith)) (λ e. (omega arith)) (low_kept k le) in
    let high : (k : ℕ) → 302 < k → cells' k ≡ cells k = λ k lt. same k (λ e. (omega arith)) (λ e. (omega arith)) (λ e. (omega arith)) (λ e. (omega arith)) (λ e. (omega arith)) (λ e. (omega arith)) (high_kept k lt) in
    let rest : RestIn t (met_words met outer) cells' m.gathered = record {
      gather = same 29 (λ e. (omega arith)) (λ e. (omega arith)) (λ e. (omega arith)) (λ e. (omega arith)) (λ e. (omega arith)) (λ e. (omega arith)) (rest_kept 29 (omega arith) (λ q. (omega arith))) ∙ mid.rest.gather;
      gatherings = gatherings_stay t cells cells' m.gathered (λ k le. high k (omega arith)) mid.rest.gatherings;
      outside = outer_met outer cells cells' met same mid.rest.outside h;
    } in
    mid_outside t sh cells cells' trail m m.frames m.inner m.stop
    (λ k n0 n4 n6 n7 far. same k n0 (λ e. (let y = far (omega arith) in omega arith)) (λ e. (let y = far (omega arith) in omega arith)) (λ e. (let y = far (omega arith) in omega arith)) (λ e. (let y = far (omega arith) in omega arith)) (λ e. (let y = far (omega arith) in omega arith)) ((λ q. (let y = far q in omega arith)), (λ q. far (omega arith))))
    (subst (λ (x : ℕ). FramesIn t sh m.stops x m.frames) (sym (low 4 (λ e. (omega arith)) (omega arith))) mid.frames)
    (subst (λ (x : ℕ). InnersIn sh m.stops x m.inner) (sym (low 6 (λ e. (omega arith)) (omega arith))) mid.inner)
    (subst (λ (x : ℕ). StopNamed x m.stop m.stops) (sym (low 7 (λ e. (omega arith)) (omega arith))) mid.stop)
    rest mid
