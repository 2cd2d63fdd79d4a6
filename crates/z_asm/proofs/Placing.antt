-- Instructions whose bytes stand in a story are placed there.
use Rattle.std.proofs.Common.{◌≡◌, ℕ, ◌+◌, ◌≤◌, ◌⊎◌, inl, inr, ⊎_elim, Bool, true, false, List, [], ◌∷◌, length, Option, Some, None, Ok, refl, sym, ap, ◌∙◌, subst, arith, length-append}
use Rattle.std.specs.Prelude.{◌==◌}
use Rattle.std.proofs.lemmas.Bool.{eqb-false, eq-eqb, ne_eqb}
use Rattle.z_model.specs.declared.op.Op.{Op}
use Rattle.z_model.specs.Decode.{text_at}
use Rattle.z_model.specs.Spelling.{spelling, BytesAt, FitsText}
use Rattle.z_model.proofs.Again.{front_stands, rest_stands}
use Rattle.z_code.specs.declared.target.LOp.{LOp}
use Rattle.z_code.specs.declared.target.LOp.TheVariants as lops
use Rattle.z_code.specs.declared.target.Target.{Target}
use Rattle.z_code.specs.declared.target.Target.TheVariants as targets
use Rattle.z_model.specs.declared.op.Branch.{Branch}
use Rattle.z_code.specs.Targets.{Names, ops_size, label_from, ops_bytes, nth, filled, IsNear, NearTarget, NearLabel, OpAt, OpsAt}
use Rattle.z_code.specs.Open.{Counts, HasLabel, OpenIf, OpenBranch, IsOpen, AreOpen}
use Rattle.z_asm.specs.inside.Filled.{AreWords, FillsIn, AreFilled}
use Rattle.z_asm.proofs.Filled.{still_op, still_long, branch_long, target_long}

-- ---- where labels are

record LabelWithin (l at : ℕ) (ops : List LOp) : Type 0 where
  least : at ≤ label_from at ops l
  most : label_from at ops l ≤ at + ops_size ops

label_within : (l at : ℕ) (ops : List LOp) → HasLabel l ops → LabelWithin l at ops
label_within l at [] h = absurd h
label_within l at (lops.Label k ∷ ops) h = by_test (k == l) refl (λ i. label_within l at ops i)
  where
    by_test : (t : Bool) → (k == l) ≡ t → (HasLabel l ops → LabelWithin l at ops) → LabelWithin l at (lops.Label k ∷ ops)
    by_test true q more = record { least = rw q (omega arith); most = rw q (omega arith) }
    by_test false q more = ⊎_elim (λ same. absurd (eqb-false k l q same)) (λ i. let w = more i in let a = w.least in let b = w.most in record { least = rw q (omega arith); most = rw q (omega arith) }) h
label_within l at (lops.Do op ts branch ∷ ops) h =
    let w = label_within l (at + length (spelling op)) ops h in
    let a = w.least in
    let b = w.most in
    record { least = omega arith; most = omega arith }

-- ---- texts

text_none : (bytes : List ℕ) (wanted : Bool) (n at : ℕ) → FitsText wanted n → n ≡ 0 → text_at bytes wanted at ≡ Ok (n, at)
unfolding text_at
text_none bytes true n at h e = let two = h.0 in absurd (omega arith)
text_none bytes false n at h e = rw e refl

module _ (names : Names) (words : AreWords names) (counts : Counts) (start : ℕ) (all : List LOp) (few : (l : ℕ) → HasLabel l all → ops_size all ≤ 8000) where
  abbrev labels : ℕ → ℕ
  labels = label_from start all

  -- what is known of the labels at a place
  record Known (pc : ℕ) (ops : List LOp) : Type 0 where
    sub : (l : ℕ) → HasLabel l ops → HasLabel l all
    here : (l : ℕ) → HasLabel l ops → labels l ≡ label_from pc ops l
    there : (l : ℕ) → HasLabel l all → HasLabel l ops ⊎ ((start ≤ labels l) × (labels l ≤ pc))
    from : start ≤ pc
    room : pc + ops_size ops ≡ start + ops_size all

  near_by : (pc : ℕ) (op : Op) (ts : List (Option Target)) (branch : Option ℕ) (ops : List LOp) → Known pc (lops.Do op ts branch ∷ ops) → 3 ≤ length (spelling op) → (l : ℕ) → HasLabel l all → IsNear (pc + length (spelling op)) (labels l)
  near_by pc op ts branch ops k long l has = ⊎_elim behind before (k.there l has)
    where
      behind : HasLabel l ops → IsNear (pc + length (spelling op)) (labels l)
      behind h =
          let e = k.here l h in
          let w = label_within l (pc + length (spelling op)) ops h in
          let a = w.least in
          let b = w.most in
          let c = k.from in
          let d = k.room in
          let small = few l has in
          record { apart = inr (omega arith); back = omega arith; ahead = omega arith }

      before : (start ≤ labels l) × (labels l ≤ pc) → IsNear (pc + length (spelling op)) (labels l)
      before h =
          let a = h.0 in
          let b = h.1 in
          let c = k.from in
          let d = k.room in
          let small = few l has in
          record { apart = inl (omega arith); back = omega arith; ahead = omega arith }

  near_target : (pc : ℕ) (op : Op) (ts : List (Option Target)) (branch : Option ℕ) (ops : List LOp) → Known pc (lops.Do op ts branch ∷ ops) → IsOpen counts all op ts branch → (t : Option Target) → OpenIf counts all t op.operands.first → NearTarget labels (pc + length (spelling op)) t
  near_target pc op ts branch ops k o None h = tt
  near_target pc op ts branch ops k o (Some (targets.Label l)) h = near_by pc op ts branch ops k (target_long counts all op ts branch h.0 o) l h.1
  near_target pc op ts branch ops k o (Some (targets.Routine r)) h = tt
  near_target pc op ts branch ops k o (Some (targets.Table t)) h = tt
  near_target pc op ts branch ops k o (Some (targets.Text t)) h = tt

  label_of : (l : ℕ) (b : Option Branch) → OpenBranch all (Some l) b → HasLabel l all
  label_of l None o = absurd o
  label_of l (Some b) o = o.1

  near_label : (pc : ℕ) (op : Op) (ts : List (Option Target)) (branch : Option ℕ) (ops : List LOp) → Known pc (lops.Do op ts branch ∷ ops) → IsOpen counts all op ts branch → NearLabel labels (pc + length (spelling op)) branch
  near_label pc op ts None ops k o = tt
  near_label pc op ts (Some l) ops k o = near_by pc op ts (Some l) ops k (branch_long counts all op ts l o) l (label_of l op.branch o.branch_open)

  -- one instruction
  fills_in : (pc : ℕ) (op : Op) (ts : List (Option Target)) (branch : Option ℕ) (ops : List LOp) → Known pc (lops.Do op ts branch ∷ ops) → IsOpen counts all op ts branch → FillsIn names labels pc op ts branch
  fills_in pc op ts branch ops k o =
      let end = pc + length (spelling op) in
      let near = near_label pc op ts branch ops k o in
      record {
        table = record { row = o.table.row; is = still_op names labels end op ts branch counts all o.table.row words o near o.table.is; text = o.table.text };
        text = o.text;
        target = near_target pc op ts branch ops k o (nth ts 0) o.first;
        near = near;
        long = still_long names labels end counts all op ts branch o;
      }

  further : (pc : ℕ) (op : Op) (ts : List (Option Target)) (branch : Option ℕ) (ops : List LOp) → Known pc (lops.Do op ts branch ∷ ops) → Known (pc + length (spelling op)) ops
  further pc op ts branch ops k = record {
    sub = k.sub;
    here = k.here;
    there = λ l h. ⊎_elim inl (λ q. inr (let a = q.0 in let b = q.1 in (omega arith, omega arith))) (k.there l h);
    from = let c = k.from in omega arith;
    room = let d = k.room in omega arith;
  }

  known_first : Known start all
  known_first = record { sub = λ l h. h; here = λ l h. refl; there = λ l h. inl h; from = omega arith; room = refl }

  filled_by : (pc : ℕ) (ops : List LOp) → AreOpen counts all ops → Known pc ops → AreFilled names labels pc ops
  filled_by pc [] open_ k = tt
  filled_by pc (lops.Label l ∷ ops) open_ k = (here_is, filled_by pc ops open_.1 known)
    where
      same : (l == l) ≡ true
      same = eq-eqb l l refl

      here_is : labels l ≡ pc
      here_is = k.here l (inl refl) ∙ rw same refl

      known : Known pc ops
      known = record {
        sub = λ i h. k.sub i (inr h);
        here = λ i h. k.here i (inr h) ∙ rw (ne_eqb l i (λ (e : l ≡ i). open_.0 (subst (λ (j : ℕ). HasLabel j ops) (sym e) h))) refl;
        there = λ i h. ⊎_elim (λ here. ⊎_elim (λ e. inr (let p : labels i ≡ pc = ap labels (sym e) ∙ here_is in let q = k.from in (omega arith, omega arith))) inl here) inr (k.there i h);
        from = k.from;
        room = let d = k.room in omega arith;
      }
  filled_by pc (lops.Do op ts branch ∷ ops) open_ k = (fills_in pc op ts branch ops k open_.0, filled_by (pc + length (spelling op)) ops open_.1 (further pc op ts branch ops k))

  pub filled_all : AreOpen counts all all → AreFilled names labels start all
  filled_all open_ = filled_by start all open_ known_first

-- ---- instructions whose bytes stand in a story

fits_by : (story : List ℕ) (names : Names) (labels : ℕ → ℕ) (pc : ℕ) (op : Op) (ts : List (Option Target)) (branch : Option ℕ) → FillsIn names labels pc op ts branch → BytesAt story pc (spelling (filled names labels (pc + length (spelling op)) op ts branch)) → OpAt story names labels pc op ts branch
fits_by story names labels pc op ts branch f stands =
    let end = pc + length (spelling op) in
    record {
      is = record {
        row = f.table.row;
        is = f.table.is;
        stands = stands;
        text = subst (λ (n : ℕ). text_at story f.table.row.text (pc + n) ≡ Ok (op.text, end)) (sym f.long) (text_none story f.table.row.text op.text end f.table.text f.text);
      };
      target = f.target;
      label = f.near;
    }

pub placed_by : (story : List ℕ) (names : Names) (labels : ℕ → ℕ) (pc : ℕ) (ops : List LOp) → AreFilled names labels pc ops → BytesAt story pc (ops_bytes names labels pc ops) → OpsAt story names labels pc ops
placed_by story names labels pc [] f stands = tt
placed_by story names labels pc (lops.Label l ∷ ops) f stands = (f.0, placed_by story names labels pc ops f.1 stands)
placed_by story names labels pc (lops.Do op ts branch ∷ ops) f stands =
    let end = pc + length (spelling op) in
    let bytes = spelling (filled names labels end op ts branch) in
    let rest = rest_stands story pc bytes (ops_bytes names labels end ops) stands in
    let rest2 = subst (λ (n : ℕ). BytesAt story (pc + n) (ops_bytes names labels end ops)) f.0.long rest in
    (fits_by story names labels pc op ts branch f.0 (front_stands story pc bytes (ops_bytes names labels end ops) stands), placed_by story names labels end ops f.1 rest2)

pub filled_long : (names : Names) (labels : ℕ → ℕ) (at : ℕ) (ops : List LOp) → AreFilled names labels at ops → length (ops_bytes names labels at ops) ≡ ops_size ops
filled_long names labels at [] f = refl
filled_long names labels at (lops.Label l ∷ ops) f = let r = filled_long names labels at ops f.1 in omega arith
filled_long names labels at (lops.Do op ts branch ∷ ops) f =
    let end = at + length (spelling op) in
    let r = filled_long names labels end ops f.1 in
    let long = f.0.long in
    omega (arith, length-append (spelling (filled names labels end op ts branch)) (ops_bytes names labels end ops))
