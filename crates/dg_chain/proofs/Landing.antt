-- What leads on with memory that stands for a status in one of the two ways.
use Rattle.std.proofs.Common.{◌≡◌, ℕ, ◌+◌, ◌≤◌, ◌<◌, List, [], ◌∷◌, inl, inr, ⊎_elim, refl, sym, ap, ◌∙◌, subst, arith}
use Rattle.std.proofs.lemmas.Bool.{cases_lt}
use Rattle.dg_base.specs.declared.run.Ending.TheVariants as ending
use Rattle.dg_meaning.specs.Unify.{Unified}
use Rattle.dg_meaning.specs.World.{Print}
use Rattle.dg_mid.specs.declared.code.Code.{Code}
use Rattle.dg_mid.specs.declared.code.Op.{Op}
use Rattle.dg_mid.specs.declared.code.Op.TheVariants as op
use Rattle.dg_mid.specs.State.{Place, Lasting, Mid, Status, Runs, Enters, Resumes, Fails, Ended}
use Rattle.dg_mid.specs.Step.{Setting, charged, unified, if_agreed, bound, trail_more, does, cut_to, commits, followed, said}
use Rattle.z_model.specs.Run.{ZState}
use Rattle.dg_turn.specs.Told.{Telling}
use Rattle.dg_turn.specs.Plays.{Playing, Outside}
use Rattle.dg_turn.specs.Paid.{paid}
use Rattle.dg_turn.specs.Seeking.{Landed, ComesLanded}
use Rattle.dg_turn.specs.Turns.{commit_routine}
use Rattle.dg_turn.proofs.LandedTurn.{landed_turns}
use Rattle.dg_turn.proofs.Paid.{turns_are_paid}
use Rattle.dg_turn.proofs.Staying.{mid_alike}
use Rattle.dg_chain.specs.Always.{Always}
use Rattle.dg_chain.specs.Routines.{GoesOn, OpsAt}
use Rattle.dg_chain.specs.Stands.{Printed, Stands, LandsAt, Meant}
use Rattle.dg_chain.specs.Steps.{Comes, Over, Next}
use Rattle.dg_chain.specs.Whole.{OpLeads, OpMeans, story_setting}
use Rattle.dg_chain.proofs.Choosing.{newest_agrees}
use Rattle.dg_chain.proofs.Leading.{Lead, Alike, led_runs, silently, charged_on, charged_off, unified_on, unified_off}
use Rattle.dg_chain.proofs.Printed.{as_lasts}

module _ (t : Telling) (code : Code) (dice : List ℕ) where
  abbrev set : Setting
  set = story_setting t code dice

  -- What a step comes to in one of the two ways.
  abbrev pub Leads : ℕ → List Print → Status → ℕ → ZState → Type 0
  Leads least ps now most z = Next t.p.world (Meant t code) least ps now most z

  comes_meant : (least : ℕ) (ps : List Print) (now : Status) (most : ℕ) (z : ZState) → Comes t.p.world (Stands t code) least ps now most z → Comes t.p.world (Meant t code) least ps now most z
  comes_meant least ps now most z k = record { there = k.there; stands = inl k.stands; count = k.count; some = k.some; few = k.few; leads = k.leads }

  pub leads_meant : (least : ℕ) (ps : List Print) (now : Status) (most : ℕ) (z : ZState) → Lead t code dice least ps now most z → Leads least ps now most z
  leads_meant least ps (Ended e) most z k = k
  leads_meant least ps (Runs m) most z k = comes_meant least ps (Runs m) most z k
  leads_meant least ps (Enters call m) most z k = comes_meant least ps (Enters call m) most z k
  leads_meant least ps (Resumes way m) most z k = comes_meant least ps (Resumes way m) most z k
  leads_meant least ps (Fails m) most z k = comes_meant least ps (Fails m) most z k

  module _ (least : ℕ) (ps : List Print) where
    pub charged_means : (n : ℕ) (m : Mid) (next : Status) (most : ℕ) (z : ZState) → m.state.heap ≤ 10000 → (m.state.heap + n ≤ 10000 → Leads least ps next most z) → (10000 < m.state.heap + n → Over t.p.world least ps ending.HeapLimit (most + 20) z) → Leads least ps (charged set n m next) most z
    charged_means n m next most z fits room over =
        ⊎_elim (λ lt. subst (λ (s : Status). Leads least ps s most z) (sym (charged_off t code dice n m next fits lt)) (over lt))
        (λ le. subst (λ (s : Status). Leads least ps s most z) (sym (charged_on t code dice n m next le)) (room le)) (cases_lt 10000 (m.state.heap + n))

    pub unified_means : (u : Unified) (m : Mid) (next : Status) (most : ℕ) (z : ZState) → (trail_more m.state u ≤ 2000 → Leads least ps (if_agreed u.agrees (bound u m) next) most z) → (2000 < trail_more m.state u → Over t.p.world least ps ending.TrailLimit (most + 20) z) → Leads least ps (unified set u m next) most z
    unified_means u m next most z room over =
        ⊎_elim (λ lt. subst (λ (s : Status). Leads least ps s most z) (sym (unified_off t code dice u m next lt)) (over lt))
        (λ le. subst (λ (s : Status). Leads least ps s most z) (sym (unified_on t code dice u m next le)) (room le)) (cases_lt 2000 (trail_more m.state u))

  -- ## Landing

  landed_alike : (out : Outside) (x : ℕ) {l : Lasting} (m m' : Mid) (z : ZState) → Alike l m m' → Landed t out x m z → Landed t out x m' z
  landed_alike out x {l} m m' z e h = record {
    memory = h.memory;
    is = h.is;
    kept = h.kept;
    cells = h.cells;
    holds = h.holds;
    next_is = h.next_is;
    place = h.place;
    places = h.places;
    inner_are = ap (λ (k : Mid). k.inner) e ∙ h.inner_are;
    height = h.height ∙ sym (ap (λ (k : Mid). k.state.heap) e);
    inner = rw (ap (λ (k : Mid). k.state.heap) e) h.inner;
    sh = h.sh;
    trail = h.trail;
    mid = rw e (mid_alike t h.sh _ h.trail (record m { inner = h.places }) m'.ops m'.next_tag l h.mid);
  }

  pub led_lands : (least : ℕ) → least ≤ 1 → (ps : List Print) {l : Lasting} (w : Printed t ps l) (next : ℕ) (m m' : Mid) (rest : List Op) (most all : ℕ) (z : ZState) → Alike l m m' → m'.ops ≡ op.Commit ∷ rest → OpsAt t code next m'.ops → most ≤ all → ComesLanded t w.out next m most z → Comes t.p.world (Meant t code) least ps (Runs m') all z
  led_lands least low ps w next m m' rest most all z h leaves ops le c =
      let few = c.few in
      let some = c.some in
      record {
        there = c.there;
        stands = inr (record { printed = as_lasts w m'.lasting (ap (λ (k : Mid). k.lasting) h); x = next; landed = landed_alike w.out next m m' c.there h c.landed; rest = rest; leaves = leaves; ops_are = ops });
        count = c.count;
        some = omega arith;
        few = omega arith;
        leads = c.leads;
      }

  -- ## It is left

  module _ (plays : Playing t) where
    commit_by : (ps : List Print) (m : Mid) (rest : List Op) (z : ZState) → m.ops ≡ op.Commit ∷ rest → Always code (Runs m) → (l : LandsAt t code ps m z) → (inner : List Place) → m.inner ≡ inner → Lead t code dice 1 ps (commits inner (record m { ops = rest })) (paid set ps (Runs m)) z
    commit_by ps m rest z e always l [] i = absurd (let is = sym i ∙ l.landed.inner_are in cc)
    commit_by ps m rest z e always l (p ∷ places) i =
        let o : GoesOn (λ y. OpsAt t code y rest) t l.x commit_routine = subst (OpsAt t code l.x) e l.ops_are in
        let m' = record m { ops = rest } in
        led_runs t code dice 1 (omega arith) ps l.printed (t.p.names.routine o.behind) (cut_to p (record m { inner = places })) (cut_to p (record m' { inner = places })) _ (paid set ps (Runs m)) z refl o.next
        (turns_are_paid.commit set ps m p places rest e i) (landed_turns t plays l.printed.out l.x m z p places o.behind o.is i (newest_agrees t plays code dice m p places always i) l.landed)

    commit_means : (ps : List Print) (m : Mid) (rest : List Op) (z : ZState) → m.ops ≡ op.Commit ∷ rest → Always code (Runs m) → LandsAt t code ps m z → Lead t code dice 1 (followed ps (said set (Runs m))) (does set op.Commit (record m { ops = rest })) (paid set ps (Runs m)) z
    commit_means ps m rest z e always l = silently t code dice ps m rest z op.Commit e _ (paid set ps (Runs m)) refl (commit_by ps m rest z e always l m.inner refl)

    -- an instruction leads on in both ways, if it does in the one
    pub op_means : (x : Op) → OpLeads t code dice x → OpMeans t code dice x
    op_means x leads ps m rest z e always (inl s) = leads_meant 1 (followed ps (said set (Runs m))) (does set x (record m { ops = rest })) (paid set ps (Runs m)) z (leads ps m rest z e always s)
    op_means x leads ps m rest z e always (inr l) =
        let ops_are : x ∷ rest ≡ op.Commit ∷ l.rest = sym e ∙ l.leaves in
        let is : x ≡ op.Commit = cc (ops_are) in
        let behind : rest ≡ l.rest = cc (ops_are) in
        let e' : m.ops ≡ op.Commit ∷ rest = e ∙ ap (λ (y : Op). y ∷ rest) is in
        leads_meant 1 (followed ps (said set (Runs m))) (does set x (record m { ops = rest })) (paid set ps (Runs m)) z (subst (λ (y : Op). Lead t code dice 1 (followed ps (said set (Runs m))) (does set y (record m { ops = rest })) (paid set ps (Runs m)) z) (sym is) (commit_means ps m rest z e' always l))
